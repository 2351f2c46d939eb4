mod Among
mod CallsAhead
mod CallsMore
