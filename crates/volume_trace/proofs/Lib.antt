mod Lost
mod Added
mod Named
