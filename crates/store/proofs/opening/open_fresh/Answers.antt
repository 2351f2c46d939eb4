use Rattle.store.proofs.opening.open_fresh.Goals as goal

pub invariant_of-result-clause-area_chunk : goal.invariant_of-result-clause-area_chunk
invariant_of-result-clause-area_chunk g c = c.in-Ok.ensures.first
