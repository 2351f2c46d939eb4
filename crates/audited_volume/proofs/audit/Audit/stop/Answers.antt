use Rattle.audited_volume.proofs.audit.Audit.stop.Goals as goal

pub returns-clause-stops : goal.returns-clause-stops
returns-clause-stops g c = rw c.into_volume.ensures at c.stop.ensures.stops
