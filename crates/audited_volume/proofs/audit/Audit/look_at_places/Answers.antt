use Rattle.std.proofs.Common.{arith}
use Rattle.std.proofs.lemmas.List.{length-map}
use Rattle.audited_volume.specs.Seats.{seated}
use Rattle.audited_volume.proofs.audit.Audit.look_at_places.Goals as goal

pub returns-clause-earned : goal.returns-clause-earned
returns-clause-earned g c = rw (← c.self.view_is) (omega (arith, length-map c.self.inside.held.items seated, c.self.invariant.earned))
