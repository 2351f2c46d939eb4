use Rattle.std.proofs.Common.{◌∙◌}
use Rattle.audited_volume.proofs.Receipts.{flights_in}
use Rattle.audited_volume.proofs.audit.Audit.look_at_requests.Goals as goal

pub returns : goal.returns
returns g c = rw (← c.self.view_is) (flights_in c.self.inside.held.items ∙ c.self.invariant.audit.counted.held)
