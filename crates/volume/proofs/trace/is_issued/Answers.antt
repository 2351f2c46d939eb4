-- The request that was found.
use Rattle.std.proofs.Common.{refl, sym, ◌∙◌}
use Rattle.volume.proofs.Issued.{issued_at, issued_none}
use Rattle.volume.proofs.trace.is_issued.Goals as goal

pub returns-in-Some : goal.returns-in-Some
returns-in-Some c = c.is_routed.ensures ∙ sym (issued_at c.args.number c.args.flights.now c.in-Some.place c.index-flights-place.result _ (sym c.in-Some.ensures) refl)

pub returns-in-None : goal.returns-in-None
returns-in-None c = sym (issued_none c.args.number c.args.flights.now (sym c.in-None.ensures))
