use Rattle.std.proofs.Common.{◌≡◌, List, ℕ, subst}
use Rattle.std.specs.Prelude.{IfOk}
use Rattle.volume_trace.specs.Trace.{copied_text, dues_text, flights_text, line_of}
use Rattle.volume_trace.proofs.Added.{added}
use Rattle.volume_trace.proofs.line.trace_line.Goals as goal

pub returns : goal.returns
returns c =
    let origin = c.args.origin.now in
    let names = c.args.names.now in
    let snaps = c.args.snaps.now in
    let are =
    added (flights_text origin names snaps c.args.flights.now) (copied_text names snaps snaps) c.args.merge.now (dues_text names snaps c.args.due.now)
    c.new-items.result.items c.add_flights.new.out.items c.add_snaps.new.out.items c.extend_from_slice.new.self.items c.add_dues.new.out.items
    c.new-items.ensures.items c.in_ok-add_flights.ensures c.in_ok-add_snaps.ensures c.in_ok-extend_from_slice.ensures.items c.in_ok-add_dues.ensures in
    subst (λ (items : List ℕ). IfOk c.line_of.result (λ text. text ≡ line_of origin items)) are c.line_of.ensures
