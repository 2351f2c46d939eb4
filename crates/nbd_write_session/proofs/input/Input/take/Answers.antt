use Rattle.std.proofs.Common.{◌≡◌, ℕ, ◌+◌, ◌-◌, ◌≤◌, List, length, slice_range, arith, ap, ◌∙◌, sym, subst}
use Rattle.nbd_write_session.specs.Stream.{Stream, dropped}
use Rattle.nbd_write_session.proofs.Heard.{length_range, range_dropped, stream}
use Rattle.nbd_write_session.proofs.input.Input.take.Goals as goal

pub returns : goal.returns
returns c =
    let room : List ℕ = c.self.inside.room.items in
    let from : ℕ = c.self.inside.from in
    let to : ℕ = c.self.inside.to in
    let len : length (slice_range room from to) ≡ to - from = length_range room from to c.self.invariant.0 c.self.invariant.1 in
    let P : Stream → Type 0 = λ s. c.args.count ≤ length s.heard in
    let few : c.args.count ≤ length (slice_range room from to) = subst P (sym c.self.view_is) c.requires in
    let order : from ≤ to = c.self.invariant.0 in
    let inside : from + c.args.count ≤ to = omega (arith, len, few, order) in
    ap (λ (l : List ℕ). stream l c.self.inside.unwanted) (range_dropped room from to c.args.count inside)
    ∙ ap (dropped c.args.count) c.self.view_is
