-- One copy in every snapshot passes no limit.
use Rattle.std.proofs.Common.{◌≡◌, length, vec_len, sym, ap, ◌∙◌, arith}
use Rattle.in_flight.specs.Kinds.{kind_of}
use Rattle.volume.specs.Submitting.{are_too_many}
use Rattle.volume.specs.Volumed.{Volumed}
use Rattle.volume.proofs.Limits.{passes_none}
use Rattle.volume.proofs.volume.Volume.is_past_limits.Goals as goal

pub returns-then-not-is_too_many : goal.returns-then-not-is_too_many
returns-then-not-is_too_many g c =
    let long : vec_len c.self.inside.snaps ≡ length c.self.inside.snaps.items = omega arith in
    let all = c.len.ensures ∙ long ∙ ap (λ (x : Volumed g.row.B.Denot). length x.snaps) c.self.view_is in
    sym (passes_none (kind_of c.args.request.now) c.args.request.now.range.first c.args.self.now (ap (λ n. are_too_many n c.args.self.now) (sym all) ∙ sym c.is_too_many.ensures ∙ c.if-not-is_too_many.true))
