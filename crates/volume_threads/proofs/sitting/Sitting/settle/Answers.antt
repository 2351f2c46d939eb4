-- Each receipt's count is the place of its entry.
use Rattle.std.proofs.Common.{◌+◌, ◌++◌, length, sym, ap, ◌∙◌, subst}
use Rattle.std.specs.Prelude.{slice_index_or}
use Rattle.audited_volume.specs.Entries.{entries_by}
use Rattle.locked_volume.specs.Fixed.{count_at}
use Rattle.volume_threads.specs.Rigs.{AllAgree}
use Rattle.volume_threads.specs.Sittings.{AreCounted}
use Rattle.volume_threads.proofs.Counting.{agreeing, one_view}
use Rattle.volume_threads.proofs.sitting.Sitting.settle.Goals as goal

pub returns-clause-agree : goal.returns-clause-agree
returns-clause-agree g c =
    let inside = c.self.inside in
    let held = c.self.invariant in
    let post = c.args.post.now in
    let n = inside.seat in
    let start = g.J.Room.start post.volume in
    let receipts = inside.receipts.items in
    let same = one_view inside.pass.views held.view c.into_seat.result.me.0 held.has (ap (λ b. b.views) (sym c.replace-badge.ensures.value) ∙ c.into_seat.ensures.2) in
    let old = ap (λ v. v.old) (sym same) ∙ held.old in
    let mine = ap (λ v. v.mine) (sym same) ∙ held.mine in
    let vol = ap (λ s. s.volume) c.self.view_is ∙ sym c.requires.volume in
    let counts = subst (λ v. AreCounted n (count_at (g.J.Room.fixed v) (g.J.Room.start v) n) receipts) vol held.counts in
    subst (λ s. AllAgree post.audit s.receipts) c.self.view_is
    (agreeing post.audit.folded start post.audit.entries n receipts
    (c.settle-pass.ensures.own ∙ (λ i. entries_by n start ++ (entries_by n (old i) ++ mine i)))
    (subst (λ folds. AreCounted n (slice_index_or folds n 0 + length (entries_by n start)) receipts) (sym c.settle-pass.ensures.folded) counts))
