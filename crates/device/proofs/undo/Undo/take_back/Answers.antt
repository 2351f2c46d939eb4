use Rattle.std.proofs.Common.{◌<◌, ◌≤◌, List, length, ap, ◌∙◌, sym, subst}
use Rattle.sector.specs.Bytes.{sector_at}
use Rattle.device.specs.declared.span.Span.{Span}
use Rattle.device.specs.Listed.{listed, place_in}
use Rattle.device.specs.Marks.{mark_at}
use Rattle.device.proofs.Marked.{kept_few}
use Rattle.device.proofs.Aside.{taken_back}
use Rattle.device.proofs.undo.Undo.take_back.Goals as goal

pub restore_all-requires-clause-small : goal.restore_all-requires-clause-small
restore_all-requires-clause-small c =
    subst (λ (z : List Span). length (listed z) ≤ 16_777_216) (sym c.deref-5.ensures.value) (kept_few c.args.self.now.marks.items (listed c.args.self.now.kept.items) c.args.self.now.are_kept c.args.self.now.small)

pub returns-clause-back : goal.returns-clause-back
returns-clause-back c =
    let kept = listed c.args.self.now.kept.items in
    taken_back c.args.now.now c.zero_all.new.now c.restore_all.new.now kept c.args.self.now.aside.items (listed c.args.self.now.zeroed.items) c.args.self.now.marks.items c.args.self.now.are_zeroed c.args.self.now.are_kept
    (λ t is at. c.zero_all.ensures.zero t (ap (λ ms. mark_at ms t) c.deref.ensures.value ∙ is) (subst (λ (z : List Span). place_in (listed z) t < length (listed z)) (sym c.deref-2.ensures.value) at))
    (λ t ne. c.zero_all.ensures.others t (λ is. ne (sym (ap (λ ms. mark_at ms t) c.deref.ensures.value) ∙ is)))
    (λ t is at. c.restore_all.ensures.back t (ap (λ ms. mark_at ms t) c.deref-3.ensures.value ∙ is) (subst (λ (z : List Span). place_in (listed z) t < length (listed z)) (sym c.deref-5.ensures.value) at) ∙ ap (λ z. sector_at c.deref-4.result.now (place_in (listed z) t)) c.deref-5.ensures.value ∙ ap (λ a. sector_at a (place_in kept t)) c.deref-4.ensures.value)
    (λ t ne. c.restore_all.ensures.others t (λ is. ne (sym (ap (λ ms. mark_at ms t) c.deref-3.ensures.value) ∙ is)))
