use Rattle.std.proofs.Common.{◌≡◌, ◌⊎◌, ◌+◌, ◌<◌, ◌≤◌, ℕ, List, length, get_or, rules, ap, ◌∙◌, sym, subst}
use Rattle.sector.specs.Bytes.{sector_at}
use Rattle.sector.proofs.Sectors.{written_back}
use Rattle.device.specs.declared.span.Span.{Span}
use Rattle.device.specs.Listed.{listed}
use Rattle.device.specs.Marks.{flushed_at}
use Rattle.device.proofs.Marked.{kept_few}
use Rattle.device.proofs.Aside.{again_flushed}
use Rattle.device.proofs.undo.Undo.take_again.Goals as goal

pub replace_all-requires-clause-small : goal.replace_all-requires-clause-small
replace_all-requires-clause-small c =
    subst (λ (z : List Span). length (listed z) ≤ 16_777_216) (sym c.deref.ensures.value) (kept_few c.args.self.now.marks.items (listed c.args.self.now.kept.items) c.args.self.now.are_kept c.args.self.now.small)

pub returns-clause-flushed : goal.returns-clause-flushed
returns-clause-flushed c t =
    let kept = listed c.args.self.now.kept.items in
    ap (λ a. flushed_at c.args.now.now kept a c.mark_all.new.marks.items t) (written_back _ c.replace_all.new.aside c.args.self.now.aside.items (search rules))
    ∙ again_flushed c.args.now.now kept c.args.self.now.aside.items c.replace_all.new.aside c.args.first c.args.count c.args.self.now.marks.items c.mark_all.new.marks.items c.args.self.now.are_kept c.requires.loaded c.mark_all.ensures.set c.mark_all.ensures.others
    (subst (λ (z : List Span). (j : ℕ) → j < length (listed z) → c.args.first ≤ get_or (listed z) j 0 → get_or (listed z) j 0 < c.args.first + c.args.count → sector_at c.replace_all.new.aside j ≡ sector_at c.args.now.now (get_or (listed z) j 0)) c.deref.ensures.value c.replace_all.ensures.replaced)
    (subst (λ (z : List Span). (j : ℕ) → j < length (listed z) → (get_or (listed z) j 0 < c.args.first) ⊎ (c.args.first + c.args.count ≤ get_or (listed z) j 0) → sector_at c.replace_all.new.aside j ≡ sector_at c.args.self.now.aside.items j) c.deref.ensures.value
    (λ j lt far. c.replace_all.ensures.others j lt far ∙ ap (λ b. sector_at b j) c.deref_mut.ensures.value))
    t
