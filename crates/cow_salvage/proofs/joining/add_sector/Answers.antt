use Rattle.std.proofs.Common.{◌≡◌, ℕ, ◌+◌, ◌<◌, ◌≤◌, Bool, true, false, List, [], ◌∷◌, ◌++◌, OnOk, arith, refl, sym, subst, ◌∙◌}
use Rattle.std.specs.List.{All}
use Rattle.cow_salvage.specs.declared.span.Span.{Span}
use Rattle.cow_salvage.specs.Spans.{AreMarked}
use Rattle.cow_salvage.proofs.Adding.{more_joined, more_apart, all_before}
use Rattle.cow_salvage.proofs.joining.add_sector.Goals as goal

abbrev Marked : (ℕ → Bool) → ℕ → Type 0
Marked mark s = mark s ≡ true

abbrev Unmarked : (ℕ → Bool) → ℕ → Type 0
Unmarked mark s = mark s ≡ false

pub returns-in_ok-push-in-Some : goal.returns-in_ok-push-in-Some
returns-in_ok-push-in-Some c = record {
  added = λ mark h here.
      subst (AreMarked mark (c.args.sector + 1)) (sym c.in_ok-push-in-Some.ensures.items)
      (more_joined (Marked mark) (Unmarked mark) c.args.sector c.pop.new.self.items c.in-Some.last _ (subst (AreMarked mark c.args.sector) c.in-Some.ensures.items h) c.if-last-sector.true here refl refl);
}

pub returns-in_ok-push_sector-in-Some : goal.returns-in_ok-push_sector-in-Some
returns-in_ok-push_sector-in-Some c = record {
  added = λ mark h here.
      let (span, first, count, items) = c.in_ok-push_sector-in-Some.ensures.added in
      let whole : c.push-else-last-sector.new.self.items ≡ c.args.spans.now.items = c.in_ok-push-in-Some-2.ensures.items ∙ sym c.in-Some.ensures.items in
      subst (AreMarked mark (c.args.sector + 1)) (sym items)
      (more_apart (Marked mark) (Unmarked mark) c.args.sector c.push-else-last-sector.new.self.items span (subst (AreMarked mark c.args.sector) (sym whole) h) (subst (All (λ (x : Span). x.first + x.count < c.args.sector)) (sym c.in_ok-push-in-Some-2.ensures.items) (all_before (Marked mark) (Unmarked mark) c.args.sector c.pop.new.self.items c.in-Some.last (subst (AreMarked mark c.args.sector) c.in-Some.ensures.items h) c.if-last-sector.false)) here first count);
}
