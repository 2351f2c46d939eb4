use Rattle.std.proofs.Common.{rules, ℕ, List, eqb, refl}
use Rattle.std.specs.Str.{bytes_eq}
use Rattle.std.proofs.lemmas.Iterator.Search.{any_from_yields_List}
use Rattle.std.proofs.lemmas.Iterator.Splits.{YieldsList-from_slice_split}
use borrow.Author.Tests.{tests}
use Rattle.explain_syntax.proofs.slot.is_among.Goals as goal

pub returns : goal.returns
returns c = any_from_yields_List (λ (one : List ℕ). bytes_eq one c.args.word.now) _ _ _ c.any.ensures.ran
    (YieldsList-from_slice_split _ (λ (b : ℕ). eqb b 124) c.args.choices.now (cc) (cc) refl (λ x b q k. search rules))
    (λ x b q k. search (rules, tests))
