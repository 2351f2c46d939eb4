use Rattle.std.proofs.Common.{rules, ℕ, List, length, nat_lt, eqb, refl}
use Rattle.std.specs.Str.{bytes_eq}
use Rattle.std.proofs.lemmas.Iterator.Consumers.{YieldsList-from_filter}
use Rattle.std.proofs.lemmas.Iterator.Search.{position_from_yields_List}
use Rattle.std.proofs.lemmas.Iterator.Splits.{YieldsList-from_slice_split}
use borrow.Author.Tests.{tests}
use Rattle.explain_syntax.specs.Late.{place_of}
use Rattle.explain_syntax.proofs.late.place_in.Goals as goal

pub returns : goal.returns
unfolding place_of
returns c = position_from_yields_List (λ (one : List ℕ). bytes_eq one c.args.name.now) _ _ _ c.position.ensures.ran
    (YieldsList-from_filter _ (λ (word : List ℕ). nat_lt 0 (length word))
    (YieldsList-from_slice_split _ (λ (b : ℕ). eqb b 32) c.args.form.now (cc) (cc) refl (λ x b q k. search rules))
    c.filter.ensures.closure (λ x b q k. search rules))
    (λ x b q k. search (rules, tests))
