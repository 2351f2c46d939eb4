-- What stands behind a text's front.
use Rattle.std.proofs.Common.{◌≡◌, ℕ, List, drop, Option, Some, None, true, false, ap, ◌∙◌, sym, subst, Bor}
use Rattle.std.specs.Prelude.{MatchOption}
use Rattle.std.specs.Str.{IsCharBoundary}
use Rattle.std.specs.Str.Pattern.{FindsTextPrefix, StripsPrefix}
use Rattle.std.proofs.lemmas.Bool.{cond-true, cond-false}
use Rattle.std.proofs.lemmas.Str.Pattern.{starts_text}
use Rattle.option_parser.specs.Splits.{behind}
use Rattle.option_parser.specs.Reading.{text_in}

pub strips : (n s : List ℕ) (r : Option (Bor (List ℕ))) → MatchOption r (FindsTextPrefix n s None) (λ x. StripsPrefix (FindsTextPrefix n) s x.now) → text_in r ≡ behind n s
strips n s None lacks = sym (cond-false _ _ _ (sym (starts_text false n s lacks)))
strips n s (Some x) (k, found, is, long) =
    let boundary : IsCharBoundary s k = subst (λ (m : ℕ). IsCharBoundary s m) (sym found.0) found.2 in
    sym (cond-true _ _ _ (sym (starts_text true n s (k, found, boundary))) ∙ ap (λ (m : ℕ). Some (drop m s)) (sym found.0) ∙ ap (λ (t : List ℕ). Some t) (sym is))
