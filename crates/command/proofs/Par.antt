-- Lines that do not begin with the word `par`.
use Rattle.std.proofs.Common.{◌≡◌, ◌≢◌, ℕ, ◌<◌, List, [], ◌∷◌, length, get_or, eqb, false, refl, ap, ◌∙◌, rules, arith}
use Rattle.std.specs.Prelude.{codes}
use Rattle.std.specs.Str.{bytes_eq}
use Rattle.words.proofs.Cut.{word_begins}
use Rattle.command.specs.Opening.{has_par}

-- one without a byte
pub no_par : (line : List ℕ) → length line ≡ 0 → has_par line ≡ false
no_par [] h = refl
no_par (b ∷ line) h = absurd (omega arith)

another : (b c : ℕ) → b ≢ c → eqb b c ≡ false
another b c h = search rules

-- one whose first byte is neither a space nor a p
pub other_par : (line : List ℕ) → 0 < length line → get_or line 0 0 ≢ 32 → get_or line 0 0 ≢ 112 → has_par line ≡ false
other_par [] some space p = absurd (omega arith)
other_par (b ∷ line) some space p = ap (λ word. bytes_eq word (codes "par")) (word_begins b line (another b 32 space)) ∙ rw (another b 112 p) refl
