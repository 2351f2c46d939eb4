-- Too few words.
use Rattle.std.proofs.Common.{◌≡◌, ℕ, ◌<◌, List, [], ◌∷◌, length, arith, refl, Err}
use denote.Ref.{Bor}
use Rattle.sector.specs.declared.refusal.Refusal.TheVariants.{BadTable}
use Rattle.words.specs.Texts.{texts}
use Rattle.table.specs.Grammar.{store_in, line_in}

-- fewer than four words say no store
pub short_store : (words : List (Bor (List ℕ))) → length words < 4 → store_in (texts words) ≡ Err BadTable
short_store [] few = refl
short_store (a ∷ []) few = refl
short_store (a ∷ b ∷ []) few = refl
short_store (a ∷ b ∷ c ∷ []) few = refl
short_store (a ∷ b ∷ c ∷ d ∷ words) few = absurd (omega arith)

-- fewer than three words say no line
pub short_line : (words : List (Bor (List ℕ))) → length words < 3 → line_in (texts words) ≡ Err BadTable
short_line [] few = refl
short_line (a ∷ []) few = refl
short_line (a ∷ b ∷ []) few = refl
short_line (a ∷ b ∷ c ∷ words) few = absurd (omega arith)
