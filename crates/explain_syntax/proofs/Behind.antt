-- The words of a line from a place on.
use Rattle.std.proofs.Common.{◌≡◌, ◌∙◌, ℕ, ◌+◌, ◌≤◌, List, [], length, drop, min, sym, ap, arith}
use Rattle.std.specs.Borrow.{Bor}
use Rattle.std.proofs.lemmas.List.{drop-map}
use Rattle.std.proofs.Math.ListN.{drop_of_length-le}
use Rattle.words.specs.Texts.{texts}

pub texts_behind : (words : List (Bor (List ℕ))) (place : ℕ) → texts (drop place words) ≡ drop place (texts words)
texts_behind words place = sym (drop-map (λ (word : Bor (List ℕ)). word.now) place words)

pub none_behind : (words : List (Bor (List ℕ))) (place : ℕ) → length words ≤ place → drop place (texts words) ≡ []
none_behind words place long =
    sym (texts_behind words place) ∙ ap texts (drop_of_length-le words long)

-- a sum that stops at a limit, once nothing is left to add
pub all_size : (bytes rest all limit : ℕ) → min (bytes + rest) limit ≡ min all limit → rest ≡ 0 → bytes ≤ limit → bytes ≡ min all limit
all_size bytes rest all limit stops none small = omega arith
