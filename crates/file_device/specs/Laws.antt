-- Laws of a file's layers: what is kept is found so.
use Rattle.std.specs.Prelude.{◌≡◌, Bool, true, false, List, [], ◌∷◌, ◌++◌, refl}
use Rattle.std.proofs.Common.{◌∙◌, sym}
use Rattle.std.specs.Prelude.{◌&&◌, ◌||◌, not, map, if◌then◌else◌, ℕ}
use Rattle.std.specs.List.{list_any}
use Rattle.std.proofs.Common.{ap}
use Rattle.device.specs.declared.operation.Operation.TheVariants.{Reads}
use Rattle.device.specs.declared.operation.Fate.TheVariants.{Pass, Fail}
use Rattle.device.specs.Layers.{is_loud, fate, then_fate, is_answered, is_within}
use Rattle.file_device.specs.declared.piece.Piece.{Piece}
use Rattle.file_device.specs.Pieces.{range_of, has_all, pieces_in}
use Rattle.file_calls.specs.Calls.{Call, Len, Read, Write, SetLen, Sync}
use Rattle.file_calls.specs.Kept.{all_answered, are_answered, is_kept}
use Rattle.file_calls.specs.Laws.{changes_answered, kept_before}
use Rattle.file_device.specs.declared.pieces.Pieces.{Pieces}
use Rattle.file_device.specs.Layers.{is_found_kept, file_layers}

-- the layers are loud just where it was found that what is written is kept
pub loud_of : (broken : Bool) (pieces : Pieces) (kept : Bool) → is_loud (file_layers broken pieces kept) ≡ kept
loud_of true pieces true = refl
loud_of true pieces false = refl
loud_of false pieces true = refl
loud_of false pieces false = refl

-- what is kept is found so
pub found : (start : List ℕ) (calls : List Call) → is_kept start calls ≡ true → is_found_kept start calls ≡ true
found start [] is = refl
found start (Len answer ∷ calls) is = found start calls (kept_before start (Len answer) calls is)
found start (Read at count bytes ∷ calls) is = is
found start (Write at bytes done ∷ calls) is = found start calls is
found start (SetLen n done ∷ calls) is = found start calls is
found start (Sync done true ∷ calls) is = found start calls (kept_before start (Sync done true) calls is)
found start (Sync done false ∷ calls) is = is

-- so where all answers are those of a file that keeps what is written, its layers are loud, and were at each moment before
pub found_always : (start : List ℕ) (more calls : List Call) → is_kept start (more ++ calls) ≡ true → is_found_kept start calls ≡ true
found_always start [] calls is = found start calls is
found_always start (call ∷ more) calls is = found_always start more calls (kept_before start call (more ++ calls) is)

-- they were loud before a call, where all is kept
pub loud_before : (start : List ℕ) (call : Call) (calls : List Call) (broken : Bool) (pieces : Pieces) → is_kept start (call ∷ calls) ≡ true → is_loud (file_layers broken pieces (is_found_kept start calls)) ≡ true
loud_before start call calls broken pieces is = loud_of broken pieces (is_found_kept start calls) ∙ found start calls (kept_before start call calls is)

-- a read passes just where one piece has all its sectors, unless the file is given up
pub answers : (broken : Bool) (pieces : Pieces) (kept : Bool) (first count : ℕ) → is_answered (fate (file_layers broken pieces kept) (Reads first count)) ≡ (not broken && list_any (has_all first count) (pieces_in pieces))
answers true pieces kept first count = refl
answers false pieces kept first count = by_test (list_any (is_within first count) (map range_of (pieces_in pieces))) ∙ ranges (pieces_in pieces)
  where
    by_test : (b : Bool) → is_answered (then_fate (if b then Pass else Fail) Pass) ≡ b
    by_test true = refl
    by_test false = refl

    ranges : (xs : List Piece) → list_any (is_within first count) (map range_of xs) ≡ list_any (has_all first count) xs
    ranges [] = refl
    ranges (x ∷ xs) = ap (λ b. has_all first count x || b) (ranges xs)

not_false : (b : Bool) → not b ≡ false → b ≡ true
not_false true is = refl
not_false false is = absurd (let no : ⊥ = cc in no)

-- while every call is answered the file is not given up, and no write and no sync failed
pub unbroken : (calls : List Call) (broken failed : Bool) → (broken ≡ true → failed ≡ true) → failed ≡ not (are_answered calls) → not (all_answered calls) ≡ false → (broken ≡ false) × (failed ≡ false)
unbroken calls broken failed so is all = (let none : failed ≡ false = is ∙ ap not (changes_answered calls (not_false (all_answered calls) all)) in (by broken so none, none))
  where
    by : (b : Bool) → (b ≡ true → failed ≡ true) → failed ≡ false → b ≡ false
    by true so none = absurd (let no : true ≡ false = sym (so refl) ∙ none in cc)
    by false so none = refl
