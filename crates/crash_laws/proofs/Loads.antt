-- What is loaded from torn bytes.
use Rattle.std.proofs.Common.{◌≡◌, ◌≢◌, ◌⊎◌, inl, inr, ℕ, ◌+◌, ◌*◌, ◌/◌, ◌%◌, ◌<◌, ◌≤◌, List, ◌++◌, length, take, get_or, arith, ap, ◌∙◌, sym, length-append, Ok, Err, false}
use Rattle.std.proofs.lemmas.List.{get_or-take, length-take-le}
use Rattle.std.proofs.lemmas.List.Elements.{All-take}
use Rattle.std.proofs.lemmas.Nat.{le-div}
use Rattle.std.proofs.Math.Nat.{div-mul-le_self, mul-le-mul_left, mul-le-mul_right}
use Rattle.sector.specs.Bytes.{sector_at}
use Rattle.sector.proofs.Sectors.{byte_read}
use Rattle.sector.specs.declared.pair.Pair.{Pair}
use Rattle.sector.specs.declared.refusal.Refusal.TheVariants.{Invalid}
use Rattle.cow_format.specs.Places.{area_place, is_area_place, ChangesOnly}
use Rattle.cow_format.specs.Pairs.{pairs_of, AreWellFormed, IsInside}
use Rattle.cow_format.proofs.Slots.{pairs-outside}
use Rattle.cow_header.specs.HeaderText.{found_in}
use Rattle.cow_header.specs.declared.found.Found.TheVariants.{Header}
use Rattle.crash_laws.specs.Stop.{IsTorn}
use Rattle.crash_laws.specs.Again.{LoadsAgain, IsRefusedAgain}
use Rattle.crash_laws.proofs.Torn.{torn_only}
use Rattle.std.proofs.Math.Seq.{take-append-add}
use Rattle.std.proofs.lemmas.Bool.{ne_eqb}
use Rattle.cow_format.specs.Places.{slot}
use Rattle.crash_laws.proofs.Between.{IsBetween}
use Rattle.crash_laws.proofs.Areas.{torn_pairs}
use Rattle.crash_laws.proofs.Sectors.{sectors_same}

-- a write to another chunk leaves the first sector
pub header_kept : (chunk n : ℕ) (old new : List ℕ) → 0 < chunk → n ≢ 0 → ChangesOnly chunk n old new → sector_at new 0 ≡ sector_at old 0
header_kept chunk n old new pos ne only = sectors_same new old 0 only.len (λ r lt inside.
    let at : 512 * 0 + r ≡ 512 * (chunk * 0) + r = omega arith in
    let short : r < 512 * chunk = omega arith in
    ap (λ x. get_or new x 0) at ∙ sym (byte_read new (chunk * 0) chunk r short) ∙ ap (λ x. get_or x r 0) (only.rest 0 (λ e. ne (sym e))) ∙ byte_read old (chunk * 0) chunk r short ∙ sym (ap (λ x. get_or old x 0) at))

-- the first of well-formed pairs are well formed
area_mono : (chunk x y : ℕ) → x ≤ y → chunk * (area_place chunk x + 1) ≤ chunk * (area_place chunk y + 1)
area_mono chunk x y le = mul-le-mul_left chunk (let h : x * (32 * chunk + 1) ≤ y * (32 * chunk + 1) = mul-le-mul_right (32 * chunk + 1) le in omega arith)

area_le : (chunk m n : ℕ) → 0 < chunk → m ≤ n → chunk * (area_place chunk (m / (32 * chunk)) + 1) ≤ chunk * (area_place chunk (n / (32 * chunk)) + 1)
area_le chunk m n pos le = area_mono chunk _ _ (le-div (m / (32 * chunk)) n (32 * chunk) (omega arith) (let h = div-mul-le_self m (32 * chunk) in omega arith))

pub formed_first : (chunk origin size m : ℕ) (pairs : List Pair) → 0 < chunk → AreWellFormed chunk origin size pairs → m ≤ length pairs → AreWellFormed chunk origin size (take m pairs)
formed_first chunk origin size m pairs pos is le = let len : length (take m pairs) ≡ m = length-take-le m pairs le in record {
  inside = All-take (IsInside chunk origin size) m pairs is.inside;
  apart = λ j k d lt lt'. rw (get_or-take m pairs j d (omega arith), get_or-take m pairs k d (omega arith)) (is.apart j k d lt (omega arith));
  room = (let h = area_le chunk (length (take m pairs)) (length pairs) pos (omega arith) in let r = is.room in omega arith);
}

-- A torn commit is loaded again, with some of the new pairs, the first of them.
pub torn_commit_loads : (size sectors chunk n : ℕ) (old new torn : List ℕ) (ps qs : List Pair) → 0 < chunk → n ≢ 0 → IsTorn size old new torn → length old ≡ 512 * size → length new ≡ 512 * size → ChangesOnly chunk n old new → IsBetween (slot chunk old) (length ps) (ps ++ qs) → IsBetween (slot chunk new) (length ps) (ps ++ qs) →
    found_in (sector_at old 0) ≡ Ok (Header chunk) → AreWellFormed chunk sectors size (ps ++ qs) → LoadsAgain chunk sectors size torn
torn_commit_loads size sectors chunk n old new torn ps qs pos ne is lo ln only x y head formed =
    let (m, le, listed) = torn_pairs size chunk old new torn ps qs pos is lo ln x y in
    record {
      header = ap found_in (header_kept chunk n old torn pos ne (torn_only size chunk n old new torn is lo only)) ∙ head;
      formed = rw (listed, sym (take-append-add ps qs m)) (formed_first chunk sectors size (length ps + m) (ps ++ qs) pos formed (omega (arith, length-append ps qs)));
    }

-- A torn write of the header's chunk with the mark of invalidity is loaded again with the same pairs, or is refused.
pub torn_mark : (size sectors chunk : ℕ) (old new torn : List ℕ) → 0 < chunk → 0 < size → IsTorn size old new torn → length old ≡ 512 * size → ChangesOnly chunk 0 old new → LoadsAgain chunk sectors size old → found_in (sector_at new 0) ≡ Err Invalid → (LoadsAgain chunk sectors size torn × (pairs_of chunk torn ≡ pairs_of chunk old)) ⊎ IsRefusedAgain torn
torn_mark size sectors chunk old new torn pos some is lo only loads marked =
    let free : is_area_place chunk 0 ≡ false = head_free chunk pos in
    let same : pairs_of chunk torn ≡ pairs_of chunk old = pairs-outside chunk 0 old torn pos free (torn_only size chunk 0 old new torn is lo only) in
    elim (is.each 0 some) [
      | inl e ↦ inl (record { header = ap found_in e ∙ loads.header; formed = rw same loads.formed }, same)
      | inr e ↦ inr (ap found_in e ∙ marked)
    ] where
      head_free : (chunk : ℕ) → 0 < chunk → is_area_place chunk 0 ≡ false
      head_free chunk pos = ne_eqb _ _ (λ e. (let h : 0 % (32 * chunk + 1) ≡ 0 = omega arith in omega arith))
