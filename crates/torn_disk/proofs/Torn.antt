-- A write that is torn, one sector after the other.
use Rattle.std.proofs.Common.{◌≡◌, ◌⊎◌, inl, inr, ℕ, ◌+◌, ◌*◌, ◌<◌, ◌≤◌, List, Bool, true, false, length, length-take, length-drop, min, ◌-◌, arith, ap, ◌∙◌, sym, refl}
use Rattle.std.proofs.lemmas.Bool.{cases_lt}
use Rattle.sector.specs.Bytes.{sector_at, with_sectors}
use Rattle.sector.proofs.Sectors.{length-with_sectors, sectors_at-with_same, sectors_at_apart}
use Rattle.torn_disk.specs.Torn.{IsTornBy, is_new}

-- none yet
pub torn_none : (new : List Bool) (first : ℕ) (bytes before : List ℕ) → IsTornBy new first 0 bytes before before
torn_none new first bytes before = record {
  whole = refl;
  written = λ i lt is. absurd (omega (arith, lt));
  kept = λ i lt is. refl;
  rest = λ s out. refl;
}

-- the next one stays old
pub torn_old : (new : List Bool) (first count : ℕ) (bytes before after : List ℕ) → is_new new count ≡ false → IsTornBy new first count bytes before after → IsTornBy new first (count + 1) bytes before after
torn_old new first count bytes before after is h = record {
  whole = h.whole;
  written = λ i lt new_one. elim (cases_lt i count) [
    | inl below ↦ h.written i below new_one
    | inr from ↦ (let same : i ≡ count = omega arith in let e : true ≡ false = sym new_one ∙ ap (is_new new) same ∙ is in absurd (cc))
  ];
  kept = λ i lt old_one. elim (cases_lt i count) [
    | inl below ↦ h.kept i below old_one
    | inr from ↦ h.rest (first + i) (inr (omega arith))
  ];
  rest = λ s out. h.rest s (elim out [ inl below ↦ inl below | inr above ↦ inr (omega arith) ]);
}

-- the next one is written
pub torn_new : (new : List Bool) (first count : ℕ) (bytes before after : List ℕ) → is_new new count ≡ true → 512 * (first + count) + length (sector_at bytes count) ≤ length after → length (sector_at bytes count) ≡ 512 → IsTornBy new first count bytes before after → IsTornBy new first (count + 1) bytes before (with_sectors after (first + count) (sector_at bytes count))
torn_new new first count bytes before after is fits whole h = record {
  whole = length-with_sectors after (first + count) (sector_at bytes count) fits ∙ h.whole;
  written = λ i lt new_one. elim (cases_lt i count) [
    | inl below ↦ apart (first + i) (inl (omega arith)) ∙ h.written i below new_one
    | inr from ↦ (let same : i ≡ count = omega arith in rw same (sectors_at-with_same after (first + count) 1 (sector_at bytes count) fits whole))
  ];
  kept = λ i lt old_one. elim (cases_lt i count) [
    | inl below ↦ apart (first + i) (inl (omega arith)) ∙ h.kept i below old_one
    | inr from ↦ (let same : i ≡ count = omega arith in let e : true ≡ false = sym is ∙ ap (is_new new) (sym same) ∙ old_one in absurd (cc))
  ];
  rest = λ s out. apart s (elim out [ inl below ↦ inl (omega arith) | inr above ↦ inr (omega arith) ]) ∙ h.rest s (elim out [ inl below ↦ inl below | inr above ↦ inr (omega arith) ]);
} where
  apart : (s : ℕ) → (s + 1 ≤ first + count) ⊎ (first + count + 1 ≤ s) → sector_at (with_sectors after (first + count) (sector_at bytes count)) s ≡ sector_at after s
  apart s out = sectors_at_apart after (first + count) 1 (sector_at bytes count) s 1 fits whole out

-- a sector of whole sectors
pub one_sector : (bytes : List ℕ) (count i : ℕ) → length bytes ≡ 512 * count → i < count → length (sector_at bytes i) ≡ 512
one_sector bytes count i whole lt = omega (arith, length_sector) where
  length_sector : length (sector_at bytes i) ≡ min 512 (length bytes - 512 * i)
  length_sector = simp (length-take, length-drop)
