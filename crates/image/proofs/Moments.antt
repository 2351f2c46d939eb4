-- How time goes on for files in memory.
use Rattle.std.proofs.Common.{◌≡◌, ◌⊎◌, inl, inr, ℕ, zero, suc, ◌+◌, ◌-◌, ◌*◌, ◌/◌, ◌%◌, ◌<◌, ◌≤◌, ◌≢◌, ◌++◌, ◌∙◌, List, [], ◌∷◌, length, drop, sym, ap, subst, arith, refl}
use Rattle.std.proofs.lemmas.Bool.{cases_lt}
use Rattle.sector.specs.Bytes.{sector_at, with_sectors}
use Rattle.sector.proofs.Sectors.{kept_or_written}
use Rattle.image.specs.declared.mem_files.FilePair.{FilePair}
use Rattle.image.specs.Stops.{Elapses}
use Rattle.image.specs.MemFiles.{bytes_in, synced_in, AreAlike, AreLeftIn, HadLeft, MayIn}

-- what two that hold the same may leave
pub left_alike : (one other : FilePair) (left : ℕ → List ℕ) → AreAlike one other → AreLeftIn one left → AreLeftIn other left
left_alike one other left (bytes, synced) are = record {
  whole = λ file. are.whole file ∙ ap length (bytes file);
  each = λ file s lt. may file s _ (are.each file s (subst (λ n. 512 * s < n) (sym (ap length (bytes file))) lt));
}
  where
    may : (file s : ℕ) (v : List ℕ) → MayIn one file s v → MayIn other file s v
    may file s v (inl now) = inl (now ∙ ap (λ b. sector_at b s) (bytes file))
    may file s v (inr old) = inr (old ∙ ap (λ b. sector_at b s) (synced file))

-- one moment more
had_more : (past : List FilePair) (two : FilePair) (t : ℕ) (left : ℕ → List ℕ) → t ≤ length past → HadLeft (drop t (past ++ two ∷ [])) left → HadLeft (drop t past) left ⊎ AreLeftIn two left
had_more [] two zero left le (inl now) = inr now
had_more [] two zero left le (inr none) = absurd none
had_more [] two (suc t) left le had = absurd (omega arith)
had_more (p ∷ past) two zero left le (inl now) = inl (inl now)
had_more (p ∷ past) two zero left le (inr had) = elim (had_more past two zero left (omega arith) had) [
  | inl before ↦ inl (inr before)
  | inr now ↦ inr now
]
had_more (p ∷ past) two (suc t) left le had = had_more past two t left (omega arith) had

had_still : (past : List FilePair) (two : FilePair) (t : ℕ) (left : ℕ → List ℕ) → t ≤ length past → HadLeft (drop t past) left → HadLeft (drop t (past ++ two ∷ [])) left
had_still [] two zero left le had = absurd had
had_still [] two (suc t) left le had = absurd had
had_still (p ∷ past) two zero left le (inl now) = inl now
had_still (p ∷ past) two zero left le (inr had) = inr (had_still past two zero left (omega arith) had)
had_still (p ∷ past) two (suc t) left le had = had_still past two t left (omega arith) had

had_last : (past : List FilePair) (two : FilePair) (t : ℕ) (left : ℕ → List ℕ) → t ≤ length past → AreLeftIn two left → HadLeft (drop t (past ++ two ∷ [])) left
had_last [] two zero left le are = inl are
had_last [] two (suc t) left le are = absurd (omega arith)
had_last (p ∷ past) two zero left le are = inr (had_last past two zero left (omega arith) are)
had_last (p ∷ past) two (suc t) left le are = had_last past two t left (omega arith) are

-- what a stop since a moment might have left
abbrev pub Since : List FilePair → FilePair → ℕ → (ℕ → List ℕ) → Type 0
Since past two t left = AreLeftIn two left ⊎ HadLeft (drop t past) left

-- the files are others, and what there was is kept
pub elapses_to : (past past' : List FilePair) (kept two two' : FilePair) → past' ≡ past ++ kept ∷ [] → AreAlike kept two → Elapses (length past) (length past') (Since past two) (Since past' two') (bytes_in two') (MayIn two')
elapses_to past past' kept two two' is alike = record {
  later = omega (arith, ap length is, long past);
  nothing_else = λ t left le. since t left le;
  keeps = λ t left le. still t left le;
}
  where
    long : (xs : List FilePair) → length (xs ++ kept ∷ []) ≡ suc (length xs)
    long [] = refl
    long (x ∷ xs) = ap suc (long xs)

    since : (t : ℕ) (left : ℕ → List ℕ) → t ≤ length past → Since past' two' t left → Since past two t left ⊎ AreLeftIn two' left
    since t left le (inl now) = inr now
    since t left le (inr had) = elim (had_more past kept t left le (subst (λ (xs : List FilePair). HadLeft (drop t xs) left) is had)) [
      | inl before ↦ inl (inr before)
      | inr now ↦ inl (inl (left_alike kept two left alike now))
    ]

    still : (t : ℕ) (left : ℕ → List ℕ) → t ≤ length past → Since past two t left → Since past' two' t left
    still t left le (inl now) = inr (subst (λ (xs : List FilePair). HadLeft (drop t xs) left) (sym is) (had_last past kept t left le (left_alike two kept left (λ k. sym (alike.0 k), λ k. sym (alike.1 k)) now)))
    still t left le (inr had) = inr (subst (λ (xs : List FilePair). HadLeft (drop t xs) left) (sym is) (had_still past kept t left le had))

-- nothing happens
pub elapses_same : (past past' : List FilePair) (two : FilePair) → past' ≡ past → Elapses (length past) (length past') (Since past two) (Since past' two) (bytes_in two) (MayIn two)
elapses_same past past' two is = record {
  later = omega (arith, ap length is);
  nothing_else = λ t left le had. inl (subst (λ (xs : List FilePair). Since xs two t left) is had);
  keeps = λ t left le had. subst (λ (xs : List FilePair). Since xs two t left) (sym is) had;
}

-- what a stop may leave after a write
pub stop_written : (old new : FilePair) (file sector : ℕ) (part : List ℕ) → bytes_in new file ≡ with_sectors (bytes_in old file) sector part → ((f : ℕ) → f ≢ file → bytes_in new f ≡ bytes_in old f) → ((f : ℕ) → synced_in new f ≡ synced_in old f) → 512 * sector + length part ≤ length (bytes_in old file) → length part % 512 ≡ 0 → (f s : ℕ) (v : List ℕ) → MayIn new f s v → MayIn old f s v ⊎ ((f ≡ file) × (sector ≤ s) × (512 * (s - sector) < length part) × (v ≡ sector_at part (s - sector)))
stop_written old new file sector part written beside synced fits whole f s v (inr kept) = inl (inr (kept ∙ ap (λ b. sector_at b s) (synced f)))
stop_written old new file sector part written beside synced fits whole f s v (inl now) =
    elim (cases_lt f file) [
      | inl lt ↦ inl (inl (now ∙ ap (λ b. sector_at b s) (beside f (λ e. omega (arith, e)))))
      | inr from ↦ elim (cases_lt file f) [
        | inl lt ↦ inl (inl (now ∙ ap (λ b. sector_at b s) (beside f (λ e. omega (arith, e)))))
        | inr le ↦ own (omega arith)
      ]
    ]
  where
    own : f ≡ file → MayIn old f s v ⊎ ((f ≡ file) × (sector ≤ s) × (512 * (s - sector) < length part) × (v ≡ sector_at part (s - sector)))
    own is =
        let count : length part ≡ 512 * (length part / 512) = omega arith in
        let same : v ≡ sector_at (bytes_in new file) s = now ∙ ap (λ k. sector_at (bytes_in new k) s) is in
        elim (kept_or_written (bytes_in new file) (bytes_in old file) sector (length part / 512) part s v written fits count same) [
          | inl old_one ↦ inl (inl (old_one ∙ ap (λ k. sector_at (bytes_in old k) s) (sym is)))
          | inr wrote ↦ (let from = wrote.0 in let below = wrote.1 in inr (is, from, omega (arith, from, below, count), wrote.2))
        ]
