-- Saving chunks one after the other in snapshots that are in order: a snapshot shows what it showed, while it is live, and
-- stays in order; and after so many rounds it has as many of the chunks that a run of sectors touches.
use Rattle.std.proofs.Common.{◌≡◌, ◌≢◌, inl, inr, ℕ, zero, suc, ◌+◌, ◌*◌, ◌/◌, ◌<◌, ◌≤◌, true, List, [], ◌∷◌, ◌++◌, length, Option, Some, None, arith, refl, ap, ◌∙◌, sym, subst}
use Rattle.std.specs.Prelude.{◌==◌, is_some}
use Rattle.std.proofs.lemmas.Bool.{cases_Bool, cases_lt, cond-true, cond-false, true≢false}
use Rattle.sector.specs.declared.pair.Pair.{Pair}
use Rattle.cow_format.specs.Pairs.{pairs_of}
use Rattle.cow_format.specs.Picture.{place_of, picture}
use Rattle.plain_machine.specs.Plain.{Live}
use Rattle.whole_commands.specs.Saves.{Saving as Stored, next_of, pairs_after, saved}
use Rattle.whole_commands.specs.Order.{IsInOrder}
use Rattle.whole_commands.specs.Devices.{Device}
use Rattle.whole_commands.specs.Snaps.{Snap, Volume, shown}
use Rattle.whole_commands.specs.Saving.{has_chunk, save}
use Rattle.whole_commands.specs.Pieces.{save_at}
use Rattle.whole_commands.specs.Shown.{ShowTheSame}
use Rattle.whole_commands.specs.Merges.{next_over, saved_round, saved_rounds}
use Rattle.whole_commands.specs.MergeShown.{IsWell}
use Rattle.whole_commands.proofs.Each.{Each, each_weaker}
use Rattle.whole_commands.proofs.Saved.{AfterSaving, IsSavedTo}
use Rattle.whole_commands.proofs.Laws.{saving_law}
use Rattle.whole_commands.proofs.Chunks.{save_chunk, at_keep}
use Rattle.whole_commands.proofs.LiveSaves.{live_saved}
use Rattle.whole_commands.proofs.SavedBytes.{save_bytes}
use Rattle.whole_commands.proofs.Rounds.{touched_few, span_over, count_over, next_inside, next_here, rounds_bytes}

module _ (sectors : ℕ) where
  -- a snapshot that is live after a chunk was saved
  pub chunk_saved : (c : ℕ) (origin : Device) (s : Snap) → length origin.bytes ≡ 512 * sectors → s.chunk * c < sectors → IsWell sectors s → (save c origin s).snap.live ≡ true →
      (s.live ≡ true) × ((size : ℕ) × IsSavedTo s.chunk sectors size c origin.bytes s.store.bytes (save c origin s).snap.store.bytes × (0 < s.chunk))
  chunk_saved c origin s whole low well live =
      let both = live_saved c origin s live in
      let (size, order) = well both.0 in
      let law : AfterSaving s.chunk sectors size c origin.bytes s.store.bytes (saved s.chunk origin.bytes s.store.bytes c) = saving_law s.chunk sectors size c origin.bytes s.store.bytes whole order low in
      let alive : (saved s.chunk origin.bytes s.store.bytes c).live ≡ true = sym (ap (λ (x : Stored). x.live) both.1) ∙ live in
      (both.0, (size, subst (IsSavedTo s.chunk sectors size c origin.bytes s.store.bytes) (sym (ap (λ (x : Stored). x.store) both.1)) (law.1 alive), order.some))

  pub chunk_well : (c : ℕ) (origin : Device) (s : Snap) → length origin.bytes ≡ 512 * sectors → s.chunk * c < sectors → IsWell sectors s → IsWell sectors (save c origin s).snap
  chunk_well c origin s whole low well live =
      let (on, kept) = chunk_saved c origin s whole low well live in
      let (size, done, pos) = kept in
      (size, subst (λ (n : ℕ). IsInOrder n sectors size (save c origin s).snap.store.bytes) (sym (save_chunk c origin s)) done.order)

  pub chunk_shown : (c : ℕ) (origin : Device) (s : Snap) → length origin.bytes ≡ 512 * sectors → s.chunk * c < sectors → IsWell sectors s → (save c origin s).snap.live ≡ true → shown origin.bytes (save c origin s).snap ≡ shown origin.bytes s
  chunk_shown c origin s whole low well live =
      let t : Snap = (save c origin s).snap in
      let (on, kept) = chunk_saved c origin s whole low well live in
      let (size, done, pos) = kept in
      cond-true _ _ _ live ∙ ap Live (ap (λ n. picture n origin.bytes t.store.bytes) (save_chunk c origin s) ∙ done.same) ∙ sym (cond-true _ _ _ on)

  -- it has the chunk, and those that it had
  has_some : (o : Option ℕ) → o ≢ None → is_some o ≡ true
  has_some None none = absurd (none refl)
  has_some (Some n) none = refl

  pub chunk_has : (c : ℕ) (origin : Device) (s : Snap) → length origin.bytes ≡ 512 * sectors → s.chunk * c < sectors → IsWell sectors s → (save c origin s).snap.live ≡ true → has_chunk c (save c origin s).snap ≡ true
  chunk_has c origin s whole low well live =
      let t : Snap = (save c origin s).snap in
      let (on, kept) = chunk_saved c origin s whole low well live in
      let (size, done, pos) = kept in
      ap (λ n. is_some (place_of (pairs_of n t.store.bytes) c)) (save_chunk c origin s) ∙ has_some (place_of (pairs_of s.chunk t.store.bytes) c) done.copy

  pub chunk_keeps : (c d : ℕ) (origin : Device) (s : Snap) → length origin.bytes ≡ 512 * sectors → s.chunk * c < sectors → IsWell sectors s → (save c origin s).snap.live ≡ true → has_chunk d s ≡ true → has_chunk d (save c origin s).snap ≡ true
  chunk_keeps c d origin s whole low well live has =
      let t : Snap = (save c origin s).snap in
      let (on, kept) = chunk_saved c origin s whole low well live in
      let (size, done, pos) = kept in
      ap (λ n. is_some (place_of (pairs_of n t.store.bytes) d)) (save_chunk c origin s) ∙ ap (λ ps. is_some (place_of ps d)) done.pairs ∙ after_has s.chunk (pairs_of s.chunk s.store.bytes) has
    where
      more_has : (ps : List Pair) (q : Pair) → is_some (place_of ps d) ≡ true → is_some (place_of (ps ++ q ∷ []) d) ≡ true
      more_has [] q e = absurd (true≢false (sym e))
      more_has (p ∷ ps) q e = elim (cases_Bool (p.old == d)) [
        | inl this ↦ ap is_some (cond-true _ _ _ this)
        | inr other ↦ ap is_some (cond-false _ _ _ other) ∙ more_has ps q (sym (ap is_some (cond-false _ _ _ other)) ∙ e)
      ]

      after_has : (chunk : ℕ) (ps : List Pair) → is_some (place_of ps d) ≡ true → is_some (place_of (pairs_after chunk ps c) d) ≡ true
      after_has chunk ps e = elim (cases_Bool (is_some (place_of ps c))) [
        | inl some ↦ ap (λ x. is_some (place_of x d)) (cond-true _ _ _ some) ∙ e
        | inr none ↦ ap (λ x. is_some (place_of x d)) (cond-false _ _ _ none) ∙ more_has ps (record { old = c; new = next_of chunk ps }) e
      ]

  -- the chunk that is wanted of it begins inside the origin
  abbrev pub WantsInside : (Snap → ℕ) → Snap → Type 0
  WantsInside wanted s = s.chunk * wanted s < sectors

  -- all of them
  pub at_well : (wanted : Snap → ℕ) (origin : Device) (snaps : List Snap) → length origin.bytes ≡ 512 * sectors → Each (WantsInside wanted) snaps → Each (IsWell sectors) snaps → Each (IsWell sectors) (save_at wanted origin snaps).snaps
  at_well wanted origin [] whole low well = tt
  at_well wanted origin (s ∷ snaps) whole low well = (
    chunk_well (wanted s) origin s whole low.0 well.0,
    at_well wanted (save (wanted s) origin s).origin snaps (ap length (save_bytes (wanted s) origin s) ∙ whole) low.1 well.1,
  )

  pub at_shown : (wanted : Snap → ℕ) (origin : Device) (snaps : List Snap) → length origin.bytes ≡ 512 * sectors → Each (WantsInside wanted) snaps → Each (IsWell sectors) snaps → ShowTheSame origin.bytes origin.bytes snaps (save_at wanted origin snaps).snaps
  at_shown wanted origin [] whole low well = tt
  at_shown wanted origin (s ∷ snaps) whole low well =
      let next : Device = (save (wanted s) origin s).origin in
      let same : next.bytes ≡ origin.bytes = save_bytes (wanted s) origin s in (
        chunk_shown (wanted s) origin s whole low.0 well.0,
        subst (λ (b : List ℕ). ShowTheSame b b snaps (save_at wanted next snaps).snaps) same (at_shown wanted next snaps (ap length same ∙ whole) low.1 well.1),
      )

-- rounds
module _ (sectors first count : ℕ) (some : 0 < count) (inside : first + count ≤ sectors) where
  -- while it is live, a snapshot has the first chunks of those that are touched
  abbrev pub HasFirst : ℕ → Snap → Type 0
  HasFirst n s = s.live ≡ true → (c : ℕ) → first / s.chunk ≤ c → c < first / s.chunk + n → c < first / s.chunk + count_over first count s → has_chunk c s ≡ true

  abbrev IsSome : ℕ → Type 0
  IsSome chunk = 0 < chunk

  abbrev pub HasSize : Snap → Type 0
  HasSize s = 0 < s.chunk

  pub wants_all : (snaps : List Snap) → Each HasSize snaps → Each (WantsInside sectors (next_over first count)) snaps
  wants_all snaps pos = each_weaker HasSize (WantsInside sectors (next_over first count)) snaps (λ s p. next_inside sectors first count s p some inside) pos

  one_first : (n : ℕ) (origin : Device) (s : Snap) → length origin.bytes ≡ 512 * sectors → 0 < s.chunk → IsWell sectors s → HasFirst n s → HasFirst (n + 1) (save (next_over first count s) origin s).snap
  one_first n origin s whole pos well had live c from to most =
      let wanted : ℕ = next_over first count s in
      let t : Snap = (save (next_over first count s) origin s).snap in
      let low : s.chunk * next_over first count s < sectors = next_inside sectors first count s pos some inside in
      let (on, kept) = chunk_saved sectors wanted origin s whole low well live in
      let same : t.chunk ≡ s.chunk = save_chunk wanted origin s in
      let from' : first / s.chunk ≤ c = subst (λ (x : ℕ). first / x ≤ c) same from in
      let to' : c < first / s.chunk + (n + 1) = subst (λ (x : ℕ). c < first / x + (n + 1)) same to in
      let most' : c < first / s.chunk + count_over first count s = subst (λ (x : ℕ). c < first / x + touched_in x) same most in
      elim (cases_Bool (has_chunk c s)) [
        | inl has ↦ chunk_keeps sectors wanted c origin s whole low well live has
        | inr lacks ↦ elim (cases_lt c (first / s.chunk + n)) [
          | inl below ↦ absurd (true≢false (sym (had on c from' below most') ∙ lacks))
          | inr last ↦ (let is : next_over first count s ≡ c = next_here first count c s from' most' lacks (λ d low_d lt. had on d low_d (omega (arith, lt, to', last)) (omega (arith, lt, most'))) in
              subst (λ (x : ℕ). has_chunk x t ≡ true) is (chunk_has sectors wanted origin s whole low well live))
        ]
      ]
    where
      touched_in : ℕ → ℕ
      touched_in x = count_over first count (record s { chunk = x })

  firsts : (n : ℕ) (origin : Device) (snaps : List Snap) → length origin.bytes ≡ 512 * sectors → Each HasSize snaps → Each (IsWell sectors) snaps → Each (HasFirst n) snaps → Each (HasFirst (n + 1)) (save_at (next_over first count) origin snaps).snaps
  firsts n origin [] whole pos well had = tt
  firsts n origin (s ∷ snaps) whole pos well had =
      let here = save (next_over first count s) origin s in
      (one_first n origin s whole pos.0 well.0 had.0, firsts n here.origin snaps (ap length (save_bytes (next_over first count s) origin s) ∙ whole) pos.1 well.1 had.1)

  -- what rounds leave
  pub record AfterRounds (n : ℕ) (before after : Volume) : Type 0 where
    pub bytes : after.origin.bytes ≡ before.origin.bytes
    pub sizes : Each HasSize after.snaps
    pub well : Each (IsWell sectors) after.snaps
    pub had : Each (HasFirst n) after.snaps

  pub round_first : (n : ℕ) (v : Volume) → length v.origin.bytes ≡ 512 * sectors → Each HasSize v.snaps → Each (IsWell sectors) v.snaps → Each (HasFirst n) v.snaps → Each (HasFirst (n + 1)) (saved_round first count v).snaps
  round_first n v whole pos well had = firsts n v.origin v.snaps whole pos well had

  pub none_first : (snaps : List Snap) → Each (HasFirst 0) snaps
  none_first [] = tt
  none_first (s ∷ snaps) = (λ live c from to most. absurd (omega (arith, from, to)), none_first snaps)

  rounds_after : (k n : ℕ) (v : Volume) → length v.origin.bytes ≡ 512 * sectors → Each HasSize v.snaps → Each (IsWell sectors) v.snaps → Each (HasFirst k) v.snaps → AfterRounds (k + n) v (saved_rounds first count n v)
  rounds_after k zero v whole pos well had = record {
    bytes = refl;
    sizes = pos;
    well = well;
    had = (let e : k ≡ k + 0 = omega arith in subst (λ (x : ℕ). Each (HasFirst x) v.snaps) e had);
  }
  rounds_after k (suc n) v whole pos well had =
      let next : Volume = saved_round first count v in
      let bytes : next.origin.bytes ≡ v.origin.bytes = rounds_bytes first count 1 v in
      let more : AfterRounds (k + 1 + n) next (saved_rounds first count n next) = rounds_after (k + 1) n next (ap length bytes ∙ whole) (at_keep IsSome (next_over first count) v.origin v.snaps pos)
      (at_well sectors (next_over first count) v.origin v.snaps whole (wants_all v.snaps pos) well) (round_first k v whole pos well had) in
      let e : k + 1 + n ≡ k + suc n = omega arith in
      record { bytes = more.bytes ∙ bytes; sizes = more.sizes; well = more.well; had = subst (λ (x : ℕ). Each (HasFirst x) (saved_rounds first count n next).snaps) e more.had }

  -- while it is live, a snapshot has all chunks that are touched
  abbrev pub HasOver : Snap → Type 0
  HasOver s = s.live ≡ true → (c : ℕ) → first / s.chunk ≤ c → c < first / s.chunk + count_over first count s → has_chunk c s ≡ true

  -- after as many rounds as there are sectors
  pub all_over : (v : Volume) → length v.origin.bytes ≡ 512 * sectors → Each HasSize v.snaps → Each (IsWell sectors) v.snaps → Each HasOver (saved_rounds first count count v).snaps
  all_over v whole pos well =
      let after : AfterRounds count v (saved_rounds first count count v) = (let e : 0 + count ≡ count = omega arith in
      subst (λ (n : ℕ). AfterRounds n v (saved_rounds first count count v)) e (rounds_after 0 count v whole pos well (none_first v.snaps))) in
      both (saved_rounds first count count v).snaps after.sizes after.had
    where
      both : (snaps : List Snap) → Each HasSize snaps → Each (HasFirst count) snaps → Each HasOver snaps
      both [] pos had = tt
      both (s ∷ snaps) pos had = (λ live c from to. (let few = touched_few s.chunk (span_over first count) pos.0 some in had.0 live c from (omega (arith, to, few)) to), both snaps pos.1 had.1)

  pub rounds_well : (n : ℕ) (v : Volume) → length v.origin.bytes ≡ 512 * sectors → Each HasSize v.snaps → Each (IsWell sectors) v.snaps → Each (IsWell sectors) (saved_rounds first count n v).snaps
  rounds_well n v whole pos well = (rounds_after 0 n v whole pos well (none_first v.snaps)).well
