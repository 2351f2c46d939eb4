-- The snapshot of a number before and after a request: it shows the same, unless the request writes to it.
use Rattle.std.proofs.Common.{◌≡◌, ◌⊎◌, inl, inr, ℕ, ◌/◌, true, false, List, [], ◌∷◌, refl, ap, ◌∙◌, sym, subst}
use Rattle.std.specs.Prelude.{◌==◌, not, ◌||◌, Option, Some, None}
use Rattle.std.proofs.lemmas.Bool.{cases_Bool, cond-true, cond-false, eqb-true, eq-eqb, true≢false}
use Rattle.sector.specs.declared.pair.Pair.{Pair}
use Rattle.chunk.specs.Pieces.{Span}
use Rattle.cow_format.specs.Pairs.{pairs_of}
use Rattle.cow_format.specs.Picture.{place_of}
use Rattle.whole_commands.specs.Devices.{Device, answers}
use Rattle.whole_commands.specs.Snaps.{Snap, shown, Volume}
use Rattle.whole_commands.specs.Saving.{Saving, next_place, is_full, has_chunk, save}
use Rattle.whole_commands.specs.Pieces.{Answered, save_all, write_place, write_saved, shuts, write_snap, read_place, read_snap, flush_snap, in_snap}
use Rattle.whole_commands.specs.Shown.{ShowTheSame}
use Rattle.whole_commands.specs.Merges.{snap_named}
use Rattle.whole_commands.proofs.Saves.{saves_nothing, saves_full, saves_copy, chunk_read}
use Rattle.whole_commands.proofs.Keeps.{copy_keeps}
use Rattle.whole_commands.proofs.SavedBytes.{save_bytes}

pub save_number : (c : ℕ) (origin : Device) (s : Snap) → (save c origin s).snap.number ≡ s.number
save_number c origin s = elim (cases_Bool (not s.live || has_chunk c s)) [
  | inl none ↦ ap (λ (x : Saving). x.snap.number) (saves_nothing c origin s none)
  | inr some ↦ elim (cases_Bool (is_full s)) [
    | inl full ↦ ap (λ (x : Saving). x.snap.number) (saves_full c origin s some full)
    | inr room ↦ (let q : Pair = record { old = c; new = next_place s } in
        ap (λ (x : Saving). x.snap.number) (saves_copy c origin s some room) ∙ elim (cases_Bool (answers origin (chunk_read c origin s))) [
          | inl ok ↦ ap (λ (t : Snap). t.number) (cond-true _ _ _ ok) ∙ copy_keeps (λ (t : Snap). t.number) (λ t d. refl) (λ t. refl) origin.bytes q s
          | inr failed ↦ ap (λ (t : Snap). t.number) (cond-false _ _ _ failed)
        ])
  ]
]

place_number : (piece : Span) (bytes : List ℕ) (origin : Device) (s : Snap) (o : Option ℕ) → (write_place piece bytes origin s o).state.snap.number ≡ s.number
place_number piece bytes origin s None = refl
place_number piece bytes origin s (Some n) = refl

place_bytes : (piece : Span) (bytes : List ℕ) (origin : Device) (s : Snap) (o : Option ℕ) → (write_place piece bytes origin s o).state.origin.bytes ≡ origin.bytes
place_bytes piece bytes origin s None = refl
place_bytes piece bytes origin s (Some n) = refl

-- a write that the snapshot takes, and any write
saved_number : (piece : Span) (bytes : List ℕ) (origin : Device) (s : Snap) → (write_saved piece bytes (save (piece.first / s.chunk) origin s)).state.snap.number ≡ s.number
saved_number piece bytes origin s =
    let a : Saving = save (piece.first / s.chunk) origin s in
    elim (cases_Bool a.snap.live) [
      | inl on ↦ ap (λ (x : Answered Saving). x.state.snap.number) (cond-true _ _ _ on) ∙ place_number piece bytes a.origin a.snap (place_of (pairs_of a.snap.chunk a.snap.store.bytes) (piece.first / a.snap.chunk)) ∙ save_number (piece.first / s.chunk) origin s
      | inr out ↦ ap (λ (x : Answered Saving). x.state.snap.number) (cond-false _ _ _ out) ∙ save_number (piece.first / s.chunk) origin s
    ]

pub write_number : (piece : Span) (bytes : List ℕ) (origin : Device) (s : Snap) → (write_snap piece bytes origin s).state.snap.number ≡ s.number
write_number piece bytes origin s = elim (cases_Bool (shuts (piece.first / s.chunk) s)) [
  | inl shut ↦ ap (λ (x : Answered Saving). x.state.snap.number) (cond-true _ _ _ shut)
  | inr takes ↦ ap (λ (x : Answered Saving). x.state.snap.number) (cond-false _ _ _ takes) ∙ saved_number piece bytes origin s
]

saved_bytes : (piece : Span) (bytes : List ℕ) (origin : Device) (s : Snap) → (write_saved piece bytes (save (piece.first / s.chunk) origin s)).state.origin.bytes ≡ origin.bytes
saved_bytes piece bytes origin s =
    let a : Saving = save (piece.first / s.chunk) origin s in
    elim (cases_Bool a.snap.live) [
      | inl on ↦ ap (λ (x : Answered Saving). x.state.origin.bytes) (cond-true _ _ _ on) ∙ place_bytes piece bytes a.origin a.snap (place_of (pairs_of a.snap.chunk a.snap.store.bytes) (piece.first / a.snap.chunk)) ∙ save_bytes (piece.first / s.chunk) origin s
      | inr out ↦ ap (λ (x : Answered Saving). x.state.origin.bytes) (cond-false _ _ _ out) ∙ save_bytes (piece.first / s.chunk) origin s
    ]

pub write_bytes : (piece : Span) (bytes : List ℕ) (origin : Device) (s : Snap) → (write_snap piece bytes origin s).state.origin.bytes ≡ origin.bytes
write_bytes piece bytes origin s = elim (cases_Bool (shuts (piece.first / s.chunk) s)) [
  | inl shut ↦ ap (λ (x : Answered Saving). x.state.origin.bytes) (cond-true _ _ _ shut)
  | inr takes ↦ ap (λ (x : Answered Saving). x.state.origin.bytes) (cond-false _ _ _ takes) ∙ saved_bytes piece bytes origin s
]

-- a read or a flush changes nothing that is shown
pub record IsRead (origin : Device) (s : Snap) (r : Answered Saving) : Type 0 where
  pub number : r.state.snap.number ≡ s.number
  pub shows : (disk : List ℕ) → shown disk r.state.snap ≡ shown disk s
  pub bytes : r.state.origin.bytes ≡ origin.bytes

pub is_read : (piece : Span) (origin : Device) (s : Snap) → IsRead origin s (read_snap piece origin s)
is_read piece origin s = elim (cases_Bool s.live) [
  | inl on ↦ subst (IsRead origin s) (sym (cond-true _ _ _ on)) (place_read (place_of (pairs_of s.chunk s.store.bytes) (piece.first / s.chunk)))
  | inr out ↦ subst (IsRead origin s) (sym (cond-false _ _ _ out)) (record { number = refl; shows = λ disk. refl; bytes = refl })
]
  where
    place_read : (o : Option ℕ) → IsRead origin s (read_place piece origin s o)
    place_read None = record { number = refl; shows = λ disk. refl; bytes = refl }
    place_read (Some n) = record { number = refl; shows = λ disk. refl; bytes = refl }

pub is_flushed : (origin : Device) (s : Snap) → IsRead origin s (flush_snap origin s)
is_flushed origin s = elim (cases_Bool s.live) [
  | inl on ↦ subst (IsRead origin s) (sym (cond-true _ _ _ on)) (record { number = refl; shows = λ disk. refl; bytes = refl })
  | inr out ↦ subst (IsRead origin s) (sym (cond-false _ _ _ out)) (record { number = refl; shows = λ disk. refl; bytes = refl })
]

-- The snapshot of a number before a request, by that after it.
pub record WasShown (number : ℕ) (before after : List ℕ) (snaps : List Snap) (t : Snap) : Type 0 where
  pub was : Snap
  pub named : snap_named number snaps ≡ Some was
  pub same : t.live ≡ true → shown after t ≡ shown before was

was_behind : (number : ℕ) (before after : List ℕ) (s : Snap) (snaps : List Snap) (t : Snap) → (s.number == number) ≡ false → WasShown number before after snaps t → WasShown number before after (s ∷ snaps) t
was_behind number before after s snaps t other is = record { was = is.was; named = cond-false _ _ _ other ∙ is.named; same = is.same }

-- the first of a list, or one behind it
named_first : (number : ℕ) (s : Snap) (snaps : List Snap) (t : Snap) → (s.number == number) ≡ true → snap_named number (s ∷ snaps) ≡ Some t → s ≡ t
named_first number s snaps t this is = let e : Some s ≡ Some t = sym (cond-true _ _ _ this) ∙ is in cc

-- each snapshot saved a chunk
pub all_named : (number first : ℕ) (origin : Device) (snaps : List Snap) (before after : List ℕ) (t : Snap) → ShowTheSame before after snaps (save_all first origin snaps).snaps → snap_named number (save_all first origin snaps).snaps ≡ Some t → WasShown number before after snaps t
all_named number first origin [] before after t shows is = absurd (cc)
all_named number first origin (s ∷ snaps) before after t shows is =
    let here : Saving = save (first / s.chunk) origin s in
    let rest : List Snap = (save_all first here.origin snaps).snaps in
    let number_is : (here.snap.number == number) ≡ (s.number == number) = ap (λ n. n == number) (save_number (first / s.chunk) origin s) in
    elim (cases_Bool (s.number == number)) [
      | inl this ↦ (let e : here.snap ≡ t = named_first number here.snap rest t (number_is ∙ this) is in
          record { was = s; named = cond-true _ _ _ this; same = subst (λ (x : Snap). x.live ≡ true → shown after x ≡ shown before s) e shows.0 })
      | inr other ↦ was_behind number before after s snaps t other (all_named number first here.origin snaps before after t shows.1 (sym (cond-false _ _ _ (number_is ∙ other)) ∙ is))
    ]

-- one snapshot was served: another, or by what does not change what it shows
pub one_named : (number n : ℕ) (serve : Device → Snap → Answered Saving) → ((origin : Device) (s : Snap) → (serve origin s).state.snap.number ≡ s.number) → ((n == number) ≡ false) ⊎ ((origin : Device) (s : Snap) (disk : List ℕ) → shown disk (serve origin s).state.snap ≡ shown disk s) →
    (origin : Device) (snaps : List Snap) (disk : List ℕ) (t : Snap) → snap_named number (in_snap n serve origin snaps).state.snaps ≡ Some t → WasShown number disk disk snaps t
one_named number n serve keeps spares origin [] disk t is = absurd (cc)
one_named number n serve keeps spares origin (s ∷ snaps) disk t is =
    let a : Answered Saving = serve origin s in
    let later : Answered Volume = in_snap n serve origin snaps in
    let here : Answered Volume = record { state = record { origin = a.state.origin; snaps = a.state.snap ∷ snaps }; reply = a.reply } in
    let there : Answered Volume = record { state = record { origin = later.state.origin; snaps = s ∷ later.state.snaps }; reply = later.reply } in
    let number_is : (a.state.snap.number == number) ≡ (s.number == number) = ap (λ k. k == number) (keeps origin s) in
    elim (cases_Bool (s.number == n)) [
      | inl served ↦ (let got : snap_named number (a.state.snap ∷ snaps) ≡ Some t = sym (ap (λ (x : Answered Volume). snap_named number x.state.snaps) (let e : in_snap n serve origin (s ∷ snaps) ≡ here = cond-true _ _ _ served in e)) ∙ is in
          elim (cases_Bool (s.number == number)) [
            | inl this ↦ (let e : a.state.snap ≡ t = named_first number a.state.snap snaps t (number_is ∙ this) got in
                record {
                  was = s;
                  named = cond-true _ _ _ this;
                  same = λ live. sym (ap (shown disk) e) ∙ elim spares [
                    | inl other ↦ (let one : n ≡ number = sym (eqb-true _ _ served) ∙ eqb-true _ _ this in absurd (true≢false (sym (eq-eqb _ _ one) ∙ other)))
                    | inr shows ↦ shows origin s disk
                  ];
                })
            | inr other ↦ was_behind number disk disk s snaps t other (record { was = t; named = sym (cond-false _ _ _ (number_is ∙ other)) ∙ got; same = λ live. refl })
          ])
      | inr not_served ↦ (let got : snap_named number (s ∷ later.state.snaps) ≡ Some t = sym (ap (λ (x : Answered Volume). snap_named number x.state.snaps) (let e : in_snap n serve origin (s ∷ snaps) ≡ there = cond-false _ _ _ not_served in e)) ∙ is in
          elim (cases_Bool (s.number == number)) [
            | inl this ↦ (let e : s ≡ t = named_first number s later.state.snaps t this got in
                record { was = s; named = cond-true _ _ _ this; same = λ live. sym (ap (shown disk) e) })
            | inr other ↦ was_behind number disk disk s snaps t other (one_named number n serve keeps spares origin snaps disk t (sym (cond-false _ _ _ other) ∙ got))
          ])
    ]

pub one_bytes : (n : ℕ) (serve : Device → Snap → Answered Saving) → ((origin : Device) (s : Snap) → (serve origin s).state.origin.bytes ≡ origin.bytes) → (origin : Device) (snaps : List Snap) → (in_snap n serve origin snaps).state.origin.bytes ≡ origin.bytes
one_bytes n serve keeps origin [] = refl
one_bytes n serve keeps origin (s ∷ snaps) = elim (cases_Bool (s.number == n)) [
  | inl served ↦ ap (λ (x : Answered Volume). x.state.origin.bytes) (cond-true _ _ _ served) ∙ keeps origin s
  | inr not_served ↦ ap (λ (x : Answered Volume). x.state.origin.bytes) (cond-false _ _ _ not_served) ∙ one_bytes n serve keeps origin snaps
]
