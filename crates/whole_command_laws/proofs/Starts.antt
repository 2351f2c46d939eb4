-- A copy that is started in a snapshot at rest: what is in memory is what the store's bytes say; and when a chunk is saved.
use Rattle.std.proofs.Common.{◌≡◌, inl, inr, ℕ, ◌+◌, ◌*◌, ◌/◌, Bool, true, false, List, [], ◌∷◌, ◌++◌, length, None, arith, refl, ap, ◌∙◌, sym}
use Rattle.std.specs.Prelude.{◌&&◌, ◌||◌, not, is_some}
use Rattle.std.proofs.lemmas.Bool.{cases_Bool}
use Rattle.sector.specs.Bytes.{sectors_at, with_sectors}
use Rattle.sector.specs.declared.pair.Pair.{Pair}
use Rattle.cow_format.specs.NextPlace.{stepped}
use Rattle.cow_format.specs.Picture.{place_of}
use Rattle.cow_format.proofs.Pictures.{place-pushed}
use Rattle.in_flight.specs.Copies.{count_of}
use Rattle.in_flight.specs.declared.copies.Stage.TheVariants.{Waiting}
use Rattle.in_flight.specs.declared.copies.Mark.{Mark}
use Rattle.whole_commands.specs.Saves.{copied, next_of}
use Rattle.whole_commands.proofs.Saved.{chunk_front}
use Rattle.whole_commands.specs.Devices.{Device, sectors_of}
use Rattle.whole_commands.specs.Snaps.{Snap}
use Rattle.whole_commands.specs.Saving.{next_place, has_chunk}
use Rattle.event_machine.specs.Held.{Copying, SnapHeld}
use Rattle.event_machine.specs.Again.{is_saved}
use Rattle.event_machine.specs.Submitting.{needs_none, with_copy}
use Rattle.event_machine.specs.Rest.{IsKept, IsResting}
use Rattle.whole_command_laws.proofs.Stages.{holding, copying}
use Rattle.whole_command_laws.proofs.Primed.{needs_resting}

or_and : (x y : Bool) → (x || y) ≡ true → (x || (y && true)) ≡ true
or_and true y e = refl
or_and false true e = refl
or_and false false e = e

module _ (sectors : ℕ) where
  -- what the store's bytes say is what is in memory
  pub needs_same : (c : ℕ) (h : SnapHeld) → IsResting sectors h → needs_none c h ≡ (not h.snap.live || has_chunk c h.snap)
  needs_same c h rest = needs_resting c h rest.copies ∙ elim (cases_Bool h.snap.live) [
    | inl on ↦ ap (λ ps. not h.snap.live || is_some (place_of ps c)) (sym (rest.live on).pairs)
    | inr out ↦ rw out refl
  ]

  pub next_same : (h : SnapHeld) → IsKept sectors h → h.next ≡ next_place h.snap
  next_same h kept = kept.next ∙ ap (next_of h.snap.chunk) (sym kept.pairs)

  size_is : (n m : ℕ) → n ≡ 512 * m → n / 512 ≡ m
  size_is n m e = omega arith

  -- the bytes that a copy writes
  pub copy_bytes : (origin : Device) (s : Snap) (c n : ℕ) → length origin.bytes ≡ 512 * sectors → with_sectors s.store.bytes (s.chunk * n) (sectors_at origin.bytes (s.chunk * c) (count_of s.chunk (sectors_of origin) c)) ≡ copied s.chunk origin.bytes s.store.bytes c n
  copy_bytes origin s c n whole =
      ap (with_sectors s.store.bytes (s.chunk * n)) (sym (chunk_front s.chunk sectors c (count_of s.chunk (sectors_of origin) c) origin.bytes whole (ap (λ x. count_of s.chunk x c) (size_is (length origin.bytes) sectors whole))))

  -- a copy that was started
  pub as_holding : (c n : ℕ) (h : SnapHeld) → IsResting sectors h → IsKept sectors h → with_copy n c h ≡ holding h.snap h.pairs (stepped h.snap.chunk (next_place h.snap + 1)) false false (copying n (record { old = c; new = next_place h.snap }) Waiting [] ∷ []) []
  as_holding c n h rest kept =
      let mk : Bool → Bool → ℕ → Bool → Bool → List Copying → List Mark → SnapHeld = λ (u : Bool) (b : Bool) (x : ℕ) (z : Bool) (f : Bool) (cs : List Copying) (ms : List Mark). record {
        snap = h.snap;
        untried = u;
        marked = b;
        pairs = h.pairs;
        next = stepped h.snap.chunk (x + 1);
        zeroed = z;
        firm = f;
        copies = cs ++ copying n (record { old = c; new = x }) Waiting [] ∷ [];
        marks = ms;
      } in
      ap (λ u. mk u h.marked h.next h.zeroed h.firm h.copies h.marks) rest.tried ∙ ap (λ b. mk false b h.next h.zeroed h.firm h.copies h.marks) kept.unmarked
      ∙ ap (λ x. mk false false x h.zeroed h.firm h.copies h.marks) (next_same h kept) ∙ ap (λ z. mk false false (next_place h.snap) z h.firm h.copies h.marks) kept.zeroed
      ∙ ap (λ f. mk false false (next_place h.snap) false f h.copies h.marks) kept.firm ∙ ap (λ cs. mk false false (next_place h.snap) false false cs h.marks) rest.copies
      ∙ ap (mk false false (next_place h.snap) false false []) rest.marks

-- the chunk of this sector was saved, and is saved once its pair is committed
module _ (sectors first : ℕ) where
  pub saved_already : (h : SnapHeld) → IsResting sectors h → needs_none (first / h.snap.chunk) h ≡ true → is_saved first h ≡ true
  saved_already h rest none = rw rest.marks (or_and (not h.snap.live) (is_some (place_of h.pairs (first / h.snap.chunk))) (sym (needs_resting (first / h.snap.chunk) h rest.copies) ∙ none))

  pub saved_now : (c : ℕ) (h : SnapHeld) (ps : List Pair) (q : Pair) → c ≡ first / h.snap.chunk → place_of ps c ≡ None → q.old ≡ c → h.marks ≡ [] → (h.snap.live ≡ true → h.pairs ≡ ps ++ q ∷ []) → is_saved first h ≡ true
  saved_now c h ps q at_c none old marks pairs = elim (cases_Bool h.snap.live) [
    | inr out ↦ rw out refl
    | inl on ↦ rw (marks, pairs on, sym at_c, place-pushed ps q c none old) (or_and (not h.snap.live) true (or_true (not h.snap.live)))
  ]
    where
      or_true : (x : Bool) → (x || true) ≡ true
      or_true true = refl
      or_true false = refl
