-- A write of one piece of a snapshot changes what that snapshot shows at that place, and nothing else.
use Rattle.std.proofs.Common.{◌≡◌, ◌≢◌, inl, inr, ℕ, ◌+◌, ◌*◌, ◌/◌, ◌%◌, ◌<◌, ◌≤◌, Bool, true, false, List, [], ◌∷◌, length, map, Option, Some, None, arith, refl, ap, ◌∙◌, sym, subst}
use Rattle.std.specs.Prelude.{◌==◌, ◌&&◌, ◌||◌, not}
use Rattle.std.proofs.lemmas.Bool.{cases_Bool, cond-true, cond-false, true≢false}
use Rattle.sector.specs.Bytes.{with_sectors}
use Rattle.sector.specs.declared.pair.Pair.{Pair}
use Rattle.device.specs.declared.operation.Operation.TheVariants.{Writes}
use Rattle.chunk.specs.Sizes.{is_chunk}
use Rattle.chunk.specs.Pieces.{Span}
use Rattle.cow_format.specs.Pairs.{pairs_of}
use Rattle.cow_format.specs.Picture.{place_of, picture}
use Rattle.plain_machine.specs.Plain.{Saved, Live, Invalid, Entry, marked_in, overflow_under}
use Rattle.plain_machine.specs.declared.request.Overflowing.{Overflowing}
use Rattle.plain_machine.specs.declared.request.Overflowing.TheVariants.{Never, Did}
use Rattle.plain_machine.specs.declared.request.Reply.{Reply}
use Rattle.plain_machine.specs.declared.request.Reply.TheVariants.{Data, Written, Flushed, Refused}
use Rattle.plain_machine.specs.declared.request.Failure.TheVariants.{Invalid as Declined, Io, Overflow}
use Rattle.volume_laws.proofs.PlaceWrites.{picture_placed}
use Rattle.whole_commands.specs.Saves.{Saving as Stored, next_of, saved}
use Rattle.whole_commands.specs.Order.{IsInOrder}
use Rattle.whole_commands.proofs.Saved.{AfterSaving, IsSavedTo}
use Rattle.whole_commands.proofs.Laws.{saving_law, option_cases}
use Rattle.chunk.proofs.PiecePlaces.{piece_low}
use Rattle.whole_commands.proofs.PictureSectors.{place_inside}
use Rattle.whole_commands.specs.Devices.{Device, answers, written_by}
use Rattle.whole_commands.specs.Snaps.{Snap, shown, Volume}
use Rattle.whole_commands.specs.Saving.{Saving, next_place, is_full, has_chunk, save}
use Rattle.whole_commands.specs.Pieces.{Answered, shuts, write_place, write_saved, write_snap, in_snap}
use Rattle.event_machine.specs.Held.{SnapHeld}
use Rattle.event_machine.specs.Rest.{IsResting}
use Rattle.whole_commands.proofs.Each.{Each}
use Rattle.whole_commands.proofs.Chunks.{HasChunks, save_chunk}
use Rattle.whole_commands.proofs.Saves.{saves_nothing, saves_full, saves_copy, chunk_read, stored_of, save_live}
use Rattle.whole_commands.proofs.Keeps.{copy_keeps}
use Rattle.whole_command_laws.proofs.PlaceRests.{place_rests}
use Rattle.whole_commands.proofs.SavedBytes.{save_bytes}
use Rattle.volume_commands.specs.Showing.{entry_of, saved_at, with_bytes, changed_at}
use Rattle.volume_commands.proofs.Overflows.{save_overflow}
use Rattle.volume_commands.proofs.Rests.{IsOrderly, IsInside, room_in}

-- saving a chunk keeps a snapshot's number
pub save_number : (c : ℕ) (origin : Device) (s : Snap) → (save c origin s).snap.number ≡ s.number
save_number c origin s = elim (cases_Bool (not s.live || has_chunk c s)) [
  | inl none ↦ ap (λ (x : Saving). x.snap.number) (saves_nothing c origin s none)
  | inr some ↦ elim (cases_Bool (is_full s)) [
    | inl full ↦ ap (λ (x : Saving). x.snap.number) (saves_full c origin s some full)
    | inr room ↦ (let q : Pair = record { old = c; new = next_place s } in
        ap (λ (x : Saving). x.snap.number) (saves_copy c origin s some room) ∙ elim (cases_Bool (answers origin (chunk_read c origin s))) [
          | inl ok ↦ ap (λ (t : Snap). t.number) (cond-true _ _ _ ok) ∙ copy_keeps (λ (t : Snap). t.number) (λ t d. refl) (λ t. refl) origin.bytes q s
          | inr failed ↦ ap (λ (t : Snap). t.number) (cond-false _ _ _ failed)
        ])
  ]
]

-- a snapshot that is live after a chunk was saved was live before, and has it as `specs/Saves` of `whole_commands` saves it
live_saved : (c : ℕ) (origin : Device) (s : Snap) → (save c origin s).snap.live ≡ true → (s.live ≡ true) × (stored_of (save c origin s).snap ≡ saved s.chunk origin.bytes s.store.bytes c)
unfolding saved
live_saved c origin s live = elim (cases_Bool s.live) [
  | inr out ↦ (let is = saves_nothing c origin s (rw out refl) in absurd (true≢false (sym live ∙ ap (λ (x : Saving). x.snap.live) is ∙ out)))
  | inl on ↦ elim (cases_Bool (has_chunk c s)) [
    | inl some ↦ (let is = saves_nothing c origin s (rw (on, some) refl) in
        let mk : Bool → Stored = λ (b : Bool). record { store = s.store.bytes; live = b } in
        (on, ap (λ (x : Saving). stored_of x.snap) is ∙ ap mk on ∙ sym (cond-true _ _ _ some)))
    | inr lacks ↦ elim (cases_Bool (is_full s)) [
      | inl full ↦ (let is = saves_full c origin s (rw (on, lacks) refl) full in absurd (true≢false (sym live ∙ ap (λ (x : Saving). x.snap.live) is)))
      | inr room ↦ (let is = saves_copy c origin s (rw (on, lacks) refl) room in
          (on, ap (λ (x : Saving). stored_of x.snap) is ∙ save_live c origin s on lacks room (sym (ap (λ (x : Saving). x.snap.live) is) ∙ live)))
    ]
  ]
]

-- what one snapshot shows after a write of a piece
abbrev pub IsShownBy : Span → List ℕ → Saved → Saved → Reply → Type 0
IsShownBy piece part old new (Data bytes) = ⊥
IsShownBy piece part old new Flushed = ⊥
IsShownBy piece part old new Written = (array : List ℕ) × (old ≡ Live array) × (new ≡ Live (with_sectors array piece.first part))
IsShownBy piece part old new (Refused Declined) = new ≡ Invalid
IsShownBy piece part old new (Refused Io) = (array : List ℕ) × (old ≡ Live array) × (new ≡ old)
IsShownBy piece part old new (Refused Overflow) = (array : List ℕ) × (old ≡ Live array) × (new ≡ old)

-- and what a full store does to it then
abbrev pub IsMarkedBy : Overflowing → Overflowing → Reply → Type 0
IsMarkedBy old new (Data bytes) = ⊥
IsMarkedBy old new Flushed = ⊥
IsMarkedBy old new Written = (old ≢ Did) × (new ≡ old)
IsMarkedBy old new (Refused Declined) = new ≡ old
IsMarkedBy old new (Refused Io) = new ≡ old
IsMarkedBy old new (Refused Overflow) = (old ≢ Never) × (new ≡ Did)

-- a live snapshot that takes no write may overflow, or did; one that takes it did not
and_first : (a b : Bool) → (a && b) ≡ true → a ≡ true
and_first true b e = refl
and_first false b e = e

shut_not_never : (c : ℕ) (s : Snap) → shuts c s ≡ true → s.overflow ≢ Never
shut_not_never c s shut never = (let free : shuts c s ≡ false = rw (and_first s.live _ shut, never) refl in true≢false (sym shut ∙ free))

open_not_did : (c : ℕ) (s : Snap) → shuts c s ≡ false → s.live ≡ true → s.overflow ≢ Did
open_not_did c s free live did = (let shut : shuts c s ≡ true = rw (live, did) refl in true≢false (sym shut ∙ free))

module _ (sectors chunk : ℕ) (ok : is_chunk chunk ≡ true) (piece : Span) (part : List ℕ) (fits : IsInside sectors chunk piece) (len : length part ≡ 512 * piece.count) where
  -- at a copy's place
  placed : (o array : List ℕ) (origin : Device) (t : Snap) (size n : ℕ) (old : Saved) → length o ≡ 512 * sectors → HasChunks chunk t → t.live ≡ true → IsInOrder t.chunk sectors size t.store.bytes → place_of (pairs_of t.chunk t.store.bytes) (piece.first / t.chunk) ≡ Some n
      → old ≡ Live array → picture t.chunk o t.store.bytes ≡ array → (let a = write_place piece part origin t (Some n) in IsShownBy piece part old (shown o a.state.snap) a.reply)
  placed o array origin t size n old whole has live order some was is =
      let pos' : 0 < t.chunk = order.some in
      let off : ℕ = piece.first % t.chunk in
      let first : ℕ = t.chunk * n + off in
      let room : off + piece.count ≤ t.chunk = room_in chunk t.chunk piece ok has fits.one in
      let at : t.chunk * (piece.first / t.chunk) + off ≡ piece.first = omega arith in
      let here : t.chunk * (n + 1) ≤ size = place_inside t.chunk sectors size (piece.first / t.chunk) n (pairs_of t.chunk t.store.bytes) order.pairs.inside some in
      let wide : t.chunk * (n + 1) ≡ t.chunk * n + t.chunk = grind arith in
      let high : piece.first + piece.count ≤ t.chunk * (piece.first / t.chunk) + t.chunk = omega (arith, at, room) in
      let bytes : List ℕ = with_sectors t.store.bytes first part in
      let h : SnapHeld = record { snap = t; untried = false; marked = false; pairs = pairs_of t.chunk t.store.bytes; next = next_of t.chunk (pairs_of t.chunk t.store.bytes); zeroed = false; firm = false; copies = []; marks = [] } in
      let rest : IsResting sectors h = record { tried = refl; copies = refl; marks = refl; live = λ l. record { order = (size, order); pairs = refl; next = refl; zeroed = refl; firm = refl; unmarked = refl } } in
      let after : IsResting sectors _ = place_rests sectors n piece.first piece.count part h rest live some high len in
      let old_is : old ≡ Live array = was in
      elim (cases_Bool (answers t.store (Writes first piece.count))) [
        | inl ok ↦ (let now : (written_by t.store (Writes first piece.count) bytes).bytes ≡ bytes = cond-true _ _ _ ok in
            let pairs : pairs_of t.chunk bytes ≡ pairs_of t.chunk t.store.bytes = ap (pairs_of t.chunk) (sym now) ∙ (after.live live).pairs in
            let pic : picture t.chunk o bytes ≡ with_sectors (picture t.chunk o t.store.bytes) (t.chunk * (piece.first / t.chunk) + off) part =
            picture_placed t.chunk (piece.first / t.chunk) n off piece.count o t.store.bytes bytes part (pairs_of t.chunk t.store.bytes) pos' order.pairs.apart refl pairs some room len
            (let w = order.whole in omega (arith, here, wide, w, len, room)) (let i = fits.inside in omega (arith, at, whole, i)) refl in
            subst (IsShownBy piece part old _) (sym (cond-true _ _ _ ok))
            (array, old_is, cond-true _ _ _ live ∙ ap (λ (b : List ℕ). Live (picture t.chunk o b)) now ∙ ap Live (pic ∙ ap (λ (k : ℕ). with_sectors (picture t.chunk o t.store.bytes) k part) at ∙ ap (λ (b : List ℕ). with_sectors b piece.first part) is)))
        | inr failed ↦ (let now : (written_by t.store (Writes first piece.count) bytes).bytes ≡ t.store.bytes = cond-false _ _ _ failed in
            subst (IsShownBy piece part old _) (sym (cond-false _ _ _ failed))
            (array, old_is, cond-true _ _ _ live ∙ ap (λ (b : List ℕ). Live (picture t.chunk o b)) now ∙ ap Live is ∙ sym old_is))
      ]

  -- one snapshot that takes the write
  taken_written : (origin : Device) (s : Snap) → length origin.bytes ≡ 512 * sectors → HasChunks chunk s → IsOrderly sectors s
      → (let a : Answered Saving = write_saved piece part (save (piece.first / s.chunk) origin s) in IsShownBy piece part (shown origin.bytes s) (shown origin.bytes a.state.snap) a.reply)
  taken_written origin s whole has orderly =
      let c : ℕ = piece.first / s.chunk in
      let a : Saving = save c origin s in
      let t : Snap = a.snap in
      let old : Saved = shown origin.bytes s in
      let By : Answered Saving → Type 0 = λ (x : Answered Saving). IsShownBy piece part old (shown origin.bytes x.state.snap) x.reply in
      elim (cases_Bool t.live) [
        | inr out ↦ subst By (sym (cond-false _ _ _ out)) (cond-false _ _ _ out)
        | inl live ↦ (let both = live_saved c origin s live in
            let (size, order) = orderly both.0 in
            let low : s.chunk * c ≤ piece.first = piece_low s.chunk piece.first in
            let law : AfterSaving s.chunk sectors size c origin.bytes s.store.bytes (saved s.chunk origin.bytes s.store.bytes c) = saving_law s.chunk sectors size c origin.bytes s.store.bytes whole order (let i = fits.inside in let m = fits.one.some in omega (arith, low, i, m)) in
            let alive : (saved s.chunk origin.bytes s.store.bytes c).live ≡ true = sym (ap (λ (x : Stored). x.live) both.1) ∙ live in
            let done : IsSavedTo s.chunk sectors size c origin.bytes s.store.bytes t.store.bytes = subst (IsSavedTo s.chunk sectors size c origin.bytes s.store.bytes) (sym (ap (λ (x : Stored). x.store) both.1)) (law.1 alive) in
            let kept : t.chunk ≡ s.chunk = save_chunk c origin s in
            let order' : IsInOrder t.chunk sectors size t.store.bytes = subst (λ (k : ℕ). IsInOrder k sectors size t.store.bytes) (sym kept) done.order in
            let copy : place_of (pairs_of t.chunk t.store.bytes) (piece.first / t.chunk) ≢ None = subst (λ (k : ℕ). place_of (pairs_of k t.store.bytes) (piece.first / k) ≢ None) (sym kept) done.copy in
            let is : picture t.chunk origin.bytes t.store.bytes ≡ picture s.chunk origin.bytes s.store.bytes = ap (λ (k : ℕ). picture k origin.bytes t.store.bytes) kept ∙ done.same in
            subst By (sym (cond-true _ _ _ live)) (elim (option_cases (place_of (pairs_of t.chunk t.store.bytes) (piece.first / t.chunk))) [
              | inl none ↦ absurd (copy none)
              | inr (n, some) ↦ subst (λ (o : Option ℕ). By (write_place piece part a.origin t o)) (sym some)
                  (placed origin.bytes (picture s.chunk origin.bytes s.store.bytes) a.origin t size n old whole (subst (λ (k : ℕ). (is_chunk k ≡ true) × (chunk ≤ k)) (sym kept) has) live order' some (cond-true _ _ _ both.0) is)
            ]))
      ]

  -- any snapshot
  pub snap_written : (origin : Device) (s : Snap) → length origin.bytes ≡ 512 * sectors → HasChunks chunk s → IsOrderly sectors s → IsShownBy piece part (shown origin.bytes s) (shown origin.bytes (write_snap piece part origin s).state.snap) (write_snap piece part origin s).reply
  snap_written origin s whole has orderly =
      let c : ℕ = piece.first / s.chunk in
      let By : Answered Saving → Type 0 = λ (x : Answered Saving). IsShownBy piece part (shown origin.bytes s) (shown origin.bytes x.state.snap) x.reply in
      elim (cases_Bool (shuts c s)) [
        | inl shut ↦ subst By (sym (cond-true _ _ _ shut)) (picture s.chunk origin.bytes s.store.bytes, cond-true _ _ _ (and_first s.live _ shut), refl)
        | inr free ↦ subst By (sym (cond-false _ _ _ free)) (taken_written origin s whole has orderly)
      ]

-- what a full store does to it, after a write that it takes, and after any
module _ (piece : Span) (part : List ℕ) (origin : Device) (s : Snap) where
  abbrev chunk_at : ℕ
  chunk_at = piece.first / s.chunk

  abbrev after : Saving
  after = save chunk_at origin s

  place_marked : s.overflow ≢ Did → (o : Option ℕ) → (let a : Answered Saving = write_place piece part after.origin after.snap o in IsMarkedBy s.overflow a.state.snap.overflow a.reply)
  place_marked free None = save_overflow chunk_at origin s
  place_marked free (Some n) =
      let kept : after.snap.overflow ≡ s.overflow = save_overflow chunk_at origin s in
      elim (cases_Bool (answers after.snap.store (Writes (after.snap.chunk * n + piece.first % after.snap.chunk) piece.count))) [
        | inl ok ↦ subst (IsMarkedBy s.overflow after.snap.overflow) (sym (cond-true _ _ _ ok)) (free, kept)
        | inr failed ↦ subst (IsMarkedBy s.overflow after.snap.overflow) (sym (cond-false _ _ _ failed)) kept
      ]

  taken_marked : shuts chunk_at s ≡ false → (let a : Answered Saving = write_saved piece part after in IsMarkedBy s.overflow a.state.snap.overflow a.reply)
  taken_marked free =
      let By : Answered Saving → Type 0 = λ (x : Answered Saving). IsMarkedBy s.overflow x.state.snap.overflow x.reply in
      elim (cases_Bool after.snap.live) [
        | inl live ↦ (let was = live_saved chunk_at origin s live in
            subst By (sym (cond-true _ _ _ live)) (place_marked (open_not_did chunk_at s free was.0) (place_of (pairs_of after.snap.chunk after.snap.store.bytes) (piece.first / after.snap.chunk))))
        | inr out ↦ subst By (sym (cond-false _ _ _ out)) (save_overflow chunk_at origin s)
      ]

  pub snap_marked : IsMarkedBy s.overflow (write_snap piece part origin s).state.snap.overflow (write_snap piece part origin s).reply
  snap_marked =
      let By : Answered Saving → Type 0 = λ (x : Answered Saving). IsMarkedBy s.overflow x.state.snap.overflow x.reply in
      elim (cases_Bool (shuts chunk_at s)) [
        | inl shut ↦ subst By (sym (cond-true _ _ _ shut)) (shut_not_never chunk_at s shut, refl)
        | inr free ↦ subst By (sym (cond-false _ _ _ free)) (taken_marked free)
      ]

-- its number and the origin's bytes stay
place_origin : (piece : Span) (part : List ℕ) (origin : Device) (s : Snap) (o : Option ℕ) → ((write_place piece part origin s o).state.origin.bytes ≡ origin.bytes) × ((write_place piece part origin s o).state.snap.number ≡ s.number)
place_origin piece part origin s None = (refl, refl)
place_origin piece part origin s (Some n) = (refl, refl)

snap_stays : (piece : Span) (part : List ℕ) (origin : Device) (s : Snap) → ((write_snap piece part origin s).state.origin.bytes ≡ origin.bytes) × ((write_snap piece part origin s).state.snap.number ≡ s.number)
snap_stays piece part origin s =
    let c : ℕ = piece.first / s.chunk in
    let a : Saving = save c origin s in
    let Stays : Answered Saving → Type 0 = λ (x : Answered Saving). (x.state.origin.bytes ≡ origin.bytes) × (x.state.snap.number ≡ s.number) in
    elim (cases_Bool (shuts c s)) [
      | inl shut ↦ subst Stays (sym (cond-true _ _ _ shut)) (refl, refl)
      | inr free ↦ subst Stays (sym (cond-false _ _ _ free)) (elim (cases_Bool a.snap.live) [
        | inl live ↦ (let p = place_origin piece part a.origin a.snap (place_of (pairs_of a.snap.chunk a.snap.store.bytes) (piece.first / a.snap.chunk)) in
            subst Stays (sym (cond-true _ _ _ live)) (p.0 ∙ save_bytes c origin s, p.1 ∙ save_number c origin s))
        | inr out ↦ subst Stays (sym (cond-false _ _ _ out)) (save_bytes c origin s, save_number c origin s)
      ])
    ]

-- what all snapshots show after a write of one, and whether that is marked
abbrev pub AreShownBy : ℕ → Span → List ℕ → List Entry → List Entry → Reply → Type 0
AreShownBy number piece part old new (Data bytes) = ⊥
AreShownBy number piece part old new Flushed = ⊥
AreShownBy number piece part old new Written = ((array : List ℕ) × (saved_at number old ≡ Live array)) × (overflow_under number old ≢ Did) × (new ≡ changed_at number (with_bytes piece.first part) old)
AreShownBy number piece part old new (Refused Declined) = new ≡ changed_at number (λ saved. Invalid) old
AreShownBy number piece part old new (Refused Io) = ((array : List ℕ) × (saved_at number old ≡ Live array)) × (new ≡ old)
AreShownBy number piece part old new (Refused Overflow) = ((array : List ℕ) × (saved_at number old ≡ Live array)) × (overflow_under number old ≢ Never) × (new ≡ marked_in number old)

entry_is : (e : Entry) (number : ℕ) (saved : Saved) (overflow : Overflowing) → e.number ≡ number → e.saved ≡ saved → e.overflow ≡ overflow → e ≡ record { number = number; saved = saved; overflow = overflow }
entry_is e number saved overflow is shows full =
    let mk : ℕ → Saved → Overflowing → Entry = λ (n : ℕ) (s : Saved) (o : Overflowing). record { number = n; saved = s; overflow = o } in
    ap (λ (n : ℕ). mk n e.saved e.overflow) is ∙ ap (λ (s : Saved). mk number s e.overflow) shows ∙ ap (mk number saved) full

shown_first : (number : ℕ) (piece : Span) (part : List ℕ) (old new : Entry) (es : List Entry) (reply : Reply) → (old.number == number) ≡ true → new.number ≡ old.number
    → IsShownBy piece part old.saved new.saved reply → IsMarkedBy old.overflow new.overflow reply → AreShownBy number piece part (old ∷ es) (new ∷ es) reply
shown_first number piece part old new es (Data bytes) this same by full = by
shown_first number piece part old new es Flushed this same by full = by
shown_first number piece part old new es Written this same by full = (
  (by.0, cond-true _ _ _ this ∙ by.1),
  (λ did. full.0 (sym (cond-true _ _ _ this) ∙ did)),
  ap (λ (e : Entry). e ∷ es) (entry_is new old.number (with_bytes piece.first part old.saved) old.overflow same (by.2 ∙ sym (ap (with_bytes piece.first part) by.1)) full.1) ∙ sym (cond-true _ _ _ this),
)
shown_first number piece part old new es (Refused Declined) this same by full =
    ap (λ (e : Entry). e ∷ es) (entry_is new old.number Invalid old.overflow same by full) ∙ sym (cond-true _ _ _ this)
shown_first number piece part old new es (Refused Io) this same by full =
    ((by.0, cond-true _ _ _ this ∙ by.1), ap (λ (e : Entry). e ∷ es) (entry_is new old.number old.saved old.overflow same by.2 full))
shown_first number piece part old new es (Refused Overflow) this same by full = (
  (by.0, cond-true _ _ _ this ∙ by.1),
  (λ never. full.0 (sym (cond-true _ _ _ this) ∙ never)),
  ap (λ (e : Entry). e ∷ es) (entry_is new old.number old.saved Did same by.2 full.1) ∙ sym (cond-true _ _ _ this),
)

shown_later : (number : ℕ) (piece : Span) (part : List ℕ) (e : Entry) (old new : List Entry) (reply : Reply) → (e.number == number) ≡ false → AreShownBy number piece part old new reply → AreShownBy number piece part (e ∷ old) (e ∷ new) reply
shown_later number piece part e old new (Data bytes) other by = by
shown_later number piece part e old new Flushed other by = by
shown_later number piece part e old new Written other by = (
  (by.0.0, cond-false _ _ _ other ∙ by.0.1),
  (λ did. by.1 (sym (cond-false _ _ _ other) ∙ did)),
  ap (λ (es : List Entry). e ∷ es) by.2 ∙ sym (cond-false _ _ _ other),
)
shown_later number piece part e old new (Refused Declined) other by = ap (λ (es : List Entry). e ∷ es) by ∙ sym (cond-false _ _ _ other)
shown_later number piece part e old new (Refused Io) other by = ((by.0.0, cond-false _ _ _ other ∙ by.0.1), ap (λ (es : List Entry). e ∷ es) by.1)
shown_later number piece part e old new (Refused Overflow) other by = (
  (by.0.0, cond-false _ _ _ other ∙ by.0.1),
  (λ never. by.1 (sym (cond-false _ _ _ other) ∙ never)),
  ap (λ (es : List Entry). e ∷ es) by.2 ∙ sym (cond-false _ _ _ other),
)

pub in_stays : (number : ℕ) (piece : Span) (part : List ℕ) (origin : Device) (snaps : List Snap) → (in_snap number (write_snap piece part) origin snaps).state.origin.bytes ≡ origin.bytes
in_stays number piece part origin [] = refl
in_stays number piece part origin (s ∷ snaps) = elim (cases_Bool (s.number == number)) [
  | inl this ↦ ap (λ (a : Answered Volume). a.state.origin.bytes) (cond-true _ _ _ this) ∙ (snap_stays piece part origin s).0
  | inr other ↦ ap (λ (a : Answered Volume). a.state.origin.bytes) (cond-false _ _ _ other) ∙ in_stays number piece part origin snaps
]

-- the first with a number
module _ (sectors chunk : ℕ) (ok : is_chunk chunk ≡ true) (number : ℕ) (piece : Span) (part : List ℕ) (fits : IsInside sectors chunk piece) (len : length part ≡ 512 * piece.count) where
  pub in_written : (origin : Device) (snaps : List Snap) → length origin.bytes ≡ 512 * sectors → Each (HasChunks chunk) snaps → Each (IsOrderly sectors) snaps
      → AreShownBy number piece part (map (entry_of origin.bytes) snaps) (map (entry_of origin.bytes) (in_snap number (write_snap piece part) origin snaps).state.snaps) (in_snap number (write_snap piece part) origin snaps).reply
  in_written origin [] whole chunks orders = refl
  in_written origin (s ∷ snaps) whole chunks orders =
      let By : Answered Volume → Type 0 = λ (a : Answered Volume). AreShownBy number piece part (map (entry_of origin.bytes) (s ∷ snaps)) (map (entry_of origin.bytes) a.state.snaps) a.reply in
      elim (cases_Bool (s.number == number)) [
        | inl this ↦ subst By (sym (cond-true _ _ _ this))
            (shown_first number piece part (entry_of origin.bytes s) (entry_of origin.bytes (write_snap piece part origin s).state.snap) (map (entry_of origin.bytes) snaps) (write_snap piece part origin s).reply this (snap_stays piece part origin s).1
            (snap_written sectors chunk ok piece part fits len origin s whole chunks.0 orders.0) (snap_marked piece part origin s))
        | inr other ↦ subst By (sym (cond-false _ _ _ other))
            (shown_later number piece part (entry_of origin.bytes s) (map (entry_of origin.bytes) snaps) (map (entry_of origin.bytes) (in_snap number (write_snap piece part) origin snaps).state.snaps) (in_snap number (write_snap piece part) origin snaps).reply other
            (in_written origin snaps whole chunks.1 orders.1))
      ]
