-- A snapshot whose copy came to its end is at rest again.
use Rattle.std.proofs.Common.{◌≡◌, inl, inr, ℕ, ◌+◌, ◌*◌, ◌<◌, true, false, List, [], ◌∷◌, ◌++◌, length, refl, ap, ◌∙◌, sym, subst}
use Rattle.std.specs.Prelude.{if◌then◌else◌}
use Rattle.std.proofs.lemmas.Bool.{cases_Bool, cond-true, cond-false}
use Rattle.sector.specs.declared.pair.Pair.{Pair}
use Rattle.cow_format.specs.Pairs.{pairs_of}
use Rattle.cow_format.specs.NextPlace.{stepped}
use Rattle.whole_commands.specs.Saves.{Saving as Stored, next_of, saved}
use Rattle.whole_commands.proofs.Saved.{AfterSaving, IsSavedTo}
use Rattle.whole_commands.proofs.Laws.{saving_law}
use Rattle.whole_commands.specs.Devices.{Device, answers}
use Rattle.whole_commands.specs.Snaps.{Snap}
use Rattle.whole_commands.specs.Saving.{spoilt, copy, next_place, is_full, has_chunk}
use Rattle.event_machine.specs.Held.{SnapHeld}
use Rattle.event_machine.specs.Rest.{IsKept}
use Rattle.whole_commands.proofs.Saves.{chunk_read, stored_of, save_live}
use Rattle.whole_commands.proofs.Keeps.{copy_keeps}
use Rattle.whole_commands.proofs.Nexts.{next_more}

module _ (sectors c : ℕ) (origin : Device) (h held : SnapHeld) where
  abbrev pub next_pair : Pair
  next_pair = record { old = c; new = next_place h.snap }

  -- what the big step leaves of a snapshot that lacks the chunk and has room for it
  abbrev pub saved_snap : Snap
  saved_snap = if answers origin (chunk_read c origin h.snap) then copy origin.bytes next_pair h.snap else spoilt h.snap

  saved_keeps : (f : Snap → ℕ) → ((t : Snap) (device : Device) → f (record t { store = device }) ≡ f t) → ((t : Snap) → f (spoilt t) ≡ f t) → f saved_snap ≡ f h.snap
  saved_keeps f stores spoils = elim (cases_Bool (answers origin (chunk_read c origin h.snap))) [
    | inl ok ↦ ap f (cond-true _ _ _ ok) ∙ copy_keeps f stores spoils origin.bytes next_pair h.snap
    | inr failed ↦ ap f (cond-false _ _ _ failed) ∙ spoils h.snap
  ]

  pub saved_chunk : saved_snap.chunk ≡ h.snap.chunk
  saved_chunk = saved_keeps (λ (t : Snap). t.chunk) (λ t d. refl) (λ t. refl)

  pub saved_number : saved_snap.number ≡ h.snap.number
  saved_number = saved_keeps (λ (t : Snap). t.number) (λ t d. refl) (λ t. refl)

  pub rests_live : length origin.bytes ≡ 512 * sectors → IsKept sectors h → h.snap.live ≡ true → h.snap.chunk * c < sectors → has_chunk c h.snap ≡ false → is_full h.snap ≡ false → held.snap ≡ saved_snap → held.pairs ≡ h.pairs ++ next_pair ∷ [] → held.next ≡ stepped h.snap.chunk (next_place h.snap + 1) → held.zeroed ≡ false → held.firm ≡ false → held.marked ≡ false → held.snap.live ≡ true → IsKept sectors held
  rests_live whole kept on inside lacks room is pairs next unzeroed loose unmarked live =
      let s : Snap = h.snap in
      let (size, order) = kept.order in
      let stored : stored_of saved_snap ≡ saved s.chunk origin.bytes s.store.bytes c = save_live c origin s on lacks room (sym (ap (λ (t : Snap). t.live) is) ∙ live) in
      let law : AfterSaving s.chunk sectors size c origin.bytes s.store.bytes (saved s.chunk origin.bytes s.store.bytes c) = saving_law s.chunk sectors size c origin.bytes s.store.bytes whole order inside in
      let alive : (saved s.chunk origin.bytes s.store.bytes c).live ≡ true = sym (ap (λ (t : Stored). t.live) stored) ∙ sym (ap (λ (t : Snap). t.live) is) ∙ live in
      let bytes : (saved s.chunk origin.bytes s.store.bytes c).store ≡ held.snap.store.bytes = sym (ap (λ (t : Stored). t.store) stored) ∙ sym (ap (λ (t : Snap). t.store.bytes) is) in
      let done : IsSavedTo s.chunk sectors size c origin.bytes s.store.bytes held.snap.store.bytes = subst (IsSavedTo s.chunk sectors size c origin.bytes s.store.bytes) bytes (law.1 alive) in
      let chunk : held.snap.chunk ≡ s.chunk = ap (λ (t : Snap). t.chunk) is ∙ saved_chunk in
      let here : pairs_of s.chunk held.snap.store.bytes ≡ held.pairs = done.pairs ∙ cond-false _ _ _ lacks ∙ ap (λ (ps : List Pair). ps ++ next_pair ∷ []) kept.pairs ∙ sym pairs in
      record {
        order = (size, rw chunk done.order);
        pairs = rw chunk here;
        next = next ∙ sym (next_more s.chunk h.pairs next_pair (ap (next_of s.chunk) kept.pairs)) ∙ ap (next_of s.chunk) (sym pairs) ∙ ap (λ x. next_of x held.pairs) (sym chunk);
        zeroed = unzeroed;
        firm = loose;
        unmarked = unmarked;
      }
