-- A snapshot that is live after a chunk was saved for it.
use Rattle.std.proofs.Common.{◌≡◌, inl, inr, ℕ, Bool, true, refl, ap, ◌∙◌, sym}
use Rattle.std.proofs.lemmas.Bool.{cases_Bool, cond-true, true≢false}
use Rattle.whole_commands.specs.Saves.{Saving as Stored, saved}
use Rattle.whole_commands.specs.Devices.{Device}
use Rattle.whole_commands.specs.Snaps.{Snap}
use Rattle.whole_commands.specs.Saving.{Saving, is_full, has_chunk, save}
use Rattle.whole_commands.proofs.Saves.{saves_nothing, saves_full, saves_copy, stored_of, save_live}

-- a snapshot that is live after a chunk was saved was live before, and has it as `specs/Saves` saves it
pub live_saved : (c : ℕ) (origin : Device) (s : Snap) → (save c origin s).snap.live ≡ true → (s.live ≡ true) × (stored_of (save c origin s).snap ≡ saved s.chunk origin.bytes s.store.bytes c)
unfolding saved
live_saved c origin s live = elim (cases_Bool s.live) [
  | inr out ↦ (let is = saves_nothing c origin s (rw out refl) in absurd (true≢false (sym live ∙ ap (λ (x : Saving). x.snap.live) is ∙ out)))
  | inl on ↦ elim (cases_Bool (has_chunk c s)) [
    | inl some ↦ (let is = saves_nothing c origin s (rw (on, some) refl) in
        let mk : Bool → Stored = λ (b : Bool). record { store = s.store.bytes; live = b } in
        (on, ap (λ (x : Saving). stored_of x.snap) is ∙ ap mk on ∙ sym (cond-true _ _ _ some)))
    | inr lacks ↦ elim (cases_Bool (is_full s)) [
      | inl full ↦ (let is = saves_full c origin s (rw (on, lacks) refl) full in absurd (true≢false (sym live ∙ ap (λ (x : Saving). x.snap.live) is)))
      | inr room ↦ (let is = saves_copy c origin s (rw (on, lacks) refl) room in
          (on, ap (λ (x : Saving). stored_of x.snap) is ∙ save_live c origin s on lacks room (sym (ap (λ (x : Saving). x.snap.live) is) ∙ live)))
    ]
  ]
]
