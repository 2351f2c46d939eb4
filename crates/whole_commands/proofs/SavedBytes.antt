-- Saving a chunk in each snapshot changes no byte of the origin.
use Rattle.std.proofs.Common.{◌≡◌, ℕ, ◌/◌, List, [], ◌∷◌, refl, ap, ◌∙◌, inl, inr}
use Rattle.std.specs.Prelude.{◌||◌, not}
use Rattle.std.proofs.lemmas.Bool.{cases_Bool}
use Rattle.whole_commands.specs.Devices.{Device}
use Rattle.whole_commands.specs.Snaps.{Snap}
use Rattle.whole_commands.specs.Saving.{Saving, is_full, has_chunk, save}
use Rattle.whole_commands.specs.Pieces.{save_at, save_all}
use Rattle.whole_commands.proofs.Saves.{saves_nothing, saves_full, saves_copy}

-- a copy's read changes no byte of the origin
pub save_bytes : (c : ℕ) (origin : Device) (s : Snap) → (save c origin s).origin.bytes ≡ origin.bytes
save_bytes c origin s = elim (cases_Bool (not s.live || has_chunk c s)) [
  | inl none ↦ ap (λ (x : Saving). x.origin.bytes) (saves_nothing c origin s none)
  | inr some ↦ elim (cases_Bool (is_full s)) [
    | inl full ↦ ap (λ (x : Saving). x.origin.bytes) (saves_full c origin s some full)
    | inr room ↦ ap (λ (x : Saving). x.origin.bytes) (saves_copy c origin s some room)
  ]
]

pub save_at_bytes : (wanted : Snap → ℕ) (origin : Device) (snaps : List Snap) → (save_at wanted origin snaps).origin.bytes ≡ origin.bytes
save_at_bytes wanted origin [] = refl
save_at_bytes wanted origin (s ∷ snaps) = save_at_bytes wanted (save (wanted s) origin s).origin snaps ∙ save_bytes (wanted s) origin s

pub save_all_bytes : (first : ℕ) (origin : Device) (snaps : List Snap) → (save_all first origin snaps).origin.bytes ≡ origin.bytes
save_all_bytes first origin snaps = save_at_bytes (λ s. first / s.chunk) origin snaps
