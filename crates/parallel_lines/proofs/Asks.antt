-- The number of a snapshot that is there.
use Rattle.std.proofs.Common.{◌≡◌, ℕ, true, false, [], get_or, Ok, inl, inr, refl, sym, ap, ◌∙◌, arith}
use Rattle.std.proofs.lemmas.List.{get_or_past}
use Rattle.std.proofs.lemmas.Option.{slice_get_cases}
use Rattle.whole_commands.specs.Snaps.{Snap, Volume}
use Rattle.plain_machine.specs.declared.request.Dev.TheVariants.{Snap as to_snap}
use Rattle.plain_machine.specs.declared.request.Overflowing.TheVariants.{Never}
use Rattle.command_semantics.specs.State.{Volume as Named}
use Rattle.command_semantics.specs.Messages.{snap_at}
use Rattle.command_semantics.specs.Sectors.{dev_of}
use Rattle.command_semantics.specs.declared.place.Role.{Role}
use Rattle.command_semantics.specs.declared.place.Role.TheVariants.{Snapshot}
use Rattle.parallel_lines.specs.Asking.{merges_of}

abbrev numbered : ℕ → Snap
numbered n = record { number = n; chunk = 0; live = true; stale = false; overflow = Never; store = record { bytes = []; layers = [] } }

pub snap_there : (k : ℕ) (state : Volume) (n : ℕ) → ((d : Snap) → n ≡ (get_or state.snaps k d).number) → (s : Snap) × (snap_at k state ≡ Ok s) × (n ≡ s.number)
snap_there k state n is = elim (slice_get_cases state.snaps k).1 [
  | inl (s, low, here, same) ↦ (s, rw here refl, is s ∙ ap (λ (x : Snap). x.number) same)
  | inr (past, none) ↦ (
      let zero : n ≡ 0 = is (numbered 0) ∙ ap (λ (x : Snap). x.number) (get_or_past state.snaps k (numbered 0) past) in
      let one : n ≡ 1 = is (numbered 1) ∙ ap (λ (x : Snap). x.number) (get_or_past state.snaps k (numbered 1) past) in
      absurd (omega (arith, zero, one)))
]

-- what it is sent to, and what is merged
pub dev_there : (k : ℕ) (role : Role) (state : Volume) (n : ℕ) → role ≡ Snapshot k → ((d : Snap) → n ≡ (get_or state.snaps k d).number) → Ok (to_snap n) ≡ dev_of role state
unfolding dev_of
dev_there k role state n at is =
    let there = snap_there k state n is in
    ap (λ (m : ℕ). Ok (to_snap m)) there.2 ∙ sym (let here : dev_of (Snapshot k) state ≡ Ok (to_snap there.0.number) = rw there.1 refl in here) ∙ ap (λ (r : Role). dev_of r state) (sym at)

pub merge_there : (k : ℕ) (role : Role) (volume : Named) (n : ℕ) → role ≡ Snapshot k → ((d : Snap) → n ≡ (get_or volume.state.snaps k d).number) → merges_of role volume ≡ Ok n
merge_there k role volume n at is =
    let there = snap_there k volume.state n is in
    ap (λ (r : Role). merges_of r volume) at ∙ (let here : merges_of (Snapshot k) volume ≡ Ok there.0.number = rw there.1 refl in here) ∙ ap (λ (m : ℕ). Ok m) (sym there.2)
