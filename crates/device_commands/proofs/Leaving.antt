-- A snapshot that leaves a volume, and whose store is left.
use Rattle.std.proofs.Common.{◌≡◌, ◌≢◌, ℕ, ◌<◌, List, [], ◌∷◌, ◌++◌, true, length, get_or, set, refl, sym, ap, ◌∙◌, subst}
use Rattle.std.specs.Prelude.{Result, Ok, Err}
use Rattle.sector.specs.declared.refusal.Refusal.{Refusal}
use Rattle.sector.specs.declared.refusal.Refusal.TheVariants.{JournalFull}
use Rattle.device.specs.Layers.{is_loud}
use Rattle.command_semantics.specs.State.{Stacked, Volume, Table}
use Rattle.whole_commands.specs.Attaching.{given_back}
use Rattle.command_semantics.specs.Changes.{Enters}
use Rattle.command_semantics.specs.Messages.{snap_at}
use Rattle.command_semantics.specs.Origins.{still}
use Rattle.command_semantics.specs.Raw.{names_at}
use Rattle.command_semantics.specs.Snapshots.{stack_of, without_snapshot, parted, left_by}
use Rattle.command_semantics.specs.Sound.{is_sound}
use Rattle.command_semantics.proofs.AtPlace.{put_back, volume_here}
use Rattle.command_semantics.proofs.Keeping.{came_by, same_ok}
use Rattle.whole_commands.proofs.Starved.{other_full}
use Rattle.command_semantics.proofs.SoundFrames.{of_both, given_by_sound, volume_sound, volume_quiet}

pub left_by_is : (table : Table) (v k : ℕ) (stacked : Stacked) (stacks : List Stacked) (old new : Volume) → v < length table.volumes → old ≡ get_or table.volumes v old → parted k old ≡ Ok (stacked, new) → stacks ≡ table.stacks ++ stacked ∷ [] → left_by v k table ≡ Ok (record { stacks = stacks; volumes = set table.volumes v new })
unfolding left_by
left_by_is table v k stacked stacks old new lt at did more =
    let there = volume_here table v old lt at in
    let left : List Stacked → Result Table Refusal = λ ss. Ok (record { stacks = ss; volumes = set table.volumes v new }) in
    rw there (rw did (ap left (sym more)))

-- a snapshot that does not leave
pub left_by_stays : (table : Table) (v k : ℕ) (e : Refusal) (stacks : List Stacked) (old new : Volume) → v < length table.volumes → old ≡ get_or table.volumes v old → (e ≢ JournalFull → parted k old ≡ Err e) → new ≡ old → stacks ≡ table.stacks → Enters (Err e) table (record { stacks = stacks; volumes = set table.volumes v new }) (left_by v k table)
unfolding left_by
left_by_stays table v k e stacks old new lt at refused same kept = (
  ap (λ (ss : List Stacked). record { stacks = ss; volumes = set table.volumes v new }) kept
      ∙ ap (λ (ws : List Volume). record { stacks = table.stacks; volumes = ws }) (put_back table.volumes v old new at same),
  λ other. let there = volume_here table v old lt at in rw there (let is = refused (other_full e other) in rw is refl),
)

-- the volume that it leaves is as quiet as it was
parted_quiet : (k : ℕ) (stacked : Stacked) (old new : Volume) → parted k old ≡ Ok (stacked, new) → new.quiet ≡ old.quiet
unfolding parted
parted_quiet k stacked old new did =
    let parts : Stacked × Volume = (stacked, new) in
    let a = came_by (names_at k old) _ parts did in
    let b = came_by (snap_at k old.state) _ parts a.2 in
    let q = came_by (still old) _ parts b.2 in
    let c = came_by (stack_of a.0 (given_back b.0.number old.state.snaps)) _ parts q.2 in
    let is : ◌≡◌ {A = Stacked × Volume} (c.0, without_snapshot k b.0.number old) parts = same_ok _ parts c.2 in
    sym (ap (λ (p : Stacked × Volume). p.1.quiet) is)

pub left_by_sound : (table : Table) (v k : ℕ) (stacked : Stacked) (stacks : List Stacked) (old new : Volume) → v < length table.volumes → old ≡ get_or table.volumes v old → parted k old ≡ Ok (stacked, new) → (old.sound ≡ true → is_loud stacked.device.layers ≡ true) → new.sound ≡ old.sound → stacks ≡ table.stacks ++ stacked ∷ [] → is_sound table ≡ true → is_sound (record { stacks = stacks; volumes = set table.volumes v new }) ≡ true
left_by_sound table v k stacked stacks old new lt at did loud same more sound =
    let whole = volume_sound table v old sound lt at in
    let P : List Stacked → Type 0 = λ ss. is_sound (record { stacks = ss; volumes = set table.volumes v new }) ≡ true in
    subst P (sym more) (given_by_sound table v stacked new (loud whole) (of_both new.sound new.quiet (same ∙ whole) (parted_quiet k stacked old new did ∙ volume_quiet table v old sound lt at)) sound)
