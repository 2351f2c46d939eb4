-- The merge of the volume at a place is finished, and its store is left.
use Rattle.std.proofs.Common.{◌≡◌, ◌≢◌, ℕ, ◌<◌, List, [], ◌∷◌, ◌++◌, true, length, get_or, set, refl, sym, ap, ◌∙◌, subst}
use Rattle.std.specs.Prelude.{Result, Ok, Err}
use Rattle.sector.specs.declared.refusal.Refusal.{Refusal}
use Rattle.sector.specs.declared.refusal.Refusal.TheVariants.{JournalFull}
use Rattle.device.specs.Layers.{is_loud}
use Rattle.command_semantics.specs.State.{Stacked, Volume, Table}
use Rattle.command_semantics.specs.Places.{volume_at}
use Rattle.command_semantics.specs.Changes.{Enters}
use Rattle.command_semantics.specs.Merging.{finished}
use Rattle.command_semantics.specs.Naming.{AreNamed}
use Rattle.command_semantics.specs.Sound.{is_sound}
use Rattle.command_semantics.proofs.AtPlace.{put_back, volume_here}
use Rattle.command_semantics.proofs.NamedFrames.{finished_named}
use Rattle.whole_commands.proofs.Starved.{other_full}
use Rattle.command_semantics.proofs.SoundFrames.{given_by_sound, of_both, volume_sound}
use Rattle.device_list.specs.Flights.{IsUnfinished}
use Rattle.device_list.specs.Names.{IsNamedLess}
use Rattle.device_commands.specs.Merging.{IsFinishedIn, IsUnfinishedIn, finished_at}

-- it is refused
stays_as : (table : Table) (v : ℕ) (stacks : List Stacked) (old new : Volume) → old ≡ get_or table.volumes v old → new ≡ old → stacks ≡ table.stacks → record { stacks = stacks; volumes = set table.volumes v new } ≡ table
stays_as table v stacks old new at same kept =
    ap (λ (ss : List Stacked). record { stacks = ss; volumes = set table.volumes v new }) kept
    ∙ ap (λ (ws : List Volume). record { stacks = table.stacks; volumes = ws }) (put_back table.volumes v old new at same)

pub finished_stays : (table : Table) (v : ℕ) (e : Refusal) (stacks : List Stacked) (old new : Volume) → v < length table.volumes → old ≡ get_or table.volumes v old → (e ≢ JournalFull → finished old ≡ Err e) → new ≡ old → stacks ≡ table.stacks → Enters (Err e) table (record { stacks = stacks; volumes = set table.volumes v new }) (finished_at v table)
finished_stays table v e stacks old new lt at refused same kept =
    (stays_as table v stacks old new at same kept, λ other. let there = volume_here table v old lt at in rw there (let is = refused (other_full e other) in rw is refl))

pub unfinished_in : (table : Table) (v : ℕ) (e : Refusal) (old : Volume) → v < length table.volumes → old ≡ get_or table.volumes v old → IsUnfinished e old → IsUnfinishedIn e (volume_at v table)
unfinished_in table v e old lt at why = let there = volume_here table v old lt at in rw there why

-- it is done
pub finished_goes : (table : Table) (v : ℕ) (stacked : Stacked) (stacks : List Stacked) (old new : Volume) → v < length table.volumes → old ≡ get_or table.volumes v old → finished old ≡ Ok (stacked, new) → stacks ≡ table.stacks ++ stacked ∷ [] → finished_at v table ≡ Ok (record { stacks = stacks; volumes = set table.volumes v new })
finished_goes table v stacked stacks old new lt at parted more =
    let there = volume_here table v old lt at in
    let by_stacks : List Stacked → Result Table Refusal = λ ss. Ok (record { stacks = ss; volumes = set table.volumes v new }) in
    rw there (rw parted (ap by_stacks (sym more)))

pub finished_in : (table : Table) (v : ℕ) (stacked : Stacked) (stacks : List Stacked) (old new : Volume) → v < length table.volumes → old ≡ get_or table.volumes v old → IsNamedLess stacked old new → stacks ≡ table.stacks ++ stacked ∷ [] → IsFinishedIn v table (record { stacks = stacks; volumes = set table.volumes v new }) (volume_at v table)
finished_in table v stacked stacks old new lt at less more =
    let there = volume_here table v old lt at in rw there (stacked, new, less, ap (λ (ss : List Stacked). record { stacks = ss; volumes = set table.volumes v new }) more)

-- the names then
pub left_named : (table : Table) (v : ℕ) (stacked : Stacked) (stacks : List Stacked) (old new : Volume) → v < length table.volumes → old ≡ get_or table.volumes v old → IsNamedLess stacked old new → stacks ≡ table.stacks ++ stacked ∷ [] → AreNamed table → AreNamed (record { stacks = stacks; volumes = set table.volumes v new })
left_named table v stacked stacks old new lt at less more named =
    let P : List Stacked → Type 0 = λ ss. AreNamed (record { stacks = ss; volumes = set table.volumes v new }) in
    subst P (sym more) (finished_named table v less.names stacked old new lt at less.store less.origin less.under less.snaps less.was less.merging named)

pub left_sound : (table : Table) (v : ℕ) (stacked : Stacked) (stacks : List Stacked) (old new : Volume) → v < length table.volumes → old ≡ get_or table.volumes v old → (old.sound ≡ true → is_loud stacked.device.layers ≡ true) → new.sound ≡ old.sound → new.quiet ≡ true → stacks ≡ table.stacks ++ stacked ∷ [] → is_sound table ≡ true → is_sound (record { stacks = stacks; volumes = set table.volumes v new }) ≡ true
left_sound table v stacked stacks old new lt at loud same quiet more sound =
    let whole = volume_sound table v old sound lt at in
    let P : List Stacked → Type 0 = λ ss. is_sound (record { stacks = ss; volumes = set table.volumes v new }) ≡ true in
    subst P (sym more) (given_by_sound table v stacked new (loud whole) (of_both new.sound new.quiet (same ∙ whole) quiet) sound)
