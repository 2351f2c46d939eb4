-- A command on a volume whose journal is full.
use Rattle.std.proofs.Common.{◌≡◌, ◌≢◌, ◌⊎◌, ℕ, ◌<◌, List, true, length, set, sym, ◌∙◌, inl, inr, arith}
use Rattle.std.specs.Prelude.{Result, Ok, Err, IfErr}
use Rattle.std.proofs.lemmas.List.{get_or-set_same, length-set}
use Rattle.sector.specs.declared.refusal.Refusal.{Refusal}
use Rattle.sector.specs.declared.refusal.Refusal.TheVariants.{Busy, JournalFull, NotQuiet}
use Rattle.command_semantics.specs.declared.place.Role.{Role}
use Rattle.command_semantics.specs.declared.place.Place.TheVariants.{In}
use Rattle.command_semantics.specs.Messages.{put_volume}
use Rattle.command_semantics.specs.Places.{found, place_of, volume_at}
use Rattle.command_semantics.specs.State.{Stacked, Table, Volume}
use Rattle.command_semantics.proofs.AtPlace.{volume_here}
use Rattle.device_list.specs.Asked.{has_asked_much}
use Rattle.device_commands.specs.Asked.{has_asked_much_for, has_asked_much_in}

-- the volume that stands at its place now was asked for much
pub asked_there : (stacks : List Stacked) (volumes : List Volume) (v : ℕ) (new : Volume) → v < length volumes → has_asked_much new ≡ true → has_asked_much_in (volume_at v (record { stacks = stacks; volumes = set volumes v new })) ≡ true
asked_there stacks volumes v new lt much =
    let table : Table = record { stacks = stacks; volumes = set volumes v new } in
    let len : length (set volumes v new) ≡ length volumes = length-set volumes v new in
    let there : volume_at v table ≡ Ok new = volume_here table v new (omega (arith, lt, len)) (sym (get_or-set_same volumes v new new lt)) in
    rw there much

-- so it was where a command of it finds no place
pub full_in : {A : Type 0} (r : Result A Refusal) (v : ℕ) (table : Table) (new : Volume) → v < length table.volumes → IfErr r (λ e. e ≡ JournalFull → has_asked_much new ≡ true) → IfErr r (λ e. e ≡ JournalFull → has_asked_much_in (volume_at v (put_volume v new table)) ≡ true)
full_in (Ok done) v table new lt h = tt
full_in (Err e) v table new lt h = λ is. asked_there table.stacks table.volumes v new lt (h is)

-- and the volume of a name
pub full_for : {A : Type 0} (r : Result A Refusal) (name : List ℕ) (old new : Table) (v : ℕ) (role : Role) → found (place_of name old) ≡ Ok (In v role) → IfErr r (λ e. e ≡ JournalFull → has_asked_much_in (volume_at v new) ≡ true) → IfErr r (λ e. e ≡ JournalFull → has_asked_much_for name old new ≡ true)
full_for (Ok done) name old new v role at h = tt
full_for (Err e) name old new v role at h = λ is. rw at (h is)

-- an origin that does not go is not left for want of room in a journal
pub left_anyway : (e : Refusal) (P P1 P2 P3 : Type 0) → ((e ≡ Busy) × P) ⊎ ((e ≡ NotQuiet) × P1 × P2 × P3) → e ≢ JournalFull
left_anyway e P P1 P2 P3 (inl busy) full = absurd (let differ : Busy ≡ JournalFull = sym busy.0 ∙ full in cc)
left_anyway e P P1 P2 P3 (inr quiet) full = absurd (let differ : NotQuiet ≡ JournalFull = sym quiet.0 ∙ full in cc)
