-- A command on the volume at a place.
use Rattle.std.proofs.Common.{◌≡◌, ◌⊎◌, ℕ, ◌<◌, true, List, length, get_or, set, refl, sym, ap, ◌∙◌, arith, inl, inr}
use Rattle.std.specs.Prelude.{◌&&◌, Bool, Result, Ok, Err, IfErr, IfOk, OnErr, OnOk, is_ok, false}
use Rattle.std.proofs.lemmas.List.{get_or-set_same, length-set}
use Rattle.sector.specs.declared.refusal.Refusal.{Refusal}
use Rattle.words.specs.Given.{Gives}
use Rattle.command_semantics.specs.declared.place.Role.{Role}
use Rattle.command_semantics.specs.declared.place.Place.TheVariants.{In}
use Rattle.command_semantics.specs.State.{Volume, Table}
use Rattle.command_semantics.specs.Places.{place_of, found, volume_at}
use Rattle.command_semantics.specs.Sound.{is_sound, is_sound_volume}
use Rattle.command_semantics.proofs.SoundFrames.{put_volume_sound, volume_quiet, volume_whole}
use Rattle.command_semantics.specs.Raw.{whole, in_use, load, loaded_at}
use Rattle.command_semantics.specs.Changes.{Did, Serves}
use Rattle.command_semantics.specs.Messages.{put_volume}
use Rattle.command_semantics.specs.Sectors.{Asked, asked_of, in_volume, IsInVolume}
use Rattle.command_semantics.specs.Starting.{asked_at}
use Rattle.command_semantics.specs.Status.{status_in, status_at}
use Rattle.plain_machine.specs.declared.event.Event.{Event as Step}
use Rattle.plain_machine.specs.declared.event.Outcome.{Outcome}
use Rattle.plain_machine.specs.declared.event.NotDue.{NotDue}
use Rattle.device_list.specs.Flights.{IsNotDue, IsStepped}
use Rattle.device_commands.specs.Flights.{IsNotDueIn}
use Rattle.device_commands.specs.Ruled.{is_quiet_in, rests_at}
use Rattle.device_commands.specs.Status.{IsStatusIn}
use Rattle.command_semantics.proofs.AtPlace.{put_back, volume_here}

-- where memory or room ran out: nothing changed, or this holds of the volume
abbrev pub Starved : (Volume → Volume → Type 0) → ℕ → Table → Table → Type 0
Starved holds v table t = (t ≡ table) ⊎ IsInVolume holds v table t (volume_at v table)

starved_in : (holds : Volume → Volume → Type 0) (v : ℕ) (table : Table) (old new : Volume) → v < length table.volumes → old ≡ get_or table.volumes v old → (new ≡ old) ⊎ holds old new → Starved holds v table (put_volume v new table)
starved_in holds v table old new lt at (inl same) =
    inl (ap (λ volumes. record { stacks = table.stacks; volumes = volumes }) (put_back table.volumes v old new at same))
starved_in holds v table old new lt at (inr did) = let there = volume_here table v old lt at in rw there (inr (new, did, refl))

-- what it answers and leaves of the table is what it answers and leaves of the volume
pub serves_in : {A : Type 0} (r : Result A Refusal) (holds : Volume → Volume → Type 0) (command : Volume → Did A Volume) (v : ℕ) (table : Table) (old new : Volume) → v < length table.volumes → old ≡ get_or table.volumes v old → Serves r new (λ w. (w ≡ old) ⊎ holds old w) (command old) → Serves r (put_volume v new table) (Starved holds v table) (in_volume v table command (volume_at v table))
serves_in {A = A} (Ok answer) holds command v table old new lt at did =
    let there = volume_here table v old lt at in rw there (ap (λ (d : Did A Volume). record { answer = d.answer; left = put_volume v d.left table }) did)
serves_in {A = A} (Err e) holds command v table old new lt at did = (
  λ other.
      let there = volume_here table v old lt at in
      let h = did.0 other in rw there (ap (λ (d : Did A Volume). record { answer = d.answer; left = put_volume v d.left table }) h),
  λ none. starved_in holds v table old new lt at (did.1 none),
)

-- what holds of the volume that was changed
pub changed_in : (holds : Volume → Volume → Type 0) (v : ℕ) (table : Table) (old new : Volume) → v < length table.volumes → old ≡ get_or table.volumes v old → holds old new → IsInVolume holds v table (put_volume v new table) (volume_at v table)
changed_in holds v table old new lt at did = let there = volume_here table v old lt at in rw there (new, did, refl)

-- a request is in flight in it
pub flies_in : (r : Result ℕ Refusal) (v : ℕ) (table : Table) (old new : Volume) → v < length table.volumes → old ≡ get_or table.volumes v old → OnOk r (new.quiet ≡ false) → OnOk r (IsInVolume (λ was now. now.quiet ≡ false) v table (put_volume v new table) (volume_at v table))
flies_in (Err e) v table old new lt at flies = tt
flies_in (Ok number) v table old new lt at flies = changed_in (λ was now. now.quiet ≡ false) v table old new lt at flies

-- what is refused before the volume is asked
pub asked_in : (P : Refusal → Type 0) (v : ℕ) (role : Role) (first count : ℕ) (table : Table) (old : Volume) → v < length table.volumes → old ≡ get_or table.volumes v old → IfErr (asked_of role first count old) P → IfErr (asked_at (In v role) first count table) P
asked_in P v role first count table old lt at did = let there = volume_here table v old lt at in rw there did

-- and that it changes nothing
pub stays_in : (Q : Type 0) (v : ℕ) (role : Role) (first count : ℕ) (table : Table) (old new : Volume) → v < length table.volumes → old ≡ get_or table.volumes v old → IfErr (asked_of role first count old) (λ _. (new ≡ old) × Q) → IfErr (asked_at (In v role) first count table) (λ _. (put_volume v new table ≡ table) × Q)
stays_in Q v role first count table old new lt at did =
    let there = volume_here table v old lt at in rw there (on (asked_of role first count old) did)
  where
    on : (r : Result Asked Refusal) → IfErr r (λ _. (new ≡ old) × Q) → IfErr r (λ _. (put_volume v new table ≡ table) × Q)
    on (Ok asks) h = tt
    on (Err e) h = (ap (λ volumes. record { stacks = table.stacks; volumes = volumes }) (put_back table.volumes v old new at h.0), h.1)

pub remains_in : (v : ℕ) (role : Role) (first count : ℕ) (table : Table) (old new : Volume) → v < length table.volumes → old ≡ get_or table.volumes v old → IfErr (asked_of role first count old) (λ _. new ≡ old) → IfErr (asked_at (In v role) first count table) (λ _. put_volume v new table ≡ table)
remains_in v role first count table old new lt at did =
    let there = volume_here table v old lt at in rw there (on (asked_of role first count old) did)
  where
    on : (r : Result Asked Refusal) → IfErr r (λ _. new ≡ old) → IfErr r (λ _. put_volume v new table ≡ table)
    on (Ok asks) h = tt
    on (Err e) h = ap (λ volumes. record { stacks = table.stacks; volumes = volumes }) (put_back table.volumes v old new at h)

-- what was done to the volume, of what was asked for
pub asked_did : (holds : Asked → Volume → Volume → Type 0) (v : ℕ) (role : Role) (first count : ℕ) (table : Table) (old new : Volume) → v < length table.volumes → old ≡ get_or table.volumes v old → IfOk (asked_of role first count old) (λ asks. holds asks old new) → IfOk (asked_at (In v role) first count table) (λ asks. IsInVolume (holds asks) v table (put_volume v new table) (volume_at v table))
asked_did holds v role first count table old new lt at did =
    let there = volume_here table v old lt at in rw there (on (asked_of role first count old) did)
  where
    on : (r : Result Asked Refusal) → IfOk r (λ asks. holds asks old new) → IfOk r (λ asks. IsInVolume (holds asks) v table (put_volume v new table) (Ok old))
    on (Ok asks) h = (new, h, refl)
    on (Err e) h = tt

-- premises go to what was asked for
pub both_asked : {A : Type 0} (P P' : A → Type 0) (Q Q' : Type 0) (r : Result A Refusal) → (Q → IfOk r P) → (Q' → IfOk r P') → IfOk r (λ x. (Q → P x) × (Q' → P' x))
both_asked P P' Q Q' (Ok x) h k = (h, k)
both_asked P P' Q Q' (Err e) h k = tt

-- the same under a number that was told
pub number_did : (holds : ℕ → Asked → Volume → Volume → Type 0) (r : Result ℕ Refusal) (v : ℕ) (role : Role) (first count : ℕ) (table : Table) (old new : Volume) → v < length table.volumes → old ≡ get_or table.volumes v old → IfOk r (λ number. IfOk (asked_of role first count old) (λ asks. holds number asks old new)) → IfOk r (λ number. IfOk (asked_at (In v role) first count table) (λ asks. IsInVolume (holds number asks) v table (put_volume v new table) (volume_at v table)))
number_did holds (Err e) v role first count table old new lt at did = tt
number_did holds (Ok number) v role first count table old new lt at did = asked_did (holds number) v role first count table old new lt at did

-- an event that was done, and one that is not due
pub stepped_did : (event : Step) (r : Result Outcome NotDue) (v : ℕ) (table : Table) (old new : Volume) → v < length table.volumes → old ≡ get_or table.volumes v old → IfOk r (λ outcome. IsStepped event outcome old new) → IfOk r (λ outcome. IsInVolume (IsStepped event outcome) v table (put_volume v new table) (volume_at v table))
stepped_did event (Err e) v table old new lt at did = tt
stepped_did event (Ok outcome) v table old new lt at did = changed_in (IsStepped event outcome) v table old new lt at did

pub not_due_in : (apart : Bool) (event : Step) (r : Result Outcome NotDue) (v : ℕ) (table : Table) (old : Volume) → v < length table.volumes → old ≡ get_or table.volumes v old → ((apart && old.quiet) ≡ false → OnErr r (IsNotDue event old)) → (apart && is_quiet_in (volume_at v table)) ≡ false → OnErr r (IsNotDueIn event (volume_at v table))
not_due_in apart event (Ok outcome) v table old lt at did busy = tt
not_due_in apart event (Err e) v table old lt at did busy =
    let there = volume_here table v old lt at in
    let now : (apart && old.quiet) ≡ false = sym (ap (λ r. apart && is_quiet_in r) there) ∙ busy in rw there (did now)

pub same_in : (r : Result Outcome NotDue) (v : ℕ) (table : Table) (old new : Volume) → old ≡ get_or table.volumes v old → OnErr r (new ≡ old) → OnErr r (put_volume v new table ≡ table)
same_in (Ok outcome) v table old new at same = tt
same_in (Err e) v table old new at same = ap (λ volumes. record { stacks = table.stacks; volumes = volumes }) (put_back table.volumes v old new at same)

-- an event of a sound table is not due, and leaves it sound
pub step_sound : (r : Result Outcome NotDue) (v : ℕ) (table : Table) (old new : Volume) → v < length table.volumes → old ≡ get_or table.volumes v old → (old.quiet ≡ true → is_ok r ≡ false) → OnErr r (new ≡ old) → is_sound table ≡ true → is_sound (put_volume v new table) ≡ true
step_sound (Ok outcome) v table old new lt at idle same sound = absurd (never (idle (volume_quiet table v old sound lt at)))
  where
    never : true ≡ false → ⊥
    never wrong = absurd (cc)
step_sound (Err e) v table old new lt at idle same sound =
    let whole : is_sound_volume new ≡ true = ap is_sound_volume same ∙ volume_whole table v old sound lt at in put_volume_sound table v new whole sound

-- a volume that is as it was leaves the table so
pub idle_in : (v : ℕ) (table : Table) (old new : Volume) → old ≡ get_or table.volumes v old → new ≡ old → put_volume v new table ≡ table
idle_in v table old new at same = ap (λ volumes. record { stacks = table.stacks; volumes = volumes }) (put_back table.volumes v old new at same)

-- nothing is left to do in it
pub rests_in : (v : ℕ) (table : Table) (old new : Volume) (r : Result (Unit {0}) Refusal) → v < length table.volumes → OnOk r (new.quiet ≡ true) → OnOk r (rests_at v (put_volume v new table) ≡ Ok tt)
rests_in v table old new (Err e) lt quiet = tt
rests_in v table old new (Ok done) lt quiet =
    let len : length (set table.volumes v new) ≡ length table.volumes = length-set table.volumes v new in
    let there : volume_at v (put_volume v new table) ≡ Ok new = volume_here (put_volume v new table) v new (omega (arith, lt, len)) (sym (get_or-set_same table.volumes v new new lt)) in
    rw there (rw quiet refl)

-- the status line of a device of it
pub shown_in : (r : Result (List ℕ) Refusal) (v : ℕ) (role : Role) (table : Table) (old : Volume) → v < length table.volumes → old ≡ get_or table.volumes v old → Gives r (status_in role old) → Gives r (status_at (In v role) table)
unfolding status_at
shown_in r v role table old lt at did = let there = volume_here table v old lt at in rw there did

-- whatever is in flight
pub among_in : (r : Result (List ℕ) Refusal) (role : Role) (v : ℕ) (table : Table) (old : Volume) → v < length table.volumes → old ≡ get_or table.volumes v old → IsStatusIn r role (Ok old) → IsStatusIn r role (volume_at v table)
among_in r role v table old lt at did = let there = volume_here table v old lt at in rw there did

-- a disk of it is not written
pub load_refused : (name : List ℕ) (first : ℕ) (bytes : List ℕ) (table : Table) (count v : ℕ) (role : Role) (old : Volume) (e : Refusal) → whole bytes ≡ Ok count → found (place_of name table) ≡ Ok (In v role) → v < length table.volumes → old ≡ get_or table.volumes v old → in_use role first count old ≡ Err e → load name first bytes table ≡ Err e
unfolding load loaded_at
load_refused name first bytes table count v role old e some at lt is busy =
    let there = volume_here table v old lt is in rw some (rw at (rw there busy))
