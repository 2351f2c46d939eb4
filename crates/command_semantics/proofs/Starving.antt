-- Calls for which memory, or the room of a journal, may run out leave a table sound, by what they did.
use Rattle.std.proofs.Common.{◌≡◌, ◌≢◌, ◌⊎◌, ℕ, ◌<◌, List, length, get_or, refl, sym, ap, ◌∙◌, inl, inr, subst}
use Rattle.std.specs.Prelude.{Bool, Result, Ok, Err, true, false}
use Rattle.std.proofs.lemmas.Bool.{cases_Bool}
use Rattle.sector.specs.declared.refusal.Refusal.{Refusal}
use Rattle.sector.specs.declared.refusal.Refusal.TheVariants.{NoSuchDevice, OutOfRange, Busy, NotQuiet, NoMemory, Invalid, MergingSnapshot, Io, TooMany, BadTable, BadChunk, BadHeader, BadVersion, Damaged, StoreTooSmall, Stale, MergeInProgress, NotMerging, NotDue, JournalFull, ChunkMismatch, NotFinished, Overflow}
use Rattle.table.specs.declared.lines.Line.{Line}
use Rattle.whole_commands.specs.Refusals.{is_starved}
use Rattle.whole_commands.proofs.Starved.{other_memory}
use Rattle.command_semantics.specs.declared.place.Role.{Role}
use Rattle.command_semantics.specs.declared.place.Place.{Place}
use Rattle.command_semantics.specs.declared.place.Place.TheVariants.{Free, In}
use Rattle.command_semantics.specs.State.{Volume, Table}
use Rattle.command_semantics.specs.Places.{place_of, found, volume_at}
use Rattle.command_semantics.specs.Changes.{Changes, Did, Does, Enters, Serves, ServesIf}
use Rattle.command_semantics.specs.Raw.{whole}
use Rattle.command_semantics.specs.Creating.{create}
use Rattle.command_semantics.specs.Journal.{enters_journal}
use Rattle.command_semantics.specs.Sectors.{Asked, asked_of, read, write, IsReadAsked, IsPartWrittenBy, IsPartWritten, IsInVolume, IsAtRole, IsReadStarved, IsWriteStarvedBy, IsWriteStarved}
use Rattle.command_semantics.specs.Sound.{is_sound_volume, drops_writes}
use Rattle.command_semantics.proofs.Keeping.{volume_there}
use Rattle.command_semantics.proofs.SoundFrames.{volume_whole, put_volume_sound}
use Rattle.command_semantics.proofs.SoundRules.{IsSound, create_sound, read_sound, write_sound}

-- a refusal is want of memory, or it isn't
pub memory_or_not : (e : Refusal) → (e ≡ NoMemory) ⊎ (e ≢ NoMemory)
memory_or_not NoMemory = inl refl
memory_or_not NoSuchDevice = inr (λ h. cc)
memory_or_not OutOfRange = inr (λ h. cc)
memory_or_not Busy = inr (λ h. cc)
memory_or_not NotQuiet = inr (λ h. cc)
memory_or_not Invalid = inr (λ h. cc)
memory_or_not MergingSnapshot = inr (λ h. cc)
memory_or_not Io = inr (λ h. cc)
memory_or_not TooMany = inr (λ h. cc)
memory_or_not BadTable = inr (λ h. cc)
memory_or_not BadChunk = inr (λ h. cc)
memory_or_not BadHeader = inr (λ h. cc)
memory_or_not BadVersion = inr (λ h. cc)
memory_or_not Damaged = inr (λ h. cc)
memory_or_not StoreTooSmall = inr (λ h. cc)
memory_or_not Stale = inr (λ h. cc)
memory_or_not MergeInProgress = inr (λ h. cc)
memory_or_not NotMerging = inr (λ h. cc)
memory_or_not NotDue = inr (λ h. cc)
memory_or_not JournalFull = inr (λ h. cc)
memory_or_not ChunkMismatch = inr (λ h. cc)
memory_or_not NotFinished = inr (λ h. cc)
memory_or_not Overflow = inr (λ h. cc)

-- a call that takes no place in a journal never wants for room there
pub changes_enter : {T : Type 0} (r : Result (Unit {0}) Refusal) (old new : T) (rule : Result T Refusal) → Changes r old new rule → Enters r old new rule
changes_enter (Ok done) old new rule h = h
changes_enter (Err e) old new rule h = (h.0, λ other. h.1 (other_memory e other))

-- what a call left, by what its rule leaves and by what it leaves where memory ran out
pub does_keep : {A T : Type 0} (P : T → Type 0) (r : Result A Refusal) (new : T) (starved : T → Type 0) (rule : Did A T) → Does r new starved rule → P rule.left → ((t : T) → starved t → P t) → P new
does_keep {A = A} {T = T} P (Ok answer) new starved rule h after ran_out = subst (λ (d : Did A T). P d.left) h after
does_keep {A = A} {T = T} P (Err e) new starved rule h after ran_out = by (memory_or_not e)
  where
    by : (e ≡ NoMemory) ⊎ (e ≢ NoMemory) → P new
    by (inl is) = ran_out new (h.1 is)
    by (inr other) = subst (λ (d : Did A T). P d.left) (h.0 other) after

-- the same of a call that takes places in a journal
pub serves_keep : {A T : Type 0} (P : T → Type 0) (r : Result A Refusal) (new : T) (starved : T → Type 0) (rule : Did A T) → Serves r new starved rule → P rule.left → ((t : T) → starved t → P t) → P new
serves_keep {A = A} {T = T} P (Ok answer) new starved rule h after ran_out = subst (λ (d : Did A T). P d.left) h after
serves_keep {A = A} {T = T} P (Err e) new starved rule h after ran_out = by (cases_Bool (is_starved e))
  where
    by : (is_starved e ≡ true) ⊎ (is_starved e ≡ false) → P new
    by (inl is) = ran_out new (h.1 is)
    by (inr other) = subst (λ (d : Did A T). P d.left) (h.0 other) after

-- and of one that may take such a place
pub serves_if_keep : {A T : Type 0} (P : T → Type 0) (enters : Bool) (r : Result A Refusal) (new : T) (starved : T → Type 0) (rule : Did A T) → ServesIf enters r new starved rule → P rule.left → ((t : T) → starved t → P t) → P new
serves_if_keep P true r new starved rule h after ran_out = serves_keep P r new starved rule h after ran_out
serves_if_keep P false r new starved rule h after ran_out = does_keep P r new starved rule h after ran_out

-- a volume of the same flag
in_volume_starved : (holds : Volume → Volume → Type 0) (v : ℕ) (old new : Table) → ((was after : Volume) → holds was after → is_sound_volume after ≡ is_sound_volume was) → IsInVolume holds v old new (volume_at v old) → IsSound old → IsSound new
in_volume_starved holds v old new same h sound = by (volume_at v old) (volume_there v old) h
  where
    by : (r : Result Volume Refusal) → ((was : Volume) → r ≡ Ok was → (v < length old.volumes) × (was ≡ get_or old.volumes v was)) → IsInVolume holds v old new r → IsSound new
    by (Err e) there h = absurd h
    by (Ok was) there h =
        let at = there was refl in
        subst IsSound (sym h.2) (put_volume_sound old v h.0 (same was h.0 h.1 ∙ volume_whole old v was sound at.0 at.1) sound)

at_role_starved : (holds : Role → Volume → Volume → Type 0) (old new : Table) (r : Result Place Refusal) → ((role : Role) (was after : Volume) → holds role was after → is_sound_volume after ≡ is_sound_volume was) → IsAtRole holds old new r → IsSound old → IsSound new
at_role_starved holds old new (Err e) same h sound = absurd h
at_role_starved holds old new (Ok (Free i depth)) same h sound = absurd h
at_role_starved holds old new (Ok (In v role)) same h sound = in_volume_starved (holds role) v old new (same role) h sound

pub read_starved_sound : (name : List ℕ) (first count : ℕ) (old new : Table) → IsReadStarved name first count old new → IsSound old → IsSound new
unfolding IsReadStarved
read_starved_sound name first count old new h sound =
    at_role_starved (λ role. IsReadAsked count) old new (found (place_of name old)) (λ role was after is. ap is_sound_volume is) h sound

part_written_whole : (count : ℕ) (bytes : List ℕ) (was after : Volume) (asked : Result Asked Refusal) → IsPartWrittenBy count bytes was after asked → is_sound_volume after ≡ is_sound_volume was
part_written_whole count bytes was after (Err e) h = absurd h
part_written_whole count bytes was after (Ok asks) h = ap is_sound_volume h.left

pub write_starved_sound : (name : List ℕ) (first : ℕ) (bytes : List ℕ) (old new : Table) → IsWriteStarved name first bytes old new → IsSound old → IsSound new
unfolding IsWriteStarved IsPartWritten
write_starved_sound name first bytes old new h sound = by (whole bytes) h
  where
    by : (r : Result ℕ Refusal) → IsWriteStarvedBy name first bytes old new r → IsSound new
    by (Err e) h = absurd h
    by (Ok count) h =
        at_role_starved (λ role. IsPartWritten role first count bytes) old new (found (place_of name old))
        (λ role was after is. part_written_whole count bytes was after (asked_of role first count was) is) h sound

-- `create`, by what it did
pub create_stays_sound : (name : List ℕ) (line : Line) (r : Result (Unit {0}) Refusal) (old new : Table) → ServesIf (enters_journal line.target) r new (λ t. t ≡ old) (create name line old) → drops_writes line.target ≡ false → IsSound old → IsSound new
create_stays_sound name line r old new h none sound =
    serves_if_keep IsSound (enters_journal line.target) r new (λ t. t ≡ old) (create name line old) h (create_sound name line old none sound) (λ t same. subst IsSound (sym same) sound)

-- `read`
pub read_stays_sound : (name : List ℕ) (first count : ℕ) (r : Result (List ℕ) Refusal) (old new : Table) → Serves r new (λ t. (t ≡ old) ⊎ IsReadStarved name first count old t) (read name first count old) → IsSound old → IsSound new
read_stays_sound name first count r old new h sound =
    serves_keep IsSound r new (λ t. (t ≡ old) ⊎ IsReadStarved name first count old t) (read name first count old) h (read_sound name first count old sound) by
  where
    by : (t : Table) → (t ≡ old) ⊎ IsReadStarved name first count old t → IsSound t
    by t (inl same) = subst IsSound (sym same) sound
    by t (inr part) = read_starved_sound name first count old t part sound

-- `write`
pub write_stays_sound : (name : List ℕ) (first : ℕ) (bytes : List ℕ) (r : Result (Unit {0}) Refusal) (old new : Table) → Serves r new (λ t. (t ≡ old) ⊎ IsWriteStarved name first bytes old t) (write name first bytes old) → IsSound old → IsSound new
write_stays_sound name first bytes r old new h sound =
    serves_keep IsSound r new (λ t. (t ≡ old) ⊎ IsWriteStarved name first bytes old t) (write name first bytes old) h (write_sound name first bytes old sound) by
  where
    by : (t : Table) → (t ≡ old) ⊎ IsWriteStarved name first bytes old t → IsSound t
    by t (inl same) = subst IsSound (sym same) sound
    by t (inr part) = write_starved_sound name first bytes old t part sound
