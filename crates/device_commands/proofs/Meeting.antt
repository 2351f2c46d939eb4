-- A stack that was taken out of the table, and a volume that it is attached to or not.
use Rattle.std.proofs.Common.{◌≡◌, ◌⊎◌, ℕ, ◌<◌, Bool, List, true, false, length, get_or, set, refl, sym, ap, ◌∙◌, subst}
use Rattle.std.specs.Prelude.{Ok, Err, Some, None, nat_le}
use Rattle.std.specs.List.{remove}
use Rattle.sector.specs.declared.refusal.Refusal.{Refusal}
use Rattle.whole_commands.specs.Refusals.{is_starved}
use Rattle.command_semantics.specs.State.{Stacked, Volume, Table}
use Rattle.command_semantics.specs.Places.{place_of}
use Rattle.command_semantics.specs.Disks.{device_count}
use Rattle.command_semantics.specs.Naming.{AreNamed}
use Rattle.command_semantics.specs.Changes.{Serves}
use Rattle.command_semantics.specs.Snapshots.{meet, snapshot_left, snapshot_met, snapshot_by}
use Rattle.command_semantics.proofs.AtPlace.{put_back, stack_here, volume_here}
use Rattle.command_semantics.proofs.NamedFrames.{taken_by_named, put_named}
use Rattle.device_list.specs.Names.{IsNamedMore}
use Rattle.device_commands.specs.Busy.{IsBusyRefused, busy_with}
use Rattle.device_list.specs.Taking.{IsNotMet}
use Rattle.device_commands.specs.Devices.{named_at}
use Rattle.device_commands.specs.Meeting.{IsMetBy}

by_those : (name : List ℕ) (chunk : ℕ) (overflow : Bool) (i v : ℕ) (table : Table) (stacked : Stacked) (old : Volume) → i < length table.stacks → stacked ≡ get_or table.stacks i stacked → v < length table.volumes → old ≡ get_or table.volumes v old → snapshot_by name chunk overflow table (named_at v i table) ≡ snapshot_met i v (meet name chunk overflow stacked old) table
by_those name chunk overflow i v table stacked old i_lt i_at v_lt v_at =
    let below = stack_here table i stacked i_lt i_at in
    let here = volume_here table v old v_lt v_at in
    rw below (rw here refl)

-- it is attached
pub met_ok : (name : List ℕ) (chunk : ℕ) (overflow : Bool) (i v : ℕ) (table : Table) (stacked : Stacked) (old new : Volume) (stacks : List Stacked) → i < length table.stacks → stacked ≡ get_or table.stacks i stacked → v < length table.volumes → old ≡ get_or table.volumes v old → stacks ≡ remove table.stacks i → ((meet name chunk overflow stacked old).refused ≡ None) × ((meet name chunk overflow stacked old).volume ≡ new) → snapshot_by name chunk overflow table (named_at v i table) ≡ record { answer = Ok tt; left = record { stacks = stacks; volumes = set table.volumes v new } }
met_ok name chunk overflow i v table stacked old new stacks i_lt i_at v_lt v_at out met =
    by_those name chunk overflow i v table stacked old i_lt i_at v_lt v_at
    ∙ ap (λ r. snapshot_left i v r (meet name chunk overflow stacked old).stacked (meet name chunk overflow stacked old).volume table) met.0
    ∙ ap (λ (w : Volume). record { answer = Ok tt; left = record { stacks = remove table.stacks i; volumes = set table.volumes v w } }) met.1
    ∙ ap (λ (ss : List Stacked). record { answer = Ok tt; left = record { stacks = ss; volumes = set table.volumes v new } }) (sym out)

-- it goes back to its place
refused_left : (name : List ℕ) (chunk : ℕ) (overflow : Bool) (i v : ℕ) (table : Table) (stacked back : Stacked) (old : Volume) (stacks : List Stacked) (volumes : List Volume) (e : Refusal) → i < length table.stacks → stacked ≡ get_or table.stacks i stacked → v < length table.volumes → old ≡ get_or table.volumes v old → stacks ≡ set table.stacks i back → volumes ≡ table.volumes → ((meet name chunk overflow stacked old).refused ≡ Some e) × ((meet name chunk overflow stacked old).stacked ≡ back) → snapshot_by name chunk overflow table (named_at v i table) ≡ record { answer = Err e; left = record { stacks = stacks; volumes = volumes } }
refused_left name chunk overflow i v table stacked back old stacks volumes e i_lt i_at v_lt v_at put same met =
    by_those name chunk overflow i v table stacked old i_lt i_at v_lt v_at
    ∙ ap (λ r. snapshot_left i v r (meet name chunk overflow stacked old).stacked (meet name chunk overflow stacked old).volume table) met.0
    ∙ ap (λ (s : Stacked). record { answer = Err e; left = record { stacks = set table.stacks i s; volumes = table.volumes } }) met.1
    ∙ ap (λ (ss : List Stacked). record { answer = Err e; left = record { stacks = ss; volumes = table.volumes } }) (sym put)
    ∙ ap (λ (ws : List Volume). record { answer = Err e; left = record { stacks = stacks; volumes = ws } }) (sym same)

nothing_met : (i : ℕ) (table : Table) (stacked back : Stacked) (stacks : List Stacked) (volumes : List Volume) → stacked ≡ get_or table.stacks i stacked → stacks ≡ set table.stacks i back → volumes ≡ table.volumes → back ≡ stacked → record { stacks = stacks; volumes = volumes } ≡ table
nothing_met i table stacked back stacks volumes i_at put same kept =
    ap (λ (ws : List Volume). record { stacks = stacks; volumes = ws }) same
    ∙ ap (λ (ss : List Stacked). record { stacks = ss; volumes = table.volumes }) (put ∙ put_back table.stacks i stacked back i_at kept)

pub met_err : (name : List ℕ) (chunk : ℕ) (overflow : Bool) (i v : ℕ) (table : Table) (stacked back : Stacked) (old : Volume) (stacks : List Stacked) (volumes : List Volume) (e : Refusal) → i < length table.stacks → stacked ≡ get_or table.stacks i stacked → v < length table.volumes → old ≡ get_or table.volumes v old → stacks ≡ set table.stacks i back → volumes ≡ table.volumes → (is_starved e ≡ false → ((meet name chunk overflow stacked old).refused ≡ Some e) × ((meet name chunk overflow stacked old).stacked ≡ back)) → (is_starved e ≡ true → back ≡ stacked) → Serves (Err e) (record { stacks = stacks; volumes = volumes }) (λ t. t ≡ table) (snapshot_by name chunk overflow table (named_at v i table))
met_err name chunk overflow i v table stacked back old stacks volumes e i_lt i_at v_lt v_at put same met kept = (
  λ other. refused_left name chunk overflow i v table stacked back old stacks volumes e i_lt i_at v_lt v_at put same (met other),
  λ none. nothing_met i table stacked back stacks volumes i_at put same (kept none),
)

-- a volume that is not quiet is not attached to
pub busy_ok : (i v : ℕ) (table new : Table) (stacked : Stacked) (old : Volume) → i < length table.stacks → stacked ≡ get_or table.stacks i stacked → v < length table.volumes → old ≡ get_or table.volumes v old → old.quiet ≡ true → IsBusyRefused (Ok tt) table new (named_at v i table)
busy_ok i v table new stacked old i_lt i_at v_lt v_at quiet =
    let below = stack_here table i stacked i_lt i_at in
    let here = volume_here table v old v_lt v_at in
    rw below (rw here (λ busy. absurd (both old.quiet quiet busy)))
  where
    both : (b : Bool) → b ≡ true → b ≡ false → ⊥
    both b is isnt = absurd (cc)

-- and the stack goes back to its place as it was
pub busy_err : (i v : ℕ) (table : Table) (stacked back : Stacked) (old : Volume) (stacks : List Stacked) (volumes : List Volume) (e : Refusal) → i < length table.stacks → stacked ≡ get_or table.stacks i stacked → v < length table.volumes → old ≡ get_or table.volumes v old → stacks ≡ set table.stacks i back → volumes ≡ table.volumes
    → (old.quiet ≡ false → ((is_starved e ≡ true) ⊎ (e ≡ busy_with stacked old)) × (back ≡ stacked))
    → IsBusyRefused (Err e) table (record { stacks = stacks; volumes = volumes }) (named_at v i table)
busy_err i v table stacked back old stacks volumes e i_lt i_at v_lt v_at put same why =
    let below = stack_here table i stacked i_lt i_at in
    let here = volume_here table v old v_lt v_at in
    rw below (rw here (λ busy.
    let got = why busy in (nothing_met i table stacked back stacks volumes i_at put same got.1, (e, refl, got.0))))

-- the names, where it is attached
pub attached_named : (table : Table) (name : List ℕ) (overflow : Bool) (i v : ℕ) (stacked : Stacked) (old new : Volume) (stacks : List Stacked) → place_of name table ≡ None → nat_le 64 (device_count table) ≡ false → i < length table.stacks → stacked ≡ get_or table.stacks i stacked → v < length table.volumes → old ≡ get_or table.volumes v old → stacks ≡ remove table.stacks i → IsNamedMore name overflow stacked old new → AreNamed table → AreNamed (record { stacks = stacks; volumes = set table.volumes v new })
attached_named table name overflow i v stacked old new stacks none room i_lt i_at v_lt v_at out more named =
    let P : List Stacked → Type 0 = λ ss. AreNamed (record { stacks = ss; volumes = set table.volumes v new }) in
    subst P (sym out) (taken_by_named table name overflow i v stacked old new none room i_lt i_at v_lt v_at more.origin more.under more.snaps more.merging named)

-- and where it goes back to its place
pub put_back_named : (table : Table) (i : ℕ) (stacked back : Stacked) (stacks : List Stacked) (volumes : List Volume) → i < length table.stacks → stacked ≡ get_or table.stacks i stacked → stacks ≡ set table.stacks i back → volumes ≡ table.volumes → back.names ≡ stacked.names → AreNamed table → AreNamed (record { stacks = stacks; volumes = volumes })
put_back_named table i stacked back stacks volumes lt at put same names named =
    let P : List Stacked → Type 0 = λ ss. AreNamed (record { stacks = ss; volumes = table.volumes }) in
    let Q : List Volume → Type 0 = λ ws. AreNamed (record { stacks = stacks; volumes = ws }) in
    subst Q (sym same) (subst P (sym put) (put_named table i stacked back lt at names named))

-- what was made of the stack and the volume, whatever is in flight and whichever device drops writes
pub made_ok : (name : List ℕ) (chunk : ℕ) (overflow : Bool) (i v : ℕ) (table : Table) (stacked : Stacked) (old new : Volume) (stacks : List Stacked) → i < length table.stacks → stacked ≡ get_or table.stacks i stacked → v < length table.volumes → old ≡ get_or table.volumes v old → stacks ≡ remove table.stacks i
    → IsNamedMore name overflow stacked old new → old.quiet ≡ true → IsMetBy name chunk overflow (Ok tt) table (record { stacks = stacks; volumes = set table.volumes v new }) (named_at v i table)
made_ok name chunk overflow i v table stacked old new stacks i_lt i_at v_lt v_at out more quiet =
    let below = stack_here table i stacked i_lt i_at in
    let here = volume_here table v old v_lt v_at in
    rw below (rw here (record {
      after = new;
      more = more;
      quiet = quiet;
      left = ap (λ (ss : List Stacked). record { stacks = ss; volumes = set table.volumes v new }) out;
    }))

pub made_err : (name : List ℕ) (chunk : ℕ) (overflow : Bool) (i v : ℕ) (table : Table) (stacked back : Stacked) (old : Volume) (stacks : List Stacked) (volumes : List Volume) (e : Refusal) → i < length table.stacks → stacked ≡ get_or table.stacks i stacked → v < length table.volumes → old ≡ get_or table.volumes v old → stacks ≡ set table.stacks i back → volumes ≡ table.volumes
    → IsNotMet chunk stacked e old → back.names ≡ stacked.names → (is_starved e ≡ true → back ≡ stacked) → (old.quiet ≡ false → ((is_starved e ≡ true) ⊎ (e ≡ busy_with stacked old)) × (back ≡ stacked))
    → IsMetBy name chunk overflow (Err e) table (record { stacks = stacks; volumes = volumes }) (named_at v i table)
made_err name chunk overflow i v table stacked back old stacks volumes e i_lt i_at v_lt v_at put same cause names starved busy =
    let below = stack_here table i stacked i_lt i_at in
    let here = volume_here table v old v_lt v_at in
    rw below (rw here (record {
      cause = cause;
      back = back;
      names = names;
      left = ap (λ (ws : List Volume). record { stacks = stacks; volumes = ws }) same ∙ ap (λ (ss : List Stacked). record { stacks = ss; volumes = table.volumes }) put;
      starved = starved;
      busy = λ quiet. (busy quiet).1;
    }))
