-- A volume that is stopped: the names of devices stay apart, and what is left of a sound table is sound.
use Rattle.std.proofs.Common.{◌≡◌, ℕ, ◌+◌, ◌<◌, ◌≤◌, Bool, true, false, List, [], ◌∷◌, ◌++◌, length, get_or, arith}
use Rattle.std.specs.Prelude.{Option, Some, None, nat_lt, if◌then◌else◌, Ok}
use Rattle.std.specs.List.{sum_by, list_all, remove}
use Rattle.std.proofs.lemmas.List.Sums.{sum_by-append, sum_by-cons, sum_by-remove}
use Rattle.std.proofs.lemmas.List.Folds.{list_all-append}
use Rattle.whole_commands.specs.Snaps.{Snap}
use Rattle.command_semantics.specs.State.{Stacked, Names, Merging, Volume, Table, names_in}
use Rattle.command_semantics.specs.Places.{volume_at}
use Rattle.command_semantics.specs.Changes.{changed}
use Rattle.command_semantics.specs.Events.{origin_by}
use Rattle.command_semantics.specs.Naming.{stack_sum, names_sum, merging_sum, volume_sum, AreNamed}
use Rattle.command_semantics.specs.Sound.{is_sound_stack, is_sound_volume, is_sound}
use Rattle.command_semantics.specs.Stopping.{freed, store_freed, merging_freed, snap_stores, stores_among, stores_left, stopped, volume_stopped}
use Rattle.command_semantics.proofs.Keeping.{keeps_then, volume_there}
use Rattle.command_semantics.proofs.NamedFrames.{no_more_named, volume_was}
use Rattle.command_semantics.proofs.SoundFrames.{all_removed, of_both, sound_parts}

-- How often a name is among the stacks that are left: no more often than among the devices of the volume.

stores_sum : (f : List ℕ → ℕ) (names : List Names) (snaps : List Snap) → sum_by (stack_sum f) (snap_stores names snaps) ≤ sum_by (names_sum f) names
stores_sum f [] snaps = omega arith
stores_sum f (n ∷ names) [] = omega arith
stores_sum f (n ∷ names) (s ∷ snaps) =
    let left = sum_by-cons (stack_sum f) (store_freed n s) (snap_stores names snaps) in
    let all = sum_by-cons (names_sum f) n names in
    let rest = stores_sum f names snaps in
    omega (arith, left, all, rest)

among_sum : (f : List ℕ → ℕ) (names : List Names) (snaps : List Snap) (g : Merging) → sum_by (stack_sum f) (stores_among names snaps g) ≤ sum_by (names_sum f) names + names_sum f g.names
among_sum f [] snaps g = let left = sum_by-cons (stack_sum f) (merging_freed g) [] in omega (arith, left)
among_sum f (n ∷ names) [] g = let left = sum_by-cons (stack_sum f) (merging_freed g) [] in omega (arith, left)
among_sum f (n ∷ names) (s ∷ snaps) g = by (nat_lt g.merge.number s.number) (among_sum f names snaps g)
  where
    by : (before : Bool) → sum_by (stack_sum f) (stores_among names snaps g) ≤ sum_by (names_sum f) names + names_sum f g.names → sum_by (stack_sum f) (if before then merging_freed g ∷ snap_stores (n ∷ names) (s ∷ snaps) else store_freed n s ∷ stores_among names snaps g) ≤ sum_by (names_sum f) (n ∷ names) + names_sum f g.names
    by true rest =
        let left = sum_by-cons (stack_sum f) (merging_freed g) (snap_stores (n ∷ names) (s ∷ snaps)) in
        let here = stores_sum f (n ∷ names) (s ∷ snaps) in
        omega (arith, left, here)
    by false rest =
        let left = sum_by-cons (stack_sum f) (store_freed n s) (stores_among names snaps g) in
        let all = sum_by-cons (names_sum f) n names in
        omega (arith, left, all, rest)

left_sum : (f : List ℕ → ℕ) (names : List Names) (snaps : List Snap) (merging : Option Merging) → sum_by (stack_sum f) (stores_left names snaps merging) ≤ sum_by (names_sum f) names + merging_sum f (names_in merging)
left_sum f names snaps None = let rest = stores_sum f names snaps in omega (arith, rest)
left_sum f names snaps (Some g) = among_sum f names snaps g

stopped_sum : (f : List ℕ → ℕ) (old : Volume) → sum_by (stack_sum f) (stopped old) ≤ volume_sum f old
stopped_sum f old =
    let all = sum_by-cons (stack_sum f) (freed old.under old.state.origin) (stores_left old.snaps old.state.snaps old.merging) in
    let rest = left_sum f old.snaps old.state.snaps old.merging in
    omega (arith, all, rest)

-- volume v goes, and these stacks are left
abbrev pub all_left : List Stacked → ℕ → Table → Table
all_left stacks v table = record { stacks = table.stacks ++ stacks; volumes = remove table.volumes v }

pub all_left_named : (table : Table) (v : ℕ) (old : Volume) → v < length table.volumes → old ≡ get_or table.volumes v old → AreNamed table → AreNamed (all_left (stopped old) v table)
all_left_named table v old lt at named =
    no_more_named table (all_left (stopped old) v table) (λ f.
    let more = sum_by-append (stack_sum f) table.stacks (stopped old) in
    let less = sum_by-remove (volume_sum f) table.volumes v old lt in
    let was = volume_was f table.volumes v old at in
    let few = stopped_sum f old in
    omega (arith, more, less, was, few)) named

-- `stop`
pub volume_stopped_named : (name : List ℕ) (table : Table) → AreNamed table → AreNamed (changed table (volume_stopped name table)).left
unfolding volume_stopped
volume_stopped_named name table named =
    keeps_then AreNamed (origin_by name table) _ table named (λ v is.
    keeps_then AreNamed (volume_at v table) (λ old. Ok (all_left (stopped old) v table)) table named (λ old at.
    let there = volume_there v table old at in all_left_named table v old there.0 there.1 named))

-- where no stack that is left drops writes
pub all_left_sound : (table : Table) (v : ℕ) (stacks : List Stacked) → list_all is_sound_stack stacks ≡ true → is_sound table ≡ true → is_sound (all_left stacks v table) ≡ true
all_left_sound table v stacks loud sound =
    let h = sound_parts table sound in
    of_both _ _ (rw (list_all-append is_sound_stack table.stacks stacks) (of_both _ _ h.0 loud)) (all_removed is_sound_volume table.volumes v h.1)
