-- Changes of the table keep the names of devices apart, and their number within its limit.
use Rattle.std.proofs.Common.{◌≡◌, ℕ, ◌+◌, ◌<◌, ◌≤◌, Bool, true, false, List, [], ◌∷◌, ◌++◌, length, get_or, drop, refl, sym, ap, ◌∙◌, arith}
use Rattle.std.specs.Prelude.{Option, Some, None, nat_le, slice_set, if◌then◌else◌}
use Rattle.std.specs.List.{sum_by, remove}
use Rattle.std.specs.Str.{bytes_eq}
use Rattle.std.proofs.lemmas.List.Sums.{sum_by-cons, sum_by-remove, sum_by-set, sum_by_push}
use Rattle.std.proofs.lemmas.Slice.Eq.{bytes_eq-Decides}
use Rattle.whole_commands.specs.Devices.{Device}
use Rattle.command_semantics.specs.State.{Stacked, Names, Volume, Table, names_in}
use Rattle.command_semantics.specs.Places.{place_of}
use Rattle.command_semantics.specs.Disks.{devices_of, devices_under, devices_merging, devices_in, device_count, with_stack, alone}
use Rattle.command_semantics.specs.Layers.{put}
use Rattle.command_semantics.specs.Messages.{put_volume}
use Rattle.command_semantics.specs.Origins.{moved_under}
use Rattle.command_semantics.specs.Naming.{stack_sum, names_sum, merging_sum, volume_sum, table_sum, uses, AreNamed}
use Rattle.command_semantics.proofs.Sums.{remove_le, drop_le, ones, same_sum}
use Rattle.command_semantics.proofs.Unused.{no_uses, is}

-- how many devices there are, as a sum

in_stack_counts : (stacked : Stacked) → devices_of stacked ≡ stack_sum (λ n. 1) stacked
in_stack_counts stacked = sym (ones stacked.names)

under_counts : (names : Names) → devices_under names ≡ names_sum (λ n. 1) names
under_counts names = let store = ones names.store in omega (arith, store)

merging_counts : (names : Option Names) → devices_merging names ≡ merging_sum (λ n. 1) names
merging_counts None = refl
merging_counts (Some names) = under_counts names

in_volume_counts : (volume : Volume) → devices_in volume ≡ volume_sum (λ n. 1) volume
in_volume_counts volume =
    let under = ones volume.under in
    let snaps = same_sum devices_under (names_sum (λ n. 1)) volume.snaps under_counts in
    let merging = merging_counts (names_in volume.merging) in
    omega (arith, under, snaps, merging)

counts : (table : Table) → device_count table ≡ table_sum (λ n. 1) table
counts table =
    let stacks = same_sum devices_of (stack_sum (λ n. 1)) table.stacks in_stack_counts in
    let volumes = same_sum devices_in (volume_sum (λ n. 1)) table.volumes in_volume_counts in
    omega (arith, stacks, volumes)

-- devices that are no more than before
pub no_more_named : (table new : Table) → ((f : List ℕ → ℕ) → table_sum f new ≤ table_sum f table) → AreNamed table → AreNamed new
no_more_named table new less named = record {
  apart = λ name. let now = less (is name) in let was = named.apart name in omega (arith, now, was);
  few = let now = less (λ n. 1) in let was = named.few in let a = counts table in let b = counts new in omega (arith, now, was, a, b);
}

one_name : (b : Bool) (was now : ℕ) → was ≤ 1 → (b ≡ true → was ≡ 0) → now ≡ was + (if b then 1 else 0) → now ≤ 1
one_name true was now small none e = let z = none refl in omega (arith, z, e)
one_name false was now small none e = omega (arith, small, e)

-- one device more, of a name that none had
pub one_more_named : (name : List ℕ) (table new : Table) → place_of name table ≡ None → nat_le 64 (device_count table) ≡ false → ((f : List ℕ → ℕ) → table_sum f new ≡ table_sum f table + f name) → AreNamed table → AreNamed new
one_more_named name table new none room gains named = record {
  apart = λ other. one_name (bytes_eq name other) (uses other table) (uses other new) (named.apart other)
      (λ same. ap (λ n. uses n table) (sym ((bytes_eq-Decides name other).0 same)) ∙ no_uses name table none) (gains (is other));
  few =
      let now = gains (λ n. 1) in
      let a = counts table in
      let b = counts new in
      let free : device_count table < 64 = grind arith in
      omega (arith, now, free, a, b);
}

-- What changes of the table do to sums over all devices.

pub sum_with_stack : (f : List ℕ → ℕ) (stacked : Stacked) (table : Table) → table_sum f (with_stack stacked table) ≡ table_sum f table + stack_sum f stacked
sum_with_stack f stacked table = let more = sum_by_push (stack_sum f) table.stacks stacked in omega (arith, more)

-- the names of one of a list
stack_was : (f : List ℕ → ℕ) (stacks : List Stacked) (i : ℕ) (old : Stacked) → old ≡ get_or stacks i old → stack_sum f (get_or stacks i old) ≡ stack_sum f old
stack_was f stacks i old at = ap (stack_sum f) (sym at)

pub volume_was : (f : List ℕ → ℕ) (volumes : List Volume) (v : ℕ) (old : Volume) → old ≡ get_or volumes v old → volume_sum f (get_or volumes v old) ≡ volume_sum f old
volume_was f volumes v old at = ap (volume_sum f) (sym at)

pub sum_put : (f : List ℕ → ℕ) (table : Table) (i : ℕ) (old new : Stacked) → i < length table.stacks → old ≡ get_or table.stacks i old → table_sum f (put i new table) + stack_sum f old ≡ table_sum f table + stack_sum f new
sum_put f table i old new lt at =
    let changed = sum_by-set (stack_sum f) table.stacks i new old lt in
    let was = stack_was f table.stacks i old at in
    omega (arith, changed, was)

pub sum_put_volume : (f : List ℕ → ℕ) (table : Table) (v : ℕ) (old new : Volume) → v < length table.volumes → old ≡ get_or table.volumes v old → table_sum f (put_volume v new table) + volume_sum f old ≡ table_sum f table + volume_sum f new
sum_put_volume f table v old new lt at =
    let changed = sum_by-set (volume_sum f) table.volumes v new old lt in
    let was = volume_was f table.volumes v old at in
    omega (arith, changed, was)

pub sum_moved_under : (f : List ℕ → ℕ) (table : Table) (i : ℕ) (old : Stacked) (volume : Volume) → i < length table.stacks → old ≡ get_or table.stacks i old → table_sum f (moved_under i volume table) + stack_sum f old ≡ table_sum f table + volume_sum f volume
sum_moved_under f table i old volume lt at =
    let less = sum_by-remove (stack_sum f) table.stacks i old lt in
    let was = stack_was f table.stacks i old at in
    let more = sum_by_push (volume_sum f) table.volumes volume in
    omega (arith, less, was, more)

-- stack i is a store of volume v now
abbrev pub taken_by : ℕ → ℕ → Volume → Table → Table
taken_by i v volume table = record { stacks = remove table.stacks i; volumes = slice_set table.volumes v volume }

pub sum_taken_by : (f : List ℕ → ℕ) (table : Table) (i v : ℕ) (stacked : Stacked) (old new : Volume) → i < length table.stacks → stacked ≡ get_or table.stacks i stacked → v < length table.volumes → old ≡ get_or table.volumes v old → table_sum f (taken_by i v new table) + stack_sum f stacked + volume_sum f old ≡ table_sum f table + volume_sum f new
sum_taken_by f table i v stacked old new i_lt i_at v_lt v_at =
    let less = sum_by-remove (stack_sum f) table.stacks i stacked i_lt in
    let stack = stack_was f table.stacks i stacked i_at in
    let changed = sum_by-set (volume_sum f) table.volumes v new old v_lt in
    let volume = volume_was f table.volumes v old v_at in
    omega (arith, less, stack, changed, volume)

-- a stack is left over, and volume v changed
abbrev pub given_by : Stacked → ℕ → Volume → Table → Table
given_by stacked v volume table = record { stacks = table.stacks ++ stacked ∷ []; volumes = slice_set table.volumes v volume }

pub sum_given_by : (f : List ℕ → ℕ) (table : Table) (v : ℕ) (stacked : Stacked) (old new : Volume) → v < length table.volumes → old ≡ get_or table.volumes v old → table_sum f (given_by stacked v new table) + volume_sum f old ≡ table_sum f table + stack_sum f stacked + volume_sum f new
sum_given_by f table v stacked old new lt at =
    let more = sum_by_push (stack_sum f) table.stacks stacked in
    let changed = sum_by-set (volume_sum f) table.volumes v new old lt in
    let was = volume_was f table.volumes v old at in
    omega (arith, more, changed, was)

-- a stack is left over, and volume v goes
abbrev pub left_over : Stacked → ℕ → Table → Table
left_over stacked v table = record { stacks = table.stacks ++ stacked ∷ []; volumes = remove table.volumes v }

pub sum_left_over : (f : List ℕ → ℕ) (table : Table) (v : ℕ) (stacked : Stacked) (old : Volume) → v < length table.volumes → old ≡ get_or table.volumes v old → table_sum f (left_over stacked v table) + volume_sum f old ≡ table_sum f table + stack_sum f stacked
sum_left_over f table v stacked old lt at =
    let more = sum_by_push (stack_sum f) table.stacks stacked in
    let less = sum_by-remove (volume_sum f) table.volumes v old lt in
    let was = volume_was f table.volumes v old at in
    omega (arith, more, less, was)

-- names that are the same
same_names : (f : List ℕ → ℕ) (old new : Stacked) → new.names ≡ old.names → stack_sum f new ≡ stack_sum f old
same_names f old new names = ap (sum_by f) names

pub same_volume_names : (f : List ℕ → ℕ) (old new : Volume) → new.origin ≡ old.origin → new.under ≡ old.under → new.snaps ≡ old.snaps → names_in new.merging ≡ names_in old.merging → volume_sum f new ≡ volume_sum f old
same_volume_names f old new origin under snaps merging =
    let a = ap f origin in
    let b = ap (sum_by f) under in
    let c = ap (sum_by (names_sum f)) snaps in
    let d = ap (merging_sum f) merging in
    omega (arith, a, b, c, d)

-- one name more in front
cons_names : (f : List ℕ → ℕ) (name : List ℕ) (old new : Stacked) → new.names ≡ name ∷ old.names → stack_sum f new ≡ f name + stack_sum f old
cons_names f name old new names = ap (sum_by f) names ∙ sum_by-cons f name old.names

-- The frames: a table is named apart after each change.

-- a stack of the same names stands at a place
pub put_named : (table : Table) (i : ℕ) (old new : Stacked) → i < length table.stacks → old ≡ get_or table.stacks i old → new.names ≡ old.names → AreNamed table → AreNamed (put i new table)
put_named table i old new lt at names named =
    no_more_named table (put i new table) (λ f. let sum = sum_put f table i old new lt at in let same = same_names f old new names in omega (arith, sum, same)) named

-- a volume of the same names
pub put_volume_named : (table : Table) (v : ℕ) (old new : Volume) → v < length table.volumes → old ≡ get_or table.volumes v old → new.origin ≡ old.origin → new.under ≡ old.under → new.snaps ≡ old.snaps → names_in new.merging ≡ names_in old.merging → AreNamed table → AreNamed (put_volume v new table)
put_volume_named table v old new lt at origin under snaps merging named =
    no_more_named table (put_volume v new table) (λ f.
    let sum = sum_put_volume f table v old new lt at in
    let same = same_volume_names f old new origin under snaps merging in
    omega (arith, sum, same)) named

-- a device that stands on no other is there
pub alone_named : (table : Table) (name : List ℕ) (device : Device) → place_of name table ≡ None → nat_le 64 (device_count table) ≡ false → AreNamed table → AreNamed (with_stack (alone name device) table)
alone_named table name device none room named =
    one_more_named name table (with_stack (alone name device) table) none room (λ f.
    let sum = sum_with_stack f (alone name device) table in
    let one = sum_by-cons f name [] in
    omega (arith, sum, one)) named

-- a layer stands on a stack
pub covered_named : (table : Table) (name : List ℕ) (i : ℕ) (old new : Stacked) → place_of name table ≡ None → nat_le 64 (device_count table) ≡ false → i < length table.stacks → old ≡ get_or table.stacks i old → new.names ≡ name ∷ old.names → AreNamed table → AreNamed (put i new table)
covered_named table name i old new none room lt at names named =
    one_more_named name table (put i new table) none room (λ f.
    let sum = sum_put f table i old new lt at in
    let more = cons_names f name old new names in
    omega (arith, sum, more)) named

-- the top of a stack is taken away
pub lowered_named : (table : Table) (i : ℕ) (old new : Stacked) → i < length table.stacks → old ≡ get_or table.stacks i old → new.names ≡ drop 1 old.names → AreNamed table → AreNamed (put i new table)
lowered_named table i old new lt at names named =
    no_more_named table (put i new table) (λ f.
    let sum = sum_put f table i old new lt at in
    let dropped : stack_sum f new ≡ sum_by f (drop 1 old.names) = ap (sum_by f) names in
    let less = drop_le f 1 old.names in
    omega (arith, sum, dropped, less)) named

-- a stack goes
pub removed_named : (table : Table) (i : ℕ) → AreNamed table → AreNamed (record { stacks = remove table.stacks i; volumes = table.volumes })
removed_named table i named = no_more_named table _ (λ f. let less = remove_le (stack_sum f) table.stacks i in omega (arith, less)) named

-- an origin without snapshots stands on a stack
pub moved_under_named : (table : Table) (name : List ℕ) (i : ℕ) (old : Stacked) (volume : Volume) → place_of name table ≡ None → nat_le 64 (device_count table) ≡ false → i < length table.stacks → old ≡ get_or table.stacks i old → volume.origin ≡ name → volume.under ≡ old.names → volume.snaps ≡ [] → names_in volume.merging ≡ None → AreNamed table → AreNamed (moved_under i volume table)
moved_under_named table name i old volume none room lt at origin under snaps merging named =
    one_more_named name table (moved_under i volume table) none room (λ f.
    let sum = sum_moved_under f table i old volume lt at in
    let a = ap f origin in
    let b : sum_by f volume.under ≡ stack_sum f old = ap (sum_by f) under in
    let c : sum_by (names_sum f) volume.snaps ≡ 0 = ap (sum_by (names_sum f)) snaps in
    let d : merging_sum f (names_in volume.merging) ≡ 0 = ap (merging_sum f) merging in
    omega (arith, sum, a, b, c, d)) named

-- an origin goes, and its stack is left
pub left_over_named : (table : Table) (v : ℕ) (old : Volume) (stacked : Stacked) → v < length table.volumes → old ≡ get_or table.volumes v old → stacked.names ≡ old.under → AreNamed table → AreNamed (left_over stacked v table)
left_over_named table v old stacked lt at names named =
    no_more_named table (left_over stacked v table) (λ f.
    let sum = sum_left_over f table v stacked old lt at in
    let same : stack_sum f stacked ≡ sum_by f old.under = ap (sum_by f) names in
    omega (arith, sum, same)) named

-- a snapshot is there, with a stack as its store
pub taken_by_named : (table : Table) (name : List ℕ) (overflow : Bool) (i v : ℕ) (stacked : Stacked) (old new : Volume) → place_of name table ≡ None → nat_le 64 (device_count table) ≡ false → i < length table.stacks → stacked ≡ get_or table.stacks i stacked → v < length table.volumes → old ≡ get_or table.volumes v old → new.origin ≡ old.origin → new.under ≡ old.under → new.snaps ≡ old.snaps ++ (record { snapshot = name; store = stacked.names; overflow = overflow }) ∷ [] → names_in new.merging ≡ names_in old.merging → AreNamed table → AreNamed (taken_by i v new table)
taken_by_named table name overflow i v stacked old new none room i_lt i_at v_lt v_at origin under snaps merging named =
    one_more_named name table (taken_by i v new table) none room (λ f.
    let sum = sum_taken_by f table i v stacked old new i_lt i_at v_lt v_at in
    let a = ap f origin in
    let b = ap (sum_by f) under in
    let c = ap (sum_by (names_sum f)) snaps in
    let d = ap (merging_sum f) merging in
    let more = sum_by_push (names_sum f) old.snaps (record { snapshot = name; store = stacked.names; overflow = overflow }) in
    omega (arith, sum, a, b, c, d, more)) named

-- a snapshot goes, and its store is left
pub given_by_named : (table : Table) (v k : ℕ) (names : Names) (stacked : Stacked) (old new : Volume) → v < length table.volumes → old ≡ get_or table.volumes v old → k < length old.snaps → names ≡ get_or old.snaps k names → stacked.names ≡ names.store → new.origin ≡ old.origin → new.under ≡ old.under → new.snaps ≡ remove old.snaps k → names_in new.merging ≡ names_in old.merging → AreNamed table → AreNamed (given_by stacked v new table)
given_by_named table v k names stacked old new v_lt v_at k_lt k_at store origin under snaps merging named =
    no_more_named table (given_by stacked v new table) (λ f.
    let sum = sum_given_by f table v stacked old new v_lt v_at in
    let a = ap f origin in
    let b = ap (sum_by f) under in
    let c = ap (sum_by (names_sum f)) snaps in
    let d = ap (merging_sum f) merging in
    let less = sum_by-remove (names_sum f) old.snaps k names k_lt in
    let was : names_sum f (get_or old.snaps k names) ≡ names_sum f names = ap (names_sum f) (sym k_at) in
    let same : stack_sum f stacked ≡ sum_by f names.store = ap (sum_by f) store in
    omega (arith, sum, a, b, c, d, less, was, same)) named

-- the merge of a snapshot begins
pub begun_named : (table : Table) (v k : ℕ) (names : Names) (old new : Volume) → v < length table.volumes → old ≡ get_or table.volumes v old → k < length old.snaps → names ≡ get_or old.snaps k names → new.origin ≡ old.origin → new.under ≡ old.under → new.snaps ≡ remove old.snaps k → names_in old.merging ≡ None → names_in new.merging ≡ Some names → AreNamed table → AreNamed (put_volume v new table)
begun_named table v k names old new v_lt v_at k_lt k_at origin under snaps before after named =
    no_more_named table (put_volume v new table) (λ f.
    let sum = sum_put_volume f table v old new v_lt v_at in
    let a = ap f origin in
    let b = ap (sum_by f) under in
    let c = ap (sum_by (names_sum f)) snaps in
    let d : merging_sum f (names_in old.merging) ≡ 0 = ap (merging_sum f) before in
    let e : merging_sum f (names_in new.merging) ≡ names_sum f names = ap (merging_sum f) after in
    let less = sum_by-remove (names_sum f) old.snaps k names k_lt in
    let was : names_sum f (get_or old.snaps k names) ≡ names_sum f names = ap (names_sum f) (sym k_at) in
    omega (arith, sum, a, b, c, d, e, less, was)) named

-- a merge is finished, and its store is left
pub finished_named : (table : Table) (v : ℕ) (names : Names) (stacked : Stacked) (old new : Volume) → v < length table.volumes → old ≡ get_or table.volumes v old → stacked.names ≡ names.store → new.origin ≡ old.origin → new.under ≡ old.under → new.snaps ≡ old.snaps → names_in old.merging ≡ Some names → names_in new.merging ≡ None → AreNamed table → AreNamed (given_by stacked v new table)
finished_named table v names stacked old new lt at store origin under snaps before after named =
    no_more_named table (given_by stacked v new table) (λ f.
    let sum = sum_given_by f table v stacked old new lt at in
    let a = ap f origin in
    let b = ap (sum_by f) under in
    let c = ap (sum_by (names_sum f)) snaps in
    let d : merging_sum f (names_in old.merging) ≡ names_sum f names = ap (merging_sum f) before in
    let e : merging_sum f (names_in new.merging) ≡ 0 = ap (merging_sum f) after in
    let same : stack_sum f stacked ≡ sum_by f names.store = ap (sum_by f) store in
    omega (arith, sum, a, b, c, d, e, same)) named
