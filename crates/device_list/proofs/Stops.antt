-- A volume that is stopped, and what is left of it to take.
use Rattle.std.proofs.Common.{◌≡◌, ◌⊎◌, inl, inr, ℕ, zero, suc, ◌+◌, ◌*◌, ◌<◌, ◌≤◌, Bool, true, false, List, [], ◌∷◌, length, map, drop, get_or, Option, Some, None, refl, sym, ap, ◌∙◌, arith}
use Rattle.std.specs.Prelude.{◌&&◌, nat_lt, is_some, if◌then◌else◌}
use Rattle.std.specs.List.{list_all}
use Rattle.std.proofs.lemmas.Bool.{cases_Bool, cond-true, cond-false, lt-ltb, le-ltb}
use Rattle.std.proofs.lemmas.List.{at_drop_more, length-map}
use Rattle.volume_commands.specs.Flying.{IsWhole}
use Rattle.device_list.proofs.Places.{here}
use Rattle.layers.specs.declared.stack.Stack.{Stack}
use Rattle.whole_commands.specs.Snaps.{Snap, Volume as Settled}
use Rattle.volume_commands.specs.Rested.{Attached, Rested, attached_of, snap_of, is_loud_in}
use Rattle.layers.specs.Stack.{stack_contents, stack_durable, stack_layers, stack_size}
use Rattle.layers.specs.Whole.{stack_whole}
use Rattle.layers.specs.Windows.{without_windows}
use Rattle.event_machine.specs.MergeSeen.{merge_held_of}
use Rattle.snapshot.specs.Kept.{Kept}
use Rattle.merge.specs.Merging.{Merging, due_of as merging_due}
use Rattle.volume.specs.Asking.{merging_number}
use Rattle.device.specs.Layers.{Layer, is_loud}
use Rattle.volume.specs.Volumed.{is_loud_with}
use Rattle.volume.proofs.Shown.{and_left, and_right}
use Rattle.command_semantics.specs.Losing.{Lasting, lasting}
use Rattle.command_semantics.specs.Sound.{is_sound_stack}
use Rattle.command_semantics.specs.Stacks.{device_of}
use Rattle.command_semantics.specs.Stopping.{freed, store_freed, merging_freed, snap_stores, stores_among, stores_left, stopped}
use Rattle.volume.specs.Stopped.{stores_by, devices_of}
use Rattle.device_list.specs.Held.{merging_with, with_names, settled_in}
use Rattle.device_list.proofs.Merges.{merge_by, begun_too}
use Rattle.command_semantics.specs.State.{Stacked, Names, Merging as Begun, Volume}
use Rattle.device_list.specs.Stopping.{IsTakenLost, earlier, earlier_than, freed_by, names_among, names_with, store_names}

-- the names of the merge come first where it stands after none, or no other is left
pub merging_next : (before : ℕ) (o p : Option Names) (merging : Names) (store : List (List ℕ)) (snaps : List Names) → o ≡ Some merging → p ≡ None → merging.store ≡ store → (before ≡ 0) ⊎ (snaps ≡ [])
    → names_with before o snaps ≡ store ∷ names_with before p snaps
merging_next before o p merging store snaps some none is why = rw some (rw none (rw (sym is) (first before snaps why)))
  where
    first : (before : ℕ) (snaps : List Names) → (before ≡ 0) ⊎ (snaps ≡ []) → names_with before (Some merging) snaps ≡ merging.store ∷ names_with before None snaps
    first before [] why = refl
    first zero (n ∷ snaps) why = refl
    first (suc before) (n ∷ snaps) (inl e) = absurd (cc)
    first (suc before) (n ∷ snaps) (inr e) = absurd (cc)

-- how many stacks a volume leaves
pub stores_count : (names : List Names) (snaps : List Snap) → length names ≡ length snaps → length (snap_stores names snaps) ≡ length snaps
stores_count [] [] many = refl
stores_count [] (s ∷ snaps) many = absurd (cc)
stores_count (n ∷ names) [] many = absurd (cc)
stores_count (n ∷ names) (s ∷ snaps) many = (let more = stores_count names snaps (omega (arith, many)) in omega (arith, more))

pub among_count : (names : List Names) (snaps : List Snap) (g : Begun) → length names ≡ length snaps → length (stores_among names snaps g) ≡ suc (length snaps)
among_count [] [] g many = refl
among_count [] (s ∷ snaps) g many = absurd (cc)
among_count (n ∷ names) [] g many = absurd (cc)
among_count (n ∷ names) (s ∷ snaps) g many = elim (cases_Bool (nat_lt g.merge.number s.number)) [
  | inl here ↦ ap (λ (xs : List Stacked). length xs) (cond-true _ _ _ here) ∙ (let more = stores_count (n ∷ names) (s ∷ snaps) many in omega (arith, more))
  | inr later ↦ ap (λ (xs : List Stacked). length xs) (cond-false _ _ _ later) ∙ (let more = among_count names snaps g (omega (arith, many)) in omega (arith, more))
]

-- the place of the merge among the snapshots, of which the first k are earlier
module _ (number : ℕ) (snaps : List (Attached Stack)) where
  pub earlier_start : earlier number (drop 0 snaps) + 0 ≡ earlier number snaps
  earlier_start = omega arith

  module _ (k found : ℕ) (within : k < length snaps) (is : (d : Attached Stack) → found ≡ (get_or snaps k d).number) (so : earlier number (drop k snaps) + k ≡ earlier number snaps) where
    this : Attached Stack
    this = (here snaps k within).0

    next : earlier number (drop k snaps) ≡ earlier number (get_or snaps k this ∷ drop (k + 1) snaps)
    next = at_drop_more (earlier number) snaps k this within

    pub earlier_here : number < found → k ≡ earlier number snaps
    earlier_here lt = (let none : earlier number (drop k snaps) ≡ 0 = next ∙ cond-true _ _ _ (lt-ltb number _ (rw (← is this) lt)) in omega (arith, none, so))

    pub earlier_next : found ≤ number → earlier number (drop (k + 1) snaps) + (k + 1) ≡ earlier number snaps
    earlier_next le = (let one : earlier number (drop k snaps) ≡ suc (earlier number (drop (k + 1) snaps)) = next ∙ cond-false _ _ _ (le-ltb number _ (rw (← is this) le)) in omega (arith, one, so))

-- the stacks of the stores, by their names and the devices of the volume of events
abbrev snap_in : Kept Stack → Snap
snap_in s = snap_of stack_contents stack_layers (attached_of s)

abbrev devices_in : List (Kept Stack) → List Stack
devices_in = map (λ (s : Kept Stack). s.device)

stores_are : (names : List Names) (snaps : List (Kept Stack)) → freed_by (map store_names names) (devices_in snaps) ≡ snap_stores names (map snap_in snaps)
stores_are [] snaps = refl
stores_are (n ∷ names) [] = refl
stores_are (n ∷ names) (s ∷ snaps) = ap (λ (xs : List Stacked). freed n.store (device_of s.device) ∷ xs) (stores_are names snaps)

-- the same with the merge among them
module _ (merging : Names) (m : Merging Stack) where
  abbrev begun_as : Begun
  begun_as = record { names = merging; merge = (merge_held_of (record { due = merging_due stack_contents true m; layers = stack_layers m.device; next = m.next })).merge }

  among_next : (n : Names) (names : List Names) (s : Kept Stack) (snaps : List (Kept Stack)) (first : Bool)
      → freed_by (names_among (earlier m.number (map attached_of snaps)) merging.store names) (stores_by snaps (Some m)) ≡ stores_among names (map snap_in snaps) begun_as
      → freed_by (names_among (if first then 0 else suc (earlier m.number (map attached_of snaps))) merging.store (n ∷ names)) (if first then m.device ∷ devices_in (s ∷ snaps) else s.device ∷ stores_by snaps (Some m))
      ≡ (if first then merging_freed begun_as ∷ snap_stores (n ∷ names) (map snap_in (s ∷ snaps)) else store_freed n (snap_in s) ∷ stores_among names (map snap_in snaps) begun_as)
  among_next n names s snaps true rest = ap (λ (xs : List Stacked). merging_freed begun_as ∷ xs) (stores_are (n ∷ names) (s ∷ snaps))
  among_next n names s snaps false rest = ap (λ (xs : List Stacked). store_freed n (snap_in s) ∷ xs) rest

  among_are : (names : List Names) (snaps : List (Kept Stack)) → length names ≡ length snaps
      → freed_by (names_among (earlier m.number (map attached_of snaps)) merging.store names) (stores_by snaps (Some m)) ≡ stores_among names (map snap_in snaps) begun_as
  among_are [] [] many = refl
  among_are [] (s ∷ snaps) many = absurd (cc)
  among_are (n ∷ names) [] many = absurd (cc)
  among_are (n ∷ names) (s ∷ snaps) many = among_next n names s snaps (nat_lt m.number s.number) (among_are names snaps (omega (arith, many)))

left_are : (names : List Names) (merging : Option Names) (snaps : List (Kept Stack)) (o : Option (Merging Stack)) (v : Rested Stack) → length names ≡ length snaps → is_some merging ≡ is_some o → v.events.merge ≡ o
    → freed_by (names_with (earlier_than (merging_number o) (map attached_of snaps)) merging names) (stores_by snaps o) ≡ stores_left names (map snap_in snaps) (merging_with merging v)
left_are names None snaps None v many some is = stores_are names snaps
left_are names None snaps (Some m) v many some is = absurd (cc)
left_are names (Some merging) snaps None v many some is = absurd (cc)
left_are names (Some merging) snaps (Some m) v many some is = among_are merging m names snaps many ∙ sym (ap (λ o. stores_left names (map snap_in snaps) (with_names merging (merge_by o))) is)

settled_are : (v : Rested Stack) → IsWhole v → (settled_in v).snaps ≡ map snap_in v.events.snaps
settled_are v whole = ap (λ (w : Rested Stack). map (snap_of stack_contents stack_layers) w.snaps) whole ∙ twice v.events.snaps
  where
    twice : (snaps : List (Kept Stack)) → map (snap_of stack_contents stack_layers) (map attached_of snaps) ≡ map snap_in snaps
    twice [] = refl
    twice (s ∷ snaps) = ap (λ (xs : List Snap). snap_in s ∷ xs) (twice snaps)

-- all that is left of a volume
pub stopped_is : (volume : Volume) (names : List Names) (merging : Option Names) (v : Rested Stack) → IsWhole v → length names ≡ length v.snaps → is_some merging ≡ is_some v.events.merge
    → volume.snaps ≡ names → volume.merging ≡ merging_with merging v → volume.state ≡ settled_in v
    → freed_by (volume.under ∷ names_with (earlier_than (merging_number v.events.merge) v.snaps) merging names) (devices_of v.events) ≡ stopped volume
stopped_is volume names merging v whole many some names_are merging_is state =
    let snaps : v.snaps ≡ map attached_of v.events.snaps = ap (λ (w : Rested Stack). w.snaps) whole in
    let count : length v.snaps ≡ length v.events.snaps = ap (λ (xs : List (Attached Stack)). length xs) snaps ∙ length-map v.events.snaps attached_of in
    let origin : device_of v.events.origin ≡ volume.state.origin = ap device_of (sym (ap (λ (w : Rested Stack). w.origin) whole)) ∙ sym (ap (λ (w : Settled). w.origin) state) in
    let left : freed_by (names_with (earlier_than (merging_number v.events.merge) v.snaps) merging names) (stores_by v.events.snaps v.events.merge) ≡ stores_left volume.snaps volume.state.snaps volume.merging =
    ap (λ (xs : List (Attached Stack)). freed_by (names_with (earlier_than (merging_number v.events.merge) xs) merging names) (stores_by v.events.snaps v.events.merge)) snaps
    ∙ left_are names merging v.events.snaps v.events.merge v (many ∙ count) some refl
    ∙ ap (λ (xs : List Snap). stores_left names xs (merging_with merging v)) (sym (settled_are v whole) ∙ sym (ap (λ (w : Settled). w.snaps) state))
    ∙ ap (λ (ns : List Names). stores_left ns volume.state.snaps (merging_with merging v)) (sym names_are)
    ∙ ap (λ g. stores_left volume.snaps volume.state.snaps g) (sym merging_is) in
    ap (λ (xs : List Stacked). freed volume.under (device_of v.events.origin) ∷ xs) left
    ∙ ap (λ d. freed volume.under d ∷ stores_left volume.snaps volume.state.snaps volume.merging) origin

-- there are as many names as devices
names_among_count : (before : ℕ) (merging : List (List ℕ)) (names : List Names) → length (names_among before merging names) ≡ suc (length names)
names_among_count before merging [] = refl
names_among_count zero merging (n ∷ names) = ap (λ k. suc (suc k)) (length-map names store_names)
names_among_count (suc before) merging (n ∷ names) = ap suc (names_among_count before merging names)

stores_by_count : (snaps : List (Kept Stack)) (m : Merging Stack) → length (stores_by snaps (Some m)) ≡ suc (length snaps)
stores_by_count [] m = refl
stores_by_count (s ∷ snaps) m = elim (cases_Bool (nat_lt m.number s.number)) [
  | inl first ↦ ap (λ (xs : List Stack). length xs) (cond-true _ _ _ first) ∙ ap (λ k. suc (suc k)) (length-map snaps (λ (s : Kept Stack). s.device))
  | inr later ↦ ap (λ (xs : List Stack). length xs) (cond-false _ _ _ later) ∙ ap suc (stores_by_count snaps m)
]

both_count : (before : ℕ) (names : List Names) (merging : Option Names) (snaps : List (Kept Stack)) (o : Option (Merging Stack)) → length names ≡ length snaps → is_some merging ≡ is_some o → length (names_with before merging names) ≡ length (stores_by snaps o)
both_count before names None snaps None many some = length-map names store_names ∙ many ∙ sym (length-map snaps (λ (s : Kept Stack). s.device))
both_count before names None snaps (Some m) many some = absurd (cc)
both_count before names (Some merging) snaps None many some = absurd (cc)
both_count before names (Some merging) snaps (Some m) many some = names_among_count before merging.store names ∙ ap suc many ∙ sym (stores_by_count snaps m)

pub stopped_count : (before : ℕ) (names : List Names) (merging : Option Names) (v : Rested Stack) (devices : List Stack) → IsWhole v → length names ≡ length v.snaps → is_some merging ≡ is_some v.events.merge → devices ≡ devices_of v.events
    → suc (length (names_with before merging names)) ≡ length devices
stopped_count before names merging v devices whole many some is =
    let count : length v.snaps ≡ length v.events.snaps = ap (λ (w : Rested Stack). length w.snaps) whole ∙ length-map v.events.snaps attached_of in
    ap suc (both_count before names merging v.events.snaps v.events.merge (many ∙ count) some) ∙ sym (ap (λ (xs : List Stack). length xs) is)

-- how many stacks a volume leaves
pub left_count : (names : List Names) (merging : Option Names) (v : Rested Stack) → length names ≡ length v.snaps → is_some merging ≡ is_some v.events.merge
    → length (stores_left names (settled_in v).snaps (merging_with merging v)) ≡ (if is_some merging then suc (length names) else length names)
left_count names merging v many some = by (merging_with merging v) ∙ ap (λ b. if b then suc (length names) else length names) (begun_too merging v some)
  where
    seen : length (settled_in v).snaps ≡ length names
    seen = length-map v.snaps (snap_of stack_contents stack_layers) ∙ sym many

    by : (g : Option Begun) → length (stores_left names (settled_in v).snaps g) ≡ (if is_some g then suc (length names) else length names)
    by None = stores_count names (settled_in v).snaps (sym seen) ∙ seen
    by (Some g) = among_count names (settled_in v).snaps g (sym seen) ∙ ap suc seen

-- none of the stacks drops writes where no device does
abbrev is_loud_stack : Stack → Bool
is_loud_stack d = is_loud (stack_layers d)

freed_loud : (names : List (List (List ℕ))) (devices : List Stack) → list_all is_loud_stack devices ≡ true → list_all is_sound_stack (freed_by names devices) ≡ true
freed_loud [] devices loud = refl
freed_loud (n ∷ names) [] loud = refl
freed_loud (n ∷ names) (d ∷ devices) loud =
    ap (λ b. b && list_all is_sound_stack (freed_by names devices)) (and_left (is_loud_stack d) (list_all is_loud_stack devices) loud) ∙ freed_loud names devices (and_right (is_loud_stack d) (list_all is_loud_stack devices) loud)

snaps_loud : (snaps : List (Kept Stack)) → list_all (λ (s : Attached Stack). is_loud (stack_layers s.store)) (map attached_of snaps) ≡ list_all is_loud_stack (devices_in snaps)
snaps_loud [] = refl
snaps_loud (s ∷ snaps) = ap (λ b. is_loud_stack s.device && b) (snaps_loud snaps)

merge_loud : (snaps : List (Kept Stack)) (m : Merging Stack) → list_all is_loud_stack (devices_in snaps) ≡ true → is_loud_stack m.device ≡ true → list_all is_loud_stack (stores_by snaps (Some m)) ≡ true
merge_loud [] m all loud = ap (λ b. b && true) loud
merge_loud (s ∷ snaps) m all loud = elim (cases_Bool (nat_lt m.number s.number)) [
  | inl first ↦ ap (λ (xs : List Stack). list_all is_loud_stack xs) (cond-true _ _ _ first) ∙ ap (λ b. b && list_all is_loud_stack (devices_in (s ∷ snaps))) loud ∙ all
  | inr later ↦ ap (λ (xs : List Stack). list_all is_loud_stack xs) (cond-false _ _ _ later)
      ∙ ap (λ b. b && list_all is_loud_stack (stores_by snaps (Some m))) (and_left (is_loud_stack s.device) (list_all is_loud_stack (devices_in snaps)) all)
      ∙ merge_loud snaps m (and_right (is_loud_stack s.device) (list_all is_loud_stack (devices_in snaps)) all) loud
]

devices_loud : (origin : Stack) (snaps : List (Kept Stack)) (o : Option (Merging Stack)) → is_loud_with stack_layers o (is_loud_stack origin && list_all is_loud_stack (devices_in snaps)) ≡ true → list_all is_loud_stack (origin ∷ stores_by snaps o) ≡ true
devices_loud origin snaps None loud = loud
devices_loud origin snaps (Some m) loud =
    let others = and_left (is_loud_stack origin && list_all is_loud_stack (devices_in snaps)) (is_loud_stack m.device) loud in
    ap (λ b. b && list_all is_loud_stack (stores_by snaps (Some m))) (and_left (is_loud_stack origin) (list_all is_loud_stack (devices_in snaps)) others)
    ∙ merge_loud snaps m (and_right (is_loud_stack origin) (list_all is_loud_stack (devices_in snaps)) others) (and_right (is_loud_stack origin && list_all is_loud_stack (devices_in snaps)) (is_loud_stack m.device) loud)

pub stopped_loud : (names : List (List (List ℕ))) (v : Rested Stack) (devices : List Stack) → IsWhole v → devices ≡ devices_of v.events → is_loud_in stack_layers v ≡ true → list_all is_sound_stack (freed_by names devices) ≡ true
stopped_loud names v devices whole is loud =
    let all : is_loud_in stack_layers v ≡ is_loud_with stack_layers v.events.merge (is_loud_stack v.events.origin && list_all is_loud_stack (devices_in v.events.snaps)) =
    ap (λ (w : Rested Stack). is_loud_with stack_layers v.events.merge (is_loud (stack_layers w.origin) && list_all (λ (s : Attached Stack). is_loud (stack_layers s.store)) w.snaps)) whole
    ∙ ap (λ b. is_loud_with stack_layers v.events.merge (is_loud_stack v.events.origin && b)) (snaps_loud v.events.snaps) in
    freed_loud names devices (ap (λ (xs : List Stack). list_all is_loud_stack xs) is ∙ devices_loud v.events.origin v.events.snaps v.events.merge (sym all ∙ loud))

-- as many stacks as devices
pub freed_count : (names : List (List (List ℕ))) (devices : List Stack) → length names ≡ length devices → length (freed_by names devices) ≡ length devices
freed_count [] [] many = refl
freed_count [] (d ∷ devices) many = absurd (cc)
freed_count (n ∷ names) [] many = absurd (cc)
freed_count (n ∷ names) (d ∷ devices) many = ap suc (freed_count names devices (omega (arith, many)))

-- A stack that was taken, and lost what was not flushed: it has its names, its layers and its size, and what was durable.
module _ (names : List (List ℕ)) (device lost : Stack) (contents : stack_contents lost ≡ stack_durable device) (layers : without_windows (stack_layers lost) ≡ without_windows (stack_layers device)) (size : stack_size lost ≡ stack_size device) where
  lost_lasting : lasting (freed names (device_of lost)) ≡ lasting (freed names (device_of device))
  lost_lasting =
      let by_layers : List Layer → Lasting = λ ls. record { names = names; layers = ls; bytes = length (stack_contents lost); stale = false } in
      let by_bytes : ℕ → Lasting = λ n. record { names = names; layers = without_windows (stack_layers device); bytes = n; stale = false } in
      let long : length (stack_contents lost) ≡ length (stack_contents device) = stack_whole lost ∙ ap (λ n. 512 * n) size ∙ sym (stack_whole device) in
      ap by_layers layers ∙ ap by_bytes long

  pub taken_lost : (stack : Stacked) (all rest : List (List (List ℕ))) (devices others : List Stack) → stack ≡ freed names (device_of lost) → all ≡ names ∷ rest → devices ≡ device ∷ others
      → IsTakenLost stack (record { shown = freed_by all devices; devices = devices }) (record { shown = freed_by rest others; devices = others })
  taken_lost stack all rest devices others is named first = record {
    was = freed names (device_of device);
    device = device;
    shown = ap (λ (ns : List (List (List ℕ))). freed_by ns devices) named ∙ ap (λ (ds : List Stack). freed_by (names ∷ rest) ds) first;
    devices = first;
    lasts = ap lasting is ∙ lost_lasting;
    bytes = ap (λ (s : Stacked). s.device.bytes) is ∙ contents;
  }
