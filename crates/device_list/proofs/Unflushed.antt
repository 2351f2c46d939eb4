-- A flush leaves volumes over stacks as they are: no flush changes the layers of a stack.
use Rattle.std.proofs.Common.{◌≡◌, ℕ, Bool, true, false, List, [], ◌∷◌, map, Option, Some, None, refl, sym, ◌∙◌, ap, subst}
use Rattle.std.specs.Prelude.{◌==◌, if◌then◌else◌}
use Rattle.std.specs.List.{All}
use Rattle.std.proofs.lemmas.List.Elements.{All-nil, All-cons, All-head, All-tail}
use Rattle.device.specs.declared.operation.Operation.TheVariants.{Flushes}
use Rattle.device.specs.Layers.{Layer, layers_after}
use Rattle.layers.specs.declared.stack.Stack.{Stack}
use Rattle.layers.specs.Stack.{stack_contents, stack_layers}
use Rattle.layers.specs.Beneath.{stack_flushes}
use Rattle.plain_machine.specs.declared.request.Dev.{Dev}
use Rattle.plain_machine.specs.declared.request.Dev.TheVariants.{Origin, Snap as ToSnap}
use Rattle.plain_machine.specs.declared.request.Reply.{Reply}
use Rattle.whole_commands.specs.Devices.{Device, answers, met}
use Rattle.whole_commands.specs.Snaps.{Snap, Volume}
use Rattle.whole_commands.specs.Pieces.{Answered, flush_snap, in_snap}
use Rattle.whole_commands.specs.Commands.{flushed}
use Rattle.whole_commands.specs.Merges.{Merge, Merged, Merging, merged_of as with_merge, with_store, flushed_through}
use Rattle.event_machine.specs.MergeRest.{merge_in}
use Rattle.event_machine.specs.MergeSeen.{held_in}
use Rattle.merge.specs.Merging.{Merging as MergingStack}
use Rattle.volume.specs.Moved.{merge_seen}
use Rattle.whole_commands.specs.Beside.{served_by, flushed_beside}
use Rattle.volume_commands.specs.Rested.{Attached, Rested, snap_of, merged_of, IsSettled}
use Rattle.volume_commands.specs.Commands.{IsDoneBy}
use Rattle.whole_commands.specs.Saving.{Saving}

-- no flush changes the device's layers
abbrev IsStill : Device → Type 0
IsStill device = layers_after device.layers Flushes ≡ device.layers

met_same : (device : Device) → IsStill device → met device Flushes ≡ device
met_same device still = ap (λ (ls : List Layer). let d : Device = record { bytes = device.bytes; layers = ls } in d) still

-- a device and a snapshot that were served are as before
record IsSame (o : Device) (s : Snap) (a : Answered Saving) : Type 0 where
  pub origin : a.state.origin ≡ o
  pub snap : a.state.snap ≡ s

either_same : (b : Bool) (o : Device) (s : Snap) (x y : Answered Saving) → IsSame o s x → IsSame o s y → IsSame o s (if b then x else y)
either_same true o s x y hx hy = hx
either_same false o s x y hx hy = hy

snap_same : (o : Device) (s : Snap) → IsStill s.store → IsSame o s (flush_snap o s)
snap_same o s still = either_same s.live o s _ _
    (record { origin = refl; snap = ap (λ (d : Device). let t : Snap = record s { store = d } in t) (met_same s.store still) })
    (record { origin = refl; snap = refl })

here_same : (o : Device) (s : Snap) (ss : List Snap) (a : Answered Saving) → IsSame o s a → (let v : Volume = record { origin = a.state.origin; snaps = a.state.snap ∷ ss } in v) ≡ record { origin = o; snaps = s ∷ ss }
here_same o s ss a h =
    ap (λ (d : Device). let v : Volume = record { origin = d; snaps = a.state.snap ∷ ss } in v) h.origin
    ∙ ap (λ (t : Snap). let v : Volume = record { origin = o; snaps = t ∷ ss } in v) h.snap

later_same : (o : Device) (s : Snap) (ss : List Snap) (v : Volume) → v ≡ record { origin = o; snaps = ss } → (let w : Volume = record { origin = v.origin; snaps = s ∷ v.snaps } in w) ≡ record { origin = o; snaps = s ∷ ss }
later_same o s ss v h = ap (λ (u : Volume). let w : Volume = record { origin = u.origin; snaps = s ∷ u.snaps } in w) h

either_volume : (b : Bool) (v : Volume) (x y : Answered Volume) → x.state ≡ v → y.state ≡ v → (if b then x else y).state ≡ v
either_volume true v x y hx hy = hx
either_volume false v x y hx hy = hy

in_same : (number : ℕ) (o : Device) (ss : List Snap) → All (λ (s : Snap). IsStill s.store) ss → (in_snap number flush_snap o ss).state ≡ record { origin = o; snaps = ss }
in_same number o [] still = refl
in_same number o (s ∷ ss) still =
    either_volume (s.number == number) _ _ _
    (here_same o s ss (flush_snap o s) (snap_same o s (All-head (λ (x : Snap). IsStill x.store) s ss still)))
    (later_same o s ss (in_snap number flush_snap o ss).state (in_same number o ss (All-tail (λ (x : Snap). IsStill x.store) s ss still)))

flushed_same : (dev : Dev) (v : Volume) → IsStill v.origin → All (λ (s : Snap). IsStill s.store) v.snaps → (flushed dev v).state ≡ v
flushed_same Origin v origin snaps = ap (λ (d : Device). let w : Volume = record { origin = d; snaps = v.snaps } in w) (met_same v.origin origin)
flushed_same (ToSnap number) v origin snaps = in_same number v.origin v.snaps snaps

either_state : (b : Bool) (m : Merging) (x y : Answered Merging) → x.state ≡ m → y.state ≡ m → (if b then x else y).state ≡ m
either_state true m x y hx hy = hx
either_state false m x y hx hy = hy

-- beside a merge
through_same : (dev : Dev) (m : Merging) → IsStill m.volume.origin → All (λ (s : Snap). IsStill s.store) m.volume.snaps → IsStill m.merge.store → (flushed_through dev m).state ≡ m
through_same Origin m origin snaps store =
    let stays : with_store m (met m.merge.store Flushes) ≡ m = ap (λ (d : Device). with_store m d) (met_same m.merge.store store) in
    let after : Merging = with_store m (met m.merge.store Flushes) in
    either_state (answers m.merge.store Flushes) m _ _
    (ap (λ (v : Volume). let n : Merging = record { volume = v; merge = after.merge } in n) (flushed_same Origin m.volume origin snaps) ∙ stays)
    stays
through_same (ToSnap number) m origin snaps store =
    ap (λ (v : Volume). let n : Merging = record { volume = v; merge = m.merge } in n) (flushed_same (ToSnap number) m.volume origin snaps)

either_done : (without : Volume → Answered Volume) (through : Merging → Answered Merging) (o : Option Merge) (v : Volume)
    → (without v).state ≡ v → ((g : Merge) → o ≡ Some g → (through (record { volume = v; merge = g })).state ≡ record { volume = v; merge = g })
    → (served_by without through o v).state ≡ record { volume = v; merge = o }
either_done without through None v alone beside = ap (λ (w : Volume). let m : Merged = record { volume = w; merge = None } in m) alone
either_done without through (Some g) v alone beside = ap (λ (m : Merging). with_merge m) (beside g refl)

abbrev HasStill : Option Merge → Type 0
HasStill None = Unit {0}
HasStill (Some g) = IsStill g.store

still_store : (o : Option Merge) (g : Merge) → HasStill o → o ≡ Some g → IsStill g.store
still_store o g h is = subst HasStill is h

leaves_all : (dev : Dev) (m : Merged) → IsStill m.volume.origin → All (λ (s : Snap). IsStill s.store) m.volume.snaps → HasStill m.merge → (flushed_beside dev m).state ≡ m
unfolding flushed_beside
leaves_all dev m origin snaps store =
    either_done (flushed dev) (flushed_through dev) m.merge m.volume
    (flushed_same dev m.volume origin snaps)
    (λ g is. through_same dev (record { volume = m.volume; merge = g }) origin snaps (still_store m.merge g store is))

snaps_still : (xs : List (Attached Stack)) → All (λ (s : Snap). IsStill s.store) (map (snap_of stack_contents stack_layers) xs)
snaps_still [] = All-nil (λ (s : Snap). IsStill s.store)
snaps_still (x ∷ xs) = All-cons (λ (s : Snap). IsStill s.store) (snap_of stack_contents stack_layers x) (map (snap_of stack_contents stack_layers) xs) (stack_flushes x.store) (snaps_still xs)

has_still : (o : Option (MergingStack Stack)) → HasStill (merge_in (held_in (merge_seen stack_contents stack_layers o)))
has_still None = tt
has_still (Some m) = stack_flushes m.device

-- a flush that is done, or is answered with a refusal
pub flush_leaves : (dev : Dev) (reply : Reply) (old new : Rested Stack) → IsDoneBy stack_contents stack_layers (flushed_beside dev) reply old new → IsSettled stack_layers old
    → merged_of stack_contents stack_layers new ≡ merged_of stack_contents stack_layers old
flush_leaves dev reply old new done settled =
    ap (λ (a : Answered Merged). a.state) (sym (done settled)) ∙ leaves_all dev (merged_of stack_contents stack_layers old) (stack_flushes old.origin) (snaps_still old.snaps) (has_still old.events.merge)
