-- What a status line says of a snapshot of a volume in which something is in flight.
use Rattle.std.proofs.Common.{◌≡◌, ℕ, ◌<◌, Bool, true, false, List, length, get_or, map, refl, sym, ap, ◌∙◌, subst, arith}
use Rattle.std.specs.Prelude.{Some, None, Result, Ok, IfOk, slice_get, if◌then◌else◌}
use Rattle.std.proofs.lemmas.List.{length-map, get_or-map}
use Rattle.std.proofs.lemmas.Option.{slice_get_read}
use Rattle.std.proofs.lemmas.Result.{IfOk-at_ok}
use Rattle.std.specs.declared.alloc.AllocError.{AllocError}
use Rattle.layers.specs.declared.stack.Stack.{Stack}
use Rattle.layers.specs.Stack.{stack_contents, stack_layers, stack_size}
use Rattle.chunk_alloc.specs.declared.usage.Usage.{Usage}
use Rattle.plain_machine.specs.Plain.{did_overflow}
use Rattle.table.specs.declared.status.StatusState.{StatusState}
use Rattle.table.specs.declared.status.StatusState.TheVariants.{Invalid, Overflow, Used}
use Rattle.table.specs.Lines.{snapshot_text}
use Rattle.whole_commands.specs.Devices.{sectors_of as size_of}
use Rattle.event_machine.specs.Held.{SnapHeld, Moving}
use Rattle.snapshot.specs.Kept.{Kept}
use Rattle.volume.specs.Leaving.{is_quiet_of}
use Rattle.volume.specs.Moved.{held_of}
use Rattle.volume_commands.specs.Flying.{IsWhole, flying_of, without_store}
use Rattle.volume_commands.specs.Rested.{Attached, Rested, attached_of}
use Rattle.volume_commands.specs.Using.{IsInUse}
use Rattle.command_semantics.specs.declared.place.Role.TheVariants.{Origin, Merging, Snapshot}
use Rattle.command_semantics.specs.State.{Volume}
use Rattle.command_semantics.specs.Messages.{snap_at}
use Rattle.command_semantics.specs.Status.{status_in}
use Rattle.device_stacks.proofs.StackSizes.{size_of as size_of_stack}
use Rattle.device_list.specs.Held.{flying_in, settled_in}
use Rattle.device_list.specs.Status.{held_at, kept_held, state_kept, status_flying}
use Rattle.device_list.proofs.Places.{at_place, here, stack_snap}

some_flown : (b : Bool) (m moving : Moving) → (if b then None else Some m) ≡ Some moving → m ≡ moving
some_flown true m moving e = absurd (cc)
some_flown false m moving e = cc

-- an origin, and a snapshot that is being merged, are told of as where nothing is in flight
pub origin_flies : (volume : Volume) (moving : Moving) (text : List ℕ) → status_in Origin volume ≡ Ok text → status_flying Origin volume moving ≡ Ok text
unfolding status_flying
origin_flies volume moving text is = is

pub merging_flies : (volume : Volume) (moving : Moving) (text : List ℕ) → status_in Merging volume ≡ Ok text → status_flying Merging volume moving ≡ Ok text
unfolding status_flying
merging_flies volume moving text is = is

-- one that is spoiled, one whose store overflowed, and one that is live
pub invalid_kept : (s : Kept Stack) → false ≡ s.live → Invalid ≡ state_kept s
invalid_kept s dead = rw (sym dead) refl

pub overflow_kept : (s : Kept Stack) → true ≡ s.live → did_overflow s.overflow ≡ true → Overflow ≡ state_kept s
overflow_kept s live did = rw (sym live) (rw did refl)

pub used_kept : (s : Kept Stack) (usage : Usage) → true ≡ s.live → did_overflow s.overflow ≡ false → IsInUse stack_size s usage → Used usage.allocated usage.total usage.metadata ≡ state_kept s
used_kept s usage live room used = rw (sym live) (rw room (rw used.allocated (rw used.metadata (rw (used.total ∙ sym (size_of_stack s.device)) refl))))

module _ (volume : Rested Stack) (whole : IsWhole volume) (k : ℕ) (within : k < length volume.snaps) where
  snaps_are : volume.snaps ≡ map attached_of volume.events.snaps
  snaps_are = ap (λ (v : Rested Stack). v.snaps) whole

  pub inside : k < length volume.events.snaps
  inside = (let len : length (map attached_of volume.events.snaps) ≡ length volume.events.snaps = length-map volume.events.snaps attached_of in let same : length volume.snaps ≡ length (map attached_of volume.events.snaps) = ap length snaps_are in omega (arith, within, len, same))

  -- what is kept of it
  pub kept_there : (s : Kept Stack) × ((d : Kept Stack) → get_or volume.events.snaps k d ≡ s)
  kept_there = here volume.events.snaps k inside

  abbrev kept : Kept Stack
  kept = kept_there.0

  -- as callers see it
  pub attached_there : (d : Attached Stack) → get_or volume.snaps k d ≡ attached_of kept
  attached_there d = ap (λ (xs : List (Attached Stack)). get_or xs k d) snaps_are ∙ get_or-map attached_of volume.events.snaps k kept d inside ∙ ap attached_of (kept_there.1 kept)

  -- and what is in memory of it
  held_there : held_at k (flying_of stack_contents stack_layers volume.events) ≡ Ok (kept_held kept)
  held_there =
      let snaps : List SnapHeld = map (held_of stack_contents stack_layers) volume.events.snaps in
      let one : length snaps ≡ length volume.events.snaps = length-map volume.events.snaps (held_of stack_contents stack_layers) in
      let two : length (map without_store snaps) ≡ length snaps = length-map snaps without_store in
      let first : get_or snaps k (held_of stack_contents stack_layers kept) ≡ held_of stack_contents stack_layers kept = get_or-map (held_of stack_contents stack_layers) volume.events.snaps k kept (held_of stack_contents stack_layers kept) inside ∙ ap (held_of stack_contents stack_layers) (kept_there.1 kept) in
      let at : get_or (map without_store snaps) k (kept_held kept) ≡ kept_held kept = get_or-map without_store snaps k (held_of stack_contents stack_layers kept) (kept_held kept) (omega (arith, inside, one)) ∙ ap without_store first in
      let is : slice_get (map without_store snaps) k ≡ Some (kept_held kept) = slice_get_read (map without_store snaps) (length (map without_store snaps)) k (kept_held kept) refl (omega (arith, inside, one, two)) (sym at) in
      rw is refl

  -- its status line
  pub held_says : (sectors : ℕ) (state : StatusState) (text : List ℕ) (seen : Volume) (r : Result (List ℕ) AllocError) → seen.state ≡ settled_in volume → state ≡ state_kept kept → r ≡ Ok text → IfOk r (λ t. t ≡ snapshot_text sectors state) → sectors ≡ size_of seen.state.origin
      → status_flying (Snapshot k) seen (flying_of stack_contents stack_layers volume.events) ≡ Ok text
  unfolding status_flying
  held_says sectors state text seen r in_state of is says size =
      let at = at_place volume k within in
      let same : at.0 ≡ attached_of kept = sym (at.1.is at.0) ∙ attached_there at.0 in
      let there : snap_at k seen.state ≡ Ok (stack_snap (attached_of kept)) = ap (snap_at k) in_state ∙ at.1.seen ∙ ap (λ (s : Attached Stack). Ok (stack_snap s)) same in
      rw there (rw held_there (rw (sym size) (rw (sym of) (rw (IfOk-at_ok (λ (t : List ℕ). t ≡ snapshot_text sectors state) is says) refl))))

  -- while something is in flight
  pub flying_says : (sectors : ℕ) (state : StatusState) (text : List ℕ) (seen : Volume) (moving : Moving) (r : Result (List ℕ) AllocError) → seen.state ≡ settled_in volume → flying_in volume.events ≡ Some moving → state ≡ state_kept kept → r ≡ Ok text → IfOk r (λ t. t ≡ snapshot_text sectors state) → sectors ≡ size_of seen.state.origin
      → status_flying (Snapshot k) seen moving ≡ Ok text
  flying_says sectors state text seen moving r in_state flies of is says size =
      let mine : flying_of stack_contents stack_layers volume.events ≡ moving = some_flown (is_quiet_of volume.events) (flying_of stack_contents stack_layers volume.events) moving flies in
      subst (λ (m : Moving). status_flying (Snapshot k) seen m ≡ Ok text) mine (held_says sectors state text seen r in_state of is says size)
