-- A volume that refused a stack is what it was by its names: its origin may have been flushed, which leaves the layers of a stack.
use Rattle.std.proofs.Common.{◌≡◌, ◌≤◌, inl, inr, ℕ, Bool, List, length, Option, None, Some, refl, sym, ap, subst, ◌∙◌}
use Rattle.std.specs.Prelude.{◌&&◌, is_some}
use Rattle.std.specs.List.{list_all}
use Rattle.std.proofs.lemmas.List.{length-map}
use Rattle.device.specs.Layers.{is_loud}
use Rattle.sector.specs.declared.refusal.Refusal.{Refusal}
use Rattle.whole_commands.specs.Devices.{Device}
use Rattle.whole_commands.specs.Snaps.{Volume as Settled}
use Rattle.layers.specs.declared.stack.Stack.{Stack}
use Rattle.layers.specs.Stack.{stack_contents, stack_layers, stack_size}
use Rattle.layers.specs.Beneath.{stack_flushes}
use Rattle.volume.specs.Attached.{IsTriedOrigin}
use Rattle.volume.specs.Leaving.{is_quiet_of}
use Rattle.volume.specs.Volumed.{is_loud_with}
use Rattle.volume_commands.specs.Rested.{Rested, attached_of, is_loud_in, rested_of, snap_of}
use Rattle.volume_commands.specs.Taking.{IsRefusedAt}
use Rattle.command_semantics.specs.Stacks.{device_of}
use Rattle.command_semantics.specs.State.{Names, Volume}
use Rattle.device_list.specs.Held.{IsHeld, flying_in, merging_with, settled_in}

-- an origin that a store was tried over is the same device
tried_same : (s t : Stack) → IsTriedOrigin stack_contents stack_layers stack_size s t → device_of t ≡ device_of s
tried_same s t is =
    let layers : stack_layers t ≡ stack_layers s = elim is.layers_are [ inl same ↦ same | inr flushed ↦ flushed ∙ stack_flushes s ] in
    rw is.contents_are (rw layers refl)

module _ (e : Refusal) (v w : Rested Stack) (is : IsRefusedAt stack_contents stack_layers stack_size e v w) where
  abbrev over : Stack → Rested Stack
  over origin = record v { origin = origin; events = record v.events { origin = origin } }

  device_same : device_of w.origin ≡ device_of v.origin
  device_same = tried_same v.origin w.origin is.origin

  refused_settled : settled_in w ≡ settled_in v
  refused_settled =
      let mk : Device → Settled = λ d. record (settled_in v) { origin = d } in
      ap settled_in is.becomes ∙ ap mk device_same

  refused_merging : (names : Option Names) → merging_with names w ≡ merging_with names v
  refused_merging names = ap (merging_with names) is.becomes ∙ as_it_was names
    where
      as_it_was : (names : Option Names) → merging_with names (over w.origin) ≡ merging_with names v
      as_it_was None = refl
      as_it_was (Some n) = refl

  refused_flying : flying_in w.events ≡ flying_in v.events
  refused_flying = ap (λ (x : Rested Stack). flying_in x.events) is.becomes

  refused_loud : is_loud_in stack_layers w ≡ is_loud_in stack_layers v
  refused_loud =
      let mk : Bool → Bool = λ b. is_loud_with stack_layers v.events.merge (b && list_all (λ s. is_loud (stack_layers s.store)) v.snaps) in
      ap (is_loud_in stack_layers) is.becomes ∙ ap mk is.origin.loud_is

  -- what the names say of it
  pub refused_held : (names : List Names) (merging : Option Names) (asked : ℕ) (sound : Bool) → IsHeld names merging v asked sound → IsHeld names merging w asked sound
  refused_held names merging asked sound h = record {
    many = h.many ∙ ap (λ (x : Rested Stack). length x.snaps) (sym is.becomes);
    begun = h.begun ∙ ap (λ (x : Rested Stack). is_some x.events.merge) (sym is.becomes);
    requests = subst (λ (n : ℕ). n ≤ asked) (ap (λ (x : Rested Stack). x.requests) (sym is.becomes)) h.requests;
    loud = λ on. refused_loud ∙ h.loud on;
  }

  -- and all that is seen of it
  pub refused_seen : (volume : Volume) (merging : Option Names) →
      (let x : Volume = record volume { merging = merging_with merging w; state = settled_in w; given = w.attached; quiet = is_quiet_of w.events; flying = flying_in w.events } in x)
      ≡ record volume { merging = merging_with merging v; state = settled_in v; given = v.attached; quiet = is_quiet_of v.events; flying = flying_in v.events }
  refused_seen volume merging =
      let given = ap (λ (x : Rested Stack). x.attached) is.becomes in
      let quiet = ap (λ (x : Rested Stack). is_quiet_of x.events) is.becomes in
      (λ i. record volume { merging = refused_merging merging i; state = refused_settled i; given = given i; quiet = quiet i; flying = refused_flying i })

-- the settled machine's volume has as many snapshots as the volume of events behind it
pub as_many : (v : Rested Stack) → v ≡ rested_of v.events → length v.events.snaps ≡ length (settled_in v).snaps
as_many v whole =
    let held = ap (λ (x : Rested Stack). length x.snaps) whole ∙ length-map v.events.snaps attached_of in
    sym (length-map v.snaps (snap_of stack_contents stack_layers) ∙ held)
