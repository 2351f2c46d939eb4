-- A merge goes on after a fault, in a volume with its names.
use Rattle.std.proofs.Common.{◌≡◌, Bool, true, false, refl, sym, ap, ◌∙◌}
use Rattle.std.specs.Prelude.{Option, Some, None, Result, Ok, Err, IfErr, OnErr, OnOk, is_some, if◌then◌else◌}
use Rattle.std.specs.Option.{option_map}
use Rattle.sector.specs.declared.refusal.Refusal.{Refusal}
use Rattle.sector.specs.declared.refusal.Refusal.TheVariants.{NotMerging}
use Rattle.layers.specs.declared.stack.Stack.{Stack}
use Rattle.layers.specs.Stack.{stack_contents, stack_layers}
use Rattle.whole_commands.specs.Merges.{Merge, Merged, resumed as resumed_in_big_steps, resumed_by as resumed_in_big_steps_by}
use Rattle.event_machine.specs.Held.{Moving}
use Rattle.event_machine.specs.Merging.{resumed as machine_resumed}
use Rattle.merge.specs.Merging.{Merging}
use Rattle.volume.specs.Leaving.{is_quiet_of}
use Rattle.volume_commands.specs.Flying.{flying_of}
use Rattle.volume_commands.specs.Rested.{Rested}
use Rattle.command_semantics.specs.Changes.{Changes}
use Rattle.command_semantics.specs.State.{Names, Volume}
use Rattle.command_semantics.specs.Merging.{resumed}
use Rattle.device_list.specs.Held.{flying_in, merged_inside, merging_with, settled_in, with_names}
use Rattle.device_list.proofs.Merges.{machine_merge, merge_by}

-- what is in flight goes on with it
either_map : (b : Bool) (x y : Moving) → machine_resumed x ≡ y → (if b then None else Some y) ≡ option_map machine_resumed (if b then None else Some x)
either_map true x y is = refl
either_map false x y is = ap (λ (v : Moving). Some v) (sym is)

flies_on : (before after : Rested Stack) → is_quiet_of after.events ≡ is_quiet_of before.events → machine_resumed (flying_of stack_contents stack_layers before.events) ≡ flying_of stack_contents stack_layers after.events
    → flying_in after.events ≡ option_map machine_resumed (flying_in before.events)
flies_on before after quiet is =
    ap (λ b. if b then None else Some (flying_of stack_contents stack_layers after.events)) quiet
    ∙ either_map (is_quiet_of before.events) (flying_of stack_contents stack_layers before.events) (flying_of stack_contents stack_layers after.events) is

module _ (volume new : Volume) (before after : Rested Stack) (state : volume.state ≡ settled_in before) (flying : volume.flying ≡ flying_in before.events) where
  -- one that is begun goes on
  resumed_is : (names : Names) (m : Merging Stack) → volume.merging ≡ merging_with (Some names) before → before.events.merge ≡ Some m → resumed_in_big_steps (merged_inside before) ≡ merged_inside after
      → machine_resumed (flying_of stack_contents stack_layers before.events) ≡ flying_of stack_contents stack_layers after.events → is_quiet_of after.events ≡ is_quiet_of before.events
      → new ≡ record volume { merging = merging_with (Some names) after; state = settled_in after; flying = flying_in after.events } → resumed volume ≡ Ok new
  unfolding resumed
  resumed_is names m merging begun merged flown quiet new_is =
      let was : (merged_inside before).merge ≡ Some (machine_merge m) = ap merge_by begun in
      let here : volume.merging ≡ Some (record { names = names; merge = machine_merge m }) = merging ∙ ap (with_names names) was in
      let big : merged_inside after ≡ record { volume = settled_in before; merge = Some (record (machine_merge m) { failed = false }) } = sym merged ∙ ap (λ (o : Option Merge). resumed_in_big_steps_by o (settled_in before)) was in
      let stays : settled_in after ≡ settled_in before = ap (λ (x : Merged). x.volume) big in
      let goes : (merged_inside after).merge ≡ Some (record (machine_merge m) { failed = false }) = ap (λ (x : Merged). x.merge) big in
      let flies = flies_on before after quiet flown in
      rw here (rw new_is (rw goes (rw stays (rw state (rw flies (rw flying refl))))))

  pub resumes : (names : Option Names) (r : Result (Unit {0}) Refusal) → volume.merging ≡ merging_with names before → is_some names ≡ is_some before.events.merge
      → OnOk r (resumed_in_big_steps (merged_inside before) ≡ merged_inside after) → OnOk r (machine_resumed (flying_of stack_contents stack_layers before.events) ≡ flying_of stack_contents stack_layers after.events)
      → OnOk r ((m : Merging Stack) × (before.events.merge ≡ Some m)) → IfErr r (λ e. (e ≡ NotMerging) × (before.events.merge ≡ None) × (after.events ≡ before.events)) → OnErr r (after ≡ before) → is_quiet_of after.events ≡ is_quiet_of before.events
      → new ≡ record volume { merging = merging_with names after; state = settled_in after; flying = flying_in after.events } → Changes r volume new (resumed volume)
  unfolding resumed
  resumes None (Ok unit) merging same merged flown begun why unchanged quiet new_is = absurd (let clash : false ≡ true = same ∙ ap (λ (o : Option (Merging Stack)). is_some o) begun.1 in cc)
  resumes (Some names) (Ok unit) merging same merged flown begun why unchanged quiet new_is = resumed_is names begun.0 merging begun.1 merged flown quiet new_is
  resumes None (Err e) merging same merged flown begun why unchanged quiet new_is = (
    (rw new_is (rw unchanged (rw (sym merging) (rw (sym state) (rw (sym flying) refl))))),
    λ other. rw merging (rw why.0 refl),
  )
  resumes (Some names) (Err e) merging same merged flown begun why unchanged quiet new_is = absurd (let clash : true ≡ false = same ∙ ap (λ (o : Option (Merging Stack)). is_some o) why.1 in cc)
