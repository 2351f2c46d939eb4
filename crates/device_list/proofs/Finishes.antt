-- A merge is taken out of a volume with its names, goes on after a fault, or is merged to its end.
use Rattle.std.proofs.Common.{◌≡◌, ◌<◌, Bool, true, false, length, refl, sym, ap, ◌∙◌, inl, inr, subst, arith}
use Rattle.std.specs.Prelude.{Option, Ok, Err, Some, None, nat_lt, ◌&&◌, if◌then◌else◌}
use Rattle.std.specs.List.{list_all}
use Rattle.sector.specs.declared.refusal.Refusal.{Refusal}
use Rattle.sector.specs.declared.refusal.Refusal.TheVariants.{NotQuiet, NotFinished}
use Rattle.device.specs.Layers.{is_loud}
use Rattle.layers.specs.declared.stack.Stack.{Stack}
use Rattle.layers.specs.Stack.{stack_contents, stack_layers}
use Rattle.snapshot.specs.declared.opening.StoreDev.{StoreDev}
use Rattle.whole_commands.specs.Snaps.{Volume as Settled}
use Rattle.whole_commands.specs.Attaching.{Store}
use Rattle.whole_commands.specs.Merges.{Merge, Finished, finished as finished_in_big_steps, finished_by as finished_in_big_steps_by, pairs_in}
use Rattle.whole_commands.specs.Refusals.{is_starved}
use Rattle.merge.specs.Due.{is_finished_of}
use Rattle.merge.specs.Merging.{Merging}
use Rattle.volume_commands.specs.Merging.{IsTakenOutAs, IsUnfinished}
use Rattle.volume_commands.specs.Rested.{Rested}
use Rattle.volume.specs.Finishing.{finish_with}
use Rattle.volume.specs.Volumed.{is_loud_with}
use Rattle.command_semantics.specs.Stacks.{device_of}
use Rattle.command_semantics.specs.State.{Stacked, Names, Volume}
use Rattle.command_semantics.specs.Merging.{finished}
use Rattle.device_list.specs.Held.{merged_inside, merging_with, settled_in, with_names, IsSettledIn}
use Rattle.device_list.proofs.Merges.{merge_by}

-- a merge that gives its store back has no pair left
gave : (left : Bool) (a b : Finished) (f : Finished) (store : Store) → a.back ≡ None → (if left then a else b) ≡ f → f.back ≡ Some store → left ≡ false
gave true a b f store none is some = absurd (let clash : None ≡ Some store = sym none ∙ ap (λ (x : Finished). x.back) is ∙ some in cc)
gave false a b f store none is some = refl

none_left : (g : Merge) (v : Settled) (f : Finished) (store : Store) → finished_in_big_steps_by (Some g) v ≡ f → f.back ≡ Some store → nat_lt 0 (length (pairs_in g)) ≡ false
none_left g v f store is some = gave (nat_lt 0 (length (pairs_in g))) _ _ f store refl is some

-- no other device is changed by it
pub same_state : (given : StoreDev Stack) (before after : Rested Stack) → IsTakenOutAs given before after → settled_in after ≡ settled_in before
same_state given before after out = rw out.origin (rw out.snaps refl)

-- The merge is taken out.
module _ (volume : Volume) (before after : Rested Stack) (names : Names) (given : StoreDev Stack) (state : volume.state ≡ settled_in before) (merging : volume.merging ≡ merging_with (Some names) before) (out : IsTakenOutAs given before after) where
  abbrev g : Merge
  g = record {
    number = out.merge.number;
    chunk = out.merge.state.chunk;
    failed = out.merge.failed;
    current = out.merge.state.current;
    next = out.merge.next;
    store = device_of out.merge.device;
  }

  was : (merged_inside before).merge ≡ Some g
  was = ap merge_by out.was

  begun : volume.merging ≡ Some (record { names = names; merge = g })
  begun = merging ∙ ap (with_names names) was

  pub finished_is : volume.quiet ≡ true → (finished_in_big_steps (merged_inside before) ≡ record { state = merged_inside after; back = Some (record { device = device_of given.device; stale = given.stale }) })
      → (stacked : Stacked) (new : Volume) → stacked ≡ record { names = names.store; device = device_of given.device; stale = given.stale } → new ≡ record volume { merging = None } → finished volume ≡ Ok (stacked, new)
  unfolding finished
  finished_is quiet big stacked new stacked_is new_is =
      let here : finished_in_big_steps_by (Some g) (settled_in before) ≡ record { state = merged_inside after; back = Some (record { device = device_of given.device; stale = given.stale }) } =
      ap (λ (o : Option Merge). finished_in_big_steps_by o (settled_in before)) (sym was) ∙ big in
      let none = none_left g (settled_in before) _ _ here refl in
      let device : stacked ≡ record { names = names.store; device = device_of out.merge.device; stale = false } =
      stacked_is ∙ ap (λ (d : Stack). let s : Stacked = record { names = names.store; device = device_of d; stale = given.stale } in s) out.device
      ∙ ap (λ (b : Bool). let s : Stacked = record { names = names.store; device = device_of out.merge.device; stale = b } in s) out.stale in
      rw new_is (rw begun (rw none (rw device (rw quiet refl))))

  -- its store drops no writes where none of its devices does
  pub taken_loud : IsSettledIn before → is_loud (stack_layers given.device) ≡ true
  taken_loud settled = rw out.device (last _ _ (ap (λ (o : Option (Merging Stack)). loud_by o) (sym out.was) ∙ settled.loud))
    where
      others : Bool
      others = is_loud (stack_layers before.origin) && list_all (λ s. is_loud (stack_layers s.store)) before.snaps

      loud_by : Option (Merging Stack) → Bool
      loud_by o = is_loud_with stack_layers o others

      last : (a b : Bool) → (a && b) ≡ true → b ≡ true
      last true b h = h
      last false b h = absurd (cc)

-- it is not taken out of a settled volume
left_of : (g : Merge) → 0 < length (pairs_in g) → nat_lt 0 (length (pairs_in g)) ≡ true
left_of g some = search (arith, some)

pub unfinished_is : (volume : Volume) (before : Rested Stack) (names : Option Names) (e : Refusal) → volume.merging ≡ merging_with names before
    → IsUnfinished stack_contents stack_layers e before → finished volume ≡ Err e
unfolding finished
unfinished_is volume before None e merging why = rw merging (rw why.0 refl)
unfinished_is volume before (Some names) e merging why = elim why.1 [
  | inl none ↦ (let here : volume.merging ≡ None = merging ∙ ap (with_names names) (ap merge_by none) in rw here (rw why.0 refl))
  | inr some ↦ (let here : volume.merging ≡ Some (record { names = names; merge = some.0 }) = merging ∙ ap (with_names names) some.1 in rw here (rw (left_of some.0 some.2) (rw why.0 refl)))
]

-- why it is not taken out is no want of room
because : (e why : Refusal) → is_starved why ≡ false → Some why ≡ Some e → is_starved e ≡ false
because e why other is = subst (λ (r : Refusal). is_starved r ≡ false) (same why e is) other
  where
    same : (a b : Refusal) → Some a ≡ Some b → a ≡ b
    same a b is = cc

pub unfinished_served : (o : Option (Merging Stack)) (quiet : Bool) (e : Refusal) → finish_with o quiet ≡ Some e → is_starved e ≡ false
unfinished_served None quiet e is = because e NotFinished refl is
unfinished_served (Some m) quiet e is = by (is_finished_of m) quiet is
  where
    by : (finished quiet : Bool) → (if finished then (if quiet then None else Some NotQuiet) else Some NotFinished) ≡ Some e → is_starved e ≡ false
    by true true is = absurd (cc)
    by true false is = because e NotQuiet refl is
    by false quiet is = because e NotFinished refl is
