-- Events of a whole volume by what is due, those of its merge among them: one after the other.
use Rattle.std.proofs.Common.{◌≡◌, ℕ, zero, suc, ◌+◌, List, [], Option, Some, None, refl, ap, ◌∙◌, subst, arith}
use Rattle.plain_machine.specs.declared.event.Event.{Event}
use Rattle.plain_machine.specs.declared.event.Event.TheVariants.{Issue, CopyRead, CopyWrite, ZeroNext, WriteArea, Publish, WriteInvalid, FlushStore}
use Rattle.plain_machine.specs.declared.request.Reply.{Reply}
use Rattle.volume_laws.specs.MergeDue.{due_or}
use Rattle.whole_commands.specs.Devices.{Device, sectors_of}
use Rattle.event_machine.specs.Held.{SnapHeld, MergeHeld, Moving}
use Rattle.event_machine.specs.Due.{chosen}
use Rattle.event_machine.specs.MergeDue.{merge_due, due_all}
use Rattle.event_machine.specs.MergeStepping.{start_waiting, stepped_all}
use Rattle.event_machine.specs.Stepping.{for_some, stepped}
use Rattle.event_machine.specs.Settles.{settle_all}
use Rattle.event_machine.proofs.Around.{at_with, IsIdle, due_request}
use Rattle.whole_commands.proofs.Each.{Each}
use Rattle.whole_command_laws.proofs.Goes.{followed, IsThere, TakesDue, Goes}

abbrev event_in : Event → Option Event → Event
event_in other None = other
event_in other (Some event) = event

module _ (event : Event) (v : Moving) where
  -- an event that is chosen is no event of a merge
  alike : (here : Event) → (IsThere here v → stepped_all here v ≡ followed start_waiting here (stepped here v)) → Some here ≡ Some event → IsThere event v → stepped_all event v ≡ followed start_waiting event (stepped event v)
  alike here same is = subst (λ (x : Event). IsThere x v → stepped_all x v ≡ followed start_waiting x (stepped x v)) (ap (event_in here) is) same

  starts_there : (n : ℕ) → IsThere (Publish n) v → stepped_all (Publish n) v ≡ start_waiting (stepped (Publish n) v)
  starts_there n there = ap (λ o. for_some o (λ h. start_waiting (stepped (Publish n) v)) v) there.1

  chosen_steps : (a b c d e f g i : Option ℕ) → chosen a b c d e f g i ≡ Some event → IsThere event v → stepped_all event v ≡ followed start_waiting event (stepped event v)
  chosen_steps (Some n) b c d e f g i is = alike (WriteInvalid n) (λ there. refl) is
  chosen_steps None (Some n) c d e f g i is = alike (FlushStore n) (λ there. refl) is
  chosen_steps None None (Some n) d e f g i is = alike (Publish n) (starts_there n) is
  chosen_steps None None None (Some n) e f g i is = alike (WriteArea n) (λ there. refl) is
  chosen_steps None None None None (Some n) f g i is = alike (ZeroNext n) (λ there. refl) is
  chosen_steps None None None None None (Some n) g i is = alike (CopyWrite n) (λ there. refl) is
  chosen_steps None None None None None None (Some n) i is = alike (CopyRead n) (λ there. refl) is
  chosen_steps None None None None None None None (Some n) is = alike (Issue n) (λ there. refl) is
  chosen_steps None None None None None None None None is = absurd (cc)

all_takes : TakesDue start_waiting due_all stepped_all
all_takes = record {
  takes = λ v event is. ap (λ o. due_or o (merge_due (sectors_of v.origin) v.snaps v.requests v.merge)) is;
  steps = λ v event is there. chosen_steps event v _ _ _ _ _ _ _ _ is there;
}

-- a volume goes on to another by so many events
abbrev pub GoesAll : Moving → Moving → Type 0
GoesAll v w = (n : ℕ) × ((m : ℕ) → settle_all (n + m) v ≡ settle_all m w)

pub goes_all : (v w : Moving) → Goes start_waiting v w → GoesAll v w
goes_all v w goes = (goes.0, goes.1 due_all stepped_all all_takes)

pub all_none : (v : Moving) → GoesAll v v
all_none v = (0, λ m. ap (λ k. settle_all k v) (omega arith))

pub all_on : (u v w : Moving) → GoesAll u v → GoesAll v w → GoesAll u w
all_on u v w a b = (a.0 + b.0, λ m. ap (λ k. settle_all k u) (omega arith) ∙ a.1 (b.0 + m) ∙ b.1 m)

pub all_as : (u v w : Moving) → GoesAll u v → v ≡ w → GoesAll u w
all_as u v w goes same = subst (GoesAll u) same goes

pub all_step : (v w : Moving) (event : Event) → due_all v ≡ Some event → stepped_all event v ≡ w → GoesAll v w
all_step v w event is step = (
  1,
  λ m. (let more : 1 + m ≡ suc m = omega arith in
      ap (λ k. settle_all k v) more ∙ ap (λ o. for_some o (λ e. settle_all m (stepped_all e v)) v) is ∙ ap (settle_all m) step),
)

-- where nothing is due, it stays
pub all_there : (v w : Moving) → GoesAll v w → due_all w ≡ None → (n : ℕ) × ((m : ℕ) → settle_all (n + m) v ≡ w)
all_there v w goes quiet = (goes.0, λ m. goes.1 m ∙ stays m)
  where
    stays : (m : ℕ) → settle_all m w ≡ w
    stays zero = refl
    stays (suc m) = ap (λ o. for_some o (λ e. settle_all m (stepped_all e w)) w) quiet

-- where the snapshots are idle and no request is in flight, the merge's event is due
pub merge_first : (origin : Device) (snaps : List SnapHeld) (a : Option Reply) (k : ℕ) (h : MergeHeld) (o : Option Event) → Each IsIdle snaps → merge_due (sectors_of origin) snaps [] (Some h) ≡ o → due_all (at_with (Some h) origin snaps [] a k) ≡ o
merge_first origin snaps a k h o idle is = ap (λ x. due_or x (merge_due (sectors_of origin) snaps [] (Some h))) (due_request origin snaps [] a k idle None refl) ∙ is
