-- A volume that does what is due until nothing is, gets where the event machine settles.
use Rattle.std.proofs.Common.{◌≡◌, ℕ, zero, suc, ◌+◌, true, List, Option, Some, None, refl, sym, ◌∙◌, ap, subst, arith}
use Rattle.device.specs.Layers.{Layer}
use Rattle.plain_machine.specs.declared.event.Event.{Event}
use Rattle.plain_machine.specs.declared.event.Outcome.{Outcome}
use Rattle.plain_machine.specs.declared.request.Reply.{Reply}
use Rattle.whole_commands.specs.Merges.{Merged, Merging}
use Rattle.event_machine.specs.Held.{Moving}
use Rattle.event_machine.specs.Due.{due}
use Rattle.event_machine.specs.MergeDue.{due_all}
use Rattle.event_machine.specs.MergeRest.{merged_of, IsBetween}
use Rattle.event_machine.specs.MergeSettles.{SettlesToMerged, SettlesToReplied}
use Rattle.event_machine.specs.MergeStepping.{stepped_all}
use Rattle.whole_commands.specs.Pieces.{Answered}
use Rattle.event_machine.specs.Seen.{replied_by}
use Rattle.event_machine.specs.Stepping.{for_some, stepped}
use Rattle.event_machine.specs.Settles.{settle_by, SettlesTo}
use Rattle.volume.specs.Volumed.{Volumed, is_loud_in_all}
use Rattle.volume.specs.Moved.{moving_of}
use Rattle.volume.specs.Exact.{IsExact}
use Rattle.volume.specs.Reaching.{ReachesBy, Reaches, ReachesAll, IsRunAll, IsMergedTo}
use Rattle.whole_commands.specs.Snaps.{Volume}

-- by events that are chosen in some way
module _ (choose : Moving → Option Event) (step : Event → Moving → Moving) where
  none_by : (m : Moving) → ReachesBy choose step m m
  none_by m = record { steps = 0; settles = λ more. ap (λ n. settle_by choose step n m) (omega arith) }

  more_by : (m w u : Moving) (event : Event) → ReachesBy choose step m w → choose w ≡ Some event → step event w ≡ u → ReachesBy choose step m u
  more_by m w u event r first next = record {
    steps = r.steps + 1;
    settles = λ more.
        let count : r.steps + 1 + more ≡ r.steps + suc more = omega arith in
        ap (λ n. settle_by choose step n m) count ∙ r.settles (suc more) ∙ ap (λ (x : Option Event). for_some x (λ e. settle_by choose step more (step e w)) w) first ∙ ap (settle_by choose step more) next;
  }

  -- where nothing is due it stays
  stays : (w : Moving) → choose w ≡ None → (more : ℕ) → settle_by choose step more w ≡ w
  stays w none zero = refl
  stays w none (suc more) = ap (λ (x : Option Event). for_some x (λ e. settle_by choose step more (step e w)) w) none

  -- and what it settles to is one thing
  end_by : (m w last : Moving) (fuel : ℕ) → ((more : ℕ) → settle_by choose step (fuel + more) m ≡ last) → ReachesBy choose step m w → choose w ≡ None → w ≡ last
  end_by m w last fuel ends r none = sym (stays w none fuel) ∙ sym (r.settles fuel) ∙ ap (λ n. settle_by choose step n m) (omega arith) ∙ ends r.steps

-- nothing is done
pub reaches_none : (m : Moving) → Reaches m m
reaches_none m = none_by due stepped m

pub reaches_none_all : (m : Moving) → ReachesAll m m
reaches_none_all m = none_by due_all stepped_all m

-- one event more
pub reaches_more : (m w u : Moving) (event : Event) → Reaches m w → due w ≡ Some event → stepped event w ≡ u → Reaches m u
reaches_more m w u event r first step = more_by due stepped m w u event r first step

pub reaches_more_all : (m w u : Moving) (event : Event) → ReachesAll m w → due_all w ≡ Some event → stepped_all event w ≡ u → ReachesAll m u
reaches_more_all m w u event r first step = more_by due_all stepped_all m w u event r first step

-- until none is due
pub reaches_end : (sectors : ℕ) (answer : Answered Volume) (m w : Moving) (t : SettlesTo sectors m answer) → Reaches m w → due w ≡ None → w ≡ t.last
reaches_end sectors answer m w t r none = end_by due stepped m w t.last t.fuel t.ends r none

pub reaches_replied : (sectors : ℕ) (answer : Answered Merging) (m w : Moving) (t : SettlesToReplied sectors m answer) → Reaches m w → due w ≡ None → w ≡ t.last
reaches_replied sectors answer m w t r none = end_by due stepped m w t.last t.fuel t.ends r none

pub reaches_merged : (sectors : ℕ) (answer : Merged) (m w : Moving) (t : SettlesToMerged sectors m answer) → ReachesAll m w → due_all w ≡ None → w ≡ t.last
reaches_merged sectors answer m w t r none = end_by due_all stepped_all m w t.last t.fuel t.ends r none

module _ {B : Type 0} (contents : B → List ℕ) (layers : B → List Layer) where
  -- events of snapshots, requests and the merge
  pub run_none_all : (replied : Option Reply) (v : Volumed B) → IsRunAll contents layers replied replied v v
  run_none_all replied v = record { reaches = λ loud. reaches_none_all (moving_of contents layers replied v); loud = refl }

  pub run_more_all : (before after : Option Reply) (v w u : Volumed B) (event : Event) (outcome : Outcome) → IsRunAll contents layers before after v w → due_all (moving_of contents layers after w) ≡ Some event
      → IsExact contents layers event outcome w u → is_loud_in_all layers u ≡ is_loud_in_all layers w → IsRunAll contents layers before (replied_by outcome after) v u
  run_more_all before after v w u event outcome r first e loud = record {
    reaches = λ all. reaches_more_all (moving_of contents layers before v) (moving_of contents layers after w) (moving_of contents layers (replied_by outcome after) u) event (r.reaches all) first (e.step (r.loud ∙ all) after);
    loud = loud ∙ r.loud;
  }

  -- until none is due: the volume's devices, snapshots and merge are those of the big step
  pub run_merges : (sectors : ℕ) (answer : Merged) (before after : Option Reply) (v w : Volumed B) → is_loud_in_all layers v ≡ true → SettlesToMerged sectors (moving_of contents layers before v) answer
      → IsRunAll contents layers before after v w → due_all (moving_of contents layers after w) ≡ None → IsMergedTo contents layers sectors before after w answer
  run_merges sectors answer before after v w loud t r none =
      let last : moving_of contents layers after w ≡ t.last = reaches_merged sectors answer (moving_of contents layers before v) (moving_of contents layers after w) t (r.reaches loud) none in
      record {
        is = ap merged_of last ∙ t.is;
        silent = ap (λ (m : Moving). m.replied) last ∙ t.silent;
        rest = subst (IsBetween sectors) (sym last) t.rest;
      }
