-- Events of a merge that are done in straight line, and take no place of a journal.
use Rattle.std.proofs.Common.{◌≡◌, ℕ, zero, suc, ◌+◌, ◌<◌, Bool, true, false, List, [], ◌∷◌, ◌++◌, Option, None, Some, sym, refl, subst, arith}
use Rattle.std.specs.Prelude.{◌&&◌, Ok}
use Rattle.std.proofs.lemmas.Bool.{false≢true}
use Rattle.device.specs.Bare.{can_copy_run}
use Rattle.device.specs.Layers.{Layer}
use Rattle.plain_machine.specs.Replies.{reply_in}
use Rattle.plain_machine.specs.declared.event.Event.{Event}
use Rattle.plain_machine.specs.declared.event.Event.TheVariants.{MergeRead, MergeWrite}
use Rattle.plain_machine.specs.declared.event.Outcome.{Outcome}
use Rattle.plain_machine.specs.declared.event.Outcome.TheVariants.{Done}
use Rattle.merge.specs.declared.group.Group.{Group}
use Rattle.merge.specs.Due.{can_copy_of}
use Rattle.merge.specs.Merging.{Merging}
use Rattle.volume.specs.Copied.{AreCopied, IsDoneInTurn, can_copy_group, can_copy_to}
use Rattle.volume.specs.EventKinds.{is_of_merge}
use Rattle.volume.specs.Volumed.{Volumed, left_in_all}
use Rattle.counted_volume.specs.Following.{AreMerged, AreSteps, IsStep}
use Rattle.volume.proofs.GroupCopies.{copied_group}
use Rattle.volume.proofs.Shown.{and_left, and_right}
use Rattle.volume_laws.specs.MergeDue.{is_none}
use Rattle.counted_volume.specs.Places.{Counted, HasPlaces, counted_with}
use Rattle.counted_volume.specs.TakesPlaces.{TakesByRequests}
use Rattle.counted_volume.proofs.Steps.{step_is}
use Rattle.counted_volume.proofs.Earns.{stepped_many}
use Rattle.counted_volume.proofs.Fewer.{stepped_have}
use Rattle.counted_volume.proofs.Takings.{stepped_takes, takes_none, takes_then}

module _ {B : Type 0} (holds : B → ℕ → List ℕ → Type 0) (contents : B → List ℕ) (layers : B → List Layer) (faults size : B → ℕ) where
  steps_then : (xs ys : List (Event × Outcome)) (u v w : Volumed B) → AreSteps holds contents layers faults size xs u v → AreSteps holds contents layers faults size ys v w → AreSteps holds contents layers faults size (xs ++ ys) u w
  steps_then [] ys u v w same next = subst (λ (x : Volumed B). AreSteps holds contents layers faults size ys x w) same next
  steps_then (x ∷ xs) ys u v w chain next = (chain.0, chain.1, chain.2, chain.3, steps_then xs ys chain.0 v w chain.4 next)

module _ {B : Type 0} {holds : B → ℕ → List ℕ → Type 0} {contents : B → List ℕ} {layers : B → List Layer} {faults size : B → ℕ} where
  -- one, and one after the other
  pub merged_one : (event : Event) (outcome : Outcome) (u v : Counted B) → IsStep holds contents layers faults size event outcome u.volume v.volume → is_of_merge event ≡ true → reply_in outcome ≡ [] → left_in_all contents layers v.volume < left_in_all contents layers u.volume → TakesByRequests u v
      → AreMerged holds contents layers faults size u v
  merged_one event outcome u v step merges silent lower taken = record { steps = (event, outcome) ∷ []; chain = (v.volume, step, merges, silent, refl); left = omega (arith, lower); taken = taken }

  pub merged_then : {u v w : Counted B} → AreMerged holds contents layers faults size u v → AreMerged holds contents layers faults size v w → AreMerged holds contents layers faults size u w
  merged_then {u = u} {v = v} {w = w} first second = record {
    steps = first.steps ++ second.steps;
    chain = steps_then holds contents layers faults size first.steps second.steps u.volume v.volume w.volume first.chain second.chain;
    left = (let a = first.left in let b = second.left in omega (arith, a, b));
    taken = takes_then u v w first.taken second.taken;
  }

  pub none_merged : (u : Counted B) → AreMerged holds contents layers faults size u u
  none_merged u = record { steps = []; chain = refl; left = omega arith; taken = takes_none u }

-- the chunks of a group, copied at once: each of their events was done in its turn, and took no place
module _ {B : Type 0} (holds : B → ℕ → List ℕ → Type 0) (contents : B → List ℕ) (layers : B → List Layer) (size faults done : B → ℕ) where
  turn_merged : (event : Event) (v w : Volumed B) (places : ℕ) → is_of_merge event ≡ true → IsDoneInTurn holds contents layers size faults done event v w → AreMerged holds contents layers faults size (counted_with v places) (counted_with w places)
  turn_merged event v w places merges turn =
      let step = step_is holds contents layers faults size event Done Done v w (sym turn.first) turn.machine refl turn.does.exact turn.does.legal turn.does.kept turn.does.loud turn.does.counts.0 turn.does.flown turn.does.cause turn.does.closes turn.does.stops in
      merged_one event Done (counted_with v places) (counted_with w places) step merges refl turn.does.lower (stepped_takes v w holds contents layers size faults done event places (Ok Done) turn.does)

  turn_have : (event : Event) (v w : Volumed B) (places : ℕ) → IsDoneInTurn holds contents layers size faults done event v w → HasPlaces v places → HasPlaces w places
  turn_have event v w places turn have = stepped_have v w faults event Done places turn.does.flown turn.does.cause turn.does.overflows (stepped_many v w size turn.does.kept turn.does.counts.0) have

  pub copied_merged : (n : ℕ) (v w : Volumed B) (places : ℕ) → AreCopied holds contents layers size faults done n v w → AreMerged holds contents layers faults size (counted_with v places) (counted_with w places)
  copied_merged zero v w places same = subst (λ (x : Volumed B). AreMerged holds contents layers faults size (counted_with v places) (counted_with x places)) (sym same) (none_merged (counted_with v places))
  copied_merged (suc n) v w places chain =
      merged_then (turn_merged MergeRead v chain.0 places refl chain.2)
      (merged_then (turn_merged MergeWrite chain.0 chain.1 places refl chain.3) (copied_merged n chain.1 w places chain.4))

  pub copied_have : (n : ℕ) (v w : Volumed B) (places : ℕ) → AreCopied holds contents layers size faults done n v w → HasPlaces v places → HasPlaces w places
  copied_have zero v w places same have = subst (λ (x : Volumed B). HasPlaces x places) (sym same) have
  copied_have (suc n) v w places chain have = copied_have n chain.1 w places chain.4 (turn_have MergeWrite chain.0 chain.1 places chain.3 (turn_have MergeRead v chain.0 places chain.2 have))

-- one whose chunks were copied at once has a merge and a group
copies_to : {B : Type 0} (runs : Bool) (layers : B → List Layer) (origin : B) (o : Option (Merging B)) → can_copy_to runs layers origin o ≡ true → (m : Merging B) × (o ≡ Some m) × (g : Group) × (m.group ≡ Some g)
copies_to runs layers origin None e = absurd (false≢true e)
copies_to runs layers origin (Some m) e = (let g = copied_group m.group m.state.chunk m.state.origin (and_left (can_copy_of m.group m.state.chunk m.state.origin) (can_copy_run runs (layers origin) (layers m.device)) e) in (m, refl, g.0, g.1))

pub copies_group : {B : Type 0} (runs : Bool) (layers : B → List Layer) (v : Volumed B) → can_copy_group runs layers v ≡ true → (m : Merging B) × (v.merge ≡ Some m) × (g : Group) × (m.group ≡ Some g)
copies_group runs layers v e = copies_to runs layers v.origin v.merge (and_right (is_none v.flights) (can_copy_to runs layers v.origin v.merge) (and_right (is_none v.snaps) (is_none v.flights && can_copy_to runs layers v.origin v.merge) e))
