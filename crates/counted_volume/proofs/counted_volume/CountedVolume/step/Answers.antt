-- An event takes no place, and what it comes to is noted.
use Rattle.std.proofs.Common.{◌≡◌, ℕ, List, true, sym, subst}
use Rattle.std.specs.Prelude.{Err, IfOk, Ok, Result}
use Rattle.device.specs.Layers.{Layer}
use Rattle.plain_machine.specs.declared.event.Event.{Event}
use Rattle.plain_machine.specs.declared.event.NotDue.{NotDue}
use Rattle.plain_machine.specs.declared.event.Outcome.{Outcome}
use Rattle.volume.specs.DoesStep.{DoesStep}
use Rattle.volume.specs.Volumed.{Volumed, is_loud_in_all, plain_of}
use Rattle.audited_volume.specs.declared.entry.Entry.{Entry}
use Rattle.counted_volume.specs.GoingOn.{ComesTo, GoesOn}
use Rattle.counted_volume.specs.Places.{HasPlaces}
use Rattle.counted_volume.proofs.Earns.{stepped_many}
use Rattle.counted_volume.proofs.Fewer.{stepped_have}
use Rattle.counted_volume.proofs.JournalGoing.{stepped_goes_on}
use Rattle.counted_volume.proofs.Takings.{stepped_takes}
use Rattle.counted_volume.proofs.counted_volume.CountedVolume.step.Goals as goal

module _ {B : Type 0} (holds : B → ℕ → List ℕ → Type 0) (contents : B → List ℕ) (layers : B → List Layer) (size faults done : B → ℕ) (event : Event) where
  places_by : (result : Result Outcome NotDue) (v w : Volumed B) (places : ℕ) → DoesStep holds contents layers size faults done true event result v w → HasPlaces v places → HasPlaces w places
  places_by (Ok outcome) v w places does have = stepped_have v w faults event outcome places does.flown does.cause does.overflows (stepped_many v w size does.kept does.counts.0) have
  places_by (Err early) v w places does have = subst (λ (x : Volumed B). HasPlaces x places) (sym does.same) have

  goes_by : (result : Result Outcome NotDue) (v w : Volumed B) → DoesStep holds contents layers size faults done true event result v w
      → IfOk result (λ outcome. is_loud_in_all layers v ≡ true → (entries : List Entry) × ComesTo (plain_of contents layers v) outcome entries × GoesOn (plain_of contents layers v) entries (plain_of contents layers w))
  goes_by (Ok outcome) v w does = λ loud. stepped_goes_on (plain_of contents layers v) event outcome (plain_of contents layers w) (does.legal loud)
  goes_by (Err early) v w does = tt

pub invariant_of-self : goal.invariant_of-self
invariant_of-self g c =
    places_by g.B.Block.may_hold g.B.Block.contents g.B.Block.layers g.B.Block.size g.B.Block.fault_count g.B.Block.done_count c.args.event c.step.result c.self.inside.volume c.step.new.self c.self.inside.places c.step.ensures.does c.self.invariant

pub returns-clause-goes_on : goal.returns-clause-goes_on
returns-clause-goes_on g c =
    rw (← c.self.view_is) (goes_by g.B.Block.may_hold g.B.Block.contents g.B.Block.layers g.B.Block.size g.B.Block.fault_count g.B.Block.done_count c.args.event c.step.result c.self.inside.volume c.step.new.self c.step.ensures.does)

pub returns-clause-does : goal.returns-clause-does
returns-clause-does g c = rw (← c.self.view_is) c.step.ensures.does

pub returns-clause-taken : goal.returns-clause-taken
returns-clause-taken g c =
    rw (← c.self.view_is) (stepped_takes c.self.inside.volume c.step.new.self g.B.Block.may_hold g.B.Block.contents g.B.Block.layers g.B.Block.size g.B.Block.fault_count g.B.Block.done_count c.args.event c.self.inside.places c.step.result c.step.ensures.does)
