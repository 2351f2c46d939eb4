-- A request that its volume served: the places of a journal that it takes.
use Rattle.std.proofs.Common.{◌≡◌, ℕ, ◌+◌, ◌≤◌, true, List, refl, arith}
use Rattle.std.specs.Prelude.{Ok}
use Rattle.device.specs.Layers.{Layer}
use Rattle.plain_machine.specs.Kept.{kept}
use Rattle.plain_machine.specs.declared.event.Event.TheVariants.{Issue}
use Rattle.plain_machine.specs.declared.event.Outcome.TheVariants.{Reply as Replied}
use Rattle.plain_machine.specs.declared.request.Request.{Request}
use Rattle.volume.specs.DoesServe.{DoesServe}
use Rattle.volume.specs.Submitting.{IsAcceptedAs}
use Rattle.volume.specs.Volumed.{Volumed}
use Rattle.volume.specs.declared.at_once.Served.{Served}
use Rattle.volume.specs.declared.at_once.Served.TheVariants.{Answered, InFlight as IsInFlight}
use Rattle.counted_volume.specs.Places.{HasPlaces, counted_with, kept_for_marks}
use Rattle.counted_volume.specs.TakesPlaces.{TakesByRequests}
use Rattle.counted_volume.proofs.Earns.{stepped_many}
use Rattle.counted_volume.proofs.Fewer.{accepted_have, stepped_have}
use Rattle.counted_volume.proofs.Takings.{accepted_takes, done_takes, stepped_takes, takes_then}
use Rattle.volume.specs.Lent.{is_bare}
use Rattle.volume.proofs.Bare.{bare}

-- a bare volume keeps none for a mark
module _ {B : Type 0} (v : Volumed B) (is : is_bare v ≡ true) where
  pub no_marks : kept_for_marks v ≡ 0
  no_marks = (let none = (bare v is).none in rw none refl)

module _ {B : Type 0} (holds : B → ℕ → List ℕ → Type 0) (contents : B → List ℕ) (layers : B → List Layer) (size faults done : B → ℕ) (request : Request) (v w : Volumed B) where
  module _ (places : ℕ) (room : places + kept_for_marks v + 1 ≤ 65_536) where
    pub served_have : (served : Served) → DoesServe holds contents layers size faults done request (Ok served) v w → HasPlaces v places → HasPlaces w (places + 1)
    served_have (IsInFlight n) does have = accepted_have v w contents layers request n places does.ok room have
    served_have (Answered n reply) does have =
        stepped_have does.mid w faults (Issue n) (Replied n reply) (places + 1) does.steps.flown does.steps.cause does.steps.overflows (stepped_many does.mid w size does.steps.kept does.steps.counts.0)
        (accepted_have v does.mid contents layers request n places does.submits.ok room have)

    accepted_by : (n : ℕ) (u : Volumed B) → IsAcceptedAs contents layers request n v u → TakesByRequests (counted_with v places) (counted_with u (places + 1))
    accepted_by n u is = accepted_takes (counted_with v places) (counted_with u (places + 1)) contents layers request n is (done_takes 1 places (places + 1) (kept_for_marks v) kept_for_marks v u n refl room (omega arith))

    pub served_takes : (served : Served) → DoesServe holds contents layers size faults done request (Ok served) v w → TakesByRequests (counted_with v places) (counted_with w (places + 1))
    served_takes (IsInFlight n) does = accepted_by n w does.ok
    served_takes (Answered n reply) does = takes_then (counted_with v places) (counted_with does.mid (places + 1)) (counted_with w (places + 1)) (accepted_by n does.mid does.submits.ok)
        (stepped_takes does.mid w holds contents layers size faults done (Issue n) (places + 1) (Ok (Replied n reply)) does.steps)
