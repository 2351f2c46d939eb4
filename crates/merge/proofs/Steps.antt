-- A merge is in step with its store, from what the store's type keeps.
use Rattle.std.proofs.Common.{◌≡◌, ℕ, true, List, ap, ◌∙◌}
use Rattle.sector.specs.declared.pair.Pair.{Pair}
use Rattle.device.specs.Layers.{Layer, is_loud}
use Rattle.store.specs.declared.state.Left.TheVariants.{Nothing}
use Rattle.store.specs.Headed.{head_of, marked_as}
use Rattle.store.specs.Loading.{is_begun}
use Rattle.store.specs.Stored.{IsFront, IsStored, AreGiven}
use Rattle.store.proofs.Given.{given_formed}
use Rattle.merge.specs.InStep.{IsInStep}
use Rattle.merge.specs.Merging.{Merging}

pub in_step : {B : Type 0} (contents : B → List ℕ) (layers : B → List Layer) (size : B → ℕ) (m : Merging B) (begun : List Pair) (area : List ℕ) → m.state.left ≡ Nothing → m.state.valid ≡ true → m.state.size ≡ size m.device
    → IsFront m.pairs m.state area → AreGiven m.state.chunk m.state.origin m.state.size m.next m.state.copying m.pairs begun → (is_loud (layers m.device) ≡ true → IsStored (contents m.device) m.pairs m.state area) → IsInStep contents layers size m
in_step contents layers size m begun area ready valid sized front given stored = record {
  sized = sized;
  formed = given_formed m.state.chunk m.state.origin m.state.size m.next m.state.copying m.pairs begun given;
  count = front.count;
  fits = front.fits;
  header = λ loud. (stored loud).head ∙ ap (λ left. head_of left m.state.valid m.state.chunk) ready ∙ ap (λ is. marked_as is m.state.chunk) valid;
  pairs = λ loud. (stored loud).listed (ap is_begun ready);
}
