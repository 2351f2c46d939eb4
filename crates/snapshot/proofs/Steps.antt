-- A snapshot is in step with its store, from what the store's type keeps.
use Rattle.std.proofs.Common.{◌≡◌, ℕ, Bool, true, false, List, refl, sym, ap, ◌∙◌}
use Rattle.std.proofs.lemmas.Bool.{true≢false}
use Rattle.std.specs.Prelude.{not}
use Rattle.sector.specs.declared.pair.Pair.{Pair}
use Rattle.device.specs.Layers.{Layer, is_loud}
use Rattle.in_flight.specs.declared.copies.ChunkCopy.{ChunkCopy}
use Rattle.in_flight.specs.declared.copies.Mark.{Mark}
use Rattle.store.specs.declared.state.Left.TheVariants.{Nothing}
use Rattle.store.specs.declared.state.State.{State}
use Rattle.store.specs.Headed.{head_of, marked_as}
use Rattle.store.specs.Loading.{is_begun}
use Rattle.store.specs.Stored.{IsStored, AreGiven}
use Rattle.store.proofs.Given.{given_formed}
use Rattle.snapshot.specs.Held.{IsSnapshot}
use Rattle.snapshot.specs.InStep.{IsInStep}
use Rattle.snapshot.specs.Kept.{Kept}
use Rattle.snapshot.proofs.Copies.{IsLike}

-- of a ready store
pub in_step : {B : Type 0} (contents : B → List ℕ) (layers : B → List Layer) (size : B → ℕ) (s : Kept B) (area : List ℕ) → s.state.left ≡ Nothing → (s.live ≡ true → s.state.copying ≡ true) → (s.marked ≡ true → s.live ≡ false)
    → (s.live ≡ false → s.untried ≡ false → s.stale ≡ false → s.marked ≡ true) → s.state.valid ≡ not s.marked → s.state.size ≡ size s.device
    → AreGiven s.state.chunk s.state.origin s.state.size s.next s.state.copying s.pairs s.begun → (is_loud (layers s.device) ≡ true → IsStored (contents s.device) s.pairs s.state area) → IsInStep contents layers size s
in_step contents layers size s area ready copying dead tried valid sized given stored = record {
  sized = sized;
  formed = given_formed s.state.chunk s.state.origin s.state.size s.next s.state.copying s.pairs s.begun given;
  next = λ alive. given.least (copying alive);
  dead = dead;
  tried = tried;
  header = λ loud. (stored loud).head ∙ ap (λ left. head_of left s.state.valid s.state.chunk) ready ∙ ap (λ is. marked_as is s.state.chunk) valid;
  pairs = λ loud. (stored loud).listed (ap is_begun ready);
}

-- after a call that changes nothing of what a snapshot keeps
pub step_like : {B : Type 0} (contents : B → List ℕ) (layers : B → List Layer) (size : B → ℕ) (s : Kept B) (old : State) (area : List ℕ) (begun : List Pair) (copies : List ChunkCopy) (marks : List Mark) → IsSnapshot s.live s.untried s.marked s.stale old begun copies marks → IsLike old s.state → s.state.size ≡ size s.device
    → AreGiven s.state.chunk s.state.origin s.state.size s.next s.state.copying s.pairs s.begun → (is_loud (layers s.device) ≡ true → IsStored (contents s.device) s.pairs s.state area) → IsInStep contents layers size s
step_like contents layers size s old area begun copies marks keeps like sized given stored =
    in_step contents layers size s area (like.left ∙ keeps.ready) (λ alive. like.copying ∙ keeps.copying alive) keeps.dead keeps.written (like.valid ∙ keeps.valid) sized given stored

-- an untried one is spoiled
pub dead_untried : (live untried : Bool) → (live ≡ true → untried ≡ false) → untried ≡ true → live ≡ false
dead_untried true untried tried is = absurd (true≢false (sym is ∙ tried refl))
dead_untried false untried tried is = refl
