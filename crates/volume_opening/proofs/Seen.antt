-- A device that is looked at in steps.
use Rattle.std.proofs.Common.{◌≡◌, ℕ, true, List, ◌∙◌, sym, refl}
use Rattle.device.specs.Layers.{Layer, is_loud}
use Rattle.device.specs.Ahead.{IsAhead}
use Rattle.volume_opening.specs.Seen.{IsSeen}

module _ {B : Type 0} (holds : B → ℕ → List ℕ → Type 0) (contents : B → List ℕ) (layers : B → List Layer) (size : B → ℕ) where
  -- what was done ahead, and then a read
  pub read_seen : (faults done : B → ℕ) (a b c : B) → IsAhead holds contents layers size faults done a b → is_loud (layers c) ≡ is_loud (layers b) → contents c ≡ contents b → ((s : ℕ) (v : List ℕ) → holds c s v → holds b s v) → size c ≡ size b → IsSeen holds contents layers size a c
  read_seen faults done a b c ahead loud same stop sized = record {
    loud = λ is. ahead.loud (sym loud ∙ is);
    same = λ is. same ∙ ahead.same (sym loud ∙ is);
    stop = λ is s v h. ahead.stop (sym loud ∙ is) s v (stop s v h);
    sized = sized ∙ ahead.sized;
  }

  pub ahead_seen : (faults done : B → ℕ) (a b : B) → IsAhead holds contents layers size faults done a b → IsSeen holds contents layers size a b
  ahead_seen faults done a b ahead = record { loud = ahead.loud; same = ahead.same; stop = ahead.stop; sized = ahead.sized }

  -- nothing more
  pub seen_still : (a : B) → IsSeen holds contents layers size a a
  seen_still a = record { loud = λ is. is; same = λ is. refl; stop = λ is s v h. h; sized = refl }

  pub seen_more : (a b c : B) → IsSeen holds contents layers size a b → IsSeen holds contents layers size b c → IsSeen holds contents layers size a c
  seen_more a b c first then = record {
    loud = λ is. first.loud (then.loud is);
    same = λ is. then.same is ∙ first.same (then.loud is);
    stop = λ is s v h. first.stop (then.loud is) s v (then.stop is s v h);
    sized = then.sized ∙ first.sized;
  }
