-- A life goes on: behind each deed, and behind each call that is a list of deeds.
use Rattle.std.proofs.Common.{◌≡◌, ℕ, List, [], ◌∷◌, ◌++◌, refl, subst}
use Rattle.device.specs.Layers.{Layer}
use Rattle.volume.specs.Layering.{Measures}
use Rattle.volume.specs.Volumed.{Volumed}
use Rattle.volume_lifetime.specs.declared.deed.Deed.{Deed}
use Rattle.volume_lifetime.specs.declared.deed.Done.{Done}
use Rattle.volume_lifetime.specs.Answered.{AreAnswered, IsDone}
use Rattle.volume_lifetime.specs.Life.{HasLife, begun_over}

module _ {B : Type 0} (holds : B → ℕ → List ℕ → Type 0) (m : Measures B) (layers : B → List Layer) where
  -- two lists, one behind the other
  answered_then : (ds es : List (Deed B)) (xs ys : List (Done B)) (v w x : Volumed B) → AreAnswered holds m layers ds xs v w → AreAnswered holds m layers es ys w x → AreAnswered holds m layers (ds ++ es) (xs ++ ys) v x
  answered_then [] es [] ys v w x e more = subst (λ (u : Volumed B). AreAnswered holds m layers es ys u x) e more
  answered_then [] es (a ∷ xs) ys v w x e more = absurd e
  answered_then (d ∷ ds) es [] ys v w x e more = absurd e
  answered_then (d ∷ ds) es (a ∷ xs) ys v w x (mid, one, rest) more = (mid, one, answered_then ds es xs ys mid w x rest more)

  -- nothing was done yet
  pub life_begins : (origin : B) → HasLife holds m layers (begun_over origin)
  life_begins origin = record { origin = origin; deeds = []; dones = []; lived = refl }

  -- a list of deeds
  pub life_by : (ds : List (Deed B)) (xs : List (Done B)) (v w : Volumed B) → HasLife holds m layers v → AreAnswered holds m layers ds xs v w → HasLife holds m layers w
  life_by ds xs v w life more = record { origin = life.origin; deeds = life.deeds ++ ds; dones = life.dones ++ xs; lived = answered_then life.deeds ds life.dones xs (begun_over life.origin) v w life.lived more }

  -- one deed
  pub life_on : (d : Deed B) (x : Done B) (v w : Volumed B) → HasLife holds m layers v → IsDone holds m layers d x v w → HasLife holds m layers w
  life_on d x v w life one = life_by (d ∷ []) (x ∷ []) v w life (w, one, refl)
