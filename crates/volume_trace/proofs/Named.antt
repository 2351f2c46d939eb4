-- Layers without names.
use Rattle.std.proofs.Common.{◌≡◌, ℕ, List, [], ◌∷◌, ◌++◌, length, refl, sym, ap, ◌∙◌}
use Rattle.std.proofs.lemmas.List.{append-nil}
use Rattle.device.specs.Layers.{Layer, Window}
use Rattle.volume_trace.specs.Layers.{layers_text}

no_names : (layers : List Layer) → layers_text layers [] ≡ []
no_names [] = refl
no_names (Window aside ∷ layers) = no_names layers
no_names (layer ∷ layers) = refl

-- nothing is said of layers that have no names
pub none_named : (old : List ℕ) (layers : List Layer) (names : List (List ℕ)) → length names ≡ 0 → old ≡ old ++ layers_text layers names
none_named old layers [] none = rw (no_names layers) (sym (append-nil old))
none_named old layers (name ∷ names) none = absurd (cc)
