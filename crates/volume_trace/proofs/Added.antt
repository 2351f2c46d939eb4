-- Four texts, one after the other.
use Rattle.std.proofs.Common.{◌≡◌, List, ℕ, [], ◌++◌, ap, ◌∙◌}
use Rattle.std.proofs.lemmas.List.{append_assoc}

-- four texts that were added one after the other
pub added : (f s m d i0 i1 i2 i3 i4 : List ℕ) → i0 ≡ [] → i1 ≡ i0 ++ f → i2 ≡ i1 ++ s → i3 ≡ i2 ++ m → i4 ≡ i3 ++ d → i4 ≡ f ++ (s ++ (m ++ d))
added f s m d i0 i1 i2 i3 i4 none first second third fourth =
    fourth ∙ ap (λ i. i ++ d) (third ∙ ap (λ i. i ++ m) (second ∙ ap (λ i. i ++ s) (first ∙ ap (λ i. i ++ f) none)))
    ∙ append_assoc (f ++ s) m d ∙ append_assoc f s (m ++ d)
