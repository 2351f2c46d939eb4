-- What the opening of a snapshot leaves of its store.
use Rattle.std.proofs.Common.{◌≡◌, inl, inr, ℕ, true, List, refl, sym, ap, subst}
use Rattle.sector.specs.declared.pair.Pair.{Pair}
use Rattle.sector.specs.declared.refusal.Refusal.TheVariants.{Io}
use Rattle.cow_header.specs.declared.found.Found.TheVariants.{Fresh, Header}
use Rattle.store.specs.declared.state.State.{State}
use Rattle.snapshot.specs.Opened.{IsBack}
use Rattle.snapshot.specs.Opening.{ChangesFront, IsOpenedAs}

-- of an opened store
pub opened_valid : (line origin size : ℕ) (bytes : List ℕ) (s : State) (ps : List Pair) → IsOpenedAs line origin size bytes s ps → s.valid ≡ true
opened_valid line origin size bytes s ps (inl f) = ap (λ (t : State). t.valid) f.state
opened_valid line origin size bytes s ps (inr w) = w.valid

-- of its bytes the header and the current area may be written
pub stopped_back : (line origin size : ℕ) (old opened after new : List ℕ) (s : State) (ps : List Pair) → IsOpenedAs line origin size old s ps → opened ≡ old → new ≡ after → ChangesFront s.chunk s.current opened after → IsBack line Io old new
stopped_back line origin size old opened after new s ps is same now only =
    let here : ChangesFront s.chunk s.current old new = subst (λ z. ChangesFront s.chunk s.current old z) (sym now) (subst (λ z. ChangesFront s.chunk s.current z after) same only) in
    elim is [
      | inl f ↦ inr (refl, Fresh, s.current, f.found, subst (λ n. ChangesFront n s.current old new) (ap (λ (t : State). t.chunk) f.state) here)
      | inr w ↦ inr (refl, Header s.chunk, s.current, w.found, here)
    ]
