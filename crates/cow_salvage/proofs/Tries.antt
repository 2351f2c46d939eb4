-- Sectors that are tried.
use Rattle.std.proofs.Common.{◌≡◌, ◌⊎◌, inl, inr, ℕ, ◌+◌, ◌*◌, ◌<◌, ◌≤◌, Bool, true, false, List, [], refl, subst, arith}
use Rattle.std.specs.List.{All}
use Rattle.std.proofs.lemmas.Bool.{cases_lt}
use Rattle.std.proofs.lemmas.List.Elements.{All-weaker, All-nil}
use Rattle.cow_salvage.specs.declared.span.Span.{Span}
use Rattle.cow_salvage.specs.Spans.{is_in, AreMarked}
use Rattle.cow_salvage.specs.Unread.{IsLost, IsGiven, AreUnread, Stand, AddUnread}
use Rattle.cow_salvage.proofs.Adding.{more_by}

module _ (f g : ℕ → ℕ → Type 0) where
  -- no sector
  pub add_none : (first : ℕ) (spans : List Span) → Stand first spans → AddUnread f g first spans first spans
  add_none first spans (apart, ends) = record { apart = apart; inside = ends; told = λ s is. inl is; others = λ s lt none. inl (lt, none) }

  -- sectors that were read at once
  pub add_read : (first count at n : ℕ) (spans : List Span) → at ≡ 512 * first → n ≡ 512 * count → Stand first spans → g at n → AddUnread f g first spans (first + count) spans
  add_read first count at n spans from long (apart, ends) gives = record {
    apart = apart;
    inside = All-weaker (λ (x : Span). x.first + x.count ≤ first) (λ (x : Span). x.first + x.count ≤ first + count) (λ x fits. omega arith) spans ends;
    told = λ s is. inl is;
    others = λ s lt none. elim (cases_lt s first) [ inl low ↦ inl (low, none) | inr past ↦ inr (at, n, omega arith, omega arith, gives) ];
  }

  -- a sector that can't be read
  pub add_lost : (first at n : ℕ) (spans more : List Span) → at ≡ 512 * first → n ≡ 512 → Stand first spans → ((mark : ℕ → Bool) → AreMarked mark first spans → mark first ≡ true → AreMarked mark (first + 1) more) → f at n → AddUnread f g first spans (first + 1) more
  add_lost first at n spans more from long stand adds fails =
      more_by (λ s. (is_in spans s ≡ true) ⊎ IsLost f s) (λ s. ((s < first) × (is_in spans s ≡ false)) ⊎ IsGiven g s) first spans more (add_none first spans stand) adds (inr (subst (λ (x : ℕ). f x 512) from (subst (λ (x : ℕ). f at x) long fails)))

  -- none before the first sector
  pub are_unread : (size : ℕ) (spans : List Span) → AddUnread f g 0 [] size spans → AreUnread f g size spans
  are_unread size spans h = record {
    apart = h.apart;
    inside = h.inside;
    told = λ s is. elim (h.told s is) [ inl none ↦ absurd (cc) | inr lost ↦ lost ];
    others = λ s lt none. elim (h.others s lt none) [ inl (low, out) ↦ (let never : ⊥ = omega arith in absurd never) | inr given ↦ given ];
  }

  pub stand_none : Stand 0 []
  stand_none = (tt, All-nil _)

-- sectors after others, of an image that may fail and give no more than before
module _ (f g f' g' : ℕ → ℕ → Type 0) where
  pub add_then : (first mid end : ℕ) (before spans more : List Span) → ((k n : ℕ) → f' k n → f k n) → ((k n : ℕ) → g' k n → g k n) → AddUnread f g first before mid spans → (Stand mid spans → AddUnread f' g' mid spans end more) → AddUnread f g first before end more
  add_then first mid end before spans more calm steady one next =
      let two = next (one.apart, one.inside) in
      record {
        apart = two.apart;
        inside = two.inside;
        told = λ s is. elim (two.told s is) [ inl old ↦ one.told s old | inr lost ↦ inr (calm (512 * s) 512 lost) ];
        others = λ s lt none. elim (two.others s lt none) [ inl (low, out) ↦ one.others s low out | inr (at, n, from, to, gives) ↦ inr (at, n, from, to, steady at n gives) ];
      }
