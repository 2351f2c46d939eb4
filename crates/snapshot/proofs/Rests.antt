-- A live snapshot of which nothing is under way is what its store's bytes say.
use Rattle.std.proofs.Common.{◌≡◌, inl, inr, ℕ, ◌+◌, ◌*◌, ◌/◌, ◌%◌, ◌<◌, ◌≤◌, Bool, true, false, List, [], ◌++◌, length, map, arith, ap, ◌∙◌, refl, sym, subst, append-nil}
use Rattle.std.proofs.lemmas.Bool.{cases_Bool}
use Rattle.std.proofs.lemmas.Nat.{div-mul-add, mod-mul-add}
use Rattle.sector.specs.declared.pair.Pair.{Pair}
use Rattle.cow_format.specs.Slots.{pair_in}
use Rattle.cow_format.specs.Pairs.{pairs_of, AreWellFormed}
use Rattle.cow_format.specs.NextPlace.{IsNextPlace}
use Rattle.store.specs.declared.state.Left.TheVariants.{Nothing}
use Rattle.store.specs.declared.state.State.{State}
use Rattle.store.specs.Loading.{is_begun, is_settled}
use Rattle.store.specs.Stored.{IsFront, IsStored, AreGiven, new_of}
use Rattle.store.proofs.Given.{given_formed}
use Rattle.whole_commands.specs.Saves.{next_of}
use Rattle.whole_commands.specs.Order.{AreEmptyFrom, IsInOrder}
use Rattle.whole_commands.proofs.Nexts.{next_place_is}
use Rattle.snapshot.specs.Held.{IsAhead}

-- nothing is zeroed ahead where there is no copy
pub none_ahead : (live : Bool) (s : State) (n : ℕ) → live ≡ true → n ≡ 0 → IsAhead live s n → s.zeroed ≡ false
none_ahead live s n alive none h = elim (cases_Bool s.zeroed) [
  | inl zeroed ↦ (let some = (h alive zeroed).0 in absurd (omega (arith, some, none)))
  | inr other ↦ other
]

-- so none is firm
pub none_firm : (firm zeroed : Bool) → (firm ≡ true → zeroed ≡ true) → zeroed ≡ false → firm ≡ false
none_firm true zeroed h none = sym (h refl) ∙ none
none_firm false zeroed h none = refl

-- a live one is not marked invalid
pub none_marked : (live marked : Bool) → (marked ≡ true → live ≡ false) → live ≡ true → marked ≡ false
none_marked live true h alive = sym alive ∙ h refl
none_marked live false h alive = refl

module _ (bytes area : List ℕ) (ps : List Pair) (s : State) (front : IsFront ps s area) (stored : IsStored bytes ps s area) (ready : s.left ≡ Nothing) (copying : s.copying ≡ true) where
  -- the pairs end in the current area
  tail_here : AreEmptyFrom s.chunk s.current s.filled bytes
  tail_here = record {
    each = λ i low below. ap (λ (b : List ℕ). (pair_in b i).new) (stored.here (ap is_settled ready)) ∙ front.empty i low below;
  }

  listed_here : pairs_of s.chunk bytes ≡ ps
  listed_here = stored.listed (ap is_begun ready)

  tail : AreEmptyFrom s.chunk (length (pairs_of s.chunk bytes) / (32 * s.chunk)) (length (pairs_of s.chunk bytes) % (32 * s.chunk)) bytes
  tail =
      let count : length (pairs_of s.chunk bytes) ≡ s.current * (32 * s.chunk) + s.filled = ap length listed_here ∙ front.count in
      let below : s.filled < 32 * s.chunk = front.next copying in
      let at : length (pairs_of s.chunk bytes) / (32 * s.chunk) ≡ s.current = ap (λ n. n / (32 * s.chunk)) count ∙ div-mul-add s.current (32 * s.chunk) s.filled below in
      let rest : length (pairs_of s.chunk bytes) % (32 * s.chunk) ≡ s.filled = ap (λ n. n % (32 * s.chunk)) count ∙ mod-mul-add s.current (32 * s.chunk) s.filled below in
      subst (λ (a : ℕ). AreEmptyFrom s.chunk a (length (pairs_of s.chunk bytes) % (32 * s.chunk)) bytes) (sym at)
      (subst (λ (j : ℕ). AreEmptyFrom s.chunk s.current j bytes) (sym rest) tail_here)

  pub in_order : (place : ℕ) (begun : List Pair) → s.origin ≤ 2_147_483_648 → s.size ≤ 2_147_483_648 → length bytes ≡ 512 * s.size → AreGiven s.chunk s.origin s.size place s.copying ps begun → IsInOrder s.chunk s.origin s.size bytes
  in_order place begun origin_small small whole given = record {
    some = front.some;
    small = small;
    origin_small = origin_small;
    whole = whole;
    pairs = subst (λ (qs : List Pair). AreWellFormed s.chunk s.origin s.size qs) (sym listed_here) (given_formed s.chunk s.origin s.size place s.copying ps begun given);
    tail = tail;
  }

  -- the place that is handed out next goes by the committed pairs alone
  pub next_here : (place : ℕ) (begun : List Pair) → begun ≡ [] → AreGiven s.chunk s.origin s.size place s.copying ps begun → place ≡ next_of s.chunk ps
  next_here place begun none given =
      let all : ps ++ begun ≡ ps = ap (λ (qs : List Pair). ps ++ qs) none ∙ append-nil ps in
      let least : IsNextPlace s.chunk (map new_of ps) place = subst (λ (qs : List Pair). IsNextPlace s.chunk (map new_of qs) place) all (given.least copying) in
      next_place_is s.chunk place ps front.some least
