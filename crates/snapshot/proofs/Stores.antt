-- What a snapshot knows from its store.
use Rattle.std.proofs.Common.{◌≡◌, ℕ, ◌*◌, ◌<◌, ◌≤◌, Bool, List, [], ◌∷◌, ◌++◌, length, get_or, drop, arith, refl, ap, ◌∙◌, sym, subst, append-nil}
use Rattle.std.specs.Prelude.{Some}
use Rattle.std.specs.List.{All}
use Rattle.sector.specs.declared.pair.Pair.{Pair}
use Rattle.cow_format.specs.Pairs.{pairs_of, IsInside}
use Rattle.cow_format.specs.Picture.{place_of}
use Rattle.cow_format.proofs.Pictures.{place_found}
use Rattle.exception_arena.specs.declared.begun.Begun.{Begun}
use Rattle.exception_arena.specs.Pending.{pairs, pair_of}
use Rattle.std.proofs.lemmas.List.{map_push, drop-map}
use Rattle.store.specs.declared.state.Left.TheVariants.{Nothing}
use Rattle.store.specs.declared.state.State.{State}
use Rattle.store.specs.Loading.{is_begun}
use Rattle.store.specs.Stored.{IsStored, AreGiven}
use Rattle.volume_laws.specs.Held.{StoreHolds}
use Rattle.volume_laws.proofs.Lists.{All-front}

-- the pairs that a ready store's bytes hold
pub listed_now : (bytes : List ℕ) (ps : List Pair) (s t : State) (area : List ℕ) → IsStored bytes ps t area → t.left ≡ Nothing → t.chunk ≡ s.chunk → pairs_of s.chunk bytes ≡ ps
listed_now bytes ps s t area is ready same = subst (λ (n : ℕ). pairs_of n bytes ≡ ps) same (is.listed (ap is_begun ready))

-- the pairs by themselves
pub store_holds : (chunk origin size place : ℕ) (copying : Bool) (bytes : List ℕ) (ps begun : List Pair) → 0 < chunk → chunk ≤ 1024 → length bytes ≡ 512 * size → AreGiven chunk origin size place copying ps begun → StoreHolds chunk origin size bytes (ps ++ begun)
store_holds chunk origin size place copying bytes ps begun some allowed whole given = record {
  some = some;
  allowed = allowed;
  whole = whole;
  inside = given.inside;
  apart = given.apart;
}

-- no pair is begun
pub none_pending : (xs : List Begun) → length xs ≡ 0 → pairs xs ≡ []
none_pending [] none = refl
none_pending (x ∷ xs) none = absurd (omega arith)

pub store_alone : (chunk origin size : ℕ) (bytes : List ℕ) (ps begun : List Pair) → begun ≡ [] → StoreHolds chunk origin size bytes (ps ++ begun) → StoreHolds chunk origin size bytes ps
store_alone chunk origin size bytes ps begun none h =
    subst (λ (qs : List Pair). StoreHolds chunk origin size bytes qs) (ap (λ x. ps ++ x) none ∙ append-nil ps) h

-- the place of a pair
pub placed_inside : (chunk origin size : ℕ) (ps begun : List Pair) (c place : ℕ) → All (IsInside chunk origin size) (ps ++ begun) → place_of ps c ≡ Some place → (o : ℕ) × IsInside chunk origin size (record { old = o; new = place })
placed_inside chunk origin size ps begun c place all is =
    let (k, lt, at) = place_found ps c place is in
    let d : Pair = record { old = 0; new = 0 } in
    let h : IsInside chunk origin size (get_or ps k d) = All-front (IsInside chunk origin size) ps begun all k d lt in
    ((get_or ps k d).old, subst (λ (n : ℕ). IsInside chunk origin size (record { old = (get_or ps k d).old; new = n })) (at d).1 h)

-- the pairs after a copy was started
pub text_started : (s t : State) (old new : List ℕ) (ps qs bs cs : List Pair) (pair : Pair) → t ≡ s → new ≡ old → qs ≡ ps → cs ≡ bs ++ pair ∷ [] → StoreHolds t.chunk t.origin t.size new (qs ++ cs) → StoreHolds s.chunk s.origin s.size old (ps ++ (bs ++ pair ∷ []))
text_started s t old new ps qs bs cs pair state bytes committed begun h =
    subst (λ (x : State). StoreHolds x.chunk x.origin x.size old (ps ++ (bs ++ pair ∷ []))) state
    (subst (λ (x : List ℕ). StoreHolds t.chunk t.origin t.size x (ps ++ (bs ++ pair ∷ []))) bytes
    (subst (λ (x : List Pair). StoreHolds t.chunk t.origin t.size new (x ++ (bs ++ pair ∷ []))) committed
    (subst (λ (x : List Pair). StoreHolds t.chunk t.origin t.size new (qs ++ x)) begun h)))

-- the pairs that are begun, after one more
pub pairs_more : (xs ys : List Begun) (b : Begun) → ys ≡ xs ++ b ∷ [] → pairs ys ≡ pairs xs ++ b.pair ∷ []
pairs_more xs ys b is = ap pairs is ∙ map_push pair_of xs b

pub pairs_dropped : (n : ℕ) (xs ys : List Begun) → ys ≡ drop n xs → pairs ys ≡ drop n (pairs xs)
pairs_dropped n xs ys is = ap pairs is ∙ sym (drop-map pair_of n xs)
