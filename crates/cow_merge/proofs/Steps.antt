-- How a run of calls goes on.
use Rattle.std.proofs.Common.{◌≡◌, ◌⊎◌, inl, inr, ℕ, ◌+◌, ◌*◌, ◌/◌, ◌≤◌, List, length, arith, ap, ◌∙◌, sym, subst}
use Rattle.sector.specs.Bytes.{sector_at}
use Rattle.image.specs.Stops.{AreLeft, Elapses}
use Rattle.cow_merge.specs.Merges.{StillShows}
use Rattle.cow_merge.specs.Holding.{Begin, pairs, OriginMay, StoreMay, Leaves, Rolls, Passes, Stays}
use Rattle.cow_merge.proofs.Shows.{still_shows}

-- one call, after which what may be left still shows the snapshot
pub passes_one : (b : Begin) (from before now : ℕ) (past since : ℕ → (ℕ → List ℕ) → Type 0) (known : Type 0) (bytes : ℕ → List ℕ) (may : ℕ → ℕ → List ℕ → Type 0) → Elapses before now past since bytes may → known → from ≤ length (pairs b) / (32 * b.chunk) + 1 → Leaves b from bytes may → Passes b before now past since known bytes may
passes_one b from before now past since known bytes may time knows reach leaves = record {
  is_known = knows;
  from = from;
  reach = reach;
  leaves = leaves;
  later = time.later;
  only = λ t left le is. elim (time.nothing_else t left le is) [
    | inl was ↦ inl was
    | inr are ↦ inr (still_shows b from bytes left may leaves are)
  ];
}

-- no call
pub passes_none : (b : Begin) (from now : ℕ) (since : ℕ → (ℕ → List ℕ) → Type 0) (known : Type 0) (bytes : ℕ → List ℕ) (may : ℕ → ℕ → List ℕ → Type 0) → Rolls b from known bytes may → Passes b now now since since known bytes may
passes_none b from now since known bytes may rolls = record {
  is_known = rolls.is_known;
  from = from;
  reach = rolls.reach;
  leaves = rolls.leaves;
  later = omega arith;
  only = λ t left le is. inl is;
}

-- one after the other
pub passes_both : (b : Begin) (m0 m1 m2 : ℕ) (p0 p1 p2 : ℕ → (ℕ → List ℕ) → Type 0) (known known' : Type 0) (bytes bytes' : ℕ → List ℕ) (may may' : ℕ → ℕ → List ℕ → Type 0) → Passes b m0 m1 p0 p1 known bytes may → Passes b m1 m2 p1 p2 known' bytes' may' → Passes b m0 m2 p0 p2 known' bytes' may'
passes_both b m0 m1 m2 p0 p1 p2 known known' bytes bytes' may may' x y = let lx = x.later in let ly = y.later in record {
  is_known = y.is_known;
  from = y.from;
  reach = y.reach;
  leaves = y.leaves;
  later = omega arith;
  only = λ t left le is. elim (y.only t left (omega arith) is) [
    | inl was ↦ x.only t left le was
    | inr shows ↦ inr shows
  ];
}

-- a call that adds no value
pub leaves_kept : (b : Begin) (from : ℕ) (bytes bytes' : ℕ → List ℕ) (may may' : ℕ → ℕ → List ℕ → Type 0) → Leaves b from bytes may → ((f : ℕ) → length (bytes' f) ≡ length (bytes f)) → ((f s : ℕ) (v : List ℕ) → may' f s v → may f s v) → Leaves b from bytes' may'
leaves_kept b from bytes bytes' may may' leaves len stop = record {
  begin = leaves.begin;
  origin = len 0 ∙ leaves.origin;
  store = len 1 ∙ leaves.store;
  origin_may = λ s v lt h. leaves.origin_may s v lt (stop 0 s v h);
  store_may = λ s v lt h. leaves.store_may s v lt (stop 1 s v h);
}

-- and leaves the bytes
pub rolls_kept : (b : Begin) (from : ℕ) (known known' : Type 0) (bytes bytes' : ℕ → List ℕ) (may may' : ℕ → ℕ → List ℕ → Type 0) → Rolls b from known bytes may → (known → known') → ((f : ℕ) → bytes' f ≡ bytes f) → ((f s : ℕ) (v : List ℕ) → may' f s v → may f s v) → Rolls b from known' bytes' may'
rolls_kept b from known known' bytes bytes' may may' rolls knows same stop = record {
  is_known = knows rolls.is_known;
  reach = rolls.reach;
  leaves = leaves_kept b from bytes bytes' may may' rolls.leaves (λ f. ap length (same f)) stop;
  origin_now = λ s lt. subst (λ (x : List ℕ). OriginMay b from s (sector_at x s)) (sym (same 0)) (rolls.origin_now s lt);
  store_now = λ s lt. subst (λ (x : List ℕ). StoreMay b from s (sector_at x s)) (sym (same 1)) (rolls.store_now s lt);
}

-- one call that adds no value
pub stays_one : (before now : ℕ) (past since : ℕ → (ℕ → List ℕ) → Type 0) (bytes bytes' : ℕ → List ℕ) (may may' : ℕ → ℕ → List ℕ → Type 0) → Elapses before now past since bytes' may' → ((f : ℕ) → length (bytes' f) ≡ length (bytes f)) → ((f s : ℕ) (v : List ℕ) → may' f s v → may f s v) → Stays before now past since bytes may
stays_one before now past since bytes bytes' may may' time len stop = record {
  later = time.later;
  only = λ t left le is. elim (time.nothing_else t left le is) [
    | inl was ↦ inl was
    | inr are ↦ inr (record { whole = λ f. are.whole f ∙ len f; each = λ f s lt. stop f s (sector_at (left f) s) (are.each f s (let e = len f in omega arith)) })
  ];
}

-- and another
pub stays_both : (m0 m1 m2 : ℕ) (p0 p1 p2 : ℕ → (ℕ → List ℕ) → Type 0) (bytes bytes' : ℕ → List ℕ) (may may' : ℕ → ℕ → List ℕ → Type 0) → Stays m0 m1 p0 p1 bytes may → Stays m1 m2 p1 p2 bytes' may' → ((f : ℕ) → length (bytes' f) ≡ length (bytes f)) → ((f s : ℕ) (v : List ℕ) → may' f s v → may f s v) → Stays m0 m2 p0 p2 bytes may
stays_both m0 m1 m2 p0 p1 p2 bytes bytes' may may' x y len stop = let lx = x.later in let ly = y.later in record {
  later = omega arith;
  only = λ t left le is. elim (y.only t left (omega arith) is) [
    | inl was ↦ x.only t left le was
    | inr are ↦ inr (record { whole = λ f. are.whole f ∙ len f; each = λ f s lt. stop f s (sector_at (left f) s) (are.each f s (let e = len f in omega arith)) })
  ];
}

-- all stops of a merge that is not begun
pub stops_stay : (m0 m1 : ℕ) (p0 p1 : ℕ → (ℕ → List ℕ) → Type 0) (bytes : ℕ → List ℕ) (may : ℕ → ℕ → List ℕ → Type 0) → Stays m0 m1 p0 p1 bytes may → ((left : ℕ → List ℕ) → p0 m0 left → AreLeft bytes may left) → (left : ℕ → List ℕ) → p1 m0 left → AreLeft bytes may left
stops_stay m0 m1 p0 p1 bytes may stays first left is = elim (stays.only m0 left (omega arith) is) [
  | inl before ↦ first left before
  | inr are ↦ are
]

-- and of a whole one
pub stops_all : (b : Begin) (m0 m1 m2 : ℕ) (p0 p1 p2 : ℕ → (ℕ → List ℕ) → Type 0) (bytes bytes' : ℕ → List ℕ) (may may' : ℕ → ℕ → List ℕ → Type 0) (known' : Type 0) → Stays m0 m1 p0 p1 bytes may → Passes b m1 m2 p1 p2 known' bytes' may' → ((left : ℕ → List ℕ) → p0 m0 left → AreLeft bytes may left) → (left : ℕ → List ℕ) → p2 m0 left → AreLeft bytes may left ⊎ StillShows b.chunk b.sectors b.size b.origin b.store left
stops_all b m0 m1 m2 p0 p1 p2 bytes bytes' may may' known' stays passes first left is = elim (passes.only m0 left stays.later is) [
  | inr shows ↦ inr shows
  | inl was ↦ inl (stops_stay m0 m1 p0 p1 bytes may stays first left was)
]
