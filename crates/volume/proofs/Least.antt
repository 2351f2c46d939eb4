-- A volume's piece is the least chunk of its snapshots, the one that is being merged among them. It has an allowed size, and
-- what lies inside a piece lies in one chunk of each.
use Rattle.std.proofs.Common.{◌≡◌, inl, inr, ℕ, zero, suc, ◌<◌, ◌≤◌, true, List, [], ◌∷◌, length, drop, get_or, Option, Some, None, refl, sym, subst, arith}
use Rattle.std.specs.Prelude.{min}
use Rattle.std.specs.List.{All}
use Rattle.std.proofs.lemmas.Bool.{cases_lt}
use Rattle.std.proofs.lemmas.List.Elements.{All-head, All-tail, All-weaker}
use Rattle.sector.specs.declared.range.Range.{Range}
use Rattle.chunk.specs.Sizes.{is_chunk}
use Rattle.chunk.proofs.Limits.{is_chunk-small}
use Rattle.chunk.proofs.Wider.{wider}
use Rattle.device.specs.Layers.{Layer}
use Rattle.volume_laws.specs.Published.{IsPiece}
use Rattle.snapshot.specs.Kept.{Kept}
use Rattle.merge.specs.Merging.{Merging}
use Rattle.volume.specs.Volumed.{Volumed, piece_of, piece_with}
use Rattle.volume.specs.Whole.{IsAttached, IsWhole, GoesOn}

pub largest : is_chunk 1024 ≡ true
unfolding lib.Count.ones
largest = refl

-- the smaller of two sizes is one of them
pub chunk_min : (a b : ℕ) → is_chunk a ≡ true → is_chunk b ≡ true → is_chunk (min a b) ≡ true
chunk_min a b here there = elim (cases_lt a b) [
  | inl lt ↦ (let is : a ≡ min a b = omega (arith, lt) in subst (λ n. is_chunk n ≡ true) is here)
  | inr ge ↦ (let is : b ≡ min a b = omega (arith, ge) in subst (λ n. is_chunk n ≡ true) is there)
]

small_of : {B : Type 0} (snaps : List (Kept B)) → piece_of snaps ≤ 1024
small_of [] = omega arith
small_of (s ∷ snaps) = (let rest = small_of snaps in omega (arith, rest))

pub allowed_of : {B : Type 0} (snaps : List (Kept B)) → All (λ s. is_chunk s.state.chunk ≡ true) snaps → is_chunk (piece_of snaps) ≡ true
allowed_of [] all = largest
allowed_of (s ∷ snaps) all = chunk_min s.state.chunk (piece_of snaps) (All-head (λ (x : Kept _). is_chunk x.state.chunk ≡ true) s snaps all) (allowed_of snaps (All-tail (λ (x : Kept _). is_chunk x.state.chunk ≡ true) s snaps all))

pub within_of : {B : Type 0} (snaps : List (Kept B)) → All (λ s. piece_of snaps ≤ s.state.chunk) snaps
within_of [] k d lt = absurd (omega (arith, lt))
within_of (s ∷ snaps) zero d lt = omega arith
within_of (s ∷ snaps) (suc k) d lt = (let rest = within_of snaps k d (omega (arith, lt)) in omega (arith, rest))

-- with the one that is being merged
pub within_both : {B : Type 0} (merge : Option (Merging B)) (snaps : List (Kept B)) → piece_with merge snaps ≤ piece_of snaps
within_both None snaps = omega arith
within_both (Some m) snaps = omega arith

pub within_merge : {B : Type 0} (merge : Option (Merging B)) (snaps : List (Kept B)) (m : Merging B) → merge ≡ Some m → piece_with merge snaps ≤ m.state.chunk
within_merge merge snaps m is = subst (λ (x : Option (Merging _)). piece_with x snaps ≤ m.state.chunk) (sym is) (omega arith)

pub within_all : {B : Type 0} (merge : Option (Merging B)) (snaps : List (Kept B)) → All (λ s. piece_with merge snaps ≤ s.state.chunk) snaps
within_all merge snaps k d lt = (let one = within_of snaps k d lt in let both = within_both merge snaps in omega (arith, one, both))

pub allowed_both : {B : Type 0} (merge : Option (Merging B)) (snaps : List (Kept B)) → ((m : Merging B) → merge ≡ Some m → is_chunk m.state.chunk ≡ true) → All (λ s. is_chunk s.state.chunk ≡ true) snaps → is_chunk (piece_with merge snaps) ≡ true
allowed_both None snaps merged all = allowed_of snaps all
allowed_both (Some m) snaps merged all = chunk_min m.state.chunk (piece_of snaps) (merged m refl) (allowed_of snaps all)

-- what lies inside one piece lies in one chunk that is as large or larger
pub piece_wider : (a b : ℕ) (range : Range) → is_chunk a ≡ true → is_chunk b ≡ true → a ≤ b → IsPiece a range → IsPiece b range
piece_wider a b range here there le piece = record { within = wider a b range.first range.count here there le piece.within }

-- of a whole volume
module _ {B : Type 0} (contents : B → List ℕ) (layers : B → List Layer) (size : B → ℕ) where
  pub merge_allowed : (v : Volumed B) (merge : Option (Merging B)) → GoesOn contents layers size merge v → (m : Merging B) → merge ≡ Some m → is_chunk m.state.chunk ≡ true
  merge_allowed v None h m is = absurd (cc)
  merge_allowed v (Some x) h m is = (let same : x ≡ m = cc in subst (λ (y : Merging B). is_chunk y.state.chunk ≡ true) same h.allowed)

  module _ (v : Volumed B) (h : IsWhole contents layers size v) where
    pub all_allowed : All (λ (s : Kept B). is_chunk s.state.chunk ≡ true) v.snaps
    all_allowed = All-weaker (IsAttached v.copies (size v.origin)) (λ (s : Kept B). is_chunk s.state.chunk ≡ true) (λ s old. old.allowed) v.snaps h.snaps

    pub piece_allowed : is_chunk (piece_with v.merge v.snaps) ≡ true
    piece_allowed = allowed_both v.merge v.snaps (merge_allowed v v.merge h.merge) all_allowed

    pub piece_in_each : (range : Range) → IsPiece (piece_with v.merge v.snaps) range → (k : ℕ) (d : Kept B) → k < length v.snaps → IsPiece (get_or v.snaps k d).state.chunk range
    piece_in_each range piece k d lt = piece_wider (piece_with v.merge v.snaps) (get_or v.snaps k d).state.chunk range piece_allowed (all_allowed k d lt) (within_all v.merge v.snaps k d lt) piece

    pub piece_in_merge : (range : Range) → IsPiece (piece_with v.merge v.snaps) range → (m : Merging B) → v.merge ≡ Some m → IsPiece m.state.chunk range
    piece_in_merge range piece m is = piece_wider (piece_with v.merge v.snaps) m.state.chunk range piece_allowed (merge_allowed v v.merge h.merge m is) (within_merge v.merge v.snaps m is) piece

-- The look at some snapshots, one after another: `least` is the least of those that were looked at, and the others follow.
pub least_first : {B : Type 0} (snaps : List (Kept B)) → min 1024 (piece_of (drop 0 snaps)) ≡ piece_of snaps
least_first [] = omega arith
least_first (s ∷ snaps) = (let few = small_of (s ∷ snaps) in omega (arith, few))

pub least_next : {B : Type 0} (snaps : List (Kept B)) (k least chunk : ℕ) (d : Kept B) → k < length snaps → chunk ≡ (get_or snaps k d).state.chunk → min (min least chunk) (piece_of (drop (suc k) snaps)) ≡ min least (piece_of (drop k snaps))
least_next [] k least chunk d lt is = absurd (omega (arith, lt))
least_next (s ∷ snaps) zero least chunk d lt is = omega (arith, is)
least_next (s ∷ snaps) (suc k) least chunk d lt is = least_next snaps k least chunk d (omega (arith, lt)) is

pub least_last : {B : Type 0} (snaps : List (Kept B)) (k least : ℕ) → length snaps ≤ k → is_chunk least ≡ true → min least (piece_of (drop k snaps)) ≡ piece_of snaps → least ≡ piece_of snaps
least_last snaps k least past allowed is = (let small = is_chunk-small least allowed in let none = nothing_after snaps k past in omega (arith, small, none, is))
  where
    nothing_after : {B : Type 0} (xs : List (Kept B)) (i : ℕ) → length xs ≤ i → piece_of (drop i xs) ≡ 1024
    nothing_after [] zero le = refl
    nothing_after [] (suc i) le = refl
    nothing_after (x ∷ xs) zero le = absurd (omega (arith, le))
    nothing_after (x ∷ xs) (suc i) le = nothing_after xs i (omega (arith, le))

-- whatever is as small as the least one is so for each of them
pub within_each : {B : Type 0} (snaps : List (Kept B)) (n : ℕ) → All (λ s. is_chunk s.state.chunk ≡ true) snaps → n ≤ piece_of snaps → All (λ s. (is_chunk s.state.chunk ≡ true) × (n ≤ s.state.chunk)) snaps
within_each snaps n all few k d lt = (all k d lt, (let one = within_of snaps k d lt in omega (arith, one, few)))
