-- A live snapshot's pairs and copies.
use Rattle.std.proofs.Common.{Bool, ◌≡◌, ◌≢◌, ℕ, ◌+◌, ◌*◌, ◌%◌, ◌<◌, List, Some, None, length, get_or, refl, sym, ◌∙◌, ap, subst, arith, inl, inr, length-append}
use Rattle.std.specs.List.{All}
use Rattle.std.specs.Prelude.{◌&&◌, AllPairs}
use Rattle.std.proofs.lemmas.Bool.{cases_order}
use Rattle.std.proofs.lemmas.Nat.{mod_below}
use Rattle.std.proofs.lemmas.List.{get_or_append_left, get_or-append-add, get_or-map, length-map}
use Rattle.std.proofs.lemmas.List.Elements.{All-weaker}
use Rattle.sector.specs.declared.pair.Pair.{Pair}
use Rattle.cow_format.specs.Places.{area_place, ChangesOnly}
use Rattle.cow_format.specs.Pairs.{pairs_of, IsApart, IsInside}
use Rattle.cow_format.specs.Picture.{place_of, picture_at, picture, IsCopied}
use Rattle.cow_format.proofs.Pictures.{same_picture}
use Rattle.cow_format.proofs.Views.{byte_same, picture-only, place_unnamed}
use Rattle.in_flight.specs.Copies.{pair_of}
use Rattle.in_flight.specs.declared.copies.ChunkCopy.{ChunkCopy}
use Rattle.in_flight.specs.declared.copies.Mark.{Mark}
use Rattle.in_flight.specs.declared.flights.Flight.{Flight}
use Rattle.volume_laws.specs.Books.{SnapBooks, given}
use Rattle.volume_laws.specs.Held.{LiveHolds, CopyHolds, MarkHolds}
use Rattle.volume_laws.proofs.Lists.{All-front, AllPairs-front}
use Rattle.volume_laws.proofs.Pairs.{place_of-none, place_of-All}

-- a copy's pair stands behind the committed ones
pub given_at : {l : Bool} (o : List ℕ) (rs : List Flight) (v : SnapBooks) → LiveHolds l o rs v → (k : ℕ) (p : ChunkCopy) (d : Pair) → k < length v.copies → p ≡ get_or v.copies k p → get_or (given v) (length v.pairs + k) d ≡ p.pair
given_at o rs v h k p d within is =
    get_or-append-add v.pairs v.begun k d ∙ ap (λ x. get_or x k d) h.agree ∙ get_or-map pair_of v.copies k p d within ∙ sym (ap pair_of is)

pub length-given : {l : Bool} (o : List ℕ) (rs : List Flight) (v : SnapBooks) → LiveHolds l o rs v → length (given v) ≡ length v.pairs + length v.copies
length-given o rs v h = length-append v.pairs v.begun ∙ ap (λ n. length v.pairs + n) (ap length h.agree ∙ length-map v.copies pair_of)

-- no committed pair has a chunk of a copy
pub apart_from_pairs : {l : Bool} (o : List ℕ) (rs : List Flight) (v : SnapBooks) → LiveHolds l o rs v → (k : ℕ) (p : ChunkCopy) → k < length v.copies → p ≡ get_or v.copies k p → All (λ q. IsApart q p.pair) v.pairs
apart_from_pairs o rs v h k p within is i d lt =
    let both = h.text.apart i (length v.pairs + k) d (omega arith) (omega (arith, length-given o rs v h)) in
    subst (λ x. IsApart x p.pair) (get_or_append_left v.pairs v.begun d i lt) (subst (λ x. IsApart (get_or (given v) i d) x) (given_at o rs v h k p d within is) both)

pub not_placed : {l : Bool} (o : List ℕ) (rs : List Flight) (v : SnapBooks) → LiveHolds l o rs v → (k : ℕ) (p : ChunkCopy) → k < length v.copies → p ≡ get_or v.copies k p → place_of v.pairs p.pair.old ≡ None
not_placed o rs v h k p within is = place_of-none v.pairs p.pair.old (All-weaker (λ q. IsApart q p.pair) (λ q. q.old ≢ p.pair.old) (λ q apart. apart.old) v.pairs (apart_from_pairs o rs v h k p within is))

-- a place that no pair has is no chunk's
pub unnamed_by : (pairs : List Pair) (n c : ℕ) → All (λ q. q.new ≢ n) pairs → place_of pairs c ≢ Some n
unnamed_by pairs n c all e = let found = place_of-All (λ q. q.new ≢ n) pairs c n all e in found.3 found.2

pub place_unused : {l : Bool} (o : List ℕ) (rs : List Flight) (v : SnapBooks) → LiveHolds l o rs v → (k : ℕ) (p : ChunkCopy) → k < length v.copies → p ≡ get_or v.copies k p → (c : ℕ) → place_of v.pairs c ≢ Some p.pair.new
place_unused o rs v h k p within is c = unnamed_by v.pairs p.pair.new c (All-weaker (λ q. IsApart q p.pair) (λ q. q.new ≢ p.pair.new) (λ q apart. apart.new) v.pairs (apart_from_pairs o rs v h k p within is))

pub inside_at : {l : Bool} (o : List ℕ) (rs : List Flight) (v : SnapBooks) → LiveHolds l o rs v → (k : ℕ) (p : ChunkCopy) → k < length v.copies → p ≡ get_or v.copies k p → IsInside v.chunk v.sectors v.size p.pair
inside_at o rs v h k p within is = subst (IsInside v.chunk v.sectors v.size) (given_at o rs v h k p p.pair within is) (h.text.inside (length v.pairs + k) p.pair (omega (arith, length-given o rs v h)))

copies_below : {l : Bool} (o : List ℕ) (rs : List Flight) (v : SnapBooks) → LiveHolds l o rs v → (j k : ℕ) (p q : ChunkCopy) → j < k → j < length v.copies → k < length v.copies → p ≡ get_or v.copies j p → q ≡ get_or v.copies k q → IsApart p.pair q.pair
copies_below o rs v h j k p q lt j_in k_in p_is q_is =
    let both : IsApart (get_or (given v) (length v.pairs + j) p.pair) (get_or (given v) (length v.pairs + k) p.pair) = h.text.apart (length v.pairs + j) (length v.pairs + k) p.pair (omega arith) (omega (arith, length-given o rs v h)) in
    let one : IsApart p.pair (get_or (given v) (length v.pairs + k) p.pair) = subst (λ z. IsApart z (get_or (given v) (length v.pairs + k) p.pair)) (given_at o rs v h j p p.pair j_in p_is) both in
    subst (λ z. IsApart p.pair z) (given_at o rs v h k q p.pair k_in q_is) one

-- two copies have two places
pub places_differ : {l : Bool} (o : List ℕ) (rs : List Flight) (v : SnapBooks) → LiveHolds l o rs v → (j k : ℕ) (p q : ChunkCopy) → j < length v.copies → k < length v.copies → p ≡ get_or v.copies j p → q ≡ get_or v.copies k q → j ≢ k → p.pair.new ≢ q.pair.new
places_differ o rs v h j k p q j_in k_in p_is q_is ne =
    elim (cases_order j k) [
      | inl same ↦ absurd (ne same)
      | inr apart ↦ elim apart [
        | inl lt ↦ (copies_below o rs v h j k p q lt j_in k_in p_is q_is).new
        | inr gt ↦ λ e. (copies_below o rs v h k j q p gt k_in j_in q_is p_is).new (sym e)
      ]
    ]

-- what a write to another chunk of the store leaves
pub copied_kept : (chunk n : ℕ) (o old new : List ℕ) (q : Pair) → 0 < chunk → ChangesOnly chunk n old new → q.new ≢ n → IsCopied chunk o old q → IsCopied chunk o new q
copied_kept chunk n o old new q pos only ne h = record {
  front = λ i lt at. byte_same chunk n q.new (i % (512 * chunk)) old new only ne (mod_below i (512 * chunk) (omega arith)) ∙ h.front i lt at;
}

pub mark_kept : (chunk n : ℕ) (o old new : List ℕ) (pairs : List Pair) (m : Mark) → 0 < chunk → ChangesOnly chunk n old new → ((c : ℕ) → place_of pairs c ≢ Some n) → MarkHolds chunk o old pairs m → MarkHolds chunk o new pairs m
mark_kept chunk n o old new pairs m pos only unnamed h = record {
  same = λ i lt at. picture-only chunk n o old new pairs pos only unnamed i ∙ h.same i lt at;
}

pub picture_kept : (chunk n : ℕ) (o old new : List ℕ) (pairs : List Pair) → 0 < chunk → ChangesOnly chunk n old new → ((c : ℕ) → place_of pairs c ≢ Some n) → pairs_of chunk old ≡ pairs → pairs_of chunk new ≡ pairs → picture chunk o new ≡ picture chunk o old
picture_kept chunk n o old new pairs pos only unnamed before after =
    same_picture chunk o old o new pairs refl after
    (λ i lt. picture-only chunk n o old new pairs pos only unnamed i ∙ sym (ap (λ ps. picture_at chunk o old ps i) before))

-- of the committed pairs alone
pub inside_pairs : {l : Bool} (o : List ℕ) (rs : List Flight) (v : SnapBooks) → LiveHolds l o rs v → All (IsInside v.chunk v.sectors v.size) v.pairs
inside_pairs o rs v h = All-front (IsInside v.chunk v.sectors v.size) v.pairs v.begun h.text.inside

pub apart_pairs : {l : Bool} (o : List ℕ) (rs : List Flight) (v : SnapBooks) → LiveHolds l o rs v → AllPairs IsApart v.pairs
apart_pairs o rs v h = AllPairs-front IsApart v.pairs v.begun h.text.apart

-- no chunk's copy stands on an area's place
pub area_unnamed : {l : Bool} (o : List ℕ) (rs : List Flight) (v : SnapBooks) → LiveHolds l o rs v → (a c : ℕ) → place_of v.pairs c ≢ Some (area_place v.chunk a)
area_unnamed o rs v h a = place_unnamed v.chunk v.sectors v.size a v.pairs h.text.some (inside_pairs o rs v h)

pub copy_holds : {l : Bool} (o : List ℕ) (rs : List Flight) (v : SnapBooks) → LiveHolds l o rs v → (k : ℕ) (p : ChunkCopy) → k < length v.copies → p ≡ get_or v.copies k p → CopyHolds (l && v.loud) v.chunk v.sectors o v.store p
copy_holds o rs v h k p within is = subst (CopyHolds _ v.chunk v.sectors o v.store) (sym is) (h.copies k p within)
