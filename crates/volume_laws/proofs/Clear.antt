-- What the test for an origin write says.
use Rattle.std.proofs.Common.{◌≡◌, ◌≢◌, ℕ, ◌/◌, Bool, true, false, List, [], ◌∷◌, refl, sym, ◌∙◌, ap, nat_eq}
use Rattle.std.specs.Prelude.{◌&&◌, ◌||◌, not}
use Rattle.std.specs.List.{All, list_any, list_all}
use Rattle.std.specs.Option.{is_some}
use Rattle.std.proofs.lemmas.Bool.{false≢true, eqb-false}
use Rattle.std.proofs.lemmas.List.Elements.{All-weaker, All-cons, All-nil}
use Rattle.sector.specs.declared.pair.Pair.{Pair}
use Rattle.cow_format.specs.Picture.{place_of}
use Rattle.in_flight.specs.declared.copies.Mark.{Mark}
use Rattle.volume_laws.specs.Books.{SnapBooks}
use Rattle.volume_laws.specs.Published.{IsPublished, is_published, IsSaved, is_saved, is_clear}
use Rattle.volume_laws.proofs.Lists.{All-from_list_any}

and_true : (a b : Bool) → (a && b) ≡ true → (a ≡ true) × (b ≡ true)
and_true true b e = (refl, e)
and_true false b e = absurd (false≢true e)

not_true : (b : Bool) → not b ≡ true → b ≡ false
not_true true e = absurd (false≢true e)
not_true false e = refl

or_true : (a b : Bool) → (not a || b) ≡ true → a ≡ true → b ≡ true
or_true true b e is = e
or_true false b e is = absurd (false≢true is)

-- the tests that a chunk is published
pub published_by : (ps : List Pair) (ms : List Mark) (c : ℕ) → is_some (place_of ps c) ≡ true → list_any (λ m. nat_eq m.chunk c) ms ≡ false → IsPublished ps ms c
published_by ps ms c some unmarked = record {
  placed = λ none. false≢true (sym (ap is_some none) ∙ some);
  unmarked = All-weaker (λ m. nat_eq m.chunk c ≡ false) (λ m. m.chunk ≢ c) (λ m e. eqb-false m.chunk c e) ms (All-from_list_any (λ m. nat_eq m.chunk c) ms unmarked);
}

pub published_true : (ps : List Pair) (ms : List Mark) (c : ℕ) → is_published ps ms c ≡ true → IsPublished ps ms c
published_true ps ms c e =
    let both = and_true (is_some (place_of ps c)) (not (list_any (λ m. nat_eq m.chunk c) ms)) e in
    published_by ps ms c both.0 (not_true (list_any (λ m. nat_eq m.chunk c) ms) both.1)

pub saved_true : (first : ℕ) (v : SnapBooks) → is_saved first v ≡ true → IsSaved first v
saved_true first v e live = published_true v.pairs v.marks (first / v.chunk) (or_true v.live (is_published v.pairs v.marks (first / v.chunk)) e live)

all_true : (first : ℕ) (vs : List SnapBooks) → list_all (is_saved first) vs ≡ true → All (IsSaved first) vs
all_true first [] e = All-nil (IsSaved first)
all_true first (v ∷ vs) e =
    let both = and_true (is_saved first v) (list_all (is_saved first) vs) e in
    All-cons (IsSaved first) v vs (saved_true first v both.0) (all_true first vs both.1)

-- where a write is clear each live snapshot has published its chunk
pub clear_saved : (snaps : List SnapBooks) (first : ℕ) → is_clear snaps first ≡ true → All (IsSaved first) snaps
clear_saved snaps first e = all_true first snaps (and_true (list_all (is_saved first) snaps) (not (list_any (λ v. v.untried) snaps)) e).0

-- and no invalid mark is untried
pub clear_tried : (snaps : List SnapBooks) (first : ℕ) → is_clear snaps first ≡ true → All (λ v. v.untried ≡ false) snaps
clear_tried snaps first e = All-from_list_any (λ v. v.untried) snaps (not_true (list_any (λ v. v.untried) snaps) (and_true (list_all (is_saved first) snaps) (not (list_any (λ v. v.untried) snaps)) e).1)
