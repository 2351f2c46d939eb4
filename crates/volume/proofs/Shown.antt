-- What callers see is what the books show.
use Rattle.std.proofs.Common.{◌≡◌, ℕ, Bool, true, false, List, [], ◌∷◌, Option, Some, None, map, refl, sym, ◌∙◌, ap}
use Rattle.std.specs.Prelude.{◌&&◌}
use Rattle.std.specs.List.{All, list_all}
use Rattle.std.proofs.lemmas.Bool.{false≢true}
use Rattle.std.proofs.lemmas.List.Elements.{All-cons, All-nil}
use Rattle.device.specs.Layers.{Layer, is_loud}
use Rattle.in_flight.specs.Kinds.{in_flight}
use Rattle.volume_laws.specs.Books.{SnapBooks, MergeBooks}
use Rattle.volume_laws.specs.Due.{books_of as books_due}
use Rattle.volume.specs.Shown.{shown_begun, shown_entry, shown_origin}
use Rattle.volume_laws.specs.Whole.{IsLoud, entry_of, origin_of, begun_of, plain_of as plain_books}
use Rattle.volume_laws.proofs.Same.{plain}
use Rattle.snapshot.specs.Kept.{Kept, books_of as snap_books, due_of_kept}
use Rattle.merge.specs.Merging.{Merging, books_of as merging_books}
use Rattle.snapshot_list.specs.Rooms.{merge_books}
use Rattle.volume.specs.Volumed.{Volumed, books_of, plain_of, is_loud_in_all, is_loud_with}

pub and_left : (a b : Bool) → (a && b) ≡ true → a ≡ true
and_left true b h = refl
and_left false b h = h

pub and_right : (a b : Bool) → (a && b) ≡ true → b ≡ true
and_right true b h = h
and_right false b h = absurd (false≢true h)

-- the devices beside the merging store drop no writes
pub loud_but : {B : Type 0} (layers : B → List Layer) (m : Option (Merging B)) (others : Bool) → is_loud_with layers m others ≡ true → others ≡ true
loud_but layers None others e = e
loud_but layers (Some m) others e = and_left others (is_loud (layers m.device)) e

-- one device more
pub one_loud : {B : Type 0} (layers : B → List Layer) (m : Option (Merging B)) (others one : Bool) → is_loud_with layers m (others && one) ≡ (is_loud_with layers m others && one)
one_loud layers None others one = refl
one_loud layers (Some m) others one = turned others one (is_loud (layers m.device))
  where
    turned : (a b c : Bool) → ((a && b) && c) ≡ ((a && c) && b)
    turned true true true = refl
    turned true true false = refl
    turned true false true = refl
    turned true false false = refl
    turned false b c = refl

-- and what the merge writes is done
merge_loud : {B : Type 0} (layers : B → List Layer) (contents : B → List ℕ) (origin snaps : Bool) (x : Option (Merging B)) → is_loud_with layers x (origin && snaps) ≡ true → (m : MergeBooks) → merge_books contents layers origin x ≡ Some m → m.loud ≡ true
merge_loud layers contents origin snaps None e m is = absurd (cc)
merge_loud layers contents origin snaps (Some x) e m is =
    let same : merging_books contents (origin && is_loud (layers x.device)) x ≡ m = cc in
    ap (λ (b : MergeBooks). b.loud) (sym same)
    ∙ ap (λ b. b && is_loud (layers x.device)) (and_left origin snaps (and_left (origin && snaps) (is_loud (layers x.device)) e))
    ∙ and_right (origin && snaps) (is_loud (layers x.device)) e

module _ {B : Type 0} (contents : B → List ℕ) (layers : B → List Layer) (size : B → ℕ) (v : Volumed B) where
  abbrev begun : Option (Merging B) → Option MergeBooks
  begun m = merge_books contents layers (is_loud (layers v.origin)) m

  pub shown : plain_of contents layers v ≡ plain_books (books_of contents layers size v)
  shown =
      ap (λ x. plain x (shown_begun v.merge) (map (shown_entry contents (contents v.origin)) v.snaps) (map in_flight v.flights)) (origin_shown v.merge)
      ∙ ap (λ x. plain (origin_of (contents v.origin) (begun v.merge)) x (map (shown_entry contents (contents v.origin)) v.snaps) (map in_flight v.flights)) (begun_shown v.merge)
      ∙ ap (λ x. plain (origin_of (contents v.origin) (begun v.merge)) (begun_of (begun v.merge)) x (map in_flight v.flights)) (entries_shown v.snaps)
    where
      origin_shown : (m : Option (Merging B)) → shown_origin contents v.origin m ≡ origin_of (contents v.origin) (begun m)
      origin_shown None = refl
      origin_shown (Some m) = refl

      begun_shown : (m : Option (Merging B)) → shown_begun m ≡ begun_of (begun m)
      begun_shown None = refl
      begun_shown (Some m) = refl

      entries_shown : (snaps : List (Kept B)) → map (shown_entry contents (contents v.origin)) snaps ≡ map (entry_of (contents v.origin)) (map (snap_books contents layers) snaps)
      entries_shown [] = refl
      entries_shown (s ∷ snaps) = ap (λ es. shown_entry contents (contents v.origin) s ∷ es) (entries_shown snaps)

  -- the other devices, and the merging store
  pub loud_others : is_loud_in_all layers v ≡ true → (is_loud (layers v.origin) && list_all (λ s. is_loud (layers s.device)) v.snaps) ≡ true
  loud_others e = loud_but layers v.merge (is_loud (layers v.origin) && list_all (λ s. is_loud (layers s.device)) v.snaps) e

  pub loud_books : is_loud_in_all layers v ≡ true → IsLoud (books_of contents layers size v)
  loud_books e = record {
    origin = and_left (is_loud (layers v.origin)) (list_all (λ s. is_loud (layers s.device)) v.snaps) (loud_others e);
    snaps = snaps_loud v.snaps (and_right (is_loud (layers v.origin)) (list_all (λ s. is_loud (layers s.device)) v.snaps) (loud_others e));
    merge = λ m is. merge_loud layers contents (is_loud (layers v.origin)) (list_all (λ s. is_loud (layers s.device)) v.snaps) v.merge e m is;
  }
    where
      snaps_loud : (snaps : List (Kept B)) → list_all (λ s. is_loud (layers s.device)) snaps ≡ true → All (λ (s : SnapBooks). s.loud ≡ true) (map (snap_books contents layers) snaps)
      snaps_loud [] h = All-nil (λ (s : SnapBooks). s.loud ≡ true)
      snaps_loud (s ∷ ss) h = All-cons (λ (x : SnapBooks). x.loud ≡ true) (snap_books contents layers s) (map (snap_books contents layers) ss)
          (and_left (is_loud (layers s.device)) (list_all (λ x. is_loud (layers x.device)) ss) h) (snaps_loud ss (and_right (is_loud (layers s.device)) (list_all (λ x. is_loud (layers x.device)) ss) h))

pub due_books : {B : Type 0} (contents : B → List ℕ) (layers : B → List Layer) (snaps : List (Kept B)) → map books_due (map (due_of_kept contents layers) snaps) ≡ map (snap_books contents layers) snaps
due_books contents layers [] = refl
due_books contents layers (s ∷ ss) = ap (λ x. snap_books contents layers s ∷ x) (due_books contents layers ss)
