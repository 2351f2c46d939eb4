-- Room for copies is made, and nothing else changes.
use Rattle.std.proofs.Common.{◌≡◌, ◌≢◌, Option, Some, None, ℕ, ◌+◌, ◌<◌, List, [], ◌∷◌, length, get_or, map, refl, sym, ◌∙◌, ap, subst, arith, if◌then◌else◌}
use Rattle.std.specs.Prelude.{sum_by, count_by, min}
use Rattle.device.specs.Layers.{Layer}
use Rattle.volume_laws.specs.Books.{SnapBooks, Books}
use Rattle.volume_laws.specs.Whole.{Holds}
use Rattle.volume_laws.specs.Waits.{Waits}
use Rattle.snapshot.specs.Kept.{Kept, books_of as snap_books}
use Rattle.snapshot_list.proofs.Roomed.{roomed, roomed_length, roomed_at}
use Rattle.volume_laws.specs.MergeRooms.{KeepBack}
use Rattle.volume_laws.specs.MergeWaits.{MergeGoes}
use Rattle.merge.specs.Merging.{Merging, due_of as merging_due}
use Rattle.snapshot_list.specs.Rooms.{room_of}
use Rattle.volume.specs.Volumed.{Volumed, books_of, piece_of, piece_with}
use Rattle.snapshot_list.specs.Numbers.{number_of_snap, count_in}
use Rattle.volume.specs.Whole.{AreNumbers, SharesNone, IsAttached, GoesOn, IsWhole, IsCounted, starts_left}
use Rattle.snapshot_list.specs.Starting.{unroomed, starts}
use Rattle.volume.proofs.Sums.{sum_cons}

unseen_sum : {B : Type 0} (f : Kept B → ℕ) (xs : List (Kept B)) → ((s : Kept B) → f (unroomed s) ≡ f s) → sum_by f (map unroomed xs) ≡ sum_by f xs
unseen_sum f [] same = refl
unseen_sum f (x ∷ xs) same = sum_cons f (unroomed x) (map unroomed xs) ∙ ap (λ n. n + sum_by f (map unroomed xs)) (same x) ∙ ap (λ n. f x + n) (unseen_sum f xs same) ∙ sym (sum_cons f x xs)

pub roomed_sum : {B : Type 0} (f : Kept B → ℕ) (xs ys : List (Kept B)) → map unroomed xs ≡ map unroomed ys → ((s : Kept B) → f (unroomed s) ≡ f s) → sum_by f xs ≡ sum_by f ys
roomed_sum f xs ys e same = sym (unseen_sum f xs same) ∙ ap (sum_by f) e ∙ unseen_sum f ys same

pub roomed_piece : {B : Type 0} (xs ys : List (Kept B)) → map unroomed xs ≡ map unroomed ys → piece_of xs ≡ piece_of ys
roomed_piece xs ys e = sym (unseen_piece xs) ∙ ap piece_of e ∙ unseen_piece ys
  where
    unseen_piece : {B : Type 0} (xs : List (Kept B)) → piece_of (map unroomed xs) ≡ piece_of xs
    unseen_piece [] = refl
    unseen_piece (x ∷ xs) = ap (min x.state.chunk) (unseen_piece xs)

-- beside a merge
pub roomed_beside : {B : Type 0} (merge : Option (Merging B)) (xs ys : List (Kept B)) → map unroomed xs ≡ map unroomed ys → piece_with merge xs ≡ piece_with merge ys
roomed_beside None xs ys e = roomed_piece xs ys e
roomed_beside (Some m) xs ys e = ap (min m.state.chunk) (roomed_piece xs ys e)

module _ {B : Type 0} (contents : B → List ℕ) (layers : B → List Layer) (size : B → ℕ) (v : Volumed B) (snaps : List (Kept B)) (e : map unroomed snaps ≡ map unroomed v.snaps) where
  pub books_roomed : map (snap_books contents layers) snaps ≡ map (snap_books contents layers) v.snaps
  books_roomed = roomed (snap_books contents layers) snaps v.snaps e (λ s. refl)

  -- the merge sees no room
  goes_roomed : (merge : Option (Merging B)) → GoesOn contents layers size merge v → GoesOn contents layers size merge (record v { snaps = snaps })
  goes_roomed None h = h
  goes_roomed (Some m) h = record {
    origin = h.origin;
    allowed = h.allowed;
    apart = λ k d lt. subst (λ (x : Kept B). x.number ≢ m.number) (roomed_at snaps v.snaps k d e lt) (h.apart k d (omega (arith, lt, roomed_length snaps v.snaps e)));
    given = h.given;
    few = omega (arith, h.few, roomed_length snaps v.snaps e);
    goes = λ loud. subst (λ (xs : List SnapBooks). MergeGoes xs (merging_due contents loud m)) (sym books_roomed) (h.goes loud);
    rooms = subst (KeepBack m.state.chunk m.state.origin m.pairs) (sym (roomed (room_of contents layers) snaps v.snaps e (λ s. refl))) h.rooms;
  }

  pub whole_roomed : IsWhole contents layers size v → IsWhole contents layers size (record v { snaps = snaps })
  whole_roomed h =
      let bs = books_of contents layers size v in
      let len = roomed_length snaps v.snaps e in
      let sums = roomed_sum count_in snaps v.snaps e (λ s. refl) in
      let lefts = roomed_sum starts_left snaps v.snaps e (λ s. refl) in
      record {
        merge = goes_roomed v.merge h.merge;
        holds = subst (λ (xs : List SnapBooks). let b : Books = record bs { snaps = xs } in Holds b) (sym books_roomed) h.holds;
        waits = subst (λ (xs : List SnapBooks). let b : Books = record bs { snaps = xs } in Waits b) (sym books_roomed) h.waits;
        snaps = λ k d lt. seen v.copies (size v.origin) (get_or snaps k d)
            (subst (IsAttached v.copies (size v.origin)) (roomed_at snaps v.snaps k d e lt) (hidden v.copies (size v.origin) (get_or v.snaps k d) (h.snaps k d (omega (arith, lt, len)))));
        counted = λ k d lt. seen_counts (get_or snaps k d)
            (subst IsCounted (roomed_at snaps v.snaps k d e lt) (hidden_counts (get_or v.snaps k d) (h.counted k d (omega (arith, lt, len)))));
        apart = λ i j d lt inside.
            (let i_in : i < length snaps = omega (arith, lt, inside) in
            let was : SharesNone (unroomed (get_or v.snaps i d)) (unroomed (get_or v.snaps j d)) = h.apart i j d lt (omega (arith, inside, len)) in
            let now : SharesNone (unroomed (get_or snaps i d)) (unroomed (get_or snaps j d)) =
            subst (λ (x : Kept B). SharesNone x (unroomed (get_or snaps j d))) (roomed_at snaps v.snaps i d e i_in) (subst (SharesNone (unroomed (get_or v.snaps i d))) (roomed_at snaps v.snaps j d e inside) was) in
            now);
        numbers = subst (AreNumbers v.attached) (sym (roomed number_of_snap snaps v.snaps e (λ s. refl))) h.numbers;
        requests = h.requests;
        few = omega (arith, h.few, len);
        few_copies = omega (arith, h.few_copies, sums);
        few_requests = h.few_requests;
        numbers_left = omega (arith, h.numbers_left, lefts);
      }
    where
      hidden : (copies sectors : ℕ) (s : Kept B) → IsAttached copies sectors s → IsAttached copies sectors (unroomed s)
      hidden copies sectors s a = record { origin = a.origin; allowed = a.allowed; some = a.some; numbers = a.numbers }

      hidden_counts : (s : Kept B) → IsCounted s → IsCounted (unroomed s)
      hidden_counts s a = record { some = a.some; count = a.count; fits = a.fits; idle = a.idle }

      seen_counts : (s : Kept B) → IsCounted (unroomed s) → IsCounted s
      seen_counts s a = record { some = a.some; count = a.count; fits = a.fits; idle = a.idle }

      seen : (copies sectors : ℕ) (s : Kept B) → IsAttached copies sectors (unroomed s) → IsAttached copies sectors s
      seen copies sectors s a = record { origin = a.origin; allowed = a.allowed; some = a.some; numbers = a.numbers }

  pub starts_roomed : (c : ℕ) → count_by (starts c) snaps ≡ count_by (starts c) v.snaps
  starts_roomed c = roomed_sum (λ s. if starts c s then 1 else 0) snaps v.snaps e (λ s. refl)
