-- A snapshot leaves a quiet volume.
use Rattle.std.proofs.Common.{◌≡◌, ◌≢◌, ℕ, ◌<◌, ◌≤◌, List, [], length, get_or, map, refl, sym, ◌∙◌, ap, subst, arith, nat_eq, Bool, true, false, Option, Some, None}
use Rattle.std.specs.Prelude.{◌&&◌}
use Rattle.std.specs.List.{remove, list_all}
use Rattle.std.proofs.lemmas.Bool.{eqb-true}
use Rattle.std.proofs.lemmas.List.{length-map}
use Rattle.std.proofs.lemmas.List.Edits.{length-remove}
use Rattle.std.proofs.lemmas.List.Quantifiers.{all_pairs_remove}
use Rattle.device.specs.Layers.{Layer, is_loud}
use Rattle.plain_machine.specs.Legal.{IsDetached}
use Rattle.volume_laws.specs.Books.{SnapBooks}
use Rattle.volume_laws.specs.MergeRooms.{KeepBack}
use Rattle.volume_laws.specs.MergeWaits.{MergeGoes}
use Rattle.volume_laws.specs.Steps.{Detaches}
use Rattle.volume_laws.specs.Whole.{plain_of as plain_books}
use Rattle.volume_laws.proofs.Attaching.{detach_event}
use Rattle.volume_laws.proofs.Lists.{All-remove, map-remove}
use Rattle.volume_laws.proofs.MergeRoomEvents.{rooms_detached}
use Rattle.volume_laws.proofs.MergeSaved.{goes_detached}
use Rattle.volume_laws.proofs.Waiting.{waits_none}
use Rattle.merge.specs.Merging.{Merging, due_of as merging_due}
use Rattle.snapshot_list.specs.Rooms.{room_of}
use Rattle.snapshot.specs.Kept.{Kept, books_of as snap_books}
use Rattle.snapshot.specs.declared.opening.StoreDev.{StoreDev}
use Rattle.volume.specs.Volumed.{Volumed, books_of, is_loud_in_all, plain_of, is_loud_with}
use Rattle.snapshot_list.specs.Numbers.{number_of_snap, count_in}
use Rattle.volume.specs.Whole.{AreNumbers, SharesNone, IsAttached, IsWhole, GoesOn, IsCounted, starts_left}
use Rattle.volume.proofs.Changing.{books_within, books_is}
use Rattle.snapshot_list.specs.Finding.{place_of_snap}
use Rattle.volume.specs.Leaving.{IsWithout}
use Rattle.std.proofs.lemmas.List.Quantifiers.{position-Some}
use Rattle.volume.proofs.Shown.{shown, one_loud}
use Rattle.volume.proofs.Removed.{all_removed, sum_left}

module _ {B : Type 0} (contents : B → List ℕ) (layers : B → List Layer) (size : B → ℕ) (v : Volumed B) (k : ℕ) (s : Kept B) (within : k < length v.snaps) (is : s ≡ get_or v.snaps k s) (none : v.flights ≡ []) where
  abbrev pub left : Volumed B
  left = record v { snaps = remove v.snaps k }

  detaches : Detaches k (snap_books contents layers s) (books_of contents layers size v) (books_of contents layers size left)
  detaches = record {
    quiet = none;
    requests = refl;
    within = books_within contents layers size v v.origin k s s within is;
    was = books_is contents layers size v v.origin k s s within is;
    snaps = map-remove (snap_books contents layers) v.snaps k;
    origin = refl;
    sectors = refl;
    loud = refl;
    merge = refl;
  }

  goes_left : (merge : Option (Merging B)) → GoesOn contents layers size merge v → GoesOn contents layers size merge left
  goes_left None h = tt
  goes_left (Some m) h = record {
    origin = h.origin;
    allowed = h.allowed;
    apart = All-remove (λ (x : Kept B). x.number ≢ m.number) v.snaps k h.apart;
    given = h.given;
    few = let fewer = length-remove v.snaps k within in omega (arith, fewer, h.few);
    goes = λ loud. subst (λ (xs : List SnapBooks). MergeGoes xs (merging_due contents loud m)) (sym (map-remove (snap_books contents layers) v.snaps k)) (goes_detached (map (snap_books contents layers) v.snaps) k (merging_due contents loud m) (h.goes loud));
    rooms = subst (KeepBack m.state.chunk m.state.origin m.pairs) (sym (map-remove (room_of contents layers) v.snaps k)) (rooms_detached m.state.chunk m.state.origin m.pairs (map (room_of contents layers) v.snaps) k h.rooms);
  }

  pub whole_left : IsWhole contents layers size v → IsWhole contents layers size left
  whole_left h =
      let fewer = length-remove v.snaps k within in
      let sums = sum_left count_in v.snaps k in
      let lefts = sum_left starts_left v.snaps k in
      record {
        merge = goes_left v.merge h.merge;
        holds = (detach_event k (snap_books contents layers s) (books_of contents layers size v) (books_of contents layers size left) h.holds detaches).0;
        waits = waits_none (books_of contents layers size left) none;
        snaps = All-remove (IsAttached v.copies (size v.origin)) v.snaps k h.snaps;
        counted = All-remove IsCounted v.snaps k h.counted;
        apart = all_pairs_remove SharesNone v.snaps k within h.apart;
        numbers = subst (AreNumbers v.attached) (sym (map-remove number_of_snap v.snaps k)) (record {
          given = All-remove (λ n. n ≤ v.attached) (map number_of_snap v.snaps) k h.numbers.given;
          ascending = all_pairs_remove (λ m n. m < n) (map number_of_snap v.snaps) k (omega (arith, within, length-map v.snaps number_of_snap)) h.numbers.ascending;
        });
        requests = h.requests;
        few = omega (arith, fewer, h.few);
        few_copies = omega (arith, sums, h.few_copies);
        few_requests = h.few_requests;
        numbers_left = omega (arith, lefts, h.numbers_left);
      }

  pub plain_left : IsWhole contents layers size v → IsDetached (plain_of contents layers v) s.number (plain_of contents layers left)
  plain_left h =
      let step = (detach_event k (snap_books contents layers s) (books_of contents layers size v) (books_of contents layers size left) h.holds detaches).1 in
      subst (λ p. IsDetached p s.number (plain_of contents layers left)) (sym (shown contents layers size v))
      (subst (IsDetached (plain_books (books_of contents layers size v)) s.number) (sym (shown contents layers size left)) step)

  pub plain_left_as : (number : ℕ) (snaps : List (Kept B)) → snaps ≡ remove v.snaps k → s.number ≡ number → IsWhole contents layers size v → IsDetached (plain_of contents layers v) number (plain_of contents layers (record v { snaps = snaps }))
  plain_left_as number snaps same mine h =
      subst (λ (n : ℕ). IsDetached (plain_of contents layers v) n (plain_of contents layers (record v { snaps = snaps }))) mine
      (subst (λ (x : List (Kept B)). IsDetached (plain_of contents layers v) s.number (plain_of contents layers (record v { snaps = x }))) (sym same) (plain_left h))

grouped : (a b c : Bool) → (a && (b && c)) ≡ ((a && b) && c)
grouped true b c = refl
grouped false b c = refl

-- the devices that stay and the one that is given back drop no writes just where none did
pub without_loud : {B : Type 0} (layers : B → List Layer) (number : ℕ) (v w : Volumed B) (store : StoreDev B) (d : Kept B) → IsWithout number v w store → is_loud_in_all layers v ≡ (is_loud_in_all layers w && is_loud (layers store.device))
without_loud {B = B} layers number v w store d h =
    let within : h.place < length v.snaps = (position-Some (λ (s : Kept B). nat_eq s.number number) v.snaps h.place d h.found).0 in
    ap (is_loud_with layers v.merge) (ap (λ b. is_loud (layers v.origin) && b) (all_removed (λ (s : Kept B). is_loud (layers s.device)) v.snaps h.place d within)
    ∙ grouped (is_loud (layers v.origin)) (list_all (λ (s : Kept B). is_loud (layers s.device)) (remove v.snaps h.place)) (is_loud (layers (get_or v.snaps h.place d).device)))
    ∙ one_loud layers v.merge (is_loud (layers v.origin) && list_all (λ (s : Kept B). is_loud (layers s.device)) (remove v.snaps h.place)) (is_loud (layers (get_or v.snaps h.place d).device))
    ∙ ap (λ (d : B). is_loud_in_all layers (record v { snaps = remove v.snaps h.place }) && is_loud (layers d)) (sym (h.device d))
    ∙ ap (λ (x : Volumed B). is_loud_in_all layers x && is_loud (layers store.device)) (sym h.becomes)

-- the snapshot with a number is found
pub found_place : {B : Type 0} (number : ℕ) (snaps : List (Kept B)) (k : ℕ) (d : Kept B) → Some k ≡ place_of_snap number snaps → (k < length snaps) × ((get_or snaps k d).number ≡ number)
found_place number snaps k d e =
    let found = position-Some (λ s. nat_eq s.number number) snaps k d (sym e) in
    (found.0, eqb-true (get_or snaps k d).number number found.1)
