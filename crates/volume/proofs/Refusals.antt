-- A refused request, as the event machine has it.
use Rattle.std.proofs.Common.{◌≡◌, ◌≢◌, ◌⊎◌, inl, inr, ℕ, zero, suc, ◌<◌, Bool, true, false, List, [], ◌∷◌, Option, Some, None, length, get_or, set, map, refl, sym, ◌∙◌, ap, arith, nat_eq, eq-eqb, eqb-true}
use Rattle.std.specs.Prelude.{◌&&◌, if◌then◌else◌}
use Rattle.std.proofs.lemmas.Bool.{true≢false}
use Rattle.std.proofs.lemmas.List.{get_or-map}
use Rattle.device.specs.Layers.{Layer}
use Rattle.sector.specs.declared.refusal.Refusal.{Refusal}
use Rattle.sector.specs.declared.refusal.Refusal.TheVariants.{MergingSnapshot, OutOfRange, TooMany, NoMemory, Invalid, Overflow}
use Rattle.plain_machine.specs.declared.request.Dev.{Dev}
use Rattle.plain_machine.specs.declared.request.Dev.TheVariants.{Origin, Snap}
use Rattle.plain_machine.specs.declared.request.Op.{Op}
use Rattle.plain_machine.specs.declared.request.Op.TheVariants.{Read, Write, Flush}
use Rattle.plain_machine.specs.declared.request.Request.{Request}
use Rattle.plain_machine.specs.declared.request.Reply.{Reply}
use Rattle.plain_machine.specs.declared.request.Reply.TheVariants.{Refused as Declined}
use Rattle.plain_machine.specs.declared.request.Failure.{Failure}
use Rattle.plain_machine.specs.declared.request.Failure.TheVariants.{Invalid as IsInvalid, Io as IsIo, Overflow as IsOverflow}
use Rattle.plain_machine.specs.declared.request.Overflowing.{Overflowing}
use Rattle.plain_machine.specs.declared.request.Overflowing.TheVariants.{Never, May, Did}
use Rattle.plain_machine.specs.Failures.{refusal_of}
use Rattle.plain_machine.specs.Kept.{kept_range}
use Rattle.plain_machine.specs.Plain.{did_overflow}
use Rattle.in_flight.specs.Kinds.{kind_of, kind_at}
use Rattle.in_flight.specs.Routes.{refused_of}
use Rattle.in_flight.specs.declared.flights.Flight.{Flight}
use Rattle.in_flight.specs.declared.flights.Kind.{Kind}
use Rattle.in_flight.specs.declared.flights.Kind.TheVariants.{OriginRead, OriginWrite, OriginFlush, SnapRead, SnapWrite, SnapFlush}
use Rattle.event_machine.specs.Held.{SnapHeld, Moving}
use Rattle.event_machine.specs.Submitting.{submitted}
use Rattle.snapshot.specs.Kept.{Kept}
use Rattle.volume.specs.Volumed.{Volumed, piece_with}
use Rattle.volume.specs.Whole.{IsWhole}
use Rattle.snapshot_list.specs.Finding.{place_of_snap}
use Rattle.volume.specs.Moved.{moving_of}
use Rattle.snapshot_list.specs.Starting.{lacks, is_full_of, spoilt_of}
use Rattle.volume.specs.Submitting.{first_of_two, refusal_at, dev_refusal, is_merging, submit_refusal, is_piece_of, are_too_many, starting, shut_at, shut_refusal, SameButRoom, IsFoundFull, IsOverflown, IsRefusedAs}
use Rattle.volume.proofs.Accepts.{same_roomed}
use Rattle.volume.proofs.Leaves.{found_place}
use Rattle.volume.proofs.MergeRoutes.{not_merging}
use Rattle.volume.proofs.MovedAccepts.{snap_dead_is, snap_write_full_is, snap_write_shut_is, unroomed_seen}
use Rattle.volume.proofs.MovedFound.{snap_first}
use Rattle.volume.proofs.MovedLists.{IsFirst}
use Rattle.volume.proofs.MovedShuts.{did_shut, full_shut}
use Rattle.volume.proofs.Named.{dev_of_write, found_live, found_within}
use Rattle.volume.proofs.Submitted.{lacking_unpublished, sized_at}

-- only a snapshot that is there and not live makes a request invalid before it is looked at further
module _ {B : Type 0} (size : B → ℕ) (v : Volumed B) where
  out_of_range : (b : Bool) → (if b then None else Some OutOfRange) ≡ Some Invalid → ⊥
  out_of_range true e = cc
  out_of_range false e = cc

  too_many : (b : Bool) → (if b then Some TooMany else None) ≡ Some Invalid → ⊥
  too_many true e = cc
  too_many false e = cc

  by_range : (a b : Bool) → first_of_two (if a then None else Some OutOfRange) (if b then Some TooMany else None) ≡ Some Invalid → ⊥
  by_range true b e = too_many b e
  by_range false b e = cc

  dead_at : (b : Bool) → (if b then None else Some Invalid) ≡ Some Invalid → b ≡ false
  dead_at true e = cc
  dead_at false e = refl

  -- a snapshot that takes no write is not invalid for that
  shut_invalid : (b : Bool) → (if b then Some Overflow else None) ≡ Some Invalid → ⊥
  shut_invalid true e = cc
  shut_invalid false e = cc

  shut_place : (found : Option ℕ) → shut_at v.snaps found ≡ Some Invalid → ⊥
  shut_place None e = cc
  shut_place (Some k) e = shut_invalid (did_overflow (get_or (map (λ (s : Kept B). s.overflow) v.snaps) k Never)) e

  shut_kind : (kind : Kind) → shut_refusal kind v.snaps ≡ Some Invalid → ⊥
  shut_kind OriginRead e = cc
  shut_kind OriginWrite e = cc
  shut_kind OriginFlush e = cc
  shut_kind (SnapRead n) e = cc
  shut_kind (SnapFlush n) e = cc
  shut_kind (SnapWrite n) e = shut_place (place_of_snap n v.snaps) e

  -- of the device's own reason
  dev_invalid : (request : Request) → submit_refusal size request v ≡ Some Invalid → dev_refusal request.dev v.merge v.snaps ≡ Some Invalid
  dev_invalid request e =
      by (dev_refusal request.dev v.merge v.snaps) (shut_refusal (kind_of request) v.snaps) (is_piece_of (piece_with v.merge v.snaps) (size v.origin) (kept_range request.op request.range)) (are_too_many (starting (kind_of request) request.range.first v.merge v.snaps) v)
      (shut_kind (kind_of request)) e
    where
      by : (o p : Option Refusal) (a b : Bool) → (p ≡ Some Invalid → ⊥) → first_of_two o (first_of_two p (first_of_two (if a then None else Some OutOfRange) (if b then Some TooMany else None))) ≡ Some Invalid → o ≡ Some Invalid
      by None None a b unshut e = absurd (by_range a b e)
      by None (Some r) a b unshut e = absurd (unshut e)
      by (Some r) p a b unshut e = e

  -- the snapshot
  pub invalid_dead : (dev : Dev) → dev_refusal dev v.merge v.snaps ≡ Some Invalid → (n : ℕ) × (k : ℕ) × (dev ≡ Snap n) × (Some k ≡ place_of_snap n v.snaps) × (get_or (map (λ (s : Kept B). s.live) v.snaps) k false ≡ false)
  invalid_dead Origin e = absurd (cc)
  invalid_dead (Snap n) e = at (place_of_snap n v.snaps) refl (not_merging (is_merging n v.merge) (refusal_at v.snaps (place_of_snap n v.snaps)) (Some Invalid) invalid_is e)
    where
      invalid_is : Some Invalid ≢ Some MergingSnapshot
      invalid_is e = cc

      at : (found : Option ℕ) → place_of_snap n v.snaps ≡ found → refusal_at v.snaps found ≡ Some Invalid → (m : ℕ) × (k : ℕ) × (Snap n ≡ Snap m) × (Some k ≡ place_of_snap m v.snaps) × (get_or (map (λ (s : Kept B). s.live) v.snaps) k false ≡ false)
      at None is e = absurd (cc)
      at (Some k) is e = (n, k, refl, sym is, dead_at (get_or (map (λ (s : Kept B). s.live) v.snaps) k false) e)

-- only a write of a snapshot whose store overflowed is refused for that
module _ {B : Type 0} (size : B → ℕ) (v : Volumed B) where
  range_overflow : (a b : Bool) → first_of_two (if a then None else Some OutOfRange) (if b then Some TooMany else None) ≡ Some Overflow → ⊥
  range_overflow true true e = cc
  range_overflow true false e = cc
  range_overflow false b e = cc

  live_overflow : (b : Bool) → (if b then None else Some Invalid) ≡ Some Overflow → ⊥
  live_overflow true e = cc
  live_overflow false e = cc

  place_overflow : (found : Option ℕ) → refusal_at v.snaps found ≡ Some Overflow → ⊥
  place_overflow None e = cc
  place_overflow (Some k) e = live_overflow (get_or (map (λ (s : Kept B). s.live) v.snaps) k false) e

  merging_overflow : (b : Bool) (o : Option Refusal) → (o ≡ Some Overflow → ⊥) → (if b then Some MergingSnapshot else o) ≡ Some Overflow → ⊥
  merging_overflow true o never e = cc
  merging_overflow false o never e = never e

  dev_overflow : (dev : Dev) → dev_refusal dev v.merge v.snaps ≡ Some Overflow → ⊥
  dev_overflow Origin e = cc
  dev_overflow (Snap n) e = merging_overflow (is_merging n v.merge) (refusal_at v.snaps (place_of_snap n v.snaps)) (place_overflow (place_of_snap n v.snaps)) e

  -- after the reasons of the device
  refused_shut : (request : Request) → submit_refusal size request v ≡ Some Overflow → (dev_refusal request.dev v.merge v.snaps ≡ None) × (shut_refusal (kind_of request) v.snaps ≡ Some Overflow)
  refused_shut request e =
      by (dev_refusal request.dev v.merge v.snaps) (shut_refusal (kind_of request) v.snaps) (is_piece_of (piece_with v.merge v.snaps) (size v.origin) (kept_range request.op request.range)) (are_too_many (starting (kind_of request) request.range.first v.merge v.snaps) v)
      (dev_overflow request.dev) e
    where
      by : (o p : Option Refusal) (a b : Bool) → (o ≡ Some Overflow → ⊥) → first_of_two o (first_of_two p (first_of_two (if a then None else Some OutOfRange) (if b then Some TooMany else None))) ≡ Some Overflow → (o ≡ None) × (p ≡ Some Overflow)
      by None None a b none e = absurd (range_overflow a b e)
      by None (Some r) a b none e = (refl, e)
      by (Some r) p a b none e = absurd (none e)

  -- the snapshot
  shut_found : (kind : Kind) → shut_refusal kind v.snaps ≡ Some Overflow → (n : ℕ) × (k : ℕ) × (kind ≡ SnapWrite n) × (Some k ≡ place_of_snap n v.snaps) × (did_overflow (get_or (map (λ (s : Kept B). s.overflow) v.snaps) k Never) ≡ true)
  shut_found OriginRead e = absurd (cc)
  shut_found OriginWrite e = absurd (cc)
  shut_found OriginFlush e = absurd (cc)
  shut_found (SnapRead n) e = absurd (cc)
  shut_found (SnapFlush n) e = absurd (cc)
  shut_found (SnapWrite n) e = at (place_of_snap n v.snaps) refl e
    where
      did : (b : Bool) → (if b then Some Overflow else None) ≡ Some Overflow → b ≡ true
      did true e = refl
      did false e = absurd (cc)

      at : (found : Option ℕ) → place_of_snap n v.snaps ≡ found → shut_at v.snaps found ≡ Some Overflow
          → (m : ℕ) × (k : ℕ) × (SnapWrite n ≡ SnapWrite m) × (Some k ≡ place_of_snap m v.snaps) × (did_overflow (get_or (map (λ (s : Kept B). s.overflow) v.snaps) k Never) ≡ true)
      at None is e = absurd (cc)
      at (Some k) is e = (n, k, refl, sym is, did (did_overflow (get_or (map (λ (s : Kept B). s.overflow) v.snaps) k Never)) e)

snap_kind : (dev : Dev) (op : Op) (n : ℕ) → dev ≡ Snap n → (kind_at dev op ≡ SnapRead n) ⊎ (kind_at dev op ≡ SnapWrite n) ⊎ (kind_at dev op ≡ SnapFlush n)
snap_kind dev Read n e = inl (ap (λ d. kind_at d Read) e)
snap_kind dev (Write bytes) n e = inr (inl (ap (λ d. kind_at d (Write bytes)) e))
snap_kind dev Flush n e = inr (inr (ap (λ d. kind_at d Flush) e))

-- what stands at a place
pub element : {X : Type 0} (xs : List X) (k : ℕ) → k < length xs → (x : X) × (x ≡ get_or xs k x)
element [] k lt = absurd (omega (arith, lt))
element (x ∷ xs) zero lt = (x, refl)
element (x ∷ xs) (suc k) lt = element xs k (omega (arith, lt))

both_left : (a b : Bool) → (a && b) ≡ true → a ≡ true
both_left true b e = refl
both_left false b e = absurd (true≢false (sym e))

both_right : (a b : Bool) → (a && b) ≡ true → b ≡ true
both_right true b e = e
both_right false b e = absurd (true≢false (sym e))

module _ {B : Type 0} (contents : B → List ℕ) (layers : B → List Layer) (size : B → ℕ) (v w : Volumed B) (h : IsWhole contents layers size v) where
  first_found : (n k : ℕ) (s : Kept B) → Some k ≡ place_of_snap n v.snaps → s ≡ get_or v.snaps k s → IsFirst (λ (x : Kept B). nat_eq x.number n) k s v.snaps
  first_found n k s place is =
      let found = found_place n v.snaps k s place in
      snap_first contents layers size v h n k s found.0 is (λ (x : Kept B). nat_eq x.number n) (λ x e. eqb-true x.number n e) (eq-eqb s.number n (ap (λ (x : Kept B). x.number) is ∙ found.1))

  -- a request of a snapshot that is not live
  dead_declined : (request : Request) (n k : ℕ) → request.dev ≡ Snap n → Some k ≡ place_of_snap n v.snaps → get_or (map (λ (s : Kept B). s.live) v.snaps) k false ≡ false → (number : ℕ) (replied : Option Reply)
      → submitted number request (moving_of contents layers replied v) ≡ moving_of contents layers (Some (Declined IsInvalid)) v
  dead_declined request n k dev place dead number replied =
      let within : k < length v.snaps = found_within n v.snaps k place in
      let (s, is) = element v.snaps k within in
      let out : s.live ≡ false = ap (λ (x : Kept B). x.live) is ∙ sym (get_or-map (λ (x : Kept B). x.live) v.snaps k s false within) ∙ dead in
      snap_dead_is contents layers replied number request v n k s (first_found n k s place is) (snap_kind request.dev request.op n dev) out

  -- a write that finds the store of its snapshot full
  full_declined : (request : Request) (n : ℕ) → kind_of request ≡ SnapWrite n → IsFoundFull contents layers n request.range.first v w → (number : ℕ) (replied : Option Reply)
      → submitted number request (moving_of contents layers replied v) ≡ moving_of contents layers (Some (Declined IsInvalid)) w
  full_declined request n kind e number replied =
      let k : ℕ = e.place in
      let s : Kept B = e.snap in
      let first : ℕ = request.range.first in
      let place : Some e.place ≡ place_of_snap n v.snaps = sym e.found in
      let found = found_place n v.snaps e.place e.snap place in
      let named : e.snap.number ≡ n = ap (λ (x : Kept B). x.number) e.is ∙ found.1 in
      let sized = sized_at contents layers size v h e.place e.snap found.0 e.is in
      let lacking = both_left (lacks first e.snap) (is_full_of e.snap) e.full in
      let full = both_right (lacks first e.snap) (is_full_of e.snap) e.full in
      let last : Option Reply = Some (Declined IsInvalid) in
      let u : List Flight → Volumed B = λ (fs : List Flight). record v { snaps = set v.snaps e.place (spoilt_of e.snap); flights = fs } in
      let fs : List Flight = map (refused_of (n ∷ [])) v.flights in
      snap_write_full_is contents layers replied number request v n e.place e.snap (first_found n e.place e.snap place e.is) kind e.strict
      (lacking_unpublished first e.snap lacking) sized lacking full
      ∙ ap (λ (m : ℕ). moving_of contents layers last (u (map (refused_of (m ∷ [])) v.flights))) named
      ∙ ap (λ (hs : List SnapHeld). let m : Moving = record (moving_of contents layers last (u fs)) { snaps = hs } in m) (sym (unroomed_seen contents layers w.snaps (set v.snaps e.place (spoilt_of e.snap)) e.spoilt))
      ∙ sym (ap (moving_of contents layers last) e.becomes)

  -- a write of a live snapshot whose store overflowed
  shut_declined : (request : Request) (n k : ℕ) → kind_of request ≡ SnapWrite n → dev_refusal request.dev v.merge v.snaps ≡ None → Some k ≡ place_of_snap n v.snaps → did_overflow (get_or (map (λ (s : Kept B). s.overflow) v.snaps) k Never) ≡ true
      → (number : ℕ) (replied : Option Reply) → submitted number request (moving_of contents layers replied v) ≡ moving_of contents layers (Some (Declined IsOverflow)) v
  shut_declined request n k kind free place did number replied =
      let within : k < length v.snaps = found_within n v.snaps k place in
      let (s, is) = element v.snaps k within in
      let live : s.live ≡ true = ap (λ (x : Kept B). x.live) is ∙ found_live v.merge v.snaps request.dev n k s free (dev_of_write request n kind) place in
      let mark : did_overflow s.overflow ≡ true = ap (λ (x : Kept B). did_overflow x.overflow) is ∙ ap did_overflow (sym (get_or-map (λ (x : Kept B). x.overflow) v.snaps k s Never within)) ∙ did in
      snap_write_shut_is contents layers replied number request v n k s (first_found n k s place is) kind (did_shut contents layers request.range.first s live mark)
      ∙ ap (λ (xs : List (Kept B)). moving_of contents layers (Some (Declined IsOverflow)) (record v { snaps = xs })) (ap (set v.snaps k) (marked_again s (was_marked s.overflow mark)) ∙ set_same v.snaps k s is)
    where
      was_marked : (o : Overflowing) → did_overflow o ≡ true → o ≡ Did
      was_marked Never e = absurd (cc)
      was_marked May e = absurd (cc)
      was_marked Did e = refl

      marked_again : (s : Kept B) → s.overflow ≡ Did → record s { overflow = Did } ≡ s
      marked_again s e = ap (λ (o : Overflowing). record s { overflow = o }) (sym e)

      set_same : (xs : List (Kept B)) (k : ℕ) (s : Kept B) → s ≡ get_or xs k s → set xs k s ≡ xs
      set_same [] k s is = refl
      set_same (x ∷ xs) zero s is = ap (λ (y : Kept B). y ∷ xs) is
      set_same (x ∷ xs) (suc k) s is = ap (λ (ys : List (Kept B)). x ∷ ys) (set_same xs k s is)

  -- a write that finds the store of its snapshot full, which may overflow
  overflown_declined : (request : Request) (n : ℕ) → kind_of request ≡ SnapWrite n → IsOverflown contents layers n request.range.first v w → (number : ℕ) (replied : Option Reply)
      → submitted number request (moving_of contents layers replied v) ≡ moving_of contents layers (Some (Declined IsOverflow)) w
  overflown_declined request n kind e number replied =
      let first : ℕ = request.range.first in
      let place : Some e.place ≡ place_of_snap n v.snaps = sym e.found in
      let found = found_place n v.snaps e.place e.snap place in
      let sized = sized_at contents layers size v h e.place e.snap found.0 e.is in
      let lacking = both_left (lacks first e.snap) (is_full_of e.snap) e.full in
      let full = both_right (lacks first e.snap) (is_full_of e.snap) e.full in
      let last : Option Reply = Some (Declined IsOverflow) in
      snap_write_shut_is contents layers replied number request v n e.place e.snap (first_found n e.place e.snap place e.is) kind (full_shut contents layers first e.snap e.may sized lacking full)
      ∙ ap (λ (hs : List SnapHeld). let m : Moving = record (moving_of contents layers last v) { snaps = hs } in m) (sym (unroomed_seen contents layers w.snaps (set v.snaps e.place (record e.snap { overflow = Did })) e.marked))
      ∙ sym (ap (moving_of contents layers last) e.becomes)

  room_unseen : SameButRoom v w → (replied : Option Reply) → moving_of contents layers replied w ≡ moving_of contents layers replied v
  room_unseen e replied = ap (moving_of contents layers replied) e.becomes
      ∙ ap (λ (hs : List SnapHeld). let m : Moving = record (moving_of contents layers replied v) { snaps = hs } in m) (unroomed_seen contents layers w.snaps v.snaps e.roomed)

  -- an invalid one, as the machine declines it
  pub invalid_declined : (request : Request) (refusal : Refusal) → IsRefusedAs contents layers size request refusal v w → refusal ≡ Invalid → (number : ℕ) (replied : Option Reply)
      → submitted number request (moving_of contents layers replied v) ≡ moving_of contents layers (Some (Declined IsInvalid)) w
  invalid_declined request refusal e is number replied = elim e [
    | inl first ↦
        (let (n, k, dev, place, dead) = invalid_dead size v request.dev (dev_invalid size v request (first.0 ∙ ap Some is)) in
        dead_declined request n k dev place dead number replied ∙ sym (ap (moving_of contents layers (Some (Declined IsInvalid))) first.1))
    | inr later ↦ elim later [
      | inl lacking ↦ (let (free, memory, same) = lacking in absurd (let e : NoMemory ≡ Invalid = sym memory ∙ is in cc))
      | inr full ↦ elim full [
        | inl spoilt ↦ (let (free, invalid, rest) = spoilt in let (n, kind, found) = rest in full_declined request n kind found number replied)
        | inr marked ↦ (let (free, overflow, rest) = marked in absurd (let e : Overflow ≡ Invalid = sym overflow ∙ is in cc))
      ]
    ]
  ]

  -- one for a store that overflowed
  pub overflow_declined : (request : Request) (refusal : Refusal) → IsRefusedAs contents layers size request refusal v w → refusal ≡ Overflow → (number : ℕ) (replied : Option Reply)
      → submitted number request (moving_of contents layers replied v) ≡ moving_of contents layers (Some (Declined IsOverflow)) w
  overflow_declined request refusal e is number replied = elim e [
    | inl first ↦
        (let (free, shut) = refused_shut size v request (first.0 ∙ ap Some is) in
        let (n, k, kind, place, did) = shut_found size v (kind_of request) shut in
        shut_declined request n k kind free place did number replied ∙ sym (ap (moving_of contents layers (Some (Declined IsOverflow))) first.1))
    | inr later ↦ elim later [
      | inl lacking ↦ (let (free, memory, same) = lacking in absurd (let e : NoMemory ≡ Overflow = sym memory ∙ is in cc))
      | inr full ↦ elim full [
        | inl spoilt ↦ (let (free, invalid, rest) = spoilt in absurd (let e : Invalid ≡ Overflow = sym invalid ∙ is in cc))
        | inr marked ↦ (let (free, overflow, rest) = marked in let (n, kind, found) = rest in overflown_declined request n kind found number replied)
      ]
    ]
  ]

  -- by the failure that says why
  pub failure_declined : (request : Request) (refusal : Refusal) → IsRefusedAs contents layers size request refusal v w → (failure : Failure) → refusal ≡ refusal_of failure → failure ≢ IsIo → (number : ℕ) (replied : Option Reply)
      → submitted number request (moving_of contents layers replied v) ≡ moving_of contents layers (Some (Declined failure)) w
  failure_declined request refusal e IsInvalid is other = invalid_declined request refusal e is
  failure_declined request refusal e IsIo is other = absurd (other refl)
  failure_declined request refusal e IsOverflow is other = overflow_declined request refusal e is

  -- any other: nothing is seen of it
  pub others_unseen : (request : Request) (refusal : Refusal) → IsRefusedAs contents layers size request refusal v w → refusal ≢ Invalid → refusal ≢ Overflow → (replied : Option Reply) → moving_of contents layers replied w ≡ moving_of contents layers replied v
  others_unseen request refusal e other unmarked replied = elim e [
    | inl first ↦ ap (moving_of contents layers replied) first.1
    | inr later ↦ elim later [
      | inl lacking ↦ (let (free, memory, same) = lacking in room_unseen same replied)
      | inr full ↦ elim full [
        | inl spoilt ↦ (let (free, invalid, rest) = spoilt in absurd (other invalid))
        | inr marked ↦ (let (free, overflow, rest) = marked in absurd (unmarked overflow))
      ]
    ]
  ]

module _ {B : Type 0} (contents : B → List ℕ) (layers : B → List Layer) (size : B → ℕ) (request : Request) (refusal : Refusal) (v w : Volumed B) (free : submit_refusal size request v ≡ None) where
  -- memory was refused
  pub starved_refused : (refusal ≡ NoMemory) × SameButRoom v w → IsRefusedAs contents layers size request refusal v w
  starved_refused e = inr (inl (free, e.0, e.1))

  pub same_refused : (refusal ≡ NoMemory) × (w ≡ v) → IsRefusedAs contents layers size request refusal v w
  same_refused e = inr (inl (free, e.0, same_roomed v w e.1))

  -- or a write of a snapshot found its store full
  pub write_refused : (n : ℕ) → kind_of request ≡ SnapWrite n → ((refusal ≡ NoMemory) × SameButRoom v w) ⊎ ((refusal ≡ Invalid) × IsFoundFull contents layers n request.range.first v w) ⊎ ((refusal ≡ Overflow) × IsOverflown contents layers n request.range.first v w) → IsRefusedAs contents layers size request refusal v w
  write_refused n kind e = elim e [
    | inl starved ↦ starved_refused starved
    | inr full ↦ elim full [
      | inl spoilt ↦ inr (inr (inl (free, spoilt.0, (n, kind, spoilt.1))))
      | inr marked ↦ inr (inr (inr (free, marked.0, (n, kind, marked.1))))
    ]
  ]
