-- The snapshot that a request names.
use Rattle.std.proofs.Common.{◌≡◌, ◌≢◌, inl, inr, ℕ, ◌+◌, ◌/◌, ◌<◌, true, false, List, [], ◌∷◌, Option, Some, None, length, get_or, map, refl, sym, ◌∙◌, ap, nat_eq}
use Rattle.std.specs.Prelude.{IfSome, IfNone}
use Rattle.std.specs.List.{list_any}
use Rattle.std.proofs.lemmas.Bool.{cases_Bool, true≢false, eqb-true}
use Rattle.std.proofs.lemmas.List.Folds.{Any-from_list_any}
use Rattle.device.specs.Layers.{Layer}
use Rattle.cow_format.specs.Picture.{place_of}
use Rattle.sector.specs.declared.pair.Pair.{Pair}
use Rattle.in_flight.specs.declared.copies.Mark.{Mark}
use Rattle.in_flight.specs.declared.flights.Flight.{Flight}
use Rattle.in_flight.specs.declared.flights.Route.TheVariants.{Held, Whole}
use Rattle.plain_machine.specs.Kept.{kept}
use Rattle.in_flight.specs.Routes.{read_route_of}
use Rattle.volume_laws.specs.Published.{is_published}
use Rattle.volume_laws.specs.Waits.{IsCopying}
use Rattle.volume_laws.proofs.Clear.{published_true}
use Rattle.volume_laws.specs.Accepting.{IsPrepared, IsTakenIn}
use Rattle.volume_laws.proofs.Preparing.{prepared_none}
use Rattle.std.proofs.lemmas.List.{get_or-map, get_or_default}
use Rattle.sector.specs.declared.refusal.Refusal.{Refusal}
use Rattle.sector.specs.declared.refusal.Refusal.TheVariants.{NoSuchDevice, MergingSnapshot, Invalid, Overflow}
use Rattle.plain_machine.specs.declared.request.Dev.{Dev}
use Rattle.plain_machine.specs.declared.request.Dev.TheVariants.{Origin, Snap}
use Rattle.plain_machine.specs.declared.request.Op.{Op}
use Rattle.plain_machine.specs.declared.request.Op.TheVariants.{Read, Write, Flush}
use Rattle.plain_machine.specs.declared.request.Overflowing.TheVariants.{Never}
use Rattle.plain_machine.specs.declared.request.Request.{Request}
use Rattle.plain_machine.specs.Plain.{did_overflow}
use Rattle.in_flight.specs.Kinds.{kind_of, kind_at, room_of}
use Rattle.in_flight.specs.declared.flights.Kind.TheVariants.{SnapFlush, SnapRead, SnapWrite}
use Rattle.snapshot.specs.Kept.{Kept, books_of as snap_books}
use Rattle.merge.specs.Merging.{Merging}
use Rattle.volume.specs.Volumed.{Volumed, books_of, piece_with}
use Rattle.volume.specs.Whole.{IsWhole}
use Rattle.snapshot_list.specs.Finding.{place_of_snap}
use Rattle.snapshot_list.specs.Starting.{lacks, own_of}
use Rattle.volume.specs.Submitting.{IsAsked, entered_of, refusal_at, dev_refusal, is_merging, shut_at}
use Rattle.volume.proofs.ByKind.{snap_flush_enters, snap_read_enters, snap_write_held_enters, snap_write_placed_enters}
use Rattle.volume.proofs.Savings.{not_lacking}
use Rattle.snapshot_list.proofs.Finds.{position_none}
use Rattle.volume.proofs.Leaves.{found_place}
use Rattle.volume.proofs.MergeRoutes.{not_merging}

dev_at_read : (dev : Dev) (op : Op) (n : ℕ) → kind_at dev op ≡ SnapRead n → dev ≡ Snap n
dev_at_read Origin Read n e = cc
dev_at_read Origin (Write b) n e = cc
dev_at_read Origin Flush n e = cc
dev_at_read (Snap m) Read n e = let same : m ≡ n = cc in ap Snap same
dev_at_read (Snap m) (Write b) n e = cc
dev_at_read (Snap m) Flush n e = cc

dev_at_write : (dev : Dev) (op : Op) (n : ℕ) → kind_at dev op ≡ SnapWrite n → dev ≡ Snap n
dev_at_write Origin Read n e = cc
dev_at_write Origin (Write b) n e = cc
dev_at_write Origin Flush n e = cc
dev_at_write (Snap m) Read n e = cc
dev_at_write (Snap m) Flush n e = cc
dev_at_write (Snap m) (Write b) n e = let same : m ≡ n = cc in ap Snap same

dev_at_flush : (dev : Dev) (op : Op) (n : ℕ) → kind_at dev op ≡ SnapFlush n → dev ≡ Snap n
dev_at_flush Origin Read n e = cc
dev_at_flush Origin (Write b) n e = cc
dev_at_flush Origin Flush n e = cc
dev_at_flush (Snap m) Read n e = cc
dev_at_flush (Snap m) (Write b) n e = cc
dev_at_flush (Snap m) Flush n e = let same : m ≡ n = cc in ap Snap same

pub dev_of_flush : (request : Request) (n : ℕ) → kind_of request ≡ SnapFlush n → request.dev ≡ Snap n
dev_of_flush request n e = dev_at_flush request.dev request.op n e

pub dev_of_read : (request : Request) (n : ℕ) → kind_of request ≡ SnapRead n → request.dev ≡ Snap n
dev_of_read request n e = dev_at_read request.dev request.op n e

pub dev_of_write : (request : Request) (n : ℕ) → kind_of request ≡ SnapWrite n → request.dev ≡ Snap n
dev_of_write request n e = dev_at_write request.dev request.op n e

-- it is not the one that is being merged
pub found_free : {B : Type 0} (merge : Option (Merging B)) (snaps : List (Kept B)) (dev : Dev) (n : ℕ) → dev_refusal dev merge snaps ≡ None → dev ≡ Snap n → refusal_at snaps (place_of_snap n snaps) ≡ None
found_free merge snaps dev n free is =
    not_merging (is_merging n merge) (refusal_at snaps (place_of_snap n snaps)) None none_is (sym (ap (λ d. dev_refusal d merge snaps) is) ∙ free)
  where
    none_is : ◌≢◌ {A = Option Refusal} None (Some MergingSnapshot)
    none_is e = cc

-- it is there
pub found_some : {B : Type 0} (merge : Option (Merging B)) (snaps : List (Kept B)) (dev : Dev) (n : ℕ) → dev_refusal dev merge snaps ≡ None → dev ≡ Snap n → None ≡ place_of_snap n snaps → ⊥
found_some merge snaps dev n free is none =
    let here : refusal_at snaps (place_of_snap n snaps) ≡ None = found_free merge snaps dev n free is in
    let got : Some NoSuchDevice ≡ None = ap (refusal_at snaps) none ∙ here in cc

-- and live
pub found_live : {B : Type 0} (merge : Option (Merging B)) (snaps : List (Kept B)) (dev : Dev) (n k : ℕ) (d : Kept B) → dev_refusal dev merge snaps ≡ None → dev ≡ Snap n → Some k ≡ place_of_snap n snaps → (get_or snaps k d).live ≡ true
found_live merge snaps dev n k d free is at =
    let within = (found_place n snaps k d at).0 in
    let here : refusal_at snaps (Some k) ≡ None = ap (refusal_at snaps) at ∙ found_free merge snaps dev n free is in
    sym (get_or-map (λ s. s.live) snaps k d false within) ∙ elim (cases_Bool (get_or (map (λ (s : Kept _). s.live) snaps) k false)) [
      | inl live ↦ live
      | inr dead ↦ (let got : Some Invalid ≡ None = rw dead at here in absurd (cc))
    ]

-- and takes writes, where it is not shut
pub found_open : {B : Type 0} (snaps : List (Kept B)) (n k : ℕ) (d : Kept B) → shut_at snaps (place_of_snap n snaps) ≡ None → Some k ≡ place_of_snap n snaps → did_overflow (get_or snaps k d).overflow ≡ false
found_open snaps n k d free at =
    let within = (found_place n snaps k d at).0 in
    let here : shut_at snaps (Some k) ≡ None = ap (shut_at snaps) at ∙ free in
    ap did_overflow (sym (get_or-map (λ s. s.overflow) snaps k d Never within)) ∙ elim (cases_Bool (did_overflow (get_or (map (λ (s : Kept _). s.overflow) snaps) k Never))) [
      | inl did ↦ (let got : Some Overflow ≡ None = rw did at here in absurd (cc))
      | inr not ↦ not
    ]

-- at a place of the list
pub found_within : {B : Type 0} (n : ℕ) (snaps : List (Kept B)) (k : ℕ) → Some k ≡ place_of_snap n snaps → k < length snaps
found_within n [] k e = absurd (cc)
found_within n (s ∷ snaps) k e = (found_place n (s ∷ snaps) k s e).0

-- an element that is looked up twice
pub index_same : {X : Type 0} (xs : List X) (k : ℕ) (x y : X) → k < length xs → x ≡ get_or xs k x → y ≡ get_or xs k y → x ≡ y
index_same xs k x y within at also = at ∙ get_or_default xs k x y within ∙ sym also

-- the live snapshot at place k, s, is the one with this number
pub record IsNamed {B : Type 0} (v : Volumed B) (id k : ℕ) (s : Kept B) : Type 0 where
  pub within : k < length v.snaps
  pub is : s ≡ get_or v.snaps k s
  pub live : s.live ≡ true
  pub number : s.number ≡ id

pub is_named : {B : Type 0} (v : Volumed B) (items : List (Kept B)) (dev : Dev) (id k : ℕ) (s : Kept B) → items ≡ v.snaps → s ≡ get_or items k s → dev_refusal dev v.merge v.snaps ≡ None → dev ≡ Snap id → Some k ≡ place_of_snap id items → IsNamed v id k s
is_named v items dev id k s same at free is found =
    let here : s ≡ get_or v.snaps k s = at ∙ ap (λ (xs : List (Kept _)). get_or xs k s) same in
    let place : Some k ≡ place_of_snap id v.snaps = found ∙ ap (place_of_snap id) same in
    record {
      within = found_within id v.snaps k place;
      is = here;
      live = ap (λ (x : Kept _). x.live) here ∙ found_live v.merge v.snaps dev id k s free is place;
      number = ap (λ (x : Kept _). x.number) here ∙ (found_place id v.snaps k s place).1;
    }

-- where a search for the snapshot of a request ends
pub found_snap : {B : Type 0} (snaps : List (Kept B)) (dev : Dev) (number : ℕ) (found : Option ℕ) → found ≡ place_of_snap number snaps → dev ≡ Snap number → IfSome found (λ k. (k < length snaps) × ((s : Kept B) → dev ≡ Snap (get_or snaps k s).number))
found_snap snaps dev number None e is = tt
found_snap snaps dev number (Some k) e is = (found_within number snaps k e, λ s. is ∙ ap Snap (sym (found_place number snaps k s e).1))

pub missing_snap : {B : Type 0} (snaps : List (Kept B)) (dev : Dev) (number : ℕ) (found : Option ℕ) → found ≡ place_of_snap number snaps → dev ≡ Snap number → IfNone found ((n : ℕ) → dev ≡ Snap n → list_any (λ s. nat_eq s.number n) snaps ≡ false)
missing_snap snaps dev number (Some k) e is = tt
missing_snap snaps dev number None e is = λ n other.
    (let devices : Snap number ≡ Snap n = sym is ∙ other in
    let same : number ≡ n = cc in
    position_none (λ s. nat_eq s.number n) snaps (ap (λ (m : ℕ). place_of_snap m snaps) (sym same) ∙ sym e))

-- a published chunk has its place
pub place_published : (pairs : List Pair) (marks : List Mark) (c : ℕ) → is_published pairs marks c ≡ true → (place : ℕ) × (place_of pairs c ≡ Some place)
place_published pairs marks c e = at (place_of pairs c) refl
  where
    at : (found : Option ℕ) → place_of pairs c ≡ found → (place : ℕ) × (place_of pairs c ≡ Some place)
    at (Some n) is = (n, is)
    at None is = (let got : is_published pairs marks c ≡ false = rw is refl in absurd (true≢false (sym e ∙ got)))

-- a chunk that is not published, and not lacking either, is under way
copying_held : {B : Type 0} (contents : B → List ℕ) (layers : B → List Layer) (first : ℕ) (s : Kept B) → s.live ≡ true → is_published s.pairs s.marks (first / s.state.chunk) ≡ false → lacks first s ≡ false → IsCopying (first / s.state.chunk) (snap_books contents layers s)
copying_held contents layers first s live unpublished has = at (place_of s.pairs (first / s.state.chunk)) refl
  where
    some_ne_none : (n : ℕ) → Some n ≢ None
    some_ne_none n is = cc

    at : (found : Option ℕ) → place_of s.pairs (first / s.state.chunk) ≡ found → IsCopying (first / s.state.chunk) (snap_books contents layers s)
    at (Some n) is =
        let c = first / s.state.chunk in
        elim (cases_Bool (list_any (λ m. nat_eq m.chunk c) s.marks)) [
          | inl any ↦ (let (k, m, lt, m_is, same) = Any-from_list_any (λ m. nat_eq m.chunk c) s.marks any in inr ((λ none. some_ne_none n (sym is ∙ none)), (k, m, lt, m_is, eqb-true m.chunk c same)))
          | inr free ↦ (let got : is_published s.pairs s.marks c ≡ true = rw (is, free) refl in absurd (true≢false (sym got ∙ unpublished)))
        ]
    at None is = elim (not_lacking (own_of first s) s has live) [ inl placed ↦ absurd (placed is) | inr any ↦ inl any ]

module _ {B : Type 0} (contents : B → List ℕ) (layers : B → List Layer) (size : B → ℕ) (v : Volumed B) (h : IsWhole contents layers size v) (f : Flight) (number : f.number ≡ v.requests + 1) (asked : IsAsked (size v.origin) (piece_with v.merge v.snaps) f.request)
    (room : length f.room.items ≡ room_of f.request) (id k : ℕ) (s : Kept B) (n : IsNamed v id k s) where
  none : IsPrepared [] (books_of contents layers size v) (books_of contents layers size v)
  none = prepared_none (books_of contents layers size v) h.holds h.waits

  pub snap_read_goes : kind_of f.request ≡ SnapRead id → f.route ≡ read_route_of (place_of s.pairs (f.request.range.first / s.state.chunk)) → IsTakenIn [] f.number f.request (books_of contents layers size v) (books_of contents layers size (entered_of f v))
  snap_read_goes kind route = snap_read_enters contents layers size v v [] none h f number asked room k s n.within n.is n.live (kind ∙ ap SnapRead (sym n.number)) route

  pub snap_flush_goes : kept f.request ≡ f.request → kind_of f.request ≡ SnapFlush id → f.route ≡ Whole → IsTakenIn [] f.number f.request (books_of contents layers size v) (books_of contents layers size (entered_of f v))
  snap_flush_goes whole kind route = snap_flush_enters contents layers size v v [] none h f number asked room k s n.within n.is n.live whole (kind ∙ ap SnapFlush (sym n.number)) route

  -- a write of a chunk that has its place
  pub snap_write_placed_goes : kind_of f.request ≡ SnapWrite id → did_overflow s.overflow ≡ false → is_published s.pairs s.marks (f.request.range.first / s.state.chunk) ≡ true → f.route ≡ read_route_of (place_of s.pairs (f.request.range.first / s.state.chunk))
      → IsTakenIn [] f.number f.request (books_of contents layers size v) (books_of contents layers size (entered_of f v))
  snap_write_placed_goes kind did published route =
      let (place, at) = place_published s.pairs s.marks (f.request.range.first / s.state.chunk) published in
      snap_write_placed_enters contents layers size v v [] none h f number asked room k s n.within n.is n.live place (kind ∙ ap SnapWrite (sym n.number)) did
      (route ∙ ap read_route_of at)
      at (published_true s.pairs s.marks (f.request.range.first / s.state.chunk) published)

  -- a write of a chunk whose copy is under way
  pub snap_write_held_goes : kind_of f.request ≡ SnapWrite id → did_overflow s.overflow ≡ false → is_published s.pairs s.marks (f.request.range.first / s.state.chunk) ≡ false → lacks f.request.range.first s ≡ false → f.route ≡ Held
      → IsTakenIn [] f.number f.request (books_of contents layers size v) (books_of contents layers size (entered_of f v))
  snap_write_held_goes kind did unpublished has route =
      snap_write_held_enters contents layers size v v [] none h f number asked room k s n.within n.is n.live (kind ∙ ap SnapWrite (sym n.number)) did route
      (copying_held contents layers f.request.range.first s n.live unpublished has)
