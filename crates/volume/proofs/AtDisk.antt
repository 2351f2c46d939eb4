-- A request that waits for nothing and goes to the origin disk, or to a snapshot's store: it is taken in and accepted, its Issue is
-- what is due first then, and where that is done the request was served.
use Rattle.std.proofs.Common.{◌≡◌, ◌≢◌, ◌⊎◌, inl, inr, ℕ, ◌+◌, ◌*◌, ◌/◌, ◌≤◌, true, false, List, [], ◌∷◌, Option, Some, None, length, get_or, map, refl, sym, ◌∙◌, ap, subst, arith}
use Rattle.std.specs.Prelude.{Ok, sum_by, count_by}
use Rattle.std.proofs.lemmas.List.{get_or_default}
use Rattle.device.specs.Layers.{Layer}
use Rattle.cow_format.specs.Picture.{place_of}
use Rattle.plain_machine.specs.declared.event.Event.TheVariants.{Issue}
use Rattle.plain_machine.specs.declared.event.Outcome.TheVariants.{Reply as Replied}
use Rattle.plain_machine.specs.declared.request.Dev.{Dev}
use Rattle.plain_machine.specs.declared.request.Dev.TheVariants.{Origin as ToOrigin, Snap}
use Rattle.plain_machine.specs.declared.request.Op.{Op}
use Rattle.plain_machine.specs.declared.request.Op.TheVariants.{Flush, Read, Write}
use Rattle.plain_machine.specs.declared.request.Reply.{Reply}
use Rattle.plain_machine.specs.declared.request.Request.{Request}
use Rattle.plain_machine.specs.Kept.{kept_range}
use Rattle.in_flight.specs.Due.{is_routed}
use Rattle.in_flight.specs.Kinds.{kind_at, kind_of, room_of}
use Rattle.in_flight.specs.declared.flights.Flight.{Flight}
use Rattle.in_flight.specs.declared.flights.Kind.TheVariants.{OriginFlush, OriginRead, OriginWrite, SnapFlush, SnapRead}
use Rattle.in_flight.specs.declared.flights.Route.TheVariants.{Origin, Store}
use Rattle.volume_laws.specs.Accepting.{IsTakenIn}
use Rattle.volume_laws.specs.Published.{is_clear}
use Rattle.snapshot.specs.Kept.{Kept, books_of as snap_books}
use Rattle.snapshot_list.specs.Finding.{place_of_snap}
use Rattle.snapshot_list.specs.Numbers.{count_in}
use Rattle.snapshot_list.specs.Routing.{is_merged_at, place_at}
use Rattle.snapshot_list.specs.Starting.{starts}
use Rattle.in_flight.specs.Routes.{read_route_of}
use Rattle.volume.specs.AtDisk.{GoesToDisk, IsReadOf}
use Rattle.volume.specs.DoesServe.{IsServedAtOnce}
use Rattle.volume.specs.DoesStep.{DoesStep}
use Rattle.volume.specs.Leaving.{is_quiet_of}
use Rattle.volume.specs.Submitting.{IsAcceptedAs, IsAsked, IsEntered, dev_refusal, entered_of, starting, submit_refusal}
use Rattle.volume.specs.Volumed.{Volumed, books_of, piece_with}
use Rattle.volume.specs.Whole.{IsWhole}
use Rattle.volume.proofs.Accepts.{entered_accepted}
use Rattle.volume.proofs.Admits.{IsAdmitted, admitted}
use Rattle.volume.proofs.Clear.{clear_accepted, clear_goes}
use Rattle.volume.proofs.DiskIssues.{flush_kinds}
use Rattle.volume.proofs.DueAlone.{next_alone}
use Rattle.volume.proofs.Enters.{fresh_plain, plain_entered, whole_entered}
use Rattle.volume.proofs.MergeDue.{due_all_is}
use Rattle.volume.proofs.MergeWrites.{origin_read_goes, starting_unmerged}
use Rattle.volume.proofs.Named.{IsNamed, dev_of_read, found_within, index_same, is_named, snap_read_goes}
use Rattle.volume.proofs.Quieted.{quiet_done, quiet_flights}
use Rattle.volume.proofs.Submits.{submitted_by}
use Rattle.volume.proofs.Submitted.{origin_read_submitted, snap_read_submitted}
use Rattle.volume.proofs.Unflushed.{unflushed}

-- an element of a list in which a number is found
element_of : {B : Type 0} (id : ℕ) (snaps : List (Kept B)) (k : ℕ) → Some k ≡ place_of_snap id snaps → (s : Kept B) × (s ≡ get_or snaps k s)
element_of id [] k found = absurd (cc)
element_of id (s ∷ snaps) k found = (get_or (s ∷ snaps) k s, get_or_default (s ∷ snaps) k s (get_or (s ∷ snaps) k s) (found_within id (s ∷ snaps) k found))

-- a read is of the snapshot that is found, and goes where its chunk's copy stands
pub read_at : {B : Type 0} (request : Request) (k : ℕ) (place : Option ℕ) (items snaps : List (Kept B)) → items ≡ snaps → (id : ℕ) → kind_of request ≡ SnapRead id → Some k ≡ place_of_snap id items → (s : Kept B) → s ≡ get_or items k s → place_of s.pairs (request.range.first / s.state.chunk) ≡ place → IsReadOf request k place snaps
read_at request k place items snaps same id kind found s is stands =
    let at : Some k ≡ place_of_snap id snaps = found ∙ ap (place_of_snap id) same in
    let here : s ≡ get_or snaps k s = is ∙ ap (λ (xs : List (Kept _)). get_or xs k s) same in
    record {
      id = id;
      kind = kind;
      found = sym at;
      stands = λ t e. ap (λ (x : Kept _). place_of x.pairs (request.range.first / x.state.chunk)) (index_same snaps k t s (found_within id snaps k at) e here) ∙ stands;
    }

-- the snapshot that a read is of
read_named : {B : Type 0} (v : Volumed B) (request : Request) (k : ℕ) (place : Option ℕ) → dev_refusal request.dev v.merge v.snaps ≡ None → (read : IsReadOf request k place v.snaps) → (s : Kept B) × IsNamed v read.id k s
read_named v request k place free read =
    let at = element_of read.id v.snaps k (sym read.found) in
    (at.0, is_named v v.snaps request.dev read.id k at.0 refl at.1 free (dev_of_read request read.id read.kind) (sym read.found))

-- what it asks for
op_at_read : (dev : Dev) (op : Op) (n : ℕ) → kind_at dev op ≡ SnapRead n → op ≡ Read
op_at_read dev Read n e = refl
op_at_read ToOrigin (Write b) n e = cc
op_at_read ToOrigin Flush n e = cc
op_at_read (Snap m) (Write b) n e = cc
op_at_read (Snap m) Flush n e = cc

pub op_of_read : (request : Request) (n : ℕ) → kind_of request ≡ SnapRead n → request.op ≡ Read
op_of_read request n e = op_at_read request.dev request.op n e

-- such a request is kept as it is, and is no flush
pub plain_read : {B : Type 0} (request : Request) (k : ℕ) (place : Option ℕ) (snaps : List (Kept B)) → IsReadOf request k place snaps → kept_range request.op request.range ≡ request.range
plain_read request k place snaps read = unflushed request (SnapRead read.id) read.kind tt

pub plain_goes : {B : Type 0} (contents : B → List ℕ) (layers : B → List Layer) (request : Request) (snaps : List (Kept B)) → GoesToDisk contents layers request snaps → kept_range request.op request.range ≡ request.range
plain_goes contents layers request snaps goes = elim goes [
  | inl kind ↦ unflushed request OriginRead kind tt
  | inr more ↦ elim more [ inl clear ↦ unflushed request OriginWrite clear.0 tt | inr read ↦ plain_read request read.0 None snaps read.1 ]
]

pub moves_goes : {B : Type 0} (contents : B → List ℕ) (layers : B → List Layer) (request : Request) (snaps : List (Kept B)) → GoesToDisk contents layers request snaps → request.op ≢ Flush
moves_goes contents layers request snaps goes op = elim (flush_kinds request.dev request.op op) [
  | inl flush ↦ elim goes [
    | inl kind ↦ read_other (sym kind ∙ flush)
    | inr more ↦ elim more [ inl clear ↦ write_other (sym clear.0 ∙ flush) | inr read ↦ own_other read.1.id (sym read.1.kind ∙ flush) ]
  ]
  | inr flush ↦ elim goes [
    | inl kind ↦ read_snap flush.0 (sym kind ∙ flush.1)
    | inr more ↦ elim more [ inl clear ↦ write_snap flush.0 (sym clear.0 ∙ flush.1) | inr read ↦ own_snap read.1.id flush.0 (sym read.1.kind ∙ flush.1) ]
  ]
]
  where
    read_other : OriginRead ≢ OriginFlush
    read_other e = cc

    write_other : OriginWrite ≢ OriginFlush
    write_other e = cc

    own_other : (id : ℕ) → SnapRead id ≢ OriginFlush
    own_other id e = cc

    read_snap : (n : ℕ) → OriginRead ≢ SnapFlush n
    read_snap n e = cc

    write_snap : (n : ℕ) → OriginWrite ≢ SnapFlush n
    write_snap n e = cc

    own_snap : (id n : ℕ) → SnapRead id ≢ SnapFlush n
    own_snap id n e = cc

-- a request that waits for nothing, by its route
abbrev pub GoesAtOnce : {B : Type 0} → (B → List ℕ) → (B → List Layer) → Flight → List (Kept B) → Type 0
GoesAtOnce contents layers f snaps =
    ((kind_of f.request ≡ OriginRead) × (f.route ≡ Origin)) ⊎ ((kind_of f.request ≡ OriginWrite) × (is_clear (map (snap_books contents layers) snaps) f.request.range.first ≡ true) × (f.route ≡ Origin))
    ⊎ ((k : ℕ) × (place : Option ℕ) × IsReadOf f.request k place snaps × (f.route ≡ read_route_of place))

pub goes_disk : {B : Type 0} (contents : B → List ℕ) (layers : B → List Layer) (f : Flight) (snaps : List (Kept B)) → f.route ≡ Origin → GoesToDisk contents layers f.request snaps → GoesAtOnce contents layers f snaps
goes_disk contents layers f snaps route goes = elim goes [
  | inl kind ↦ inl (kind, route)
  | inr more ↦ elim more [ inl clear ↦ inr (inl (clear.0, clear.1, route)) | inr read ↦ inr (inr (read.0, None, read.1, route)) ]
]

pub goes_store : {B : Type 0} (contents : B → List ℕ) (layers : B → List Layer) (f : Flight) (snaps : List (Kept B)) (k at : ℕ) → f.route ≡ Store at → IsReadOf f.request k (Some at) snaps → GoesAtOnce contents layers f snaps
goes_store contents layers f snaps k at route read = inr (inr (k, Some at, read, route))

-- it goes somewhere
read_routed : (place : Option ℕ) → is_routed (read_route_of place) ≡ true
read_routed None = refl
read_routed (Some at) = refl

module _ {B : Type 0} (contents : B → List ℕ) (layers : B → List Layer) (size : B → ℕ) (v : Volumed B) (h : IsWhole contents layers size v) (quiet : is_quiet_of v ≡ true) (alone : v.merge ≡ None) (f : Flight) (number : f.number ≡ v.requests + 1)
    (room : length f.room.items ≡ room_of f.request) (fits : (bytes : List ℕ) → f.request.op ≡ Write bytes → length bytes ≡ 512 * f.request.range.count) (goes : GoesAtOnce contents layers f v.snaps) (free : submit_refusal size f.request v ≡ None) where
  abbrev mid : Volumed B
  mid = entered_of f v

  plain : kept_range f.request.op f.request.range ≡ f.request.range
  plain = elim goes [
    | inl read ↦ unflushed f.request OriginRead read.0 tt
    | inr more ↦ elim more [ inl clear ↦ unflushed f.request OriginWrite clear.0 tt | inr read ↦ plain_read f.request read.0 read.1 v.snaps read.2 ]
  ]

  routed : is_routed f.route ≡ true
  routed = elim goes [
    | inl read ↦ ap is_routed read.1
    | inr more ↦ elim more [ inl clear ↦ ap is_routed clear.2 | inr read ↦ ap is_routed read.3 ∙ read_routed read.1 ]
  ]

  fit : IsAdmitted size f.request v
  fit = admitted size f.request v plain free

  asked : IsAsked (size v.origin) (piece_with v.merge v.snaps) f.request
  asked = record { some = fit.some; inside = fit.inside; piece = fit.piece; bytes = fits }

  unmerged : is_merged_at f.request.range.first v.merge ≡ false
  unmerged = rw alone refl

  few : kind_of f.request ≡ OriginWrite → sum_by count_in v.snaps + count_by (starts f.request.range.first) v.snaps ≤ 256
  few kind =
      let one = ap (λ k. starting k f.request.range.first v.merge v.snaps) kind in
      let two = starting_unmerged f.request.range.first v unmerged in
      omega (arith, fit.few, one, two)

  to_disk : f.route ≡ Origin → f.route ≡ read_route_of (place_at f.request.range.first v.merge)
  to_disk route = route ∙ sym (ap (λ m. read_route_of (place_at f.request.range.first m)) alone)

  -- the snapshot of a read of one, and where the read goes
  its : (k : ℕ) (place : Option ℕ) (read : IsReadOf f.request k place v.snaps) → (s : Kept B) × IsNamed v read.id k s
  its k place read = read_named v f.request k place fit.dev read

  to_place : (k : ℕ) (place : Option ℕ) (read : IsReadOf f.request k place v.snaps) (s : Kept B) → s ≡ get_or v.snaps k s → f.route ≡ read_route_of place → f.route ≡ read_route_of (place_of s.pairs (f.request.range.first / s.state.chunk))
  to_place k place read s is route = route ∙ ap read_route_of (sym (read.stands s is))

  taken : IsTakenIn [] f.number f.request (books_of contents layers size v) (books_of contents layers size mid)
  taken = elim goes [
    | inl read ↦ origin_read_goes contents layers size v h f number asked room read.0 (to_disk read.1)
    | inr more ↦ elim more [
      | inl clear ↦ clear_goes contents layers size v h f number asked room clear.0 clear.2 fit.flights (few clear.0) unmerged clear.1
      | inr r ↦ (let one = its r.0 r.1 r.2 in snap_read_goes contents layers size v h f number asked room r.2.id r.0 one.0 one.1 r.2.kind (to_place r.0 r.1 r.2 one.0 one.1.is r.3))
    ]
  ]

  -- the volume that it would be in flight in is whole
  pub whole_alone : IsWhole contents layers size mid
  whole_alone = whole_entered contents layers size v f h number [] v fit.flights taken

  entered : IsEntered contents layers f.request f.route f.number v mid
  entered = record {
    flight = f;
    request_is = refl;
    route_is = refl;
    number_is = refl;
    next = number;
    becomes = refl;
    fresh = fresh_plain contents layers size v f h number;
    legal = λ loud. plain_entered contents layers size v mid [] f.number f.request taken loud;
  }

  accepted : IsAcceptedAs contents layers f.request f.number v mid
  accepted = elim goes [
    | inl read ↦ entered_accepted contents layers f.request f.route f.number v mid OriginRead read.0 plain refl refl entered (origin_read_submitted contents layers size v h f.request f.route f.number mid entered read.0 (to_disk read.1))
    | inr more ↦ elim more [
      | inl clear ↦ clear_accepted contents layers size v h f.request f.number mid clear.0 unmerged clear.1 (subst (λ r. IsEntered contents layers f.request r f.number v mid) clear.2 entered)
      | inr r ↦ (let one = its r.0 r.1 r.2 in
          entered_accepted contents layers f.request f.route f.number v mid (SnapRead r.2.id) r.2.kind plain refl refl entered
          (snap_read_submitted contents layers size v h f.request f.route f.number mid entered r.2.id r.0 one.0 one.1 r.2.kind (to_place r.0 r.1 r.2 one.0 one.1.is r.3)))
    ]
  ]

  -- and where its Issue is done there, it was served
  pub served_alone : (holds : B → ℕ → List ℕ → Type 0) (faults done : B → ℕ) (reply : Reply) (w : Volumed B) → DoesStep holds contents layers size faults done true (Issue f.number) (Ok (Replied f.number reply)) mid w → is_quiet_of w ≡ true
      → IsServedAtOnce holds contents layers size faults done f.request f.number reply v w
  served_alone holds faults done reply w does rest =
      let first = next_alone contents layers v f (quiet_done v quiet) (quiet_flights v quiet) alone routed in
      record {
        mid = mid;
        submits = submitted_by contents layers size v mid h f.request (Ok f.number) accepted free tt;
        first = first;
        machine = λ replied. due_all_is contents layers size mid whole_alone replied ∙ first;
        steps = does;
        quiet = rest;
      }
