-- When a request is accepted, what it then leaves, and which snapshots it spoils or marks. The limits and the order of the
-- refusals are this project's own; that a full store makes its snapshot invalid, or, of one that may overflow, that its
-- writes are refused, is the kernel's rule, of its admin-guide page on snapshots.
use Rattle.std.specs.Prelude.{◌≡◌, ◌≢◌, ◌⊎◌, ◌==◌, ◌&&◌, ◌||◌, nat_lt, nat_le, ℕ, ◌+◌, ◌*◌, ◌%◌, ◌<◌, ◌≤◌, Bool, true, false, List, [], ◌∷◌, ◌++◌, length, map, sum_by, count_by, Option, Some, None, if◌then◌else◌, slice_index_or, slice_set}
use Rattle.std.specs.List.{All}
use Rattle.sector.specs.declared.range.Range.{Range}
use Rattle.sector.specs.declared.refusal.Refusal.{Refusal}
use Rattle.sector.specs.declared.refusal.Refusal.TheVariants.{NoSuchDevice, MergingSnapshot, OutOfRange, Invalid, Overflow, TooMany, NoMemory}
use Rattle.device.specs.Layers.{Layer}
use Rattle.plain_machine.specs.declared.request.Dev.{Dev}
use Rattle.plain_machine.specs.declared.request.Dev.TheVariants.{Origin, Snap}
use Rattle.plain_machine.specs.declared.request.Op.TheVariants.{Write}
use Rattle.plain_machine.specs.Kept.{kept, kept_range}
use Rattle.plain_machine.specs.declared.request.Overflowing.TheVariants.{Never, May, Did}
use Rattle.plain_machine.specs.declared.request.Request.{Request}
use Rattle.in_flight.specs.Kinds.{in_flight, kind_of}
use Rattle.in_flight.specs.Routes.{refused_of}
use Rattle.in_flight.specs.declared.flights.Flight.{Flight}
use Rattle.in_flight.specs.declared.flights.Kind.{Kind}
use Rattle.in_flight.specs.declared.flights.Kind.TheVariants.{OriginRead, OriginWrite, OriginFlush, SnapRead, SnapWrite, SnapFlush}
use Rattle.snapshot.specs.Kept.{Kept}
use Rattle.in_flight.specs.declared.flights.Route.{Route}
use Rattle.plain_machine.specs.Plain.{did_overflow}
use Rattle.plain_machine.specs.Legal.{IsSubmitted, Overflows, Spoils}
use Rattle.volume_laws.specs.Published.{IsPiece}
use Rattle.snapshot_list.specs.Finding.{place_of_snap}
use Rattle.snapshot_list.specs.Numbers.{count_in}
use Rattle.snapshot_list.specs.Starting.{own_of, starts, overflows, overflowing, spoilt_of, unroomed}
use Rattle.merge.specs.Merging.{Merging}
use Rattle.snapshot_list.specs.Routing.{is_merged_at}
use Rattle.volume.specs.Volumed.{Volumed, piece_with, plain_of, is_loud_in_all}
use Rattle.volume.specs.Causes.{lives_of}
use Rattle.volume.specs.Exact.{IsSubmittedAs}
use Rattle.volume.specs.Stepping.{KeepsDevices}

-- a refusal, or else the next
abbrev pub first_of_two : Option Refusal → Option Refusal → Option Refusal
first_of_two None other = other
first_of_two (Some refusal) other = Some refusal

-- a snapshot that is not there, or is spoiled
abbrev pub refusal_at : {B : Type 0} → List (Kept B) → Option ℕ → Option Refusal
refusal_at snaps None = Some NoSuchDevice
refusal_at snaps (Some k) = if slice_index_or (map (λ s. s.live) snaps) k false then None else Some Invalid

-- whether a number is that of the snapshot that is being merged
abbrev pub is_merging : {B : Type 0} → ℕ → Option (Merging B) → Bool
is_merging number None = false
is_merging number (Some m) = m.number == number

-- a device that takes no request: the snapshot that is being merged, or another that is not there or is spoiled
abbrev pub dev_refusal : {B : Type 0} → Dev → Option (Merging B) → List (Kept B) → Option Refusal
dev_refusal Origin merge snaps = None
dev_refusal (Snap number) merge snaps = if is_merging number merge then Some MergingSnapshot else refusal_at snaps (place_of_snap number snaps)

-- a snapshot whose store overflowed
abbrev pub shut_at : {B : Type 0} → List (Kept B) → Option ℕ → Option Refusal
shut_at snaps None = None
shut_at snaps (Some k) = if did_overflow (slice_index_or (map (λ s. s.overflow) snaps) k Never) then Some Overflow else None

-- such a one takes no write
abbrev pub shut_refusal : {B : Type 0} → Kind → List (Kept B) → Option Refusal
shut_refusal OriginRead snaps = None
shut_refusal OriginWrite snaps = None
shut_refusal OriginFlush snaps = None
shut_refusal (SnapRead number) snaps = None
shut_refusal (SnapWrite number) snaps = shut_at snaps (place_of_snap number snaps)
shut_refusal (SnapFlush number) snaps = None

-- a range of some sectors, inside a device of so many, and inside one piece
abbrev pub is_piece_of : ℕ → ℕ → Range → Bool
is_piece_of piece sectors range = nat_lt 0 range.count && nat_le (range.first + range.count) sectors && nat_le (range.first % piece + range.count) piece

-- How many copies a request at a sector starts. A write of the origin starts none where its chunk is in the merge's present
-- group, or has its copy on the merging store.
abbrev pub starting : {B : Type 0} → Kind → ℕ → Option (Merging B) → List (Kept B) → ℕ
starting OriginRead first merge snaps = 0
starting OriginWrite first merge snaps = if is_merged_at first merge then 0 else count_by (starts first) snaps
starting OriginFlush first merge snaps = 0
starting (SnapRead number) first merge snaps = 0
starting (SnapWrite number) first merge snaps = count_by (λ s. (s.number == number) && starts first s) snaps
starting (SnapFlush number) first merge snaps = 0

-- One request too many, or one copy, with so many new ones. (The numbers of copies never run out.)
abbrev pub are_too_many : {B : Type 0} → ℕ → Volumed B → Bool
are_too_many new v = nat_le 64 (length v.flights) || nat_le 18_446_744_073_709_551_615 v.requests || nat_lt 256 (sum_by count_in v.snaps + new)

abbrev pub limit_refusal : {B : Type 0} → ℕ → Volumed B → Option Refusal
limit_refusal new v = if are_too_many new v then Some TooMany else None

abbrev pub range_refusal : ℕ → ℕ → Range → Option Refusal
range_refusal piece sectors range = if is_piece_of piece sectors range then None else Some OutOfRange

-- The first reason to refuse a request; want of memory comes after it, and that a store is found full last. The range of a
-- Flush is not looked at: it is kept with the first sector, so an origin without a sector takes none.
abbrev pub submit_refusal : {B : Type 0} → (B → ℕ) → Request → Volumed B → Option Refusal
submit_refusal size request v =
    first_of_two (dev_refusal request.dev v.merge v.snaps)
    (first_of_two (shut_refusal (kind_of request) v.snaps)
    (first_of_two (range_refusal (piece_with v.merge v.snaps) (size v.origin) (kept_range request.op request.range))
    (limit_refusal (starting (kind_of request) request.range.first v.merge v.snaps) v)))

-- a request is in flight, under the next number
abbrev pub entered_of : {B : Type 0} → Flight → Volumed B → Volumed B
entered_of f v = record v { flights = v.flights ++ f ∷ []; requests = v.requests + 1 }

pub record IsEntered {B : Type 0} (contents : B → List ℕ) (layers : B → List Layer) (request : Request) (route : Route) (number : ℕ) (old new : Volumed B) : Type 0 where
  pub flight : Flight
  pub request_is : flight.request ≡ request
  pub route_is : flight.route ≡ route
  pub number_is : flight.number ≡ number
  pub next : number ≡ old.requests + 1
  pub becomes : new ≡ entered_of flight old
  pub fresh : All (λ r. r.number ≢ number) (plain_of contents layers old).requests
  pub legal : is_loud_in_all layers old ≡ true → IsSubmitted [] (plain_of contents layers old) number request (plain_of contents layers new)

-- what is asked of a request, for an origin of so many sectors in pieces of so many
pub record IsAsked (sectors chunk : ℕ) (request : Request) : Type 0 where
  pub some : 0 < request.range.count
  pub inside : request.range.first + request.range.count ≤ sectors
  pub piece : IsPiece chunk request.range
  pub bytes : (bytes : List ℕ) → request.op ≡ Write bytes → length bytes ≡ 512 * request.range.count

-- The numbers of the snapshots that an accepted request at a sector spoils: a write of the origin that starts copies spoils
-- those live ones that lack their chunk there and whose stores have no place for its copy, and no other request spoils any.
-- (A write of a snapshot whose own store is found full is refused, and spoils or marks that one: IsFoundFull, IsOverflown.)
abbrev pub spoiled_by : {B : Type 0} → Kind → ℕ → Option (Merging B) → List (Kept B) → List ℕ
spoiled_by OriginRead first merge snaps = []
spoiled_by OriginWrite first merge snaps = if is_merged_at first merge then [] else overflowing (own_of first) snaps
spoiled_by OriginFlush first merge snaps = []
spoiled_by (SnapRead number) first merge snaps = []
spoiled_by (SnapWrite number) first merge snaps = []
spoiled_by (SnapFlush number) first merge snaps = []

-- which snapshots are live afterwards, in their order: those that were, but for the spoiled ones
abbrev pub lives_after : {B : Type 0} → Kind → ℕ → Option (Merging B) → List (Kept B) → List Bool
lives_after OriginRead first merge snaps = map (λ s. s.live) snaps
lives_after OriginWrite first merge snaps = if is_merged_at first merge then map (λ s. s.live) snaps else map (λ s. if overflows first s then false else s.live) snaps
lives_after OriginFlush first merge snaps = map (λ s. s.live) snaps
lives_after (SnapRead number) first merge snaps = map (λ s. s.live) snaps
lives_after (SnapWrite number) first merge snaps = map (λ s. s.live) snaps
lives_after (SnapFlush number) first merge snaps = map (λ s. s.live) snaps

-- a request was accepted, under the next number; just the snapshots that it finds full were spoiled
pub record IsAcceptedAs {B : Type 0} (contents : B → List ℕ) (layers : B → List Layer) (request : Request) (number : ℕ) (old new : Volumed B) : Type 0 where
  pub next : number ≡ old.requests + 1
  pub origin : new.origin ≡ old.origin
  pub given : new.requests ≡ number
  pub fresh : All (λ r. r.number ≢ number) (plain_of contents layers old).requests
  pub loud : is_loud_in_all layers new ≡ is_loud_in_all layers old
  pub legal : is_loud_in_all layers old ≡ true
      → IsSubmitted (spoiled_by (kind_of request) request.range.first old.merge old.snaps) (plain_of contents layers old) number request (plain_of contents layers new)
  pub lives : lives_of new ≡ lives_after (kind_of request) request.range.first old.merge old.snaps
  pub overflows : map (λ s. s.overflow) new.snaps ≡ map (λ s. s.overflow) old.snaps
  pub flown : map in_flight new.flights ≡ map in_flight old.flights ++ record { number = number; request = kept request } ∷ []
  pub exact : IsSubmittedAs contents layers request number old new
  pub kept : KeepsDevices old new

-- nothing but room for copies was made
pub record SameButRoom {B : Type 0} (old new : Volumed B) : Type 0 where
  pub roomed : map unroomed new.snaps ≡ map unroomed old.snaps
  pub becomes : new ≡ record old { snaps = new.snaps }

-- A write of a snapshot at a sector found its store full, and that one may not overflow: the snapshot with the number is
-- spoiled, its requests are refused, and nothing else changes.
pub record IsFoundFull {B : Type 0} (contents : B → List ℕ) (layers : B → List Layer) (number first : ℕ) (old new : Volumed B) : Type 0 where
  pub place : ℕ
  pub snap : Kept B
  pub found : place_of_snap number old.snaps ≡ Some place
  pub is : snap ≡ slice_index_or old.snaps place snap
  pub full : overflows first snap ≡ true
  pub strict : snap.overflow ≡ Never
  pub spoilt : map unroomed new.snaps ≡ map unroomed (slice_set old.snaps place (spoilt_of snap))
  pub becomes : new ≡ record old { snaps = new.snaps; flights = map (refused_of (number ∷ [])) old.flights }
  pub loud : is_loud_in_all layers new ≡ is_loud_in_all layers old
  pub spoils : is_loud_in_all layers old ≡ true → Spoils (number ∷ []) (plain_of contents layers old) (plain_of contents layers new)

-- A write of a snapshot at a sector found its store full, and that one may overflow: the snapshot with the number is marked,
-- and nothing else changes; its requests stay in flight, and so do its copies.
pub record IsOverflown {B : Type 0} (contents : B → List ℕ) (layers : B → List Layer) (number first : ℕ) (old new : Volumed B) : Type 0 where
  pub place : ℕ
  pub snap : Kept B
  pub found : place_of_snap number old.snaps ≡ Some place
  pub is : snap ≡ slice_index_or old.snaps place snap
  pub full : overflows first snap ≡ true
  pub may : snap.overflow ≡ May
  pub marked : map unroomed new.snaps ≡ map unroomed (slice_set old.snaps place (record snap { overflow = Did }))
  pub becomes : new ≡ record old { snaps = new.snaps }
  pub legal : is_loud_in_all layers old ≡ true → Overflows number (plain_of contents layers old) (plain_of contents layers new)
  pub loud : is_loud_in_all layers new ≡ is_loud_in_all layers old

-- A request was refused: for the first reason, and nothing changed; or memory was refused; or, last of all, a write of a
-- snapshot found its store full.
abbrev pub IsRefusedAs : {B : Type 0} → (B → List ℕ) → (B → List Layer) → (B → ℕ) → Request → Refusal → Volumed B → Volumed B → Type 0
IsRefusedAs contents layers size request refusal old new =
    ((submit_refusal size request old ≡ Some refusal) × (new ≡ old))
    ⊎ ((submit_refusal size request old ≡ None) × (refusal ≡ NoMemory) × SameButRoom old new)
    ⊎ ((submit_refusal size request old ≡ None) × (refusal ≡ Invalid) × ((number : ℕ) × (kind_of request ≡ SnapWrite number) × IsFoundFull contents layers number request.range.first old new))
    ⊎ ((submit_refusal size request old ≡ None) × (refusal ≡ Overflow) × ((number : ℕ) × (kind_of request ≡ SnapWrite number) × IsOverflown contents layers number request.range.first old new))
