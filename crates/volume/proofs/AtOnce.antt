-- A request that waits for nothing is answered at once: the volume that it would be in flight in is whole, its Issue is due
-- first there, and the operation that is done is that Issue.
use Rattle.std.proofs.Common.{◌≡◌, ◌⊎◌, ℕ, ◌+◌, ◌-◌, ◌*◌, ◌%◌, ◌<◌, ◌≤◌, true, false, List, [], ◌∷◌, ◌++◌, Some, None, length, get_or, set, map, refl, sym, ◌∙◌, ap, subst, nat_eq}
use Rattle.std.specs.Prelude.{Ok, ◌==◌, ◌&&◌, not}
use Rattle.std.specs.List.{list_all, position, remove}
use Rattle.std.proofs.lemmas.Bool.{eq-eqb}
use Rattle.std.proofs.Math.Seq.{map-set_same}
use Rattle.sector.specs.Bytes.{sector_at, sectors_at, with_sectors, next_count}
use Rattle.sector.specs.declared.range.Range.{Range}
use Rattle.device.specs.Layers.{Layer, is_loud}
use Rattle.device.specs.declared.operation.Operation.TheVariants.{Reads, Writes}
use Rattle.plain_machine.specs.declared.event.Event.TheVariants.{Issue}
use Rattle.plain_machine.specs.declared.event.Outcome.TheVariants.{Reply as Replied}
use Rattle.plain_machine.specs.declared.request.Dev.TheVariants.{Snap}
use Rattle.plain_machine.specs.declared.request.Failure.TheVariants.{Io}
use Rattle.plain_machine.specs.declared.request.Op.{Op}
use Rattle.plain_machine.specs.declared.request.Op.TheVariants.{Read, Write}
use Rattle.plain_machine.specs.declared.request.Reply.{Reply}
use Rattle.plain_machine.specs.declared.request.Reply.TheVariants.{Data, Written as IsWritten, Refused as IsRefused}
use Rattle.in_flight.specs.Due.{is_routed}
use Rattle.in_flight.specs.Kinds.{in_flight, room_at}
use Rattle.in_flight.specs.declared.flights.Flight.{Flight}
use Rattle.in_flight.specs.declared.flights.Route.TheVariants.{Origin, Store}
use Rattle.crash_laws.proofs.Firm.{adds_none}
use Rattle.store.specs.Operations.{IsOneOperation}
use Rattle.snapshot_list.proofs.Finds.{position_within}
use Rattle.volume_laws.specs.Held.{RequestHolds}
use Rattle.volume_laws.specs.Steps.{WritesDisk}
use Rattle.snapshot.specs.Kept.{Kept}
use Rattle.volume.specs.AtDisk.{IsReadOf}
use Rattle.volume.specs.Closing.{ClosesBy}
use Rattle.volume.specs.DoesStep.{DoesStep}
use Rattle.volume.specs.Exact.{IsExact}
use Rattle.volume.specs.Lasting.{IsKept, IsLasting}
use Rattle.volume.specs.Leaving.{has_group_in, is_done_of, is_quiet_of}
use Rattle.volume.specs.Asking.{is_finished_in}
use Rattle.volume.specs.Stored.{is_finished_on}
use Rattle.volume.specs.Stopping.{given_by}
use Rattle.volume.specs.Submitting.{entered_of}
use Rattle.volume.specs.Volumed.{Volumed, dues_of, is_due_by, is_due_of, merge_due}
use Rattle.volume.specs.Whole.{IsWhole}
use Rattle.volume.proofs.AtDisk.{op_of_read}
use Rattle.volume.proofs.Changing.{changed}
use Rattle.volume.proofs.DiskIssues.{disk_read, disk_read_io, disk_write, disk_write_io}
use Rattle.volume.proofs.ExactIssues.{origin_read_exact, origin_write_exact, store_read_exact}
use Rattle.volume.proofs.Good.{IsGood}
use Rattle.volume.proofs.IssueEvents.{request_at}
use Rattle.volume.proofs.Issued.{issued_at}
use Rattle.volume.proofs.LastBoth.{GoesBoth, beside_both, disk_both, met_both, volume_stops}
use Rattle.volume.proofs.LastMoves.{device_moves, met_moves}
use Rattle.volume.proofs.LastOne.{IsSameDevice}
use Rattle.volume.proofs.Leaves.{found_place}
use Rattle.volume.proofs.Named.{dev_of_read, found_within}
use Rattle.volume.proofs.StoreIssues.{read_part, store_read, store_read_io}
use Rattle.volume.proofs.Stepped.{stepped_by}

-- the request alone is found first, and nothing is in flight without it
alone_found : (fs : List Flight) (f : Flight) → fs ≡ [] → position (λ (g : Flight). nat_eq g.number f.number) (fs ++ f ∷ []) ≡ Some 0
alone_found fs f none = rw none (rw (eq-eqb f.number f.number refl) refl)

alone_is : (fs : List Flight) (f : Flight) → fs ≡ [] → f ≡ get_or (fs ++ f ∷ []) 0 f
alone_is fs f none = rw none refl

alone_gone : (fs : List Flight) (f : Flight) → fs ≡ [] → remove (fs ++ f ∷ []) 0 ≡ fs
alone_gone fs f none = rw none refl

-- what an answer leaves, and that it is the request's Issue
pub record IsAnsweredBy {B : Type 0} (holds : B → ℕ → List ℕ → Type 0) (contents : B → List ℕ) (layers : B → List Layer) (size faults done : B → ℕ) (f : Flight) (reply : Reply) (mid new : Volumed B) : Type 0 where
  pub kept : IsKept holds contents layers size new
  pub does : DoesStep holds contents layers size faults done true (Issue f.number) (Ok (Replied f.number reply)) mid new

module _ {B : Type 0} (holds : B → ℕ → List ℕ → Type 0) (contents : B → List ℕ) (layers : B → List Layer) (size faults done : B → ℕ) (whole : (d : B) → length (contents d) ≡ 512 * size d) (here : (d : B) (s : ℕ) → s < size d → holds d s (sector_at (contents d) s))
    (u : Volumed B) (f : Flight) (none : u.flights ≡ []) (alone : u.merge ≡ None) (h : IsWhole contents layers size (entered_of f u)) (l : IsLasting holds contents layers size u) (route : is_routed f.route ≡ true) where
  abbrev mid : Volumed B
  mid = entered_of f u

  found : position (λ (g : Flight). nat_eq g.number f.number) mid.flights ≡ Some 0
  found = alone_found u.flights f none

  was : f ≡ get_or mid.flights 0 f
  was = alone_is u.flights f none

  lasts : IsLasting holds contents layers size mid
  lasts = record { snaps = l.snaps; merge = l.merge }

  -- what is asked of it
  pub asked_alone : RequestHolds (size u.origin) f
  asked_alone = request_at contents layers size mid h 0 f (position_within (λ (g : Flight). nat_eq g.number f.number) mid.flights 0 found) was

  -- its Issue is due
  issue_due : is_due_of contents layers mid (Issue f.number) ≡ true
  issue_due = ap (λ x. is_due_by (dues_of contents layers mid) mid.flights (merge_due contents x) (Issue f.number)) alone ∙ issued_at f.number mid.flights 0 f f.route found (sym (ap (λ (x : Flight). x.route) was)) ∙ route

  -- what is left of it once it is done by an operation
  answered_by : (reply : Reply) (w : Volumed B) → w.merge ≡ u.merge → IsGood contents layers size faults done (Issue f.number) (Replied f.number reply) mid w → IsExact contents layers (Issue f.number) (Replied f.number reply) mid w
      → GoesBoth holds contents layers size whole here (given_by (Issue f.number) (map in_flight mid.flights)) mid w → ClosesBy holds contents layers size (Issue f.number) (Replied f.number reply) (map in_flight mid.flights) w → IsAnsweredBy holds contents layers size faults done f reply mid w
  answered_by reply w same good exact both closes = record {
    kept = record { whole = good.whole; lasting = record { snaps = both.lasts; merge = both.merge } };
    does = stepped_by holds contents layers size faults done (Issue f.number) (Ok (Replied f.number reply)) mid w (sym issue_due) (λ next. issue_due) good.stepped exact tt closes
        (λ loud. volume_stops holds contents layers size whole here (given_by (Issue f.number) (map in_flight mid.flights)) mid w loud both.stops_snaps both.stops_origin)
        (record { snaps = both.stops_snaps; origin = both.stops_origin })
        (λ loud. ap is_finished_in (same ∙ alone) ∙ sym (ap (is_finished_on contents) (same ∙ alone))) tt;
  }

  -- at the origin disk
  module _ (to : f.route ≡ Origin) (o' : B) (same_size : size o' ≡ size u.origin) (same_loud : is_loud (layers o') ≡ is_loud (layers u.origin)) (counted : done o' ≡ next_count (done u.origin)) where
    -- the volume afterwards
    abbrev pub after : Volumed B
    after = record u { origin = o'; requests = u.requests + 1 }

    abbrev at : List Flight → Volumed B
    at fs = record mid { origin = o'; flights = fs }

    -- nothing is in flight then, as before
    at_disk : (reply : Reply) → IsGood contents layers size faults done (Issue f.number) (Replied f.number reply) mid (at (remove mid.flights 0)) → IsExact contents layers (Issue f.number) (Replied f.number reply) mid (at (remove mid.flights 0))
        → GoesBoth holds contents layers size whole here (given_by (Issue f.number) (map in_flight mid.flights)) mid (at u.flights) → ClosesBy holds contents layers size (Issue f.number) (Replied f.number reply) (map in_flight mid.flights) after → IsAnsweredBy holds contents layers size faults done f reply mid after
    at_disk reply good exact both closes = answered_by reply after refl
        (subst (λ fs. IsGood contents layers size faults done (Issue f.number) (Replied f.number reply) mid (at fs)) (alone_gone u.flights f none) good)
        (subst (λ fs. IsExact contents layers (Issue f.number) (Replied f.number reply) mid (at fs)) (alone_gone u.flights f none) exact) both closes

    -- the disk was met, and nothing was written to it
    met : ((s : ℕ) (x : List ℕ) → holds o' s x → holds u.origin s x) → contents o' ≡ contents u.origin → GoesBoth holds contents layers size whole here (given_by (Issue f.number) (map in_flight mid.flights)) mid (at u.flights)
    met stop same =
        let disk : IsSameDevice holds contents layers size u.origin o' = record { adds = λ lo. adds_none (holds u.origin) (holds o') (contents o') stop; bytes = same; sectors = same_size; loud = same_loud } in
        met_both holds contents layers size whole here mid h lasts (given_by (Issue f.number) (map in_flight mid.flights)) (at u.flights)
        (met_moves holds contents layers size whole here mid h lasts.snaps (given_by (Issue f.number) (map in_flight mid.flights)) o' u.flights disk) refl disk

    module _ (op : f.request.op ≡ Read) (same : contents o' ≡ contents u.origin) (stop : (s : ℕ) (x : List ℕ) → holds o' s x → holds u.origin s x) where
      pub read_at_once : (bytes : List ℕ) → length bytes ≡ 512 * f.request.range.count → bytes ≡ sectors_at (contents u.origin) f.request.range.first f.request.range.count → faults o' ≡ faults u.origin
          → IsOneOperation (Reads f.request.range.first f.request.range.count) true (layers u.origin) (layers o') (faults u.origin) (faults o') (done u.origin) (done o') → IsAnsweredBy holds contents layers size faults done f (Data bytes) mid after
      read_at_once bytes len read faulty one = at_disk (Data bytes)
          (disk_read contents layers size faults done mid h f.number 0 f found was to o' same_size same_loud op same counted bytes len read faulty)
          (origin_read_exact contents layers size mid h f.number 0 f found was true (faults u.origin) (faults o') (done u.origin) (done o') (Data bytes) to o' op one same (ap Data read))
          (met stop same) tt

      pub read_io_at_once : faults o' ≡ next_count (faults u.origin)
          → IsOneOperation (Reads f.request.range.first f.request.range.count) false (layers u.origin) (layers o') (faults u.origin) (faults o') (done u.origin) (done o') → IsAnsweredBy holds contents layers size faults done f (IsRefused Io) mid after
      read_io_at_once faulty one = at_disk (IsRefused Io)
          (disk_read_io contents layers size faults done mid h f.number 0 f found was to o' same_size same_loud op same counted faulty)
          (origin_read_exact contents layers size mid h f.number 0 f found was false (faults u.origin) (faults o') (done u.origin) (done o') (IsRefused Io) to o' op one same refl)
          (met stop same) tt

    module _ (bytes : List ℕ) (op : f.request.op ≡ Write bytes) where
      write_at_once : WritesDisk f.request.range.first f.request.range.count (contents u.origin) (contents o') → (is_loud (layers u.origin) ≡ true → contents o' ≡ with_sectors (contents u.origin) f.request.range.first bytes) → faults o' ≡ faults u.origin
          → ((s : ℕ) (x : List ℕ) → holds o' s x → holds u.origin s x ⊎ ((f.request.range.first ≤ s) × (s < f.request.range.first + f.request.range.count) × (x ≡ sector_at bytes (s - f.request.range.first))))
          → IsOneOperation (Writes f.request.range.first f.request.range.count) true (layers u.origin) (layers o') (faults u.origin) (faults o') (done u.origin) (done o') → IsAnsweredBy holds contents layers size faults done f IsWritten mid after
      write_at_once disk written faulty stop one = at_disk IsWritten
          (disk_write contents layers size faults done mid h f.number 0 f found was to o' same_size same_loud bytes op counted disk written faulty)
          (origin_write_exact contents layers size mid h f.number 0 f found was true (faults u.origin) (faults o') (done u.origin) (done o') IsWritten to o' bytes op one written refl)
          (disk_both holds contents layers size whole here mid h lasts f.number 0 f found was bytes op to o' u.flights written disk stop same_size same_loud) tt

      write_io_at_once : contents o' ≡ contents u.origin → faults o' ≡ next_count (faults u.origin) → ((s : ℕ) (x : List ℕ) → holds o' s x → holds u.origin s x)
          → IsOneOperation (Writes f.request.range.first f.request.range.count) false (layers u.origin) (layers o') (faults u.origin) (faults o') (done u.origin) (done o') → IsAnsweredBy holds contents layers size faults done f (IsRefused Io) mid after
      write_io_at_once same faulty stop one = at_disk (IsRefused Io)
          (disk_write_io contents layers size faults done mid h f.number 0 f found was to o' same_size same_loud bytes op counted same faulty)
          (origin_write_exact contents layers size mid h f.number 0 f found was false (faults u.origin) (faults o') (done u.origin) (done o') (IsRefused Io) to o' bytes op one (λ lo. same) refl)
          (met stop same) tt

    -- the same of a range that is the request's
    module _ (bytes : List ℕ) (op : f.request.op ≡ Write bytes) (range : Range) (is : f.request.range ≡ range) where
      pub written_at_once : WritesDisk range.first range.count (contents u.origin) (contents o') → (is_loud (layers u.origin) ≡ true → contents o' ≡ with_sectors (contents u.origin) range.first bytes) → faults o' ≡ faults u.origin
          → ((s : ℕ) (x : List ℕ) → holds o' s x → holds u.origin s x ⊎ ((range.first ≤ s) × (s < range.first + range.count) × (x ≡ sector_at bytes (s - range.first))))
          → IsOneOperation (Writes range.first range.count) true (layers u.origin) (layers o') (faults u.origin) (faults o') (done u.origin) (done o') → IsAnsweredBy holds contents layers size faults done f IsWritten mid after
      written_at_once = subst (λ (r : Range). WritesDisk r.first r.count (contents u.origin) (contents o') → (is_loud (layers u.origin) ≡ true → contents o' ≡ with_sectors (contents u.origin) r.first bytes) → faults o' ≡ faults u.origin
          → ((s : ℕ) (x : List ℕ) → holds o' s x → holds u.origin s x ⊎ ((r.first ≤ s) × (s < r.first + r.count) × (x ≡ sector_at bytes (s - r.first))))
          → IsOneOperation (Writes r.first r.count) true (layers u.origin) (layers o') (faults u.origin) (faults o') (done u.origin) (done o') → IsAnsweredBy holds contents layers size faults done f IsWritten mid after) is (write_at_once bytes op)

      pub unwritten_at_once : contents o' ≡ contents u.origin → faults o' ≡ next_count (faults u.origin) → ((s : ℕ) (x : List ℕ) → holds o' s x → holds u.origin s x)
          → IsOneOperation (Writes range.first range.count) false (layers u.origin) (layers o') (faults u.origin) (faults o') (done u.origin) (done o') → IsAnsweredBy holds contents layers size faults done f (IsRefused Io) mid after
      unwritten_at_once = subst (λ (r : Range). contents o' ≡ contents u.origin → faults o' ≡ next_count (faults u.origin) → ((s : ℕ) (x : List ℕ) → holds o' s x → holds u.origin s x)
          → IsOneOperation (Writes r.first r.count) false (layers u.origin) (layers o') (faults u.origin) (faults o') (done u.origin) (done o') → IsAnsweredBy holds contents layers size faults done f (IsRefused Io) mid after) is (write_io_at_once bytes op)

  -- at its place on the store of the snapshot that it reads
  module _ (at k : ℕ) (s s' : Kept B) (to : f.route ≡ Store at) (read : IsReadOf f.request k (Some at) u.snaps) (is : s ≡ get_or u.snaps k s) where
    within : k < length u.snaps
    within = found_within read.id u.snaps k (sym read.found)

    op : f.request.op ≡ Read
    op = op_of_read f.request read.id read.kind

    dev : f.request.dev ≡ Snap s.number
    dev = dev_of_read f.request read.id read.kind ∙ ap Snap (sym (ap (λ (x : Kept B). x.number) is ∙ (found_place read.id u.snaps k s (sym read.found)).1))

    -- what is asked of the read
    pub part_at_once : f.request.range.first % s.state.chunk + f.request.range.count ≤ s.state.chunk
    part_at_once = read_part contents layers size faults done mid h f.number 0 f found was at k s to within is dev op

    pub room_at_once : length f.room.items ≡ 512 * f.request.range.count
    room_at_once = asked_alone.room ∙ ap (λ (o : Op). room_at o f.request.range.count) op

    module _ (fields : s' ≡ record s { device = s'.device }) (store : IsSameDevice holds contents layers size s.device s'.device) (counted : done s'.device ≡ next_count (done s.device)) where
      abbrev into : List Flight → Volumed B
      into fs = changed mid mid.origin k s' fs

      -- nothing is in flight then, as before
      both : GoesBoth holds contents layers size whole here (given_by (Issue f.number) (map in_flight mid.flights)) mid (into u.flights)
      both = beside_both holds contents layers size whole here mid h lasts (given_by (Issue f.number) (map in_flight mid.flights)) (into u.flights)
          (device_moves holds contents layers size whole here mid h lasts.snaps (given_by (Issue f.number) (map in_flight mid.flights)) k s s' u.flights within is fields store) refl refl

      at_store : (reply : Reply) → IsGood contents layers size faults done (Issue f.number) (Replied f.number reply) mid (into (remove mid.flights 0)) → IsExact contents layers (Issue f.number) (Replied f.number reply) mid (into (remove mid.flights 0))
          → ClosesBy holds contents layers size (Issue f.number) (Replied f.number reply) (map in_flight mid.flights) (into u.flights) → IsAnsweredBy holds contents layers size faults done f reply mid (into u.flights)
      at_store reply good exact closes = answered_by reply (into u.flights) refl
          (subst (λ fs. IsGood contents layers size faults done (Issue f.number) (Replied f.number reply) mid (into fs)) (alone_gone u.flights f none) good)
          (subst (λ fs. IsExact contents layers (Issue f.number) (Replied f.number reply) mid (into fs)) (alone_gone u.flights f none) exact) both closes

      pub store_read_at_once : (bytes : List ℕ) → length bytes ≡ 512 * f.request.range.count → bytes ≡ sectors_at (contents s.device) (s.state.chunk * at + f.request.range.first % s.state.chunk) f.request.range.count → faults s'.device ≡ faults s.device
          → IsOneOperation (Reads (s.state.chunk * at + f.request.range.first % s.state.chunk) f.request.range.count) true (layers s.device) (layers s'.device) (faults s.device) (faults s'.device) (done s.device) (done s'.device)
          → IsAnsweredBy holds contents layers size faults done f (Data bytes) mid (into u.flights)
      store_read_at_once bytes len got faulty one = at_store (Data bytes)
          (store_read contents layers size faults done mid h f.number 0 f found was at k s to within is dev s' s'.device fields store.loud store.sectors counted op bytes len store.bytes got faulty)
          (store_read_exact contents layers size mid h f.number 0 f found was true (faults s.device) (faults s'.device) (done s.device) (done s'.device) (Data bytes) at s.number k to dev s s' within is refl fields op one store.bytes (ap Data got)) tt

      pub store_read_io_at_once : faults s'.device ≡ next_count (faults s.device)
          → IsOneOperation (Reads (s.state.chunk * at + f.request.range.first % s.state.chunk) f.request.range.count) false (layers s.device) (layers s'.device) (faults s.device) (faults s'.device) (done s.device) (done s'.device)
          → IsAnsweredBy holds contents layers size faults done f (IsRefused Io) mid (into u.flights)
      store_read_io_at_once faulty one = at_store (IsRefused Io)
          (store_read_io contents layers size faults done mid h f.number 0 f found was at k s to within is dev s' s'.device fields store.loud store.sectors counted op store.bytes faulty)
          (store_read_exact contents layers size mid h f.number 0 f found was false (faults s.device) (faults s'.device) (done s.device) (done s'.device) (IsRefused Io) at s.number k to dev s s' within is refl fields op one store.bytes refl) tt

-- a snapshot whose store was read is done as before
all_done : {B : Type 0} (ss : List (Kept B)) → list_all is_done_of ss ≡ list_all (λ b. b) (map is_done_of ss)
all_done [] = refl
all_done (s ∷ ss) = ap (λ b. is_done_of s && b) (all_done ss)

pub quiet_at_store : {B : Type 0} (u : Volumed B) (k : ℕ) (s s' : Kept B) → s ≡ get_or u.snaps k s → s' ≡ record s { device = s'.device } → is_quiet_of (record u { snaps = set u.snaps k s'; requests = u.requests + 1 }) ≡ is_quiet_of u
quiet_at_store u k s s' is fields =
    let same : map is_done_of (set u.snaps k s') ≡ map is_done_of u.snaps = map-set_same is_done_of u.snaps k s' s (ap is_done_of fields ∙ ap is_done_of is) in
    ap (λ b. (length u.flights == 0) && (not (has_group_in u.merge) && b)) (all_done (set u.snaps k s') ∙ ap (list_all (λ b. b)) same ∙ sym (all_done u.snaps))
