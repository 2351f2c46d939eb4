-- What each call leaves of the snapshots and of the origin's array together, where the origin's device is met at most, and the
-- merge is as it was.
use Rattle.std.proofs.Common.{◌≡◌, ◌⊎◌, inl, inr, ℕ, ◌+◌, ◌-◌, ◌*◌, ◌/◌, ◌%◌, ◌<◌, ◌≤◌, Bool, true, List, Option, None, Some, length, get_or, map, refl, sym, ◌∙◌, ap, subst, arith}
use Rattle.std.specs.Prelude.{◌&&◌, ◌==◌}
use Rattle.std.specs.List.{All, list_all, position}
use Rattle.std.proofs.lemmas.Bool.{cases_Bool}
use Rattle.std.proofs.lemmas.List.{length-map, get_or-map}
use Rattle.sector.specs.Bytes.{sector_at, with_sectors}
use Rattle.device.specs.Layers.{Layer, is_loud}
use Rattle.plain_machine.specs.declared.event.Event.TheVariants.{Issue}
use Rattle.plain_machine.specs.declared.request.Dev.TheVariants.{Origin as AtOrigin, Snap}
use Rattle.plain_machine.specs.declared.request.Op.TheVariants.{Write}
use Rattle.in_flight.specs.Kinds.{kind_at, kind_of, in_flight}
use Rattle.in_flight.specs.declared.flights.Flight.{Flight}
use Rattle.in_flight.specs.declared.flights.Kind.TheVariants.{OriginWrite, SnapWrite}
use Rattle.in_flight.specs.declared.flights.Route.TheVariants.{Origin, Store, Refused}
use Rattle.crash_laws.specs.Clauses.{Given}
use Rattle.crash_laws.proofs.Firm.{adds_written}
use Rattle.volume_laws.specs.Held.{RequestHolds}
use Rattle.volume_laws.specs.Steps.{WritesDisk, WritesPlace}
use Rattle.volume_laws.proofs.Requests.{asked_first}
use Rattle.snapshot.specs.Kept.{Kept, books_of as snap_books}
use Rattle.snapshot_list.proofs.Finds.{position_within}
use Rattle.merge.specs.Merging.{Merging}
use Rattle.volume.specs.SnapLasting.{SnapLasting}
use Rattle.volume.specs.MergeLasting.{MergeLasting, StopsOriginOn}
use Rattle.volume.specs.Lasting.{IsLasting, StopsSnaps}
use Rattle.volume.specs.Stopping.{given_as, given_in, given_by, StopsOrigin, StopsVolume}
use Rattle.volume.specs.Volumed.{Volumed, is_loud_in_all, is_loud_with}
use Rattle.volume.specs.Whole.{IsWhole}
use Rattle.volume.proofs.Changing.{changed}
use Rattle.volume.proofs.Shown.{loud_books, and_right}
use Rattle.volume.proofs.LastOne.{IsSameDevice, IsCalled, same_device}
use Rattle.volume.proofs.LastAll.{GoesAll, kept_at, none_goes}
use Rattle.volume.proofs.LastMoves.{disk_moves, own_moves}
use Rattle.volume.proofs.OriginLasts.{GoesBy, origin_met, origin_same, disk_dev, disk_issued}

module _ {B : Type 0} (holds : B → ℕ → List ℕ → Type 0) (contents : B → List ℕ) (layers : B → List Layer) (size : B → ℕ) (whole : (d : B) → length (contents d) ≡ 512 * size d) (here : (d : B) (s : ℕ) → s < size d → holds d s (sector_at (contents d) s)) where
  pub record GoesBoth (given : Option Given) (v w : Volumed B) : Type 0 where
    pub lasts : All (SnapLasting holds contents layers size w.origin) w.snaps
    pub merge : MergeLasting holds contents layers size w.origin w.merge
    pub stops_snaps : StopsSnaps holds layers size given v w
    pub stops_origin : StopsOriginOn holds layers size given v.origin w.origin v.merge w.merge

  module _ (v : Volumed B) (h : IsWhole contents layers size v) (l : IsLasting holds contents layers size v) (given : Option Given) (w : Volumed B) (goes : GoesAll holds contents layers size whole here given v w) (same : w.merge ≡ v.merge) where
    pub met_both : IsSameDevice holds contents layers size v.origin w.origin → GoesBoth given v w
    met_both disk = (let m = origin_met holds contents layers size whole here v h l.merge given w disk same in record { lasts = goes.lasts; merge = m.lasts; stops_snaps = goes.stops; stops_origin = m.stops })

    pub beside_both : w.origin ≡ v.origin → GoesBoth given v w
    beside_both is = met_both (subst (IsSameDevice holds contents layers size v.origin) (sym is) (same_device holds contents layers size whole here v.origin))

  -- Where no device drops writes, what is said of each part by itself is said of the volume.
  pub volume_stops : (given : Option Given) (v w : Volumed B) → is_loud_in_all layers v ≡ true → StopsSnaps holds layers size given v w → StopsOriginOn holds layers size given v.origin w.origin v.merge w.merge → StopsVolume holds size given v w
  volume_stops given v w loud snaps origin =
      let books = loud_books contents layers size v loud in
      let sb = snap_books contents layers in
      record {
        snaps = λ k s t within is are. snaps k s t within is are books.origin
            (ap (λ x. is_loud (layers x.device)) is ∙ sym (ap (λ x. x.loud) (get_or-map sb v.snaps k s (sb s) within)) ∙ books.snaps k (sb s) (let len = length-map v.snaps sb in omega (arith, within, len)));
        origin = by v.merge w.merge refl books.origin origin;
      }
    where
      store_loud : (m : Merging B) → v.merge ≡ Some m → is_loud (layers m.device) ≡ true
      store_loud m is = (let others : Bool = is_loud (layers v.origin) && list_all (λ (s : Kept B). is_loud (layers s.device)) v.snaps in and_right others (is_loud (layers m.device)) (ap (λ (x : Option (Merging B)). is_loud_with layers x others) (sym is) ∙ loud))

      by : (m m' : Option (Merging B)) → v.merge ≡ m → is_loud (layers v.origin) ≡ true → StopsOriginOn holds layers size given v.origin w.origin m m' → StopsOrigin holds size given v.origin w.origin m m'
      by None after e lo stops = stops lo
      by (Some m) None e lo stops = stops
      by (Some m) (Some m') e lo stops = stops lo (store_loud m e)

  module _ (v : Volumed B) (h : IsWhole contents layers size v) (l : IsLasting holds contents layers size v) where
    -- a moment between two calls
    pub now_stops : is_loud_in_all layers v ≡ true → StopsVolume holds size None v v
    now_stops loud = volume_stops None v v loud (none_goes holds contents layers size whole here v h l.snaps None v refl (same_device holds contents layers size whole here v.origin)).stops (origin_same holds contents layers size whole here v h l.merge None).stops

    module _ (number place : ℕ) (f : Flight) (found : position (λ (r : Flight). r.number == number) v.flights ≡ Some place) (at : f ≡ get_or v.flights place f) (bytes : List ℕ) (op : f.request.op ≡ Write bytes) where
      within : place < length v.flights
      within = position_within (λ (r : Flight). r.number == number) v.flights place found

      asked : given_by (Issue number) (map in_flight v.flights) ≡ given_as f.request.dev f.request.range f.request.op
      asked = ap given_in (asked_first number place f v.flights found at)

      request : RequestHolds (size v.origin) f
      request = subst (RequestHolds (size v.origin)) (sym at) (h.holds.requests place f within)

      -- A write of the origin that goes to its disk.
      pub disk_both : f.route ≡ Origin → (o' : B) (flights : List Flight) → (is_loud (layers v.origin) ≡ true → contents o' ≡ with_sectors (contents v.origin) f.request.range.first bytes) → WritesDisk f.request.range.first f.request.range.count (contents v.origin) (contents o')
          → ((s : ℕ) (x : List ℕ) → holds o' s x → holds v.origin s x ⊎ ((f.request.range.first ≤ s) × (s < f.request.range.first + f.request.range.count) × (x ≡ sector_at bytes (s - f.request.range.first)))) → size o' ≡ size v.origin → is_loud (layers o') ≡ is_loud (layers v.origin)
          → GoesBoth (given_by (Issue number) (map in_flight v.flights)) v (record v { origin = o'; flights = flights })
      disk_both route o' flights written rest stop sectors loud =
          let g = given_by (Issue number) (map in_flight v.flights) in
          let w : Volumed B = record v { origin = o'; flights = flights } in
          let inside = request.inside in
          let long : length bytes ≡ 512 * f.request.range.count = request.bytes bytes op in
          let disk : IsCalled holds contents layers size v.origin o' = record { adds = λ lo. adds_written (holds v.origin) (holds o') (contents v.origin) (contents o') bytes f.request.range.first f.request.range.count stop (written lo) (omega (arith, inside, long, whole v.origin)) long; sectors = sectors; loud = loud } in
          let dev = disk_dev holds contents layers size whole here v h l.merge place f within at bytes op route in
          let kind : kind_of f.request ≡ OriginWrite = ap (λ d. kind_at d f.request.op) dev ∙ ap (kind_at AtOrigin) op in
          let goes = disk_moves holds contents layers size whole here v h l.snaps g place f o' flights within at kind route rest disk in
          let m = subst (λ x. GoesBy holds contents layers size whole here x v.origin o' v.merge v.merge) (sym asked) (disk_issued holds contents layers size whole here v h l.merge place f within at bytes op o' written route disk) in
          record { lasts = goes.lasts; merge = m.lasts; stops_snaps = goes.stops; stops_origin = m.stops }

      -- A write of a live snapshot at its chunk's place.
      pub own_both : (k : ℕ) (s s' : Kept B) (flights : List Flight) (n : ℕ) → k < length v.snaps → s ≡ get_or v.snaps k s → f.request.dev ≡ Snap s.number → f.route ≡ Store n → s' ≡ record s { device = s'.device } → WritesPlace (f.request.range.first / s.state.chunk) n (f.request.range.first % s.state.chunk) bytes (snap_books contents layers s) (snap_books contents layers s')
          → IsCalled holds contents layers size s.device s'.device → GoesBoth (given_by (Issue number) (map in_flight v.flights)) v (changed v v.origin k s' flights)
      own_both k s s' flights n below is dev route fields writes store =
          let g = given_by (Issue number) (map in_flight v.flights) in
          let kind : kind_of f.request ≡ SnapWrite s.number = ap (λ d. kind_at d f.request.op) dev ∙ ap (kind_at (Snap s.number)) op in
          let kept = kept_at holds contents layers size whole here v h l.snaps k s below is in
          let live : s.live ≡ true = elim (cases_Bool s.live) [
            | inl live ↦ live
            | inr dead ↦ absurd (store_refused n (sym route ∙ ap (λ (x : Flight). x.route) at ∙ ((kept.holds.spoilt dead).routes place f within).write (ap (λ (x : Flight). kind_of x.request) (sym at) ∙ kind)))
          ] in
          let same : g ≡ Some (record { array = Some s.number; first = f.request.range.first; count = f.request.range.count; bytes = bytes }) = asked ∙ ap (λ d. given_as d f.request.range f.request.op) dev ∙ ap (given_as (Snap s.number) f.request.range) op in
          let goes = subst (λ x. GoesAll holds contents layers size whole here x v (changed v v.origin k s' flights)) (sym same)
          (own_moves holds contents layers size whole here v h l.snaps k s s' flights place f n bytes below is live within at kind route (request.bytes bytes op) fields writes.only writes.written store) in
          beside_both v h l g (changed v v.origin k s' flights) goes refl refl
        where
          store_refused : (n : ℕ) → Store n ≡ Refused → ⊥
          store_refused n e = cc
