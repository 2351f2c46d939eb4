-- A request of the origin is issued, whether a merge is begun or not.
use Rattle.std.proofs.Common.{◌≡◌, ℕ, ◌+◌, ◌*◌, ◌%◌, true, List, get_or, nat_eq, refl, sym, ◌∙◌, subst}
use Rattle.std.specs.Prelude.{Option, Some, None}
use Rattle.std.specs.List.{position, remove}
use Rattle.sector.specs.Bytes.{sectors_at, with_sectors}
use Rattle.cow_format.specs.Places.{ChangesOnly}
use Rattle.plain_machine.specs.declared.request.Op.TheVariants.{Write}
use Rattle.plain_machine.specs.declared.request.Reply.TheVariants.{Data, Written as IsWritten}
use Rattle.in_flight.specs.Kinds.{kind_of}
use Rattle.in_flight.specs.declared.flights.Flight.{Flight}
use Rattle.in_flight.specs.declared.flights.Kind.TheVariants.{OriginRead, OriginWrite}
use Rattle.in_flight.specs.declared.flights.Route.TheVariants.{Origin, Store}
use Rattle.volume_laws.specs.Books.{MergeBooks, Books}
use Rattle.volume_laws.specs.Outcomes.{IsReply}
use Rattle.volume_laws.specs.Steps.{OnlyTakesOut, TakesOut, WritesOut}
use Rattle.volume_laws.specs.Whole.{Holds}
use Rattle.volume_laws.proofs.Same.{same_volume}
use Rattle.volume_laws.proofs.Issuing.{read_disk_event}
use Rattle.volume_laws.proofs.IssuingWrites.{write_disk_event}
use Rattle.volume_laws.proofs.WholeMerge.{merge_read_disk_event, merge_read_place_event, merge_write_disk_event, merge_write_place_event}

module _ (number k : ℕ) (r : Flight) (v w : Books) (h : Holds v) where
  -- the volume as it is written out
  abbrev begun : MergeBooks → Books
  begun m = record { origin = v.origin; sectors = v.sectors; loud = v.loud; snaps = v.snaps; merge = Some m; requests = v.requests }

  begun_is : (m : MergeBooks) → v.merge ≡ Some m → v ≡ begun m
  begun_is m is = same_volume v (begun m) refl refl refl refl is refl

  -- and with this disk, after the request is taken out
  abbrev issued : List ℕ → MergeBooks → Books
  issued origin m = record { origin = origin; sectors = v.sectors; loud = v.loud; snaps = v.snaps; merge = Some m; requests = remove v.requests k }

  -- a read at the origin disk
  module _ (e : OnlyTakesOut number k r v w) (kind : kind_of r.request ≡ OriginRead) (bytes : List ℕ) where
    only_is : (m : MergeBooks) → v.merge ≡ Some m → w ≡ issued v.origin m
    only_is m is = same_volume w (issued v.origin m) e.origin e.out.sectors e.out.loud e.snaps (e.out.merge ∙ is) e.out.requests

    only_begun : (m : MergeBooks) → v.merge ≡ Some m → OnlyTakesOut number k r (begun m) (issued v.origin m)
    only_begun m is = subst (λ x. OnlyTakesOut number k r x (issued v.origin m)) (begun_is m is) (subst (OnlyTakesOut number k r v) (only_is m is) e)

    seen : (m : MergeBooks) → v.merge ≡ Some m → IsReply number (Data bytes) (begun m) (issued v.origin m) → IsReply number (Data bytes) v w
    seen m is reply = subst (λ x. IsReply number (Data bytes) x w) (sym (begun_is m is)) (subst (IsReply number (Data bytes) (begun m)) (sym (only_is m is)) reply)

    pub any_read_disk : r.route ≡ Origin → bytes ≡ sectors_at v.origin r.request.range.first r.request.range.count → IsReply number (Data bytes) v w
    any_read_disk route read = by v.merge refl
      where
        by : (m : Option MergeBooks) → v.merge ≡ m → IsReply number (Data bytes) v w
        by None is = read_disk_event number k r v w h e bytes is kind read
        by (Some m) is = seen m is
            (merge_read_disk_event v.origin v.sectors v.loud v.snaps m v.requests (subst Holds (begun_is m is) h) number k r (only_begun m is) kind bytes route read)

    -- and at its chunk's place on the merging store
    pub read_merging : (m : MergeBooks) → v.merge ≡ Some m → (place : ℕ) → r.route ≡ Store place → bytes ≡ sectors_at m.store (m.chunk * place + r.request.range.first % m.chunk) r.request.range.count → IsReply number (Data bytes) v w
    read_merging m is place route read = seen m is
        (merge_read_place_event v.origin v.sectors v.loud v.snaps m v.requests (subst Holds (begun_is m is) h) number k r (only_begun m is) kind bytes place route read)

  -- a write at the origin disk
  module _ (bytes : List ℕ) (e : WritesOut number k r bytes v w) (kind : kind_of r.request ≡ OriginWrite) (route : r.route ≡ Origin) where
    disk_is : (m : MergeBooks) → v.merge ≡ Some m → w ≡ issued w.origin m
    disk_is m is = same_volume w (issued w.origin m) refl e.out.sectors e.out.loud e.snaps (e.out.merge ∙ is) e.out.requests

    pub any_write_disk : IsReply number IsWritten v w
    any_write_disk = by v.merge refl
      where
        by : (m : Option MergeBooks) → v.merge ≡ m → IsReply number IsWritten v w
        by None is = write_disk_event number k r bytes v w h e is kind route
        by (Some m) is =
            let now : WritesOut number k r bytes (begun m) (issued w.origin m) =
            subst (λ x. WritesOut number k r bytes x (issued w.origin m)) (begun_is m is) (subst (WritesOut number k r bytes v) (disk_is m is) e) in
            let reply = merge_write_disk_event v.origin v.sectors v.loud v.snaps m v.requests (subst Holds (begun_is m is) h) number k r bytes w.origin now kind route in
            subst (λ x. IsReply number IsWritten x w) (sym (begun_is m is)) (subst (IsReply number IsWritten (begun m)) (sym (disk_is m is)) reply)

  -- a write at its chunk's place on the merging store
  pub write_merging : (m : MergeBooks) → v.merge ≡ Some m → (place : ℕ) (bytes store : List ℕ) → position (λ (f : Flight). nat_eq f.number number) v.requests ≡ Some k → r ≡ get_or v.requests k r → r.request.op ≡ Write bytes
      → kind_of r.request ≡ OriginWrite → r.route ≡ Store place → ChangesOnly m.chunk place m.store store → (m.loud ≡ true → store ≡ with_sectors m.store (m.chunk * place + r.request.range.first % m.chunk) bytes)
      → w ≡ issued v.origin (record m { store = store }) → IsReply number IsWritten v w
  write_merging m is place bytes store found was op kind route only written now =
      let out : TakesOut number k r (begun m) (issued v.origin m) = record { found = found; was = was; requests = refl; sectors = refl; loud = refl; merge = refl } in
      let reply = merge_write_place_event v.origin v.sectors v.loud v.snaps m v.requests (subst Holds (begun_is m is) h) number k r place bytes store out op kind route only written in
      subst (λ x. IsReply number IsWritten x w) (sym (begun_is m is)) (subst (IsReply number IsWritten (begun m)) (sym now) reply)
