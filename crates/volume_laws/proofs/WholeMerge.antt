-- The merge's own events, and the origin's requests while it runs, in a whole volume.
use Rattle.std.proofs.Common.{◌≡◌, ◌≢◌, ℕ, ◌+◌, ◌*◌, ◌/◌, ◌%◌, ◌<◌, ◌≤◌, Bool, true, List, [], ◌∷◌, ◌++◌, Some, None, length, get_or, map, take, refl, sym, ◌∙◌, ap, subst, arith}
use Rattle.std.specs.List.{All, remove}
use Rattle.std.specs.Prelude.{AllPairs}
use Rattle.std.proofs.lemmas.List.Elements.{All-nil}
use Rattle.std.proofs.lemmas.List.Quantifiers.{all_pairs_remove}
use Rattle.std.proofs.lemmas.List.{length-map}
use Rattle.std.proofs.lemmas.Nat.{div-add-mod'}
use Rattle.sector.specs.Bytes.{sectors_at, with_sectors}
use Rattle.sector.specs.declared.pair.Pair.{Pair}
use Rattle.cow_format.specs.Places.{area_place, ChangesOnly}
use Rattle.cow_format.specs.Pairs.{pairs_of}
use Rattle.cow_format.specs.Picture.{picture}
use Rattle.plain_machine.specs.declared.request.Dev.TheVariants.{Origin as AtOrigin}
use Rattle.plain_machine.specs.declared.request.Op.TheVariants.{Read, Write}
use Rattle.plain_machine.specs.declared.request.Reply.TheVariants.{Data, Written as IsWritten}
use Rattle.plain_machine.specs.Legal.{IsBegun, IsFinished}
use Rattle.in_flight.specs.Copies.{count_of}
use Rattle.in_flight.specs.Kinds.{kind_of, in_flight}
use Rattle.in_flight.specs.declared.flights.Flight.{Flight}
use Rattle.in_flight.specs.declared.flights.Kind.TheVariants.{OriginRead, OriginWrite}
use Rattle.in_flight.specs.declared.flights.Route.TheVariants.{Origin, Store}
use Rattle.volume_laws.specs.Books.{SnapBooks, MergeBooks, Books, listed, taken, number_of}
use Rattle.volume_laws.specs.Published.{chunk_of, IsSavedOver}
use Rattle.volume_laws.specs.Held.{SnapHolds, RouteHolds, RequestHolds}
use Rattle.volume_laws.specs.Merging.{MergeHolds, MergeRouteHolds}
use Rattle.volume_laws.specs.Whole.{Holds, plain_of, entry_of, UnmergedHolds}
use Rattle.volume_laws.specs.Steps.{TakesOut, OnlyTakesOut, WritesOut, WritesDisk}
use Rattle.volume_laws.specs.Outcomes.{IsSilent, IsReply}
use Rattle.volume_laws.proofs.Lists.{All-remove, map-remove}
use Rattle.volume_laws.proofs.Same.{books, plain}
use Rattle.volume_laws.proofs.Requests.{asked, gone, found_holds, origin_out, snap_out}
use Rattle.volume_laws.proofs.Entries.{saved_at, without_saved_at, origin_read_is, origin_write_is, serves_as}
use Rattle.volume_laws.proofs.WholeOne.{silent_step, snap_holds, shown}
use Rattle.volume_laws.proofs.IssuingWrites.{same_map, disk_write_over, disk_write_shown, disk_write_snap, disk_write_entry}
use Rattle.volume_laws.proofs.MergeEvents.{merge_read, merge_write, merge_write_picture, merge_commit, merge_commit_picture, merge_group, merge_dissolve, merge_fault, dissolved, GoesElsewhere, IsUngrouped, NoWriteTo, begun, begin, finish}
use Rattle.volume_laws.proofs.MergeIssue.{merge_place_write, merge_place_picture, merge_disk_write, merge_disk_picture, merge_place_read, merge_disk_read}

-- another state of the merge that shows the same
pub silent_merge : (o : List ℕ) (n : ℕ) (l : Bool) (vs : List SnapBooks) (m m' : MergeBooks) (rs : List Flight) → Holds (books o n l vs (Some m) rs) → MergeHolds o rs m' → m'.number ≡ m.number → (m.loud ≡ true → picture m'.chunk o m'.store ≡ picture m.chunk o m.store)
    → IsSilent (books o n l vs (Some m) rs) (books o n l vs (Some m') rs)
silent_merge o n l vs m m' rs h merge number same = record {
  holds = record { whole = h.whole; merge = merge; snaps = h.snaps; requests = h.requests; numbers = h.numbers };
  step = λ loud. silent_step (plain_of (books o n l vs (Some m) rs)) (plain_of (books o n l vs (Some m') rs))
      (ap (λ x. plain x (Some m'.number) (map (entry_of o) vs) (map in_flight rs)) (same (loud.merge m refl)) ∙ ap (λ x. plain (picture m.chunk o m.store) (Some x) (map (entry_of o) vs) (map in_flight rs)) number);
}

module _ (o : List ℕ) (n : ℕ) (l : Bool) (vs : List SnapBooks) (m : MergeBooks) (rs : List Flight) (h : Holds (books o n l vs (Some m) rs)) where
  abbrev now : Books
  now = books o n l vs (Some m) rs

  pub group_event : (kept group : List Pair) → IsUngrouped m → m.pairs ≡ kept ++ group → IsSilent now (books o n l vs (Some (record m { waiting = group })) rs)
  group_event kept group none ends = silent_merge o n l vs m (record m { waiting = group }) rs h (merge_group o rs m kept group h.merge none ends) refl (λ _. refl)

  pub read_event : (rest : List Pair) (q : Pair) (bytes : List ℕ) → m.waiting ≡ rest ++ q ∷ [] → m.reading ≡ []
      → take (512 * count_of m.chunk m.sectors q.old) bytes ≡ sectors_at m.store (m.chunk * q.new) (count_of m.chunk m.sectors q.old) → length bytes ≡ 512 * m.chunk → All (NoWriteTo q.new) rs
      → IsSilent now (books o n l vs (Some (record m { waiting = rest; reading = q ∷ []; buffer = bytes })) rs)
  read_event rest q bytes last none read sized quiet = silent_merge o n l vs m (record m { waiting = rest; reading = q ∷ []; buffer = bytes }) rs h (merge_read o rs m h.merge rest q bytes last none read sized quiet) refl (λ _. refl)

  -- the chunks that the merged one touches are published in each other live snapshot
  pub write_event : (o' : List ℕ) (q : Pair) → m.reading ≡ q ∷ [] → WritesDisk (m.chunk * q.old) (count_of m.chunk m.sectors q.old) o o'
      → (m.loud ≡ true → sectors_at o' (m.chunk * q.old) (count_of m.chunk m.sectors q.old) ≡ take (512 * count_of m.chunk m.sectors q.old) m.buffer)
      → All (IsSavedOver (m.chunk * q.old) (count_of m.chunk m.sectors q.old)) vs → IsSilent now (books o' n l vs (Some (record m { reading = []; copied = q ∷ m.copied })) rs)
  write_event o' q full e wrote published = record {
    holds = record {
      whole = e.len ∙ h.whole;
      merge = merge_write o o' rs m h.merge q full e wrote;
      snaps = λ k d lt. disk_write_over o o' rs (get_or vs k d) (m.chunk * q.old) (count_of m.chunk m.sectors q.old) (h.snaps k d lt) e (published k d lt);
      requests = h.requests;
      numbers = h.numbers;
    };
    step = λ loud. silent_step (plain_of now) (plain_of (books o' n l vs (Some (record m { reading = []; copied = q ∷ m.copied })) rs))
        (ap (λ x. plain x (Some m.number) (map (entry_of o') vs) (map in_flight rs)) (merge_write_picture o o' rs m h.merge q full e wrote (loud.merge m refl))
        ∙ ap (λ x. plain (picture m.chunk o m.store) (Some m.number) x (map in_flight rs))
        (same_map (entry_of o') (entry_of o) vs (λ k d lt. disk_write_shown o o' rs (get_or vs k d) (m.chunk * q.old) (count_of m.chunk m.sectors q.old) (h.snaps k d lt) (loud.snaps k d lt) e (published k d lt))));
  }

  pub merge_commit_event : (kept : List Pair) (a : ℕ) (store : List ℕ) → m.pairs ≡ kept ++ m.copied → m.waiting ≡ [] → m.reading ≡ [] → ChangesOnly m.chunk (area_place m.chunk a) m.store store → (m.loud ≡ true → pairs_of m.chunk store ≡ kept)
      → IsSilent now (books o n l vs (Some (record m { store = store; pairs = kept; copied = []; released = m.copied ++ m.released })) rs)
  merge_commit_event kept a store ends all_read all_written only stored =
      silent_merge o n l vs m (record m { store = store; pairs = kept; copied = []; released = m.copied ++ m.released }) rs h
      (merge_commit o rs m h.merge kept a store ends all_read all_written only stored) refl (merge_commit_picture o rs m h.merge kept a store ends all_read all_written only stored)

  -- MergeRelease, before held writes are routed again
  pub release_event : All (GoesElsewhere m.released) rs → IsSilent now (books o n l vs (Some (dissolved m)) rs)
  release_event elsewhere = silent_merge o n l vs m (dissolved m) rs h (merge_dissolve o rs m h.merge elsewhere) refl (λ _. refl)

  -- a fault of the merge before its commit
  pub merge_fault_event : m.released ≡ [] → IsSilent now (books o n l vs (Some (dissolved m)) rs)
  merge_fault_event none = silent_merge o n l vs m (dissolved m) rs h (merge_fault o rs m h.merge none) refl (λ _. refl)

  -- a request of this volume
  module _ (number k : ℕ) (r : Flight) where
    abbrev rest : List Flight
    rest = remove rs k

    -- an origin read
    module _ (e : OnlyTakesOut number k r now (books o n l vs (Some m) rest)) (kind : kind_of r.request ≡ OriginRead) (bytes : List ℕ) where
      abbrev after : Books
      after = books o n l vs (Some m) rest

      route_read : MergeRouteHolds m.number m.chunk m.pairs (listed m) (taken m) r
      route_read = found_holds (MergeRouteHolds m.number m.chunk m.pairs (listed m) (taken m)) number k r now after e.out h.merge.routes

      request_read : RequestHolds n r
      request_read = found_holds (RequestHolds n) number k r now after e.out h.requests

      inside_read : r.request.range.first + r.request.range.count ≤ m.sectors
      inside_read = (let i = request_read.inside in let a = h.whole in let b = h.merge.fits in omega (arith, i, a, b))

      holds_read : Holds after
      holds_read = record {
        whole = h.whole;
        merge = origin_out o rs k (Some m) h.merge;
        snaps = λ j d lt. snap_out o rs (get_or vs j d) k (h.snaps j d lt);
        requests = All-remove (RequestHolds n) rs k h.requests;
        numbers = h.numbers;
      }

      read_reply : (m.loud ≡ true → bytes ≡ sectors_at (picture m.chunk o m.store) r.request.range.first r.request.range.count) → IsReply number (Data bytes) now after
      read_reply read =
          let is = origin_read_is r.request.dev r.request.op kind in
          record {
            holds = holds_read;
            step = λ loud. record {
              request = r.request;
              asked = asked number k r now after e.out;
              gone = gone number k r now after e.out;
              served = serves_as (plain_of now) (plain_of after) (Data bytes) r.request AtOrigin Read is.0 is.1
                  (record { origin = refl; begun = refl; saved = refl }, (picture m.chunk o m.store, refl, read (loud.merge m refl)));
            };
          }

      pub merge_read_disk_event : r.route ≡ Origin → bytes ≡ sectors_at o r.request.range.first r.request.range.count → IsReply number (Data bytes) now after
      merge_read_disk_event route read = read_reply (λ loud. read ∙ merge_disk_read o rs m h.merge loud r.request.range route_read.piece inside_read (route_read.read kind route))

      pub merge_read_place_event : (place : ℕ) → r.route ≡ Store place → bytes ≡ sectors_at m.store (m.chunk * place + r.request.range.first % m.chunk) r.request.range.count → IsReply number (Data bytes) now after
      merge_read_place_event place route read = read_reply (λ loud. read ∙ merge_place_read o rs m h.merge loud r.request.range place route_read.piece inside_read (route_read.read_stored place kind route))

    -- an origin write to the chunk's place
    module _ (place : ℕ) (bytes store : List ℕ) (e : TakesOut number k r now (books o n l vs (Some m) rest)) (op : r.request.op ≡ Write bytes)
        (kind : kind_of r.request ≡ OriginWrite) (route : r.route ≡ Store place) (only : ChangesOnly m.chunk place m.store store)
        (written : m.loud ≡ true → store ≡ with_sectors m.store (m.chunk * place + r.request.range.first % m.chunk) bytes) where
      abbrev placed : Books
      placed = books o n l vs (Some (record m { store = store })) rest

      route_placed : MergeRouteHolds m.number m.chunk m.pairs (listed m) (taken m) r
      route_placed = found_holds (MergeRouteHolds m.number m.chunk m.pairs (listed m) (taken m)) number k r now (books o n l vs (Some m) rest) e h.merge.routes

      request_placed : RequestHolds n r
      request_placed = found_holds (RequestHolds n) number k r now (books o n l vs (Some m) rest) e h.requests

      begins : m.chunk * (r.request.range.first / m.chunk) + r.request.range.first % m.chunk ≡ r.request.range.first
      begins = grind (arith, div-add-mod' r.request.range.first m.chunk)

      merge_out : MergeHolds o rest m
      merge_out = origin_out o rs k (Some m) h.merge

      holds_placed : Holds placed
      holds_placed = record {
        whole = h.whole;
        merge = merge_place_write o rest m merge_out (chunk_of m.chunk r) place (r.request.range.first % m.chunk) bytes store (route_placed.write_stored place kind route) (route_placed.untaken place kind route) only written;
        snaps = λ j d lt. snap_out o rs (get_or vs j d) k (h.snaps j d lt);
        requests = All-remove (RequestHolds n) rs k h.requests;
        numbers = h.numbers;
      }

      array_placed : m.loud ≡ true → picture m.chunk o store ≡ with_sectors (picture m.chunk o m.store) r.request.range.first bytes
      array_placed loud =
          merge_place_picture o rest m merge_out (chunk_of m.chunk r) place (r.request.range.first % m.chunk) bytes store (route_placed.write_stored place kind route) (route_placed.untaken place kind route) only written
          r.request.range.count loud (request_placed.bytes bytes op)
          (let p = route_placed.piece.within in let b = begins in omega (arith, p, b))
          (let i = request_placed.inside in let a = h.whole in let b = begins in omega (arith, i, a, b))
          ∙ ap (λ x. with_sectors (picture m.chunk o m.store) x bytes) begins

      pub merge_write_place_event : IsReply number IsWritten now placed
      merge_write_place_event = record {
        holds = holds_placed;
        step = λ loud. record {
          request = r.request;
          asked = asked number k r now (books o n l vs (Some m) rest) e;
          gone = gone number k r now (books o n l vs (Some m) rest) e;
          served = serves_as (plain_of now) (plain_of placed) IsWritten r.request AtOrigin (Write bytes) (origin_write_is r.request.dev r.request.op kind) op
              (picture m.chunk o m.store, refl, record { origin = array_placed (loud.merge m refl); begun = refl; saved = refl });
        };
      }

    -- an origin write to the origin disk
    module _ (bytes o' : List ℕ) (e : WritesOut number k r bytes now (books o' n l vs (Some m) rest)) (kind : kind_of r.request ≡ OriginWrite) (route : r.route ≡ Origin) where
      abbrev changed : Books
      changed = books o' n l vs (Some m) rest

      abbrev first : ℕ
      first = r.request.range.first

      route_disk : MergeRouteHolds m.number m.chunk m.pairs (listed m) (taken m) r
      route_disk = found_holds (MergeRouteHolds m.number m.chunk m.pairs (listed m) (taken m)) number k r now changed e.out h.merge.routes

      request_disk : RequestHolds n r
      request_disk = found_holds (RequestHolds n) number k r now changed e.out h.requests

      route_at : (j : ℕ) (d : SnapBooks) → j < length vs → (get_or vs j d).live ≡ true → RouteHolds (get_or vs j d).number (get_or vs j d).chunk (get_or vs j d).pairs (get_or vs j d).marks r
      route_at j d lt live = (let s = get_or vs j d in found_holds (RouteHolds s.number s.chunk s.pairs s.marks) number k r now changed e.out ((h.snaps j d lt).alive live).routes)

      holds_disk : Holds changed
      holds_disk = record {
        whole = e.disk.len ∙ h.whole;
        merge = merge_disk_write o o' rest m (origin_out o rs k (Some m) h.merge) first r.request.range.count (route_disk.write kind route) route_disk.piece.within e.disk;
        snaps = λ j d lt. (let s = get_or vs j d in disk_write_snap o o' rest s first r.request.range.count (snap_out o rs s k (h.snaps j d lt)) e.disk
            (λ live. (route_at j d lt live).piece.within) (λ live. (route_at j d lt live).origin_write kind route));
        requests = All-remove (RequestHolds n) rs k h.requests;
        numbers = h.numbers;
      }

      pub merge_write_disk_event : IsReply number IsWritten now changed
      merge_write_disk_event = record {
        holds = holds_disk;
        step = λ loud. record {
          request = r.request;
          asked = asked number k r now changed e.out;
          gone = gone number k r now changed e.out;
          served = serves_as (plain_of now) (plain_of changed) IsWritten r.request AtOrigin (Write bytes) (origin_write_is r.request.dev r.request.op kind) e.op (
            picture m.chunk o m.store,
            refl,
            record {
              origin = merge_disk_picture o o' rest m (origin_out o rs k (Some m) h.merge) first r.request.range.count (route_disk.write kind route) route_disk.piece.within e.disk bytes (loud.merge m refl)
                  (request_disk.bytes bytes e.op) (let i = request_disk.inside in let a = h.whole in omega (arith, i, a)) (e.written loud.origin);
              begun = refl;
              saved = same_map (entry_of o') (entry_of o) vs (λ j d lt. (let s = get_or vs j d in
                  disk_write_entry o o' rs s first r.request.range.count (h.snaps j d lt) (loud.snaps j d lt) e.disk
                  (λ live. (route_at j d lt live).piece.within) (λ live. (route_at j d lt live).origin_write kind route)));
            },
          );
        };
      }

-- begin_merge of snapshot k, which is live, in a quiet volume
pub begin_event : (o : List ℕ) (n : ℕ) (l : Bool) (vs : List SnapBooks) (k : ℕ) (s : SnapBooks) (loud : Bool) (buffer : List ℕ) → length buffer ≡ 512 * s.chunk → (loud ≡ true → s.loud ≡ true) → Holds (books o n l vs None [])
    → k < length vs → s ≡ get_or vs k s → s.live ≡ true → s.begun ≡ []
    → Holds (books o n l (remove vs k) (Some (begun s loud buffer)) []) × IsBegun (plain_of (books o n l vs None [])) s.number (plain_of (books o n l (remove vs k) (Some (begun s loud buffer)) []))
begin_event o n l vs k s loud buffer sized louder h within is live none =
    let v : Books = books o n l vs None [] in
    let holds = snap_holds v k s h within is in (
      record {
        whole = h.whole;
        merge = begin o s loud buffer (holds.alive live) none louder sized;
        snaps = All-remove (SnapHolds _ o []) vs k h.snaps;
        requests = h.requests;
        numbers = subst (AllPairs (λ a b. a ≢ b)) (sym (map-remove number_of vs k)) (all_pairs_remove (λ a b. a ≢ b) (map number_of vs) k (omega (arith, within, length-map vs number_of)) h.numbers);
      },
      record {
        array = picture s.chunk o s.store;
        found = saved_at o vs k s h.numbers within is ∙ ap (λ b. Some (shown s.number s.overflow b (picture s.chunk o s.store)).saved) live;
        alone = refl;
        becomes = ap (λ x. plain (picture s.chunk o s.store) (Some s.number) x []) (without_saved_at o vs k s h.numbers within is);
      },
    )

-- finish_merge in a quiet volume, with no pair left: the origin disk is the origin's array
pub finish_event : (o : List ℕ) (n : ℕ) (l : Bool) (vs : List SnapBooks) (m : MergeBooks) → Holds (books o n l vs (Some m) []) → m.loud ≡ true → m.pairs ≡ []
    → Holds (books o n l vs None []) × IsFinished (plain_of (books o n l vs (Some m) [])) (plain_of (books o n l vs None [])) × (o ≡ (plain_of (books o n l vs (Some m) [])).origin)
finish_event o n l vs m h loud none =
    let same : picture m.chunk o m.store ≡ o = finish o [] m h.merge loud none in (
      record { whole = h.whole; merge = All-nil UnmergedHolds; snaps = h.snaps; requests = h.requests; numbers = h.numbers },
      record { number = m.number; merged = refl; becomes = ap (λ x. plain x None (map (entry_of o) vs) []) (sym same) },
      sym same,
    )
