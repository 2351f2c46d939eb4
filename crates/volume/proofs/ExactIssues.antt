-- A request's own event is exact.
use Rattle.std.proofs.Common.{◌≡◌, ℕ, ◌+◌, ◌*◌, ◌%◌, ◌<◌, Bool, true, false, List, Some, length, get_or, set, map, refl, sym, ◌∙◌, ap}
use Rattle.std.specs.Prelude.{◌==◌, ◌&&◌, if◌then◌else◌}
use Rattle.std.specs.List.{list_all, position, remove}
use Rattle.std.proofs.lemmas.Bool.{eqb-true, eq-eqb}
use Rattle.sector.specs.Bytes.{sectors_at, with_sectors}
use Rattle.device.specs.Layers.{Layer, is_loud}
use Rattle.device.specs.declared.operation.Operation.TheVariants.{Reads, Writes, Flushes}
use Rattle.plain_machine.specs.declared.event.Event.TheVariants.{Issue}
use Rattle.plain_machine.specs.declared.event.Outcome.TheVariants.{Done as IsDone, Reply as Replied}
use Rattle.in_flight.specs.Flushed.{flushed_copy, safe_mark}
use Rattle.plain_machine.specs.declared.request.Dev.TheVariants.{Origin as ToOrigin, Snap as ToSnap}
use Rattle.plain_machine.specs.declared.request.Op.TheVariants.{Read as ReadOp, Write as WriteOp, Flush as FlushOp}
use Rattle.plain_machine.specs.declared.request.Reply.{Reply}
use Rattle.plain_machine.specs.declared.request.Reply.TheVariants.{Data, Written as Done, Flushed as DidFlush, Refused as Declined}
use Rattle.plain_machine.specs.declared.request.Failure.TheVariants.{Invalid, Io}
use Rattle.in_flight.specs.declared.flights.Flight.{Flight}
use Rattle.in_flight.specs.declared.flights.Route.TheVariants.{Origin, Store, Whole, Refused}
use Rattle.store.specs.Operations.{IsOneOperation}
use Rattle.merge.specs.Merging.{Merging}
use Rattle.snapshot.specs.Kept.{Kept}
use Rattle.volume.specs.Volumed.{Volumed, is_loud_in_all, is_loud_with}
use Rattle.volume.specs.Whole.{IsWhole}
use Rattle.volume.specs.Exact.{IsExact}
use Rattle.volume.proofs.MovedSnaps.{changed}
use Rattle.volume.proofs.MovedFound.{snap_first, flight_first}
use Rattle.volume.proofs.MovedIssues.{issue_refused, issue_origin_flush, issue_whole, issue_whole_io, issue_merging_flush, issue_merging_flush_io, issue_origin_read, issue_origin_write, issue_store_read, issue_store_write, issue_merging_read, issue_merging_write}
use Rattle.volume.proofs.Exactly.{loud_origin, loud_store}
use Rattle.volume.proofs.Shown.{and_right}

module _ {B : Type 0} (contents : B → List ℕ) (layers : B → List Layer) (size : B → ℕ) (v : Volumed B) (h : IsWhole contents layers size v)
    (n j : ℕ) (f : Flight) (found : position (λ (x : Flight). x.number == n) v.flights ≡ Some j) (at : f ≡ get_or v.flights j f) where
  -- its snapshot is spoiled
  pub refused_exact : f.route ≡ Refused → IsExact contents layers (Issue n) (Replied n (Declined Invalid)) v (record v { flights = remove v.flights j })
  refused_exact is = record { step = λ loud replied. issue_refused contents layers replied v n j f (flight_first n j f v.flights found at) is }

  module _ (ok : Bool) (faults faults' done done' : ℕ) (reply : Reply) where
    -- at the origin disk
    module _ (is : f.route ≡ Origin) (o' : B) where
      pub origin_read_exact : f.request.op ≡ ReadOp → IsOneOperation (Reads f.request.range.first f.request.range.count) ok (layers v.origin) (layers o') faults faults' done done'
          → contents o' ≡ contents v.origin → reply ≡ (if ok then Data (sectors_at (contents v.origin) f.request.range.first f.request.range.count) else Declined Io)
          → IsExact contents layers (Issue n) (Replied n reply) v (record v { origin = o'; flights = remove v.flights j })
      origin_read_exact kind one same answered = record {
        step = λ loud replied. issue_origin_read contents layers replied v n j f (flight_first n j f v.flights found at) ok faults faults' done done' is o' kind one same reply answered;
      }

      pub origin_write_exact : (bytes : List ℕ) → f.request.op ≡ WriteOp bytes → IsOneOperation (Writes f.request.range.first f.request.range.count) ok (layers v.origin) (layers o') faults faults' done done'
          → (is_loud (layers v.origin) ≡ true → contents o' ≡ (if ok then with_sectors (contents v.origin) f.request.range.first bytes else contents v.origin)) → reply ≡ (if ok then Done else Declined Io)
          → IsExact contents layers (Issue n) (Replied n reply) v (record v { origin = o'; flights = remove v.flights j })
      origin_write_exact bytes kind one written answered = record {
        step = λ loud replied. issue_origin_write contents layers replied v n j f (flight_first n j f v.flights found at) ok faults faults' done done' is o' bytes kind one (written (loud_origin contents layers size v h loud)) reply answered;
      }

      pub origin_flush_exact : f.request.op ≡ FlushOp → IsOneOperation Flushes ok (layers v.origin) (layers o') faults faults' done done'
          → contents o' ≡ contents v.origin → reply ≡ (if ok then DidFlush else Declined Io)
          → IsExact contents layers (Issue n) (Replied n reply) v (record v { origin = o'; flights = remove v.flights j })
      origin_flush_exact kind one same answered = record {
        step = λ loud replied. issue_origin_flush contents layers replied v n j f (flight_first n j f v.flights found at) ok faults faults' done done' is o' kind one same reply answered;
      }

    -- at its place on its snapshot's store
    module _ (place number k : ℕ) (is : f.route ≡ Store place) (dev : f.request.dev ≡ ToSnap number) (s s' : Kept B) (within : k < length v.snaps) (here : s ≡ get_or v.snaps k s) (mine : s.number ≡ number) (fields : s' ≡ record s { device = s'.device }) where
      abbrev start : ℕ
      start = s.state.chunk * place + f.request.range.first % s.state.chunk

      pub store_read_exact : f.request.op ≡ ReadOp → IsOneOperation (Reads start f.request.range.count) ok (layers s.device) (layers s'.device) faults faults' done done'
          → contents s'.device ≡ contents s.device → reply ≡ (if ok then Data (sectors_at (contents s.device) start f.request.range.count) else Declined Io)
          → IsExact contents layers (Issue n) (Replied n reply) v (changed v v.origin k s' (remove v.flights j))
      store_read_exact kind one same answered = record {
        step = λ loud replied. issue_store_read contents layers replied v n j f (flight_first n j f v.flights found at) ok faults faults' done done' place is number dev k s
            (snap_first contents layers size v h number k s within here (λ (x : Kept B). x.number == number) (λ x e. eqb-true x.number number e) (eq-eqb s.number number mine)) s'.device kind one same reply answered s' fields;
      }

      pub store_write_exact : (bytes : List ℕ) → f.request.op ≡ WriteOp bytes → IsOneOperation (Writes start f.request.range.count) ok (layers s.device) (layers s'.device) faults faults' done done'
          → (is_loud (layers s.device) ≡ true → contents s'.device ≡ (if ok then with_sectors (contents s.device) start bytes else contents s.device)) → reply ≡ (if ok then Done else Declined Io)
          → IsExact contents layers (Issue n) (Replied n reply) v (changed v v.origin k s' (remove v.flights j))
      store_write_exact bytes kind one written answered = record {
        step = λ loud replied. issue_store_write contents layers replied v n j f (flight_first n j f v.flights found at) ok faults faults' done done' place is number dev k s
            (snap_first contents layers size v h number k s within here (λ (x : Kept B). x.number == number) (λ x e. eqb-true x.number number e) (eq-eqb s.number number mine)) s'.device bytes kind one
            (written (loud_store contents layers size v h n k s within here loud)) reply answered s' fields;
      }

    -- at its chunk's place on the merging store
    module _ (place : ℕ) (is : f.route ≡ Store place) (dev : f.request.dev ≡ ToOrigin) (m : Merging B) (begun : v.merge ≡ Some m) (m' : Merging B) (fields : m' ≡ record m { device = m'.device }) where
      abbrev from : ℕ
      from = m.state.chunk * place + f.request.range.first % m.state.chunk

      loud_merging : is_loud_in_all layers v ≡ true → is_loud (layers m.device) ≡ true
      loud_merging loud =
          let others : Bool = is_loud (layers v.origin) && list_all (λ (s : Kept B). is_loud (layers s.device)) v.snaps in
          and_right others (is_loud (layers m.device)) (sym (ap (λ x. is_loud_with layers x others) begun) ∙ loud)

      pub merging_read_exact : f.request.op ≡ ReadOp → IsOneOperation (Reads from f.request.range.count) ok (layers m.device) (layers m'.device) faults faults' done done'
          → contents m'.device ≡ contents m.device → reply ≡ (if ok then Data (sectors_at (contents m.device) from f.request.range.count) else Declined Io)
          → IsExact contents layers (Issue n) (Replied n reply) v (record v { merge = Some m'; flights = remove v.flights j })
      merging_read_exact kind one same answered = record {
        step = λ loud replied. issue_merging_read contents layers replied v n j f (flight_first n j f v.flights found at) ok faults faults' done done' place is dev m begun m'.device m' fields kind one same reply answered;
      }

      pub merging_write_exact : (bytes : List ℕ) → f.request.op ≡ WriteOp bytes → IsOneOperation (Writes from f.request.range.count) ok (layers m.device) (layers m'.device) faults faults' done done'
          → (is_loud (layers m.device) ≡ true → contents m'.device ≡ (if ok then with_sectors (contents m.device) from bytes else contents m.device)) → reply ≡ (if ok then Done else Declined Io)
          → IsExact contents layers (Issue n) (Replied n reply) v (record v { merge = Some m'; flights = remove v.flights j })
      merging_write_exact bytes kind one written answered = record {
        step = λ loud replied. issue_merging_write contents layers replied v n j f (flight_first n j f v.flights found at) ok faults faults' done done' place is dev m begun m'.device m' fields bytes kind one (written (loud_merging loud)) reply answered;
      }

  -- at the whole store of its snapshot
  module _ (faults faults' done done' : ℕ) (number k : ℕ) (is : f.route ≡ Whole) (dev : f.request.dev ≡ ToSnap number) (s s' : Kept B) (within : k < length v.snaps) (here : s ≡ get_or v.snaps k s) (mine : s.number ≡ number) (same : contents s'.device ≡ contents s.device) where
    pub whole_exact : IsOneOperation Flushes true (layers s.device) (layers s'.device) faults faults' done done'
        → s' ≡ record s { device = s'.device; state = record s.state { firm = s.state.zeroed; sure = length s.pairs }; copies = map flushed_copy s.copies; marks = map safe_mark s.marks }
        → IsExact contents layers (Issue n) (Replied n DidFlush) v (changed v v.origin k s' (remove v.flights j))
    whole_exact one fields = record {
      step = λ loud replied. issue_whole contents layers replied v n j f (flight_first n j f v.flights found at) true faults faults' done done' is number dev k s
          (snap_first contents layers size v h number k s within here (λ (x : Kept B). x.number == number) (λ x e. eqb-true x.number number e) (eq-eqb s.number number mine)) s'.device one same refl s' fields;
    }

    pub whole_io_exact : IsOneOperation Flushes false (layers s.device) (layers s'.device) faults faults' done done' → s' ≡ record s { device = s'.device }
        → IsExact contents layers (Issue n) (Replied n (Declined Io)) v (changed v v.origin k s' (remove v.flights j))
    whole_io_exact one fields = record {
      step = λ loud replied. issue_whole_io contents layers replied v n j f (flight_first n j f v.flights found at) false faults faults' done done' is number dev k s
          (snap_first contents layers size v h number k s within here (λ (x : Kept B). x.number == number) (λ x e. eqb-true x.number number e) (eq-eqb s.number number mine)) s'.device one same refl s' fields;
    }

  -- at the merging store
  module _ (faults faults' done done' : ℕ) (is : f.route ≡ Whole) (dev : f.request.dev ≡ ToOrigin) (m : Merging B) (begun : v.merge ≡ Some m) (m' : Merging B) (fields : m' ≡ record m { device = m'.device }) (same : contents m'.device ≡ contents m.device) where
    pub merging_flush_exact : IsOneOperation Flushes true (layers m.device) (layers m'.device) faults faults' done done'
        → IsExact contents layers (Issue n) IsDone v (record v { merge = Some m'; flights = set v.flights j (record f { route = Origin }) })
    merging_flush_exact one = record {
      step = λ loud replied. issue_merging_flush contents layers replied v n j f (flight_first n j f v.flights found at) true faults faults' done done' is dev m begun m'.device one same m' fields refl;
    }

    pub merging_flush_io_exact : IsOneOperation Flushes false (layers m.device) (layers m'.device) faults faults' done done'
        → IsExact contents layers (Issue n) (Replied n (Declined Io)) v (record v { merge = Some m'; flights = remove v.flights j })
    merging_flush_io_exact one = record {
      step = λ loud replied. issue_merging_flush_io contents layers replied v n j f (flight_first n j f v.flights found at) false faults faults' done done' is dev m begun m'.device one same m' fields refl;
    }
