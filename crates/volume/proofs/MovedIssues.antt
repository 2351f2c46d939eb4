-- A request goes where its route says, and is answered.
use Rattle.std.proofs.Common.{◌≡◌, ℕ, ◌+◌, ◌*◌, ◌%◌, Bool, true, false, List, Option, Some, length, get_or, set, map, refl, sym, ◌∙◌, ap}
use Rattle.std.specs.Prelude.{◌==◌, ◌&&◌, if◌then◌else◌}
use Rattle.std.specs.List.{remove}
use Rattle.sector.specs.Bytes.{sectors_at, with_sectors}
use Rattle.device.specs.Layers.{Layer}
use Rattle.device.specs.declared.operation.Operation.{Operation}
use Rattle.device.specs.declared.operation.Operation.TheVariants.{Reads, Writes, Flushes}
use Rattle.plain_machine.specs.declared.event.Event.TheVariants.{Issue}
use Rattle.plain_machine.specs.declared.request.Dev.{Dev}
use Rattle.plain_machine.specs.declared.request.Dev.TheVariants.{Origin as ToOrigin, Snap as ToSnap}
use Rattle.plain_machine.specs.declared.request.Op.{Op}
use Rattle.plain_machine.specs.declared.request.Op.TheVariants.{Read as ReadOp, Write as WriteOp, Flush as FlushOp}
use Rattle.plain_machine.specs.declared.request.Reply.{Reply}
use Rattle.plain_machine.specs.declared.request.Reply.TheVariants.{Data, Written as Done, Flushed as DidFlush, Refused as Declined}
use Rattle.plain_machine.specs.declared.request.Failure.TheVariants.{Invalid, Io}
use Rattle.in_flight.specs.Due.{is_routed}
use Rattle.in_flight.specs.declared.flights.Flight.{Flight}
use Rattle.in_flight.specs.declared.flights.Route.{Route}
use Rattle.in_flight.specs.declared.flights.Route.TheVariants.{Origin, Store, Whole, Refused}
use Rattle.store.specs.Operations.{IsOneOperation}
use Rattle.whole_commands.specs.Devices.{Device, answers, flush_reply, met, written_by, read_reply}
use Rattle.event_machine.specs.Held.{Copying, SnapHeld, Going, MergeHeld, Moving, flushed_held, on_device, with_merge, with_store}
use Rattle.event_machine.specs.Due.{is_issuable}
use Rattle.event_machine.specs.MergeSeen.{held_in, merge_held_of}
use Rattle.event_machine.specs.Seen.{going_of}
use Rattle.event_machine.specs.Stepping.{for_some, with_first, without_first, put, answer, write_reply, on_disk, on_merging, on_store, on_place, on_whole, flush_asked, flush_merging, issue, stepped}
use Rattle.merge.specs.Merging.{Merging, due_of as merging_due}
use Rattle.snapshot.specs.Kept.{Kept}
use Rattle.volume.specs.Volumed.{Volumed}
use Rattle.volume.specs.Moved.{device_of, held_of, merge_seen, moving_of}
use Rattle.volume.proofs.MovedLists.{IsFirst, first_is, if_true, if_false, with_is, without_seen}
use Rattle.volume.proofs.MovedMarks.{flushed_seen}
use Rattle.volume.proofs.MovedSnaps.{changed, device_by, met_is}
use Rattle.in_flight.specs.Flushed.{flushed_copy, safe_mark}

-- whether it is found, and goes somewhere
pub issuable_first : (n j : ℕ) (f : Flight) (fs : List Flight) → IsFirst (λ (x : Flight). x.number == n) j f fs → is_routed f.route ≡ true → IsFirst (λ (x : Flight). (x.number == n) && is_routed x.route) j f fs
issuable_first n j f fs found routed = record {
  within = found.within;
  is = found.is;
  passes = ap (λ b. b && is_routed f.route) found.passes ∙ routed;
  before = λ i d lt. ap (λ b. b && is_routed (get_or fs i d).route) (found.before i d lt);
}

-- a machine by its parts
machine_is : (replied : Option Reply) (started : ℕ) (o o' : Device) (hs hs' : List SnapHeld) (g g' : Option MergeHeld) (rs rs' : List Going) → o ≡ o' → hs ≡ hs' → g ≡ g' → rs ≡ rs'
    → ◌≡◌ {A = Moving} (record { origin = o; snaps = hs; merge = g; requests = rs; replied = replied; started = started }) (record { origin = o'; snaps = hs'; merge = g'; requests = rs'; replied = replied; started = started })
machine_is replied started o o' hs hs' g g' rs rs' po ps pm pr =
    ap (λ (x : Device). record { origin = x; snaps = hs; merge = g; requests = rs; replied = replied; started = started }) po
    ∙ ap (λ (x : List SnapHeld). record { origin = o'; snaps = x; merge = g; requests = rs; replied = replied; started = started }) ps
    ∙ ap (λ (x : Option MergeHeld). record { origin = o'; snaps = hs'; merge = x; requests = rs; replied = replied; started = started }) pm
    ∙ ap (λ (x : List Going). record { origin = o'; snaps = hs'; merge = g'; requests = x; replied = replied; started = started }) pr

module _ {B : Type 0} (contents : B → List ℕ) (layers : B → List Layer) where
  -- the device after an operation that was answered, or not
  written_is : (op : Operation) (bytes : List ℕ) (ok : Bool) (faults faults' done done' : ℕ) (o o' : B) → IsOneOperation op ok (layers o) (layers o') faults faults' done done'
      → contents o' ≡ (if ok then bytes else contents o) → written_by (device_of contents layers o) op bytes ≡ device_of contents layers o'
  written_is op bytes ok faults faults' done done' o o' one new =
      let same : ok ≡ answers (device_of contents layers o) op = one.answer in
      device_by contents layers (if answers (device_of contents layers o) op then bytes else contents o) (contents o') (written_by (device_of contents layers o) op bytes).layers (layers o')
      (sym (new ∙ ap (λ (b : Bool). if b then bytes else contents o) same)) (sym one.layers)

  module _ (replied : Option Reply) (v : Volumed B) (n j : ℕ) (f : Flight) (found : IsFirst (λ (x : Flight). x.number == n) j f v.flights) where
    -- the volume without it
    abbrev left : Volumed B → Volumed B
    left w = record w { flights = remove v.flights j }

    answered_is : (reply : Reply) (o : Device) (o' : B) (hs : List SnapHeld) (snaps : List (Kept B)) (g : Option MergeHeld) (merge : Option (Merging B)) → o ≡ device_of contents layers o' → hs ≡ map (held_of contents layers) snaps → g ≡ held_in (merge_seen contents layers merge)
        → answer (λ (r : Going). r.number == n) reply (record (moving_of contents layers replied v) { origin = o; snaps = hs; merge = g })
        ≡ moving_of contents layers (Some reply) (record v { origin = o'; snaps = snaps; merge = merge; flights = remove v.flights j })
    answered_is reply o o' hs snaps g merge disk is beside =
        machine_is (Some reply) v.copies o (device_of contents layers o') hs (map (held_of contents layers) snaps) g (held_in (merge_seen contents layers merge))
        (without_first (λ (r : Going). r.number == n) (map going_of v.flights)) (map going_of (remove v.flights j)) disk is beside (without_seen going_of (λ (r : Going). r.number == n) j f v.flights found)

    issue_is : (route : Route) → f.route ≡ route → is_routed route ≡ true
        → stepped (Issue n) (moving_of contents layers replied v) ≡ issue route (λ (r : Going). r.number == n) (going_of f) (moving_of contents layers replied v)
    issue_is route is routed =
        let m : Moving = moving_of contents layers replied v in
        let first : IsFirst (λ (x : Flight). (x.number == n) && is_routed x.route) j f v.flights = issuable_first n j f v.flights found (ap is_routed is ∙ routed) in
        ap (λ (x : Option Going). for_some x (λ r. issue r.route (λ k. k.number == n) r m) m) (first_is going_of (λ (r : Going). (r.number == n) && is_issuable r) j f v.flights first)
        ∙ ap (λ (x : Route). issue x (λ k. k.number == n) (going_of f) m) is

    -- of a spoiled snapshot
    pub issue_refused : f.route ≡ Refused → stepped (Issue n) (moving_of contents layers replied v) ≡ moving_of contents layers (Some (Declined Invalid)) (record v { flights = remove v.flights j })
    issue_refused is = issue_is Refused is refl ∙ answered_is (Declined Invalid) (device_of contents layers v.origin) v.origin (map (held_of contents layers) v.snaps) v.snaps (held_in (merge_seen contents layers v.merge)) v.merge refl refl refl

    module _ (ok : Bool) (faults faults' done done' : ℕ) where
      module _ (is : f.route ≡ Origin) (o' : B) where
        -- it reads the origin disk
        pub issue_origin_read : f.request.op ≡ ReadOp → IsOneOperation (Reads f.request.range.first f.request.range.count) ok (layers v.origin) (layers o') faults faults' done done'
            → contents o' ≡ contents v.origin → (reply : Reply) → reply ≡ (if ok then Data (sectors_at (contents v.origin) f.request.range.first f.request.range.count) else Declined Io)
            → stepped (Issue n) (moving_of contents layers replied v) ≡ moving_of contents layers (Some reply) (record v { origin = o'; flights = remove v.flights j })
        issue_origin_read kind one same reply answered =
            let m : Moving = moving_of contents layers replied v in
            let first : ℕ = f.request.range.first in
            let count : ℕ = f.request.range.count in
            let mine : Going → Bool = λ (r : Going). r.number == n in
            let reply_is : read_reply m.origin first count ≡ reply = sym (answered ∙ ap (λ (b : Bool). if b then Data (sectors_at (contents v.origin) first count) else Declined Io) one.answer) in
            issue_is Origin is refl ∙ ap (λ (op : Op). on_disk op first count mine m) kind
            ∙ ap (λ (x : Reply). answer mine x (record m { origin = met m.origin (Reads first count) })) reply_is
            ∙ answered_is reply (met m.origin (Reads first count)) o' m.snaps v.snaps m.merge v.merge (device_by contents layers (contents v.origin) (contents o') (met m.origin (Reads first count)).layers (layers o') (sym same) (sym one.layers)) refl refl

        -- it writes it
        pub issue_origin_write : (bytes : List ℕ) → f.request.op ≡ WriteOp bytes → IsOneOperation (Writes f.request.range.first f.request.range.count) ok (layers v.origin) (layers o') faults faults' done done'
            → contents o' ≡ (if ok then with_sectors (contents v.origin) f.request.range.first bytes else contents v.origin) → (reply : Reply) → reply ≡ (if ok then Done else Declined Io)
            → stepped (Issue n) (moving_of contents layers replied v) ≡ moving_of contents layers (Some reply) (record v { origin = o'; flights = remove v.flights j })
        issue_origin_write bytes kind one new reply answered =
            let m : Moving = moving_of contents layers replied v in
            let first : ℕ = f.request.range.first in
            let count : ℕ = f.request.range.count in
            let mine : Going → Bool = λ (r : Going). r.number == n in
            let after : Device = written_by m.origin (Writes first count) (with_sectors (contents v.origin) first bytes) in
            let reply_is : write_reply m.origin first count ≡ reply = sym (answered ∙ ap (λ (b : Bool). if b then Done else Declined Io) one.answer) in
            issue_is Origin is refl ∙ ap (λ (op : Op). on_disk op first count mine m) kind
            ∙ ap (λ (x : Reply). answer mine x (record m { origin = after })) reply_is
            ∙ answered_is reply after o' m.snaps v.snaps m.merge v.merge (written_is (Writes first count) (with_sectors (contents v.origin) first bytes) ok faults faults' done done' v.origin o' one new) refl refl

        -- it flushes it
        pub issue_origin_flush : f.request.op ≡ FlushOp → IsOneOperation Flushes ok (layers v.origin) (layers o') faults faults' done done'
            → contents o' ≡ contents v.origin → (reply : Reply) → reply ≡ (if ok then DidFlush else Declined Io)
            → stepped (Issue n) (moving_of contents layers replied v) ≡ moving_of contents layers (Some reply) (record v { origin = o'; flights = remove v.flights j })
        issue_origin_flush kind one same reply answered =
            let m : Moving = moving_of contents layers replied v in
            let first : ℕ = f.request.range.first in
            let count : ℕ = f.request.range.count in
            let mine : Going → Bool = λ (r : Going). r.number == n in
            let reply_is : flush_reply m.origin ≡ reply = sym (answered ∙ ap (λ (b : Bool). if b then DidFlush else Declined Io) one.answer) in
            issue_is Origin is refl ∙ ap (λ (op : Op). on_disk op first count mine m) kind
            ∙ ap (λ (x : Reply). answer mine x (record m { origin = met m.origin Flushes })) reply_is
            ∙ answered_is reply (met m.origin Flushes) o' m.snaps v.snaps m.merge v.merge (device_by contents layers (contents v.origin) (contents o') (met m.origin Flushes).layers (layers o') (sym same) (sym one.layers)) refl refl

      -- it flushes its snapshot's store
      module _ (is : f.route ≡ Whole) (number : ℕ) (dev : f.request.dev ≡ ToSnap number) (k : ℕ) (s : Kept B) (of : IsFirst (λ (x : Kept B). x.number == number) k s v.snaps) (d : B)
          (one : IsOneOperation Flushes ok (layers s.device) (layers d) faults faults' done done') (same : contents d ≡ contents s.device) where
        abbrev met_store : SnapHeld
        met_store = with_store (held_of contents layers s) (met (held_of contents layers s).snap.store Flushes)

        on_whole_is : stepped (Issue n) (moving_of contents layers replied v) ≡ flush_asked (λ (r : Going). r.number == n) (λ (x : SnapHeld). x.snap.number == number) (held_of contents layers s) (moving_of contents layers replied v)
        on_whole_is =
            let m : Moving = moving_of contents layers replied v in
            let mine : Going → Bool = λ (r : Going). r.number == n in
            let test : SnapHeld → Bool = λ (x : SnapHeld). x.snap.number == number in
            issue_is Whole is refl ∙ ap (λ (x : Dev). on_whole x mine (going_of f) m) dev
            ∙ ap (λ (x : Option SnapHeld). for_some x (λ h. flush_asked mine test h m) m) (first_is (held_of contents layers) test k s v.snaps of)

        store_is : met (held_of contents layers s).snap.store Flushes ≡ device_of contents layers d
        store_is = met_is contents layers Flushes ok faults faults' done done' s.device d one same

        -- the snapshot goes on as s'
        put_whole : (x : SnapHeld) (s' : Kept B) (reply : Reply) → x ≡ held_of contents layers s'
            → answer (λ (r : Going). r.number == n) reply (put (λ (y : SnapHeld). y.snap.number == number) x (moving_of contents layers replied v)) ≡ moving_of contents layers (Some reply) (changed v v.origin k s' (remove v.flights j))
        put_whole x s' reply seen =
            let m : Moving = moving_of contents layers replied v in
            let test : SnapHeld → Bool = λ (y : SnapHeld). y.snap.number == number in
            answered_is reply m.origin v.origin (with_first test x m.snaps) (set v.snaps k s') m.merge v.merge refl
            (ap (λ (y : SnapHeld). with_first test y m.snaps) seen ∙ with_is (held_of contents layers) test k s s' v.snaps of) refl

        -- the two ways on
        abbrev flushed_way : Moving
        flushed_way = answer (λ (r : Going). r.number == n) DidFlush (put (λ (y : SnapHeld). y.snap.number == number) (flushed_held met_store) (moving_of contents layers replied v))

        abbrev failed_way : Moving
        failed_way = answer (λ (r : Going). r.number == n) (Declined Io) (put (λ (y : SnapHeld). y.snap.number == number) met_store (moving_of contents layers replied v))

        pub issue_whole_io : ok ≡ false → (s' : Kept B) → s' ≡ record s { device = d } → stepped (Issue n) (moving_of contents layers replied v) ≡ moving_of contents layers (Some (Declined Io)) (changed v v.origin k s' (remove v.flights j))
        issue_whole_io fails s' s_is =
            on_whole_is ∙ if_false (answers (held_of contents layers s).snap.store Flushes) flushed_way failed_way (sym one.answer ∙ fails)
            ∙ put_whole met_store s' (Declined Io) (ap (λ (x : Device). with_store (held_of contents layers s) x) store_is ∙ sym (ap (held_of contents layers) s_is))

        pub issue_whole : ok ≡ true → (s' : Kept B) → s' ≡ record s { device = d; state = record s.state { firm = s.state.zeroed; sure = length s.pairs }; copies = map flushed_copy s.copies; marks = map safe_mark s.marks }
            → stepped (Issue n) (moving_of contents layers replied v) ≡ moving_of contents layers (Some DidFlush) (changed v v.origin k s' (remove v.flights j))
        issue_whole works s' s_is =
            let h : SnapHeld = held_of contents layers s in
            on_whole_is ∙ if_true (answers h.snap.store Flushes) flushed_way failed_way (sym one.answer ∙ works)
            ∙ put_whole (flushed_held met_store) s' DidFlush
            (ap (λ (x : Device). flushed_held (with_store h x)) store_is
            ∙ ap (λ (cs : List Copying). record (flushed_held (with_store h (device_of contents layers d))) { copies = cs }) (flushed_seen s.copies)
            ∙ sym (ap (held_of contents layers) s_is))

      -- of the origin, it flushes the merging store
      module _ (is : f.route ≡ Whole) (dev : f.request.dev ≡ ToOrigin) (g : Merging B) (begun : v.merge ≡ Some g) (d : B) (one : IsOneOperation Flushes ok (layers g.device) (layers d) faults faults' done done') (same : contents d ≡ contents g.device)
          (g' : Merging B) (g_is : g' ≡ record g { device = d }) where
        abbrev merge_seen_as : Merging B → MergeHeld
        merge_seen_as x = merge_held_of (record { due = merging_due contents true x; layers = layers x.device; next = x.next })

        abbrev met_merge : MergeHeld
        met_merge = on_device (merge_seen_as g) (met (merge_seen_as g).merge.store Flushes)

        on_merging_is : stepped (Issue n) (moving_of contents layers replied v) ≡ flush_merging (λ (r : Going). r.number == n) (going_of f) (merge_seen_as g) (moving_of contents layers replied v)
        on_merging_is =
            let m : Moving = moving_of contents layers replied v in
            let mine : Going → Bool = λ (r : Going). r.number == n in
            issue_is Whole is refl ∙ ap (λ (x : Dev). on_whole x mine (going_of f) m) dev
            ∙ ap (λ (x : Option (Merging B)). for_some (held_in (merge_seen contents layers x)) (λ h. flush_merging mine (going_of f) h m) m) begun

        merge_after : Some met_merge ≡ held_in (merge_seen contents layers (Some g'))
        merge_after = ap (λ (x : Device). Some (on_device (merge_seen_as g) x)) (met_is contents layers Flushes ok faults faults' done done' g.device d one same) ∙ sym (ap (λ (x : Merging B). Some (merge_seen_as x)) g_is)

        pub issue_merging_flush_io : ok ≡ false → stepped (Issue n) (moving_of contents layers replied v) ≡ moving_of contents layers (Some (Declined Io)) (record v { merge = Some g'; flights = remove v.flights j })
        issue_merging_flush_io fails =
            let m : Moving = moving_of contents layers replied v in
            let mine : Going → Bool = λ (r : Going). r.number == n in
            let w : Moving = with_merge met_merge m in
            let x : Moving = record w { requests = with_first mine (record (going_of f) { route = Origin }) w.requests } in
            on_merging_is
            ∙ if_false (answers (merge_seen_as g).merge.store Flushes) x (answer mine (Declined Io) w) (sym one.answer ∙ fails)
            ∙ answered_is (Declined Io) m.origin v.origin m.snaps v.snaps (Some met_merge) (Some g') refl refl merge_after

        pub issue_merging_flush : ok ≡ true → stepped (Issue n) (moving_of contents layers replied v) ≡ moving_of contents layers replied (record v { merge = Some g'; flights = set v.flights j (record f { route = Origin }) })
        issue_merging_flush works =
            let m : Moving = moving_of contents layers replied v in
            let mine : Going → Bool = λ (r : Going). r.number == n in
            let w : Moving = with_merge met_merge m in
            let x : Moving = record w { requests = with_first mine (record (going_of f) { route = Origin }) w.requests } in
            let on : Flight = record f { route = Origin } in
            on_merging_is
            ∙ if_true (answers (merge_seen_as g).merge.store Flushes) x (answer mine (Declined Io) w) (sym one.answer ∙ works)
            ∙ machine_is replied v.copies m.origin m.origin m.snaps m.snaps (Some met_merge) (held_in (merge_seen contents layers (Some g'))) (with_first mine (going_of on) m.requests) (map going_of (set v.flights j on)) refl refl merge_after
            (with_is going_of mine j f on v.flights found)

      module _ (place : ℕ) (is : f.route ≡ Store place) (number : ℕ) (dev : f.request.dev ≡ ToSnap number) (k : ℕ) (s : Kept B) (of : IsFirst (λ (x : Kept B). x.number == number) k s v.snaps) (d : B) where
        abbrev start : ℕ
        start = s.state.chunk * place + f.request.range.first % s.state.chunk

        -- it goes to its place
        on_place_is : (op : Op) → f.request.op ≡ op → stepped (Issue n) (moving_of contents layers replied v)
            ≡ on_store op start f.request.range.count (λ (r : Going). r.number == n) (λ (x : SnapHeld). x.snap.number == number) (held_of contents layers s) (moving_of contents layers replied v)
        on_place_is op kind =
            let m : Moving = moving_of contents layers replied v in
            let mine : Going → Bool = λ (r : Going). r.number == n in
            let first : ℕ = f.request.range.first in
            let count : ℕ = f.request.range.count in
            issue_is (Store place) is refl ∙ ap (λ (x : Dev). on_place x f.request.op place first count mine m) dev ∙ ap (λ (x : Op). on_place (ToSnap number) x place first count mine m) kind
            ∙ ap (λ (x : Option SnapHeld). for_some x (λ h. on_store op (h.snap.chunk * place + first % h.snap.chunk) count mine (λ (y : SnapHeld). y.snap.number == number) h m) m)
            (first_is (held_of contents layers) (λ (y : SnapHeld). y.snap.number == number) k s v.snaps of)

        -- it reads its snapshot's store
        pub issue_store_read : f.request.op ≡ ReadOp → IsOneOperation (Reads start f.request.range.count) ok (layers s.device) (layers d) faults faults' done done'
            → contents d ≡ contents s.device → (reply : Reply) → reply ≡ (if ok then Data (sectors_at (contents s.device) start f.request.range.count) else Declined Io) → (s' : Kept B) → s' ≡ record s { device = d }
            → stepped (Issue n) (moving_of contents layers replied v) ≡ moving_of contents layers (Some reply) (changed v v.origin k s' (remove v.flights j))
        issue_store_read kind one same reply answered s' s_is =
            let m : Moving = moving_of contents layers replied v in
            let h : SnapHeld = held_of contents layers s in
            let count : ℕ = f.request.range.count in
            let mine : Going → Bool = λ (r : Going). r.number == n in
            let test : SnapHeld → Bool = λ (x : SnapHeld). x.snap.number == number in
            let after : Device = met h.snap.store (Reads start count) in
            let reply_is : read_reply h.snap.store start count ≡ reply = sym (answered ∙ ap (λ (b : Bool). if b then Data (sectors_at (contents s.device) start count) else Declined Io) one.answer) in
            let after_is : after ≡ device_of contents layers d = device_by contents layers (contents s.device) (contents d) after.layers (layers d) (sym same) (sym one.layers) in
            on_place_is ReadOp kind
            ∙ ap (λ (x : Reply). answer mine x (put test (with_store h after) m)) reply_is
            ∙ answered_is reply m.origin v.origin (with_first test (with_store h after) m.snaps) (set v.snaps k s') m.merge v.merge refl
            (ap (λ (x : SnapHeld). with_first test x m.snaps) (ap (λ (x : Device). with_store h x) after_is ∙ sym (ap (held_of contents layers) s_is)) ∙ with_is (held_of contents layers) test k s s' v.snaps of) refl

        -- it writes it
        pub issue_store_write : (bytes : List ℕ) → f.request.op ≡ WriteOp bytes → IsOneOperation (Writes start f.request.range.count) ok (layers s.device) (layers d) faults faults' done done'
            → contents d ≡ (if ok then with_sectors (contents s.device) start bytes else contents s.device) → (reply : Reply) → reply ≡ (if ok then Done else Declined Io) → (s' : Kept B) → s' ≡ record s { device = d }
            → stepped (Issue n) (moving_of contents layers replied v) ≡ moving_of contents layers (Some reply) (changed v v.origin k s' (remove v.flights j))
        issue_store_write bytes kind one new reply answered s' s_is =
            let m : Moving = moving_of contents layers replied v in
            let h : SnapHeld = held_of contents layers s in
            let count : ℕ = f.request.range.count in
            let mine : Going → Bool = λ (r : Going). r.number == n in
            let test : SnapHeld → Bool = λ (x : SnapHeld). x.snap.number == number in
            let after : Device = written_by h.snap.store (Writes start count) (with_sectors (contents s.device) start bytes) in
            let reply_is : write_reply h.snap.store start count ≡ reply = sym (answered ∙ ap (λ (b : Bool). if b then Done else Declined Io) one.answer) in
            let after_is : after ≡ device_of contents layers d = written_is (Writes start count) (with_sectors (contents s.device) start bytes) ok faults faults' done done' s.device d one new in
            on_place_is (WriteOp bytes) kind
            ∙ ap (λ (x : Reply). answer mine x (put test (with_store h after) m)) reply_is
            ∙ answered_is reply m.origin v.origin (with_first test (with_store h after) m.snaps) (set v.snaps k s') m.merge v.merge refl
            (ap (λ (x : SnapHeld). with_first test x m.snaps) (ap (λ (x : Device). with_store h x) after_is ∙ sym (ap (held_of contents layers) s_is)) ∙ with_is (held_of contents layers) test k s s' v.snaps of) refl

      -- of the origin, at its chunk's place on the merging store
      module _ (place : ℕ) (is : f.route ≡ Store place) (dev : f.request.dev ≡ ToOrigin) (g : Merging B) (begun : v.merge ≡ Some g) (d : B) where
        abbrev from : ℕ
        from = g.state.chunk * place + f.request.range.first % g.state.chunk

        -- the merge as the machine has it
        abbrev merging : Merging B → MergeHeld
        merging x = merge_held_of (record { due = merging_due contents true x; layers = layers x.device; next = x.next })

        -- it goes to its place
        at_place_is : (op : Op) → f.request.op ≡ op
            → stepped (Issue n) (moving_of contents layers replied v) ≡ on_merging op from f.request.range.count (λ (r : Going). r.number == n) (merging g) (moving_of contents layers replied v)
        at_place_is op kind =
            let m : Moving = moving_of contents layers replied v in
            let mine : Going → Bool = λ (r : Going). r.number == n in
            let first : ℕ = f.request.range.first in
            let count : ℕ = f.request.range.count in
            issue_is (Store place) is refl ∙ ap (λ (x : Dev). on_place x f.request.op place first count mine m) dev ∙ ap (λ (x : Op). on_place ToOrigin x place first count mine m) kind
            ∙ ap (λ (x : Option (Merging B)). for_some (held_in (merge_seen contents layers x)) (λ h. on_merging op (h.merge.chunk * place + first % h.merge.chunk) count mine h m) m) begun

        module _ (g' : Merging B) (g_is : g' ≡ record g { device = d }) where
          -- the merge afterwards
          after_merge : (store : Device) → store ≡ device_of contents layers d → Some (on_device (merging g) store) ≡ held_in (merge_seen contents layers (Some g'))
          after_merge store is_store = ap (λ (x : Device). Some (on_device (merging g) x)) is_store ∙ sym (ap (λ (x : Merging B). Some (merging x)) g_is)

          -- it reads the merging store
          pub issue_merging_read : f.request.op ≡ ReadOp → IsOneOperation (Reads from f.request.range.count) ok (layers g.device) (layers d) faults faults' done done'
              → contents d ≡ contents g.device → (reply : Reply) → reply ≡ (if ok then Data (sectors_at (contents g.device) from f.request.range.count) else Declined Io)
              → stepped (Issue n) (moving_of contents layers replied v) ≡ moving_of contents layers (Some reply) (record v { merge = Some g'; flights = remove v.flights j })
          issue_merging_read kind one same reply answered =
              let m : Moving = moving_of contents layers replied v in
              let count : ℕ = f.request.range.count in
              let mine : Going → Bool = λ (r : Going). r.number == n in
              let after : Device = met (merging g).merge.store (Reads from count) in
              let reply_is : read_reply (merging g).merge.store from count ≡ reply = sym (answered ∙ ap (λ (b : Bool). if b then Data (sectors_at (contents g.device) from count) else Declined Io) one.answer) in
              let after_is : after ≡ device_of contents layers d = device_by contents layers (contents g.device) (contents d) after.layers (layers d) (sym same) (sym one.layers) in
              at_place_is ReadOp kind
              ∙ ap (λ (x : Reply). answer mine x (with_merge (on_device (merging g) after) m)) reply_is
              ∙ answered_is reply m.origin v.origin m.snaps v.snaps (Some (on_device (merging g) after)) (Some g') refl refl (after_merge after after_is)

          -- it writes it
          pub issue_merging_write : (bytes : List ℕ) → f.request.op ≡ WriteOp bytes → IsOneOperation (Writes from f.request.range.count) ok (layers g.device) (layers d) faults faults' done done'
              → contents d ≡ (if ok then with_sectors (contents g.device) from bytes else contents g.device) → (reply : Reply) → reply ≡ (if ok then Done else Declined Io)
              → stepped (Issue n) (moving_of contents layers replied v) ≡ moving_of contents layers (Some reply) (record v { merge = Some g'; flights = remove v.flights j })
          issue_merging_write bytes kind one new reply answered =
              let m : Moving = moving_of contents layers replied v in
              let count : ℕ = f.request.range.count in
              let mine : Going → Bool = λ (r : Going). r.number == n in
              let after : Device = written_by (merging g).merge.store (Writes from count) (with_sectors (contents g.device) from bytes) in
              let reply_is : write_reply (merging g).merge.store from count ≡ reply = sym (answered ∙ ap (λ (b : Bool). if b then Done else Declined Io) one.answer) in
              let after_is : after ≡ device_of contents layers d = written_is (Writes from count) (with_sectors (contents g.device) from bytes) ok faults faults' done done' g.device d one new in
              at_place_is (WriteOp bytes) kind
              ∙ ap (λ (x : Reply). answer mine x (with_merge (on_device (merging g) after) m)) reply_is
              ∙ answered_is reply m.origin v.origin m.snaps v.snaps (Some (on_device (merging g) after)) (Some g') refl refl (after_merge after after_is)
