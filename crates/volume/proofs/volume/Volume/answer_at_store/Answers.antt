-- A read of a snapshot is answered at its store.
use Rattle.std.proofs.Common.{◌≡◌, ◌+◌, ◌*◌, ◌/◌, ◌%◌, ◌^◌, rules, ◌<◌, ◌∙◌, [], None, Some, true, false, arith, ap, length, subst, sym}
use Rattle.std.proofs.Math.Nat.{mod-lt}
use Rattle.std.proofs.lemmas.List.{with_items_is}
use Rattle.sector.specs.Bytes.{sectors_at}
use Rattle.device.specs.declared.operation.Operation.TheVariants.{Reads}
use Rattle.in_flight.specs.Due.{is_routed}
use Rattle.in_flight.specs.declared.flights.Flight.{Flight}
use Rattle.store.specs.Operations.{IsOneOperation}
use Rattle.snapshot.specs.Kept.{Kept}
use Rattle.volume.specs.AtDisk.{IsReadOf}
use Rattle.volume.specs.Leaving.{is_quiet_of}
use Rattle.volume.specs.Submitting.{entered_of}
use Rattle.volume.specs.Volumed.{Volumed}
use Rattle.volume.specs.Whole.{IsWhole}
use Rattle.volume.proofs.AtOnce.{asked_alone, part_at_once, quiet_at_store, room_at_once, store_read_at_once, store_read_io_at_once}
use Rattle.volume.proofs.Chunks.{chunks_all}
use Rattle.volume.proofs.Named.{found_within}
use Rattle.volume.proofs.volume.Volume.answer_at_store.Goals as goal

pub index_mut-snap-requires : goal.index_mut-snap-requires
index_mut-snap-requires g c =
    let v : Volumed g.row.B.Denot = record { origin = c.self.inside.origin; snaps = c.self.inside.snaps.items; merge = c.self.inside.merge; flights = c.self.inside.flights.items; requests = c.self.inside.requests; copies = c.self.inside.copies; attached = c.self.inside.attached } in
    let f : Flight = c.args.flight in
    let read : IsReadOf f.request c.args.k (Some c.args.at) v.snaps = subst (λ (x : Volumed g.row.B.Denot). IsReadOf f.request c.args.k (Some c.args.at) x.snaps) (sym c.self.view_is) c.requires.read in
    let below = found_within read.id v.snaps c.args.k (sym read.found) in
    omega (arith, below)

pub nonzero_rem-first : goal.nonzero_rem-first
nonzero_rem-first g c =
    let v : Volumed g.row.B.Denot = record { origin = c.self.inside.origin; snaps = c.self.inside.snaps.items; merge = c.self.inside.merge; flights = c.self.inside.flights.items; requests = c.self.inside.requests; copies = c.self.inside.copies; attached = c.self.inside.attached } in
    let f : Flight = c.args.flight in
    let read : IsReadOf f.request c.args.k (Some c.args.at) v.snaps = subst (λ (x : Volumed g.row.B.Denot). IsReadOf f.request c.args.k (Some c.args.at) x.snaps) (sym c.self.view_is) c.requires.read in
    let s = c.index_mut-snap.result.now in
    let within : c.args.k < length v.snaps = found_within read.id v.snaps c.args.k (sym read.found) in
    let some : 0 < s.state.chunk = subst (λ (x : Kept g.row.B.Denot). 0 < x.state.chunk) (sym c.index_mut-snap.ensures.value) (chunks_all g.B.Block.contents g.B.Block.layers g.B.Block.size v c.self.invariant.whole c.args.k s within) in
    omega (arith, some, c.chunk.ensures.is)

pub overflow_cast-first-2 : goal.overflow_cast-first-2
overflow_cast-first-2 g c =
    let v : Volumed g.row.B.Denot = record { origin = c.self.inside.origin; snaps = c.self.inside.snaps.items; merge = c.self.inside.merge; flights = c.self.inside.flights.items; requests = c.self.inside.requests; copies = c.self.inside.copies; attached = c.self.inside.attached } in
    let f : Flight = c.args.flight in
    let read : IsReadOf f.request c.args.k (Some c.args.at) v.snaps = subst (λ (x : Volumed g.row.B.Denot). IsReadOf f.request c.args.k (Some c.args.at) x.snaps) (sym c.self.view_is) c.requires.read in
    let s = c.index_mut-snap.result.now in
    let within : c.args.k < length v.snaps = found_within read.id v.snaps c.args.k (sym read.found) in
    let some : 0 < s.state.chunk = subst (λ (x : Kept g.row.B.Denot). 0 < x.state.chunk) (sym c.index_mut-snap.ensures.value) (chunks_all g.B.Block.contents g.B.Block.layers g.B.Block.size v c.self.invariant.whole c.args.k s within) in
    let pos : 0 < c.chunk.result = omega (arith, some, c.chunk.ensures.is) in
    let lt = mod-lt f.request.range.first pos in
    let top = c.chunk.type_inv in
    let less : f.request.range.first % c.chunk.result < 2 ^ 32 = omega (arith, lt, top) in
    search (rules, less)

pub read_at-requires-clause-placed : goal.read_at-requires-clause-placed
read_at-requires-clause-placed g c =
    let v : Volumed g.row.B.Denot = record { origin = c.self.inside.origin; snaps = c.self.inside.snaps.items; merge = c.self.inside.merge; flights = c.self.inside.flights.items; requests = c.self.inside.requests; copies = c.self.inside.copies; attached = c.self.inside.attached } in
    let f : Flight = c.args.flight in
    let read : IsReadOf f.request c.args.k (Some c.args.at) v.snaps = subst (λ (x : Volumed g.row.B.Denot). IsReadOf f.request c.args.k (Some c.args.at) x.snaps) (sym c.self.view_is) c.requires.read in
    let s = c.index_mut-snap.result.now in
    (f.request.range.first / s.state.chunk, read.stands s c.index_mut-snap.ensures.value)

pub read_at-requires-clause-some : goal.read_at-requires-clause-some
read_at-requires-clause-some g c =
    let v : Volumed g.row.B.Denot = record { origin = c.self.inside.origin; snaps = c.self.inside.snaps.items; merge = c.self.inside.merge; flights = c.self.inside.flights.items; requests = c.self.inside.requests; copies = c.self.inside.copies; attached = c.self.inside.attached } in
    let f : Flight = c.args.flight in
    let h : IsWhole g.B.Block.contents g.B.Block.layers g.B.Block.size (entered_of f v) = subst (λ (x : Volumed g.row.B.Denot). IsWhole g.B.Block.contents g.B.Block.layers g.B.Block.size (entered_of f x)) (sym c.self.view_is) c.requires.whole in
    let none : v.flights ≡ [] = ap (λ (x : Volumed g.row.B.Denot). x.flights) c.self.view_is ∙ c.requires.still in
    let alone : v.merge ≡ None = ap (λ (x : Volumed g.row.B.Denot). x.merge) c.self.view_is ∙ c.requires.alone in
    let goes : is_routed f.route ≡ true = ap is_routed c.requires.route in
    let request = asked_alone g.B.Block.may_hold g.B.Block.contents g.B.Block.layers g.B.Block.size g.B.Block.fault_count g.B.Block.done_count g.met.B.Block.whole g.met.B.Block.holds_now v f none alone h c.self.invariant.lasting goes in
    request.some

pub read_at-requires-clause-part : goal.read_at-requires-clause-part
read_at-requires-clause-part g c =
    let v : Volumed g.row.B.Denot = record { origin = c.self.inside.origin; snaps = c.self.inside.snaps.items; merge = c.self.inside.merge; flights = c.self.inside.flights.items; requests = c.self.inside.requests; copies = c.self.inside.copies; attached = c.self.inside.attached } in
    let f : Flight = c.args.flight in
    let h : IsWhole g.B.Block.contents g.B.Block.layers g.B.Block.size (entered_of f v) = subst (λ (x : Volumed g.row.B.Denot). IsWhole g.B.Block.contents g.B.Block.layers g.B.Block.size (entered_of f x)) (sym c.self.view_is) c.requires.whole in
    let none : v.flights ≡ [] = ap (λ (x : Volumed g.row.B.Denot). x.flights) c.self.view_is ∙ c.requires.still in
    let alone : v.merge ≡ None = ap (λ (x : Volumed g.row.B.Denot). x.merge) c.self.view_is ∙ c.requires.alone in
    let goes : is_routed f.route ≡ true = ap is_routed c.requires.route in
    let read : IsReadOf f.request c.args.k (Some c.args.at) v.snaps = subst (λ (x : Volumed g.row.B.Denot). IsReadOf f.request c.args.k (Some c.args.at) x.snaps) (sym c.self.view_is) c.requires.read in
    let s = c.index_mut-snap.result.now in
    rw c.chunk.ensures.is (part_at_once g.B.Block.may_hold g.B.Block.contents g.B.Block.layers g.B.Block.size g.B.Block.fault_count g.B.Block.done_count g.met.B.Block.whole g.met.B.Block.holds_now v f none alone h c.self.invariant.lasting goes c.args.at c.args.k s s c.requires.route read c.index_mut-snap.ensures.value)

pub read_at-requires-clause-room : goal.read_at-requires-clause-room
read_at-requires-clause-room g c =
    let v : Volumed g.row.B.Denot = record { origin = c.self.inside.origin; snaps = c.self.inside.snaps.items; merge = c.self.inside.merge; flights = c.self.inside.flights.items; requests = c.self.inside.requests; copies = c.self.inside.copies; attached = c.self.inside.attached } in
    let f : Flight = c.args.flight in
    let h : IsWhole g.B.Block.contents g.B.Block.layers g.B.Block.size (entered_of f v) = subst (λ (x : Volumed g.row.B.Denot). IsWhole g.B.Block.contents g.B.Block.layers g.B.Block.size (entered_of f x)) (sym c.self.view_is) c.requires.whole in
    let none : v.flights ≡ [] = ap (λ (x : Volumed g.row.B.Denot). x.flights) c.self.view_is ∙ c.requires.still in
    let alone : v.merge ≡ None = ap (λ (x : Volumed g.row.B.Denot). x.merge) c.self.view_is ∙ c.requires.alone in
    let goes : is_routed f.route ≡ true = ap is_routed c.requires.route in
    let read : IsReadOf f.request c.args.k (Some c.args.at) v.snaps = subst (λ (x : Volumed g.row.B.Denot). IsReadOf f.request c.args.k (Some c.args.at) x.snaps) (sym c.self.view_is) c.requires.read in
    let s = c.index_mut-snap.result.now in
    ap length c.as_mut_slice.ensures.value ∙ room_at_once g.B.Block.may_hold g.B.Block.contents g.B.Block.layers g.B.Block.size g.B.Block.fault_count g.B.Block.done_count g.met.B.Block.whole g.met.B.Block.holds_now v f none alone h c.self.invariant.lasting goes c.args.at c.args.k s s c.requires.route read c.index_mut-snap.ensures.value

pub invariant_of-self : goal.invariant_of-self
invariant_of-self g c =
    let v : Volumed g.row.B.Denot = record { origin = c.self.inside.origin; snaps = c.self.inside.snaps.items; merge = c.self.inside.merge; flights = c.self.inside.flights.items; requests = c.self.inside.requests; copies = c.self.inside.copies; attached = c.self.inside.attached } in
    let f : Flight = c.args.flight in
    let h : IsWhole g.B.Block.contents g.B.Block.layers g.B.Block.size (entered_of f v) = subst (λ (x : Volumed g.row.B.Denot). IsWhole g.B.Block.contents g.B.Block.layers g.B.Block.size (entered_of f x)) (sym c.self.view_is) c.requires.whole in
    let none : v.flights ≡ [] = ap (λ (x : Volumed g.row.B.Denot). x.flights) c.self.view_is ∙ c.requires.still in
    let alone : v.merge ≡ None = ap (λ (x : Volumed g.row.B.Denot). x.merge) c.self.view_is ∙ c.requires.alone in
    let goes : is_routed f.route ≡ true = ap is_routed c.requires.route in
    let read : IsReadOf f.request c.args.k (Some c.args.at) v.snaps = subst (λ (x : Volumed g.row.B.Denot). IsReadOf f.request c.args.k (Some c.args.at) x.snaps) (sym c.self.view_is) c.requires.read in
    let s = c.index_mut-snap.result.now in
    let bytes : c.from_vec.result ≡ c.read_at.new.out = c.from_vec.ensures ∙ with_items_is f.room c.read_at.new.out (omega (arith, c.read_at.auto.out, c.as_mut_slice.ensures.len)) in
    let got = bytes ∙ c.in-Ok.ensures.data ∙ ap (λ n. sectors_at (g.B.Block.contents s.device) (s.state.chunk * c.args.at + f.request.range.first % n) f.request.range.count) c.chunk.ensures.is in
    let filled = ap length c.as_mut_slice.ensures.value ∙ room_at_once g.B.Block.may_hold g.B.Block.contents g.B.Block.layers g.B.Block.size g.B.Block.fault_count g.B.Block.done_count g.met.B.Block.whole g.met.B.Block.holds_now v f none alone h c.self.invariant.lasting goes c.args.at c.args.k s c.read_at.new.self c.requires.route read c.index_mut-snap.ensures.value in
    let len : length c.from_vec.result ≡ 512 * f.request.range.count = omega (arith, ap length bytes, c.read_at.auto.out, filled) in
    let one = subst (λ n. IsOneOperation (Reads (s.state.chunk * c.args.at + f.request.range.first % n) f.request.range.count) true (g.B.Block.layers s.device) (g.B.Block.layers c.read_at.new.self.device) (g.B.Block.fault_count s.device) (g.B.Block.fault_count c.read_at.new.self.device) (g.B.Block.done_count s.device) (g.B.Block.done_count c.read_at.new.self.device)) c.chunk.ensures.is c.in-Ok.ensures.operation in
    let answered = store_read_at_once g.B.Block.may_hold g.B.Block.contents g.B.Block.layers g.B.Block.size g.B.Block.fault_count g.B.Block.done_count g.met.B.Block.whole g.met.B.Block.holds_now v f none alone h c.self.invariant.lasting goes c.args.at c.args.k s c.read_at.new.self c.requires.route read c.index_mut-snap.ensures.value c.read_at.ensures.fields (record { adds = c.read_at.ensures.adds; bytes = c.read_at.ensures.same; sectors = c.read_at.ensures.size; loud = c.read_at.ensures.loud }) c.in-Ok.ensures.operation.counted c.from_vec.result len got c.in-Ok.ensures.operation.faulty one in
    answered.kept

pub returns-in-Ok-clause-does : goal.returns-in-Ok-clause-does
returns-in-Ok-clause-does g c =
    let v : Volumed g.row.B.Denot = record { origin = c.self.inside.origin; snaps = c.self.inside.snaps.items; merge = c.self.inside.merge; flights = c.self.inside.flights.items; requests = c.self.inside.requests; copies = c.self.inside.copies; attached = c.self.inside.attached } in
    let f : Flight = c.args.flight in
    let h : IsWhole g.B.Block.contents g.B.Block.layers g.B.Block.size (entered_of f v) = subst (λ (x : Volumed g.row.B.Denot). IsWhole g.B.Block.contents g.B.Block.layers g.B.Block.size (entered_of f x)) (sym c.self.view_is) c.requires.whole in
    let none : v.flights ≡ [] = ap (λ (x : Volumed g.row.B.Denot). x.flights) c.self.view_is ∙ c.requires.still in
    let alone : v.merge ≡ None = ap (λ (x : Volumed g.row.B.Denot). x.merge) c.self.view_is ∙ c.requires.alone in
    let goes : is_routed f.route ≡ true = ap is_routed c.requires.route in
    let read : IsReadOf f.request c.args.k (Some c.args.at) v.snaps = subst (λ (x : Volumed g.row.B.Denot). IsReadOf f.request c.args.k (Some c.args.at) x.snaps) (sym c.self.view_is) c.requires.read in
    let s = c.index_mut-snap.result.now in
    let bytes : c.from_vec.result ≡ c.read_at.new.out = c.from_vec.ensures ∙ with_items_is f.room c.read_at.new.out (omega (arith, c.read_at.auto.out, c.as_mut_slice.ensures.len)) in
    let got = bytes ∙ c.in-Ok.ensures.data ∙ ap (λ n. sectors_at (g.B.Block.contents s.device) (s.state.chunk * c.args.at + f.request.range.first % n) f.request.range.count) c.chunk.ensures.is in
    let filled = ap length c.as_mut_slice.ensures.value ∙ room_at_once g.B.Block.may_hold g.B.Block.contents g.B.Block.layers g.B.Block.size g.B.Block.fault_count g.B.Block.done_count g.met.B.Block.whole g.met.B.Block.holds_now v f none alone h c.self.invariant.lasting goes c.args.at c.args.k s c.read_at.new.self c.requires.route read c.index_mut-snap.ensures.value in
    let len : length c.from_vec.result ≡ 512 * f.request.range.count = omega (arith, ap length bytes, c.read_at.auto.out, filled) in
    let one = subst (λ n. IsOneOperation (Reads (s.state.chunk * c.args.at + f.request.range.first % n) f.request.range.count) true (g.B.Block.layers s.device) (g.B.Block.layers c.read_at.new.self.device) (g.B.Block.fault_count s.device) (g.B.Block.fault_count c.read_at.new.self.device) (g.B.Block.done_count s.device) (g.B.Block.done_count c.read_at.new.self.device)) c.chunk.ensures.is c.in-Ok.ensures.operation in
    let answered = store_read_at_once g.B.Block.may_hold g.B.Block.contents g.B.Block.layers g.B.Block.size g.B.Block.fault_count g.B.Block.done_count g.met.B.Block.whole g.met.B.Block.holds_now v f none alone h c.self.invariant.lasting goes c.args.at c.args.k s c.read_at.new.self c.requires.route read c.index_mut-snap.ensures.value c.read_at.ensures.fields (record { adds = c.read_at.ensures.adds; bytes = c.read_at.ensures.same; sectors = c.read_at.ensures.size; loud = c.read_at.ensures.loud }) c.in-Ok.ensures.operation.counted c.from_vec.result len got c.in-Ok.ensures.operation.faulty one in
    rw (← c.self.view_is) answered.does

pub returns-in-Ok-clause-quiet : goal.returns-in-Ok-clause-quiet
returns-in-Ok-clause-quiet g c =
    let v : Volumed g.row.B.Denot = record { origin = c.self.inside.origin; snaps = c.self.inside.snaps.items; merge = c.self.inside.merge; flights = c.self.inside.flights.items; requests = c.self.inside.requests; copies = c.self.inside.copies; attached = c.self.inside.attached } in
    let f : Flight = c.args.flight in
    let s = c.index_mut-snap.result.now in
    quiet_at_store v c.args.k s c.read_at.new.self c.index_mut-snap.ensures.value c.read_at.ensures.fields ∙ ap is_quiet_of c.self.view_is

pub invariant_of-self-2 : goal.invariant_of-self-2
invariant_of-self-2 g c =
    let v : Volumed g.row.B.Denot = record { origin = c.self.inside.origin; snaps = c.self.inside.snaps.items; merge = c.self.inside.merge; flights = c.self.inside.flights.items; requests = c.self.inside.requests; copies = c.self.inside.copies; attached = c.self.inside.attached } in
    let f : Flight = c.args.flight in
    let h : IsWhole g.B.Block.contents g.B.Block.layers g.B.Block.size (entered_of f v) = subst (λ (x : Volumed g.row.B.Denot). IsWhole g.B.Block.contents g.B.Block.layers g.B.Block.size (entered_of f x)) (sym c.self.view_is) c.requires.whole in
    let none : v.flights ≡ [] = ap (λ (x : Volumed g.row.B.Denot). x.flights) c.self.view_is ∙ c.requires.still in
    let alone : v.merge ≡ None = ap (λ (x : Volumed g.row.B.Denot). x.merge) c.self.view_is ∙ c.requires.alone in
    let goes : is_routed f.route ≡ true = ap is_routed c.requires.route in
    let read : IsReadOf f.request c.args.k (Some c.args.at) v.snaps = subst (λ (x : Volumed g.row.B.Denot). IsReadOf f.request c.args.k (Some c.args.at) x.snaps) (sym c.self.view_is) c.requires.read in
    let s = c.index_mut-snap.result.now in
    let one = subst (λ n. IsOneOperation (Reads (s.state.chunk * c.args.at + f.request.range.first % n) f.request.range.count) false (g.B.Block.layers s.device) (g.B.Block.layers c.read_at.new.self.device) (g.B.Block.fault_count s.device) (g.B.Block.fault_count c.read_at.new.self.device) (g.B.Block.done_count s.device) (g.B.Block.done_count c.read_at.new.self.device)) c.chunk.ensures.is c.in-Err.ensures.operation in
    let answered = store_read_io_at_once g.B.Block.may_hold g.B.Block.contents g.B.Block.layers g.B.Block.size g.B.Block.fault_count g.B.Block.done_count g.met.B.Block.whole g.met.B.Block.holds_now v f none alone h c.self.invariant.lasting goes c.args.at c.args.k s c.read_at.new.self c.requires.route read c.index_mut-snap.ensures.value c.read_at.ensures.fields (record { adds = c.read_at.ensures.adds; bytes = c.read_at.ensures.same; sectors = c.read_at.ensures.size; loud = c.read_at.ensures.loud }) c.in-Err.ensures.operation.counted c.in-Err.ensures.operation.faulty one in
    answered.kept

pub returns-clause-does : goal.returns-clause-does
returns-clause-does g c =
    let v : Volumed g.row.B.Denot = record { origin = c.self.inside.origin; snaps = c.self.inside.snaps.items; merge = c.self.inside.merge; flights = c.self.inside.flights.items; requests = c.self.inside.requests; copies = c.self.inside.copies; attached = c.self.inside.attached } in
    let f : Flight = c.args.flight in
    let h : IsWhole g.B.Block.contents g.B.Block.layers g.B.Block.size (entered_of f v) = subst (λ (x : Volumed g.row.B.Denot). IsWhole g.B.Block.contents g.B.Block.layers g.B.Block.size (entered_of f x)) (sym c.self.view_is) c.requires.whole in
    let none : v.flights ≡ [] = ap (λ (x : Volumed g.row.B.Denot). x.flights) c.self.view_is ∙ c.requires.still in
    let alone : v.merge ≡ None = ap (λ (x : Volumed g.row.B.Denot). x.merge) c.self.view_is ∙ c.requires.alone in
    let goes : is_routed f.route ≡ true = ap is_routed c.requires.route in
    let read : IsReadOf f.request c.args.k (Some c.args.at) v.snaps = subst (λ (x : Volumed g.row.B.Denot). IsReadOf f.request c.args.k (Some c.args.at) x.snaps) (sym c.self.view_is) c.requires.read in
    let s = c.index_mut-snap.result.now in
    let one = subst (λ n. IsOneOperation (Reads (s.state.chunk * c.args.at + f.request.range.first % n) f.request.range.count) false (g.B.Block.layers s.device) (g.B.Block.layers c.read_at.new.self.device) (g.B.Block.fault_count s.device) (g.B.Block.fault_count c.read_at.new.self.device) (g.B.Block.done_count s.device) (g.B.Block.done_count c.read_at.new.self.device)) c.chunk.ensures.is c.in-Err.ensures.operation in
    let answered = store_read_io_at_once g.B.Block.may_hold g.B.Block.contents g.B.Block.layers g.B.Block.size g.B.Block.fault_count g.B.Block.done_count g.met.B.Block.whole g.met.B.Block.holds_now v f none alone h c.self.invariant.lasting goes c.args.at c.args.k s c.read_at.new.self c.requires.route read c.index_mut-snap.ensures.value c.read_at.ensures.fields (record { adds = c.read_at.ensures.adds; bytes = c.read_at.ensures.same; sectors = c.read_at.ensures.size; loud = c.read_at.ensures.loud }) c.in-Err.ensures.operation.counted c.in-Err.ensures.operation.faulty one in
    rw (← c.self.view_is) answered.does

pub returns-clause-quiet : goal.returns-clause-quiet
returns-clause-quiet g c =
    let v : Volumed g.row.B.Denot = record { origin = c.self.inside.origin; snaps = c.self.inside.snaps.items; merge = c.self.inside.merge; flights = c.self.inside.flights.items; requests = c.self.inside.requests; copies = c.self.inside.copies; attached = c.self.inside.attached } in
    let f : Flight = c.args.flight in
    let s = c.index_mut-snap.result.now in
    quiet_at_store v c.args.k s c.read_at.new.self c.index_mut-snap.ensures.value c.read_at.ensures.fields ∙ ap is_quiet_of c.self.view_is
