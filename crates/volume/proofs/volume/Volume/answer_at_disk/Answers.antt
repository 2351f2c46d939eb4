-- A request is answered at the origin disk.
use Rattle.std.proofs.Common.{◌≡◌, ◌-◌, ◌*◌, ◌∙◌, [], None, true, false, arith, ap, length, refl, subst, sym}
use Rattle.std.proofs.lemmas.List.{with_items_is}
use Rattle.device.specs.declared.operation.Operation.TheVariants.{Reads}
use Rattle.plain_machine.specs.declared.request.Op.{Op}
use Rattle.plain_machine.specs.declared.request.Op.TheVariants.{Write}
use Rattle.in_flight.specs.Due.{is_routed}
use Rattle.in_flight.specs.Kinds.{room_at}
use Rattle.in_flight.specs.declared.flights.Flight.{Flight}
use Rattle.store.specs.Operations.{IsOneOperation}
use Rattle.volume.specs.Submitting.{entered_of}
use Rattle.volume.specs.Volumed.{Volumed}
use Rattle.volume.specs.Whole.{IsWhole}
use Rattle.volume.proofs.AtOnce.{asked_alone, read_at_once, read_io_at_once}
use Rattle.volume.proofs.volume.Volume.answer_at_disk.Goals.{in-Ok, in-Err}
use Rattle.volume.proofs.volume.Volume.answer_at_disk.Goals as goal

pub read-requires-clause-some : goal.read-requires-clause-some
read-requires-clause-some g c =
    let v : Volumed g.row.B.Denot = record { origin = c.self.inside.origin; snaps = c.self.inside.snaps.items; merge = c.self.inside.merge; flights = c.self.inside.flights.items; requests = c.self.inside.requests; copies = c.self.inside.copies; attached = c.self.inside.attached } in
    let f : Flight = c.args.flight in
    let h : IsWhole g.B.Block.contents g.B.Block.layers g.B.Block.size (entered_of f v) = subst (λ (x : Volumed g.row.B.Denot). IsWhole g.B.Block.contents g.B.Block.layers g.B.Block.size (entered_of f x)) (sym c.self.view_is) c.requires.whole in
    let none : v.flights ≡ [] = ap (λ (x : Volumed g.row.B.Denot). x.flights) c.self.view_is ∙ c.requires.still in
    let alone : v.merge ≡ None = ap (λ (x : Volumed g.row.B.Denot). x.merge) c.self.view_is ∙ c.requires.alone in
    let goes : is_routed f.route ≡ true = ap is_routed c.requires.route in
    let request = asked_alone g.B.Block.may_hold g.B.Block.contents g.B.Block.layers g.B.Block.size g.B.Block.fault_count g.B.Block.done_count g.met.B.Block.whole g.met.B.Block.holds_now v f none alone h c.self.invariant.lasting goes in
    request.some

pub read-requires-clause-inside : goal.read-requires-clause-inside
read-requires-clause-inside g c =
    let v : Volumed g.row.B.Denot = record { origin = c.self.inside.origin; snaps = c.self.inside.snaps.items; merge = c.self.inside.merge; flights = c.self.inside.flights.items; requests = c.self.inside.requests; copies = c.self.inside.copies; attached = c.self.inside.attached } in
    let f : Flight = c.args.flight in
    let h : IsWhole g.B.Block.contents g.B.Block.layers g.B.Block.size (entered_of f v) = subst (λ (x : Volumed g.row.B.Denot). IsWhole g.B.Block.contents g.B.Block.layers g.B.Block.size (entered_of f x)) (sym c.self.view_is) c.requires.whole in
    let none : v.flights ≡ [] = ap (λ (x : Volumed g.row.B.Denot). x.flights) c.self.view_is ∙ c.requires.still in
    let alone : v.merge ≡ None = ap (λ (x : Volumed g.row.B.Denot). x.merge) c.self.view_is ∙ c.requires.alone in
    let goes : is_routed f.route ≡ true = ap is_routed c.requires.route in
    let request = asked_alone g.B.Block.may_hold g.B.Block.contents g.B.Block.layers g.B.Block.size g.B.Block.fault_count g.B.Block.done_count g.met.B.Block.whole g.met.B.Block.holds_now v f none alone h c.self.invariant.lasting goes in
    request.inside

pub read-requires-clause-room : goal.read-requires-clause-room
read-requires-clause-room g c =
    let v : Volumed g.row.B.Denot = record { origin = c.self.inside.origin; snaps = c.self.inside.snaps.items; merge = c.self.inside.merge; flights = c.self.inside.flights.items; requests = c.self.inside.requests; copies = c.self.inside.copies; attached = c.self.inside.attached } in
    let f : Flight = c.args.flight in
    let h : IsWhole g.B.Block.contents g.B.Block.layers g.B.Block.size (entered_of f v) = subst (λ (x : Volumed g.row.B.Denot). IsWhole g.B.Block.contents g.B.Block.layers g.B.Block.size (entered_of f x)) (sym c.self.view_is) c.requires.whole in
    let none : v.flights ≡ [] = ap (λ (x : Volumed g.row.B.Denot). x.flights) c.self.view_is ∙ c.requires.still in
    let alone : v.merge ≡ None = ap (λ (x : Volumed g.row.B.Denot). x.merge) c.self.view_is ∙ c.requires.alone in
    let goes : is_routed f.route ≡ true = ap is_routed c.requires.route in
    let request = asked_alone g.B.Block.may_hold g.B.Block.contents g.B.Block.layers g.B.Block.size g.B.Block.fault_count g.B.Block.done_count g.met.B.Block.whole g.met.B.Block.holds_now v f none alone h c.self.invariant.lasting goes in
    ap length c.as_mut_slice.ensures.value ∙ request.room ∙ ap (λ (o : Op). room_at o f.request.range.count) c.in-Read.is

pub invariant_of-self : goal.invariant_of-self
invariant_of-self g c =
    let v : Volumed g.row.B.Denot = record { origin = c.self.inside.origin; snaps = c.self.inside.snaps.items; merge = c.self.inside.merge; flights = c.self.inside.flights.items; requests = c.self.inside.requests; copies = c.self.inside.copies; attached = c.self.inside.attached } in
    let f : Flight = c.args.flight in
    let h : IsWhole g.B.Block.contents g.B.Block.layers g.B.Block.size (entered_of f v) = subst (λ (x : Volumed g.row.B.Denot). IsWhole g.B.Block.contents g.B.Block.layers g.B.Block.size (entered_of f x)) (sym c.self.view_is) c.requires.whole in
    let none : v.flights ≡ [] = ap (λ (x : Volumed g.row.B.Denot). x.flights) c.self.view_is ∙ c.requires.still in
    let alone : v.merge ≡ None = ap (λ (x : Volumed g.row.B.Denot). x.merge) c.self.view_is ∙ c.requires.alone in
    let goes : is_routed f.route ≡ true = ap is_routed c.requires.route in
    elim c.match-read.branch [
      | in-Ok w ↦ (
          let request = asked_alone g.B.Block.may_hold g.B.Block.contents g.B.Block.layers g.B.Block.size g.B.Block.fault_count g.B.Block.done_count g.met.B.Block.whole g.met.B.Block.holds_now v f none alone h c.self.invariant.lasting goes in
          let bytes : w.from_vec.result ≡ c.read.new.out = w.from_vec.ensures ∙ with_items_is f.room c.read.new.out (omega (arith, c.read.auto.out, c.as_mut_slice.ensures.len)) in
          let filled = ap length c.as_mut_slice.ensures.value ∙ request.room ∙ ap (λ (o : Op). room_at o f.request.range.count) c.in-Read.is in
          let len : length w.from_vec.result ≡ 512 * f.request.range.count = omega (arith, ap length bytes, c.read.auto.out, filled) in
          let one : IsOneOperation (Reads f.request.range.first f.request.range.count) true (g.B.Block.layers v.origin) (g.B.Block.layers c.read.new.self) (g.B.Block.fault_count v.origin) (g.B.Block.fault_count c.read.new.self) (g.B.Block.done_count v.origin) (g.B.Block.done_count c.read.new.self) = record { answer = w.in-Ok.ensures.answer; layers = c.read.ensures.layers; loud = c.read.ensures.loud; faulty = w.in-Ok.ensures.faults; counted = c.read.ensures.done } in
          let answered = read_at_once g.B.Block.may_hold g.B.Block.contents g.B.Block.layers g.B.Block.size g.B.Block.fault_count g.B.Block.done_count g.met.B.Block.whole g.met.B.Block.holds_now v f none alone h c.self.invariant.lasting goes c.requires.route c.read.new.self c.read.ensures.size c.read.ensures.loud c.read.ensures.done c.in-Read.is c.read.ensures.contents c.read.ensures.stop w.from_vec.result len (bytes ∙ w.in-Ok.ensures.data) w.in-Ok.ensures.faults one in
          answered.kept
          )
      | in-Err w ↦ (
          let one : IsOneOperation (Reads f.request.range.first f.request.range.count) false (g.B.Block.layers v.origin) (g.B.Block.layers c.read.new.self) (g.B.Block.fault_count v.origin) (g.B.Block.fault_count c.read.new.self) (g.B.Block.done_count v.origin) (g.B.Block.done_count c.read.new.self) = record { answer = w.in-Err.ensures.answer; layers = c.read.ensures.layers; loud = c.read.ensures.loud; faulty = w.in-Err.ensures.faults; counted = c.read.ensures.done } in
          let answered = read_io_at_once g.B.Block.may_hold g.B.Block.contents g.B.Block.layers g.B.Block.size g.B.Block.fault_count g.B.Block.done_count g.met.B.Block.whole g.met.B.Block.holds_now v f none alone h c.self.invariant.lasting goes c.requires.route c.read.new.self c.read.ensures.size c.read.ensures.loud c.read.ensures.done c.in-Read.is c.read.ensures.contents c.read.ensures.stop w.in-Err.ensures.faults one in
          answered.kept
          )
    ]

pub returns-after-read-clause-does : goal.returns-after-read-clause-does
returns-after-read-clause-does g c =
    let v : Volumed g.row.B.Denot = record { origin = c.self.inside.origin; snaps = c.self.inside.snaps.items; merge = c.self.inside.merge; flights = c.self.inside.flights.items; requests = c.self.inside.requests; copies = c.self.inside.copies; attached = c.self.inside.attached } in
    let f : Flight = c.args.flight in
    let h : IsWhole g.B.Block.contents g.B.Block.layers g.B.Block.size (entered_of f v) = subst (λ (x : Volumed g.row.B.Denot). IsWhole g.B.Block.contents g.B.Block.layers g.B.Block.size (entered_of f x)) (sym c.self.view_is) c.requires.whole in
    let none : v.flights ≡ [] = ap (λ (x : Volumed g.row.B.Denot). x.flights) c.self.view_is ∙ c.requires.still in
    let alone : v.merge ≡ None = ap (λ (x : Volumed g.row.B.Denot). x.merge) c.self.view_is ∙ c.requires.alone in
    let goes : is_routed f.route ≡ true = ap is_routed c.requires.route in
    elim c.match-read.branch [
      | in-Ok w ↦ (
          let request = asked_alone g.B.Block.may_hold g.B.Block.contents g.B.Block.layers g.B.Block.size g.B.Block.fault_count g.B.Block.done_count g.met.B.Block.whole g.met.B.Block.holds_now v f none alone h c.self.invariant.lasting goes in
          let bytes : w.from_vec.result ≡ c.read.new.out = w.from_vec.ensures ∙ with_items_is f.room c.read.new.out (omega (arith, c.read.auto.out, c.as_mut_slice.ensures.len)) in
          let filled = ap length c.as_mut_slice.ensures.value ∙ request.room ∙ ap (λ (o : Op). room_at o f.request.range.count) c.in-Read.is in
          let len : length w.from_vec.result ≡ 512 * f.request.range.count = omega (arith, ap length bytes, c.read.auto.out, filled) in
          let one : IsOneOperation (Reads f.request.range.first f.request.range.count) true (g.B.Block.layers v.origin) (g.B.Block.layers c.read.new.self) (g.B.Block.fault_count v.origin) (g.B.Block.fault_count c.read.new.self) (g.B.Block.done_count v.origin) (g.B.Block.done_count c.read.new.self) = record { answer = w.in-Ok.ensures.answer; layers = c.read.ensures.layers; loud = c.read.ensures.loud; faulty = w.in-Ok.ensures.faults; counted = c.read.ensures.done } in
          let answered = read_at_once g.B.Block.may_hold g.B.Block.contents g.B.Block.layers g.B.Block.size g.B.Block.fault_count g.B.Block.done_count g.met.B.Block.whole g.met.B.Block.holds_now v f none alone h c.self.invariant.lasting goes c.requires.route c.read.new.self c.read.ensures.size c.read.ensures.loud c.read.ensures.done c.in-Read.is c.read.ensures.contents c.read.ensures.stop w.from_vec.result len (bytes ∙ w.in-Ok.ensures.data) w.in-Ok.ensures.faults one in
          rw w.result-is (rw (← c.self.view_is) answered.does)
          )
      | in-Err w ↦ (
          let one : IsOneOperation (Reads f.request.range.first f.request.range.count) false (g.B.Block.layers v.origin) (g.B.Block.layers c.read.new.self) (g.B.Block.fault_count v.origin) (g.B.Block.fault_count c.read.new.self) (g.B.Block.done_count v.origin) (g.B.Block.done_count c.read.new.self) = record { answer = w.in-Err.ensures.answer; layers = c.read.ensures.layers; loud = c.read.ensures.loud; faulty = w.in-Err.ensures.faults; counted = c.read.ensures.done } in
          let answered = read_io_at_once g.B.Block.may_hold g.B.Block.contents g.B.Block.layers g.B.Block.size g.B.Block.fault_count g.B.Block.done_count g.met.B.Block.whole g.met.B.Block.holds_now v f none alone h c.self.invariant.lasting goes c.requires.route c.read.new.self c.read.ensures.size c.read.ensures.loud c.read.ensures.done c.in-Read.is c.read.ensures.contents c.read.ensures.stop w.in-Err.ensures.faults one in
          rw w.result-is (rw (← c.self.view_is) answered.does)
          )
    ]

pub unreachable-requires : goal.unreachable-requires
unreachable-requires g c =
    c.requires.moves c.in-Flush.is

pub write_at_disk-requires-clause-next : goal.write_at_disk-requires-clause-next
write_at_disk-requires-clause-next g c = (c.args.flight, record { op = c.in-Write.is ∙ ap (λ bs. Write bs) (sym c.as_slice.ensures); range_is = refl; route = c.requires.route; next = c.requires.next; whole = c.requires.whole })

pub returns-in-Write-clause-does : goal.returns-in-Write-clause-does
returns-in-Write-clause-does g c = c.write_at_disk.ensures.does c.args.flight (record { op = c.in-Write.is ∙ ap (λ bs. Write bs) (sym c.as_slice.ensures); range_is = refl; route = c.requires.route; next = c.requires.next; whole = c.requires.whole })
