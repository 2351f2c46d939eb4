-- A request is issued at the origin disk.
use Rattle.std.proofs.Common.{◌≡◌, ◌*◌, ◌∙◌, sym, ap, Some, get_or, length, nat_eq, arith, true, false, refl}
use Rattle.std.specs.List.{position}
use Rattle.std.proofs.lemmas.List.{with_items_is}
use Rattle.sector.specs.Bytes.{with_sectors}
use Rattle.plain_machine.specs.declared.request.Op.{Op}
use Rattle.in_flight.specs.Kinds.{room_at}
use Rattle.in_flight.specs.declared.flights.Flight.{Flight}
use Rattle.in_flight.specs.declared.flights.Route.TheVariants.{Origin}
use Rattle.volume.specs.Volumed.{Volumed}
use Rattle.snapshot_list.proofs.Finds.{position_within}
use Rattle.volume.proofs.IssueEvents.{request_at}
use Rattle.volume.proofs.DiskIssues.{is_origin_flush, disk_flush, disk_flush_io, disk_read, disk_read_io, disk_write, disk_write_io}
use Rattle.device.specs.declared.operation.Operation.TheVariants.{Reads, Writes, Flushes}
use Rattle.plain_machine.specs.declared.request.Reply.TheVariants.{Data}
use Rattle.store.specs.Operations.{IsOneOperation}
use Rattle.volume.proofs.ExactIssues.{origin_flush_exact, origin_read_exact, origin_write_exact}
use Rattle.volume.proofs.LastMoves.{met_moves}
use Rattle.volume.proofs.LastBoth.{met_both}
use Rattle.crash_laws.proofs.Firm.{adds_none}
use Rattle.plain_machine.specs.declared.event.Event.TheVariants.{Issue}
use Rattle.in_flight.specs.Kinds.{in_flight}
use Rattle.volume.specs.Stopping.{given_by}
use Rattle.volume.proofs.LastBoth.{disk_both}
use Rattle.sector.specs.Bytes.{sector_at}
use Rattle.std.proofs.Common.{subst}
use Rattle.std.proofs.Common.{map}
use Rattle.std.proofs.Common.{ℕ}
use Rattle.std.proofs.Common.{List}
use Rattle.std.proofs.Common.{◌⊎◌}
use Rattle.std.proofs.Common.{◌≤◌}
use Rattle.std.proofs.Common.{◌<◌}
use Rattle.std.proofs.Common.{◌+◌}
use Rattle.std.proofs.Common.{◌-◌}
use Rattle.volume.proofs.LastCloses.{disk_closes, origin_dev}
use Rattle.volume.proofs.volume.Volume.issue_disk.Goals as goal

pub remove-flight-requires : goal.remove-flight-requires
remove-flight-requires g c =
    let found : position (λ (f : Flight). nat_eq f.number c.args.number) c.self.inside.flights.items ≡ Some c.args.place = ap (λ (x : Volumed _). position (λ (f : Flight). nat_eq f.number c.args.number) x.flights) c.self.view_is ∙ c.requires.found in
    let within = position_within (λ (f : Flight). nat_eq f.number c.args.number) c.self.inside.flights.items c.args.place found in
    omega (arith, within)

pub read-requires-clause-some : goal.read-requires-clause-some
read-requires-clause-some g c =
    let v = c.self.inside in
    let r = c.remove-flight.result in
    let found : position (λ (f : Flight). nat_eq f.number c.args.number) v.flights.items ≡ Some c.args.place = ap (λ (x : Volumed _). position (λ (f : Flight). nat_eq f.number c.args.number) x.flights) c.self.view_is ∙ c.requires.found in
    let within = position_within (λ (f : Flight). nat_eq f.number c.args.number) v.flights.items c.args.place found in
    let was : r ≡ get_or v.flights.items c.args.place r = c.remove-flight.ensures.value in
    let request = request_at g.B.Block.contents g.B.Block.layers g.B.Block.size _ c.self.invariant.whole c.args.place r within was in
    request.some

pub read-requires-clause-inside : goal.read-requires-clause-inside
read-requires-clause-inside g c =
    let v = c.self.inside in
    let r = c.remove-flight.result in
    let found : position (λ (f : Flight). nat_eq f.number c.args.number) v.flights.items ≡ Some c.args.place = ap (λ (x : Volumed _). position (λ (f : Flight). nat_eq f.number c.args.number) x.flights) c.self.view_is ∙ c.requires.found in
    let within = position_within (λ (f : Flight). nat_eq f.number c.args.number) v.flights.items c.args.place found in
    let was : r ≡ get_or v.flights.items c.args.place r = c.remove-flight.ensures.value in
    let request = request_at g.B.Block.contents g.B.Block.layers g.B.Block.size _ c.self.invariant.whole c.args.place r within was in
    request.inside

pub read-requires-clause-room : goal.read-requires-clause-room
read-requires-clause-room g c =
    let v = c.self.inside in
    let r = c.remove-flight.result in
    let found : position (λ (f : Flight). nat_eq f.number c.args.number) v.flights.items ≡ Some c.args.place = ap (λ (x : Volumed _). position (λ (f : Flight). nat_eq f.number c.args.number) x.flights) c.self.view_is ∙ c.requires.found in
    let within = position_within (λ (f : Flight). nat_eq f.number c.args.number) v.flights.items c.args.place found in
    let was : r ≡ get_or v.flights.items c.args.place r = c.remove-flight.ensures.value in
    let request = request_at g.B.Block.contents g.B.Block.layers g.B.Block.size _ c.self.invariant.whole c.args.place r within was in
    ap length c.as_mut_slice.ensures.value ∙ request.room ∙ ap (λ (o : Op). room_at o r.request.range.count) c.in-Read.is

pub invariant_of-self : goal.invariant_of-self
invariant_of-self g c = record {
  whole =
      let v = c.self.inside in
      let r = c.remove-flight.result in
      let found : position (λ (f : Flight). nat_eq f.number c.args.number) v.flights.items ≡ Some c.args.place = ap (λ (x : Volumed _). position (λ (f : Flight). nat_eq f.number c.args.number) x.flights) c.self.view_is ∙ c.requires.found in
      let within = position_within (λ (f : Flight). nat_eq f.number c.args.number) v.flights.items c.args.place found in
      let was : r ≡ get_or v.flights.items c.args.place r = c.remove-flight.ensures.value in
      let route : r.route ≡ Origin = ap (λ (x : Flight). x.route) was ∙ ap (λ (x : Volumed _). (get_or x.flights c.args.place r).route) c.self.view_is ∙ c.requires.route r in
      let bytes : c.from_vec.result ≡ c.read.new.out = c.from_vec.ensures ∙ with_items_is r.room c.read.new.out (omega (arith, c.read.auto.out, c.as_mut_slice.ensures.len)) in
      let request = request_at g.B.Block.contents g.B.Block.layers g.B.Block.size _ c.self.invariant.whole c.args.place r within was in
      let filled = ap length c.as_mut_slice.ensures.value ∙ request.room ∙ ap (λ (o : Op). room_at o r.request.range.count) c.in-Read.is in
      let len : length c.from_vec.result ≡ 512 * r.request.range.count = omega (arith, ap length bytes, c.read.auto.out, filled) in
      let good = disk_read g.B.Block.contents g.B.Block.layers g.B.Block.size g.B.Block.fault_count g.B.Block.done_count _ c.self.invariant.whole c.args.number c.args.place r found was route c.read.new.self c.read.ensures.size c.read.ensures.loud c.in-Read.is c.read.ensures.contents c.read.ensures.done c.from_vec.result len (bytes ∙ c.in-Ok.ensures.data) c.in-Ok.ensures.faults in
      rw c.remove-flight.ensures.items good.whole;
  lasting =
      let v = c.self.inside in
      let r = c.remove-flight.result in
      let found : position (λ (f : Flight). nat_eq f.number c.args.number) v.flights.items ≡ Some c.args.place = ap (λ (x : Volumed _). position (λ (f : Flight). nat_eq f.number c.args.number) x.flights) c.self.view_is ∙ c.requires.found in
      let within = position_within (λ (f : Flight). nat_eq f.number c.args.number) v.flights.items c.args.place found in
      let was : r ≡ get_or v.flights.items c.args.place r = c.remove-flight.ensures.value in
      let route : r.route ≡ Origin = ap (λ (x : Flight). x.route) was ∙ ap (λ (x : Volumed _). (get_or x.flights c.args.place r).route) c.self.view_is ∙ c.requires.route r in
      let bytes : c.from_vec.result ≡ c.read.new.out = c.from_vec.ensures ∙ with_items_is r.room c.read.new.out (omega (arith, c.read.auto.out, c.as_mut_slice.ensures.len)) in
      let request = request_at g.B.Block.contents g.B.Block.layers g.B.Block.size _ c.self.invariant.whole c.args.place r within was in
      let filled = ap length c.as_mut_slice.ensures.value ∙ request.room ∙ ap (λ (o : Op). room_at o r.request.range.count) c.in-Read.is in
      let len : length c.from_vec.result ≡ 512 * r.request.range.count = omega (arith, ap length bytes, c.read.auto.out, filled) in
      let goes = met_moves g.B.Block.may_hold g.B.Block.contents g.B.Block.layers g.B.Block.size g.met.B.Block.whole g.met.B.Block.holds_now _ c.self.invariant.whole c.self.invariant.lasting.snaps (given_by (Issue c.args.number) (map in_flight v.flights.items)) c.read.new.self v.flights.items (record { adds = λ lo. adds_none _ _ _ c.read.ensures.stop; bytes = c.read.ensures.contents; sectors = c.read.ensures.size; loud = c.read.ensures.loud }) in
      let both = met_both g.B.Block.may_hold g.B.Block.contents g.B.Block.layers g.B.Block.size g.met.B.Block.whole g.met.B.Block.holds_now _ c.self.invariant.whole c.self.invariant.lasting (given_by (Issue c.args.number) (map in_flight v.flights.items)) _ goes refl (record { adds = λ lo. adds_none _ _ _ c.read.ensures.stop; bytes = c.read.ensures.contents; sectors = c.read.ensures.size; loud = c.read.ensures.loud }) in
      record { snaps = both.lasts; merge = both.merge };
}

pub returns-in-Ok-clause-step : goal.returns-in-Ok-clause-step
returns-in-Ok-clause-step g c =
    let v = c.self.inside in
    let r = c.remove-flight.result in
    let found : position (λ (f : Flight). nat_eq f.number c.args.number) v.flights.items ≡ Some c.args.place = ap (λ (x : Volumed _). position (λ (f : Flight). nat_eq f.number c.args.number) x.flights) c.self.view_is ∙ c.requires.found in
    let within = position_within (λ (f : Flight). nat_eq f.number c.args.number) v.flights.items c.args.place found in
    let was : r ≡ get_or v.flights.items c.args.place r = c.remove-flight.ensures.value in
    let route : r.route ≡ Origin = ap (λ (x : Flight). x.route) was ∙ ap (λ (x : Volumed _). (get_or x.flights c.args.place r).route) c.self.view_is ∙ c.requires.route r in
    let bytes : c.from_vec.result ≡ c.read.new.out = c.from_vec.ensures ∙ with_items_is r.room c.read.new.out (omega (arith, c.read.auto.out, c.as_mut_slice.ensures.len)) in
    let request = request_at g.B.Block.contents g.B.Block.layers g.B.Block.size _ c.self.invariant.whole c.args.place r within was in
    let filled = ap length c.as_mut_slice.ensures.value ∙ request.room ∙ ap (λ (o : Op). room_at o r.request.range.count) c.in-Read.is in
    let len : length c.from_vec.result ≡ 512 * r.request.range.count = omega (arith, ap length bytes, c.read.auto.out, filled) in
    let good = disk_read g.B.Block.contents g.B.Block.layers g.B.Block.size g.B.Block.fault_count g.B.Block.done_count _ c.self.invariant.whole c.args.number c.args.place r found was route c.read.new.self c.read.ensures.size c.read.ensures.loud c.in-Read.is c.read.ensures.contents c.read.ensures.done c.from_vec.result len (bytes ∙ c.in-Ok.ensures.data) c.in-Ok.ensures.faults in
    rw (← c.self.view_is, c.remove-flight.ensures.items) good.stepped

pub returns-in-Ok-clause-exact : goal.returns-in-Ok-clause-exact
returns-in-Ok-clause-exact g c =
    let v = c.self.inside in
    let r = c.remove-flight.result in
    let found : position (λ (f : Flight). nat_eq f.number c.args.number) v.flights.items ≡ Some c.args.place = ap (λ (x : Volumed _). position (λ (f : Flight). nat_eq f.number c.args.number) x.flights) c.self.view_is ∙ c.requires.found in
    let within = position_within (λ (f : Flight). nat_eq f.number c.args.number) v.flights.items c.args.place found in
    let was : r ≡ get_or v.flights.items c.args.place r = c.remove-flight.ensures.value in
    let route : r.route ≡ Origin = ap (λ (x : Flight). x.route) was ∙ ap (λ (x : Volumed _). (get_or x.flights c.args.place r).route) c.self.view_is ∙ c.requires.route r in
    let bytes : c.from_vec.result ≡ c.read.new.out = c.from_vec.ensures ∙ with_items_is r.room c.read.new.out (omega (arith, c.read.auto.out, c.as_mut_slice.ensures.len)) in
    let one : IsOneOperation (Reads r.request.range.first r.request.range.count) true (g.B.Block.layers v.origin) (g.B.Block.layers c.read.new.self) (g.B.Block.fault_count v.origin) (g.B.Block.fault_count c.read.new.self) (g.B.Block.done_count v.origin) (g.B.Block.done_count c.read.new.self) = record { answer = c.in-Ok.ensures.answer; layers = c.read.ensures.layers; loud = c.read.ensures.loud; faulty = c.in-Ok.ensures.faults; counted = c.read.ensures.done } in
    rw (← c.self.view_is, c.remove-flight.ensures.items) (origin_read_exact g.B.Block.contents g.B.Block.layers g.B.Block.size _ c.self.invariant.whole c.args.number c.args.place r found was true _ _ _ _ _ route c.read.new.self c.in-Read.is one c.read.ensures.contents (ap Data (bytes ∙ c.in-Ok.ensures.data)))

pub invariant_of-self-in-Read : goal.invariant_of-self-in-Read
invariant_of-self-in-Read g c = record {
  whole =
      let v = c.self.inside in
      let r = c.remove-flight.result in
      let found : position (λ (f : Flight). nat_eq f.number c.args.number) v.flights.items ≡ Some c.args.place = ap (λ (x : Volumed _). position (λ (f : Flight). nat_eq f.number c.args.number) x.flights) c.self.view_is ∙ c.requires.found in
      let within = position_within (λ (f : Flight). nat_eq f.number c.args.number) v.flights.items c.args.place found in
      let was : r ≡ get_or v.flights.items c.args.place r = c.remove-flight.ensures.value in
      let route : r.route ≡ Origin = ap (λ (x : Flight). x.route) was ∙ ap (λ (x : Volumed _). (get_or x.flights c.args.place r).route) c.self.view_is ∙ c.requires.route r in
      let good = disk_read_io g.B.Block.contents g.B.Block.layers g.B.Block.size g.B.Block.fault_count g.B.Block.done_count _ c.self.invariant.whole c.args.number c.args.place r found was route c.read.new.self c.read.ensures.size c.read.ensures.loud c.in-Read.is c.read.ensures.contents c.read.ensures.done c.in-Err.ensures.faults in
      rw c.remove-flight.ensures.items good.whole;
  lasting =
      let v = c.self.inside in
      let r = c.remove-flight.result in
      let found : position (λ (f : Flight). nat_eq f.number c.args.number) v.flights.items ≡ Some c.args.place = ap (λ (x : Volumed _). position (λ (f : Flight). nat_eq f.number c.args.number) x.flights) c.self.view_is ∙ c.requires.found in
      let within = position_within (λ (f : Flight). nat_eq f.number c.args.number) v.flights.items c.args.place found in
      let was : r ≡ get_or v.flights.items c.args.place r = c.remove-flight.ensures.value in
      let route : r.route ≡ Origin = ap (λ (x : Flight). x.route) was ∙ ap (λ (x : Volumed _). (get_or x.flights c.args.place r).route) c.self.view_is ∙ c.requires.route r in
      let goes = met_moves g.B.Block.may_hold g.B.Block.contents g.B.Block.layers g.B.Block.size g.met.B.Block.whole g.met.B.Block.holds_now _ c.self.invariant.whole c.self.invariant.lasting.snaps (given_by (Issue c.args.number) (map in_flight v.flights.items)) c.read.new.self v.flights.items (record { adds = λ lo. adds_none _ _ _ c.read.ensures.stop; bytes = c.read.ensures.contents; sectors = c.read.ensures.size; loud = c.read.ensures.loud }) in
      let both = met_both g.B.Block.may_hold g.B.Block.contents g.B.Block.layers g.B.Block.size g.met.B.Block.whole g.met.B.Block.holds_now _ c.self.invariant.whole c.self.invariant.lasting (given_by (Issue c.args.number) (map in_flight v.flights.items)) _ goes refl (record { adds = λ lo. adds_none _ _ _ c.read.ensures.stop; bytes = c.read.ensures.contents; sectors = c.read.ensures.size; loud = c.read.ensures.loud }) in
      record { snaps = both.lasts; merge = both.merge };
}

pub returns-in-Read-clause-step : goal.returns-in-Read-clause-step
returns-in-Read-clause-step g c =
    let v = c.self.inside in
    let r = c.remove-flight.result in
    let found : position (λ (f : Flight). nat_eq f.number c.args.number) v.flights.items ≡ Some c.args.place = ap (λ (x : Volumed _). position (λ (f : Flight). nat_eq f.number c.args.number) x.flights) c.self.view_is ∙ c.requires.found in
    let within = position_within (λ (f : Flight). nat_eq f.number c.args.number) v.flights.items c.args.place found in
    let was : r ≡ get_or v.flights.items c.args.place r = c.remove-flight.ensures.value in
    let route : r.route ≡ Origin = ap (λ (x : Flight). x.route) was ∙ ap (λ (x : Volumed _). (get_or x.flights c.args.place r).route) c.self.view_is ∙ c.requires.route r in
    let good = disk_read_io g.B.Block.contents g.B.Block.layers g.B.Block.size g.B.Block.fault_count g.B.Block.done_count _ c.self.invariant.whole c.args.number c.args.place r found was route c.read.new.self c.read.ensures.size c.read.ensures.loud c.in-Read.is c.read.ensures.contents c.read.ensures.done c.in-Err.ensures.faults in
    rw (← c.self.view_is, c.remove-flight.ensures.items) good.stepped

pub returns-in-Read-clause-exact : goal.returns-in-Read-clause-exact
returns-in-Read-clause-exact g c =
    let v = c.self.inside in
    let r = c.remove-flight.result in
    let found : position (λ (f : Flight). nat_eq f.number c.args.number) v.flights.items ≡ Some c.args.place = ap (λ (x : Volumed _). position (λ (f : Flight). nat_eq f.number c.args.number) x.flights) c.self.view_is ∙ c.requires.found in
    let within = position_within (λ (f : Flight). nat_eq f.number c.args.number) v.flights.items c.args.place found in
    let was : r ≡ get_or v.flights.items c.args.place r = c.remove-flight.ensures.value in
    let route : r.route ≡ Origin = ap (λ (x : Flight). x.route) was ∙ ap (λ (x : Volumed _). (get_or x.flights c.args.place r).route) c.self.view_is ∙ c.requires.route r in
    let one : IsOneOperation (Reads r.request.range.first r.request.range.count) false (g.B.Block.layers v.origin) (g.B.Block.layers c.read.new.self) (g.B.Block.fault_count v.origin) (g.B.Block.fault_count c.read.new.self) (g.B.Block.done_count v.origin) (g.B.Block.done_count c.read.new.self) = record { answer = c.in-Err.ensures.answer; layers = c.read.ensures.layers; loud = c.read.ensures.loud; faulty = c.in-Err.ensures.faults; counted = c.read.ensures.done } in
    rw (← c.self.view_is, c.remove-flight.ensures.items) (origin_read_exact g.B.Block.contents g.B.Block.layers g.B.Block.size _ c.self.invariant.whole c.args.number c.args.place r found was false _ _ _ _ _ route c.read.new.self c.in-Read.is one c.read.ensures.contents refl)

pub write-requires-clause-some : goal.write-requires-clause-some
write-requires-clause-some g c =
    let v = c.self.inside in
    let r = c.remove-flight.result in
    let found : position (λ (f : Flight). nat_eq f.number c.args.number) v.flights.items ≡ Some c.args.place = ap (λ (x : Volumed _). position (λ (f : Flight). nat_eq f.number c.args.number) x.flights) c.self.view_is ∙ c.requires.found in
    let within = position_within (λ (f : Flight). nat_eq f.number c.args.number) v.flights.items c.args.place found in
    let was : r ≡ get_or v.flights.items c.args.place r = c.remove-flight.ensures.value in
    let request = request_at g.B.Block.contents g.B.Block.layers g.B.Block.size _ c.self.invariant.whole c.args.place r within was in
    request.some

pub write-requires-clause-inside : goal.write-requires-clause-inside
write-requires-clause-inside g c =
    let v = c.self.inside in
    let r = c.remove-flight.result in
    let found : position (λ (f : Flight). nat_eq f.number c.args.number) v.flights.items ≡ Some c.args.place = ap (λ (x : Volumed _). position (λ (f : Flight). nat_eq f.number c.args.number) x.flights) c.self.view_is ∙ c.requires.found in
    let within = position_within (λ (f : Flight). nat_eq f.number c.args.number) v.flights.items c.args.place found in
    let was : r ≡ get_or v.flights.items c.args.place r = c.remove-flight.ensures.value in
    let request = request_at g.B.Block.contents g.B.Block.layers g.B.Block.size _ c.self.invariant.whole c.args.place r within was in
    request.inside

pub write-requires-clause-room : goal.write-requires-clause-room
write-requires-clause-room g c =
    let v = c.self.inside in
    let r = c.remove-flight.result in
    let found : position (λ (f : Flight). nat_eq f.number c.args.number) v.flights.items ≡ Some c.args.place = ap (λ (x : Volumed _). position (λ (f : Flight). nat_eq f.number c.args.number) x.flights) c.self.view_is ∙ c.requires.found in
    let within = position_within (λ (f : Flight). nat_eq f.number c.args.number) v.flights.items c.args.place found in
    let was : r ≡ get_or v.flights.items c.args.place r = c.remove-flight.ensures.value in
    let request = request_at g.B.Block.contents g.B.Block.layers g.B.Block.size _ c.self.invariant.whole c.args.place r within was in
    ap length c.as_slice.ensures ∙ request.bytes c.in-Write.bytes c.in-Write.is

pub invariant_of-self-in-Ok-write : goal.invariant_of-self-in-Ok-write
invariant_of-self-in-Ok-write g c = record {
  whole =
      let v = c.self.inside in
      let r = c.remove-flight.result in
      let found : position (λ (f : Flight). nat_eq f.number c.args.number) v.flights.items ≡ Some c.args.place = ap (λ (x : Volumed _). position (λ (f : Flight). nat_eq f.number c.args.number) x.flights) c.self.view_is ∙ c.requires.found in
      let within = position_within (λ (f : Flight). nat_eq f.number c.args.number) v.flights.items c.args.place found in
      let was : r ≡ get_or v.flights.items c.args.place r = c.remove-flight.ensures.value in
      let route : r.route ≡ Origin = ap (λ (x : Flight). x.route) was ∙ ap (λ (x : Volumed _). (get_or x.flights c.args.place r).route) c.self.view_is ∙ c.requires.route r in
      let len = g.met.B.Block.whole c.write.new.self ∙ ap (λ n. 512 * n) c.write.ensures.size ∙ sym (g.met.B.Block.whole v.origin) in
      let good = disk_write g.B.Block.contents g.B.Block.layers g.B.Block.size g.B.Block.fault_count g.B.Block.done_count _ c.self.invariant.whole c.args.number c.args.place r found was route c.write.new.self c.write.ensures.size c.write.ensures.loud c.in-Write.bytes c.in-Write.is c.write.ensures.done (record { len = len; rest = c.write.ensures.rest })
      (λ l. c.in-Ok-write.ensures.written l ∙ ap (with_sectors (g.B.Block.contents v.origin) r.request.range.first) c.as_slice.ensures) c.in-Ok-write.ensures.faults in
      rw c.remove-flight.ensures.items good.whole;
  lasting =
      let v = c.self.inside in
      let r = c.remove-flight.result in
      let found : position (λ (f : Flight). nat_eq f.number c.args.number) v.flights.items ≡ Some c.args.place = ap (λ (x : Volumed _). position (λ (f : Flight). nat_eq f.number c.args.number) x.flights) c.self.view_is ∙ c.requires.found in
      let within = position_within (λ (f : Flight). nat_eq f.number c.args.number) v.flights.items c.args.place found in
      let was : r ≡ get_or v.flights.items c.args.place r = c.remove-flight.ensures.value in
      let route : r.route ≡ Origin = ap (λ (x : Flight). x.route) was ∙ ap (λ (x : Volumed _). (get_or x.flights c.args.place r).route) c.self.view_is ∙ c.requires.route r in
      let len = g.met.B.Block.whole c.write.new.self ∙ ap (λ n. 512 * n) c.write.ensures.size ∙ sym (g.met.B.Block.whole v.origin) in
      let good = disk_write g.B.Block.contents g.B.Block.layers g.B.Block.size g.B.Block.fault_count g.B.Block.done_count _ c.self.invariant.whole c.args.number c.args.place r found was route c.write.new.self c.write.ensures.size c.write.ensures.loud c.in-Write.bytes c.in-Write.is c.write.ensures.done (record { len = len; rest = c.write.ensures.rest })
      (λ l. c.in-Ok-write.ensures.written l ∙ ap (with_sectors (g.B.Block.contents v.origin) r.request.range.first) c.as_slice.ensures) c.in-Ok-write.ensures.faults in
      let both = disk_both g.B.Block.may_hold g.B.Block.contents g.B.Block.layers g.B.Block.size g.met.B.Block.whole g.met.B.Block.holds_now _ c.self.invariant.whole c.self.invariant.lasting c.args.number c.args.place r found was c.in-Write.bytes c.in-Write.is route c.write.new.self v.flights.items (λ l. c.in-Ok-write.ensures.written l ∙ ap (with_sectors (g.B.Block.contents v.origin) r.request.range.first) c.as_slice.ensures) (record { len = len; rest = c.write.ensures.rest }) (subst (λ (b : List ℕ). (s : ℕ) (x : List ℕ) → g.B.Block.may_hold c.write.new.self s x → g.B.Block.may_hold v.origin s x ⊎ ((r.request.range.first ≤ s) × (s < r.request.range.first + r.request.range.count) × (x ≡ sector_at b (s - r.request.range.first)))) c.as_slice.ensures c.write.ensures.stop) c.write.ensures.size c.write.ensures.loud in
      record { snaps = both.lasts; merge = both.merge };
}

pub returns-in-Ok-write-clause-step : goal.returns-in-Ok-write-clause-step
returns-in-Ok-write-clause-step g c =
    let v = c.self.inside in
    let r = c.remove-flight.result in
    let found : position (λ (f : Flight). nat_eq f.number c.args.number) v.flights.items ≡ Some c.args.place = ap (λ (x : Volumed _). position (λ (f : Flight). nat_eq f.number c.args.number) x.flights) c.self.view_is ∙ c.requires.found in
    let within = position_within (λ (f : Flight). nat_eq f.number c.args.number) v.flights.items c.args.place found in
    let was : r ≡ get_or v.flights.items c.args.place r = c.remove-flight.ensures.value in
    let route : r.route ≡ Origin = ap (λ (x : Flight). x.route) was ∙ ap (λ (x : Volumed _). (get_or x.flights c.args.place r).route) c.self.view_is ∙ c.requires.route r in
    let len = g.met.B.Block.whole c.write.new.self ∙ ap (λ n. 512 * n) c.write.ensures.size ∙ sym (g.met.B.Block.whole v.origin) in
    let good = disk_write g.B.Block.contents g.B.Block.layers g.B.Block.size g.B.Block.fault_count g.B.Block.done_count _ c.self.invariant.whole c.args.number c.args.place r found was route c.write.new.self c.write.ensures.size c.write.ensures.loud c.in-Write.bytes c.in-Write.is c.write.ensures.done (record { len = len; rest = c.write.ensures.rest })
    (λ l. c.in-Ok-write.ensures.written l ∙ ap (with_sectors (g.B.Block.contents v.origin) r.request.range.first) c.as_slice.ensures) c.in-Ok-write.ensures.faults in
    rw (← c.self.view_is, c.remove-flight.ensures.items) good.stepped

pub returns-in-Ok-write-clause-exact : goal.returns-in-Ok-write-clause-exact
returns-in-Ok-write-clause-exact g c =
    let v = c.self.inside in
    let r = c.remove-flight.result in
    let found : position (λ (f : Flight). nat_eq f.number c.args.number) v.flights.items ≡ Some c.args.place = ap (λ (x : Volumed _). position (λ (f : Flight). nat_eq f.number c.args.number) x.flights) c.self.view_is ∙ c.requires.found in
    let within = position_within (λ (f : Flight). nat_eq f.number c.args.number) v.flights.items c.args.place found in
    let was : r ≡ get_or v.flights.items c.args.place r = c.remove-flight.ensures.value in
    let route : r.route ≡ Origin = ap (λ (x : Flight). x.route) was ∙ ap (λ (x : Volumed _). (get_or x.flights c.args.place r).route) c.self.view_is ∙ c.requires.route r in
    let one : IsOneOperation (Writes r.request.range.first r.request.range.count) true (g.B.Block.layers v.origin) (g.B.Block.layers c.write.new.self) (g.B.Block.fault_count v.origin) (g.B.Block.fault_count c.write.new.self) (g.B.Block.done_count v.origin) (g.B.Block.done_count c.write.new.self) = record { answer = c.in-Ok-write.ensures.answer; layers = c.write.ensures.layers; loud = c.write.ensures.loud; faulty = c.in-Ok-write.ensures.faults; counted = c.write.ensures.done } in
    rw (← c.self.view_is, c.remove-flight.ensures.items) (origin_write_exact g.B.Block.contents g.B.Block.layers g.B.Block.size _ c.self.invariant.whole c.args.number c.args.place r found was true _ _ _ _ _ route c.write.new.self c.in-Write.bytes c.in-Write.is one (λ l. c.in-Ok-write.ensures.written l ∙ ap (with_sectors (g.B.Block.contents v.origin) r.request.range.first) c.as_slice.ensures) refl)

pub invariant_of-self-in-Write : goal.invariant_of-self-in-Write
invariant_of-self-in-Write g c = record {
  whole =
      let v = c.self.inside in
      let r = c.remove-flight.result in
      let found : position (λ (f : Flight). nat_eq f.number c.args.number) v.flights.items ≡ Some c.args.place = ap (λ (x : Volumed _). position (λ (f : Flight). nat_eq f.number c.args.number) x.flights) c.self.view_is ∙ c.requires.found in
      let within = position_within (λ (f : Flight). nat_eq f.number c.args.number) v.flights.items c.args.place found in
      let was : r ≡ get_or v.flights.items c.args.place r = c.remove-flight.ensures.value in
      let route : r.route ≡ Origin = ap (λ (x : Flight). x.route) was ∙ ap (λ (x : Volumed _). (get_or x.flights c.args.place r).route) c.self.view_is ∙ c.requires.route r in
      let good = disk_write_io g.B.Block.contents g.B.Block.layers g.B.Block.size g.B.Block.fault_count g.B.Block.done_count _ c.self.invariant.whole c.args.number c.args.place r found was route c.write.new.self c.write.ensures.size c.write.ensures.loud c.in-Write.bytes c.in-Write.is c.write.ensures.done c.in-Err-write.ensures.err c.in-Err-write.ensures.faults in
      rw c.remove-flight.ensures.items good.whole;
  lasting =
      let v = c.self.inside in
      let r = c.remove-flight.result in
      let found : position (λ (f : Flight). nat_eq f.number c.args.number) v.flights.items ≡ Some c.args.place = ap (λ (x : Volumed _). position (λ (f : Flight). nat_eq f.number c.args.number) x.flights) c.self.view_is ∙ c.requires.found in
      let within = position_within (λ (f : Flight). nat_eq f.number c.args.number) v.flights.items c.args.place found in
      let was : r ≡ get_or v.flights.items c.args.place r = c.remove-flight.ensures.value in
      let route : r.route ≡ Origin = ap (λ (x : Flight). x.route) was ∙ ap (λ (x : Volumed _). (get_or x.flights c.args.place r).route) c.self.view_is ∙ c.requires.route r in
      let goes = met_moves g.B.Block.may_hold g.B.Block.contents g.B.Block.layers g.B.Block.size g.met.B.Block.whole g.met.B.Block.holds_now _ c.self.invariant.whole c.self.invariant.lasting.snaps (given_by (Issue c.args.number) (map in_flight v.flights.items)) c.write.new.self v.flights.items (record { adds = λ lo. adds_none _ _ _ c.in-Err-write.ensures.stop_err; bytes = c.in-Err-write.ensures.err; sectors = c.write.ensures.size; loud = c.write.ensures.loud }) in
      let both = met_both g.B.Block.may_hold g.B.Block.contents g.B.Block.layers g.B.Block.size g.met.B.Block.whole g.met.B.Block.holds_now _ c.self.invariant.whole c.self.invariant.lasting (given_by (Issue c.args.number) (map in_flight v.flights.items)) _ goes refl (record { adds = λ lo. adds_none _ _ _ c.in-Err-write.ensures.stop_err; bytes = c.in-Err-write.ensures.err; sectors = c.write.ensures.size; loud = c.write.ensures.loud }) in
      record { snaps = both.lasts; merge = both.merge };
}

pub returns-in-Write-clause-step : goal.returns-in-Write-clause-step
returns-in-Write-clause-step g c =
    let v = c.self.inside in
    let r = c.remove-flight.result in
    let found : position (λ (f : Flight). nat_eq f.number c.args.number) v.flights.items ≡ Some c.args.place = ap (λ (x : Volumed _). position (λ (f : Flight). nat_eq f.number c.args.number) x.flights) c.self.view_is ∙ c.requires.found in
    let within = position_within (λ (f : Flight). nat_eq f.number c.args.number) v.flights.items c.args.place found in
    let was : r ≡ get_or v.flights.items c.args.place r = c.remove-flight.ensures.value in
    let route : r.route ≡ Origin = ap (λ (x : Flight). x.route) was ∙ ap (λ (x : Volumed _). (get_or x.flights c.args.place r).route) c.self.view_is ∙ c.requires.route r in
    let good = disk_write_io g.B.Block.contents g.B.Block.layers g.B.Block.size g.B.Block.fault_count g.B.Block.done_count _ c.self.invariant.whole c.args.number c.args.place r found was route c.write.new.self c.write.ensures.size c.write.ensures.loud c.in-Write.bytes c.in-Write.is c.write.ensures.done c.in-Err-write.ensures.err c.in-Err-write.ensures.faults in
    rw (← c.self.view_is, c.remove-flight.ensures.items) good.stepped

pub returns-in-Write-clause-exact : goal.returns-in-Write-clause-exact
returns-in-Write-clause-exact g c =
    let v = c.self.inside in
    let r = c.remove-flight.result in
    let found : position (λ (f : Flight). nat_eq f.number c.args.number) v.flights.items ≡ Some c.args.place = ap (λ (x : Volumed _). position (λ (f : Flight). nat_eq f.number c.args.number) x.flights) c.self.view_is ∙ c.requires.found in
    let within = position_within (λ (f : Flight). nat_eq f.number c.args.number) v.flights.items c.args.place found in
    let was : r ≡ get_or v.flights.items c.args.place r = c.remove-flight.ensures.value in
    let route : r.route ≡ Origin = ap (λ (x : Flight). x.route) was ∙ ap (λ (x : Volumed _). (get_or x.flights c.args.place r).route) c.self.view_is ∙ c.requires.route r in
    let one : IsOneOperation (Writes r.request.range.first r.request.range.count) false (g.B.Block.layers v.origin) (g.B.Block.layers c.write.new.self) (g.B.Block.fault_count v.origin) (g.B.Block.fault_count c.write.new.self) (g.B.Block.done_count v.origin) (g.B.Block.done_count c.write.new.self) = record { answer = c.in-Err-write.ensures.answer; layers = c.write.ensures.layers; loud = c.write.ensures.loud; faulty = c.in-Err-write.ensures.faults; counted = c.write.ensures.done } in
    rw (← c.self.view_is, c.remove-flight.ensures.items) (origin_write_exact g.B.Block.contents g.B.Block.layers g.B.Block.size _ c.self.invariant.whole c.args.number c.args.place r found was false _ _ _ _ _ route c.write.new.self c.in-Write.bytes c.in-Write.is one (λ l. c.in-Err-write.ensures.err) refl)

pub invariant_of-self-in-Ok-flush : goal.invariant_of-self-in-Ok-flush
invariant_of-self-in-Ok-flush g c = record {
  whole =
      let v = c.self.inside in
      let r = c.remove-flight.result in
      let found : position (λ (f : Flight). nat_eq f.number c.args.number) v.flights.items ≡ Some c.args.place = ap (λ (x : Volumed _). position (λ (f : Flight). nat_eq f.number c.args.number) x.flights) c.self.view_is ∙ c.requires.found in
      let within = position_within (λ (f : Flight). nat_eq f.number c.args.number) v.flights.items c.args.place found in
      let was : r ≡ get_or v.flights.items c.args.place r = c.remove-flight.ensures.value in
      let route : r.route ≡ Origin = ap (λ (x : Flight). x.route) was ∙ ap (λ (x : Volumed _). (get_or x.flights c.args.place r).route) c.self.view_is ∙ c.requires.route r in
      let good = disk_flush g.B.Block.contents g.B.Block.layers g.B.Block.size g.B.Block.fault_count g.B.Block.done_count _ c.self.invariant.whole c.args.number c.args.place r found was route c.flush.new.self c.flush.ensures.size c.flush.ensures.loud c.in-Flush.is c.flush.ensures.contents c.flush.ensures.done c.in-Ok-flush.ensures.faults in
      rw c.remove-flight.ensures.items good.whole;
  lasting =
      let v = c.self.inside in
      let r = c.remove-flight.result in
      let found : position (λ (f : Flight). nat_eq f.number c.args.number) v.flights.items ≡ Some c.args.place = ap (λ (x : Volumed _). position (λ (f : Flight). nat_eq f.number c.args.number) x.flights) c.self.view_is ∙ c.requires.found in
      let within = position_within (λ (f : Flight). nat_eq f.number c.args.number) v.flights.items c.args.place found in
      let was : r ≡ get_or v.flights.items c.args.place r = c.remove-flight.ensures.value in
      let route : r.route ≡ Origin = ap (λ (x : Flight). x.route) was ∙ ap (λ (x : Volumed _). (get_or x.flights c.args.place r).route) c.self.view_is ∙ c.requires.route r in
      let goes = met_moves g.B.Block.may_hold g.B.Block.contents g.B.Block.layers g.B.Block.size g.met.B.Block.whole g.met.B.Block.holds_now _ c.self.invariant.whole c.self.invariant.lasting.snaps (given_by (Issue c.args.number) (map in_flight v.flights.items)) c.flush.new.self v.flights.items (record { adds = λ lo. adds_none _ _ _ c.flush.ensures.stop; bytes = c.flush.ensures.contents; sectors = c.flush.ensures.size; loud = c.flush.ensures.loud }) in
      let both = met_both g.B.Block.may_hold g.B.Block.contents g.B.Block.layers g.B.Block.size g.met.B.Block.whole g.met.B.Block.holds_now _ c.self.invariant.whole c.self.invariant.lasting (given_by (Issue c.args.number) (map in_flight v.flights.items)) _ goes refl (record { adds = λ lo. adds_none _ _ _ c.flush.ensures.stop; bytes = c.flush.ensures.contents; sectors = c.flush.ensures.size; loud = c.flush.ensures.loud }) in
      record { snaps = both.lasts; merge = both.merge };
}

pub returns-in-Ok-flush-clause-step : goal.returns-in-Ok-flush-clause-step
returns-in-Ok-flush-clause-step g c =
    let v = c.self.inside in
    let r = c.remove-flight.result in
    let found : position (λ (f : Flight). nat_eq f.number c.args.number) v.flights.items ≡ Some c.args.place = ap (λ (x : Volumed _). position (λ (f : Flight). nat_eq f.number c.args.number) x.flights) c.self.view_is ∙ c.requires.found in
    let within = position_within (λ (f : Flight). nat_eq f.number c.args.number) v.flights.items c.args.place found in
    let was : r ≡ get_or v.flights.items c.args.place r = c.remove-flight.ensures.value in
    let route : r.route ≡ Origin = ap (λ (x : Flight). x.route) was ∙ ap (λ (x : Volumed _). (get_or x.flights c.args.place r).route) c.self.view_is ∙ c.requires.route r in
    let good = disk_flush g.B.Block.contents g.B.Block.layers g.B.Block.size g.B.Block.fault_count g.B.Block.done_count _ c.self.invariant.whole c.args.number c.args.place r found was route c.flush.new.self c.flush.ensures.size c.flush.ensures.loud c.in-Flush.is c.flush.ensures.contents c.flush.ensures.done c.in-Ok-flush.ensures.faults in
    rw (← c.self.view_is, c.remove-flight.ensures.items) good.stepped

pub returns-in-Ok-flush-clause-exact : goal.returns-in-Ok-flush-clause-exact
returns-in-Ok-flush-clause-exact g c =
    let v = c.self.inside in
    let r = c.remove-flight.result in
    let found : position (λ (f : Flight). nat_eq f.number c.args.number) v.flights.items ≡ Some c.args.place = ap (λ (x : Volumed _). position (λ (f : Flight). nat_eq f.number c.args.number) x.flights) c.self.view_is ∙ c.requires.found in
    let within = position_within (λ (f : Flight). nat_eq f.number c.args.number) v.flights.items c.args.place found in
    let was : r ≡ get_or v.flights.items c.args.place r = c.remove-flight.ensures.value in
    let route : r.route ≡ Origin = ap (λ (x : Flight). x.route) was ∙ ap (λ (x : Volumed _). (get_or x.flights c.args.place r).route) c.self.view_is ∙ c.requires.route r in
    let one : IsOneOperation Flushes true (g.B.Block.layers v.origin) (g.B.Block.layers c.flush.new.self) (g.B.Block.fault_count v.origin) (g.B.Block.fault_count c.flush.new.self) (g.B.Block.done_count v.origin) (g.B.Block.done_count c.flush.new.self) = record { answer = c.in-Ok-flush.ensures.answer; layers = c.flush.ensures.layers; loud = c.flush.ensures.loud; faulty = c.in-Ok-flush.ensures.faults; counted = c.flush.ensures.done } in
    rw (← c.self.view_is, c.remove-flight.ensures.items) (origin_flush_exact g.B.Block.contents g.B.Block.layers g.B.Block.size _ c.self.invariant.whole c.args.number c.args.place r found was true _ _ _ _ _ route c.flush.new.self c.in-Flush.is one c.flush.ensures.contents refl)

pub invariant_of-self-in-Flush : goal.invariant_of-self-in-Flush
invariant_of-self-in-Flush g c = record {
  whole =
      let v = c.self.inside in
      let r = c.remove-flight.result in
      let found : position (λ (f : Flight). nat_eq f.number c.args.number) v.flights.items ≡ Some c.args.place = ap (λ (x : Volumed _). position (λ (f : Flight). nat_eq f.number c.args.number) x.flights) c.self.view_is ∙ c.requires.found in
      let within = position_within (λ (f : Flight). nat_eq f.number c.args.number) v.flights.items c.args.place found in
      let was : r ≡ get_or v.flights.items c.args.place r = c.remove-flight.ensures.value in
      let route : r.route ≡ Origin = ap (λ (x : Flight). x.route) was ∙ ap (λ (x : Volumed _). (get_or x.flights c.args.place r).route) c.self.view_is ∙ c.requires.route r in
      let good = disk_flush_io g.B.Block.contents g.B.Block.layers g.B.Block.size g.B.Block.fault_count g.B.Block.done_count _ c.self.invariant.whole c.args.number c.args.place r found was route c.flush.new.self c.flush.ensures.size c.flush.ensures.loud c.in-Flush.is c.flush.ensures.contents c.flush.ensures.done c.in-Err-flush.ensures.faults in
      rw c.remove-flight.ensures.items good.whole;
  lasting =
      let v = c.self.inside in
      let r = c.remove-flight.result in
      let found : position (λ (f : Flight). nat_eq f.number c.args.number) v.flights.items ≡ Some c.args.place = ap (λ (x : Volumed _). position (λ (f : Flight). nat_eq f.number c.args.number) x.flights) c.self.view_is ∙ c.requires.found in
      let within = position_within (λ (f : Flight). nat_eq f.number c.args.number) v.flights.items c.args.place found in
      let was : r ≡ get_or v.flights.items c.args.place r = c.remove-flight.ensures.value in
      let route : r.route ≡ Origin = ap (λ (x : Flight). x.route) was ∙ ap (λ (x : Volumed _). (get_or x.flights c.args.place r).route) c.self.view_is ∙ c.requires.route r in
      let goes = met_moves g.B.Block.may_hold g.B.Block.contents g.B.Block.layers g.B.Block.size g.met.B.Block.whole g.met.B.Block.holds_now _ c.self.invariant.whole c.self.invariant.lasting.snaps (given_by (Issue c.args.number) (map in_flight v.flights.items)) c.flush.new.self v.flights.items (record { adds = λ lo. adds_none _ _ _ c.flush.ensures.stop; bytes = c.flush.ensures.contents; sectors = c.flush.ensures.size; loud = c.flush.ensures.loud }) in
      let both = met_both g.B.Block.may_hold g.B.Block.contents g.B.Block.layers g.B.Block.size g.met.B.Block.whole g.met.B.Block.holds_now _ c.self.invariant.whole c.self.invariant.lasting (given_by (Issue c.args.number) (map in_flight v.flights.items)) _ goes refl (record { adds = λ lo. adds_none _ _ _ c.flush.ensures.stop; bytes = c.flush.ensures.contents; sectors = c.flush.ensures.size; loud = c.flush.ensures.loud }) in
      record { snaps = both.lasts; merge = both.merge };
}

pub returns-clause-step : goal.returns-clause-step
returns-clause-step g c =
    let v = c.self.inside in
    let r = c.remove-flight.result in
    let found : position (λ (f : Flight). nat_eq f.number c.args.number) v.flights.items ≡ Some c.args.place = ap (λ (x : Volumed _). position (λ (f : Flight). nat_eq f.number c.args.number) x.flights) c.self.view_is ∙ c.requires.found in
    let within = position_within (λ (f : Flight). nat_eq f.number c.args.number) v.flights.items c.args.place found in
    let was : r ≡ get_or v.flights.items c.args.place r = c.remove-flight.ensures.value in
    let route : r.route ≡ Origin = ap (λ (x : Flight). x.route) was ∙ ap (λ (x : Volumed _). (get_or x.flights c.args.place r).route) c.self.view_is ∙ c.requires.route r in
    let good = disk_flush_io g.B.Block.contents g.B.Block.layers g.B.Block.size g.B.Block.fault_count g.B.Block.done_count _ c.self.invariant.whole c.args.number c.args.place r found was route c.flush.new.self c.flush.ensures.size c.flush.ensures.loud c.in-Flush.is c.flush.ensures.contents c.flush.ensures.done c.in-Err-flush.ensures.faults in
    rw (← c.self.view_is, c.remove-flight.ensures.items) good.stepped

pub returns-clause-exact : goal.returns-clause-exact
returns-clause-exact g c =
    let v = c.self.inside in
    let r = c.remove-flight.result in
    let found : position (λ (f : Flight). nat_eq f.number c.args.number) v.flights.items ≡ Some c.args.place = ap (λ (x : Volumed _). position (λ (f : Flight). nat_eq f.number c.args.number) x.flights) c.self.view_is ∙ c.requires.found in
    let within = position_within (λ (f : Flight). nat_eq f.number c.args.number) v.flights.items c.args.place found in
    let was : r ≡ get_or v.flights.items c.args.place r = c.remove-flight.ensures.value in
    let route : r.route ≡ Origin = ap (λ (x : Flight). x.route) was ∙ ap (λ (x : Volumed _). (get_or x.flights c.args.place r).route) c.self.view_is ∙ c.requires.route r in
    let one : IsOneOperation Flushes false (g.B.Block.layers v.origin) (g.B.Block.layers c.flush.new.self) (g.B.Block.fault_count v.origin) (g.B.Block.fault_count c.flush.new.self) (g.B.Block.done_count v.origin) (g.B.Block.done_count c.flush.new.self) = record { answer = c.in-Err-flush.ensures.answer; layers = c.flush.ensures.layers; loud = c.flush.ensures.loud; faulty = c.in-Err-flush.ensures.faults; counted = c.flush.ensures.done } in
    rw (← c.self.view_is, c.remove-flight.ensures.items) (origin_flush_exact g.B.Block.contents g.B.Block.layers g.B.Block.size _ c.self.invariant.whole c.args.number c.args.place r found was false _ _ _ _ _ route c.flush.new.self c.in-Flush.is one c.flush.ensures.contents refl)

pub returns-in-Ok-clause-stops_snaps : goal.returns-in-Ok-clause-stops_snaps
returns-in-Ok-clause-stops_snaps g c =
    let v = c.self.inside in
    let r = c.remove-flight.result in
    let found : position (λ (f : Flight). nat_eq f.number c.args.number) v.flights.items ≡ Some c.args.place = ap (λ (x : Volumed _). position (λ (f : Flight). nat_eq f.number c.args.number) x.flights) c.self.view_is ∙ c.requires.found in
    let within = position_within (λ (f : Flight). nat_eq f.number c.args.number) v.flights.items c.args.place found in
    let was : r ≡ get_or v.flights.items c.args.place r = c.remove-flight.ensures.value in
    let route : r.route ≡ Origin = ap (λ (x : Flight). x.route) was ∙ ap (λ (x : Volumed _). (get_or x.flights c.args.place r).route) c.self.view_is ∙ c.requires.route r in
    let bytes : c.from_vec.result ≡ c.read.new.out = c.from_vec.ensures ∙ with_items_is r.room c.read.new.out (omega (arith, c.read.auto.out, c.as_mut_slice.ensures.len)) in
    let request = request_at g.B.Block.contents g.B.Block.layers g.B.Block.size _ c.self.invariant.whole c.args.place r within was in
    let filled = ap length c.as_mut_slice.ensures.value ∙ request.room ∙ ap (λ (o : Op). room_at o r.request.range.count) c.in-Read.is in
    let len : length c.from_vec.result ≡ 512 * r.request.range.count = omega (arith, ap length bytes, c.read.auto.out, filled) in
    let goes = met_moves g.B.Block.may_hold g.B.Block.contents g.B.Block.layers g.B.Block.size g.met.B.Block.whole g.met.B.Block.holds_now _ c.self.invariant.whole c.self.invariant.lasting.snaps (given_by (Issue c.args.number) (map in_flight v.flights.items)) c.read.new.self v.flights.items (record { adds = λ lo. adds_none _ _ _ c.read.ensures.stop; bytes = c.read.ensures.contents; sectors = c.read.ensures.size; loud = c.read.ensures.loud }) in
    let both = met_both g.B.Block.may_hold g.B.Block.contents g.B.Block.layers g.B.Block.size g.met.B.Block.whole g.met.B.Block.holds_now _ c.self.invariant.whole c.self.invariant.lasting (given_by (Issue c.args.number) (map in_flight v.flights.items)) _ goes refl (record { adds = λ lo. adds_none _ _ _ c.read.ensures.stop; bytes = c.read.ensures.contents; sectors = c.read.ensures.size; loud = c.read.ensures.loud }) in
    rw (← c.self.view_is) both.stops_snaps

pub returns-in-Ok-clause-stops_origin : goal.returns-in-Ok-clause-stops_origin
returns-in-Ok-clause-stops_origin g c =
    let v = c.self.inside in
    let r = c.remove-flight.result in
    let found : position (λ (f : Flight). nat_eq f.number c.args.number) v.flights.items ≡ Some c.args.place = ap (λ (x : Volumed _). position (λ (f : Flight). nat_eq f.number c.args.number) x.flights) c.self.view_is ∙ c.requires.found in
    let within = position_within (λ (f : Flight). nat_eq f.number c.args.number) v.flights.items c.args.place found in
    let was : r ≡ get_or v.flights.items c.args.place r = c.remove-flight.ensures.value in
    let route : r.route ≡ Origin = ap (λ (x : Flight). x.route) was ∙ ap (λ (x : Volumed _). (get_or x.flights c.args.place r).route) c.self.view_is ∙ c.requires.route r in
    let bytes : c.from_vec.result ≡ c.read.new.out = c.from_vec.ensures ∙ with_items_is r.room c.read.new.out (omega (arith, c.read.auto.out, c.as_mut_slice.ensures.len)) in
    let request = request_at g.B.Block.contents g.B.Block.layers g.B.Block.size _ c.self.invariant.whole c.args.place r within was in
    let filled = ap length c.as_mut_slice.ensures.value ∙ request.room ∙ ap (λ (o : Op). room_at o r.request.range.count) c.in-Read.is in
    let len : length c.from_vec.result ≡ 512 * r.request.range.count = omega (arith, ap length bytes, c.read.auto.out, filled) in
    let goes = met_moves g.B.Block.may_hold g.B.Block.contents g.B.Block.layers g.B.Block.size g.met.B.Block.whole g.met.B.Block.holds_now _ c.self.invariant.whole c.self.invariant.lasting.snaps (given_by (Issue c.args.number) (map in_flight v.flights.items)) c.read.new.self v.flights.items (record { adds = λ lo. adds_none _ _ _ c.read.ensures.stop; bytes = c.read.ensures.contents; sectors = c.read.ensures.size; loud = c.read.ensures.loud }) in
    let both = met_both g.B.Block.may_hold g.B.Block.contents g.B.Block.layers g.B.Block.size g.met.B.Block.whole g.met.B.Block.holds_now _ c.self.invariant.whole c.self.invariant.lasting (given_by (Issue c.args.number) (map in_flight v.flights.items)) _ goes refl (record { adds = λ lo. adds_none _ _ _ c.read.ensures.stop; bytes = c.read.ensures.contents; sectors = c.read.ensures.size; loud = c.read.ensures.loud }) in
    rw (← c.self.view_is) both.stops_origin

pub returns-in-Read-clause-stops_snaps : goal.returns-in-Read-clause-stops_snaps
returns-in-Read-clause-stops_snaps g c =
    let v = c.self.inside in
    let r = c.remove-flight.result in
    let found : position (λ (f : Flight). nat_eq f.number c.args.number) v.flights.items ≡ Some c.args.place = ap (λ (x : Volumed _). position (λ (f : Flight). nat_eq f.number c.args.number) x.flights) c.self.view_is ∙ c.requires.found in
    let within = position_within (λ (f : Flight). nat_eq f.number c.args.number) v.flights.items c.args.place found in
    let was : r ≡ get_or v.flights.items c.args.place r = c.remove-flight.ensures.value in
    let route : r.route ≡ Origin = ap (λ (x : Flight). x.route) was ∙ ap (λ (x : Volumed _). (get_or x.flights c.args.place r).route) c.self.view_is ∙ c.requires.route r in
    let goes = met_moves g.B.Block.may_hold g.B.Block.contents g.B.Block.layers g.B.Block.size g.met.B.Block.whole g.met.B.Block.holds_now _ c.self.invariant.whole c.self.invariant.lasting.snaps (given_by (Issue c.args.number) (map in_flight v.flights.items)) c.read.new.self v.flights.items (record { adds = λ lo. adds_none _ _ _ c.read.ensures.stop; bytes = c.read.ensures.contents; sectors = c.read.ensures.size; loud = c.read.ensures.loud }) in
    let both = met_both g.B.Block.may_hold g.B.Block.contents g.B.Block.layers g.B.Block.size g.met.B.Block.whole g.met.B.Block.holds_now _ c.self.invariant.whole c.self.invariant.lasting (given_by (Issue c.args.number) (map in_flight v.flights.items)) _ goes refl (record { adds = λ lo. adds_none _ _ _ c.read.ensures.stop; bytes = c.read.ensures.contents; sectors = c.read.ensures.size; loud = c.read.ensures.loud }) in
    rw (← c.self.view_is) both.stops_snaps

pub returns-in-Read-clause-stops_origin : goal.returns-in-Read-clause-stops_origin
returns-in-Read-clause-stops_origin g c =
    let v = c.self.inside in
    let r = c.remove-flight.result in
    let found : position (λ (f : Flight). nat_eq f.number c.args.number) v.flights.items ≡ Some c.args.place = ap (λ (x : Volumed _). position (λ (f : Flight). nat_eq f.number c.args.number) x.flights) c.self.view_is ∙ c.requires.found in
    let within = position_within (λ (f : Flight). nat_eq f.number c.args.number) v.flights.items c.args.place found in
    let was : r ≡ get_or v.flights.items c.args.place r = c.remove-flight.ensures.value in
    let route : r.route ≡ Origin = ap (λ (x : Flight). x.route) was ∙ ap (λ (x : Volumed _). (get_or x.flights c.args.place r).route) c.self.view_is ∙ c.requires.route r in
    let goes = met_moves g.B.Block.may_hold g.B.Block.contents g.B.Block.layers g.B.Block.size g.met.B.Block.whole g.met.B.Block.holds_now _ c.self.invariant.whole c.self.invariant.lasting.snaps (given_by (Issue c.args.number) (map in_flight v.flights.items)) c.read.new.self v.flights.items (record { adds = λ lo. adds_none _ _ _ c.read.ensures.stop; bytes = c.read.ensures.contents; sectors = c.read.ensures.size; loud = c.read.ensures.loud }) in
    let both = met_both g.B.Block.may_hold g.B.Block.contents g.B.Block.layers g.B.Block.size g.met.B.Block.whole g.met.B.Block.holds_now _ c.self.invariant.whole c.self.invariant.lasting (given_by (Issue c.args.number) (map in_flight v.flights.items)) _ goes refl (record { adds = λ lo. adds_none _ _ _ c.read.ensures.stop; bytes = c.read.ensures.contents; sectors = c.read.ensures.size; loud = c.read.ensures.loud }) in
    rw (← c.self.view_is) both.stops_origin

pub returns-in-Ok-write-clause-stops_snaps : goal.returns-in-Ok-write-clause-stops_snaps
returns-in-Ok-write-clause-stops_snaps g c =
    let v = c.self.inside in
    let r = c.remove-flight.result in
    let found : position (λ (f : Flight). nat_eq f.number c.args.number) v.flights.items ≡ Some c.args.place = ap (λ (x : Volumed _). position (λ (f : Flight). nat_eq f.number c.args.number) x.flights) c.self.view_is ∙ c.requires.found in
    let within = position_within (λ (f : Flight). nat_eq f.number c.args.number) v.flights.items c.args.place found in
    let was : r ≡ get_or v.flights.items c.args.place r = c.remove-flight.ensures.value in
    let route : r.route ≡ Origin = ap (λ (x : Flight). x.route) was ∙ ap (λ (x : Volumed _). (get_or x.flights c.args.place r).route) c.self.view_is ∙ c.requires.route r in
    let len = g.met.B.Block.whole c.write.new.self ∙ ap (λ n. 512 * n) c.write.ensures.size ∙ sym (g.met.B.Block.whole v.origin) in
    let good = disk_write g.B.Block.contents g.B.Block.layers g.B.Block.size g.B.Block.fault_count g.B.Block.done_count _ c.self.invariant.whole c.args.number c.args.place r found was route c.write.new.self c.write.ensures.size c.write.ensures.loud c.in-Write.bytes c.in-Write.is c.write.ensures.done (record { len = len; rest = c.write.ensures.rest })
    (λ l. c.in-Ok-write.ensures.written l ∙ ap (with_sectors (g.B.Block.contents v.origin) r.request.range.first) c.as_slice.ensures) c.in-Ok-write.ensures.faults in
    let both = disk_both g.B.Block.may_hold g.B.Block.contents g.B.Block.layers g.B.Block.size g.met.B.Block.whole g.met.B.Block.holds_now _ c.self.invariant.whole c.self.invariant.lasting c.args.number c.args.place r found was c.in-Write.bytes c.in-Write.is route c.write.new.self v.flights.items (λ l. c.in-Ok-write.ensures.written l ∙ ap (with_sectors (g.B.Block.contents v.origin) r.request.range.first) c.as_slice.ensures) (record { len = len; rest = c.write.ensures.rest }) (subst (λ (b : List ℕ). (s : ℕ) (x : List ℕ) → g.B.Block.may_hold c.write.new.self s x → g.B.Block.may_hold v.origin s x ⊎ ((r.request.range.first ≤ s) × (s < r.request.range.first + r.request.range.count) × (x ≡ sector_at b (s - r.request.range.first)))) c.as_slice.ensures c.write.ensures.stop) c.write.ensures.size c.write.ensures.loud in
    rw (← c.self.view_is) both.stops_snaps

pub returns-in-Ok-write-clause-stops_origin : goal.returns-in-Ok-write-clause-stops_origin
returns-in-Ok-write-clause-stops_origin g c =
    let v = c.self.inside in
    let r = c.remove-flight.result in
    let found : position (λ (f : Flight). nat_eq f.number c.args.number) v.flights.items ≡ Some c.args.place = ap (λ (x : Volumed _). position (λ (f : Flight). nat_eq f.number c.args.number) x.flights) c.self.view_is ∙ c.requires.found in
    let within = position_within (λ (f : Flight). nat_eq f.number c.args.number) v.flights.items c.args.place found in
    let was : r ≡ get_or v.flights.items c.args.place r = c.remove-flight.ensures.value in
    let route : r.route ≡ Origin = ap (λ (x : Flight). x.route) was ∙ ap (λ (x : Volumed _). (get_or x.flights c.args.place r).route) c.self.view_is ∙ c.requires.route r in
    let len = g.met.B.Block.whole c.write.new.self ∙ ap (λ n. 512 * n) c.write.ensures.size ∙ sym (g.met.B.Block.whole v.origin) in
    let good = disk_write g.B.Block.contents g.B.Block.layers g.B.Block.size g.B.Block.fault_count g.B.Block.done_count _ c.self.invariant.whole c.args.number c.args.place r found was route c.write.new.self c.write.ensures.size c.write.ensures.loud c.in-Write.bytes c.in-Write.is c.write.ensures.done (record { len = len; rest = c.write.ensures.rest })
    (λ l. c.in-Ok-write.ensures.written l ∙ ap (with_sectors (g.B.Block.contents v.origin) r.request.range.first) c.as_slice.ensures) c.in-Ok-write.ensures.faults in
    let both = disk_both g.B.Block.may_hold g.B.Block.contents g.B.Block.layers g.B.Block.size g.met.B.Block.whole g.met.B.Block.holds_now _ c.self.invariant.whole c.self.invariant.lasting c.args.number c.args.place r found was c.in-Write.bytes c.in-Write.is route c.write.new.self v.flights.items (λ l. c.in-Ok-write.ensures.written l ∙ ap (with_sectors (g.B.Block.contents v.origin) r.request.range.first) c.as_slice.ensures) (record { len = len; rest = c.write.ensures.rest }) (subst (λ (b : List ℕ). (s : ℕ) (x : List ℕ) → g.B.Block.may_hold c.write.new.self s x → g.B.Block.may_hold v.origin s x ⊎ ((r.request.range.first ≤ s) × (s < r.request.range.first + r.request.range.count) × (x ≡ sector_at b (s - r.request.range.first)))) c.as_slice.ensures c.write.ensures.stop) c.write.ensures.size c.write.ensures.loud in
    rw (← c.self.view_is) both.stops_origin

pub returns-in-Write-clause-stops_snaps : goal.returns-in-Write-clause-stops_snaps
returns-in-Write-clause-stops_snaps g c =
    let v = c.self.inside in
    let r = c.remove-flight.result in
    let found : position (λ (f : Flight). nat_eq f.number c.args.number) v.flights.items ≡ Some c.args.place = ap (λ (x : Volumed _). position (λ (f : Flight). nat_eq f.number c.args.number) x.flights) c.self.view_is ∙ c.requires.found in
    let within = position_within (λ (f : Flight). nat_eq f.number c.args.number) v.flights.items c.args.place found in
    let was : r ≡ get_or v.flights.items c.args.place r = c.remove-flight.ensures.value in
    let route : r.route ≡ Origin = ap (λ (x : Flight). x.route) was ∙ ap (λ (x : Volumed _). (get_or x.flights c.args.place r).route) c.self.view_is ∙ c.requires.route r in
    let goes = met_moves g.B.Block.may_hold g.B.Block.contents g.B.Block.layers g.B.Block.size g.met.B.Block.whole g.met.B.Block.holds_now _ c.self.invariant.whole c.self.invariant.lasting.snaps (given_by (Issue c.args.number) (map in_flight v.flights.items)) c.write.new.self v.flights.items (record { adds = λ lo. adds_none _ _ _ c.in-Err-write.ensures.stop_err; bytes = c.in-Err-write.ensures.err; sectors = c.write.ensures.size; loud = c.write.ensures.loud }) in
    let both = met_both g.B.Block.may_hold g.B.Block.contents g.B.Block.layers g.B.Block.size g.met.B.Block.whole g.met.B.Block.holds_now _ c.self.invariant.whole c.self.invariant.lasting (given_by (Issue c.args.number) (map in_flight v.flights.items)) _ goes refl (record { adds = λ lo. adds_none _ _ _ c.in-Err-write.ensures.stop_err; bytes = c.in-Err-write.ensures.err; sectors = c.write.ensures.size; loud = c.write.ensures.loud }) in
    rw (← c.self.view_is) both.stops_snaps

pub returns-in-Write-clause-stops_origin : goal.returns-in-Write-clause-stops_origin
returns-in-Write-clause-stops_origin g c =
    let v = c.self.inside in
    let r = c.remove-flight.result in
    let found : position (λ (f : Flight). nat_eq f.number c.args.number) v.flights.items ≡ Some c.args.place = ap (λ (x : Volumed _). position (λ (f : Flight). nat_eq f.number c.args.number) x.flights) c.self.view_is ∙ c.requires.found in
    let within = position_within (λ (f : Flight). nat_eq f.number c.args.number) v.flights.items c.args.place found in
    let was : r ≡ get_or v.flights.items c.args.place r = c.remove-flight.ensures.value in
    let route : r.route ≡ Origin = ap (λ (x : Flight). x.route) was ∙ ap (λ (x : Volumed _). (get_or x.flights c.args.place r).route) c.self.view_is ∙ c.requires.route r in
    let goes = met_moves g.B.Block.may_hold g.B.Block.contents g.B.Block.layers g.B.Block.size g.met.B.Block.whole g.met.B.Block.holds_now _ c.self.invariant.whole c.self.invariant.lasting.snaps (given_by (Issue c.args.number) (map in_flight v.flights.items)) c.write.new.self v.flights.items (record { adds = λ lo. adds_none _ _ _ c.in-Err-write.ensures.stop_err; bytes = c.in-Err-write.ensures.err; sectors = c.write.ensures.size; loud = c.write.ensures.loud }) in
    let both = met_both g.B.Block.may_hold g.B.Block.contents g.B.Block.layers g.B.Block.size g.met.B.Block.whole g.met.B.Block.holds_now _ c.self.invariant.whole c.self.invariant.lasting (given_by (Issue c.args.number) (map in_flight v.flights.items)) _ goes refl (record { adds = λ lo. adds_none _ _ _ c.in-Err-write.ensures.stop_err; bytes = c.in-Err-write.ensures.err; sectors = c.write.ensures.size; loud = c.write.ensures.loud }) in
    rw (← c.self.view_is) both.stops_origin

pub returns-in-Ok-flush-clause-stops_snaps : goal.returns-in-Ok-flush-clause-stops_snaps
returns-in-Ok-flush-clause-stops_snaps g c =
    let v = c.self.inside in
    let r = c.remove-flight.result in
    let found : position (λ (f : Flight). nat_eq f.number c.args.number) v.flights.items ≡ Some c.args.place = ap (λ (x : Volumed _). position (λ (f : Flight). nat_eq f.number c.args.number) x.flights) c.self.view_is ∙ c.requires.found in
    let within = position_within (λ (f : Flight). nat_eq f.number c.args.number) v.flights.items c.args.place found in
    let was : r ≡ get_or v.flights.items c.args.place r = c.remove-flight.ensures.value in
    let route : r.route ≡ Origin = ap (λ (x : Flight). x.route) was ∙ ap (λ (x : Volumed _). (get_or x.flights c.args.place r).route) c.self.view_is ∙ c.requires.route r in
    let goes = met_moves g.B.Block.may_hold g.B.Block.contents g.B.Block.layers g.B.Block.size g.met.B.Block.whole g.met.B.Block.holds_now _ c.self.invariant.whole c.self.invariant.lasting.snaps (given_by (Issue c.args.number) (map in_flight v.flights.items)) c.flush.new.self v.flights.items (record { adds = λ lo. adds_none _ _ _ c.flush.ensures.stop; bytes = c.flush.ensures.contents; sectors = c.flush.ensures.size; loud = c.flush.ensures.loud }) in
    let both = met_both g.B.Block.may_hold g.B.Block.contents g.B.Block.layers g.B.Block.size g.met.B.Block.whole g.met.B.Block.holds_now _ c.self.invariant.whole c.self.invariant.lasting (given_by (Issue c.args.number) (map in_flight v.flights.items)) _ goes refl (record { adds = λ lo. adds_none _ _ _ c.flush.ensures.stop; bytes = c.flush.ensures.contents; sectors = c.flush.ensures.size; loud = c.flush.ensures.loud }) in
    rw (← c.self.view_is) both.stops_snaps

pub returns-in-Ok-flush-clause-stops_origin : goal.returns-in-Ok-flush-clause-stops_origin
returns-in-Ok-flush-clause-stops_origin g c =
    let v = c.self.inside in
    let r = c.remove-flight.result in
    let found : position (λ (f : Flight). nat_eq f.number c.args.number) v.flights.items ≡ Some c.args.place = ap (λ (x : Volumed _). position (λ (f : Flight). nat_eq f.number c.args.number) x.flights) c.self.view_is ∙ c.requires.found in
    let within = position_within (λ (f : Flight). nat_eq f.number c.args.number) v.flights.items c.args.place found in
    let was : r ≡ get_or v.flights.items c.args.place r = c.remove-flight.ensures.value in
    let route : r.route ≡ Origin = ap (λ (x : Flight). x.route) was ∙ ap (λ (x : Volumed _). (get_or x.flights c.args.place r).route) c.self.view_is ∙ c.requires.route r in
    let goes = met_moves g.B.Block.may_hold g.B.Block.contents g.B.Block.layers g.B.Block.size g.met.B.Block.whole g.met.B.Block.holds_now _ c.self.invariant.whole c.self.invariant.lasting.snaps (given_by (Issue c.args.number) (map in_flight v.flights.items)) c.flush.new.self v.flights.items (record { adds = λ lo. adds_none _ _ _ c.flush.ensures.stop; bytes = c.flush.ensures.contents; sectors = c.flush.ensures.size; loud = c.flush.ensures.loud }) in
    let both = met_both g.B.Block.may_hold g.B.Block.contents g.B.Block.layers g.B.Block.size g.met.B.Block.whole g.met.B.Block.holds_now _ c.self.invariant.whole c.self.invariant.lasting (given_by (Issue c.args.number) (map in_flight v.flights.items)) _ goes refl (record { adds = λ lo. adds_none _ _ _ c.flush.ensures.stop; bytes = c.flush.ensures.contents; sectors = c.flush.ensures.size; loud = c.flush.ensures.loud }) in
    rw (← c.self.view_is) both.stops_origin

pub returns-clause-stops_snaps : goal.returns-clause-stops_snaps
returns-clause-stops_snaps g c =
    let v = c.self.inside in
    let r = c.remove-flight.result in
    let found : position (λ (f : Flight). nat_eq f.number c.args.number) v.flights.items ≡ Some c.args.place = ap (λ (x : Volumed _). position (λ (f : Flight). nat_eq f.number c.args.number) x.flights) c.self.view_is ∙ c.requires.found in
    let within = position_within (λ (f : Flight). nat_eq f.number c.args.number) v.flights.items c.args.place found in
    let was : r ≡ get_or v.flights.items c.args.place r = c.remove-flight.ensures.value in
    let route : r.route ≡ Origin = ap (λ (x : Flight). x.route) was ∙ ap (λ (x : Volumed _). (get_or x.flights c.args.place r).route) c.self.view_is ∙ c.requires.route r in
    let goes = met_moves g.B.Block.may_hold g.B.Block.contents g.B.Block.layers g.B.Block.size g.met.B.Block.whole g.met.B.Block.holds_now _ c.self.invariant.whole c.self.invariant.lasting.snaps (given_by (Issue c.args.number) (map in_flight v.flights.items)) c.flush.new.self v.flights.items (record { adds = λ lo. adds_none _ _ _ c.flush.ensures.stop; bytes = c.flush.ensures.contents; sectors = c.flush.ensures.size; loud = c.flush.ensures.loud }) in
    let both = met_both g.B.Block.may_hold g.B.Block.contents g.B.Block.layers g.B.Block.size g.met.B.Block.whole g.met.B.Block.holds_now _ c.self.invariant.whole c.self.invariant.lasting (given_by (Issue c.args.number) (map in_flight v.flights.items)) _ goes refl (record { adds = λ lo. adds_none _ _ _ c.flush.ensures.stop; bytes = c.flush.ensures.contents; sectors = c.flush.ensures.size; loud = c.flush.ensures.loud }) in
    rw (← c.self.view_is) both.stops_snaps

pub returns-clause-stops_origin : goal.returns-clause-stops_origin
returns-clause-stops_origin g c =
    let v = c.self.inside in
    let r = c.remove-flight.result in
    let found : position (λ (f : Flight). nat_eq f.number c.args.number) v.flights.items ≡ Some c.args.place = ap (λ (x : Volumed _). position (λ (f : Flight). nat_eq f.number c.args.number) x.flights) c.self.view_is ∙ c.requires.found in
    let within = position_within (λ (f : Flight). nat_eq f.number c.args.number) v.flights.items c.args.place found in
    let was : r ≡ get_or v.flights.items c.args.place r = c.remove-flight.ensures.value in
    let route : r.route ≡ Origin = ap (λ (x : Flight). x.route) was ∙ ap (λ (x : Volumed _). (get_or x.flights c.args.place r).route) c.self.view_is ∙ c.requires.route r in
    let goes = met_moves g.B.Block.may_hold g.B.Block.contents g.B.Block.layers g.B.Block.size g.met.B.Block.whole g.met.B.Block.holds_now _ c.self.invariant.whole c.self.invariant.lasting.snaps (given_by (Issue c.args.number) (map in_flight v.flights.items)) c.flush.new.self v.flights.items (record { adds = λ lo. adds_none _ _ _ c.flush.ensures.stop; bytes = c.flush.ensures.contents; sectors = c.flush.ensures.size; loud = c.flush.ensures.loud }) in
    let both = met_both g.B.Block.may_hold g.B.Block.contents g.B.Block.layers g.B.Block.size g.met.B.Block.whole g.met.B.Block.holds_now _ c.self.invariant.whole c.self.invariant.lasting (given_by (Issue c.args.number) (map in_flight v.flights.items)) _ goes refl (record { adds = λ lo. adds_none _ _ _ c.flush.ensures.stop; bytes = c.flush.ensures.contents; sectors = c.flush.ensures.size; loud = c.flush.ensures.loud }) in
    rw (← c.self.view_is) both.stops_origin

pub returns-in-Ok-flush-clause-closes : goal.returns-in-Ok-flush-clause-closes
returns-in-Ok-flush-clause-closes g c =
    let v = c.self.inside in
    let r = c.remove-flight.result in
    let found : position (λ (f : Flight). nat_eq f.number c.args.number) v.flights.items ≡ Some c.args.place = ap (λ (x : Volumed _). position (λ (f : Flight). nat_eq f.number c.args.number) x.flights) c.self.view_is ∙ c.requires.found in
    let within = position_within (λ (f : Flight). nat_eq f.number c.args.number) v.flights.items c.args.place found in
    let was : r ≡ get_or v.flights.items c.args.place r = c.remove-flight.ensures.value in
    let route : r.route ≡ Origin = ap (λ (x : Flight). x.route) was ∙ ap (λ (x : Volumed _). (get_or x.flights c.args.place r).route) c.self.view_is ∙ c.requires.route r in
    let kind = is_origin_flush g.B.Block.contents g.B.Block.layers g.B.Block.size g.B.Block.fault_count g.B.Block.done_count _ c.self.invariant.whole c.args.number c.args.place r found was route c.flush.new.self c.flush.ensures.size c.flush.ensures.loud c.in-Flush.is in
    rw (← c.self.view_is) (disk_closes g.B.Block.may_hold g.B.Block.contents g.B.Block.layers g.B.Block.size g.met.B.Block.whole g.met.B.Block.holds_now _ c.self.invariant.whole c.args.number c.args.place r found was c.flush.new.self v.flights.items (origin_dev r.request.dev r.request.op kind) c.flush.ensures.loud (λ lo s lt x there. c.in-Ok-flush.ensures.flushed lo s x lt there))
