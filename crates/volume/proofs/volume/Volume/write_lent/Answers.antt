-- A write whose bytes are lent is refused as any is, or answered at the origin disk.
use Rattle.std.proofs.Common.{◌≡◌, ◌+◌, ◌*◌, ◌∙◌, ℕ, List, arith, ap, inl, inr, length, refl, subst, sym}
use Rattle.plain_machine.specs.declared.request.Op.TheVariants.{Write}
use Rattle.in_flight.specs.Kinds.{bytes_at}
use Rattle.in_flight.specs.declared.flights.Flight.{Flight}
use Rattle.in_flight.specs.declared.flights.Route.TheVariants.{Origin}
use Rattle.volume.specs.Lent.{origin_write}
use Rattle.volume.specs.Whole.{IsWhole}
use Rattle.volume.proofs.Admits.{admitted}
use Rattle.volume.proofs.AtDisk.{goes_disk, served_alone, whole_alone}
use Rattle.volume.proofs.Bare.{bare, bare_clear}
use Rattle.volume.proofs.Quieted.{quiet_flights}
use Rattle.volume.proofs.volume.Volume.write_lent.Goals as goal

write_same : (a b : List ℕ) → Write a ≡ Write b → a ≡ b
write_same a b e = ap bytes_at e

pub submit_refused-requires : goal.submit_refused-requires
submit_refused-requires g c = record { whole = refl }

pub returns-in-Some-clause-refused : goal.returns-in-Some-clause-refused
returns-in-Some-clause-refused g c = (sym c.in-Some.ensures, refl)

pub write_at_disk-requires-clause-still : goal.write_at_disk-requires-clause-still
write_at_disk-requires-clause-still g c = quiet_flights c.args.self.now (bare c.args.self.now c.requires.bare).quiet

pub write_at_disk-requires-clause-alone : goal.write_at_disk-requires-clause-alone
write_at_disk-requires-clause-alone g c = (bare c.args.self.now c.requires.bare).alone

pub write_at_disk-requires-clause-left : goal.write_at_disk-requires-clause-left
write_at_disk-requires-clause-left g c =
    let a = admitted g.B.Block.size (origin_write c.args.range c.args.bytes.now) c.args.self.now refl (sym c.in-None.ensures) in
    omega (arith, a.requests)

pub write_at_disk-requires-clause-next : goal.write_at_disk-requires-clause-next
write_at_disk-requires-clause-next g c =
    let now = c.args.self.now in
    let h : IsWhole g.B.Block.contents g.B.Block.layers g.B.Block.size now = subst (IsWhole g.B.Block.contents g.B.Block.layers g.B.Block.size) c.self.view_is c.self.invariant.whole in
    let is = bare now c.requires.bare in
    let f : Flight = record { number = now.requests + 1; request = origin_write c.args.range c.args.bytes.now; route = Origin; room = c.new.result } in
    let goes = goes_disk g.B.Block.contents g.B.Block.layers f now.snaps refl (inr (inl (refl, bare_clear g.B.Block.contents g.B.Block.layers now.snaps c.args.range.first is.none))) in
    let fits : (bytes : List ℕ) → Write c.args.bytes.now ≡ Write bytes → length bytes ≡ 512 * c.args.range.count = λ bytes e. ap length (sym (write_same _ _ e)) ∙ c.requires.bytes in
    (f, record { op = refl; range_is = refl; route = refl; next = refl; whole = whole_alone g.B.Block.contents g.B.Block.layers g.B.Block.size now h is.quiet is.alone f refl (ap length c.new.ensures.items) fits goes (sym c.in-None.ensures) })

pub returns-clause-does : goal.returns-clause-does
returns-clause-does g c =
    let now = c.args.self.now in
    let h : IsWhole g.B.Block.contents g.B.Block.layers g.B.Block.size now = subst (IsWhole g.B.Block.contents g.B.Block.layers g.B.Block.size) c.self.view_is c.self.invariant.whole in
    let is = bare now c.requires.bare in
    let f : Flight = record { number = now.requests + 1; request = origin_write c.args.range c.args.bytes.now; route = Origin; room = c.new.result } in
    let goes = goes_disk g.B.Block.contents g.B.Block.layers f now.snaps refl (inr (inl (refl, bare_clear g.B.Block.contents g.B.Block.layers now.snaps c.args.range.first is.none))) in
    let fits : (bytes : List ℕ) → Write c.args.bytes.now ≡ Write bytes → length bytes ≡ 512 * c.args.range.count = λ bytes e. ap length (sym (write_same _ _ e)) ∙ c.requires.bytes in
    served_alone g.B.Block.contents g.B.Block.layers g.B.Block.size now h is.quiet is.alone f refl (ap length c.new.ensures.items) fits goes (sym c.in-None.ensures) g.B.Block.may_hold g.B.Block.fault_count g.B.Block.done_count c.write_at_disk.result c.write_at_disk.new.self
    (c.write_at_disk.ensures.does f (record { op = refl; range_is = refl; route = refl; next = refl; whole = whole_alone g.B.Block.contents g.B.Block.layers g.B.Block.size now h is.quiet is.alone f refl (ap length c.new.ensures.items) fits goes (sym c.in-None.ensures) })) (c.write_at_disk.ensures.quiet ∙ is.quiet)
