-- The device answers for the volume.
use Rattle.volume.specs.Layering.{Measures}
use Rattle.volume.proofs.Told.{origin_answered, origin_refused, origin_whole}
use Rattle.std.proofs.Common.{inl}
use Rattle.volume.proofs.Told.{origin_told}
use Rattle.volume.proofs.LastTime.{alike_lasts, no_adds_merge}
use Rattle.volume.proofs.OpensNothing.{alike_opens}
use Rattle.crash_laws.proofs.Firm.{adds_none}
use Rattle.volume.proofs.volume.Volume.tell_origin.Goals as goal

pub invariant_of-self : goal.invariant_of-self
invariant_of-self g c = record {
  whole =
      let m : Measures g.row.B.Denot = record { contents = g.B.Block.contents; durable = g.B.Block.durable; size = g.B.Block.size; faults = g.B.Block.fault_count; done = g.B.Block.done_count } in
      let e = c.message.ensures in
      origin_whole m g.B.Block.layers _ c.message.new.self c.args.depth c.args.message.now c.message.result e.ok e.err e.unchanged
      (record { contents_are = e.contents; durable_are = e.durable; size_is = e.size; faults_are = e.faults; done_are = e.done }) c.self.invariant.whole;
  lasting =
      let m : Measures g.row.B.Denot = record { contents = g.B.Block.contents; durable = g.B.Block.durable; size = g.B.Block.size; faults = g.B.Block.fault_count; done = g.B.Block.done_count } in
      let e = c.message.ensures in
      alike_lasts g.B.Block.may_hold g.B.Block.contents g.B.Block.layers g.B.Block.size g.met.B.Block.whole g.met.B.Block.holds_now _ c.self.invariant.whole c.self.invariant.lasting _ (origin_told m g.B.Block.layers _ c.message.new.self c.args.depth c.args.message.now c.message.result e.ok e.err e.unchanged (record { contents_are = e.contents; durable_are = e.durable; size_is = e.size; faults_are = e.faults; done_are = e.done })) (record { origin = adds_none _ _ _ e.stop; snaps = λ k d lt s x there. inl there; merge = no_adds_merge g.B.Block.may_hold g.B.Block.contents g.B.Block.layers g.B.Block.size g.met.B.Block.whole g.met.B.Block.holds_now _ });
}

pub returns-clause-ok : goal.returns-clause-ok
returns-clause-ok g c =
    let m : Measures g.row.B.Denot = record { contents = g.B.Block.contents; durable = g.B.Block.durable; size = g.B.Block.size; faults = g.B.Block.fault_count; done = g.B.Block.done_count } in
    let e = c.message.ensures in
    rw (← c.self.view_is) (origin_answered m g.B.Block.layers _ c.message.new.self c.args.depth c.args.message.now c.message.result e.ok e.err e.unchanged
    (record { contents_are = e.contents; durable_are = e.durable; size_is = e.size; faults_are = e.faults; done_are = e.done }))

pub returns-clause-err : goal.returns-clause-err
returns-clause-err g c =
    let m : Measures g.row.B.Denot = record { contents = g.B.Block.contents; durable = g.B.Block.durable; size = g.B.Block.size; faults = g.B.Block.fault_count; done = g.B.Block.done_count } in
    let e = c.message.ensures in
    rw (← c.self.view_is) (origin_refused m g.B.Block.layers _ c.message.new.self c.args.depth c.args.message.now c.message.result e.ok e.err e.unchanged
    (record { contents_are = e.contents; durable_are = e.durable; size_is = e.size; faults_are = e.faults; done_are = e.done }))

pub returns-clause-opens : goal.returns-clause-opens
returns-clause-opens g c =
    let m : Measures g.row.B.Denot = record { contents = g.B.Block.contents; durable = g.B.Block.durable; size = g.B.Block.size; faults = g.B.Block.fault_count; done = g.B.Block.done_count } in
    let e = c.message.ensures in
    rw (← c.self.view_is) (alike_opens g.B.Block.may_hold g.B.Block.contents g.B.Block.layers g.B.Block.size g.met.B.Block.whole g.met.B.Block.holds_now _ _ (origin_told m g.B.Block.layers _ c.message.new.self c.args.depth c.args.message.now c.message.result e.ok e.err e.unchanged (record { contents_are = e.contents; durable_are = e.durable; size_is = e.size; faults_are = e.faults; done_are = e.done })) (record { origin = adds_none _ _ _ e.stop; snaps = λ k d lt s x there. inl there; merge = no_adds_merge g.B.Block.may_hold g.B.Block.contents g.B.Block.layers g.B.Block.size g.met.B.Block.whole g.met.B.Block.holds_now _ }))
