-- The store of the snapshot that is found answers for the volume.
use Rattle.std.proofs.Common.{sym, ◌∙◌, ap, arith, None, Some, ◌≡◌}
use Rattle.snapshot_list.specs.Finding.{place_of_snap}
use Rattle.volume.specs.Layering.{Measures}
use Rattle.snapshot_list.proofs.Finds.{position_within}
use Rattle.volume.proofs.Told.{apart_found, store_answered, store_refused, store_whole, merge_answered, merge_refused, merge_whole}
use Rattle.std.proofs.Common.{inl}
use Rattle.volume.proofs.LastTime.{one_adds}
use Rattle.volume.proofs.Told.{merge_told, store_told}
use Rattle.volume.proofs.LastTime.{alike_lasts, no_adds, no_adds_merge}
use Rattle.volume.proofs.OpensNothing.{alike_opens}
use Rattle.snapshot.specs.Kept.{Kept}
use Rattle.std.proofs.Common.{nat_eq}
use Rattle.volume.proofs.volume.Volume.tell_store.Goals as goal

pub invariant_of-self : goal.invariant_of-self
invariant_of-self g c = record {
  whole =
      let m : Measures g.row.B.Denot = record { contents = g.B.Block.contents; durable = g.B.Block.durable; size = g.B.Block.size; faults = g.B.Block.fault_count; done = g.B.Block.done_count } in
      let none : place_of_snap c.args.number c.self.inside.snaps.items ≡ None = sym (c.in_default.ensures ∙ ap (place_of_snap c.args.number) c.as_slice.ensures.value) in
      let e = c.tell_merge.ensures in
      merge_whole m g.B.Block.layers _ c.args.number none c.tell_merge.new.merge c.args.depth c.args.message.now c.tell_merge.result e.ok e.err c.self.invariant.whole;
  lasting =
      let m : Measures g.row.B.Denot = record { contents = g.B.Block.contents; durable = g.B.Block.durable; size = g.B.Block.size; faults = g.B.Block.fault_count; done = g.B.Block.done_count } in
      let none : place_of_snap c.args.number c.self.inside.snaps.items ≡ None = sym (c.in_default.ensures ∙ ap (place_of_snap c.args.number) c.as_slice.ensures.value) in
      let e = c.tell_merge.ensures in
      alike_lasts g.B.Block.may_hold g.B.Block.contents g.B.Block.layers g.B.Block.size g.met.B.Block.whole g.met.B.Block.holds_now _ c.self.invariant.whole c.self.invariant.lasting _ (merge_told m g.B.Block.layers _ c.args.number none c.tell_merge.new.merge c.args.depth c.args.message.now c.tell_merge.result e.ok e.err) (record { origin = no_adds g.B.Block.may_hold g.B.Block.contents g.B.Block.layers g.B.Block.size g.met.B.Block.whole g.met.B.Block.holds_now _; snaps = λ k d lt s x there. inl there; merge = c.tell_merge.ensures.adds });
}

pub returns-in_default-clause-ok : goal.returns-in_default-clause-ok
returns-in_default-clause-ok g c =
    let m : Measures g.row.B.Denot = record { contents = g.B.Block.contents; durable = g.B.Block.durable; size = g.B.Block.size; faults = g.B.Block.fault_count; done = g.B.Block.done_count } in
    let none : place_of_snap c.args.number c.self.inside.snaps.items ≡ None = sym (c.in_default.ensures ∙ ap (place_of_snap c.args.number) c.as_slice.ensures.value) in
    let e = c.tell_merge.ensures in
    rw (← c.self.view_is) (merge_answered m g.B.Block.layers _ c.args.number none c.tell_merge.new.merge c.args.depth c.args.message.now c.tell_merge.result e.ok e.err)

pub returns-in_default-clause-err : goal.returns-in_default-clause-err
returns-in_default-clause-err g c =
    let m : Measures g.row.B.Denot = record { contents = g.B.Block.contents; durable = g.B.Block.durable; size = g.B.Block.size; faults = g.B.Block.fault_count; done = g.B.Block.done_count } in
    let none : place_of_snap c.args.number c.self.inside.snaps.items ≡ None = sym (c.in_default.ensures ∙ ap (place_of_snap c.args.number) c.as_slice.ensures.value) in
    let e = c.tell_merge.ensures in
    rw (← c.self.view_is) (merge_refused m g.B.Block.layers _ c.args.number none c.tell_merge.new.merge c.args.depth c.args.message.now c.tell_merge.result e.ok e.err)

pub index_mut-requires : goal.index_mut-requires
index_mut-requires g c =
    let within = position_within _ c.as_slice.result.now c.in-Some.k (sym c.in-Some.ensures) in
    omega (arith, within, c.as_slice.ensures.len)

pub invariant_of-self-2 : goal.invariant_of-self-2
invariant_of-self-2 g c = record {
  whole =
      let m : Measures g.row.B.Denot = record { contents = g.B.Block.contents; durable = g.B.Block.durable; size = g.B.Block.size; faults = g.B.Block.fault_count; done = g.B.Block.done_count } in
      let found : place_of_snap c.args.number c.self.inside.snaps.items ≡ Some c.in-Some.k = sym (c.in-Some.ensures ∙ ap (place_of_snap c.args.number) c.as_slice.ensures.value) in
      let e = c.message.ensures in
      let other = apart_found g.B.Block.contents g.B.Block.layers g.B.Block.size _ c.args.number c.in-Some.k c.index_mut.result.now found c.index_mut.ensures.value c.self.invariant.whole in
      store_whole m g.B.Block.layers _ c.args.number c.in-Some.k c.index_mut.result.now c.message.new.self found other c.index_mut.ensures.value c.args.depth c.args.message.now c.message.result e.ok e.err e.unchanged e.rest e.same c.self.invariant.whole;
  lasting =
      let m : Measures g.row.B.Denot = record { contents = g.B.Block.contents; durable = g.B.Block.durable; size = g.B.Block.size; faults = g.B.Block.fault_count; done = g.B.Block.done_count } in
      let found : place_of_snap c.args.number c.self.inside.snaps.items ≡ Some c.in-Some.k = sym (c.in-Some.ensures ∙ ap (place_of_snap c.args.number) c.as_slice.ensures.value) in
      let e = c.message.ensures in
      let other = apart_found g.B.Block.contents g.B.Block.layers g.B.Block.size _ c.args.number c.in-Some.k c.index_mut.result.now found c.index_mut.ensures.value c.self.invariant.whole in
      let at = position_within (λ (x : Kept g.row.B.Denot). nat_eq x.number c.args.number) c.self.inside.snaps.items c.in-Some.k found in
      alike_lasts g.B.Block.may_hold g.B.Block.contents g.B.Block.layers g.B.Block.size g.met.B.Block.whole g.met.B.Block.holds_now _ c.self.invariant.whole c.self.invariant.lasting _ (store_told m g.B.Block.layers _ c.args.number c.in-Some.k c.index_mut.result.now c.message.new.self found other c.index_mut.ensures.value c.args.depth c.args.message.now c.message.result e.ok e.err e.unchanged e.rest e.same) (record { origin = no_adds g.B.Block.may_hold g.B.Block.contents g.B.Block.layers g.B.Block.size g.met.B.Block.whole g.met.B.Block.holds_now _; snaps = one_adds g.B.Block.may_hold g.B.Block.contents g.B.Block.layers g.B.Block.size g.met.B.Block.whole g.met.B.Block.holds_now c.self.inside.snaps.items c.in-Some.k c.index_mut.result.now c.message.new.self (omega (arith, at)) c.index_mut.ensures.value e.adds; merge = no_adds_merge g.B.Block.may_hold g.B.Block.contents g.B.Block.layers g.B.Block.size g.met.B.Block.whole g.met.B.Block.holds_now _ });
}

pub returns-clause-ok : goal.returns-clause-ok
returns-clause-ok g c =
    let m : Measures g.row.B.Denot = record { contents = g.B.Block.contents; durable = g.B.Block.durable; size = g.B.Block.size; faults = g.B.Block.fault_count; done = g.B.Block.done_count } in
    let found : place_of_snap c.args.number c.self.inside.snaps.items ≡ Some c.in-Some.k = sym (c.in-Some.ensures ∙ ap (place_of_snap c.args.number) c.as_slice.ensures.value) in
    let e = c.message.ensures in
    let other = apart_found g.B.Block.contents g.B.Block.layers g.B.Block.size _ c.args.number c.in-Some.k c.index_mut.result.now found c.index_mut.ensures.value c.self.invariant.whole in
    rw (← c.self.view_is) (store_answered m g.B.Block.layers _ c.args.number c.in-Some.k c.index_mut.result.now c.message.new.self found other c.index_mut.ensures.value c.args.depth c.args.message.now c.message.result e.ok e.err e.unchanged e.rest e.same)

pub returns-clause-err : goal.returns-clause-err
returns-clause-err g c =
    let m : Measures g.row.B.Denot = record { contents = g.B.Block.contents; durable = g.B.Block.durable; size = g.B.Block.size; faults = g.B.Block.fault_count; done = g.B.Block.done_count } in
    let found : place_of_snap c.args.number c.self.inside.snaps.items ≡ Some c.in-Some.k = sym (c.in-Some.ensures ∙ ap (place_of_snap c.args.number) c.as_slice.ensures.value) in
    let e = c.message.ensures in
    let other = apart_found g.B.Block.contents g.B.Block.layers g.B.Block.size _ c.args.number c.in-Some.k c.index_mut.result.now found c.index_mut.ensures.value c.self.invariant.whole in
    rw (← c.self.view_is) (store_refused m g.B.Block.layers _ c.args.number c.in-Some.k c.index_mut.result.now c.message.new.self found other c.index_mut.ensures.value c.args.depth c.args.message.now c.message.result e.ok e.err e.unchanged e.rest e.same)

pub returns-in_default-clause-opens : goal.returns-in_default-clause-opens
returns-in_default-clause-opens g c =
    let m : Measures g.row.B.Denot = record { contents = g.B.Block.contents; durable = g.B.Block.durable; size = g.B.Block.size; faults = g.B.Block.fault_count; done = g.B.Block.done_count } in
    let none : place_of_snap c.args.number c.self.inside.snaps.items ≡ None = sym (c.in_default.ensures ∙ ap (place_of_snap c.args.number) c.as_slice.ensures.value) in
    let e = c.tell_merge.ensures in
    rw (← c.self.view_is) (alike_opens g.B.Block.may_hold g.B.Block.contents g.B.Block.layers g.B.Block.size g.met.B.Block.whole g.met.B.Block.holds_now _ _ (merge_told m g.B.Block.layers _ c.args.number none c.tell_merge.new.merge c.args.depth c.args.message.now c.tell_merge.result e.ok e.err) (record { origin = no_adds g.B.Block.may_hold g.B.Block.contents g.B.Block.layers g.B.Block.size g.met.B.Block.whole g.met.B.Block.holds_now _; snaps = λ k d lt s x there. inl there; merge = c.tell_merge.ensures.adds }))

pub returns-clause-opens : goal.returns-clause-opens
returns-clause-opens g c =
    let m : Measures g.row.B.Denot = record { contents = g.B.Block.contents; durable = g.B.Block.durable; size = g.B.Block.size; faults = g.B.Block.fault_count; done = g.B.Block.done_count } in
    let found : place_of_snap c.args.number c.self.inside.snaps.items ≡ Some c.in-Some.k = sym (c.in-Some.ensures ∙ ap (place_of_snap c.args.number) c.as_slice.ensures.value) in
    let e = c.message.ensures in
    let other = apart_found g.B.Block.contents g.B.Block.layers g.B.Block.size _ c.args.number c.in-Some.k c.index_mut.result.now found c.index_mut.ensures.value c.self.invariant.whole in
    let at = position_within (λ (x : Kept g.row.B.Denot). nat_eq x.number c.args.number) c.self.inside.snaps.items c.in-Some.k found in
    rw (← c.self.view_is) (alike_opens g.B.Block.may_hold g.B.Block.contents g.B.Block.layers g.B.Block.size g.met.B.Block.whole g.met.B.Block.holds_now _ _ (store_told m g.B.Block.layers _ c.args.number c.in-Some.k c.index_mut.result.now c.message.new.self found other c.index_mut.ensures.value c.args.depth c.args.message.now c.message.result e.ok e.err e.unchanged e.rest e.same) (record { origin = no_adds g.B.Block.may_hold g.B.Block.contents g.B.Block.layers g.B.Block.size g.met.B.Block.whole g.met.B.Block.holds_now _; snaps = one_adds g.B.Block.may_hold g.B.Block.contents g.B.Block.layers g.B.Block.size g.met.B.Block.whole g.met.B.Block.holds_now c.self.inside.snaps.items c.in-Some.k c.index_mut.result.now c.message.new.self (omega (arith, at)) c.index_mut.ensures.value e.adds; merge = no_adds_merge g.B.Block.may_hold g.B.Block.contents g.B.Block.layers g.B.Block.size g.met.B.Block.whole g.met.B.Block.holds_now _ }))
