-- A write of the origin that waits is refused as any is, or its copies are started.
use Rattle.std.proofs.Common.{◌≡◌, ap, arith, false, inl, inr, refl, subst, sym}
use Rattle.std.specs.Prelude.{Err}
use Rattle.in_flight.specs.declared.flights.Kind.TheVariants.{OriginWrite}
use Rattle.snapshot_list.specs.Routing.{is_merged_at}
use Rattle.volume.specs.Submitting.{starting}
use Rattle.volume.specs.Volumed.{Volumed}
use Rattle.volume.specs.Whole.{IsWhole}
use Rattle.volume.proofs.Accepts.{if_err, if_ok}
use Rattle.volume.proofs.Admits.{admitted}
use Rattle.volume.proofs.MergeWrites.{starting_unmerged}
use Rattle.volume.proofs.Submits.{submitted_by}
use Rattle.volume.proofs.Unflushed.{unflushed}
use Rattle.volume.proofs.volume.Volume.submit_waiting.Goals as goal

pub submit_refused-requires : goal.submit_refused-requires
submit_refused-requires g c = record { whole = unflushed c.args.request OriginWrite c.requires.kind tt }

pub returns-in-Some-clause-does : goal.returns-in-Some-clause-does
returns-in-Some-clause-does g c =
    let now = c.args.self.now in
    let h : IsWhole g.B.Block.contents g.B.Block.layers g.B.Block.size now = subst (IsWhole g.B.Block.contents g.B.Block.layers g.B.Block.size) c.self.view_is c.self.invariant.whole in
    submitted_by g.B.Block.contents g.B.Block.layers g.B.Block.size now now h c.args.request (Err c.in-Some.refusal) tt tt (inl (sym c.in-Some.ensures, refl))

pub save_and_enter-requires-clause-unmerged : goal.save_and_enter-requires-clause-unmerged
save_and_enter-requires-clause-unmerged g c =
    ap (is_merged_at c.args.request.range.first) c.requires.alone

pub save_and_enter-requires-clause-asked : goal.save_and_enter-requires-clause-asked
save_and_enter-requires-clause-asked g c =
    let a = admitted g.B.Block.size c.args.request c.args.self.now (unflushed c.args.request OriginWrite c.requires.kind tt) (sym c.in-None.ensures) in
    record { some = a.some; inside = a.inside; piece = a.piece; bytes = c.requires.bytes }

pub save_and_enter-requires-clause-room : goal.save_and_enter-requires-clause-room
save_and_enter-requires-clause-room g c =
    let a = admitted g.B.Block.size c.args.request c.args.self.now (unflushed c.args.request OriginWrite c.requires.kind tt) (sym c.in-None.ensures) in
    a.flights

pub save_and_enter-requires-clause-numbers : goal.save_and_enter-requires-clause-numbers
save_and_enter-requires-clause-numbers g c =
    let a = admitted g.B.Block.size c.args.request c.args.self.now (unflushed c.args.request OriginWrite c.requires.kind tt) (sym c.in-None.ensures) in
    omega (arith, a.requests)

pub save_and_enter-requires-clause-copies : goal.save_and_enter-requires-clause-copies
save_and_enter-requires-clause-copies g c =
    let whole : IsWhole g.B.Block.contents g.B.Block.layers g.B.Block.size c.args.self.now = subst (IsWhole g.B.Block.contents g.B.Block.layers g.B.Block.size) c.self.view_is c.self.invariant.whole in
    let same : c.self.inside.attached ≡ c.args.self.now.attached = ap (λ (x : Volumed g.row.B.Denot). x.attached) c.self.view_is in
    omega (arith, whole.numbers_left, same, c.self.ranges)

pub save_and_enter-requires-clause-few : goal.save_and_enter-requires-clause-few
save_and_enter-requires-clause-few g c =
    let a = admitted g.B.Block.size c.args.request c.args.self.now (unflushed c.args.request OriginWrite c.requires.kind tt) (sym c.in-None.ensures) in
    let unmerged : is_merged_at c.args.request.range.first c.args.self.now.merge ≡ false = ap (is_merged_at c.args.request.range.first) c.requires.alone in
    let kind = ap (λ k. starting k c.args.request.range.first c.args.self.now.merge c.args.self.now.snaps) c.requires.kind in
    let same = starting_unmerged c.args.request.range.first c.args.self.now unmerged in
    omega (arith, a.few, kind, same)

pub returns-clause-does : goal.returns-clause-does
returns-clause-does g c =
    let now = c.args.self.now in
    let h : IsWhole g.B.Block.contents g.B.Block.layers g.B.Block.size now = subst (IsWhole g.B.Block.contents g.B.Block.layers g.B.Block.size) c.self.view_is c.self.invariant.whole in
    submitted_by g.B.Block.contents g.B.Block.layers g.B.Block.size now c.save_and_enter.new.self h c.args.request c.save_and_enter.result c.save_and_enter.ensures.ok
    (if_ok c.save_and_enter.result _ _ (λ number e. sym c.in-None.ensures) c.save_and_enter.ensures.ok)
    (if_err c.save_and_enter.result _ _ (λ refusal e. inr (inl (sym c.in-None.ensures, e.0, e.1))) c.save_and_enter.ensures.err)

pub returns-clause-refused : goal.returns-clause-refused
returns-clause-refused g c =
    if_err c.save_and_enter.result _ _ (λ refusal e. inr (inl (sym c.in-None.ensures, e.0, e.1))) c.save_and_enter.ensures.err
