-- A request that no limit, range or missing snapshot refuses is taken by its kind.
use Rattle.std.proofs.Common.{◌≡◌, ◌∙◌, sym, ap, subst, arith}
use Rattle.volume.specs.Volumed.{Volumed}
use Rattle.volume.specs.Submitting.{starting, shut_refusal}
use Rattle.volume.proofs.Admits.{admitted}
use Rattle.volume.specs.Whole.{IsWhole}
use Rattle.volume.proofs.volume.Volume.submit_kept.Goals as goal

pub submit_origin_read-requires-clause-numbers : goal.submit_origin_read-requires-clause-numbers
submit_origin_read-requires-clause-numbers g c =
    let a = admitted g.B.Block.size c.args.request c.args.self.now c.requires.whole (sym c.in-None.ensures) in
    omega (arith, a.requests)

pub submit_origin_flush-requires-clause-numbers : goal.submit_origin_flush-requires-clause-numbers
submit_origin_flush-requires-clause-numbers g c =
    let a = admitted g.B.Block.size c.args.request c.args.self.now c.requires.whole (sym c.in-None.ensures) in
    omega (arith, a.requests)

pub submit_origin_read-requires-clause-kind : goal.submit_origin_read-requires-clause-kind
submit_origin_read-requires-clause-kind g c =
    sym c.in-OriginRead.ensures

pub submit_origin_flush-requires-clause-kind : goal.submit_origin_flush-requires-clause-kind
submit_origin_flush-requires-clause-kind g c =
    sym c.in-OriginFlush.ensures

pub submit_origin_read-requires-clause-asked : goal.submit_origin_read-requires-clause-asked
submit_origin_read-requires-clause-asked g c =
    let a = admitted g.B.Block.size c.args.request c.args.self.now c.requires.whole (sym c.in-None.ensures) in
    record { some = a.some; inside = a.inside; piece = a.piece; bytes = c.requires.bytes }

pub submit_origin_flush-requires-clause-asked : goal.submit_origin_flush-requires-clause-asked
submit_origin_flush-requires-clause-asked g c =
    let a = admitted g.B.Block.size c.args.request c.args.self.now c.requires.whole (sym c.in-None.ensures) in
    record { some = a.some; inside = a.inside; piece = a.piece; bytes = c.requires.bytes }

pub submit_origin_read-requires-clause-room : goal.submit_origin_read-requires-clause-room
submit_origin_read-requires-clause-room g c =
    let a = admitted g.B.Block.size c.args.request c.args.self.now c.requires.whole (sym c.in-None.ensures) in
    a.flights

pub submit_origin_flush-requires-clause-room : goal.submit_origin_flush-requires-clause-room
submit_origin_flush-requires-clause-room g c =
    let a = admitted g.B.Block.size c.args.request c.args.self.now c.requires.whole (sym c.in-None.ensures) in
    a.flights

pub submit_origin_write-requires-clause-numbers : goal.submit_origin_write-requires-clause-numbers
submit_origin_write-requires-clause-numbers g c =
    let a = admitted g.B.Block.size c.args.request c.args.self.now c.requires.whole (sym c.in-None.ensures) in
    omega (arith, a.requests)

pub submit_origin_write-requires-clause-kind : goal.submit_origin_write-requires-clause-kind
submit_origin_write-requires-clause-kind g c =
    sym c.in-OriginWrite.ensures

pub submit_origin_write-requires-clause-asked : goal.submit_origin_write-requires-clause-asked
submit_origin_write-requires-clause-asked g c =
    let a = admitted g.B.Block.size c.args.request c.args.self.now c.requires.whole (sym c.in-None.ensures) in
    record { some = a.some; inside = a.inside; piece = a.piece; bytes = c.requires.bytes }

pub submit_origin_write-requires-clause-room : goal.submit_origin_write-requires-clause-room
submit_origin_write-requires-clause-room g c =
    let a = admitted g.B.Block.size c.args.request c.args.self.now c.requires.whole (sym c.in-None.ensures) in
    a.flights

pub submit_origin_write-requires-clause-copies : goal.submit_origin_write-requires-clause-copies
submit_origin_write-requires-clause-copies g c =
    let whole : IsWhole g.B.Block.contents g.B.Block.layers g.B.Block.size c.args.self.now = subst (IsWhole g.B.Block.contents g.B.Block.layers g.B.Block.size) c.self.view_is c.self.invariant.whole in
    let same : c.self.inside.attached ≡ c.args.self.now.attached = ap (λ (x : Volumed g.row.B.Denot). x.attached) c.self.view_is in
    omega (arith, whole.numbers_left, same, c.self.ranges)

pub submit_origin_write-requires-clause-few : goal.submit_origin_write-requires-clause-few
submit_origin_write-requires-clause-few g c =
    let a = admitted g.B.Block.size c.args.request c.args.self.now c.requires.whole (sym c.in-None.ensures) in
    let kind = ap (λ k. starting k c.args.request.range.first c.args.self.now.merge c.args.self.now.snaps) c.in-OriginWrite.ensures in
    omega (arith, a.few, kind)

pub submit_snap_read-requires-clause-numbers : goal.submit_snap_read-requires-clause-numbers
submit_snap_read-requires-clause-numbers g c =
    let a = admitted g.B.Block.size c.args.request c.args.self.now c.requires.whole (sym c.in-None.ensures) in
    omega (arith, a.requests)

pub submit_snap_flush-requires-clause-numbers : goal.submit_snap_flush-requires-clause-numbers
submit_snap_flush-requires-clause-numbers g c =
    let a = admitted g.B.Block.size c.args.request c.args.self.now c.requires.whole (sym c.in-None.ensures) in
    omega (arith, a.requests)

pub submit_snap_read-requires-clause-kind : goal.submit_snap_read-requires-clause-kind
submit_snap_read-requires-clause-kind g c =
    sym c.in-SnapRead.ensures

pub submit_snap_flush-requires-clause-kind : goal.submit_snap_flush-requires-clause-kind
submit_snap_flush-requires-clause-kind g c =
    sym c.in-SnapFlush.ensures

pub submit_snap_read-requires-clause-asked : goal.submit_snap_read-requires-clause-asked
submit_snap_read-requires-clause-asked g c =
    let a = admitted g.B.Block.size c.args.request c.args.self.now c.requires.whole (sym c.in-None.ensures) in
    record { some = a.some; inside = a.inside; piece = a.piece; bytes = c.requires.bytes }

pub submit_snap_flush-requires-clause-asked : goal.submit_snap_flush-requires-clause-asked
submit_snap_flush-requires-clause-asked g c =
    let a = admitted g.B.Block.size c.args.request c.args.self.now c.requires.whole (sym c.in-None.ensures) in
    record { some = a.some; inside = a.inside; piece = a.piece; bytes = c.requires.bytes }

pub submit_snap_read-requires-clause-room : goal.submit_snap_read-requires-clause-room
submit_snap_read-requires-clause-room g c =
    let a = admitted g.B.Block.size c.args.request c.args.self.now c.requires.whole (sym c.in-None.ensures) in
    a.flights

pub submit_snap_flush-requires-clause-room : goal.submit_snap_flush-requires-clause-room
submit_snap_flush-requires-clause-room g c =
    let a = admitted g.B.Block.size c.args.request c.args.self.now c.requires.whole (sym c.in-None.ensures) in
    a.flights

pub submit_snap_read-requires-clause-found : goal.submit_snap_read-requires-clause-found
submit_snap_read-requires-clause-found g c =
    let a = admitted g.B.Block.size c.args.request c.args.self.now c.requires.whole (sym c.in-None.ensures) in
    a.dev

pub submit_snap_flush-requires-clause-found : goal.submit_snap_flush-requires-clause-found
submit_snap_flush-requires-clause-found g c =
    let a = admitted g.B.Block.size c.args.request c.args.self.now c.requires.whole (sym c.in-None.ensures) in
    a.dev

pub submit_snap_write-requires-clause-numbers : goal.submit_snap_write-requires-clause-numbers
submit_snap_write-requires-clause-numbers g c =
    let a = admitted g.B.Block.size c.args.request c.args.self.now c.requires.whole (sym c.in-None.ensures) in
    omega (arith, a.requests)

pub submit_snap_write-requires-clause-kind : goal.submit_snap_write-requires-clause-kind
submit_snap_write-requires-clause-kind g c =
    sym c.in-SnapWrite.ensures

pub submit_snap_write-requires-clause-asked : goal.submit_snap_write-requires-clause-asked
submit_snap_write-requires-clause-asked g c =
    let a = admitted g.B.Block.size c.args.request c.args.self.now c.requires.whole (sym c.in-None.ensures) in
    record { some = a.some; inside = a.inside; piece = a.piece; bytes = c.requires.bytes }

pub submit_snap_write-requires-clause-room : goal.submit_snap_write-requires-clause-room
submit_snap_write-requires-clause-room g c =
    let a = admitted g.B.Block.size c.args.request c.args.self.now c.requires.whole (sym c.in-None.ensures) in
    a.flights

pub submit_snap_write-requires-clause-found : goal.submit_snap_write-requires-clause-found
submit_snap_write-requires-clause-found g c =
    let a = admitted g.B.Block.size c.args.request c.args.self.now c.requires.whole (sym c.in-None.ensures) in
    a.dev

pub submit_snap_write-requires-clause-copies : goal.submit_snap_write-requires-clause-copies
submit_snap_write-requires-clause-copies g c =
    let whole : IsWhole g.B.Block.contents g.B.Block.layers g.B.Block.size c.args.self.now = subst (IsWhole g.B.Block.contents g.B.Block.layers g.B.Block.size) c.self.view_is c.self.invariant.whole in
    let same : c.self.inside.attached ≡ c.args.self.now.attached = ap (λ (x : Volumed g.row.B.Denot). x.attached) c.self.view_is in
    omega (arith, whole.numbers_left, same, c.self.ranges)

pub submit_snap_write-requires-clause-few : goal.submit_snap_write-requires-clause-few
submit_snap_write-requires-clause-few g c =
    let a = admitted g.B.Block.size c.args.request c.args.self.now c.requires.whole (sym c.in-None.ensures) in
    let kind = ap (λ k. starting k c.args.request.range.first c.args.self.now.merge c.args.self.now.snaps) c.in-SnapWrite.ensures in
    omega (arith, a.few, kind)

pub submit_snap_write-requires-clause-writable : goal.submit_snap_write-requires-clause-writable
submit_snap_write-requires-clause-writable g c =
    let a = admitted g.B.Block.size c.args.request c.args.self.now c.requires.whole (sym c.in-None.ensures) in
    ap (λ k. shut_refusal k c.args.self.now.snaps) c.in-SnapWrite.ensures ∙ a.writable
