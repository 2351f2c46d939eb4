-- A read of a snapshot goes where its chunk's committed copy stands.
use Rattle.std.proofs.Common.{◌∙◌, None, Some, ap, arith, inr, sym}
use Rattle.cow_format.specs.Picture.{place_of}
use Rattle.snapshot.specs.Kept.{Kept}
use Rattle.snapshot_list.specs.Finding.{place_of_snap}
use Rattle.volume.specs.AtDisk.{IsReadOf}
use Rattle.volume.specs.Volumed.{Volumed}
use Rattle.volume.proofs.AtDisk.{read_at}
use Rattle.volume.proofs.Named.{found_within}
use Rattle.volume.proofs.volume.Volume.way_of_read.Goals as goal

pub index-snap-requires : goal.index-snap-requires
index-snap-requires g c =
    let below = found_within c.args.id c.as_slice.result.now c.in-Some.k c.in-Some.ensures in
    omega (arith, below, c.as_slice.ensures.len)

pub returns-in-None : goal.returns-in-None
returns-in-None g c =
    let view = ap (λ (x : Volumed g.row.B.Denot). x.snaps) c.self.view_is in
    let s : Kept g.row.B.Denot = c.index-snap.result.now in
    let read : IsReadOf c.args.request.now c.in-Some.k None c.args.self.now.snaps =
    read_at c.args.request.now c.in-Some.k None c.self.inside.snaps.items c.args.self.now.snaps view c.args.id c.requires.kind (c.in-Some.ensures ∙ ap (place_of_snap c.args.id) c.as_slice.ensures.value) s c.index-snap.ensures
    (ap (place_of s.pairs) (sym c.own_chunk.ensures) ∙ sym c.in-None.ensures) in
    (sym c.if-not-is_quiet.ensures.value, c.requires.alone, inr (inr (c.in-Some.k, read)))

pub returns-in-Some-place_of : goal.returns-in-Some-place_of
returns-in-Some-place_of g c =
    let view = ap (λ (x : Volumed g.row.B.Denot). x.snaps) c.self.view_is in
    let s : Kept g.row.B.Denot = c.index-snap.result.now in
    let read : IsReadOf c.args.request.now c.in-Some.k (Some c.in-Some-place_of.at) c.args.self.now.snaps =
    read_at c.args.request.now c.in-Some.k (Some c.in-Some-place_of.at) c.self.inside.snaps.items c.args.self.now.snaps view c.args.id c.requires.kind (c.in-Some.ensures ∙ ap (place_of_snap c.args.id) c.as_slice.ensures.value) s c.index-snap.ensures
    (ap (place_of s.pairs) (sym c.own_chunk.ensures) ∙ sym c.in-Some-place_of.ensures) in
    (sym c.if-not-is_quiet.ensures.value, c.requires.alone, read)
