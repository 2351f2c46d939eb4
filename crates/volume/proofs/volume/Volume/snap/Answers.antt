-- It is the first with its number, since numbers ascend.
use Rattle.std.proofs.Common.{◌≡◌, ◌<◌, length, get_or, true, sym, ◌∙◌, ap, subst}
use Rattle.snapshot.specs.Kept.{Kept}
use Rattle.volume.specs.Volumed.{Volumed}
use Rattle.snapshot_list.specs.Finding.{place_of_snap}
use Rattle.volume.specs.Submitting.{is_merging}
use Rattle.volume.proofs.Others.{other_is}
use Rattle.volume.proofs.Ranks.{place_is, size_is}
use Rattle.volume.proofs.volume.Volume.snap.Goals as goal

pub returns-clause-first : goal.returns-clause-first
returns-clause-first g c =
    let s : Kept g.row.B.Denot = c.index.result.now in
    let xs = c.self.inside.snaps.items in
    let at : s ≡ get_or xs c.args.k s = c.index.ensures in
    let within : c.args.k < length xs = subst (λ (v : Volumed g.row.B.Denot). c.args.k < length v.snaps) (sym c.self.view_is) c.requires in
    rw (← c.self.view_is) (ap (λ (x : Kept g.row.B.Denot). place_of_snap x.number xs) at ∙ place_is xs c.args.k s c.self.invariant.whole.numbers.ascending within)

pub returns-clause-sized : goal.returns-clause-sized
returns-clause-sized g c = λ live.
    let s : Kept g.row.B.Denot = c.index.result.now in
    let v : Volumed g.row.B.Denot = record { origin = c.self.inside.origin; snaps = c.self.inside.snaps.items; merge = c.self.inside.merge; flights = c.self.inside.flights.items; requests = c.self.inside.requests; copies = c.self.inside.copies; attached = c.self.inside.attached } in
    let at : s ≡ get_or v.snaps c.args.k s = c.index.ensures in
    let within : c.args.k < length v.snaps = subst (λ (w : Volumed g.row.B.Denot). c.args.k < length w.snaps) (sym c.self.view_is) c.requires in
    let alive : (get_or v.snaps c.args.k s).live ≡ true = ap (λ (x : Kept g.row.B.Denot). x.live) (sym at) ∙ live in
    subst (λ (x : Kept g.row.B.Denot). x.state.size ≡ g.B.Block.size x.device) (sym at) (size_is g.B.Block.contents g.B.Block.layers g.B.Block.size v c.self.invariant.whole g.met.B.Block.whole c.args.k s within alive)

pub returns-clause-other : goal.returns-clause-other
returns-clause-other g c =
    let s : Kept g.row.B.Denot = c.index.result.now in
    let v : Volumed g.row.B.Denot = record { origin = c.self.inside.origin; snaps = c.self.inside.snaps.items; merge = c.self.inside.merge; flights = c.self.inside.flights.items; requests = c.self.inside.requests; copies = c.self.inside.copies; attached = c.self.inside.attached } in
    let at : s ≡ get_or v.snaps c.args.k s = c.index.ensures in
    let within : c.args.k < length v.snaps = subst (λ (w : Volumed g.row.B.Denot). c.args.k < length w.snaps) (sym c.self.view_is) c.requires in
    rw (← c.self.view_is) (ap (λ (x : Kept g.row.B.Denot). is_merging x.number v.merge) at ∙ other_is g.B.Block.contents g.B.Block.layers g.B.Block.size v c.self.invariant.whole c.args.k s within)
