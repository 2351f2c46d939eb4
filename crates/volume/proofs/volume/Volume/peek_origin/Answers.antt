-- Without a merge the disk's bytes are shown, and beside one the picture over the merging store, whose bytes say its pairs.
use Rattle.std.proofs.Common.{ℕ, List, Option, sym, ◌∙◌, ap}
use Rattle.sector.specs.Bytes.{sectors_at}
use Rattle.merge.specs.Merging.{Merging}
use Rattle.volume.specs.Peeking.{is_loud_merging, listed_origin}
use Rattle.volume.specs.Volumed.{Volumed}
use Rattle.volume.proofs.Alone.{origin_alone}
use Rattle.volume.proofs.Listed.{listed_is}
use Rattle.volume.proofs.Peeked.{merged_places, origin_merged}
use Rattle.volume.proofs.volume.Volume.peek_origin.Goals as goal

pub peek_merged-requires-clause-places : goal.peek_merged-requires-clause-places
peek_merged-requires-clause-places g c = merged_places g.B.Block.contents g.B.Block.layers g.B.Block.size c.in-Some.merge c.look_at_store.ensures.in_step

pub returns-in-None-clause-shown : goal.returns-in-None-clause-shown
returns-in-None-clause-shown g c = λ loud.
    let v : Volumed g.row.B.Denot = record { origin = c.self.inside.origin; snaps = c.self.inside.snaps.items; merge = c.self.inside.merge; flights = c.self.inside.flights.items; requests = c.self.inside.requests; copies = c.self.inside.copies; attached = c.self.inside.attached } in
    rw (← c.self.view_is) (c.peek.ensures ∙ ap (λ (a : List ℕ). sectors_at a c.args.range.first c.args.range.count) (sym (origin_alone g.B.Block.contents g.B.Block.layers v c.in-None.is)))

pub returns-in-None-clause-listed : goal.returns-in-None-clause-listed
returns-in-None-clause-listed g c =
    rw (← c.self.view_is) (c.peek.ensures ∙ ap (λ (o : Option (Merging g.row.B.Denot)). sectors_at (listed_origin g.B.Block.contents c.self.inside.origin o) c.args.range.first c.args.range.count) (sym c.in-None.is))

pub returns-in-Some-clause-shown : goal.returns-in-Some-clause-shown
returns-in-Some-clause-shown g c = λ loud.
    let v : Volumed g.row.B.Denot = record { origin = c.self.inside.origin; snaps = c.self.inside.snaps.items; merge = c.self.inside.merge; flights = c.self.inside.flights.items; requests = c.self.inside.requests; copies = c.self.inside.copies; attached = c.self.inside.attached } in
    let m = c.in-Some.merge in
    let loud' = ap (λ (x : Option (Merging g.row.B.Denot)). is_loud_merging g.B.Block.layers x) (sym c.in-Some.is) ∙ ap (λ (x : Volumed g.row.B.Denot). is_loud_merging g.B.Block.layers x.merge) c.self.view_is ∙ loud in
    rw (← c.self.view_is) (c.peek_merged.ensures
    ∙ ap (λ (a : List ℕ). sectors_at a c.args.range.first c.args.range.count) (listed_is m.state.chunk (g.B.Block.contents v.origin) (g.B.Block.contents m.device) m.pairs (c.look_at_store.ensures.in_step.pairs loud'))
    ∙ ap (λ (a : List ℕ). sectors_at a c.args.range.first c.args.range.count) (sym (origin_merged g.B.Block.contents g.B.Block.layers v m c.in-Some.is)))

pub returns-in-Some-clause-listed : goal.returns-in-Some-clause-listed
returns-in-Some-clause-listed g c =
    rw (← c.self.view_is) (c.peek_merged.ensures ∙ ap (λ (o : Option (Merging g.row.B.Denot)). sectors_at (listed_origin g.B.Block.contents c.self.inside.origin o) c.args.range.first c.args.range.count) (sym c.in-Some.is))
