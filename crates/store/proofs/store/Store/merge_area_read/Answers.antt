use Rattle.std.proofs.Common.{◌-◌, ◌*◌, ◌∙◌, ap, sym, IsTrue}
use Rattle.device.specs.Layers.{is_loud}
use Rattle.cow_format.specs.Places.{chunk_at, area_place}
use Rattle.store.specs.Held.{committed, pairs_pending}
use Rattle.store.proofs.Merges.{front_read, stored_read, given_closed}
use Rattle.store.proofs.store.Store.merge_area_read.Goals as goal

pub invariant_of-self-clause-front : goal.invariant_of-self-clause-front
invariant_of-self-clause-front g c =
    let s = c.args.self.now in
    front_read (committed s.exceptions) s.state s.area.bytes.items c.read_area.new.area.bytes.items s.front c.requires.empty c.requires.before c.requires.ready
    (c.read_area.new.area.whole ∙ ap (λ n. 512 * n) (c.in-Ok.ensures.chunk ∙ s.area_chunk))

pub invariant_of-self-clause-given : goal.invariant_of-self-clause-given
invariant_of-self-clause-given g c =
    let s = c.args.self.now in
    given_closed s.state.chunk s.state.origin s.state.size s.places.next s.state.copying (committed s.exceptions) (pairs_pending s.exceptions) s.given

pub invariant_of-self-clause-stored : goal.invariant_of-self-clause-stored
invariant_of-self-clause-stored g c = λ loud.
    let s = c.args.self.now in
    let l : IsTrue (is_loud (g.B.Block.layers s.device)) = sym c.in-Ok.ensures.loud ∙ loud in
    let read = c.in-Ok.ensures.data ∙ ap (λ n. chunk_at n (g.B.Block.contents s.device) (area_place s.state.chunk (s.state.current - 1))) s.area_chunk in
    rw c.in-Ok.ensures.contents (stored_read (committed s.exceptions) s.state s.area.bytes.items c.read_area.new.area.bytes.items (g.B.Block.contents s.device) s.front (s.stored l) c.requires.empty c.requires.before c.requires.ready read)
