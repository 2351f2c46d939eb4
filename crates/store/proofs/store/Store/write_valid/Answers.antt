use Rattle.std.proofs.Common.{◌≡◌, ◌∙◌, ◌*◌, length, ap, refl, sym, true, IsTrue}
use Rattle.sector.specs.Bytes.{with_sectors}
use Rattle.device.specs.Layers.{is_loud}
use Rattle.cow_format.specs.Places.{area_place}
use Rattle.cow_header.specs.HeaderText.{header_bytes}
use Rattle.store.specs.declared.state.Left.TheVariants.{Nothing}
use Rattle.store.specs.Held.{committed}
use Rattle.store.proofs.Heads.{first_inside, head_written}
use Rattle.store.proofs.Writes.{front_after, stored_valid}
use Rattle.store.proofs.store.Store.write_valid.Goals as goal

pub invariant_of-self-clause-front : goal.invariant_of-self-clause-front
invariant_of-self-clause-front g c =
    let s = c.args.self.now in
    front_after (committed s.exceptions) s.state s.area.bytes.items Nothing s.front refl refl (λ _. refl)

pub invariant_of-self-clause-stored : goal.invariant_of-self-clause-stored
invariant_of-self-clause-stored g c = λ loud.
    let s = c.args.self.now in
    let l : IsTrue (is_loud (g.B.Block.layers s.device)) = sym c.in-Ok.ensures.loud ∙ loud in
    let whole : length (g.B.Block.contents s.device) ≡ 512 * s.state.size = g.met.B.Block.whole s.device ∙ ap (λ n. 512 * n) (sym s.size) in
    let only = rw s.spare_chunk at c.write_header.ensures.only in
    let says = head_written s.state.size s.state.chunk (g.B.Block.contents s.device) _ true s.front.size s.front.some (first_inside s.state.chunk (area_place s.state.chunk s.state.current) s.state.size s.front.place) whole
    (c.in-Ok.ensures.written l ∙ ap (λ n. with_sectors (g.B.Block.contents s.device) 0 (header_bytes (512 * n) true n)) s.spare_chunk) in
    stored_valid (committed s.exceptions) s.state s.area.bytes.items (g.B.Block.contents s.device) _ s.front (s.stored l) c.requires.begun only says
