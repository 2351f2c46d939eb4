use Rattle.std.proofs.Common.{◌≡◌, ◌≢◌, ◌∙◌, ◌*◌, length, ap, sym, refl, IsTrue}
use Rattle.std.proofs.lemmas.Bool.{true≢false}
use Rattle.sector.specs.Bytes.{with_sectors}
use Rattle.device.specs.Layers.{is_loud}
use Rattle.cow_format.specs.Places.{area_place}
use Rattle.store.specs.declared.state.Left.TheVariants.{Tail}
use Rattle.store.specs.Held.{committed}
use Rattle.store.specs.Loading.{is_settled}
use Rattle.store.proofs.Writes.{front_after, stored_clean, left-written}
use Rattle.store.proofs.store.Store.write_current.Goals as goal

pub invariant_of-self-clause-front : goal.invariant_of-self-clause-front
invariant_of-self-clause-front g c =
    let s = c.args.self.now in
    front_after (committed s.exceptions) s.state s.area.bytes.items c.args.left s.front c.requires.begun c.requires.settled (λ e. absurd (true≢false (sym (ap is_settled (s.front.early e)) ∙ c.requires.unsettled)))

pub invariant_of-self-clause-stored : goal.invariant_of-self-clause-stored
invariant_of-self-clause-stored g c = λ loud.
    let s = c.args.self.now in
    let l : IsTrue (is_loud (g.B.Block.layers s.device)) = sym c.in-Ok.ensures.loud ∙ loud in
    let whole : length (g.B.Block.contents s.device) ≡ 512 * s.state.size = g.met.B.Block.whole s.device ∙ ap (λ n. 512 * n) (sym s.size) in
    let other : c.args.left ≢ Tail = λ e. true≢false (sym c.requires.settled ∙ ap is_settled e) in
    stored_clean (committed s.exceptions) s.state s.area.bytes.items (g.B.Block.contents s.device) _ c.args.left s.front (s.stored l) c.requires.unsettled c.requires.next other whole
    (c.in-Ok.ensures.written l ∙ ap (λ y. with_sectors (g.B.Block.contents s.device) (s.state.chunk * area_place s.state.chunk s.state.current) y) c.encode.ensures)

pub returns-in-Ok-clause-written : goal.returns-in-Ok-clause-written
returns-in-Ok-clause-written g c = λ loud.
    let s = c.args.self.now in
    let l : IsTrue (is_loud (g.B.Block.layers s.device)) = loud in
    let whole : length (g.B.Block.contents s.device) ≡ 512 * s.state.size = g.met.B.Block.whole s.device ∙ ap (λ n. 512 * n) (sym s.size) in
    c.in-Ok.ensures.written l ∙ ap (λ y. with_sectors (g.B.Block.contents s.device) (s.state.chunk * area_place s.state.chunk s.state.current) y) c.encode.ensures
    ∙ left-written (committed s.exceptions) s.state s.area.bytes.items (g.B.Block.contents s.device) s.state.left refl s.front (s.stored l) c.requires.unsettled whole
