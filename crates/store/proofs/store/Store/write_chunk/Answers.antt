use Rattle.std.proofs.Common.{◌∙◌, sym, arith, IsTrue}
use Rattle.device.specs.Layers.{is_loud}
use Rattle.store.specs.Held.{committed}
use Rattle.store.proofs.Writes.{stored_outside}
use Rattle.store.proofs.store.Store.write_chunk.Goals as goal

pub invariant_of-self-clause-stored : goal.invariant_of-self-clause-stored
invariant_of-self-clause-stored g c = λ loud.
    let s = c.args.self.now in
    let l : IsTrue (is_loud (g.B.Block.layers s.device)) = sym c.write_part.ensures.loud ∙ loud in
    stored_outside c.args.place (committed s.exceptions) s.state s.area.bytes.items _ _ s.front (s.stored l) (λ e. omega (arith, e, c.requires.low)) c.requires.free c.write_part.ensures.only
