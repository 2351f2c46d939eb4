use Rattle.std.proofs.Common.{◌∙◌, ◌*◌, ap, sym, IsTrue}
use Rattle.device.specs.Layers.{is_loud}
use Rattle.store.specs.Held.{committed}
use Rattle.store.proofs.Areas.{all_zero}
use Rattle.store.proofs.Writes.{stored_zeroed}
use Rattle.store.proofs.store.Store.zero_next.Goals as goal

pub invariant_of-self-clause-stored : goal.invariant_of-self-clause-stored
invariant_of-self-clause-stored g c = λ loud.
    let s = c.args.self.now in
    let l : IsTrue (is_loud (g.B.Block.layers s.device)) = sym c.in-Ok.ensures.loud ∙ loud in
    let nil = c.encode.ensures ∙ all_zero s.state.chunk s.spare.bytes.items _ (s.spare.whole ∙ ap (λ n. 512 * n) s.spare_chunk) c.clear_from.ensures.bytes in
    stored_zeroed (committed s.exceptions) s.state s.area.bytes.items (g.B.Block.contents s.device) _ c.encode.result.now s.front (s.stored l) c.requires.ready c.requires.part c.requires.room
    (g.met.B.Block.whole s.device ∙ ap (λ n. 512 * n) (sym s.size)) nil (c.in-Ok.ensures.written l)
