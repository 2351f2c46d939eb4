use Rattle.std.proofs.Common.{◌∙◌, sym, IsTrue}
use Rattle.device.specs.Layers.{is_loud}
use Rattle.store.proofs.Messages.{loud_answered}
use Rattle.store.proofs.store.Store.message.Goals as goal

pub invariant_of-self-clause-stored : goal.invariant_of-self-clause-stored
invariant_of-self-clause-stored g c = λ loud.
    let s = c.args.self.now in
    let l : IsTrue (is_loud (g.B.Block.layers s.device)) = sym (loud_answered c.message.result (g.B.Block.layers s.device) (g.B.Block.layers c.message.new.self) c.args.depth c.args.message.now c.message.ensures.ok c.message.ensures.unchanged) ∙ loud in
    rw c.message.ensures.contents (s.stored l)
