use Rattle.std.proofs.Common.{◌∙◌, ap, refl}
use Rattle.std.proofs.lemmas.Bool.{false≢true, true≢false}
use Rattle.store.specs.declared.state.State.{State}
use Rattle.snapshot.proofs.Steps.{in_step}
use Rattle.snapshot.proofs.snapshot.Snapshot.spoil.Goals as goal

pub returns-clause-in_step : goal.returns-clause-in_step
returns-clause-in_step g c =
    let t = c.drop_copies.new.self in
    let e = c.drop_copies.ensures.state in
    let keeps = c.self.invariant.0 in
    in_step g.B.Block.contents g.B.Block.layers g.B.Block.size _ t.area.bytes.items (ap (λ (x : State). x.left) e ∙ keeps.ready) (λ is. absurd (false≢true is))
    (λ _. refl) (λ _ is. absurd (true≢false is)) (ap (λ (x : State). x.valid) e ∙ keeps.valid) t.size t.given t.stored
