-- The mark of a spoiled snapshot was tried, whatever became of the flush.
use Rattle.std.proofs.Common.{◌∙◌, ap}
use Rattle.std.proofs.lemmas.Bool.{true≢false}
use Rattle.store.specs.declared.state.State.{State}
use Rattle.snapshot.proofs.Steps.{in_step}
use Rattle.snapshot.proofs.snapshot.Snapshot.flush_mark.Goals as goal

pub returns-in-Ok-clause-in_step : goal.returns-in-Ok-clause-in_step
returns-in-Ok-clause-in_step g c =
    let t = c.flush_last.new.self in
    let e = c.flush_last.ensures.state in
    let keeps = c.self.invariant.0 in
    in_step g.B.Block.contents g.B.Block.layers g.B.Block.size _ t.area.bytes.items (ap (λ (x : State). x.left) e ∙ keeps.ready) (λ alive. ap (λ (x : State). x.copying) e ∙ keeps.copying alive)
    keeps.dead (λ _ _ _. ap (λ v. v.marked) c.self.view_is ∙ c.requires.marked) (ap (λ (x : State). x.valid) e ∙ keeps.valid) t.size t.given t.stored

pub returns-in-Err-clause-in_step : goal.returns-in-Err-clause-in_step
returns-in-Err-clause-in_step g c =
    let t = c.flush_last.new.self in
    let e = c.flush_last.ensures.state in
    let keeps = c.self.invariant.0 in
    in_step g.B.Block.contents g.B.Block.layers g.B.Block.size _ t.area.bytes.items (ap (λ (x : State). x.left) e ∙ keeps.ready) (λ alive. ap (λ (x : State). x.copying) e ∙ keeps.copying alive)
    keeps.dead (λ _ _ is. absurd (true≢false is)) (ap (λ (x : State). x.valid) e ∙ keeps.valid) t.size t.given t.stored
