use Rattle.std.proofs.Common.{◌≡◌, ◌∙◌, ap, refl, true}
use Rattle.std.proofs.lemmas.Bool.{true≢false}
use Rattle.store.specs.declared.state.State.{State}
use Rattle.snapshot.proofs.Steps.{dead_untried, in_step}
use Rattle.snapshot.proofs.snapshot.Snapshot.write_invalid.Goals as goal

pub returns-in-Ok-clause-in_step : goal.returns-in-Ok-clause-in_step
returns-in-Ok-clause-in_step g c =
    let t = c.write_invalid.new.self in
    let e = c.in-Ok.ensures.state in
    let keeps = c.self.invariant.0 in
    let is : c.self.inside.untried ≡ true = ap (λ v. v.untried) c.self.view_is ∙ c.requires.untried in
    in_step g.B.Block.contents g.B.Block.layers g.B.Block.size _ t.area.bytes.items (ap (λ (x : State). x.left) e ∙ keeps.ready) (λ alive. ap (λ (x : State). x.copying) e ∙ keeps.copying alive)
    (λ _. dead_untried c.self.inside.live c.self.inside.untried keeps.tried is) (λ _ _ _. refl) (ap (λ (x : State). x.valid) e) t.size t.given t.stored

pub returns-in-Err-clause-in_step : goal.returns-in-Err-clause-in_step
returns-in-Err-clause-in_step g c =
    let t = c.write_invalid.new.self in
    let e = c.in-Err.ensures.kept in
    let keeps = c.self.invariant.0 in
    in_step g.B.Block.contents g.B.Block.layers g.B.Block.size _ t.area.bytes.items (ap (λ (x : State). x.left) e ∙ keeps.ready) (λ alive. ap (λ (x : State). x.copying) e ∙ keeps.copying alive)
    keeps.dead (λ _ _ is. absurd (true≢false is)) (ap (λ (x : State). x.valid) e ∙ keeps.valid) t.size t.given t.stored

pub returns-in-Ok-clause-adds : goal.returns-in-Ok-clause-adds
returns-in-Ok-clause-adds g c = rw (← c.self.view_is) c.write_invalid.ensures.adds

pub returns-in-Err-clause-adds : goal.returns-in-Err-clause-adds
returns-in-Err-clause-adds g c = rw (← c.self.view_is) c.write_invalid.ensures.adds
