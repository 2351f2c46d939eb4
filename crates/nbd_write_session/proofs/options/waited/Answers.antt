use Rattle.std.proofs.Common.{rules}
use Rattle.std.proofs.KnownBytes.{Keeps-refl, Keeps-trans}
use Rattle.nbd_write_session.proofs.Asked.{ended_heard}
use Rattle.nbd_write_session.proofs.options.waited.Goals as goal

pub loop-init : goal.loop-init
loop-init g c = Keeps-refl _

pub loop-preserved : goal.loop-preserved
loop-preserved g c = Keeps-trans _ _ _ c.loop.invariant c.in-Ok-true.ensures.0

pub returns-in-Ok-false-clause-keeps : goal.returns-in-Ok-false-clause-keeps
returns-in-Ok-false-clause-keeps g c = Keeps-trans _ _ _ c.loop.invariant c.in-Ok-false.ensures.0

pub returns-in-Ok-false-clause-short : goal.returns-in-Ok-false-clause-short
returns-in-Ok-false-clause-short g c = λ _. ended_heard _ _ _ _ c.args.count c.in-Ok-false.field-0-test c.in-Ok-false.ensures.1 (search rules)
