-- What was taken and not written is undone by its merge.
use Rattle.audited_volume.proofs.Undone.{disk_shown, lawful_shown, lawful_undone}
use Rattle.audited_volume.proofs.Own.{meets_own}
use Rattle.audited_volume.proofs.audit.Audit.entries.Goals as goal

pub returns-clause-undone : goal.returns-clause-undone
returns-clause-undone g c = rw (← c.self.view_is) (λ loud. lawful_undone _ _ (c.self.invariant.audit.replays loud).lawful)

pub returns-clause-keeps : goal.returns-clause-keeps
returns-clause-keeps g c = rw (← c.self.view_is) (λ loud. lawful_shown _ _ (c.self.invariant.audit.replays loud).lawful)

pub returns-clause-disk : goal.returns-clause-disk
returns-clause-disk g c = rw (← c.self.view_is) (λ loud none. disk_shown g.B.Block.contents g.B.Block.layers c.self.inside.volume _ (c.self.invariant.audit.replays loud).replay_is none)

pub returns-clause-own : goal.returns-clause-own
returns-clause-own g c = rw (← c.self.view_is) (λ loud. meets_own _ _ (c.self.invariant.audit.replays loud).lawful (c.self.invariant.bounded.inside loud))

pub returns-clause-inside : goal.returns-clause-inside
returns-clause-inside g c = rw (← c.self.view_is) (λ loud. c.self.invariant.bounded.inside loud)
