-- By the law of each.
use Rattle.std.proofs.Common.{true, sym, subst}
use Rattle.cache_loss_laws.specs.Calm.{IsCalmSnap}
use Rattle.cache_loss_laws.specs.Lost.{NoneGiven, GivesPlace, IsOneOf}
use Rattle.cache_loss_laws.proofs.CalmCalls.{calm_same, calm_copy_write, calm_zero, calm_mark, calm_own_write, calm_disk_write}
use Rattle.cache_loss_laws.proofs.saved.calm_calls.Goals as goal

pub returns-clause-same : goal.returns-clause-same
returns-clause-same g c = λ v copies copies' h same here fewer. subst (λ z. IsCalmSnap (g.B.Block.contents c.args.origin.now) z (g.B.Block.contents c.args.store.now) (g.B.Block.contents c.args.store_after.now) (IsOneOf copies) (IsOneOf copies') v.zeroed v.marked NoneGiven v) (sym same) (subst (λ z. IsCalmSnap (g.B.Block.contents c.args.origin.now) (g.B.Block.contents c.args.origin.now) (g.B.Block.contents c.args.store.now) z (IsOneOf copies) (IsOneOf copies') v.zeroed v.marked NoneGiven v) (sym here) (calm_same (g.B.Block.may_hold c.args.origin.now) (g.B.Block.may_hold c.args.store.now) (g.B.Block.contents c.args.origin.now) (g.B.Block.contents c.args.store.now) (IsOneOf copies) v h.there h.lasts (IsOneOf copies') NoneGiven fewer))

pub returns-clause-copy_write : goal.returns-clause-copy_write
returns-clause-copy_write g c = λ v copies n h same only free low places others. subst (λ z. IsCalmSnap (g.B.Block.contents c.args.origin.now) z (g.B.Block.contents c.args.store.now) (g.B.Block.contents c.args.store_after.now) (IsOneOf copies) (IsOneOf copies) v.zeroed v.marked NoneGiven v) (sym same) (calm_copy_write (g.B.Block.may_hold c.args.origin.now) (g.B.Block.may_hold c.args.store.now) (g.B.Block.contents c.args.origin.now) (g.B.Block.contents c.args.store.now) (IsOneOf copies) v h.there h.lasts n (g.B.Block.contents c.args.store_after.now) NoneGiven only free low places others)

pub returns-clause-zero : goal.returns-clause-zero
returns-clause-zero g c = λ v copies h same only loose zero. subst (λ z. IsCalmSnap (g.B.Block.contents c.args.origin.now) z (g.B.Block.contents c.args.store.now) (g.B.Block.contents c.args.store_after.now) (IsOneOf copies) (IsOneOf copies) true v.marked NoneGiven v) (sym same) (calm_zero (g.B.Block.may_hold c.args.origin.now) (g.B.Block.may_hold c.args.store.now) (g.B.Block.contents c.args.origin.now) (g.B.Block.contents c.args.store.now) (IsOneOf copies) v h.there h.lasts (g.B.Block.contents c.args.store_after.now) NoneGiven only loose zero)

pub returns-clause-mark : goal.returns-clause-mark
returns-clause-mark g c = λ v copies h same only bad. subst (λ z. IsCalmSnap (g.B.Block.contents c.args.origin.now) z (g.B.Block.contents c.args.store.now) (g.B.Block.contents c.args.store_after.now) (IsOneOf copies) (IsOneOf copies) v.zeroed true NoneGiven v) (sym same) (calm_mark (g.B.Block.may_hold c.args.origin.now) (g.B.Block.may_hold c.args.store.now) (g.B.Block.contents c.args.origin.now) (g.B.Block.contents c.args.store.now) (IsOneOf copies) v h.there h.lasts (g.B.Block.contents c.args.store_after.now) NoneGiven only bad)

pub returns-clause-own_write : goal.returns-clause-own_write
returns-clause-own_write g c = λ v copies named n r count bytes h same written at within long others. subst (λ z. IsCalmSnap (g.B.Block.contents c.args.origin.now) z (g.B.Block.contents c.args.store.now) (g.B.Block.contents c.args.store_after.now) (IsOneOf copies) (IsOneOf copies) v.zeroed v.marked (GivesPlace v.chunk named r count bytes) v) (sym same) (subst (λ z. IsCalmSnap (g.B.Block.contents c.args.origin.now) (g.B.Block.contents c.args.origin.now) (g.B.Block.contents c.args.store.now) z (IsOneOf copies) (IsOneOf copies) v.zeroed v.marked (GivesPlace v.chunk named r count bytes) v) (sym written) (calm_own_write (g.B.Block.may_hold c.args.origin.now) (g.B.Block.may_hold c.args.store.now) (g.B.Block.contents c.args.origin.now) (g.B.Block.contents c.args.store.now) (IsOneOf copies) v h.there h.lasts named n r count bytes at within long others))

pub returns-clause-disk_write : goal.returns-clause-disk_write
returns-clause-disk_write g c = λ v copies h here beside. subst (λ z. IsCalmSnap (g.B.Block.contents c.args.origin.now) (g.B.Block.contents c.args.origin_after.now) (g.B.Block.contents c.args.store.now) z (IsOneOf copies) (IsOneOf copies) v.zeroed v.marked NoneGiven v) (sym here) (calm_disk_write (g.B.Block.may_hold c.args.origin.now) (g.B.Block.may_hold c.args.store.now) (g.B.Block.contents c.args.origin.now) (g.B.Block.contents c.args.store.now) (IsOneOf copies) v h.there h.lasts (g.B.Block.contents c.args.origin_after.now) NoneGiven beside)
