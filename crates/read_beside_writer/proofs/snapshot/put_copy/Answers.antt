use Rattle.std.proofs.Common.{ℕ, subst}
use Rattle.std.specs.Prelude.{IfSome}
use Rattle.read_beside_writer.specs.Moments.{AreRead}
use Rattle.read_beside_writer.proofs.snapshot.put_copy.Goals as goal

pub returns-in-Ok-clause-data : goal.returns-in-Ok-clause-data
returns-in-Ok-clause-data g c = subst (λ (n : ℕ). IfSome (g.F.MovingFiles.history c.args.files.now) (λ h. AreRead (λ m. (h m).store) (g.F.MovingFiles.now c.args.files.now) (g.F.MovingFiles.now c.read_store.new.self) n c.read_store.new.out)) c.in-Some.ensures c.in-Ok.ensures.data
