-- The seat stays as it was.
use Rattle.std.proofs.Common.{subst, sym}
use Rattle.parallel_threads.specs.Tasks.{AreUnderWay, denied_of, pieces_at}
use Rattle.parallel_threads.proofs.running.end.Goals as goal

pub invariant_of-run : goal.invariant_of-run
invariant_of-run g c = record {
  told = subst (λ s. AreUnderWay (denied_of g.J.Room.start g.J.Room.fixed) (pieces_at g.J.Room.fixed) (g.J.Plan.tasks s.number) c.in-Some.run'.now.tasks.items c.in-Some.run'.now.done s) (sym c.end.ensures) c.in-Some.run'.now.told;
  asked = c.in-Some.run'.now.asked;
}
