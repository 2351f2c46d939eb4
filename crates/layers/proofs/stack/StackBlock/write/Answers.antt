use Rattle.layers.proofs.stack.StackBlock.write.Goals as goal

pub returns-in-Disk-clause-stop : goal.returns-in-Disk-clause-stop
returns-in-Disk-clause-stop c s v h = rw c.in-Disk.is (c.write.ensures.stop s v h)
