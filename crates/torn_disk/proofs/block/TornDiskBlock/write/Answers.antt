use Rattle.torn_disk.proofs.block.TornDiskBlock.write.Goals as goal

pub returns-in-Some-clause-stop : goal.returns-in-Some-clause-stop
returns-in-Some-clause-stop c s v h = rw c.in-Some.is (c.write.ensures.stop s v h)
