use Rattle.volume_nbd.proofs.serving.VolumeArrayArray.step.Goals as goal

pub returns : goal.returns
returns g c = (c.go_on.ensures.does, c.go_on.ensures.still, c.go_on.ensures.ended, c.go_on.ensures.stopped, c.go_on.ensures.kept)
