use Rattle.volume_nbd.proofs.serving.VolumeArrayArray.submit.Goals as goal

pub returns : goal.returns
returns g c = (c.take_in.ensures.does, c.take_in.ensures.kept)
