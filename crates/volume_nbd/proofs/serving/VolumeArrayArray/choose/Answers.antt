use Rattle.volume_nbd.proofs.serving.VolumeArrayArray.choose.Goals as goal

pub returns : goal.returns
returns g c = (c.choose_at.ensures.told, c.choose_at.ensures.chosen, c.choose_at.ensures.same, c.choose_at.ensures.kept)
