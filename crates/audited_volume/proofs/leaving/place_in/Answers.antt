use Rattle.std.proofs.Common.{rules, sym}
use Rattle.audited_volume.proofs.Departed.{not_found}
use Rattle.audited_volume.proofs.leaving.place_in.Goals as goal

pub returns : goal.returns
returns g c = sym (not_found c.args.number c.args.volume.now.snaps (λ j d lt. c.loop-k.invariant j d (search rules)))
