-- Eight snapshots leave room.
use Rattle.std.proofs.Common.{arith}
use Rattle.std.proofs.lemmas.List.{length-map}
use Rattle.volume.specs.Causes.{lives_of}
use Rattle.audited_volume.specs.Noted.{mays_of}
use Rattle.audited_volume.proofs.Earning.{few_earned}
use Rattle.audited_volume.proofs.Lost.{live_few}
use Rattle.audited_volume.proofs.Mays.{may_few}
use Rattle.audited_volume.proofs.audit.Audit.new.Goals as goal

pub going_on-requires-clause-room : goal.going_on-requires-clause-room
going_on-requires-clause-room g c = omega (arith, live_few (lives_of c.args.volume), may_few (lives_of c.args.volume) (mays_of c.args.volume), length-map c.args.volume.snaps (λ s. s.live), c.len.ensures.len, c.len.ensures.few)

pub going_on-requires-clause-earned : goal.going_on-requires-clause-earned
going_on-requires-clause-earned g c = few_earned c.args.volume (omega (arith, c.len.ensures.len, c.len.ensures.few))
