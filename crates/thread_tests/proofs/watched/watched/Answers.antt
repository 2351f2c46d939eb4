-- What was opened is for the one audit, which has no request in flight.
use Rattle.thread_tests.proofs.Opened.{one_of, quiet_of_one, room_of_one}
use Rattle.thread_tests.proofs.watched.watched.Goals as goal

pub watched_in-requires-clause-room : goal.watched_in-requires-clause-room
watched_in-requires-clause-room g c κs within =
    let one = one_of c.push_reserved.new.self.items c.in-Ok-with_capacity.audits.items c.args.audit c.in-Ok-with_capacity.ensures.items c.push_reserved.ensures.items in
    room_of_one g.B.Block.size g.B.Block.layers c.push_reserved.new.self.items c.args.audit c.in-Ok.opened one c.in-Ok.ensures

pub watched_in-requires-clause-quiet : goal.watched_in-requires-clause-quiet
watched_in-requires-clause-quiet g c κs within =
    let one = one_of c.push_reserved.new.self.items c.in-Ok-with_capacity.audits.items c.args.audit c.in-Ok-with_capacity.ensures.items c.push_reserved.ensures.items in
    quiet_of_one c.push_reserved.new.self.items c.args.audit one c.requires.quiet
