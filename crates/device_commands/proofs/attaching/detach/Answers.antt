use Rattle.std.proofs.Common.{ap, rules}
use Rattle.device_list.specs.Tables.{table_of}
use Rattle.device_list.specs.Backed.{Backed}
use Rattle.device_list.proofs.Showing.{shown_at, shown_in, shown_inside, shown_set}
use Rattle.device_commands.proofs.Leaving.{left_by_is, left_by_sound, left_by_stays}
use Rattle.device_commands.proofs.Fills.{asked_there}
use Rattle.device_commands.proofs.attaching.detach.Goals as goal

pub returns-in-Ok-clause-done : goal.returns-in-Ok-clause-done
returns-in-Ok-clause-done c =
    rw (shown_set c.args.held.now.volumes.items c.args.v c.detach.new.self) (left_by_is (table_of c.args.held.now) c.args.v c.args.k c.in-Ok.stack c.push_reserved.new.self.items c.index_mut.result.now.shown c.detach.new.self.shown
    c.requires.0 (shown_at c.args.held.now.volumes.items c.args.v c.index_mut.result.now (shown_inside c.args.held.now.volumes.items c.args.v c.requires.0) c.index_mut.ensures.value) c.in-Ok.ensures.parted (search rules))

pub returns-in-Ok-clause-sound : goal.returns-in-Ok-clause-sound
returns-in-Ok-clause-sound c =
    rw (shown_set c.args.held.now.volumes.items c.args.v c.detach.new.self) (λ sound.
    left_by_sound (table_of c.args.held.now) c.args.v c.args.k c.in-Ok.stack c.push_reserved.new.self.items c.index_mut.result.now.shown c.detach.new.self.shown
    c.requires.0 (shown_at c.args.held.now.volumes.items c.args.v c.index_mut.result.now (shown_inside c.args.held.now.volumes.items c.args.v c.requires.0) c.index_mut.ensures.value) c.in-Ok.ensures.parted c.in-Ok.ensures.loud c.detach.ensures.sound (search rules) sound)

pub returns-in-Err-clause-done : goal.returns-in-Err-clause-done
returns-in-Err-clause-done c =
    rw (shown_set c.args.held.now.volumes.items c.args.v c.detach.new.self) (left_by_stays (table_of c.args.held.now) c.args.v c.args.k c.in-Err.refusal c.reserve.new.self.items c.index_mut.result.now.shown c.detach.new.self.shown
    c.requires.0 (shown_at c.args.held.now.volumes.items c.args.v c.index_mut.result.now (shown_inside c.args.held.now.volumes.items c.args.v c.requires.0) c.index_mut.ensures.value) c.in-Err.ensures.busy (ap (λ (v : Backed). v.shown) c.in-Err.ensures.same) (search rules))

pub returns-in-Err-clause-full : goal.returns-in-Err-clause-full
returns-in-Err-clause-full c =
    rw (shown_set c.args.held.now.volumes.items c.args.v c.detach.new.self) (λ is. asked_there c.reserve.new.self.items (shown_in c.args.held.now.volumes.items) c.args.v c.detach.new.self.shown c.requires.0 (c.in-Err.ensures.full is))
