use Rattle.std.proofs.Common.{ap, rules}
use Rattle.whole_commands.proofs.Starved.{other_full}
use Rattle.device_list.specs.Tables.{table_of}
use Rattle.device_list.specs.Backed.{Backed}
use Rattle.device_list.proofs.Showing.{shown_at, shown_in, shown_inside, shown_set}
use Rattle.device_commands.proofs.Finishes.{finished_goes, finished_in, finished_stays, left_named, left_sound, unfinished_in}
use Rattle.device_commands.proofs.Ruled.{sound_here}
use Rattle.device_commands.proofs.Fills.{asked_there}
use Rattle.device_commands.proofs.merging.finish_at.Goals as goal

pub returns-in-Ok-clause-done : goal.returns-in-Ok-clause-done
returns-in-Ok-clause-done c =
    let table = table_of c.args.held.now in
    let old = c.index_mut.result.now.shown in
    let at = shown_at c.args.held.now.volumes.items c.args.v c.index_mut.result.now (shown_inside c.args.held.now.volumes.items c.args.v c.requires) c.index_mut.ensures.value in
    rw (shown_set c.args.held.now.volumes.items c.args.v c.finish_merge.new.self) (λ sound.
    finished_goes table c.args.v c.in-Ok.stack c.push_reserved.new.self.items old c.finish_merge.new.self.shown c.requires at (c.in-Ok.ensures.parted (sound_here table c.args.v old sound c.requires at).0) (search rules))

pub returns-in-Ok-clause-finished : goal.returns-in-Ok-clause-finished
returns-in-Ok-clause-finished c =
    rw (shown_set c.args.held.now.volumes.items c.args.v c.finish_merge.new.self)
    (finished_in (table_of c.args.held.now) c.args.v c.in-Ok.stack c.push_reserved.new.self.items c.index_mut.result.now.shown c.finish_merge.new.self.shown c.requires (shown_at c.args.held.now.volumes.items c.args.v c.index_mut.result.now (shown_inside c.args.held.now.volumes.items c.args.v c.requires) c.index_mut.ensures.value)
    c.in-Ok.ensures.named (search rules))

pub returns-in-Ok-clause-sound : goal.returns-in-Ok-clause-sound
returns-in-Ok-clause-sound c =
    rw (shown_set c.args.held.now.volumes.items c.args.v c.finish_merge.new.self) (λ sound.
    left_sound (table_of c.args.held.now) c.args.v c.in-Ok.stack c.push_reserved.new.self.items c.index_mut.result.now.shown c.finish_merge.new.self.shown c.requires (shown_at c.args.held.now.volumes.items c.args.v c.index_mut.result.now (shown_inside c.args.held.now.volumes.items c.args.v c.requires) c.index_mut.ensures.value)
    c.in-Ok.ensures.loud c.in-Ok.ensures.sound c.in-Ok.ensures.quiet.1 (search rules) sound)

pub returns-in-Ok-clause-named : goal.returns-in-Ok-clause-named
returns-in-Ok-clause-named c =
    rw (shown_set c.args.held.now.volumes.items c.args.v c.finish_merge.new.self) (λ named.
    left_named (table_of c.args.held.now) c.args.v c.in-Ok.stack c.push_reserved.new.self.items c.index_mut.result.now.shown c.finish_merge.new.self.shown c.requires (shown_at c.args.held.now.volumes.items c.args.v c.index_mut.result.now (shown_inside c.args.held.now.volumes.items c.args.v c.requires) c.index_mut.ensures.value)
    c.in-Ok.ensures.named (search rules) named)

pub returns-in-Err-clause-done : goal.returns-in-Err-clause-done
returns-in-Err-clause-done c =
    rw (shown_set c.args.held.now.volumes.items c.args.v c.finish_merge.new.self) (λ sound.
    let h = sound_here (table_of c.args.held.now) c.args.v c.index_mut.result.now.shown sound c.requires (shown_at c.args.held.now.volumes.items c.args.v c.index_mut.result.now (shown_inside c.args.held.now.volumes.items c.args.v c.requires) c.index_mut.ensures.value) in
    finished_stays (table_of c.args.held.now) c.args.v c.in-Err.refusal c.reserve.new.self.items c.index_mut.result.now.shown c.finish_merge.new.self.shown c.requires (shown_at c.args.held.now.volumes.items c.args.v c.index_mut.result.now (shown_inside c.args.held.now.volumes.items c.args.v c.requires) c.index_mut.ensures.value)
    (c.in-Err.ensures.refused h.0 h.1) (ap (λ (v : Backed). v.shown) c.in-Err.ensures.same) (search rules))

pub returns-in-Err-clause-unfinished : goal.returns-in-Err-clause-unfinished
returns-in-Err-clause-unfinished c =
    λ other.
    unfinished_in (table_of c.args.held.now) c.args.v c.in-Err.refusal c.index_mut.result.now.shown c.requires (shown_at c.args.held.now.volumes.items c.args.v c.index_mut.result.now (shown_inside c.args.held.now.volumes.items c.args.v c.requires) c.index_mut.ensures.value) (c.in-Err.ensures.unfinished (other_full c.in-Err.refusal other))

pub returns-in-Err-clause-full : goal.returns-in-Err-clause-full
returns-in-Err-clause-full c =
    rw (shown_set c.args.held.now.volumes.items c.args.v c.finish_merge.new.self) (λ is. asked_there c.reserve.new.self.items (shown_in c.args.held.now.volumes.items) c.args.v c.finish_merge.new.self.shown c.requires (c.in-Err.ensures.full is))
