use Rattle.std.proofs.Common.{ap, sym, ◌∙◌}
use Rattle.std.proofs.Math.ListN.{get_or-map}
use Rattle.command_semantics.proofs.AtPlace.{map_step}
use Rattle.command_semantics.specs.Messages.{volume_ticked}
use Rattle.device_list.specs.Backed.{Backed}
use Rattle.device_list.proofs.Showing.{shown_in, shown_set, shown_within}
use Rattle.device_commands.proofs.messages.tick_volumes.Goals as goal

pub loop-volume-preserved : goal.loop-volume-preserved
loop-volume-preserved c =
    let i = c.loop-volume.volume-index in
    let volumes = c.loop-volume.volumes in
    let was = c.volume-item.result in
    let tick = volume_ticked c.args.seconds in
    shown_set volumes i c.tick.new.self
    ∙ map_step tick (shown_in c.args.volumes.now) (shown_in volumes) i was.shown c.tick.new.self.shown (shown_within c.args.volumes.now i c.loop-volume-test.true) c.loop-volume.invariant
    (c.tick.ensures ∙ ap tick (sym (get_or-map (λ (v : Backed). v.shown) volumes i was)))
