use Rattle.std.proofs.Common.{ap}
use Rattle.std.specs.Prelude.{◌≡◌}
use Rattle.device_list.specs.Tables.{table_of}
use Rattle.command_semantics.proofs.NamedFrames.{put_volume_named}
use Rattle.command_semantics.proofs.SoundFrames.{volume_quiet, volume_sound}
use Rattle.device_list.specs.Flights.{IsSettledBy, Settles}
use Rattle.device_list.specs.Names.{KeepsNames}
use Rattle.device_list.specs.Backed.{Backed}
use Rattle.device_list.proofs.Showing.{ok_done, shown_at, shown_inside, shown_set, starved_shown}
use Rattle.device_commands.proofs.InVolume.{changed_in, rests_in}
use Rattle.device_commands.proofs.Ruled.{quiet_here, sound_here}
use Rattle.device_commands.proofs.Settles.{alone_in, drained_in, settles, settles_sound, starved_as}
use Rattle.device_commands.proofs.flights.settle_at.Goals as goal

pub returns : goal.returns
returns c =
    let table = table_of c.args.held.now in
    let volumes = c.args.held.now.volumes.items in
    let was = c.index_mut.result.now in
    let now = c.settle.new.self in
    let old = was.shown in
    let new = now.shown in
    let lt = c.requires in
    let at = shown_at volumes c.args.v was (shown_inside volumes c.args.v lt) c.index_mut.ensures.value in
    let told = c.settle.new.ended.items ≡ c.args.ended.now.items in
    let err = starved_shown c.settle.result told was now c.settle.ensures.err in
    rw (shown_set volumes c.args.v now) (record {
      done = λ sound.
          let h = sound_here table c.args.v old sound lt at in settles c.settle.result told c.args.v table old new lt at (c.settle.ensures.done h.0 h.1) err;
      told = λ quiet. c.settle.ensures.still (quiet_here table c.args.v old quiet lt at);
      idle = λ quiet. c.settle.ensures.idle (quiet_here table c.args.v old quiet lt at);
      alone = alone_in c.args.v table old new lt at (λ quiet none. ap (λ (v : Backed). v.shown) (c.settle.ensures.alone quiet none));
      drained = drained_in (IsSettledBy c.args.ended.now.items c.settle.new.ended.items) c.settle.result c.args.v table old new lt at (ok_done (Settles c.args.ended.now.items c.settle.new.ended.items) c.settle.result was now c.settle.ensures.drained);
      err = starved_as c.settle.result told c.args.v table old new at err;
      rested = rests_in c.args.v table old new c.settle.result lt c.settle.ensures.quiet;
      one = changed_in KeepsNames c.args.v table old new lt at c.settle.ensures.kept;
      sound = λ sound.
          settles_sound c.settle.result told c.args.v table old new lt at
          (c.settle.ensures.done (volume_sound table c.args.v old sound lt at) (volume_quiet table c.args.v old sound lt at)) err sound;
      named = λ named.
          put_volume_named table c.args.v old new lt at
          c.settle.ensures.kept.origin c.settle.ensures.kept.under c.settle.ensures.kept.snaps c.settle.ensures.kept.merging named;
    })
