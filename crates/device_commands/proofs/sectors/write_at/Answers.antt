use Rattle.std.proofs.Common.{◌≡◌, ◌∙◌}
use Rattle.std.specs.Prelude.{Err, false, true}
use Rattle.device_list.specs.Tables.{table_of}
use Rattle.command_semantics.specs.Sectors.{asked_of, IsPartWritten, written_in}
use Rattle.command_semantics.proofs.NamedFrames.{put_volume_named}
use Rattle.command_semantics.proofs.SoundFrames.{of_both, put_volume_sound, volume_quiet, volume_sound}
use Rattle.device_list.specs.Names.{KeepsNames}
use Rattle.device_list.specs.Flights.{IsWriteServed, IsWrittenAtRest, WritesAmong, WritesAtRest}
use Rattle.device_list.proofs.Showing.{asked_done, shown_at, shown_inside, shown_set, still_shown}
use Rattle.device_commands.specs.Flights.{IsWrittenAmong}
use Rattle.device_commands.proofs.Denied.{denied_in}
use Rattle.device_commands.proofs.InVolume.{asked_did, asked_in, both_asked, changed_in, serves_in, stays_in}
use Rattle.device_commands.proofs.Ruled.{quiet_here, sound_here}
use Rattle.device_commands.proofs.Fills.{full_in}
use Rattle.device_commands.proofs.sectors.write_at.Goals as goal

pub returns : goal.returns
returns c =
    let table = table_of c.args.held.now in
    let volumes = c.args.held.now.volumes.items in
    let was = c.index_mut.result.now in
    let now = c.write.new.self in
    let old = was.shown in
    let new = now.shown in
    let lt = c.requires.place.0 in
    let at = shown_at volumes c.args.v was (shown_inside volumes c.args.v lt) c.index_mut.ensures.value in
    rw (shown_set volumes c.args.v now) (record {
      done = λ sound.
          serves_in c.write.result (IsPartWritten c.args.role c.args.first c.args.count c.args.bytes.now) (written_in c.args.role c.args.first c.args.count c.args.bytes.now) c.args.v table old new
          lt at (c.write.ensures.done (sound_here table c.args.v old sound lt at).0 (sound_here table c.args.v old sound lt at).1);
      told = λ quiet. c.write.ensures.told (quiet_here table c.args.v old quiet lt at);
      asks = asked_in (λ e. c.write.result ≡ Err e) c.args.v c.args.role c.args.first c.args.count table old lt at c.write.ensures.asks;
      stays = stays_in (c.write.new.ended.items ≡ c.args.ended.now.items) c.args.v c.args.role c.args.first c.args.count table old new lt at (still_shown _ _ was now c.write.ensures.stays);
      among = asked_did (IsWrittenAmong c.args.bytes.now c.write.result c.args.ended.now.items c.write.new.ended.items) c.args.v c.args.role c.args.first c.args.count table old new lt at (both_asked (IsWriteServed c.args.bytes.now c.write.result c.args.ended.now.items c.write.new.ended.items old new) (IsWrittenAtRest c.args.bytes.now c.write.result old new) (old.quiet ≡ false) (old.quiet ≡ true) (asked_of c.args.role c.args.first c.args.count old) (λ busy. asked_done (WritesAmong c.args.bytes.now c.write.result c.args.ended.now.items c.write.new.ended.items) _ was now (c.write.ensures.among busy)) (λ quiet. asked_done (WritesAtRest c.args.bytes.now c.write.result) _ was now (c.write.ensures.at_rest quiet)));
      denied = denied_in c.write.result c.args.v c.args.role c.args.first c.args.count table old lt at c.write.ensures.denied;
      one = changed_in KeepsNames c.args.v table old new lt at c.write.ensures.kept;
      sound = λ sound.
          put_volume_sound table c.args.v new
          (of_both _ _ (c.write.ensures.kept.sound ∙ volume_sound table c.args.v old sound lt at) (c.write.ensures.quiet (volume_quiet table c.args.v old sound lt at))) sound;
      named = λ named.
          put_volume_named table c.args.v old new lt at
          c.write.ensures.kept.origin c.write.ensures.kept.under c.write.ensures.kept.snaps c.write.ensures.kept.merging named;
      full = full_in c.write.result c.args.v table new lt c.write.ensures.full;
    })
