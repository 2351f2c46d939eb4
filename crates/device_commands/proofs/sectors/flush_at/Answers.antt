use Rattle.std.proofs.Common.{◌≡◌, ◌∙◌}
use Rattle.std.specs.Prelude.{Err, false, true}
use Rattle.device_list.specs.Tables.{table_of}
use Rattle.command_semantics.specs.Sectors.{asked_of, IsReadAsked, flushed_in}
use Rattle.command_semantics.proofs.NamedFrames.{put_volume_named}
use Rattle.command_semantics.proofs.SoundFrames.{of_both, put_volume_sound, volume_quiet, volume_sound}
use Rattle.device_list.specs.Names.{KeepsNames}
use Rattle.device_list.specs.Flights.{FlushesAmong, FlushesAtRest, IsFlushServed, IsFlushedAtRest}
use Rattle.device_list.proofs.Showing.{asked_done, shown_at, shown_inside, shown_set, still_shown}
use Rattle.device_commands.specs.Flights.{IsFlushedAmong}
use Rattle.device_commands.proofs.Denied.{denied_in}
use Rattle.device_commands.proofs.InVolume.{asked_did, asked_in, both_asked, changed_in, serves_in, stays_in}
use Rattle.device_commands.proofs.Ruled.{quiet_here, sound_here}
use Rattle.device_commands.proofs.Fills.{full_in}
use Rattle.device_commands.proofs.sectors.flush_at.Goals as goal

pub returns : goal.returns
returns c =
    let table = table_of c.args.held.now in
    let volumes = c.args.held.now.volumes.items in
    let was = c.index_mut.result.now in
    let now = c.flush.new.self in
    let old = was.shown in
    let new = now.shown in
    let lt = c.requires.place.0 in
    let at = shown_at volumes c.args.v was (shown_inside volumes c.args.v lt) c.index_mut.ensures.value in
    rw (shown_set volumes c.args.v now) (record {
      done = λ sound.
          serves_in c.flush.result (IsReadAsked 1) (flushed_in c.args.role) c.args.v table old new
          lt at (c.flush.ensures.done (sound_here table c.args.v old sound lt at).0 (sound_here table c.args.v old sound lt at).1);
      told = λ quiet. c.flush.ensures.told (quiet_here table c.args.v old quiet lt at);
      asks = asked_in (λ e. c.flush.result ≡ Err e) c.args.v c.args.role 0 1 table old lt at c.flush.ensures.asks;
      stays = stays_in (c.flush.new.ended.items ≡ c.args.ended.now.items) c.args.v c.args.role 0 1 table old new lt at (still_shown _ _ was now c.flush.ensures.stays);
      among = asked_did (IsFlushedAmong c.flush.result c.args.ended.now.items c.flush.new.ended.items) c.args.v c.args.role 0 1 table old new lt at (both_asked (IsFlushServed c.flush.result c.args.ended.now.items c.flush.new.ended.items old new) (IsFlushedAtRest c.flush.result old new) (old.quiet ≡ false) (old.quiet ≡ true) (asked_of c.args.role 0 1 old) (λ busy. asked_done (FlushesAmong c.flush.result c.args.ended.now.items c.flush.new.ended.items) _ was now (c.flush.ensures.among busy)) (λ quiet. asked_done (FlushesAtRest c.flush.result) _ was now (c.flush.ensures.at_rest quiet)));
      denied = denied_in c.flush.result c.args.v c.args.role 0 1 table old lt at c.flush.ensures.denied;
      one = changed_in KeepsNames c.args.v table old new lt at c.flush.ensures.kept;
      sound = λ sound.
          put_volume_sound table c.args.v new
          (of_both _ _ (c.flush.ensures.kept.sound ∙ volume_sound table c.args.v old sound lt at) (c.flush.ensures.quiet (volume_quiet table c.args.v old sound lt at))) sound;
      named = λ named.
          put_volume_named table c.args.v old new lt at
          c.flush.ensures.kept.origin c.flush.ensures.kept.under c.flush.ensures.kept.snaps c.flush.ensures.kept.merging named;
      full = full_in c.flush.result c.args.v table new lt c.flush.ensures.full;
    })
