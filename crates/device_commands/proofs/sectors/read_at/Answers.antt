use Rattle.std.proofs.Common.{◌≡◌, ◌∙◌}
use Rattle.std.specs.Prelude.{Err, false, true}
use Rattle.device_list.specs.Tables.{table_of}
use Rattle.command_semantics.specs.Sectors.{asked_of, IsReadAsked, read_in}
use Rattle.command_semantics.proofs.NamedFrames.{put_volume_named}
use Rattle.command_semantics.proofs.SoundFrames.{of_both, put_volume_sound, volume_quiet, volume_sound}
use Rattle.device_list.specs.Names.{KeepsNames}
use Rattle.device_list.specs.Flights.{IsReadAtRest, IsReadServed, ReadsAmong, ReadsAtRest}
use Rattle.device_list.proofs.Showing.{asked_done, shown_at, shown_inside, shown_set, still_shown}
use Rattle.device_commands.specs.Flights.{IsReadAmong}
use Rattle.device_commands.proofs.Denied.{denied_in}
use Rattle.device_commands.proofs.InVolume.{asked_did, asked_in, both_asked, changed_in, serves_in, stays_in}
use Rattle.device_commands.proofs.Ruled.{quiet_here, sound_here}
use Rattle.device_commands.proofs.Fills.{full_in}
use Rattle.device_commands.proofs.sectors.read_at.Goals as goal

pub returns : goal.returns
returns c =
    let table = table_of c.args.held.now in
    let volumes = c.args.held.now.volumes.items in
    let was = c.index_mut.result.now in
    let now = c.read.new.self in
    let old = was.shown in
    let new = now.shown in
    let lt = c.requires.place.0 in
    let at = shown_at volumes c.args.v was (shown_inside volumes c.args.v lt) c.index_mut.ensures.value in
    rw (shown_set volumes c.args.v now) (record {
      done = λ sound.
          serves_in c.read.result (IsReadAsked c.args.count) (read_in c.args.role c.args.first c.args.count) c.args.v table old new
          lt at (c.read.ensures.done (sound_here table c.args.v old sound lt at).0 (sound_here table c.args.v old sound lt at).1);
      told = λ quiet. c.read.ensures.told (quiet_here table c.args.v old quiet lt at);
      asks = asked_in (λ e. c.read.result ≡ Err e) c.args.v c.args.role c.args.first c.args.count table old lt at c.read.ensures.asks;
      stays = stays_in (c.read.new.ended.items ≡ c.args.ended.now.items) c.args.v c.args.role c.args.first c.args.count table old new lt at (still_shown _ _ was now c.read.ensures.stays);
      among = asked_did (IsReadAmong c.read.result c.args.ended.now.items c.read.new.ended.items) c.args.v c.args.role c.args.first c.args.count table old new lt at (both_asked (IsReadServed c.read.result c.args.ended.now.items c.read.new.ended.items old new) (IsReadAtRest c.read.result old new) (old.quiet ≡ false) (old.quiet ≡ true) (asked_of c.args.role c.args.first c.args.count old) (λ busy. asked_done (ReadsAmong c.read.result c.args.ended.now.items c.read.new.ended.items) _ was now (c.read.ensures.among busy)) (λ quiet. asked_done (ReadsAtRest c.read.result) _ was now (c.read.ensures.at_rest quiet)));
      denied = denied_in c.read.result c.args.v c.args.role c.args.first c.args.count table old lt at c.read.ensures.denied;
      one = changed_in KeepsNames c.args.v table old new lt at c.read.ensures.kept;
      sound = λ sound.
          put_volume_sound table c.args.v new
          (of_both _ _ (c.read.ensures.kept.sound ∙ volume_sound table c.args.v old sound lt at) (c.read.ensures.quiet (volume_quiet table c.args.v old sound lt at))) sound;
      named = λ named.
          put_volume_named table c.args.v old new lt at
          c.read.ensures.kept.origin c.read.ensures.kept.under c.read.ensures.kept.snaps c.read.ensures.kept.merging named;
      full = full_in c.read.result c.args.v table new lt c.read.ensures.full;
    })
