use Rattle.device_list.specs.Tables.{table_of}
use Rattle.command_semantics.proofs.NamedFrames.{put_volume_named}
use Rattle.device_list.specs.Flights.{Declines, Starts}
use Rattle.device_list.proofs.Showing.{number_done, refused_done, shown_at, shown_inside, shown_set, yet_shown}
use Rattle.device_list.specs.Names.{KeepsNames}
use Rattle.device_commands.proofs.InVolume.{changed_in, flies_in, number_did, remains_in}
use Rattle.device_commands.proofs.Starts.{unstarted}
use Rattle.device_commands.specs.Flights.{IsStartedAs}
use Rattle.device_commands.proofs.Fills.{full_in}
use Rattle.device_commands.proofs.flights.start_at.Goals as goal

pub returns-clause-named : goal.returns-clause-named
returns-clause-named c =
    rw (shown_set c.args.held.now.volumes.items c.args.v c.start.new.self) (λ named.
    put_volume_named (table_of c.args.held.now) c.args.v c.index_mut.result.now.shown c.start.new.self.shown c.requires.place.0 (shown_at c.args.held.now.volumes.items c.args.v c.index_mut.result.now (shown_inside c.args.held.now.volumes.items c.args.v c.requires.place.0) c.index_mut.ensures.value)
    c.start.ensures.kept.origin c.start.ensures.kept.under c.start.ensures.kept.snaps c.start.ensures.kept.merging named)

pub returns-clause-stays : goal.returns-clause-stays
returns-clause-stays c =
    rw (shown_set c.args.held.now.volumes.items c.args.v c.start.new.self) (remains_in c.args.v c.args.role c.args.first c.args.count (table_of c.args.held.now) c.index_mut.result.now.shown c.start.new.self.shown c.requires.place.0 (shown_at c.args.held.now.volumes.items c.args.v c.index_mut.result.now (shown_inside c.args.held.now.volumes.items c.args.v c.requires.place.0) c.index_mut.ensures.value) (yet_shown _ c.index_mut.result.now c.start.new.self c.start.ensures.stays))

pub returns-clause-started : goal.returns-clause-started
returns-clause-started c =
    rw (shown_set c.args.held.now.volumes.items c.args.v c.start.new.self) (number_did (IsStartedAs c.args.op) c.start.result c.args.v c.args.role c.args.first c.args.count (table_of c.args.held.now) c.index_mut.result.now.shown c.start.new.self.shown c.requires.place.0 (shown_at c.args.held.now.volumes.items c.args.v c.index_mut.result.now (shown_inside c.args.held.now.volumes.items c.args.v c.requires.place.0) c.index_mut.ensures.value) (number_done (Starts c.args.op) c.start.result _ c.index_mut.result.now c.start.new.self c.start.ensures.started))

pub returns-clause-refused : goal.returns-clause-refused
returns-clause-refused c =
    rw (shown_set c.args.held.now.volumes.items c.args.v c.start.new.self) (unstarted c.args.op c.start.result c.args.v c.args.role c.args.first c.args.count (table_of c.args.held.now) c.index_mut.result.now.shown c.start.new.self.shown c.requires.place.0 (shown_at c.args.held.now.volumes.items c.args.v c.index_mut.result.now (shown_inside c.args.held.now.volumes.items c.args.v c.requires.place.0) c.index_mut.ensures.value)
    (refused_done (Declines c.args.op) c.start.result _ c.index_mut.result.now c.start.new.self c.start.ensures.refused) c.start.ensures.same c.start.ensures.still)

pub returns-clause-full : goal.returns-clause-full
returns-clause-full c =
    rw (shown_set c.args.held.now.volumes.items c.args.v c.start.new.self) (full_in c.start.result c.args.v (table_of c.args.held.now) c.start.new.self.shown c.requires.place.0 c.start.ensures.full)

pub returns-clause-flies : goal.returns-clause-flies
returns-clause-flies c =
    rw (shown_set c.args.held.now.volumes.items c.args.v c.start.new.self) (flies_in c.start.result c.args.v (table_of c.args.held.now) c.index_mut.result.now.shown c.start.new.self.shown c.requires.place.0 (shown_at c.args.held.now.volumes.items c.args.v c.index_mut.result.now (shown_inside c.args.held.now.volumes.items c.args.v c.requires.place.0) c.index_mut.ensures.value) c.start.ensures.flies)

pub returns-clause-one : goal.returns-clause-one
returns-clause-one c =
    rw (shown_set c.args.held.now.volumes.items c.args.v c.start.new.self) (changed_in KeepsNames c.args.v (table_of c.args.held.now) c.index_mut.result.now.shown c.start.new.self.shown c.requires.place.0 (shown_at c.args.held.now.volumes.items c.args.v c.index_mut.result.now (shown_inside c.args.held.now.volumes.items c.args.v c.requires.place.0) c.index_mut.ensures.value) c.start.ensures.kept)
