-- To be believed: `run`'s output, a volume's steps or its attach are said in these words.
-- How requests are routed, at submit and again: this project's own table of the waits that the kernel's admin-guide page
-- on snapshots describes in words.
use Rattle.std.specs.Prelude.{◌==◌, ◌&&◌, ℕ, ◌/◌, List, Bool, true, false, Option, Some, None, if◌then◌else◌}
use Rattle.plain_machine.specs.Plain.{is_in}
use Rattle.in_flight.specs.declared.flights.Kind.{Kind}
use Rattle.in_flight.specs.declared.flights.Kind.TheVariants.{OriginRead, OriginWrite, OriginFlush, SnapRead, SnapWrite, SnapFlush}
use Rattle.in_flight.specs.declared.flights.Route.{Route}
use Rattle.in_flight.specs.declared.flights.Route.TheVariants.{Held, Origin, Store, Whole, Refused}
use Rattle.in_flight.specs.declared.flights.Flight.{Flight}
use Rattle.in_flight.specs.Kinds.{kind_of}

-- a read goes to the chunk's copy, or to the origin disk
abbrev pub read_route_of : Option ℕ → Route
read_route_of (Some place) = Store place
read_route_of None = Origin

-- a write of a chunk that is in no group: to its place, to the origin disk, or held for copies and marks
abbrev pub placed_write_route : Option ℕ → Bool → Route
placed_write_route (Some place) clear = Store place
placed_write_route None true = Origin
placed_write_route None false = Held

-- a write of a chunk of the present group is held for its release
abbrev pub write_route_of : Bool → Option ℕ → Bool → Route
write_route_of true place clear = Held
write_route_of false place clear = placed_write_route place clear

-- a flush of the origin goes to the store that is being merged first, if there is one
abbrev pub flush_route_of : Bool → Route
flush_route_of true = Whole
flush_route_of false = Origin

-- held origin writes get the new route, every other request keeps its own
abbrev pub again_route_of : Kind → Route → Route → Route
again_route_of kind Origin new = Origin
again_route_of kind (Store place) new = Store place
again_route_of kind Whole new = Whole
again_route_of kind Refused new = Refused
again_route_of OriginRead Held new = Held
again_route_of OriginWrite Held new = new
again_route_of OriginFlush Held new = Held
again_route_of (SnapRead snap) Held new = Held
again_route_of (SnapWrite snap) Held new = Held
again_route_of (SnapFlush snap) Held new = Held

-- a held write of this snapshot goes to its chunk's place, if there is one; every other request keeps its route
abbrev pub placed_route_of : ℕ → Kind → Route → Option ℕ → Route
placed_route_of snap OriginRead route place = route
placed_route_of snap OriginWrite route place = route
placed_route_of snap OriginFlush route place = route
placed_route_of snap (SnapRead n) route place = route
placed_route_of snap (SnapFlush n) route place = route
placed_route_of snap (SnapWrite n) Origin place = Origin
placed_route_of snap (SnapWrite n) (Store p) place = Store p
placed_route_of snap (SnapWrite n) Whole place = Whole
placed_route_of snap (SnapWrite n) Refused place = Refused
placed_route_of snap (SnapWrite n) Held None = Held
placed_route_of snap (SnapWrite n) Held (Some p) = if n == snap then Store p else Held

-- the route after these snapshots were spoiled
abbrev pub refused_route_of : List ℕ → Kind → Route → Route
refused_route_of which OriginRead route = route
refused_route_of which OriginWrite route = route
refused_route_of which OriginFlush route = route
refused_route_of which (SnapRead snap) route = if is_in which snap then Refused else route
refused_route_of which (SnapWrite snap) route = if is_in which snap then Refused else route
refused_route_of which (SnapFlush snap) route = if is_in which snap then Refused else route

abbrev pub refused_of : List ℕ → Flight → Flight
refused_of which f = record f { route = refused_route_of which (kind_of f.request) f.route }

-- whether such a request reads this snapshot from the origin disk
abbrev pub reads_origin_of : ℕ → Kind → Route → Bool
reads_origin_of snap OriginRead route = false
reads_origin_of snap OriginWrite route = false
reads_origin_of snap OriginFlush route = false
reads_origin_of snap (SnapWrite other) route = false
reads_origin_of snap (SnapFlush other) route = false
reads_origin_of snap (SnapRead other) Held = false
reads_origin_of snap (SnapRead other) Origin = other == snap
reads_origin_of snap (SnapRead other) (Store place) = false
reads_origin_of snap (SnapRead other) Whole = false
reads_origin_of snap (SnapRead other) Refused = false

-- whether a request reads this chunk of the snapshot from the origin disk, in chunks of so many sectors
abbrev pub is_reading : ℕ → ℕ → ℕ → Flight → Bool
is_reading snap chunk c f = (f.request.range.first / chunk == c) && reads_origin_of snap (kind_of f.request) f.route
