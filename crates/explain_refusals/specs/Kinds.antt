-- What a device is, and what stands on it. The words are this project's own.
use Rattle.std.specs.Prelude.{ℕ, zero, suc, Bool, true, false, List, codes, if◌then◌else◌, Option, Some, None, Result, Ok, Err}
use Rattle.sector.specs.declared.refusal.Refusal.{Refusal}
use Rattle.words.specs.Names.{is_name}
use Rattle.table.specs.declared.lines.Line.{Line}
use Rattle.table.specs.declared.lines.Target.{Target}
use Rattle.table.specs.declared.lines.Target.TheVariants as targets
use Rattle.command_semantics.specs.State.{Table}
use Rattle.command_semantics.specs.Places.{place_of}
use Rattle.command_semantics.specs.Lines.{line_at}
use Rattle.command_semantics.specs.declared.place.Role.{Role}
use Rattle.command_semantics.specs.declared.place.Role.TheVariants as roles
use Rattle.command_semantics.specs.declared.place.Place.{Place}
use Rattle.command_semantics.specs.declared.place.Place.TheVariants.{Free, In}
use Rattle.explain_refusals.specs.declared.kinds.Kind.{Kind}
use Rattle.explain_refusals.specs.declared.kinds.Kind.TheVariants.{Disk, Flakey, Dust, Error, Origin, Snapshot, Merging}
use Rattle.explain_refusals.specs.declared.kinds.Seen.{Seen}

-- with its article
unfoldable pub kind_words : Kind → List ℕ
kind_words Disk = codes "a disk"
kind_words Flakey = codes "a flakey layer"
kind_words Dust = codes "a dust layer"
kind_words Error = codes "an error layer"
kind_words Origin = codes "an origin"
kind_words Snapshot = codes "a snapshot"
kind_words Merging = codes "a snapshot that is being merged"

-- a layer by what its line says
abbrev pub layer_by : Target → Kind
layer_by (targets.Origin device) = Disk
layer_by (targets.Snapshot device store chunk overflow) = Disk
layer_by (targets.Merge device store chunk overflow) = Disk
layer_by (targets.Flakey device offset up down features) = Flakey
layer_by (targets.Dust device block) = Dust
layer_by targets.Error = Error

-- a disk, which has no line, or a layer
abbrev pub kind_of : Result Line Refusal → Kind
kind_of (Ok line) = layer_by line.target
kind_of (Err refusal) = Disk

-- the kind of the device at a place of the devices
unfoldable pub kind_at : Place → Table → Kind
kind_at (Free i depth) table = kind_of (line_at (Free i depth) table)
kind_at (In v roles.Origin) table = Origin
kind_at (In v (roles.Under depth)) table = kind_of (line_at (In v (roles.Under depth)) table)
kind_at (In v (roles.Snapshot k)) table = Snapshot
kind_at (In v (roles.Store k depth)) table = kind_of (line_at (In v (roles.Store k depth)) table)
kind_at (In v roles.Merging) table = Merging
kind_at (In v (roles.MergingStore depth)) table = kind_of (line_at (In v (roles.MergingStore depth)) table)

-- the device at a place, where there is one
abbrev pub seen_at : Table → Option Place → Option Seen
seen_at table None = None
seen_at table (Some place) = Some (record { kind = kind_at place table; place = place })

-- the device that a word names
unfoldable pub known : List ℕ → Table → Option Seen
known word table = seen_at table (if is_name word then place_of word table else None)

-- the top of a stack or of a store, or a layer that another stands on
abbrev pub use_under : ℕ → List ℕ → List ℕ
use_under zero text = text
use_under (suc depth) text = codes "a layer stands on it"

-- what uses a device, by its place
unfoldable pub use_of : Place → List ℕ
use_of (Free i depth) = use_under depth (codes "nothing stands on it")
use_of (In v roles.Origin) = codes "it has snapshots, or a merge: remove or finish these first"
use_of (In v (roles.Under depth)) = use_under depth (codes "an origin stands on it")
use_of (In v (roles.Snapshot k)) = codes "it is a snapshot"
use_of (In v (roles.Store k depth)) = use_under depth (codes "it is the store of a snapshot")
use_of (In v roles.Merging) = codes "it is being merged"
use_of (In v (roles.MergingStore depth)) = use_under depth (codes "it is the store of a snapshot that is being merged, till finish")
