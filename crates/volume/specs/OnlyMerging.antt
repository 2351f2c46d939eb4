-- A merge that nothing else is beside.
use Rattle.std.specs.Prelude.{◌==◌, ◌&&◌, Bool, length}
use Rattle.std.specs.Option.{is_some}
use Rattle.volume.specs.Volumed.{Volumed}

-- a merge is begun, and beside it no request is in flight and no snapshot there
abbrev pub is_only_merging_of : {B : Type 0} → Volumed B → Bool
is_only_merging_of v = is_some v.merge && ((length v.snaps == 0) && (length v.flights == 0))
