-- To be believed: a volume's steps are said in these words.
-- What the bytes of the merging store say of a merge, and what its commit does to them. The bytes are those of
-- dm-snap-persistent.c.
use Rattle.std.specs.Prelude.{◌≡◌, ◌==◌, ◌&&◌, not, ℕ, ◌<◌, Bool, true, false, List, [], length, Option, Some, None}
use Rattle.sector.specs.declared.pair.Pair.{Pair}
use Rattle.device.specs.Layers.{Layer}
use Rattle.cow_format.specs.Pairs.{pairs_of}
use Rattle.plain_machine.specs.declared.event.Event.{Event}
use Rattle.plain_machine.specs.declared.event.Event.TheVariants.{MergeCommit}
use Rattle.plain_machine.specs.declared.event.Outcome.{Outcome}
use Rattle.plain_machine.specs.declared.event.Outcome.TheVariants.{Done}
use Rattle.merge.specs.Due.{has_group_of}
use Rattle.merge.specs.Merging.{Merging}
use Rattle.volume.specs.Volumed.{Volumed, is_loud_in_all}

-- the pairs that a merge that may be begun has left: in memory, and in the bytes of its store
abbrev pub pairs_left : {B : Type 0} → Option (Merging B) → List Pair
pairs_left None = []
pairs_left (Some m) = m.pairs

abbrev pub pairs_stored : {B : Type 0} → (B → List ℕ) → Option (Merging B) → List Pair
pairs_stored contents None = []
pairs_stored contents (Some m) = pairs_of m.state.chunk (contents m.device)

-- a merge is begun whose store's bytes have no pair, and no group is formed
abbrev pub is_finished_on : {B : Type 0} → (B → List ℕ) → Option (Merging B) → Bool
is_finished_on contents None = false
is_finished_on contents (Some m) = (length (pairs_of m.state.chunk (contents m.device)) == 0) && not (has_group_of m.group)

-- A commit that is done takes at least one pair away, in memory, and where no device drops writes in the store's bytes.
abbrev pub RemovesPairs : {B : Type 0} → (B → List ℕ) → (B → List Layer) → Event → Outcome → Volumed B → Volumed B → Type 0
RemovesPairs contents layers MergeCommit Done old new =
    (length (pairs_left new.merge) < length (pairs_left old.merge))
    × (is_loud_in_all layers old ≡ true → length (pairs_stored contents new.merge) < length (pairs_stored contents old.merge))
RemovesPairs contents layers event outcome old new = Unit {0}
