-- Which events are those of a merge.
use Rattle.std.specs.Prelude.{Bool, true, false}
use Rattle.plain_machine.specs.declared.event.Event.{Event}
use Rattle.plain_machine.specs.declared.event.Event.TheVariants.{MergeGroup, MergeAreaRead, MergeRead, MergeWrite, MergeFlush, MergeCommit, MergeRelease}

abbrev pub is_of_merge : Event → Bool
is_of_merge MergeGroup = true
is_of_merge MergeAreaRead = true
is_of_merge MergeRead = true
is_of_merge MergeWrite = true
is_of_merge MergeFlush = true
is_of_merge MergeCommit = true
is_of_merge MergeRelease = true
is_of_merge event = false
