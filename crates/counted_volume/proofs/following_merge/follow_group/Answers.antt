-- One after the other.
use Rattle.counted_volume.proofs.MergeFollows.{merged_then}
use Rattle.counted_volume.proofs.following_merge.follow_group.Goals as goal

pub returns-then-not-merge_on : goal.returns-then-not-merge_on
returns-then-not-merge_on g c = merged_then c.loop-volume.invariant.so (merged_then c.merge_on.ensures.merged c.merge_on-in-loop-volume.ensures.merged)

pub loop-volume-preserved : goal.loop-volume-preserved
loop-volume-preserved g c = record { so = merged_then c.loop-volume.invariant.so (merged_then c.merge_on.ensures.merged c.merge_on-in-loop-volume.ensures.merged) }

pub returns-then-not-merge_on-2 : goal.returns-then-not-merge_on-2
returns-then-not-merge_on-2 g c = merged_then c.loop-volume.invariant.so (merged_then c.merge_on.ensures.merged c.merge_on-2.ensures.merged)

pub returns-then-not-merge_on-3 : goal.returns-then-not-merge_on-3
returns-then-not-merge_on-3 g c = merged_then c.loop-volume.invariant.so (merged_then c.merge_on.ensures.merged (merged_then c.merge_on-2.ensures.merged c.merge_on-3.ensures.merged))

pub returns : goal.returns
returns g c = merged_then c.loop-volume.invariant.so (merged_then c.merge_on.ensures.merged (merged_then c.merge_on-2.ensures.merged (merged_then c.merge_on-3.ensures.merged c.merge_on-4.ensures.merged)))
