-- What a stop leaves of the snapshots is what the event of each kind says of itself.
use Rattle.volume.proofs.volume.Volume.step_by_kind.Goals as goal

pub returns-in-Issue-clause-stops_snaps : goal.returns-in-Issue-clause-stops_snaps
returns-in-Issue-clause-stops_snaps g c = rw c.in-Issue.is c.issue.ensures.stops_snaps

pub returns-in-CopyRead-clause-stops_snaps : goal.returns-in-CopyRead-clause-stops_snaps
returns-in-CopyRead-clause-stops_snaps g c = rw c.in-CopyRead.is c.copy_read.ensures.stops_snaps

pub returns-in-CopyWrite-clause-stops_snaps : goal.returns-in-CopyWrite-clause-stops_snaps
returns-in-CopyWrite-clause-stops_snaps g c = rw c.in-CopyWrite.is c.copy_write.ensures.stops_snaps

pub returns-in-ZeroNext-clause-stops_snaps : goal.returns-in-ZeroNext-clause-stops_snaps
returns-in-ZeroNext-clause-stops_snaps g c = rw c.in-ZeroNext.is c.zero_next.ensures.stops_snaps

pub returns-in-WriteArea-clause-stops_snaps : goal.returns-in-WriteArea-clause-stops_snaps
returns-in-WriteArea-clause-stops_snaps g c = rw c.in-WriteArea.is c.write_area.ensures.stops_snaps

pub returns-in-Publish-clause-stops_snaps : goal.returns-in-Publish-clause-stops_snaps
returns-in-Publish-clause-stops_snaps g c = rw c.in-Publish.is c.publish.ensures.stops_snaps

pub returns-in-WriteInvalid-clause-stops_snaps : goal.returns-in-WriteInvalid-clause-stops_snaps
returns-in-WriteInvalid-clause-stops_snaps g c = rw c.in-WriteInvalid.is c.write_invalid.ensures.stops_snaps

pub returns-in-FlushStore-clause-stops_snaps : goal.returns-in-FlushStore-clause-stops_snaps
returns-in-FlushStore-clause-stops_snaps g c = rw c.in-FlushStore.is c.flush_store.ensures.stops_snaps

pub returns-in-MergeGroup-clause-stops_snaps : goal.returns-in-MergeGroup-clause-stops_snaps
returns-in-MergeGroup-clause-stops_snaps g c = rw c.in-MergeGroup.is c.merge_group.ensures.stops_snaps

pub returns-in-MergeAreaRead-clause-stops_snaps : goal.returns-in-MergeAreaRead-clause-stops_snaps
returns-in-MergeAreaRead-clause-stops_snaps g c = rw c.in-MergeAreaRead.is c.merge_area_read.ensures.stops_snaps

pub returns-in-MergeRead-clause-stops_snaps : goal.returns-in-MergeRead-clause-stops_snaps
returns-in-MergeRead-clause-stops_snaps g c = rw c.in-MergeRead.is c.merge_read.ensures.stops_snaps

pub returns-in-MergeWrite-clause-stops_snaps : goal.returns-in-MergeWrite-clause-stops_snaps
returns-in-MergeWrite-clause-stops_snaps g c = rw c.in-MergeWrite.is c.merge_write.ensures.stops_snaps

pub returns-in-MergeFlush-clause-stops_snaps : goal.returns-in-MergeFlush-clause-stops_snaps
returns-in-MergeFlush-clause-stops_snaps g c = rw c.in-MergeFlush.is c.merge_flush.ensures.stops_snaps

pub returns-in-MergeCommit-clause-stops_snaps : goal.returns-in-MergeCommit-clause-stops_snaps
returns-in-MergeCommit-clause-stops_snaps g c = rw c.in-MergeCommit.is c.merge_commit.ensures.stops_snaps

pub returns-in-MergeRelease-clause-stops_snaps : goal.returns-in-MergeRelease-clause-stops_snaps
returns-in-MergeRelease-clause-stops_snaps g c = rw c.in-MergeRelease.is c.merge_release.ensures.stops_snaps
