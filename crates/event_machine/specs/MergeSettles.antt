-- A volume settles with all its events, those of its merge among them: the event that is due first is done, until none is
-- due; and what it has settled to. A request beside a merge settles without the merge's events.
use Rattle.std.specs.Prelude.{◌≡◌, ℕ, ◌+◌, Some, None}
use Rattle.chunk.specs.Pieces.{Span}
use Rattle.plain_machine.specs.declared.request.Dev.{Dev}
use Rattle.plain_machine.specs.declared.request.Op.{Op}
use Rattle.plain_machine.specs.declared.request.Op.TheVariants.{Read, Write, Flush}
use Rattle.whole_commands.specs.Merges.{Merged, Merging, write_part, read_part, flushed_through}
use Rattle.event_machine.specs.Held.{MergeHeld, Moving}
use Rattle.event_machine.specs.Due.{due}
use Rattle.event_machine.specs.MergeDue.{due_all}
use Rattle.event_machine.specs.MergeRest.{merged_of, in_big_steps, IsMergedAtRest, IsBetween}
use Rattle.event_machine.specs.Settles.{settle, settle_all}
use Rattle.whole_commands.specs.Pieces.{Answered}

-- A volume of so many sectors settles to this: after so many events, and after any more, nothing is due, no request is in
-- flight and no group is formed, its devices, its snapshots and its merge are these, and no reply is given.
pub record SettlesToMerged (sectors : ℕ) (v : Moving) (answer : Merged) : Type 0 where
  pub fuel : ℕ
  pub last : Moving
  pub ends : (more : ℕ) → settle_all (fuel + more) v ≡ last
  pub quiet : due_all last ≡ None
  pub rest : IsBetween sectors last
  pub is : merged_of last ≡ answer
  pub silent : last.replied ≡ v.replied

-- a request of one piece beside a merge, as the big step that it is
abbrev pub part_of : Dev → Op → Span → Merging → Answered Merging
part_of dev Read piece m = read_part dev piece m
part_of dev (Write bytes) piece m = write_part dev piece bytes m
part_of dev Flush piece m = flushed_through dev m

-- A volume of so many sectors with a merge settles to this, by the events of snapshots and requests alone: after so many of
-- them, and after any more, none is due, the volume is at rest, its devices, its snapshots and its merge are those of the
-- answer, and so is the reply.
pub record SettlesToReplied (sectors : ℕ) (v : Moving) (answer : Answered Merging) : Type 0 where
  pub fuel : ℕ
  pub last : Moving
  pub held : MergeHeld
  pub ends : (more : ℕ) → settle (fuel + more) v ≡ last
  pub quiet : due last ≡ None
  pub rest : IsMergedAtRest sectors held last
  pub is : in_big_steps held last ≡ answer.state
  pub reply : last.replied ≡ Some answer.reply
