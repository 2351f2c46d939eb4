use Rattle.std.proofs.Common.{◌≡◌, drop}
use Rattle.std.specs.Prelude.{slice_get}
use Rattle.audited_volume.specs.Entries.{entries_by}
use Rattle.audited_volume.proofs.verdict.nth_of.Given as goal

abbrev pub invariant-loop-entry : goal.invariant-loop-entry
invariant-loop-entry l = slice_get (entries_by l.seat l.entries) l.number ≡ slice_get (entries_by l.seat (drop l.entry-index l.entries)) l.left
