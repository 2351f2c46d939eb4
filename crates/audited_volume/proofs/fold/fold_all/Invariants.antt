use Rattle.std.proofs.Common.{◌≡◌, ◌+◌, ◌≤◌, reverse, vec_capacity, vec_len}
use Rattle.audited_volume.specs.Books.{shown_in_base}
use Rattle.audited_volume.specs.Inside.{AllInside, attached_count}
use Rattle.audited_volume.specs.Replay.{AllLawful}
use Rattle.audited_volume.proofs.Cut.{IsLeft}
use Rattle.audited_volume.proofs.fold.fold_all.Given as goal

abbrev pub invariant-loop-entry : goal.invariant-loop-entry
invariant-loop-entry l =
    (AllLawful (shown_in_base l.fn.base) l.fn.entries.items → AllInside (shown_in_base l.fn.base) l.fn.entries.items → IsLeft (shown_in_base l.base) (reverse l.entries.items) (shown_in_base l.fn.base) l.fn.entries.items)
    × (vec_len l.base.saved + attached_count l.entries.items ≤ vec_capacity l.base.saved)
    × (vec_capacity l.entries ≡ vec_capacity l.fn.entries)

abbrev pub decreases-loop-entry : goal.decreases-loop-entry
decreases-loop-entry l = vec_len l.entries
