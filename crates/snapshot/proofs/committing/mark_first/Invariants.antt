use Rattle.std.proofs.Common.{◌≡◌, ◌++◌, take, drop, map, ℕ}
use Rattle.std.specs.Prelude.{vec_capacity, ◌||◌}
use Rattle.std.specs.Option.{is_some}
use Rattle.volume_laws.specs.Steps.{mark_of}
use Rattle.snapshot.specs.Held.{IsSpared}
use Rattle.snapshot.specs.Kept.{is_among}
use Rattle.snapshot.proofs.committing.mark_first.Given as goal

abbrev pub invariant-loop-i : goal.invariant-loop-i
invariant-loop-i l = (l.copies.items ≡ drop l._i l.fn.copies.items) × (l.marks.items ≡ l.fn.marks.items ++ map mark_of (take l._i l.fn.copies.items)) × (is_some l.spare ≡ (is_some l.fn.spare || is_among l.fn.merging (take l._i l.fn.copies.items)))
    × ((chunk : ℕ) → IsSpared chunk l.fn.spare l.fn.merging l.fn.copies.items → IsSpared chunk l.spare l.fn.merging l.copies.items) × (vec_capacity l.copies ≡ vec_capacity l.fn.copies) × (vec_capacity l.marks ≡ vec_capacity l.fn.marks)
