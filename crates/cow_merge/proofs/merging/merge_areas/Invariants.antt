use Rattle.std.proofs.Common.{◌≡◌, List, ℕ, ◌+◌, ◌*◌, ◌/◌, ◌≤◌, length, min}
use Rattle.cow_merge.specs.Begun.{begun}
use Rattle.cow_merge.specs.Holding.{Rolls, Passes, IsGone, pairs}
use Rattle.cow_merge.proofs.merging.merge_areas.Given as goal

abbrev pub invariant-loop-end : goal.invariant-loop-end
invariant-loop-end g l =
    let known = g.F.FileSet.is_known in
    let bytes = g.F.FileSet.bytes in
    let may = g.F.FileSet.may_hold in
    record {
      chunk : l.area.chunk ≡ l.sizes.chunk;
      slots : l.step * (32 * l.sizes.chunk) ≤ length l.slots;
      room : 512 * l.sizes.chunk ≤ length l.room;
      high : l.end ≤ l.last + 1;
      faults : g.F.FileSet.fault_count l.fn.files ≤ g.F.FileSet.fault_count l.files;
      passes : (o c : List ℕ) (first : ℕ) → first ≤ l.last + 1 → l.last ≤ length (pairs (begun l.sizes o c)) / (32 * l.sizes.chunk) → Rolls (begun l.sizes o c) first (known l.fn.files) (bytes l.fn.files) (may l.fn.files) → Passes (begun l.sizes o c) (g.F.FileSet.moment l.fn.files) (g.F.FileSet.moment l.files) (g.F.FileSet.left_since l.fn.files) (g.F.FileSet.left_since l.files) (known l.files) (bytes l.files) (may l.files);
      rolls : (o c : List ℕ) (first : ℕ) → first ≤ l.last + 1 → l.last ≤ length (pairs (begun l.sizes o c)) / (32 * l.sizes.chunk) → Rolls (begun l.sizes o c) first (known l.fn.files) (bytes l.fn.files) (may l.fn.files) → Rolls (begun l.sizes o c) (min first l.end) (known l.files) (bytes l.files) (may l.files);
      gone : (o c : List ℕ) (first : ℕ) → first ≤ l.last + 1 → l.last ≤ length (pairs (begun l.sizes o c)) / (32 * l.sizes.chunk) → Rolls (begun l.sizes o c) first (known l.fn.files) (bytes l.fn.files) (may l.fn.files) → (area : ℕ) → l.end ≤ area → area ≤ l.last → IsGone l.sizes.chunk (may l.files) area;
    }

abbrev pub decreases-loop-end : goal.decreases-loop-end
decreases-loop-end g l = l.end
