use Rattle.std.proofs.Common.{List, ℕ, ◌<◌, ◌≤◌}
use Rattle.cow_merge.specs.Begun.{begun}
use Rattle.cow_merge.specs.Holding.{Rolls, Passes, Clears, IsZero}
use Rattle.cow_merge.proofs.clearing.clear_areas.Given as goal

abbrev pub invariant-loop-index : goal.invariant-loop-index
invariant-loop-index g l =
    let known = g.F.FileSet.is_known in
    let bytes = g.F.FileSet.bytes in
    let may = g.F.FileSet.may_hold in
    let lasts = g.F.FileSet.will_last in
    record {
      high : l.index ≤ l.end;
      faults : g.F.FileSet.fault_count l.fn.files ≤ g.F.FileSet.fault_count l.files;
      passes : (o c : List ℕ) (first : ℕ) → first ≤ l.from → Rolls (begun l.sizes o c) first (known l.fn.files) (bytes l.fn.files) (may l.fn.files) → Passes (begun l.sizes o c) (g.F.FileSet.moment l.fn.files) (g.F.FileSet.moment l.files) (g.F.FileSet.left_since l.fn.files) (g.F.FileSet.left_since l.files) (known l.files) (bytes l.files) (may l.files);
      clears : (o c : List ℕ) (first : ℕ) → first ≤ l.from → Rolls (begun l.sizes o c) first (known l.fn.files) (bytes l.fn.files) (may l.fn.files) → Clears (begun l.sizes o c) first (known l.files) (bytes l.fn.files) (bytes l.files) (may l.fn.files) (may l.files) (lasts l.fn.files) (lasts l.files);
      zero : (o c : List ℕ) (first : ℕ) → first ≤ l.from → Rolls (begun l.sizes o c) first (known l.fn.files) (bytes l.fn.files) (may l.fn.files) → (area : ℕ) → l.index ≤ area → l.from ≤ area → area < l.end → IsZero l.sizes.chunk (bytes l.files 1) (lasts l.files) area;
    }

abbrev pub decreases-loop-index : goal.decreases-loop-index
decreases-loop-index g l = l.index
