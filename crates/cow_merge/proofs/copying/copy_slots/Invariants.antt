use Rattle.std.proofs.Common.{List, ℕ, ◌*◌, ◌-◌, ◌<◌, ◌≤◌, length, get_or}
use Rattle.std.specs.List.{All}
use Rattle.sector.specs.declared.pair.Pair.{Pair}
use Rattle.cow_merge.specs.Begun.{begun}
use Rattle.cow_merge.specs.Holding.{Rolls, Passes, Copies, IsPairOf, IsBack}
use Rattle.cow_merge.proofs.copying.copy_slots.Given as goal

abbrev pub invariant-loop-at : goal.invariant-loop-at
invariant-loop-at g l =
    let known = g.F.FileSet.is_known in
    let bytes = g.F.FileSet.bytes in
    let may = g.F.FileSet.may_hold in
    let lasts = g.F.FileSet.will_last in
    record {
      some : 0 < l.most;
      few : l.most ≤ 2048;
      room : 512 * (l.sizes.chunk * l.most) ≤ length l.room;
      faults : g.F.FileSet.fault_count l.fn.files ≤ g.F.FileSet.fault_count l.files;
      passes : (o c : List ℕ) (from : ℕ) → All (IsPairOf (begun l.sizes o c)) l.slots → Rolls (begun l.sizes o c) from (known l.fn.files) (bytes l.fn.files) (may l.fn.files) → Passes (begun l.sizes o c) (g.F.FileSet.moment l.fn.files) (g.F.FileSet.moment l.files) (g.F.FileSet.left_since l.fn.files) (g.F.FileSet.left_since l.files) (known l.files) (bytes l.files) (may l.files);
      copies : (o c : List ℕ) (from : ℕ) → All (IsPairOf (begun l.sizes o c)) l.slots → Rolls (begun l.sizes o c) from (known l.fn.files) (bytes l.fn.files) (may l.fn.files) → Copies (begun l.sizes o c) from (known l.files) (bytes l.fn.files) (bytes l.files) (may l.fn.files) (may l.files) (lasts l.fn.files) (lasts l.files);
      back : (o c : List ℕ) (from : ℕ) → All (IsPairOf (begun l.sizes o c)) l.slots → Rolls (begun l.sizes o c) from (known l.fn.files) (bytes l.fn.files) (may l.fn.files) → (k : ℕ) (d : Pair) → k < l.at → IsBack (begun l.sizes o c) (bytes l.files 0) (lasts l.files) (get_or l.slots k d).old;
    }

abbrev pub decreases-loop-at : goal.decreases-loop-at
decreases-loop-at g l = length l.slots - l.at
