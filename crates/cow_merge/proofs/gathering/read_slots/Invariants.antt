use Rattle.std.proofs.Common.{◌≡◌, List, ℕ, ◌+◌, ◌*◌, ◌-◌, ◌/◌, ◌≤◌, length, take}
use Rattle.std.specs.List.{All}
use Rattle.cow_merge.specs.Begun.{begun}
use Rattle.cow_merge.specs.Holding.{Rolls, Passes, Copies, IsPairOf, AreGathered, pairs}
use Rattle.cow_merge.proofs.gathering.read_slots.Given as goal

abbrev pub invariant-loop-index : goal.invariant-loop-index
invariant-loop-index g l =
    let known = g.F.FileSet.is_known in
    let bytes = g.F.FileSet.bytes in
    let may = g.F.FileSet.may_hold in
    let lasts = g.F.FileSet.will_last in
    record {
      chunk : l.area.chunk ≡ l.sizes.chunk;
      room : l.count + (l.end - l.index) * (32 * l.sizes.chunk) ≤ length l.slots;
      faults : g.F.FileSet.fault_count l.fn.files ≤ g.F.FileSet.fault_count l.files;
      passes : (o c : List ℕ) (first : ℕ) → Rolls (begun l.sizes o c) first (known l.fn.files) (bytes l.fn.files) (may l.fn.files) → Passes (begun l.sizes o c) (g.F.FileSet.moment l.fn.files) (g.F.FileSet.moment l.files) (g.F.FileSet.left_since l.fn.files) (g.F.FileSet.left_since l.files) (known l.files) (bytes l.files) (may l.files);
      copies : (o c : List ℕ) (first : ℕ) → Rolls (begun l.sizes o c) first (known l.fn.files) (bytes l.fn.files) (may l.fn.files) → Copies (begun l.sizes o c) first (known l.files) (bytes l.fn.files) (bytes l.files) (may l.fn.files) (may l.files) (lasts l.fn.files) (lasts l.files);
      are_pairs : (o c : List ℕ) (first : ℕ) → l.end ≤ length (pairs (begun l.sizes o c)) / (32 * l.sizes.chunk) + 1 → Rolls (begun l.sizes o c) first (known l.fn.files) (bytes l.fn.files) (may l.fn.files) → All (IsPairOf (begun l.sizes o c)) (take l.count l.slots);
      gathered : (o c : List ℕ) (first : ℕ) → l.end ≤ length (pairs (begun l.sizes o c)) / (32 * l.sizes.chunk) + 1 → Rolls (begun l.sizes o c) first (known l.fn.files) (bytes l.fn.files) (may l.fn.files) → AreGathered (begun l.sizes o c) first (take l.count l.slots) (l.from * (32 * l.sizes.chunk)) (l.index * (32 * l.sizes.chunk));
    }
