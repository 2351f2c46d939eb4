use Rattle.std.proofs.Common.{◌≡◌, ◌-◌, ◌*◌, ◌<◌, ◌≤◌}
use Rattle.snapshot_extents.specs.Ranges.{AreRanges}
use Rattle.snapshot_extents.proofs.ranging.ranges.Given as goal

abbrev pub invariant-loop-done : goal.invariant-loop-done
invariant-loop-done l = record {
  inside : l.done ≤ l.size;
  sectors : l.sectors ≡ l.chunk;
  low : l.number ≤ l.done;
  at : l.done < l.size → l.done ≡ l.chunk * l.number;
  told : AreRanges l.chunk l.pairs (512 * l.done) l.ranges.items;
}

abbrev pub decreases-loop-done : goal.decreases-loop-done
decreases-loop-done l = l.size - l.done
