use Rattle.std.proofs.Common.{◌≡◌, ℕ, ◌-◌, ◌*◌, ◌<◌, ◌≤◌, List, length, Some}
use Rattle.cow_image.specs.Shown.{shown}
use Rattle.cow_salvage.specs.Differences.{AreDifferences}
use Rattle.cow_salvage.proofs.differing.compare_all.Given as goal

abbrev pub invariant-loop-done : goal.invariant-loop-done
invariant-loop-done g l = record {
  origin : g.O.Image.bytes l.origin ≡ g.O.Image.bytes l.fn.origin;
  cow : g.C.Image.bytes l.cow ≡ g.C.Image.bytes l.fn.cow;
  ours : length l.ours ≡ 1_048_576;
  theirs : length l.theirs ≡ 1_048_576;
  inside : l.done ≤ l.size;
  sectors : l.sectors ≡ l.chunk;
  low : l.number ≤ l.done;
  at : l.done < l.size → l.done ≡ l.chunk * l.number;
  told : (o b : List ℕ) → g.O.Image.bytes l.fn.origin ≡ Some o → g.C.Image.bytes l.fn.cow ≡ Some b → length o ≡ 512 * l.size → AreDifferences (shown l.chunk o b l.pairs 0 (512 * l.size)) o 0 l.fn.spans.items → AreDifferences (shown l.chunk o b l.pairs 0 (512 * l.size)) o l.done l.spans.items;
}

abbrev pub decreases-loop-done : goal.decreases-loop-done
decreases-loop-done g l = l.size - l.done
