use Rattle.std.proofs.Common.{◌≡◌, List, ℕ, ◌-◌, ◌≤◌, length, Some}
use Rattle.std.specs.Io.KnownBytes.{Appends}
use Rattle.cow_image.specs.Shown.{shown}
use Rattle.cow_image.proofs.exporting.write_all.Given as goal

abbrev pub invariant-loop-done : goal.invariant-loop-done
invariant-loop-done g l = record {
  origin : g.O.Image.bytes l.origin ≡ g.O.Image.bytes l.fn.origin;
  cow : g.C.Image.bytes l.cow ≡ g.C.Image.bytes l.fn.cow;
  room : length l.room ≡ length l.fn.room;
  inside : l.done ≤ l.end;
  written : (o b : List ℕ) → g.O.Image.bytes l.fn.origin ≡ Some o → g.C.Image.bytes l.fn.cow ≡ Some b → Appends (g.S.Sink.contents l.fn.sink) (g.S.Sink.contents l.sink) (shown l.chunk o b l.pairs 0 l.done);
}

abbrev pub decreases-loop-done : goal.decreases-loop-done
decreases-loop-done g l = l.end - l.done
