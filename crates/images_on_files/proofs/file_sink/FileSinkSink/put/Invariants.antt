use Rattle.std.proofs.Common.{◌≡◌, ◌+◌, ◌-◌, ◌≤◌, ◌++◌, length, take}
use Rattle.images_on_files.specs.Held.{held}
use Rattle.images_on_files.proofs.file_sink.FileSinkSink.put.Given as goal

abbrev pub invariant-loop-done : goal.invariant-loop-done
invariant-loop-done g l = record {
  at : l.self.at ≡ l.start + l.done;
  inside : l.done ≤ length l.bytes;
  held : held (g.C.FileCalls.history l.self.file) l.self.at ≡ held (g.C.FileCalls.history l.fn.self.file) l.fn.self.at ++ take l.done l.bytes;
}

abbrev pub decreases-loop-done : goal.decreases-loop-done
decreases-loop-done g l = length l.bytes - l.done
