-- Those so far were asked once more, the others are as they were, and nothing failed just where all so far were answered.
use Rattle.std.proofs.Common.{◌≡◌, ◌<◌, ◌≤◌, ℕ, is_ok, length, slice_index_or, take}
use Rattle.std.specs.List.{list_all}
use Rattle.serve_files.specs.Ending.{IsAsked, is_synced}
use Rattle.serve_files.specs.declared.held_file.HeldFile.{HeldFile}
use Rattle.serve_files.proofs.ending.all_synced.Given as goal

abbrev pub invariant-loop-file : goal.invariant-loop-file
invariant-loop-file g l =
    let history = g.C.FileCalls.history in
    record {
      count : length l.files ≡ length l.fn.files;
      behind : (k : ℕ) (file : HeldFile g.row.C.Denot) → k < l.file-index → IsAsked (history (slice_index_or l.fn.files k file).file) (history (slice_index_or l.files k file).file);
      ahead : (k : ℕ) (file : HeldFile g.row.C.Denot) → l.file-index ≤ k → slice_index_or l.files k file ≡ slice_index_or l.fn.files k file;
      done : is_ok l.done ≡ list_all (λ file. is_synced (history file.file)) (take l.file-index l.files);
    }
