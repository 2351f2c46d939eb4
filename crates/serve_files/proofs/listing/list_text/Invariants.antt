-- The first line, that of a merge, and those of the stores so far.
use Rattle.std.proofs.Common.{◌≡◌, ◌++◌, map, take}
use Rattle.std.specs.List.{flat_map}
use Rattle.serve_files.specs.Listing.{head, line_of, merge_line}
use Rattle.serve_files.specs.Names.{text_in, text_of}
use Rattle.serve_files.proofs.listing.list_text.Given as goal

abbrev pub invariant-loop-cow : goal.invariant-loop-cow
invariant-loop-cow l = l.text.items ≡ head ++ (merge_line (text_in l.merge) ++ flat_map line_of (map text_of (take l.cow-index l.cows)))
