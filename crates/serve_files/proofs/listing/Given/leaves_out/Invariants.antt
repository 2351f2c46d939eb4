-- What is left out of the rest, with the line so far before it, is what is left out of all.
use Rattle.std.proofs.Common.{◌≡◌, ◌≤◌, [], drop, map, take}
use Rattle.serve_files.specs.Listing.{Given as GivenWords, left_out}
use Rattle.serve_files.specs.Names.{text_in, text_of}
use Rattle.serve_files.proofs.listing.Given.leaves_out.Given as goal

abbrev pub invariant-loop-place : goal.invariant-loop-place
invariant-loop-place l =
    let given : GivenWords = record { merge = text_in l.self.merge; cows = map text_of l.self.cows.now; others = l.self.others } in
    (l.from ≤ l.place) × (left_out given (drop l.from (take l.place l.text)) (drop l.place l.text) ≡ left_out given [] l.text)
