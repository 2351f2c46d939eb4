use Rattle.std.proofs.Common.{◌≡◌}
use Rattle.cow_format.specs.Pairs.{pairs_of}
use Rattle.cow_image.proofs.SlotFaults.{first_is}
use Rattle.cow_image.proofs.telling.read_fault.Goals as goal

pub returns-clause-first : goal.returns-clause-first
returns-clause-first g c = λ b is.
    let all : pairs_of c.args.chunk b ≡ c.in_ok-pairs.pairs.items = rw c.in-Ends.is at (c.in_ok-pairs.ensures.slots b is) in
    let front = rw c.as_slice.ensures.value at c.in-Ok.ensures.front in
    let (more, begins) = rw c.as_slice-2.ensures.value at c.in_ok-fault.ensures in
    first_is c.args.chunk c.args.origin c.args.size (pairs_of c.args.chunk b) c.in_ok-pairs.pairs.items c.in-Ok.found.items front.0 more c.in_ok-fault.fault all begins front.1
