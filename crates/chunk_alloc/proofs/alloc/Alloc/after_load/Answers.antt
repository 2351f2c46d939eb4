use Rattle.std.proofs.Common.{◌+◌, ◌*◌, ◌/◌}
use Rattle.cow_format.proofs.AreaPlaces.{place_is}
use Rattle.cow_format.proofs.NextPlaces.{next-loaded}
use Rattle.chunk_alloc.proofs.Ahead.{loaded_after}
use Rattle.chunk_alloc.proofs.alloc.Alloc.after_load.Goals as goal

pub invariant_of-result-clause-whole : goal.invariant_of-result-clause-whole
invariant_of-result-clause-whole c = place_is c.args.chunk (c.args.greatest / (32 * c.args.chunk + 1) + 1) c.requires.some

pub invariant_of-result-clause-after : goal.invariant_of-result-clause-after
invariant_of-result-clause-after c = rw c.step.ensures (loaded_after c.args.chunk c.args.greatest c.requires.some).0

pub invariant_of-result-clause-first : goal.invariant_of-result-clause-first
invariant_of-result-clause-first c = rw c.step.ensures (loaded_after c.args.chunk c.args.greatest c.requires.some).1

pub returns-clause-least : goal.returns-clause-least
returns-clause-least c taken is =
    rw c.step.ensures (next-loaded c.args.chunk taken c.args.greatest c.requires.some is.low is.all is.one)
