use Rattle.cow_format.specs.Places.{area_place}
use Rattle.cow_format.proofs.AreaPlaces.{place_is}
use Rattle.chunk_alloc.proofs.Ahead.{area_then}
use Rattle.chunk_alloc.proofs.Small.{copies_free}
use Rattle.chunk_alloc.proofs.alloc.Alloc.after_merge.Goals as goal

pub invariant_of-self-clause-whole : goal.invariant_of-self-clause-whole
invariant_of-self-clause-whole c =
    let s = c.args.self.now in
    area_then s.chunk (area_place s.chunk c.args.area) s.some (place_is s.chunk c.args.area s.some)

pub returns-clause-free : goal.returns-clause-free
returns-clause-free c = copies_free c.args.self.now.chunk c.args.area c.args.slots c.requires.slots
