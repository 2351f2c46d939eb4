use Rattle.cow_image.specs.Loaded.{IsLoaded}
use Rattle.cow_image.proofs.reading.take_slots.Given as goal

abbrev pub invariant-loop-slot : goal.invariant-loop-slot
invariant-loop-slot l = IsLoaded l.initial.pairs.items l.pairs.items l.area.bytes.items l.slot l.slot
