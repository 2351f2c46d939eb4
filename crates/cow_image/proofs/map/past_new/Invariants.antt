use Rattle.std.proofs.Common.{◌≡◌, ◌+◌, ◌≤◌, take}
use Rattle.cow_image.specs.Usage.{past_new as past_of}
use Rattle.cow_image.proofs.map.past_new.Given as goal

abbrev pub invariant-loop-pair : goal.invariant-loop-pair
invariant-loop-pair l = (l.past ≡ past_of (take l.pair-index l.pairs)) × (l.past ≤ l.size + 2)
