-- A shift by the place of the only bit that is set divides by the number.
use Rattle.std.proofs.Common.{◌/◌, sym, ap}
use Rattle.std.specs.Prelude.{nat_le}
use Rattle.std.specs.Int.{is_power_of_two}
use Rattle.std.proofs.lemmas.Bool.{and_parts}
use Rattle.snapshot_list.proofs.Shifts.{power_is}
use Rattle.snapshot_list.proofs.starting.whole_chunks.Goals as goal

pub returns : goal.returns
returns c = ap (λ n. c.args.sectors / n) (sym (power_is c.args.chunk c.ranges.chunk.fits (and_parts (is_power_of_two c.args.chunk) (nat_le c.args.chunk 1024) c.requires).0))
