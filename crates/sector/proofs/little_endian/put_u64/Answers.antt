use Rattle.std.proofs.Common.{arith, ◌≡◌, inl, inr, length}
use Rattle.std.proofs.lemmas.List.{places}
use Rattle.byteorder.specs.Endian.{little_bytes}
use Rattle.byteorder.specs.Numbers.{length-bytes_low_first}
use Rattle.sector.specs.Number.{number_bytes}
use Rattle.sector.proofs.Endian.{past_put, put_is}
use Rattle.sector.proofs.little_endian.put_u64.Goals as goal

pub returns-clause-rest : goal.returns-clause-rest
returns-clause-rest c i (inl lo) =
    let len : length (little_bytes 8 c.args.number) ≡ 8 = length-bytes_low_first 0 8 c.args.number in
    rw c.write_u64.ensures (grind (arith, places))
returns-clause-rest c i (inr hi) =
    rw c.write_u64.ensures (past_put c.args.bytes.now (little_bytes 8 c.args.number) c.args.at 8 i (length-bytes_low_first 0 8 c.args.number) c.requires hi)

pub returns-clause-all : goal.returns-clause-all
unfolding number_bytes
returns-clause-all c = rw c.write_u64.ensures (put_is c.args.bytes.now (little_bytes 8 c.args.number) c.args.at 8 (length-bytes_low_first 0 8 c.args.number) c.requires)
