use Rattle.std.proofs.Common.{◌+◌, ◌*◌, ap, ◌∙◌}
use Rattle.sector.specs.Bytes.{with_part}
use Rattle.sector.specs.Number.{number_bytes}
use Rattle.metadata_area.proofs.Slots.{pair_written}
use Rattle.metadata_area.proofs.area.put_pair.Goals as goal

pub returns-clause-bytes : goal.returns-clause-bytes
returns-clause-bytes c =
    c.put_u64-2.ensures.all
    ∙ ap (λ b. with_part b (16 * c.args.slot + 8) (number_bytes 8 c.args.pair.new)) c.put_u64.ensures.all
    ∙ pair_written c.args.bytes.now c.args.slot c.args.pair c.requires
