use Rattle.std.proofs.Common.{◌-◌, ap, ◌∙◌}
use Rattle.sector.specs.Bytes.{sectors_at}
use Rattle.file_device.proofs.Among.{part_of}
use Rattle.file_device.proofs.piece.Piece.give.Goals as goal

pub returns : goal.returns
returns c = record {
  gives = λ bytes sectors long is.
      c.copy_from_slice.ensures.after ∙ c.part.ensures
      ∙ ap (λ xs. sectors_at xs (c.args.range.first - c.args.self.now.first) c.args.range.count) c.deref.ensures.value
      ∙ part_of bytes sectors c.args.self.now c.args.range.first c.args.range.count long c.args.self.now.room is c.requires.has;
}
