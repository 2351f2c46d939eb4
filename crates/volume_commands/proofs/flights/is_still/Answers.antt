-- A settled volume is quiet, and a quiet one with no device that drops writes is settled.
use Rattle.std.proofs.Common.{◌<◌, ◌∙◌, subst, sym}
use Rattle.std.specs.Prelude.{AllPairs, None}
use Rattle.volume_commands.proofs.Seen.{loud_same, numbers_same}
use Rattle.volume_commands.proofs.Going.{chunks_by}
use Rattle.volume_commands.proofs.Ordered.{ordered_by}
use Rattle.volume_commands.proofs.flights.is_still.Goals as goal

pub returns-clause-still : goal.returns-clause-still
returns-clause-still g c = λ settled. c.is_quiet.ensures.value ∙ settled.quiet

pub returns-clause-numbers : goal.returns-clause-numbers
returns-clause-numbers g c = subst (AllPairs (λ a b. a < b)) (sym (numbers_same g.B.Block.size c.args.volume.now.volume)) c.is_quiet.ensures.numbers

pub returns-clause-ordered : goal.returns-clause-ordered
returns-clause-ordered g c = λ quiet loud.
    let v = c.args.volume.now.volume in
    let all = sym (loud_same g.B.Block.contents g.B.Block.layers v) ∙ loud in
    ordered_by g.B.Block.contents g.B.Block.layers g.B.Block.size v c.is_quiet.ensures.numbers (chunks_by v c.piece.result c.piece.ensures.piece c.piece.ensures.within c.piece.ensures.allowed)
    (c.is_quiet.ensures.between quiet all None) (c.is_quiet.ensures.under quiet all None)
