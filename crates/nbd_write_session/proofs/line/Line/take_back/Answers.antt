use Rattle.std.proofs.Common.{refl, ◌∙◌}
use Rattle.nbd_write_session.specs.Pieces.{back_at}
use Rattle.nbd_write_session.proofs.Worked.{back_none, moves_back, moves_unknown}
use Rattle.nbd_write_session.proofs.line.Line.take_back.Goals as goal

pub returns-in-Some-clause-moves : goal.returns-in-Some-clause-moves
returns-in-Some-clause-moves c = λ calls.
    moves_back _ _ c.take_piece.new.self c.args.number c.args.bytes.now c.args.error c.in-Some.piece (back_at c.args.number c.args.self.now.jobs.out) _ refl refl refl refl refl refl
    c.take_piece.ensures.jobs c.take_piece.ensures.given (rw c.in-Some.is at c.take_piece.ensures.is) c.take_back.ensures.given c.take_back.ensures.out c.take_back.ensures.jobs calls

pub returns-in-Some-clause-none : goal.returns-in-Some-clause-none
returns-in-Some-clause-none c = λ none. back_none c.in-Some.piece c.args.bytes.now c.args.error c.take_piece.new.self.out c.take_piece.new.self.jobs c.take_back.new.self.jobs (c.take_piece.ensures.jobs ∙ none) c.take_back.ensures.jobs

pub returns-in-None-clause-moves : goal.returns-in-None-clause-moves
returns-in-None-clause-moves c = λ calls.
    moves_unknown _ _ c.args.number c.args.bytes.now c.args.error (back_at c.args.number c.args.self.now.jobs.out) _ refl c.in-None.is refl refl refl refl refl c.take_piece.ensures.is calls

pub returns-in-None-clause-none : goal.returns-in-None-clause-none
returns-in-None-clause-none c = λ none. c.take_piece.ensures.jobs ∙ none
