use Rattle.std.proofs.Common.{Ok, Err, length, ap, refl, sym, subst}
use Rattle.nbd_jobs.specs.Steps.{IsInside, JobState}
use Rattle.nbd_backend.specs.Calls.{Submit}
use Rattle.nbd_backend.specs.declared.array.Refused.TheVariants.{Full, Error}
use Rattle.nbd_write_session.specs.Pieces.{part_by}
use Rattle.nbd_write_session.proofs.Called.{reaches_at, reaches_one}
use Rattle.nbd_write_session.proofs.Calling.{called_to}
use Rattle.nbd_write_session.proofs.Worked.{moves_declined, moves_full, moves_given}
use Rattle.nbd_write_session.proofs.line.Line.give.Goals as goal

pub given-requires : goal.given-requires
given-requires g c =
    let P : JobState → Type 0 = λ j. IsInside (length j.bytes) c.args.work in
    subst P (sym (c.get.ensures c.get.result.now)) (c.requires.inside c.get.result.now)

pub returns-in_ok-hand_out-in-Ok-clause-moves : goal.returns-in_ok-hand_out-in-Ok-clause-moves
returns-in_ok-hand_out-in-Ok-clause-moves g c =
    called_to g.A.Array.does _ _ _ _ (Submit c.args.work (part_by c.args.work.kind c.get.result.now.bytes c.args.work) (Ok c.in-Ok.number)) (rw c.in-Ok.is at c.given.ensures)
    (λ calls. moves_given _ _ calls _ c.args.place c.args.work _ c.in-Ok.number refl refl refl refl refl refl c.requires.place c.requires.next
    (λ d. ap (λ (j : JobState). part_by c.args.work.kind j.bytes c.args.work) (c.get.ensures d)) c.hand_out.ensures.given c.in_ok-hand_out-in-Ok.ensures.jobs c.in_ok-hand_out-in-Ok.ensures.out)

pub returns-in-Err-Full-clause-moves : goal.returns-in-Err-Full-clause-moves
returns-in-Err-Full-clause-moves g c =
    called_to g.A.Array.does _ _ _ _ (Submit c.args.work (part_by c.args.work.kind c.get.result.now.bytes c.args.work) (Err Full)) (rw c.in-Err-Full.field-0-is at c.in-Err-Full.ensures)
    (λ calls. moves_full _ calls _ c.args.work _ refl)

pub returns-in-Err-Error-clause-moves : goal.returns-in-Err-Error-clause-moves
returns-in-Err-Error-clause-moves g c =
    called_to g.A.Array.does _ _ _ _ (Submit c.args.work (part_by c.args.work.kind c.get.result.now.bytes c.args.work) (Err (Error c.in-Err-Error.error))) (rw c.in-Err-Error.field-0-is at c.in-Err-Error.ensures)
    (λ calls. moves_declined _ _ calls _ c.args.place c.args.work _ c.in-Err-Error.error refl refl refl refl refl refl c.requires.place c.requires.next c.refuse.ensures.given c.refuse.ensures.out c.refuse.ensures.jobs)

pub returns-in_err-hand_out-in-Ok-clause-called : goal.returns-in_err-hand_out-in-Ok-clause-called
returns-in_err-hand_out-in-Ok-clause-called g c = reaches_at g.A.Array.does _ _ _ (reaches_one g.A.Array.does _ _ (Submit c.args.work (part_by c.args.work.kind c.get.result.now.bytes c.args.work) (Ok c.in-Ok.number)) (rw c.in-Ok.is at c.given.ensures))
