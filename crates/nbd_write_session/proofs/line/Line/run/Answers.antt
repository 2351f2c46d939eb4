use Rattle.std.proofs.Common.{rules, refl, ◌≡◌, ℕ, [], None, Ok, IfSome, ap, ◌∙◌, sym, subst}
use Rattle.nbd_jobs.specs.Held.{Held}
use Rattle.nbd_write_session.specs.declared.line.Line.{Line}
use Rattle.nbd_write_session.specs.Asked.{IsOver}
use Rattle.nbd_write_session.specs.Stream.{left}
use Rattle.nbd_write_session.proofs.Called.{reaches_at, reaches_by, reaches_then}
use Rattle.nbd_write_session.proofs.Calling.{still_whole, turning, working}
use Rattle.nbd_write_session.proofs.Moved.{none_left}
use Rattle.nbd_write_session.proofs.line.Line.run.Goals as goal
use Rattle.nbd_write_session.proofs.line.Line.run.Goals.{then-len-eq0+in_ok-say+in_ok-more+in-Some, else-len-eq0+in_ok-work+else-eq}

pub loop-init : goal.loop-init
loop-init g c = record { moves = still_whole g.A.Array.does _ _ _ _; size = refl; end = search rules }

pub go_on-requires-clause-over : goal.go_on-requires-clause-over
go_on-requires-clause-over g c = rw c.idle.ensures.size (rw c.idle.ensures.input (rw c.say.ensures.size (rw c.say.ensures.input c.in_ok-took.ensures.over)))

pub returns-in-None-clause-moves : goal.returns-in-None-clause-moves
returns-in-None-clause-moves g c =
    turning g.A.Array.does _ _ _ _ _ _ _ _ _ _ _ _ _ _ _ c.loop.invariant.moves c.in_ok-took.ensures.moves c.in_ok-say.ensures.moves c.idle.ensures.moves c.in_ok-more.ensures.moves

pub returns-in-None-clause-none : goal.returns-in-None-clause-none
returns-in-None-clause-none g c =
    let same : c.go_on.new.self ≡ c.idle.new.self = (c.in_ok-more.ensures.over (ap Ok c.in-None.is)).0 in
    let none : c.idle.new.self.jobs.jobs ≡ [] = c.idle.ensures.none (ap (λ (j : Held). j.jobs) c.say.ensures.jobs ∙ none_left _ (sym c.len.ensures.is ∙ c.if-len-eq0.true)) in
    let out : c.idle.new.self.out.items ≡ [] = c.idle.ensures.out ∙ c.in_ok-say.ensures.out in
    (ap (λ (l : Line). l.jobs.jobs) same ∙ none, ap (λ (l : Line). l.out.items) same ∙ out)

pub returns-in-None-clause-over : goal.returns-in-None-clause-over
returns-in-None-clause-over g c = λ _.
    (let P : ℕ → Type 0 = λ n. IfSome (left c.go_on.new.self.input (g.R.Read.remaining c.go_on.new.reader)) (IsOver n) in
    let same : c.idle.new.self.size ≡ c.args.self.now.size = c.idle.ensures.size ∙ c.say.ensures.size ∙ (c.in_ok-took.ensures.moves None None []).size ∙ c.loop.invariant.size in
    subst P same (c.in_ok-more.ensures.over (ap Ok c.in-None.is)).1)

pub returns-then-eq-clause-moves : goal.returns-then-eq-clause-moves
returns-then-eq-clause-moves g c = working g.A.Array.does _ _ _ _ _ _ _ _ _ _ _ _ c.loop.invariant.moves c.in_ok-took.ensures.moves c.in_ok-work.ensures.moves

pub loop-preserved : goal.loop-preserved
loop-preserved g c =
    elim c.if-len-eq0.branch [
      | then-len-eq0+in_ok-say+in_ok-more+in-Some w ↦ record {
        moves = rw w.self-is (rw w.reader-is (rw w.writer-is (rw w.array-is (turning g.A.Array.does _ _ _ _ _ _ _ _ _ _ _ _ _ _ _ c.loop.invariant.moves c.in_ok-took.ensures.moves w.in_ok-say.ensures.moves w.idle.ensures.moves w.in_ok-more.ensures.moves))));
        size = rw w.self-is ((w.in_ok-more.ensures.moves None []).size ∙ w.idle.ensures.size ∙ w.say.ensures.size ∙ (c.in_ok-took.ensures.moves None None []).size ∙ c.loop.invariant.size);
        end = search rules;
      }
      | else-len-eq0+in_ok-work+else-eq w ↦ record {
        moves = rw w.self-is (rw w.reader-is (rw w.writer-is (rw w.array-is (working g.A.Array.does _ _ _ _ _ _ _ _ _ _ _ _ c.loop.invariant.moves c.in_ok-took.ensures.moves w.in_ok-work.ensures.moves))));
        size = rw w.self-is ((w.in_ok-work.ensures.moves.2 [] None).size ∙ (c.in_ok-took.ensures.moves None None []).size ∙ c.loop.invariant.size);
        end = search rules;
      }
    ]

pub returns-in_err-more-clause-called : goal.returns-in_err-more-clause-called
returns-in_err-more-clause-called g c = reaches_at g.A.Array.does _ _ _ (reaches_then g.A.Array.does _ _ _ (reaches_by g.A.Array.does _ _ _ c.loop.invariant.moves) (reaches_by g.A.Array.does _ _ _ c.idle.ensures.moves))

pub returns-in_err-work-clause-called : goal.returns-in_err-work-clause-called
returns-in_err-work-clause-called g c = reaches_at g.A.Array.does _ _ _ (reaches_then g.A.Array.does _ _ _ (reaches_by g.A.Array.does _ _ _ c.loop.invariant.moves) c.in_err-work.ensures.called)
