use Rattle.std.proofs.Common.{◌≡◌, ◌+◌, [], refl, rules, true, false}
use Rattle.std.specs.Prelude.{IfErr}
use Rattle.words.specs.Lines.{left, ReadsLine}
use Rattle.script_runner.specs.Exit.{IsWriters}
use Rattle.script_runner.specs.Runs.{begun}
use Rattle.script_runner.proofs.RunLemmas.{starts_ahead, ahead_taken, goes_on, ends, ends_any, ends_exact, ends_counted, Early, Begun, ends_early, ends_begun, never_began, none_begun, at_error, at_writers, nothing_written, line_taken, written_out}
use Rattle.script_runner.proofs.ToldLemmas.{ends_told, goes_on_told, plainly, prints_plainly, starts_told, written_told}
use Rattle.script_runner.proofs.text.run.Goals as goal

pub loop-lines-init : goal.loop-lines-init
loop-lines-init g c =
    let none : c.in_ok-session.session ≡ begun = search rules in
    let empty : c.in_ok-buffer.buffer.ahead ≡ [] = search rules in
    record {
      room = search rules;
      follows = starts_ahead (g.R.Read.remaining c.args.reader.now) (g.W.Write.contents c.args.writer.now) c.in_ok-buffer.buffer.ahead c.in_ok-session.session empty none;
      told = starts_told plainly g.X.Tracer.tells (g.R.Read.remaining c.args.reader.now) (g.W.Write.contents c.args.writer.now) c.in_ok-buffer.buffer.ahead c.in_ok-session.session c.args.tracer.now (nothing_written (g.W.Write.contents c.args.writer.now)) empty none;
      taken = ahead_taken (g.R.Read.remaining c.args.reader.now) c.in_ok-buffer.buffer.ahead 0 empty refl;
    }

pub loop-lines-preserved : goal.loop-lines-preserved
loop-lines-preserved g c =
    let d = c.in_ok-line.ensures.done in
    let over : ReadsLine 65536 (left c.loop-lines.buffer.ahead (g.R.Read.remaining c.loop-lines.reader)) (left c.next_line.new.buffer.ahead (g.R.Read.remaining c.next_line.new.reader)) true c.as_slice-line.result.now = search rules in
    record {
      room = search rules;
      follows = written_out _ _ _ _ (g.W.Write.contents c.behind.new.writer) c.line.new.self
          (goes_on _ _ _ _ _ _ c.as_slice-line.result.now c.loop-lines.session c.line.new.self d.0 (written_out _ _ _ _ (g.W.Write.contents c.next_line.new.writer) c.loop-lines.session c.loop-lines.invariant.follows c.next_line.ensures.kept) over (record { did = d.1; desk = d.2; sound = c.in_ok-line.ensures.sound }) d.3)
          c.behind.ensures.kept;
      told = written_told plainly g.X.Tracer.tells _ _ _ _ (g.W.Write.contents c.behind.new.writer) c.line.new.self (c.loop-lines.lines + 1) c.args.tracer.now c.behind.new.self
          (goes_on_told plainly g.X.Tracer.tells _ _ _ _ _ _ c.as_slice-line.result.now c.loop-lines.session c.line.new.self d.0 c.loop-lines.lines c.args.tracer.now c.loop-lines.tracer c.behind.new.self
          (written_told plainly g.X.Tracer.tells _ _ _ _ (g.W.Write.contents c.next_line.new.writer) c.loop-lines.session c.loop-lines.lines c.args.tracer.now c.loop-lines.tracer c.loop-lines.invariant.told c.next_line.ensures.kept)
          over (record { did = d.1; desk = d.2; sound = c.in_ok-line.ensures.sound }) (prints_plainly _ _ _ d.0.replies c.loop-lines.lines d.3) c.behind.ensures.tells)
          c.behind.ensures.kept;
      taken = line_taken (g.R.Read.remaining c.args.reader.now) (left c.loop-lines.buffer.ahead (g.R.Read.remaining c.loop-lines.reader)) (left c.next_line.new.buffer.ahead (g.R.Read.remaining c.next_line.new.reader)) c.as_slice-line.result.now c.loop-lines.lines c.loop-lines.invariant.taken over;
    }

pub returns-then-not-branch-clause-exact : goal.returns-then-not-branch-clause-exact
returns-then-not-branch-clause-exact g c =
    let over : ReadsLine 65536 (left c.loop-lines.buffer.ahead (g.R.Read.remaining c.loop-lines.reader)) (left c.next_line.new.buffer.ahead (g.R.Read.remaining c.next_line.new.reader)) false c.next_line.new.buffer.line = search rules in
    let d = c.in_ok-end.ensures.done in
    let same : c.summary.result ≡ c.end.new.self.desk.summary = search rules in
    ends_exact _ _ _ c.summary.result (ends _ _ _ _ _ _ c.next_line.new.buffer.line c.loop-lines.session c.end.new.self d.0 c.summary.result (written_out _ _ _ _ (g.W.Write.contents c.next_line.new.writer) c.loop-lines.session c.loop-lines.invariant.follows c.next_line.ensures.kept) over d.1 d.2 d.3 same)

pub returns-then-not-branch-clause-counts : goal.returns-then-not-branch-clause-counts
returns-then-not-branch-clause-counts g c =
    let over : ReadsLine 65536 (left c.loop-lines.buffer.ahead (g.R.Read.remaining c.loop-lines.reader)) (left c.next_line.new.buffer.ahead (g.R.Read.remaining c.next_line.new.reader)) false c.next_line.new.buffer.line = search rules in
    let d = c.in_ok-end.ensures.done in
    let same : c.summary.result ≡ c.end.new.self.desk.summary = search rules in
    ends_counted _ (g.W.Write.contents c.args.writer.now) (g.W.Write.contents c.end.new.writer) c.summary.result (ends _ _ _ _ _ _ c.next_line.new.buffer.line c.loop-lines.session c.end.new.self d.0 c.summary.result (written_out _ _ _ _ (g.W.Write.contents c.next_line.new.writer) c.loop-lines.session c.loop-lines.invariant.follows c.next_line.ensures.kept) over d.1 d.2 d.3 same)

pub returns-then-not-branch-clause-any : goal.returns-then-not-branch-clause-any
returns-then-not-branch-clause-any g c =
    let over : ReadsLine 65536 (left c.loop-lines.buffer.ahead (g.R.Read.remaining c.loop-lines.reader)) (left c.next_line.new.buffer.ahead (g.R.Read.remaining c.next_line.new.reader)) false c.next_line.new.buffer.line = search rules in
    let d = c.in_ok-end.ensures.done in
    let same : c.summary.result ≡ c.end.new.self.desk.summary = search rules in
    ends_any _ (g.W.Write.contents c.args.writer.now) (g.W.Write.contents c.end.new.writer) c.summary.result (ends _ _ _ _ _ _ c.next_line.new.buffer.line c.loop-lines.session c.end.new.self d.0 c.summary.result (written_out _ _ _ _ (g.W.Write.contents c.next_line.new.writer) c.loop-lines.session c.loop-lines.invariant.follows c.next_line.ensures.kept) over d.1 d.2 d.3 same)

pub returns-then-not-branch-clause-lines : goal.returns-then-not-branch-clause-lines
returns-then-not-branch-clause-lines g c =
    let over : ReadsLine 65536 (left c.loop-lines.buffer.ahead (g.R.Read.remaining c.loop-lines.reader)) (left c.next_line.new.buffer.ahead (g.R.Read.remaining c.next_line.new.reader)) false c.next_line.new.buffer.line = search rules in
    let d = c.in_ok-end.ensures.done in
    let same : c.summary.result ≡ c.end.new.self.desk.summary = search rules in
    ends _ _ _ _ _ _ c.next_line.new.buffer.line c.loop-lines.session c.end.new.self d.0 c.summary.result (written_out _ _ _ _ (g.W.Write.contents c.next_line.new.writer) c.loop-lines.session c.loop-lines.invariant.follows c.next_line.ensures.kept) over d.1 d.2 d.3 same

pub returns-then-not-branch-clause-traced : goal.returns-then-not-branch-clause-traced
returns-then-not-branch-clause-traced g c =
    let over : ReadsLine 65536 (left c.loop-lines.buffer.ahead (g.R.Read.remaining c.loop-lines.reader)) (left c.next_line.new.buffer.ahead (g.R.Read.remaining c.next_line.new.reader)) false c.next_line.new.buffer.line = search rules in
    let d = c.in_ok-end.ensures.done in
    ends_told plainly g.X.Tracer.tells _ _ _ _ _ _ c.next_line.new.buffer.line c.loop-lines.session d.0 c.loop-lines.lines c.args.tracer.now c.loop-lines.tracer
    (written_told plainly g.X.Tracer.tells _ _ _ _ (g.W.Write.contents c.next_line.new.writer) c.loop-lines.session c.loop-lines.lines c.args.tracer.now c.loop-lines.tracer c.loop-lines.invariant.told c.next_line.ensures.kept)
    over d.1 (prints_plainly _ _ _ d.0.replies c.loop-lines.lines d.3)

pub returns-in_err-buffer-clause-early : goal.returns-in_err-buffer-clause-early
returns-in_err-buffer-clause-early g c =
    at_error c.from_residual.result (Early (g.R.Read.remaining c.args.reader.now) (g.W.Write.contents c.args.writer.now) (g.W.Write.contents c.args.writer.now))
    (never_began (g.R.Read.remaining c.args.reader.now) (g.W.Write.contents c.args.writer.now))

pub returns-in_err-session-clause-early : goal.returns-in_err-session-clause-early
returns-in_err-session-clause-early g c =
    at_error c.from_residual-in_err-session.result (Early (g.R.Read.remaining c.args.reader.now) (g.W.Write.contents c.args.writer.now) (g.W.Write.contents c.args.writer.now))
    (never_began (g.R.Read.remaining c.args.reader.now) (g.W.Write.contents c.args.writer.now))

pub returns-in_err-next_line-clause-early : goal.returns-in_err-next_line-clause-early
returns-in_err-next_line-clause-early g c =
    at_error c.from_residual-in_err-next_line.result (Early (g.R.Read.remaining c.args.reader.now) (g.W.Write.contents c.args.writer.now) (g.W.Write.contents c.next_line.new.writer))
    (ends_early (g.R.Read.remaining c.args.reader.now) (left c.loop-lines.buffer.ahead (g.R.Read.remaining c.loop-lines.reader)) (g.W.Write.contents c.args.writer.now) (g.W.Write.contents c.next_line.new.writer) c.loop-lines.session (written_out _ _ _ _ (g.W.Write.contents c.next_line.new.writer) c.loop-lines.session c.loop-lines.invariant.follows c.next_line.ensures.kept))

pub returns-in_err-line-clause-early : goal.returns-in_err-line-clause-early
returns-in_err-line-clause-early g c =
    let writers : IfErr c.from_residual-in_err-line.result IsWriters = search rules in
    at_writers c.from_residual-in_err-line.result _ writers

pub returns-clause-early : goal.returns-clause-early
returns-clause-early g c = λ other.
    ends_early (g.R.Read.remaining c.args.reader.now) (left c.loop-lines.buffer.ahead (g.R.Read.remaining c.loop-lines.reader)) (g.W.Write.contents c.args.writer.now) (g.W.Write.contents c.loop-lines.writer) c.loop-lines.session c.loop-lines.invariant.follows

pub returns-in_err-end-clause-early : goal.returns-in_err-end-clause-early
returns-in_err-end-clause-early g c =
    let writers : IfErr c.from_residual-in_err-end.result IsWriters = search rules in
    at_writers c.from_residual-in_err-end.result _ writers

pub returns-in_err-buffer-clause-begun : goal.returns-in_err-buffer-clause-begun
returns-in_err-buffer-clause-begun g c =
    at_error c.from_residual.result (Begun (g.R.Read.remaining c.args.reader.now) (g.W.Write.contents c.args.writer.now) (g.W.Write.contents c.args.writer.now))
    (none_begun (g.R.Read.remaining c.args.reader.now) (g.W.Write.contents c.args.writer.now))

pub returns-in_err-session-clause-begun : goal.returns-in_err-session-clause-begun
returns-in_err-session-clause-begun g c =
    at_error c.from_residual-in_err-session.result (Begun (g.R.Read.remaining c.args.reader.now) (g.W.Write.contents c.args.writer.now) (g.W.Write.contents c.args.writer.now))
    (none_begun (g.R.Read.remaining c.args.reader.now) (g.W.Write.contents c.args.writer.now))

pub returns-in_err-next_line-clause-begun : goal.returns-in_err-next_line-clause-begun
returns-in_err-next_line-clause-begun g c =
    at_error c.from_residual-in_err-next_line.result (Begun (g.R.Read.remaining c.args.reader.now) (g.W.Write.contents c.args.writer.now) (g.W.Write.contents c.next_line.new.writer))
    (ends_begun (g.R.Read.remaining c.args.reader.now) (left c.loop-lines.buffer.ahead (g.R.Read.remaining c.loop-lines.reader)) (g.W.Write.contents c.args.writer.now) (g.W.Write.contents c.next_line.new.writer) c.loop-lines.session (written_out _ _ _ _ (g.W.Write.contents c.next_line.new.writer) c.loop-lines.session c.loop-lines.invariant.follows c.next_line.ensures.kept))

pub returns-in_err-line-clause-begun : goal.returns-in_err-line-clause-begun
returns-in_err-line-clause-begun g c =
    let writers : IfErr c.from_residual-in_err-line.result IsWriters = search rules in
    at_writers c.from_residual-in_err-line.result _ writers

pub returns-clause-begun : goal.returns-clause-begun
returns-clause-begun g c = λ other.
    ends_begun (g.R.Read.remaining c.args.reader.now) (left c.loop-lines.buffer.ahead (g.R.Read.remaining c.loop-lines.reader)) (g.W.Write.contents c.args.writer.now) (g.W.Write.contents c.loop-lines.writer) c.loop-lines.session c.loop-lines.invariant.follows

pub returns-in_err-end-clause-begun : goal.returns-in_err-end-clause-begun
returns-in_err-end-clause-begun g c =
    let writers : IfErr c.from_residual-in_err-end.result IsWriters = search rules in
    at_writers c.from_residual-in_err-end.result _ writers
