use Rattle.std.proofs.Common.{rules, ◌≡◌, ◌+◌, ◌++◌, ◌∙◌, ap, [], refl, true, false}
use Rattle.std.specs.Prelude.{IfErr}
use Rattle.std.specs.Io.KnownBytes.{Appends}
use Rattle.words.specs.Lines.{left, ReadsLine}
use Rattle.script_runner.specs.Exit.{IsWriters}
use Rattle.script_runner.specs.Numbered.{numbered, numbered_from}
use Rattle.script_runner.specs.Output.{printed}
use Rattle.script_runner.specs.Runs.{begun}
use Rattle.script_runner.proofs.NumberedLemmas.{BegunEach, ends_begun_each, ends_each, ends_exactly, ends_lines, goes_on_each, starts_each, written_each}
use Rattle.script_runner.proofs.RunLemmas.{ahead_taken, at_error, at_writers, line_taken, nothing_written}
use Rattle.script_runner.proofs.ToldLemmas.{ends_told, goes_on_told, prints_numbered, starts_told, written_told}
use Rattle.script_runner.proofs.numbered.run_numbered.Goals as goal

pub loop-lines-init : goal.loop-lines-init
loop-lines-init g c =
    let none : c.in_ok-session.session ≡ begun = search rules in
    let empty : c.in_ok-buffer.buffer.ahead ≡ [] = search rules in
    record {
      room = search rules;
      follows = starts_each (g.R.Read.remaining c.args.reader.now) (g.W.Write.contents c.args.writer.now) c.in_ok-buffer.buffer.ahead c.in_ok-session.session 0 empty none refl;
      told = starts_told (numbered_from 1) g.X.Tracer.tells (g.R.Read.remaining c.args.reader.now) (g.W.Write.contents c.args.writer.now) c.in_ok-buffer.buffer.ahead c.in_ok-session.session c.args.tracer.now (nothing_written (g.W.Write.contents c.args.writer.now)) empty none;
      taken = ahead_taken (g.R.Read.remaining c.args.reader.now) c.in_ok-buffer.buffer.ahead 0 empty refl;
    }

pub loop-lines-preserved : goal.loop-lines-preserved
loop-lines-preserved g c =
    let d = c.in_ok-line.ensures.done in
    let over : ReadsLine 65536 (left c.loop-lines.buffer.ahead (g.R.Read.remaining c.loop-lines.reader)) (left c.next_line.new.buffer.ahead (g.R.Read.remaining c.next_line.new.reader)) true c.as_slice-line.result.now = search rules in
    let more : Appends (g.W.Write.contents c.next_line.new.writer) (g.W.Write.contents c.print_numbered-in-loop-lines.new.writer) (numbered (c.loop-lines.lines + 1) c.deref-in-loop-lines.result.now) = search rules in
    record {
      room = search rules;
      follows = written_each _ _ _ _ (g.W.Write.contents c.behind.new.writer) c.line.new.self (c.loop-lines.lines + 1)
          (goes_on_each _ _ _ _ _ _ c.as_slice-line.result.now c.deref-in-loop-lines.result.now c.loop-lines.session c.line.new.self d.0 c.loop-lines.lines (c.loop-lines.lines + 1)
          (written_each _ _ _ _ (g.W.Write.contents c.next_line.new.writer) c.loop-lines.session c.loop-lines.lines c.loop-lines.invariant.follows c.next_line.ensures.kept)
          over (record { did = d.1; desk = d.2; sound = c.in_ok-line.ensures.sound }) refl
          (c.deref-in-loop-lines.ensures.value ∙ d.3 ∙ ap (λ xs. xs ++ printed d.0.replies) c.clear.ensures.items) more)
          c.behind.ensures.kept;
      told = written_told (numbered_from 1) g.X.Tracer.tells _ _ _ _ (g.W.Write.contents c.behind.new.writer) c.line.new.self (c.loop-lines.lines + 1) c.args.tracer.now c.behind.new.self
          (goes_on_told (numbered_from 1) g.X.Tracer.tells _ _ _ _ _ _ c.as_slice-line.result.now c.loop-lines.session c.line.new.self d.0 c.loop-lines.lines c.args.tracer.now c.loop-lines.tracer c.behind.new.self
          (written_told (numbered_from 1) g.X.Tracer.tells _ _ _ _ (g.W.Write.contents c.next_line.new.writer) c.loop-lines.session c.loop-lines.lines c.args.tracer.now c.loop-lines.tracer c.loop-lines.invariant.told c.next_line.ensures.kept)
          over (record { did = d.1; desk = d.2; sound = c.in_ok-line.ensures.sound })
          (prints_numbered _ _ _ d.0.replies c.loop-lines.lines c.deref-in-loop-lines.result.now (c.deref-in-loop-lines.ensures.value ∙ d.3 ∙ ap (λ xs. xs ++ printed d.0.replies) c.clear.ensures.items) more) c.behind.ensures.tells)
          c.behind.ensures.kept;
      taken = line_taken (g.R.Read.remaining c.args.reader.now) (left c.loop-lines.buffer.ahead (g.R.Read.remaining c.loop-lines.reader)) (left c.next_line.new.buffer.ahead (g.R.Read.remaining c.next_line.new.reader)) c.as_slice-line.result.now c.loop-lines.lines c.loop-lines.invariant.taken over;
    }

pub returns-then-not-branch-clause-exact : goal.returns-then-not-branch-clause-exact
returns-then-not-branch-clause-exact g c =
    let over : ReadsLine 65536 (left c.loop-lines.buffer.ahead (g.R.Read.remaining c.loop-lines.reader)) (left c.next_line.new.buffer.ahead (g.R.Read.remaining c.next_line.new.reader)) false c.next_line.new.buffer.line = search rules in
    let d = c.in_ok-end.ensures.done in
    let same : c.summary.result ≡ c.end.new.self.desk.summary = search rules in
    let more : Appends (g.W.Write.contents c.next_line.new.writer) (g.W.Write.contents c.print_numbered.new.writer) (numbered (c.loop-lines.lines + 1) c.deref.result.now) = search rules in
    ends_exactly _ (g.W.Write.contents c.args.writer.now) (g.W.Write.contents c.print_numbered.new.writer) c.summary.result
    (ends_each _ _ _ _ _ _ c.next_line.new.buffer.line c.deref.result.now c.loop-lines.session c.end.new.self d.0 c.summary.result c.loop-lines.lines (c.loop-lines.lines + 1)
    (written_each _ _ _ _ (g.W.Write.contents c.next_line.new.writer) c.loop-lines.session c.loop-lines.lines c.loop-lines.invariant.follows c.next_line.ensures.kept)
    over d.1 d.2 refl (c.deref.ensures.value ∙ d.3 ∙ ap (λ xs. xs ++ printed d.0.replies) c.clear.ensures.items) more same)

pub returns-then-not-branch-clause-lines : goal.returns-then-not-branch-clause-lines
returns-then-not-branch-clause-lines g c =
    let over : ReadsLine 65536 (left c.loop-lines.buffer.ahead (g.R.Read.remaining c.loop-lines.reader)) (left c.next_line.new.buffer.ahead (g.R.Read.remaining c.next_line.new.reader)) false c.next_line.new.buffer.line = search rules in
    let d = c.in_ok-end.ensures.done in
    let same : c.summary.result ≡ c.end.new.self.desk.summary = search rules in
    let more : Appends (g.W.Write.contents c.next_line.new.writer) (g.W.Write.contents c.print_numbered.new.writer) (numbered (c.loop-lines.lines + 1) c.deref.result.now) = search rules in
    ends_lines _ (g.W.Write.contents c.args.writer.now) (g.W.Write.contents c.print_numbered.new.writer) c.summary.result
    (ends_each _ _ _ _ _ _ c.next_line.new.buffer.line c.deref.result.now c.loop-lines.session c.end.new.self d.0 c.summary.result c.loop-lines.lines (c.loop-lines.lines + 1)
    (written_each _ _ _ _ (g.W.Write.contents c.next_line.new.writer) c.loop-lines.session c.loop-lines.lines c.loop-lines.invariant.follows c.next_line.ensures.kept)
    over d.1 d.2 refl (c.deref.ensures.value ∙ d.3 ∙ ap (λ xs. xs ++ printed d.0.replies) c.clear.ensures.items) more same)

pub returns-then-not-branch-clause-traced : goal.returns-then-not-branch-clause-traced
returns-then-not-branch-clause-traced g c =
    let over : ReadsLine 65536 (left c.loop-lines.buffer.ahead (g.R.Read.remaining c.loop-lines.reader)) (left c.next_line.new.buffer.ahead (g.R.Read.remaining c.next_line.new.reader)) false c.next_line.new.buffer.line = search rules in
    let d = c.in_ok-end.ensures.done in
    let more : Appends (g.W.Write.contents c.next_line.new.writer) (g.W.Write.contents c.print_numbered.new.writer) (numbered (c.loop-lines.lines + 1) c.deref.result.now) = search rules in
    ends_told (numbered_from 1) g.X.Tracer.tells _ _ _ _ _ _ c.next_line.new.buffer.line c.loop-lines.session d.0 c.loop-lines.lines c.args.tracer.now c.loop-lines.tracer
    (written_told (numbered_from 1) g.X.Tracer.tells _ _ _ _ (g.W.Write.contents c.next_line.new.writer) c.loop-lines.session c.loop-lines.lines c.args.tracer.now c.loop-lines.tracer c.loop-lines.invariant.told c.next_line.ensures.kept)
    over d.1 (prints_numbered _ _ _ d.0.replies c.loop-lines.lines c.deref.result.now (c.deref.ensures.value ∙ d.3 ∙ ap (λ xs. xs ++ printed d.0.replies) c.clear.ensures.items) more)

pub returns-in_err-next_line-clause-begun : goal.returns-in_err-next_line-clause-begun
returns-in_err-next_line-clause-begun g c =
    at_error c.from_residual-in_err-next_line.result (BegunEach (g.R.Read.remaining c.args.reader.now) (g.W.Write.contents c.args.writer.now) (g.W.Write.contents c.next_line.new.writer))
    (ends_begun_each (g.R.Read.remaining c.args.reader.now) (left c.loop-lines.buffer.ahead (g.R.Read.remaining c.loop-lines.reader)) (g.W.Write.contents c.args.writer.now) (g.W.Write.contents c.next_line.new.writer) c.loop-lines.session c.loop-lines.lines
    (written_each _ _ _ _ (g.W.Write.contents c.next_line.new.writer) c.loop-lines.session c.loop-lines.lines c.loop-lines.invariant.follows c.next_line.ensures.kept))

pub returns-clause-begun : goal.returns-clause-begun
returns-clause-begun g c = λ other.
    ends_begun_each (g.R.Read.remaining c.args.reader.now) (left c.loop-lines.buffer.ahead (g.R.Read.remaining c.loop-lines.reader)) (g.W.Write.contents c.args.writer.now) (g.W.Write.contents c.loop-lines.writer) c.loop-lines.session c.loop-lines.lines c.loop-lines.invariant.follows

pub returns-in_err-line-clause-begun : goal.returns-in_err-line-clause-begun
returns-in_err-line-clause-begun g c =
    let writers : IfErr c.from_residual-in_err-line.result IsWriters = search rules in
    at_writers c.from_residual-in_err-line.result _ writers

pub returns-in_err-print_numbered-2-clause-begun : goal.returns-in_err-print_numbered-2-clause-begun
returns-in_err-print_numbered-2-clause-begun g c =
    let writers : IfErr c.from_residual-in_err-print_numbered-2.result IsWriters = search rules in
    at_writers c.from_residual-in_err-print_numbered-2.result _ writers

pub returns-in_err-end-clause-begun : goal.returns-in_err-end-clause-begun
returns-in_err-end-clause-begun g c =
    let writers : IfErr c.from_residual-in_err-end.result IsWriters = search rules in
    at_writers c.from_residual-in_err-end.result _ writers

pub returns-in_err-print_numbered-clause-begun : goal.returns-in_err-print_numbered-clause-begun
returns-in_err-print_numbered-clause-begun g c =
    let writers : IfErr c.from_residual-in_err-print_numbered.result IsWriters = search rules in
    at_writers c.from_residual-in_err-print_numbered.result _ writers
