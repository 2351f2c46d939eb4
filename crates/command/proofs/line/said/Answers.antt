use Rattle.std.proofs.Common.{◌≡◌, ◌∙◌, Ok, Err, rules, subst, sym}
use Rattle.words.specs.Given.{Gives}
use Rattle.command.specs.Line.{said_of}
use Rattle.words.specs.Words.{words_of}
use Rattle.command.specs.Grammar.{read_of, status_of, write_of}
use Rattle.command.proofs.LineSaid.{gives_any, gives_words, same_words}
use Rattle.command.proofs.Printed.{line_reads, line_tells, line_writes}
use Rattle.command.proofs.line.said.Goals as goal

pub returns-in-Some : goal.returns-in-Some
returns-in-Some c =
    gives_words c.write_said.result c.args.max c.args.line.now (write_of (words_of c.in-Some.rest.now)) c.if-line-max.false (sym c.says_nothing.ensures ∙ c.if-says_nothing.false)
    (line_writes c.args.line.now c.in-Some.rest.now c.in-Some.ensures) c.write_said.ensures

pub returns-in-Some-after_read : goal.returns-in-Some-after_read
returns-in-Some-after_read c =
    same_words c.read_said.result c.args.max c.args.line.now (read_of (words_of c.in-Some-after_read.rest.now)) c.if-line-max.false (sym c.says_nothing.ensures ∙ c.if-says_nothing.false)
    (line_reads c.args.line.now c.in-Some-after_read.rest.now c.in-Some-after_read.ensures) c.read_said.ensures

pub returns-in-Some-after_status : goal.returns-in-Some-after_status
returns-in-Some-after_status c =
    same_words c.status_said.result c.args.max c.args.line.now (status_of (words_of c.in-Some-after_status.rest.now)) c.if-line-max.false (sym c.says_nothing.ensures ∙ c.if-says_nothing.false)
    (line_tells c.args.line.now c.in-Some-after_status.rest.now c.in-Some-after_status.ensures) c.status_said.ensures

pub returns : goal.returns
returns c = gives_any (Ok c.in_ok-said.said) c.args.max c.args.line.now c.if-line-max.false (sym c.says_nothing.ensures ∙ c.if-says_nothing.false) c.in_ok-said.ensures

pub returns-in_err-said : goal.returns-in_err-said
returns-in_err-said c =
    let refusal = c.in_err-said.field-0.0 in
    let is : c.from_residual.result ≡ Err refusal = search rules in
    let rule = said_of c.args.max c.args.line.now in
    subst (λ answer. Gives answer rule) (sym is) (gives_any (Err refusal) c.args.max c.args.line.now c.if-line-max.false (sym c.says_nothing.ensures ∙ c.if-says_nothing.false) c.in_err-said.ensures)
