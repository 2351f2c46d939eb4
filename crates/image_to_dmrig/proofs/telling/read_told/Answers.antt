use Rattle.std.proofs.Common.{◌≡◌, ◌+◌, ◌<◌, ◌∙◌, length, ap, sym, arith}
use Rattle.std.specs.Prelude.{Err}
use Rattle.std.specs.Io.BufRead.{drop_through}
use Rattle.words.specs.Words.{words_of}
use Rattle.command.specs.DataWords.{data_of}
use Rattle.image_to_dmrig.specs.Told.{answer_of, told_from}
use Rattle.image_to_dmrig.proofs.Ends.{lines, told_after, line_read, told_line, told_more, told_none, told_first, told_last, told_cut, got_line, left_after, at_end}
use Rattle.image_to_dmrig.proofs.telling.read_told.Goals as goal

pub loop-number-init : goal.loop-number-init
loop-number-init g c = λ text is. (text, is, told_first (told_from 1 (lines text)) ∙ ap (λ bs. told_after bs (told_from 1 (lines text))) (sym c.new-bytes.ensures.items))

pub returns-then-read-eq0-clause-told : goal.returns-then-read-eq0-clause-told
returns-then-read-eq0-clause-told g c = λ text is.
    let (rest, left, told) = c.loop-number.invariant text is in
    told ∙ told_last c.loop-number.bytes.items rest c.loop-number.number (at_end (g.R.Read.remaining c.loop-number.reader) rest left (c.in-Ok.ensures.end c.if-read-eq0.true))

pub returns-in_default-clause-untold : goal.returns-in_default-clause-untold
returns-in_default-clause-untold g c = λ n why text is.
    let (rest, left, told) = c.loop-number.invariant text is in
    let same : c.loop-number.number ≡ n = cc in
    let read = c.as_slice.ensures.value ∙ got_line (g.R.Read.remaining c.loop-number.reader) rest c.clear.new.self.items c.read_until.new.buf.items left c.clear.ensures.items c.in-Ok.ensures.bytes in
    let some : 0 < length c.as_slice.result.now = (let a = c.in-Ok.ensures.ok in let b = c.as_slice.ensures.len in let t = c.if-read-eq0.false in omega arith) in
    told ∙ told_cut c.loop-number.bytes.items rest c.as_slice.result.now c.loop-number.number some read c.in_default.ensures ∙ ap Err same

pub returns-in_default-data_in-clause-untold : goal.returns-in_default-data_in-clause-untold
returns-in_default-data_in-clause-untold g c = λ n why text is.
    let (rest, left, told) = c.loop-number.invariant text is in
    let same : c.loop-number.number ≡ n = cc in
    let read = c.as_slice.ensures.value ∙ got_line (g.R.Read.remaining c.loop-number.reader) rest c.clear.new.self.items c.read_until.new.buf.items left c.clear.ensures.items c.in-Ok.ensures.bytes in
    let body = c.in-Some.body.now in
    told
    ∙ ap (told_after c.loop-number.bytes.items) (told_line c.loop-number.number rest body (line_read rest c.as_slice.result.now body read c.in-Some.ensures))
    ∙ told_none c.loop-number.bytes.items c.loop-number.number (answer_of body) (told_from (c.loop-number.number + 1) (lines (drop_through 10 rest))) c.in_default-data_in.ensures
    ∙ ap Err same

pub loop-number-preserved : goal.loop-number-preserved
loop-number-preserved g c = λ text is.
    let (rest, left, told) = c.loop-number.invariant text is in
    let read = c.as_slice.ensures.value ∙ got_line (g.R.Read.remaining c.loop-number.reader) rest c.clear.new.self.items c.read_until.new.buf.items left c.clear.ensures.items c.in-Ok.ensures.bytes in
    let body = c.in-Some.body.now in
    let more = told_from (c.loop-number.number + 1) (lines (drop_through 10 rest)) in (
      drop_through 10 rest,
      left_after (g.R.Read.remaining c.loop-number.reader) (g.R.Read.remaining c.read_until.new.self) rest left c.in-Ok.ensures.rest,
      told
          ∙ ap (told_after c.loop-number.bytes.items) (told_line c.loop-number.number rest body (line_read rest c.as_slice.result.now body read c.in-Some.ensures))
          ∙ told_more c.loop-number.bytes.items (data_of (words_of c.in-Some-data_in.data.now)) c.loop-number.number (answer_of body) more c.in-Some-data_in.ensures
          ∙ ap (λ bs. told_after bs more) (sym c.in_default-push_data.ensures),
    )
