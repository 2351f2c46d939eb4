use Rattle.std.proofs.Common.{rules, ◌≡◌, ◌+◌, false}
use Rattle.std.specs.List.{list_any}
use Rattle.std.specs.Io.KnownBytes.{IsAtEnd, Keeps}
use Rattle.words.specs.Lines.{is_end, left}
use Rattle.words.proofs.LineLemmas.{end_of_text, short_part, within_kept}
use Rattle.script_runner.proofs.PartLemmas.{has_bytes, part_taken}
use Rattle.script_runner.proofs.reading.next_line.Goals as goal

pub returns-then-not-branch-clause-line : goal.returns-then-not-branch-clause-line
returns-then-not-branch-clause-line g c =
    let none : list_any is_end c.loop.buffer.ahead ≡ false = search rules in
    let end : IsAtEnd (left c.take.new.self.ahead (g.R.Read.remaining c.loop.reader)) = search rules in
    let kept : Keeps (left c.take.new.self.ahead (g.R.Read.remaining c.loop.reader)) (left c.fill.new.self.ahead (g.R.Read.remaining c.fill.new.reader)) = search rules in
    let same : c.fill.new.self.line ≡ c.take.new.self.line = search rules in
    let told : c.as_slice.result.now ≡ c.take.new.self.line = search rules in
    rw told (rw same (end_of_text 65536 _ (left c.take.new.self.ahead (g.R.Read.remaining c.loop.reader)) _ (has_bytes c.take.new.self.line) c.take.new.self.line
    (short_part 65536 _ c.take.new.self.line c.take.ensures.line)
    (part_taken 65536 _ c.loop.buffer.ahead c.take.new.self.ahead (g.R.Read.remaining c.loop.reader) c.loop.buffer.line c.take.new.self.line c.loop.invariant.short c.loop.invariant.within none c.take.ensures.line c.take.ensures.rest)
    end kept))

pub loop-preserved : goal.loop-preserved
loop-preserved g c =
    let none : list_any is_end c.loop.buffer.ahead ≡ false = search rules in
    let kept : Keeps (left c.take.new.self.ahead (g.R.Read.remaining c.loop.reader)) (left c.fill.new.self.ahead (g.R.Read.remaining c.fill.new.reader)) = search rules in
    let same : c.fill.new.self.line ≡ c.take.new.self.line = search rules in
    record {
      within = rw same (within_kept (65536 + 1) _ _ _ (has_bytes c.take.new.self.line) c.take.new.self.line
          (part_taken 65536 _ c.loop.buffer.ahead c.take.new.self.ahead (g.R.Read.remaining c.loop.reader) c.loop.buffer.line c.take.new.self.line c.loop.invariant.short c.loop.invariant.within none c.take.ensures.line c.take.ensures.rest)
          kept);
      own = search rules;
      short = rw same (short_part 65536 _ c.take.new.self.line c.take.ensures.line);
      room = search rules;
      kept = search rules;
    }
