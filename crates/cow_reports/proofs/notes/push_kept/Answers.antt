use Rattle.cow_reports.specs.Lines.{runs_text}
use Rattle.cow_reports.proofs.Lines.{three_more}
use Rattle.cow_reports.specs.Notes.{salvaged_words, others_text}
use Rattle.cow_reports.proofs.notes.push_kept.Goals as goal

pub returns : goal.returns
returns c =
    three_more c.args.text.now.items c.push_words.new.text.items c.push_runs_lines.new.text.items c.push_others.new.text.items salvaged_words (runs_text c.args.saved.now.certain.items) (others_text c.args.slots c.args.saved.now.doubtful.items c.args.saved.now.skipped.items)
    c.in_ok-push_words.ensures (rw c.as_slice.ensures.value at c.in_ok-push_runs_lines.ensures) c.in_ok-push_others.ensures
