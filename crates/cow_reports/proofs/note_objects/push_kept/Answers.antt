use Rattle.cow_reports.specs.Items.{run_objects}
use Rattle.cow_reports.proofs.Lines.{three_more}
use Rattle.cow_reports.specs.Objects.{count_object, others_objects}
use Rattle.cow_reports.proofs.note_objects.push_kept.Goals as goal

pub returns : goal.returns
returns c =
    three_more c.args.text.now.items c.push_count.new.text.items c.push_runs_json.new.text.items c.push_others.new.text.items (count_object c.args.saved.now.certain.items) (run_objects c.args.saved.now.certain.items) (others_objects c.args.slots c.args.saved.now.doubtful.items c.args.saved.now.skipped.items)
    c.in_ok-push_count.ensures (rw c.as_slice.ensures.value at c.in_ok-push_runs_json.ensures) c.in_ok-push_others.ensures
