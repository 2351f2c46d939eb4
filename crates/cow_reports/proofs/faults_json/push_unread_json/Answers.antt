use Rattle.cow_reports.proofs.Items.{unread_on}
use Rattle.cow_reports.proofs.faults_json.push_unread_json.Goals as goal

pub loop-span-preserved : goal.loop-span-preserved
loop-span-preserved c =
    unread_on c.args.text.now.items c.loop-span.text.items c.push_unread_span.new.text.items c.args.file.now c.args.spans.now c.loop-span.span-index c.span-item.result
    c.loop-span-test.true c.span-item.is c.loop-span.invariant c.in_ok-push_unread_span.ensures
