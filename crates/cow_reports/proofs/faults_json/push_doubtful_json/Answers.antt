use Rattle.cow_reports.proofs.Items.{doubtful_on}
use Rattle.cow_reports.proofs.faults_json.push_doubtful_json.Goals as goal

pub loop-pair-preserved : goal.loop-pair-preserved
loop-pair-preserved c =
    doubtful_on c.args.text.now.items c.loop-pair.text.items c.push_doubtful_pair.new.text.items c.args.pairs.now c.loop-pair.pair-index _
    c.loop-pair-test.true c.loop-pair.invariant c.in_ok-push_doubtful_pair.ensures
