use Rattle.table.proofs.Counted.{features_added}
use Rattle.table.proofs.printing.add_features.Goals as goal

pub returns : goal.returns
returns c =
    features_added c.add_word_if-3.result tt tt tt c.args.out.now c.add_number.new.out c.add_word_if.new.out c.add_word_if-2.new.out c.add_word_if-3.new.out c.args.features
    c.feature_count-count.result c.feature_count-count.ensures c.if-count-eq0.false c.in_ok-add_number.ensures c.in_ok-add_word_if.ensures c.in_ok-add_word_if-2.ensures c.add_word_if-3.ensures
