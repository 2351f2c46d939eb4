use Rattle.table.proofs.Added.{word_failed}
use Rattle.table.proofs.printing.add_words.Goals as goal

pub returns-in_err-add_word : goal.returns-in_err-add_word
returns-in_err-add_word c =
    word_failed c.from_residual.result tt c.in_err-add_word.field-0.0 c.args.out.now c.loop-word.out c.add_word.new.out c.args.words.now c.loop-word.word-index _
    c.loop-word-test.true c.from_residual.ensures.0 c.loop-word.invariant c.in_err-add_word.ensures
