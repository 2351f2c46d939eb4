use Rattle.std.proofs.Common.{refl, sym, arith}
use Rattle.store.specs.Stored.{old_of, new_of}
use Rattle.store.proofs.Areas.{no_chunks}
use Rattle.store.proofs.Judged.{greatest_all, greatest_fits}
use Rattle.store.proofs.Marks.{marked_none, marked_more, old_twice, new_twice, apart_more}
use Rattle.store.proofs.judging.are_apart.Goals as goal

pub no_marks-requires : goal.no_marks-requires
no_marks-requires c = greatest_fits old_of c.args.pairs.now _ c.greatest_old.ensures c.requires.old

pub no_marks-requires-2 : goal.no_marks-requires-2
no_marks-requires-2 c = greatest_fits new_of c.args.pairs.now _ c.greatest_new.ensures c.requires.new

pub loop-pair-init : goal.loop-pair-init
loop-pair-init c = record {
  olds = marked_none old_of c.args.pairs.now _ _ c.in_ok-olds.ensures.marks (greatest_all old_of c.args.pairs.now _ c.greatest_old.ensures);
  news = marked_none new_of c.args.pairs.now _ _ c.in_ok-news.ensures.marks (greatest_all new_of c.args.pairs.now _ c.greatest_new.ensures);
  apart = λ j k d lt none. absurd (omega arith);
}

pub mark-requires : goal.mark-requires
unfolding no_chunks
mark-requires c = c.loop-pair.invariant.olds.inside c.loop-pair.pair-index c.loop-pair-test.true

pub returns-then-mark-clause-apart : goal.returns-then-mark-clause-apart
unfolding no_chunks
returns-then-mark-clause-apart c = old_twice c.args.pairs.now c.loop-pair.pair-index _ c.loop-pair.olds.items c.loop-pair-test.true refl c.loop-pair.invariant.olds (sym c.if-mark.ensures.was)

pub mark-requires-in-loop-pair : goal.mark-requires-in-loop-pair
unfolding no_chunks
mark-requires-in-loop-pair c = c.loop-pair.invariant.news.inside c.loop-pair.pair-index c.loop-pair-test.true

pub returns-then-mark-2-clause-apart : goal.returns-then-mark-2-clause-apart
unfolding no_chunks
returns-then-mark-2-clause-apart c = new_twice c.args.pairs.now c.loop-pair.pair-index _ c.loop-pair.news.items c.loop-pair-test.true refl c.loop-pair.invariant.news (sym c.if-mark-2.ensures.was)

pub loop-pair-preserved : goal.loop-pair-preserved
unfolding no_chunks
loop-pair-preserved c = record {
  olds = marked_more old_of c.args.pairs.now c.loop-pair.pair-index _ c.loop-pair.olds.items _ c.loop-pair-test.true refl c.mark.ensures.marks c.loop-pair.invariant.olds;
  news = marked_more new_of c.args.pairs.now c.loop-pair.pair-index _ c.loop-pair.news.items _ c.loop-pair-test.true refl c.mark-in-loop-pair.ensures.marks c.loop-pair.invariant.news;
  apart = apart_more c.args.pairs.now c.loop-pair.pair-index _ _ c.loop-pair.olds.items c.loop-pair.news.items c.loop-pair-test.true refl refl c.loop-pair.invariant.olds c.loop-pair.invariant.news (sym c.if-mark.ensures.was) (sym c.if-mark-2.ensures.was) c.loop-pair.invariant.apart;
}
