use Rattle.std.proofs.lemmas.List.Sorted.{IsPermutation-trans}
use Rattle.cow_image.specs.Sorted.{old_of, new_of}
use Rattle.cow_image.proofs.Sorts.{twice_not_apart, apart_if, old_differ, new_differ}
use Rattle.cow_image.proofs.judging.judge.Goals as goal

pub returns-in-Some-clause-formed : goal.returns-in-Some-clause-formed
returns-in-Some-clause-formed c = λ inside apart.
    twice_not_apart new_of c.args.pairs.now.items c.sort_by_new.new.pairs.items _ c.sort_by_new.ensures.moved c.in-Some.ensures.rising (new_differ c.args.pairs.now.items apart)

pub returns-in-Some-sort_by_old-clause-moved : goal.returns-in-Some-sort_by_old-clause-moved
returns-in-Some-sort_by_old-clause-moved c = IsPermutation-trans _ _ _ c.sort_by_new.ensures.moved c.sort_by_old.ensures.moved

pub returns-in-Some-sort_by_old-clause-formed : goal.returns-in-Some-sort_by_old-clause-formed
returns-in-Some-sort_by_old-clause-formed c = λ inside apart.
    twice_not_apart old_of c.args.pairs.now.items c.sort_by_old.new.pairs.items _ (IsPermutation-trans _ _ _ c.sort_by_new.ensures.moved c.sort_by_old.ensures.moved) c.in-Some-sort_by_old.ensures.rising (old_differ c.args.pairs.now.items apart)

pub returns-clause-moved : goal.returns-clause-moved
returns-clause-moved c = IsPermutation-trans _ _ _ c.sort_by_new.ensures.moved c.sort_by_old.ensures.moved

pub returns-clause-formed : goal.returns-clause-formed
returns-clause-formed c = (
  rw c.as_slice.ensures.value at c.if-not-are_inside.ensures,
  apart_if c.args.pairs.now.items c.sort_by_new.new.pairs.items c.sort_by_old.new.pairs.items c.sort_by_new.ensures.moved (IsPermutation-trans _ _ _ c.sort_by_new.ensures.moved c.sort_by_old.ensures.moved) c.in_default.ensures.rising c.in_default-sort_by_old.ensures.rising,
)
