use Rattle.std.proofs.Common.{rules, ℕ, List, length, nat_lt, eqb, refl}
use Rattle.std.proofs.lemmas.Iterator.Consumers.{map_from_collect, YieldsList-from_filter}
use Rattle.std.proofs.lemmas.Iterator.Splits.{YieldsList-from_slice_split}
use Rattle.words.proofs.line.words_in.Goals as goal

pub returns : goal.returns
returns c = map_from_collect _ c.collect.ensures.ran
    (YieldsList-from_filter _ (λ (word : List ℕ). nat_lt 0 (length word))
    (YieldsList-from_slice_split _ (λ (b : ℕ). eqb b 32) c.args.line.now (cc) (cc) refl (λ x b q k. search rules))
    c.filter.ensures.closure (λ x b q k. search rules))
