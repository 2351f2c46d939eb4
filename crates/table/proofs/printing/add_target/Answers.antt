use Rattle.std.proofs.Common.{subst, sym, []}
use Rattle.std.specs.Prelude.{codes, decimal, ◌∷◌}
use Rattle.words.specs.Words.{spaced}
use Rattle.table.specs.Printed.{feature_words, counted, target_words, Adds}
use Rattle.table.proofs.Added.{words_more}
use Rattle.table.proofs.printing.add_target.Goals as goal

pub returns-in_ok-add_flakey-in-Flakey : goal.returns-in_ok-add_flakey-in-Flakey
returns-in_ok-add_flakey-in-Flakey c =
    let f = c.in-Flakey in
    subst (λ t. Adds c.add_features.result c.args.out.now c.add_features.new.out (spaced (target_words t))) (sym f.is)
    (words_more c.add_features.result tt c.args.out.now c.add_flakey.new.out c.add_features.new.out
    (codes "flakey" ∷ f.device ∷ decimal f.offset ∷ decimal f.up ∷ decimal f.down ∷ []) (counted (feature_words f.features))
    c.in_ok-add_flakey-in-Flakey.ensures c.add_features.ensures)
