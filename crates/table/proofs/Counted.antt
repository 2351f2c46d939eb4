-- FlakeyFeatures after their count.
use Rattle.std.proofs.Common.{◌≡◌, ◌≢◌, ℕ, List, [], ◌∷◌, ◌++◌, length, refl, subst, sym, Result, Ok}
use Rattle.std.specs.Prelude.{codes, decimal}
use Rattle.std.specs.Global.{Vec}
use Rattle.std.specs.declared.alloc.AllocError.{AllocError}
use Rattle.table.specs.declared.lines.FlakeyFeatures.{FlakeyFeatures}
use Rattle.words.specs.Words.{spaced}
use Rattle.table.specs.Printed.{word_if, feature_words, counted, Adds}
use Rattle.table.proofs.Added.{words_more}

-- words with their count before them
pub counted_some : (words : List (List ℕ)) (n : ℕ) → n ≡ length words → n ≢ 0 → counted words ≡ decimal n ∷ words
counted_some [] n is some = absurd (some is)
counted_some (w ∷ ws) n is some = subst (λ k. counted (w ∷ ws) ≡ decimal k ∷ w ∷ ws) (sym is) refl

-- the count and the three features, one after the other
pub features_added : (r : Result (Unit {0}) AllocError) (u v w : Unit {0}) (old first second third new : Vec ℕ) (f : FlakeyFeatures) (n : ℕ) → n ≡ length (feature_words f) → n ≢ 0 → Adds (Ok u) old first (spaced (decimal n ∷ [])) → Adds (Ok v) first second (spaced (word_if f.error_reads (codes "error_reads"))) → Adds (Ok w) second third (spaced (word_if f.error_writes (codes "error_writes"))) → Adds r third new (spaced (word_if f.drop_writes (codes "drop_writes"))) → Adds r old new (spaced (counted (feature_words f)))
features_added r u v w old first second third new f n is some count reads writes drops =
    let a = words_more (Ok v) u old first second (decimal n ∷ []) (word_if f.error_reads (codes "error_reads")) count reads in
    let b = words_more (Ok w) v old second third (decimal n ∷ word_if f.error_reads (codes "error_reads")) (word_if f.error_writes (codes "error_writes")) a writes in
    let c = words_more r w old third new (decimal n ∷ (word_if f.error_reads (codes "error_reads") ++ word_if f.error_writes (codes "error_writes"))) (word_if f.drop_writes (codes "drop_writes")) b drops in
    subst (λ ws. Adds r old new (spaced ws)) (sym (counted_some (feature_words f) n is some)) c
