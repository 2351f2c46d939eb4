-- The line of data that is one run.
use Rattle.std.proofs.Common.{◌≡◌, ℕ, List, ◌∷◌, length, drop, ap, ◌∙◌}
use Rattle.std.specs.List.{flat_map}
use Rattle.std.proofs.Math.Seq.{drop-length}
use Rattle.std.proofs.lemmas.List.{append-nil}
use Rattle.command_replies.specs.Runs.{data_words, run_word, runs_of}

-- the words of data that is one run are that run
pub one_run : (bytes : List ℕ) (n b : ℕ) → runs_of bytes ≡ (n, b) ∷ runs_of (drop n bytes) → n ≡ length bytes → data_words bytes ≡ run_word (length bytes, b)
one_run bytes n b cut all =
    ap (λ runs. flat_map run_word runs) (cut ∙ ap (λ rest. (n, b) ∷ runs_of rest) (ap (λ k. drop k bytes) all ∙ drop-length bytes))
    ∙ append-nil (run_word (n, b)) ∙ ap (λ k. run_word (k, b)) all
