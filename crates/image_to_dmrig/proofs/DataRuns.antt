-- Data words, the first of them cut off.
use Rattle.std.proofs.Common.{◌≡◌, ℕ, true, false, List, [], ◌∷◌, ◌++◌, refl, sym, ap, ◌∙◌, Some, None}
use Rattle.std.specs.Prelude.{is_some, replicate, ◌&&◌}
use Rattle.command.specs.DataWords.{run_of, are_runs, data_of, bytes_of}
use Rattle.command.specs.declared.data_words.DataRun.{DataRun}

-- a run in front of other words
pub one_run : (words rest : List (List ℕ)) (word : List ℕ) → words ≡ word ∷ rest → is_some (run_of word) ≡ true → are_runs words ≡ are_runs rest
one_run words rest word cut is = ap are_runs cut ∙ ap (λ b. b && are_runs rest) is

-- another word in front of them
pub no_run : (words rest : List (List ℕ)) (word : List ℕ) → words ≡ word ∷ rest → is_some (run_of word) ≡ false → are_runs words ≡ false
no_run words rest word cut not = ap are_runs cut ∙ ap (λ b. b && are_runs rest) not

pub one_data : (words rest : List (List ℕ)) (word : List ℕ) → words ≡ word ∷ rest → data_of words ≡ bytes_of word ++ data_of rest
one_data words rest word cut = ap data_of cut

-- a run says its byte, so often as it counts
pub run_bytes : (word : List ℕ) (run : DataRun) → run_of word ≡ Some run → bytes_of word ≡ replicate run.count run.byte
run_bytes word run is = rw is refl

-- a word that is no run says no bytes
pub no_bytes : (word : List ℕ) → run_of word ≡ None → bytes_of word ≡ []
no_bytes word none = rw none refl

-- no words at all
pub none_are_runs : (words : List (List ℕ)) → words ≡ [] → are_runs words ≡ true
none_are_runs words none = ap are_runs none

pub none_data : (words : List (List ℕ)) → words ≡ [] → data_of words ≡ []
none_data words none = ap data_of none
