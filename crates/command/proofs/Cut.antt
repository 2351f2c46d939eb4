-- Data words, the first of them cut off.
use Rattle.std.proofs.Common.{◌≡◌, ℕ, ◌+◌, ◌<◌, true, false, List, [], ◌∷◌, ◌++◌, length, refl, sym, ap, ◌∙◌, arith, Some, None}
use Rattle.std.specs.Prelude.{is_some, ◌&&◌}
use Rattle.std.proofs.lemmas.List.Sums.{sum_by-cons}
use borrow.Author.Tests.{tests}
use Rattle.command.specs.DataWords.{run_of, are_runs, total, data_of, count_of, bytes_of}
use Rattle.command.specs.declared.data_words.DataRun.{DataRun}

-- a run in front of other words
pub one_run : (words rest : List (List ℕ)) (word : List ℕ) (run : DataRun) → words ≡ word ∷ rest → run_of word ≡ Some run → are_runs words ≡ are_runs rest
one_run words rest word run cut is = ap are_runs cut ∙ ap (λ o. is_some o && are_runs rest) is

pub one_total : (words rest : List (List ℕ)) (word : List ℕ) (run : DataRun) → words ≡ word ∷ rest → run_of word ≡ Some run → total words ≡ run.count + total rest
one_total words rest word run cut is = ap total cut ∙ sum_by-cons count_of word rest ∙ ap (λ n. n + total rest) (let here : count_of word ≡ run.count = rw is refl in here)

pub one_data : (words rest : List (List ℕ)) (word : List ℕ) → words ≡ word ∷ rest → data_of words ≡ bytes_of word ++ data_of rest
one_data words rest word cut = ap data_of cut

-- another word in front of them
pub no_run : (words rest : List (List ℕ)) (word : List ℕ) → words ≡ word ∷ rest → run_of word ≡ None → are_runs words ≡ false
no_run words rest word cut none = ap are_runs cut ∙ ap (λ o. is_some o && are_runs rest) none

-- no words at all
pub none_are_runs : (words : List (List ℕ)) → words ≡ [] → are_runs words ≡ true
none_are_runs words none = ap are_runs none

pub none_total : (words : List (List ℕ)) → words ≡ [] → total words ≡ 0
none_total words none = ap total none

pub none_data : (words : List (List ℕ)) → words ≡ [] → data_of words ≡ []
none_data words none = ap data_of none

-- a run says a byte at least
counts : (word : List ℕ) (run : DataRun) → run_of word ≡ Some run → 0 < run.count
counts word run is = grind (arith, tests)

-- runs that say a byte are some, and runs that say none are none
pub some_words : (words : List (List ℕ)) → 0 < total words → 0 < length words
some_words [] h = absurd (omega arith)
some_words (word ∷ words) h = omega arith

pub no_words : (words : List (List ℕ)) → are_runs words ≡ true → total words ≡ 0 → length words ≡ 0
no_words [] runs none = refl
no_words (word ∷ words) runs none = elim (run_of word) as (λ o. run_of word ≡ o → length (word ∷ words) ≡ 0) [
  | None ↦ λ is. absurd (let bad : false ≡ true = sym (no_run (word ∷ words) words word refl is) ∙ runs in cc)
  | (Some run) ↦ λ is. absurd (let some = counts word run is in let sum = one_total (word ∷ words) words word run refl is in omega (arith, some, sum, none))
] refl
