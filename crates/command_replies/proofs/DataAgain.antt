-- Data that is printed is read as the same data.
use Rattle.std.proofs.Common.{◌≡◌, ℕ, ◌+◌, ◌*◌, ◌/◌, ◌%◌, ◌<◌, ◌≤◌, List, [], ◌∷◌, ◌++◌, length, ltb, leb, eqb, true, refl, ap, ◌∙◌, arith, Some, suc, map, replicate, length-append, eq-eqb, inl, inr}
use Rattle.std.specs.Prelude.{Ok}
use Rattle.std.specs.List.{flat_map, All}
use Rattle.std.proofs.lemmas.Bool.{cases_eq, lt-ltb, le-leb}
use Rattle.std.proofs.lemmas.List.{length-replicate}
use Rattle.std.proofs.lemmas.List.Sums.{sum_by-cons}
use Rattle.command.specs.DataWords.{run_of, bytes_of, count_of, are_runs, total, data_of, payload_of}
use Rattle.words.specs.Words.{words_of}
use Rattle.command_replies.specs.Runs.{runs_of, onto_run, run_word, data_words}
use Rattle.command_replies.proofs.RunLemmas.{other, runs_say_bytes}
use Rattle.command_replies.proofs.WordsAgain.{spaced, AreWords, words_again}
use Rattle.command_replies.proofs.RunsAgain.{run_text, run_again, HasNoSpace-run_text, length-run_text}

-- runs of bytes, none of them empty or longer than this
abbrev pub RunsFit : ℕ → List (ℕ × ℕ) → Type 0
RunsFit most [] = Unit {0}
RunsFit most (run ∷ runs) = (0 < run.0) × (run.0 ≤ most) × (run.1 < 256) × RunsFit most runs

-- what fits, fits in more
fit_more : (most more : ℕ) (runs : List (ℕ × ℕ)) → most ≤ more → RunsFit most runs → RunsFit more runs
fit_more most more [] le h = tt
fit_more most more (run ∷ runs) le h = (h.0, omega arith, h.2, fit_more most more runs le h.3)

-- a byte in front makes no run longer by more than one
fit_onto : (most b : ℕ) (runs : List (ℕ × ℕ)) → b < 256 → RunsFit most runs → RunsFit (most + 1) (onto_run b runs)
fit_onto most b [] byte h = (omega arith, omega arith, byte, tt)
fit_onto most b ((n, c) ∷ runs) byte h = elim (cases_eq b c) [
  | inl e ↦ rw (eq-eqb b c e) (omega arith, omega arith, byte, fit_more most (most + 1) runs (omega arith) h.3)
  | inr ne ↦ rw (other b c ne) (omega arith, omega arith, byte, fit_more most (most + 1) ((n, c) ∷ runs) (omega arith) h)
]

-- no run is longer than the data
pub fit_runs : (bytes : List ℕ) → All (λ b. b < 256) bytes → RunsFit (length bytes) (runs_of bytes)
fit_runs [] h = tt
fit_runs (b ∷ bytes) h =
    let more = fit_onto (length bytes) b (runs_of bytes) (h 0 0 (omega arith)) (fit_runs bytes (λ k d lt. h (suc k) d (omega arith))) in
    fit_more (length bytes + 1) (length (b ∷ bytes)) (runs_of (b ∷ bytes)) (omega arith) more

-- what is printed for runs is their words, with a space before each
spaced_runs : (runs : List (ℕ × ℕ)) → flat_map run_word runs ≡ spaced (map run_text runs)
spaced_runs [] = refl
spaced_runs (run ∷ runs) = ap (λ (t : List ℕ). run_word run ++ t) (spaced_runs runs)

-- the texts of runs are words
are_words : (most : ℕ) (runs : List (ℕ × ℕ)) → most ≤ 1048576 → RunsFit most runs → AreWords (map run_text runs)
are_words most [] le h = tt
are_words most ((n, b) ∷ runs) le h = (length-run_text n b, HasNoSpace-run_text n b (omega arith) h.2, are_words most runs le h.3)

-- the word of a run says its bytes
bytes_again : (word : List ℕ) (n b : ℕ) → run_of word ≡ Some (record { count = n; byte = b }) → bytes_of word ≡ replicate n b
bytes_again word n b e = rw e refl

-- and as many
count_again : (word : List ℕ) (n b : ℕ) → run_of word ≡ Some (record { count = n; byte = b }) → count_of word ≡ n
count_again word n b e = rw e refl

-- each word is a run
runs_again : (most : ℕ) (runs : List (ℕ × ℕ)) → most ≤ 1048576 → RunsFit most runs → are_runs (map run_text runs) ≡ true
runs_again most [] le h = refl
runs_again most ((n, b) ∷ runs) le h = rw (run_again n b h.0 (omega arith) h.2) (runs_again most runs le h.3)

-- the words say the bytes of the runs
data_again : (most : ℕ) (runs : List (ℕ × ℕ)) → most ≤ 1048576 → RunsFit most runs → data_of (map run_text runs) ≡ flat_map (λ (run : ℕ × ℕ). replicate run.0 run.1) runs
data_again most [] le h = refl
data_again most ((n, b) ∷ runs) le h =
    let here = bytes_again (run_text (n, b)) n b (run_again n b h.0 (omega arith) h.2) in
    ap (λ (t : List ℕ). t ++ data_of (map run_text runs)) here ∙ ap (λ (t : List ℕ). replicate n b ++ t) (data_again most runs le h.3)

-- one word more
total_more : (word : List ℕ) (words : List (List ℕ)) (n b : ℕ) (bytes : List ℕ) → count_of word ≡ n → total words ≡ length bytes → total (word ∷ words) ≡ length (replicate n b ++ bytes)
total_more word words n b bytes here more = let front = sum_by-cons count_of word words in rw (length-append, length-replicate) (omega arith)

-- and as many
total_again : (most : ℕ) (runs : List (ℕ × ℕ)) → most ≤ 1048576 → RunsFit most runs → total (map run_text runs) ≡ length (flat_map (λ (run : ℕ × ℕ). replicate run.0 run.1) runs)
total_again most [] le h = refl
total_again most ((n, b) ∷ runs) le h =
    total_more (run_text (n, b)) (map run_text runs) n b (flat_map (λ (run : ℕ × ℕ). replicate run.0 run.1) runs)
    (count_again (run_text (n, b)) n b (run_again n b h.0 (omega arith) h.2)) (total_again most runs le h.3)

-- words that say a byte are there
total_some : (words : List (List ℕ)) → 0 < total words → 0 < length words
total_some [] h = absurd (omega arith)
total_some (word ∷ words) h = omega arith

-- runs of whole sectors, not too many, are data
payload_parts : (words : List (List ℕ)) (bytes : List ℕ) (n : ℕ) → are_runs words ≡ true → total words ≡ 512 * n → data_of words ≡ bytes → 0 < n → n ≤ 2048 → payload_of words ≡ Ok bytes
payload_parts words bytes n runs count same some few =
    let a : ltb 0 (length words) ≡ true = lt-ltb 0 (length words) (total_some words (omega arith)) in
    let whole : eqb (total words % 512) 0 ≡ true = eq-eqb (total words % 512) 0 (omega arith) in
    let sectors : total words / 512 ≡ n = omega arith in
    let b : ltb 0 n ≡ true = lt-ltb 0 n some in
    let c : leb n 2048 ≡ true = le-leb n 2048 few in
    rw (a, runs, whole, sectors, b, c, same) refl

-- data of 1 to 2048 whole sectors, printed and read again
pub payload_again : (bytes : List ℕ) (n : ℕ) → All (λ b. b < 256) bytes → length bytes ≡ 512 * n → 0 < n → n ≤ 2048 → payload_of (words_of (data_words bytes)) ≡ Ok bytes
payload_again bytes n all len some few =
    let fit = fit_runs bytes all in
    let le : length bytes ≤ 1048576 = omega arith in
    let again = ap words_of (spaced_runs (runs_of bytes)) ∙ words_again (map run_text (runs_of bytes)) (are_words (length bytes) (runs_of bytes) le fit) in
    ap payload_of again
    ∙ payload_parts (map run_text (runs_of bytes)) bytes n
    (runs_again (length bytes) (runs_of bytes) le fit)
    (total_again (length bytes) (runs_of bytes) le fit ∙ ap length (runs_say_bytes bytes) ∙ len)
    (data_again (length bytes) (runs_of bytes) le fit ∙ runs_say_bytes bytes)
    some few
