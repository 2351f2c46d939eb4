-- Names, numbers and data words are printable, so a read, a write or a status with another byte among its words is refused for them.
use Rattle.std.proofs.Common.{◌≡◌, ℕ, ◌+◌, ◌-◌, ◌/◌, ◌%◌, ◌^◌, ◌≤◌, Bool, true, false, cond, List, [], ◌∷◌, ◌++◌, length, get_or, take, eqb, ltb, filter, refl, sym, ap, ◌∙◌, arith, Some, None}
use Rattle.std.specs.Prelude.{codes, nat_lt, nat_le, ◌&&◌, ◌==◌, is_some, slice_index, Result, Ok, Err}
use Rattle.std.specs.List.{list_all, onto_first, slice_split}
use Rattle.std.specs.Char.{is_ascii_digit, is_ascii_lowercase}
use Rattle.std.proofs.Math.Seq.{take-length}
use Rattle.std.proofs.lemmas.Bool.{lt-ltb}
use Rattle.std.proofs.lemmas.List.Folds.{list_all_more}
use Rattle.std.proofs.lemmas.List.Splits.{slice_split-cons_yes, slice_split-cons_no}
use borrow.Author.Tests.{tests}
use Rattle.sector.specs.declared.refusal.Refusal.{Refusal}
use Rattle.sector.specs.declared.refusal.Refusal.TheVariants.{BadTable}
use Rattle.words.proofs.Bools.{and-split, and-join, list_all-weaker}
use Rattle.words.specs.Given.{◌>>=◌}
use Rattle.words.specs.Names.{is_name_byte, is_name, name_of}
use Rattle.words.specs.Numbers.{is_numeral, number_after, number_of, numeral_of}
use Rattle.words.specs.Words.{words_of}
use Rattle.command.proofs.Verbs.{write_cut, read_cut, status_cut}
use Rattle.command.specs.DataWords.{is_hex, run_of, are_runs, total, size_of, payload_of}
use Rattle.command.specs.Grammar.{alone_of, amount_of, command_of, patch_of, place_of, read_of, span_of, status_of, write_of}
use Rattle.command.specs.Line.{is_printable}
use Rattle.command.specs.Words.{sectors_of}
use Rattle.command.specs.declared.data_words.DataRun.{DataRun}
use Rattle.command.specs.declared.grammar.Command.{Command}

abbrev printed : List ℕ → Bool
printed word = list_all is_printable word

abbrev all_printed : List (List ℕ) → Bool
all_printed words = list_all printed words

-- ---- the words of a line, and its bytes

onto_printed : (b : ℕ) (parts : List (List ℕ)) → all_printed (onto_first b parts) ≡ (is_printable b && all_printed parts)
onto_printed b [] = elim (is_printable b) as (λ t. ((t && true) && true) ≡ (t && true)) [ true ↦ refl | false ↦ refl ]
onto_printed b (part ∷ parts) = elim (is_printable b) as (λ t. ((t && printed part) && all_printed parts) ≡ (t && (printed part && all_printed parts))) [ true ↦ refl | false ↦ refl ]

space_printed : (b : ℕ) → eqb b 32 ≡ true → is_printable b ≡ true
space_printed b h = grind (arith, tests)

parts_printed : (line : List ℕ) → all_printed (slice_split (λ b. eqb b 32) line) ≡ printed line
parts_printed [] = refl
parts_printed (b ∷ line) = elim (eqb b 32) as (λ t. eqb b 32 ≡ t → all_printed (slice_split (λ b. eqb b 32) (b ∷ line)) ≡ printed (b ∷ line)) [
  | true ↦ λ e. ap all_printed (slice_split-cons_yes (λ b. eqb b 32) b line e) ∙ parts_printed line ∙ sym (ap (λ t. t && printed line) (space_printed b e))
  | false ↦ λ e. ap all_printed (slice_split-cons_no (λ b. eqb b 32) b line e) ∙ onto_printed b (slice_split (λ b. eqb b 32) line) ∙ ap (λ t. is_printable b && t) (parts_printed line)
] refl

kept_printed : (parts : List (List ℕ)) → all_printed (filter (λ word. ltb 0 (length word)) parts) ≡ all_printed parts
kept_printed [] = refl
kept_printed ([] ∷ parts) = kept_printed parts
kept_printed ((b ∷ word) ∷ parts) =
    let some : ltb 0 (length (b ∷ word)) ≡ true = lt-ltb 0 (length (b ∷ word)) (omega arith) in
    rw some (ap (λ t. printed (b ∷ word) && t) (kept_printed parts))

words_printed : (line : List ℕ) → all_printed (words_of line) ≡ printed line
words_printed line = kept_printed (slice_split (λ b. eqb b 32) line) ∙ parts_printed line

-- ---- words of a right form are printable

name_byte_printed : (b : ℕ) → is_name_byte b ≡ true → is_printable b ≡ true
name_byte_printed b h = grind (arith, tests)

digit_printed : (b : ℕ) → is_ascii_digit b ≡ true → is_printable b ≡ true
digit_printed b h = grind (arith, tests)

hex_printed : (b : ℕ) → is_hex b ≡ true → is_printable b ≡ true
hex_printed b h = grind (arith, tests)

star_printed : (b : ℕ) → b ≡ 42 → is_printable b ≡ true
star_printed b h = grind (arith, tests)

name_printed : (word : List ℕ) → is_name word ≡ true → printed word ≡ true
name_printed word h =
    list_all-weaker ℕ is_name_byte is_printable name_byte_printed word
    (and-split (nat_lt 0 (length word) && nat_le (length word) 16 && is_ascii_lowercase (slice_index word 0)) (list_all is_name_byte word) h).1

numeral_printed : (word : List ℕ) → is_numeral word ≡ true → printed word ≡ true
numeral_printed word h =
    list_all-weaker ℕ is_ascii_digit is_printable digit_printed word
    (and-split (nat_lt 0 (length word) && nat_le (length word) 10) (list_all is_ascii_digit word) h).1

-- ---- others are of another form

unlike : (b : Bool) → b ≡ false → b ≡ true → ⊥
unlike b none all = let bad : false ≡ true = sym none ∙ all in cc

name_bad : (word : List ℕ) → printed word ≡ false → name_of word ≡ Err BadTable
name_bad word none = elim (is_name word) as (λ t. is_name word ≡ t → name_of word ≡ Err BadTable) [
  | true ↦ λ e. absurd (unlike (printed word) none (name_printed word e))
  | false ↦ λ e. rw e refl
] refl

number_bad : (word : List ℕ) → printed word ≡ false → number_of word ≡ None
number_bad word none = elim (is_numeral word && nat_lt (number_after 0 word) (2 ^ 32)) as (λ t. (is_numeral word && nat_lt (number_after 0 word) (2 ^ 32)) ≡ t → number_of word ≡ None) [
  | true ↦ λ e. absurd (unlike (printed word) none (numeral_printed word (and-split (is_numeral word) (nat_lt (number_after 0 word) (2 ^ 32)) e).0))
  | false ↦ λ e. rw e refl
] refl

numeral_bad : (word : List ℕ) → printed word ≡ false → numeral_of word ≡ Err BadTable
numeral_bad word none = rw (number_bad word none) refl

-- what a run has
run_long : (word : List ℕ) (run : DataRun) → run_of word ≡ Some run → 4 ≤ length word
run_long word run is = grind (arith, tests)

run_star : (word : List ℕ) (run : DataRun) → run_of word ≡ Some run → slice_index word (length word - 3) ≡ 42
run_star word run is = grind (arith, tests)

run_high : (word : List ℕ) (run : DataRun) → run_of word ≡ Some run → is_hex (slice_index word (length word - 2)) ≡ true
run_high word run is = grind (arith, tests)

run_low : (word : List ℕ) (run : DataRun) → run_of word ≡ Some run → is_hex (slice_index word (length word - 1)) ≡ true
run_low word run is = grind (arith, tests)

run_number : (word : List ℕ) (run : DataRun) → run_of word ≡ Some run → number_of (take (length word - 3) word) ≡ None → ⊥
run_number word run is none = grind (arith, tests)

run_digits : (word : List ℕ) (run : DataRun) → run_of word ≡ Some run → printed (take (length word - 3) word) ≡ true
run_digits word run is = elim (printed (take (length word - 3) word)) as (λ t. printed (take (length word - 3) word) ≡ t → t ≡ true) [
  | true ↦ λ e. refl
  | false ↦ λ e. absurd (run_number word run is (number_bad (take (length word - 3) word) e))
] refl

last_printed : (word : List ℕ) (e : ℕ) → e + 3 ≡ length word → printed (take e word) ≡ true → is_printable (get_or word e 0) ≡ true → is_printable (get_or word (e + 1) 0) ≡ true → is_printable (get_or word (e + 2) 0) ≡ true → printed word ≡ true
last_printed word e long front star high low =
    let end : e + 2 + 1 ≡ length word = omega (arith, long) in
    let next : e + 1 + 1 ≡ e + 2 = omega arith in
    let one = list_all_more is_printable word e 0 (omega (arith, long)) ∙ and-join _ _ front star in
    let two = ap (λ n. printed (take n word)) (sym next) ∙ list_all_more is_printable word (e + 1) 0 (omega (arith, long)) ∙ and-join _ _ one high in
    let three = ap (λ n. printed (take n word)) (sym end) ∙ list_all_more is_printable word (e + 2) 0 (omega (arith, long)) ∙ and-join _ _ two low in
    ap printed (sym (take-length word)) ∙ three

run_printed : (word : List ℕ) (run : DataRun) → run_of word ≡ Some run → printed word ≡ true
run_printed word run is =
    let long = run_long word run is in
    let e = length word - 3 in
    let second : length word - 2 ≡ e + 1 = omega (arith, long) in
    let third : length word - 1 ≡ e + 2 = omega (arith, long) in
    last_printed word e (omega (arith, long)) (run_digits word run is) (star_printed _ (run_star word run is))
    (hex_printed (get_or word (e + 1) 0) (ap (λ n. is_hex (get_or word n 0)) (sym second) ∙ run_high word run is))
    (hex_printed (get_or word (e + 2) 0) (ap (λ n. is_hex (get_or word n 0)) (sym third) ∙ run_low word run is))

run_bad : (word : List ℕ) → printed word ≡ false → is_some (run_of word) ≡ false
run_bad word none = elim (run_of word) as (λ o. run_of word ≡ o → is_some o ≡ false) [
  | None ↦ λ e. refl
  | (Some run) ↦ λ e. absurd (unlike (printed word) none (run_printed word run e))
] refl

-- ---- and so are words among which one is

-- the first is not printable, or one of the others
split : (a b : Bool) → (a && b) ≡ false → (P : Type 0) → (a ≡ false → P) → (a ≡ true → b ≡ false → P) → P
split true b none P first others = others refl none
split false b none P first others = first refl

and-none : (a : Bool) → (a && false) ≡ false
and-none true = refl
and-none false = refl

runs_bad : (words : List (List ℕ)) → all_printed words ≡ false → are_runs words ≡ false
runs_bad [] none = absurd (let bad : true ≡ false = none in cc)
runs_bad (word ∷ words) none = split (printed word) (all_printed words) none _
    (λ first. ap (λ t. t && are_runs words) (run_bad word first))
    (λ _ others. ap (λ t. is_some (run_of word) && t) (runs_bad words others) ∙ and-none (is_some (run_of word)))

size_bad : (words : List (List ℕ)) → all_printed words ≡ false → size_of words ≡ Err BadTable
size_bad words none =
    ap (λ t. cond ((nat_lt 0 (length words) && t) && (total words % 512 == 0)) (sectors_of (total words / 512) >>= λ _. Ok (total words)) (Err BadTable)) (runs_bad words none)
    ∙ ap (λ t. cond (t && (total words % 512 == 0)) (sectors_of (total words / 512) >>= λ _. Ok (total words)) (Err BadTable)) (and-none (nat_lt 0 (length words)))

payload_bad : (words : List (List ℕ)) → all_printed words ≡ false → payload_of words ≡ Err BadTable
payload_bad words none = rw (size_bad words none) refl

-- a refusal of either kind is BadTable
second_bad : {A B : Type 0} (first : Result A Refusal) (then : A → Result B Refusal) → ((e : Refusal) → first ≡ Err e → e ≡ BadTable) → ((x : A) → then x ≡ Err BadTable) → (first >>= then) ≡ Err BadTable
second_bad (Ok x) then only bad = bad x
second_bad (Err e) then only bad = ap (λ e. Err e) (only e refl)

name_only : (word : List ℕ) (e : Refusal) → name_of word ≡ Err e → e ≡ BadTable
name_only word e is = grind (arith, tests)

numeral_only : (word : List ℕ) (e : Refusal) → numeral_of word ≡ Err e → e ≡ BadTable
numeral_only word e is = grind (arith, tests)

place_only : (name first : List ℕ) (e : Refusal) → place_of name first ≡ Err e → e ≡ BadTable
place_only name first e is = grind (arith, tests, name_only, numeral_only)

place_bad : (name first : List ℕ) → (printed name && printed first) ≡ false → place_of name first ≡ Err BadTable
place_bad name first none = split (printed name) (printed first) none _
    (λ one. rw (name_bad name one) refl)
    (λ _ other. second_bad (name_of name) _ (name_only name) (λ n. rw (numeral_bad first other) refl))

-- two in front
front : (a b c : Bool) → (a && (b && c)) ≡ false → (P : Type 0) → ((a && b) ≡ false → P) → (c ≡ false → P) → P
front true true c none P first others = others none
front true false c none P first others = first refl
front false b c none P first others = first refl

patch_bad : (words : List (List ℕ)) → all_printed words ≡ false → patch_of words ≡ Err BadTable
patch_bad [] none = refl
patch_bad (name ∷ []) none = refl
patch_bad (name ∷ first ∷ words) none = front (printed name) (printed first) (all_printed words) none _
    (λ place. rw (place_bad name first place) refl)
    (λ others. second_bad (place_of name first) _ (place_only name first) (λ place. rw (payload_bad words others) refl))

amount_bad : (words : List (List ℕ)) → all_printed words ≡ false → amount_of words ≡ Err BadTable
amount_bad [] none = refl
amount_bad (count ∷ []) none = split (printed count) true none _ (λ one. rw (numeral_bad count one) refl) (λ _ bad. absurd (unlike true bad refl))
amount_bad (count ∷ word ∷ words) none = refl

span_bad : (words : List (List ℕ)) → all_printed words ≡ false → span_of words ≡ Err BadTable
span_bad [] none = refl
span_bad (name ∷ []) none = refl
span_bad (name ∷ first ∷ words) none = front (printed name) (printed first) (all_printed words) none _
    (λ place. rw (place_bad name first place) refl)
    (λ others. second_bad (place_of name first) _ (place_only name first) (λ place. rw (amount_bad words others) refl))

alone_bad : (words : List (List ℕ)) → all_printed words ≡ false → alone_of words ≡ Err BadTable
alone_bad [] none = refl
alone_bad (name ∷ []) none = split (printed name) true none _ (λ one. name_bad name one) (λ _ bad. absurd (unlike true bad refl))
alone_bad (name ∷ word ∷ words) none = refl

write_bad : (words : List (List ℕ)) → all_printed words ≡ false → write_of words ≡ Err BadTable
write_bad words none = rw (patch_bad words none) refl

read_bad : (words : List (List ℕ)) → all_printed words ≡ false → read_of words ≡ Err BadTable
read_bad words none = rw (span_bad words none) refl

status_bad : (words : List (List ℕ)) → all_printed words ≡ false → status_of words ≡ Err BadTable
status_bad words none = rw (alone_bad words none) refl

-- ---- so the words of such a line decide it

decides : (line verb : List ℕ) (words : List (List ℕ)) (rule : Result Command Refusal) → words_of line ≡ verb ∷ words → printed verb ≡ true → command_of (verb ∷ words) ≡ rule → (all_printed words ≡ false → rule ≡ Err BadTable)
    → cond (list_all is_printable line) (command_of (words_of line)) (Err BadTable) ≡ rule
decides line verb words rule cut front is bad =
    let whole : all_printed words ≡ printed line = sym (ap (λ t. t && all_printed words) front) ∙ sym (ap all_printed cut) ∙ words_printed line in
    elim (all_printed words) as (λ t. all_printed words ≡ t → cond (list_all is_printable line) (command_of (words_of line)) (Err BadTable) ≡ rule) [
      | true ↦ λ e. ap (λ t. cond t (command_of (words_of line)) (Err BadTable)) (sym whole ∙ e) ∙ ap command_of cut ∙ is
      | false ↦ λ e. ap (λ t. cond t (command_of (words_of line)) (Err BadTable)) (sym whole ∙ e) ∙ sym (bad e)
    ] refl

pub line_writes : (line rest : List ℕ) → line ≡ codes "write " ++ rest → cond (list_all is_printable line) (command_of (words_of line)) (Err BadTable) ≡ write_of (words_of rest)
line_writes line rest is = decides line (codes "write") (words_of rest) (write_of (words_of rest)) (ap words_of is ∙ write_cut rest) refl refl (write_bad (words_of rest))

pub line_reads : (line rest : List ℕ) → line ≡ codes "read " ++ rest → cond (list_all is_printable line) (command_of (words_of line)) (Err BadTable) ≡ read_of (words_of rest)
line_reads line rest is = decides line (codes "read") (words_of rest) (read_of (words_of rest)) (ap words_of is ∙ read_cut rest) refl refl (read_bad (words_of rest))

pub line_tells : (line rest : List ℕ) → line ≡ codes "status " ++ rest → cond (list_all is_printable line) (command_of (words_of line)) (Err BadTable) ≡ status_of (words_of rest)
line_tells line rest is = decides line (codes "status") (words_of rest) (status_of (words_of rest)) (ap words_of is ∙ status_cut rest) refl refl (status_bad (words_of rest))
