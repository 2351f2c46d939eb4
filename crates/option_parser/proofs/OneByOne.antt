-- Words that are read one by one are split as they stand.
use Rattle.std.proofs.Common.{◌≡◌, ℕ, Bool, true, false, not, List, [], ◌∷◌, ◌++◌, fold, codes, Option, Some, None, refl, ap, ◌∙◌, sym}
use Rattle.std.specs.Prelude.{if◌then◌else◌}
use Rattle.std.specs.Str.{bytes_eq}
use Rattle.std.proofs.lemmas.List.{append_assoc, append-nil}
use Rattle.option_parser.specs.Splits.{GivenOption, Split, Expected, AnyWord, ValueOf, NameOnly, is_option, is_one_of, option_in, split_from, split_by, name_before, option_before, no_words}
use Rattle.option_parser.specs.Reading.{Reading, read_name, read_option, read_more, nothing_read, read_all, all_read}

-- what was read, before the rest
abbrev joined : Reading → Split → Split
joined r s = record { names = r.names ++ s.names; options = r.options ++ s.options; lacking = s.lacking }

name_moves : (r : Reading) (word : List ℕ) (s : Split) → joined (read_name r word) s ≡ joined r (name_before word s)
name_moves r word s = ap (λ (names : List (List ℕ)). record { names = names; options = r.options ++ s.options; lacking = s.lacking }) (append_assoc r.names (word ∷ []) s.names)

option_moves : (r : Reading) (given : GivenOption) (s : Split) → joined (read_option r given) s ≡ joined r (option_before given s)
option_moves r given s = ap (λ (options : List GivenOption). record { names = r.names ++ s.names; options = options; lacking = s.lacking }) (append_assoc r.options (given ∷ []) s.options)

none_behind : (r : Reading) (lacking : Option (List ℕ)) → record { names = r.names; options = r.options; lacking = lacking } ≡ joined r (record no_words { lacking = lacking })
none_behind r lacking =
    ap (λ (names : List (List ℕ)). record { names = names; options = r.options; lacking = lacking }) (sym (append-nil r.names))
    ∙ ap (λ (options : List GivenOption). record { names = r.names ++ []; options = options; lacking = lacking }) (sym (append-nil r.options))

at_end : (valued : List (List ℕ)) (names : List (List ℕ)) (options : List GivenOption) (next : Expected) → all_read (record { names = names; options = options; next = next }) ≡ joined (record { names = names; options = options; next = next }) (split_from valued next [])
at_end valued names options AnyWord = none_behind (record { names = names; options = options; next = AnyWord }) None
at_end valued names options (ValueOf option) = none_behind (record { names = names; options = options; next = AnyWord }) (Some option)
at_end valued names options NameOnly = none_behind (record { names = names; options = options; next = AnyWord }) None

-- a word that may be any, by what is known of it
any_word : (valued : List (List ℕ)) (r : Reading) (word : List ℕ) (words : List (List ℕ)) (ends names takes : Bool) →
    let next = (if ends then record r { next = NameOnly } else (if names then read_name (record r { next = AnyWord }) word else (if takes then record r { next = ValueOf word } else read_option r (option_in valued word)))) in
    joined next (split_from valued next.next words)
    ≡ joined r (if ends then record no_words { names = words } else (if names then name_before word (split_from valued AnyWord words) else (if takes then split_from valued (ValueOf word) words else option_before (option_in valued word) (split_from valued AnyWord words))))
any_word valued r word words true names takes = refl
any_word valued r word words false true takes = name_moves r word (split_from valued AnyWord words)
any_word valued r word words false false true = refl
any_word valued r word words false false false = option_moves r (option_in valued word) (split_from valued AnyWord words)

one_word : (valued : List (List ℕ)) (names : List (List ℕ)) (options : List GivenOption) (next : Expected) (word : List ℕ) (words : List (List ℕ)) →
    let r : Reading = record { names = names; options = options; next = next } in
    joined (read_more valued r word) (split_from valued (read_more valued r word).next words) ≡ joined r (split_from valued next (word ∷ words))
one_word valued names options AnyWord word words = any_word valued (record { names = names; options = options; next = AnyWord }) word words (bytes_eq word (codes "--")) (not (is_option word)) (is_one_of valued word)
one_word valued names options (ValueOf option) word words = option_moves (record { names = names; options = options; next = AnyWord }) (record { option = option; value = Some word }) (split_from valued AnyWord words)
one_word valued names options NameOnly word words = name_moves (record { names = names; options = options; next = NameOnly }) word (record no_words { names = words })

reads : (valued : List (List ℕ)) (r : Reading) (words : List (List ℕ)) → all_read (fold (read_more valued) r words) ≡ joined r (split_from valued r.next words)
reads valued r [] = at_end valued r.names r.options r.next
reads valued r (word ∷ words) = reads valued (read_more valued r word) words ∙ one_word valued r.names r.options r.next word words

pub reads_all : (valued words : List (List ℕ)) → all_read (read_all valued words) ≡ split_by valued words
reads_all valued words = reads valued nothing_read words
