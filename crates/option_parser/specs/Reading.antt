-- Words read one by one, and what is in a program's hands.
use Rattle.std.specs.Prelude.{ℕ, not, List, [], ◌∷◌, ◌++◌, map, fold, codes, Option, Some, None, if◌then◌else◌}
use Rattle.std.specs.Str.{bytes_eq}
use Rattle.std.specs.Borrow.{Bor}
use Rattle.option_parser.specs.declared.splitting.Given.{Given}
use Rattle.option_parser.specs.declared.splitting.Next.{Next}
use Rattle.option_parser.specs.declared.splitting.Next.TheVariants.{Any, Value, Name}
use Rattle.option_parser.specs.declared.splitting.Words.{Words}
use Rattle.option_parser.specs.Splits.{GivenOption, Split, Expected, AnyWord, ValueOf, NameOnly, is_option, is_one_of, option_in}

-- what was read, and what is next
pub record Reading : Type 0 where
  pub names : List (List ℕ)
  pub options : List GivenOption
  pub next : Expected

abbrev pub read_name : Reading → List ℕ → Reading
read_name r word = record r { names = r.names ++ word ∷ [] }

abbrev pub read_option : Reading → GivenOption → Reading
read_option r given = record r { options = r.options ++ given ∷ []; next = AnyWord }

abbrev pub read_any : List (List ℕ) → Reading → List ℕ → Reading
read_any valued r word =
    if bytes_eq word (codes "--") then record r { next = NameOnly }
    else (if not (is_option word) then read_name r word
    else (if is_one_of valued word then record r { next = ValueOf word }
    else read_option r (option_in valued word)))

abbrev pub read_as : List (List ℕ) → Reading → List ℕ → Expected → Reading
read_as valued r word AnyWord = read_any valued r word
read_as valued r word (ValueOf option) = read_option r (record { option = option; value = Some word })
read_as valued r word NameOnly = read_name r word

-- a word more
abbrev pub read_more : List (List ℕ) → Reading → List ℕ → Reading
read_more valued r word = read_as valued r word r.next

abbrev pub nothing_read : Reading
nothing_read = record { names = []; options = []; next = AnyWord }

abbrev pub read_all : List (List ℕ) → List (List ℕ) → Reading
read_all valued words = fold (read_more valued) nothing_read words

-- the words, once all are read
abbrev pub lacking_in : Expected → Option (List ℕ)
lacking_in AnyWord = None
lacking_in (ValueOf option) = Some option
lacking_in NameOnly = None

abbrev pub all_read : Reading → Split
all_read r = record { names = r.names; options = r.options; lacking = lacking_in r.next }

-- what is in a program's hands
abbrev pub text_of : Bor (List ℕ) → List ℕ
text_of text = text.now

abbrev pub texts_of : List (Bor (List ℕ)) → List (List ℕ)
texts_of texts = map text_of texts

abbrev pub text_in : Option (Bor (List ℕ)) → Option (List ℕ)
text_in None = None
text_in (Some text) = Some text.now

abbrev pub given_of : Given → GivenOption
given_of given = record { option = given.option.now; value = text_in given.value }

abbrev pub given_in : Option Given → Option GivenOption
given_in None = None
given_in (Some given) = Some (given_of given)

abbrev pub expected_of : Next → Expected
expected_of Any = AnyWord
expected_of (Value option) = ValueOf option.now
expected_of Name = NameOnly

abbrev pub reading_of : Words → Reading
reading_of words = record { names = texts_of words.names.items; options = map given_of words.options.items; next = expected_of words.next }

abbrev pub split_of : Words → Split
split_of words = all_read (reading_of words)
