-- To be believed: a command's words, split into names (operands) and options. After the Utility Syntax Guidelines of POSIX.1-2017
-- (Base Definitions, 12.2), 4, 6, 7, 10 and 13, and GNU's long options (The GNU C Library, 25.1.1; getopt_long(3)): options stand
-- between names too, and a value may be in its option's word, `--option=VALUE`. Neither is an option grouped with others behind one
-- `-`, nor is its name cut short.
use Rattle.std.specs.Prelude.{ℕ, Bool, not, ◌&&◌, List, [], ◌∷◌, length, drop, nat_eq, codes, Option, Some, None, if◌then◌else◌}
use Rattle.std.specs.List.{starts_with, list_any}
use Rattle.std.specs.Str.{bytes_eq}

-- an option that is given, and its value
pub record GivenOption : Type 0 where
  pub option : List ℕ
  pub value : Option (List ℕ)

pub record Split : Type 0 where
  -- both in their order
  pub names : List (List ℕ)
  pub options : List GivenOption
  -- the last word, where it is an option whose value is missing
  pub lacking : Option (List ℕ)

-- what the next word is: any, the value of an option, or a name
pub data Expected : Type 0 where
  AnyWord : Expected
  ValueOf : (option : List ℕ) → Expected
  NameOnly : Expected

-- an option begins with `-`; that alone is a name (guidelines 4 and 13)
abbrev pub is_option : List ℕ → Bool
is_option word = starts_with nat_eq word (codes "-") && not (bytes_eq word (codes "-"))

abbrev pub is_one_of : List (List ℕ) → List ℕ → Bool
is_one_of options word = list_any (λ option. bytes_eq option word) options

-- what stands behind a word's front, and so the value in a word `--option=VALUE`
abbrev pub behind : List ℕ → List ℕ → Option (List ℕ)
behind front word = if starts_with nat_eq word front then Some (drop (length front) word) else None

abbrev pub behind_in : List ℕ → Option (List ℕ) → Option (List ℕ)
behind_in front None = None
behind_in front (Some word) = behind front word

abbrev pub value_in : List ℕ → List ℕ → Option (List ℕ)
value_in option word = behind_in (codes "=") (behind option word)

abbrev pub given_or : List ℕ → Option (List ℕ) → Option GivenOption → Option GivenOption
given_or option None other = other
given_or option (Some value) other = Some (record { option = option; value = Some value })

-- the option of those that take a value which has it in this word
abbrev pub own_value : List (List ℕ) → List ℕ → Option GivenOption
own_value [] word = None
own_value (option ∷ options) word = given_or option (value_in option word) (own_value options word)

-- or the word is an option without a value
abbrev pub alone_or : List ℕ → Option GivenOption → GivenOption
alone_or word None = record { option = word; value = None }
alone_or word (Some given) = given

abbrev pub option_in : List (List ℕ) → List ℕ → GivenOption
option_in valued word = alone_or word (own_value valued word)

-- a name or an option before the others
abbrev pub no_words : Split
no_words = record { names = []; options = []; lacking = None }

abbrev pub name_before : List ℕ → Split → Split
name_before name s = record s { names = name ∷ s.names }

abbrev pub option_before : GivenOption → Split → Split
option_before given s = record s { options = given ∷ s.options }

-- words from one on, where some options take a value: in the option's word, or else the next word, whatever it is (guidelines 6
-- and 7); behind the first `--` that is no value there are names only (guideline 10)
abbrev pub split_from : List (List ℕ) → Expected → List (List ℕ) → Split
split_from valued NameOnly words = record no_words { names = words }
split_from valued (ValueOf option) [] = record no_words { lacking = Some option }
split_from valued (ValueOf option) (word ∷ words) = option_before (record { option = option; value = Some word }) (split_from valued AnyWord words)
split_from valued AnyWord [] = no_words
split_from valued AnyWord (word ∷ words) =
    if bytes_eq word (codes "--") then record no_words { names = words }
    else (if not (is_option word) then name_before word (split_from valued AnyWord words)
    else (if is_one_of valued word then split_from valued (ValueOf word) words
    else option_before (option_in valued word) (split_from valued AnyWord words)))

abbrev pub split_by : List (List ℕ) → List (List ℕ) → Split
split_by valued words = split_from valued AnyWord words

-- whether an option is given
abbrev pub has : Split → List ℕ → Bool
has s option = list_any (λ given. bytes_eq given.option option) s.options

-- its value: where it is given twice, the last one
abbrev pub last_value : Option (List ℕ) → List ℕ → List GivenOption → Option (List ℕ)
last_value before option [] = before
last_value before option (given ∷ others) = last_value (if bytes_eq given.option option then given.value else before) option others

abbrev pub value_of : Split → List ℕ → Option (List ℕ)
value_of s option = last_value None option s.options

-- and all its values, in their order
abbrev pub value_before : Option (List ℕ) → List (List ℕ) → List (List ℕ)
value_before None values = values
value_before (Some value) values = value ∷ values

abbrev pub all_values : List ℕ → List GivenOption → List (List ℕ)
all_values option [] = []
all_values option (given ∷ others) = if bytes_eq given.option option then value_before given.value (all_values option others) else all_values option others

abbrev pub values_of : Split → List ℕ → List (List ℕ)
values_of s option = all_values option s.options
