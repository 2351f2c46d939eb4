-- What split words ask of any program, and which word is wrong first. Help and the version as the GNU Coding Standards (4.8) have them.
use Rattle.std.specs.Prelude.{ℕ, not, ◌||◌, List, find, codes, Option, Some, None, Result, Ok, Err, slice_get, if◌then◌else◌}
use Rattle.std.specs.Result.{result_map_both}
use Rattle.std.specs.Borrow.{Bor}
use Rattle.option_parser.specs.declared.requests.Request.{Request}
use Rattle.option_parser.specs.declared.requests.Request.TheVariants as request
use Rattle.option_parser.specs.declared.wrong.Wrong.{Wrong}
use Rattle.option_parser.specs.declared.wrong.Wrong.TheVariants as wrong
use Rattle.option_parser.specs.Splits.{Split, GivenOption, is_one_of, has}
use Rattle.option_parser.specs.Reading.{text_of}

-- what is wrong, by the bytes of words
pub data Fault : Type 0 where
  Missing : (wanted : List ℕ) → Fault
  NoValue : (option : List ℕ) → Fault
  NoCommand : (word : List ℕ) → Fault
  NoOption : (word : List ℕ) → Fault
  OneMore : (word : List ℕ) → Fault

-- what is asked for
pub data Requested : Type 0 where
  ForHelp : Requested
  ForVersion : Requested
  ForCommand : (name : List ℕ) → Requested

abbrev pub fault_of : Wrong → Fault
fault_of (wrong.Missing wanted) = Missing wanted.now
fault_of (wrong.NoValue option) = NoValue option.now
fault_of (wrong.Command word) = NoCommand word.now
fault_of (wrong.Option word) = NoOption word.now
fault_of (wrong.Name word) = OneMore word.now

abbrev pub request_of : Request → Requested
request_of request.Help = ForHelp
request_of request.Version = ForVersion
request_of (request.Command name) = ForCommand name.now

-- what is answered, and what a part of the words gives
abbrev pub told_request : Result Request Wrong → Result Requested Fault
told_request answer = result_map_both request_of fault_of answer

abbrev pub told_one : Result (Bor (List ℕ)) Wrong → Result (List ℕ) Fault
told_one answer = result_map_both text_of fault_of answer

abbrev pub told_none : Result (Unit {0}) Wrong → Result (Unit {0}) Fault
told_none answer = result_map_both (λ x. x) fault_of answer

abbrev pub texts_two : Bor (List ℕ) × Bor (List ℕ) → List ℕ × List ℕ
texts_two names = (names.0.now, names.1.now)

abbrev pub told_two : Result (Bor (List ℕ) × Bor (List ℕ)) Wrong → Result (List ℕ × List ℕ) Fault
told_two answer = result_map_both texts_two fault_of answer

abbrev pub texts_three : Bor (List ℕ) × Bor (List ℕ) × Bor (List ℕ) → List ℕ × List ℕ × List ℕ
texts_three names = (names.0.now, names.1.now, names.2.now)

abbrev pub told_three : Result (Bor (List ℕ) × Bor (List ℕ) × Bor (List ℕ)) Wrong → Result (List ℕ × List ℕ × List ℕ) Fault
told_three answer = result_map_both texts_three fault_of answer

-- what follows where nothing is wrong
abbrev pub and_then : {A B F : Type 0} → Result A F → (A → Result B F) → Result B F
and_then (Ok a) next = next a
and_then (Err fault) next = Err fault

-- the name at a place, where this is to stand
abbrev pub name_or : Option (List ℕ) → List ℕ → Result (List ℕ) Fault
name_or (Some name) wanted = Ok name
name_or None wanted = Err (Missing wanted)

abbrev pub name_at : Split → ℕ → List ℕ → Result (List ℕ) Fault
name_at s place wanted = name_or (slice_get s.names place) wanted

-- there are so many names, and no more
abbrev pub none_more : {A : Type 0} → Option (List ℕ) → A → Result A Fault
none_more None names = Ok names
none_more (Some name) names = Err (OneMore name)

abbrev pub only : {A : Type 0} → Split → ℕ → A → Result A Fault
only s count names = none_more (slice_get s.names count) names

-- one name behind the command's
abbrev pub one : Split → List ℕ → Result (List ℕ) Fault
one s wanted = and_then (name_at s 1 wanted) (λ name. only s 2 name)

-- two
abbrev pub two : Split → List ℕ → List ℕ → Result (List ℕ × List ℕ) Fault
two s first second = and_then (name_at s 1 first) (λ a. and_then (name_at s 2 second) (λ b. only s 3 (a, b)))

-- three
abbrev pub three : Split → List ℕ → List ℕ → List ℕ → Result (List ℕ × List ℕ × List ℕ) Fault
three s first second third = and_then (name_at s 1 first) (λ a. and_then (name_at s 2 second) (λ b. and_then (name_at s 3 third) (λ c. only s 4 (a, b, c))))

-- each option is one of those that a command takes
abbrev pub none_refused : Option GivenOption → Result (Unit {0}) Fault
none_refused None = Ok tt
none_refused (Some given) = Err (NoOption given.option)

abbrev pub all_taken : List (List ℕ) → Split → Result (Unit {0}) Fault
all_taken taken s = none_refused (find (λ given. not (is_one_of taken given.option)) s.options)

-- help and the version come before all else, but for a value that is missing
abbrev pub requested_with : Split → Option (List ℕ) → Result Requested Fault
requested_with s (Some option) = Err (NoValue option)
requested_with s None =
    if has s (codes "--help") || has s (codes "-h") then Ok ForHelp
    else (if has s (codes "--version") || has s (codes "-V") then Ok ForVersion
    else and_then (name_at s 0 (codes "a command")) (λ name. Ok (ForCommand name)))

abbrev pub requested : Split → Result Requested Fault
requested s = requested_with s s.lacking
