-- What the words of a command line ask for.
use Rattle.std.specs.Prelude.{ℕ, Bool, ◌&&◌, ◌||◌, not, List, [], ◌∷◌, drop, nat_le, codes, Option, Some, None, Result, Ok, Err, is_some, slice_get, if◌then◌else◌}
use Rattle.std.specs.Int.{is_power_of_two}
use Rattle.std.specs.Str.{bytes_eq}
use Rattle.std.specs.Result.{result_map_both}
use Rattle.option_parser.specs.Splits.{Split, split_by, has, value_of, is_one_of}
use Rattle.option_parser.specs.Reading.{text_in}
use Rattle.option_parser.specs.Asks.{Fault as LineFault, fault_of as line_fault_of, NoCommand, Requested, ForHelp, ForVersion, ForCommand, requested, and_then, one, two, three, all_taken}
use Rattle.words.specs.Names.{is_name}
use Rattle.words.specs.Numbers.{number_of}
use Rattle.image_options.specs.declared.asked.Asked.{Asked}
use Rattle.image_options.specs.declared.asked.Asked.TheVariants as asked
use Rattle.image_options.specs.declared.asked.Form.{Form}
use Rattle.image_options.specs.declared.asked.Form.TheVariants.{Lines, Json}
use Rattle.image_options.specs.declared.telling.Telling.{Telling}
use Rattle.image_options.specs.declared.telling.Telling.TheVariants.{Terminal, Never, Always}
use Rattle.image_options.specs.declared.wrong.Wrong.{Wrong}
use Rattle.image_options.specs.declared.wrong.Wrong.TheVariants as wrong

-- what is asked for, by the bytes of names
pub data Wanted : Type 0 where
  Help : Wanted
  HelpOf : (command : List ℕ) → Wanted
  Version : Wanted
  Show : (cow : List ℕ) (form : Form) → Wanted
  Human : (cow : List ℕ) → Wanted
  Map : (cow : List ℕ) (form : Form) → Wanted
  Ranges : (origin cow : List ℕ) (form : Form) → Wanted
  Picture : (origin cow : List ℕ) (svg : Option (List ℕ)) → Wanted
  RawMap : (cow : List ℕ) (form : Form) → Wanted
  Check : (origin cow : List ℕ) (form : Form) → Wanted
  Differ : (origin cow : List ℕ) (form : Form) → Wanted
  Compare : (one other : List ℕ) (form : Form) → Wanted
  Table : (origin cow : List ℕ) → Wanted
  Export : (origin cow out : List ℕ) (form : Form) → Wanted
  Salvage : (origin cow out : List ℕ) (chunk : Option ℕ) (behind : Bool) (form : Form) → Wanted
  Merge : (origin cow : List ℕ) (dry : Bool) (form : Form) → Wanted
  Repair : (cow new : List ℕ) (chunk : Option ℕ) (behind : Bool) (form : Form) → Wanted
  Store : (origin array new : List ℕ) (chunk : Option ℕ) → Wanted
  Serve : (origin cow : List ℕ) (live : Bool) → Wanted
  Words : (disk image : List ℕ) → Wanted
  Image : (out : List ℕ) → Wanted

-- what is wrong, by the bytes of words
pub data Fault : Type 0 where
  OfLine : (fault : LineFault) → Fault
  Alone : (option : List ℕ) → Fault
  Without : (option other : List ℕ) → Fault
  Apart : (option other : List ℕ) → Fault
  NoChunk : (word : List ℕ) → Fault
  NoDisk : (word : List ℕ) → Fault
  NoMemory : Fault

abbrev pub wanted_of : Asked → Wanted
wanted_of asked.Help = Help
wanted_of (asked.HelpOf command) = HelpOf command.now
wanted_of asked.Version = Version
wanted_of (asked.Show cow form) = Show cow.now form
wanted_of (asked.Human cow) = Human cow.now
wanted_of (asked.Map cow form) = Map cow.now form
wanted_of (asked.Ranges origin cow form) = Ranges origin.now cow.now form
wanted_of (asked.Picture origin cow svg) = Picture origin.now cow.now (text_in svg)
wanted_of (asked.RawMap cow form) = RawMap cow.now form
wanted_of (asked.Check origin cow form) = Check origin.now cow.now form
wanted_of (asked.Differ origin cow form) = Differ origin.now cow.now form
wanted_of (asked.Compare one other form) = Compare one.now other.now form
wanted_of (asked.Table origin cow) = Table origin.now cow.now
wanted_of (asked.Export origin cow out form) = Export origin.now cow.now out.now form
wanted_of (asked.Salvage origin cow out chunk behind form) = Salvage origin.now cow.now out.now chunk behind form
wanted_of (asked.Merge origin cow dry form) = Merge origin.now cow.now dry form
wanted_of (asked.Repair cow new chunk behind form) = Repair cow.now new.now chunk behind form
wanted_of (asked.Store origin array new chunk) = Store origin.now array.now new.now chunk
wanted_of (asked.Serve origin cow live) = Serve origin.now cow.now live
wanted_of (asked.Words disk image) = Words disk.now image.now
wanted_of (asked.Image out) = Image out.now

abbrev pub fault_of : Wrong → Fault
fault_of (wrong.Line fault) = OfLine (line_fault_of fault)
fault_of (wrong.Alone option) = Alone option.now
fault_of (wrong.Without option other) = Without option.now other.now
fault_of (wrong.Apart option other) = Apart option.now other.now
fault_of (wrong.Chunk word) = NoChunk word.now
fault_of (wrong.Disk word) = NoDisk word.now
fault_of wrong.NoMemory = NoMemory

-- what is answered, and what an option gives
abbrev pub told : Result Asked Wrong → Result Wanted Fault
told answer = result_map_both wanted_of fault_of answer

abbrev pub told_chunk : Result (Option ℕ) Wrong → Result (Option ℕ) Fault
told_chunk answer = result_map_both (λ x. x) fault_of answer

abbrev pub told_none : Result (Unit {0}) Wrong → Result (Unit {0}) Fault
told_none answer = result_map_both (λ x. x) fault_of answer

-- what follows where nothing is wrong with the line
abbrev pub then_ask : {A B : Type 0} → Result A LineFault → (A → Result B Fault) → Result B Fault
then_ask (Ok a) next = next a
then_ask (Err fault) next = Err (OfLine fault)

-- which options take a value
abbrev pub valued : List (List ℕ)
valued = codes "--chunk" ∷ codes "--over" ∷ codes "--svg" ∷ []

-- an option that is given only with another, or never with another
abbrev pub given_with : Split → List ℕ → List ℕ → Result (Unit {0}) Fault
given_with s option other = if has s option && not (has s other) then Err (Without option other) else Ok tt

abbrev pub given_apart : Split → List ℕ → List ℕ → Result (Unit {0}) Fault
given_apart s option other = if has s option && has s other then Err (Apart option other) else Ok tt

-- how an answer is to be written
abbrev pub form_by : Split → Form
form_by s = if has s (codes "--json") then Json else Lines

-- the sectors of a chunk, where they are given: a power of two from 1 to 1024
abbrev pub chunk_from : List ℕ → Option ℕ → Result (Option ℕ) Fault
chunk_from word None = Err (NoChunk word)
chunk_from word (Some n) = if is_power_of_two n && nat_le n 1024 then Ok (Some n) else Err (NoChunk word)

abbrev pub chunk_in : Option (List ℕ) → Result (Option ℕ) Fault
chunk_in None = Ok None
chunk_in (Some word) = chunk_from word (number_of word)

abbrev pub chunk_by : Split → Result (Option ℕ) Fault
chunk_by s = chunk_in (value_of s (codes "--chunk"))

abbrev pub show_by : Split → Result Wanted Fault
show_by s = then_ask (one s (codes "COW")) (λ cow. if has s (codes "--human") then and_then (given_apart s (codes "--human") (codes "--json")) (λ _. Ok (Human cow)) else Ok (Show cow (form_by s)))

-- a map over an origin: a picture, where one is asked for, or ranges
abbrev pub pictures : Split → Bool
pictures s = is_some (value_of s (codes "--svg")) || has s (codes "--picture")

abbrev pub picture_by : Split → List ℕ → List ℕ → Result Wanted Fault
picture_by s origin cow = and_then (given_apart s (codes "--picture") (codes "--json")) (λ _. and_then (given_apart s (codes "--svg") (codes "--json")) (λ _. Ok (Picture origin cow (value_of s (codes "--svg")))))

abbrev pub map_over_by : Split → List ℕ → List ℕ → Form → Result Wanted Fault
map_over_by s origin cow form = and_then (given_apart s (codes "--over") (codes "--raw")) (λ _. if pictures s then picture_by s origin cow else Ok (Ranges origin cow form))

-- a map without: of all pairs, or of all slots
abbrev pub map_alone_by : Split → List ℕ → Result Wanted Fault
map_alone_by s cow = and_then (given_with s (codes "--picture") (codes "--over")) (λ _. and_then (given_with s (codes "--svg") (codes "--over")) (λ _. Ok (if has s (codes "--raw") then RawMap cow (form_by s) else Map cow (form_by s))))

abbrev pub map_of : Split → List ℕ → Option (List ℕ) → Result Wanted Fault
map_of s cow None = map_alone_by s cow
map_of s cow (Some origin) = map_over_by s origin cow (form_by s)

abbrev pub map_by : Split → Result Wanted Fault
map_by s = then_ask (one s (codes "COW")) (λ cow. map_of s cow (value_of s (codes "--over")))

abbrev pub check_by : Split → Result Wanted Fault
check_by s = then_ask (two s (codes "ORIGIN") (codes "COW")) (λ names. Ok (Check names.0 names.1 (form_by s)))

abbrev pub differ_by : Split → Result Wanted Fault
differ_by s = then_ask (two s (codes "ORIGIN") (codes "COW")) (λ names. Ok (Differ names.0 names.1 (form_by s)))

abbrev pub compare_by : Split → Result Wanted Fault
compare_by s = then_ask (two s (codes "A") (codes "B")) (λ names. Ok (Compare names.0 names.1 (form_by s)))

abbrev pub table_by : Split → Result Wanted Fault
table_by s = then_ask (two s (codes "ORIGIN") (codes "COW")) (λ names. Ok (Table names.0 names.1))

abbrev pub merge_by : Split → Result Wanted Fault
merge_by s = then_ask (two s (codes "ORIGIN") (codes "COW")) (λ names. Ok (Merge names.0 names.1 (has s (codes "--dry-run")) (form_by s)))

abbrev pub serve_by : Split → Result Wanted Fault
serve_by s = then_ask (two s (codes "ORIGIN") (codes "COW")) (λ names. Ok (Serve names.0 names.1 (has s (codes "--live"))))

-- an export: of a store that is good, or, where `--salvage` is given, of any; the two other options go with that
abbrev pub export_as : Split → List ℕ → List ℕ → List ℕ → Option ℕ → Result Wanted Fault
export_as s origin cow out chunk =
    if has s (codes "--salvage") then Ok (Salvage origin cow out chunk (has s (codes "--behind")) (form_by s))
    else (if has s (codes "--behind") then Err (Alone (codes "--behind"))
    else (if is_some chunk then Err (Alone (codes "--chunk")) else Ok (Export origin cow out (form_by s))))

abbrev pub export_by : Split → Result Wanted Fault
export_by s = then_ask (three s (codes "ORIGIN") (codes "COW") (codes "OUT")) (λ names. and_then (chunk_by s) (export_as s names.0 names.1 names.2))

abbrev pub repair_by : Split → Result Wanted Fault
repair_by s = then_ask (two s (codes "COW") (codes "NEW")) (λ names. and_then (chunk_by s) (λ chunk. Ok (Repair names.0 names.1 chunk (has s (codes "--behind")) (form_by s))))

abbrev pub store_by : Split → Result Wanted Fault
store_by s = then_ask (three s (codes "ORIGIN") (codes "SNAPSHOT") (codes "NEW")) (λ names. and_then (chunk_by s) (λ chunk. Ok (Store names.0 names.1 names.2 chunk)))

abbrev pub words_by : Split → Result Wanted Fault
words_by s = then_ask (two s (codes "NAME") (codes "IMAGE")) (λ names. if is_name names.0 then Ok (Words names.0 names.1) else Err (NoDisk names.0))

abbrev pub image_by : Split → Result Wanted Fault
image_by s = then_ask (one s (codes "OUT")) (λ out. Ok (Image out))

-- which options a command takes
abbrev pub options_by : List ℕ → List (List ℕ)
options_by command =
    if bytes_eq command (codes "show") then codes "--json" ∷ codes "--human" ∷ codes "--quiet" ∷ codes "-q" ∷ codes "--progress" ∷ []
    else (if bytes_eq command (codes "map") then codes "--json" ∷ codes "--raw" ∷ codes "--over" ∷ codes "--picture" ∷ codes "--svg" ∷ codes "--quiet" ∷ codes "-q" ∷ codes "--progress" ∷ []
    else (if bytes_eq command (codes "check") then codes "--json" ∷ codes "--quiet" ∷ codes "-q" ∷ codes "--progress" ∷ []
    else (if bytes_eq command (codes "diff") then codes "--json" ∷ codes "--quiet" ∷ codes "-q" ∷ codes "--progress" ∷ []
    else (if bytes_eq command (codes "compare") then codes "--json" ∷ codes "--quiet" ∷ codes "-q" ∷ codes "--progress" ∷ []
    else (if bytes_eq command (codes "table") then codes "--quiet" ∷ codes "-q" ∷ codes "--progress" ∷ []
    else (if bytes_eq command (codes "export") then codes "--json" ∷ codes "--salvage" ∷ codes "--chunk" ∷ codes "--behind" ∷ codes "--quiet" ∷ codes "-q" ∷ codes "--progress" ∷ []
    else (if bytes_eq command (codes "rollback") then codes "--json" ∷ codes "--quiet" ∷ codes "-q" ∷ codes "--progress" ∷ []
    else (if bytes_eq command (codes "merge") then codes "--json" ∷ codes "--dry-run" ∷ codes "--quiet" ∷ codes "-q" ∷ codes "--progress" ∷ []
    else (if bytes_eq command (codes "repair") then codes "--json" ∷ codes "--chunk" ∷ codes "--behind" ∷ codes "--quiet" ∷ codes "-q" ∷ codes "--progress" ∷ []
    else (if bytes_eq command (codes "store") then codes "--chunk" ∷ codes "--quiet" ∷ codes "-q" ∷ codes "--progress" ∷ []
    else (if bytes_eq command (codes "nbd") then codes "--live" ∷ []
    else [])))))))))))

-- the names of commands
abbrev pub is_command : List ℕ → Bool
is_command word = is_one_of (codes "show" ∷ codes "map" ∷ codes "check" ∷ codes "diff" ∷ codes "compare" ∷ codes "table" ∷ codes "export" ∷ codes "rollback" ∷ codes "merge" ∷ codes "repair" ∷ codes "store" ∷ codes "nbd" ∷ codes "words" ∷ codes "image" ∷ []) word

-- `help`: of the command whose name is behind it, or of all
abbrev pub help_of : List ℕ → Result Wanted Fault
help_of command = if is_command command then Ok (HelpOf command) else Err (OfLine (NoCommand command))

abbrev pub help_in : Split → Option (List ℕ) → Result Wanted Fault
help_in s None = Ok Help
help_in s (Some name) = then_ask (one s (codes "COMMAND")) help_of

abbrev pub help_by : Split → Result Wanted Fault
help_by s = help_in s (slice_get s.names 1)

-- `--help`: of the command beside which it stands, or of all
abbrev pub help_beside : Option (List ℕ) → Wanted
help_beside None = Help
help_beside (Some name) = if is_command name then HelpOf name else Help

-- a command by its name
abbrev pub command_by : Split → List ℕ → Result Wanted Fault
command_by s name =
    if bytes_eq name (codes "help") then help_by s
    else (if bytes_eq name (codes "show") then show_by s
    else (if bytes_eq name (codes "map") then map_by s
    else (if bytes_eq name (codes "check") then check_by s
    else (if bytes_eq name (codes "diff") then differ_by s
    else (if bytes_eq name (codes "compare") then compare_by s
    else (if bytes_eq name (codes "table") then table_by s
    else (if bytes_eq name (codes "export") || bytes_eq name (codes "rollback") then export_by s
    else (if bytes_eq name (codes "merge") then merge_by s
    else (if bytes_eq name (codes "repair") then repair_by s
    else (if bytes_eq name (codes "store") then store_by s
    else (if bytes_eq name (codes "nbd") then serve_by s
    else (if bytes_eq name (codes "words") then words_by s
    else (if bytes_eq name (codes "image") then image_by s
    else Err (OfLine (NoCommand name)))))))))))))))

-- words that are split: help and the version come before all else, and then the options of the command are all taken
abbrev pub request_asks : Split → Requested → Result Wanted Fault
request_asks s ForHelp = Ok (help_beside (slice_get s.names 0))
request_asks s ForVersion = Ok Version
request_asks s (ForCommand name) = then_ask (all_taken (options_by name) s) (λ none. command_by s name)

abbrev pub split_asks : Split → Result Wanted Fault
split_asks s = then_ask (requested s) (request_asks s)

-- all words, the first of which is the program's own name
abbrev pub asked_by : List (List ℕ) → Result Wanted Fault
asked_by words = split_asks (split_by valued (drop 1 words))

-- whether it is told how far a command is: not both never and always
abbrev pub telling_by : Split → Result Telling Fault
telling_by s =
    if has s (codes "--quiet") || has s (codes "-q")
    then (if has s (codes "--progress") then Err (Apart (codes "--progress") (codes "--quiet")) else Ok Never)
    else Ok (if has s (codes "--progress") then Always else Terminal)

abbrev pub told_telling : Result Telling Wrong → Result Telling Fault
told_telling answer = result_map_both (λ x. x) fault_of answer

-- what holds but where memory is refused
abbrev pub WithMemory : {A : Type 0} → Result A Wrong → Type 0 → Type 0
WithMemory (Err wrong.NoMemory) P = Unit {0}
WithMemory answer P = P
