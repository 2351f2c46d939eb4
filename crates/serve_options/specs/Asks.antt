-- What the words of a command line ask for.
use Rattle.std.specs.Prelude.{ℕ, Bool, true, false, List, [], ◌∷◌, map, codes, Option, Some, None, Result, Ok, Err, slice_get, if◌then◌else◌}
use Rattle.std.specs.Str.{bytes_eq}
use Rattle.std.specs.Result.{result_map_both}
use Rattle.chunk.specs.Sizes.{is_chunk}
use Rattle.words.specs.Numbers.{number_of}
use Rattle.serve_options.specs.declared.asked.Asked.{Asked}
use Rattle.serve_options.specs.declared.asked.Asked.TheVariants as asked
use Rattle.serve_options.specs.declared.wrong.Wrong.{Wrong}
use Rattle.serve_options.specs.declared.wrong.Wrong.TheVariants as wrong
use Rattle.serve_options.specs.Exports.{first_unfit, has_export, last_part}
use Rattle.serve_options.specs.Sizes.{size_by}
use Rattle.serve_options.specs.Splits.{Split}
use Rattle.option_parser.specs.Splits.{Split as LineSplit, has, value_of}
use Rattle.option_parser.specs.Reading.{text_of, text_in}
use Rattle.option_parser.specs.Asks.{Fault as LineFault, fault_of as line_fault_of, NoCommand, Requested, ForHelp, ForVersion, ForCommand, requested, and_then, one, two, all_taken}

-- what is asked for, by the bytes of names
pub data Wanted : Type 0 where
  Help : Wanted
  Version : Wanted
  New : (cow : List ℕ) (bytes : ℕ) → Wanted
  Take : (origin cow : List ℕ) (chunk : ℕ) → Wanted
  Serve : (origin : List ℕ) (cows : List (List ℕ)) (merge : Option (List ℕ)) (chunk : ℕ) (refuse anyway : Bool) → Wanted

-- what is wrong, by the bytes of words
pub data Fault : Type 0 where
  OfLine : (fault : LineFault) → Fault
  NoChunk : (word : List ℕ) → Fault
  NoSize : (word : List ℕ) → Fault
  NotFull : (word : List ℕ) → Fault
  Ninth : (cow : List ℕ) → Fault
  SecondMerge : (cow : List ℕ) → Fault
  MergedToo : (cow : List ℕ) → Fault
  Unfit : (cow : List ℕ) → Fault

abbrev pub wanted_of : Asked → Wanted
wanted_of asked.Help = Help
wanted_of asked.Version = Version
wanted_of (asked.New cow bytes) = New cow.now bytes
wanted_of (asked.Take origin cow chunk) = Take origin.now cow.now chunk
wanted_of (asked.Serve origin cows merge chunk refuse anyway) = Serve origin.now (map text_of cows.now) (text_in merge) chunk refuse anyway

abbrev pub fault_of : Wrong → Fault
fault_of (wrong.Line fault) = OfLine (line_fault_of fault)
fault_of (wrong.Chunk word) = NoChunk word.now
fault_of (wrong.Size word) = NoSize word.now
fault_of (wrong.Full word) = NotFull word.now
fault_of (wrong.Snapshot word) = Ninth word.now
fault_of (wrong.Merge word) = SecondMerge word.now
fault_of (wrong.Both word) = MergedToo word.now
fault_of (wrong.Export word) = Unfit word.now

-- what is answered, and what an option gives
abbrev pub told : Result Asked Wrong → Result Wanted Fault
told answer = result_map_both wanted_of fault_of answer

abbrev pub told_chunk : Result ℕ Wrong → Result ℕ Fault
told_chunk answer = result_map_both (λ x. x) fault_of answer

abbrev pub told_full : Result Bool Wrong → Result Bool Fault
told_full answer = result_map_both (λ x. x) fault_of answer

abbrev pub told_store : Option Wrong → Option Fault
told_store None = None
told_store (Some wrong) = Some (fault_of wrong)

-- what follows where nothing is wrong with the line
abbrev pub then_ask : {A B : Type 0} → Result A LineFault → (A → Result B Fault) → Result B Fault
then_ask (Ok a) next = next a
then_ask (Err fault) next = Err (OfLine fault)

-- the sectors of a chunk: a power of two from 1 to 1024, and 8 where none are given
abbrev pub chunk_from : List ℕ → Option ℕ → Result ℕ Fault
chunk_from word None = Err (NoChunk word)
chunk_from word (Some n) = if is_chunk n then Ok n else Err (NoChunk word)

abbrev pub chunk_in : Option (List ℕ) → Result ℕ Fault
chunk_in None = Ok 8
chunk_in (Some word) = chunk_from word (number_of word)

abbrev pub chunk_by : LineSplit → Result ℕ Fault
chunk_by s = chunk_in (value_of s (codes "--chunk"))

-- whether a write of a snapshot that finds its store full is refused
abbrev pub full_in : Option (List ℕ) → Result Bool Fault
full_in None = Ok false
full_in (Some word) = if bytes_eq word (codes "refuse") then Ok true else Err (NotFull word)

abbrev pub full_by : LineSplit → Result Bool Fault
full_by s = full_in (value_of s (codes "--full"))

-- an empty store, of a size that one may have
abbrev pub new_from : List ℕ → List ℕ → Option ℕ → Result Wanted Fault
new_from cow size None = Err (NoSize size)
new_from cow size (Some bytes) = Ok (New cow bytes)

abbrev pub new_by : Split → Result Wanted Fault
new_by s = then_ask (two s.line (codes "COW") (codes "SIZE")) (λ names. new_from names.0 names.1 (size_by names.1))

abbrev pub take_by : Split → Result Wanted Fault
take_by s = then_ask (two s.line (codes "ORIGIN") (codes "COW")) (λ names. and_then (chunk_by s.line) (λ chunk. Ok (Take names.0 names.1 chunk)))

-- the exports of snapshots have names of their own
abbrev pub fit_by : Option (List ℕ) → Option Fault
fit_by None = None
fit_by (Some cow) = Some (Unfit cow)

-- there are eight stores at most
abbrev pub eight_by : List (List ℕ) → Option (List ℕ) → Option Fault
eight_by snapshots None = fit_by (first_unfit [] snapshots)
eight_by snapshots (Some cow) = Some (Ninth cow)

-- one that is merged has the name of no snapshot
abbrev pub apart_by : List (List ℕ) → Option Fault → Option (List ℕ) → Option Fault
apart_by snapshots others None = others
apart_by snapshots others (Some cow) = if has_export snapshots (last_part [] cow) then Some (MergedToo cow) else others

-- one is merged at most
abbrev pub one_by : Option Fault → Option (List ℕ) → Option Fault
one_by others None = others
one_by others (Some cow) = Some (SecondMerge cow)

-- what is wrong with the stores, the first of these
abbrev pub wrong_store : Split → Option Fault
wrong_store s = one_by (apart_by s.snapshots (eight_by s.snapshots (slice_get s.cows 8)) (slice_get s.merges 0)) (slice_get s.merges 1)

abbrev pub unless_wrong : Option Fault → Wanted → Result Wanted Fault
unless_wrong None wanted = Ok wanted
unless_wrong (Some fault) wanted = Err fault

abbrev pub serve_with : Split → List ℕ → ℕ → Bool → Wanted
serve_with s origin chunk refuse = Serve origin s.cows (slice_get s.merges 0) chunk refuse (has s.line (codes "--anyway"))

abbrev pub serve_by : Split → Result Wanted Fault
serve_by s = then_ask (one s.line (codes "ORIGIN")) (λ origin. and_then (chunk_by s.line) (λ chunk. and_then (full_by s.line) (λ refuse. unless_wrong (wrong_store s) (serve_with s origin chunk refuse))))

-- which options a command takes
abbrev pub options_by : List ℕ → List (List ℕ)
options_by command =
    if bytes_eq command (codes "take") then codes "--chunk" ∷ []
    else (if bytes_eq command (codes "serve") then codes "--anyway" ∷ codes "--chunk" ∷ codes "--full" ∷ codes "--merge" ∷ codes "--snapshot" ∷ []
    else [])

-- a command by its name
abbrev pub command_by : Split → List ℕ → Result Wanted Fault
command_by s name =
    if bytes_eq name (codes "help") then Ok Help
    else (if bytes_eq name (codes "new") then new_by s
    else (if bytes_eq name (codes "take") then take_by s
    else (if bytes_eq name (codes "serve") then serve_by s
    else Err (OfLine (NoCommand name)))))

-- help and the version come before all else, and then the options of the command are all taken
abbrev pub request_asks : Split → Requested → Result Wanted Fault
request_asks s ForHelp = Ok Help
request_asks s ForVersion = Ok Version
request_asks s (ForCommand name) = then_ask (all_taken (options_by name) s.line) (λ none. command_by s name)

-- words that are split
abbrev pub asked_by : Split → Result Wanted Fault
asked_by s = then_ask (requested s.line) (request_asks s)
