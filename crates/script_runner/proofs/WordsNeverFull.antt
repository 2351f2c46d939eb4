-- No line is refused for its words because a journal is full.
use Rattle.std.proofs.Common.{◌≡◌, ℕ, List, [], ◌∷◌, Option, Some, None, refl}
use Rattle.words.specs.Numbers.{number_of, numeral_of}
use Rattle.words.specs.Names.{name_of}
use Rattle.table.specs.Grammar.{features_in, seconds_of, origin_in, overflow_of, store_in, flakey_in, dust_in, error_in, target_in, line_in}
use Rattle.command.specs.Messages.{message_in}
use Rattle.command.specs.Events.{event_of, merge_event_of, event_in}
use Rattle.command.specs.Grammar.{span_of, patch_of, alone_of, disk_of, create_of, copy_of, list_of, message_of, tick_of, start_of, step_of, stop_of, volume_command_of, command_of}
use Rattle.command.specs.Line.{said_of}
use Rattle.device_commands.proofs.NeverFull.{IsNeverFull, never}

name_never : (word : List ℕ) → IsNeverFull (name_of word)
name_never word = search never

numeral_never : (word : List ℕ) → IsNeverFull (numeral_of word)
numeral_never word = go (number_of word) refl
  where
    go : (o : Option ℕ) → number_of word ≡ o → IsNeverFull (numeral_of word)
    go None is = rw is (search never)
    go (Some n) is = rw is (search never)

-- table lines
features_never : (words : List (List ℕ)) → IsNeverFull (features_in words)
features_never [] = search never
features_never (count ∷ words) = search (never, numeral_never)

seconds_never : (word : List ℕ) → IsNeverFull (seconds_of word)
seconds_never word = search (never, numeral_never)

origin_never : (words : List (List ℕ)) → IsNeverFull (origin_in words)
origin_never (device ∷ []) = search (never, name_never)
origin_never words = search never

overflow_never : (word : List ℕ) → IsNeverFull (overflow_of word)
overflow_never word = search never

store_never : (words : List (List ℕ)) → IsNeverFull (store_in words)
store_never (device ∷ store ∷ persistent ∷ chunk ∷ features) = search (never, name_never, numeral_never, overflow_never) depth 12
store_never words = search never

flakey_never : (words : List (List ℕ)) → IsNeverFull (flakey_in words)
flakey_never (device ∷ offset ∷ up ∷ down ∷ words) = search (never, name_never, numeral_never, seconds_never, features_never) depth 12
flakey_never words = search never

dust_never : (words : List (List ℕ)) → IsNeverFull (dust_in words)
dust_never (device ∷ offset ∷ block ∷ []) = search (never, name_never, numeral_never) depth 12
dust_never words = search never

error_never : (words : List (List ℕ)) → IsNeverFull (error_in words)
error_never [] = search never
error_never words = search never

target_never : (kind : List ℕ) (words : List (List ℕ)) → IsNeverFull (target_in kind words)
target_never kind words = search (never, origin_never, store_never, flakey_never, dust_never, error_never) depth 12

line_never : (words : List (List ℕ)) → IsNeverFull (line_in words)
line_never (first ∷ sectors ∷ kind ∷ words) = search (never, numeral_never, target_never) depth 12
line_never words = search never

-- what several commands share
span_never : (words : List (List ℕ)) → IsNeverFull (span_of words)
span_never (name ∷ first ∷ count ∷ []) = search (never, name_never, numeral_never) depth 12
span_never (name ∷ first ∷ words) = search (never, name_never, numeral_never) depth 12
span_never words = search never

patch_never : (words : List (List ℕ)) → IsNeverFull (patch_of words)
patch_never (name ∷ first ∷ words) = search (never, name_never, numeral_never) depth 16
patch_never words = search never

alone_never : (words : List (List ℕ)) → IsNeverFull (alone_of words)
alone_never (name ∷ []) = search (never, name_never)
alone_never words = search never

-- each command
disk_never : (words : List (List ℕ)) → IsNeverFull (disk_of words)
disk_never (name ∷ sectors ∷ []) = search (never, name_never, numeral_never)
disk_never words = search never

create_never : (words : List (List ℕ)) → IsNeverFull (create_of words)
create_never (name ∷ words) = search (never, name_never, line_never) depth 12
create_never words = search never

copy_never : (words : List (List ℕ)) → IsNeverFull (copy_of words)
copy_never (from ∷ first ∷ to ∷ count ∷ []) = search (never, name_never, numeral_never) depth 16
copy_never (from ∷ first ∷ to ∷ words) = search (never, name_never, numeral_never) depth 16
copy_never words = search never

list_never : (words : List (List ℕ)) → IsNeverFull (list_of words)
list_never [] = search never
list_never words = search never

message_in_never : (words : List (List ℕ)) → IsNeverFull (message_in words)
message_in_never (kind ∷ []) = search never depth 12
message_in_never (kind ∷ block ∷ []) = search (never, numeral_never) depth 12
message_in_never words = search never

message_never : (words : List (List ℕ)) → IsNeverFull (message_of words)
message_never (device ∷ sector ∷ words) = search (never, name_never, message_in_never) depth 12
message_never words = search never

tick_never : (words : List (List ℕ)) → IsNeverFull (tick_of words)
tick_never (seconds ∷ []) = search (never, numeral_never)
tick_never words = search never

start_never : (words : List (List ℕ)) → IsNeverFull (start_of words)
start_never (device ∷ kind ∷ words) = search (never, span_never, patch_never) depth 12
start_never words = search never

event_never : (kind subject : List ℕ) → IsNeverFull (event_of kind subject)
unfolding event_of
event_never kind subject = search (never, name_never, numeral_never) depth 16

merge_event_never : (kind : List ℕ) → IsNeverFull (merge_event_of kind)
unfolding merge_event_of
merge_event_never kind = search never depth 16

event_in_never : (words : List (List ℕ)) → IsNeverFull (event_in words)
event_in_never (kind ∷ []) = merge_event_never kind
event_in_never (kind ∷ subject ∷ []) = event_never kind subject
event_in_never words = search never

step_never : (words : List (List ℕ)) → IsNeverFull (step_of words)
step_never (volume ∷ words) = search (never, name_never, event_in_never)
step_never words = search never

stop_never : (words : List (List ℕ)) → IsNeverFull (stop_of words)
stop_never (volume ∷ []) = search (never, name_never)
stop_never (volume ∷ word ∷ []) = search (never, name_never)
stop_never words = search never

volume_command_never : (verb : List ℕ) (words : List (List ℕ)) → IsNeverFull (volume_command_of verb words)
volume_command_never verb words = search (never, start_never, step_never, alone_never, stop_never) depth 20

command_never : (words : List (List ℕ)) → IsNeverFull (command_of words)
command_never [] = search never
command_never (verb ∷ words) = search (never, disk_never, create_never, alone_never, patch_never, span_never, copy_never, list_never, message_never, tick_never, volume_command_never) depth 20

pub said_never : (max : ℕ) (line : List ℕ) → IsNeverFull (said_of max line)
unfolding said_of
said_never max line = search (never, command_never) depth 12
