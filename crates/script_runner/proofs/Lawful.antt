-- What a line says is lawful: its parts are such as the grammar asks for.
use Rattle.std.proofs.Common.{◌≡◌, ℕ, zero, suc, ◌+◌, ◌^◌, ◌≤◌, Bool, true, false, List, [], ◌∷◌, length, Option, Some, None, refl, inl, inr, arith, subst}
use Rattle.std.specs.Prelude.{IfOk, Result, Ok, Err, codes, nat_lt, nat_le, ◌==◌, ◌&&◌, not, if◌then◌else◌}
use Rattle.std.specs.List.{list_all}
use Rattle.std.proofs.lemmas.Bool.{cases_Bool}
use Rattle.std.specs.Str.{bytes_eq}
use borrow.Author.Tests.{tests}
use Rattle.sector.specs.declared.refusal.Refusal.{Refusal}
use Rattle.sector.specs.declared.refusal.Refusal.TheVariants.{BadTable}
use Rattle.chunk.specs.Sizes.{is_chunk}
use Rattle.words.specs.Given.{◌>>=◌}
use Rattle.words.specs.Words.{words_of}
use Rattle.words.specs.Names.{is_name, name_of}
use Rattle.words.specs.Numbers.{is_numeral, number_after, numeral_of}
use Rattle.words.proofs.Bools.{and-split, and-join}
use Rattle.table.specs.declared.lines.Line.{Line}
use Rattle.table.specs.declared.lines.Target.{Target}
use Rattle.table.specs.declared.lines.Target.TheVariants.{Flakey, Dust}
use Rattle.table.specs.Grammar.{times, are_features, features_among, features_in, seconds_of, is_block, are_none, overflow_of, store_in, origin_in, snapshot_in, merge_in, flakey_in, dust_in, error_in, target_in, line_in}
use Rattle.table.specs.Lawful.{IsTarget, is_target, is_line}
use Rattle.command.specs.declared.grammar.Command.{Command}
use Rattle.command.specs.declared.grammar.Command.TheVariants.{Message}
use Rattle.command.specs.Grammar.{span_of, patch_of, alone_of, is_merge, made_line_of, amount_of, place_of, disk_of, create_of, copy_of, list_of, message_of, tick_of, start_of, step_of, stop_of, command_of}
use Rattle.command.specs.Messages.{message_in}
use Rattle.command.specs.Events.{event_in}
use Rattle.command.specs.Line.{is_silent, is_printable, said_of}
use Rattle.script_runner.specs.Lawful.{is_lawful}

-- what follows an answer
follows : {A B : Type 0} (first : Result A Refusal) (next : A → Result B Refusal) (P : A → Type 0) (Q : B → Type 0) → IfOk first P → ((x : A) → P x → IfOk (next x) Q) → IfOk (first >>= next) Q
follows (Ok x) next P Q p f = f x p
follows (Err e) next P Q p f = tt

-- whatever the answer is
after : {A B : Type 0} (first : Result A Refusal) (next : A → Result B Refusal) (Q : B → Type 0) → ((x : A) → IfOk (next x) Q) → IfOk (first >>= next) Q
after (Ok x) next Q f = f x
after (Err e) next Q f = tt

either : {A : Type 0} (b : Bool) (x y : Result A Refusal) (Q : A → Type 0) → (b ≡ true → IfOk x Q) → IfOk y Q → IfOk (if b then x else y) Q
either true x y Q passed failed = passed refl
either false x y Q passed failed = failed

name_lawful : (word : List ℕ) → IfOk (name_of word) (λ name. is_name name ≡ true)
name_lawful word = either (is_name word) (Ok word) _ (λ name. is_name name ≡ true) (λ is. is) tt

numeral_small : (word : List ℕ) → IfOk (numeral_of word) (λ n. nat_lt n (2 ^ 32) ≡ true)
numeral_small word = elim (cases_Bool (is_numeral word && nat_lt (number_after 0 word) (2 ^ 32))) [
  | inl small ↦ rw small ((and-split (is_numeral word) (nat_lt (number_after 0 word) (2 ^ 32)) small).1)
  | inr large ↦ rw large tt
]

seconds_small : (word : List ℕ) → IfOk (seconds_of word) (λ n. nat_lt n (2 ^ 31) ≡ true)
seconds_small word = after (numeral_of word) _ (λ n. nat_lt n (2 ^ 31) ≡ true) (λ n. either (nat_lt n (2 ^ 31)) (Ok n) _ (λ k. nat_lt k (2 ^ 31) ≡ true) (λ is. is) tt)

-- a line does not say both
one_of_two : (w d : ℕ) → nat_le (w + d) 1 ≡ true → not ((w == 1) && (d == 1)) ≡ true
one_of_two zero d few = refl
one_of_two (suc zero) zero few = refl
one_of_two (suc zero) (suc d) few = let small : suc zero + suc d ≤ 1 = grind (arith, tests) in absurd (omega (arith, small))
one_of_two (suc (suc w)) d few = let small : suc (suc w) + d ≤ 1 = grind (arith, tests) in absurd (omega (arith, small))

features_lawful : (words : List (List ℕ)) → IfOk (features_in words) (λ f. not (f.error_writes && f.drop_writes) ≡ true)
features_lawful [] = refl
features_lawful (count ∷ words) = after (numeral_of count) _ (λ f. not (f.error_writes && f.drop_writes) ≡ true) (λ n.
    either ((n == length words) && are_features words) (Ok (features_among words)) _ (λ f. not (f.error_writes && f.drop_writes) ≡ true) (λ is.
    let counted = (and-split (n == length words) (are_features words) is).1 in
    one_of_two (times (codes "error_writes") words) (times (codes "drop_writes") words) (and-split _ (nat_le (times (codes "error_writes") words + times (codes "drop_writes") words) 1) counted).1) tt)

-- the target of a line
origin_lawful : (words : List (List ℕ)) → IfOk (origin_in words) IsTarget
origin_lawful [] = tt
origin_lawful (device ∷ []) = follows (name_of device) _ (λ name. is_name name ≡ true) IsTarget (name_lawful device) (λ name is. is)
origin_lawful (device ∷ word ∷ words) = tt

-- both names and the chunk size
abbrev IsStore : List ℕ × List ℕ × ℕ × Bool → Type 0
IsStore s = (is_name s.0 && is_name s.1 && is_chunk s.2) ≡ true

store_lawful : (words : List (List ℕ)) → IfOk (store_in words) IsStore
store_lawful [] = tt
store_lawful (device ∷ []) = tt
store_lawful (device ∷ store ∷ []) = tt
store_lawful (device ∷ store ∷ persistent ∷ []) = tt
store_lawful (device ∷ store ∷ persistent ∷ chunk ∷ features) =
    follows (name_of device) _ (λ name. is_name name ≡ true) IsStore (name_lawful device) (λ d is_d.
    follows (name_of store) _ (λ name. is_name name ≡ true) IsStore (name_lawful store) (λ s is_s.
    after (overflow_of persistent) _ IsStore (λ o.
    after (numeral_of chunk) _ IsStore (λ c.
    either (are_none features) _ _ IsStore (λ is.
    either (is_chunk c) (Ok (d, s, c, o)) _ IsStore (λ is_c. and-join (is_name d && is_name s) (is_chunk c) (and-join (is_name d) (is_name s) is_d is_s) is_c) tt) tt))))

snapshot_lawful : (words : List (List ℕ)) → IfOk (snapshot_in words) IsTarget
snapshot_lawful words = follows (store_in words) _ IsStore IsTarget (store_lawful words) (λ s is. is)

merge_lawful : (words : List (List ℕ)) → IfOk (merge_in words) IsTarget
merge_lawful words = follows (store_in words) _ IsStore IsTarget (store_lawful words) (λ s is. is)

flakey_lawful : (words : List (List ℕ)) → IfOk (flakey_in words) IsTarget
flakey_lawful [] = tt
flakey_lawful (device ∷ []) = tt
flakey_lawful (device ∷ offset ∷ []) = tt
flakey_lawful (device ∷ offset ∷ up ∷ []) = tt
flakey_lawful (device ∷ offset ∷ up ∷ down ∷ words) =
    follows (name_of device) _ (λ name. is_name name ≡ true) IsTarget (name_lawful device) (λ d is_d.
    follows (numeral_of offset) _ (λ n. nat_lt n (2 ^ 32) ≡ true) IsTarget (numeral_small offset) (λ o is_o.
    follows (seconds_of up) _ (λ n. nat_lt n (2 ^ 31) ≡ true) IsTarget (seconds_small up) (λ u is_u.
    follows (seconds_of down) _ (λ n. nat_lt n (2 ^ 31) ≡ true) IsTarget (seconds_small down) (λ n is_n.
    follows (features_in words) _ (λ f. not (f.error_writes && f.drop_writes) ≡ true) IsTarget (features_lawful words) (λ f is_f.
    either (nat_lt 0 (u + n)) (Ok (Flakey d o u n f)) _ IsTarget (λ some.
    and-join _ _ (and-join _ _ (and-join _ _ (and-join _ _ (and-join _ _ is_d is_o) is_u) is_n) some) is_f) tt)))))

dust_lawful : (words : List (List ℕ)) → IfOk (dust_in words) IsTarget
dust_lawful [] = tt
dust_lawful (device ∷ []) = tt
dust_lawful (device ∷ offset ∷ []) = tt
dust_lawful (device ∷ offset ∷ block ∷ []) =
    follows (name_of device) _ (λ name. is_name name ≡ true) IsTarget (name_lawful device) (λ d is_d.
    after (numeral_of block) _ IsTarget (λ b.
    either (bytes_eq offset (codes "0") && is_block b) (Ok (Dust d b)) _ IsTarget (λ is.
    and-join (is_name d) (is_block b) is_d (and-split (bytes_eq offset (codes "0")) (is_block b) is).1) tt))
dust_lawful (device ∷ offset ∷ block ∷ word ∷ words) = tt

error_lawful : (words : List (List ℕ)) → IfOk (error_in words) IsTarget
error_lawful [] = refl
error_lawful (word ∷ words) = tt

target_lawful : (kind : List ℕ) (words : List (List ℕ)) → IfOk (target_in kind words) IsTarget
target_lawful kind words =
    either (bytes_eq kind (codes "snapshot-origin")) _ _ IsTarget (λ is. origin_lawful words)
    (either (bytes_eq kind (codes "snapshot")) _ _ IsTarget (λ is. snapshot_lawful words)
    (either (bytes_eq kind (codes "snapshot-merge")) _ _ IsTarget (λ is. merge_lawful words)
    (either (bytes_eq kind (codes "flakey")) _ _ IsTarget (λ is. flakey_lawful words)
    (either (bytes_eq kind (codes "dust")) _ _ IsTarget (λ is. dust_lawful words)
    (either (bytes_eq kind (codes "error")) _ _ IsTarget (λ is. error_lawful words) tt)))))

-- a line
abbrev IsLine : Line → Type 0
IsLine line = is_line line ≡ true

line_lawful : (words : List (List ℕ)) → IfOk (line_in words) IsLine
line_lawful [] = tt
line_lawful (first ∷ []) = tt
line_lawful (first ∷ sectors ∷ []) = tt
line_lawful (first ∷ sectors ∷ kind ∷ words) =
    either (bytes_eq first (codes "0")) _ _ IsLine (λ is.
    follows (numeral_of sectors) _ (λ n. nat_lt n (2 ^ 32) ≡ true) IsLine (numeral_small sectors) (λ n is_n.
    follows (target_in kind words) _ IsTarget IsLine (target_lawful kind words) (λ t is_t. and-join (nat_lt n (2 ^ 32)) (is_target t) is_n is_t))) tt

-- a command
abbrev IsLawful : Command → Type 0
IsLawful command = is_lawful command ≡ true

create_lawful : (words : List (List ℕ)) → IfOk (create_of words) IsLawful
create_lawful [] = tt
create_lawful (name ∷ words) =
    after (name_of name) _ IsLawful (λ n.
    follows (made_line_of words) _ IsLine IsLawful (made_lawful (is_merge words)) (λ line is. is))
  where
    made_lawful : (merge : Bool) → IfOk (if merge then Err BadTable else line_in words) IsLine
    made_lawful true = tt
    made_lawful false = line_lawful words

disk_lawful : (words : List (List ℕ)) → IfOk (disk_of words) IsLawful
disk_lawful [] = tt
disk_lawful (name ∷ []) = tt
disk_lawful (name ∷ sectors ∷ []) = after (name_of name) _ IsLawful (λ n. after (numeral_of sectors) _ IsLawful (λ s. refl))
disk_lawful (name ∷ sectors ∷ word ∷ words) = tt

copy_lawful : (words : List (List ℕ)) → IfOk (copy_of words) IsLawful
copy_lawful [] = tt
copy_lawful (from ∷ []) = tt
copy_lawful (from ∷ first ∷ []) = tt
copy_lawful (from ∷ first ∷ to ∷ words) =
    after (place_of from first) _ IsLawful (λ p. after (name_of to) _ IsLawful (λ t. after (amount_of words) _ IsLawful (λ n. refl)))

list_lawful : (words : List (List ℕ)) → IfOk (list_of words) IsLawful
list_lawful [] = refl
list_lawful (word ∷ words) = tt

message_lawful : (words : List (List ℕ)) → IfOk (message_of words) IsLawful
message_lawful [] = tt
message_lawful (device ∷ []) = tt
message_lawful (device ∷ sector ∷ words) =
    after (name_of device) _ IsLawful (λ d.
    after (message_in words) _ IsLawful (λ m.
    either (bytes_eq sector (codes "0")) (Ok (Message d m)) _ IsLawful (λ is. refl) tt))

tick_lawful : (words : List (List ℕ)) → IfOk (tick_of words) IsLawful
tick_lawful [] = tt
tick_lawful (seconds ∷ []) = after (numeral_of seconds) _ IsLawful (λ s. refl)
tick_lawful (seconds ∷ word ∷ words) = tt

step_lawful : (words : List (List ℕ)) → IfOk (step_of words) IsLawful
step_lawful [] = tt
step_lawful (volume ∷ words) = after (name_of volume) _ IsLawful (λ v. after (event_in words) _ IsLawful (λ e. refl))

start_lawful : (words : List (List ℕ)) → IfOk (start_of words) IsLawful
start_lawful [] = tt
start_lawful (device ∷ []) = tt
start_lawful (device ∷ kind ∷ words) =
    either (bytes_eq kind (codes "read")) _ _ IsLawful (λ is. after (span_of (device ∷ words)) _ IsLawful (λ span. refl))
    (either (bytes_eq kind (codes "write")) _ _ IsLawful (λ is. after (patch_of (device ∷ words)) _ IsLawful (λ patch. refl)) tt)

stop_lawful : (words : List (List ℕ)) → IfOk (stop_of words) IsLawful
stop_lawful [] = tt
stop_lawful (volume ∷ []) = after (name_of volume) _ IsLawful (λ v. refl)
stop_lawful (volume ∷ word ∷ []) = either (bytes_eq word (codes "lose")) _ _ IsLawful (λ is. after (name_of volume) _ IsLawful (λ v. refl)) tt
stop_lawful (volume ∷ word ∷ more ∷ words) = tt

command_lawful : (words : List (List ℕ)) → IfOk (command_of words) IsLawful
command_lawful [] = tt
command_lawful (verb ∷ words) =
    either (bytes_eq verb (codes "disk")) _ _ IsLawful (λ is. disk_lawful words)
    (either (bytes_eq verb (codes "create")) _ _ IsLawful (λ is. create_lawful words)
    (either (bytes_eq verb (codes "remove")) _ _ IsLawful (λ is. after (alone_of words) _ IsLawful (λ name. refl))
    (either (bytes_eq verb (codes "load")) _ _ IsLawful (λ is. after (patch_of words) _ IsLawful (λ patch. refl))
    (either (bytes_eq verb (codes "save")) _ _ IsLawful (λ is. after (span_of words) _ IsLawful (λ span. refl))
    (either (bytes_eq verb (codes "copy")) _ _ IsLawful (λ is. copy_lawful words)
    (either (bytes_eq verb (codes "ls")) _ _ IsLawful (λ is. list_lawful words)
    (either (bytes_eq verb (codes "message")) _ _ IsLawful (λ is. message_lawful words)
    (either (bytes_eq verb (codes "tick")) _ _ IsLawful (λ is. tick_lawful words)
    (either (bytes_eq verb (codes "read")) _ _ IsLawful (λ is. after (span_of words) _ IsLawful (λ span. refl))
    (either (bytes_eq verb (codes "write")) _ _ IsLawful (λ is. after (patch_of words) _ IsLawful (λ patch. refl))
    (either (bytes_eq verb (codes "flush")) _ _ IsLawful (λ is. after (alone_of words) _ IsLawful (λ name. refl))
    (either (bytes_eq verb (codes "start")) _ _ IsLawful (λ is. start_lawful words)
    (either (bytes_eq verb (codes "step")) _ _ IsLawful (λ is. step_lawful words)
    (either (bytes_eq verb (codes "settle")) _ _ IsLawful (λ is. after (alone_of words) _ IsLawful (λ name. refl))
    (either (bytes_eq verb (codes "merge")) _ _ IsLawful (λ is. after (alone_of words) _ IsLawful (λ name. refl))
    (either (bytes_eq verb (codes "resume")) _ _ IsLawful (λ is. after (alone_of words) _ IsLawful (λ name. refl))
    (either (bytes_eq verb (codes "finish")) _ _ IsLawful (λ is. after (alone_of words) _ IsLawful (λ name. refl))
    (either (bytes_eq verb (codes "checkpoint")) _ _ IsLawful (λ is. after (alone_of words) _ IsLawful (λ name. refl))
    (either (bytes_eq verb (codes "stop")) _ _ IsLawful (λ is. stop_lawful words)
    (either (bytes_eq verb (codes "status")) _ _ IsLawful (λ is. after (alone_of words) _ IsLawful (λ name. refl))
    (either (bytes_eq verb (codes "table")) _ _ IsLawful (λ is. after (alone_of words) _ IsLawful (λ name. refl))
    (either (bytes_eq verb (codes "map")) _ _ IsLawful (λ is. after (alone_of words) _ IsLawful (λ name. refl)) tt))))))))))))))))))))))

-- what a line says, if it says anything
abbrev IsSaidLawful : Option Command → Type 0
IsSaidLawful None = Unit {0}
IsSaidLawful (Some command) = IsLawful command

said_lawful : (max : ℕ) (line : List ℕ) → IfOk (said_of max line) IsSaidLawful
unfolding said_of
said_lawful max line =
    either (nat_lt max (length line)) _ _ IsSaidLawful (λ long. tt)
    (either (is_silent line) _ _ IsSaidLawful (λ silent. tt)
    (either (list_all is_printable line) _ _ IsSaidLawful (λ text. follows (command_of (words_of line)) _ IsLawful IsSaidLawful (command_lawful (words_of line)) (λ command is. is)) tt))

-- a command that a line says
pub command_said : (max : ℕ) (line : List ℕ) (command : Command) → said_of max line ≡ Ok (Some command) → is_lawful command ≡ true
command_said max line command is =
    let P : Result (Option Command) Refusal → Type 0 = λ said. IfOk said IsSaidLawful in subst P is (said_lawful max line)
