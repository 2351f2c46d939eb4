-- A run, line by line.
use Rattle.std.proofs.Common.{◌≡◌, ℕ, suc, ◌+◌, length, true, false, List, [], ◌∷◌, ◌++◌, Option, Some, None, refl, sym, ap, ◌∙◌, arith, inl, inr, subst, append_assoc}
use Rattle.std.specs.Prelude.{◌&&◌, Bool, not, IfSome, IfErr, Result, Ok, Err}
use Rattle.std.specs.List.{count_by}
use Rattle.std.specs.Io.KnownBytes.{Appends, Keeps}
use Rattle.std.proofs.lemmas.List.{append-nil}
use Rattle.std.proofs.lemmas.Grind.{flat_map-append}
use Rattle.words.proofs.Bools.{and-split}
use Rattle.words.proofs.Written.{appends_more}
use Rattle.words.specs.Lines.{left, lines_of, ReadsLine}
use Rattle.command.specs.Blocks.{Lines}
use Rattle.command.specs.Opening.{is_par}
use Rattle.command_replies.specs.declared.command_reply.CommandReply.{CommandReply}
use Rattle.command_replies.specs.Texts.{text_of}
use Rattle.script_runner.specs.declared.error.RunError.{RunError}
use Rattle.script_runner.specs.declared.summary.Summary.{Summary}
use Rattle.script_runner.specs.declared.error.RunError.TheVariants.{Memory, Read, Write, Endless}
use Rattle.script_runner.specs.Exit.{IsEarly, IsStreams, IsWriters}
use Rattle.command_semantics.specs.Sound.{is_sound}
use Rattle.command_semantics.specs.State.{Table}
use Rattle.script_runner.specs.Runs.{AreDone, IsNext, IsTextBegun, IsTextDone, begun}
use Rattle.script_runner.specs.Sessions.{IsEndedBy, Sitting}
use Rattle.script_runner.specs.Sound.{is_alone_line, is_sound_line, are_sound_lines, is_sound_text}
use Rattle.script_runner.specs.Counts.{summary_of, refuses_with}
use Rattle.script_runner.specs.Output.{LineOutcome, Standing, outcome_of, replies_from, replies_of, output_of, printed, empty, MayAnswer, counted, followed}
use Rattle.script_runner.proofs.CountLemmas.{all_counted, count_append, none_counted, none_full}
use Rattle.script_runner.proofs.KeptLemmas.{next_kept}
use Rattle.script_runner.proofs.RuledLemmas.{line_ruled}

-- the lines so far were done, where the bytes of the text are known
abbrev pub IsOn : Option (List ℕ) → Option (List ℕ) → Sitting → List CommandReply → Type 0
IsOn None left sitting replies = Unit {0}
IsOn (Some text) None sitting replies = ⊥
IsOn (Some text) (Some left) sitting replies = (first : List (List ℕ)) × (lines_of text ≡ first ++ lines_of left) × AreDone begun first replies sitting

-- and their replies were printed and counted
abbrev pub Follows : Option (List ℕ) → Option (List ℕ) → Option (List ℕ) → Option (List ℕ) → Sitting → Type 0
Follows text left before now sitting = (replies : List CommandReply)
    × Appends before now (printed replies) × (sitting.desk.summary ≡ summary_of replies) × IsOn text left sitting replies

pub nothing_written : (before : Option (List ℕ)) → Appends before before []
nothing_written None = tt
nothing_written (Some xs) = sym (append-nil xs)

none_on : (text : Option (List ℕ)) → IsOn text text begun []
none_on None = tt
none_on (Some text) = ([], refl, (refl, refl))

pub starts : (text before : Option (List ℕ)) (sitting : Sitting) → sitting ≡ begun → Follows text text before before sitting
starts text before sitting is =
    let P : Sitting → Type 0 = λ s. Follows text text before before s in
    subst P (sym is) ([], nothing_written before, refl, none_on text)

-- with nothing read ahead, all is left
pub none_ahead : (ahead : List ℕ) (text : Option (List ℕ)) → ahead ≡ [] → left ahead text ≡ text
none_ahead ahead None none = refl
none_ahead ahead (Some xs) none = ap (λ bytes. Some (bytes ++ xs)) none

pub starts_ahead : (text before : Option (List ℕ)) (ahead : List ℕ) (sitting : Sitting) → ahead ≡ [] → sitting ≡ begun → Follows text (left ahead text) before before sitting
starts_ahead text before ahead sitting none is =
    let P : Option (List ℕ) → Type 0 = λ rest. Follows text rest before before sitting in
    subst P (sym (none_ahead ahead text none)) (starts text before sitting is)

-- one line more
one_done : (old new : Sitting) (line : List ℕ) (replies : List CommandReply) (mid : Sitting) (done : LineOutcome) → replies ≡ [] → mid ≡ old → IsNext line mid new done → AreDone old (line ∷ []) (replies ++ done.replies) new
one_done old new line replies mid done none same is =
    let P : Sitting → Type 0 = λ s. IsNext line s new done in
    (new, done, [], subst P same is, ap (λ rs. rs ++ done.replies) none ∙ sym (append-nil done.replies), (refl, refl))

more_done : (old mid new : Sitting) (first : List (List ℕ)) (line : List ℕ) (replies : List CommandReply) (done : LineOutcome) → AreDone old first replies mid → IsNext line mid new done → AreDone old (first ++ line ∷ []) (replies ++ done.replies) new
more_done old mid new [] line replies done (none, same) is = one_done old new line replies mid done none same is
more_done old mid new (head ∷ first) line replies done (next, did, rest, here, cut, more) is =
    (next, did, rest ++ done.replies, here, ap (λ rs. rs ++ done.replies) cut ∙ append_assoc did.replies rest done.replies, more_done next mid new first line rest done more is)

on_more : (text left left' : Option (List ℕ)) (kept : List ℕ) (old new : Sitting) (done : LineOutcome) (replies : List CommandReply) → IsOn text left old replies → ReadsLine 65536 left left' true kept → IsNext kept old new done → IsOn text left' new (replies ++ done.replies)
on_more None left left' kept old new done replies on read is = tt
on_more (Some text) None left' kept old new done replies on read is = absurd on
on_more (Some text) (Some left) None kept old new done replies on read is = absurd read
on_more (Some text) (Some left) (Some left') kept old new done replies (first, cut, did) read is = (
  first ++ read.0 ∷ [],
  cut ∙ ap (λ lines. first ++ lines) read.1 ∙ sym (append_assoc first (read.0 ∷ []) (lines_of left')),
  more_done begun old new first read.0 replies done did (next_kept read.0 kept old new done read.2 is),
)

pub goes_on : (text left left' before now now' : Option (List ℕ)) (kept : List ℕ) (old new : Sitting) (done : LineOutcome) → Follows text left before now old → ReadsLine 65536 left left' true kept → IsNext kept old new done → Appends now now' (printed done.replies) → Follows text left' before now' new
goes_on text left left' before now now' kept old new done (replies, was, counts, on) read is more =
    let W : List ℕ → Type 0 = λ bytes. Appends before now' bytes in (
      replies ++ done.replies,
      subst W (sym (flat_map-append text_of replies done.replies)) (appends_more before now now' (printed replies) (printed done.replies) was more),
      ap (λ (s : Standing). s.summary) is.desk ∙ ap (counted done.replies) counts ∙ all_counted replies done.replies,
      on_more text left left' kept old new done replies on read is,
    )

-- the whole text was done
on_whole : (text left left' : Option (List ℕ)) (kept : List ℕ) (last : Sitting) (done : LineOutcome) (replies : List CommandReply) → IsOn text left last replies → ReadsLine 65536 left left' false kept → IsEndedBy last.block last.desk.table done → IfSome text (λ xs. IsTextDone xs (replies ++ done.replies))
on_whole None left left' kept last done replies on read ended = tt
on_whole (Some text) None left' kept last done replies on read ended = absurd on
on_whole (Some text) (Some left) None kept last done replies on read ended = absurd read
on_whole (Some text) (Some left) (Some left') kept last done replies (first, cut, did) none ended =
    let P : List (List ℕ) → Type 0 = λ lines. AreDone begun lines replies last in
    let all : lines_of text ≡ first = cut ∙ ap (λ lines. first ++ lines) none ∙ append-nil first in
    (last, replies, done, subst P (sym all) did, ended, refl)

-- and its replies were printed and counted
abbrev pub Ended : Option (List ℕ) → Option (List ℕ) → Option (List ℕ) → Summary → Type 0
Ended text before now summary = (replies : List CommandReply)
    × Appends before now (printed replies) × (summary ≡ summary_of replies) × IfSome text (λ xs. IsTextDone xs replies)

pub ends : (text left left' before now now' : Option (List ℕ)) (kept : List ℕ) (old new : Sitting) (done : LineOutcome) (summary : Summary) → Follows text left before now old → ReadsLine 65536 left left' false kept → IsEndedBy old.block old.desk.table done → new.desk ≡ followed old.desk done → Appends now now' (printed done.replies) → summary ≡ new.desk.summary → Ended text before now' summary
ends text left left' before now now' kept old new done summary (replies, was, counts, on) read ended is more same =
    let W : List ℕ → Type 0 = λ bytes. Appends before now' bytes in (
      replies ++ done.replies,
      subst W (sym (flat_map-append text_of replies done.replies)) (appends_more before now now' (printed replies) (printed done.replies) was more),
      same ∙ ap (λ (s : Standing). s.summary) is ∙ ap (counted done.replies) counts ∙ all_counted replies done.replies,
      on_whole text left left' kept old done replies on read ended,
    )

-- each line having its outcome is one thing that the lines may answer
has_outcomes : (table : Table) (lines : List (List ℕ)) → MayAnswer table lines (replies_from table lines)
has_outcomes table [] = refl
has_outcomes table (line ∷ lines) =
    (outcome_of line table, replies_from (outcome_of line table).table lines, inl refl, refl, has_outcomes (outcome_of line table).table lines)

-- a line that opens no block
pub alone_parts : (par sound : Bool) → (not par && sound) ≡ true → (par ≡ false) × (sound ≡ true)
alone_parts false sound alone = (refl, alone)
alone_parts true sound alone = absurd (let none : ⊥ = cc in none)

-- Of lines that open no block and make no device that drops writes, each answers its outcome, or that memory ran out; and so may
-- those that are left.
pub first_may : (old new : Sitting) (first left : List (List ℕ)) (replies : List CommandReply) → is_sound old.desk.table ≡ true → old.block ≡ None → are_sound_lines (first ++ left) ≡ true → AreDone old first replies new
    → MayAnswer old.desk.table (first ++ left) (replies ++ replies_from new.desk.table left) × (new.block ≡ None)
first_may old new [] left replies sound closed lines (none, same) =
    let R : Table → Type 0 = λ table. MayAnswer old.desk.table left (replies_from table left) in
    let P : List CommandReply → Type 0 = λ rs. MayAnswer old.desk.table left (rs ++ replies_from new.desk.table left) in (
      subst P (sym none) (subst R (sym (ap (λ (s : Sitting). s.desk.table) same)) (has_outcomes old.desk.table left)),
      ap (λ (s : Sitting). s.block) same ∙ closed,
    )
first_may old new (line ∷ first) left replies sound closed lines (next, done, rest, is, cut, more) =
    let both = and-split (is_alone_line line) (are_sound_lines (first ++ left)) lines in
    let alone = alone_parts (is_par 65536 line) (is_sound_line line) both.0 in
    let did = is.did.command closed alone.0 in
    let others = first_may next new first left rest (is.sound sound alone.1) did.0 both.1 more in
    let last = replies_from new.desk.table left in
    let T : Table → Type 0 = λ table. MayAnswer table (first ++ left) (rest ++ last) in (
      (done, rest ++ last, did.1.rule (line_ruled line old.desk.table sound alone.1), ap (λ rs. rs ++ last) cut ∙ append_assoc done.replies rest last, subst T (ap (λ (s : Standing). s.table) is.desk) others.0),
      others.1,
    )

-- where no block is open, none is run at the end
pub nothing_ended : (block : Option Lines) (table : Table) (done : LineOutcome) → block ≡ None → IsEndedBy block table done → done.replies ≡ []
nothing_ended None table done none ended = ap (λ (o : LineOutcome). o.replies) ended
nothing_ended (Some block) table done none ended = absurd (let no : ⊥ = cc in no)

-- all lines of such a text
text_may : (text : List ℕ) (replies : List CommandReply) → IsTextDone text replies → is_sound_text text ≡ true → MayAnswer empty (lines_of text) replies
unfolding is_sound_text
text_may text replies (last, told, done, did, ended, cut) sound =
    let lines = lines_of text in
    let Sound : List (List ℕ) → Type 0 = λ ls. are_sound_lines ls ≡ true in
    let all = first_may begun last lines [] told refl refl (subst Sound (sym (append-nil lines)) sound) did in
    let none = nothing_ended last.block last.desk.table done all.1 ended in
    let P : List (List ℕ) → Type 0 = λ ls. MayAnswer empty ls (told ++ []) in
    let Q : List CommandReply → Type 0 = λ rs. MayAnswer empty lines rs in
    subst Q (sym (cut ∙ ap (λ rs. told ++ rs) none)) (subst P (append-nil lines) all.0)

-- what was printed and counted, and that the lines may answer it
pub ends_any : (text before now : Option (List ℕ)) (summary : Summary) → Ended text before now summary → (replies : List CommandReply)
    × Appends before now (printed replies) × (summary ≡ summary_of replies)
    × IfSome text (λ xs. is_sound_text xs ≡ true → MayAnswer empty (lines_of xs) replies)
ends_any None before now summary (replies, was, counts, did) = (replies, was, counts, tt)
ends_any (Some text) before now summary (replies, was, counts, did) = (replies, was, counts, text_may text replies did)

-- where no reply is that memory or room ran out, each line has its outcome
exactly : (table : Table) (lines : List (List ℕ)) (replies : List CommandReply) → MayAnswer table lines replies → count_by (refuses_with 5) replies ≡ 0 → count_by (refuses_with 20) replies ≡ 0 → replies ≡ replies_from table lines
exactly table [] replies may none room = may
exactly table (line ∷ lines) replies (done, rest, inl is, cut, more) none room =
    let split = ap (count_by (refuses_with 5)) cut ∙ count_append (refuses_with 5) done.replies rest in
    let full = ap (count_by (refuses_with 20)) cut ∙ count_append (refuses_with 20) done.replies rest in
    let later = exactly done.table lines rest more (omega (arith, split, none)) (omega (arith, full, room)) in
    cut ∙ ap (λ rs. done.replies ++ rs) later ∙ ap (λ (d : LineOutcome). d.replies ++ replies_from d.table lines) is
exactly table (line ∷ lines) replies (done, rest, inr (inl is), cut, more) none room =
    let split = ap (count_by (refuses_with 5)) cut ∙ count_append (refuses_with 5) done.replies rest in
    let one : count_by (refuses_with 5) done.replies ≡ 1 = ap (count_by (refuses_with 5)) is.0 in
    absurd (omega (arith, split, none, one))
exactly table (line ∷ lines) replies (done, rest, inr (inr is), cut, more) none room =
    let full = ap (count_by (refuses_with 20)) cut ∙ count_append (refuses_with 20) done.replies rest in
    let one : count_by (refuses_with 20) done.replies ≡ 1 = ap (count_by (refuses_with 20)) is.1 in
    absurd (omega (arith, full, room, one))

pub ends_exact : (text before now : Option (List ℕ)) (summary : Summary) → Ended text before now summary → IfSome text (λ xs. is_sound_text xs ≡ true → summary.no_memory ≡ 0 → summary.journal_full ≡ 0 → Appends before now (output_of xs))
unfolding output_of replies_of
ends_exact None before now summary ended = tt
ends_exact (Some text) before now summary (replies, was, counts, did) = λ sound none room.
    let zero = none_counted replies (sym (ap (λ (s : Summary). s.no_memory) counts) ∙ none) in
    let none_too = none_full replies (sym (ap (λ (s : Summary). s.journal_full) counts) ∙ room) in
    let W : List CommandReply → Type 0 = λ rs. Appends before now (printed rs) in
    subst W (exactly empty (lines_of text) replies (text_may text replies did sound) zero none_too) was

pub ends_counted : (text before now : Option (List ℕ)) (summary : Summary) → Ended text before now summary → IfSome text (λ xs. is_sound_text xs ≡ true → summary.no_memory ≡ 0 → summary.journal_full ≡ 0 → summary ≡ summary_of (replies_of xs))
unfolding replies_of
ends_counted None before now summary ended = tt
ends_counted (Some text) before now summary (replies, was, counts, did) = λ sound none room.
    let zero = none_counted replies (sym (ap (λ (s : Summary). s.no_memory) counts) ∙ none) in
    let none_too = none_full replies (sym (ap (λ (s : Summary). s.journal_full) counts) ∙ room) in
    counts ∙ ap summary_of (exactly empty (lines_of text) replies (text_may text replies did sound) zero none_too)

-- what the lines of such a text may answer begins with what its first lines did
text_begins : (text : List ℕ) (replies : List CommandReply) → IsTextBegun text replies → is_sound_text text ≡ true → (rest : List CommandReply) × MayAnswer empty (lines_of text) (replies ++ rest)
unfolding is_sound_text
text_begins text replies (first, left, last, cut, did) sound =
    let Sound : List (List ℕ) → Type 0 = λ ls. are_sound_lines ls ≡ true in
    let some = first_may begun last first left replies refl refl (subst Sound cut sound) did in
    let P : List (List ℕ) → Type 0 = λ ls. MayAnswer empty ls (replies ++ replies_from last.desk.table left) in
    (replies_from last.desk.table left, subst P (sym cut) some.0)

on_begun : (text left : Option (List ℕ)) (sitting : Sitting) (replies : List CommandReply) → IsOn text left sitting replies → IfSome text (λ xs. IsTextBegun xs replies)
on_begun None left sitting replies on = tt
on_begun (Some text) None sitting replies on = absurd on
on_begun (Some text) (Some left) sitting replies (first, cut, did) = (first, lines_of left, sitting, cut, did)

begins : (text : Option (List ℕ)) (replies : List CommandReply) → IfSome text (λ xs. IsTextBegun xs replies) → IfSome text (λ xs. is_sound_text xs ≡ true → (rest : List CommandReply) × MayAnswer empty (lines_of xs) (replies ++ rest))
begins None replies did = tt
begins (Some text) replies did = text_begins text replies did

-- whole replies were printed, the first of what the lines may answer
abbrev pub Early : Option (List ℕ) → Option (List ℕ) → Option (List ℕ) → Type 0
Early text before now = (replies : List CommandReply)
    × Appends before now (printed replies)
    × IfSome text (λ xs. is_sound_text xs ≡ true → (rest : List CommandReply) × MayAnswer empty (lines_of xs) (replies ++ rest))

-- what a run printed before it ended early
pub ends_early : (text left before now : Option (List ℕ)) (sitting : Sitting) → Follows text left before now sitting → Early text before now
ends_early text left before now sitting (replies, was, counts, on) = (replies, was, begins text replies (on_begun text left sitting replies on))

-- the same of any text: its first lines were done
abbrev pub Begun : Option (List ℕ) → Option (List ℕ) → Option (List ℕ) → Type 0
Begun text before now = (replies : List CommandReply)
    × Appends before now (printed replies) × IfSome text (λ xs. IsTextBegun xs replies)

pub ends_begun : (text left before now : Option (List ℕ)) (sitting : Sitting) → Follows text left before now sitting → Begun text before now
ends_begun text left before now sitting (replies, was, counts, on) = (replies, was, on_begun text left sitting replies on)

-- nothing, where it could not begin
pub never_began : (text before : Option (List ℕ)) → Early text before before
never_began text before =
    ends_early text text before before begun (starts text before begun refl)

pub none_begun : (text before : Option (List ℕ)) → Begun text before before
none_begun text before =
    ends_begun text text before before begun (starts text before begun refl)

-- that is so at each error but the writer's
pub at_error : {A : Type 0} (result : Result A RunError) (P : Type 0) → P → IfErr result (λ e. (IsWriters e → ⊥) → P)
at_error (Ok x) P p = tt
at_error (Err e) P p = λ other. p

-- nothing is to be shown of the writer's
pub at_writers : {A : Type 0} (result : Result A RunError) (P : Type 0) → IfErr result IsWriters → IfErr result (λ e. (IsWriters e → ⊥) → P)
at_writers (Ok x) P writers = tt
at_writers (Err e) P writers = λ other. absurd (other writers)

-- so many lines were taken from the text
abbrev pub HasTaken : Option (List ℕ) → Option (List ℕ) → ℕ → Type 0
HasTaken None left n = Unit {0}
HasTaken (Some text) None n = ⊥
HasTaken (Some text) (Some left) n = length (lines_of text) ≡ n + length (lines_of left)

pub none_taken : (text : Option (List ℕ)) (n : ℕ) → n ≡ 0 → HasTaken text text n
none_taken None n e = tt
none_taken (Some text) n e = omega arith

pub ahead_taken : (text : Option (List ℕ)) (ahead : List ℕ) (n : ℕ) → ahead ≡ [] → n ≡ 0 → HasTaken text (left ahead text) n
ahead_taken text ahead n none e =
    let P : Option (List ℕ) → Type 0 = λ rest. HasTaken text rest n in
    subst P (sym (none_ahead ahead text none)) (none_taken text n e)

pub line_taken : (text left left' : Option (List ℕ)) (kept : List ℕ) (n : ℕ) → HasTaken text left n → ReadsLine 65536 left left' true kept → HasTaken text left' (n + 1)
line_taken None left left' kept n taken read = tt
line_taken (Some text) None left' kept n taken read = absurd taken
line_taken (Some text) (Some left) None kept n taken read = absurd read
line_taken (Some text) (Some left) (Some left') kept n taken read =
    let cut : length (lines_of left) ≡ suc (length (lines_of left')) = ap length read.1 in omega arith

-- what was printed so far is written out: the writer holds the same
pub appends_kept : (before now then : Option (List ℕ)) (bytes : List ℕ) → Appends before now bytes → Keeps now then → Appends before then bytes
appends_kept None now then bytes was same = tt
appends_kept (Some xs) None then bytes was same = absurd was
appends_kept (Some xs) (Some ys) None bytes was same = absurd same
appends_kept (Some xs) (Some ys) (Some zs) bytes was same = same ∙ was

pub written_out : (text left before now then : Option (List ℕ)) (sitting : Sitting) → Follows text left before now sitting → Keeps now then → Follows text left before then sitting
written_out text left before now then sitting (replies, was, counts, on) same = (replies, appends_kept before now then (printed replies) was same, counts, on)

-- a stream's own error is a cause
pub streams_early : (text left before now : Option (List ℕ)) (e : RunError) → IsStreams e → IsEarly text left before now e
streams_early text left before now Memory streams = absurd streams
streams_early text left before now (Read error) streams = streams
streams_early text left before now (Write error) streams = tt
streams_early text left before now Endless streams = absurd streams
