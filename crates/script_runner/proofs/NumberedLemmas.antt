-- A run, line by line, with the replies of each line by themselves, and their numbers.
use Rattle.std.proofs.Common.{◌≡◌, ℕ, suc, ◌+◌, length, true, false, List, [], ◌∷◌, ◌++◌, Option, Some, None, refl, sym, ap, ◌∙◌, arith, inl, inr, subst, append_assoc, length-append}
use Rattle.std.specs.Prelude.{IfSome}
use Rattle.std.specs.List.{count_by}
use Rattle.std.specs.Io.KnownBytes.{Appends, Keeps}
use Rattle.std.proofs.lemmas.List.{append-nil}
use Rattle.std.proofs.lemmas.Grind.{flat_map-append}
use Rattle.words.proofs.Written.{appends_more}
use Rattle.words.specs.Lines.{left, lines_of, ReadsLine}
use Rattle.words.proofs.Bools.{and-split}
use Rattle.command.specs.Opening.{is_par}
use Rattle.command_semantics.specs.Sound.{is_sound}
use Rattle.command_semantics.specs.State.{Table}
use Rattle.command_replies.specs.declared.command_reply.CommandReply.{CommandReply}
use Rattle.script_runner.specs.declared.summary.Summary.{Summary}
use Rattle.script_runner.specs.Counts.{refuses_with, summary_of}
use Rattle.script_runner.specs.Numbered.{AreDoneEach, IsTextAnswered, IsTextAnsweredTo, all_of, answers_from, numbered, numbered_from, numbered_output_of}
use Rattle.script_runner.specs.Output.{MayBe, LineOutcome, Standing, counted, followed, outcome_of, printed}
use Rattle.script_runner.specs.Runs.{AreDone, IsNext, IsTextDone, begun}
use Rattle.script_runner.specs.Sessions.{IsEndedBy, Sitting}
use Rattle.script_runner.specs.Sound.{are_sound_lines, is_alone_line, is_sound_line, is_sound_text}
use Rattle.script_runner.proofs.CountLemmas.{all_counted, count_append, none_counted, none_full}
use Rattle.script_runner.proofs.KeptLemmas.{next_kept}
use Rattle.script_runner.proofs.RuledLemmas.{line_ruled}
use Rattle.script_runner.proofs.RunLemmas.{alone_parts, appends_kept, none_ahead, nothing_ended, nothing_written}

-- the lines so far were done, where the bytes of the text are known
abbrev pub IsOnEach : Option (List ℕ) → Option (List ℕ) → Sitting → List (List CommandReply) → Type 0
IsOnEach None left sitting answers = Unit {0}
IsOnEach (Some text) None sitting answers = ⊥
IsOnEach (Some text) (Some left) sitting answers = (first : List (List ℕ)) × (lines_of text ≡ first ++ lines_of left) × AreDoneEach begun first answers sitting

-- there were so many, and their replies were printed with their numbers, and counted
abbrev pub FollowsEach : Option (List ℕ) → Option (List ℕ) → Option (List ℕ) → Option (List ℕ) → Sitting → ℕ → Type 0
FollowsEach text left before now sitting count = (answers : List (List CommandReply))
    × Appends before now (numbered_from 1 answers) × (sitting.desk.summary ≡ summary_of (all_of answers)) × (count ≡ length answers)
    × IsOnEach text left sitting answers

none_each : (text : Option (List ℕ)) → IsOnEach text text begun []
none_each None = tt
none_each (Some text) = ([], refl, (refl, refl))

starts_alone : (text before : Option (List ℕ)) (sitting : Sitting) (count : ℕ) → sitting ≡ begun → count ≡ 0 → FollowsEach text text before before sitting count
starts_alone text before sitting count is zero =
    let P : Sitting → Type 0 = λ s. FollowsEach text text before before s count in
    subst P (sym is) ([], nothing_written before, refl, zero, none_each text)

pub starts_each : (text before : Option (List ℕ)) (ahead : List ℕ) (sitting : Sitting) (count : ℕ) → ahead ≡ [] → sitting ≡ begun → count ≡ 0 → FollowsEach text (left ahead text) before before sitting count
starts_each text before ahead sitting count none is zero =
    let P : Option (List ℕ) → Type 0 = λ rest. FollowsEach text rest before before sitting count in
    subst P (sym (none_ahead ahead text none)) (starts_alone text before sitting count is zero)

pub written_each : (text left before now then : Option (List ℕ)) (sitting : Sitting) (count : ℕ) → FollowsEach text left before now sitting count → Keeps now then → FollowsEach text left before then sitting count
written_each text left before now then sitting count (answers, was, counts, many, on) same = (answers, appends_kept before now then (numbered_from 1 answers) was same, counts, many, on)

-- one line's replies more
numbered_push : (n : ℕ) (answers : List (List CommandReply)) (replies : List CommandReply) → numbered_from n (answers ++ replies ∷ []) ≡ numbered_from n answers ++ numbered (n + length answers) (printed replies)
numbered_push n [] replies =
    let same : n ≡ n + 0 = omega arith in
    append-nil (numbered n (printed replies)) ∙ ap (λ k. numbered k (printed replies)) same
numbered_push n (told ∷ answers) replies =
    let same : n + 1 + length answers ≡ n + suc (length answers) = omega arith in
    ap (λ bytes. numbered n (printed told) ++ bytes) (numbered_push (n + 1) answers replies)
    ∙ sym (append_assoc (numbered n (printed told)) (numbered_from (n + 1) answers) (numbered (n + 1 + length answers) (printed replies)))
    ∙ ap (λ k. numbered n (printed told) ++ numbered_from (n + 1) answers ++ numbered k (printed replies)) same

pub all_push : (answers : List (List CommandReply)) (replies : List CommandReply) → all_of (answers ++ replies ∷ []) ≡ all_of answers ++ replies
all_push answers replies = flat_map-append (λ (told : List CommandReply). told) answers (replies ∷ []) ∙ ap (λ told. all_of answers ++ told) (append-nil replies)

more_each : (old mid new : Sitting) (first : List (List ℕ)) (line : List ℕ) (answers : List (List CommandReply)) (done : LineOutcome) → AreDoneEach old first answers mid → IsNext line mid new done → AreDoneEach old (first ++ line ∷ []) (answers ++ done.replies ∷ []) new
more_each old mid new [] line answers done (none, same) is =
    let P : Sitting → Type 0 = λ s. IsNext line s new done in
    (new, done, [], subst P same is, ap (λ told. told ++ done.replies ∷ []) none, (refl, refl))
more_each old mid new (head ∷ first) line answers done (next, did, rest, here, cut, more) is =
    (next, did, rest ++ done.replies ∷ [], here, ap (λ told. told ++ done.replies ∷ []) cut, more_each next mid new first line rest done more is)

on_each : (text left left' : Option (List ℕ)) (kept : List ℕ) (old new : Sitting) (done : LineOutcome) (answers : List (List CommandReply)) → IsOnEach text left old answers → ReadsLine 65536 left left' true kept → IsNext kept old new done → IsOnEach text left' new (answers ++ done.replies ∷ [])
on_each None left left' kept old new done answers on read is = tt
on_each (Some text) None left' kept old new done answers on read is = absurd on
on_each (Some text) (Some left) None kept old new done answers on read is = absurd read
on_each (Some text) (Some left) (Some left') kept old new done answers (first, cut, did) read is = (
  first ++ read.0 ∷ [],
  cut ∙ ap (λ lines. first ++ lines) read.1 ∙ sym (append_assoc first (read.0 ∷ []) (lines_of left')),
  more_each begun old new first read.0 answers done did (next_kept read.0 kept old new done read.2 is),
)

-- what was printed for a line stands behind what was printed before
pub push_printed : (before now then : Option (List ℕ)) (answers : List (List CommandReply)) (replies : List CommandReply) (count number : ℕ) (page : List ℕ) → Appends before now (numbered_from 1 answers) → count ≡ length answers → number ≡ count + 1 → page ≡ printed replies → Appends now then (numbered number page) → Appends before then (numbered_from 1 (answers ++ replies ∷ []))
push_printed before now then answers replies count number page was many next is more =
    let W : List ℕ → Type 0 = λ bytes. Appends before then bytes in
    let V : List ℕ → Type 0 = λ bytes. Appends now then (numbered number bytes) in
    let N : ℕ → Type 0 = λ n. Appends now then (numbered n (printed replies)) in
    let at : number ≡ 1 + length answers = omega (arith, many, next) in
    subst W (sym (numbered_push 1 answers replies))
    (appends_more before now then (numbered_from 1 answers) (numbered (1 + length answers) (printed replies)) was (subst N at (subst V is more)))

push_counted : (answers : List (List CommandReply)) (old new : Sitting) (done : LineOutcome) → old.desk.summary ≡ summary_of (all_of answers) → new.desk ≡ followed old.desk done → new.desk.summary ≡ summary_of (all_of (answers ++ done.replies ∷ []))
push_counted answers old new done counts is =
    ap (λ (s : Standing). s.summary) is ∙ ap (counted done.replies) counts ∙ all_counted (all_of answers) done.replies ∙ ap summary_of (sym (all_push answers done.replies))

pub goes_on_each : (text left left' before now then : Option (List ℕ)) (kept page : List ℕ) (old new : Sitting) (done : LineOutcome) (count number : ℕ) → FollowsEach text left before now old count → ReadsLine 65536 left left' true kept → IsNext kept old new done → number ≡ count + 1 → page ≡ printed done.replies → Appends now then (numbered number page) → FollowsEach text left' before then new (count + 1)
goes_on_each text left left' before now then kept page old new done count number (answers, was, counts, many, on) read is next same more = (
  answers ++ done.replies ∷ [],
  push_printed before now then answers done.replies count number page was many next same more,
  push_counted answers old new done counts is.desk,
  one_more answers done.replies count many,
  on_each text left left' kept old new done answers on read is,
)
  where
    one_more : (told : List (List CommandReply)) (replies : List CommandReply) (n : ℕ) → n ≡ length told → n + 1 ≡ length (told ++ replies ∷ [])
    one_more told replies n e = let long = length-append told (replies ∷ []) in omega (arith, e, long)

-- the replies of each line are those of all lines
each_done : (old new : Sitting) (lines : List (List ℕ)) (answers : List (List CommandReply)) → AreDoneEach old lines answers new → AreDone old lines (all_of answers) new
each_done old new [] answers (none, same) = (ap all_of none, same)
each_done old new (line ∷ lines) answers (next, done, rest, is, cut, more) = (next, done, all_of rest, is, ap all_of cut, each_done next new lines rest more)

text_each : (text : List ℕ) (answers : List (List CommandReply)) → IsTextAnswered text answers → IsTextDone text (all_of answers)
text_each text answers (last, told, done, did, ended, cut) =
    (last, all_of told, done, each_done begun last (lines_of text) told did, ended, ap all_of cut ∙ all_push told done.replies)

-- the whole text was done
on_whole_each : (text left left' : Option (List ℕ)) (kept : List ℕ) (last : Sitting) (done : LineOutcome) (answers : List (List CommandReply)) → IsOnEach text left last answers → ReadsLine 65536 left left' false kept → IsEndedBy last.block last.desk.table done → IfSome text (λ xs. IsTextAnswered xs (answers ++ done.replies ∷ []))
on_whole_each None left left' kept last done answers on read ended = tt
on_whole_each (Some text) None left' kept last done answers on read ended = absurd on
on_whole_each (Some text) (Some left) None kept last done answers on read ended = absurd read
on_whole_each (Some text) (Some left) (Some left') kept last done answers (first, cut, did) none ended =
    let P : List (List ℕ) → Type 0 = λ lines. AreDoneEach begun lines answers last in
    let all : lines_of text ≡ first = cut ∙ ap (λ lines. first ++ lines) none ∙ append-nil first in
    (last, answers, done, subst P (sym all) did, ended, refl)

-- and its replies were printed with their numbers, and counted
abbrev pub EndedEach : Option (List ℕ) → Option (List ℕ) → Option (List ℕ) → Summary → Type 0
EndedEach text before now summary = (answers : List (List CommandReply))
    × Appends before now (numbered_from 1 answers) × (summary ≡ summary_of (all_of answers)) × IfSome text (λ xs. IsTextAnswered xs answers)

pub ends_each : (text left left' before now then : Option (List ℕ)) (kept page : List ℕ) (old new : Sitting) (done : LineOutcome) (summary : Summary) (count number : ℕ) → FollowsEach text left before now old count → ReadsLine 65536 left left' false kept → IsEndedBy old.block old.desk.table done → new.desk ≡ followed old.desk done → number ≡ count + 1 → page ≡ printed done.replies → Appends now then (numbered number page) → summary ≡ new.desk.summary → EndedEach text before then summary
ends_each text left left' before now then kept page old new done summary count number (answers, was, counts, many, on) read ended is next same more sums = (
  answers ++ done.replies ∷ [],
  push_printed before now then answers done.replies count number page was many next same more,
  sums ∙ push_counted answers old new done counts is,
  on_whole_each text left left' kept old done answers on read ended,
)

pub ends_lines : (text before now : Option (List ℕ)) (summary : Summary) → EndedEach text before now summary → (answers : List (List CommandReply))
    × Appends before now (numbered_from 1 answers) × (summary ≡ summary_of (all_of answers)) × IfSome text (λ xs. IsTextAnswered xs answers × IsTextDone xs (all_of answers))
ends_lines None before now summary (answers, was, counts, did) = (answers, was, counts, tt)
ends_lines (Some text) before now summary (answers, was, counts, did) = (answers, was, counts, (did, text_each text answers did))

-- where neither memory nor a journal's room ran out, a line has its outcome
not_starved : (line : List ℕ) (table : Table) (done : LineOutcome) → MayBe line table done → count_by (refuses_with 5) done.replies ≡ 0 → count_by (refuses_with 20) done.replies ≡ 0 → done ≡ outcome_of line table
not_starved line table done (inl is) none room = is
not_starved line table done (inr (inl is)) none room =
    let one : count_by (refuses_with 5) done.replies ≡ 1 = ap (count_by (refuses_with 5)) is.0 in
    absurd (omega (arith, none, one))
not_starved line table done (inr (inr is)) none room =
    let one : count_by (refuses_with 20) done.replies ≡ 1 = ap (count_by (refuses_with 20)) is.1 in
    absurd (omega (arith, room, one))

-- so the lines answer what each answers by itself, and leave no block open
exactly_each : (old new : Sitting) (lines : List (List ℕ)) (answers : List (List CommandReply)) → is_sound old.desk.table ≡ true → old.block ≡ None → are_sound_lines lines ≡ true → AreDoneEach old lines answers new
    → count_by (refuses_with 5) (all_of answers) ≡ 0 → count_by (refuses_with 20) (all_of answers) ≡ 0 → (answers ≡ answers_from old.desk.table lines) × (new.block ≡ None)
exactly_each old new [] answers sound closed makes (nothing, same) none room = (nothing, ap (λ (s : Sitting). s.block) same ∙ closed)
exactly_each old new (line ∷ lines) answers sound closed makes (next, done, rest, is, cut, more) none room =
    let both = and-split (is_alone_line line) (are_sound_lines lines) makes in
    let alone = alone_parts (is_par 65536 line) (is_sound_line line) both.0 in
    let did = is.did.command closed alone.0 in
    let split = ap (count_by (refuses_with 5)) (ap all_of cut) ∙ count_append (refuses_with 5) done.replies (all_of rest) in
    let full = ap (count_by (refuses_with 20)) (ap all_of cut) ∙ count_append (refuses_with 20) done.replies (all_of rest) in
    let others = exactly_each next new lines rest (is.sound sound alone.1) did.0 both.1 more (omega (arith, split, none)) (omega (arith, full, room)) in
    let same = not_starved line old.desk.table done (did.1.rule (line_ruled line old.desk.table sound alone.1)) (omega (arith, split, none)) (omega (arith, full, room)) in (
      cut ∙ ap (λ told. done.replies ∷ told) others.0 ∙ ap (λ table. done.replies ∷ answers_from table lines) (ap (λ (s : Standing). s.table) is.desk)
          ∙ ap (λ (d : LineOutcome). d.replies ∷ answers_from d.table lines) same,
      others.1,
    )

-- the text's end prints nothing then
nothing_numbered : (answers : List (List CommandReply)) (replies : List CommandReply) → replies ≡ [] → numbered_from 1 (answers ++ replies ∷ []) ≡ numbered_from 1 answers
unfolding numbered
nothing_numbered answers replies none =
    ap (λ told. numbered_from 1 (answers ++ told ∷ [])) none ∙ numbered_push 1 answers [] ∙ append-nil (numbered_from 1 answers)

text_exactly : (text : List ℕ) (answers : List (List CommandReply)) → IsTextAnswered text answers → is_sound_text text ≡ true → count_by (refuses_with 5) (all_of answers) ≡ 0 → count_by (refuses_with 20) (all_of answers) ≡ 0 → numbered_from 1 answers ≡ numbered_output_of text
unfolding is_sound_text numbered_output_of
text_exactly text answers (last, told, done, did, ended, cut) sound none room =
    let all = ap all_of cut ∙ all_push told done.replies in
    let split = ap (count_by (refuses_with 5)) all ∙ count_append (refuses_with 5) (all_of told) done.replies in
    let full = ap (count_by (refuses_with 20)) all ∙ count_append (refuses_with 20) (all_of told) done.replies in
    let each = exactly_each begun last (lines_of text) told refl refl sound did (omega (arith, split, none)) (omega (arith, full, room)) in
    ap (numbered_from 1) cut ∙ nothing_numbered told done.replies (nothing_ended last.block last.desk.table done each.1 ended) ∙ ap (numbered_from 1) each.0

pub ends_exactly : (text before now : Option (List ℕ)) (summary : Summary) → EndedEach text before now summary → IfSome text (λ xs. is_sound_text xs ≡ true → summary.no_memory ≡ 0 → summary.journal_full ≡ 0 → Appends before now (numbered_output_of xs))
ends_exactly None before now summary ended = tt
ends_exactly (Some text) before now summary (answers, was, counts, did) = λ sound none room.
    let zero = none_counted (all_of answers) (sym (ap (λ (s : Summary). s.no_memory) counts) ∙ none) in
    let none_too = none_full (all_of answers) (sym (ap (λ (s : Summary). s.journal_full) counts) ∙ room) in
    let W : List ℕ → Type 0 = λ bytes. Appends before now bytes in
    subst W (text_exactly text answers did sound zero none_too) was

-- what a run printed before it ended early: all that its first lines answered, with their numbers
abbrev pub BegunEach : Option (List ℕ) → Option (List ℕ) → Option (List ℕ) → Type 0
BegunEach text before now = (answers : List (List CommandReply))
    × Appends before now (numbered_from 1 answers) × IfSome text (λ xs. IsTextAnsweredTo xs answers)

on_begun_each : (text left : Option (List ℕ)) (sitting : Sitting) (answers : List (List CommandReply)) → IsOnEach text left sitting answers → IfSome text (λ xs. IsTextAnsweredTo xs answers)
on_begun_each None left sitting answers on = tt
on_begun_each (Some text) None sitting answers on = absurd on
on_begun_each (Some text) (Some left) sitting answers (first, cut, did) = (first, lines_of left, sitting, cut, did)

pub ends_begun_each : (text left before now : Option (List ℕ)) (sitting : Sitting) (count : ℕ) → FollowsEach text left before now sitting count → BegunEach text before now
ends_begun_each text left before now sitting count (answers, was, counts, many, on) = (answers, was, on_begun_each text left sitting answers on)

-- nothing, where it could not begin
pub none_begun_each : (text before : Option (List ℕ)) → BegunEach text before before
none_begun_each text before = ends_begun_each text text before before begun 0 (starts_alone text before begun 0 refl refl)
