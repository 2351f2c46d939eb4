-- The lines of requests that ended, and then a command's own.
use Rattle.std.proofs.Common.{◌≡◌, ◌<◌, ℕ, ◌+◌, ◌^◌, List, [], ◌∷◌, ◌++◌, length, Option, Some, None, refl, sym, ap, ◌∙◌, arith, subst}
use Rattle.std.specs.Io.KnownBytes.{Appends}
use Rattle.std.proofs.lemmas.Grind.{flat_map-append}
use Rattle.std.proofs.lemmas.List.{append-nil, map-append}
use Rattle.std.proofs.lemmas.List.Concat.{flat_map-cons}
use Rattle.words.proofs.Written.{appends_more}
use Rattle.command_replies.specs.declared.command_reply.CommandReply.{CommandReply}
use Rattle.command_replies.specs.Texts.{text_of}
use Rattle.plain_machine.specs.declared.request.Replied.{Replied}
use Rattle.script_runner.specs.declared.summary.Summary.{Summary}
use Rattle.script_runner.specs.Counts.{capped, with_lines, with_reply}
use Rattle.script_runner.specs.Ended.{ended_line, ended_lines, line_replies}
use Rattle.script_runner.specs.Output.{answered, counted, printed}

-- one reply is printed
pub one_printed : (before after : Option (List ℕ)) (reply : CommandReply) → Appends before after (text_of reply) → Appends before after (printed (reply ∷ []))
one_printed before after reply more =
    let text : printed (reply ∷ []) ≡ text_of reply = flat_map-cons text_of reply [] ∙ append-nil (text_of reply) in
    let P : List ℕ → Type 0 = λ bytes. Appends before after bytes in
    subst P (sym text) more

-- more replies are printed after others
pub both_printed : (before mid after : Option (List ℕ)) (replies more : List CommandReply) → Appends before mid (printed replies) → Appends mid after (printed more) → Appends before after (printed (replies ++ more))
both_printed before mid after replies more was is =
    let P : List ℕ → Type 0 = λ bytes. Appends before after bytes in
    subst P (sym (flat_map-append text_of replies more)) (appends_more before mid after (printed replies) (printed more) was is)

-- no reply is printed yet
pub none_replied : (before : Option (List ℕ)) → Appends before before (printed [])
none_replied None = tt
none_replied (Some xs) = sym (append-nil xs)

-- no request ended yet
pub none_ended : (before : Option (List ℕ)) → Appends before before (printed (ended_lines []))
none_ended None = tt
none_ended (Some xs) = sym (append-nil xs)

-- one request more that ended
pub ended_more : (before mid after : Option (List ℕ)) (ended : List Replied) (replied : Replied) → Appends before mid (printed (ended_lines ended)) → Appends mid after (text_of (ended_line replied)) → Appends before after (printed (ended_lines (ended ++ replied ∷ [])))
ended_more before mid after ended replied was is =
    let P : List CommandReply → Type 0 = λ replies. Appends before after (printed replies) in
    subst P (sym (map-append ended_line ended (replied ∷ []))) (both_printed before mid after (ended_lines ended) (ended_line replied ∷ []) was (one_printed mid after (ended_line replied) is))

-- a command's own line, where no request ended
pub own_alone : (before after : Option (List ℕ)) (ended : List Replied) (own : Option CommandReply) → length ended ≡ 0 → Appends before after (printed (answered own)) → Appends before after (printed (line_replies ended own))
own_alone before after [] own none is = is
own_alone before after (replied ∷ ended) own none is = absurd (let no : ⊥ = omega (arith, none) in no)

-- each line of a request that ended is counted as a line alone
ended_counted : (ended : List Replied) (s : Summary) → s.lines < 2 ^ 64 → counted (ended_lines ended) s ≡ with_lines (length ended) s
ended_counted [] s small =
    let same : s.lines ≡ capped (s.lines + 0) = omega (arith, small) in
    ap (λ n. record s { lines = n }) same
ended_counted (replied ∷ ended) s small =
    let one : capped (s.lines + 1) < 2 ^ 64 = omega arith in
    let sum : capped (capped (s.lines + 1) + length ended) ≡ capped (s.lines + length (replied ∷ ended)) = omega arith in
    ended_counted ended (with_reply (ended_line replied) s) one ∙ ap (λ n. record s { lines = n }) sum

pub counted_append : (replies more : List CommandReply) (s : Summary) → counted (replies ++ more) s ≡ counted more (counted replies s)
counted_append [] more s = refl
counted_append (reply ∷ replies) more s = counted_append replies more (with_reply reply s)

-- all that a line answers is counted
pub all_lines_counted : (ended : List Replied) (own : Option CommandReply) (s : Summary) → s.lines < 2 ^ 64 → counted (line_replies ended own) s ≡ counted (answered own) (with_lines (length ended) s)
all_lines_counted ended own s small = counted_append (ended_lines ended) (answered own) s ∙ ap (counted (answered own)) (ended_counted ended s small)
