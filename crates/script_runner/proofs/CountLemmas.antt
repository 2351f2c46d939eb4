-- Counting replies one by one.
use Rattle.std.proofs.Common.{◌≡◌, ℕ, Bool, true, false, ◌+◌, ◌-◌, ◌^◌, List, [], ◌∷◌, ◌++◌, length, min, refl, sym, ap, ◌∙◌, arith, length-append, append_assoc, cond}
use Rattle.std.specs.List.{count_by}
use Rattle.std.proofs.lemmas.List.{append-nil}
use Rattle.std.proofs.lemmas.List.Sums.{sum_by-append}
use Rattle.command_replies.specs.declared.command_reply.CommandReply.{CommandReply}
use Rattle.script_runner.specs.Counts.{is_refused, refuses_with, capped, more, summary_of, with_reply}
use Rattle.script_runner.specs.Output.{counted}

-- a number that stops, one higher
pub capped_more : (n : ℕ) → capped (capped n + 1) ≡ capped (n + 1)
capped_more n = omega arith

pub count_append : {X : Type 0} (p : X → Bool) (xs ys : List X) → count_by p (xs ++ ys) ≡ count_by p xs + count_by p ys
count_append p xs ys = sum_by-append (λ x. cond (p x) 1 0) xs ys

-- one more at the end
counted_more : (p : CommandReply → Bool) (replies : List CommandReply) (reply : CommandReply) → more (p reply) (capped (count_by p replies)) ≡ capped (count_by p (replies ++ reply ∷ []))
counted_more p replies reply = step (p reply) (count_by p replies) (count_by p (replies ++ reply ∷ [])) (count_append p replies (reply ∷ []))
  where
    step : (b : Bool) (n k : ℕ) → k ≡ n + (0 + cond b 1 0) → more b (capped n) ≡ capped k
    step true n k e = capped_more n ∙ ap capped (sym e)
    step false n k e = ap capped (omega arith)

pub one_counted : (replies : List CommandReply) (reply : CommandReply) → with_reply reply (summary_of replies) ≡ summary_of (replies ++ reply ∷ [])
unfolding summary_of
one_counted replies reply =
    let lines : capped (capped (length replies) + 1) ≡ capped (length (replies ++ reply ∷ [])) = capped_more (length replies) ∙ ap capped (sym (length-append replies (reply ∷ []))) in
    let refused = counted_more is_refused replies reply in
    let memory = counted_more (refuses_with 5) replies reply in
    let full = counted_more (refuses_with 20) replies reply in
    rw lines (rw refused (rw memory (rw full refl)))

pub all_counted : (replies new : List CommandReply) → counted new (summary_of replies) ≡ summary_of (replies ++ new)
all_counted replies [] = ap summary_of (sym (append-nil replies))
all_counted replies (reply ∷ new) =
    ap (counted new) (one_counted replies reply) ∙ all_counted (replies ++ reply ∷ []) new ∙ ap summary_of (append_assoc replies (reply ∷ []) new)

-- where none of a kind is counted, there is none
of_cap : (n : ℕ) → min n (2 ^ 64 - 1) ≡ 0 → n ≡ 0
of_cap n e = omega arith

pub none_counted : (replies : List CommandReply) → (summary_of replies).no_memory ≡ 0 → count_by (refuses_with 5) replies ≡ 0
unfolding summary_of
none_counted replies none = of_cap (count_by (refuses_with 5) replies) none

pub none_full : (replies : List CommandReply) → (summary_of replies).journal_full ≡ 0 → count_by (refuses_with 20) replies ≡ 0
unfolding summary_of
none_full replies none = of_cap (count_by (refuses_with 20) replies) none
