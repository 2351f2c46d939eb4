-- No more requests are in flight after an event: a reply takes one out, and nothing else changes which there are.
use Rattle.std.proofs.Common.{◌≡◌, inl, inr, ℕ, ◌+◌, ◌≤◌, List, [], ◌∷◌, length, Some, sym, ◌∙◌, ap, arith}
use Rattle.std.specs.Prelude.{◌==◌}
use Rattle.std.proofs.lemmas.Bool.{cases_Bool, cond-true, cond-false}
use Rattle.plain_machine.specs.Plain.{InFlight, asked_under, without}
use Rattle.plain_machine.specs.Replies.{reply_in}
use Rattle.plain_machine.specs.declared.event.Event.{Event}
use Rattle.plain_machine.specs.declared.event.Event.TheVariants.{Issue, CopyRead, CopyWrite, ZeroNext, WriteArea, Publish, WriteInvalid, FlushStore, MergeGroup, MergeAreaRead, MergeRead, MergeWrite, MergeFlush, MergeCommit, MergeRelease}
use Rattle.plain_machine.specs.declared.event.Outcome.{Outcome}
use Rattle.plain_machine.specs.declared.event.Outcome.TheVariants.{Done, Fault, Reply as Answered}
use Rattle.plain_machine.specs.declared.request.Request.{Request}
use Rattle.volume.specs.Flying.{IsFlown}

one_less : (number : ℕ) (request : Request) (xs : List InFlight) → asked_under number xs ≡ Some request → length (without number xs) + 1 ≡ length xs
one_less number request [] e = absurd (cc)
one_less number request (x ∷ xs) e = elim (cases_Bool (x.number == number)) [
  | inl this ↦ ap (λ (ys : List InFlight). length ys + 1) (cond-true _ _ _ this) ∙ omega arith
  | inr other ↦ (let rest = one_less number request xs (sym (cond-false _ _ _ other) ∙ e) in
      ap (λ (ys : List InFlight). length ys + 1) (cond-false _ _ _ other) ∙ omega (arith, rest))
]

-- no more fly than did
same_fly : (old new : List InFlight) → new ≡ old → length new + 0 ≤ length old
same_fly old new e = (let same : length new ≡ length old = ap length e in omega (arith, same))

pub fewer_fly : (event : Event) (outcome : Outcome) (old new : List InFlight) → IsFlown event outcome old new → length new + length (reply_in outcome) ≤ length old
fewer_fly event (Answered n reply) old new f =
    let out = f.1 in
    let less = one_less n out.request old out.asked in
    let is : length new ≡ length (without n old) = ap length out.gone in
    omega (arith, less, is)
fewer_fly (Issue n) Done old new f = same_fly old new f.same
fewer_fly (CopyRead n) Done old new f = same_fly old new f
fewer_fly (CopyWrite n) Done old new f = same_fly old new f
fewer_fly (ZeroNext n) Done old new f = same_fly old new f
fewer_fly (WriteArea n) Done old new f = same_fly old new f
fewer_fly (Publish n) Done old new f = same_fly old new f
fewer_fly (WriteInvalid n) Done old new f = same_fly old new f
fewer_fly (FlushStore n) Done old new f = same_fly old new f
fewer_fly MergeGroup Done old new f = same_fly old new f
fewer_fly MergeAreaRead Done old new f = same_fly old new f
fewer_fly MergeRead Done old new f = same_fly old new f
fewer_fly MergeWrite Done old new f = same_fly old new f
fewer_fly MergeFlush Done old new f = same_fly old new f
fewer_fly MergeCommit Done old new f = same_fly old new f
fewer_fly MergeRelease Done old new f = same_fly old new f
fewer_fly (Issue n) Fault old new f = absurd f
fewer_fly (CopyRead n) Fault old new f = same_fly old new f
fewer_fly (CopyWrite n) Fault old new f = same_fly old new f
fewer_fly (ZeroNext n) Fault old new f = same_fly old new f
fewer_fly (WriteArea n) Fault old new f = same_fly old new f
fewer_fly (Publish n) Fault old new f = same_fly old new f
fewer_fly (WriteInvalid n) Fault old new f = same_fly old new f
fewer_fly (FlushStore n) Fault old new f = same_fly old new f
fewer_fly MergeGroup Fault old new f = same_fly old new f
fewer_fly MergeAreaRead Fault old new f = same_fly old new f
fewer_fly MergeRead Fault old new f = same_fly old new f
fewer_fly MergeWrite Fault old new f = same_fly old new f
fewer_fly MergeFlush Fault old new f = same_fly old new f
fewer_fly MergeCommit Fault old new f = same_fly old new f
fewer_fly MergeRelease Fault old new f = same_fly old new f
