-- A snapshot that nobody writes shows its array after every call, or is lost.
use Rattle.std.proofs.Common.{◌≡◌, ◌⊎◌, inl, inr, ℕ, false, List, [], ◌∷◌, Some, map, refl, sym, ◌∙◌, ap}
use Rattle.std.specs.Prelude.{◌==◌, ◌||◌}
use Rattle.std.proofs.lemmas.Bool.{cases_Bool, eqb-true, or_from, or_parts}
use Rattle.std.proofs.lemmas.List.Folds.{list_any-append}
use Rattle.sector.specs.declared.range.Range.{Range}
use Rattle.plain_machine.specs.declared.request.Dev.{Dev}
use Rattle.plain_machine.specs.declared.request.Dev.TheVariants.{Origin, Snap}
use Rattle.plain_machine.specs.declared.request.Op.{Op}
use Rattle.plain_machine.specs.declared.request.Op.TheVariants.{Read, Write, Flush}
use Rattle.plain_machine.specs.declared.request.Reply.{Reply}
use Rattle.plain_machine.specs.declared.request.Reply.TheVariants.{Data, Written, Flushed, Refused}
use Rattle.plain_machine.specs.declared.request.Failure.TheVariants.{Invalid as IsInvalid, Io, Overflow}
use Rattle.plain_machine.specs.declared.request.Request.{Request}
use Rattle.plain_machine.specs.declared.event.Event.{Event}
use Rattle.plain_machine.specs.declared.event.Event.TheVariants.{Issue, CopyRead, CopyWrite, ZeroNext, WriteArea, Publish, WriteInvalid, FlushStore, MergeGroup, MergeAreaRead, MergeRead, MergeWrite, MergeFlush, MergeCommit, MergeRelease}
use Rattle.plain_machine.specs.declared.event.Outcome.{Outcome}
use Rattle.plain_machine.specs.declared.event.Outcome.TheVariants.{Done, Fault, Reply as Replied}
use Rattle.plain_machine.specs.Plain.{Plain, Entry, InFlight, Saved, Live, Invalid, saved_under, with_saved, asked_under, without, is_in, spoiled_entry, marked_in}
use Rattle.plain_machine.specs.Kept.{kept}
use Rattle.plain_machine.specs.Serves.{Serves}
use Rattle.plain_machine.specs.Legal.{Spoils, IsAnswered, IsLegalStep}
use Rattle.plain_machine.specs.Runs.{MayStep, MaySubmit}
use Rattle.plain_machine.specs.Unwritten.{writes, is_written, StillShows}

-- one entry after a spoil is as it was, or lost
saved_spoiled : (which : List ℕ) (number : ℕ) (entries : List Entry) → (saved_under number (map (spoiled_entry which) entries) ≡ saved_under number entries) ⊎ (saved_under number (map (spoiled_entry which) entries) ≡ Some Invalid)
saved_spoiled which number [] = inl refl
saved_spoiled which number (e ∷ es) = elim (cases_Bool (is_in which e.number)) [
  | inl one ↦ elim (cases_Bool (e.number == number)) [
    | inl here ↦ inr (rw one (rw here refl))
    | inr there ↦ rw one (rw there (saved_spoiled which number es))
  ]
  | inr none ↦ elim (cases_Bool (e.number == number)) [
    | inl here ↦ inl (rw none (rw here refl))
    | inr there ↦ rw none (rw there (saved_spoiled which number es))
  ]
]

-- a spoil leaves what is shown, or loses it
pub still_spoiled : (which : List ℕ) (number : ℕ) (array : List ℕ) (p q : Plain) → q.saved ≡ map (spoiled_entry which) p.saved → StillShows number array p → StillShows number array q
still_spoiled which number array p q is shows = elim (saved_spoiled which number p.saved) [
  | inl same ↦ (let at : saved_under number q.saved ≡ saved_under number p.saved = ap (saved_under number) is ∙ same in elim shows [ inl live ↦ inl (at ∙ live) | inr lost ↦ inr (at ∙ lost) ])
  | inr lost ↦ inr (ap (saved_under number) is ∙ lost)
]

-- a mark changes nothing of what is shown
pub saved_marked : (number n : ℕ) (entries : List Entry) → saved_under number (marked_in n entries) ≡ saved_under number entries
saved_marked number n [] = refl
saved_marked number n (e ∷ es) = elim (cases_Bool (e.number == n)) [
  | inl here ↦ rw here refl
  | inr there ↦ elim (cases_Bool (e.number == number)) [
    | inl mine ↦ rw there (rw mine refl)
    | inr other ↦ rw there (rw other (saved_marked number n es))
  ]
]

-- another snapshot's array changes nothing of this one
saved_other : (number n : ℕ) (saved : Saved) (entries : List Entry) → (n == number) ≡ false → saved_under number (with_saved n saved entries) ≡ saved_under number entries
saved_other number n saved [] ne = refl
saved_other number n saved (e ∷ es) ne = elim (cases_Bool (e.number == n)) [
  | inl here ↦ (let at : (e.number == number) ≡ false = ap (λ k. k == number) (eqb-true e.number n here) ∙ ne in rw here (rw at refl))
  | inr there ↦ elim (cases_Bool (e.number == number)) [
    | inl mine ↦ rw there (rw mine refl)
    | inr other ↦ rw there (rw other (saved_other number n saved es ne))
  ]
]

-- a reply to a request that is no write of it changes nothing of it
pub unwritten_serves : (number : ℕ) (old new : Plain) (dev : Dev) (op : Op) (range : Range) (reply : Reply) → writes number dev op ≡ false → Serves old dev op range reply new → saved_under number new.saved ≡ saved_under number old.saved
unwritten_serves number old new dev Read range (Data bytes) free h = ap (saved_under number) h.0.saved
unwritten_serves number old new dev Read range Written free h = absurd h
unwritten_serves number old new dev Read range Flushed free h = absurd h
unwritten_serves number old new dev Read range (Refused Io) free h = ap (saved_under number) h.0.saved
unwritten_serves number old new dev Read range (Refused IsInvalid) free h = ap (saved_under number) h.0.saved
unwritten_serves number old new dev Read range (Refused Overflow) free h = absurd h
unwritten_serves number old new Origin (Write bytes) range Written free h = ap (saved_under number) h.2.saved
unwritten_serves number old new (Snap n) (Write bytes) range Written free h = ap (saved_under number) h.2.saved ∙ saved_other number n (Live _) old.saved free
unwritten_serves number old new dev (Write bytes) range (Data read) free h = absurd h
unwritten_serves number old new dev (Write bytes) range (Refused Io) free h = ap (saved_under number) h.0.saved
unwritten_serves number old new dev (Write bytes) range (Refused IsInvalid) free h = ap (saved_under number) h.0.saved
unwritten_serves number old new dev (Write bytes) range Flushed free h = absurd h
unwritten_serves number old new dev (Write bytes) range (Refused Overflow) free h = absurd h
unwritten_serves number old new dev Flush range Flushed free h = ap (saved_under number) h.0.saved
unwritten_serves number old new dev Flush range (Data bytes) free h = absurd h
unwritten_serves number old new dev Flush range Written free h = absurd h
unwritten_serves number old new dev Flush range (Refused Io) free h = ap (saved_under number) h.0.saved
unwritten_serves number old new dev Flush range (Refused IsInvalid) free h = ap (saved_under number) h.0.saved
unwritten_serves number old new dev Flush range (Refused Overflow) free h = absurd h

-- one of the requests is no write of it where none is, and without one none of the others is
asked_unwritten : (number k : ℕ) (requests : List InFlight) (request : Request) → is_written number requests ≡ false → asked_under k requests ≡ Some request → writes number request.dev request.op ≡ false
asked_unwritten number k [] request free is = cc
asked_unwritten number k (r ∷ rs) request free is =
    let parts = or_parts (writes number r.request.dev r.request.op) (is_written number rs) free in
    elim (cases_Bool (r.number == k)) [
      | inl here ↦ (let same : Some r.request ≡ Some request = sym (rw here refl) ∙ is in let e : r.request ≡ request = cc in ap (λ (x : Request). writes number x.dev x.op) (sym e) ∙ parts.0)
      | inr there ↦ asked_unwritten number k rs request parts.1 (sym (rw there refl) ∙ is)
    ]

without_unwritten : (number k : ℕ) (requests : List InFlight) → is_written number requests ≡ false → is_written number (without k requests) ≡ false
without_unwritten number k [] free = free
without_unwritten number k (r ∷ rs) free =
    let parts = or_parts (writes number r.request.dev r.request.op) (is_written number rs) free in
    elim (cases_Bool (r.number == k)) [
      | inl here ↦ rw here parts.1
      | inr there ↦ rw there (or_from (writes number r.request.dev r.request.op) (is_written number (without k rs)) parts.0 (without_unwritten number k rs parts.1))
    ]

-- an event that was due replies, or spoils some, or changes nothing
replies_or_spoils : (old new : Plain) (event : Event) (outcome : Outcome) → IsLegalStep old event outcome new → ((k : ℕ) × (reply : Reply) × IsAnswered old k reply new) ⊎ (((which : List ℕ) × Spoils which old new) ⊎ (new ≡ old))
replies_or_spoils old new event (Replied k reply) h = inl (k, reply, h.1)
replies_or_spoils old new (Issue k) Done h = inr (inr h.0)
replies_or_spoils old new (Issue k) Fault h = absurd h
replies_or_spoils old new (CopyRead k) Done h = inr (inl h)
replies_or_spoils old new (CopyRead k) Fault h = inr (inl h)
replies_or_spoils old new (CopyWrite k) Done h = inr (inl h)
replies_or_spoils old new (CopyWrite k) Fault h = inr (inl h)
replies_or_spoils old new (ZeroNext k) Done h = inr (inl h)
replies_or_spoils old new (ZeroNext k) Fault h = inr (inl h)
replies_or_spoils old new (WriteArea k) Done h = inr (inl h)
replies_or_spoils old new (WriteArea k) Fault h = inr (inl h)
replies_or_spoils old new (Publish k) Done h = inr (inl h)
replies_or_spoils old new (Publish k) Fault h = inr (inl h)
replies_or_spoils old new (WriteInvalid k) Done h = inr (inl h)
replies_or_spoils old new (WriteInvalid k) Fault h = inr (inl h)
replies_or_spoils old new (FlushStore k) Done h = inr (inl h)
replies_or_spoils old new (FlushStore k) Fault h = inr (inl h)
replies_or_spoils old new MergeGroup Done h = inr (inl h)
replies_or_spoils old new MergeGroup Fault h = inr (inl h)
replies_or_spoils old new MergeAreaRead Done h = inr (inl h)
replies_or_spoils old new MergeAreaRead Fault h = inr (inl h)
replies_or_spoils old new MergeRead Done h = inr (inl h)
replies_or_spoils old new MergeRead Fault h = inr (inl h)
replies_or_spoils old new MergeWrite Done h = inr (inl h)
replies_or_spoils old new MergeWrite Fault h = inr (inl h)
replies_or_spoils old new MergeFlush Done h = inr (inl h)
replies_or_spoils old new MergeFlush Fault h = inr (inl h)
replies_or_spoils old new MergeCommit Done h = inr (inl h)
replies_or_spoils old new MergeCommit Fault h = inr (inl h)
replies_or_spoils old new MergeRelease Done h = inr (inl h)
replies_or_spoils old new MergeRelease Fault h = inr (inl h)

module _ (number : ℕ) (array : List ℕ) (old new : Plain) (free : is_written number old.requests ≡ false) (shows : StillShows number array old) where
  still_same : saved_under number new.saved ≡ saved_under number old.saved → StillShows number array new
  still_same at = elim shows [ inl live ↦ inl (at ∙ live) | inr lost ↦ inr (at ∙ lost) ]

  -- after an event, or none
  pub step_keeps : (event : Event) → MayStep event old new → StillShows number array new × (is_written number new.requests ≡ false)
  step_keeps event (inr same) = (still_same (ap (λ (p : Plain). saved_under number p.saved) same), ap (λ (p : Plain). is_written number p.requests) same ∙ free)
  step_keeps event (inl (outcome, legal)) = elim (replies_or_spoils old new event outcome legal) [
    | inl (k, reply, answered) ↦ (
      still_same (unwritten_serves number old new answered.request.dev answered.request.op answered.request.range reply (asked_unwritten number k old.requests answered.request free answered.asked) answered.served),
      ap (is_written number) answered.gone ∙ without_unwritten number k old.requests free,
    )
    | inr (inr same) ↦ (still_same (ap (λ (p : Plain). saved_under number p.saved) same), ap (λ (p : Plain). is_written number p.requests) same ∙ free)
    | inr (inl (which, spoils)) ↦ (still_spoiled which number array old new (ap (λ (p : Plain). p.saved) spoils) shows, ap (λ (p : Plain). is_written number p.requests) spoils ∙ free)
  ]

  -- after a request that is no write of it, accepted or not
  pub submit_keeps : (request : Request) → writes number request.dev request.op ≡ false → MaySubmit request old new → StillShows number array new × (is_written number new.requests ≡ false)
  submit_keeps request none (inl (k, which, submitted)) = (
    still_spoiled which number array old new (ap (λ (p : Plain). p.saved) submitted.becomes) shows,
    ap (λ (p : Plain). is_written number p.requests) submitted.becomes
        ∙ list_any-append (λ (r : InFlight). writes number r.request.dev r.request.op) old.requests (record { number = k; request = kept request } ∷ [])
        ∙ or_from (is_written number old.requests) (writes number request.dev request.op || false) free (or_from (writes number request.dev request.op) false none refl),
  )
  submit_keeps request none (inr (refusal, inl same)) = (still_same (ap (λ (p : Plain). saved_under number p.saved) same), ap (λ (p : Plain). is_written number p.requests) same ∙ free)
  submit_keeps request none (inr (refusal, inr (n, bytes, dev, op, inl (why, never, spoils)))) =
      (still_spoiled (n ∷ []) number array old new (ap (λ (p : Plain). p.saved) spoils) shows, ap (λ (p : Plain). is_written number p.requests) spoils ∙ free)
  submit_keeps request none (inr (refusal, inr (n, bytes, dev, op, inr (why, marks)))) =
      (still_same (ap (λ (p : Plain). saved_under number p.saved) marks.becomes ∙ saved_marked number n old.saved), ap (λ (p : Plain). is_written number p.requests) marks.becomes ∙ free)
