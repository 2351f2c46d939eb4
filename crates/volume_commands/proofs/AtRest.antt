-- Events of a volume in which one request is in flight, or none: each that was due was done.
use Rattle.std.proofs.Common.{◌≡◌, ◌⊎◌, inl, inr, ℕ, ◌*◌, true, false, List, [], ◌∷◌, ◌++◌, length, map, Option, Some, None, refl, sym, ◌∙◌, ap, subst}
use Rattle.std.specs.Prelude.{◌==◌}
use Rattle.std.proofs.lemmas.Bool.{cases_Bool, cond-true, cond-false, true≢false}
use Rattle.sector.specs.declared.range.Range.{Range}
use Rattle.sector.specs.declared.refusal.Refusal.{Refusal}
use Rattle.device.specs.Layers.{Layer}
use Rattle.chunk.specs.Pieces.{Span}
use Rattle.plain_machine.specs.Failures.{refusal_of}
use Rattle.plain_machine.specs.Kept.{kept, kept_range}
use Rattle.plain_machine.specs.Plain.{InFlight, asked_under, without}
use Rattle.plain_machine.specs.declared.event.Event.{Event}
use Rattle.plain_machine.specs.declared.event.Event.TheVariants.{Issue, CopyRead, CopyWrite, ZeroNext, WriteArea, Publish, WriteInvalid, FlushStore, MergeGroup, MergeAreaRead, MergeRead, MergeWrite, MergeFlush, MergeCommit, MergeRelease}
use Rattle.plain_machine.specs.declared.event.Outcome.{Outcome}
use Rattle.plain_machine.specs.declared.event.Outcome.TheVariants.{Done, Fault, Reply as Answered}
use Rattle.plain_machine.specs.declared.request.Dev.{Dev}
use Rattle.plain_machine.specs.declared.request.Failure.{Failure}
use Rattle.plain_machine.specs.declared.request.Op.{Op}
use Rattle.plain_machine.specs.declared.request.Op.TheVariants.{Read, Write, Flush}
use Rattle.plain_machine.specs.declared.request.Reply.{Reply}
use Rattle.plain_machine.specs.declared.request.Reply.TheVariants.{Data, Written, Flushed, Refused}
use Rattle.plain_machine.specs.declared.request.Request.{Request}
use Rattle.in_flight.specs.Kinds.{in_flight}
use Rattle.in_flight.specs.Routes.{refused_of}
use Rattle.in_flight.specs.declared.flights.Flight.{Flight}
use Rattle.whole_commands.specs.Refusals.{IsStarved, is_starved}
use Rattle.event_machine.specs.Submitting.{submitted}
use Rattle.volume.specs.Flying.{Fits, IsFlown, IsTakenOut}
use Rattle.volume.specs.Leaving.{is_quiet_of}
use Rattle.volume.specs.Moved.{moving_of}
use Rattle.volume.specs.Submitting.{IsRefusedAs}
use Rattle.volume.specs.Volumed.{Volumed}
use Rattle.volume_commands.specs.Among.{IsRequestOf}
use Rattle.counted_volume.specs.DoneDue.{AreDone, AreDoneDue, last_told, told_by}
use Rattle.counted_volume.proofs.DoneDue.{done_then}
use Rattle.volume_commands.specs.AtRest.{IsLed, IsAnswered, IsEntered, IsPieceAnswered, IsPieceUndone}
use Rattle.volume_commands.specs.Serving.{IsGood}

-- an event that does not reply leaves which requests are in flight
pub stays_done : (event : Event) (old new : List InFlight) → IsFlown event Done old new → new ≡ old
stays_done (Issue n) old new f = f.same
stays_done (CopyRead n) old new f = f
stays_done (CopyWrite n) old new f = f
stays_done (ZeroNext n) old new f = f
stays_done (WriteArea n) old new f = f
stays_done (Publish n) old new f = f
stays_done (WriteInvalid n) old new f = f
stays_done (FlushStore n) old new f = f
stays_done MergeGroup old new f = f
stays_done MergeAreaRead old new f = f
stays_done MergeRead old new f = f
stays_done MergeWrite old new f = f
stays_done MergeFlush old new f = f
stays_done MergeCommit old new f = f
stays_done MergeRelease old new f = f

pub stays_fault : (event : Event) (old new : List InFlight) → IsFlown event Fault old new → new ≡ old
stays_fault (Issue n) old new f = absurd f
stays_fault (CopyRead n) old new f = f
stays_fault (CopyWrite n) old new f = f
stays_fault (ZeroNext n) old new f = f
stays_fault (WriteArea n) old new f = f
stays_fault (Publish n) old new f = f
stays_fault (WriteInvalid n) old new f = f
stays_fault (FlushStore n) old new f = f
stays_fault MergeGroup old new f = f
stays_fault MergeAreaRead old new f = f
stays_fault MergeRead old new f = f
stays_fault MergeWrite old new f = f
stays_fault MergeFlush old new f = f
stays_fault MergeCommit old new f = f
stays_fault MergeRelease old new f = f

-- no request is in flight but this one
abbrev pub AtMost : InFlight → List InFlight → Type 0
AtMost own xs = (xs ≡ []) ⊎ (xs ≡ own ∷ [])

-- so a reply is to it, and then none is
pub one_answered : (own : InFlight) (n : ℕ) (reply : Reply) (old new : List InFlight) → AtMost own old → IsTakenOut n reply old new → (new ≡ []) × Fits own.request.op own.request.range reply
one_answered own n reply old new (inl none) out =
    absurd (let e : (let r : Option Request = None in r) ≡ Some out.request = sym (ap (asked_under n) none) ∙ out.asked in cc)
one_answered own n reply old new (inr one) out = elim (cases_Bool (own.number == n)) [
  | inl mine ↦ (
      let asked : Some own.request ≡ Some out.request = sym (cond-true _ _ _ mine) ∙ sym (ap (asked_under n) one) ∙ out.asked in
      let same : own.request ≡ out.request = cc in
      (out.gone ∙ ap (without n) one ∙ cond-true _ _ _ mine, subst (λ (r : Request). Fits r.op r.range reply) (sym same) out.fits))
  | inr other ↦ absurd (let e : (let r : Option Request = None in r) ≡ Some out.request = sym (cond-false _ _ _ other) ∙ sym (ap (asked_under n) one) ∙ out.asked in cc)
]

pub flown_next : (own : InFlight) (before : Reply) (event : Event) (outcome : Outcome) (old new : List InFlight) → AtMost own old → IsFlown event outcome old new → Fits own.request.op own.request.range before
    → AtMost own new × Fits own.request.op own.request.range (told_by outcome before)
flown_next own before event (Answered n reply) old new few f fits = (let a = one_answered own n reply old new few f.1 in (inl a.0, a.1))
flown_next own before event Done old new few f fits = (subst (AtMost own) (sym (stays_done event old new f)) few, fits)
flown_next own before event Fault old new few f fits = (subst (AtMost own) (sym (stays_fault event old new f)) few, fits)

-- a request is kept with its own range, but for a flush, whose reply has no bytes
kept_fits : (op : Op) (range : Range) (reply : Reply) → Fits op (kept_range op range) reply → Fits op range reply
kept_fits Read range reply f = f
kept_fits (Write bytes) range reply f = f
kept_fits Flush range (Data bytes) f = f
kept_fits Flush range Written f = f
kept_fits Flush range Flushed f = f
kept_fits Flush range (Refused failure) f = f

-- a volume that was quiet is as it was while no event is done
pub still_never : {B : Type 0} (old v w : Volumed B) → (is_quiet_of old ≡ true → v ≡ old) → is_quiet_of v ≡ false → is_quiet_of old ≡ true → w ≡ old
still_never {B} old v w still busy quiet = absurd (true≢false (sym (ap (λ (x : Volumed B). is_quiet_of x) (still quiet) ∙ quiet) ∙ busy))

-- what was done so far, and others that were due first, or were done behind such a one
module _ {B : Type 0} (holds : B → ℕ → List ℕ → Type 0) (contents : B → List ℕ) (layers : B → List Layer) (faults size : B → ℕ) where
  pub led_then : (before now after : Reply) (u v w : Volumed B) → IsLed holds contents layers faults size before now u v → IsLed holds contents layers faults size now after v w → AreDone holds contents layers faults size now after v w → IsLed holds contents layers faults size before after u w
  led_then before now after u v w (inl same) next more = subst (λ (x : Volumed B). IsLed holds contents layers faults size before after x w) same.0 (subst (λ (r : Reply). IsLed holds contents layers faults size r after v w) same.1 next)
  led_then before now after u v w (inr led) next more = inr (led.0, led.1, led.2, led.3, led.4, done_then holds contents layers faults size (told_by led.1 before) now after led.2 v w led.5 more)

module _ {B : Type 0} (holds : B → ℕ → List ℕ → Type 0) (contents : B → List ℕ) (layers : B → List Layer) (faults size : B → ℕ) where
  -- the last reply is one to that request
  all_fit : (own : InFlight) (before : Reply) (done : List (Event × Outcome)) (old new : Volumed B) → AtMost own (map in_flight old.flights) → AreDoneDue holds contents layers faults size done old new → Fits own.request.op own.request.range before
      → Fits own.request.op own.request.range (last_told before done)
  all_fit own before [] old new few chain fits = fits
  all_fit own before (x ∷ done) old new few chain fits =
      let next = flown_next own before x.0 x.1 (map in_flight old.flights) (map in_flight chain.0.flights) few chain.1.flown fits in
      all_fit own (told_by x.1 before) done chain.0 new next.0 chain.2 next.1

  -- where a request was refused nothing is in flight, as before
  pub refused_none : (request : Request) (refusal : Refusal) (old new : Volumed B) → old.flights ≡ [] → IsRefusedAs contents layers size request refusal old new → new.flights ≡ []
  refused_none request refusal old new none refused = elim refused [
    | inl first ↦ ap (λ (v : Volumed B). v.flights) first.1 ∙ none
    | inr later ↦ elim later [
      | inl lacks ↦ ap (λ (v : Volumed B). v.flights) lacks.2.becomes ∙ none
      | inr full ↦ elim full [
        | inl lost ↦ ap (λ (v : Volumed B). v.flights) lost.2.2.becomes ∙ ap (λ (fs : List Flight). map (refused_of (lost.2.0 ∷ [])) fs) none
        | inr shut ↦ ap (λ (v : Volumed B). v.flights) shut.2.2.becomes ∙ none
      ]
    ]
  ]

  module _ (request : Request) (failure : Failure) (old mid : Volumed B) (none : old.flights ≡ []) where
    -- an accepted request alone is in flight
    pub entered_few : IsEntered contents layers size request failure old mid → (own : InFlight) × AtMost own (map in_flight mid.flights) × (own.request ≡ kept request)
    entered_few (inl accepted) =
        let own : InFlight = record { number = accepted.0; request = kept request } in
        (own, inr (accepted.2.flown ∙ ap (λ (fs : List Flight). map in_flight fs ++ own ∷ []) none), refl)
    entered_few (inr refused) = (record { number = 0; request = kept request }, inl (ap (λ (fs : List Flight). map in_flight fs) (refused_none request (refusal_of failure) old mid none refused)), refl)

    pub answered : (number : ℕ) (reply : Reply) (new : Volumed B) → IsEntered contents layers size request failure old mid → submitted number request (moving_of contents layers (Some (Refused failure)) old) ≡ moving_of contents layers (Some (Refused failure)) mid
        → AreDone holds contents layers faults size (Refused failure) reply mid new → IsLed holds contents layers faults size (Refused failure) reply mid new → (is_quiet_of mid ≡ true → new ≡ mid)
        → IsAnswered holds contents layers faults size request reply old new
    answered number reply new entered exact did led still =
        let few = entered_few entered in
        let last = all_fit few.0 (Refused failure) did.done mid new few.1 did.chain tt in
        let mine = subst (λ (r : Request). Fits r.op r.range (last_told (Refused failure) did.done)) few.2 last in
        record {
          failure = failure;
          number = number;
          mid = mid;
          entered = entered;
          exact = exact;
          did = did;
          led = led;
          still = still;
          fits = kept_fits request.op request.range reply (subst (λ (r : Reply). Fits request.op (kept_range request.op request.range) r) (sym did.reply_is) mine);
        }

  module _ (dev : Dev) (op : Op) (piece : Span) (request : Request) (asked : IsRequestOf dev op piece request) (old new : Volumed B) where
    -- a piece whose request was answered
    pub piece_answered : (given reply : Reply) → IsGood reply → given ≡ reply → IsAnswered holds contents layers faults size request given old new → IsPieceAnswered holds contents layers faults size dev op piece reply old new
    piece_answered given reply good is answered = record {
      request = request;
      asked = asked;
      good = good;
      answered = subst (λ (r : Reply). IsAnswered holds contents layers faults size request r old new) is answered;
    }

    pub piece_failed : (given : Reply) (failure : Failure) (refusal : Refusal) → refusal ≡ refusal_of failure → given ≡ Refused failure → IsAnswered holds contents layers faults size request given old new
        → IsPieceUndone holds contents layers faults size dev op piece refusal old new
    piece_failed given failure refusal why is answered = inr (inl (request, asked, failure, why, subst (λ (r : Reply). IsAnswered holds contents layers faults size request r old new) is answered))

    -- and one whose was not taken
    pub piece_untaken : (refusal : Refusal) → is_starved refusal ≡ true → IsStarved refusal old new ⊎ IsRefusedAs contents layers size request refusal old new → IsPieceUndone holds contents layers faults size dev op piece refusal old new
    piece_untaken refusal starved why = inr (inr (request, asked, starved, why))

  -- a read is answered with all bytes of its piece
  pub read_whole : (dev : Dev) (piece : Span) (request : Request) (bytes : List ℕ) (given : Reply) (old new : Volumed B) → IsRequestOf dev Read piece request → given ≡ Data bytes → IsAnswered holds contents layers faults size request given old new → length bytes ≡ 512 * piece.count
  read_whole dev piece request bytes given old new asked is answered =
      let here : Fits request.op request.range (Data bytes) = subst (λ (r : Reply). Fits request.op request.range r) is answered.fits in
      let mine : Fits Read request.range (Data bytes) = subst (λ (o : Op). Fits o request.range (Data bytes)) asked.op_is here in
      mine ∙ ap (λ (s : Span). 512 * s.count) asked.range_is
