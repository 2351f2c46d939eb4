-- What an event replies fits what was asked, and only Issue replies.
use Rattle.std.proofs.Common.{◌≡◌, ◌==◌, if◌then◌else◌, ℕ, Bool, true, false, List, [], ◌∷◌, map, Option, Some, None, sym, ap, ◌∙◌, subst}
use Rattle.plain_machine.specs.Plain.{InFlight, asked_under}
use Rattle.plain_machine.specs.declared.event.Event.{Event}
use Rattle.plain_machine.specs.declared.event.Event.TheVariants.{Issue}
use Rattle.plain_machine.specs.declared.event.Outcome.{Outcome}
use Rattle.plain_machine.specs.declared.event.Outcome.TheVariants.{Done, Fault, Reply as Replied}
use Rattle.plain_machine.specs.declared.request.Reply.{Reply}
use Rattle.plain_machine.specs.declared.request.Request.{Request}
use Rattle.volume.specs.Flying.{Fits, IsFlown, IsTakenOut}
use Rattle.audited_volume.specs.declared.entry.Receipt.{Receipt}
use Rattle.audited_volume.specs.Books.{AuditShape}
use Rattle.audited_volume.specs.PlacesTaken.{HasReceipt, IsNoted}
use Rattle.audited_volume.specs.Seats.{Seated, flight_in, seated_under}

-- what a seat asked is asked of the volume
seated_asked : (number : ℕ) (held : List Seated) (x : Seated) → seated_under number held ≡ Some x → asked_under number (map flight_in held) ≡ Some x.request
seated_asked number [] x is = absurd (let no : None ≡ Some x = is in cc)
seated_asked number (s ∷ ss) x is = go (s.number == number) (seated_asked number ss x) is
  where
    go : (b : Bool) → (seated_under number ss ≡ Some x → asked_under number (map flight_in ss) ≡ Some x.request) → (if b then Some s else seated_under number ss) ≡ Some x → (if b then Some s.request else asked_under number (map flight_in ss)) ≡ Some x.request
    go true rest h = ap (λ (o : Option Seated). asks o) h
      where
        asks : Option Seated → Option Request
        asks (Some y) = Some y.request
        asks None = None
    go false rest h = rest h

-- the request of a receipt is the one that was answered
answered_one : (x y : Request) → Some x ≡ Some y → x ≡ y
answered_one x y is = ap (λ (o : Option Request). one o) is
  where
    one : Option Request → Request
    one (Some z) = z
    one None = x

pub fitting : {B : Type 0} (event : Event) (seat number : ℕ) (reply : Reply) (r : Receipt) (outcome : Outcome) (a b : AuditShape B) (flights others : List InFlight) → outcome ≡ Replied number reply → HasReceipt seat number reply r a b
    → map flight_in a.held ≡ flights → IsFlown event outcome flights others → Fits r.request.op r.request.range r.reply
fitting event seat number reply r outcome a b flights others replied h same flown =
    let out : IsTakenOut number reply flights others = (subst (λ (o : Outcome). IsFlown event o flights others) replied flown).1 in
    let is : out.request ≡ r.request = answered_one out.request r.request (sym out.asked ∙ ap (asked_under number) (sym same) ∙ seated_asked number a.held _ h.asked) in
    subst (λ (q : Request). Fits q.op q.range r.reply) is (subst (Fits out.request.op out.request.range) (sym h.answer) out.fits)

-- an event that is no Issue has no receipt
pub no_receipt : {B : Type 0} (event : Event) (seat : ℕ) (r : Receipt) (outcome : Outcome) (receipt : Option Receipt) (a b : AuditShape B) (flights others : List InFlight) → ((n : ℕ) → event ≡ Issue n → ⊥) → receipt ≡ Some r
    → IsNoted seat outcome receipt a b → IsFlown event outcome flights others → ⊥
no_receipt event seat r outcome receipt a b flights others other some noted flown = go outcome (subst (λ (x : Option Receipt). IsNoted seat outcome x a b) some noted) flown
  where
    go : (o : Outcome) → IsNoted seat o (Some r) a b → IsFlown event o flights others → ⊥
    go (Replied number reply) s f = other number f.0
    go Done s f = s
    go Fault s f = s
