-- Messages in what is heard.
use Rattle.std.proofs.Common.{◌≡◌, ℕ, ◌+◌, ◌<◌, ◌≤◌, List, [], ◌++◌, length, take, drop, Option, None, Some, IfSome, refl, arith, ap, ◌∙◌, sym, subst, length-append, drop_at}
use Rattle.std.proofs.Math.Seq.{take-append_seam}
use Rattle.std.specs.Io.KnownBytes.{Consumes}
use Rattle.std.proofs.KnownBytes.{Consumes-trans}
use Rattle.nbd_messages.specs.Requests.{request_in, asked_in}
use Rattle.nbd_messages.specs.declared.asked.Asked.{Asked}
use Rattle.nbd_messages.specs.declared.request.Request.{Request}
use Rattle.nbd_messages.proofs.Fronts.{asked_front, request_front}
use Rattle.nbd_options.specs.declared.export.Export.{Export}
use Rattle.nbd_read_session.specs.declared.served.Fault.{Fault}
use Rattle.nbd_options.specs.declared.session.Place.{Place}
use Rattle.nbd_options.specs.declared.session.Stage.{Stage}
use Rattle.nbd_options.specs.declared.session.Stage.TheVariants.{Opening, Haggling, Serving, Over}
use Rattle.nbd_options.specs.declared.session.Session.{Session}
use Rattle.nbd_read_session.specs.Heard.{IsShort, IsRead}
use Rattle.nbd_options.specs.Haggled.{IsReaction, Reaction, haggled_any}
use Rattle.nbd_messages.specs.Writing.{payload}
use Rattle.nbd_read_session.specs.Talk.{IsWhole, NoneIsWhole, IsCaused, AreArrays, opened, reaction_at, option_reaction, request_reaction}
use Rattle.nbd_read_session.specs.Turns.{IsTurn, IsOpened, IsEnd, IsAsked, IsRequested, IsHaggledFor, IsReplied}
use Rattle.nbd_read_session.specs.Blocks.{Array}

-- two headers at the front of what is heard are one
same_asked : (head ys message rest : List ℕ) → head ++ ys ≡ message ++ rest → 16 ≤ length head → 16 ≤ length message → asked_in message ≡ asked_in head
same_asked head ys message rest e long long' = sym (asked_front message rest long') ∙ ap asked_in (sym e) ∙ asked_front head ys long

same_request : (head ys message rest : List ℕ) → head ++ ys ≡ message ++ rest → 28 ≤ length head → 28 ≤ length message → request_in message ≡ request_in head
same_request head ys message rest e long long' = sym (request_front message rest long') ∙ ap request_in (sym e) ∙ request_front head ys long

some_inj : {A : Type 0} (x y : A) → Some x ≡ Some y → x ≡ y
some_inj x y e = (cc)

-- no option has another magic number
pub none_asked : (a b : Option (List ℕ)) (head : List ℕ) → Consumes a b head → length head ≡ 16 → asked_in head ≡ None → IfSome a (NoneIsWhole Haggling)
none_asked None b head consumes len none = tt
none_asked (Some xs) None head consumes len none = absurd consumes
none_asked (Some xs) (Some ys) head consumes len none = λ message rest e whole.
    let same : asked_in message ≡ asked_in head = same_asked head ys message rest (sym consumes ∙ e) (omega arith) (let l = whole.2 in omega arith) in
    let is : asked_in message ≡ Some whole.0 = whole.1 in
    (cc)

pub none_requested : (place : Place) (a b : Option (List ℕ)) (head : List ℕ) → Consumes a b head → length head ≡ 28 → request_in head ≡ None → IfSome a (NoneIsWhole (Serving place))
none_requested place None b head consumes len none = tt
none_requested place (Some xs) None head consumes len none = absurd consumes
none_requested place (Some xs) (Some ys) head consumes len none = λ message rest e whole.
    let same : request_in message ≡ request_in head = same_request head ys message rest (sym consumes ∙ e) (omega arith) (let l = whole.2 in omega arith) in
    let is : request_in message ≡ Some whole.0 = whole.1 in
    (cc)

-- no option is whole without its data
pub option_short : (a b : Option (List ℕ)) (asked : Asked) → IsAsked a b asked → IsShort b asked.length → IfSome a (NoneIsWhole Haggling)
option_short None b asked (head, len, is, consumes) short = tt
option_short (Some xs) None asked (head, len, is, consumes) short = absurd consumes
option_short (Some xs) (Some ys) asked (head, len, is, consumes) short = λ message rest e whole.
    let same : asked_in message ≡ asked_in head = same_asked head ys message rest (sym consumes ∙ e) (omega arith) (let l = whole.2 in omega arith) in
    let one : whole.0 ≡ asked = some_inj whole.0 asked (sym whole.1 ∙ same ∙ is) in
    let length_is : length message ≡ 16 + asked.length = whole.2 ∙ ap (λ (x : Asked). 16 + x.length) one in
    let heard : length xs ≡ length head + length ys = ap length consumes ∙ length-append head ys in
    let heard' : length xs ≡ length message + length rest = ap length e ∙ length-append message rest in
    absurd (omega arith)

pub request_short : (place : Place) (a b : Option (List ℕ)) (request : Request) → IsRequested a b request → IsShort b (payload request) → IfSome a (NoneIsWhole (Serving place))
request_short place None b request (head, len, is, consumes) short = tt
request_short place (Some xs) None request (head, len, is, consumes) short = absurd consumes
request_short place (Some xs) (Some ys) request (head, len, is, consumes) short = λ message rest e whole.
    let same : request_in message ≡ request_in head = same_request head ys message rest (sym consumes ∙ e) (omega arith) (let l = whole.2 in omega arith) in
    let one : whole.0 ≡ request = some_inj whole.0 request (sym whole.1 ∙ same ∙ is) in
    let length_is : length message ≡ 28 + payload request = whole.2 ∙ ap (λ (x : Request). 28 + payload x) one in
    let heard : length xs ≡ length head + length ys = ap length consumes ∙ length-append head ys in
    let heard' : length xs ≡ length message + length rest = ap length e ∙ length-append message rest in
    absurd (omega arith)

moved_reaction : (answer : List ℕ) (after : Session) (r s : Reaction) → r ≡ s → IsReaction answer after s → IsReaction answer after r
moved_reaction answer after r s e is = subst (λ (t : Reaction). IsReaction answer after t) (sym e) is

-- an option and its data are a message
pub option_turn : (exports : List Export) (arrays : ℕ → Array) (may_fail : ℕ → ℕ → ℕ → Type 0) (a b c : Option (List ℕ)) (asked : Asked) (session after : Session) (answer : List ℕ) → session.stage ≡ Haggling → IsAsked a b asked → IsHaggledFor exports b c asked session after answer → IsTurn exports arrays may_fail a c session after answer
option_turn exports arrays may_fail a b c asked session after answer at (head, len, is, consumes) (text, text_len, text_consumes, reacts) =
    let front : asked_in (head ++ text) ≡ Some asked = asked_front head text (omega arith) ∙ is in
    let whole : length (head ++ text) ≡ 16 + asked.length = length-append head text ∙ omega arith in
    let behind : drop 16 (head ++ text) ≡ text = drop_at head text 16 len in (
      head ++ text,
      None,
      Consumes-trans a b c head text consumes text_consumes,
      subst (λ (s : Stage). IsWhole s (head ++ text)) (sym at) (asked, front, whole),
      moved_reaction answer after _ (haggled_any exports session asked.option text)
          (ap (λ (s : Stage). reaction_at s exports arrays session None (head ++ text)) at
          ∙ ap (λ (o : Option Asked). option_reaction exports session o (head ++ text)) front
          ∙ ap (haggled_any exports session asked.option) behind) reacts,
      subst (λ (s : Stage). IsCaused may_fail s (head ++ text) None) (sym at) refl,
    )

-- the client's flags are a message
pub open_turn : (exports : List Export) (arrays : ℕ → Array) (may_fail : ℕ → ℕ → ℕ → Type 0) (a b : Option (List ℕ)) (session after : Session) (answer : List ℕ) → session.stage ≡ Opening → answer ≡ [] → IsOpened a b session after → IsTurn exports arrays may_fail a b session after answer
open_turn exports arrays may_fail a b session after answer at none (message, consumes, whole, then) = (
  message,
  None,
  consumes,
  subst (λ (s : Stage). IsWhole s message) (sym at) whole,
  moved_reaction answer after _ (opened session message) (ap (λ (s : Stage). reaction_at s exports arrays session None message) at) (none, then),
  subst (λ (s : Stage). IsCaused may_fail s message None) (sym at) refl,
)

-- a request and its bytes are a message
pub request_turn : (exports : List Export) (arrays : ℕ → Array) (may_fail : ℕ → ℕ → ℕ → Type 0) (shows : ℕ → Option Array) (a b c : Option (List ℕ)) (request : Request) (place : Place) (session after : Session) (answer : List ℕ) → session.stage ≡ Serving place → IsRequested a b request → IsRead b c (payload request) → AreArrays shows arrays → IsReplied shows may_fail place request session after answer → IsTurn exports arrays may_fail a c session after answer
request_turn exports arrays may_fail shows a b c request place session after answer at (head, len, is, consumes) (text, text_len, text_consumes) known (replied, then) =
    let front : request_in (head ++ text) ≡ Some request = request_front head text (omega arith) ∙ is in
    let whole : length (head ++ text) ≡ 28 + payload request = length-append head text ∙ omega arith in
    let (fault, cause, answered) = replied (arrays place.export) (known place.export) in (
      head ++ text,
      fault,
      Consumes-trans a b c head text consumes text_consumes,
      subst (λ (s : Stage). IsWhole s (head ++ text)) (sym at) (request, front, whole),
      moved_reaction answer after _ (request_reaction arrays session place fault (Some request))
          (ap (λ (s : Stage). reaction_at s exports arrays session fault (head ++ text)) at
          ∙ ap (request_reaction arrays session place fault) front) (answered, then),
      subst (λ (s : Stage). IsCaused may_fail s (head ++ text) fault) (sym at) (request, front, cause),
    )

pub option_end : (a b : Option (List ℕ)) (asked : Asked) (session : Session) → session.stage ≡ Haggling → IsAsked a b asked → IsShort b asked.length → IsEnd a session
option_end a b asked session at is short = subst (λ (s : Stage). IfSome a (NoneIsWhole s)) (sym at) (option_short a b asked is short)

pub request_end : (a b : Option (List ℕ)) (request : Request) (place : Place) (session : Session) → session.stage ≡ Serving place → IsRequested a b request → IsShort b (payload request) → IsEnd a session
request_end a b request place session at is short = subst (λ (s : Stage). IfSome a (NoneIsWhole s)) (sym at) (request_short place a b request is short)

same_front : (m r m' r' : List ℕ) → m ++ r ≡ m' ++ r' → length m ≡ length m' → m ≡ m'
same_front m r m' r' e len = sym (take-append_seam m r) ∙ ap (take (length m)) e ∙ ap (λ n. take n (m' ++ r')) len ∙ take-append_seam m' r'

-- what is heard begins with one message at most
pub one_message : (stage : Stage) (m r m' r' : List ℕ) → m ++ r ≡ m' ++ r' → IsWhole stage m → IsWhole stage m' → m ≡ m'
one_message Opening m r m' r' e whole whole' = same_front m r m' r' e (whole.0 ∙ sym whole'.0)
one_message Haggling m r m' r' e (asked, is, len) (asked', is', len') =
    let same : asked_in m' ≡ asked_in m = same_asked m r m' r' e (omega arith) (omega arith) in
    let one : asked' ≡ asked = some_inj asked' asked (sym is' ∙ same ∙ is) in
    same_front m r m' r' e (len ∙ ap (λ (x : Asked). 16 + x.length) (sym one) ∙ sym len')
one_message (Serving place) m r m' r' e (request, is, len) (request', is', len') =
    let same : request_in m' ≡ request_in m = same_request m r m' r' e (omega arith) (omega arith) in
    let one : request' ≡ request = some_inj request' request (sym is' ∙ same ∙ is) in
    same_front m r m' r' e (len ∙ ap (λ (x : Request). 28 + payload x) (sym one) ∙ sym len')
one_message Over m r m' r' e whole whole' = absurd whole
