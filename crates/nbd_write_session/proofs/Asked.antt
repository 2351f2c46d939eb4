-- Requests, one after the other, and how they are taken from what was heard.
use Rattle.std.proofs.Common.{◌≡◌, Bool, true, false, MatchBool, ℕ, zero, suc, ◌+◌, ◌-◌, ◌<◌, ◌≤◌, min, Option, None, Some, IfSome, List, [], ◌∷◌, ◌++◌, length, take, drop, refl, ap, ◌∙◌, sym, subst, append_assoc, arith, length-append, length-drop}
use Rattle.std.specs.Bool.{⊤}
use Rattle.std.specs.Io.KnownBytes.{Consumes, IsAtEnd, Keeps}
use Rattle.std.proofs.lemmas.List.{append-nil, take-append-le, drop-append-le, drop-drop}
use Rattle.nbd_messages.specs.declared.command.Command.TheVariants.{Disconnect}
use Rattle.nbd_messages.specs.declared.request.Request.{Request}
use Rattle.nbd_messages.specs.Requests.{request_in}
use Rattle.nbd_messages.specs.Writing.{payload}
use Rattle.nbd_jobs.specs.Refused.{refusal_of}
use Rattle.nbd_write_session.specs.Asked.{Asks, AreAsked, IsNext, IsOver}
use Rattle.nbd_write_session.specs.Owed.{Owed, given_with, owed_for}
use Rattle.nbd_write_session.specs.Stream.{Stream, dropped, left, lessened, rest_of, thinned}

-- nothing is asked
pub asks_none : (size given : ℕ) (known : Option (List ℕ)) → Asks size given [] known known given
asks_none size given None = tt
asks_none size given (Some bytes) = (refl, refl)

are_asked_then : (size given middle_given last : ℕ) (first second : List Owed) (bytes middle rest : List ℕ) → AreAsked size given first bytes middle middle_given → AreAsked size middle_given second middle rest last → AreAsked size given (first ++ second) bytes rest last
are_asked_then size given middle_given last [] second bytes middle rest (now, count) later =
    let P : List ℕ → Type 0 = λ l. AreAsked size given second l rest last in
    let Q : ℕ → Type 0 = λ n. AreAsked size n second middle rest last in
    subst P (sym now) (subst Q count later)
are_asked_then size given middle_given last (owed ∷ first) second bytes middle rest now later =
    (now.0, now.1, now.2, are_asked_then size (given_with owed.refusal given) middle_given last first second (drop (28 + payload owed.request) bytes) middle rest now.3 later)

-- some is asked, and then more
pub asks_then : (size given middle last : ℕ) (first second : List Owed) (a b c : Option (List ℕ)) → Asks size given first a b middle → Asks size middle second b c last → Asks size given (first ++ second) a c last
asks_then size given middle last first second None b c now later = tt
asks_then size given middle last first second (Some x) None c now later = absurd now
asks_then size given middle last first second (Some x) (Some y) None now later = absurd later
asks_then size given middle last first second (Some x) (Some y) (Some z) now later = are_asked_then size given middle last first second x y z now later

-- what is left to be taken, or what of it was heard
abbrev pub front_of : Stream → Option (List ℕ) → List ℕ
front_of s None = s.heard
front_of s (Some bytes) = rest_of s bytes

-- one request is taken from the front of what was heard
pub asks_one : (size given with_it : ℕ) (request : Request) (old new : Stream) (known : Option (List ℕ)) → with_it ≡ given_with (refusal_of size request) given → ((bytes : List ℕ) → IsNext size request (rest_of old bytes)) → (request.command ≡ Disconnect → ⊥) → ((bytes : List ℕ) → rest_of new bytes ≡ drop (28 + payload request) (rest_of old bytes)) → Asks size given (owed_for size given request (front_of old known) ∷ []) (left old known) (left new known) with_it
asks_one size given with_it request old new None count next stays rest = tt
asks_one size given with_it request old new (Some bytes) count next stays rest = (next bytes, stays, refl, (sym (rest bytes), count))

-- where no byte is unwanted, what was heard is the front of what is left
rest_calm : (s : Stream) (bytes : List ℕ) → s.unwanted ≡ 0 → rest_of s bytes ≡ s.heard ++ bytes
rest_calm s bytes calm = ap (λ n. drop n (s.heard ++ bytes)) calm

pub front_heard : (s : Stream) (n : ℕ) (bytes : List ℕ) → s.unwanted ≡ 0 → n ≤ length s.heard → take n (rest_of s bytes) ≡ take n s.heard
front_heard s n bytes calm inside = ap (take n) (rest_calm s bytes calm) ∙ take-append-le n s.heard bytes inside

pub longer_rest : (s : Stream) (n : ℕ) (bytes : List ℕ) → s.unwanted ≡ 0 → n ≤ length s.heard → n ≤ length (rest_of s bytes)
longer_rest s n bytes calm inside =
    let P : List ℕ → Type 0 = λ l. n ≤ length l in
    let longer : length (s.heard ++ bytes) ≡ length s.heard + length bytes = length-append s.heard bytes in
    let there : n ≤ length (s.heard ++ bytes) = omega (arith, longer, inside) in
    subst P (sym (rest_calm s bytes calm)) there

-- where nothing more comes, no more is left than was heard
pub no_longer_rest : (s : Stream) (n : ℕ) → length s.heard ≤ n → length (rest_of s []) ≤ n
no_longer_rest s n short =
    let all : length (s.heard ++ []) ≡ length s.heard = ap length (append-nil s.heard) in
    let less : length (drop s.unwanted (s.heard ++ [])) ≡ length (s.heard ++ []) - s.unwanted = length-drop s.unwanted (s.heard ++ []) in
    omega (arith, all, less, short)

-- the next request is at the front of what was heard
pub next_heard : (size : ℕ) (request : Request) (s : Stream) (bytes : List ℕ) → s.unwanted ≡ 0 → 28 ≤ length s.heard → request_in (take 28 s.heard) ≡ Some request → (refusal_of size request ≡ None → 28 + payload request ≤ length s.heard) → IsNext size request (rest_of s bytes)
next_heard size request s bytes calm header is whole = record {
  header = longer_rest s 28 bytes calm header;
  is = ap request_in (front_heard s 28 bytes calm header) ∙ is;
  whole = λ none. longer_rest s (28 + payload request) bytes calm (whole none);
}

-- the payload of the next request, which was heard
pub payload_heard : (s : Stream) (n : ℕ) (known : Option (List ℕ)) → s.unwanted ≡ 0 → 28 + n ≤ length s.heard → take n (drop 28 (front_of s known)) ≡ take n (drop 28 s.heard)
payload_heard s n None calm inside = refl
payload_heard s n (Some bytes) calm inside =
    let there : 28 ≤ length s.heard = omega (arith, inside) in
    let behind : length (drop 28 s.heard) ≡ length s.heard - 28 = length-drop 28 s.heard in
    let few : n ≤ length (drop 28 s.heard) = omega (arith, inside, behind) in
    ap (λ (l : List ℕ). take n (drop 28 l)) (rest_calm s bytes calm) ∙ ap (take n) (drop-append-le 28 s.heard bytes there) ∙ take-append-le n (drop 28 s.heard) bytes few

-- a request that is served is taken with its payload
pub rest_taken : (s : Stream) (n : ℕ) (bytes : List ℕ) → s.unwanted ≡ 0 → n ≤ length s.heard → rest_of (dropped n s) bytes ≡ drop n (rest_of s bytes)
rest_taken s n bytes calm inside =
    ap (λ u. drop u (drop n s.heard ++ bytes)) calm ∙ sym (drop-append-le n s.heard bytes inside) ∙ ap (λ u. drop n (drop u (s.heard ++ bytes))) (sym calm)

-- what of some bytes is there is dropped, and the others are not wanted
pub rest_thinned : (heard bytes : List ℕ) (n : ℕ) → drop (n - min n (length heard)) (drop (min n (length heard)) heard ++ bytes) ≡ drop n (heard ++ bytes)
rest_thinned heard bytes n =
    let there : min n (length heard) ≤ length heard = omega arith in
    let all : min n (length heard) + (n - min n (length heard)) ≡ n = omega arith in
    ap (drop (n - min n (length heard))) (sym (drop-append-le (min n (length heard)) heard bytes there))
    ∙ drop-drop (n - min n (length heard)) (min n (length heard)) (heard ++ bytes)
    ∙ ap (λ k. drop k (heard ++ bytes)) all

-- so many bytes are taken, and others behind them, as they come
pub rest_passed : (s : Stream) (header n : ℕ) (bytes : List ℕ) → s.unwanted ≡ 0 → header ≤ length s.heard → rest_of (lessened n (dropped header s)) bytes ≡ drop (header + n) (rest_of s bytes)
rest_passed s header n bytes calm inside =
    rest_thinned (drop header s.heard) bytes n
    ∙ ap (drop n) (sym (drop-append-le header s.heard bytes inside))
    ∙ drop-drop n header (s.heard ++ bytes)
    ∙ ap (λ u. drop (header + n) (drop u (s.heard ++ bytes))) (sym calm)

-- none are taken, or no byte is unwanted
pub calm_front : (s : Stream) (n : ℕ) (bytes : List ℕ) → (0 < n → s.unwanted ≡ 0) → n ≤ length s.heard → take n (rest_of s bytes) ≡ take n s.heard
calm_front s zero bytes calm inside = refl
calm_front s (suc n) bytes calm inside = front_heard s (suc n) bytes (calm (omega arith)) inside

pub calm_longer : (s : Stream) (n : ℕ) (bytes : List ℕ) → (0 < n → s.unwanted ≡ 0) → n ≤ length s.heard → n ≤ length (rest_of s bytes)
calm_longer s zero bytes calm inside = omega arith
calm_longer s (suc n) bytes calm inside = longer_rest s (suc n) bytes (calm (omega arith)) inside

pub calm_taken : (s : Stream) (n : ℕ) (bytes : List ℕ) → (0 < n → s.unwanted ≡ 0) → n ≤ length s.heard → rest_of (dropped n s) bytes ≡ drop n (rest_of s bytes)
calm_taken s zero bytes calm inside = refl
calm_taken s (suc n) bytes calm inside = rest_taken s (suc n) bytes (calm (omega arith)) inside

-- what of so many bytes is there, where nothing more comes, is less than others
pub short_left : (s : Stream) (known : Option (List ℕ)) (count : ℕ) → IsAtEnd known → length s.heard < count → IfSome (left s known) (λ bytes. length bytes < count)
short_left s None count end short = tt
short_left s (Some x) count end short =
    let P : List ℕ → Type 0 = λ l. length (rest_of s l) < count in
    let few : length s.heard ≤ length s.heard = omega arith in
    let less : length (rest_of s []) ≤ length s.heard = no_longer_rest s (length s.heard) few in
    let there : length (rest_of s []) < count = omega (arith, less, short) in
    subst P (sym end) there

-- a request that is refused is taken, and its payload, as it comes
pub rest_refused : (s : Stream) (n : ℕ) (bytes : List ℕ) → s.unwanted ≡ 0 → 28 ≤ length s.heard → rest_of (lessened n (dropped 28 s)) bytes ≡ drop (28 + n) (rest_of s bytes)
rest_refused s n bytes calm header = rest_passed s 28 n bytes calm header

-- nothing more is asked where too little is left
pub over_short : (size : ℕ) (bytes : List ℕ) → length bytes ≤ 27 → IsOver size bytes
over_short size bytes short request next = absurd (let header = next.header in omega (arith, header, short))

-- or where the next request is not there as a whole
pub over_whole : (size : ℕ) (request : Request) (bytes : List ℕ) → request_in (take 28 bytes) ≡ Some request → refusal_of size request ≡ None → length bytes ≤ 27 + payload request → IsOver size bytes
over_whole size request bytes is served short other next =
    let both : Some request ≡ Some other = sym is ∙ next.is in
    let same : request ≡ other = cc in
    let P : Request → Type 0 = λ r. refusal_of size r ≡ None → 28 + payload r ≤ length bytes in
    let inside : 28 + payload request ≤ length bytes = subst P (sym same) next.whole served in
    absurd (omega (arith, inside, short))

-- or where it disconnects
pub over_gone : (size : ℕ) (request : Request) (bytes : List ℕ) → request_in (take 28 bytes) ≡ Some request → request.command ≡ Disconnect → IsOver size bytes
over_gone size request bytes is gone other next =
    let same : Some request ≡ Some other = sym is ∙ next.is in
    let one : request ≡ other = cc in
    ap (λ (r : Request). r.command) (sym one) ∙ gone

-- the same where the next request is at the front of what was heard, and what of it was heard is not its whole
pub over_waiting : (size : ℕ) (request : Request) (s : Stream) → s.unwanted ≡ 0 → 28 ≤ length s.heard → request_in (take 28 s.heard) ≡ Some request → refusal_of size request ≡ None → length s.heard ≤ 27 + payload request → IsOver size (rest_of s [])
over_waiting size request s calm header is served short =
    over_whole size request (rest_of s []) (ap request_in (front_heard s 28 [] calm header) ∙ is) served (no_longer_rest s (27 + payload request) short)

-- or it disconnects
pub over_gone_on : (size : ℕ) (request : Request) (s : Stream) → s.unwanted ≡ 0 → 28 ≤ length s.heard → request_in (take 28 s.heard) ≡ Some request → request.command ≡ Disconnect → (bytes : List ℕ) → IsOver size (rest_of s bytes)
over_gone_on size request s calm header is gone bytes =
    over_gone size request (rest_of s bytes) (ap request_in (front_heard s 28 bytes calm header) ∙ is) gone

-- or not even a header was heard
pub over_little : (size : ℕ) (s : Stream) → length s.heard ≤ 27 → IsOver size (rest_of s [])
over_little size s short = over_short size (rest_of s []) (no_longer_rest s 27 short)

-- whatever comes
pub over_always : (size : ℕ) (s : Stream) (known : Option (List ℕ)) → ((bytes : List ℕ) → IsOver size (rest_of s bytes)) → IfSome (left s known) (IsOver size)
over_always size s None over = tt
over_always size s (Some bytes) over = over bytes

-- where nothing more comes
pub over_ended : (size : ℕ) (s : Stream) (known : Option (List ℕ)) → IsAtEnd known → IsOver size (rest_of s []) → IfSome (left s known) (IsOver size)
over_ended size s None end over = tt
over_ended size s (Some bytes) end over = let P : List ℕ → Type 0 = λ l. IsOver size (rest_of s l) in subst P (sym end) over

-- what is left stays, and nothing is asked
pub asks_kept : (size given last : ℕ) (a b : Option (List ℕ)) → last ≡ given → Keeps a b → Asks size given [] a b last
asks_kept size given last None b same kept = tt
asks_kept size given last (Some x) None same kept = absurd kept
asks_kept size given last (Some x) (Some y) same kept = (sym kept, same)

-- bytes come behind what was heard, of which those that nobody wants go: what is left stays
pub heard_kept : (heard more : List ℕ) (unwanted : ℕ) (old new : Option (List ℕ)) → Consumes old new more → Keeps (left (record { heard = heard; unwanted = unwanted }) old) (left (thinned (record { heard = heard ++ more; unwanted = unwanted })) new)
heard_kept heard more unwanted None new came = tt
heard_kept heard more unwanted (Some x) None came = absurd came
heard_kept heard more unwanted (Some x) (Some y) came =
    rest_thinned (heard ++ more) y unwanted
    ∙ ap (drop unwanted) (append_assoc heard more y)
    ∙ ap (λ (l : List ℕ). drop unwanted (heard ++ l)) (sym came)

-- where the reader keeps what it has
pub left_kept : (s : Stream) (old new : Option (List ℕ)) → Keeps old new → Keeps (left s old) (left s new)
left_kept s None new kept = tt
left_kept s (Some x) None kept = absurd kept
left_kept s (Some x) (Some y) kept = ap (rest_of s) kept

true_false : true ≡ false → ⊥
true_false same = cc

-- the reader is at its end, and what was heard is too little
pub ended_heard : (more : Bool) (old new : Stream) (known : Option (List ℕ)) (count : ℕ) → more ≡ false → MatchBool more ⊤ (IsAtEnd known × (new ≡ old)) → length old.heard < count → IfSome (left new known) (λ bytes. length bytes < count)
ended_heard true old new known count ends end short = absurd (true_false ends)
ended_heard false old new known count ends (end, same) short =
    let P : Stream → Type 0 = λ s. length s.heard < count in
    short_left new known count end (subst P (sym same) short)
