-- A connection goes on, step after step.
use Rattle.std.proofs.Common.{◌≡◌, ◌⊎◌, inl, inr, ℕ, suc, ◌+◌, ◌-◌, ◌<◌, ◌≤◌, Bool, true, false, Option, None, Some, IfSome, IsSome, MatchOption, List, [], ◌∷◌, ◌++◌, length, take, drop, map, get_or, replicate, slice_range, if◌then◌else◌, refl, ap, ◌∙◌, sym, subst, append_assoc, arith}
use Rattle.std.specs.List.{remove}
use Rattle.std.specs.Io.KnownBytes.{Appends, Keeps, append_known}
use Rattle.std.proofs.KnownBytes.{Appends-nil, Appends-trans}
use Rattle.std.proofs.lemmas.List.{append-nil, map-append, take-map, drop-map, get_or-map, length-map}
use Rattle.nbd_messages.specs.declared.command.Command.{Command}
use Rattle.nbd_messages.specs.declared.command.Command.TheVariants as asks
use Rattle.nbd_messages.specs.declared.errors.ErrorValue.{ErrorValue}
use Rattle.nbd_messages.specs.declared.request.Request.{Request}
use Rattle.nbd_messages.specs.Requests.{request_in}
use Rattle.nbd_messages.specs.Writing.{payload, payload_by}
use Rattle.nbd_jobs.specs.Held.{Held, opened}
use Rattle.nbd_jobs.specs.Steps.{JobState}
use Rattle.nbd_jobs.specs.Refused.{refusal_of}
use Rattle.nbd_jobs.specs.Replied.{failure_reply}
use Rattle.nbd_jobs.specs.declared.jobs.Piece.{Piece}
use Rattle.nbd_backend.specs.Calls.{Call, Step}
use Rattle.nbd_backend.specs.declared.array.Stepped.TheVariants.{Ended}
use Rattle.nbd_write_session.specs.declared.line.Line.{Line}
use Rattle.nbd_write_session.specs.Answered.{IsMoment, IsReplyTo, IsServedReply}
use Rattle.nbd_write_session.specs.Asked.{Asks, IsNext}
use Rattle.nbd_write_session.specs.Kept.{IsKept, IsSpent}
use Rattle.nbd_write_session.specs.Moved.{Answering, Goes, Moves, MovesCalling, MovesEnded, MovesHearing, MovesSaying, MovesUnsaid, Standing, standing}
use Rattle.nbd_write_session.specs.Owed.{Owed, brought_by, given_with, owed_for, owing, served}
use Rattle.nbd_write_session.specs.Pieces.{asked_count, deals_of}
use Rattle.nbd_write_session.specs.Stream.{Stream, dropped, left, lessened, rest_of}
use Rattle.nbd_write_session.specs.Took.{kept_by}
use Rattle.nbd_write_session.proofs.Answered.{answers_none, answers_at, answers_last, answers_beside, answers_then, moment_here, moment_then}
use Rattle.nbd_write_session.proofs.Asked.{asks_kept, asks_none, asks_one, asks_then, front_of, next_heard, payload_heard, rest_refused, rest_taken}
use Rattle.nbd_write_session.proofs.Dealt.{of_opened}
use Rattle.nbd_write_session.proofs.Kept.{kept_more, kept_removed, spent_answered, spent_more, spent_removed, spent_same}

-- ---- where a connection stands

pub goes_none : (size : ℕ) (structured : Bool) (chunk : ℕ) (spent : ℕ → Type 0) (here : Standing) → Goes size structured chunk spent here here
goes_none size structured chunk spent here = record {
  asked = [];
  said = [];
  taken = asks_none size here.given here.rest;
  told = Appends-nil here.told;
  called = moment_here here.calls;
  answers = let P : List Owed → Type 0 = λ l. Answering structured chunk here.calls spent l here.due [] in subst P (sym (append-nil here.due)) (answers_none structured chunk here.calls spent here.due);
}

pub goes_then : (size : ℕ) (structured : Bool) (chunk : ℕ) (spent spent' : ℕ → Type 0) (a b c : Standing) → ((n : ℕ) → spent n → spent' n) → ((n : ℕ) → spent n → asked_count (deals_of n c.calls) ≡ asked_count (deals_of n b.calls))
    → Goes size structured chunk spent a b → Goes size structured chunk spent' b c → Goes size structured chunk spent' a c
goes_then size structured chunk spent spent' a b c keeps rests first second =
    let beside : Answering structured chunk b.calls spent ((a.due ++ first.asked) ++ second.asked) (b.due ++ second.asked) first.said =
    answers_beside structured chunk b.calls spent (a.due ++ first.asked) b.due second.asked first.said first.answers in
    let both : Answering structured chunk c.calls spent' ((a.due ++ first.asked) ++ second.asked) c.due (first.said ++ second.said) =
    answers_then structured chunk b.calls c.calls spent spent' ((a.due ++ first.asked) ++ second.asked) (b.due ++ second.asked) c.due first.said second.said second.called keeps rests beside second.answers in
    let P : List Owed → Type 0 = λ l. Answering structured chunk c.calls spent' l c.due (first.said ++ second.said) in
    record {
      asked = first.asked ++ second.asked;
      said = first.said ++ second.said;
      taken = asks_then size a.given b.given c.given first.asked second.asked a.rest b.rest c.rest first.taken second.taken;
      told = Appends-trans a.told b.told c.told first.said second.said first.told second.told;
      called = moment_then a.calls b.calls c.calls first.called second.called;
      answers = subst P (append_assoc a.due first.asked second.asked) both;
    }

pub goes_under : (size size' : ℕ) (structured structured' : Bool) (chunk chunk' : ℕ) (spent : ℕ → Type 0) (a b : Standing) → size' ≡ size → structured' ≡ structured → chunk' ≡ chunk → Goes size' structured' chunk' spent a b → Goes size structured chunk spent a b
goes_under size size' structured structured' chunk chunk' spent a b same also cut goes =
    let P : ℕ → Type 0 = λ n. Goes n structured' chunk' spent a b in
    let Q : Bool → Type 0 = λ s. Goes size s chunk' spent a b in
    let R : ℕ → Type 0 = λ n. Goes size structured n spent a b in
    subst R cut (subst Q also (subst P same goes))

pub moves_then : (a b c : Line) (r s t v w x : Option (List ℕ)) (k l m : List Call) → Moves a b r s v w k l → Moves b c s t w x l m → Moves a c r t v x k m
moves_then a b c r s t v w x k l m first second = record {
  size = second.size ∙ first.size;
  structured = second.structured ∙ first.structured;
  chunk = second.chunk ∙ first.chunk;
  kept = λ h. second.kept (first.kept h);
  spent = λ n h. second.spent n (first.spent n h);
  rests = λ n h. second.rests n (first.spent n h) ∙ first.rests n h;
  goes = λ h. (goes_then a.size a.structured a.chunk (IsSpent b.jobs) (IsSpent c.jobs) (standing a r v k) (standing b s w l) (standing c t x m) second.spent second.rests (first.goes h)
      (goes_under a.size b.size a.structured b.structured a.chunk b.chunk (IsSpent c.jobs) (standing b s w l) (standing c t x m) first.size first.structured first.chunk (second.goes (first.kept h))));
}

pub unsaid_none : (a : Line) → MovesUnsaid a a
unsaid_none a = λ known contents calls. (record { size = refl; structured = refl; chunk = refl; kept = λ h. h; spent = λ n h. h; rests = λ n h. refl; goes = λ h. goes_none a.size a.structured a.chunk (IsSpent a.jobs) (standing a known contents calls) })

pub unsaid_then : (a b c : Line) → MovesUnsaid a b → MovesUnsaid b c → MovesUnsaid a c
unsaid_then a b c first second = λ known contents calls. (moves_then a b c known known known contents contents contents calls calls calls (first known contents calls) (second known contents calls))

pub calling_then : (a b c : Line) (k l m : List Call) → MovesCalling a b k l → MovesCalling b c l m → MovesCalling a c k m
calling_then a b c k l m first second = λ known contents. (moves_then a b c known known known contents contents contents k l m (first known contents) (second known contents))

pub saying_then : (a b c : Line) (v w x : Option (List ℕ)) (k l m : List Call) → MovesSaying a b v w k l → MovesSaying b c w x l m → MovesSaying a c v x k m
saying_then a b c v w x k l m first second = λ known. (moves_then a b c known known known v w x k l m (first known) (second known))

pub hearing_then : (a b c : Line) (r s t : Option (List ℕ)) → MovesHearing a b r s → MovesHearing b c s t → MovesHearing a c r t
hearing_then a b c r s t first second = λ contents calls. (moves_then a b c r s t contents contents contents calls calls calls (first contents calls) (second contents calls))

pub ended_none : (a : Line) → MovesEnded a a
ended_none a = λ known contents calls. (unsaid_none a known contents (Step Ended ∷ calls))

pub ended_then : (a b c : Line) → MovesEnded a b → MovesEnded b c → MovesEnded a c
ended_then a b c first second = λ known contents calls.
    (moves_then a b c known known known contents contents contents (Step Ended ∷ calls) (Step Ended ∷ calls) (Step Ended ∷ calls) (first known contents calls) (second known contents calls))

pub held_same : (old new : Held) → new.jobs ≡ old.jobs → new.out ≡ old.out → new.given ≡ old.given → new ≡ old
held_same old new jobs out given =
    ap (λ (l : List JobState). record { jobs = l; out = new.out; given = new.given }) jobs
    ∙ ap (λ (l : List Piece). record { jobs = old.jobs; out = l; given = new.given }) out
    ∙ ap (λ (n : ℕ). record { jobs = old.jobs; out = old.out; given = n }) given

-- all that is there is taken and answered, the array goes on, and more is heard
pub turned : (a b c d e f : Line) (r s t v w x : Option (List ℕ)) (k l m : List Call) → Moves a b r s v w k l → MovesUnsaid b c → ((calls : List Call) → MovesSaying c d w x calls calls) → MovesCalling d e l m → MovesHearing e f s t → Moves a f r t v x k m
turned a b c d e f r s t v w x k l m first taking saying calling hearing =
    moves_then a e f r s t v x x k m m (moves_then a d e r s s v x x k l m (moves_then a c d r s s v w x k l l (moves_then a b c r s s v w w k l l first (taking s w l)) (saying l s)) (calling s x)) (hearing x m)

-- all that is there is taken, and some is done
pub worked : (a b c d : Line) (r s v w x : Option (List ℕ)) (k l m : List Call) → Moves a b r s v w k l → MovesUnsaid b c → MovesSaying c d w x l m → Moves a d r s v x k m
worked a b c d r s v w x k l m first taking saying = moves_then a c d r s s v w x k l m (moves_then a b c r s s v w w k l l first (taking s w l)) (saying s)

-- ---- steps

-- the bytes that were said or are to be said grow
told_grown : (contents : Option (List ℕ)) (old new said : List ℕ) → new ≡ old ++ said → Appends (append_known contents old) (append_known contents new) said
told_grown None old new said grown = tt
told_grown (Some x) old new said grown = ap (λ (l : List ℕ). x ++ l) grown ∙ sym (append_assoc x old said)

-- what was to be said is said
told_said : (old new : Option (List ℕ)) (out after : List ℕ) → Appends old new out → after ≡ [] → Appends (append_known old out) (append_known new after) []
told_said None new out after said none = tt
told_said (Some x) None out after said none = absurd said
told_said (Some x) (Some y) out after said none = ap (λ (l : List ℕ). y ++ l) none ∙ append-nil y ∙ said ∙ sym (append-nil (x ++ out))

left_same : (size given last : ℕ) (old new : Stream) (known : Option (List ℕ)) → last ≡ given → new ≡ old → Asks size given [] (left old known) (left new known) last
left_same size given last old new known count same =
    let P : Stream → Type 0 = λ s. Asks size given [] (left old known) (left s known) last in
    let Q : ℕ → Type 0 = λ n. Asks size given [] (left old known) (left old known) n in
    subst P (sym same) (subst Q (sym count) (asks_none size given (left old known)))

-- what is owed stays
owing_same : (structured : Bool) (chunk : ℕ) (calls : List Call) (spent : ℕ → Type 0) (before after : List Owed) → after ≡ before → Answering structured chunk calls spent (before ++ []) after []
owing_same structured chunk calls spent before after same =
    let P : List Owed → Type 0 = λ l. Answering structured chunk calls spent l after [] in
    subst P (same ∙ sym (append-nil before)) (answers_none structured chunk calls spent after)

-- the array is called, and nothing is asked or answered
pub moves_called : (a b : Line) (calls calls' : List Call) → b.size ≡ a.size → b.structured ≡ a.structured → b.chunk ≡ a.chunk → b.input ≡ a.input → b.jobs.given ≡ a.jobs.given → b.out.items ≡ a.out.items → owing b.jobs ≡ owing a.jobs → IsMoment calls calls' → (IsKept a.chunk a.jobs calls → IsKept a.chunk b.jobs calls')
    → ((n : ℕ) → IsSpent a.jobs n → IsSpent b.jobs n) → ((n : ℕ) → IsSpent a.jobs n → asked_count (deals_of n calls') ≡ asked_count (deals_of n calls)) → MovesCalling a b calls calls'
moves_called a b calls calls' size structured chunk input given out same called kept spent rests = λ known contents. (record {
  size = size;
  structured = structured;
  chunk = chunk;
  kept = λ h. (let P : ℕ → Type 0 = λ n. IsKept n b.jobs calls' in subst P (sym chunk) (kept h));
  spent = spent;
  rests = rests;
  goes = λ h. (record {
    asked = [];
    said = [];
    taken = left_same a.size a.jobs.given b.jobs.given a.input b.input known given input;
    told = told_grown contents a.out.items b.out.items [] (out ∙ sym (append-nil a.out.items));
    called = called;
    answers = owing_same a.structured a.chunk calls' (IsSpent b.jobs) (owing a.jobs) (owing b.jobs) same;
  });
})

-- nothing is asked and nothing is answered
pub moves_still : (a b : Line) → b.size ≡ a.size → b.structured ≡ a.structured → b.chunk ≡ a.chunk → b.input ≡ a.input → b.jobs ≡ a.jobs → b.out.items ≡ a.out.items → MovesUnsaid a b
moves_still a b size structured chunk input jobs out = λ known contents calls.
    (let P : Held → Type 0 = λ j. IsKept a.chunk j calls in
    moves_called a b calls calls size structured chunk input (ap (λ (j : Held). j.given) jobs) out (ap owing jobs) (moment_here calls) (λ h. subst P (sym jobs) h)
    (λ n h. spent_same a.jobs b.jobs (ap (λ (j : Held). j.jobs) jobs) (ap (λ (j : Held). j.given) jobs) n h) (λ n h. refl) known contents)

-- what was to be said is said
pub moves_said : (a b : Line) (known old new : Option (List ℕ)) (calls : List Call) → b.size ≡ a.size → b.structured ≡ a.structured → b.chunk ≡ a.chunk → b.input ≡ a.input → b.jobs ≡ a.jobs → Appends old new a.out.items → b.out.items ≡ [] → Moves a b known known old new calls calls
moves_said a b known old new calls size structured chunk input jobs said none = record {
  size = size;
  structured = structured;
  chunk = chunk;
  kept = λ h. (let P : Held → Type 0 = λ j. IsKept a.chunk j calls in let Q : ℕ → Type 0 = λ n. IsKept n b.jobs calls in subst Q (sym chunk) (subst P (sym jobs) h));
  spent = λ n h. spent_same a.jobs b.jobs (ap (λ (j : Held). j.jobs) jobs) (ap (λ (j : Held). j.given) jobs) n h;
  rests = λ n h. refl;
  goes = λ h. (record {
    asked = [];
    said = [];
    taken = left_same a.size a.jobs.given b.jobs.given a.input b.input known (ap (λ (j : Held). j.given) jobs) input;
    told = told_said old new a.out.items b.out.items said none;
    called = moment_here calls;
    answers = owing_same a.structured a.chunk calls (IsSpent b.jobs) (owing a.jobs) (owing b.jobs) (ap owing jobs);
  });
}

-- more was heard
pub moves_heard : (a b : Line) (known known' : Option (List ℕ)) → b.size ≡ a.size → b.structured ≡ a.structured → b.chunk ≡ a.chunk → b.jobs ≡ a.jobs → b.out.items ≡ a.out.items → Keeps (left a.input known) (left b.input known') → MovesHearing a b known known'
moves_heard a b known known' size structured chunk jobs out kept = λ contents calls. (record {
  size = size;
  structured = structured;
  chunk = chunk;
  kept = λ h. (let P : Held → Type 0 = λ j. IsKept a.chunk j calls in let Q : ℕ → Type 0 = λ n. IsKept n b.jobs calls in subst Q (sym chunk) (subst P (sym jobs) h));
  spent = λ n h. spent_same a.jobs b.jobs (ap (λ (j : Held). j.jobs) jobs) (ap (λ (j : Held). j.given) jobs) n h;
  rests = λ n h. refl;
  goes = λ h. (record {
    asked = [];
    said = [];
    taken = asks_kept a.size a.jobs.given b.jobs.given (left a.input known) (left b.input known') (ap (λ (j : Held). j.given) jobs) kept;
    told = told_grown contents a.out.items b.out.items [] (out ∙ sym (append-nil a.out.items));
    called = moment_here calls;
    answers = owing_same a.structured a.chunk calls (IsSpent b.jobs) (owing a.jobs) (owing b.jobs) (ap owing jobs);
  });
})

-- and taken
pub hearing_unsaid : (a b c : Line) (r s : Option (List ℕ)) → MovesHearing a b r s → MovesUnsaid b c → MovesHearing a c r s
hearing_unsaid a b c r s first second = λ contents calls. (moves_then a b c r s s contents contents contents calls calls calls (first contents calls) (second s contents calls))

map_without : (X Y : Type 0) (f : X → Y) (l : List X) (k : ℕ) → remove (map f l) k ≡ map f (remove l k)
map_without X Y f l k =
    ap (λ (t : List Y). t ++ drop (suc k) (map f l)) (take-map f k l)
    ∙ ap (λ (t : List Y). map f (take k l) ++ t) (drop-map f (suc k) l)
    ∙ sym (map-append f (take k l) (drop (suc k) l))

-- the job at a place is answered, and owed no more
pub moves_answered : (a b : Line) (k : ℕ) (job : JobState) (said : List ℕ) (known contents : Option (List ℕ)) (calls : List Call) → b.size ≡ a.size → b.structured ≡ a.structured → b.chunk ≡ a.chunk → b.input ≡ a.input
    → b.jobs.given ≡ a.jobs.given → b.jobs.out ≡ a.jobs.out → k < length a.jobs.jobs → job ≡ get_or a.jobs.jobs k job → b.jobs.jobs ≡ remove a.jobs.jobs k
    → (IsKept a.chunk a.jobs calls → IsServedReply a.structured a.chunk (served job) calls said) → b.out.items ≡ a.out.items ++ said → Moves a b known known contents contents calls calls
moves_answered a b k job said known contents calls size structured chunk input given out inside there without reply grown =
    let here : k < length (owing a.jobs) = subst (λ (n : ℕ). k < n) (sym (length-map a.jobs.jobs served)) inside in
    let is : served job ≡ get_or (owing a.jobs) k (served job) = ap served there ∙ sym (get_or-map served a.jobs.jobs k job (served job) inside) in
    let P : List Owed → Type 0 = λ l. Answering a.structured a.chunk calls (IsSpent b.jobs) (owing a.jobs ++ []) l said in
    let Q : List Owed → Type 0 = λ l. Answering a.structured a.chunk calls (IsSpent b.jobs) l (remove (owing a.jobs) k) said in
    record {
      size = size;
      structured = structured;
      chunk = chunk;
      kept = λ h. (let R : ℕ → Type 0 = λ n. IsKept n b.jobs calls in subst R (sym chunk) (kept_removed a.chunk a.jobs b.jobs calls k h inside without given out));
      spent = λ n h. spent_removed a.chunk a.jobs b.jobs k inside without given n h;
      rests = λ n h. refl;
      goes = λ h. (record {
        asked = [];
        said = said;
        taken = left_same a.size a.jobs.given b.jobs.given a.input b.input known given input;
        told = told_grown contents a.out.items b.out.items said grown;
        called = moment_here calls;
        answers = subst P (map_without JobState Owed served a.jobs.jobs k ∙ sym (ap (map served) without)) (subst Q (sym (append-nil (owing a.jobs))) (answers_at a.structured a.chunk calls (IsSpent b.jobs) (owing a.jobs) k (served job) said here is (reply h) (λ none. spent_answered a.chunk a.jobs b.jobs calls k job h inside there without given)));
      });
    }

-- no job passed the test
pub none_taken : (found : Option ℕ) (result : Option JobState) (old new : Held) → result ≡ None → MatchOption found ((result ≡ None) × (new ≡ old)) (λ k. (k < length old.jobs) × (new.jobs ≡ remove old.jobs k) × IfSome result (λ j. (d : JobState) → j ≡ get_or old.jobs k d) × IsSome result) → new ≡ old
none_taken None result old new is taken = taken.1
none_taken (Some k) result old new is taken =
    let P : Option JobState → Type 0 = λ r. IsSome r in
    let no : false ≡ true = subst P is taken.3 in
    absurd (cc)

some_none : {X : Type 0} (x : X) → Some x ≡ None → ⊥
some_none x is = (cc)

-- a request is refused, and answered at once
pub moves_refused : (a b : Line) (request : Request) (error : ErrorValue) → b.size ≡ a.size → b.structured ≡ a.structured → b.chunk ≡ a.chunk → b.jobs ≡ a.jobs → 28 ≤ length a.input.heard → a.input.unwanted ≡ 0 → request_in (take 28 a.input.heard) ≡ Some request → (request.command ≡ asks.Disconnect → ⊥) → b.input ≡ lessened (payload request) (dropped 28 a.input) → refusal_of a.size request ≡ Some error → b.out.items ≡ a.out.items ++ failure_reply a.structured error request → MovesUnsaid a b
moves_refused a b request error size structured chunk jobs header calm is stays rest refused grown = λ known contents calls. (let said : List ℕ = failure_reply a.structured error request in
    let owed : Owed = owed_for a.size a.jobs.given request (front_of a.input known) in
    let P : Option ErrorValue → Type 0 = λ o. IsReplyTo a.structured a.chunk (record { request = request; refusal = o; serial = owed.serial; brought = owed.brought }) calls said in
    let reply : IsReplyTo a.structured a.chunk owed calls said = subst P (sym refused) refl in
    let last : Answering a.structured a.chunk calls (IsSpent b.jobs) (owing a.jobs ++ owed ∷ []) (owing a.jobs) said =
    answers_last a.structured a.chunk calls (IsSpent b.jobs) (owing a.jobs) owed said reply (λ none. absurd (some_none error (sym refused ∙ none))) in
    let Q : List Owed → Type 0 = λ l. Answering a.structured a.chunk calls (IsSpent b.jobs) (owing a.jobs ++ owed ∷ []) l said in
    let not_served : refusal_of a.size request ≡ None → 28 + payload request ≤ length a.input.heard = λ none. absurd (some_none error (sym refused ∙ none)) in
    record {
      size = size;
      structured = structured;
      chunk = chunk;
      kept = λ h. (let R : Held → Type 0 = λ j. IsKept a.chunk j calls in let S : ℕ → Type 0 = λ n. IsKept n b.jobs calls in subst S (sym chunk) (subst R (sym jobs) h));
      spent = λ n h. spent_same a.jobs b.jobs (ap (λ (j : Held). j.jobs) jobs) (ap (λ (j : Held). j.given) jobs) n h;
      rests = λ n h. refl;
      goes = λ h. (record {
        asked = owed ∷ [];
        said = said;
        taken = asks_one a.size a.jobs.given b.jobs.given request a.input b.input known
            (ap (λ (j : Held). j.given) jobs ∙ sym (ap (λ o. given_with o a.jobs.given) refused))
            (λ bytes. next_heard a.size request a.input bytes calm header is not_served)
            stays
            (λ bytes. ap (λ (s : Stream). rest_of s bytes) rest ∙ rest_refused a.input (payload request) bytes calm header);
        told = told_grown contents a.out.items b.out.items said grown;
        called = moment_here calls;
        answers = subst Q (sym (ap owing jobs)) last;
      });
    })

-- what a job keeps of a request is what it brings
brought_kept : (command : Command) (long : ℕ) (heard : List ℕ) → brought_by command (kept_by command long (take (payload_by command long) heard)) ≡ take (payload_by command long) heard
brought_kept asks.Read long heard = refl
brought_kept asks.Write long heard = refl
brought_kept asks.Disconnect long heard = refl
brought_kept asks.Flush long heard = refl
brought_kept asks.Trim long heard = refl
brought_kept asks.WriteZeroes long heard = refl
brought_kept asks.BlockStatus long heard = refl
brought_kept asks.Other long heard = refl

-- a request is taken in, and is owed a reply
pub moves_taken : (a b : Line) (request : Request) → b.size ≡ a.size → b.structured ≡ a.structured → b.chunk ≡ a.chunk → b.out.items ≡ a.out.items → 28 ≤ length a.input.heard → a.input.unwanted ≡ 0 → request_in (take 28 a.input.heard) ≡ Some request → (request.command ≡ asks.Disconnect → ⊥) → 28 + payload request ≤ length a.input.heard → b.input ≡ dropped (28 + payload request) a.input → refusal_of a.size request ≡ None
    → b.jobs ≡ record { jobs = a.jobs.jobs ++ opened request (a.jobs.given + 1) (kept_by request.command request.length (slice_range a.input.heard 28 (28 + payload request))) ∷ []; out = a.jobs.out; given = a.jobs.given + 1 } → MovesUnsaid a b
moves_taken a b request size structured chunk out header calm is stays inside rest good more = λ known contents calls. (
    let less : (28 + payload request) - 28 ≡ payload request = omega arith in
    let heard : slice_range a.input.heard 28 (28 + payload request) ≡ take (payload request) (drop 28 a.input.heard) = ap (λ n. take n (drop 28 a.input.heard)) less in
    let job : JobState = opened request (a.jobs.given + 1) (kept_by request.command request.length (slice_range a.input.heard 28 (28 + payload request))) in
    let owed : Owed = owed_for a.size a.jobs.given request (front_of a.input known) in
    let brings : brought_by request.command job.bytes ≡ owed.brought =
    ap (λ (l : List ℕ). brought_by request.command (kept_by request.command request.length l)) heard
    ∙ brought_kept request.command request.length (drop 28 a.input.heard)
    ∙ sym (payload_heard a.input (payload request) known calm inside) in
    let one : served job ≡ owed =
    ap (λ (l : List ℕ). record { request = request; refusal = None; serial = a.jobs.given + 1; brought = l }) brings
    ∙ ap (λ (o : Option ErrorValue). record { request = request; refusal = o; serial = a.jobs.given + 1; brought = owed.brought }) (sym good) in
    let jobs : b.jobs.jobs ≡ a.jobs.jobs ++ job ∷ [] = ap (λ (j : Held). j.jobs) more in
    let same : owing a.jobs ++ owed ∷ [] ≡ owing b.jobs =
    ap (λ (o : Owed). owing a.jobs ++ o ∷ []) (sym one)
    ∙ sym (map-append served a.jobs.jobs (job ∷ []))
    ∙ sym (ap (map served) jobs) in
    let P : List Owed → Type 0 = λ l. Answering a.structured a.chunk calls (IsSpent b.jobs) l (owing b.jobs) [] in
    record {
      size = size;
      structured = structured;
      chunk = chunk;
      kept = λ h. (let S : ℕ → Type 0 = λ n. IsKept n b.jobs calls in
          subst S (sym chunk) (kept_more a.chunk a.jobs b.jobs calls job h jobs refl (ap (λ (j : Held). j.given) more) (ap (λ (j : Held). j.out) more)
          (of_opened a.chunk request (a.jobs.given + 1) (slice_range a.input.heard 28 (28 + payload request)))));
      spent = λ n h. spent_more a.chunk a.jobs b.jobs job jobs refl (ap (λ (j : Held). j.given) more) n h;
      rests = λ n h. refl;
      goes = λ h. (record {
        asked = owed ∷ [];
        said = [];
        taken = asks_one a.size a.jobs.given b.jobs.given request a.input b.input known
            (ap (λ (j : Held). j.given) more ∙ sym (ap (λ o. given_with o a.jobs.given) good))
            (λ bytes. next_heard a.size request a.input bytes calm header is (λ none. inside))
            stays
            (λ bytes. ap (λ (s : Stream). rest_of s bytes) rest ∙ rest_taken a.input (28 + payload request) bytes calm inside);
        told = told_grown contents a.out.items b.out.items [] (out ∙ sym (append-nil a.out.items));
        called = moment_here calls;
        answers = subst P (sym same) (answers_none a.structured a.chunk calls (IsSpent b.jobs) (owing b.jobs));
      });
    })

-- no job is left
pub none_left : (jobs : List JobState) → length jobs ≡ 0 → jobs ≡ []
none_left [] none = refl
none_left (job ∷ jobs) none = absurd (omega (arith, none))
