-- Pieces are given and come back, and jobs are answered.
use Rattle.std.proofs.Common.{◌≡◌, ◌⊎◌, inl, inr, ℕ, ◌+◌, ◌<◌, ◌==◌, Bool, true, false, Option, None, Some, IfSome, IsSome, MatchOption, Result, Ok, Err, List, [], ◌∷◌, ◌++◌, length, map, get_or, replicate, if◌then◌else◌, refl, ap, ◌∙◌, sym, subst, arith}
use Rattle.std.specs.List.{position, remove}
use Rattle.std.proofs.Math.Seq.{map-set_same}
use Rattle.std.proofs.lemmas.List.Quantifiers.{position-Some}
use Rattle.nbd_messages.specs.declared.command.Command.{Command}
use Rattle.nbd_messages.specs.declared.errors.ErrorValue.{ErrorValue}
use Rattle.nbd_messages.specs.declared.errors.ErrorValue.TheVariants.{Io}
use Rattle.nbd_messages.specs.declared.request.Request.{Request}
use Rattle.nbd_messages.specs.Reading.{data_start}
use Rattle.nbd_messages.specs.Replies.{simple_reply}
use Rattle.nbd_jobs.specs.declared.job.Stage.{Stage}
use Rattle.nbd_jobs.specs.declared.job.Stage.TheVariants.{Moving, Lasting, Flushing, Done}
use Rattle.nbd_jobs.specs.declared.jobs.Piece.{Piece}
use Rattle.nbd_jobs.specs.declared.work.Work.{Work}
use Rattle.nbd_jobs.specs.Held.{Became, Held, IsBackAt, failed_by, taken_back}
use Rattle.nbd_jobs.specs.Replied.{done_reply, failure_reply, reply_by, reply_of}
use Rattle.nbd_jobs.specs.Steps.{JobState, failed, filled, filled_bytes, handed, is_done, is_done_at, is_out, is_read, sent_of, settled, work_at}
use Rattle.nbd_backend.specs.Calls.{Call, Choose, Submit, Step}
use Rattle.nbd_backend.specs.declared.array.Refused.{Refused}
use Rattle.nbd_backend.specs.declared.array.Refused.TheVariants.{Full, Error}
use Rattle.nbd_backend.specs.declared.array.Stepped.{Stepped}
use Rattle.nbd_backend.specs.declared.array.Stepped.TheVariants.{Back, Ended}
use Rattle.nbd_write_session.specs.declared.line.Line.{Line}
use Rattle.nbd_write_session.specs.Answered.{IsServedReply, success_reply}
use Rattle.nbd_write_session.specs.Kept.{IsAtStage, IsKept, IsOf, IsSpent}
use Rattle.nbd_write_session.specs.Moved.{Moves, MovesCalling, MovesEnded, MovesUnsaid}
use Rattle.nbd_write_session.specs.Owed.{brought_by, owing, served}
use Rattle.nbd_write_session.specs.Pieces.{IsDone, asked_count, back_at, deals_of, error_in, laid, out_of, part_by}
use Rattle.nbd_write_session.proofs.Dealt.{brought_same, work_serial}
use Rattle.nbd_write_session.proofs.Kept.{asked_back, asked_full, asked_other, kept_back, kept_declined, kept_full, kept_given, kept_none, kept_unknown, nobody, spent_back, spent_became, spent_same}
use Rattle.nbd_write_session.proofs.Moved.{moves_answered, moves_called}

true_false : true ≡ false → ⊥
true_false same = cc

some_none : {X : Type 0} (x : X) → Some x ≡ None → ⊥
some_none x is = (cc)

-- ---- replies

done_stage : (stage : Stage) → is_done_at stage ≡ true → stage ≡ Done
done_stage (Moving sent) is = absurd (true_false (sym is))
done_stage Lasting is = absurd (true_false (sym is))
done_stage Flushing is = absurd (true_false (sym is))
done_stage Done is = refl

-- a read is answered its bytes
answered_bytes : (b : Bool) (start bytes others other : List ℕ) → (b ≡ true → bytes ≡ others) → (if b then start ++ bytes else other) ≡ (if b then start ++ others else other)
answered_bytes true start bytes others other same = ap (λ (l : List ℕ). start ++ l) (same refl)
answered_bytes false start bytes others other same = refl

reply_error : (structured : Bool) (chunk : ℕ) (calls : List Call) (job : JobState) (e : Option ErrorValue) → IsOf chunk (deals_of job.serial calls) job → job.stage ≡ Done → job.error ≡ e → IsServedReply structured chunk (served job) calls (reply_by e structured job)
reply_error structured chunk calls job (Some error) is done e = inl (record { error = error; is = refl; why = inl (sym is.error ∙ e) })
reply_error structured chunk calls job None is done e =
    let P : Stage → Type 0 = λ s. IsAtStage chunk job.request job.serial (brought_by job.request.command job.bytes) (deals_of job.serial calls) s in
    inr (record {
      done = subst P done (is.stage e);
      good = sym is.error ∙ e;
      is = answered_bytes (is_read job.request.command) (data_start structured job.request) job.bytes (laid (replicate job.request.length 0) (deals_of job.serial calls)) (simple_reply 0 job.request.cookie) is.read;
    })

-- the reply to a job that is done
reply_done : (structured : Bool) (chunk : ℕ) (calls : List Call) (job : JobState) → IsOf chunk (deals_of job.serial calls) job → is_done job ≡ true → IsServedReply structured chunk (served job) calls (reply_of structured job)
reply_done structured chunk calls job is done = reply_error structured chunk calls job job.error is (done_stage job.stage done) refl

-- the first job of those that are done is answered
pub moves_done : (found : Option ℕ) (a b : Line) (job : JobState) (Same : Type 0) → position is_done a.jobs.jobs ≡ found → b.size ≡ a.size → b.structured ≡ a.structured → b.chunk ≡ a.chunk → b.input ≡ a.input → b.jobs.given ≡ a.jobs.given → b.jobs.out ≡ a.jobs.out
    → MatchOption found ((Some job ≡ None) × Same) (λ k. (k < length a.jobs.jobs) × (b.jobs.jobs ≡ remove a.jobs.jobs k) × IfSome (Some job) (λ j. (d : JobState) → j ≡ get_or a.jobs.jobs k d) × IsSome (Some job))
    → b.out.items ≡ a.out.items ++ reply_of a.structured job → MovesUnsaid a b
moves_done None a b job Same at size structured chunk input given out taken grown = absurd (let no : Some job ≡ None = taken.0 in some_none job no)
moves_done (Some k) a b job Same at size structured chunk input given out taken grown = λ known contents calls. (
    let is : is_done (get_or a.jobs.jobs k job) ≡ true = (position-Some is_done a.jobs.jobs k job at).1 in
    let done : is_done job ≡ true = ap is_done (taken.2 job) ∙ is in
    let P : JobState → Type 0 = λ j. IsOf a.chunk (deals_of j.serial calls) j in
    moves_answered a b k job (reply_of a.structured job) known contents calls size structured chunk input given out taken.0 (taken.2 job) taken.1
    (λ h. reply_done a.structured a.chunk calls job (subst P (sym (taken.2 job)) (h.jobs k job taken.0)) done) grown)

-- the first job of all is answered EIO, where the array was not to be written any more
pub moves_failed : (a b : Line) (job : JobState) (said : List ℕ) → b.size ≡ a.size → b.structured ≡ a.structured → b.chunk ≡ a.chunk → b.input ≡ a.input → b.jobs.given ≡ a.jobs.given → b.jobs.out ≡ a.jobs.out → a.jobs.jobs ≡ job ∷ b.jobs.jobs
    → said ≡ failure_reply a.structured Io job.request → b.out.items ≡ a.out.items ++ said → MovesEnded a b
moves_failed a b job said size structured chunk input given out first is grown = λ known contents calls. (
    let P : List JobState → Type 0 = λ l. (0 < length l) × (job ≡ get_or l 0 job) × (b.jobs.jobs ≡ remove l 0) in
    let (inside, there, without) = subst P (sym first) (omega arith, refl, refl) in
    moves_answered a b 0 job said known contents (Step Ended ∷ calls) size structured chunk input given out inside there without
    (λ h. inl (record { error = Io; is = is; why = inr (refl, (calls, refl)) })) grown)

-- ---- calls of the array

-- what is owed stays where a job goes on
owing_became : (old new : Held) (place : ℕ) (f : JobState → JobState) → ((j : JobState) → served (f j) ≡ served j) → Became place f old.jobs new.jobs → owing new ≡ owing old
owing_became old new place f same became = ap (map served) (became nobody) ∙ map-set_same served old.jobs place (f (get_or old.jobs place nobody)) nobody (same (get_or old.jobs place nobody))

one_call : (calls calls' : List Call) (call : Call) → calls' ≡ call ∷ calls → (later : List Call) × (calls' ≡ later ++ calls)
one_call calls calls' call is = (call ∷ [], is)

kept_by_call : (chunk : ℕ) (old new : Held) (calls calls' : List Call) (call : Call) → calls' ≡ call ∷ calls → (IsKept chunk old calls → IsKept chunk new (call ∷ calls)) → IsKept chunk old calls → IsKept chunk new calls'
kept_by_call chunk old new calls calls' call is kept h = let P : List Call → Type 0 = λ l. IsKept chunk new l in subst P (sym is) (kept h)

-- no piece is asked for under a number of which no job is left
rests_by : (calls calls' : List Call) (call : Call) (n : ℕ) → calls' ≡ call ∷ calls → asked_count (deals_of n (call ∷ calls)) ≡ asked_count (deals_of n calls) → asked_count (deals_of n calls') ≡ asked_count (deals_of n calls)
rests_by calls calls' call n is same = ap (λ (l : List Call). asked_count (deals_of n l)) is ∙ same

rests_asked : (chunk : ℕ) (held : Held) (calls calls' : List Call) (place : ℕ) (work : Work) (part : List ℕ) (told : Result ℕ Refused) → calls' ≡ Submit work part told ∷ calls → place < length held.jobs
    → ((d : JobState) → work_at chunk (get_or held.jobs place d).request (get_or held.jobs place d).serial (get_or held.jobs place d).stage ≡ Some work)
    → (n : ℕ) → IsSpent held n → asked_count (deals_of n calls') ≡ asked_count (deals_of n calls)
rests_asked chunk held calls calls' place work part told is inside next n spent =
    let own : work.serial ≡ (get_or held.jobs place nobody).serial =
    (work_serial chunk (get_or held.jobs place nobody).request (get_or held.jobs place nobody).serial (get_or held.jobs place nobody).stage work (next nobody)).0 in
    rests_by calls calls' (Submit work part told) n is (asked_other calls work part told n (λ e. spent.left place nobody inside (sym own ∙ e)))

-- a piece is taken
pub moves_given : (a b : Line) (calls calls' : List Call) (place : ℕ) (work : Work) (part : List ℕ) (number : ℕ) → b.size ≡ a.size → b.structured ≡ a.structured → b.chunk ≡ a.chunk → b.input ≡ a.input → b.out.items ≡ a.out.items
    → calls' ≡ Submit work part (Ok number) ∷ calls → place < length a.jobs.jobs
    → ((d : JobState) → work_at a.chunk (get_or a.jobs.jobs place d).request (get_or a.jobs.jobs place d).serial (get_or a.jobs.jobs place d).stage ≡ Some work)
    → ((d : JobState) → part ≡ part_by work.kind (get_or a.jobs.jobs place d).bytes work)
    → b.jobs.given ≡ a.jobs.given → Became place (handed a.chunk) a.jobs.jobs b.jobs.jobs
    → ((d : JobState) → b.jobs.out ≡ a.jobs.out ++ record { number = number; serial = (get_or a.jobs.jobs place d).serial; at = sent_of (get_or a.jobs.jobs place d).stage } ∷ [])
    → MovesCalling a b calls calls'
moves_given a b calls calls' place work part number size structured chunk input out is inside next written given became sent =
    moves_called a b calls calls' size structured chunk input given out (owing_became a.jobs b.jobs place (handed a.chunk) (λ j. refl) became) (one_call calls calls' (Submit work part (Ok number)) is)
    (kept_by_call a.chunk a.jobs b.jobs calls calls' (Submit work part (Ok number)) is (λ h. kept_given a.chunk a.jobs b.jobs calls place work part number h inside next written given became sent))
    (λ n h. spent_became a.jobs b.jobs place (handed a.chunk) inside became (λ j. refl) given n h)
    (λ n h. rests_asked a.chunk a.jobs calls calls' place work part (Ok number) is inside next n h)

-- or declined
pub moves_declined : (a b : Line) (calls calls' : List Call) (place : ℕ) (work : Work) (part : List ℕ) (error : ErrorValue) → b.size ≡ a.size → b.structured ≡ a.structured → b.chunk ≡ a.chunk → b.input ≡ a.input → b.out.items ≡ a.out.items
    → calls' ≡ Submit work part (Err (Error error)) ∷ calls → place < length a.jobs.jobs
    → ((d : JobState) → work_at a.chunk (get_or a.jobs.jobs place d).request (get_or a.jobs.jobs place d).serial (get_or a.jobs.jobs place d).stage ≡ Some work)
    → b.jobs.given ≡ a.jobs.given → b.jobs.out ≡ a.jobs.out → Became place (λ j. settled (is_out a.jobs.out j.serial) (failed error j)) a.jobs.jobs b.jobs.jobs
    → MovesCalling a b calls calls'
moves_declined a b calls calls' place work part error size structured chunk input out is inside next given pieces became =
    moves_called a b calls calls' size structured chunk input given out (owing_became a.jobs b.jobs place (λ j. settled (is_out a.jobs.out j.serial) (failed error j)) (λ j. refl) became) (one_call calls calls' (Submit work part (Err (Error error))) is)
    (kept_by_call a.chunk a.jobs b.jobs calls calls' (Submit work part (Err (Error error))) is (λ h. kept_declined a.chunk a.jobs b.jobs calls place work part error h inside next given pieces became))
    (λ n h. spent_became a.jobs b.jobs place (λ j. settled (is_out a.jobs.out j.serial) (failed error j)) inside became (λ j. refl) given n h)
    (λ n h. rests_asked a.chunk a.jobs calls calls' place work part (Err (Error error)) is inside next n h)

-- or there is no room
pub moves_full : (a : Line) (calls calls' : List Call) (work : Work) (part : List ℕ) → calls' ≡ Submit work part (Err Full) ∷ calls → MovesCalling a a calls calls'
moves_full a calls calls' work part is =
    moves_called a a calls calls' refl refl refl refl refl refl refl (one_call calls calls' (Submit work part (Err Full)) is)
    (kept_by_call a.chunk a.jobs a.jobs calls calls' (Submit work part (Err Full)) is (λ h. kept_full a.chunk a.jobs calls work part h))
    (λ n h. h) (λ n h. rests_by calls calls' (Submit work part (Err Full)) n is (asked_full calls work part n))

-- a step of which nothing comes back
pub moves_stepped : (a : Line) (calls calls' : List Call) (told : Stepped) → calls' ≡ Step told ∷ calls → out_of (Step told ∷ calls) ≡ out_of calls → ((serial : ℕ) → deals_of serial (Step told ∷ calls) ≡ deals_of serial calls) → MovesCalling a a calls calls'
moves_stepped a calls calls' told is out deals =
    moves_called a a calls calls' refl refl refl refl refl refl refl (one_call calls calls' (Step told) is)
    (kept_by_call a.chunk a.jobs a.jobs calls calls' (Step told) is (λ h. kept_none a.chunk a.jobs a.jobs calls (Step told) h refl refl (h.out ∙ sym out) (λ serial. inr (deals serial)) (λ serial above. deals serial) (deals 0) refl))
    (λ n h. h) (λ n h. rests_by calls calls' (Step told) n is (ap asked_count (deals n)))

-- a piece comes back that nobody knows
pub moves_unknown : (a b : Line) (number : ℕ) (bytes : List ℕ) (error : Option ErrorValue) (found : Option ℕ) (result : Option Piece) → back_at number a.jobs.out ≡ found → result ≡ None → b.size ≡ a.size → b.structured ≡ a.structured → b.chunk ≡ a.chunk → b.input ≡ a.input → b.out.items ≡ a.out.items
    → MatchOption found ((result ≡ None) × (b.jobs ≡ a.jobs)) (λ k. (k < length a.jobs.out) × (b.jobs.out ≡ remove a.jobs.out k) × IfSome result (λ p. (d : Piece) → p ≡ get_or a.jobs.out k d) × IsSome result)
    → (calls : List Call) → MovesCalling a b calls (Step (Back number bytes error) ∷ calls)
moves_unknown a b number bytes error None result at none size structured chunk input out taken calls =
    let P : Held → Type 0 = λ j. IsKept a.chunk j (Step (Back number bytes error) ∷ calls) in
    moves_called a b calls (Step (Back number bytes error) ∷ calls) size structured chunk input (ap (λ (j : Held). j.given) taken.1) out (ap owing taken.1) (Step (Back number bytes error) ∷ [], refl)
    (λ h. subst P (sym taken.1) (kept_unknown a.chunk a.jobs calls number bytes error h at))
    (λ n h. spent_same a.jobs b.jobs (ap (λ (j : Held). j.jobs) taken.1) (ap (λ (j : Held). j.given) taken.1) n h) (λ n h. asked_back calls number bytes error n)
moves_unknown a b number bytes error (Some k) result at none size structured chunk input out taken calls =
    let P : Option Piece → Type 0 = λ r. IsSome r in
    let some : false ≡ true = subst P none taken.3 in
    absurd (true_false (sym some))

-- where no job is, none is there behind it
pub back_none : (piece : Piece) (bytes : List ℕ) (error : Option ErrorValue) (out : List Piece) (old new : List JobState) → old ≡ [] → IsBackAt piece bytes error out old new → new ≡ []
back_none piece bytes error out old new none back = let P : List JobState → Type 0 = λ l. IsBackAt piece bytes error out l new in subst P none back

served_back : (error : Option ErrorValue) (out : List Piece) (piece : Piece) (bytes : List ℕ) (job : JobState) → served (taken_back out piece bytes error job) ≡ served job
served_back None out piece bytes job = ap (λ (l : List ℕ). record { request = job.request; refusal = None; serial = job.serial; brought = l }) (brought_same job.request.command job.bytes (filled_bytes piece.at bytes job.bytes))
served_back (Some error) out piece bytes job = ap (λ (l : List ℕ). record { request = job.request; refusal = None; serial = job.serial; brought = l }) (brought_same job.request.command job.bytes (filled_bytes piece.at bytes job.bytes))

owing_back : (old new : Held) (out : List Piece) (piece : Piece) (bytes : List ℕ) (error : Option ErrorValue) (place : Option ℕ) → MatchOption place (new.jobs ≡ old.jobs) (λ p. Became p (taken_back out piece bytes error) old.jobs new.jobs) → owing new ≡ owing old
owing_back old new out piece bytes error None same = ap (map served) same
owing_back old new out piece bytes error (Some place) became = owing_became old new place (taken_back out piece bytes error) (λ j. served_back error out piece bytes j) became

-- a piece of a job comes back
pub moves_back : (a b : Line) (mid : Held) (number : ℕ) (bytes : List ℕ) (error : Option ErrorValue) (piece : Piece) (found : Option ℕ) (Same : Type 0) → back_at number a.jobs.out ≡ found → b.size ≡ a.size → b.structured ≡ a.structured → b.chunk ≡ a.chunk → b.input ≡ a.input → b.out.items ≡ a.out.items
    → mid.jobs ≡ a.jobs.jobs → mid.given ≡ a.jobs.given
    → MatchOption found ((Some piece ≡ None) × Same) (λ k. (k < length a.jobs.out) × (mid.out ≡ remove a.jobs.out k) × IfSome (Some piece) (λ p. (d : Piece) → p ≡ get_or a.jobs.out k d) × IsSome (Some piece))
    → b.jobs.given ≡ mid.given → b.jobs.out ≡ mid.out → IsBackAt piece bytes error mid.out mid.jobs b.jobs.jobs → (calls : List Call) → MovesCalling a b calls (Step (Back number bytes error) ∷ calls)
moves_back a b mid number bytes error piece None Same at size structured chunk input out jobs given taken given' out' back calls = absurd (let no : Some piece ≡ None = taken.0 in some_none piece no)
moves_back a b mid number bytes error piece (Some k) Same at size structured chunk input out jobs given taken given' out' back calls =
    let P : List JobState → Type 0 = λ l. IsBackAt piece bytes error mid.out l b.jobs.jobs in
    moves_called a b calls (Step (Back number bytes error) ∷ calls) size structured chunk input (given' ∙ given) out
    (owing_back a.jobs b.jobs mid.out piece bytes error (position (λ (j : JobState). j.serial == piece.serial) a.jobs.jobs) (subst P jobs back))
    (Step (Back number bytes error) ∷ [], refl)
    (λ h. kept_back a.chunk a.jobs mid b.jobs calls number k bytes error piece h at taken.2 jobs given taken.1 given' out' back)
    (λ n h. spent_back a.jobs b.jobs mid.out piece bytes error (position (λ (j : JobState). j.serial == piece.serial) a.jobs.jobs) refl (subst P jobs back) (given' ∙ given) n h)
    (λ n h. asked_back calls number bytes error n)
