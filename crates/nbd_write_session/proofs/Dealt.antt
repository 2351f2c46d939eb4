-- A job goes on, and what was done of its request says so.
use Rattle.std.proofs.Common.{◌≡◌, ◌⊎◌, inl, inr, ℕ, zero, suc, ◌+◌, ◌-◌, ◌*◌, ◌<◌, ◌≤◌, min, Bool, true, false, Option, None, Some, MatchBool, List, [], ◌∷◌, ◌++◌, length, replicate, is_some, nat_lt, if◌then◌else◌, refl, ap, ◌∙◌, sym, subst, arith}
use Rattle.std.proofs.lemmas.Bool.Decides.{nat_tests}
use Rattle.nbd_messages.specs.declared.command.Command.{Command}
use Rattle.nbd_messages.specs.declared.command.Command.TheVariants as asks
use Rattle.nbd_messages.specs.declared.errors.ErrorValue.{ErrorValue}
use Rattle.nbd_messages.specs.declared.request.Request.{Request}
use Rattle.nbd_messages.specs.Writing.{must_last}
use Rattle.nbd_jobs.specs.declared.job.Stage.{Stage}
use Rattle.nbd_jobs.specs.declared.job.Stage.TheVariants.{Moving, Lasting, Flushing, Done}
use Rattle.nbd_jobs.specs.declared.work.Work.{Work}
use Rattle.nbd_jobs.specs.Held.{failed_by, opened}
use Rattle.nbd_jobs.specs.Steps.{JobState, a_flush, beginning, failed, filled, filled_bytes, first_error, first_of, handed, handed_at, is_read, kind_by, next_piece, piece_len, sectors_of, sent_of, settled, settled_at, work_at}
use Rattle.nbd_write_session.specs.Kept.{IsAtStage, IsOf}
use Rattle.nbd_write_session.specs.Owed.{brought_by}
use Rattle.nbd_write_session.specs.Pieces.{AreBack, AreMoved, AreSent, Came, Deal, Declined, IsDone, IsFlushed, Taken, came_count, error_in, is_lasting, is_moved, laid, part_by, taken_count}
use Rattle.nbd_write_session.specs.Took.{kept_by}

true_false : true ≡ false → ⊥
true_false same = cc

none_some : {X : Type 0} (x : X) → None ≡ Some x → ⊥
none_some x same = cc

-- a first error is one
no_error : (first : Option ErrorValue) (error : ErrorValue) → first_error first error ≡ None → ⊥
no_error None error none = none_some error (sym none)
no_error (Some first) error none = none_some first (sym none)

-- what a piece writes is of what the request brought
part_brought : (command : Command) (bytes : List ℕ) (work : Work) → part_by (kind_by command) bytes work ≡ part_by (kind_by command) (brought_by command bytes) work
part_brought asks.Read bytes work = refl
part_brought asks.Write bytes work = refl
part_brought asks.Disconnect bytes work = refl
part_brought asks.Flush bytes work = refl
part_brought asks.Trim bytes work = refl
part_brought asks.WriteZeroes bytes work = refl
part_brought asks.BlockStatus bytes work = refl
part_brought asks.Other bytes work = refl

-- which does not change as bytes come
pub brought_same : (command : Command) (bytes filled : List ℕ) → brought_by command (if is_read command then filled else bytes) ≡ brought_by command bytes
brought_same asks.Read bytes filled = refl
brought_same asks.Write bytes filled = refl
brought_same asks.Disconnect bytes filled = refl
brought_same asks.Flush bytes filled = refl
brought_same asks.Trim bytes filled = refl
brought_same asks.WriteZeroes bytes filled = refl
brought_same asks.BlockStatus bytes filled = refl
brought_same asks.Other bytes filled = refl

module _ (chunk : ℕ) (request : Request) (serial : ℕ) (brought : List ℕ) where
  -- no more is sent than there is
  sent_le : (sent : ℕ) (deals : List Deal) → AreSent chunk request serial brought sent deals → sent ≤ sectors_of request
  sent_le sent [] none = omega (arith, none)
  sent_le sent (Taken work part ∷ deals) (is, written, ends, before) =
      let low = sent_le work.at deals before in
      let count : work.count ≡ piece_len chunk (first_of request + work.at) (sectors_of request - work.at) = ap (λ (w : Work). w.count) is in
      let few : piece_len chunk (first_of request + work.at) (sectors_of request - work.at) ≤ sectors_of request - work.at = omega arith in
      omega (arith, low, count, few, ends)
  sent_le sent (Declined work part error ∷ deals) never = absurd never
  sent_le sent (Came at bytes error ∷ deals) are = sent_le sent deals are

  moved_back : (deals : List Deal) → AreMoved chunk request serial brought deals → AreBack deals
  moved_back deals moved = of (is_moved request.command) moved where
    of : (b : Bool) → MatchBool b (AreSent chunk request serial brought (sectors_of request) deals × AreBack deals) (deals ≡ []) → AreBack deals
    of true m = m.1
    of false m = let P : List Deal → Type 0 = λ l. AreBack l in subst P (sym m) refl

  done_back : (deals : List Deal) → IsDone chunk request serial brought deals → AreBack deals
  done_back deals done = of (is_lasting request) done where
    of : (b : Bool) → MatchBool b (IsFlushed chunk request serial brought deals) (AreMoved chunk request serial brought deals) → AreBack deals
    of true m = let P : List Deal → Type 0 = λ l. AreBack l in let b : AreBack m.before = moved_back m.before m.moved in subst P (sym m.are) (ap (λ n. n + 1) b)
    of false m = moved_back deals m

  moved_whole : (deals : List Deal) → is_moved request.command ≡ true → AreSent chunk request serial brought (sectors_of request) deals → AreBack deals → AreMoved chunk request serial brought deals
  moved_whole deals moves sent back = let P : Bool → Type 0 = λ b. MatchBool b (AreSent chunk request serial brought (sectors_of request) deals × AreBack deals) (deals ≡ []) in subst P (sym moves) (sent, back)

  -- a piece comes back
  came_stage : (stage : Stage) (deals : List Deal) (out : Bool) (at : ℕ) (bytes : List ℕ) → (out ≡ false → AreBack (Came at bytes None ∷ deals)) → came_count deals < taken_count deals
      → IsAtStage chunk request serial brought deals stage → IsAtStage chunk request serial brought (Came at bytes None ∷ deals) (settled_at out request None stage)
  came_stage (Moving sent) deals out at bytes back ahead (moves, sent_so) = of (nat_lt sent (sectors_of request)) out (must_last request) refl back refl where
    of : (b o m : Bool) → nat_lt sent (sectors_of request) ≡ b → (o ≡ false → AreBack (Came at bytes None ∷ deals)) → must_last request ≡ m
        → IsAtStage chunk request serial brought (Came at bytes None ∷ deals) (if b then Moving sent else if o then Moving sent else if false then Done else if m then Lasting else Done)
    of true o m is b lasts = (moves, sent_so)
    of false true m is b lasts = (moves, sent_so)
    of false false m is b lasts =
        let low = sent_le sent deals sent_so in
        let more : sectors_of request ≤ sent = grind (arith, nat_tests, is) in
        let all : sent ≡ sectors_of request = omega (arith, low, more) in
        let P : ℕ → Type 0 = λ n. AreSent chunk request serial brought n deals in
        let whole : AreMoved chunk request serial brought (Came at bytes None ∷ deals) = moved_whole (Came at bytes None ∷ deals) moves (subst P all sent_so) (b refl) in
        let lasting : is_lasting request ≡ m = ap (λ x. if x then must_last request else true) moves ∙ lasts in
        done_by m lasting whole where
          done_by : (m : Bool) → is_lasting request ≡ m → AreMoved chunk request serial brought (Came at bytes None ∷ deals) → IsAtStage chunk request serial brought (Came at bytes None ∷ deals) (if m then Lasting else Done)
          done_by true lasting whole = (lasting, whole)
          done_by false lasting whole = let Q : Bool → Type 0 = λ x. MatchBool x (IsFlushed chunk request serial brought (Came at bytes None ∷ deals)) (AreMoved chunk request serial brought (Came at bytes None ∷ deals)) in subst Q (sym lasting) whole
  came_stage Lasting deals out at bytes back ahead (lasting, moved) = absurd (let b : came_count deals ≡ taken_count deals = moved_back deals moved in omega (arith, b, ahead))
  came_stage Flushing deals out at bytes back ahead (lasting, (before, are, moved)) =
      let Q : Bool → Type 0 = λ x. MatchBool x (IsFlushed chunk request serial brought (Came at bytes None ∷ deals)) (AreMoved chunk request serial brought (Came at bytes None ∷ deals)) in
      subst Q (sym lasting) (record { at = at; bytes = bytes; before = before; are = ap (λ (l : List Deal). Came at bytes None ∷ l) are; moved = moved })
  came_stage Done deals out at bytes back ahead done = absurd (let b : came_count deals ≡ taken_count deals = done_back deals done in omega (arith, b, ahead))

  -- the next piece is taken
  given_stage : (stage : Stage) (deals : List Deal) (work : Work) (part bytes : List ℕ) → brought ≡ brought_by request.command bytes → work_at chunk request serial stage ≡ Some work → part ≡ part_by work.kind bytes work
      → IsAtStage chunk request serial brought deals stage → IsAtStage chunk request serial brought (Taken work part ∷ deals) (handed_at chunk request stage)
  given_stage (Moving sent) deals work part bytes brings next written (moves, sent_so) = of (nat_lt sent (sectors_of request)) next where
    of : (b : Bool) → (if b then Some (next_piece chunk request serial sent) else None) ≡ Some work → IsAtStage chunk request serial brought (Taken work part ∷ deals) (handed_at chunk request (Moving sent))
    of true e =
        let is : next_piece chunk request serial sent ≡ work = cc in
        let P : Work → Type 0 = λ w. part ≡ part_by w.kind bytes w → (is_moved request.command ≡ true) × ((w ≡ next_piece chunk request serial w.at) × (part ≡ part_by w.kind brought w) × (sent + piece_len chunk (first_of request + sent) (sectors_of request - sent) ≡ w.at + w.count) × AreSent chunk request serial brought w.at deals) in
        subst P is (λ own. (moves, (refl, own ∙ part_brought request.command bytes (next_piece chunk request serial sent) ∙ ap (λ (l : List ℕ). part_by (kind_by request.command) l (next_piece chunk request serial sent)) (sym brings), refl, sent_so))) written
    of false e = absurd (none_some work e)
  given_stage Lasting deals work part bytes brings next written (lasting, moved) =
      let is : a_flush serial ≡ work = cc in
      let P : Work → Type 0 = λ w. part ≡ part_by w.kind bytes w → Taken w part ∷ deals ≡ Taken (a_flush serial) [] ∷ deals in
      (lasting, (deals, subst P is (λ own. ap (λ (l : List ℕ). Taken (a_flush serial) l ∷ deals) own) written, moved))
  given_stage Flushing deals work part bytes brings next written at = absurd (none_some work next)
  given_stage Done deals work part bytes brings next written at = absurd (none_some work next)

-- which piece is the next of a job
pub work_serial : (chunk : ℕ) (request : Request) (serial : ℕ) (stage : Stage) (work : Work) → work_at chunk request serial stage ≡ Some work → (work.serial ≡ serial) × (work.at ≡ sent_of stage)
work_serial chunk request serial (Moving sent) work next = of (nat_lt sent (sectors_of request)) next where
  of : (b : Bool) → (if b then Some (next_piece chunk request serial sent) else None) ≡ Some work → (work.serial ≡ serial) × (work.at ≡ sent)
  of true e = let is : next_piece chunk request serial sent ≡ work = cc in (ap (λ (w : Work). w.serial) (sym is), ap (λ (w : Work). w.at) (sym is))
  of false e = absurd (none_some work e)
work_serial chunk request serial Lasting work next = let is : a_flush serial ≡ work = cc in (ap (λ (w : Work). w.serial) (sym is), ap (λ (w : Work). w.at) (sym is))
work_serial chunk request serial Flushing work next = absurd (none_some work next)
work_serial chunk request serial Done work next = absurd (none_some work next)

module _ (chunk : ℕ) where
  pub of_given : (deals : List Deal) (job : JobState) (work : Work) (part : List ℕ) → IsOf chunk deals job → work_at chunk job.request job.serial job.stage ≡ Some work → part ≡ part_by work.kind job.bytes work → IsOf chunk (Taken work part ∷ deals) (handed chunk job)
  of_given deals job work part is next written = record {
    read = is.read;
    error = is.error;
    stage = λ none. given_stage chunk job.request job.serial (brought_by job.request.command job.bytes) job.stage deals work part job.bytes refl next written (is.stage none);
  }

  pub of_declined : (deals : List Deal) (job : JobState) (work : Work) (part : List ℕ) (error : ErrorValue) (out : Bool) → IsOf chunk deals job → IsOf chunk (Declined work part error ∷ deals) (settled out (failed error job))
  of_declined deals job work part error out is = record {
    read = is.read;
    error = ap (λ e. first_error e error) is.error;
    stage = λ none. absurd (no_error job.error error none);
  }

  pub of_came : (error : Option ErrorValue) (deals : List Deal) (job : JobState) (at : ℕ) (bytes : List ℕ) (out : Bool) → IsOf chunk deals job → (out ≡ false → AreBack (Came at bytes error ∷ deals)) → came_count deals < taken_count deals
      → IsOf chunk (Came at bytes error ∷ deals) (settled out (failed_by error (filled at bytes job)))
  of_came None deals job at bytes out is back ahead = record {
    read = λ reads. ap (λ b. if b then filled_bytes at bytes job.bytes else job.bytes) reads ∙ ap (filled_bytes at bytes) (is.read reads);
    error = is.error;
    stage = λ none. (
        let P : Option ErrorValue → Type 0 = λ e. IsAtStage chunk job.request job.serial (brought_by job.request.command job.bytes) (Came at bytes None ∷ deals) (settled_at out job.request e job.stage) in
        let Q : List ℕ → Type 0 = λ l. IsAtStage chunk job.request job.serial l (Came at bytes None ∷ deals) (settled_at out job.request job.error job.stage) in
        subst Q (sym (brought_same job.request.command job.bytes (filled_bytes at bytes job.bytes)))
        (subst P (sym none) (came_stage chunk job.request job.serial (brought_by job.request.command job.bytes) job.stage deals out at bytes back ahead (is.stage none))));
  }
  of_came (Some error) deals job at bytes out is back ahead = record {
    read = λ reads. ap (λ b. if b then filled_bytes at bytes job.bytes else job.bytes) reads ∙ ap (filled_bytes at bytes) (is.read reads);
    error = ap (λ e. first_error e error) is.error;
    stage = λ none. absurd (no_error job.error error none);
  }

  still_stage : (request : Request) (serial : ℕ) (brought : List ℕ) → is_moved request.command ≡ false → IsAtStage chunk request serial brought [] Lasting
  still_stage request serial brought still =
      let none : List Deal = [] in
      let P : Bool → Type 0 = λ b. MatchBool b (AreSent chunk request serial brought (sectors_of request) [] × AreBack []) (none ≡ []) in
      (ap (λ b. if b then must_last request else true) still, subst P (sym still) refl)

  -- a job that begins
  begun_stage : (request : Request) (serial : ℕ) (brought : List ℕ) (asked : Command) → request.command ≡ asked → IsAtStage chunk request serial brought [] (beginning asked)
  begun_stage request serial brought asks.Read is = (ap is_moved is, refl)
  begun_stage request serial brought asks.Write is = (ap is_moved is, refl)
  begun_stage request serial brought asks.WriteZeroes is = (ap is_moved is, refl)
  begun_stage request serial brought asks.Disconnect is = still_stage request serial brought (ap is_moved is)
  begun_stage request serial brought asks.Flush is = still_stage request serial brought (ap is_moved is)
  begun_stage request serial brought asks.Trim is = still_stage request serial brought (ap is_moved is)
  begun_stage request serial brought asks.BlockStatus is = still_stage request serial brought (ap is_moved is)
  begun_stage request serial brought asks.Other is = still_stage request serial brought (ap is_moved is)

  read_kept : (asked : Command) (long : ℕ) (payload : List ℕ) → is_read asked ≡ true → kept_by asked long payload ≡ replicate long 0
  read_kept asks.Read long payload reads = refl
  read_kept asks.Write long payload reads = absurd (true_false (sym reads))
  read_kept asks.Disconnect long payload reads = absurd (true_false (sym reads))
  read_kept asks.Flush long payload reads = absurd (true_false (sym reads))
  read_kept asks.Trim long payload reads = absurd (true_false (sym reads))
  read_kept asks.WriteZeroes long payload reads = absurd (true_false (sym reads))
  read_kept asks.BlockStatus long payload reads = absurd (true_false (sym reads))
  read_kept asks.Other long payload reads = absurd (true_false (sym reads))

  pub of_opened : (request : Request) (serial : ℕ) (payload : List ℕ) → IsOf chunk [] (opened request serial (kept_by request.command request.length payload))
  of_opened request serial payload = record {
    read = λ reads. read_kept request.command request.length payload reads;
    error = refl;
    stage = λ none. begun_stage request serial (brought_by request.command (kept_by request.command request.length payload)) request.command refl;
  }
