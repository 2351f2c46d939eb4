-- Jobs are what the calls of the array say, step after step.
use Rattle.std.proofs.Common.{◌≡◌, ◌⊎◌, inl, inr, ℕ, zero, suc, ◌+◌, ◌-◌, ◌*◌, ◌<◌, ◌≤◌, ◌==◌, Bool, true, false, Option, None, Some, IfSome, IsSome, MatchBool, MatchOption, Result, Ok, Err, List, [], ◌∷◌, ◌++◌, length, get_or, set, replicate, is_some, nat_lt, if◌then◌else◌, refl, ap, ◌∙◌, sym, subst, arith, length-append}
use Rattle.std.specs.List.{position, position_or_len, remove}
use Rattle.std.proofs.lemmas.Bool.{cases_lt, eq-eqb, eqb-true, ne_eqb}
use Rattle.std.proofs.lemmas.Bool.Decides.{eqb_tells}
use Rattle.std.proofs.lemmas.List.{get_or_default, get_or-set_same, get_or-set_other, length-set}
use Rattle.std.proofs.Math.ListN.{get_or-append}
use Rattle.std.proofs.Math.Seq.{get_or-append_seam}
use Rattle.std.proofs.lemmas.List.Edits.{get_or-remove_above, get_or-remove_below, length-remove}
use Rattle.std.proofs.lemmas.Grind.{common_steps}
use Rattle.std.proofs.lemmas.List.Quantifiers.{position-Some}
use Rattle.std.proofs.lemmas.List.Sums.{fails_before_first}
use Rattle.nbd_messages.specs.declared.command.Command.{Command}
use Rattle.nbd_messages.specs.declared.command.Command.TheVariants as asks
use Rattle.nbd_messages.specs.declared.errors.ErrorValue.{ErrorValue}
use Rattle.nbd_messages.specs.declared.request.Request.{Request}
use Rattle.nbd_messages.specs.Writing.{must_last}
use Rattle.nbd_jobs.specs.declared.job.Stage.{Stage}
use Rattle.nbd_jobs.specs.declared.job.Stage.TheVariants.{Moving, Lasting, Flushing, Done}
use Rattle.nbd_jobs.specs.declared.jobs.Piece.{Piece}
use Rattle.nbd_jobs.specs.declared.work.Kind.{Kind}
use Rattle.nbd_jobs.specs.declared.work.Work.{Work}
use Rattle.nbd_jobs.specs.Held.{Became, Held, IsBackAt, failed_by, opened, taken_back}
use Rattle.nbd_jobs.specs.Steps.{JobState, a_flush, beginning, failed, filled, filled_bytes, first_error, first_of, handed, handed_at, is_out, is_read, kind_by, next_piece, piece_len, sectors_of, sent_of, settled, settled_at, staged, work_at}
use Rattle.nbd_backend.specs.Calls.{Call, Choose, Submit, Step}
use Rattle.nbd_backend.specs.declared.array.Refused.{Refused}
use Rattle.nbd_backend.specs.declared.array.Refused.TheVariants.{Full, Error}
use Rattle.nbd_backend.specs.declared.array.Stepped.TheVariants.{Back}
use Rattle.nbd_write_session.specs.Kept.{IsAtStage, IsKept, IsOf, IsSpent}
use Rattle.nbd_write_session.specs.Owed.{brought_by}
use Rattle.nbd_write_session.specs.Pieces.{AreBack, AreMoved, AreSent, Came, Deal, Declined, asked_count, IsDone, IsFlushed, Taken, back_at, came_count, choices, deals_back, deals_of, deals_with, error_in, error_with, is_lasting, is_moved, laid, out_of, part_by, piece_at, taken_count, without}
use Rattle.nbd_write_session.proofs.Dealt.{of_came, of_declined, of_given, of_opened, work_serial}
use Rattle.nbd_write_session.proofs.Counted.{counted, none_open, nowhere, open_count, some_open}

true_false : true ≡ false → ⊥
true_false same = cc

some_none : {X : Type 0} (x : X) → Some x ≡ None → ⊥
some_none x same = cc

-- no job
abbrev pub nobody : JobState
nobody = record { request = record { flags = 0; command = asks.Other; cookie = 0; offset = 0; length = 0 }; serial = 0; stage = Done; error = None; bytes = [] }

-- ---- lists of jobs

-- the job at a place became another
became_here : (jobs after : List JobState) (place : ℕ) (f : JobState → JobState) (d : JobState) → Became place f jobs after → place < length jobs → get_or after place d ≡ f (get_or jobs place d)
became_here jobs after place f d became inside = ap (λ (l : List JobState). get_or l place d) (became d) ∙ get_or-set_same jobs place (f (get_or jobs place d)) d inside

became_there : (jobs after : List JobState) (place k : ℕ) (f : JobState → JobState) (d : JobState) → Became place f jobs after → (k ≡ place → ⊥) → get_or after k d ≡ get_or jobs k d
became_there jobs after place k f d became other = ap (λ (l : List JobState). get_or l k d) (became d) ∙ get_or-set_other jobs place k (f (get_or jobs place d)) d other

became_long : (jobs after : List JobState) (place : ℕ) (f : JobState → JobState) → Became place f jobs after → length after ≡ length jobs
became_long jobs after place f became = ap length (became nobody) ∙ length-set jobs place (f (get_or jobs place nobody))

abbrev serial_of : JobState → ℕ
serial_of job = job.serial

became_serial : (jobs after : List JobState) (place k : ℕ) (f : JobState → JobState) (d : JobState) → Became place f jobs after → place < length jobs → ((j : JobState) → (f j).serial ≡ j.serial) → serial_of (get_or after k d) ≡ serial_of (get_or jobs k d)
became_serial jobs after place k f d became inside same =
    elim (eqb_tells k place) [
      | inl h ↦ ap (λ n. serial_of (get_or after n d)) h.1 ∙ ap serial_of (became_here jobs after place f d became inside) ∙ same (get_or jobs place d) ∙ ap (λ n. serial_of (get_or jobs n d)) (sym h.1)
      | inr h ↦ ap serial_of (became_there jobs after place k f d became h.1)
    ]

position_none : {X : Type 0} (p : X → Bool) (xs : List X) (k : ℕ) (d : X) → position p xs ≡ None → k < length xs → p (get_or xs k d) ≡ false
position_none p xs k d none inside =
    let far : length xs ≤ position_or_len p xs = grind (arith, common_steps) in
    fails_before_first p xs k d (omega (arith, far, inside))

same_serial : (error : Option ErrorValue) (out : List Piece) (piece : Piece) (bytes : List ℕ) (job : JobState) → (taken_back out piece bytes error job).serial ≡ job.serial
same_serial None out piece bytes job = refl
same_serial (Some error) out piece bytes job = refl

-- ---- numbers of which no job is left

spent_jobs : (old new : Held) (serial : ℕ) → new.jobs ≡ old.jobs → old.given ≤ new.given → IsSpent old serial → IsSpent new serial
spent_jobs old new serial jobs given spent =
    let P : List JobState → Type 0 = λ l. (k : ℕ) (d : JobState) → k < length l → (get_or l k d).serial ≡ serial → ⊥ in
    record { given = (let low = spent.given in omega (arith, low, given)); left = subst P (sym jobs) spent.left }

pub spent_same : (old new : Held) → new.jobs ≡ old.jobs → new.given ≡ old.given → (serial : ℕ) → IsSpent old serial → IsSpent new serial
spent_same old new jobs given serial spent = spent_jobs old new serial jobs (omega (arith, given)) spent

pub spent_became : (old new : Held) (place : ℕ) (f : JobState → JobState) → place < length old.jobs → Became place f old.jobs new.jobs → ((j : JobState) → (f j).serial ≡ j.serial) → new.given ≡ old.given → (serial : ℕ) → IsSpent old serial → IsSpent new serial
spent_became old new place f inside became same given serial spent =
    let long : length new.jobs ≡ length old.jobs = became_long old.jobs new.jobs place f became in
    record {
      given = (let low = spent.given in omega (arith, low, given));
      left = λ k d h e. (
          let there : k < length old.jobs = omega (arith, h, long) in
          spent.left k d there (sym (became_serial old.jobs new.jobs place k f d became inside same) ∙ e));
    }

pub spent_back : (old new : Held) (out : List Piece) (piece : Piece) (bytes : List ℕ) (error : Option ErrorValue) (place : Option ℕ) → position (λ (j : JobState). j.serial == piece.serial) old.jobs ≡ place
    → MatchOption place (new.jobs ≡ old.jobs) (λ p. Became p (taken_back out piece bytes error) old.jobs new.jobs) → new.given ≡ old.given → (serial : ℕ) → IsSpent old serial → IsSpent new serial
spent_back old new out piece bytes error None at same given serial spent = spent_same old new same given serial spent
spent_back old new out piece bytes error (Some place) at became given serial spent =
    let inside : place < length old.jobs = (position-Some (λ (j : JobState). j.serial == piece.serial) old.jobs place nobody at).0 in
    spent_became old new place (taken_back out piece bytes error) inside became (λ j. same_serial error out piece bytes j) given serial spent

-- no piece of them is asked for
pub asked_other : (calls : List Call) (work : Work) (part : List ℕ) (told : Result ℕ Refused) (serial : ℕ) → (work.serial ≡ serial → ⊥) → asked_count (deals_of serial (Submit work part told ∷ calls)) ≡ asked_count (deals_of serial calls)
asked_other calls work part told serial other = ap (λ b. asked_count (if b then deals_with work part told (deals_of serial calls) else deals_of serial calls)) (ne_eqb work.serial serial other)

asked_same : (b : Bool) (deals : List Deal) → asked_count (if b then deals else deals) ≡ asked_count deals
asked_same true deals = refl
asked_same false deals = refl

pub asked_full : (calls : List Call) (work : Work) (part : List ℕ) (serial : ℕ) → asked_count (deals_of serial (Submit work part (Err Full) ∷ calls)) ≡ asked_count (deals_of serial calls)
asked_full calls work part serial = asked_same (work.serial == serial) (deals_of serial calls)

asked_came : (b : Bool) (at : ℕ) (bytes : List ℕ) (error : Option ErrorValue) (deals : List Deal) → asked_count (if b then Came at bytes error ∷ deals else deals) ≡ asked_count deals
asked_came true at bytes error deals = refl
asked_came false at bytes error deals = refl

asked_found : (serial : ℕ) (found : Option Piece) (bytes : List ℕ) (error : Option ErrorValue) (deals : List Deal) → asked_count (deals_back serial found bytes error deals) ≡ asked_count deals
asked_found serial None bytes error deals = refl
asked_found serial (Some piece) bytes error deals = asked_came (piece.serial == serial) piece.at bytes error deals

pub asked_back : (calls : List Call) (number : ℕ) (bytes : List ℕ) (error : Option ErrorValue) (serial : ℕ) → asked_count (deals_of serial (Step (Back number bytes error) ∷ calls)) ≡ asked_count (deals_of serial calls)
asked_back calls number bytes error serial = asked_found serial (piece_at (out_of calls) (back_at number (out_of calls))) bytes error (deals_of serial calls)

module _ (chunk : ℕ) where
  -- one job goes on by a call that is of no other
  kept_one : (old new : Held) (calls : List Call) (call : Call) (place : ℕ) (f : JobState → JobState) → IsKept chunk old calls → place < length old.jobs → Became place f old.jobs new.jobs
      → new.given ≡ old.given → new.out ≡ out_of (call ∷ calls) → choices (call ∷ calls) ≡ choices calls → ((j : JobState) → (f j).serial ≡ j.serial)
      → ((d : JobState) (serial : ℕ) → (serial ≡ (get_or old.jobs place d).serial → ⊥) → deals_of serial (call ∷ calls) ≡ deals_of serial calls)
      → ((d : JobState) → IsOf chunk (deals_of (get_or old.jobs place d).serial (call ∷ calls)) (f (get_or old.jobs place d)))
      → IsKept chunk new (call ∷ calls)
  kept_one old new calls call place f kept inside became given out stays same others goes =
      let long : length new.jobs ≡ length old.jobs = became_long old.jobs new.jobs place f became in
      let at : (k : ℕ) → k < length new.jobs → k < length old.jobs = λ k h. (omega (arith, h, long)) in
      let serials : (k : ℕ) (d : JobState) → (get_or new.jobs k d).serial ≡ (get_or old.jobs k d).serial = λ k d. (became_serial old.jobs new.jobs place k f d became inside same) in
      record {
        out = out;
        jobs = λ k d h. (elim (eqb_tells k place) [
          | inl is ↦
              let here : get_or new.jobs k d ≡ f (get_or old.jobs place d) = ap (λ n. get_or new.jobs n d) is.1 ∙ became_here old.jobs new.jobs place f d became inside in
              let P : JobState → Type 0 = λ j. IsOf chunk (deals_of j.serial (call ∷ calls)) j in
              let Q : ℕ → Type 0 = λ n. IsOf chunk (deals_of n (call ∷ calls)) (f (get_or old.jobs place d)) in
              subst P (sym here) (subst Q (sym (same (get_or old.jobs place d))) (goes d))
          | inr is ↦
              let there : get_or new.jobs k d ≡ get_or old.jobs k d = became_there old.jobs new.jobs place k f d became is.1 in
              let P : JobState → Type 0 = λ j. IsOf chunk (deals_of j.serial (call ∷ calls)) j in
              let Q : List Deal → Type 0 = λ l. IsOf chunk l (get_or old.jobs k d) in
              let apart : (get_or old.jobs k d).serial ≡ (get_or old.jobs place d).serial → ⊥ = λ e. (is.1 (kept.apart k place d (at k h) inside e)) in
              subst P (sym there) (subst Q (sym (others d (get_or old.jobs k d).serial apart)) (kept.jobs k d (at k h)))
        ]);
        apart = λ i k d hi hk e. (kept.apart i k d (at i hi) (at k hk) (sym (serials i d) ∙ e ∙ serials k d));
        below = λ k d h. (let b = kept.below k d (at k h) in let s = serials k d in omega (arith, b, s, given));
        above = λ k d h. (let b = kept.above k d (at k h) in let s = serials k d in omega (arith, b, s));
        none = (
            let b = kept.above place nobody inside in
            let other : 0 ≡ (get_or old.jobs place nobody).serial → ⊥ = λ e. (omega (arith, b, e)) in
            others nobody 0 other ∙ kept.none);
        once = stays ∙ kept.once;
        fresh = λ serial h. (
            let above : old.given < serial = omega (arith, h, given) in
            let b = kept.below place nobody inside in
            let other : serial ≡ (get_or old.jobs place nobody).serial → ⊥ = λ e. (omega (arith, above, b, e)) in
            others nobody serial other ∙ kept.fresh serial above);
      }

  -- no job goes on by a call
  pub kept_none : (old new : Held) (calls : List Call) (call : Call) → IsKept chunk old calls → new.jobs ≡ old.jobs → new.given ≡ old.given → new.out ≡ out_of (call ∷ calls)
      → ((serial : ℕ) → ((k : ℕ) (d : JobState) → k < length old.jobs → serial ≡ (get_or old.jobs k d).serial → ⊥) ⊎ (deals_of serial (call ∷ calls) ≡ deals_of serial calls))
      → ((serial : ℕ) → old.given < serial → deals_of serial (call ∷ calls) ≡ deals_of serial calls)
      → deals_of 0 (call ∷ calls) ≡ deals_of 0 calls → choices (call ∷ calls) ≡ choices calls
      → IsKept chunk new (call ∷ calls)
  kept_none old new calls call kept jobs given out others later zeroth stays =
      let P : List JobState → Type 0 = λ l. (k : ℕ) (d : JobState) → k < length l → IsOf chunk (deals_of (get_or l k d).serial (call ∷ calls)) (get_or l k d) in
      let Q : List JobState → Type 0 = λ l. (i k : ℕ) (d : JobState) → i < length l → k < length l → (get_or l i d).serial ≡ (get_or l k d).serial → i ≡ k in
      let R : List JobState → Type 0 = λ l. (k : ℕ) (d : JobState) → k < length l → (get_or l k d).serial ≤ old.given in
      let S : ℕ → Type 0 = λ n. (k : ℕ) (d : JobState) → k < length new.jobs → (get_or new.jobs k d).serial ≤ n in
      record {
        out = out;
        jobs = subst P (sym jobs) (λ k d h. (elim (others (get_or old.jobs k d).serial) [
          | inl never ↦ absurd (never k d h refl)
          | inr same ↦ let T : List Deal → Type 0 = λ l. IsOf chunk l (get_or old.jobs k d) in subst T (sym same) (kept.jobs k d h)
        ]));
        apart = subst Q (sym jobs) kept.apart;
        below = subst S (sym given) (subst R (sym jobs) kept.below);
        above = (let U : List JobState → Type 0 = λ l. (k : ℕ) (d : JobState) → k < length l → 0 < (get_or l k d).serial in subst U (sym jobs) kept.above);
        none = zeroth ∙ kept.none;
        once = stays ∙ kept.once;
        fresh = λ serial h. (let more : old.given < serial = omega (arith, h, given) in later serial more ∙ kept.fresh serial more);
      }

  -- a job is no more
  at_removed : (jobs : List JobState) (i k : ℕ) (d : JobState) → i < length jobs → k < length (remove jobs i)
      → (m : ℕ) × (m < length jobs) × (get_or (remove jobs i) k d ≡ get_or jobs m d) × (((k < i) × (m ≡ k)) ⊎ ((i ≤ k) × (m ≡ k + 1)))
  at_removed jobs i k d inside h =
      let long = length-remove jobs i inside in
      elim (cases_lt k i) [
        | inl less ↦ (k, omega (arith, h, long), get_or-remove_below jobs i d k less inside, inl (less, refl))
        | inr more ↦ (k + 1, omega (arith, h, long), get_or-remove_above jobs i d k more inside, inr (more, refl))
      ]

  pub kept_removed : (old new : Held) (calls : List Call) (i : ℕ) → IsKept chunk old calls → i < length old.jobs → new.jobs ≡ remove old.jobs i → new.given ≡ old.given → new.out ≡ old.out → IsKept chunk new calls
  kept_removed old new calls i kept inside jobs given out =
      let P : List JobState → Type 0 = λ l. (k : ℕ) (d : JobState) → k < length l → IsOf chunk (deals_of (get_or l k d).serial calls) (get_or l k d) in
      let Q : List JobState → Type 0 = λ l. (i k : ℕ) (d : JobState) → i < length l → k < length l → (get_or l i d).serial ≡ (get_or l k d).serial → i ≡ k in
      let R : List JobState → Type 0 = λ l. (k : ℕ) (d : JobState) → k < length l → (get_or l k d).serial ≤ old.given in
      let S : ℕ → Type 0 = λ n. (k : ℕ) (d : JobState) → k < length new.jobs → (get_or new.jobs k d).serial ≤ n in
      let T : JobState → Type 0 = λ j. IsOf chunk (deals_of j.serial calls) j in
      let U : JobState → Type 0 = λ j. j.serial ≤ old.given in
      record {
        out = out ∙ kept.out;
        jobs = subst P (sym jobs) (λ k d h. (let (m, there, is, which) = at_removed old.jobs i k d inside h in subst T (sym is) (kept.jobs m d there)));
        apart = subst Q (sym jobs) (λ j k d hj hk e. (
            let (m, there, is, which) = at_removed old.jobs i j d inside hj in
            let (n, there', is', which') = at_removed old.jobs i k d inside hk in
            let same : m ≡ n = kept.apart m n d there there' (ap serial_of (sym is) ∙ e ∙ ap serial_of is') in
            elim which [
              | inl a ↦ elim which' [ inl b ↦ omega (arith, a.0, a.1, b.0, b.1, same) | inr b ↦ omega (arith, a.0, a.1, b.0, b.1, same) ]
              | inr a ↦ elim which' [ inl b ↦ omega (arith, a.0, a.1, b.0, b.1, same) | inr b ↦ omega (arith, a.0, a.1, b.0, b.1, same) ]
            ]));
        below = subst S (sym given) (subst R (sym jobs) (λ k d h. (let (m, there, is, which) = at_removed old.jobs i k d inside h in subst U (sym is) (kept.below m d there))));
        above = (
            let V : List JobState → Type 0 = λ l. (k : ℕ) (d : JobState) → k < length l → 0 < (get_or l k d).serial in
            let W : JobState → Type 0 = λ j. 0 < j.serial in
            subst V (sym jobs) (λ k d h. (let (m, there, is, which) = at_removed old.jobs i k d inside h in subst W (sym is) (kept.above m d there))));
        none = kept.none;
        once = kept.once;
        fresh = λ serial h. (kept.fresh serial (omega (arith, h, given)));
      }

  -- a job more, with a number that none had
  at_last : (jobs : List JobState) (job : JobState) (k : ℕ) (d : JobState) → k < length (jobs ++ job ∷ []) → ((k < length jobs) × (get_or (jobs ++ job ∷ []) k d ≡ get_or jobs k d)) ⊎ ((k ≡ length jobs) × (get_or (jobs ++ job ∷ []) k d ≡ job))
  at_last jobs job k d h =
      let long : length (jobs ++ job ∷ []) ≡ length jobs + 1 = length-append jobs (job ∷ []) in
      elim (cases_lt k (length jobs)) [
        | inl less ↦ inl (less, get_or-append jobs (job ∷ []) d k less)
        | inr more ↦ let is : k ≡ length jobs = omega (arith, h, long, more) in inr (is, ap (λ n. get_or (jobs ++ job ∷ []) n d) is ∙ get_or-append_seam jobs job [] d)
      ]

  pub kept_more : (old new : Held) (calls : List Call) (job : JobState) → IsKept chunk old calls → new.jobs ≡ old.jobs ++ job ∷ [] → job.serial ≡ old.given + 1 → new.given ≡ old.given + 1 → new.out ≡ old.out → IsOf chunk [] job → IsKept chunk new calls
  kept_more old new calls job kept jobs serial given out fine =
      let P : List JobState → Type 0 = λ l. (k : ℕ) (d : JobState) → k < length l → IsOf chunk (deals_of (get_or l k d).serial calls) (get_or l k d) in
      let Q : List JobState → Type 0 = λ l. (i k : ℕ) (d : JobState) → i < length l → k < length l → (get_or l i d).serial ≡ (get_or l k d).serial → i ≡ k in
      let R : List JobState → Type 0 = λ l. (k : ℕ) (d : JobState) → k < length l → (get_or l k d).serial ≤ old.given + 1 in
      let S : ℕ → Type 0 = λ n. (k : ℕ) (d : JobState) → k < length new.jobs → (get_or new.jobs k d).serial ≤ n in
      let T : JobState → Type 0 = λ j. IsOf chunk (deals_of j.serial calls) j in
      let none : deals_of job.serial calls ≡ [] = kept.fresh job.serial (omega (arith, serial)) in
      let V : List Deal → Type 0 = λ l. IsOf chunk l job in
      let job_is : IsOf chunk (deals_of job.serial calls) job = subst V (sym none) fine in
      record {
        out = out ∙ kept.out;
        jobs = subst P (sym jobs) (λ k d h. (elim (at_last old.jobs job k d h) [
          | inl a ↦ subst T (sym a.1) (kept.jobs k d a.0)
          | inr a ↦ subst T (sym a.1) job_is
        ]));
        apart = subst Q (sym jobs) (λ i k d hi hk e. (elim (at_last old.jobs job i d hi) [
          | inl a ↦ elim (at_last old.jobs job k d hk) [
            | inl b ↦ kept.apart i k d a.0 b.0 (ap serial_of (sym a.1) ∙ e ∙ ap serial_of b.1)
            | inr b ↦ absurd (let low = kept.below i d a.0 in let s : (get_or old.jobs i d).serial ≡ job.serial = ap serial_of (sym a.1) ∙ e ∙ ap serial_of b.1 in omega (arith, low, s, serial))
          ]
          | inr a ↦ elim (at_last old.jobs job k d hk) [
            | inl b ↦ absurd (let low = kept.below k d b.0 in let s : job.serial ≡ (get_or old.jobs k d).serial = ap serial_of (sym a.1) ∙ e ∙ ap serial_of b.1 in omega (arith, low, s, serial))
            | inr b ↦ a.0 ∙ sym b.0
          ]
        ]));
        below = subst S (sym given) (subst R (sym jobs) (λ k d h. (elim (at_last old.jobs job k d h) [
          | inl a ↦ let low = kept.below k d a.0 in let s : serial_of (get_or (old.jobs ++ job ∷ []) k d) ≡ serial_of (get_or old.jobs k d) = ap serial_of a.1 in omega (arith, low, s)
          | inr a ↦ let s : serial_of (get_or (old.jobs ++ job ∷ []) k d) ≡ serial_of job = ap serial_of a.1 in omega (arith, s, serial)
        ])));
        above = (
            let U : List JobState → Type 0 = λ l. (k : ℕ) (d : JobState) → k < length l → 0 < (get_or l k d).serial in
            subst U (sym jobs) (λ k d h. (elim (at_last old.jobs job k d h) [
              | inl a ↦ let low = kept.above k d a.0 in let s : serial_of (get_or (old.jobs ++ job ∷ []) k d) ≡ serial_of (get_or old.jobs k d) = ap serial_of a.1 in omega (arith, low, s)
              | inr a ↦ let s : serial_of (get_or (old.jobs ++ job ∷ []) k d) ≡ serial_of job = ap serial_of a.1 in omega (arith, s, serial)
            ])));
        none = kept.none;
        once = kept.once;
        fresh = λ n h. (kept.fresh n (omega (arith, h, given)));
      }

  pub spent_removed : (old new : Held) (i : ℕ) → i < length old.jobs → new.jobs ≡ remove old.jobs i → new.given ≡ old.given → (serial : ℕ) → IsSpent old serial → IsSpent new serial
  spent_removed old new i inside jobs given serial spent =
      let P : List JobState → Type 0 = λ l. (k : ℕ) (d : JobState) → k < length l → (get_or l k d).serial ≡ serial → ⊥ in
      record {
        given = (let low = spent.given in omega (arith, low, given));
        left = subst P (sym jobs) (λ k d h e. (let (m, there, is, which) = at_removed old.jobs i k d inside h in spent.left m d there (ap serial_of (sym is) ∙ e)));
      }

  pub spent_more : (old new : Held) (job : JobState) → new.jobs ≡ old.jobs ++ job ∷ [] → job.serial ≡ old.given + 1 → new.given ≡ old.given + 1 → (serial : ℕ) → IsSpent old serial → IsSpent new serial
  spent_more old new job jobs number given serial spent =
      let P : List JobState → Type 0 = λ l. (k : ℕ) (d : JobState) → k < length l → (get_or l k d).serial ≡ serial → ⊥ in
      record {
        given = (let low = spent.given in omega (arith, low, given));
        left = subst P (sym jobs) (λ k d h e. (elim (at_last old.jobs job k d h) [
          | inl a ↦ spent.left k d a.0 (ap serial_of (sym a.1) ∙ e)
          | inr a ↦ absurd (let low = spent.given in let s : job.serial ≡ serial = ap serial_of (sym a.1) ∙ e in omega (arith, low, s, number))
        ]));
      }

  -- a job with the number of another is that job
  spent_one : (old : Held) (calls : List Call) (i m : ℕ) (d job : JobState) → IsKept chunk old calls → i < length old.jobs → m < length old.jobs → job ≡ get_or old.jobs i job → (get_or old.jobs m d).serial ≡ job.serial → m ≡ i
  spent_one old calls i m d job kept inside here there e =
      let any : get_or old.jobs i job ≡ get_or old.jobs i d = get_or_default old.jobs i job d inside in
      kept.apart m i d here inside (e ∙ ap serial_of there ∙ ap serial_of any)

  -- a job that is answered is spent
  pub spent_answered : (old new : Held) (calls : List Call) (i : ℕ) (job : JobState) → IsKept chunk old calls → i < length old.jobs → job ≡ get_or old.jobs i job → new.jobs ≡ remove old.jobs i → new.given ≡ old.given → IsSpent new job.serial
  spent_answered old new calls i job kept inside there jobs given =
      let P : List JobState → Type 0 = λ l. (k : ℕ) (d : JobState) → k < length l → (get_or l k d).serial ≡ job.serial → ⊥ in
      let same : job.serial ≡ (get_or old.jobs i job).serial = ap serial_of there in
      record {
        given = (let low = kept.below i job inside in omega (arith, low, same, given));
        left = subst P (sym jobs) (λ k d h e. (
            let (m, here, is, which) = at_removed old.jobs i k d inside h in
            let one : m ≡ i = spent_one old calls i m d job kept inside here there (ap serial_of (sym is) ∙ e) in
            elim which [
              | inl a ↦ absurd (omega (arith, a.0, a.1, one))
              | inr a ↦ absurd (omega (arith, a.0, a.1, one))
            ]));
      }

  -- the next piece of a job was taken
  pub kept_given : (old new : Held) (calls : List Call) (place : ℕ) (work : Work) (part : List ℕ) (number : ℕ) → IsKept chunk old calls → place < length old.jobs
      → ((d : JobState) → work_at chunk (get_or old.jobs place d).request (get_or old.jobs place d).serial (get_or old.jobs place d).stage ≡ Some work)
      → ((d : JobState) → part ≡ part_by work.kind (get_or old.jobs place d).bytes work)
      → new.given ≡ old.given → Became place (handed chunk) old.jobs new.jobs
      → ((d : JobState) → new.out ≡ old.out ++ record { number = number; serial = (get_or old.jobs place d).serial; at = sent_of (get_or old.jobs place d).stage } ∷ [])
      → IsKept chunk new (Submit work part (Ok number) ∷ calls)
  kept_given old new calls place work part number kept inside next written given became sent =
      let own : (d : JobState) → (work.serial ≡ (get_or old.jobs place d).serial) × (work.at ≡ sent_of (get_or old.jobs place d).stage) =
      λ d. (work_serial chunk (get_or old.jobs place d).request (get_or old.jobs place d).serial (get_or old.jobs place d).stage work (next d)) in
      let P : ℕ → Type 0 = λ n. new.out ≡ old.out ++ record { number = number; serial = n; at = sent_of (get_or old.jobs place nobody).stage } ∷ [] in
      let Q : ℕ → Type 0 = λ n. new.out ≡ old.out ++ record { number = number; serial = work.serial; at = n } ∷ [] in
      let R : List Piece → Type 0 = λ l. new.out ≡ l ++ record { number = number; serial = work.serial; at = work.at } ∷ [] in
      kept_one old new calls (Submit work part (Ok number)) place (handed chunk) kept inside became given
      (subst R kept.out (subst Q (sym (own nobody).1) (subst P (sym (own nobody).0) (sent nobody))))
      refl
      (λ j. refl)
      (λ d serial other. ap (λ b. if b then Taken work part ∷ deals_of serial calls else deals_of serial calls) (ne_eqb work.serial serial (λ e. (other (sym e ∙ (own d).0)))))
      (λ d. (
      let S : Bool → Type 0 = λ b. IsOf chunk (if b then Taken work part ∷ deals_of (get_or old.jobs place d).serial calls else deals_of (get_or old.jobs place d).serial calls) (handed chunk (get_or old.jobs place d)) in
      subst S (sym (eq-eqb work.serial (get_or old.jobs place d).serial (own d).0))
      (of_given chunk (deals_of (get_or old.jobs place d).serial calls) (get_or old.jobs place d) work part (kept.jobs place d inside) (next d) (written d))))

  -- or declined
  pub kept_declined : (old new : Held) (calls : List Call) (place : ℕ) (work : Work) (part : List ℕ) (error : ErrorValue) → IsKept chunk old calls → place < length old.jobs
      → ((d : JobState) → work_at chunk (get_or old.jobs place d).request (get_or old.jobs place d).serial (get_or old.jobs place d).stage ≡ Some work)
      → new.given ≡ old.given → new.out ≡ old.out → Became place (λ j. settled (is_out old.out j.serial) (failed error j)) old.jobs new.jobs
      → IsKept chunk new (Submit work part (Err (Error error)) ∷ calls)
  kept_declined old new calls place work part error kept inside next given out became =
      let own : (d : JobState) → (work.serial ≡ (get_or old.jobs place d).serial) × (work.at ≡ sent_of (get_or old.jobs place d).stage) =
      λ d. (work_serial chunk (get_or old.jobs place d).request (get_or old.jobs place d).serial (get_or old.jobs place d).stage work (next d)) in
      kept_one old new calls (Submit work part (Err (Error error))) place (λ j. settled (is_out old.out j.serial) (failed error j)) kept inside became given
      (out ∙ kept.out)
      refl
      (λ j. refl)
      (λ d serial other. ap (λ b. if b then Declined work part error ∷ deals_of serial calls else deals_of serial calls) (ne_eqb work.serial serial (λ e. (other (sym e ∙ (own d).0)))))
      (λ d. (
      let S : Bool → Type 0 = λ b. IsOf chunk (if b then Declined work part error ∷ deals_of (get_or old.jobs place d).serial calls else deals_of (get_or old.jobs place d).serial calls) (settled (is_out old.out (get_or old.jobs place d).serial) (failed error (get_or old.jobs place d))) in
      subst S (sym (eq-eqb work.serial (get_or old.jobs place d).serial (own d).0))
      (of_declined chunk (deals_of (get_or old.jobs place d).serial calls) (get_or old.jobs place d) work part error (is_out old.out (get_or old.jobs place d).serial) (kept.jobs place d inside))))

  if_same : (b : Bool) (deals : List Deal) → (if b then deals else deals) ≡ deals
  if_same true deals = refl
  if_same false deals = refl

  -- or there was no room
  pub kept_full : (held : Held) (calls : List Call) (work : Work) (part : List ℕ) → IsKept chunk held calls → IsKept chunk held (Submit work part (Err Full) ∷ calls)
  kept_full held calls work part kept =
      kept_none held held calls (Submit work part (Err Full)) kept refl refl kept.out (λ serial. inr (if_same (work.serial == serial) (deals_of serial calls))) (λ serial h. if_same (work.serial == serial) (deals_of serial calls)) (if_same (work.serial == 0) (deals_of 0 calls)) refl

  -- a piece came back of which nothing is known
  pub kept_unknown : (held : Held) (calls : List Call) (number : ℕ) (bytes : List ℕ) (error : Option ErrorValue) → IsKept chunk held calls → back_at number held.out ≡ None → IsKept chunk held (Step (Back number bytes error) ∷ calls)
  kept_unknown held calls number bytes error kept none =
      let found : back_at number (out_of calls) ≡ None = ap (back_at number) (sym kept.out) ∙ none in
      let same : (serial : ℕ) → deals_of serial (Step (Back number bytes error) ∷ calls) ≡ deals_of serial calls = λ serial. (ap (λ f. deals_back serial (piece_at (out_of calls) f) bytes error (deals_of serial calls)) found) in
      kept_none held held calls (Step (Back number bytes error)) kept refl refl (kept.out ∙ sym (ap (without (out_of calls)) found)) (λ serial. inr (same serial)) (λ serial h. same serial) (same 0) refl

  -- what a piece that came back says of a request
  back_same : (calls : List Call) (number k : ℕ) (bytes : List ℕ) (error : Option ErrorValue) (piece : Piece) (serial : ℕ) → back_at number (out_of calls) ≡ Some k → piece ≡ get_or (out_of calls) k nowhere
      → deals_of serial (Step (Back number bytes error) ∷ calls) ≡ (if piece.serial == serial then Came piece.at bytes error ∷ deals_of serial calls else deals_of serial calls)
  back_same calls number k bytes error piece serial found is =
      ap (λ f. deals_back serial (piece_at (out_of calls) f) bytes error (deals_of serial calls)) found
      ∙ ap (λ (p : Piece). if p.serial == serial then Came p.at bytes error ∷ deals_of serial calls else deals_of serial calls) (sym is)

  -- a piece of a request came back, which is of no other
  back_placed : (old new : Held) (calls : List Call) (call : Call) (out : List Piece) (piece : Piece) (bytes : List ℕ) (error : Option ErrorValue) (place : Option ℕ) → IsKept chunk old calls
      → position (λ (j : JobState). j.serial == piece.serial) old.jobs ≡ place → MatchOption place (new.jobs ≡ old.jobs) (λ p. Became p (taken_back out piece bytes error) old.jobs new.jobs)
      → new.given ≡ old.given → new.out ≡ out_of (call ∷ calls) → choices (call ∷ calls) ≡ choices calls
      → ((serial : ℕ) → (serial ≡ piece.serial → ⊥) → deals_of serial (call ∷ calls) ≡ deals_of serial calls)
      → deals_of piece.serial (call ∷ calls) ≡ Came piece.at bytes error ∷ deals_of piece.serial calls
      → came_count (deals_of piece.serial calls) < taken_count (deals_of piece.serial calls)
      → (is_out out piece.serial ≡ false → AreBack (Came piece.at bytes error ∷ deals_of piece.serial calls))
      → IsKept chunk new (call ∷ calls)
  back_placed old new calls call out piece bytes error None kept at jobs given left stays other own ahead settles =
      kept_none old new calls call kept jobs given left
      (λ serial. (elim (eqb_tells serial piece.serial) [
        | inl is ↦ inl (λ k d h e. (true_false (sym (eq-eqb (get_or old.jobs k d).serial piece.serial (sym e ∙ is.1)) ∙ position_none (λ (j : JobState). j.serial == piece.serial) old.jobs k d at h)))
        | inr never ↦ inr (other serial never.1)
      ]))
      (λ serial h. (elim (eqb_tells serial piece.serial) [
        | inl is ↦ absurd (
            let P : ℕ → Type 0 = λ n. deals_of n calls ≡ [] in
            let none : deals_of piece.serial calls ≡ [] = subst P is.1 (kept.fresh serial h) in
            let Q : List Deal → Type 0 = λ l. came_count l < taken_count l in
            let never : 0 < 0 = subst Q none ahead in
            omega (arith, never))
        | inr never ↦ other serial never.1
      ]))
      (elim (eqb_tells 0 piece.serial) [
        | inl is ↦ absurd (
            let P : ℕ → Type 0 = λ n. deals_of n calls ≡ [] in
            let none : deals_of piece.serial calls ≡ [] = subst P is.1 kept.none in
            let Q : List Deal → Type 0 = λ l. came_count l < taken_count l in
            let never : 0 < 0 = subst Q none ahead in
            omega (arith, never))
        | inr never ↦ other 0 never.1
      ])
      stays
  back_placed old new calls call out piece bytes error (Some place) kept at became given left stays other own ahead settles =
      let found = position-Some (λ (j : JobState). j.serial == piece.serial) old.jobs place in
      let inside : place < length old.jobs = (found nobody at).0 in
      let same : (d : JobState) → (get_or old.jobs place d).serial ≡ piece.serial = λ d. (eqb-true (get_or old.jobs place d).serial piece.serial (found d at).1) in
      kept_one old new calls call place (taken_back out piece bytes error) kept inside became given left stays (λ j. same_serial error out piece bytes j)
      (λ d serial never. other serial (λ e. (never (e ∙ sym (same d)))))
      (λ d. (
      let P : ℕ → Type 0 = λ n. IsOf chunk (deals_of n (call ∷ calls)) (taken_back out piece bytes error (get_or old.jobs place d)) in
      let Q : List Deal → Type 0 = λ l. IsOf chunk l (taken_back out piece bytes error (get_or old.jobs place d)) in
      let R : ℕ → Type 0 = λ n. IsOf chunk (deals_of n calls) (get_or old.jobs place d) in
      subst P (sym (same d)) (subst Q (sym own) (of_came chunk error (deals_of piece.serial calls) (get_or old.jobs place d) piece.at bytes (is_out out piece.serial) (subst R (same d) (kept.jobs place d inside)) settles ahead))))

  pub kept_back : (old mid new : Held) (calls : List Call) (number k : ℕ) (bytes : List ℕ) (error : Option ErrorValue) (piece : Piece) → IsKept chunk old calls
      → back_at number old.out ≡ Some k → ((d : Piece) → piece ≡ get_or old.out k d) → mid.jobs ≡ old.jobs → mid.given ≡ old.given → mid.out ≡ remove old.out k
      → new.given ≡ mid.given → new.out ≡ mid.out → IsBackAt piece bytes error mid.out mid.jobs new.jobs → IsKept chunk new (Step (Back number bytes error) ∷ calls)
  kept_back old mid new calls number k bytes error piece kept there is jobs given out given' out' back =
      let found : back_at number (out_of calls) ≡ Some k = ap (back_at number) (sym kept.out) ∙ there in
      let here : piece ≡ get_or (out_of calls) k nowhere = is nowhere ∙ ap (λ (l : List Piece). get_or l k nowhere) kept.out in
      let left : new.out ≡ out_of (Step (Back number bytes error) ∷ calls) = out' ∙ out ∙ ap (λ (l : List Piece). remove l k) kept.out ∙ sym (ap (without (out_of calls)) found) in
      let inside : k < length (out_of calls) = (position-Some (λ (p : Piece). p.number == number) (out_of calls) k nowhere found).0 in
      let says : (serial : ℕ) → deals_of serial (Step (Back number bytes error) ∷ calls) ≡ (if piece.serial == serial then Came piece.at bytes error ∷ deals_of serial calls else deals_of serial calls) = λ serial. (back_same calls number k bytes error piece serial found here) in
      let other : (serial : ℕ) → (serial ≡ piece.serial → ⊥) → deals_of serial (Step (Back number bytes error) ∷ calls) ≡ deals_of serial calls =
      λ serial never. (says serial ∙ ap (λ b. if b then Came piece.at bytes error ∷ deals_of serial calls else deals_of serial calls) (ne_eqb piece.serial serial (λ e. (never (sym e))))) in
      let own : deals_of piece.serial (Step (Back number bytes error) ∷ calls) ≡ Came piece.at bytes error ∷ deals_of piece.serial calls =
      says piece.serial ∙ ap (λ b. if b then Came piece.at bytes error ∷ deals_of piece.serial calls else deals_of piece.serial calls) (eq-eqb piece.serial piece.serial refl) in
      let P : List JobState → Type 0 = λ l. IsBackAt piece bytes error mid.out l new.jobs in
      let ahead : came_count (deals_of piece.serial calls) < taken_count (deals_of piece.serial calls) = (
      let e = counted piece.serial calls in
      let one : ((get_or (out_of calls) k nowhere).serial == piece.serial) ≡ true = eq-eqb (get_or (out_of calls) k nowhere).serial piece.serial (ap (λ (p : Piece). p.serial) (sym here)) in
      let some = some_open piece.serial (out_of calls) k nowhere inside one in
      omega (arith, e, some)) in
      let settles : is_out mid.out piece.serial ≡ false → AreBack (Came piece.at bytes error ∷ deals_of piece.serial calls) = λ never. (
      let e = counted piece.serial (Step (Back number bytes error) ∷ calls) in
      let none : open_count piece.serial mid.out ≡ 0 = none_open piece.serial mid.out never in
      let same : open_count piece.serial mid.out ≡ open_count piece.serial (out_of (Step (Back number bytes error) ∷ calls)) = ap (open_count piece.serial) (sym out' ∙ left) in
      let Q : List Deal → Type 0 = λ l. taken_count l ≡ came_count l + open_count piece.serial (out_of (Step (Back number bytes error) ∷ calls)) in
      let f = subst Q own e in
      omega (arith, f, none, same)) in
      back_placed old new calls (Step (Back number bytes error)) mid.out piece bytes error (position (λ (j : JobState). j.serial == piece.serial) old.jobs) kept refl (subst P jobs back) (given' ∙ given) left refl other own ahead settles
