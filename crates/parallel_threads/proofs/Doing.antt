-- Tasks that are done one after the other.
use Rattle.std.proofs.Common.{◌≡◌, ◌+◌, ◌<◌, ℕ, List, [], ◌∷◌, ◌++◌, Option, None, Some, drop, get_or, length, length-set, set, take, inl, inr, refl, sym, ap, ◌∙◌, subst, arith}
use Rattle.std.proofs.Math.Logic.{∥∥₁_elim, ∥∥₁_map}
use native.Mathlib.Nat.{ℕ_set}
use Rattle.audited_volume.specs.declared.entry.Receipt.{Receipt}
use Rattle.std.proofs.Math.Seq.{take-length}
use Rattle.std.proofs.lemmas.List.{drop_more, drop-set-lt, get_or-drop, take_more, take_more_set}
use Rattle.command_replies.specs.declared.seated.SeatAnswer.{SeatAnswer}
use Rattle.command_replies.specs.declared.seated.SeatAnswer.TheVariants as answered
use Rattle.volume_threads.specs.Rigs.{SeatShape, receipts_at}
use Rattle.parallel_threads.specs.declared.task.Job.{Job}
use Rattle.parallel_threads.specs.declared.task.Job.TheVariants.{Read, Write, Merge, RefusedRead, Refused}
use Rattle.parallel_threads.specs.declared.task.Task.{Task}
use Rattle.locked_volume.specs.Denying.{Wish}
use Rattle.audited_volume.specs.declared.entry.Entry.{Entry}
use Rattle.sector.specs.declared.refusal.Refusal.{Refusal}
use Rattle.parallel_threads.specs.Tasks.{AreCalled, AreDone, AreUnderWay, IsCall, IsDone, IsDoneAs, IsEnded, IsNew, IsUnbegun}

-- the first of two lists that are equal from a place on
first_same : (asked tasks : List Task) (n : ℕ) (b : Task) → drop n tasks ≡ drop n asked → get_or tasks n b ≡ get_or asked n b
first_same asked tasks n b same =
    subst (λ m. get_or tasks m b ≡ get_or asked m b) (omega arith)
    (sym (get_or-drop n tasks 0 b) ∙ ap (λ (l : List Task). get_or l 0 b) same ∙ get_or-drop n asked 0 b)

rest_same : (asked tasks : List Task) (n : ℕ) (b : Task) → n < length tasks → n < length asked → drop n tasks ≡ drop n asked → drop (n + 1) tasks ≡ drop (n + 1) asked
rest_same asked tasks n b low few same =
    ap (λ (l : List Task). drop 1 l) (sym (drop_more tasks n b low) ∙ same ∙ drop_more asked n b few)

module _ (denies : ℕ → List Entry → Wish → Refusal → Type 0) (pieces : ℕ → ℕ) where
  done_more : (bs cs : List Task) (b a : Task) (s t u : SeatShape) → AreDone denies pieces bs cs s t → IsDone denies pieces b a t u → AreDone denies pieces (bs ++ b ∷ []) (cs ++ a ∷ []) s u
  done_more [] [] b a s t u h one = (u, subst (λ x. IsDone denies pieces b a x u) h one, refl)
  done_more [] (x ∷ cs) b a s t u h one = absurd h
  done_more (x ∷ bs) [] b a s t u h one = absurd h
  done_more (x ∷ bs) (y ∷ cs) b a s t u h one = (h.0, h.1, done_more bs cs b a h.0 t u h.2 one)

  -- the seat keeps its number
  called_number : (job : Job) (a : SeatAnswer) (s t : SeatShape) → IsCall denies pieces job a s t → t.number ≡ s.number
  called_number (Read volume dev range) answered.Done s t h = absurd h
  called_number (Read volume dev range) (answered.Data words) s t h = h.2.number
  called_number (Read volume dev range) (answered.Refused refusal) s t h = h.1.number
  called_number (Write volume dev range bytes) answered.Done s t h = h.1.number
  called_number (Write volume dev range bytes) (answered.Data words) s t h = absurd h
  called_number (Write volume dev range bytes) (answered.Refused refusal) s t h = h.1.number
  called_number (Merge volume snap) answered.Done s t h = h.0.number
  called_number (Merge volume snap) (answered.Data words) s t h = absurd h
  called_number (Merge volume snap) (answered.Refused refusal) s t h = h.0.number
  called_number (RefusedRead refusal) a s t h = ap (λ x. x.number) h.1
  called_number (Refused refusal) a s t h = ap (λ x. x.number) h.1

  number_as : (job : Option Job) (b a : Task) (s t : SeatShape) → IsDoneAs denies pieces job b a s t → t.number ≡ s.number
  number_as None b a s t h = ap (λ x. x.number) h.1
  number_as (Some job) b a s t h = called_number job h.0 s t h.2

  pub same_number : (b a : Task) (s t : SeatShape) → IsDone denies pieces b a s t → t.number ≡ s.number
  same_number b a s t h = number_as b.job b a s t h

  -- nothing is done yet
  pub begun : (asked tasks : List Task) (s : SeatShape) → tasks ≡ asked → IsNew s → AreUnderWay denies pieces asked tasks 0 s
  begun asked tasks s same is_new = record { many = ap length same; few = omega arith; firsts = ∣ (s, is_new, refl) ∣₁; others = same }

  called_more : (asked tasks : List Task) (b a : Task) (s t : SeatShape) → AreCalled denies pieces asked tasks s → IsDone denies pieces b a s t → AreCalled denies pieces (asked ++ b ∷ []) (tasks ++ a ∷ []) t
  called_more asked tasks b a s t h one = ∥∥₁_map h (λ x. (x.0, x.1, done_more asked tasks b a x.0 s t x.2 one))

  -- one more is done
  pub stepped : (asked tasks : List Task) (n : ℕ) (b a : Task) (s t : SeatShape) → n < length tasks → AreUnderWay denies pieces asked tasks n s → b ≡ get_or tasks n b → IsDone denies pieces b a s t
      → AreUnderWay denies pieces asked (set tasks n a) (n + 1) t
  stepped asked tasks n b a s t low h is one =
      let few : n < length asked = subst (λ m. n < m) h.many low in
      let here : get_or asked n b ≡ b = sym (is ∙ first_same asked tasks n b h.others) in
      record {
        many = length-set tasks n a ∙ h.many;
        few = omega (arith, few);
        firsts = subst (λ (x : List Task × List Task). AreCalled denies pieces x.0 x.1 t)
            (λ i. (sym (take_more asked n b few ∙ ap (λ x. take n asked ++ x ∷ []) here) i, sym (take_more_set tasks n a low) i))
            (called_more (take n asked) (take n tasks) b a s t h.firsts one);
        others = drop-set-lt (n + 1) tasks n a (omega arith) ∙ rest_same asked tasks n b low few h.others;
      }

  -- all are done, or none
  pub all_done : (asked tasks : List Task) (n : ℕ) (s : SeatShape) → n ≡ length tasks → AreUnderWay denies pieces asked tasks n s → IsEnded denies pieces asked tasks s.number s
  all_done asked tasks n s all h = (
    refl,
    inl (subst (λ (x : List Task × List Task). AreCalled denies pieces x.0 x.1 s)
        (λ i. ((ap (λ m. take m asked) (all ∙ h.many) ∙ take-length asked) i, (ap (λ m. take m tasks) all ∙ take-length tasks) i))
        h.firsts),
  )

  pub none_done : (asked tasks : List Task) (n : ℕ) (s : SeatShape) → n ≡ 0 → AreUnderWay denies pieces asked tasks n s → IsEnded denies pieces asked tasks s.number s
  none_done asked tasks n s none h =
      (refl, inr (subst (λ m. drop m tasks ≡ drop m asked) none h.others, subst (λ m. AreCalled denies pieces (take m asked) (take m tasks) s) none h.firsts))

  -- a seat that was asked nothing has no receipts
  called_none : (s : SeatShape) → AreCalled denies pieces [] [] s → IsNew s
  called_none s h k = empty (receipts_at s k) (∥∥₁_elim h (ℕ_set (length (receipts_at s k)) 0) (λ x. ap length (ap (λ (t : SeatShape). receipts_at t k) x.2 ∙ x.1 k)))
    where
      empty : (rs : List Receipt) → length rs ≡ 0 → rs ≡ []
      empty [] e = refl
      empty (r ∷ rs) e = absurd (omega (arith, e))

  pub unbegun : (asked tasks : List Task) (n : ℕ) (s : SeatShape) → n ≡ 0 → AreUnderWay denies pieces asked tasks n s → IsUnbegun asked tasks s
  unbegun asked tasks n s none h =
      (subst (λ m. drop m tasks ≡ drop m asked) none h.others, called_none s (subst (λ m. AreCalled denies pieces (take m asked) (take m tasks) s) none h.firsts))
