-- A seat's request is answered.
use Rattle.std.proofs.Common.{◌≡◌, ◌==◌, if◌then◌else◌, ℕ, Bool, true, false, List, [], ◌∷◌, ◌++◌, Option, Some, None, refl, sym, ap, ◌∙◌, subst}
use Rattle.atomic_table.specs.Seated.{TableId}
use Rattle.atomic_table.specs.declared.shared.Seat.{Seat}
use Rattle.sector.specs.declared.range.Range.{Range}
use Rattle.plain_machine.specs.declared.request.Op.TheVariants.{Read, Write}
use Rattle.plain_machine.specs.declared.request.Reply.{Reply}
use Rattle.plain_machine.specs.declared.request.Reply.TheVariants.{Data, Flushed, Written}
use Rattle.volume.specs.Flying.{Fits}
use Rattle.audited_volume.specs.declared.entry.Receipt.{Receipt}
use Rattle.audited_volume.specs.Seats.{Seated, seated_under, without_seated}
use Rattle.locked_volume.specs.declared.rule.View.{View}
use Rattle.locked_volume.specs.declared.told.Told.{Told}
use Rattle.thread_channels.specs.Passes.{Passed}
use Rattle.thread_channels.specs.Working.{IsEnded, IsWorked}
use Rattle.thread_channels.specs.declared.worker.WorkerEnd.{WorkerEnd}
use Rattle.thread_channels.specs.declared.worker.WorkerEnd.TheVariants.{Stopped, NoTicket}
use Rattle.thread_channels.specs.declared.ticket.PendingCopy.{PendingCopy}
use Rattle.locked_volume.specs.Seats.{IsReceipted}
use Rattle.locked_volume.specs.Keeping.{Begins}
use Rattle.volume_threads.specs.Sittings.{IsAnswered, SittingShape}

-- the one request in flight is the one that is found
one_found : (n : ℕ) (x y : Seated) → seated_under n (x ∷ []) ≡ Some y → (x ≡ y) × (without_seated n (x ∷ []) ≡ [])
one_found n x y e = go (x.number == n) e
  where
    some_is : Some x ≡ Some y → x ≡ y
    some_is h = ap (λ o. or_else o) h
      where
        or_else : Option Seated → Seated
        or_else (Some z) = z
        or_else None = x

    go : (b : Bool) → (if b then Some x else None) ≡ Some y → (x ≡ y) × ((if b then [] else (x ∷ [])) ≡ [])
    go true h = (some_is h, refl)
    go false h = absurd (let f : None ≡ Some y = h in cc)

pub answered_at : (history : TableId) (first seat : ℕ) (me after : Seat Told View) (reply : Reply) (r : Receipt) (old new : SittingShape) → IsReceipted history first seat me after reply r
    → old.waits ≡ me.me.0.waits → new.waits ≡ after.me.0.waits → new.volume ≡ old.volume → new.seat ≡ old.seat → old.seat ≡ seat → new.receipts ≡ old.receipts ++ r ∷ []
    → ((x : Seated) × (old.waits ≡ x ∷ [])) → Begins old.seen new.seen → IsAnswered reply r old new
answered_at history first seat me after reply r old new h was now volume same by receipts one later =
    let found = λ (x : Seated) (is : old.waits ≡ x ∷ []). one_found h.number x _ (ap (seated_under h.number) (sym is ∙ was) ∙ h.asked) in
    record {
      volume = volume;
      seat = same;
      receipts = receipts;
      waits = now ∙ h.waits ∙ ap (without_seated h.number) (sym was ∙ one.1) ∙ (found one.0 one.1).1;
      answer = h.reply;
      fits = subst (Fits r.request.op r.request.range) h.reply h.fits;
      by = h.by ∙ sym by;
      asked = λ x is. sym (ap (λ (z : Seated). z.request) (found x is).0);
      later = later;
    }

-- no read is answered as a write or a flush is, and no write as a read or a flush is
pub no_read_written : (range : Range) (reply : Reply) → reply ≡ Written → Fits Read range reply → ⊥
no_read_written range reply is fits = subst (Fits Read range) is fits

pub no_read_flushed : (range : Range) (reply : Reply) → reply ≡ Flushed → Fits Read range reply → ⊥
no_read_flushed range reply is fits = subst (Fits Read range) is fits

pub no_write_read : (range : Range) (own bytes : List ℕ) (reply : Reply) → reply ≡ Data bytes → Fits (Write own) range reply → ⊥
no_write_read range own bytes reply is fits = subst (Fits (Write own) range) is fits

pub no_write_flushed : (range : Range) (own : List ℕ) (reply : Reply) → reply ≡ Flushed → Fits (Write own) range reply → ⊥
no_write_flushed range own reply is fits = subst (Fits (Write own) range) is fits

-- a worker's pass stays one of its queue
pub worked_queue : {C : Type 0} (does : C → PendingCopy → C → Type 0) (ended : WorkerEnd) (p q : Passed) (c d : C) → IsWorked does ended p c q d → q.queue ≡ p.queue
worked_queue does ended p q c d w = ended_queue ended w.0 q w.2 ∙ ap (λ (x : Passed). x.queue) w.1.3
  where
    ended_queue : (e : WorkerEnd) (l m : Passed) → IsEnded e l m → m.queue ≡ l.queue
    ended_queue Stopped l m h = ap (λ (x : Passed). x.queue) h
    ended_queue NoTicket l m h = ap (λ (x : Passed). x.queue) h.0
