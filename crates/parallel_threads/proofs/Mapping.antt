-- What was denied may be said by other words.
use Rattle.std.proofs.Common.{inl, inr, ℕ, List, [], ◌∷◌, Option, None, Some}
use Rattle.std.proofs.Math.Logic.{∥∥₁_map}
use Rattle.chunk.specs.Pieces.{Span, pieces_of, span_of}
use Rattle.plain_machine.specs.declared.request.Dev.{Dev}
use Rattle.plain_machine.specs.declared.request.Op.{Op}
use Rattle.plain_machine.specs.declared.request.Reply.{Reply}
use Rattle.plain_machine.specs.declared.request.Request.{Request}
use Rattle.sector.specs.declared.refusal.Refusal.{Refusal}
use Rattle.audited_volume.specs.declared.entry.Entry.{Entry}
use Rattle.audited_volume.specs.declared.entry.Receipt.{Receipt}
use Rattle.locked_volume.specs.Denying.{Wish, Serve}
use Rattle.command_replies.specs.declared.seated.SeatAnswer.{SeatAnswer}
use Rattle.command_replies.specs.declared.seated.SeatAnswer.TheVariants as answered
use Rattle.volume_threads.specs.Rigs.{SeatShape, seen_at}
use Rattle.plain_machine.specs.declared.request.Op.TheVariants as op
use Rattle.plain_machine.specs.declared.request.Reply.TheVariants as reply
use Rattle.volume_threads.specs.Served.{IsCut, IsCutShort, IsReadLost, IsRefused, IsWriteLost, read_op, written_reply}
use Rattle.parallel_threads.specs.declared.task.Job.{Job}
use Rattle.parallel_threads.specs.declared.task.Job.TheVariants.{Read, Write, Merge, RefusedRead, Refused}
use Rattle.parallel_threads.specs.declared.task.Task.{Task}
use Rattle.parallel_threads.specs.Tasks.{AreCalled, AreDone, IsCall, IsDoneAs, IsEnded}

module _ (op : List ℕ → Op) (reply : List ℕ → Reply) (dev : Dev) (lost : Refusal → Type 0) (denies says : Request → Refusal → Type 0) (by : (request : Request) (r : Refusal) → denies request r → says request r) where
  refused_by : (p : Span) (r : Refusal) → IsRefused op dev denies p r → IsRefused op dev says p r
  refused_by p r (inl starved) = inl starved
  refused_by p r (inr (own, request, is, denied)) = inr (own, request, is, by request r denied)

  cut_by : (pieces : List Span) (receipts : List Receipt) (r : Refusal) → IsCut op reply dev lost denies pieces receipts r → IsCut op reply dev lost says pieces receipts r
  cut_by pieces receipts r (done, rest, firsts, bytes, parts, served, inl (same, over, refused)) =
      (done, rest, firsts, bytes, parts, served, inl (same, over, λ p ps e. refused_by p r (refused p ps e)))
  cut_by pieces receipts r (done, rest, firsts, bytes, parts, served, inr failed) = (done, rest, firsts, bytes, parts, served, inr failed)

  pub short_by : (piece : ℕ) (span : Span) (receipts : List Receipt) (r : Refusal) → IsCutShort op reply dev lost denies piece span receipts r → IsCutShort op reply dev lost says piece span receipts r
  short_by piece span receipts r h = cut_by (pieces_of piece span) receipts r h

module _ (denies says : ℕ → List Entry → Wish → Refusal → Type 0) (pieces : ℕ → ℕ) (by : (k : ℕ) (seen : List Entry) (wish : Wish) (r : Refusal) → denies k seen wish r → says k seen wish r) where
  called_by : (job : Job) (a : SeatAnswer) (s t : SeatShape) → IsCall denies pieces job a s t → IsCall says pieces job a s t
  called_by (Read volume dev range) answered.Done s t h = absurd h
  called_by (Read volume dev range) (answered.Data words) s t h = h
  called_by (Read volume dev range) (answered.Refused r) s t h =
      (h.0, h.1, short_by read_op reply.Data dev IsReadLost _ _ (λ request x. by volume (seen_at t volume) (Serve request) x) (pieces volume) (span_of range) h.0 r h.2)
  called_by (Write volume dev range bytes) answered.Done s t h = h
  called_by (Write volume dev range bytes) (answered.Data words) s t h = absurd h
  called_by (Write volume dev range bytes) (answered.Refused r) s t h =
      (h.0, h.1, short_by op.Write written_reply dev IsWriteLost _ _ (λ request x. by volume (seen_at t volume) (Serve request) x) (pieces volume) (span_of range) h.0 r h.2)
  called_by (Merge volume snap) answered.Done s t h = h
  called_by (Merge volume snap) (answered.Data words) s t h = absurd h
  called_by (Merge volume snap) (answered.Refused r) s t h = (h.0, by volume (seen_at t volume) _ r h.1)
  called_by (RefusedRead refusal) a s t h = h
  called_by (Refused refusal) a s t h = h

  done_as_by : (job : Option Job) (b a : Task) (s t : SeatShape) → IsDoneAs denies pieces job b a s t → IsDoneAs says pieces job b a s t
  done_as_by None b a s t h = h
  done_as_by (Some job) b a s t h = (h.0, h.1, called_by job h.0 s t h.2)

  done_by : (asked tasks : List Task) (s t : SeatShape) → AreDone denies pieces asked tasks s t → AreDone says pieces asked tasks s t
  done_by [] [] s t h = h
  done_by [] (a ∷ tasks) s t h = absurd h
  done_by (b ∷ asked) [] s t h = absurd h
  done_by (b ∷ asked) (a ∷ tasks) s t h = (h.0, done_as_by b.job b a s h.0 h.1, done_by asked tasks h.0 t h.2)

  all_by : (asked tasks : List Task) (s : SeatShape) → AreCalled denies pieces asked tasks s → AreCalled says pieces asked tasks s
  all_by asked tasks s h = ∥∥₁_map h (λ x. (x.0, x.1, done_by asked tasks x.0 s x.2))

  pub ended_by : (asked tasks : List Task) (number : ℕ) (s : SeatShape) → IsEnded denies pieces asked tasks number s → IsEnded says pieces asked tasks number s
  ended_by asked tasks number s (is, inl called) = (is, inl (all_by asked tasks s called))
  ended_by asked tasks number s (is, inr (same, none)) = (is, inr (same, all_by [] [] s none))
