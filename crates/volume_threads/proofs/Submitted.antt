-- What a seat's submission comes to.
use Rattle.std.proofs.Common.{◌≡◌, ℕ, [], ◌∷◌, ◌++◌, List, sym, ap, ◌∙◌, subst}
use Rattle.std.specs.Prelude.{Err, IfErr, MatchResult, Ok, Result}
use Rattle.atomic_table.specs.Seated.{TableId}
use Rattle.atomic_table.specs.declared.shared.Seat.{Seat}
use Rattle.plain_machine.specs.declared.request.Request.{Request}
use Rattle.sector.specs.declared.refusal.Refusal.{Refusal}
use Rattle.audited_volume.specs.declared.entry.Entry.{Entry}
use Rattle.audited_volume.specs.Seats.{Seated}
use Rattle.locked_volume.specs.Denying.{Serve, WasDenied}
use Rattle.locked_volume.specs.Fixed.{Fixed}
use Rattle.locked_volume.specs.Keeping.{Begins}
use Rattle.locked_volume.specs.Seats.{IsAsked, IsSameSeat}
use Rattle.locked_volume.specs.declared.rule.View.{View}
use Rattle.locked_volume.specs.declared.told.Told.{Told}
use Rattle.volume_threads.specs.Sittings.{IsTurnedAway, IsWaiting, SittingShape}

pub submitted_at : (history : TableId) (start : List Entry) (fixed : Fixed) (seat : ℕ) (request : Request) (me after : Seat Told View) (old new : SittingShape) (r : Result ℕ Refusal)
    → MatchResult r (λ number. IsAsked history seat number request me after) (λ _. IsSameSeat history seat me after) → IfErr r (λ refusal. WasDenied start fixed after.me.0.seen (Serve request) refusal)
    → new.volume ≡ old.volume → new.seat ≡ old.seat → old.seat ≡ seat → new.receipts ≡ old.receipts → new.room ≡ old.room → old.waits ≡ [] → old.waits ≡ me.me.0.waits → new.waits ≡ after.me.0.waits
    → old.seen ≡ me.me.0.seen → new.seen ≡ after.me.0.seen
    → MatchResult r (λ number. IsWaiting number request old new) (λ refusal. IsTurnedAway start fixed (Serve request) refusal old new)
submitted_at history start fixed seat request me after old new (Ok number) h denied volume same by receipts room idle was now saw sees = record {
  volume = volume;
  seat = same;
  receipts = receipts;
  waits = now ∙ h.waits ∙ ap (λ (l : List Seated). l ++ record { number = number; seat = seat; request = request } ∷ []) (sym was ∙ idle) ∙ ap (λ (n : ℕ). record { number = number; seat = n; request = request } ∷ []) (sym by);
  room = room;
  later = subst (λ (x : List Entry × List Entry). Begins x.0 x.1) (λ i. (sym saw i, sym sees i)) h.later;
}
submitted_at history start fixed seat request me after old new (Err refusal) h denied volume same by receipts room idle was now saw sees = record {
  same = record {
    volume = volume;
    seat = same;
    receipts = receipts;
    waits = now ∙ h.waits ∙ sym was;
    later = subst (λ (x : List Entry × List Entry). Begins x.0 x.1) (λ i. (sym saw i, sym sees i)) h.later;
  };
  denied = subst (λ (l : List Entry). WasDenied start fixed l (Serve request) refusal) (sym sees) denied;
}
