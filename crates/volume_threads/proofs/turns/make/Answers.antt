-- A request that is issued at once was waiting just before.
use Rattle.std.proofs.Common.{◌<◌, List, [], ◌∷◌, ◌++◌, length, sym, ap, ◌∙◌, subst}
use Rattle.locked_volume.proofs.Begins.{begins_then}
use Rattle.locked_volume.specs.Beside.{IsBeside}
use Rattle.audited_volume.specs.declared.entry.Receipt.{Receipt}
use Rattle.volume_threads.proofs.turns.make.Goals as goal

pub issue-requires-clause-beside : goal.issue-requires-clause-beside
issue-requires-clause-beside g c =
    subst (λ n. IsBeside (g.J.Room.history n) (g.J.Room.boards n) c.args.place.now.beside) (sym (c.submit.ensures.post ∙ c.requires.post)) c.args.place.now.is_beside

pub issue-requires-clause-few : goal.issue-requires-clause-few
issue-requires-clause-few g c = subst (λ n. (0 < n) × (n < 9)) (sym c.in-Ok.ensures.seat.seat) c.requires.few

pub issue-requires-clause-room : goal.issue-requires-clause-room
issue-requires-clause-room g c =
    let waits = c.in-Ok.ensures.seat in
    subst (λ (l : List Receipt). length l < c.submit.new.self.room) (sym waits.receipts)
    (subst (λ n. length c.args.sitting.now.receipts < n) (sym waits.room) c.requires.room)

pub returns-in-Some : goal.returns-in-Some
returns-in-Some g c =
    let waits = c.in-Ok.ensures.seat in
    let h = c.in-Some.ensures.some in (
      h.0,
      record {
        volume = h.1.volume ∙ waits.volume;
        seat = h.1.seat ∙ waits.seat;
        receipts = h.1.receipts ∙ ap (λ l. l ++ h.0 ∷ []) waits.receipts;
        waits = h.1.waits;
        answer = h.1.answer;
        fits = h.1.fits;
        by = h.1.by ∙ waits.seat;
        asked = h.1.asked _ waits.waits;
        later = begins_then _ _ _ waits.later h.1.later;
      },
    )

pub returns-in-None : goal.returns-in-None
returns-in-None g c =
    let waits = c.in-Ok.ensures.seat in
    let same = c.in-None.ensures.none in record {
      volume = same.0.volume ∙ waits.volume;
      seat = same.0.seat ∙ waits.seat;
      receipts = same.0.receipts ∙ waits.receipts;
      waits = same.0.waits ∙ waits.waits;
      room = same.1 ∙ waits.room;
      later = begins_then _ _ _ waits.later same.0.later;
    }
