use Rattle.std.proofs.Common.{◌<◌, map, refl, sym, ap, ◌∙◌, subst}
use Rattle.plain_machine.specs.declared.event.Event.TheVariants.{Issue}
use Rattle.volume.specs.Exact.{IsExact}
use Rattle.audited_volume.specs.Entries.{answered_of}
use Rattle.audited_volume.specs.declared.entry.Entry.TheVariants.{Answered, Spoiled}
use Rattle.locked_volume.specs.Boards.{AreKeptUp}
use Rattle.locked_volume.specs.Fixed.{count_at}
use Rattle.locked_volume.specs.Posts.{IsKeeper}
use Rattle.locked_volume.specs.Seats.{IsReceipted, IsSeat}
use Rattle.std.proofs.lemmas.List.Elements.{All-same}
use Rattle.locked_volume.specs.AskedFor.{IsAskedFor}
use Rattle.locked_volume.proofs.AskedFor.{more_asked, one_asked, spoils_asked}
use Rattle.locked_volume.proofs.Fitting.{fitting}
use Rattle.locked_volume.proofs.Fresh.{fresh_spoils}
use Rattle.locked_volume.proofs.Passes.{kept_still, shown_as}
use Rattle.locked_volume.proofs.Posting.{answered_holds, flush_done, has_asked, noted_holds, receipt_of, receipted, silent_done}
use Rattle.locked_volume.proofs.Staying.{stays_same}
use Rattle.locked_volume.proofs.post.Post.issue.Goals as goal

pub answer-me-requires-clause-asked : goal.answer-me-requires-clause-asked
answer-me-requires-clause-asked g c =
    has_asked c.args.seat c.in-Reply.which c.in-Reply.reply c.in-Some.receipt c.self.inside.audit c.apply.new.self c.self.inside.keeper.me.0.flying c.args.me.me.0.seat
    c.self.invariant.0.flying c.requires.seat.number
    (receipt_of c.args.seat c.in-Reply.which c.in-Reply.reply c.in-Some.receipt c.in-Ok.pair.0 c.in-Ok.pair.1 c.self.inside.audit c.apply.new.self c.in-Reply.is c.in-Some.is c.in-Ok.ensures.applied.noted)

pub note-requires-clause-silent : goal.note-requires-clause-silent
note-requires-clause-silent g c =
    let spoils = (silent_done c.args.seat c.in-Ok.pair.0 c.in-Ok.pair.1 c.self.inside.audit c.apply.new.self c.in-Done.is c.in-Ok.ensures.applied.noted).spoils in
    fresh_spoils c.entries-in-Done.result.now c.entries-from.result.now c.self.inside.audit.entries c.apply.new.self.entries spoils.which c.entries-in-Done.ensures.value c.entries-from.ensures.value spoils.entries

pub returns-in-Done-clause-due : goal.returns-in-Done-clause-due
returns-in-Done-clause-due g c = λ plain.
    let flush = flush_done c.args.number c.in-Ok.pair.0 c.self.inside.audit.held c.in-Done.is c.in-Ok.ensures.unanswered in
    absurd ((rw (← c.self.view_is) at plain) flush.0 flush.1 flush.2)

pub returns-in-Done-clause-still : goal.returns-in-Done-clause-still
returns-in-Done-clause-still g c = λ plain.
    let flush = flush_done c.args.number c.in-Ok.pair.0 c.self.inside.audit.held c.in-Done.is c.in-Ok.ensures.unanswered in
    absurd ((rw (← c.self.view_is) at plain) flush.0 flush.1 flush.2)

pub returns-in-Some-clause-done : goal.returns-in-Some-clause-done
returns-in-Some-clause-done g c = (
  c.in-Ok.pair.0,
  subst (λ p. IsExact g.B.Block.contents g.B.Block.layers (Issue c.args.number) c.in-Ok.pair.0 p.audit.volume c.apply.new.self.volume) c.self.view_is c.in-Ok.ensures.does.exact,
)

pub returns-in-Err-clause-told : goal.returns-in-Err-clause-told
returns-in-Err-clause-told g c =
    subst (λ p. AreKeptUp c.apply.new.self.volume p.told c.self.inside.publishers) c.self.view_is
    (kept_still (g.J.Room.boards c.self.inside.volume) c.apply.new.self.volume c.self.inside.audit.volume c.self.inside.publishers (ap (λ a. a.volume) c.in-Err.ensures.applied.err) c.self.invariant.1)

pub invariant_of-self-in-Some : goal.invariant_of-self-in-Some
invariant_of-self-in-Some g c =
    let v = c.self.inside.volume in
    let a = c.self.inside.audit in
    let b = c.apply.new.self in
    let r = c.in-Some.receipt in
    let done = receipt_of c.args.seat c.in-Reply.which c.in-Reply.reply r c.in-Ok.pair.0 c.in-Ok.pair.1 a b c.in-Reply.is c.in-Some.is c.in-Ok.ensures.applied.noted in
    let named = c.requires.beside.history_is ∙ sym (ap (λ p. g.J.Room.history p.volume) c.self.view_is) in
    let is = c.last_of-entry.ensures a.entries (Answered (answered_of r)) (c.entries.ensures.value ∙ done.added) in
    let merges = g.J.Room.merges v in (
      answered_holds g.B.Block.size g.B.Block.layers (g.J.Room.history v) (g.J.Room.start v) (g.J.Room.fixed v) a b c.self.inside.keeper c.answer-me.new.keeper c.args.me.me.0 c.args.seat c.in-Reply.which c.in-Reply.reply r
          c.last_of-entry.result.now c.self.invariant.0 (c.answer-me.ensures.keeper.0.0 ∙ named) c.answer-me.ensures.keeper.0.1 c.answer-me.ensures.keeper.1
          is done
          (stays_same g.B.Block.size g.B.Block.layers (g.J.Room.fixed v) a b c.self.invariant.0.stays c.in-Ok.ensures.does.kept c.in-Ok.ensures.does.loud c.in-Ok.ensures.applied.base),
      shown_as c.args.beside.now.boards (g.J.Room.boards v) b.volume b.volume c.keep_up.new.publishers (c.requires.beside.boards_are ∙ sym (ap (λ p. g.J.Room.boards p.volume) c.self.view_is)) refl c.keep_up.ensures.shown,
      All-same (IsAskedFor merges) _ _ (ap (λ v. v.all) c.answer-me.ensures.keeper.1)
          (one_asked merges c.self.inside.keeper.me.0.all c.last_of-entry.result.now c.self.invariant.2
          (subst (IsAskedFor merges) (sym is) (subst (λ n. (0 < n) × (n < 9)) (sym done.by) c.requires.numbered))),
    )

pub returns-in-Some-clause-seat : goal.returns-in-Some-clause-seat
returns-in-Some-clause-seat g c =
    let v = c.self.inside.volume in
    let a = c.self.inside.audit in
    let b = c.apply.new.self in
    let r = c.in-Some.receipt in
    let seat = c.args.seat in
    let done = receipt_of seat c.in-Reply.which c.in-Reply.reply r c.in-Ok.pair.0 c.in-Ok.pair.1 a b c.in-Reply.is c.in-Some.is c.in-Ok.ensures.applied.noted in
    let named = c.requires.beside.history_is ∙ sym (ap (λ p. g.J.Room.history p.volume) c.self.view_is) in
    subst (λ p. IsReceipted (g.J.Room.history p.volume) (count_at (g.J.Room.fixed p.volume) (g.J.Room.start p.volume) seat) seat c.args.me c.answer-me.result c.in-Reply.reply r) c.self.view_is
    (receipted g.B.Block.size g.B.Block.layers (g.J.Room.history v) (g.J.Room.start v) (g.J.Room.fixed v) a b c.self.inside.keeper c.args.me c.answer-me.result seat c.in-Reply.which c.in-Reply.reply r c.last_of-entry.result.now
    c.self.invariant.0 (subst (λ p. IsSeat (g.J.Room.history p.volume) seat c.args.me) (sym c.self.view_is) c.requires.seat)
    (c.answer-me.ensures.seat.0.0 ∙ named) c.answer-me.ensures.seat.0.1 c.answer-me.ensures.seat.1
    (c.last_of-entry.ensures a.entries (Answered (answered_of r)) (c.entries.ensures.value ∙ done.added)) done c.answer-me.ensures.knows c.answer-me.ensures.own c.answer-me.ensures.later
    (fitting (Issue c.args.number) seat c.in-Reply.which c.in-Reply.reply r c.in-Ok.pair.0 a b _ _ c.in-Reply.is done c.look_at_requests.ensures c.in-Ok.ensures.does.flown))

pub invariant_of-self-in-Done-3 : goal.invariant_of-self-in-Done-3
invariant_of-self-in-Done-3 g c =
    let v = c.self.inside.volume in
    let a = c.self.inside.audit in
    let b = c.apply.new.self in
    let silent = silent_done c.args.seat c.in-Ok.pair.0 c.in-Ok.pair.1 a b c.in-Done.is c.in-Ok.ensures.applied.noted in
    let which = silent.spoils.which in
    let named = c.requires.beside.history_is ∙ sym (ap (λ p. g.J.Room.history p.volume) c.self.view_is) in
    let merges = g.J.Room.merges v in (
      noted_holds g.B.Block.size g.B.Block.layers (g.J.Room.history v) (g.J.Room.start v) (g.J.Room.fixed v) a b c.self.inside.keeper c.note.new.keeper c.entries-in-Done.result.now c.entries-from.result.now (map Spoiled which)
          c.self.invariant.0 (subst (λ t. IsKeeper t c.note.new.keeper) named c.note.ensures.keeper) c.note.ensures.is c.entries-in-Done.ensures.value c.entries-from.ensures.value silent.spoils.entries silent.held
          (stays_same g.B.Block.size g.B.Block.layers (g.J.Room.fixed v) a b c.self.invariant.0.stays c.in-Ok.ensures.does.kept c.in-Ok.ensures.does.loud c.in-Ok.ensures.applied.base),
      shown_as c.args.beside.now.boards (g.J.Room.boards v) b.volume b.volume c.keep_up.new.publishers (c.requires.beside.boards_are ∙ sym (ap (λ p. g.J.Room.boards p.volume) c.self.view_is)) refl c.keep_up.ensures.shown,
      more_asked merges c.self.inside.keeper.me.0 c.note.new.keeper.me.0 c.entries-in-Done.result.now c.entries-from.result.now a.entries b.entries (map Spoiled which) c.note.ensures.is c.entries-in-Done.ensures.value
          c.entries-from.ensures.value silent.spoils.entries c.self.invariant.2 (spoils_asked merges which),
    )
