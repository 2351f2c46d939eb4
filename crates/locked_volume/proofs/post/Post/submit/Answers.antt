-- What is new is told, and a request that is refused is refused by what then stands there.
use Rattle.std.proofs.Common.{◌++◌, map, refl, sym, ap, ◌∙◌, subst}
use Rattle.std.proofs.lemmas.List.Elements.{All-same}
use Rattle.audited_volume.specs.declared.entry.Entry.TheVariants.{Spoiled}
use Rattle.locked_volume.specs.AskedFor.{IsAskedFor}
use Rattle.locked_volume.specs.Boards.{AreKeptUp}
use Rattle.locked_volume.specs.Denying.{Serve, WasDenied}
use Rattle.locked_volume.specs.Posts.{IsKeeper}
use Rattle.locked_volume.proofs.AskedFor.{more_asked, noted_asked, spoils_asked}
use Rattle.locked_volume.proofs.Denied.{denied}
use Rattle.locked_volume.proofs.Fresh.{fresh_new, fresh_spoils, noted_new}
use Rattle.locked_volume.proofs.Passes.{shown_as}
use Rattle.locked_volume.proofs.Posting.{asked_holds, looked_holds, noted_holds}
use Rattle.locked_volume.proofs.Staying.{stays_same}
use Rattle.locked_volume.proofs.post.Post.submit.Goals as goal

pub note-requires-clause-silent : goal.note-requires-clause-silent
note-requires-clause-silent g c =
    let spoils = c.in-Ok.ensures.held.spoils in
    fresh_spoils c.entries.result.now c.entries-from.result.now c.self.inside.audit.entries c.submit.new.self.entries spoils.which c.entries.ensures.value c.entries-from.ensures.value spoils.entries

pub note-requires-in-Err-clause-silent : goal.note-requires-in-Err-clause-silent
note-requires-in-Err-clause-silent g c =
    fresh_new c.entries-in-Err.result.now c.entries-from.result.now c.self.inside.audit.entries c.submit.new.self.entries
    (noted_new c.args.request c.self.inside.audit c.submit.new.self c.in-Err.ensures.noted.noted) c.entries-in-Err.ensures.value c.entries-from.ensures.value

pub returns-in-Err-clause-denied : goal.returns-in-Err-clause-denied
returns-in-Err-clause-denied g c =
    let a = c.self.inside.audit in
    let b = c.submit.new.self in
    let start = g.J.Room.start c.self.inside.volume in
    let fresh = noted_new c.args.request a b c.in-Err.ensures.noted.noted in
    let stays = stays_same g.B.Block.size g.B.Block.layers (g.J.Room.fixed c.self.inside.volume) a b c.self.invariant.0.stays c.submit.ensures.does.kept c.submit.ensures.does.loud c.submit.ensures.base in
    let holds = noted_holds g.B.Block.size g.B.Block.layers (g.J.Room.history c.self.inside.volume) start (g.J.Room.fixed c.self.inside.volume) a b c.self.inside.keeper c.note-in-Err.new.keeper c.entries-in-Err.result.now c.entries-from.result.now fresh.more
    c.self.invariant.0
    (subst (λ t. IsKeeper t c.note-in-Err.new.keeper) (c.requires.beside.history_is ∙ sym (ap (λ p. g.J.Room.history p.volume) c.self.view_is)) c.note-in-Err.ensures.keeper)
    c.note-in-Err.ensures.is c.entries-in-Err.ensures.value c.entries-from.ensures.value fresh.are c.in-Err.ensures.noted.held stays in
    let seen = c.look-me.result.me.0.seen in
    subst (λ p. WasDenied (g.J.Room.start p.volume) (g.J.Room.fixed p.volume) seen (Serve c.args.request) c.in-Err.refusal) c.self.view_is
    (denied g.B.Block.contents g.B.Block.size g.B.Block.layers start (g.J.Room.fixed c.self.inside.volume) seen a b c.args.request c.in-Err.refusal
    (record { entries = holds.knows ∙ ap (λ v. start ++ v.seen) (sym c.look-me.ensures.seat.1); stays = stays; truth = c.entries-in-Err.ensures.replay })
    (record { held = c.look_at_bounds.ensures.held; lives = c.look_at_bounds.ensures.lives })
    c.submit.ensures.does.kept c.in-Err.ensures.refused)

pub invariant_of-self : goal.invariant_of-self
invariant_of-self g c =
    let v = c.self.inside.volume in
    let a = c.self.inside.audit in
    let b = c.submit.new.self in
    let spoils = c.in-Ok.ensures.held.spoils in
    let named = c.requires.beside.history_is ∙ sym (ap (λ p. g.J.Room.history p.volume) c.self.view_is) in
    let merges = g.J.Room.merges v in (
      asked_holds g.B.Block.size g.B.Block.layers (g.J.Room.history v) (g.J.Room.start v) (g.J.Room.fixed v) a b c.self.inside.keeper c.note.new.keeper c.ask-me.new.keeper c.args.me.me.0 c.entries.result.now c.entries-from.result.now
          (map Spoiled spoils.which) c.in-Ok.number c.args.seat c.args.request c.of-said.result.value c.requires.plain c.self.invariant.0 (subst (λ t. IsKeeper t c.note.new.keeper) named c.note.ensures.keeper)
          c.note.ensures.is c.entries.ensures.value c.entries-from.ensures.value spoils.entries c.in-Ok.ensures.held.held (c.ask-me.ensures.keeper.0.0 ∙ named) c.ask-me.ensures.keeper.0.1 c.ask-me.ensures.keeper.1 c.requires.seat.number
          c.of-said.ensures (stays_same g.B.Block.size g.B.Block.layers (g.J.Room.fixed v) a b c.self.invariant.0.stays c.submit.ensures.does.kept c.submit.ensures.does.loud c.submit.ensures.base),
      shown_as c.args.beside.now.boards (g.J.Room.boards v) b.volume b.volume c.keep_up.new.publishers (c.requires.beside.boards_are ∙ sym (ap (λ p. g.J.Room.boards p.volume) c.self.view_is)) refl c.keep_up.ensures.shown,
      All-same (IsAskedFor merges) c.ask-me.new.keeper.me.0.all c.note.new.keeper.me.0.all (ap (λ w. w.all) c.ask-me.ensures.keeper.1)
          (more_asked merges c.self.inside.keeper.me.0 c.note.new.keeper.me.0 c.entries.result.now c.entries-from.result.now a.entries b.entries (map Spoiled spoils.which) c.note.ensures.is c.entries.ensures.value c.entries-from.ensures.value
          spoils.entries c.self.invariant.2 (spoils_asked merges spoils.which)),
    )

pub invariant_of-self-in-Err-1 : goal.invariant_of-self-in-Err-1
invariant_of-self-in-Err-1 g c =
    let v = c.self.inside.volume in
    let a = c.self.inside.audit in
    let b = c.submit.new.self in
    let fresh = noted_new c.args.request a b c.in-Err.ensures.noted.noted in
    let named = c.requires.beside.history_is ∙ sym (ap (λ p. g.J.Room.history p.volume) c.self.view_is) in
    let merges = g.J.Room.merges v in (
      looked_holds g.B.Block.size g.B.Block.layers (g.J.Room.history v) (g.J.Room.start v) (g.J.Room.fixed v) b c.note-in-Err.new.keeper c.look-me.new.keeper c.args.me.me.0
          (noted_holds g.B.Block.size g.B.Block.layers (g.J.Room.history v) (g.J.Room.start v) (g.J.Room.fixed v) a b c.self.inside.keeper c.note-in-Err.new.keeper c.entries-in-Err.result.now c.entries-from.result.now fresh.more
          c.self.invariant.0 (subst (λ t. IsKeeper t c.note-in-Err.new.keeper) named c.note-in-Err.ensures.keeper) c.note-in-Err.ensures.is c.entries-in-Err.ensures.value c.entries-from.ensures.value fresh.are c.in-Err.ensures.noted.held
          (stays_same g.B.Block.size g.B.Block.layers (g.J.Room.fixed v) a b c.self.invariant.0.stays c.submit.ensures.does.kept c.submit.ensures.does.loud c.submit.ensures.base))
          (c.look-me.ensures.keeper.0.0 ∙ named) c.look-me.ensures.keeper.0.1 c.look-me.ensures.keeper.1,
      shown_as c.args.beside.now.boards (g.J.Room.boards v) b.volume b.volume c.keep_up-in-Err.new.publishers (c.requires.beside.boards_are ∙ sym (ap (λ p. g.J.Room.boards p.volume) c.self.view_is)) refl c.keep_up-in-Err.ensures.shown,
      All-same (IsAskedFor merges) c.look-me.new.keeper.me.0.all c.note-in-Err.new.keeper.me.0.all (ap (λ w. w.all) c.look-me.ensures.keeper.1)
          (more_asked merges c.self.inside.keeper.me.0 c.note-in-Err.new.keeper.me.0 c.entries-in-Err.result.now c.entries-from.result.now a.entries b.entries fresh.more c.note-in-Err.ensures.is c.entries-in-Err.ensures.value
          c.entries-from.ensures.value fresh.are c.self.invariant.2 (noted_asked merges c.args.request a b fresh.more c.in-Err.ensures.noted.noted fresh.are)),
    )

pub returns-in-Ok-clause-told : goal.returns-in-Ok-clause-told
returns-in-Ok-clause-told g c = subst (λ p. AreKeptUp c.submit.new.self.volume p.told c.keep_up.new.publishers) c.self.view_is c.keep_up.ensures.once
