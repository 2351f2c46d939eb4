use Rattle.std.proofs.Common.{map, refl, sym, ap, ◌∙◌, subst}
use Rattle.audited_volume.specs.declared.entry.Entry.TheVariants.{Spoiled}
use Rattle.locked_volume.specs.Boards.{AreKeptUp}
use Rattle.locked_volume.specs.Posts.{IsKeeper}
use Rattle.locked_volume.proofs.AskedFor.{more_asked, spoils_asked}
use Rattle.locked_volume.proofs.Fresh.{fresh_spoils}
use Rattle.locked_volume.proofs.Passes.{kept_still, shown_as}
use Rattle.locked_volume.proofs.Posting.{noted_holds, silent_of}
use Rattle.locked_volume.proofs.Staying.{stays_same}
use Rattle.locked_volume.proofs.post.Post.work.Goals as goal
use Rattle.locked_volume.proofs.post.Post.work.Goals.{in-Ok-default-None, in-Err}

pub note-requires-clause-silent : goal.note-requires-clause-silent
note-requires-clause-silent g c =
    let spoils = (silent_of 0 _ _ c.self.inside.audit c.apply.new.self c.in-Ok-default-None.field-0-1-is c.in-Ok-default-None.ensures.applied.noted).spoils in
    fresh_spoils c.entries.result.now c.entries-from.result.now c.self.inside.audit.entries c.apply.new.self.entries spoils.which c.entries.ensures.value c.entries-from.ensures.value spoils.entries

pub returns-clause-told : goal.returns-clause-told
returns-clause-told g c = elim c.match-apply.branch [
  | in-Ok-default-None w ↦ subst (λ p. AreKeptUp p.audit.volume c.args.self.now.told p.told) (sym w.self-is)
      (subst (λ p. AreKeptUp c.apply.new.self.volume p.told w.keep_up.new.publishers) c.self.view_is w.keep_up.ensures.once)
  | in-Err w ↦ subst (λ p. AreKeptUp p.audit.volume c.args.self.now.told p.told) (sym w.self-is)
      (subst (λ p. AreKeptUp c.apply.new.self.volume p.told c.self.inside.publishers) c.self.view_is
      (kept_still (g.J.Room.boards c.self.inside.volume) c.apply.new.self.volume c.self.inside.audit.volume c.self.inside.publishers (ap (λ a. a.volume) w.in-Err.ensures.applied.err) c.self.invariant.1))
]

pub invariant_of-self : goal.invariant_of-self
invariant_of-self g c =
    let v = c.self.inside.volume in
    let a = c.self.inside.audit in
    let b = c.apply.new.self in
    let done = c.in-Ok-default-None in
    let silent = silent_of 0 _ _ a b done.field-0-1-is done.ensures.applied.noted in
    let which = silent.spoils.which in
    let named = c.requires.beside.history_is ∙ sym (ap (λ p. g.J.Room.history p.volume) c.self.view_is) in
    let merges = g.J.Room.merges v in (
      noted_holds g.B.Block.size g.B.Block.layers (g.J.Room.history v) (g.J.Room.start v) (g.J.Room.fixed v) a b c.self.inside.keeper c.note.new.keeper c.entries.result.now c.entries-from.result.now (map Spoiled which)
          c.self.invariant.0 (subst (λ t. IsKeeper t c.note.new.keeper) named c.note.ensures.keeper) c.note.ensures.is c.entries.ensures.value c.entries-from.ensures.value silent.spoils.entries silent.held
          (stays_same g.B.Block.size g.B.Block.layers (g.J.Room.fixed v) a b c.self.invariant.0.stays done.ensures.does.kept done.ensures.does.loud done.ensures.applied.base),
      shown_as c.args.beside.now.boards (g.J.Room.boards v) b.volume b.volume c.keep_up.new.publishers (c.requires.beside.boards_are ∙ sym (ap (λ p. g.J.Room.boards p.volume) c.self.view_is)) refl c.keep_up.ensures.shown,
      more_asked merges c.self.inside.keeper.me.0 c.note.new.keeper.me.0 c.entries.result.now c.entries-from.result.now a.entries b.entries (map Spoiled which) c.note.ensures.is c.entries.ensures.value c.entries-from.ensures.value
          silent.spoils.entries c.self.invariant.2 (spoils_asked merges which),
    )
