-- A seat has seen all entries, before and after.
use Rattle.std.proofs.Common.{◌≡◌, true, false, ◌++◌, [], ◌∷◌, refl, sym, ap, ◌∙◌, subst}
use Rattle.audited_volume.specs.declared.entry.Entry.TheVariants.{Begun}
use Rattle.volume.specs.Leaving.{is_quiet_of}
use Rattle.locked_volume.specs.Denying.{Begin, WasDenied}
use Rattle.locked_volume.specs.Posts.{IsKeeper}
use Rattle.std.proofs.lemmas.List.Elements.{All-same}
use Rattle.locked_volume.specs.AskedFor.{IsAskedFor}
use Rattle.locked_volume.proofs.AskedFor.{more_asked, none_asked, one_asked}
use Rattle.locked_volume.proofs.Denied.{busy_so, merge_denied}
use Rattle.locked_volume.proofs.Fresh.{fresh_is}
use Rattle.locked_volume.proofs.Passes.{shown_as}
use Rattle.locked_volume.proofs.Posting.{looked_holds, noted_holds, not_begun_holds}
use Rattle.locked_volume.proofs.Staying.{stays_begun}
use Rattle.locked_volume.proofs.post.Post.begin_merge.Goals as goal

pub returns-in-Ok-clause-begun : goal.returns-in-Ok-clause-begun
returns-in-Ok-clause-begun g c =
    let left = c.in-Ok.ensures.noted in
    let fresh = fresh_is c.entries.result.now c.entries-from.result.now c.self.inside.audit.entries c.begin_merge.new.self.entries (Begun c.args.number ∷ []) c.entries.ensures.value c.entries-from.ensures.value (ap (λ a. a.entries) left.becomes) in (
      c.self.inside.keeper.me.0.all,
      c.look-me.ensures.later,
      ap (λ v. v.seen) c.look-me-in-Ok.ensures.seat.1 ∙ ap (λ v. v.all) c.note.ensures.is ∙ (λ i. (c.look-me.ensures.keeper.1 i).all ++ fresh i),
    )

pub returns-in-Err-clause-denied : goal.returns-in-Err-clause-denied
returns-in-Err-clause-denied g c =
    let start = g.J.Room.start c.self.inside.volume in
    let seen = c.look-me.result.me.0.seen in
    λ calm. subst (λ p. WasDenied (g.J.Room.start p.volume) (g.J.Room.fixed p.volume) seen (Begin c.args.number) c.in-Err.refusal) c.self.view_is
    (merge_denied g.B.Block.contents g.B.Block.size g.B.Block.layers start (g.J.Room.fixed c.self.inside.volume) seen c.self.inside.audit c.begin_merge.new.self c.args.number c.in-Err.refusal
    (record { entries = c.self.invariant.0.knows ∙ ap (λ v. start ++ v.seen) (sym c.look-me.ensures.seat.1); stays = c.self.invariant.0.stays; truth = c.entries-from.ensures.replay })
    (record { held = c.look_at_bounds.ensures.held; lives = c.look_at_bounds.ensures.lives })
    c.in-Err.ensures.refused calm)

pub invariant_of-self : goal.invariant_of-self
invariant_of-self g c =
    let left = c.in-Ok.ensures.noted in
    let named = c.requires.beside.history_is ∙ sym (ap (λ p. g.J.Room.history p.volume) c.self.view_is) in
    let start = g.J.Room.start c.self.inside.volume in
    let fixed = g.J.Room.fixed c.self.inside.volume in
    let history = g.J.Room.history c.self.inside.volume in
    let looked = looked_holds g.B.Block.size g.B.Block.layers history start fixed c.self.inside.audit c.self.inside.keeper c.look-me.new.keeper c.args.me.me.0 c.self.invariant.0
    (c.look-me.ensures.keeper.0.0 ∙ named) c.look-me.ensures.keeper.0.1 c.look-me.ensures.keeper.1 in
    let noted = noted_holds g.B.Block.size g.B.Block.layers history start fixed c.self.inside.audit c.begin_merge.new.self c.look-me.new.keeper c.note.new.keeper c.entries.result.now c.entries-from.result.now (Begun c.args.number ∷ [])
    looked
    (subst (λ t. IsKeeper t c.note.new.keeper) named c.note.ensures.keeper)
    c.note.ensures.is c.entries.ensures.value c.entries-from.ensures.value
    (ap (λ a. a.entries) left.becomes) (ap (λ a. a.held) left.becomes)
    (stays_begun g.B.Block.size g.B.Block.layers _ c.self.inside.audit c.begin_merge.new.self c.args.number c.self.invariant.0.stays
    c.in-Ok.ensures.does.admitted c.in-Ok.ensures.does.begun c.in-Ok.ensures.does.loud (ap (λ a. a.loud) left.becomes) (ap (λ a. a.base) left.becomes) (ap (λ a. a.taken) left.becomes) (ap (λ a. a.folded) left.becomes)) in
    let merges = g.J.Room.merges c.self.inside.volume in
    let asked = more_asked merges c.look-me.new.keeper.me.0 c.note.new.keeper.me.0 c.entries.result.now c.entries-from.result.now c.self.inside.audit.entries c.begin_merge.new.self.entries (Begun c.args.number ∷ [])
    c.note.ensures.is c.entries.ensures.value c.entries-from.ensures.value (ap (λ a. a.entries) left.becomes)
    (All-same (IsAskedFor merges) _ _ (ap (λ v. v.all) c.look-me.ensures.keeper.1) c.self.invariant.2)
    (one_asked merges [] (Begun c.args.number) (none_asked merges) (subst (λ p. g.J.Room.merges p.volume c.args.number ≡ true) (sym c.self.view_is) c.requires.asked)) in (
      looked_holds g.B.Block.size g.B.Block.layers history start fixed c.begin_merge.new.self c.note.new.keeper c.look-me-in-Ok.new.keeper c.look-me.result.me.0 noted
          (c.look-me-in-Ok.ensures.keeper.0.0 ∙ named) c.look-me-in-Ok.ensures.keeper.0.1 c.look-me-in-Ok.ensures.keeper.1,
      shown_as c.args.beside.now.boards (g.J.Room.boards c.self.inside.volume) c.begin_merge.new.self.volume c.begin_merge.new.self.volume c.keep_up.new.publishers
          (c.requires.beside.boards_are ∙ sym (ap (λ p. g.J.Room.boards p.volume) c.self.view_is)) refl c.keep_up.ensures.shown,
      All-same (IsAskedFor merges) _ _ (ap (λ v. v.all) c.look-me-in-Ok.ensures.keeper.1) asked,
    )

pub invariant_of-self-in-Err : goal.invariant_of-self-in-Err
invariant_of-self-in-Err g c =
    let named = c.requires.beside.history_is ∙ sym (ap (λ p. g.J.Room.history p.volume) c.self.view_is) in
    let start = g.J.Room.start c.self.inside.volume in
    let fixed = g.J.Room.fixed c.self.inside.volume in
    let history = g.J.Room.history c.self.inside.volume in
    let looked = looked_holds g.B.Block.size g.B.Block.layers history start fixed c.self.inside.audit c.self.inside.keeper c.look-me.new.keeper c.args.me.me.0 c.self.invariant.0
    (c.look-me.ensures.keeper.0.0 ∙ named) c.look-me.ensures.keeper.0.1 c.look-me.ensures.keeper.1 in (
      not_begun_holds g.B.Block.size g.B.Block.layers history start fixed c.self.inside.audit c.begin_merge.new.self c.look-me.new.keeper c.args.number c.in-Err.refusal looked c.in-Err.ensures.refused,
      shown_as c.args.beside.now.boards (g.J.Room.boards c.self.inside.volume) c.begin_merge.new.self.volume c.begin_merge.new.self.volume c.keep_up-in-Err.new.publishers
          (c.requires.beside.boards_are ∙ sym (ap (λ p. g.J.Room.boards p.volume) c.self.view_is)) refl c.keep_up-in-Err.ensures.shown,
      All-same (IsAskedFor (g.J.Room.merges c.self.inside.volume)) _ _ (ap (λ v. v.all) c.look-me.ensures.keeper.1) c.self.invariant.2,
    )

pub returns-in-Err-clause-busy : goal.returns-in-Err-clause-busy
returns-in-Err-clause-busy g c = λ told.
    subst (λ p. is_quiet_of p.audit.volume ≡ false) c.self.view_is (busy_so c.args.number c.in-Err.refusal c.self.inside.audit c.begin_merge.new.self told c.in-Err.ensures.refused)
