-- Why it is refused.
use Rattle.std.proofs.Common.{◌≡◌, true, false, refl, sym, ◌∙◌, subst}
use Rattle.std.proofs.lemmas.Bool.{true≢false}
use Rattle.volume.specs.Leaving.{is_quiet_of}
use Rattle.volume_commands.proofs.PlainReads.{missing_shows}
use Rattle.counted_volume.proofs.Takings.{takes_none}
use Rattle.volume_commands.proofs.resting.Resting.read.Goals as goal

pub returns-clause-refused : goal.returns-clause-refused
returns-clause-refused g c = rw (← c.self.view_is) c.read_pieces.ensures.refused

pub returns-clause-shows : goal.returns-clause-shows
returns-clause-shows g c = rw (← c.self.view_is) c.read_pieces.ensures.shows

pub returns-clause-loses : goal.returns-clause-loses
returns-clause-loses g c = rw (← c.self.view_is) c.read_pieces.ensures.loses

pub returns-then-not-is_there-clause-loses : goal.returns-then-not-is_there-clause-loses
returns-then-not-is_there-clause-loses g c =
    let none : c.is_there.result ≡ false = c.if-not-is_there.true in
    λ settled. (missing_shows g.B.Block.contents g.B.Block.layers c.args.dev c.args.self.now.rested (rw (← c.self.view_is) (sym c.is_there.ensures ∙ none)), refl)

pub read_pieces-requires-clause-between : goal.read_pieces-requires-clause-between
read_pieces-requires-clause-between g c = record { quiet = subst (λ v. is_quiet_of v.rested.events ≡ true) (sym c.self.view_is) c.requires.quiet; few = c.look.ensures }

pub returns-clause-answered : goal.returns-clause-answered
returns-clause-answered g c = rw (← c.self.view_is) c.read_pieces.ensures.answered

pub returns-clause-undone : goal.returns-clause-undone
returns-clause-undone g c = rw (← c.self.view_is) (λ there. c.read_pieces.ensures.undone)

pub returns-then-not-is_there-clause-undone : goal.returns-then-not-is_there-clause-undone
returns-then-not-is_there-clause-undone g c = rw (← c.self.view_is) (λ there. absurd (true≢false (sym there ∙ sym c.is_there.ensures ∙ c.if-not-is_there.true)))

pub returns-clause-taken : goal.returns-clause-taken
returns-clause-taken g c = rw (← c.self.view_is) c.read_pieces.ensures.taken

pub returns-then-not-is_there-clause-taken : goal.returns-then-not-is_there-clause-taken
returns-then-not-is_there-clause-taken g c = rw (← c.self.view_is) (takes_none c.self.inside.volume)
