-- The piece was answered, or starved.
use Rattle.std.proofs.Common.{Some, ap, ◌∙◌}
use Rattle.plain_machine.specs.declared.request.Reply.TheVariants.{Refused}
use Rattle.plain_machine.specs.declared.request.Reply.{Reply}
use Rattle.event_machine.specs.Held.{Moving}
use Rattle.volume.specs.Leaving.{is_quiet_of}
use Rattle.volume.specs.Moved.{moving_of}
use Rattle.volume.specs.Volumed.{Volumed}
use Rattle.volume_commands.proofs.AtOnce.{reaches_then}
use Rattle.counted_volume.proofs.Settled.{keeps_more}
use Rattle.volume_commands.proofs.Seen.{devices_kept, piece_kept}
use Rattle.counted_volume.proofs.Refusing.{room_quiet}
use Rattle.volume_commands.proofs.Between.{between_after, starved_between, starved_merged, settles_again, loud_in_all}
use Rattle.volume_commands.proofs.Served.{served_did}
use Rattle.volume.proofs.Quieted.{quiet_flights}
use Rattle.volume_commands.proofs.AtRest.{answered, led_then}
use Rattle.counted_volume.proofs.DoneDue.{done_then}
use Rattle.counted_volume.proofs.Takings.{takes_then}
use Rattle.volume_commands.proofs.serving.serve.Goals as goal

pub returns-in-Err-clause-kept : goal.returns-in-Err-clause-kept
returns-in-Err-clause-kept g c = devices_kept g.B.Block.size g.B.Block.layers c.args.volume.now.volume c.begin.new.volume.volume c.in-Err.ensures.kept c.in-Err.ensures.loud

pub returns-in-Err-clause-between : goal.returns-in-Err-clause-between
returns-in-Err-clause-between g c =
    starved_between g.B.Block.contents g.B.Block.layers g.B.Block.size c.args.volume.now.volume c.begin.new.volume.volume c.requires.between c.in-Err.ensures.starved.1 (returns-in-Err-clause-kept g c)

pub returns-in-Err-clause-settled : goal.returns-in-Err-clause-settled
returns-in-Err-clause-settled g c =
    settles_again g.B.Block.contents g.B.Block.layers g.B.Block.size c.args.volume.now.volume c.begin.new.volume.volume
    (room_quiet c.args.volume.now.volume c.begin.new.volume.volume c.in-Err.ensures.starved.1 ∙ c.requires.between.quiet) (returns-in-Err-clause-kept g c)

pub returns-in-Err-clause-starved : goal.returns-in-Err-clause-starved
returns-in-Err-clause-starved g c =
    let s = c.in-Err.ensures.starved in
    (s.0, starved_merged g.B.Block.contents g.B.Block.layers c.args.volume.now.volume c.begin.new.volume.volume s.2)

pub returns-in-Err-clause-piece : goal.returns-in-Err-clause-piece
returns-in-Err-clause-piece g c = piece_kept g.B.Block.size c.args.volume.now.volume c.begin.new.volume.volume c.in-Err.ensures.kept

pub returns-in-Ok-clause-kept : goal.returns-in-Ok-clause-kept
returns-in-Ok-clause-kept g c =
    devices_kept g.B.Block.size g.B.Block.layers c.args.volume.now.volume c.settle.new.volume.volume
    (keeps_more g.B.Block.size c.args.volume.now.volume c.begin.new.volume.volume c.settle.new.volume.volume c.in-Ok.ensures.kept c.settle.ensures.kept) (c.settle.ensures.run.loud ∙ c.in-Ok.ensures.loud)

pub returns-in-Ok-clause-between : goal.returns-in-Ok-clause-between
returns-in-Ok-clause-between g c = between_after g.B.Block.contents g.B.Block.layers g.B.Block.size c.args.volume.now.volume c.settle.new.volume.volume c.requires.between c.settle.ensures.quiet (returns-in-Ok-clause-kept g c)

pub returns-in-Ok-clause-settled : goal.returns-in-Ok-clause-settled
returns-in-Ok-clause-settled g c = settles_again g.B.Block.contents g.B.Block.layers g.B.Block.size c.args.volume.now.volume c.settle.new.volume.volume c.settle.ensures.quiet (returns-in-Ok-clause-kept g c)

pub returns-in-Ok-clause-piece : goal.returns-in-Ok-clause-piece
returns-in-Ok-clause-piece g c = piece_kept g.B.Block.size c.args.volume.now.volume c.settle.new.volume.volume (keeps_more g.B.Block.size c.args.volume.now.volume c.begin.new.volume.volume c.settle.new.volume.volume c.in-Ok.ensures.kept c.settle.ensures.kept)

pub returns-in-Ok-clause-answer : goal.returns-in-Ok-clause-answer
returns-in-Ok-clause-answer g c = λ settled.
    let b = c.in-Ok.ensures.begun in
    let before = Refused b.failure in
    let moved : Reply → Volumed g.row.B.Denot → Moving = λ reply v. moving_of g.B.Block.contents g.B.Block.layers (Some reply) v in
    let loud = loud_in_all g.B.Block.contents g.B.Block.layers g.B.Block.size c.args.volume.now.volume settled in
    let quiet = c.is_quiet.ensures.value ∙ c.requires.between.quiet in
    served_did g.B.Block.contents g.B.Block.layers g.B.Block.size c.args.request b.number before c.settle.result c.args.volume.now.volume b.mid c.settle.new.volume.volume c.requires.can
    (c.is_quiet.ensures.between quiet loud) (c.is_quiet.ensures.under quiet loud) b.exact
    (reaches_then (moved before b.mid) (moved c.in-Ok.reply c.begin.new.volume.volume) (moved c.settle.result c.settle.new.volume.volume) (b.run.reaches (b.loud ∙ loud)) (c.settle.ensures.run.reaches (c.in-Ok.ensures.loud ∙ loud)))
    (c.settle.ensures.none (Some c.settle.result))

pub returns-in-Err-clause-untaken : goal.returns-in-Err-clause-untaken
returns-in-Err-clause-untaken g c = c.in-Err.ensures.untaken

pub returns-in-Ok-clause-answered : goal.returns-in-Ok-clause-answered
returns-in-Ok-clause-answered g c =
    let b = c.in-Ok.ensures.begun in
    answered g.B.Block.may_hold g.B.Block.contents g.B.Block.layers g.B.Block.fault_count g.B.Block.size c.args.request b.failure c.args.volume.now.volume b.mid (quiet_flights c.args.volume.now.volume c.requires.between.quiet) b.number c.settle.result c.settle.new.volume.volume b.entered b.exact
    (done_then g.B.Block.may_hold g.B.Block.contents g.B.Block.layers g.B.Block.fault_count g.B.Block.size (Refused b.failure) c.in-Ok.reply c.settle.result b.mid c.begin.new.volume.volume c.settle.new.volume.volume b.did c.settle.ensures.did)
    (led_then g.B.Block.may_hold g.B.Block.contents g.B.Block.layers g.B.Block.fault_count g.B.Block.size (Refused b.failure) c.in-Ok.reply c.settle.result b.mid c.begin.new.volume.volume c.settle.new.volume.volume b.led c.settle.ensures.led c.settle.ensures.did)
    (λ quiet. c.settle.ensures.still (ap (λ (x : Volumed g.row.B.Denot). is_quiet_of x) (b.still quiet) ∙ quiet) ∙ b.still quiet)

pub returns-in-Ok-clause-taken : goal.returns-in-Ok-clause-taken
returns-in-Ok-clause-taken g c = takes_then _ _ _ c.in-Ok.ensures.taken c.settle.ensures.taken
