-- The piece was written, or failed, or was not taken.
use Rattle.std.proofs.Common.{◌∙◌, Some, ap, arith}
use Rattle.plain_machine.specs.declared.request.Reply.TheVariants.{Refused}
use Rattle.volume.specs.Lent.{origin_write}
use Rattle.volume.specs.Leaving.{is_quiet_of}
use Rattle.volume.specs.Volumed.{Volumed, piece_with}
use Rattle.volume.proofs.Quieted.{quiet_flights}
use Rattle.volume_commands.specs.Rested.{merged_of, rested_of}
use Rattle.volume_commands.proofs.AtOnce.{begun_answered}
use Rattle.volume_commands.proofs.AtRest.{answered}
use Rattle.volume_commands.proofs.Between.{between_after, loud_in_all, settles_again}
use Rattle.counted_volume.proofs.Full.{still_full}
use Rattle.volume_commands.proofs.Lent.{lent_starved, same_devices}
use Rattle.volume_commands.proofs.Seen.{devices_kept, piece_kept}
use Rattle.volume_commands.proofs.Served.{served_did}
use Rattle.counted_volume.proofs.Settled.{keeps_more}
use Rattle.volume_commands.proofs.serving.serve_lent.Goals as goal

pub returns-in-Ok-clause-kept : goal.returns-in-Ok-clause-kept
returns-in-Ok-clause-kept g c =
    let does = c.in-Ok.ensures.does in
    devices_kept g.B.Block.size g.B.Block.layers c.args.volume.now.volume c.write_lent.new.self.volume (keeps_more g.B.Block.size c.args.volume.now.volume does.mid c.write_lent.new.self.volume does.submits.kept does.steps.kept) (does.steps.loud ∙ does.submits.loud)

pub returns-in-Ok-clause-between : goal.returns-in-Ok-clause-between
returns-in-Ok-clause-between g c = between_after g.B.Block.contents g.B.Block.layers g.B.Block.size c.args.volume.now.volume c.write_lent.new.self.volume c.requires.between c.in-Ok.ensures.does.quiet (returns-in-Ok-clause-kept g c)

pub returns-in-Ok-clause-settled : goal.returns-in-Ok-clause-settled
returns-in-Ok-clause-settled g c = settles_again g.B.Block.contents g.B.Block.layers g.B.Block.size c.args.volume.now.volume c.write_lent.new.self.volume c.in-Ok.ensures.does.quiet (returns-in-Ok-clause-kept g c)

pub returns-in-Ok-clause-piece : goal.returns-in-Ok-clause-piece
returns-in-Ok-clause-piece g c =
    let does = c.in-Ok.ensures.does in
    piece_kept g.B.Block.size c.args.volume.now.volume c.write_lent.new.self.volume (keeps_more g.B.Block.size c.args.volume.now.volume does.mid c.write_lent.new.self.volume does.submits.kept does.steps.kept)

pub returns-in-Ok-clause-requests : goal.returns-in-Ok-clause-requests
returns-in-Ok-clause-requests g c =
    let does = c.in-Ok.ensures.does in
    let a = does.submits.ok in
    let same = does.steps.counts.0 in
    omega (arith, a.given, a.next, same)

pub returns-in-Ok-clause-answer : goal.returns-in-Ok-clause-answer
returns-in-Ok-clause-answer g c = λ settled.
    let b = begun_answered g.B.Block.may_hold g.B.Block.contents g.B.Block.layers g.B.Block.size g.B.Block.fault_count g.B.Block.done_count (origin_write c.args.piece c.args.bytes.now) c.args.volume.now.volume c.write_lent.new.self.volume _ c.in-Ok.reply c.in-Ok.ensures.does in
    let loud = loud_in_all g.B.Block.contents g.B.Block.layers g.B.Block.size c.args.volume.now.volume settled in
    let quiet = c.is_quiet.ensures.value ∙ c.requires.between.quiet in
    served_did g.B.Block.contents g.B.Block.layers g.B.Block.size (origin_write c.args.piece c.args.bytes.now) b.number (Refused b.failure) c.in-Ok.reply c.args.volume.now.volume b.mid c.write_lent.new.self.volume c.requires.can
    (c.is_quiet.ensures.between quiet loud) (c.is_quiet.ensures.under quiet loud) b.exact (b.run.reaches (b.loud ∙ loud))
    (c.is_quiet-in-Ok.ensures.calm (c.is_quiet-in-Ok.ensures.value ∙ c.in-Ok.ensures.does.quiet) (Some c.in-Ok.reply))

pub returns-in-Ok-clause-answered : goal.returns-in-Ok-clause-answered
returns-in-Ok-clause-answered g c =
    let b = begun_answered g.B.Block.may_hold g.B.Block.contents g.B.Block.layers g.B.Block.size g.B.Block.fault_count g.B.Block.done_count (origin_write c.args.piece c.args.bytes.now) c.args.volume.now.volume c.write_lent.new.self.volume _ c.in-Ok.reply c.in-Ok.ensures.does in
    answered g.B.Block.may_hold g.B.Block.contents g.B.Block.layers g.B.Block.fault_count g.B.Block.size (origin_write c.args.piece c.args.bytes.now) b.failure c.args.volume.now.volume b.mid (quiet_flights c.args.volume.now.volume c.requires.between.quiet) b.number c.in-Ok.reply c.write_lent.new.self.volume b.entered b.exact b.did b.led b.still

pub returns-in-Err-clause-kept : goal.returns-in-Err-clause-kept
returns-in-Err-clause-kept g c = same_devices g.B.Block.layers g.B.Block.size c.args.volume.now.volume c.write_lent.new.self.volume c.in-Err.ensures.same

pub returns-in-Err-clause-between : goal.returns-in-Err-clause-between
returns-in-Err-clause-between g c =
    between_after g.B.Block.contents g.B.Block.layers g.B.Block.size c.args.volume.now.volume c.write_lent.new.self.volume c.requires.between (ap (λ (v : Volumed g.row.B.Denot). is_quiet_of v) c.in-Err.ensures.same ∙ c.requires.between.quiet) (returns-in-Err-clause-kept g c)

pub returns-in-Err-clause-settled : goal.returns-in-Err-clause-settled
returns-in-Err-clause-settled g c =
    settles_again g.B.Block.contents g.B.Block.layers g.B.Block.size c.args.volume.now.volume c.write_lent.new.self.volume (ap (λ (v : Volumed g.row.B.Denot). is_quiet_of v) c.in-Err.ensures.same ∙ c.requires.between.quiet) (returns-in-Err-clause-kept g c)

pub returns-in-Err-clause-starved : goal.returns-in-Err-clause-starved
returns-in-Err-clause-starved g c =
    (lent_starved g.B.Block.contents g.B.Block.layers g.B.Block.size c.args.volume.now.volume c.write_lent.new.self.volume c.requires.bare c.args.piece c.args.bytes.now c.in-Err.refusal c.requires.can c.in-Err.ensures.refused, ap (λ (v : Volumed g.row.B.Denot). merged_of g.B.Block.contents g.B.Block.layers (rested_of v)) c.in-Err.ensures.same)

pub returns-in-Err-clause-piece : goal.returns-in-Err-clause-piece
returns-in-Err-clause-piece g c = ap (λ (v : Volumed g.row.B.Denot). piece_with v.merge v.snaps) c.in-Err.ensures.same

pub returns-in-Err-clause-requests : goal.returns-in-Err-clause-requests
returns-in-Err-clause-requests g c = (let same = ap (λ (v : Volumed g.row.B.Denot). v.requests) c.in-Err.ensures.same in omega (arith, same))

pub returns-in-Err-clause-untaken : goal.returns-in-Err-clause-untaken
returns-in-Err-clause-untaken g c = c.in-Err.ensures.refused

pub returns-in-Err-clause-full : goal.returns-in-Err-clause-full
returns-in-Err-clause-full g c = still_full c.in-Err.refusal c.args.volume.now.taken c.write_lent.new.self.taken c.in-Err.ensures.places.full c.in-Err.ensures.places.taken
