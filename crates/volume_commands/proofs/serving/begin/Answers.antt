-- Accepted, answered at once, or starved.
use Rattle.std.proofs.Common.{◌∙◌, Some, None, ap, arith, inl, inr, refl, subst}
use Rattle.sector.specs.declared.refusal.Refusal.{Refusal}
use Rattle.plain_machine.specs.declared.request.Reply.TheVariants.{Refused}
use Rattle.plain_machine.specs.declared.request.Failure.TheVariants.{Invalid, Overflow}
use Rattle.whole_commands.specs.Refusals.{is_starved}
use Rattle.volume.specs.Leaving.{has_group_in}
use Rattle.volume.specs.Submitting.{IsRefusedAs}
use Rattle.volume.proofs.Quieted.{quiet_free}
use Rattle.volume_commands.proofs.Starving.{apart_by, starved_only}
use Rattle.counted_volume.proofs.Refusing.{plain_refused, refused_requests}
use Rattle.counted_volume.proofs.Full.{still_full}
use Rattle.volume_commands.proofs.AtOnce.{answered_is, begun_answered, begun_waits, flying_is}
use Rattle.counted_volume.proofs.Settled.{keeps_more}
use Rattle.volume_commands.proofs.serving.begin.Goals as goal

pub returns-in-Ok-Answered-clause-begun : goal.returns-in-Ok-Answered-clause-begun
returns-in-Ok-Answered-clause-begun g c =
    let does = answered_is g.B.Block.may_hold g.B.Block.contents g.B.Block.layers g.B.Block.size g.B.Block.fault_count g.B.Block.done_count c.args.request c.args.volume.now.volume c.serve.new.self.volume _ c.in-Ok-Answered.reply c.in-Ok-Answered.field-0 c.in-Ok-Answered.field-0-is c.in-Ok-Answered.ensures.does in
    begun_answered g.B.Block.may_hold g.B.Block.contents g.B.Block.layers g.B.Block.size g.B.Block.fault_count g.B.Block.done_count c.args.request c.args.volume.now.volume c.serve.new.self.volume _ c.in-Ok-Answered.reply does

pub returns-in-Ok-Answered-clause-free : goal.returns-in-Ok-Answered-clause-free
returns-in-Ok-Answered-clause-free g c =
    let does = answered_is g.B.Block.may_hold g.B.Block.contents g.B.Block.layers g.B.Block.size g.B.Block.fault_count g.B.Block.done_count c.args.request c.args.volume.now.volume c.serve.new.self.volume _ c.in-Ok-Answered.reply c.in-Ok-Answered.field-0 c.in-Ok-Answered.field-0-is c.in-Ok-Answered.ensures.does in
    quiet_free c.serve.new.self.volume does.quiet

pub returns-in-Ok-Answered-clause-loud : goal.returns-in-Ok-Answered-clause-loud
returns-in-Ok-Answered-clause-loud g c =
    let does = answered_is g.B.Block.may_hold g.B.Block.contents g.B.Block.layers g.B.Block.size g.B.Block.fault_count g.B.Block.done_count c.args.request c.args.volume.now.volume c.serve.new.self.volume _ c.in-Ok-Answered.reply c.in-Ok-Answered.field-0 c.in-Ok-Answered.field-0-is c.in-Ok-Answered.ensures.does in
    does.steps.loud ∙ does.submits.loud

pub returns-in-Ok-Answered-clause-kept : goal.returns-in-Ok-Answered-clause-kept
returns-in-Ok-Answered-clause-kept g c =
    let does = answered_is g.B.Block.may_hold g.B.Block.contents g.B.Block.layers g.B.Block.size g.B.Block.fault_count g.B.Block.done_count c.args.request c.args.volume.now.volume c.serve.new.self.volume _ c.in-Ok-Answered.reply c.in-Ok-Answered.field-0 c.in-Ok-Answered.field-0-is c.in-Ok-Answered.ensures.does in
    keeps_more g.B.Block.size c.args.volume.now.volume does.mid c.serve.new.self.volume does.submits.kept does.steps.kept

pub returns-in-Ok-Answered-clause-requests : goal.returns-in-Ok-Answered-clause-requests
returns-in-Ok-Answered-clause-requests g c =
    let does = answered_is g.B.Block.may_hold g.B.Block.contents g.B.Block.layers g.B.Block.size g.B.Block.fault_count g.B.Block.done_count c.args.request c.args.volume.now.volume c.serve.new.self.volume _ c.in-Ok-Answered.reply c.in-Ok-Answered.field-0 c.in-Ok-Answered.field-0-is c.in-Ok-Answered.ensures.does in
    let a = does.submits.ok in
    let same = does.steps.counts.0 in
    omega (arith, a.given, a.next, same)

pub returns-in-Ok-InFlight-clause-begun : goal.returns-in-Ok-InFlight-clause-begun
returns-in-Ok-InFlight-clause-begun g c =
    let does = flying_is g.B.Block.may_hold g.B.Block.contents g.B.Block.layers g.B.Block.size g.B.Block.fault_count g.B.Block.done_count c.args.request c.args.volume.now.volume c.serve.new.self.volume _ c.in-Ok-InFlight.field-0 c.in-Ok-InFlight.field-0-is c.in-Ok-InFlight.ensures.does in
    begun_waits g.B.Block.may_hold g.B.Block.contents g.B.Block.layers g.B.Block.size g.B.Block.fault_count g.B.Block.done_count c.args.request c.args.volume.now.volume c.serve.new.self.volume Invalid _ (inl (_, refl, does.ok)) (does.exact (Some (Refused Invalid))) does.loud

pub returns-in-Ok-InFlight-clause-free : goal.returns-in-Ok-InFlight-clause-free
returns-in-Ok-InFlight-clause-free g c =
    let does = flying_is g.B.Block.may_hold g.B.Block.contents g.B.Block.layers g.B.Block.size g.B.Block.fault_count g.B.Block.done_count c.args.request c.args.volume.now.volume c.serve.new.self.volume _ c.in-Ok-InFlight.field-0 c.in-Ok-InFlight.field-0-is c.in-Ok-InFlight.ensures.does in
    ap has_group_in does.untouched.merge ∙ quiet_free c.args.volume.now.volume c.requires.quiet

pub returns-in-Ok-InFlight-clause-loud : goal.returns-in-Ok-InFlight-clause-loud
returns-in-Ok-InFlight-clause-loud g c =
    let does = flying_is g.B.Block.may_hold g.B.Block.contents g.B.Block.layers g.B.Block.size g.B.Block.fault_count g.B.Block.done_count c.args.request c.args.volume.now.volume c.serve.new.self.volume _ c.in-Ok-InFlight.field-0 c.in-Ok-InFlight.field-0-is c.in-Ok-InFlight.ensures.does in
    does.loud

pub returns-in-Ok-InFlight-clause-kept : goal.returns-in-Ok-InFlight-clause-kept
returns-in-Ok-InFlight-clause-kept g c =
    let does = flying_is g.B.Block.may_hold g.B.Block.contents g.B.Block.layers g.B.Block.size g.B.Block.fault_count g.B.Block.done_count c.args.request c.args.volume.now.volume c.serve.new.self.volume _ c.in-Ok-InFlight.field-0 c.in-Ok-InFlight.field-0-is c.in-Ok-InFlight.ensures.does in
    does.kept

pub returns-in-Ok-InFlight-clause-requests : goal.returns-in-Ok-InFlight-clause-requests
returns-in-Ok-InFlight-clause-requests g c =
    let does = flying_is g.B.Block.may_hold g.B.Block.contents g.B.Block.layers g.B.Block.size g.B.Block.fault_count g.B.Block.done_count c.args.request c.args.volume.now.volume c.serve.new.self.volume _ c.in-Ok-InFlight.field-0 c.in-Ok-InFlight.field-0-is c.in-Ok-InFlight.ensures.does in
    let a = does.ok in omega (arith, a.given, a.next)

pub returns-in-Invalid-clause-begun : goal.returns-in-Invalid-clause-begun
returns-in-Invalid-clause-begun g c =
    let refused = plain_refused g.B.Block.contents g.B.Block.layers g.B.Block.size c.args.request c.in-Err.refusal c.args.volume.now.volume c.serve.new.self.volume c.in-Err.ensures.refused (ap is_starved c.in-Invalid.is) in
    begun_waits g.B.Block.may_hold g.B.Block.contents g.B.Block.layers g.B.Block.size g.B.Block.fault_count g.B.Block.done_count c.args.request c.args.volume.now.volume c.serve.new.self.volume Invalid 0
    (inr (subst (λ (r : Refusal). IsRefusedAs g.B.Block.contents g.B.Block.layers g.B.Block.size c.args.request r c.args.volume.now.volume c.serve.new.self.volume) c.in-Invalid.is refused))
    (c.in-Err.ensures.does.declined Invalid c.in-Invalid.is (λ e. cc) 0 (Some (Refused Invalid))) c.in-Err.ensures.does.loud

pub returns-in-Invalid-clause-free : goal.returns-in-Invalid-clause-free
returns-in-Invalid-clause-free g c = ap has_group_in c.in-Err.ensures.does.untouched.merge ∙ quiet_free c.args.volume.now.volume c.requires.quiet

pub returns-in-Invalid-clause-loud : goal.returns-in-Invalid-clause-loud
returns-in-Invalid-clause-loud g c = c.in-Err.ensures.does.loud

pub returns-in-Invalid-clause-kept : goal.returns-in-Invalid-clause-kept
returns-in-Invalid-clause-kept g c = c.in-Err.ensures.does.kept

pub returns-in-Invalid-clause-requests : goal.returns-in-Invalid-clause-requests
returns-in-Invalid-clause-requests g c = refused_requests g.B.Block.contents g.B.Block.layers g.B.Block.size c.args.request c.in-Err.refusal c.args.volume.now.volume c.serve.new.self.volume c.in-Err.ensures.refused

pub returns-in-Overflow-clause-begun : goal.returns-in-Overflow-clause-begun
returns-in-Overflow-clause-begun g c =
    let refused = plain_refused g.B.Block.contents g.B.Block.layers g.B.Block.size c.args.request c.in-Err.refusal c.args.volume.now.volume c.serve.new.self.volume c.in-Err.ensures.refused (ap is_starved c.in-Overflow.is) in
    begun_waits g.B.Block.may_hold g.B.Block.contents g.B.Block.layers g.B.Block.size g.B.Block.fault_count g.B.Block.done_count c.args.request c.args.volume.now.volume c.serve.new.self.volume Overflow 0
    (inr (subst (λ (r : Refusal). IsRefusedAs g.B.Block.contents g.B.Block.layers g.B.Block.size c.args.request r c.args.volume.now.volume c.serve.new.self.volume) c.in-Overflow.is refused))
    (c.in-Err.ensures.does.declined Overflow c.in-Overflow.is (λ e. cc) 0 (Some (Refused Overflow))) c.in-Err.ensures.does.loud

pub returns-in-Overflow-clause-free : goal.returns-in-Overflow-clause-free
returns-in-Overflow-clause-free g c = ap has_group_in c.in-Err.ensures.does.untouched.merge ∙ quiet_free c.args.volume.now.volume c.requires.quiet

pub returns-in-Overflow-clause-loud : goal.returns-in-Overflow-clause-loud
returns-in-Overflow-clause-loud g c = c.in-Err.ensures.does.loud

pub returns-in-Overflow-clause-kept : goal.returns-in-Overflow-clause-kept
returns-in-Overflow-clause-kept g c = c.in-Err.ensures.does.kept

pub returns-in-Overflow-clause-requests : goal.returns-in-Overflow-clause-requests
returns-in-Overflow-clause-requests g c = refused_requests g.B.Block.contents g.B.Block.layers g.B.Block.size c.args.request c.in-Err.refusal c.args.volume.now.volume c.serve.new.self.volume c.in-Err.ensures.refused

pub returns-in_default-clause-starved : goal.returns-in_default-clause-starved
returns-in_default-clause-starved g c =
    let apart = apart_by c.args.volume.now.volume c.merging.result c.merging.ensures.value c.merging.ensures.apart in
    let only = starved_only g.B.Block.contents g.B.Block.layers g.B.Block.size c.args.request c.in-Err.refusal c.args.volume.now.volume c.serve.new.self.volume c.in-Err.ensures.refused c.requires.can apart c.requires.quiet c.requires.few c.in_default.not-Invalid c.in_default.not-Overflow in
    (only.0, only.1, c.in-Err.ensures.does.starved c.in_default.not-Invalid c.in_default.not-Overflow None)

pub returns-in_default-clause-untaken : goal.returns-in_default-clause-untaken
returns-in_default-clause-untaken g c = c.in-Err.ensures.refused

pub returns-in_default-clause-free : goal.returns-in_default-clause-free
returns-in_default-clause-free g c = ap has_group_in c.in-Err.ensures.does.untouched.merge ∙ quiet_free c.args.volume.now.volume c.requires.quiet

pub returns-in_default-clause-loud : goal.returns-in_default-clause-loud
returns-in_default-clause-loud g c = c.in-Err.ensures.does.loud

pub returns-in_default-clause-kept : goal.returns-in_default-clause-kept
returns-in_default-clause-kept g c = c.in-Err.ensures.does.kept

pub returns-in_default-clause-requests : goal.returns-in_default-clause-requests
returns-in_default-clause-requests g c = refused_requests g.B.Block.contents g.B.Block.layers g.B.Block.size c.args.request c.in-Err.refusal c.args.volume.now.volume c.serve.new.self.volume c.in-Err.ensures.refused

pub returns-in_default-clause-full : goal.returns-in_default-clause-full
returns-in_default-clause-full g c = still_full c.in-Err.refusal c.args.volume.now.taken c.serve.new.self.taken c.in-Err.ensures.places.full c.in-Err.ensures.places.taken
