-- The request was served, or refused.
use Rattle.std.proofs.Common.{inl, inr, subst, List}
use Rattle.plain_machine.specs.declared.request.Replied.{Replied}
use Rattle.volume_commands.specs.Rested.{rested_of}
use Rattle.volume_commands.specs.Draining.{IsAnsweredAmong}
use Rattle.volume_commands.proofs.Seen.{devices_kept, devices_more}
use Rattle.counted_volume.proofs.Refusing.{invalid_refused, refused_requests}
use Rattle.volume_commands.proofs.Amongs.{turned_plain, turned_invalid}
use Rattle.counted_volume.proofs.Full.{still_full}
use Rattle.counted_volume.proofs.Takings.{accepted_takes, takes_then, unsent_takes}
use Rattle.volume_commands.proofs.among.serve_among.Goals as goal

pub returns-in-Ok-submitted-clause-served : goal.returns-in-Ok-submitted-clause-served
returns-in-Ok-submitted-clause-served g c = record {
  number = c.in-Ok-submitted.number;
  mid = c.submit-submitted.new.self.volume;
  accepted = c.in-Ok-submitted.ensures.does.ok;
  answered = subst (λ (rs : List Replied). IsAnsweredAmong g.B.Block.may_hold g.B.Block.contents g.B.Block.layers g.B.Block.fault_count g.B.Block.size c.in-Ok-submitted.number c.drain_for.result c.submit-submitted.new.self.volume c.drain_for.new.volume.volume rs c.drain_for.new.ended.items)
      c.reserve.ensures.items c.drain_for.ensures.answered;
  idle = c.drain_for.ensures.idle;
}

pub returns-in-Ok-submitted-clause-kept : goal.returns-in-Ok-submitted-clause-kept
returns-in-Ok-submitted-clause-kept g c =
    devices_more g.B.Block.size g.B.Block.layers (rested_of c.args.volume.now.volume) (rested_of c.submit-submitted.new.self.volume) (rested_of c.drain_for.new.volume.volume)
    (devices_kept g.B.Block.size g.B.Block.layers c.args.volume.now.volume c.submit-submitted.new.self.volume c.in-Ok-submitted.ensures.does.kept c.in-Ok-submitted.ensures.does.ok.loud) c.drain_for.ensures.kept

pub returns-in-Invalid-clause-refused : goal.returns-in-Invalid-clause-refused
returns-in-Invalid-clause-refused g c =
    inr (turned_invalid g.B.Block.may_hold g.B.Block.contents g.B.Block.layers g.B.Block.fault_count g.B.Block.size c.args.request c.in-Err.refusal c.is_live-live.result c.args.volume.now.volume c.submit-submitted.new.self.volume c.follow.new.volume.volume
    c.args.ended.now.items c.reserve.new.self.items c.follow.new.ended.items c.is_live-live.ensures c.reserve.ensures.items
    (invalid_refused g.B.Block.contents g.B.Block.layers g.B.Block.size c.args.request c.in-Err.refusal c.args.volume.now.volume c.submit-submitted.new.self.volume c.in-Err.ensures.refused c.in-Invalid.is) c.in-Invalid.is c.follow.ensures.drained c.follow.ensures.dead c.follow.ensures.idle)

pub returns-in-Invalid-clause-kept : goal.returns-in-Invalid-clause-kept
returns-in-Invalid-clause-kept g c =
    devices_more g.B.Block.size g.B.Block.layers (rested_of c.args.volume.now.volume) (rested_of c.submit-submitted.new.self.volume) (rested_of c.follow.new.volume.volume)
    (devices_kept g.B.Block.size g.B.Block.layers c.args.volume.now.volume c.submit-submitted.new.self.volume c.in-Err.ensures.does.kept c.in-Err.ensures.does.loud) c.follow.ensures.kept

pub returns-in_default-refusal : goal.returns-in_default-refusal
returns-in_default-refusal g c = record {
  served = tt;
  refused = elim c.in-Err.ensures.refused [
    | inl starved ↦ inl (starved.0, starved.1, c.reserve.ensures.items)
    | inr refused ↦ inr (turned_plain g.B.Block.may_hold g.B.Block.contents g.B.Block.layers g.B.Block.fault_count g.B.Block.size c.args.request c.in-Err.refusal c.args.volume.now.volume c.submit-submitted.new.self.volume c.args.ended.now.items c.reserve.new.self.items
        c.in_default-refusal.not-Invalid refused c.reserve.ensures.items)
  ];
  kept = devices_kept g.B.Block.size g.B.Block.layers c.args.volume.now.volume c.submit-submitted.new.self.volume c.in-Err.ensures.does.kept c.in-Err.ensures.does.loud;
  requests = refused_requests g.B.Block.contents g.B.Block.layers g.B.Block.size c.args.request c.in-Err.refusal c.args.volume.now.volume c.submit-submitted.new.self.volume c.in-Err.ensures.refused;
  taken = unsent_takes c.args.volume.now c.submit-submitted.new.self g.B.Block.contents g.B.Block.layers g.B.Block.size c.args.request c.in-Err.refusal c.in-Err.ensures.refused c.in-Err.ensures.places.taken;
  full = still_full c.in-Err.refusal c.args.volume.now.taken c.submit-submitted.new.self.taken c.in-Err.ensures.places.full c.in-Err.ensures.places.taken;
}

pub returns-in-Ok-submitted-clause-taken : goal.returns-in-Ok-submitted-clause-taken
returns-in-Ok-submitted-clause-taken g c =
    takes_then _ _ _ (accepted_takes c.args.volume.now c.submit-submitted.new.self g.B.Block.contents g.B.Block.layers c.args.request c.in-Ok-submitted.number c.in-Ok-submitted.ensures.does.ok c.in-Ok-submitted.ensures.places) c.drain_for.ensures.taken

pub returns-in-Invalid-clause-taken : goal.returns-in-Invalid-clause-taken
returns-in-Invalid-clause-taken g c =
    takes_then _ _ _ (unsent_takes c.args.volume.now c.submit-submitted.new.self g.B.Block.contents g.B.Block.layers g.B.Block.size c.args.request c.in-Err.refusal c.in-Err.ensures.refused c.in-Err.ensures.places.taken) c.follow.ensures.taken
