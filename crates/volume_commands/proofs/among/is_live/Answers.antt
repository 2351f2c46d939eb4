-- What is told of a live snapshot's use; the one that is being merged takes no request.
use Rattle.std.proofs.Common.{sym, ◌∙◌, ap}
use Rattle.volume_commands.specs.Rested.{rested_of}
use Rattle.volume_commands.specs.Among.{is_live_dev}
use Rattle.volume_commands.proofs.Amongs.{found_live, found_dead, missing_dead}
use Rattle.volume_commands.proofs.Others.{holds_other, is_number, merging_apart, not_number}
use Rattle.volume_commands.proofs.among.is_live.Goals as goal

pub returns-then-eq : goal.returns-then-eq
returns-then-eq g c =
    let is = is_number c.merging.result c.in-Snap.number (sym c.eq.ensures ∙ c.if-eq.true) in
    sym (ap (λ d. is_live_dev d (rested_of c.args.volume.now.volume)) c.in-Snap.is ∙ missing_dead c.in-Snap.number c.args.volume.now.volume (merging_apart c.in-Snap.number c.args.volume.now.volume c.merging.result c.merging.ensures.apart is))

pub returns-in-Ok-Some : goal.returns-in-Ok-Some
returns-in-Ok-Some g c =
    let ok = holds_other _ c.in-Snap.number c.args.volume.now.volume c.merging.result c.merging.ensures.value (not_number c.merging.result c.in-Snap.number (sym c.eq.ensures ∙ c.if-eq.false)) c.in-Ok-Some.ensures.ok in
    sym (ap (λ d. is_live_dev d (rested_of c.args.volume.now.volume)) c.in-Snap.is ∙ found_live c.in-Snap.number ok.0 ok.1 c.args.volume.now.volume c.in-Ok-Some.field-0 ok.2 ok.3 c.in-Ok-Some.field-0-0 c.in-Ok-Some.field-0-is)

pub returns-in-Ok-None : goal.returns-in-Ok-None
returns-in-Ok-None g c =
    let ok = holds_other _ c.in-Snap.number c.args.volume.now.volume c.merging.result c.merging.ensures.value (not_number c.merging.result c.in-Snap.number (sym c.eq.ensures ∙ c.if-eq.false)) c.in-Ok-None.ensures.ok in
    sym (ap (λ d. is_live_dev d (rested_of c.args.volume.now.volume)) c.in-Snap.is ∙ found_dead c.in-Snap.number ok.0 ok.1 c.args.volume.now.volume c.in-Ok-None.field-0 ok.2 ok.3 c.in-Ok-None.field-0-is)

pub returns-in-Err : goal.returns-in-Err
returns-in-Err g c = sym (ap (λ d. is_live_dev d (rested_of c.args.volume.now.volume)) c.in-Snap.is ∙ missing_dead c.in-Snap.number c.args.volume.now.volume c.in-Err.ensures.err.1.snaps)
