-- A snapshot that is found is there; the one that is being merged is none of them.
use Rattle.std.proofs.Common.{sym, ◌∙◌, ap}
use Rattle.volume_commands.specs.Rested.{rested_of, has_dev}
use Rattle.volume_commands.proofs.Others.{holds_other, is_number, merging_apart, not_number}
use Rattle.volume_commands.proofs.Seen.{dev_found, dev_missing}
use Rattle.volume_commands.proofs.serving.is_there.Goals as goal

pub returns-then-eq : goal.returns-then-eq
returns-then-eq g c =
    let is = is_number c.merging.result c.in-Snap.number (sym c.eq.ensures ∙ c.if-eq.true) in
    sym (ap (λ d. has_dev d (rested_of c.args.volume.now.volume)) c.in-Snap.is ∙ dev_missing c.in-Snap.number c.args.volume.now.volume (merging_apart c.in-Snap.number c.args.volume.now.volume c.merging.result c.merging.ensures.apart is))

pub returns-in-Ok : goal.returns-in-Ok
returns-in-Ok g c =
    let ok = holds_other _ c.in-Snap.number c.args.volume.now.volume c.merging.result c.merging.ensures.value (not_number c.merging.result c.in-Snap.number (sym c.eq.ensures ∙ c.if-eq.false)) c.in-Ok.ensures.ok in
    sym (ap (λ d. has_dev d (rested_of c.args.volume.now.volume)) c.in-Snap.is ∙ dev_found c.in-Snap.number ok.0 c.args.volume.now.volume ok.2)

pub returns-in-Err : goal.returns-in-Err
returns-in-Err g c = sym (ap (λ d. has_dev d (rested_of c.args.volume.now.volume)) c.in-Snap.is ∙ dev_missing c.in-Snap.number c.args.volume.now.volume c.in-Err.ensures.err.1.snaps)
