-- What seats leave of each audit.
use Rattle.std.proofs.Common.{arith}
use Rattle.parallel_lines.specs.Taking.{IsLeft}
use Rattle.parallel_lines.proofs.Slots.{none_ran, zip_at}
use Rattle.parallel_lines.proofs.Spares.{none_added}
use Rattle.parallel_lines.proofs.running.run.Goals as goal

pub returns-then-len-many-clause-left : goal.returns-then-len-many-clause-left
returns-then-len-many-clause-left g c = none_ran c.args.audits.items c.requires.none

pub returns-in-Ok-clause-many : goal.returns-in-Ok-clause-many
returns-in-Ok-clause-many g c ran = omega (arith, c.if-len-many.false, c.len.ensures, c.in-Ok.ensures.ok.many)

pub returns-in-Ok-clause-left : goal.returns-in-Ok-clause-left
returns-in-Ok-clause-left g c =
    let left = c.in-Ok.ensures.ok in
    zip_at IsLeft c.args.audits.items c.in-Ok.audits.items left.many
    (λ k d low. let grown = left.grows k d low in record { held = left.quiet k d low; stays = left.stays k d low; more = grown.0; grows = grown.1 })

pub returns-in-Ok-clause-told : goal.returns-in-Ok-clause-told
returns-in-Ok-clause-told g c ran i low = c.in-Ok.ensures.told i low (omega (arith, low, c.requires.eight))

pub returns-in-Err-clause-left : goal.returns-in-Err-clause-left
returns-in-Err-clause-left g c =
    let left = c.in-Err.ensures.err.1 in
    zip_at IsLeft c.args.audits.items c.in-Err.audits.items left.many
    (λ k d low. let grown = left.grows k d low in record { held = left.quiet k d low; stays = left.stays k d low; more = grown.0; grows = grown.1 })

pub returns-then-len-many-clause-spared : goal.returns-then-len-many-clause-spared
returns-then-len-many-clause-spared g c missed = none_added c.args.audits.items

pub returns-in-Err-clause-spared : goal.returns-in-Err-clause-spared
returns-in-Err-clause-spared g c missed = c.in-Err.ensures.spared.entries

pub returns-in-Ok-clause-asked : goal.returns-in-Ok-clause-asked
returns-in-Ok-clause-asked g c ran = c.in-Ok.ensures.asked
