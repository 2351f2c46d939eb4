use Rattle.std.proofs.Common.{◌≡◌, ◌*◌, ℕ, length, replicate, arith, ap, ◌∙◌, rules}
use Rattle.std.proofs.lemmas.List.{length-replicate}
use Rattle.device.specs.declared.mark.Mark.TheVariants.{Fresh}
use Rattle.device.specs.Marks.{mark_at, is_settled}
use Rattle.device.proofs.Marked.{fresh_settled}
use Rattle.device.specs.Listed.{listed}
use Rattle.device.proofs.Flushed.{all_settled}
use Rattle.device.proofs.disk_sectors.DiskSectors.new.Goals as goal

pub returns-clause-flushed : goal.returns-clause-flushed
returns-clause-flushed c =
    let zero : c.in-Ok.present.items ≡ replicate (512 * c.args.count) 0 = search rules in
    let long : length c.in-Ok.present.items ≡ 512 * length c.in_ok-undo.undo.marks.items = omega (arith, ap length zero, length-replicate {A = ℕ} (512 * c.args.count) 0, ap length c.in_ok-undo.ensures.marks, length-replicate c.args.count Fresh) in
    all_settled c.in-Ok.present.items (listed c.in_ok-undo.undo.kept.items) c.in_ok-undo.undo.aside.items c.in_ok-undo.undo.marks.items long (λ t. ap (λ ms. is_settled (mark_at ms t)) c.in_ok-undo.ensures.marks ∙ fresh_settled c.args.count t)
    ∙ zero
