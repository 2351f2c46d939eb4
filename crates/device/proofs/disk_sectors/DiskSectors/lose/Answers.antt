use Rattle.std.proofs.Common.{◌∙◌, ap, arith, rules}
use Rattle.sector.specs.Bytes.{sector_at}
use Rattle.sector.proofs.Sectors.{written_back}
use Rattle.device.specs.Marks.{flushed_at}
use Rattle.device.specs.Listed.{listed}
use Rattle.device.proofs.Aside.{there_of}
use Rattle.device.proofs.Flushed.{all_settled, long_back, lose_fresh, lose_back}
use Rattle.device.proofs.disk_sectors.DiskSectors.lose.Goals as goal

pub invariant_of-self-clause-whole : goal.invariant_of-self-clause-whole
invariant_of-self-clause-whole c = long_back _ _ c.take_back.new.now c.args.self.now.present.items (search rules) (search rules)

pub invariant_of-self-clause-fresh : goal.invariant_of-self-clause-fresh
invariant_of-self-clause-fresh c = lose_fresh c.args.self.now.present.items _ (listed c.args.self.now.undo.kept.items) c.args.self.now.undo.aside.items c.args.self.now.undo.marks.items c.take_back.new.self.marks.items
    (λ t. ap (λ b. sector_at b t) (written_back _ c.take_back.new.now c.args.self.now.present.items (search rules)) ∙ c.take_back.ensures.back t ∙ ap (λ b. flushed_at b (listed c.args.self.now.undo.kept.items) c.args.self.now.undo.aside.items c.args.self.now.undo.marks.items t) c.deref_mut.ensures.value)
    c.take_back.ensures.fresh
    c.args.self.now.fresh

pub returns-clause-now : goal.returns-clause-now
returns-clause-now c = lose_back c.args.self.now.present.items _ (listed c.args.self.now.undo.kept.items) c.args.self.now.undo.aside.items c.args.self.now.undo.marks.items
    (omega (arith, c.args.self.now.whole, c.args.self.now.marked))
    (long_back _ _ c.take_back.new.now c.args.self.now.present.items (search rules) (omega (arith, c.args.self.now.whole, c.args.self.now.marked)))
    (there_of c.args.self.now.undo.marks.items (listed c.args.self.now.undo.kept.items) c.args.self.now.undo.aside.items c.args.self.now.undo.whole c.args.self.now.undo.are_kept)
    (λ t. ap (λ b. sector_at b t) (written_back _ c.take_back.new.now c.args.self.now.present.items (search rules)) ∙ c.take_back.ensures.back t ∙ ap (λ b. flushed_at b (listed c.args.self.now.undo.kept.items) c.args.self.now.undo.aside.items c.args.self.now.undo.marks.items t) c.deref_mut.ensures.value)

pub returns-clause-flushed : goal.returns-clause-flushed
returns-clause-flushed c =
    all_settled _ (listed c.take_back.new.self.kept.items) c.take_back.new.self.aside.items c.take_back.new.self.marks.items
    (long_back _ _ c.take_back.new.now c.args.self.now.present.items (search rules) (omega (arith, c.args.self.now.whole, c.args.self.now.marked, c.take_back.ensures.len)))
    c.take_back.ensures.settled
    ∙ returns-clause-now c
