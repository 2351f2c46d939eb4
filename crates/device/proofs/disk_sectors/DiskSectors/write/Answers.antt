use Rattle.std.proofs.Common.{◌≡◌, ◌∙◌, List, ℕ, ap, subst, arith, rules}
use Rattle.sector.specs.Bytes.{sector_at, with_sectors}
use Rattle.sector.proofs.Sectors.{written_back}
use Rattle.device.specs.Marks.{flushed_at}
use Rattle.device.specs.Listed.{listed}
use Rattle.device.proofs.Flushed.{fresh_zero, long_back, write_flushed, write_fresh}
use Rattle.device.proofs.disk_sectors.DiskSectors.write.Goals as goal

pub keep-requires-clause-fresh : goal.keep-requires-clause-fresh
keep-requires-clause-fresh c t at = ap (λ b. sector_at b t) c.deref.ensures.value ∙ fresh_zero c.args.self.now.present.items c.args.self.now.undo.marks.items (omega (arith, c.args.self.now.whole, c.args.self.now.marked)) c.args.self.now.fresh t at

pub invariant_of-self-clause-whole : goal.invariant_of-self-clause-whole
invariant_of-self-clause-whole c = long_back _ _ c.write_sectors.new.all c.args.self.now.present.items (search rules) (search rules)

pub invariant_of-self-clause-fresh : goal.invariant_of-self-clause-fresh
invariant_of-self-clause-fresh c = write_fresh c.args.self.now.present.items _ c.args.bytes.now c.args.range.first c.args.range.count c.args.self.now.undo.marks.items c.keep.new.self.marks.items
    (written_back _ _ _ (search rules) ∙ c.write_sectors.ensures.all ∙ ap (λ x. with_sectors x c.args.range.first c.args.bytes.now) c.deref_mut.ensures.value)
    c.requires.room
    (omega (arith, c.requires.inside, c.args.self.now.whole))
    c.keep.ensures.kept
    c.keep.ensures.others
    c.args.self.now.fresh

pub returns-clause-flushed : goal.returns-clause-flushed
returns-clause-flushed c = write_flushed c.args.self.now.present.items _ c.args.bytes.now (listed c.args.self.now.undo.kept.items) c.args.self.now.undo.aside.items (listed c.keep.new.self.kept.items) c.keep.new.self.aside.items c.args.range.first c.args.range.count c.args.self.now.undo.marks.items c.keep.new.self.marks.items
    c.keep.ensures.len
    (written_back _ _ _ (search rules) ∙ c.write_sectors.ensures.all ∙ ap (λ x. with_sectors x c.args.range.first c.args.bytes.now) c.deref_mut.ensures.value)
    c.requires.room
    (omega (arith, c.requires.inside, c.args.self.now.whole))
    c.keep.ensures.kept
    (λ t. subst (λ (b : List ℕ). flushed_at b (listed c.keep.new.self.kept.items) c.keep.new.self.aside.items c.keep.new.self.marks.items t ≡ flushed_at b (listed c.args.self.now.undo.kept.items) c.args.self.now.undo.aside.items c.args.self.now.undo.marks.items t) c.deref.ensures.value (c.keep.ensures.flushed t))
