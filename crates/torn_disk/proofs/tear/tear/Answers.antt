use Rattle.std.proofs.Common.{◌≡◌, ◌+◌, ◌*◌, ◌≤◌, ◌<◌, length, true, false, sym, subst, ◌∙◌, arith}
use Rattle.sector.specs.Bytes.{sector_at}
use Rattle.device.specs.Disk.{disk_contents}
use Rattle.device.specs.Laws.{disk_whole}
use Rattle.torn_disk.specs.Torn.{IsTornBy, is_new}
use Rattle.torn_disk.proofs.Torn.{torn_old, torn_new, one_sector}
use Rattle.torn_disk.proofs.tear.tear.Goals.{then-reaches, else-reaches}
use Rattle.torn_disk.proofs.tear.tear.Goals as goal

pub loop-i-preserved : goal.loop-i-preserved
loop-i-preserved c =
    let lt : c.loop-i.i < c.args.range.count = omega arith in
    let whole : length (sector_at c.args.bytes.now c.loop-i.i) ≡ 512 = one_sector c.args.bytes.now c.args.range.count c.loop-i.i c.requires.room lt in
    let fits : 512 * (c.args.range.first + c.loop-i.i) + length (sector_at c.args.bytes.now c.loop-i.i) ≤ length (disk_contents c.loop-i.disk) = omega (arith, disk_whole c.loop-i.disk, c.loop-i.invariant.size, c.requires.inside) in
    elim c.if-reaches.branch [
      | then-reaches w ↦
          (let is : is_new c.args.new.now c.loop-i.i ≡ true = sym c.reaches.ensures ∙ w.if-reaches.true in
          rw w.disk-is (record {
            torn = subst (IsTornBy c.args.new.now c.args.range.first (c.loop-i.i + 1) c.args.bytes.now (disk_contents c.args.disk.now)) (sym w.write_one.ensures.contents) (torn_new _ _ _ _ _ _ is fits whole c.loop-i.invariant.torn);
            durable = w.write_one.ensures.durable ∙ c.loop-i.invariant.durable;
            size = w.write_one.ensures.size ∙ c.loop-i.invariant.size;
          }))
      | else-reaches w ↦
          (let is : is_new c.args.new.now c.loop-i.i ≡ false = sym c.reaches.ensures ∙ w.if-reaches.false in
          rw w.disk-is (record {
            torn = torn_old _ _ _ _ _ _ is c.loop-i.invariant.torn;
            durable = c.loop-i.invariant.durable;
            size = c.loop-i.invariant.size;
          }))
    ]
