use Rattle.std.proofs.Common.{◌+◌, arith}
use Rattle.device_stacks.proofs.DiskBelow.{bare_fits}
use Rattle.device_stacks.proofs.stack.NamedStack.load.Goals as goal

pub load-requires-clause-inside : goal.load-requires-clause-inside
load-requires-clause-inside c =
    let first = c.in_ok-range.ensures.first in
    let count = c.in_ok-range.ensures.count in
    let inside = c.in_ok-range.ensures.inside in
    bare_fits c.self.inside.stack c.in-Disk.disk c.in_ok-disk_in.field-0.now c.args.depth c.deref.result.now c.sectors-size.result (c.in_ok-range.range.first + c.in_ok-range.range.count)
    c.in-Disk.is c.in_ok-disk_in.ensures c.sectors-size.ensures (omega (arith, first, count, inside))
