use Rattle.std.proofs.Common.{◌≡◌}
use Rattle.device.specs.Layers.{is_loud}
use Rattle.crash_laws.specs.Firm.{AddsNow}
use Rattle.store.specs.Loaded.{IsPrefix}
use Rattle.store.specs.Reading.{read_areas, all_read}
use Rattle.store.proofs.loading.read_areas.Given as goal

abbrev pub invariant-loop-current : goal.invariant-loop-current
invariant-loop-current g l = record {
  contents : g.B.Block.contents l.device ≡ g.B.Block.contents l.fn.device;
  durable : g.B.Block.durable l.device ≡ g.B.Block.durable l.fn.device;
  adds : AddsNow (g.B.Block.may_hold l.fn.device) (g.B.Block.may_hold l.device) (g.B.Block.contents l.device);
  size : g.B.Block.size l.device ≡ g.B.Block.size l.fn.device;
  loud : is_loud (g.B.Block.layers l.device) ≡ is_loud (g.B.Block.layers l.fn.device);
  faults : g.B.Block.fault_count l.device ≡ g.B.Block.fault_count l.fn.device;
  layers : read_areas l.fn.area.chunk (g.B.Block.size l.fn.device) 0 l.current (g.B.Block.layers l.fn.device) ≡ all_read (g.B.Block.layers l.device);
  chunk : l.area.chunk ≡ l.fn.area.chunk;
  prefix : IsPrefix l.fn.area.chunk (g.B.Block.contents l.fn.device) l.current l.pairs.items;
}
