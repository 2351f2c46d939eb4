-- Opening a snapshot over a device that may fail, as `whole_commands` has it: the origin is flushed, then the store, and the store
-- again after each write of its load. This project's own.
use Rattle.std.specs.Prelude.{ℕ, ◌*◌, List}
use Rattle.device.specs.declared.operation.Operation.TheVariants.{Writes}
use Rattle.device.specs.Layers.{Layer}
use Rattle.cow_format.specs.Places.{area_place}
use Rattle.store.specs.declared.state.Left.{Left}
use Rattle.store.specs.declared.state.Left.TheVariants.{FirstArea, HeaderChunk, Tail, Nothing}
use Rattle.store.specs.declared.state.State.{State}
use Rattle.store.specs.Loading.{with_left}
use Rattle.whole_commands.specs.Devices.{Device}
use Rattle.whole_commands.specs.Attaching.{Tried, write_on, flush_on, flush_both, done}

abbrev pub device_of : {B : Type 0} → (B → List ℕ) → (B → List Layer) → B → Device
device_of contents layers device = record { bytes = contents device; layers = layers device }

-- the write of a load that is left next, with what follows it; the flush before it
abbrev pub write_by : Left → State → Device → (Device → Tried) → Device → Tried
write_by FirstArea s origin next device = write_on origin device (Writes (s.chunk * area_place s.chunk s.current) s.chunk) (with_left FirstArea s device.bytes) next
write_by HeaderChunk s origin next device = write_on origin device (Writes 0 s.chunk) (with_left HeaderChunk s device.bytes) next
write_by Tail s origin next device = write_on origin device (Writes (s.chunk * area_place s.chunk s.current) s.chunk) (with_left Tail s device.bytes) next
write_by Nothing s origin next device = next device

abbrev pub next_by : Left → State → Device → (Device → Tried) → Device → Tried
next_by left s origin next device = flush_on origin (write_by left s origin next) device

-- the writes of a load that are left, in their order, with a flush after each
abbrev pub last_by : Left → State → Device → Device → Tried
last_by left s origin device = write_by left s origin (flush_on origin (done s.chunk origin)) device

abbrev pub writes_by : Left → State → Device → Device → Tried
writes_by FirstArea s origin device = write_by FirstArea s origin (flush_on origin (last_by HeaderChunk s origin)) device
writes_by HeaderChunk s origin device = last_by HeaderChunk s origin device
writes_by Tail s origin device = last_by Tail s origin device
writes_by Nothing s origin device = done s.chunk origin device

-- and the flush before them, and the one of the origin before that
abbrev pub prepared_by : Left → State → Device → Device → Tried
prepared_by left s origin device = flush_on origin (writes_by left s origin) device

abbrev pub both_by : Left → State → Device → Device → Tried
both_by left s origin device = flush_both origin device (writes_by left s)
