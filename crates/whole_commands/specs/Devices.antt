-- To be believed: `run`'s output, a volume's steps or its attach are said in these words.
-- A device as its bytes and its layers, and what an operation leaves of both. What layers do is that of the kernel's pages
-- on dm-flakey and dm-dust (`device`). All that is answered is done: no layer drops a write.
use Rattle.std.specs.Prelude.{ℕ, ◌/◌, Bool, List, length, if◌then◌else◌}
use Rattle.sector.specs.Bytes.{sectors_at}
use Rattle.device.specs.declared.operation.Operation.{Operation}
use Rattle.device.specs.declared.operation.Operation.TheVariants.{Reads, Flushes}
use Rattle.device.specs.Layers.{Layer, fate, is_answered, layers_after}
use Rattle.plain_machine.specs.declared.request.Reply.{Reply}
use Rattle.plain_machine.specs.declared.request.Reply.TheVariants.{Data, Flushed, Refused}
use Rattle.plain_machine.specs.declared.request.Failure.TheVariants.{Io}

pub record Device : Type 0 where
  pub bytes : List ℕ
  pub layers : List Layer

-- how many sectors it has
abbrev pub sectors_of : Device → ℕ
sectors_of device = length device.bytes / 512

-- whether it answers an operation, and does not fail it
abbrev pub answers : Device → Operation → Bool
answers device op = is_answered (fate device.layers op)

-- the device after an operation that changes no byte
abbrev pub met : Device → Operation → Device
met device op = record { bytes = device.bytes; layers = layers_after device.layers op }

-- the device after a write that leaves it with these bytes, where it is answered; a write that fails changes no byte
abbrev pub written_by : Device → Operation → List ℕ → Device
written_by device op bytes =
    record { bytes = if answers device op then bytes else device.bytes; layers = layers_after device.layers op }

-- the reply to a read of so many sectors from this one on
abbrev pub read_reply : Device → ℕ → ℕ → Reply
read_reply device first count = if answers device (Reads first count) then Data (sectors_at device.bytes first count) else Refused Io

-- the reply to a flush
abbrev pub flush_reply : Device → Reply
flush_reply device = if answers device Flushes then Flushed else Refused Io
