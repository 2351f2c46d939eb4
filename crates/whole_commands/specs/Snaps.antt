-- To be believed: `run`'s output, a volume's steps or its attach are said in these words.
-- A snapshot between two commands: all that it is stands in its store's bytes, but whether it is still live, and whether its
-- store overflowed.
use Rattle.std.specs.Prelude.{ℕ, Bool, List, if◌then◌else◌}
use Rattle.cow_format.specs.Picture.{picture}
use Rattle.plain_machine.specs.declared.request.Overflowing.{Overflowing}
use Rattle.plain_machine.specs.Plain.{Saved, Live, Invalid}
use Rattle.whole_commands.specs.Devices.{Device}

-- Its number, the sectors of its chunks, whether it is live, what a write of it does that finds its store full, whether its
-- store is stale (it was spoiled, and the store could not be marked), and its store: a device of any kind.
pub record SnapOn (D : Type 0) : Type 0 where
  pub number : ℕ
  pub chunk : ℕ
  pub live : Bool
  pub overflow : Overflowing
  pub stale : Bool
  pub store : D

-- over a device's own bytes and layers
abbrev pub Snap : Type 0
Snap = SnapOn Device

-- what it shows over an origin disk with these bytes: while it is live, the picture of the devices' own bytes
abbrev pub shown : List ℕ → Snap → Saved
shown origin s = if s.live then Live (picture s.chunk origin s.store.bytes) else Invalid

-- a volume: the origin's device, and the snapshots in order of attaching
pub record Volume : Type 0 where
  pub origin : Device
  pub snaps : List Snap
