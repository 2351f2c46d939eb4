-- A volume by whole commands, and how many places of its journal are taken. This project's own.
use Rattle.std.specs.Prelude.{ℕ}
use Rattle.counted_volume.specs.Places.{Counted}
use Rattle.volume_commands.specs.Rested.{Rested}

pub record Recorded (B : Type 0) : Type 0 where
  pub rested : Rested B
  pub taken : ℕ

-- the same of its volume of events
abbrev pub counted_in : {B : Type 0} → Recorded B → Counted B
counted_in r = record { volume = r.rested.events; taken = r.taken }
