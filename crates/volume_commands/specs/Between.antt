-- What holds of a volume of events between two commands.
use Rattle.std.specs.Prelude.{◌≡◌, ◌≤◌, true, length}
use Rattle.volume.specs.Volumed.{Volumed}
use Rattle.volume.specs.Leaving.{is_quiet_of}

-- Nothing is in flight or left to do, but for a merge between two of its groups.
pub record IsBetween {B : Type 0} (v : Volumed B) : Type 0 where
  pub quiet : is_quiet_of v ≡ true
  pub few : length v.snaps ≤ 8
