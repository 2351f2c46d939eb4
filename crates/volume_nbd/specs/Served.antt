-- What callers see of a volume of which one device is served. This project's own.
use Rattle.std.specs.Prelude.{◌≡◌, Bool, true, List, Option, IfNone}
use Rattle.plain_machine.specs.declared.request.Dev.{Dev}
use Rattle.volume.specs.Volumed.{Volumed}

pub record Served (B : Type 0) : Type 0 where
  pub volume : Volumed B
  -- the devices of the exports, in their order
  pub exports : List Dev
  -- the device of the export that the client uses
  pub chosen : Dev
  -- whether memory was refused for a round: nothing is done from then on
  pub starved : Bool

-- the volume alone changes
abbrev pub ChangesVolume : {B : Type 0} → Served B → Served B → Type 0
ChangesVolume old new = new ≡ record old { volume = new.volume }

-- or memory is refused for a round
abbrev pub ChangesOrStarves : {B : Type 0} → Served B → Served B → Type 0
ChangesOrStarves old new = new ≡ record old { volume = new.volume; starved = new.starved }

-- memory was refused for a round
abbrev pub IsStarved : {B : Type 0} → Served B → Type 0
IsStarved s = s.starved ≡ true

-- where nothing is told of an event, none was done
abbrev pub IsIdleIfNone : {A B : Type 0} → Option A → Served B → Served B → Type 0
IsIdleIfNone told old new = IfNone told (new.volume ≡ old.volume)
