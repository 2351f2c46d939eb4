-- A volume over a disk that drops no writes is settled.
use Rattle.std.proofs.Common.{◌≡◌, true, List, [], None, refl, sym, ap, subst}
use Rattle.std.specs.Prelude.{◌&&◌}
use Rattle.device.specs.Layers.{Layer, is_loud}
use Rattle.volume.specs.Volumed.{Volumed}
use Rattle.volume_commands.specs.Rested.{IsSettled, rested_of}
use Rattle.volume_commands.proofs.resting.Resting.new.Goals as goal

-- no snapshots, no requests, and no merge
abbrev empty : {B : Type 0} → B → Volumed B
empty origin = record { origin = origin; snaps = []; merge = None; flights = []; requests = 0; copies = 0; attached = 0 }

empty_settled : {B : Type 0} (layers : B → List Layer) (origin : B) → is_loud (layers origin) ≡ true → IsSettled layers (rested_of (empty origin))
empty_settled layers origin loud = record { loud = ap (λ b. b && true) loud; quiet = refl }

pub returns-in-Ok-clause-settled : goal.returns-in-Ok-clause-settled
returns-in-Ok-clause-settled g c = λ loud.
    subst (λ (v : Volumed g.row.B.Denot). IsSettled g.B.Block.layers (rested_of v)) (sym c.in-Ok.ensures.ok) (empty_settled g.B.Block.layers c.args.origin loud)
