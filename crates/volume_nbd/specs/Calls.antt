-- What a call of the trait makes of a volume that is served. This project's own.
use Rattle.std.specs.Prelude.{◌≡◌, ◌==◌, ◌&&◌, ℕ, Bool, true, false, List, length, nat_lt, slice_get, Some, None}
use Rattle.device.specs.Layers.{Layer}
use Rattle.nbd_backend.specs.Calls.{Call, Choose, Submit, Step}
use Rattle.nbd_backend.specs.declared.array.Stepped.TheVariants.{Still, Ended}
use Rattle.volume.specs.Volumed.{next_of}
use Rattle.volume_nbd.specs.Faults.{is_stopped}
use Rattle.volume_nbd.specs.Served.{Served}
use Rattle.volume_nbd.specs.Steps.{DoesServedStep}
use Rattle.volume_nbd.specs.Submits.{DoesTakeIn}

-- An export is chosen where there is one and nothing of another is in flight. A piece is asked of the volume for the chosen device. A step
-- is one event of the volume, or none: it is still where none is left, and ended where a file failed, a store could not be marked or memory
-- was refused. Once the origin's file failed, or a store could not be marked, nothing more is done.
abbrev pub does_by : {B : Type 0} → (B → ℕ → List ℕ → Type 0) → (B → List ℕ) → (B → List Layer) → (B → ℕ) → (B → ℕ) → (B → ℕ) → (B → Bool) → (B → Bool) → Call → Served B → Served B → Type 0
does_by holds contents layers size faults done failed unanswered (Choose place told) old new =
    (told ≡ (nat_lt place (length old.exports) && (length old.volume.flights == 0)))
    × (told ≡ true → Some new.chosen ≡ slice_get old.exports place)
    × (told ≡ false → new ≡ old)
    × (new ≡ record old { chosen = new.chosen })
does_by holds contents layers size faults done failed unanswered (Submit work part told) old new =
    DoesTakeIn holds contents layers size old.chosen work part told old.volume new.volume × (new ≡ record old { volume = new.volume })
does_by holds contents layers size faults done failed unanswered (Step told) old new =
    DoesServedStep holds contents layers size faults done failed unanswered old.chosen told old.volume new.volume
    × (told ≡ Still → next_of contents layers old.volume ≡ None)
    × (told ≡ Ended → is_stopped failed old.volume ≡ false → new.starved ≡ true)
    × (is_stopped failed old.volume ≡ true → (told ≡ Ended) × (new ≡ old))
    × (new ≡ record old { volume = new.volume; starved = new.starved })
