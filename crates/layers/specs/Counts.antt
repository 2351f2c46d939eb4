-- What each device of a stack counts. That a layer counts an operation and then passes it down at most once is this project's
-- own rule.
use Rattle.std.specs.Prelude.{ℕ, Bool, List, [], ◌∷◌, if◌then◌else◌}
use Rattle.sector.specs.Bytes.{next_count}
use Rattle.device.specs.declared.operation.Operation.{Operation}
use Rattle.device.specs.Disk.{disk_done}
use Rattle.device.specs.Layers.{fate, layer_fate, passed_on, is_answered, is_passed}
use Rattle.layers.specs.declared.stack.Stack.{Stack, Disk, Flakey', Dust', Error}
use Rattle.layers.specs.Layer.{flakey_layer, dust_layer}
use Rattle.layers.specs.Stack.{stack_layers}

-- the operations and the faults of each device, from the top
abbrev pub counts_of : Stack → List (ℕ × ℕ)
counts_of (Disk d) = (disk_done d, 0) ∷ []
counts_of (Flakey' f p below) = (f.done, f.faults) ∷ counts_of below
counts_of (Dust' d p below) = (d.done, d.faults) ∷ counts_of below
counts_of (Error e) = (e.done, e.faults) ∷ []

-- one operation more, and one fault more where it was not answered
abbrev pub counted : Bool → ℕ → ℕ → ℕ × ℕ
counted answered done faults = (next_count done, if answered then faults else next_count faults)

-- The counts after an operation: each device that it comes to counts it once, and a layer passes it down where that is its
-- fate, else those below count nothing.
abbrev pub counts_after : Stack → Operation → List (ℕ × ℕ)
counts_after (Disk d) op = (next_count (disk_done d), 0) ∷ []
counts_after (Flakey' f p below) op =
    counted (is_answered (fate (stack_layers (Flakey' f p below)) op)) f.done f.faults
    ∷ (if is_passed (layer_fate (flakey_layer f) op) then counts_after below (passed_on (flakey_layer f) op) else counts_of below)
counts_after (Dust' d p below) op =
    counted (is_answered (fate (stack_layers (Dust' d p below)) op)) d.done d.faults
    ∷ (if is_passed (layer_fate (dust_layer d) op) then counts_after below op else counts_of below)
counts_after (Error e) op = counted (is_answered (fate (stack_layers (Error e)) op)) e.done e.faults ∷ []
