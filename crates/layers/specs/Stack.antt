-- What a stack contains, what its layers are, and what it has counted.
use Rattle.std.specs.Prelude.{◌≡◌, ℕ, ◌+◌, ◌-◌, ◌*◌, List, [], ◌∷◌, Option, Some, None, replicate, min}
use Rattle.sector.specs.Bytes.{sectors_at, sector_at}
use Rattle.device.specs.Disk.{disk_size, disk_contents, disk_durable, disk_done, disk_may_hold}
use Rattle.device.specs.Layers.{Layer, Broken, Window}
use Rattle.layers.specs.declared.stack.Stack.{Stack, Disk, Flakey', Dust', Error}
use Rattle.layers.specs.Layer.{flakey_layer, dust_layer}
use Rattle.layers.specs.Windows.{beside}

-- how many sectors it has: a layer's own, as far as the device below reaches
abbrev pub stack_size : Stack → ℕ
stack_size (Disk d) = disk_size d
stack_size (Flakey' f p below) = min f.sectors (stack_size below - f.offset)
stack_size (Dust' d p below) = min d.sectors (stack_size below)
stack_size (Error e) = e.sectors

-- the bytes below the layers; an error layer has zeros, which no operation shows
abbrev pub stack_contents : Stack → List ℕ
stack_contents (Disk d) = disk_contents d
stack_contents (Flakey' f p below) = sectors_at (stack_contents below) f.offset (min f.sectors (stack_size below - f.offset))
stack_contents (Dust' d p below) = sectors_at (stack_contents below) 0 (min d.sectors (stack_size below))
stack_contents (Error e) = replicate (512 * e.sectors) 0

-- those of them that a loss of power leaves
abbrev pub stack_durable : Stack → List ℕ
stack_durable (Disk d) = disk_durable d
stack_durable (Flakey' f p below) = sectors_at (stack_durable below) f.offset (min f.sectors (stack_size below - f.offset))
stack_durable (Dust' d p below) = sectors_at (stack_durable below) 0 (min d.sectors (stack_size below))
stack_durable (Error e) = replicate (512 * e.sectors) 0

-- the layers, from the top, each with its window on the device below
abbrev pub stack_layers : Stack → List Layer
stack_layers (Disk d) = []
stack_layers (Flakey' f p below) = flakey_layer f ∷ Window (beside (stack_contents below) f.offset (min f.sectors (stack_size below - f.offset))) ∷ stack_layers below
stack_layers (Dust' d p below) = dust_layer d ∷ Window (beside (stack_contents below) 0 (min d.sectors (stack_size below))) ∷ stack_layers below
stack_layers (Error e) = Broken ∷ []

-- how many operations its top answered with a fault
abbrev pub stack_faults : Stack → ℕ
stack_faults (Disk d) = 0
stack_faults (Flakey' f p below) = f.faults
stack_faults (Dust' d p below) = d.faults
stack_faults (Error e) = e.faults

-- how many operations its top was asked for
abbrev pub stack_done : Stack → ℕ
stack_done (Disk d) = disk_done d
stack_done (Flakey' f p below) = f.done
stack_done (Dust' d p below) = d.done
stack_done (Error e) = e.done

-- what a stop may leave in a sector
abbrev pub stack_may_hold : Stack → ℕ → List ℕ → Type 0
stack_may_hold (Disk d) s v = disk_may_hold d s v
stack_may_hold (Flakey' f p below) s v = stack_may_hold below (s + f.offset) v
stack_may_hold (Dust' d p below) s v = stack_may_hold below s v
stack_may_hold (Error e) s v = v ≡ sector_at (replicate (512 * e.sectors) 0) s

-- the stack below the top layer
abbrev pub below_of : Stack → Option Stack
below_of (Disk d) = None
below_of (Flakey' f p below) = Some below
below_of (Dust' d p below) = Some below
below_of (Error e) = None
