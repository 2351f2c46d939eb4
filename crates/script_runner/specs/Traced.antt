-- What is told of the devices behind a line. It is this project's own.
use Rattle.std.specs.Prelude.{◌≡◌, ℕ, List, [], ◌∷◌, ◌++◌}
use Rattle.command_semantics.specs.State.{Table, Volume}
use Rattle.device_list.specs.Layers.{layers_in}
use Rattle.device_list.specs.Trace.{IsTraced}

-- the line of each volume, one after the other; that of a volume in which nothing is in flight, lost, being merged or due has no bytes
abbrev pub AreTraced : List ℕ → List Volume → Type 0
AreTraced page [] = page ≡ []
AreTraced page (v ∷ volumes) = (text : List ℕ) × (rest : List ℕ) × IsTraced text v × AreTraced rest volumes × (page ≡ text ++ rest)

-- the lines of all volumes, and then those of the layers that may fail
abbrev pub IsTrace : List ℕ → Table → Type 0
IsTrace page table = (lines : List ℕ) × AreTraced lines table.volumes × (page ≡ lines ++ layers_in table)
