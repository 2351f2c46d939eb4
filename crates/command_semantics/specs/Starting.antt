-- Requests that one command starts and later ones end: what is asked for by `start DEV read S N` and `start DEV write S DATA`,
-- and why it is refused before the volume is asked. The commands are this project's own.
use Rattle.std.specs.Prelude.{ℕ, List, Result, Err}
use Rattle.sector.specs.declared.refusal.Refusal.{Refusal}
use Rattle.sector.specs.declared.refusal.Refusal.TheVariants.{BadTable}
use Rattle.words.specs.Given.{◌>>=◌}
use Rattle.command.specs.Words.{sectors_of}
use Rattle.command_semantics.specs.declared.place.Place.{Place}
use Rattle.command_semantics.specs.declared.place.Place.TheVariants.{Free, In}
use Rattle.command_semantics.specs.State.{Table}
use Rattle.command_semantics.specs.Places.{place_of, found, volume_at}
use Rattle.command_semantics.specs.Raw.{whole}
use Rattle.command_semantics.specs.Sectors.{Asked, asked_of}

-- so many sectors from the first on, of the device at a place
abbrev pub asked_at : Place → ℕ → ℕ → Table → Result Asked Refusal
asked_at (Free i depth) first count table = Err BadTable
asked_at (In v role) first count table = volume_at v table >>= λ volume. asked_of role first count volume

-- so many sectors of the device of a name
unfoldable pub asked_by : List ℕ → ℕ → ℕ → Table → Result Asked Refusal
asked_by name first count table = do
  place ← found (place_of name table)
  asked_at place first count table

-- `start DEV read S N`
unfoldable pub read_asked : List ℕ → ℕ → ℕ → Table → Result Asked Refusal
read_asked name first count table = sectors_of count >>= λ n. asked_by name first n table

-- `start DEV write S DATA`
unfoldable pub write_asked : List ℕ → ℕ → List ℕ → Table → Result Asked Refusal
write_asked name first bytes table = whole bytes >>= λ n. asked_by name first n table

-- `flush DEV`: what a read of the first sector asks
unfoldable pub flush_asked : List ℕ → Table → Result Asked Refusal
flush_asked name table = asked_by name 0 1 table
