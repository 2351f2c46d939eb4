-- What a status line tells of a store's metadata. This project's own.
use Rattle.std.specs.Prelude.{◌≡◌, ◌+◌, ◌*◌}
use Rattle.chunk_alloc.specs.declared.usage.Usage.{Usage}
use Rattle.store.specs.declared.state.State.{State}

-- the header and the areas up to the current one
abbrev pub HasMetadata : Usage → State → Type 0
HasMetadata usage state = usage.metadata ≡ (state.current + 2) * state.chunk
