-- What a stop after the opening of a snapshot, or after a refusal, may leave of its store, while no device drops writes. This
-- project's own; the bytes are those of dm-snap-persistent.c.
use Rattle.std.specs.Prelude.{◌⊎◌, ℕ, List, [], Result, Ok, Err}
use Rattle.sector.specs.declared.pair.Pair.{Pair}
use Rattle.sector.specs.declared.refusal.Refusal.{Refusal}
use Rattle.cow_format.specs.Pairs.{pairs_of}
use Rattle.cow_header.specs.declared.found.Found.{Found}
use Rattle.cow_header.specs.declared.found.Found.TheVariants.{Fresh, Header}
use Rattle.store.specs.declared.state.Left.{Left}
use Rattle.store.specs.declared.state.Left.TheVariants.{FirstArea, HeaderChunk, Tail, Nothing}
use Rattle.store.specs.Stopping.{LoadsFirst, IsFreshAgain, MayPrepare}
use Rattle.crash_laws.specs.Stop.{MayLeave}

-- What may be left after some of a load's operations, by what was left of it before them.
abbrev pub MayPrepareAll : Left → ℕ → ℕ → ℕ → List Pair → List ℕ → Type 0
MayPrepareAll FirstArea chunk origin size ps bytes = MayPrepare HeaderChunk chunk origin size ps bytes
MayPrepareAll HeaderChunk chunk origin size ps bytes = MayPrepare HeaderChunk chunk origin size ps bytes
MayPrepareAll Tail chunk origin size ps bytes = MayPrepare Tail chunk origin size ps bytes
MayPrepareAll Nothing chunk origin size ps bytes = MayPrepare Nothing chunk origin size ps bytes

-- and by what its first sector said before
abbrev pub MayOpen : ℕ → ℕ → ℕ → List ℕ → Result Found Refusal → List ℕ → Type 0
MayOpen line origin size old (Ok Fresh) bytes = IsFreshAgain bytes ⊎ LoadsFirst line origin size [] [] bytes
MayOpen line origin size old (Ok (Header chunk)) bytes = LoadsFirst chunk origin size (pairs_of chunk old) [] bytes
MayOpen line origin size old (Err refusal) bytes = ⊥

-- whatever may be left of a store might be left before, or is such
abbrev pub Leaves : (ℕ → List ℕ → Type 0) → (ℕ → List ℕ → Type 0) → ℕ → (List ℕ → Type 0) → Type 0
Leaves old new size such = (bytes : List ℕ) → MayLeave new size bytes → MayLeave old size bytes ⊎ such bytes
