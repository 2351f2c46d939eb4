-- To be believed: `run`'s output, a volume's steps or its attach are said in these words.
-- When a snapshot is taken. That a volume has to be quiet, the limits and the order of the refusals are this project's own.
use Rattle.std.specs.Prelude.{◌≡◌, ◌⊎◌, ◌==◌, ◌||◌, not, nat_le, ℕ, Bool, List, length, Option, Some, None, if◌then◌else◌}
use Rattle.std.specs.Option.{is_some}
use Rattle.sector.specs.declared.refusal.Refusal.{Refusal}
use Rattle.sector.specs.declared.refusal.Refusal.TheVariants.{Stale, MergeInProgress, NotQuiet, TooMany, BadChunk, NoMemory}
use Rattle.chunk.specs.Sizes.{is_chunk}
use Rattle.store.specs.Opening.{IsRefused}
use Rattle.volume.specs.Volumed.{Volumed}
use Rattle.volume.specs.Leaving.{is_quiet_of}

-- the first reason, before the store is looked at
abbrev pub taking_refusal : Bool → Bool → Bool → ℕ → ℕ → ℕ → Option Refusal
taking_refusal stale begun quiet count attached chunk =
    if stale then Some Stale
    else (if begun then Some MergeInProgress
    else (if not quiet then Some NotQuiet
    else (if nat_le 8 count || (attached == 4_294_967_295) then Some TooMany
    else (if is_chunk chunk then None else Some BadChunk))))

abbrev pub attach_refusal : {B : Type 0} → Bool → ℕ → Volumed B → Option Refusal
attach_refusal stale chunk v = taking_refusal stale (is_some v.merge) (is_quiet_of v) (length v.snaps) v.attached chunk

-- why a snapshot is not taken: for one of these reasons, or for want of memory, or as the store's load says
abbrev pub IsNotTaken : {B : Type 0} → Bool → ℕ → ℕ → ℕ → List ℕ → Volumed B → Refusal → Type 0
IsNotTaken stale chunk origin size bytes v refusal =
    (attach_refusal stale chunk v ≡ Some refusal)
    ⊎ ((attach_refusal stale chunk v ≡ None) × ((refusal ≡ NoMemory) ⊎ IsRefused chunk origin size bytes refusal))
