-- What the snapshot of a store shows, and where a read of it may fail.
use Rattle.std.specs.Prelude.{ℕ, Bool, false, List, []}
use Rattle.cow_format.specs.Picture.{picture}
use Rattle.cow_nbd.specs.Shows.{FailsAt, FailsFresh, has_copy}
use Rattle.cow_image.specs.declared.found.Told.{Told}
use Rattle.cow_image.specs.declared.found.Told.TheVariants.{Fresh, Refused, Written}

-- the array of a store's bytes, of which this is told, over an origin's bytes
abbrev pub array_of : Told → List ℕ → List ℕ → List ℕ
array_of Fresh origin store = origin
array_of (Refused reason) origin store = []
array_of (Written map) origin store = picture map.chunk origin store

-- whether a byte lies in a chunk of which the store has a copy
abbrev pub marks_of : Told → ℕ → Bool
marks_of Fresh i = false
marks_of (Refused reason) i = false
marks_of (Written map) i = has_copy map.chunk map.pairs.items i

-- a read of the snapshot, or of the origin, of so many sectors, may fail
abbrev pub FailsTold : Told → (ℕ → ℕ → Type 0) → (ℕ → ℕ → Type 0) → ℕ → ℕ → ℕ → ℕ → Type 0
FailsTold Fresh origin cow size export at count = FailsFresh origin size export at count
FailsTold (Refused reason) origin cow size export at count = ⊥
FailsTold (Written map) origin cow size export at count = FailsAt origin cow map.chunk map.pairs.items size export at count
