-- What is known of a store's pairs by what was read of it.
use Rattle.std.specs.Prelude.{◌≡◌, ℕ, ◌+◌, ◌≤◌, ◌<◌, List, length, take, slice_index}
use Rattle.sector.specs.declared.pair.Pair.{Pair}
use Rattle.cow_format.specs.Pairs.{pairs_of}
use Rattle.cow_format.specs.Picture.{picture_at}
use Rattle.read_beside_writer.specs.Moments.{Files, AreRead, IsLive, IsSaving}

-- from a moment on these are the first pairs of the store, while it is live
abbrev pub AreKnown : ℕ → (ℕ → Files) → ℕ → List Pair → Type 0
AreKnown chunk files now pairs = (later : ℕ) → now ≤ later → IsLive chunk (files later) → take (length pairs) (pairs_of chunk (files later).store) ≡ pairs

-- they were all pairs at a moment, or the store was not live then
abbrev pub WereAll : ℕ → (ℕ → Files) → ℕ → ℕ → List Pair → Type 0
WereAll chunk files first last pairs = (m : ℕ) × (first ≤ m) × (m ≤ last) × (IsLive chunk (files m) → pairs_of chunk (files m).store ≡ pairs)

-- byte i of what the snapshot shows at a moment
abbrev pub shown_at : ℕ → (ℕ → Files) → ℕ → ℕ → ℕ
shown_at chunk files m i = picture_at chunk (files m).origin (files m).store (pairs_of chunk (files m).store) i

-- so many bytes at the front are what the snapshot showed at the first moment, if it is live later
abbrev pub AreShown : ℕ → (ℕ → Files) → ℕ → ℕ → List ℕ → ℕ → Type 0
AreShown chunk files now at bytes count = (later : ℕ) → now ≤ later → IsLive chunk (files later) → (i : ℕ) → i < count → slice_index bytes i ≡ shown_at chunk files 0 (at + i)

-- these bytes were read of the origin up to a moment, and then the pairs were looked at
abbrev pub AreOfOrigin : ℕ → (ℕ → Files) → ℕ → ℕ → ℕ → List Pair → ℕ → List ℕ → Type 0
AreOfOrigin chunk files first read now pairs at bytes =
    IsSaving chunk files × (at + length bytes ≤ length (files 0).origin) × AreRead (λ m. (files m).origin) first read at bytes × WereAll chunk files read now pairs × AreKnown chunk files now pairs
