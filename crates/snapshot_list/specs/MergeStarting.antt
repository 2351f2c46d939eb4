-- What starting the copies of the chunks that a merged chunk touches does to the other snapshots, one after another: in each
-- the first is started that it has not published. That a full store makes its snapshot invalid is the kernel's, of its
-- admin-guide page on snapshots; that they are copied one after the other, and that the room is kept back, is this project's
-- own.
use Rattle.std.specs.Prelude.{◌≡◌, ◌≢◌, ◌⊎◌, ℕ, ◌+◌, ◌*◌, ◌<◌, ◌≤◌, true, false, List, [], ◌∷◌, ◌++◌, length, map, slice_index_or, Option, Some, None, Any, MatchBool}
use Rattle.std.specs.List.{All}
use Rattle.std.specs.Global.{Vec}
use Rattle.sector.specs.declared.pair.Pair.{Pair}
use Rattle.device.specs.Layers.{Layer}
use Rattle.in_flight.specs.Copies.{count_of}
use Rattle.in_flight.specs.Routes.{refused_of}
use Rattle.in_flight.specs.declared.flights.Flight.{Flight}
use Rattle.snapshot.specs.Kept.{Kept}
use Rattle.snapshot.specs.Calls.{StartsMerging, started}
use Rattle.snapshot_list.specs.Starting.{lacks_chunk, starts_chunk, overflows_chunk, next_chunk_of, own_of, spoilt_of}
use Rattle.merge.specs.Lists.{next_of_group}
use Rattle.merge.specs.Merging.{Merging}

-- A snapshot keeps room back for the copy of a chunk, where it lacks it, and no copy of the merge is under way in it.
-- copies: how many numbers of copies were given, of which its own are.
pub record KeepsRoomFor {B : Type 0} (c copies : ℕ) (s : Kept B) : Type 0 where
  pub some : lacks_chunk c s ≡ true → 0 < s.kept_back
  pub spare : lacks_chunk c s ≡ true → s.spare ≡ true
  pub idle : lacks_chunk c s ≡ true → s.merging ≡ None
  pub given : All (λ p. p.number ≤ copies) s.copies

-- What a merge does that waits for this chunk of a snapshot s: to it, and to the requests in flight. n and m: how many numbers
-- of copies were given.
abbrev pub IsNextSavedIn : {B : Type 0} → (B → List ℕ) → (B → List Layer) → ℕ → Kept B → Kept B → ℕ → ℕ → List Flight → List Flight → Type 0
IsNextSavedIn contents layers c s t n m fs gs =
    MatchBool (starts_chunk c s) ((buffer : Vec ℕ) × StartsMerging contents layers (started (n + 1) c s.next buffer) s t × (m ≡ n + 1) × (gs ≡ fs))
    (MatchBool (overflows_chunk c s) ((t ≡ spoilt_of s) × (m ≡ n) × (gs ≡ map (refused_of (s.number ∷ [])) fs)) ((t ≡ s) × (m ≡ n) × (gs ≡ fs)))

-- and to all snapshots, in their order. at: the chunk of each.
abbrev pub AreNextSavedIn : {B : Type 0} → (B → List ℕ) → (B → List Layer) → (Kept B → ℕ) → List (Kept B) → List (Kept B) → ℕ → ℕ → List Flight → List Flight → Type 0
AreNextSavedIn contents layers at [] [] n m fs gs = (m ≡ n) × (gs ≡ fs)
AreNextSavedIn contents layers at [] (t ∷ ts) n m fs gs = ⊥
AreNextSavedIn contents layers at (s ∷ ss) [] n m fs gs = ⊥
AreNextSavedIn contents layers at (s ∷ ss) (t ∷ ts) n m fs gs = (k : ℕ) × (hs : List Flight) × IsNextSavedIn contents layers (at s) s t n k fs hs × AreNextSavedIn contents layers at ss ts k m hs gs

-- the chunk of each that a merge waits for which copies the chunk of a pair, in chunks of so many sectors, on an origin of so
-- many
abbrev pub next_for : {B : Type 0} → ℕ → ℕ → Pair → Kept B → ℕ
next_for chunk sectors q = next_chunk_of (chunk * q.old) (count_of chunk sectors q.old)

-- and where a pair is copied next: nothing, where none is
abbrev pub IsNextSaved : {B : Type 0} → (B → List ℕ) → (B → List Layer) → ℕ → ℕ → Option Pair → List (Kept B) → List (Kept B) → ℕ → ℕ → List Flight → List Flight → Type 0
IsNextSaved contents layers chunk sectors None ss ts n m fs gs = (ts ≡ ss) × (m ≡ n) × (gs ≡ fs)
IsNextSaved contents layers chunk sectors (Some q) ss ts n m fs gs = AreNextSavedIn contents layers (next_for chunk sectors q) ss ts n m fs gs

-- beside a merge, if one is begun
abbrev pub IsNextSavedBeside : {B : Type 0} → (B → List ℕ) → (B → List Layer) → Option (Merging B) → List (Kept B) → List (Kept B) → ℕ → ℕ → List Flight → List Flight → Type 0
IsNextSavedBeside contents layers None ss ts n m fs gs = (ts ≡ ss) × (m ≡ n) × (gs ≡ fs)
IsNextSavedBeside contents layers (Some m) ss ts n k fs gs = IsNextSaved contents layers m.state.chunk m.state.origin (next_of_group m.group) ss ts n k fs gs

-- The chunk of a pair begins inside the origin, which is the snapshots', and each keeps room back for the copy that the merge
-- waits for.
pub record CanSaveNext {B : Type 0} (chunk sectors copies : ℕ) (snaps : List (Kept B)) (q : Pair) : Type 0 where
  pub begins : chunk * q.old < sectors
  pub origin : All (λ s. s.state.origin ≡ sectors) snaps
  pub room : All (λ s. KeepsRoomFor (next_for chunk sectors q s) copies s) snaps

-- no snapshot but the one at this place lacks its own chunk. at: the chunk of each.
abbrev pub LacksAtMost : {B : Type 0} → (Kept B → ℕ) → ℕ → List (Kept B) → Type 0
LacksAtMost {B = B} at place snaps = (j : ℕ) (d : Kept B) → j < length snaps → j ≢ place → lacks_chunk (at (slice_index_or snaps j d)) (slice_index_or snaps j d) ≡ false

-- What a merge waits for in a snapshot that lacks it, of the chunks that so many sectors touch from this one on, is not before
-- a chunk that was published; and that is one of those.
abbrev pub LacksBehind : {B : Type 0} → ℕ → ℕ → ℕ → Kept B → Type 0
LacksBehind published first count s = lacks_chunk (next_chunk_of first count s) s ≡ true → (own_of first s ≤ published) × (published ≤ next_chunk_of first count s)

-- A chunk was published in the snapshot at this place, the last of all that were: in no other is a copy to be started for the
-- merge that copies the chunk of a pair, and in that one behind the chunk.
pub record GoesOnBehind {B : Type 0} (place published chunk sectors : ℕ) (snaps : List (Kept B)) (q : Pair) : Type 0 where
  pub within : place < length snaps
  pub others : LacksAtMost (next_for chunk sectors q) place snaps
  pub behind : (d : Kept B) → LacksBehind published (chunk * q.old) (count_of chunk sectors q.old) (slice_index_or snaps place d)

-- the chunks of which a copy is not published
abbrev pub pending_of : {B : Type 0} → Kept B → List ℕ
pending_of s = map (λ p. p.pair.old) s.copies ++ map (λ m. m.chunk) s.marks

-- the least of these chunks from one on, if it is less than another, or else that
pub record IsLeastFrom (low most : ℕ) (chunks : List ℕ) (least : ℕ) : Type 0 where
  pub from : low ≤ least
  pub to : least ≤ most
  pub all : All (λ c. low ≤ c → least ≤ c) chunks
  pub one : (least ≡ most) ⊎ Any (λ c. c ≡ least) chunks
