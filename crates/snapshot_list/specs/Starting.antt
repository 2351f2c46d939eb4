-- To be believed: `run`'s output, a volume's steps or its attach are said in these words.
-- Which copies a write needs at a sector of the origin, each snapshot of its own chunk there, and what starting them does to
-- the snapshots of a volume, one after another; and which copy of many chunks comes first. That a write never
-- starts a copy that is under way is this project's own rule; that a full store makes its snapshot invalid is the kernel's,
-- of its admin-guide page on snapshots.
use Rattle.std.specs.Prelude.{◌≡◌, ◌==◌, ◌&&◌, not, nat_lt, ℕ, ◌+◌, ◌*◌, ◌/◌, ◌<◌, Bool, true, false, List, [], ◌∷◌, length, map, filter, None, MatchBool, slice_index_or}
use Rattle.std.specs.List.{list_any}
use Rattle.std.specs.Option.{is_some, unwrap_or}
use Rattle.std.specs.Global.{Vec}
use Rattle.device.specs.Layers.{Layer}
use Rattle.cow_format.specs.Picture.{place_of}
use Rattle.in_flight.specs.Copies.{count_of}
use Rattle.in_flight.specs.Routes.{refused_of}
use Rattle.in_flight.specs.declared.flights.Flight.{Flight}
use Rattle.chunk.specs.Pieces.{chunks_over}
use Rattle.in_flight.specs.Due.{first_by}
use Rattle.volume_laws.specs.Published.{is_published}
use Rattle.snapshot.specs.Kept.{Kept}
use Rattle.snapshot.specs.Calls.{StartsAt, started}
use Rattle.snapshot_list.specs.Numbers.{number_of_snap}

-- the chunk of a snapshot in which a sector of the origin lies
abbrev pub own_of : {B : Type 0} → ℕ → Kept B → ℕ
own_of first s = first / s.state.chunk

-- a live snapshot has neither a chunk nor a copy of it under way
abbrev pub lacks_chunk : {B : Type 0} → ℕ → Kept B → Bool
lacks_chunk c s = s.live && not (is_some (place_of s.pairs c)) && not (list_any (λ p. p.pair.old == c) s.copies)

-- and its chunk of a sector is meant
abbrev pub lacks : {B : Type 0} → ℕ → Kept B → Bool
lacks first s = lacks_chunk (own_of first s) s

-- its store has no place for one more copy
abbrev pub is_full_of : {B : Type 0} → Kept B → Bool
is_full_of s = nat_lt s.state.size (s.state.chunk * (s.next + 1))

-- it lacks a copy of a chunk, and its store has a place for it
abbrev pub starts_chunk : {B : Type 0} → ℕ → Kept B → Bool
starts_chunk c s = lacks_chunk c s && not (is_full_of s)

abbrev pub starts : {B : Type 0} → ℕ → Kept B → Bool
starts first s = starts_chunk (own_of first s) s

-- it lacks one, and its store has no place for it
abbrev pub overflows_chunk : {B : Type 0} → ℕ → Kept B → Bool
overflows_chunk c s = lacks_chunk c s && is_full_of s

abbrev pub overflows : {B : Type 0} → ℕ → Kept B → Bool
overflows first s = overflows_chunk (own_of first s) s

-- The first chunk that it has not published, of those that so many sectors touch from this one on: the copy of that comes
-- first. Where it has published each, the first of all, of which no copy is started.
abbrev pub next_chunk_of : {B : Type 0} → ℕ → ℕ → Kept B → ℕ
next_chunk_of first count s = unwrap_or (first_by (λ c. not (is_published s.pairs s.marks c)) (λ c. c) (chunks_over s.state.chunk first count)) (first / s.state.chunk)

-- a snapshot that was spoiled
abbrev pub spoilt_of : {B : Type 0} → Kept B → Kept B
spoilt_of s = record s { live = false; untried = true; state = record s.state { copying = false }; begun = []; copies = []; marks = []; kept_back = 0; spare = false; merging = None }

-- a snapshot, but for the room that it has for copies
abbrev pub unroomed : {B : Type 0} → Kept B → Kept B
unroomed s = record s { room = 0 }

-- room for the copy of its chunk, where a snapshot lacks it, and none where it does not
pub record HasRoomFor {B : Type 0} (first : ℕ) (s : Kept B) (room : Vec ℕ) : Type 0 where
  pub pairs : lacks first s ≡ true → 0 < s.room
  pub bytes : lacks first s ≡ true → length room.items ≡ 512 * count_of s.state.chunk s.state.origin (first / s.state.chunk)
  pub none : lacks first s ≡ false → length room.items ≡ 0

-- and for those of all snapshots
pub record HaveRooms {B : Type 0} (first : ℕ) (snaps : List (Kept B)) (rooms : List (Vec ℕ)) : Type 0 where
  pub len : length rooms ≡ length snaps
  pub each : (k : ℕ) (d : Kept B) (e : Vec ℕ) → k < length snaps → HasRoomFor first (slice_index_or snaps k d) (slice_index_or rooms k e)

-- What a write of this chunk of a snapshot s does to it, and to the requests in flight. n and m: how many numbers of copies
-- were given.
abbrev pub IsSavedIn : {B : Type 0} → (B → List ℕ) → (B → List Layer) → ℕ → Kept B → Kept B → ℕ → ℕ → List Flight → List Flight → Type 0
IsSavedIn contents layers c s t n m fs gs =
    MatchBool (starts_chunk c s) ((buffer : Vec ℕ) × StartsAt contents layers (started (n + 1) c s.next buffer) s t × (m ≡ n + 1) × (gs ≡ fs))
    (MatchBool (overflows_chunk c s) ((t ≡ spoilt_of s) × (m ≡ n) × (gs ≡ map (refused_of (s.number ∷ [])) fs)) ((t ≡ s) × (m ≡ n) × (gs ≡ fs)))

-- and to all snapshots, in their order. at: the chunk of each.
abbrev pub AreSavedIn : {B : Type 0} → (B → List ℕ) → (B → List Layer) → (Kept B → ℕ) → List (Kept B) → List (Kept B) → ℕ → ℕ → List Flight → List Flight → Type 0
AreSavedIn contents layers at [] [] n m fs gs = (m ≡ n) × (gs ≡ fs)
AreSavedIn contents layers at [] (t ∷ ts) n m fs gs = ⊥
AreSavedIn contents layers at (s ∷ ss) [] n m fs gs = ⊥
AreSavedIn contents layers at (s ∷ ss) (t ∷ ts) n m fs gs = (k : ℕ) × (hs : List Flight) × IsSavedIn contents layers (at s) s t n k fs hs × AreSavedIn contents layers at ss ts k m hs gs

-- the numbers of the snapshots that are found full. at: the chunk of each.
abbrev pub overflowing : {B : Type 0} → (Kept B → ℕ) → List (Kept B) → List ℕ
overflowing at snaps = map number_of_snap (filter (λ s. overflows_chunk (at s) s) snaps)
