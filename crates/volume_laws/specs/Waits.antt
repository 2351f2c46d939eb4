-- Why a request waits, and when a volume is quiet: a volume where no event is due is.
use Rattle.std.specs.Prelude.{◌≡◌, ◌≢◌, ◌⊎◌, ℕ, Bool, true, false, List, [], Option, Some, None, Any, AllPairs}
use Rattle.std.specs.List.{All}
use Rattle.cow_format.specs.Picture.{place_of}
use Rattle.in_flight.specs.Kinds.{kind_of}
use Rattle.in_flight.specs.declared.flights.Flight.{Flight}
use Rattle.in_flight.specs.declared.flights.Kind.TheVariants.{OriginRead, OriginWrite, OriginFlush, SnapRead, SnapWrite, SnapFlush}
use Rattle.in_flight.specs.declared.flights.Route.TheVariants.{Held, Refused}
use Rattle.volume_laws.specs.Books.{SnapBooks, MergeBooks, Books, group_of}
use Rattle.volume_laws.specs.Published.{chunk_of, is_clear}
use Rattle.volume_laws.specs.Again.{has_chunk}

-- the snapshot has the chunk, or a copy of it is under way
abbrev pub IsSaving : ℕ → SnapBooks → Type 0
IsSaving c s = (place_of s.pairs c ≢ None) ⊎ Any (λ p. p.pair.old ≡ c) s.copies

-- a copy of the chunk is not published yet
abbrev pub IsCopying : ℕ → SnapBooks → Type 0
IsCopying c s = Any (λ p. p.pair.old ≡ c) s.copies ⊎ ((place_of s.pairs c ≢ None) × Any (λ m. m.chunk ≡ c) s.marks)

-- whether a request's chunk is in the group that is being merged
abbrev pub is_grouped : Option MergeBooks → Flight → Bool
is_grouped None f = false
is_grouped (Some m) f = has_chunk (group_of m) (chunk_of m.chunk f)

-- the snapshot of a number waits for a copy of the request's chunk
pub record WaitsFor (number : ℕ) (f : Flight) (s : SnapBooks) : Type 0 where
  pub mine : s.number ≡ number
  pub live : s.live ≡ true
  pub copying : IsCopying (chunk_of s.chunk f) s

-- Reads and flushes go somewhere. A held origin write waits for some snapshot's copy or mark, and each live snapshot that lacks the
-- chunk has a copy of it under way; a held snapshot write waits for that snapshot's copy.
pub record WaitsHolds (merge : Option MergeBooks) (snaps : List SnapBooks) (f : Flight) : Type 0 where
  pub origin_read : kind_of f.request ≡ OriginRead → f.route ≢ Held
  pub snap_read : (n : ℕ) → kind_of f.request ≡ SnapRead n → f.route ≢ Held
  pub origin_write : kind_of f.request ≡ OriginWrite → f.route ≡ Held → is_grouped merge f ≡ false → is_clear snaps f.request.range.first ≡ false
  pub saving : kind_of f.request ≡ OriginWrite → f.route ≡ Held → is_grouped merge f ≡ false → All (λ s. s.live ≡ true → IsSaving (chunk_of s.chunk f) s) snaps
  pub snap_write : (n : ℕ) → kind_of f.request ≡ SnapWrite n → f.route ≡ Held → Any (WaitsFor n f) snaps
  pub read_goes : kind_of f.request ≡ OriginRead → f.route ≢ Refused
  pub write_goes : kind_of f.request ≡ OriginWrite → f.route ≢ Refused
  pub read_attached : (n : ℕ) → kind_of f.request ≡ SnapRead n → Any (λ s. s.number ≡ n) snaps
  pub write_attached : (n : ℕ) → kind_of f.request ≡ SnapWrite n → Any (λ s. s.number ≡ n) snaps
  pub origin_flush : kind_of f.request ≡ OriginFlush → f.route ≢ Held
  pub snap_flush : (n : ℕ) → kind_of f.request ≡ SnapFlush n → f.route ≢ Held
  pub flush_goes : kind_of f.request ≡ OriginFlush → f.route ≢ Refused
  pub flush_attached : (n : ℕ) → kind_of f.request ≡ SnapFlush n → Any (λ s. s.number ≡ n) snaps

-- of a whole volume; no two requests have one number
pub record Waits (v : Books) : Type 0 where
  pub numbers : AllPairs (λ (f g : Flight). f.number ≢ g.number) v.requests
  pub held : All (WaitsHolds v.merge v.snaps) v.requests

-- a snapshot with nothing left: no copy is under way or waits to be published, and its mark is not wanted or was tried
pub record IsDone (s : SnapBooks) : Type 0 where
  pub tried : s.untried ≡ false
  pub copies : s.copies ≡ []
  pub marks : s.marks ≡ []

-- no request in flight, and nothing left of any snapshot
pub record IsQuiet (v : Books) : Type 0 where
  pub requests : v.requests ≡ []
  pub snaps : All IsDone v.snaps
