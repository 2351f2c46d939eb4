-- A whole volume: what holds of it, and the plain machine that its devices' bytes stand for.
use Rattle.std.specs.Prelude.{◌≡◌, ◌≢◌, ℕ, ◌*◌, true, List, Option, Some, None, length, map, AllPairs, if◌then◌else◌}
use Rattle.std.specs.List.{All}
use Rattle.cow_format.specs.Picture.{picture}
use Rattle.plain_machine.specs.Plain.{Plain, Entry, Live, Invalid}
use Rattle.in_flight.specs.Kinds.{kind_of, in_flight}
use Rattle.in_flight.specs.declared.flights.Flight.{Flight}
use Rattle.in_flight.specs.declared.flights.Kind.TheVariants.{OriginRead, OriginWrite, OriginFlush}
use Rattle.in_flight.specs.declared.flights.Route.TheVariants.{Origin, Store}
use Rattle.volume_laws.specs.Books.{SnapBooks, MergeBooks, Books, number_of}
use Rattle.volume_laws.specs.Held.{SnapHolds, RequestHolds}
use Rattle.volume_laws.specs.Merging.{MergeHolds}

-- the origin's array: the disk's bytes, or the picture over the store that is being merged
abbrev pub origin_of : List ℕ → Option MergeBooks → List ℕ
origin_of origin None = origin
origin_of origin (Some m) = picture m.chunk origin m.store

abbrev pub begun_of : Option MergeBooks → Option ℕ
begun_of None = None
begun_of (Some m) = Some m.number

-- a snapshot's array: its picture; and what a write of it does that finds its store full
abbrev pub entry_of : List ℕ → SnapBooks → Entry
entry_of origin v = record { number = v.number; saved = if v.live then Live (picture v.chunk origin v.store) else Invalid; overflow = v.overflow }

abbrev pub plain_of : Books → Plain
plain_of v = record {
  origin = origin_of v.origin v.merge;
  begun = begun_of v.merge;
  saved = map (entry_of v.origin) v.snaps;
  requests = map in_flight v.requests;
}

-- without a merge no origin request goes to a store, and a flush goes to the origin disk
pub record UnmergedHolds (r : Flight) : Type 0 where
  pub read : (place : ℕ) → kind_of r.request ≡ OriginRead → r.route ≢ Store place
  pub write : (place : ℕ) → kind_of r.request ≡ OriginWrite → r.route ≢ Store place
  pub flush : kind_of r.request ≡ OriginFlush → r.route ≡ Origin

abbrev pub OriginHolds : List ℕ → List Flight → Option MergeBooks → Type 0
OriginHolds origin rs None = All UnmergedHolds rs
OriginHolds origin rs (Some m) = MergeHolds origin rs m

-- all that a volume keeps true, loud or not
pub record Holds (v : Books) : Type 0 where
  pub whole : length v.origin ≡ 512 * v.sectors
  pub merge : OriginHolds v.origin v.requests v.merge
  pub snaps : All (SnapHolds v.loud v.origin v.requests) v.snaps
  pub requests : All (RequestHolds v.sectors) v.requests
  pub numbers : AllPairs (λ m n. m ≢ n) (map number_of v.snaps)

-- no stack under the volume drops writes
pub record IsLoud (v : Books) : Type 0 where
  pub origin : v.loud ≡ true
  pub snaps : All (λ s. s.loud ≡ true) v.snaps
  pub merge : (m : MergeBooks) → v.merge ≡ Some m → m.loud ≡ true
