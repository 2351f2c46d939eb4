-- What a call does to a copy of a snapshot, beside what it does to the snapshot's books. This project's own.
use Rattle.std.specs.Prelude.{◌≡◌, ℕ, ◌+◌, ◌-◌, ◌*◌, false, List, [], ◌∷◌, ◌++◌, Some, slice_index_or, slice_set}
use Rattle.std.specs.Global.{Vec}
use Rattle.sector.specs.Bytes.{sectors_at}
use Rattle.device.specs.Layers.{Layer}
use Rattle.cow_format.specs.NextPlace.{stepped}
use Rattle.in_flight.specs.Copies.{count_of}
use Rattle.in_flight.specs.declared.copies.ChunkCopy.{ChunkCopy}
use Rattle.in_flight.specs.declared.copies.Stage.{Stage}
use Rattle.in_flight.specs.declared.copies.Stage.TheVariants.{Waiting, Read, Written}
use Rattle.volume_laws.specs.Steps.{ReadsCopy, WritesCopy, StartsCopy}
use Rattle.snapshot.specs.Kept.{Kept, books_of}

-- copy p is q afterwards: at this stage, with these bytes, and else as it was
pub record GoesTo (far : Stage) (bytes : List ℕ) (p q : ChunkCopy) : Type 0 where
  pub number : q.number ≡ p.number
  pub pair : q.pair ≡ p.pair
  pub stage : q.stage ≡ far
  pub buffer : q.buffer.items ≡ bytes

-- copy k of a snapshot, p, is q afterwards, and nothing else changes; p was read from these bytes of the origin disk
pub record ReadsAt {B : Type 0} (contents : B → List ℕ) (layers : B → List Layer) (origin : List ℕ) (k : ℕ) (p q : ChunkCopy) (v w : Kept B) : Type 0 where
  pub copy : GoesTo Read (sectors_at origin (v.state.chunk * p.pair.old) (count_of v.state.chunk v.state.origin p.pair.old)) p q
  pub fields : w ≡ record v { copies = slice_set v.copies k q }
  pub event : ReadsCopy origin k p q (books_of contents layers v) (books_of contents layers w)

-- it was not read, and is as it was
pub record StaysAt {B : Type 0} (k : ℕ) (p q : ChunkCopy) (v w : Kept B) : Type 0 where
  pub was : p ≡ slice_index_or v.copies k p
  pub copy : GoesTo p.stage p.buffer.items p q
  pub fields : w ≡ record v { copies = slice_set v.copies k q }

-- it was written to its place: beside the device nothing else changes
pub record WritesAt {B : Type 0} (contents : B → List ℕ) (layers : B → List Layer) (k : ℕ) (p q : ChunkCopy) (v w : Kept B) : Type 0 where
  pub copy : GoesTo Written p.buffer.items p q
  pub fields : w ≡ record v { device = w.device; copies = slice_set v.copies k q }
  pub event : WritesCopy k p q (books_of contents layers v) (books_of contents layers w)

-- a copy that waits to be read, to this place
abbrev pub started : ℕ → ℕ → ℕ → Vec ℕ → ChunkCopy
started number chunk place buffer = record { number = number; pair = record { old = chunk; new = place }; stage = Waiting; buffer = buffer }

-- copy p is started: it is the last, its pair is the last that the store began, and the next place is past its own
pub record StartsAt {B : Type 0} (contents : B → List ℕ) (layers : B → List Layer) (p : ChunkCopy) (v w : Kept B) : Type 0 where
  pub fields : w ≡ record v { next = stepped v.state.chunk (v.next + 1); begun = v.begun ++ p.pair ∷ []; copies = v.copies ++ p ∷ []; room = v.room - 1 }
  pub event : StartsCopy p (books_of contents layers v) (books_of contents layers w)

-- and for a merge: with the buffer that is kept for that, in one of the places that are kept back
pub record StartsMerging {B : Type 0} (contents : B → List ℕ) (layers : B → List Layer) (p : ChunkCopy) (v w : Kept B) : Type 0 where
  pub fields : w ≡ record v { next = stepped v.state.chunk (v.next + 1); begun = v.begun ++ p.pair ∷ []; copies = v.copies ++ p ∷ []; kept_back = v.kept_back - 1; spare = false; merging = Some p.number }
  pub event : StartsCopy p (books_of contents layers v) (books_of contents layers w)
