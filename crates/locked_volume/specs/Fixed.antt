-- What a rig leaves of a volume as it was. This project's own.
use Rattle.std.specs.Prelude.{◌≡◌, ◌⊎◌, ◌+◌, ◌<◌, ℕ, Bool, List, [], ◌∷◌, Option, None, Some, length, map, min, slice_index, slice_index_or}
use Rattle.std.specs.List.{remove}
use Rattle.device.specs.Layers.{Layer}
use Rattle.snapshot_list.specs.Numbers.{number_of_snap}
use Rattle.plain_machine.specs.Plain.{Shown}
use Rattle.volume.specs.Stepping.{merged_of}
use Rattle.volume.specs.Volumed.{is_loud_in_all}
use Rattle.audited_volume.specs.declared.entry.Entry.{Entry}
use Rattle.audited_volume.specs.Books.{AuditShape}
use Rattle.audited_volume.specs.Entries.{entries_by}

-- attached: how many snapshots were ever attached; sectors: of the origin; numbers, chunks: of the snapshots in order of
-- attaching, but for the one that is being merged, and merged: of that one; sound: whether no device drops writes; loud:
-- whether none did since the journal began; base: what its entries are replayed on; taken: how many places of the journal were taken
-- before it began; folded: of each seat, how many of its request entries checkpoints folded into the base.
pub record Fixed : Type 0 where
  pub attached : ℕ
  pub sectors : ℕ
  pub numbers : List ℕ
  pub chunks : List ℕ
  pub merged : Option (ℕ × ℕ)
  pub sound : Bool
  pub loud : Bool
  pub base : Shown
  pub taken : ℕ
  pub folded : List ℕ

abbrev pub fixed_of : {B : Type 0} → (B → ℕ) → (B → List Layer) → AuditShape B → Fixed
fixed_of size layers a = record {
  attached = a.volume.attached;
  sectors = size a.volume.origin;
  numbers = map number_of_snap a.volume.snaps;
  chunks = map (λ s. s.state.chunk) a.volume.snaps;
  merged = merged_of a.volume.merge;
  sound = is_loud_in_all layers a.volume;
  loud = a.loud;
  base = a.base;
  taken = a.taken;
  folded = a.folded;
}

-- the least of these sizes, and that of the largest chunk where there is none
abbrev pub least_of : List ℕ → ℕ
least_of [] = 1024
least_of (chunk ∷ chunks) = min chunk (least_of chunks)

-- the sectors of a piece: those of the least chunk of the snapshots, the one that is being merged among them
abbrev pub piece_in : Option (ℕ × ℕ) → List ℕ → ℕ
piece_in None chunks = least_of chunks
piece_in (Some m) chunks = min m.1 (least_of chunks)

abbrev pub piece_at : Fixed → ℕ
piece_at g = piece_in g.merged g.chunks

-- how many request entries a seat had when the journal had these, with those that a checkpoint folded
abbrev pub count_at : Fixed → List Entry → ℕ → ℕ
count_at g entries seat = slice_index_or g.folded seat 0 + length (entries_by seat entries)

-- the same snapshots, and the same one of them is being merged, if one is
abbrev pub HasSame : Fixed → Fixed → Type 0
HasSame f g = (g.numbers ≡ f.numbers) × (g.chunks ≡ f.chunks) × (g.merged ≡ f.merged)

-- the same snapshots, of which none was being merged, and one is now
abbrev pub HasBegun : Fixed → Fixed → Type 0
HasBegun f g =
    (f.merged ≡ None)
    × ((k : ℕ) × (k < length f.numbers) × (g.numbers ≡ remove f.numbers k) × (g.chunks ≡ remove f.chunks k) × (g.merged ≡ Some (slice_index f.numbers k, slice_index f.chunks k)))

-- What was so is so still, but that a merge of one of the snapshots may have begun.
pub record StaysFrom (f g : Fixed) : Type 0 where
  pub attached : g.attached ≡ f.attached
  pub sectors : g.sectors ≡ f.sectors
  pub snaps : HasSame f g ⊎ HasBegun f g
  pub sound : g.sound ≡ f.sound
  pub loud : g.loud ≡ f.loud
  pub base : g.base ≡ f.base
  pub taken : g.taken ≡ f.taken
  pub folded : g.folded ≡ f.folded
  pub piece : piece_at g ≡ piece_at f
