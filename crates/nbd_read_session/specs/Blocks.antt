-- To be believed: what a client is told of blocks, by doc/proto.md of the NBD project: "Block status chunk" and the context
-- "base:allocation", and by docs/interop/nbd.rst of QEMU: "qemu:dirty-bitmap". That a block is told as zeros just where all its
-- bytes are zeros, and that one range is told at a time, is this project's choice where those pages leave it open.
use Rattle.std.specs.Prelude.{◌==◌, ℕ, zero, suc, ◌+◌, Bool, true, false, not, List, length, take, drop, Option, None, Some, if◌then◌else◌}
use Rattle.std.specs.List.{list_all}

-- the bytes of a block, which are counted from a request's offset
abbrev pub block : ℕ
block = 4096

-- all bytes are zeros
abbrev pub is_blank : List ℕ → Bool
is_blank bytes = list_all (λ x. x == 0) bytes

-- whether two blocks are of the same kind
abbrev pub same_kind : Bool → Bool → Bool
same_kind here kind = if here then kind else not kind

-- how many bytes at the front, in so many blocks at most, have blocks of this kind
unfoldable pub alike : ℕ → Bool → List ℕ → ℕ
alike zero kind bytes = 0
alike (suc blocks) kind bytes =
    if same_kind (is_blank (take block bytes)) kind then length (take block bytes) + alike blocks kind (drop block bytes) else 0

-- the most blocks that are told of at once: 32 MiB
unfoldable pub most_blocks : ℕ
most_blocks = 8192

-- the bytes that a request asks about
abbrev pub asked_bytes : ℕ → ℕ → List ℕ → List ℕ
asked_bytes offset len bytes = take len (drop offset bytes)

-- whether the first block is zeros, and how many bytes from there on are the same
abbrev pub first_kind : List ℕ → Bool
first_kind bytes = is_blank (take block bytes)

abbrev pub first_alike : List ℕ → ℕ
first_alike bytes = alike most_blocks (first_kind bytes) bytes

-- the state of a range: 2 where it reads as zeros, else 0
abbrev pub state_of : Bool → ℕ
state_of true = 2
state_of false = 0

-- what an export shows: its bytes, and which of them are marked
pub record Array : Type 0 where
  pub bytes : List ℕ
  pub marks : ℕ → Bool

-- How many bytes from one on, at most so many, are marked, or are not.
unfoldable pub marked_for : (ℕ → Bool) → Bool → ℕ → ℕ → ℕ
marked_for marks kind zero at = 0
marked_for marks kind (suc most) at = if same_kind (marks at) kind then suc (marked_for marks kind most (at + 1)) else 0

-- the state of a range in a bitmap: 1 where it is marked, else 0
abbrev pub mark_of : Bool → ℕ
mark_of true = 1
mark_of false = 0
