-- What an arena's fields stand for, and what is true of them.
use Rattle.std.specs.Prelude.{ℕ, ◌+◌, ◌^◌, ◌<◌, ◌≤◌, List, length}
use Rattle.std.specs.List.{All}
use Rattle.exception_arena.specs.Kept.{Kept}
use Rattle.exception_arena.specs.Links.{pair_of, pairs_on, AreHung, IsSmall}
use Rattle.exception_arena.specs.declared.begun.Begun.{Begun}
use Rattle.exception_arena.specs.declared.link.Link.{Link}
use Rattle.exception_arena.specs.declared.node.Node.{Node}

-- so many nodes more have room without more memory, a bucket each, and links of 32 bits are enough for them
pub record HasRoom (nodes : List Node) (heads : List Link) (more capacity : ℕ) : Type 0 where
  pub room : length nodes + more ≤ capacity
  pub buckets : length nodes + more ≤ length heads
  pub places : length nodes + more < 2 ^ 32

-- The pending pairs: so many more may begin without more memory. Each number is given once, and `next` is the next one.
pub record ArePending (pending : List Begun) (next reserved capacity : ℕ) : Type 0 where
  pub room : length pending + reserved ≤ capacity
  pub numbers : next + reserved < 2 ^ 64
  pub given : All (λ begun. begun.id < next) pending
  pub small : All (λ begun. IsSmall begun.pair) pending

-- what is true of every arena
pub record IsSound (nodes : List Node) (heads : List Link) (pending : List Begun) (next reserved nodes_capacity pending_capacity : ℕ) : Type 0 where
  pub hung : AreHung nodes heads (length nodes)
  pub room : HasRoom nodes heads (length pending + reserved) nodes_capacity
  pub begun : ArePending pending next reserved pending_capacity

-- what it stands for
abbrev pub kept : List Node → List Begun → ℕ → List ℕ → Kept
kept nodes pending reserved memory = record { committed = pairs_on nodes; pending = pending; reserved = reserved; memory = memory }
