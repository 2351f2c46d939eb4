-- Nodes that lead to one another. A node stands at the place of its pair's slot.
use Rattle.std.specs.Prelude.{◌≡◌, ◌==◌, ℕ, zero, suc, ◌%◌, ◌^◌, ◌<◌, List, length, map, if◌then◌else◌, slice_index_or}
use Rattle.sector.specs.declared.pair.Pair.{Pair}
use Rattle.exception_arena.specs.declared.link.Link.{Link}
use Rattle.exception_arena.specs.declared.node.Node.{Node}

-- the link that leads nowhere
abbrev pub nowhere : Link
nowhere = record { code = 0 }

-- the link to the node at a place
abbrev pub to : ℕ → Link
to i = record { code = suc i }

-- the node at a place
abbrev pub node_at : List Node → ℕ → Node
node_at nodes i = slice_index_or nodes i (record { old = 0; new = 0; next = nowhere })

-- a node's pair
abbrev pub pair_of : Node → Pair
pair_of node = record { old = node.old; new = node.new }

-- the pairs of nodes
abbrev pub pairs_on : List Node → List Pair
pairs_on nodes = map pair_of nodes

-- the head of a bucket
abbrev pub head_at : List Link → ℕ → Link
head_at heads b = slice_index_or heads b nowhere

-- the link to the newest of the first k nodes whose old chunk belongs into bucket b of so many
abbrev pub newest : List Node → ℕ → ℕ → ℕ → Link
newest nodes buckets b zero = nowhere
newest nodes buckets b (suc k) = if (node_at nodes k).old % buckets == b then to k else newest nodes buckets b k

-- the first k nodes hang in chains: each bucket's head leads to its newest one, and each of them to the newest before it
-- that belongs into its bucket
pub record AreHung (nodes : List Node) (heads : List Link) (k : ℕ) : Type 0 where
  pub starts : (b : ℕ) → b < length heads → head_at heads b ≡ newest nodes (length heads) b k
  pub nexts : (i : ℕ) → i < k → (node_at nodes i).next ≡ newest nodes (length heads) ((node_at nodes i).old % length heads) i

-- both chunks of a pair are below 2^32
pub record IsSmall (pair : Pair) : Type 0 where
  pub old : pair.old < 2 ^ 32
  pub new : pair.new < 2 ^ 32
