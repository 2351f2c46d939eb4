-- What contracts see of a queue and of a pass.
use Rattle.std.specs.Prelude.{ℕ, List, [], ◌∷◌, ◌++◌}
use Rattle.atomic_table.specs.Seated.{TableId}
use Rattle.atomic_table.specs.declared.badge.Badge.{Badge}
use Rattle.crossbeam_channel.specs.declared.flavors.array.Key.{Key}
use Rattle.crossbeam_channel.specs.declared.flavors.array.Rows.{Rows}
use Rattle.crossbeam_channel.specs.Claims.{view}
use Rattle.crossbeam_channel.specs.Claims as claims
use Rattle.thread_channels.specs.declared.ticket.Ticket.{Ticket}
use Rattle.thread_channels.specs.declared.rule.Hand.{Hand}

-- which queue it is, by the names that the channel gives itself
pub record Queue : Type 0 where
  pub table : TableId
  pub key : Badge (Key Ticket)

-- what a pass put into its queue and took from it, and its parts of the right to know the whole
pub record Passed : Type 0 where
  pub queue : Queue
  pub parts : ℕ
  pub put : List Ticket
  pub taken : List Ticket

abbrev pub passed : Queue → ℕ → List Ticket → List Ticket → Passed
passed queue parts put taken = record { queue = queue; parts = parts; put = put; taken = taken }

-- the pass has put one ticket more
abbrev pub with_put : Ticket → Passed → Passed
with_put ticket p = passed p.queue p.parts (p.put ++ ticket ∷ []) p.taken

-- the pass has taken one ticket more
abbrev pub with_taken : Ticket → Passed → Passed
with_taken ticket p = passed p.queue p.parts p.put (p.taken ++ ticket ∷ [])

-- the queue of a channel
abbrev pub queue_of : {D Q M L A : Type 0} → Rows (Badge (Key Ticket)) D Q M (Key Ticket) L A → Queue
queue_of c = record { table = c.stamps.shared.table_id; key = c.stamps.shared.key }

-- what a pass of the channel says
abbrev pub passed_of : claims.Pass Ticket Hand → Passed
passed_of p = passed (record { table = p.table_id; key = p.me.0.of }) (view p).parts (view p).put (view p).taken
