-- What was put is what was taken and what is left. The choice of words is this project's.
use Rattle.std.specs.Prelude.{◌≡◌, ℕ, ◌+◌, ◌≤◌, List, [], ◌∷◌, ◌++◌, length}
use mathlib.Core.Option.{some}
use lib.ListN.{get_elem?}
use Rattle.thread_channels.specs.declared.ticket.Ticket.{Ticket}
use Rattle.thread_channels.specs.declared.rule.Hand.{Hand}

abbrev pub hand : ℕ → List Ticket → List Ticket → Hand
hand parts put taken = record { parts = parts; put = put; taken = taken }

-- the weights of the tickets, added up
abbrev pub weigh : (Ticket → ℕ) → List Ticket → ℕ
weigh h [] = 0
weigh h (x ∷ xs) = h x + weigh h xs

-- the same tickets stand in both lists, each as often: however tickets are weighed, both weigh the same
abbrev pub AreAsOften : List Ticket → List Ticket → Type 0
AreAsOften xs ys = (h : Ticket → ℕ) → weigh h xs ≡ weigh h ys

-- what was taken or is left is what was put, and no more is left than the queue holds
abbrev pub IsLeft : List Ticket → List Ticket → List Ticket → Type 0
IsLeft put taken left = AreAsOften put (taken ++ left) × (length left ≤ 512)

-- f of each, added up
abbrev pub total : (Hand → ℕ) → List Hand → ℕ
total f [] = 0
total f (v ∷ vs) = f v + total f vs

-- a pass with no part has put and taken nothing
abbrev pub IdleIsEmpty : List Hand → Type 0
IdleIsEmpty views = (port : ℕ) (v : Hand) → get_elem? views port ≡ some v → v.parts ≡ 0 → (v.put ≡ []) × (v.taken ≡ [])

-- the rule of the queue: what all passes put is what they took and what the queue holds, and they have all parts
abbrev pub Balanced : List Ticket → List Hand → Type 0
Balanced items views =
    (total (λ v. v.parts) views ≡ 1024)
    × ((h : Ticket → ℕ) → total (λ v. weigh h v.put) views ≡ total (λ v. weigh h v.taken) views + weigh h items)
    × IdleIsEmpty views
    × (length items ≤ 512)
