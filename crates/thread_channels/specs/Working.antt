-- What a worker does.
use Rattle.std.specs.Prelude.{◌≡◌, List, [], ◌∷◌, ◌++◌, map}
use Rattle.thread_channels.specs.Balance.{IsLeft}
use Rattle.thread_channels.specs.Passes.{Passed, passed, with_taken}
use Rattle.thread_channels.specs.declared.ticket.Ticket.{Ticket}
use Rattle.thread_channels.specs.declared.ticket.Ticket.TheVariants.{Copy, Stop}
use Rattle.thread_channels.specs.declared.ticket.PendingCopy.{PendingCopy}
use Rattle.thread_channels.specs.declared.worker.WorkerEnd.{WorkerEnd}
use Rattle.thread_channels.specs.declared.worker.WorkerEnd.TheVariants.{Stopped, NoTicket}

-- tickets were put, and none was taken
abbrev pub HasPut : Passed → Passed → Type 0
HasPut p q = (more : List Ticket) × (q ≡ passed p.queue p.parts (p.put ++ more) p.taken)

-- the worker took the word to stop; or nothing, where it found the queue empty, so that the pass with every part knows that
-- what was put was taken
abbrev pub IsEnded : WorkerEnd → Passed → Passed → Type 0
IsEnded Stopped p q = q ≡ with_taken Stop p
IsEnded NoTicket p q = (q ≡ p) × (p.parts ≡ 1024 → IsLeft p.put p.taken [])

module _ {C : Type 0} (does : C → PendingCopy → C → Type 0) where
  -- one ticket was taken, and its copy was done
  abbrev pub HasDone : Passed → C → Passed → C → Type 0
  HasDone p c q d = (copy : PendingCopy) × does c copy d × HasPut (with_taken (Copy copy) p) q

  -- these copies were done, in this order
  abbrev pub AreDone : List PendingCopy → C → C → Type 0
  AreDone [] c d = c ≡ d
  AreDone (copy ∷ copies) c e = (d : C) × does c copy d × AreDone copies d e

  -- the tickets taken are those of these copies, and each of them was done, in this order
  abbrev pub HasWorked : Passed → C → Passed → C → Type 0
  HasWorked p c q d = (copies : List PendingCopy) × (more : List Ticket) × AreDone copies c d × (q ≡ passed p.queue p.parts (p.put ++ more) (p.taken ++ map Copy copies))

  -- the same, and then the worker ended
  abbrev pub IsWorked : WorkerEnd → Passed → C → Passed → C → Type 0
  IsWorked ended p c q d = (last : Passed) × HasWorked p c last d × IsEnded ended last q
