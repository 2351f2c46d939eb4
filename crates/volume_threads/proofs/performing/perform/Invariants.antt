-- The request is in flight still.
use Rattle.std.proofs.Common.{◌≡◌, ◌<◌, length, [], ◌∷◌}
use Rattle.locked_volume.specs.Keeping.{Begins}
use Rattle.volume_threads.proofs.performing.perform.Given as goal

abbrev pub invariant-loop : goal.invariant-loop
invariant-loop g l =
    (l.sitting.volume ≡ l.fn.sitting.volume) × (l.sitting.seat ≡ l.fn.sitting.seat) × (l.sitting.receipts ≡ l.fn.sitting.receipts)
    × (l.sitting.waits ≡ record { number = l.number; seat = l.fn.sitting.seat; request = l.fn.request } ∷ [])
    × (length l.sitting.receipts < l.sitting.room) × Begins l.fn.sitting.seen l.sitting.seen
