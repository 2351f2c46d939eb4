-- Devices without layers: the machine whose devices never fail (`Faultless`).
use Rattle.std.specs.Prelude.{◌≡◌, ℕ, Bool, true, false, List, [], ◌∷◌}
use Rattle.plain_machine.specs.declared.request.Overflowing.{Overflowing}
use Rattle.plain_machine.specs.Plain.{Saved, Live, Invalid}
use Rattle.whole_commands.specs.Faultless.{Snap as Plainly, Settled}
use Rattle.whole_commands.specs.Snaps.{Snap, Volume}

abbrev pub is_live : Saved → Bool
is_live (Live array) = true
is_live Invalid = false

-- a snapshot of that machine under a number, which may overflow or not: no write of the origin asks
abbrev pub bare : ℕ → Overflowing → Plainly → Snap
bare number overflow t = record { number = number; chunk = t.chunk; live = is_live t.saved; overflow = overflow; stale = false; store = record { bytes = t.store; layers = [] } }

-- the same snapshots, one by one
abbrev pub AreBare : List Snap → List Plainly → Type 0
AreBare [] [] = Unit {0}
AreBare [] (t ∷ ts) = ⊥
AreBare (s ∷ ss) [] = ⊥
AreBare (s ∷ ss) (t ∷ ts) = (s ≡ bare s.number s.overflow t) × AreBare ss ts

-- a volume without layers that is one of that machine
pub record IsBare (v : Volume) (w : Settled) : Type 0 where
  pub origin : v.origin ≡ record { bytes = w.disk; layers = [] }
  pub snaps : AreBare v.snaps w.snaps
