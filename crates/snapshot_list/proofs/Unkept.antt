-- What the snapshots keep back for a merge is all that changes of them.
use Rattle.std.proofs.Common.{◌≡◌, ℕ, Bool, true, false, nat_eq, refl, ◌*◌, ◌/◌, if◌then◌else◌}
use Rattle.std.specs.Prelude.{◌&&◌, not, max}
use Rattle.snapshot.specs.Kept.{Kept}
use Rattle.snapshot_list.specs.Keeping.{unkept, kept_back, kept_for}

pub kept_unkept : {B : Type 0} (number count chunk : ℕ) (s : Kept B) → unkept (kept_for number count chunk s) ≡ unkept s
kept_unkept number count chunk s = by_test (s.live && not (nat_eq s.number number))
  where
    by_test : (b : Bool) → unkept (if b then kept_back (count * max 1 (chunk / s.state.chunk)) s else s) ≡ unkept s
    by_test true = refl
    by_test false = refl
