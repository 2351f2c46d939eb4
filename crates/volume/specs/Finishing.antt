-- When a merge is taken out of its volume. The order of the refusals is this project's own.
use Rattle.std.specs.Prelude.{◌≡◌, Bool, false, map, Option, Some, None, if◌then◌else◌}
use Rattle.sector.specs.declared.refusal.Refusal.{Refusal}
use Rattle.sector.specs.declared.refusal.Refusal.TheVariants.{NotQuiet, NotFinished}
use Rattle.snapshot.specs.declared.opening.StoreDev.{StoreDev}
use Rattle.merge.specs.Due.{is_finished_of}
use Rattle.merge.specs.Merging.{Merging}
use Rattle.snapshot_list.specs.Keeping.{unkept}
use Rattle.volume.specs.Volumed.{Volumed}
use Rattle.volume.specs.Leaving.{is_quiet_of}

-- why a merge is not taken out: it is not begun, or has a pair or a group left, or its volume is not quiet
abbrev pub finish_with : {B : Type 0} → Option (Merging B) → Bool → Option Refusal
finish_with None quiet = Some NotFinished
finish_with (Some m) quiet = if is_finished_of m then (if quiet then None else Some NotQuiet) else Some NotFinished

abbrev pub finish_refusal : {B : Type 0} → Volumed B → Option Refusal
finish_refusal v = finish_with v.merge (is_quiet_of v)

-- the merge is taken out, with its store, which is not stale, and no snapshot keeps anything back
pub record IsTakenOut {B : Type 0} (old new : Volumed B) (store : StoreDev B) : Type 0 where
  pub merge : Merging B
  pub was : old.merge ≡ Some merge
  pub device : store.device ≡ merge.device
  pub stale : store.stale ≡ false
  pub becomes : new ≡ record old { snaps = map unkept old.snaps; merge = None }
