-- A volume of which nothing is merged.
use Rattle.std.proofs.Common.{◌≡◌, ℕ, Bool, List, Option, None, ap}
use Rattle.device.specs.Layers.{Layer}
use Rattle.plain_machine.specs.declared.event.Event.{Event}
use Rattle.volume_laws.specs.Due.{due_of, is_due}
use Rattle.merge.specs.Merging.{Merging}
use Rattle.snapshot_list.specs.Rooms.{merge_books}
use Rattle.volume.specs.Volumed.{Volumed, dues_of, merge_due, due_by, is_due_by, next_of, is_due_of, plain_of}
use Rattle.volume.specs.Shown.{shown_origin}

pub alone_books : {B : Type 0} (contents : B → List ℕ) (layers : B → List Layer) (loud : Bool) (m : Option (Merging B)) → m ≡ None → merge_books contents layers loud m ≡ None
alone_books contents layers loud m e = ap (merge_books contents layers loud) e

module _ {B : Type 0} (contents : B → List ℕ) (layers : B → List Layer) (v : Volumed B) (alone : v.merge ≡ None) where
  -- what is due of its snapshots and requests is what is due
  pub next_alone : next_of contents layers v ≡ due_of (dues_of contents layers v) v.flights
  next_alone = ap (λ m. due_by (dues_of contents layers v) v.flights (merge_due contents m)) alone

  pub due_alone : (event : Event) → is_due_of contents layers v event ≡ is_due (dues_of contents layers v) v.flights event
  due_alone event = ap (λ m. is_due_by (dues_of contents layers v) v.flights (merge_due contents m) event) alone

  -- the origin shows its disk's bytes
  pub origin_alone : (plain_of contents layers v).origin ≡ contents v.origin
  origin_alone = ap (shown_origin contents v.origin) alone
