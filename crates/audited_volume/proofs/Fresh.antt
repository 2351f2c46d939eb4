-- A snapshot over a fresh store is noted with what the origin shows.
use Rattle.std.proofs.Common.{◌≡◌, ℕ, List, Bool, true, length, None, sym, ◌∙◌, ap}
use Rattle.std.specs.Option.{is_some}
use Rattle.device.specs.Layers.{Layer}
use Rattle.snapshot.specs.Opening.{shown_array}
use Rattle.snapshot.specs.declared.opening.StoreDev.{StoreDev}
use Rattle.volume.specs.Shown.{shown_origin}
use Rattle.volume.specs.Fresh.{is_fresh}
use Rattle.volume.specs.Leaving.{is_quiet_of}
use Rattle.volume.specs.Taking.{attach_refusal}
use Rattle.volume.specs.Volumed.{Volumed, plain_of}
use Rattle.volume.proofs.Attaches.{none_begun, taking_none}
use Rattle.volume.proofs.Fresh.{fresh_shown}

module _ {B : Type 0} (contents : B → List ℕ) (layers : B → List Layer) (store : StoreDev B) (chunk : ℕ) (v : Volumed B) where
  pub fresh_taken : attach_refusal store.stale chunk v ≡ None → (fresh : Bool) → fresh ≡ is_fresh (contents store.device) → fresh ≡ true → shown_array (contents v.origin) (contents store.device) ≡ (plain_of contents layers v).origin
  fresh_taken admitted fresh is on =
      let (quiet, few, alone) = taking_none store.stale (is_some v.merge) (is_quiet_of v) (length v.snaps) v.attached chunk admitted in
      fresh_shown (contents v.origin) (contents store.device) (sym is ∙ on) ∙ sym (ap (shown_origin contents v.origin) (none_begun v.merge alone))
