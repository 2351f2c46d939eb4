-- A volume without snapshots, merge and requests.
use Rattle.std.proofs.Common.{◌≡◌, ℕ, List, [], Option, None, Some, true, false, length, map, refl, sym}
use Rattle.std.specs.Prelude.{not}
use Rattle.std.specs.Option.{is_some}
use Rattle.std.proofs.lemmas.Bool.{and_parts, eqb-true, true≢false}
use Rattle.std.proofs.lemmas.List.{nil_from_length}
use Rattle.device.specs.Layers.{Layer}
use Rattle.volume_laws.specs.Published.{is_clear}
use Rattle.snapshot.specs.Kept.{Kept, books_of as snap_books}
use Rattle.volume.specs.Leaving.{is_quiet_of}
use Rattle.volume.specs.Lent.{is_bare}
use Rattle.volume.specs.Volumed.{Volumed}

pub record IsBare {B : Type 0} (v : Volumed B) : Type 0 where
  pub none : v.snaps ≡ []
  pub alone : v.merge ≡ None
  pub quiet : is_quiet_of v ≡ true

nothing : {A : Type 0} (x : Option A) → not (is_some x) ≡ true → x ≡ None
nothing None e = refl
nothing (Some a) e = absurd (true≢false (sym e))

pub bare : {B : Type 0} (v : Volumed B) → is_bare v ≡ true → IsBare v
bare v e =
    let a = and_parts _ _ e in
    let b = and_parts _ _ a.1 in
    record { none = nil_from_length v.snaps (eqb-true (length v.snaps) 0 a.0); alone = nothing v.merge b.0; quiet = b.1 }

-- each of no snapshots has published any chunk
pub bare_clear : {B : Type 0} (contents : B → List ℕ) (layers : B → List Layer) (snaps : List (Kept B)) (first : ℕ) → snaps ≡ [] → is_clear (map (snap_books contents layers) snaps) first ≡ true
bare_clear contents layers snaps first none = rw none refl
