-- The devices that a stopped volume leaves. Their order is this project's own.
use Rattle.std.specs.Prelude.{Bool, true, false, nat_lt, List, [], ◌∷◌, Option, Some, None, map, if◌then◌else◌}
use Rattle.snapshot.specs.Kept.{Kept}
use Rattle.merge.specs.Merging.{Merging}
use Rattle.volume.specs.Volumed.{Volumed}

-- The stores in order of attaching: that of a merge stands where the number of its snapshot is.
abbrev pub stores_by : {B : Type 0} → List (Kept B) → Option (Merging B) → List B
stores_by snaps None = map (λ s. s.device) snaps
stores_by [] (Some m) = m.device ∷ []
stores_by (s ∷ snaps) (Some m) =
    if nat_lt m.number s.number then m.device ∷ map (λ x. x.device) (s ∷ snaps) else s.device ∷ stores_by snaps (Some m)

-- the origin's first
abbrev pub devices_of : {B : Type 0} → Volumed B → List B
devices_of v = v.origin ∷ stores_by v.snaps v.merge

-- those that are left to take
abbrev pub devices_left : {B : Type 0} → Option B → List (Kept B) → Option (Merging B) → List B
devices_left (Some origin) snaps merge = origin ∷ stores_by snaps merge
devices_left None snaps merge = stores_by snaps merge

-- whether the store of a merge comes next
abbrev pub is_merge_next : {B : Type 0} → List (Kept B) → Option (Merging B) → Bool
is_merge_next snaps None = false
is_merge_next [] (Some m) = true
is_merge_next (s ∷ snaps) (Some m) = nat_lt m.number s.number
