-- The snapshot at a place, as callers see it.
use Rattle.std.proofs.Common.{◌≡◌, ℕ, ◌+◌, ◌*◌, ◌/◌, ◌<◌, true, false, List, length, get_or, map, Some, None, sym, ◌∙◌, ap, subst, arith}
use Rattle.std.specs.Prelude.{◌==◌}
use Rattle.std.specs.List.{remove}
use Rattle.std.proofs.lemmas.Bool.{cond-true, cond-false}
use Rattle.std.proofs.lemmas.List.{length-map, get_or-map}
use Rattle.std.proofs.lemmas.List.Quantifiers.{position-Some}
use Rattle.std.proofs.lemmas.Nat.{div-mul-add}
use Rattle.device.specs.Layers.{Layer}
use Rattle.chunk_alloc.specs.declared.usage.Usage.{Usage}
use Rattle.cow_format.specs.Pairs.{pairs_of}
use Rattle.whole_commands.specs.Saves.{next_of}
use Rattle.event_machine.specs.Held.{SnapHeld}
use Rattle.event_machine.specs.MergeRest.{IsBetween}
use Rattle.event_machine.specs.Rest.{IsKept, IsResting}
use Rattle.snapshot.specs.Kept.{Kept}
use Rattle.volume_laws.proofs.Lists.{map-remove}
use Rattle.volume.specs.Volumed.{Volumed}
use Rattle.volume.specs.Moved.{held_of, moving_of}
use Rattle.volume.specs.Whole.{IsCounted}
use Rattle.snapshot_list.specs.Finding.{place_of_snap}
use Rattle.volume.specs.Leaving.{usage_of}
use Rattle.volume_commands.specs.Rested.{Attached, Rested, attached_of, rested_of, snap_at, without}
use Rattle.volume_commands.specs.Using.{IsInUse, IsUsed}
use Rattle.volume_commands.proofs.Leaves.{at_place}

-- The snapshot of this place: a volume of events is seen as r.
module _ {B : Type 0} (v : Volumed B) (r : Rested B) (view : rested_of v ≡ r) (k : ℕ) (s : Kept B) (within : k < length r.snaps) (is : (e : Kept B) → s ≡ get_or v.snaps k e) where
  snaps_are : map attached_of v.snaps ≡ r.snaps
  snaps_are = ap (λ (x : Rested B). x.snaps) view

  pub inside : k < length v.snaps
  inside = (let len : length (map attached_of v.snaps) ≡ length v.snaps = length-map v.snaps attached_of in let same : length (map attached_of v.snaps) ≡ length r.snaps = ap length snaps_are in omega (arith, within, len, same))

  pub seen_at : (d : Attached B) → get_or r.snaps k d ≡ attached_of s
  seen_at d = ap (λ (xs : List (Attached B)). get_or xs k d) (sym snaps_are) ∙ get_or-map attached_of v.snaps k s d inside ∙ ap attached_of (sym (is s))

  -- the first with its number, and the others
  pub first_at : place_of_snap s.number v.snaps ≡ Some k → (snap_at s.number r.snaps ≡ Some (attached_of s)) × (without s.number r.snaps ≡ remove r.snaps k)
  first_at first =
      let found = position-Some (λ (x : Kept B). x.number == s.number) v.snaps k s first in
      let here = at_place s.number s v.snaps k found.0 found.1 found.2 in (
        ap (snap_at s.number) (sym snaps_are) ∙ here.0 ∙ ap (λ (x : Kept B). Some (attached_of x)) (sym (is s)),
        ap (without s.number) (sym snaps_are) ∙ here.1 ∙ map-remove attached_of v.snaps k ∙ ap (λ (xs : List (Attached B)). remove xs k) snaps_are,
      )

whole_areas : (chunk current filled count : ℕ) → count ≡ current * (32 * chunk) + filled → filled < 32 * chunk → count / (32 * chunk) ≡ current
whole_areas chunk current filled count is below = ap (λ n. n / (32 * chunk)) is ∙ div-mul-add current (32 * chunk) filled below

turned : (a b : ℕ) → a * b ≡ b * a
turned a b = grind arith

module _ {B : Type 0} (contents : B → List ℕ) (layers : B → List Layer) (size : B → ℕ) (v : Volumed B) (k : ℕ) (s : Kept B) (within : k < length v.snaps) (is : (e : Kept B) → s ≡ get_or v.snaps k e) where
  -- a live snapshot of a volume between two commands is kept as its store's bytes say
  kept_at : IsBetween (size v.origin) (moving_of contents layers None v) → s.live ≡ true → IsKept (size v.origin) (held_of contents layers s)
  kept_at between live =
      let held : List SnapHeld = map (held_of contents layers) v.snaps in
      let lt : k < length held = omega (arith, within, length-map v.snaps (held_of contents layers)) in
      let there : get_or held k (held_of contents layers s) ≡ held_of contents layers s = get_or-map (held_of contents layers) v.snaps k s (held_of contents layers s) within ∙ ap (held_of contents layers) (sym (is s)) in
      let rest : IsResting (size v.origin) (held_of contents layers s) = subst (IsResting (size v.origin)) there (between.snaps k (held_of contents layers s) lt) in
      rest.live live

  -- and so are the numbers of its status line
  pub used_at : (u : Usage) → s.live ≡ true → IsCounted s → s.state.size ≡ size s.device → u.allocated ≡ s.next * s.state.chunk → u.total ≡ s.state.size → u.metadata ≡ (s.state.current + 2) * s.state.chunk
      → IsBetween (size v.origin) (moving_of contents layers None v) → IsUsed contents size (attached_of s) u
  used_at u live counted sized allocated total metadata between =
      let kept = kept_at between live in
      let pairs : s.pairs ≡ pairs_of s.state.chunk (contents s.device) = sym kept.pairs in
      let next : s.next ≡ next_of s.state.chunk (pairs_of s.state.chunk (contents s.device)) = kept.next ∙ ap (next_of s.state.chunk) pairs in
      let areas : s.state.current ≡ length (pairs_of s.state.chunk (contents s.device)) / (32 * s.state.chunk) =
      sym (whole_areas s.state.chunk s.state.current s.state.filled (length s.pairs) counted.count (counted.fits live)) ∙ ap (λ (ps : List _). length ps / (32 * s.state.chunk)) pairs in
      record {
        allocated = allocated ∙ turned s.next s.state.chunk ∙ ap (λ n. s.state.chunk * n) next;
        total = total ∙ sized;
        metadata = metadata ∙ turned (s.state.current + 2) s.state.chunk ∙ ap (λ n. s.state.chunk * (n + 2)) areas;
      }

-- The numbers in memory of this snapshot: a volume of events is seen as r.
module _ {B : Type 0} (v : Volumed B) (r : Rested B) (view : rested_of v ≡ r) (k : ℕ) (s : Kept B) (is : (e : Kept B) → s ≡ get_or v.snaps k e) where
  usage_at : (d : Kept B) → usage_of (get_or r.events.snaps k d) ≡ usage_of s
  usage_at d = ap (λ (x : Rested B). usage_of (get_or x.events.snaps k d)) (sym view) ∙ ap usage_of (sym (is d))

  pub kept_usage : (u : Usage) → s.live ≡ true → u.allocated ≡ s.next * s.state.chunk → u.total ≡ s.state.size → u.metadata ≡ (s.state.current + 2) * s.state.chunk → (d : Kept B) → Some u ≡ usage_of (get_or r.events.snaps k d)
  kept_usage u live allocated total metadata d =
      ap (λ n. (let x : Usage = record { allocated = n; total = u.total; metadata = u.metadata } in Some x)) allocated
      ∙ ap (λ n. (let x : Usage = record { allocated = s.next * s.state.chunk; total = n; metadata = u.metadata } in Some x)) total
      ∙ ap (λ n. (let x : Usage = record { allocated = s.next * s.state.chunk; total = s.state.size; metadata = n } in Some x)) metadata
      ∙ sym (cond-true _ _ _ live) ∙ sym (usage_at d)

  pub held_usage : (size : B → ℕ) (u : Usage) → s.live ≡ true → IsCounted s → s.state.size ≡ size s.device → u.allocated ≡ s.next * s.state.chunk → u.total ≡ s.state.size → u.metadata ≡ (s.state.current + 2) * s.state.chunk
      → (d : Kept B) → IsInUse size (get_or r.events.snaps k d) u
  held_usage size u live counted sized allocated total metadata d =
      let areas = whole_areas s.state.chunk s.state.current s.state.filled (length s.pairs) counted.count (counted.fits live) in
      let here : get_or r.events.snaps k d ≡ s = ap (λ (x : Rested B). get_or x.events.snaps k d) (sym view) ∙ sym (is d) in
      subst (λ (x : Kept B). IsInUse size x u) (sym here) (record {
        allocated = allocated ∙ turned s.next s.state.chunk;
        total = total ∙ sized;
        metadata = metadata ∙ turned (s.state.current + 2) s.state.chunk ∙ ap (λ n. s.state.chunk * (n + 2)) (sym areas);
      })

  pub no_usage : s.live ≡ false → (d : Kept B) → None ≡ usage_of (get_or r.events.snaps k d)
  no_usage spoiled d = sym (cond-false _ _ _ spoiled) ∙ sym (usage_at d)
