-- What devices count, and which snapshots are live, where one snapshot changes.
use Rattle.std.proofs.Common.{◌≡◌, ℕ, suc, ◌<◌, true, false, List, ◌∷◌, length, get_or, set, map, refl, sym, ◌∙◌, ap, arith, ◌++◌, [], Option, Some, None, length-append}
use Rattle.std.proofs.lemmas.List.{map-set, length-map, get_or-map, set-append_left}
use Rattle.std.proofs.Math.Seq.{map-set_same}
use Rattle.sector.specs.Bytes.{next_count}
use Rattle.in_flight.specs.declared.flights.Flight.{Flight}
use Rattle.snapshot.specs.Kept.{Kept}
use Rattle.volume.specs.Volumed.{Volumed}
use Rattle.snapshot_list.specs.Numbers.{number_of_snap}
use Rattle.volume.specs.Stepping.{KeepsAll}
use Rattle.volume.specs.Causes.{counts_of, counted, lives_of, counts_with}
use Rattle.volume.proofs.Changing.{changed}
use Rattle.std.proofs.Math.ListN.{get_or-append}
use Rattle.merge.specs.Merging.{Merging}

-- one of the devices beside the merging store counted
pub counted_among : {B : Type 0} (count : B → ℕ) (m : Option (Merging B)) (k : ℕ) (xs : List ℕ) → k < length xs → counts_with count m (counted k xs) ≡ counted k (counts_with count m xs)
counted_among count None k xs lt = refl
counted_among count (Some m) k xs lt =
    sym (set-append_left xs (count m.device ∷ []) k (next_count (get_or xs k 0)) lt)
    ∙ ap (λ n. set (xs ++ count m.device ∷ []) k (next_count n)) (sym (get_or-append xs (count m.device ∷ []) 0 k lt))

pub within_among : {B : Type 0} (count : B → ℕ) (m : Option (Merging B)) (k : ℕ) (xs : List ℕ) → k < length xs → k < length (counts_with count m xs)
within_among count None k xs lt = lt
within_among count (Some m) k xs lt = omega (arith, lt, length-append xs (count m.device ∷ []))

-- the first is the origin disk's
pub head_counted : {B : Type 0} (count : B → ℕ) (m : Option (Merging B)) (n : ℕ) (ns : List ℕ) → get_or (counts_with count m (n ∷ ns)) 0 0 ≡ n
head_counted count None n ns = refl
head_counted count (Some m) n ns = refl

module _ {B : Type 0} (v : Volumed B) (o' : B) (k : ℕ) (s s' : Kept B) (flights : List Flight) (within : k < length v.snaps) (is : s ≡ get_or v.snaps k s) where
  abbrev after : Volumed B
  after = changed v o' k s' flights

  module _ (count : B → ℕ) where
    abbrev of_store : Kept B → ℕ
    of_store x = count x.device

    -- no device counted
    pub counts_same : count o' ≡ count v.origin → count s'.device ≡ count s.device → counts_of count after ≡ counts_of count v
    counts_same origin store = ap (counts_with count v.merge) (ap (λ n. n ∷ map (λ (x : Kept B). count x.device) (set v.snaps k s')) origin
        ∙ ap (λ xs. count v.origin ∷ xs) (map-set_same (λ (x : Kept B). count x.device) v.snaps k s' s (store ∙ ap (λ (x : Kept B). count x.device) is)))

    -- the origin disk counted
    pub counts_origin : count o' ≡ next_count (count v.origin) → count s'.device ≡ count s.device → counts_of count after ≡ counted 0 (counts_of count v)
    counts_origin origin store = ap (counts_with count v.merge) (ap (λ n. n ∷ map (λ (x : Kept B). count x.device) (set v.snaps k s')) origin
        ∙ ap (λ xs. next_count (count v.origin) ∷ xs) (map-set_same (λ (x : Kept B). count x.device) v.snaps k s' s (store ∙ ap (λ (x : Kept B). count x.device) is)))
        ∙ counted_among count v.merge 0 (count v.origin ∷ map (λ (x : Kept B). count x.device) v.snaps) (omega arith)

    -- the snapshot's store counted
    pub counts_store : count o' ≡ count v.origin → count s'.device ≡ next_count (count s.device) → counts_of count after ≡ counted (suc k) (counts_of count v)
    counts_store origin store =
        let was : get_or (map (λ (x : Kept B). count x.device) v.snaps) k 0 ≡ count s.device = get_or-map (λ (x : Kept B). count x.device) v.snaps k s 0 within ∙ ap (λ (x : Kept B). count x.device) (sym is) in
        ap (counts_with count v.merge) (ap (λ n. n ∷ map (λ (x : Kept B). count x.device) (set v.snaps k s')) origin
        ∙ ap (λ xs. count v.origin ∷ xs) (map-set (λ (x : Kept B). count x.device) v.snaps k s' ∙ ap (set (map (λ (x : Kept B). count x.device) v.snaps) k) (store ∙ ap next_count (sym was))))
        ∙ counted_among count v.merge (suc k) (count v.origin ∷ map (λ (x : Kept B). count x.device) v.snaps) (omega (arith, within, length-map v.snaps (λ (x : Kept B). count x.device)))

    pub origin_within : 0 < length (counts_of count v)
    origin_within = within_among count v.merge 0 (count v.origin ∷ map (λ (x : Kept B). count x.device) v.snaps) (omega arith)

    pub store_within : suc k < length (counts_of count v)
    store_within = within_among count v.merge (suc k) (count v.origin ∷ map (λ (x : Kept B). count x.device) v.snaps) (omega (arith, within, length-map v.snaps (λ (x : Kept B). count x.device)))

  pub lives_same : s'.live ≡ s.live → lives_of after ≡ lives_of v
  lives_same same = map-set_same (λ (x : Kept B). x.live) v.snaps k s' s (same ∙ ap (λ (x : Kept B). x.live) is)

  pub lives_spoiled : s'.live ≡ false → lives_of after ≡ set (lives_of v) k false
  lives_spoiled dead = map-set (λ (x : Kept B). x.live) v.snaps k s' ∙ ap (set (lives_of v) k) dead

  pub lived : s.live ≡ true → get_or (lives_of v) k false ≡ true
  lived live = get_or-map (λ (x : Kept B). x.live) v.snaps k s false within ∙ ap (λ (x : Kept B). x.live) (sym is) ∙ live

  -- what no event changes
  pub kept_numbers : s'.number ≡ s.number → map number_of_snap (set v.snaps k s') ≡ map number_of_snap v.snaps
  kept_numbers number = map-set_same number_of_snap v.snaps k s' s (number ∙ ap number_of_snap is)

  pub kept_chunks : s'.state.chunk ≡ s.state.chunk → map (λ (x : Kept B). x.state.chunk) (set v.snaps k s') ≡ map (λ (x : Kept B). x.state.chunk) v.snaps
  kept_chunks chunk = map-set_same (λ (x : Kept B). x.state.chunk) v.snaps k s' s (chunk ∙ ap (λ (x : Kept B). x.state.chunk) is)

pub kept_changed : {B : Type 0} (size : B → ℕ) (v : Volumed B) (o' : B) (k : ℕ) (s s' : Kept B) (flights : List Flight) → k < length v.snaps → s ≡ get_or v.snaps k s → size o' ≡ size v.origin → size s'.device ≡ size s.device → s'.number ≡ s.number
    → s'.state.chunk ≡ s.state.chunk → KeepsAll size v (changed v o' k s' flights)
kept_changed size v o' k s s' flights within is origin store number chunk = record {
  attached = refl;
  numbers = kept_numbers v o' k s s' flights within is number;
  chunks = kept_chunks v o' k s s' flights within is chunk;
  merged = refl;
  sizes = counts_same v o' k s s' flights within is size origin store;
}
