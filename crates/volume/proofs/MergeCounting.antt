-- What devices count where the merge of a volume changes.
use Rattle.std.proofs.Common.{◌≡◌, ℕ, suc, ◌<◌, List, [], ◌∷◌, ◌++◌, Option, Some, length, get_or, set, map, refl, sym, ◌∙◌, ap, arith, length-append}
use Rattle.std.proofs.lemmas.List.{length-map}
use Rattle.sector.specs.Bytes.{next_count}
use Rattle.in_flight.specs.declared.flights.Flight.{Flight}
use Rattle.snapshot.specs.Kept.{Kept}
use Rattle.merge.specs.Merging.{Merging}
use Rattle.volume.specs.Volumed.{Volumed}
use Rattle.volume.specs.Causes.{counts_with, counts_of, counted, merging_device}
use Rattle.volume.proofs.MergeChanging.{merged_to}

set_last : (xs : List ℕ) (y z : ℕ) → set (xs ++ y ∷ []) (length xs) z ≡ xs ++ z ∷ []
set_last [] y z = refl
set_last (x ∷ xs) y z = ap (λ ys. x ∷ ys) (set_last xs y z)

last_in : (xs : List ℕ) (y : ℕ) → get_or (xs ++ y ∷ []) (length xs) 0 ≡ y
last_in [] y = refl
last_in (x ∷ xs) y = last_in xs y

module _ {B : Type 0} (v : Volumed B) (m m' : Merging B) (was : v.merge ≡ Some m) (o' : B) (flights : List Flight) where
  abbrev after : Volumed B
  after = merged_to v o' m' flights

  module _ (count : B → ℕ) where
    -- the devices beside the merging store
    abbrev others : List ℕ
    others = count v.origin ∷ map (λ (s : Kept B). count s.device) v.snaps

    counts_before : counts_of count v ≡ others ++ count m.device ∷ []
    counts_before = ap (λ (x : Option (Merging B)). counts_with count x others) was

    others_count : length others ≡ merging_device v
    others_count = ap suc (length-map v.snaps (λ (s : Kept B). count s.device))

    -- no device counted
    pub merged_same : count o' ≡ count v.origin → count m'.device ≡ count m.device → counts_of count after ≡ counts_of count v
    merged_same origin store =
        ap (λ n. n ∷ (map (λ (s : Kept B). count s.device) v.snaps ++ count m'.device ∷ [])) origin
        ∙ ap (λ n. others ++ n ∷ []) store
        ∙ sym counts_before

    -- the origin disk counted
    pub merged_disk : count o' ≡ next_count (count v.origin) → count m'.device ≡ count m.device → counts_of count after ≡ counted 0 (counts_of count v)
    merged_disk origin store =
        ap (λ n. n ∷ (map (λ (s : Kept B). count s.device) v.snaps ++ count m'.device ∷ [])) origin
        ∙ ap (λ n. next_count (count v.origin) ∷ (map (λ (s : Kept B). count s.device) v.snaps ++ n ∷ [])) store
        ∙ sym (ap (counted 0) counts_before)

    -- the merging store counted
    pub merged_store : count o' ≡ count v.origin → count m'.device ≡ next_count (count m.device) → counts_of count after ≡ counted (merging_device v) (counts_of count v)
    merged_store origin store =
        ap (λ n. n ∷ (map (λ (s : Kept B). count s.device) v.snaps ++ count m'.device ∷ [])) origin
        ∙ ap (λ n. others ++ n ∷ []) store
        ∙ sym (ap (λ n. counted n (counts_of count v)) (sym others_count)
        ∙ ap (counted (length others)) counts_before
        ∙ ap (λ n. set (others ++ count m.device ∷ []) (length others) (next_count n)) (last_in others (count m.device))
        ∙ set_last others (count m.device) (next_count (count m.device)))

    pub disk_within : 0 < length (counts_of count v)
    disk_within = omega (arith, ap length counts_before)

    pub store_within : merging_device v < length (counts_of count v)
    store_within = omega (arith, ap length counts_before, length-append others (count m.device ∷ []), others_count)
