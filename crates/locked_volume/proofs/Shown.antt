-- What the places of a volume show.
use Rattle.std.proofs.Common.{◌≡◌, ◌<◌, ◌≤◌, ◌+◌, ◌-◌, ◌*◌, nat_lt, ℕ, Bool, true, false, List, length, map, take, get_or, Option, Some, None, if◌then◌else◌, refl, sym, ap, ◌∙◌, subst, arith}
use Rattle.std.specs.Prelude.{◌&&◌}
use Rattle.std.specs.List.{count_by}
use Rattle.std.proofs.lemmas.Bool.{ltb-true, lt-ltb}
use Rattle.std.proofs.lemmas.List.{get_or-map, length-map}
use Rattle.std.proofs.lemmas.List.Edits.{get_or-insert_below, get_or-insert_above}
use Rattle.std.proofs.lemmas.List.Sums.{count_by-le-length, count_by_more_no, count_by_more_yes}
use Rattle.thread_channels.specs.Words.{no_usage}
use Rattle.chunk_alloc.specs.declared.usage.Usage.{Usage as Sectors}
use Rattle.merge.specs.Merging.{Merging}
use Rattle.snapshot.specs.Kept.{Kept}
use Rattle.plain_machine.specs.Plain.{did_overflow}
use Rattle.volume.specs.Asking.{merging_number}
use Rattle.volume.specs.Leaving.{usage_of}
use Rattle.locked_volume.specs.Usages.{is_before, overflown, shown_merge, shown_of, spoiled, used, used_or_spoiled, usages_with}

pub live_shown : {B : Type 0} (s : Kept B) (u : Sectors) → true ≡ s.live → false ≡ did_overflow s.overflow → u.allocated ≡ s.next * s.state.chunk → u.total ≡ s.state.size → u.metadata ≡ (s.state.current + 2) * s.state.chunk
    → used u ≡ shown_of s
live_shown s u live fine allocated total metadata =
    (λ i. used (record { allocated = allocated i; total = total i; metadata = metadata i }))
    ∙ ap (λ (b : Bool). used_or_spoiled (if b then Some (record { allocated = s.next * s.state.chunk; total = s.state.size; metadata = (s.state.current + 2) * s.state.chunk }) else None)) live
    ∙ (λ i. if live i && fine i then overflown else used_or_spoiled (usage_of s))

pub marked_shown : {B : Type 0} (s : Kept B) → true ≡ s.live → true ≡ did_overflow s.overflow → overflown ≡ shown_of s
marked_shown s live did = (λ i. if live i && did i then overflown else used_or_spoiled (usage_of s))

pub spoiled_shown : {B : Type 0} (s : Kept B) → false ≡ s.live → spoiled ≡ shown_of s
spoiled_shown s dead = ap (λ (b : Bool). if b && did_overflow s.overflow then overflown else used_or_spoiled (if b then Some (record { allocated = s.next * s.state.chunk; total = s.state.size; metadata = (s.state.current + 2) * s.state.chunk }) else None)) dead

pub shown_at : {B : Type 0} (snaps : List (Kept B)) (k : ℕ) (s : Kept B) → k < length snaps → s ≡ get_or snaps k s → shown_of s ≡ get_or (map shown_of snaps) k no_usage
shown_at snaps k s low is = ap shown_of is ∙ sym (get_or-map shown_of snaps k s no_usage low)

-- one snapshot more that was attached before, or not
pub counts : {B : Type 0} (number : ℕ) (snaps : List (Kept B)) (k : ℕ) (s : Kept B) (was now : ℕ) → k < length snaps → s ≡ get_or snaps k s → was ≡ count_by (is_before number) (take k snaps)
    → s.number < number → now ≡ was + 1 → now ≡ count_by (is_before number) (take (k + 1) snaps)
counts number snaps k s was now low at is before more =
    more ∙ ap (λ n. n + 1) is ∙ sym (count_by_more_yes (is_before number) snaps k s low (ap (is_before number) (sym at) ∙ lt-ltb s.number number before))

not_below : (a b : ℕ) → b ≤ a → nat_lt a b ≡ false
not_below a b high = go (nat_lt a b) refl
  where
    go : (t : Bool) → nat_lt a b ≡ t → nat_lt a b ≡ false
    go true e = let low = ltb-true a b e in absurd (omega (arith, low, high))
    go false e = e

pub skips : {B : Type 0} (number : ℕ) (snaps : List (Kept B)) (k : ℕ) (s : Kept B) (was now : ℕ) → k < length snaps → s ≡ get_or snaps k s → was ≡ count_by (is_before number) (take k snaps)
    → number ≤ s.number → now ≡ was → now ≡ count_by (is_before number) (take (k + 1) snaps)
skips number snaps k s was now low at is behind same =
    same ∙ is ∙ sym (count_by_more_no (is_before number) snaps k s low (ap (is_before number) (sym at) ∙ not_below s.number number behind))

some_is : (m n : ℕ) → Some m ≡ Some n → m ≡ n
some_is m n e = ap (λ o. or_else o) e
  where
    or_else : Option ℕ → ℕ
    or_else (Some x) = x
    or_else None = m

front_fits : {B : Type 0} (number : ℕ) (snaps : List (Kept B)) → count_by (is_before number) snaps ≤ length (map shown_of snaps)
front_fits number snaps = subst (λ n. count_by (is_before number) snaps ≤ n) (sym (length-map snaps shown_of)) (count_by-le-length (is_before number) snaps)

-- the places before that of the merge, and those after it
pub before_merge : {B : Type 0} (merge : Option (Merging B)) (snaps : List (Kept B)) (number place front : ℕ) → merging_number merge ≡ Some number → front ≡ count_by (is_before number) snaps → place < front
    → get_or (map shown_of snaps) place no_usage ≡ get_or (usages_with merge snaps) place no_usage
before_merge None snaps number place front e is low = absurd (let h : None ≡ Some number = e in cc)
before_merge (Some m) snaps number place front e is low =
    let n = some_is m.number number e in
    sym (get_or-insert_below (map shown_of snaps) (count_by (is_before m.number) snaps) (shown_merge m) no_usage place
    (subst (λ j. place < count_by (is_before j) snaps) (sym n) (subst (λ j. place < j) is low)) (front_fits m.number snaps))

pub after_merge : {B : Type 0} (merge : Option (Merging B)) (snaps : List (Kept B)) (number place front : ℕ) → merging_number merge ≡ Some number → front ≡ count_by (is_before number) snaps → front < place
    → get_or (map shown_of snaps) (place - 1) no_usage ≡ get_or (usages_with merge snaps) place no_usage
after_merge None snaps number place front e is high = absurd (let h : None ≡ Some number = e in cc)
after_merge (Some m) snaps number place front e is high =
    let n = some_is m.number number e in
    let behind : count_by (is_before m.number) snaps ≤ place - 1 = subst (λ j. count_by (is_before j) snaps ≤ place - 1) (sym n) (subst (λ j. j ≤ place - 1) is (omega (arith, high))) in
    sym (get_or-insert_above (map shown_of snaps) (count_by (is_before m.number) snaps) (shown_merge m) no_usage (place - 1) behind (front_fits m.number snaps))
    ∙ ap (λ j. get_or (usages_with (Some m) snaps) j no_usage) (omega (arith, high))
