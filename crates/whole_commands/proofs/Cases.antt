-- What saving a chunk does, case by case.
use Rattle.std.proofs.Common.{◌≡◌, ◌≢◌, ℕ, ◌+◌, ◌*◌, ◌/◌, ◌%◌, ◌<◌, ◌≤◌, List, length, ap, ◌∙◌, true}
use Rattle.std.specs.Prelude.{Some, None, is_some}
use Rattle.std.proofs.lemmas.Bool.{cond-true, cond-false, eq-eqb, ne_eqb, lt-ltb, le-ltb}
use Rattle.sector.specs.declared.pair.Pair.{Pair}
use Rattle.cow_format.specs.Places.{area_place}
use Rattle.cow_format.specs.Pairs.{pairs_of}
use Rattle.cow_format.specs.Picture.{place_of}
use Rattle.whole_commands.specs.Saves.{next_of, copied, zeroed, paired, committed, saved, spoilt}

-- the pair of a new copy
abbrev pub next_pair : ℕ → List ℕ → ℕ → Pair
next_pair chunk store c = record { old = c; new = next_of chunk (pairs_of chunk store) }

-- the store with the new copy in its place
abbrev pub copied_next : ℕ → List ℕ → List ℕ → ℕ → List ℕ
copied_next chunk disk store c = copied chunk disk store c (next_of chunk (pairs_of chunk store))

-- a chunk that has its copy
pub saved-kept : (chunk : ℕ) (disk store : List ℕ) (c n : ℕ) → place_of (pairs_of chunk store) c ≡ Some n → saved chunk disk store c ≡ record { store = store; live = true }
unfolding saved
saved-kept chunk disk store c n some = cond-true _ _ _ (ap is_some some)

-- a full store
pub saved-full : (chunk : ℕ) (disk store : List ℕ) (c : ℕ) → place_of (pairs_of chunk store) c ≡ None → length store < 512 * (chunk * (next_of chunk (pairs_of chunk store) + 1)) → saved chunk disk store c ≡ spoilt chunk store
unfolding saved
saved-full chunk disk store c none full = cond-false _ _ _ (ap is_some none) ∙ cond-true _ _ _ (lt-ltb _ _ full)

-- a store with room
pub saved-room : (chunk : ℕ) (disk store : List ℕ) (c : ℕ) → place_of (pairs_of chunk store) c ≡ None → 512 * (chunk * (next_of chunk (pairs_of chunk store) + 1)) ≤ length store → saved chunk disk store c ≡ committed chunk (copied_next chunk disk store c) (length (pairs_of chunk store)) (next_pair chunk store c)
unfolding saved
saved-room chunk disk store c none fits = cond-false _ _ _ (ap is_some none) ∙ cond-false _ _ _ (le-ltb _ _ fits)

-- the pair leaves room in its area
pub saved-more : (chunk : ℕ) (disk store : List ℕ) (c : ℕ) → place_of (pairs_of chunk store) c ≡ None → 512 * (chunk * (next_of chunk (pairs_of chunk store) + 1)) ≤ length store → (length (pairs_of chunk store) + 1) % (32 * chunk) ≢ 0 → saved chunk disk store c ≡ record { store = paired chunk (copied_next chunk disk store c) (length (pairs_of chunk store)) (next_pair chunk store c); live = true }
saved-more chunk disk store c none fits more = saved-room chunk disk store c none fits ∙ cond-false _ _ _ (ne_eqb _ _ more)

-- it fills its area, and the next area is not there
pub saved-lacks : (chunk : ℕ) (disk store : List ℕ) (c : ℕ) → place_of (pairs_of chunk store) c ≡ None → 512 * (chunk * (next_of chunk (pairs_of chunk store) + 1)) ≤ length store → (length (pairs_of chunk store) + 1) % (32 * chunk) ≡ 0 → length (copied_next chunk disk store c) < 512 * (chunk * (area_place chunk ((length (pairs_of chunk store) + 1) / (32 * chunk)) + 1)) → saved chunk disk store c ≡ spoilt chunk (copied_next chunk disk store c)
saved-lacks chunk disk store c none fits full lacks = saved-room chunk disk store c none fits ∙ cond-true _ _ _ (eq-eqb _ _ full) ∙ cond-true _ _ _ (lt-ltb _ _ lacks)

-- it fills its area, and the next area is zeroed first
pub saved-filled : (chunk : ℕ) (disk store : List ℕ) (c : ℕ) → place_of (pairs_of chunk store) c ≡ None → 512 * (chunk * (next_of chunk (pairs_of chunk store) + 1)) ≤ length store → (length (pairs_of chunk store) + 1) % (32 * chunk) ≡ 0 → 512 * (chunk * (area_place chunk ((length (pairs_of chunk store) + 1) / (32 * chunk)) + 1)) ≤ length (copied_next chunk disk store c) → saved chunk disk store c ≡ record { store = paired chunk (zeroed chunk (copied_next chunk disk store c) ((length (pairs_of chunk store) + 1) / (32 * chunk))) (length (pairs_of chunk store)) (next_pair chunk store c); live = true }
saved-filled chunk disk store c none fits full there = saved-room chunk disk store c none fits ∙ cond-true _ _ _ (eq-eqb _ _ full) ∙ cond-false _ _ _ (le-ltb _ _ there)
