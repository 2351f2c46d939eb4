-- The event that is due first is that of `volume_laws`; and the first element that passes a test is the one at its place.
use Rattle.std.proofs.Common.{◌≡◌, inl, inr, ℕ, Bool, false, List, [], ◌∷◌, map, Option, Some, None, refl, ap, ◌∙◌, sym}
use Rattle.std.specs.Prelude.{◌&&◌, ◌||◌, not, if◌then◌else◌}
use Rattle.std.specs.List.{list_any, list_all}
use Rattle.std.proofs.lemmas.Bool.{cases_Bool}
use Rattle.plain_machine.specs.declared.request.Reply.{Reply}
use Rattle.in_flight.specs.Kinds.{kind_of}
use Rattle.in_flight.specs.Routes.{refused_of, again_route_of, write_route_of}
use Rattle.in_flight.specs.Due.{first_by, least, front_ready, front_unflushed, is_copy_at, number_of_copy, number_of_mark, number_of_flight, is_publishable as can_publish, is_issuable as can_issue}
use Rattle.in_flight.specs.declared.copies.Stage.{Stage}
use Rattle.in_flight.specs.declared.copies.Stage.TheVariants.{Waiting, Read}
use Rattle.in_flight.specs.declared.copies.ChunkCopy.{ChunkCopy}
use Rattle.in_flight.specs.declared.flights.Flight.{Flight}
use Rattle.volume_laws.specs.Due.{DueSnap, snap_number, can_mark as marks_in, can_flush_store as flushes_in, can_commit as commits, can_zero as zeroes, copy_of, publishable_of, least_of, due_of}
use Rattle.volume_laws.specs.Published.{is_saved as is_saved_in, is_clear as is_clear_in, is_saved_over as is_saved_over_in, is_clear_over as is_clear_over_in}
use Rattle.volume_laws.specs.Again.{placed_of, again_of}
use Rattle.whole_commands.specs.Devices.{Device}
use Rattle.event_machine.specs.Held.{SnapHeld, Going, number_of, is_untried}
use Rattle.event_machine.specs.Due.{is_front_ready, is_front_unflushed, can_mark, can_flush_store, can_commit, can_zero, is_at, number_of_copying, copy_at, is_reading, is_publishable, publishable_in, is_issuable, number_of_going, least_in, chosen, due}
use Rattle.event_machine.specs.Again.{again, placed, refused, is_saved, is_clear, is_saved_over, is_clear_over}
use Rattle.event_machine.specs.Seen.{Seen, copying_of, going_of, held_of, due_in, moving_of, NeedsAsSeen}
use Rattle.whole_commands.proofs.Each.{Each}
use Rattle.event_machine.proofs.Around.{at}

-- a test and a number that are seen alike
first_by_map : {X Y : Type 0} (f : X → Y) (test : Y → Bool) (test' : X → Bool) (number : Y → ℕ) (number' : X → ℕ) (xs : List X) → Each (λ x. test (f x) ≡ test' x) xs → ((x : X) → number (f x) ≡ number' x) → first_by test number (map f xs) ≡ first_by test' number' xs
first_by_map f test test' number number' [] same numbers = refl
first_by_map f test test' number number' (x ∷ xs) same numbers =
    ap (λ b. if b then Some (number (f x)) else first_by test number (map f xs)) same.0
    ∙ ap (λ n. if test' x then Some n else first_by test number (map f xs)) (numbers x)
    ∙ ap (λ o. if test' x then Some (number' x) else o) (first_by_map f test test' number number' xs same.1 numbers)

each_all : {X : Type 0} (P : X → Type 0) (xs : List X) → ((x : X) → P x) → Each P xs
each_all P [] all = tt
each_all P (x ∷ xs) all = (all x, each_all P xs all)

pub any_map : {X Y : Type 0} (f : X → Y) (test : Y → Bool) (xs : List X) → list_any test (map f xs) ≡ list_any (λ x. test (f x)) xs
any_map f test [] = refl
any_map f test (x ∷ xs) = ap (λ b. test (f x) || b) (any_map f test xs)

front_same : (cs : List ChunkCopy) → is_front_ready (map copying_of cs) ≡ front_ready cs
front_same [] = refl
front_same (c ∷ cs) = refl

unflushed_same : (cs : List ChunkCopy) → is_front_unflushed (map copying_of cs) ≡ front_unflushed cs
unflushed_same [] = refl
unflushed_same (c ∷ cs) = refl

flush_same : (s : Seen) → NeedsAsSeen s → can_flush_store (held_of s) ≡ flushes_in s.due
flush_same s seen = elim (cases_Bool (front_ready s.due.books.copies)) [
  | inl front ↦ rw (front_same s.due.books.copies, unflushed_same s.due.books.copies, sym (seen.needs front), sym (seen.waits front)) refl
  | inr none ↦ rw (front_same s.due.books.copies, unflushed_same s.due.books.copies, none) refl
]

commit_same : (s : Seen) → NeedsAsSeen s → can_commit (held_of s) ≡ commits s.due
commit_same s seen = elim (cases_Bool (front_ready s.due.books.copies)) [
  | inl front ↦ rw (front_same s.due.books.copies, sym (seen.waits front)) refl
  | inr none ↦ rw (front_same s.due.books.copies, none) refl
]

zero_same : (s : Seen) → NeedsAsSeen s → can_zero (held_of s) ≡ zeroes s.due
zero_same s seen = elim (cases_Bool (front_ready s.due.books.copies)) [
  | inl front ↦ rw (front_same s.due.books.copies, sym (seen.needs front)) refl
  | inr none ↦ rw (front_same s.due.books.copies, none) refl
]

copy_same : (stage : Stage) (s : Seen) → copy_at stage (held_of s) ≡ copy_of stage s.due
copy_same stage s = first_by_map copying_of (is_at stage) (is_copy_at stage) number_of_copying number_of_copy s.due.books.copies (each_all (λ p. is_at stage (copying_of p) ≡ is_copy_at stage p) s.due.books.copies (λ p. refl)) (λ p. refl)

publish_same : (fs : List Flight) (s : Seen) → publishable_in (map going_of fs) (held_of s) ≡ publishable_of fs s.due
publish_same fs s =
    first_by_same (is_publishable (map going_of fs) (held_of s)) (can_publish s.due.books.number s.due.books.chunk fs) number_of_mark s.due.books.marks
    (λ m. ap (λ b. m.safe && not b) (any_map going_of (is_reading (held_of s) m.chunk) fs))
  where
    first_by_same : {X : Type 0} (test test' : X → Bool) (number : X → ℕ) (xs : List X) → ((x : X) → test x ≡ test' x) → first_by test number xs ≡ first_by test' number xs
    first_by_same test test' number [] same = refl
    first_by_same test test' number (x ∷ xs) same = ap (λ b. if b then Some (number x) else first_by test number xs) (same x) ∙ ap (λ o. if test' x then Some (number x) else o) (first_by_same test test' number xs same)

least_same : (f : SnapHeld → Option ℕ) (g : DueSnap → Option ℕ) (snaps : List Seen) → ((s : Seen) → f (held_of s) ≡ g s.due) → least_in f (map held_of snaps) ≡ least_of g (map due_in snaps)
least_same f g [] same = refl
least_same f g (s ∷ snaps) same = ap (λ o. least o (least_in f (map held_of snaps))) (same s) ∙ ap (least (g s.due)) (least_same f g snaps same)

first_same : (test : SnapHeld → Bool) (test' : DueSnap → Bool) (snaps : List Seen) → Each (λ s. test (held_of s) ≡ test' s.due) snaps → first_by test number_of (map held_of snaps) ≡ first_by test' snap_number (map due_in snaps)
first_same test test' [] same = refl
first_same test test' (s ∷ snaps) same =
    ap (λ b. if b then Some s.due.books.number else first_by test number_of (map held_of snaps)) same.0 ∙ ap (λ o. if test' s.due then Some s.due.books.number else o) (first_same test test' snaps same.1)

each_map : (P Q : Seen → Type 0) (snaps : List Seen) → ((s : Seen) → P s → Q s) → Each P snaps → Each Q snaps
each_map P Q [] f all = tt
each_map P Q (s ∷ snaps) f all = (f s all.0, each_map P Q snaps f all.1)

pub due_tied : (origin : Device) (snaps : List Seen) (fs : List Flight) (a : Option Reply) (k : ℕ) → Each NeedsAsSeen snaps → due (moving_of origin snaps fs a k) ≡ due_of (map due_in snaps) fs
due_tied origin snaps fs a k needs =
    let hs : List SnapHeld = map held_of snaps in
    let rs : List Going = map going_of fs in
    let ds : List DueSnap = map due_in snaps in
    ap (λ o. chosen o (first_by can_flush_store number_of hs) (least_in (publishable_in rs) hs) (first_by can_commit number_of hs) (first_by can_zero number_of hs) (least_in (copy_at Read) hs) (least_in (copy_at Waiting) hs) (first_by is_issuable number_of_going rs))
    (first_same can_mark marks_in snaps (each_all (λ s. can_mark (held_of s) ≡ marks_in s.due) snaps (λ s. refl)))
    ∙ ap (λ o. chosen (first_by marks_in snap_number ds) o (least_in (publishable_in rs) hs) (first_by can_commit number_of hs) (first_by can_zero number_of hs) (least_in (copy_at Read) hs) (least_in (copy_at Waiting) hs) (first_by is_issuable number_of_going rs))
    (first_same can_flush_store flushes_in snaps (each_map NeedsAsSeen (λ s. can_flush_store (held_of s) ≡ flushes_in s.due) snaps flush_same needs))
    ∙ ap (λ o. chosen (first_by marks_in snap_number ds) (first_by flushes_in snap_number ds) o (first_by can_commit number_of hs) (first_by can_zero number_of hs) (least_in (copy_at Read) hs) (least_in (copy_at Waiting) hs) (first_by is_issuable number_of_going rs))
    (least_same (publishable_in rs) (publishable_of fs) snaps (publish_same fs))
    ∙ ap (λ o. chosen (first_by marks_in snap_number ds) (first_by flushes_in snap_number ds) (least_of (publishable_of fs) ds) o (first_by can_zero number_of hs) (least_in (copy_at Read) hs) (least_in (copy_at Waiting) hs) (first_by is_issuable number_of_going rs))
    (first_same can_commit commits snaps (each_map NeedsAsSeen (λ s. can_commit (held_of s) ≡ commits s.due) snaps commit_same needs))
    ∙ ap (λ o. chosen (first_by marks_in snap_number ds) (first_by flushes_in snap_number ds) (least_of (publishable_of fs) ds) (first_by commits snap_number ds) o (least_in (copy_at Read) hs) (least_in (copy_at Waiting) hs) (first_by is_issuable number_of_going rs))
    (first_same can_zero zeroes snaps (each_map NeedsAsSeen (λ s. can_zero (held_of s) ≡ zeroes s.due) snaps zero_same needs))
    ∙ ap (λ o. chosen (first_by marks_in snap_number ds) (first_by flushes_in snap_number ds) (least_of (publishable_of fs) ds) (first_by commits snap_number ds) (first_by zeroes snap_number ds) o (least_in (copy_at Waiting) hs) (first_by is_issuable number_of_going rs))
    (least_same (copy_at Read) (copy_of Read) snaps (copy_same Read))
    ∙ ap (λ o. chosen (first_by marks_in snap_number ds) (first_by flushes_in snap_number ds) (least_of (publishable_of fs) ds) (first_by commits snap_number ds) (first_by zeroes snap_number ds) (least_of (copy_of Read) ds) o (first_by is_issuable number_of_going rs))
    (least_same (copy_at Waiting) (copy_of Waiting) snaps (copy_same Waiting))
    ∙ ap (chosen (first_by marks_in snap_number ds) (first_by flushes_in snap_number ds) (least_of (publishable_of fs) ds) (first_by commits snap_number ds) (first_by zeroes snap_number ds) (least_of (copy_of Read) ds) (least_of (copy_of Waiting) ds))
    (first_by_map going_of is_issuable can_issue number_of_going number_of_flight fs (each_all (λ f. is_issuable (going_of f) ≡ can_issue f) fs (λ f. refl)) (λ f. refl))

-- requests that are routed again are seen alike
pub seen_alike : (g : Going → Going) (h : Flight → Flight) (fs : List Flight) → ((f : Flight) → g (going_of f) ≡ going_of (h f)) → map g (map going_of fs) ≡ map going_of (map h fs)
seen_alike g h [] same = refl
seen_alike g h (f ∷ fs) same = ap (λ r. r ∷ map g (map going_of fs)) (same f) ∙ ap (λ rs. going_of (h f) ∷ rs) (seen_alike g h fs same)

pub refused_seen : (number : ℕ) (fs : List Flight) → map (refused number) (map going_of fs) ≡ map going_of (map (refused_of (number ∷ [])) fs)
refused_seen number fs = seen_alike (refused number) (refused_of (number ∷ [])) fs (λ f. refl)

pub placed_seen : (s : Seen) (fs : List Flight) → map (placed (held_of s)) (map going_of fs) ≡ map going_of (map (placed_of s.due.books) fs)
placed_seen s fs = seen_alike (placed (held_of s)) (placed_of s.due.books) fs (λ f. refl)

saved_seen : (first : ℕ) (snaps : List Seen) → list_all (is_saved first) (map held_of snaps) ≡ list_all (is_saved_in first) (map (λ s. s.due.books) snaps)
saved_seen first [] = refl
saved_seen first (s ∷ snaps) = ap (λ b. is_saved first (held_of s) && b) (saved_seen first snaps)

untried_seen : (snaps : List Seen) → list_any is_untried (map held_of snaps) ≡ list_any (λ v. v.untried) (map (λ s. s.due.books) snaps)
untried_seen [] = refl
untried_seen (s ∷ snaps) = ap (λ b. s.due.books.untried || b) (untried_seen snaps)

pub clear_seen : (first : ℕ) (snaps : List Seen) → is_clear (map held_of snaps) first ≡ is_clear_in (map (λ s. s.due.books) snaps) first
clear_seen first snaps = ap (λ b. b && not (list_any is_untried (map held_of snaps))) (saved_seen first snaps) ∙ ap (λ b. list_all (is_saved_in first) (map (λ s. s.due.books) snaps) && not b) (untried_seen snaps)

-- and so many sectors of a merged chunk
saved_over_seen : (first count : ℕ) (snaps : List Seen) → list_all (is_saved_over first count) (map held_of snaps) ≡ list_all (is_saved_over_in first count) (map (λ s. s.due.books) snaps)
saved_over_seen first count [] = refl
saved_over_seen first count (s ∷ snaps) = ap (λ b. is_saved_over_in first count s.due.books && b) (saved_over_seen first count snaps)

pub clear_over_seen : (first count : ℕ) (snaps : List Seen) → is_clear_over (map held_of snaps) first count ≡ is_clear_over_in (map (λ s. s.due.books) snaps) first count
clear_over_seen first count snaps =
    ap (λ b. b && not (list_any is_untried (map held_of snaps))) (saved_over_seen first count snaps)
    ∙ ap (λ b. list_all (is_saved_over_in first count) (map (λ s. s.due.books) snaps) && not b) (untried_seen snaps)

pub again_seen : (snaps : List Seen) (fs : List Flight) → map (again None (map held_of snaps)) (map going_of fs) ≡ map going_of (map (again_of None (is_clear_in (map (λ s. s.due.books) snaps))) fs)
again_seen snaps fs = seen_alike (again None (map held_of snaps)) (again_of None (is_clear_in (map (λ s. s.due.books) snaps))) fs
    (λ f. ap (λ b. again_with f b) (clear_seen f.request.range.first snaps))
  where
    again_with : Flight → Bool → Going
    again_with f b = record { number = f.number; request = f.request; route = again_route_of (kind_of f.request) f.route (write_route_of false None b) }

-- snapshots of any type that are seen so
pub moving_is : {K : Type 0} (seen : K → Seen) (origin : Device) (ks : List K) (fs : List Flight) (a : Option Reply) (k : ℕ) → moving_of origin (map seen ks) fs a k ≡ at origin (map (λ s. held_of (seen s)) ks) (map going_of fs) a k
moving_is seen origin ks fs a k = ap (λ hs. at origin hs (map going_of fs) a k) (all_seen ks)
  where
    all_seen : (ks : List _) → map held_of (map seen ks) ≡ map (λ s. held_of (seen s)) ks
    all_seen [] = refl
    all_seen (s ∷ ks) = ap (λ hs. held_of (seen s) ∷ hs) (all_seen ks)
