-- A request that can be served is refused for its snapshot's sake alone: it is spoiled, or its store overflowed.
use Rattle.std.proofs.Common.{◌≡◌, inl, inr, ℕ, ◌+◌, ◌*◌, ◌/◌, ◌%◌, ◌<◌, ◌≤◌, Bool, true, false, List, [], ◌∷◌, length, Option, Some, None, refl, sym, ◌∙◌, ap, arith, nat_eq}
use Rattle.std.specs.Prelude.{◌-◌, ◌⊎◌, ◌==◌, ◌&&◌, not, nat_lt, nat_le, sum_by, count_by, slice_index_or, if◌then◌else◌}
use Rattle.std.specs.List.{list_all}
use Rattle.std.proofs.lemmas.Bool.{cases_Bool, cond-false, eqb-true, true≢false}
use Rattle.std.proofs.lemmas.List.{nil_from_length}
use Rattle.std.proofs.lemmas.List.Sums.{count_by-le-length}
use Rattle.std.proofs.lemmas.Nat.{div-add-mod'}
use Rattle.sector.specs.declared.refusal.Refusal.{Refusal}
use Rattle.sector.specs.declared.refusal.Refusal.TheVariants.{Invalid, Overflow}
use Rattle.sector.specs.declared.range.Range.{Range}
use Rattle.plain_machine.specs.Kept.{kept_range}
use Rattle.plain_machine.specs.Plain.{did_overflow}
use Rattle.plain_machine.specs.declared.request.Request.{Request}
use Rattle.plain_machine.specs.declared.request.Dev.{Dev}
use Rattle.plain_machine.specs.declared.request.Dev.TheVariants.{Origin, Snap as ToSnap}
use Rattle.plain_machine.specs.declared.request.Op.{Op}
use Rattle.plain_machine.specs.declared.request.Op.TheVariants.{Read, Write, Flush}
use Rattle.plain_machine.specs.declared.request.Overflowing.TheVariants.{Never}
use Rattle.in_flight.specs.Kinds.{kind_of}
use Rattle.in_flight.specs.declared.flights.Kind.{Kind}
use Rattle.in_flight.specs.declared.flights.Kind.TheVariants.{OriginRead, OriginWrite, OriginFlush, SnapRead, SnapWrite, SnapFlush}
use Rattle.chunk.specs.Sizes.{is_chunk}
use Rattle.chunk.proofs.Limits.{is_chunk-some}
use Rattle.chunk.proofs.PiecePlaces.{piece_high}
use Rattle.snapshot.specs.Kept.{Kept}
use Rattle.merge.specs.Merging.{Merging}
use Rattle.volume.specs.Asking.{merging_number}
use Rattle.volume.specs.Volumed.{Volumed, piece_with}
use Rattle.snapshot_list.specs.Numbers.{count_in, numbers_in}
use Rattle.snapshot_list.specs.Finding.{place_of_snap}
use Rattle.volume.specs.Leaving.{is_done_of, is_quiet_of}
use Rattle.snapshot_list.specs.Starting.{starts}
use Rattle.volume.specs.Submitting.{first_of_two, refusal_at, dev_refusal, shut_at, shut_refusal, range_refusal, limit_refusal, is_merging, is_piece_of, are_too_many, starting, submit_refusal}
use Rattle.volume.proofs.Quieted.{quiet_done, quiet_flights}
use Rattle.volume.proofs.Sums.{sum_cons}
use Rattle.volume_commands.specs.Rested.{rested_of, has_dev}
use Rattle.volume_commands.specs.Serving.{CanServe}
use Rattle.volume_commands.proofs.Seen.{dev_missing}

and_first : (a b : Bool) → (a && b) ≡ true → a ≡ true
and_first true b e = refl
and_first false b e = e

and_second : (a b : Bool) → (a && b) ≡ true → b ≡ true
and_second true b e = e
and_second false b e = absurd (cc)

lt-true : (m n : ℕ) → m < n → nat_lt m n ≡ true
lt-true m n lt = search (arith)

lt-false : (m n : ℕ) → n ≤ m → nat_lt m n ≡ false
lt-false m n le = search (arith)

le-true : (m n : ℕ) → m ≤ n → nat_le m n ≡ true
le-true m n le = search (arith)

le-false : (m n : ℕ) → n < m → nat_le m n ≡ false
le-false m n lt = search (arith)

-- a snapshot of which nothing is left has no numbers of copies
pub done_copies : {B : Type 0} (s : Kept B) → is_done_of s ≡ true → s.copies ≡ []
done_copies s e = nil_from_length s.copies (eqb-true (length s.copies) 0 (and_first (nat_eq (length s.copies) 0) (nat_eq (length s.marks) 0) (and_first (nat_eq (length s.copies) 0 && nat_eq (length s.marks) 0) (not s.untried) e)))

done_marks : {B : Type 0} (s : Kept B) → is_done_of s ≡ true → s.marks ≡ []
done_marks s e = nil_from_length s.marks (eqb-true (length s.marks) 0 (and_second (nat_eq (length s.copies) 0) (nat_eq (length s.marks) 0) (and_first (nat_eq (length s.copies) 0 && nat_eq (length s.marks) 0) (not s.untried) e)))

done_count : {B : Type 0} (s : Kept B) → is_done_of s ≡ true → count_in s ≡ 0
done_count s e = (let none : length (numbers_in s) ≡ 0 = rw (done_copies s e, done_marks s e) refl in omega (arith, none))

counts_none : {B : Type 0} (snaps : List (Kept B)) → list_all is_done_of snaps ≡ true → sum_by count_in snaps ≡ 0
counts_none [] e = refl
counts_none (s ∷ snaps) e =
    let here = done_count s (and_first (is_done_of s) (list_all is_done_of snaps) e) in
    let rest = counts_none snaps (and_second (is_done_of s) (list_all is_done_of snaps) e) in
    omega (arith, sum_cons count_in s snaps, here, rest)

none_or_few : (b : Bool) (n most : ℕ) → n ≤ most → (if b then 0 else n) ≤ most
none_or_few true n most le = omega arith
none_or_few false n most le = le

starting_few : {B : Type 0} (kind : Kind) (first : ℕ) (merge : Option (Merging B)) (snaps : List (Kept B)) → starting kind first merge snaps ≤ length snaps
starting_few OriginRead first merge snaps = omega arith
starting_few OriginWrite first merge snaps = none_or_few _ (count_by (starts first) snaps) (length snaps) (count_by-le-length (starts first) snaps)
starting_few OriginFlush first merge snaps = omega arith
starting_few (SnapRead number) first merge snaps = omega arith
starting_few (SnapFlush number) first merge snaps = omega arith
starting_few (SnapWrite number) first merge snaps = count_by-le-length (λ s. nat_eq s.number number && starts first s) snaps

within_piece : (first count piece q r : ℕ) → first + count ≤ piece * q + piece → q * piece + r ≡ first → r + count ≤ piece
within_piece first count piece q r high whole = let turned : q * piece ≡ piece * q = grind arith in omega (arith, high, whole, turned)

refused_at : {B : Type 0} (dev : Dev) (v : Volumed B) (o : Option ℕ) (refusal : Refusal) → (o ≡ None → ⊥) → refusal_at v.snaps o ≡ Some refusal → refusal ≡ Invalid
refused_at dev v None refusal there e = absurd (there refl)
refused_at dev v (Some k) refusal there e = elim (cases_Bool (slice_index_or (Rattle.std.specs.Prelude.map (λ s. s.live) v.snaps) k false)) [
  | inl live ↦ (let none : None ≡ Some refusal = rw live at e in absurd (cc))
  | inr dead ↦ (let some : Some Invalid ≡ Some refusal = rw dead at e in cc)
]

-- the snapshot that is being merged is none of those that are there
not_merging : {B : Type 0} (n : ℕ) (m : Option (Merging B)) (snaps : List (Kept B)) → ((number : ℕ) → merging_number m ≡ Some number → place_of_snap number snaps ≡ None) → (place_of_snap n snaps ≡ None → ⊥) → is_merging n m ≡ false
not_merging n None snaps apart there = refl
not_merging n (Some m) snaps apart there = elim (cases_Bool (m.number == n)) [
  | inl this ↦ absurd (there (ap (λ k. place_of_snap k snaps) (sym (eqb-true m.number n this)) ∙ apart m.number refl))
  | inr other ↦ other
]

dev_refused : {B : Type 0} (dev : Dev) (v : Volumed B) (refusal : Refusal) → ((number : ℕ) → merging_number v.merge ≡ Some number → place_of_snap number v.snaps ≡ None) → has_dev dev (rested_of v) ≡ true → dev_refusal dev v.merge v.snaps ≡ Some refusal → refusal ≡ Invalid
dev_refused Origin v refusal apart there e = absurd (cc)
dev_refused (ToSnap n) v refusal apart there e =
    let found : place_of_snap n v.snaps ≡ None → ⊥ = λ none. true≢false (sym there ∙ dev_missing n v none) in
    refused_at (ToSnap n) v (place_of_snap n v.snaps) refusal found (sym (cond-false _ _ _ (not_merging n v.merge v.snaps apart found)) ∙ e)

-- a snapshot whose store overflowed
shut_only : {B : Type 0} (snaps : List (Kept B)) (o : Option ℕ) (refusal : Refusal) → shut_at snaps o ≡ Some refusal → refusal ≡ Overflow
shut_only snaps None refusal e = absurd (cc)
shut_only snaps (Some k) refusal e = elim (cases_Bool (did_overflow (slice_index_or (Rattle.std.specs.Prelude.map (λ s. s.overflow) snaps) k Never))) [
  | inl did ↦ (let some : Some Overflow ≡ Some refusal = rw did at e in cc)
  | inr free ↦ absurd (let none : None ≡ Some refusal = rw free at e in cc)
]

shut_refused : {B : Type 0} (kind : Kind) (snaps : List (Kept B)) (refusal : Refusal) → shut_refusal kind snaps ≡ Some refusal → refusal ≡ Overflow
shut_refused OriginRead snaps refusal e = absurd (cc)
shut_refused OriginWrite snaps refusal e = absurd (cc)
shut_refused OriginFlush snaps refusal e = absurd (cc)
shut_refused (SnapRead number) snaps refusal e = absurd (cc)
shut_refused (SnapFlush number) snaps refusal e = absurd (cc)
shut_refused (SnapWrite number) snaps refusal e = shut_only snaps (place_of_snap number snaps) refusal e

first_either : (a b c : Option Refusal) (refusal : Refusal) → c ≡ None → first_of_two a (first_of_two b c) ≡ Some refusal → (a ≡ Some refusal) ⊎ (b ≡ Some refusal)
first_either None None c refusal none e = absurd (let both : None ≡ Some refusal = sym none ∙ e in cc)
first_either None (Some other) c refusal none e = inr e
first_either (Some other) b c refusal none e = inl e

-- a range that a volume at rest takes
range_fits : (piece sectors : ℕ) (range : Range) → is_chunk piece ≡ true → 0 < range.count → range.first + range.count ≤ sectors → (range.first + range.count - 1) / piece ≡ range.first / piece → range_refusal piece sectors range ≡ None
range_fits piece sectors range ok some inside one =
    let whole : range.first / piece * piece + range.first % piece ≡ range.first = div-add-mod' range.first piece in
    let high = piece_high piece range.first range.count (is_chunk-some piece ok) some one in
    let within = within_piece range.first range.count piece (range.first / piece) (range.first % piece) high whole in
    let fits : is_piece_of piece sectors range ≡ true =
    ap (λ b. b && nat_le (range.first + range.count) sectors && nat_le (range.first % piece + range.count) piece) (lt-true 0 range.count some)
    ∙ ap (λ b. b && nat_le (range.first % piece + range.count) piece) (le-true (range.first + range.count) sectors inside)
    ∙ le-true (range.first % piece + range.count) piece within in
    rw fits refl

-- and as it keeps it
kept_fits : (op : Op) (piece sectors : ℕ) (range : Range) → is_chunk piece ≡ true → 0 < range.count → range.first + range.count ≤ sectors → (range.first + range.count - 1) / piece ≡ range.first / piece → range_refusal piece sectors (kept_range op range) ≡ None
kept_fits Read piece sectors range ok some inside one = range_fits piece sectors range ok some inside one
kept_fits (Write bytes) piece sectors range ok some inside one = range_fits piece sectors range ok some inside one
kept_fits Flush piece sectors range ok some inside one = range_fits piece sectors (kept_range Flush range) ok (omega arith) (omega (arith, some, inside)) refl

module _ {B : Type 0} (size : B → ℕ) (request : Request) (v : Volumed B) (can : CanServe size request.dev request.op request.range v) (apart : (number : ℕ) → merging_number v.merge ≡ Some number → place_of_snap number v.snaps ≡ None) (quiet : is_quiet_of v ≡ true) (few : length v.snaps ≤ 8) where
  range_none : range_refusal (piece_with v.merge v.snaps) (size v.origin) (kept_range request.op request.range) ≡ None
  range_none = kept_fits request.op (piece_with v.merge v.snaps) (size v.origin) request.range can.allowed can.some can.inside can.one

  limit_none : limit_refusal (starting (kind_of request) request.range.first v.merge v.snaps) v ≡ None
  limit_none =
      let new : ℕ = starting (kind_of request) request.range.first v.merge v.snaps in
      let flights : length v.flights ≡ 0 = ap length (quiet_flights v quiet) in
      let counts : sum_by count_in v.snaps ≡ 0 = counts_none v.snaps (quiet_done v quiet) in
      let started : new ≤ length v.snaps = starting_few (kind_of request) request.range.first v.merge v.snaps in
      let a : nat_le 64 (length v.flights) ≡ false = le-false 64 (length v.flights) (omega (arith, flights)) in
      let b : nat_le 18_446_744_073_709_551_615 v.requests ≡ false = le-false 18_446_744_073_709_551_615 v.requests (omega (arith, can.requests)) in
      let c : nat_lt 256 (sum_by count_in v.snaps + new) ≡ false = lt-false 256 (sum_by count_in v.snaps + new) (omega (arith, counts, started, few)) in
      let many : are_too_many new v ≡ false = rw (a, b, c) refl in
      rw many refl

  pub later_none : first_of_two (range_refusal (piece_with v.merge v.snaps) (size v.origin) (kept_range request.op request.range)) (limit_refusal (starting (kind_of request) request.range.first v.merge v.snaps) v) ≡ None
  later_none = rw range_none limit_none

  -- its snapshot is spoiled, or shut
  pub only_its_snap : (refusal : Refusal) → submit_refusal size request v ≡ Some refusal → (refusal ≡ Invalid) ⊎ (refusal ≡ Overflow)
  only_its_snap refusal e = elim (first_either (dev_refusal request.dev v.merge v.snaps) (shut_refusal (kind_of request) v.snaps) _ refusal later_none e) [
    | inl dev ↦ inl (dev_refused request.dev v refusal apart can.there dev)
    | inr shut ↦ inr (shut_refused (kind_of request) v.snaps refusal shut)
  ]
