-- Why a volume takes no request and begins no merge, by what its journal says that it shows.
use Rattle.std.proofs.Common.{◌≡◌, inl, inr, ℕ, zero, suc, ◌+◌, ◌*◌, ◌<◌, ◌≤◌, Bool, true, false, List, [], ◌∷◌, ◌++◌, length, map, set, get_or, cond, Option, Some, None, refl, sym, ap, ◌∙◌, subst, arith, nat_lt}
use Rattle.std.specs.Prelude.{◌==◌, ◌≢◌, if◌then◌else◌, min}
use Rattle.std.specs.List.{list_any, position_or_len}
use Rattle.std.proofs.lemmas.Bool.{cases_Bool, cases_lt, true≢false}
use Rattle.std.proofs.lemmas.List.{length-map}
use Rattle.device.specs.Layers.{Layer}
use Rattle.cow_format.specs.Picture.{picture}
use Rattle.sector.specs.declared.range.Range.{Range}
use Rattle.sector.specs.declared.refusal.Refusal.{Refusal}
use Rattle.sector.specs.declared.refusal.Refusal.TheVariants.{Invalid as IsInvalid, JournalFull, MergingSnapshot, NoMemory, NoSuchDevice, NotQuiet, OutOfRange, Overflow as OverflowRefusal, TooMany, MergeInProgress}
use Rattle.plain_machine.specs.Kept.{kept_range}
use Rattle.plain_machine.specs.Plain.{Live, Invalid, did_overflow, is_in, overflow_under, saved_under, Shown, shown_of}
use Rattle.plain_machine.specs.declared.request.Dev.{Dev}
use Rattle.plain_machine.specs.declared.request.Dev.TheVariants.{Origin, Snap}
use Rattle.plain_machine.specs.declared.request.Op.{Op}
use Rattle.plain_machine.specs.declared.request.Op.TheVariants.{Read, Write, Flush}
use Rattle.plain_machine.specs.declared.request.Overflowing.{Overflowing}
use Rattle.plain_machine.specs.declared.request.Overflowing.TheVariants.{Never, May, Did}
use Rattle.plain_machine.specs.declared.request.Request.{Request}
use Rattle.in_flight.specs.Kinds.{kind_at, kind_of}
use Rattle.in_flight.specs.declared.flights.Kind.{Kind}
use Rattle.in_flight.specs.declared.flights.Kind.TheVariants.{OriginRead, OriginWrite, OriginFlush, SnapRead, SnapWrite, SnapFlush}
use Rattle.merge.specs.Merging.{Merging}
use Rattle.snapshot.specs.Kept.{Kept}
use Rattle.snapshot_list.specs.Finding.{place_of_snap}
use Rattle.snapshot_list.specs.Numbers.{number_of_snap}
use Rattle.snapshot_list.specs.Starting.{spoilt_of, unroomed}
use Rattle.snapshot_list.proofs.Finds.{any_of, position_any, position_none, position_within}
use Rattle.volume.specs.Shown.{shown_begun, shown_entry}
use Rattle.volume.specs.Beginning.{begin_refusal, begin_with, beside_refusal, place_refusal}
use Rattle.volume.specs.Leaving.{is_quiet_of}
use Rattle.volume.specs.Stepping.{KeepsAll, merged_of}
use Rattle.volume.specs.Submitting.{IsFoundFull, IsOverflown, are_too_many, dev_refusal, first_of_two, is_merging, is_piece_of, limit_refusal, range_refusal, refusal_at, shut_at, shut_refusal, starting, submit_refusal}
use Rattle.volume.specs.Volumed.{Volumed, piece_of, piece_with, plain_of}
use Rattle.audited_volume.specs.declared.entry.Entry.{Entry}
use Rattle.audited_volume.specs.Books.{AuditShape}
use Rattle.audited_volume.specs.PlacesTaken.{IsNotMerged, IsNotSubmitted, is_full_by, places_of}
use Rattle.audited_volume.specs.Noted.{kept_count, live_count, may_count}
use Rattle.audited_volume.specs.Replay.{replay}
use Rattle.locked_volume.specs.Denying.{Agrees, merged_number, IsClosed, IsCrowded, IsDenied, IsLost, IsMissing, IsOpen, IsShut, Begin, Serve, WasDenied, is_merged}
use Rattle.locked_volume.specs.Fixed.{Fixed, StaysFrom, fixed_of, least_of, piece_at, piece_in}

no_some : {A C : Type 0} (x : A) → None ≡ Some x → C
no_some x e = absurd (let h : None ≡ Some x = e in cc)

some_none : {A C : Type 0} (x : A) → Some x ≡ None → C
some_none x e = absurd (let h : Some x ≡ None = e in cc)

some_is : {A : Type 0} (x y : A) → Some x ≡ Some y → x ≡ y
some_is {A} x y e = ap or_else e
  where
    or_else : Option A → A
    or_else (Some z) = z
    or_else None = x

not_lost : (array : List ℕ) → Some (Live array) ≡ Some Invalid → ⊥
not_lost array e = let h : Live array ≡ Invalid = some_is (Live array) Invalid e in cc

lt-true : (m n : ℕ) → m < n → nat_lt m n ≡ true
lt-true m n lt = search (arith)

ge-false : (m n : ℕ) → n ≤ m → nat_lt m n ≡ false
ge-false m n le = search (arith)

lt-from : (m n : ℕ) → nat_lt m n ≡ true → m < n
lt-from m n e = elim (cases_lt m n) [
  | inl lt ↦ lt
  | inr ge ↦ absurd (true≢false (sym e ∙ ge-false m n ge))
]

get_next : {X : Type 0} (x : X) (xs : List X) (n : ℕ) (d : X) → get_or (x ∷ xs) (1 + n) d ≡ get_or xs n d
get_next x xs n d = ap (λ k. get_or (x ∷ xs) k d) (next n)
  where
    next : (n : ℕ) → 1 + n ≡ suc n
    next n = omega arith

did_is : (o : Overflowing) → did_overflow o ≡ true → o ≡ Did
did_is Never e = absurd (let h : false ≡ true = e in cc)
did_is May e = absurd (let h : false ≡ true = e in cc)
did_is Did e = refl

module _ {B : Type 0} where
  -- which snapshot is merged, and which are there
  merged_is : (number : ℕ) (merge : Option (Merging B)) → is_merged number (merged_of merge) ≡ is_merging number merge
  merged_is number None = refl
  merged_is number (Some m) = refl

  least_is : (snaps : List (Kept B)) → least_of (map (λ s. s.state.chunk) snaps) ≡ piece_of snaps
  least_is [] = refl
  least_is (s ∷ snaps) = ap (min s.state.chunk) (least_is snaps)

  pub piece_is : (merge : Option (Merging B)) (snaps : List (Kept B)) → piece_in (merged_of merge) (map (λ s. s.state.chunk) snaps) ≡ piece_with merge snaps
  piece_is None snaps = least_is snaps
  piece_is (Some m) snaps = ap (min m.state.chunk) (least_is snaps)

  among : (number : ℕ) (snaps : List (Kept B)) → is_in (map number_of_snap snaps) number ≡ list_any (λ (s : Kept B). s.number == number) snaps
  among number snaps = any_of (λ n. n == number) number_of_snap snaps

  missing : (number : ℕ) (snaps : List (Kept B)) → place_of_snap number snaps ≡ None → is_in (map number_of_snap snaps) number ≡ false
  missing number snaps none = among number snaps ∙ position_none (λ (s : Kept B). s.number == number) snaps none

  there : (number k : ℕ) (snaps : List (Kept B)) → place_of_snap number snaps ≡ Some k → is_in (map number_of_snap snaps) number ≡ true
  there number k snaps found = among number snaps ∙ position_any (λ (s : Kept B). s.number == number) snaps k found

  -- what is found at a place
  place_is : (number k : ℕ) (snaps : List (Kept B)) → place_of_snap number snaps ≡ Some k → position_or_len (λ (s : Kept B). s.number == number) snaps ≡ k
  place_is number k snaps found =
      let test : Kept B → Bool = λ s. s.number == number in
      elim (cases_lt (position_or_len test snaps) (length snaps)) [
        | inl lt ↦ some_is _ _ (ap (λ b. cond b (Some (position_or_len test snaps)) None) (sym (lt-true (position_or_len test snaps) (length snaps) lt)) ∙ found)
        | inr ge ↦ no_some k (ap (λ b. cond b (Some (position_or_len test snaps)) None) (sym (ge-false (position_or_len test snaps) (length snaps) ge)) ∙ found)
      ]

  numbered : (number : ℕ) (snaps : List (Kept B)) → position_or_len (λ (s : Kept B). s.number == number) snaps ≡ position_or_len (λ n. n == number) (map number_of_snap snaps)
  numbered number [] = refl
  numbered number (s ∷ snaps) = elim (cases_Bool (s.number == number)) [
    | inl here ↦ rw here refl
    | inr other ↦ rw other (ap (λ k. 1 + k) (numbered number snaps))
  ]

  -- one that is lost shows nothing
  dead_at : (contents : B → List ℕ) (origin : List ℕ) (number : ℕ) (snaps : List (Kept B)) → position_or_len (λ (s : Kept B). s.number == number) snaps < length snaps
      → get_or (map (λ (s : Kept B). s.live) snaps) (position_or_len (λ (s : Kept B). s.number == number) snaps) false ≡ false
      → saved_under number (map (shown_entry contents origin) snaps) ≡ Some Invalid
  dead_at contents origin number [] within dead = absurd (omega (arith, within))
  dead_at contents origin number (s ∷ snaps) within dead = elim (cases_Bool (s.number == number)) [
    | inl here ↦ (let lost : s.live ≡ false = rw here at dead in rw here (ap (λ b. Some (if b then Live (picture s.state.chunk origin (contents s.device)) else Invalid)) lost))
    | inr other ↦ rw other (dead_at contents origin number snaps (let lt = rw other at within in omega (arith, lt))
        (sym (get_next s.live (map (λ (x : Kept B). x.live) snaps) (position_or_len (λ (x : Kept B). x.number == number) snaps) false) ∙ (rw other at dead)))
  ]

  -- one that is live shows something
  live_at : (contents : B → List ℕ) (origin : List ℕ) (number : ℕ) (snaps : List (Kept B)) → position_or_len (λ (s : Kept B). s.number == number) snaps < length snaps
      → get_or (map (λ (s : Kept B). s.live) snaps) (position_or_len (λ (s : Kept B). s.number == number) snaps) false ≡ true
      → saved_under number (map (shown_entry contents origin) snaps) ≡ Some Invalid → ⊥
  live_at contents origin number [] within live lost = absurd (omega (arith, within))
  live_at contents origin number (s ∷ snaps) within live lost = elim (cases_Bool (s.number == number)) [
    | inl here ↦ (
        let lives : s.live ≡ true = rw here at live in
        let same : Some (if s.live then Live (picture s.state.chunk origin (contents s.device)) else Invalid) ≡ Some Invalid = rw here at lost in
        not_lost (picture s.state.chunk origin (contents s.device)) (ap (λ b. Some (if b then Live (picture s.state.chunk origin (contents s.device)) else Invalid)) (sym lives) ∙ same))
    | inr other ↦ live_at contents origin number snaps (let lt = rw other at within in omega (arith, lt))
        (sym (get_next s.live (map (λ (x : Kept B). x.live) snaps) (position_or_len (λ (x : Kept B). x.number == number) snaps) false) ∙ (rw other at live))
        (rw other at lost)
  ]

  -- one whose store overflowed
  marked_at : (contents : B → List ℕ) (origin : List ℕ) (number : ℕ) (snaps : List (Kept B)) → position_or_len (λ (s : Kept B). s.number == number) snaps < length snaps
      → did_overflow (get_or (map (λ (s : Kept B). s.overflow) snaps) (position_or_len (λ (s : Kept B). s.number == number) snaps) Never) ≡ true
      → overflow_under number (map (shown_entry contents origin) snaps) ≡ Did
  marked_at contents origin number [] within did = absurd (omega (arith, within))
  marked_at contents origin number (s ∷ snaps) within did = elim (cases_Bool (s.number == number)) [
    | inl here ↦ (let marked : did_overflow s.overflow ≡ true = rw here at did in rw here (did_is s.overflow marked))
    | inr other ↦ rw other (marked_at contents origin number snaps (let lt = rw other at within in omega (arith, lt))
        (ap did_overflow (sym (get_next s.overflow (map (λ (x : Kept B). x.overflow) snaps) (position_or_len (λ (x : Kept B). x.number == number) snaps) Never)) ∙ (rw other at did)))
  ]

  overflows_unroomed : (snaps : List (Kept B)) → map (λ (s : Kept B). s.overflow) (map unroomed snaps) ≡ map (λ (s : Kept B). s.overflow) snaps
  overflows_unroomed [] = refl
  overflows_unroomed (s ∷ snaps) = ap (λ (l : List Overflowing). s.overflow ∷ l) (overflows_unroomed snaps)

  marked_set : (snaps : List (Kept B)) (k : ℕ) (s : Kept B) → k < length snaps → did_overflow s.overflow ≡ true → did_overflow (get_or (map (λ (x : Kept B). x.overflow) (set snaps k s)) k Never) ≡ true
  marked_set [] k s low did = absurd (omega (arith, low))
  marked_set (x ∷ snaps) zero s low did = did
  marked_set (x ∷ snaps) (suc k) s low did = marked_set snaps k s (omega (arith, low)) did

  lives_unroomed : (snaps : List (Kept B)) → map (λ (s : Kept B). s.live) (map unroomed snaps) ≡ map (λ (s : Kept B). s.live) snaps
  lives_unroomed [] = refl
  lives_unroomed (s ∷ snaps) = ap (λ (l : List Bool). s.live ∷ l) (lives_unroomed snaps)

  dead_set : (snaps : List (Kept B)) (k : ℕ) (s : Kept B) → s.live ≡ false → get_or (map (λ (x : Kept B). x.live) (set snaps k s)) k false ≡ false
  dead_set [] k s dead = refl
  dead_set (x ∷ snaps) zero s dead = dead
  dead_set (x ∷ snaps) (suc k) s dead = dead_set snaps k s dead

-- two places at most are kept for each snapshot
live_few : (lives : List Bool) → live_count lives ≤ length lives
live_few [] = omega arith
live_few (true ∷ lives) = let h = live_few lives in omega arith
live_few (false ∷ lives) = let h = live_few lives in omega arith

may_few : (lives may : List Bool) → may_count lives may ≤ length lives
may_few [] may = omega arith
may_few (b ∷ lives) [] = omega arith
may_few (true ∷ lives) (true ∷ may) = let h = may_few lives may in omega arith
may_few (true ∷ lives) (false ∷ may) = let h = may_few lives may in omega arith
may_few (false ∷ lives) (m ∷ may) = let h = may_few lives may in omega arith

kept_few : (lives may : List Bool) → kept_count lives may ≤ 2 * length lives
kept_few lives may = omega (arith, live_few lives, may_few lives may)

begun_is : {B : Type 0} (merge : Option (Merging B)) → shown_begun merge ≡ merged_number (merged_of merge)
begun_is None = refl
begun_is (Some m) = refl

module _ {B : Type 0} (contents : B → List ℕ) (size : B → ℕ) (layers : B → List Layer) (start : List Entry) (fixed : Fixed) where
  -- What an audit's journal says that its volume shows, and that it stays as it was.
  pub record IsSeen (seen : List Entry) (a : AuditShape B) : Type 0 where
    pub entries : a.entries ≡ start ++ seen
    pub stays : StaysFrom fixed (fixed_of size layers a)
    pub truth : a.loud ≡ true → replay a.base a.entries ≡ shown_of (plain_of contents layers a.volume)

  abbrev shown_in : AuditShape B → List Entry → Shown
  shown_in a seen = replay a.base (start ++ seen)

  abbrev count_in : List Entry → ℕ
  count_in seen = length (start ++ seen)

  -- at most so many requests are in flight, and so many snapshots are there that it keeps places for
  pub record IsBounded (a : AuditShape B) : Type 0 where
    pub held : length a.held ≤ 64
    pub lives : length a.lives ≤ 8

  -- so a journal that is full is crowded
  crowded : (seen : List Entry) (a : AuditShape B) → IsSeen seen a → IsBounded a → is_full_by 1 a ≡ true → IsCrowded (fixed_of size layers a) (count_in seen)
  crowded seen a is few full =
      let more : 65_536 < places_of a + 1 = lt-from 65_536 (places_of a + 1) full in
      let entries : length a.entries ≡ count_in seen = ap length is.entries in
      let kept : kept_count a.lives a.may ≤ 2 * length a.lives = kept_few a.lives a.may in
      let held = few.held in
      let lives = few.lives in
      omega (arith, more, entries, kept, held, lives)

  agrees : (seen : List Entry) (a : AuditShape B) → IsSeen seen a → Agrees (fixed_of size layers a) (shown_in a seen)
  agrees seen a is loud = ap (λ (s : Shown). s.begun) (ap (replay a.base) (sym is.entries) ∙ is.truth loud) ∙ begun_is a.volume.merge

  lost : (seen : List Entry) (a : AuditShape B) (number k : ℕ) → IsSeen seen a → is_merging number a.volume.merge ≡ false → place_of_snap number a.volume.snaps ≡ Some k
      → get_or (map (λ (s : Kept B). s.live) a.volume.snaps) k false ≡ false → IsLost (fixed_of size layers a) (shown_in a seen) number
  lost seen a number k is other found dead =
      let test : Kept B → Bool = λ s. s.number == number in
      let at = place_is number k a.volume.snaps found in (
        merged_is number a.volume.merge ∙ other,
        there number k a.volume.snaps found,
        λ loud. ap (λ (s : Shown). saved_under number s.saved) (ap (replay a.base) (sym is.entries) ∙ is.truth loud)
            ∙ dead_at contents (contents a.volume.origin) number a.volume.snaps (subst (λ n. n < length a.volume.snaps) (sym at) (position_within test a.volume.snaps k found))
            (ap (λ n. get_or (map (λ (s : Kept B). s.live) a.volume.snaps) n false) at ∙ dead),
      )

  closed : (seen : List Entry) (a : AuditShape B) (refusal : Refusal) (dev : Dev) → IsSeen seen a → dev_refusal dev a.volume.merge a.volume.snaps ≡ Some refusal → IsClosed (fixed_of size layers a) (shown_in a seen) dev refusal
  closed seen a refusal Origin is e = no_some refusal e
  closed seen a refusal (Snap number) is e = by_merge (is_merging number a.volume.merge) refl e
    where
      v : Volumed B
      v = a.volume

      by_life : (k : ℕ) (b : Bool) → is_merging number v.merge ≡ false → place_of_snap number v.snaps ≡ Some k → get_or (map (λ (s : Kept B). s.live) v.snaps) k false ≡ b
          → (if b then None else Some IsInvalid) ≡ Some refusal → IsClosed (fixed_of size layers a) (shown_in a seen) (Snap number) refusal
      by_life k true other found live e = no_some refusal e
      by_life k false other found dead e = inr (inr (sym (some_is IsInvalid refusal e), lost seen a number k is other found dead))

      by_place : (p : Option ℕ) → is_merging number v.merge ≡ false → place_of_snap number v.snaps ≡ p → refusal_at v.snaps p ≡ Some refusal → IsClosed (fixed_of size layers a) (shown_in a seen) (Snap number) refusal
      by_place None other none e = inr (inl (sym (some_is NoSuchDevice refusal e), (merged_is number v.merge ∙ other, missing number v.snaps none)))
      by_place (Some k) other found e = by_life k (get_or (map (λ (s : Kept B). s.live) v.snaps) k false) other found refl e

      by_merge : (b : Bool) → is_merging number v.merge ≡ b → (if b then Some MergingSnapshot else refusal_at v.snaps (place_of_snap number v.snaps)) ≡ Some refusal
          → IsClosed (fixed_of size layers a) (shown_in a seen) (Snap number) refusal
      by_merge true mine e = inl (sym (some_is MergingSnapshot refusal e), merged_is number v.merge ∙ mine)
      by_merge false other e = by_place (place_of_snap number v.snaps) other refl e

  -- a device that takes requests
  opened : (seen : List Entry) (a : AuditShape B) (dev : Dev) → IsSeen seen a → dev_refusal dev a.volume.merge a.volume.snaps ≡ None → IsOpen (fixed_of size layers a) (shown_in a seen) dev
  opened seen a Origin is e = tt
  opened seen a (Snap number) is e = by_merge (is_merging number a.volume.merge) refl e
    where
      v : Volumed B
      v = a.volume

      Opened : Type 0
      Opened = IsOpen (fixed_of size layers a) (shown_in a seen) (Snap number)

      by_life : (k : ℕ) (b : Bool) → is_merging number v.merge ≡ false → place_of_snap number v.snaps ≡ Some k → get_or (map (λ (s : Kept B). s.live) v.snaps) k false ≡ b
          → (if b then None else Some IsInvalid) ≡ None → Opened
      by_life k true other found live e =
          let test : Kept B → Bool = λ s. s.number == number in
          let at = place_is number k v.snaps found in (
            merged_is number v.merge ∙ other,
            there number k v.snaps found,
            λ loud lost. live_at contents (contents v.origin) number v.snaps (subst (λ n. n < length v.snaps) (sym at) (position_within test v.snaps k found))
                (ap (λ n. get_or (map (λ (s : Kept B). s.live) v.snaps) n false) at ∙ live)
                (sym (ap (λ (s : Shown). saved_under number s.saved) (ap (replay a.base) (sym is.entries) ∙ is.truth loud)) ∙ lost),
          )
      by_life k false other found dead e = some_none IsInvalid e

      by_place : (p : Option ℕ) → is_merging number v.merge ≡ false → place_of_snap number v.snaps ≡ p → refusal_at v.snaps p ≡ None → Opened
      by_place None other none e = some_none NoSuchDevice e
      by_place (Some k) other found e = by_life k (get_or (map (λ (s : Kept B). s.live) v.snaps) k false) other found refl e

      by_merge : (b : Bool) → is_merging number v.merge ≡ b → (if b then Some MergingSnapshot else refusal_at v.snaps (place_of_snap number v.snaps)) ≡ None → Opened
      by_merge true mine e = some_none MergingSnapshot e
      by_merge false other e = by_place (place_of_snap number v.snaps) other refl e

  -- a write of one whose store overflowed
  snap_of : (dev : Dev) (op : Op) (number : ℕ) → kind_at dev op ≡ SnapWrite number → dev ≡ Snap number
  snap_of Origin Read number e = absurd (let h : kind_at Origin Read ≡ SnapWrite number = e in cc)
  snap_of Origin (Write bytes) number e = absurd (let h : kind_at Origin (Write bytes) ≡ SnapWrite number = e in cc)
  snap_of Origin Flush number e = absurd (let h : kind_at Origin Flush ≡ SnapWrite number = e in cc)
  snap_of (Snap n) Read number e = absurd (let h : kind_at (Snap n) Read ≡ SnapWrite number = e in cc)
  snap_of (Snap n) Flush number e = absurd (let h : kind_at (Snap n) Flush ≡ SnapWrite number = e in cc)
  snap_of (Snap n) (Write bytes) number e = let h : SnapWrite n ≡ SnapWrite number = e in cc

  write_of : (dev : Dev) (op : Op) (number : ℕ) → kind_at dev op ≡ SnapWrite number → (bytes : List ℕ) × (op ≡ Write bytes)
  write_of Origin Read number e = absurd (let h : kind_at Origin Read ≡ SnapWrite number = e in cc)
  write_of Origin (Write bytes) number e = absurd (let h : kind_at Origin (Write bytes) ≡ SnapWrite number = e in cc)
  write_of Origin Flush number e = absurd (let h : kind_at Origin Flush ≡ SnapWrite number = e in cc)
  write_of (Snap n) Read number e = absurd (let h : kind_at (Snap n) Read ≡ SnapWrite number = e in cc)
  write_of (Snap n) Flush number e = absurd (let h : kind_at (Snap n) Flush ≡ SnapWrite number = e in cc)
  write_of (Snap n) (Write bytes) number e = (bytes, refl)

  not_merging : (number : ℕ) (v : Volumed B) (others : Option Refusal) → first_of_two (dev_refusal (Snap number) v.merge v.snaps) others ≡ None → is_merging number v.merge ≡ false
  not_merging number v others e = go (is_merging number v.merge) refl e
    where
      go : (b : Bool) → is_merging number v.merge ≡ b → first_of_two (if b then Some MergingSnapshot else refusal_at v.snaps (place_of_snap number v.snaps)) others ≡ None → is_merging number v.merge ≡ false
      go true at e = some_none MergingSnapshot e
      go false at e = at

  shut : (seen : List Entry) (a : AuditShape B) (request : Request) (number k : ℕ) → IsSeen seen a → kind_of request ≡ SnapWrite number → is_merging number a.volume.merge ≡ false → place_of_snap number a.volume.snaps ≡ Some k
      → did_overflow (get_or (map (λ (s : Kept B). s.overflow) a.volume.snaps) k Never) ≡ true → IsShut (fixed_of size layers a) (shown_in a seen) request
  shut seen a request number k is kind other found did =
      let test : Kept B → Bool = λ s. s.number == number in
      let at = place_is number k a.volume.snaps found in
      let (bytes, op) = write_of request.dev request.op number kind in (
        number,
        bytes,
        snap_of request.dev request.op number kind,
        op,
        merged_is number a.volume.merge ∙ other,
        there number k a.volume.snaps found,
        λ loud. ap (λ (s : Shown). overflow_under number s.saved) (ap (replay a.base) (sym is.entries) ∙ is.truth loud)
            ∙ marked_at contents (contents a.volume.origin) number a.volume.snaps (subst (λ n. n < length a.volume.snaps) (sym at) (position_within test a.volume.snaps k found))
            (ap (λ n. did_overflow (get_or (map (λ (s : Kept B). s.overflow) a.volume.snaps) n Never)) at ∙ did),
      )

  -- the first reason of a volume
  refused : (seen : List Entry) (a : AuditShape B) (request : Request) (refusal : Refusal) → IsSeen seen a → submit_refusal size request a.volume ≡ Some refusal → IsDenied (fixed_of size layers a) (shown_in a seen) (count_in seen) (Serve request) refusal
  refused seen a request refusal is e = by_dev (dev_refusal request.dev v.merge v.snaps) refl e
    where
      v : Volumed B
      v = a.volume

      many : Bool
      many = are_too_many (starting (kind_of request) request.range.first v.merge v.snaps) v

      Denied : Type 0
      Denied = IsDenied (fixed_of size layers a) (shown_in a seen) (count_in seen) (Serve request) refusal

      Opened : Type 0
      Opened = IsOpen (fixed_of size layers a) (shown_in a seen) request.dev

      asked_range : Range
      asked_range = kept_range request.op request.range

      is_here : Bool
      is_here = is_piece_of (piece_with v.merge v.snaps) (size v.origin) asked_range

      here_is : is_piece_of (piece_at (fixed_of size layers a)) (size v.origin) asked_range ≡ is_here
      here_is = ap (λ n. is_piece_of n (size v.origin) asked_range) (piece_is v.merge v.snaps)

      by_limit : (b : Bool) → Opened → is_here ≡ true → (if b then Some TooMany else None) ≡ Some refusal → Denied
      by_limit true opens fits e = inr (inr (inr (inl (sym (some_is TooMany refusal e), opens, here_is ∙ fits))))
      by_limit false opens fits e = no_some refusal e

      by_range : (b : Bool) → Opened → is_here ≡ b → first_of_two (if b then None else Some OutOfRange) (if many then Some TooMany else None) ≡ Some refusal → Denied
      by_range true opens fits e = by_limit many opens fits e
      by_range false opens out e = inr (inr (inl (sym (some_is OutOfRange refusal e), opens, here_is ∙ out)))

      rest : Option Refusal
      rest = first_of_two (range_refusal (piece_with v.merge v.snaps) (size v.origin) (kept_range request.op request.range)) (limit_refusal (starting (kind_of request) request.range.first v.merge v.snaps) v)

      by_did : (number k : ℕ) (b : Bool) → Opened → kind_of request ≡ SnapWrite number → is_merging number v.merge ≡ false → place_of_snap number v.snaps ≡ Some k → did_overflow (get_or (map (λ (s : Kept B). s.overflow) v.snaps) k Never) ≡ b
          → first_of_two (if b then Some OverflowRefusal else None) rest ≡ Some refusal → Denied
      by_did number k true opens kind other found did e = inr (inl (sym (some_is OverflowRefusal refusal e), shut seen a request number k is kind other found did))
      by_did number k false opens kind other found did e = by_range is_here opens refl e

      by_place : (number : ℕ) (p : Option ℕ) → Opened → kind_of request ≡ SnapWrite number → is_merging number v.merge ≡ false → place_of_snap number v.snaps ≡ p → first_of_two (shut_at v.snaps p) rest ≡ Some refusal → Denied
      by_place number None opens kind other found e = by_range is_here opens refl e
      by_place number (Some k) opens kind other found e = by_did number k (did_overflow (get_or (map (λ (s : Kept B). s.overflow) v.snaps) k Never)) opens kind other found refl e

      by_kind : (kind : Kind) → Opened → kind_of request ≡ kind → dev_refusal request.dev v.merge v.snaps ≡ None → first_of_two (shut_refusal kind v.snaps) rest ≡ Some refusal → Denied
      by_kind OriginRead opens kind free e = by_range is_here opens refl e
      by_kind OriginWrite opens kind free e = by_range is_here opens refl e
      by_kind OriginFlush opens kind free e = by_range is_here opens refl e
      by_kind (SnapRead n) opens kind free e = by_range is_here opens refl e
      by_kind (SnapFlush n) opens kind free e = by_range is_here opens refl e
      by_kind (SnapWrite n) opens kind free e =
          let alone = not_merging n v None (ap (λ d. first_of_two (dev_refusal d v.merge v.snaps) None) (sym (snap_of request.dev request.op n kind)) ∙ ap (λ r. first_of_two r None) free) in
          by_place n (place_of_snap n v.snaps) opens kind alone refl e

      by_dev : (d : Option Refusal) → dev_refusal request.dev v.merge v.snaps ≡ d
          → first_of_two d (first_of_two (shut_refusal (kind_of request) v.snaps) rest) ≡ Some refusal
          → IsDenied (fixed_of size layers a) (shown_in a seen) (count_in seen) (Serve request) refusal
      by_dev (Some r) at e = inl (closed seen a refusal request.dev is (at ∙ e))
      by_dev None at e = by_kind (kind_of request) (opened seen a request.dev is at) refl at e

  -- a write of a snapshot that found its store full
  full : (seen : List Entry) (a b : AuditShape B) (request : Request) (number : ℕ) → IsSeen seen b → KeepsAll size a.volume b.volume → submit_refusal size request a.volume ≡ None → request.dev ≡ Snap number
      → IsFoundFull contents layers number request.range.first a.volume b.volume → IsClosed (fixed_of size layers b) (shown_in b seen) (Snap number) IsInvalid
  full seen a b request number is kept free dev found =
      let v = a.volume in
      let w = b.volume in
      let test : Kept B → Bool = λ s. s.number == number in
      let others = first_of_two (shut_refusal (kind_of request) v.snaps) (first_of_two (range_refusal (piece_with v.merge v.snaps) (size v.origin) (kept_range request.op request.range)) (limit_refusal (starting (kind_of request) request.range.first v.merge v.snaps) v)) in
      let alone : is_merging number v.merge ≡ false = not_merging number v others (ap (λ d. first_of_two (dev_refusal d v.merge v.snaps) others) (sym dev) ∙ free) in
      let at : position_or_len test w.snaps ≡ found.place =
      numbered number w.snaps ∙ ap (λ (l : List ℕ). position_or_len (λ n. n == number) l) kept.numbers ∙ sym (numbered number v.snaps) ∙ place_is number found.place v.snaps found.found in
      let long : length (map number_of_snap w.snaps) ≡ length (map number_of_snap v.snaps) = ap length kept.numbers in
      let within : position_or_len test w.snaps < length w.snaps =
      omega (arith, at, position_within test v.snaps found.place found.found, long, length-map w.snaps number_of_snap, length-map v.snaps number_of_snap) in
      let lives : map (λ (s : Kept B). s.live) w.snaps ≡ map (λ (s : Kept B). s.live) (set v.snaps found.place (spoilt_of found.snap)) =
      sym (lives_unroomed w.snaps) ∙ ap (map (λ (s : Kept B). s.live)) found.spoilt ∙ lives_unroomed (set v.snaps found.place (spoilt_of found.snap)) in
      inr (inr (
        refl,
        (
          ap (is_merged number) kept.merged ∙ merged_is number v.merge ∙ alone,
          ap (λ (l : List ℕ). is_in l number) kept.numbers ∙ there number found.place v.snaps found.found,
          λ loud. ap (λ (s : Shown). saved_under number s.saved) (ap (replay b.base) (sym is.entries) ∙ is.truth loud)
              ∙ dead_at contents (contents w.origin) number w.snaps within
              (ap (λ n. get_or (map (λ (s : Kept B). s.live) w.snaps) n false) at ∙ ap (λ (l : List Bool). get_or l found.place false) lives ∙ dead_set v.snaps found.place (spoilt_of found.snap) refl),
        ),
      ))

  overflown : (seen : List Entry) (a b : AuditShape B) (request : Request) (number : ℕ) → IsSeen seen b → KeepsAll size a.volume b.volume → submit_refusal size request a.volume ≡ None → kind_of request ≡ SnapWrite number
      → IsOverflown contents layers number request.range.first a.volume b.volume → IsShut (fixed_of size layers b) (shown_in b seen) request
  overflown seen a b request number is kept free kind found =
      let v = a.volume in
      let w = b.volume in
      let test : Kept B → Bool = λ s. s.number == number in
      let snap : Kept B = record found.snap { overflow = Did } in
      let others = first_of_two (shut_refusal (kind_of request) v.snaps) (first_of_two (range_refusal (piece_with v.merge v.snaps) (size v.origin) (kept_range request.op request.range)) (limit_refusal (starting (kind_of request) request.range.first v.merge v.snaps) v)) in
      let alone : is_merging number v.merge ≡ false = not_merging number v others (ap (λ d. first_of_two (dev_refusal d v.merge v.snaps) others) (sym (snap_of request.dev request.op number kind)) ∙ free) in
      let same : w.merge ≡ v.merge = ap (λ (x : Volumed B). x.merge) found.becomes in
      let marked : map (λ (s : Kept B). s.overflow) w.snaps ≡ map (λ (s : Kept B). s.overflow) (set v.snaps found.place snap) =
      sym (overflows_unroomed w.snaps) ∙ ap (map (λ (s : Kept B). s.overflow)) found.marked ∙ overflows_unroomed (set v.snaps found.place snap) in
      let low = position_within test v.snaps found.place found.found in
      let long : length w.snaps ≡ length v.snaps = sym (length-map w.snaps number_of_snap) ∙ ap length kept.numbers ∙ length-map v.snaps number_of_snap in
      let at : position_or_len test w.snaps ≡ found.place =
      numbered number w.snaps ∙ ap (λ (l : List ℕ). position_or_len (λ n. n == number) l) kept.numbers ∙ sym (numbered number v.snaps) ∙ place_is number found.place v.snaps found.found in
      let here : place_of_snap number w.snaps ≡ Some found.place =
      ap (λ b. cond b (Some (position_or_len test w.snaps)) None) (lt-true (position_or_len test w.snaps) (length w.snaps) (omega (arith, at, low, long))) ∙ ap Some at in
      shut seen b request number found.place is kind (ap (is_merging number) same ∙ alone) here (ap (λ (l : List Overflowing). did_overflow (get_or l found.place Never)) marked ∙ marked_set v.snaps found.place snap low refl)

  pub denied : (seen : List Entry) (a b : AuditShape B) (request : Request) (refusal : Refusal) → IsSeen seen b → IsBounded b → KeepsAll size a.volume b.volume
      → IsNotSubmitted contents layers size request refusal a b → WasDenied start fixed seen (Serve request) refusal
  denied seen a b request refusal is few kept (inl (inl full, same)) =
      inr (fixed_of size layers b, is.stays, agrees seen b is, inr (inr (inr (inr (full.1, crowded seen b is few (ap (is_full_by 1) same ∙ full.0))))))
  denied seen a b request refusal is few kept (inl (inr starved, same)) = inl starved.1
  denied seen a b request refusal is few kept (inr (free, inl told)) = inr (fixed_of size layers b, is.stays, agrees seen b is, refused seen b request refusal is (ap (submit_refusal size request) told.1 ∙ told.0))
  denied seen a b request refusal is few kept (inr (free, inr (inl starved))) = inl starved.1
  denied seen a b request refusal is few kept (inr (free, inr (inr (inr marked)))) =
      inr (fixed_of size layers b, is.stays, agrees seen b is, inr (inl (marked.1, overflown seen a b request marked.2.0 is kept marked.0 marked.2.1 marked.2.2)))
  denied seen a b request refusal is few kept (inr (free, inr (inr (inl lost)))) =
      let number = lost.2.0 in
      let dev = snap_of request.dev request.op number lost.2.1 in
      inr (
        fixed_of size layers b,
        is.stays,
        agrees seen b is,
        inl (subst (λ (x : Dev × Refusal). IsClosed (fixed_of size layers b) (shown_in b seen) x.0 x.1) (λ i. (sym dev i, sym lost.1 i)) (full seen a b request number is kept lost.0 dev lost.2.2)),
      )

  -- why no merge begins
  not_begun : (seen : List Entry) (a : AuditShape B) (number : ℕ) (refusal : Refusal) → IsSeen seen a → refusal ≢ NotQuiet → begin_refusal number a.volume ≡ Some refusal
      → IsDenied (fixed_of size layers a) (shown_in a seen) (count_in seen) (Begin number) refusal
  not_begun seen a number refusal is calm e = by_merge v.merge refl e
    where
      v : Volumed B
      v = a.volume

      Denied : Type 0
      Denied = IsDenied (fixed_of size layers a) (shown_in a seen) (count_in seen) (Begin number) refusal

      by_quiet : (q : Bool) → (if q then None else Some NotQuiet) ≡ Some refusal → Denied
      by_quiet true e = no_some refusal e
      by_quiet false e = absurd (calm (sym (some_is NotQuiet refusal e)))

      by_life : (quiet : Bool) (k : ℕ) (b : Bool) → v.merge ≡ None → place_of_snap number v.snaps ≡ Some k → get_or (map (λ (s : Kept B). s.live) v.snaps) k false ≡ b
          → (if b then (if quiet then None else Some NotQuiet) else Some IsInvalid) ≡ Some refusal → Denied
      by_life quiet k true none found live e = by_quiet quiet e
      by_life quiet k false none found dead e =
          inr (inr (inl (sym (some_is IsInvalid refusal e), ap merged_of none, lost seen a number k is (ap (is_merging number) none) found dead)))

      by_place : (quiet : Bool) (p : Option ℕ) → v.merge ≡ None → place_of_snap number v.snaps ≡ p → place_refusal (map (λ (s : Kept B). s.live) v.snaps) quiet p ≡ Some refusal → Denied
      by_place quiet None none missed e =
          inr (inl (sym (some_is NoSuchDevice refusal e), (merged_is number v.merge ∙ ap (is_merging number) none, missing number v.snaps missed)))
      by_place quiet (Some k) none found e = by_life quiet k (get_or (map (λ (s : Kept B). s.live) v.snaps) k false) none found refl e

      in_progress : (m : Merging B) → v.merge ≡ Some m → (IsMissing (fixed_of size layers a) number → ⊥) → MergeInProgress ≡ refusal → Denied
      in_progress m begun here same = inl (sym same, (λ none. some_none (m.number, m.state.chunk) (sym (ap merged_of begun) ∙ none)), here)

      by_mine : (m : Merging B) (mine : Bool) (p : Option ℕ) → v.merge ≡ Some m → (m.number == number) ≡ mine → place_of_snap number v.snaps ≡ p → Some (beside_refusal mine p) ≡ Some refusal → Denied
      by_mine m mine (Some k) begun own found e =
          in_progress m begun (λ missing. true≢false (sym (there number k v.snaps found) ∙ missing.1)) (some_is MergeInProgress refusal e)
      by_mine m true None begun own missed e =
          in_progress m begun (λ missing. true≢false (sym (merged_is number v.merge ∙ ap (is_merging number) begun ∙ own) ∙ missing.0)) (some_is MergeInProgress refusal e)
      by_mine m false None begun other missed e =
          inr (inl (sym (some_is NoSuchDevice refusal e), (merged_is number v.merge ∙ ap (is_merging number) begun ∙ other, missing number v.snaps missed)))

      by_merge : (merge : Option (Merging B)) → v.merge ≡ merge → begin_with merge number v ≡ Some refusal → Denied
      by_merge None none e = by_place _ (place_of_snap number v.snaps) none refl e
      by_merge (Some m) begun e = by_mine m (m.number == number) (place_of_snap number v.snaps) begun refl refl e

  pub merge_denied : (seen : List Entry) (a b : AuditShape B) (number : ℕ) (refusal : Refusal) → IsSeen seen a → IsBounded a → IsNotMerged number refusal a b → refusal ≢ NotQuiet → WasDenied start fixed seen (Begin number) refusal
  merge_denied seen a b number refusal is few (inl full) calm = inr (fixed_of size layers a, is.stays, agrees seen a is, inr (inr (inr (full.1, crowded seen a is few full.0))))
  merge_denied seen a b number refusal is few (inr (free, inl told, kept)) calm = inr (fixed_of size layers a, is.stays, agrees seen a is, not_begun seen a number refusal is calm told.0)
  merge_denied seen a b number refusal is few (inr (free, inr starved, kept)) calm = inl starved.1

-- a merge is told to wait only where the volume is not quiet
busy_place : (lives : List Bool) (quiet : Bool) (p : Option ℕ) → place_refusal lives quiet p ≡ Some NotQuiet → quiet ≡ false
busy_place lives false p e = refl
busy_place lives true None e = absurd (let h : NoSuchDevice ≡ NotQuiet = some_is NoSuchDevice NotQuiet e in cc)
busy_place lives true (Some k) e = by_life (get_or lives k false) e
  where
    by_life : (b : Bool) → (if b then None else Some IsInvalid) ≡ Some NotQuiet → true ≡ false
    by_life true e = no_some NotQuiet e
    by_life false e = absurd (let h : IsInvalid ≡ NotQuiet = some_is IsInvalid NotQuiet e in cc)

busy_beside : (mine : Bool) (p : Option ℕ) → beside_refusal mine p ≡ NotQuiet → ⊥
busy_beside mine (Some k) e = let h : MergeInProgress ≡ NotQuiet = e in cc
busy_beside true None e = let h : MergeInProgress ≡ NotQuiet = e in cc
busy_beside false None e = let h : NoSuchDevice ≡ NotQuiet = e in cc

busy_with : {B : Type 0} (merge : Option (Merging B)) (number : ℕ) (v : Volumed B) → begin_with merge number v ≡ Some NotQuiet → is_quiet_of v ≡ false
busy_with None number v e = busy_place _ (is_quiet_of v) (place_of_snap number v.snaps) e
busy_with (Some m) number v e = absurd (busy_beside (m.number == number) (place_of_snap number v.snaps) (some_is _ NotQuiet e))

pub busy_so : {B : Type 0} (number : ℕ) (refusal : Refusal) (a b : AuditShape B) → refusal ≡ NotQuiet → IsNotMerged number refusal a b → is_quiet_of a.volume ≡ false
busy_so number refusal a b told (inl full) = absurd (let h : JournalFull ≡ NotQuiet = sym full.1 ∙ told in cc)
busy_so number refusal a b told (inr (free, inl why, kept)) = busy_with a.volume.merge number a.volume (why.0 ∙ ap Some told)
busy_so number refusal a b told (inr (free, inr starved, kept)) = absurd (let h : NoMemory ≡ NotQuiet = sym starved.1 ∙ told in cc)
