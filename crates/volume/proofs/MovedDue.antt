-- What is due of a volume is what is due of the event machine.
use Rattle.std.proofs.Common.{◌≡◌, ℕ, ◌+◌, ◌*◌, ◌%◌, ◌<◌, Bool, true, false, List, [], ◌∷◌, Option, Some, length, get_or, map, refl, sym, ◌∙◌, ap, inl, inr}
use Rattle.std.specs.Prelude.{◌==◌, ◌&&◌, ◌||◌, not, min, ◌-◌, if◌then◌else◌}
use Rattle.std.specs.List.{All, list_any, prefix_len}
use Rattle.in_flight.proofs.Batches.{prefix_map}
use Rattle.std.proofs.lemmas.Bool.{cases_Bool, eqb-true, false≢true}
use Rattle.std.proofs.lemmas.Nat.{mod-mul-add}
use Rattle.std.proofs.lemmas.List.Elements.{All-head, All-tail}
use Rattle.device.specs.Layers.{Layer}
use Rattle.plain_machine.specs.declared.request.Reply.{Reply}
use Rattle.in_flight.specs.Due.{first_by, least, is_copy_at, number_of_copy, number_of_mark, number_of_flight, front_ready, front_unflushed, is_publishable as is_publishable_in, is_issuable as is_issuable_in}
use Rattle.in_flight.specs.Routes.{is_reading as is_reading_in}
use Rattle.in_flight.specs.declared.copies.ChunkCopy.{ChunkCopy}
use Rattle.in_flight.specs.declared.copies.Stage.{Stage}
use Rattle.in_flight.specs.declared.copies.Stage.TheVariants.{Waiting, Read}
use Rattle.in_flight.specs.declared.copies.Mark.{Mark}
use Rattle.in_flight.specs.declared.flights.Flight.{Flight}
use Rattle.volume_laws.specs.Due.{is_unsafe, DueSnap, least_of, copy_of, publishable_of, can_mark as can_mark_due, can_flush_store as can_flush_store_due, can_commit as can_commit_due, can_zero as can_zero_due, snap_number, due_of}
use Rattle.event_machine.specs.Held.{SnapHeld, number_of}
use Rattle.event_machine.specs.Due.{filled_of, batch_of, is_ready, fills_area, needs_area, waits_for_area, is_front_ready, is_front_unflushed, can_commit, can_zero, can_mark, can_flush_store, is_at, copy_at, number_of_copying, is_reading, is_publishable, publishable_in, is_issuable, number_of_going, least_in, chosen, due}
use Rattle.event_machine.specs.Seen.{copying_of, going_of}
use Rattle.snapshot.specs.Kept.{Kept, due_of_kept, batch_of as batch_in, fills_area as fills_area_of, needs_area as needs_area_of, waits_area as waits_area_of}
use Rattle.volume.specs.Volumed.{Volumed, dues_of}
use Rattle.volume.specs.Whole.{IsCounted}
use Rattle.volume.specs.Moved.{held_of, moving_of}
use Rattle.volume.proofs.MovedLists.{any_seen}

-- the first of a kind in two lists that are seen alike
pub first_alike : {X Y Z : Type 0} (f : X → Y) (g : X → Z) (t : Y → Bool) (u : Z → Bool) (m : Y → ℕ) (n : Z → ℕ) (xs : List X) → All (λ x. t (f x) ≡ u (g x)) xs → ((x : X) → m (f x) ≡ n (g x))
    → first_by t m (map f xs) ≡ first_by u n (map g xs)
first_alike f g t u m n [] same numbers = refl
first_alike {X = X} f g t u m n (x ∷ xs) same numbers =
    ap (λ b. if b then Some (m (f x)) else first_by t m (map f xs)) (All-head (λ (y : X). t (f y) ≡ u (g y)) x xs same)
    ∙ ap (λ k. if u (g x) then Some k else first_by t m (map f xs)) (numbers x)
    ∙ ap (λ r. if u (g x) then Some (n (g x)) else r) (first_alike f g t u m n xs (All-tail (λ (y : X). t (f y) ≡ u (g y)) x xs same) numbers)

least_alike : {X : Type 0} (f : X → SnapHeld) (g : X → DueSnap) (t : SnapHeld → Option ℕ) (u : DueSnap → Option ℕ) (xs : List X) → ((x : X) → t (f x) ≡ u (g x)) → least_in t (map f xs) ≡ least_of u (map g xs)
least_alike f g t u [] same = refl
least_alike f g t u (x ∷ xs) same = ap (λ a. least a (least_in t (map f xs))) (same x) ∙ ap (λ r. least (u (g x)) r) (least_alike f g t u xs same)

-- the first of a kind in a list that is seen as another
first_seen : {X Y : Type 0} (f : X → Y) (t : Y → Bool) (u : X → Bool) (m : Y → ℕ) (n : X → ℕ) (xs : List X) → ((x : X) → t (f x) ≡ u x) → ((x : X) → m (f x) ≡ n x) → first_by t m (map f xs) ≡ first_by u n xs
first_seen f t u m n [] same numbers = refl
first_seen f t u m n (x ∷ xs) same numbers =
    ap (λ b. if b then Some (m (f x)) else first_by t m (map f xs)) (same x)
    ∙ ap (λ k. if u x then Some k else first_by t m (map f xs)) (numbers x)
    ∙ ap (λ r. if u x then Some (n x) else r) (first_seen f t u m n xs same numbers)

first_same : {X : Type 0} (t u : X → Bool) (n : X → ℕ) (xs : List X) → ((x : X) → t x ≡ u x) → first_by t n xs ≡ first_by u n xs
first_same t u n [] same = refl
first_same t u n (x ∷ xs) same = ap (λ b. if b then Some (n x) else first_by t n xs) (same x) ∙ ap (λ r. if u x then Some (n x) else r) (first_same t u n xs same)

pub front_same : (copies : List ChunkCopy) → is_front_ready (map copying_of copies) ≡ front_ready copies
front_same [] = refl
front_same (p ∷ ps) = refl

pub unflushed_same : (copies : List ChunkCopy) → is_front_unflushed (map copying_of copies) ≡ front_unflushed copies
unflushed_same [] = refl
unflushed_same (p ∷ ps) = refl

pub front_none : (copies : List ChunkCopy) → copies ≡ [] → front_ready copies ≡ false
front_none copies e = ap front_ready e

pub unequal : (a b : ℕ) → (a ≡ b → ⊥) → (a == b) ≡ false
unequal a b apart = elim (cases_Bool (a == b)) [
  | inl same ↦ absurd (apart (eqb-true a b same))
  | inr other ↦ other
]

-- the slot of the next pair
pub slot_within : (a n f k : ℕ) → f < n → k ≡ a * n + f → k % n ≡ f
slot_within a n f k lt is = ap (λ x. x % n) is ∙ mod-mul-add a n f lt

module _ {B : Type 0} (contents : B → List ℕ) (layers : B → List Layer) where
  pub filled_same : (s : Kept B) → IsCounted s → s.live ≡ true → filled_of (held_of contents layers s) ≡ s.state.filled
  filled_same s c live = slot_within s.state.current (32 * s.state.chunk) s.state.filled (length s.pairs) (c.fits live) c.count

  pub batch_same : (s : Kept B) → IsCounted s → s.live ≡ true → batch_of (held_of contents layers s) ≡ batch_in s.state s.copies
  batch_same s c live =
      ap (λ f. min (32 * s.state.chunk - f) (prefix_len is_ready (map copying_of s.copies))) (filled_same s c live)
      ∙ ap (min (32 * s.state.chunk - s.state.filled)) (prefix_map copying_of is_ready s.copies)

  fills_same : (s : Kept B) → IsCounted s → s.live ≡ true → fills_area (held_of contents layers s) ≡ fills_area_of s.state s.copies
  fills_same s c live =
      ap (λ f. f + batch_of (held_of contents layers s) == 32 * s.state.chunk) (filled_same s c live)
      ∙ ap (λ n. s.state.filled + n == 32 * s.state.chunk) (batch_same s c live)

  pub needs_same : (s : Kept B) → IsCounted s → s.live ≡ true → needs_area (held_of contents layers s) ≡ needs_area_of s.state s.copies
  needs_same s c live = ap (λ b. b && not s.state.zeroed) (fills_same s c live)

  pub waits_same : (s : Kept B) → IsCounted s → s.live ≡ true → waits_for_area (held_of contents layers s) ≡ waits_area_of s.state s.copies
  waits_same s c live = ap (λ b. b && not s.state.firm) (fills_same s c live)

  -- one whose first copy may be committed is live
  pub front_lives : (s : Kept B) → IsCounted s → front_ready s.copies ≡ true → s.live ≡ true
  front_lives s c e = elim (cases_Bool s.live) [
    | inl live ↦ live
    | inr spoiled ↦ absurd (false≢true (sym (front_none s.copies (c.idle spoiled)) ∙ e))
  ]

  -- a test of one whose first copy may be committed
  by_front : (s : Kept B) → IsCounted s → (x y : Bool) → (s.live ≡ true → x ≡ y) → (is_front_ready (map copying_of s.copies) && x) ≡ (front_ready s.copies && y)
  by_front s c x y same = ap (λ b. b && x) (front_same s.copies) ∙ elim (cases_Bool (front_ready s.copies)) [
    | inl front ↦ ap (λ b. front_ready s.copies && b) (same (front_lives s c front))
    | inr none ↦ ap (λ b. b && x) none ∙ sym (ap (λ b. b && y) none)
  ]

  pub can_commit_same : (s : Kept B) → IsCounted s → can_commit (held_of contents layers s) ≡ (front_ready s.copies && not (waits_area_of s.state s.copies))
  can_commit_same s c = by_front s c (not (waits_for_area (held_of contents layers s))) (not (waits_area_of s.state s.copies)) (λ live. ap not (waits_same s c live))

  pub can_zero_same : (s : Kept B) → IsCounted s → can_zero (held_of contents layers s) ≡ (front_ready s.copies && needs_area_of s.state s.copies)
  can_zero_same s c = by_front s c (needs_area (held_of contents layers s)) (needs_area_of s.state s.copies) (needs_same s c)

  pub can_flush_same : (s : Kept B) → IsCounted s → can_flush_store (held_of contents layers s) ≡ can_flush_store_due (due_of_kept contents layers s)
  can_flush_same s c =
      let h : SnapHeld = held_of contents layers s in
      let unsafe : Bool = list_any is_unsafe s.marks in
      let waits : Bool = waits_for_area h && not (needs_area h) in
      ap (λ b. (s.untried && s.marked) || b || (is_front_ready (map copying_of s.copies) && waits) || unsafe) (unflushed_same s.copies)
      ∙ ap (λ b. (s.untried && s.marked) || front_unflushed s.copies || b || unsafe)
      (by_front s c waits (waits_area_of s.state s.copies && not (needs_area_of s.state s.copies)) (λ live. ap (λ b. b && not (needs_area h)) (waits_same s c live) ∙ ap (λ b. waits_area_of s.state s.copies && not b) (needs_same s c live)))

  pub publishable_same : (s : Kept B) (fs : List Flight) (m : Mark) → is_publishable (map going_of fs) (held_of contents layers s) m ≡ is_publishable_in s.number s.state.chunk fs m
  publishable_same s fs m = ap (λ b. m.safe && not b) (any_seen going_of (is_reading (held_of contents layers s) m.chunk) (is_reading_in s.number s.state.chunk m.chunk) fs (λ f. refl))

  copy_seen : (stage : Stage) (s : Kept B) → copy_at stage (held_of contents layers s) ≡ copy_of stage (due_of_kept contents layers s)
  copy_seen stage s = first_seen copying_of (is_at stage) (is_copy_at stage) number_of_copying number_of_copy s.copies (λ p. refl) (λ p. refl)

  mark_seen : (fs : List Flight) (s : Kept B) → publishable_in (map going_of fs) (held_of contents layers s) ≡ publishable_of fs (due_of_kept contents layers s)
  mark_seen fs s = first_same (is_publishable (map going_of fs) (held_of contents layers s)) (is_publishable_in s.number s.state.chunk fs) number_of_mark s.marks (publishable_same s fs)

  eight : (a a' b b' c c' d d' e e' f f' g g' h h' : Option ℕ) → a ≡ a' → b ≡ b' → c ≡ c' → d ≡ d' → e ≡ e' → f ≡ f' → g ≡ g' → h ≡ h' → chosen a b c d e f g h ≡ chosen a' b' c' d' e' f' g' h'
  eight a a' b b' c c' d d' e e' f f' g g' h h' pa pb pc pd pe pf pg ph =
      ap (λ x. chosen x b c d e f g h) pa ∙ ap (λ x. chosen a' x c d e f g h) pb ∙ ap (λ x. chosen a' b' x d e f g h) pc ∙ ap (λ x. chosen a' b' c' x e f g h) pd
      ∙ ap (λ x. chosen a' b' c' d' x f g h) pe ∙ ap (λ x. chosen a' b' c' d' e' x g h) pf ∙ ap (λ x. chosen a' b' c' d' e' f' x h) pg ∙ ap (λ x. chosen a' b' c' d' e' f' g' x) ph

  -- the event that is due first
  pub due_is : (replied : Option Reply) (v : Volumed B) → All IsCounted v.snaps → due (moving_of contents layers replied v) ≡ due_of (dues_of contents layers v) v.flights
  due_is replied v counted =
      let held : Kept B → SnapHeld = held_of contents layers in
      let dues : Kept B → DueSnap = due_of_kept contents layers in
      let snaps : List (Kept B) = v.snaps in
      let fs : List Flight = v.flights in
      eight
      (first_by can_mark number_of (map held snaps)) (first_by can_mark_due snap_number (map dues snaps))
      (first_by can_flush_store number_of (map held snaps)) (first_by can_flush_store_due snap_number (map dues snaps))
      (least_in (publishable_in (map going_of fs)) (map held snaps)) (least_of (publishable_of fs) (map dues snaps))
      (first_by can_commit number_of (map held snaps)) (first_by can_commit_due snap_number (map dues snaps))
      (first_by can_zero number_of (map held snaps)) (first_by can_zero_due snap_number (map dues snaps))
      (least_in (copy_at Read) (map held snaps)) (least_of (copy_of Read) (map dues snaps))
      (least_in (copy_at Waiting) (map held snaps)) (least_of (copy_of Waiting) (map dues snaps))
      (first_by is_issuable number_of_going (map going_of fs)) (first_by is_issuable_in number_of_flight fs)
      (first_alike held dues can_mark can_mark_due number_of snap_number snaps (λ k d lt. refl) (λ s. refl))
      (first_alike held dues can_flush_store can_flush_store_due number_of snap_number snaps (λ k d lt. can_flush_same (get_or snaps k d) (counted k d lt)) (λ s. refl))
      (least_alike held dues (publishable_in (map going_of fs)) (publishable_of fs) snaps (mark_seen fs))
      (first_alike held dues can_commit can_commit_due number_of snap_number snaps (λ k d lt. can_commit_same (get_or snaps k d) (counted k d lt)) (λ s. refl))
      (first_alike held dues can_zero can_zero_due number_of snap_number snaps (λ k d lt. can_zero_same (get_or snaps k d) (counted k d lt)) (λ s. refl))
      (least_alike held dues (copy_at Read) (copy_of Read) snaps (copy_seen Read))
      (least_alike held dues (copy_at Waiting) (copy_of Waiting) snaps (copy_seen Waiting))
      (first_seen going_of is_issuable is_issuable_in number_of_going number_of_flight fs (λ f. refl) (λ f. refl))
