-- Where each snapshot is done and no request is in flight, no event of snapshots and requests is due.
use Rattle.std.proofs.Common.{◌≡◌, ℕ, Bool, true, false, List, [], ◌∷◌, Option, Some, None, length, map, refl, ◌∙◌, ap, nat_eq}
use Rattle.std.specs.Prelude.{◌&&◌, ◌||◌, not, if◌then◌else◌}
use Rattle.std.specs.List.{list_all, list_any}
use Rattle.std.proofs.lemmas.Bool.{eqb-true, false≢true}
use Rattle.std.proofs.lemmas.List.{nil_from_length}
use Rattle.device.specs.Layers.{Layer}
use Rattle.plain_machine.specs.declared.request.Reply.{Reply}
use Rattle.in_flight.specs.declared.copies.ChunkCopy.{ChunkCopy}
use Rattle.in_flight.specs.declared.copies.Mark.{Mark}
use Rattle.in_flight.specs.declared.copies.Stage.{Stage}
use Rattle.in_flight.specs.declared.copies.Stage.TheVariants.{Waiting, Read}
use Rattle.in_flight.specs.declared.flights.Flight.{Flight}
use Rattle.in_flight.specs.Due.{first_by, least, number_of_mark}
use Rattle.volume_laws.specs.Due.{is_unsafe}
use Rattle.event_machine.specs.Held.{SnapHeld, Going, number_of}
use Rattle.event_machine.specs.Due.{is_at, copy_at, number_of_copying, is_publishable, publishable_in, is_front_ready, is_front_unflushed, needs_area, waits_for_area, can_mark, can_flush_store, can_commit, can_zero, is_issuable, number_of_going, least_in, chosen, due}
use Rattle.event_machine.specs.Seen.{copying_of, going_of}
use Rattle.snapshot.specs.Kept.{Kept}
use Rattle.volume.specs.Volumed.{Volumed}
use Rattle.volume.specs.Moved.{held_of, moving_of}
use Rattle.volume.specs.Leaving.{is_done_of}
use Rattle.volume.proofs.Shown.{and_left, and_right}

not_true : (a : Bool) → not a ≡ true → a ≡ false
not_true true e = absurd (false≢true e)
not_true false e = refl

-- what a snapshot that is done has not
module _ {B : Type 0} (s : Kept B) (done : is_done_of s ≡ true) where
  lists : (nat_eq (length s.copies) 0 && nat_eq (length s.marks) 0) ≡ true
  lists = and_left (nat_eq (length s.copies) 0 && nat_eq (length s.marks) 0) (not s.untried) done

  pub done_tried : s.untried ≡ false
  done_tried = not_true s.untried (and_right (nat_eq (length s.copies) 0 && nat_eq (length s.marks) 0) (not s.untried) done)

  pub done_copies : s.copies ≡ []
  done_copies = nil_from_length s.copies (eqb-true (length s.copies) 0 (and_left (nat_eq (length s.copies) 0) (nat_eq (length s.marks) 0) lists))

  pub done_marks : s.marks ≡ []
  done_marks = nil_from_length s.marks (eqb-true (length s.marks) 0 (and_right (nat_eq (length s.copies) 0) (nat_eq (length s.marks) 0) lists))

chosen_none : (a b c d e f g h : Option ℕ) → a ≡ None → b ≡ None → c ≡ None → d ≡ None → e ≡ None → f ≡ None → g ≡ None → h ≡ None → chosen a b c d e f g h ≡ None
chosen_none a b c d e f g h pa pb pc pd pe pf pg ph =
    ap (λ x. chosen x b c d e f g h) pa ∙ ap (λ x. chosen None x c d e f g h) pb ∙ ap (λ x. chosen None None x d e f g h) pc ∙ ap (λ x. chosen None None None x e f g h) pd
    ∙ ap (λ x. chosen None None None None x f g h) pe ∙ ap (λ x. chosen None None None None None x g h) pf ∙ ap (λ x. chosen None None None None None None x h) pg
    ∙ ap (λ x. chosen None None None None None None None x) ph

module _ {B : Type 0} (contents : B → List ℕ) (layers : B → List Layer) where
  -- a test that no snapshot passes that is done
  first_idle : (test : SnapHeld → Bool) (ss : List (Kept B)) → ((s : Kept B) → is_done_of s ≡ true → test (held_of contents layers s) ≡ false) → list_all is_done_of ss ≡ true → first_by test number_of (map (held_of contents layers) ss) ≡ None
  first_idle test [] fails done = refl
  first_idle test (s ∷ ss) fails done =
      ap (λ b. if b then Some s.number else first_by test number_of (map (held_of contents layers) ss)) (fails s (and_left (is_done_of s) (list_all is_done_of ss) done))
      ∙ first_idle test ss fails (and_right (is_done_of s) (list_all is_done_of ss) done)

  least_idle : (f : SnapHeld → Option ℕ) (ss : List (Kept B)) → ((s : Kept B) → is_done_of s ≡ true → f (held_of contents layers s) ≡ None) → list_all is_done_of ss ≡ true → least_in f (map (held_of contents layers) ss) ≡ None
  least_idle f [] none done = refl
  least_idle f (s ∷ ss) none done =
      ap (λ o. least o (least_in f (map (held_of contents layers) ss))) (none s (and_left (is_done_of s) (list_all is_done_of ss) done))
      ∙ least_idle f ss none (and_right (is_done_of s) (list_all is_done_of ss) done)

  no_front : (s : Kept B) (rest : Bool) → is_done_of s ≡ true → (is_front_ready (map copying_of s.copies) && rest) ≡ false
  no_front s rest done = ap (λ (cs : List ChunkCopy). is_front_ready (map copying_of cs) && rest) (done_copies s done)

  no_flush : (s : Kept B) → is_done_of s ≡ true → can_flush_store (held_of contents layers s) ≡ false
  no_flush s done =
      let rest : Bool = waits_for_area (held_of contents layers s) && not (needs_area (held_of contents layers s)) in
      ap (λ b. (b && s.marked) || is_front_unflushed (map copying_of s.copies) || (is_front_ready (map copying_of s.copies) && rest) || list_any is_unsafe s.marks) (done_tried s done)
      ∙ ap (λ (cs : List ChunkCopy). is_front_unflushed (map copying_of cs) || (is_front_ready (map copying_of cs) && rest) || list_any is_unsafe s.marks) (done_copies s done)
      ∙ ap (list_any is_unsafe) (done_marks s done)

  no_copy : (stage : Stage) (s : Kept B) → is_done_of s ≡ true → copy_at stage (held_of contents layers s) ≡ None
  no_copy stage s done = ap (λ (cs : List ChunkCopy). first_by (is_at stage) number_of_copying (map copying_of cs)) (done_copies s done)

  no_mark : (rs : List Going) (s : Kept B) → is_done_of s ≡ true → publishable_in rs (held_of contents layers s) ≡ None
  no_mark rs s done = ap (λ (ms : List Mark). first_by (is_publishable rs (held_of contents layers s)) number_of_mark ms) (done_marks s done)

  -- nothing is due but of the merge
  pub calm : (replied : Option Reply) (v : Volumed B) → v.flights ≡ [] → list_all is_done_of v.snaps ≡ true → due (moving_of contents layers replied v) ≡ None
  calm replied v none done =
      let held : Kept B → SnapHeld = held_of contents layers in
      let rs : List Going = map going_of v.flights in
      chosen_none
      (first_by can_mark number_of (map held v.snaps)) (first_by can_flush_store number_of (map held v.snaps)) (least_in (publishable_in rs) (map held v.snaps)) (first_by can_commit number_of (map held v.snaps)) (first_by can_zero number_of (map held v.snaps))
      (least_in (copy_at Read) (map held v.snaps)) (least_in (copy_at Waiting) (map held v.snaps)) (first_by is_issuable number_of_going rs)
      (first_idle can_mark v.snaps (λ s d. ap (λ b. b && not s.marked) (done_tried s d)) done)
      (first_idle can_flush_store v.snaps no_flush done)
      (least_idle (publishable_in rs) v.snaps (no_mark rs) done)
      (first_idle can_commit v.snaps (λ s d. no_front s (not (waits_for_area (held_of contents layers s))) d) done)
      (first_idle can_zero v.snaps (λ s d. no_front s (needs_area (held_of contents layers s)) d) done)
      (least_idle (copy_at Read) v.snaps (no_copy Read) done)
      (least_idle (copy_at Waiting) v.snaps (no_copy Waiting) done)
      (ap (λ (fs : List Flight). first_by is_issuable number_of_going (map going_of fs)) none)
