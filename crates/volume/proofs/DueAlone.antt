-- Where each snapshot is done and one request is in flight, which goes somewhere, that is what is due first.
use Rattle.std.proofs.Common.{◌≡◌, ℕ, Bool, true, false, List, [], ◌∷◌, ◌++◌, Option, Some, None, map, refl, ◌∙◌, ap}
use Rattle.std.specs.Prelude.{◌&&◌, ◌||◌, not, if◌then◌else◌}
use Rattle.std.specs.List.{list_all, list_any}
use Rattle.device.specs.Layers.{Layer}
use Rattle.plain_machine.specs.declared.event.Event.TheVariants.{Issue, CopyRead, CopyWrite, ZeroNext, WriteArea, Publish, WriteInvalid, FlushStore}
use Rattle.in_flight.specs.declared.copies.ChunkCopy.{ChunkCopy}
use Rattle.in_flight.specs.declared.copies.Mark.{Mark}
use Rattle.in_flight.specs.declared.copies.Stage.{Stage}
use Rattle.in_flight.specs.declared.copies.Stage.TheVariants.{Waiting, Read}
use Rattle.in_flight.specs.declared.flights.Flight.{Flight}
use Rattle.in_flight.specs.Due.{first_by, front_ready, front_unflushed, is_copy_at, is_issuable, is_publishable, is_routed, least, number_of_copy, number_of_flight, number_of_mark}
use Rattle.volume_laws.specs.Due.{DueSnap, can_commit, can_flush_store, can_mark, can_zero, copy_of, due_of, event_or, is_unsafe, least_of, publishable_of, snap_number}
use Rattle.snapshot.specs.Kept.{Kept, due_of_kept}
use Rattle.volume.specs.Leaving.{is_done_of}
use Rattle.volume.specs.Submitting.{entered_of}
use Rattle.volume.specs.Volumed.{Volumed, due_by, dues_of, merge_due, next_of}
use Rattle.volume.proofs.Calm.{done_copies, done_marks, done_tried}
use Rattle.volume.proofs.Shown.{and_left, and_right}

-- the last of eight, where the others are none
last_of : (a b c d e g h i : Option ℕ) (n : ℕ) → a ≡ None → b ≡ None → c ≡ None → d ≡ None → e ≡ None → g ≡ None → h ≡ None → i ≡ Some n
    → event_or a WriteInvalid (event_or b FlushStore (event_or c Publish (event_or d WriteArea (event_or e ZeroNext (event_or g CopyWrite (event_or h CopyRead (event_or i Issue None))))))) ≡ Some (Issue n)
last_of a b c d e g h i n pa pb pc pd pe pg ph pi = rw (pa, pb, pc, pd, pe, pg, ph, pi) refl

module _ {B : Type 0} (contents : B → List ℕ) (layers : B → List Layer) where
  abbrev seen : Kept B → DueSnap
  seen = due_of_kept contents layers

  -- a test that no snapshot passes that is done
  first_idle : (test : DueSnap → Bool) (ss : List (Kept B)) → ((s : Kept B) → is_done_of s ≡ true → test (seen s) ≡ false) → list_all is_done_of ss ≡ true → first_by test snap_number (map seen ss) ≡ None
  first_idle test [] fails done = refl
  first_idle test (s ∷ ss) fails done =
      ap (λ b. if b then Some s.number else first_by test snap_number (map seen ss)) (fails s (and_left (is_done_of s) (list_all is_done_of ss) done))
      ∙ first_idle test ss fails (and_right (is_done_of s) (list_all is_done_of ss) done)

  least_idle : (f : DueSnap → Option ℕ) (ss : List (Kept B)) → ((s : Kept B) → is_done_of s ≡ true → f (seen s) ≡ None) → list_all is_done_of ss ≡ true → least_of f (map seen ss) ≡ None
  least_idle f [] none done = refl
  least_idle f (s ∷ ss) none done =
      ap (λ o. least o (least_of f (map seen ss))) (none s (and_left (is_done_of s) (list_all is_done_of ss) done))
      ∙ least_idle f ss none (and_right (is_done_of s) (list_all is_done_of ss) done)

  no_front : (s : Kept B) (rest : Bool) → is_done_of s ≡ true → (front_ready s.copies && rest) ≡ false
  no_front s rest done = ap (λ (cs : List ChunkCopy). front_ready cs && rest) (done_copies s done)

  no_flush : (s : Kept B) → is_done_of s ≡ true → can_flush_store (seen s) ≡ false
  no_flush s done =
      let rest : Bool = (seen s).waits && not (seen s).needs in
      ap (λ b. (b && s.marked) || front_unflushed s.copies || (front_ready s.copies && rest) || list_any is_unsafe s.marks) (done_tried s done)
      ∙ ap (λ (cs : List ChunkCopy). front_unflushed cs || (front_ready cs && rest) || list_any is_unsafe s.marks) (done_copies s done)
      ∙ ap (list_any is_unsafe) (done_marks s done)

  no_copy : (stage : Stage) (s : Kept B) → is_done_of s ≡ true → copy_of stage (seen s) ≡ None
  no_copy stage s done = ap (λ (cs : List ChunkCopy). first_by (is_copy_at stage) number_of_copy cs) (done_copies s done)

  no_mark : (rs : List Flight) (s : Kept B) → is_done_of s ≡ true → publishable_of rs (seen s) ≡ None
  no_mark rs s done = ap (λ (ms : List Mark). first_by (is_publishable s.number s.state.chunk rs) number_of_mark ms) (done_marks s done)

  alone_first : (fs : List Flight) (f : Flight) → fs ≡ [] → is_routed f.route ≡ true → first_by is_issuable number_of_flight (fs ++ f ∷ []) ≡ Some f.number
  alone_first fs f none goes = rw none (ap (λ b. if b then Some f.number else None) goes)

  pub due_alone : (ss : List (Kept B)) (fs : List Flight) (f : Flight) → list_all is_done_of ss ≡ true → fs ≡ [] → is_routed f.route ≡ true → due_of (map seen ss) (fs ++ f ∷ []) ≡ Some (Issue f.number)
  due_alone ss fs f done none goes =
      let rs : List Flight = fs ++ f ∷ [] in
      last_of (first_by can_mark snap_number (map seen ss)) (first_by can_flush_store snap_number (map seen ss)) (least_of (publishable_of rs) (map seen ss)) (first_by can_commit snap_number (map seen ss)) (first_by can_zero snap_number (map seen ss))
      (least_of (copy_of Read) (map seen ss)) (least_of (copy_of Waiting) (map seen ss)) (first_by is_issuable number_of_flight rs) f.number
      (first_idle can_mark ss (λ s d. ap (λ b. b && not s.marked) (done_tried s d)) done)
      (first_idle can_flush_store ss no_flush done)
      (least_idle (publishable_of rs) ss (no_mark rs) done)
      (first_idle can_commit ss (λ s d. no_front s (not (seen s).waits) d) done)
      (first_idle can_zero ss (λ s d. no_front s (seen s).needs d) done)
      (least_idle (copy_of Read) ss (no_copy Read) done)
      (least_idle (copy_of Waiting) ss (no_copy Waiting) done)
      (alone_first fs f none goes)

  pub next_alone : (v : Volumed B) (f : Flight) → list_all is_done_of v.snaps ≡ true → v.flights ≡ [] → v.merge ≡ None → is_routed f.route ≡ true → next_of contents layers (entered_of f v) ≡ Some (Issue f.number)
  next_alone v f done none alone goes = ap (λ x. due_by (dues_of contents layers v) (v.flights ++ f ∷ []) (merge_due contents x)) alone ∙ due_alone v.snaps v.flights f done none goes
