-- No event and no request brings a lost snapshot back: each that is live after it was live before it, at the same place.
use Rattle.std.proofs.Common.{◌≡◌, inl, inr, ℕ, zero, suc, Bool, true, false, List, [], ◌∷◌, get_or, set, map, Option, Some, None, refl, sym, ◌∙◌, ap, if◌then◌else◌}
use Rattle.std.proofs.lemmas.Bool.{false≢true}
use Rattle.std.proofs.lemmas.List.{map-set}
use Rattle.device.specs.Layers.{Layer}
use Rattle.sector.specs.declared.pair.Pair.{Pair}
use Rattle.sector.specs.declared.refusal.Refusal.{Refusal}
use Rattle.plain_machine.specs.declared.event.Event.{Event}
use Rattle.plain_machine.specs.declared.event.Event.TheVariants.{Issue, CopyRead, CopyWrite, ZeroNext, WriteArea, Publish, WriteInvalid, FlushStore, MergeGroup, MergeAreaRead, MergeRead, MergeWrite, MergeFlush, MergeCommit, MergeRelease}
use Rattle.plain_machine.specs.declared.event.Outcome.{Outcome}
use Rattle.plain_machine.specs.declared.event.Outcome.TheVariants.{Done, Fault, Reply as Replied}
use Rattle.plain_machine.specs.declared.request.Failure.TheVariants.{Invalid as IsInvalid, Io, Overflow}
use Rattle.plain_machine.specs.declared.request.Overflowing.TheVariants.{Did}
use Rattle.plain_machine.specs.declared.request.Reply.{Reply}
use Rattle.plain_machine.specs.declared.request.Reply.TheVariants.{Data, Written, Flushed, Refused}
use Rattle.plain_machine.specs.declared.request.Request.{Request}
use Rattle.in_flight.specs.Kinds.{kind_of}
use Rattle.in_flight.specs.declared.flights.Kind.{Kind}
use Rattle.in_flight.specs.declared.flights.Kind.TheVariants.{OriginRead, OriginWrite, OriginFlush, SnapRead, SnapWrite, SnapFlush}
use Rattle.snapshot.specs.Kept.{Kept}
use Rattle.snapshot_list.specs.Starting.{overflows, spoilt_of, unroomed}
use Rattle.merge.specs.Merging.{Merging}
use Rattle.volume.specs.Causes.{HasCause, HasDone, HasFailed, HasReplied, is_lost, lives_of, lives_saved}
use Rattle.volume.specs.Submitting.{IsAcceptedAs, IsFoundFull, IsOverflown, IsRefusedAs, SameButRoom, lives_after}
use Rattle.volume.specs.Volumed.{Volumed}

abbrev pub AreFewer : List Bool → List Bool → Type 0
AreFewer after before = (k : ℕ) → get_or after k false ≡ true → get_or before k false ≡ true

pub same_fewer : (after before : List Bool) → after ≡ before → AreFewer after before
same_fewer after before same k e = ap (λ (l : List Bool). get_or l k false) (sym same) ∙ e

pub then_fewer : (bs cs ds : List Bool) → bs ≡ cs → AreFewer cs ds → AreFewer bs ds
then_fewer bs cs ds same less k e = less k (same_fewer bs cs same k e)

pub set_fewer : (bs : List Bool) (k : ℕ) → AreFewer (set bs k false) bs
set_fewer [] k j e = e
set_fewer (b ∷ bs) zero zero e = absurd (false≢true e)
set_fewer (b ∷ bs) zero (suc j) e = e
set_fewer (b ∷ bs) (suc k) zero e = e
set_fewer (b ∷ bs) (suc k) (suc j) e = set_fewer bs k j e

either_fewer : (b : Bool) (xs ys zs : List Bool) → AreFewer xs zs → AreFewer ys zs → AreFewer (if b then xs else ys) zs
either_fewer true xs ys zs x y = x
either_fewer false xs ys zs x y = y

lost_first : (a b : Bool) → (if a then false else b) ≡ true → b ≡ true
lost_first true b e = absurd (false≢true e)
lost_first false b e = e

lost_fewer : {B : Type 0} (lost : Kept B → Bool) (snaps : List (Kept B)) → AreFewer (map (λ s. if lost s then false else s.live) snaps) (map (λ s. s.live) snaps)
lost_fewer lost [] k e = e
lost_fewer lost (s ∷ snaps) zero e = lost_first (lost s) s.live e
lost_fewer lost (s ∷ snaps) (suc k) e = lost_fewer lost snaps k e

saved_fewer : {B : Type 0} (chunk sectors : ℕ) (pair : Option Pair) (snaps : List (Kept B)) → AreFewer (lives_saved chunk sectors pair snaps) (map (λ s. s.live) snaps)
saved_fewer chunk sectors None snaps k e = e
saved_fewer chunk sectors (Some q) snaps k e = lost_fewer (is_lost chunk sectors q) snaps k e

-- room for copies is not seen
unroomed_lives : {B : Type 0} (snaps : List (Kept B)) → map (λ s. s.live) (map unroomed snaps) ≡ map (λ s. s.live) snaps
unroomed_lives [] = refl
unroomed_lives (s ∷ snaps) = ap (λ bs. s.live ∷ bs) (unroomed_lives snaps)

pub roomed_lives : {B : Type 0} (xs ys : List (Kept B)) → map unroomed xs ≡ map unroomed ys → map (λ s. s.live) xs ≡ map (λ s. s.live) ys
roomed_lives xs ys same = sym (unroomed_lives xs) ∙ ap (map (λ s. s.live)) same ∙ unroomed_lives ys

pub set_own : {B : Type 0} (snaps : List (Kept B)) (k : ℕ) (s : Kept B) → s ≡ get_or snaps k s → set (map (λ x. x.live) snaps) k s.live ≡ map (λ x. x.live) snaps
set_own [] k s is = refl
set_own (x ∷ snaps) zero s is = ap (λ (y : Kept _). y.live ∷ map (λ z. z.live) snaps) is
set_own (x ∷ snaps) (suc k) s is = ap (λ bs. x.live ∷ bs) (set_own snaps k s is)

module _ {B : Type 0} (v w : Volumed B) where
  pub same_lives : lives_of w ≡ lives_of v → AreFewer (lives_of w) (lives_of v)
  same_lives same = same_fewer (lives_of w) (lives_of v) same

  pub set_lives : (place : ℕ) → lives_of w ≡ set (lives_of v) place false → AreFewer (lives_of w) (lives_of v)
  set_lives place is = then_fewer (lives_of w) (set (lives_of v) place false) (lives_of v) is (set_fewer (lives_of v) place)

  saved_lives : (chunk sectors : ℕ) (pair : Option Pair) → lives_of w ≡ lives_saved chunk sectors pair v.snaps → AreFewer (lives_of w) (lives_of v)
  saved_lives chunk sectors pair is = then_fewer (lives_of w) (lives_saved chunk sectors pair v.snaps) (lives_of v) is (saved_fewer chunk sectors pair v.snaps)

  module _ (faults : B → ℕ) where
    done_lives : (event : Event) → HasDone faults event v w → AreFewer (lives_of w) (lives_of v)
    done_lives (ZeroNext number) (inl is) = same_lives is.lives
    done_lives (ZeroNext number) (inr is) = set_lives is.place is.lives
    done_lives MergeGroup is = saved_lives _ _ _ is.lives
    done_lives MergeWrite is = saved_lives _ _ _ is.lives
    done_lives (Issue number) is = same_lives is.lives
    done_lives (CopyRead number) is = same_lives is.lives
    done_lives (CopyWrite number) is = same_lives is.lives
    done_lives (WriteArea number) is = same_lives is.lives
    done_lives (Publish number) (inl is) = same_lives is.lives
    done_lives (Publish number) (inr is) = set_lives is.place is.lives
    done_lives (WriteInvalid number) is = same_lives is.lives
    done_lives (FlushStore number) is = same_lives is.lives
    done_lives MergeAreaRead is = same_lives is.lives
    done_lives MergeRead is = same_lives is.lives
    done_lives MergeFlush is = same_lives is.lives
    done_lives MergeCommit is = same_lives is.lives
    done_lives MergeRelease is = same_lives is.lives

    failed_lives : (event : Event) → HasFailed faults event v w → AreFewer (lives_of w) (lives_of v)
    failed_lives (CopyRead number) is = set_lives is.place is.spoils.lives
    failed_lives (CopyWrite number) is = set_lives is.place is.spoils.lives
    failed_lives (ZeroNext number) is = set_lives is.place is.spoils.lives
    failed_lives (WriteArea number) is = set_lives is.place is.spoils.lives
    failed_lives (WriteInvalid number) is = same_lives is.fails.lives
    failed_lives (FlushStore number) (inl is) = set_lives is.place is.spoils.lives
    failed_lives (FlushStore number) (inr is) = same_lives is.fails.lives
    failed_lives MergeAreaRead is = same_lives is.fails.lives
    failed_lives MergeRead is = same_lives is.fails.lives
    failed_lives MergeWrite is = same_lives is.fails.lives
    failed_lives MergeFlush is = same_lives is.fails.lives
    failed_lives MergeCommit is = same_lives is.fails.lives
    failed_lives (Issue number) is = absurd is
    failed_lives (Publish number) is = absurd is
    failed_lives MergeGroup is = absurd is
    failed_lives MergeRelease is = absurd is

    replied_lives : (number : ℕ) (reply : Reply) → HasReplied faults number reply v w → AreFewer (lives_of w) (lives_of v)
    replied_lives number (Refused Io) is = same_lives is.2.lives
    replied_lives number (Refused IsInvalid) is = same_lives is.lives
    replied_lives number (Refused Overflow) is = same_lives is.lives
    replied_lives number (Data bytes) is = same_lives is.lives
    replied_lives number Written is = same_lives is.lives
    replied_lives number Flushed is = same_lives is.lives

    -- after an event
    pub caused_lives : (event : Event) (outcome : Outcome) → HasCause faults event outcome v w → AreFewer (lives_of w) (lives_of v)
    caused_lives event Done is = done_lives event is
    caused_lives event Fault is = failed_lives event is
    caused_lives event (Replied number reply) is = replied_lives number reply is

  after_lives : (kind : Kind) (first : ℕ) (merge : Option (Merging B)) (snaps : List (Kept B)) → AreFewer (lives_after kind first merge snaps) (map (λ s. s.live) snaps)
  after_lives OriginRead first merge snaps k e = e
  after_lives OriginWrite first merge snaps k e =
      either_fewer _ (map (λ s. s.live) snaps) (map (λ s. if overflows first s then false else s.live) snaps) (map (λ s. s.live) snaps) (λ j d. d) (lost_fewer (overflows first) snaps) k e
  after_lives OriginFlush first merge snaps k e = e
  after_lives (SnapRead number) first merge snaps k e = e
  after_lives (SnapWrite number) first merge snaps k e = e
  after_lives (SnapFlush number) first merge snaps k e = e

  module _ (contents : B → List ℕ) (layers : B → List Layer) where
    -- after a request that is accepted
    pub accepted_lives : (request : Request) (number : ℕ) → IsAcceptedAs contents layers request number v w → AreFewer (lives_of w) (lives_of v)
    accepted_lives request number is = then_fewer (lives_of w) (lives_after (kind_of request) request.range.first v.merge v.snaps) (lives_of v) is.lives (after_lives (kind_of request) request.range.first v.merge v.snaps)

    -- and after one that is refused
    pub refused_lives : (size : B → ℕ) (request : Request) (refusal : Refusal) → IsRefusedAs contents layers size request refusal v w → AreFewer (lives_of w) (lives_of v)
    refused_lives size request refusal (inl is) = same_lives (ap lives_of is.1)
    refused_lives size request refusal (inr (inl is)) = (let room : SameButRoom v w = is.2 in same_lives (roomed_lives w.snaps v.snaps room.roomed))
    refused_lives size request refusal (inr (inr (inl is))) =
        let full : IsFoundFull contents layers is.2.0 _ v w = is.2.2 in
        let after : List (Kept B) = set v.snaps full.place (spoilt_of full.snap) in
        set_lives full.place (roomed_lives w.snaps after full.spoilt ∙ map-set (λ (s : Kept B). s.live) v.snaps full.place (spoilt_of full.snap))
    refused_lives size request refusal (inr (inr (inr is))) =
        let full : IsOverflown contents layers is.2.0 _ v w = is.2.2 in
        let snap : Kept B = record full.snap { overflow = Did } in
        same_lives (roomed_lives w.snaps (set v.snaps full.place snap) full.marked ∙ map-set (λ (s : Kept B). s.live) v.snaps full.place snap ∙ set_own v.snaps full.place full.snap full.is)
