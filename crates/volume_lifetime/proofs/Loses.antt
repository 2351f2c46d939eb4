-- What a stop leaves of arrays whose history is known, and deeds one after another.
use Rattle.std.proofs.Common.{◌≡◌, ◌⊎◌, inl, inr, ℕ, ◌*◌, ◌-◌, ◌<◌, Bool, true, false, List, [], ◌∷◌, ◌++◌, length, map, Option, None, Some, refl, sym, ◌∙◌, ap, subst, arith, length-take, length-drop, min}
use Rattle.std.specs.Prelude.{AllPairs, Err, IfErr, Ok, Result}
use Rattle.std.specs.List.{All}
use Rattle.std.specs.Option.{is_some}
use Rattle.std.proofs.lemmas.List.Elements.{All-head, All-tail}
use Rattle.sector.specs.Bytes.{sector_at, with_sectors}
use Rattle.sector.specs.declared.refusal.Refusal.{Refusal}
use Rattle.sector.proofs.Sectors.{sectors_at-with_same}
use Rattle.device.specs.Layers.{Layer, is_loud}
use Rattle.cow_format.specs.Picture.{picture}
use Rattle.crash_laws.specs.Stop.{MayLeave, Within}
use Rattle.crash_laws.specs.Clauses.{Given, Gives}
use Rattle.crash_laws.proofs.Opens.{left_with}
use Rattle.plain_machine.specs.declared.event.Event.{Event}
use Rattle.plain_machine.specs.declared.event.NotDue.{NotDue}
use Rattle.plain_machine.specs.declared.event.Outcome.{Outcome}
use Rattle.plain_machine.specs.Plain.{InFlight, Plain}
use Rattle.in_flight.specs.Kinds.{in_flight}
use Rattle.snapshot.specs.Kept.{Kept}
use Rattle.snapshot.specs.declared.opening.StoreDev.{StoreDev}
use Rattle.snapshot_list.specs.Numbers.{number_of_snap}
use Rattle.merge.specs.Due.{is_finished_of}
use Rattle.merge.specs.Merging.{Merging}
use Rattle.volume.specs.AddedUp.{GivesAsked, IsLeftAt, IsOpenIn, IsOpenOrigin, IsSomeOf}
use Rattle.volume.specs.Causes.{IsAt}
use Rattle.volume.specs.DoesStep.{DoesStep}
use Rattle.volume.specs.Layering.{Measures}
use Rattle.volume.specs.Leaving.{is_quiet_of}
use Rattle.volume.specs.Stopping.{StopsOrigin, StopsVolume, given_by}
use Rattle.volume.specs.Volumed.{Volumed, is_loud_in_all, plain_of}
use Rattle.volume.proofs.Attaches.{none_begun, taking_none}
use Rattle.volume.proofs.Shown.{loud_books}
use Rattle.volume_lifetime.specs.declared.deed.Deed.{Deed}
use Rattle.volume_lifetime.specs.declared.deed.Deed.TheVariants.{Submit, Step, Tick, Tell, Attach, Detach, BeginMerge, ResumeMerge, FinishMerge}
use Rattle.volume_lifetime.specs.declared.deed.Done.{Done}
use Rattle.volume_lifetime.specs.declared.deed.Done.TheVariants.{Submitted, Stepped, Ticked, Told, Attached, Detached, Begun, Resumed, Finished}
use Rattle.volume_lifetime.specs.Answered.{IsDone}
use Rattle.volume_lifetime.specs.Doing.{IsDoneBy}
use Rattle.volume_lifetime.specs.Flushed.{Allows, Flushed, History, LastAll, LastsArray, LastsOrigin, LoadAgain, LoadsMerging, LosesNothing, LosesWithin, LoseNothing, noted}
use Rattle.volume_lifetime.specs.Lasted.{OpensByDeed}
use Rattle.volume_lifetime.specs.Lived.{IsLoudDeed, IsSeen}
use Rattle.volume_lifetime.proofs.Histories.{EachOf, Holds, Known, given_some}
use Rattle.volume_lifetime.proofs.Lasts.{ArePassed, IsLookedAt}
use Rattle.volume_lifetime.proofs.Noted.{accepted_known, attached_known, begun_known, declined_known, detached_known, finished_known, known_same, refused_known, resumed_known, ticked_known, told_known, unbegun_known}
use Rattle.volume_lifetime.proofs.Stepped.{step_known}

module _ {B : Type 0} (holds : B → ℕ → List ℕ → Type 0) (m : Measures B) (layers : B → List Layer) (whole : (d : B) → length (m.contents d) ≡ 512 * m.size d) (here : (d : B) (s : ℕ) → s < m.size d → holds d s (sector_at (m.contents d) s)) where
  -- what is there may be left
  leaves : (d d' : B) → MayLeave (Within (holds d) (holds d')) (m.size d) (m.contents d)
  leaves d d' = record { whole = whole d; each = λ s lt. inl (here d s lt) }

  -- a value that a disk holds, some content of it has
  held_at : (d : B) (s : ℕ) (b : List ℕ) → length b ≡ 512 * m.size d → s < m.size d → holds d s (sector_at b s) → IsLeftAt (holds d) (m.size d) s (sector_at b s)
  held_at d s b long lt held =
      let y : List ℕ = sector_at b s in
      let len : length y ≡ 512 = (let e : length (sector_at b s) ≡ min 512 (length b - 512 * s) = simp (length-take, length-drop) in omega (arith, e, long, lt)) in
      let now = whole d in
      record {
        bytes = with_sectors (m.contents d) s y;
        left = left_with (holds d) (m.size d) s (m.contents d) y (record { whole = whole d; each = here d }) lt len held;
        is = sym (sectors_at-with_same (m.contents d) s 1 y (omega (arith, now, len, lt)) (omega (arith, len)));
      }

  module _ (given : Option Given) (v w : Volumed B) (stops : StopsVolume holds m.size given v w) (gives : (array : Option ℕ) (s : ℕ) (x : List ℕ) → Gives given array s x → IsSomeOf (GivesAsked array s x) (map in_flight v.flights)) where
    -- a value that was open, or that is given
    either : (f : Flushed) → Holds holds m layers v f → (array : Option ℕ) → f.array ≡ array → (s : ℕ) (x : List ℕ) → IsOpenIn holds m.size v array s x ⊎ Gives given array s x → Allows f s x
    either f h array e s x (inl before) = h.shows s x (subst (λ a. IsOpenIn holds m.size v a s x) (sym e) before)
    either f h array e s x (inr given) = h.asked s x (subst (λ a. IsSomeOf (GivesAsked a s x) (map in_flight v.flights)) (sym e) (gives array s x given))

    origin_lasts : (f : Flushed) → Holds holds m layers v f → f.array ≡ None → LastsOrigin holds m.size f v.origin w.origin v.merge w.merge
    origin_lasts f h none = by v.merge w.merge refl stops.origin
      where
        seen : (x : Option (Merging B)) → v.merge ≡ x → (s : ℕ) (y : List ℕ) → s < m.size v.origin → IsOpenOrigin holds m.size v.origin x s y ⊎ Gives given None s y → Allows f s y
        seen x is s y lt (inl before) = either f h None none s y (inl (lt, subst (λ z. IsOpenOrigin holds m.size v.origin z s y) (sym is) before))
        seen x is s y lt (inr given) = either f h None none s y (inr given)

        by : (x y : Option (Merging B)) → v.merge ≡ x → StopsOrigin holds m.size given v.origin w.origin x y → LastsOrigin holds m.size f v.origin w.origin x y
        by None y is stop = λ o left s lt. elim (stop o left s lt) [
          | inl held ↦ seen None is s (sector_at o s) lt (inl (held_at v.origin s o left.whole lt held))
          | inr given ↦ seen None is s (sector_at o s) lt (inr given)
        ]
        by (Some g) None is stop = absurd stop
        by (Some g) (Some g') is stop = (
          λ o c lo lc s lt. seen (Some g) is s (sector_at (picture g.state.chunk o c) s) lt ((stop.0 o c lo lc).1 s lt),
          λ finished o left s lt. seen (Some g) is s (sector_at o s) lt (stop.1 finished o left s lt),
        )

    snap_lasts : (f : Flushed) → Holds holds m layers v f → (number : ℕ) → f.array ≡ Some number → LastsArray holds m.size f (Some number) v w
    snap_lasts f h number e place s t at at' mine live o c lo lc i lt =
        let again = (stops.snaps place s t at.within at.is at'.is o c lo lc).0 live in
        let mine' : f.array ≡ Some s.number = e ∙ ap Some (sym mine) in
        elim (again.1 i lt) [
          | inl shown ↦ either f h (Some s.number) mine' i (sector_at (picture s.state.chunk o c) i) (inl (lt, record { place = place; snap = s; at = at; mine = refl; live = live; shows = shown }))
          | inr given ↦ either f h (Some s.number) mine' i (sector_at (picture s.state.chunk o c) i) (inr given)
        ]

    one_lasts : (f : Flushed) → Holds holds m layers v f → LastsArray holds m.size f f.array v w
    one_lasts f h = by f.array refl
      where
        by : (array : Option ℕ) → f.array ≡ array → LastsArray holds m.size f array v w
        by None e = origin_lasts f h e
        by (Some number) e = snap_lasts f h number e

    all_last : (made : List Flushed) → EachOf (Holds holds m layers v) made → LastAll holds m.size made v w
    all_last [] all = tt
    all_last (f ∷ made) all = (one_lasts f all.0, all_last made all.1)

    merging_loads : LoadsMerging holds m.size v.origin v.merge w.merge
    merging_loads = by v.merge w.merge stops.origin
      where
        by : (x y : Option (Merging B)) → StopsOrigin holds m.size given v.origin w.origin x y → LoadsMerging holds m.size v.origin x y
        by None y stop = tt
        by (Some g) None stop = absurd stop
        by (Some g) (Some g') stop = λ c left. (stop.0 (m.contents v.origin) c (leaves v.origin w.origin) left).0

    pub loses : (made : List Flushed) → EachOf (Holds holds m layers v) made → LosesNothing holds m.size made v w
    loses made all = record {
      loads = record { snaps = λ place s t at at' live c left. ((stops.snaps place s t at.within at.is at'.is (m.contents v.origin) c (leaves v.origin w.origin) left).0 live).0; merge = merging_loads };
      lasts = all_last made all;
    }

  pub now_loses : (v : Volumed B) → StopsVolume holds m.size None v v → (made : List Flushed) → EachOf (Holds holds m layers v) made → LosesNothing holds m.size made v v
  now_loses v stops made all = loses None v v stops (λ array s x given. absurd given) made all

  -- One deed.
  module _ (v w : Volumed B) (loud : is_loud_in_all layers v ≡ true) (looked : IsLookedAt holds m layers w) (h : History) (known : Known holds m layers v h) where
    attach_known : (store : StoreDev B) (chunk : ℕ) (overflow : Bool) (result : Result ℕ (Refusal × StoreDev B)) → IsDoneBy holds m layers (Attach store chunk overflow) (Attached result) v w → is_loud (layers store.device) ≡ true → OpensByDeed holds m layers (Attach store chunk overflow) (Attached result) v w → IsSeen m layers (Attach store chunk overflow) (Attached result) v w
        → Known holds m layers w (noted (Attach store chunk overflow) (Attached result) (plain_of m.contents layers w) h)
    attach_known store chunk overflow (Err refused) does brought opens seen = refused_known holds m layers whole here store chunk overflow v w refused does h known
    attach_known store chunk overflow (Ok number) does brought opens seen =
        let alone = (taking_none store.stale (is_some v.merge) (is_quiet_of v) (length v.snaps) v.attached chunk does.admitted).2 in
        attached_known holds m layers whole here store chunk overflow v w number does opens (none_begun v.merge alone) seen.sees.1 seen.sees.0 seen.sees.2 (loud_books m.contents layers m.size v loud).origin h known

    pub deed_known : (deed : Deed B) (done : Done B) → IsDoneBy holds m layers deed done v w → IsLoudDeed layers deed → OpensByDeed holds m layers deed done v w → IsSeen m layers deed done v w → Known holds m layers w (noted deed done (plain_of m.contents layers w) h)
    deed_known (Submit request) (Submitted (Ok number)) does brought opens seen = accepted_known holds m layers request number v w does.0 does.1 h known
    deed_known (Submit request) (Submitted (Err refusal)) does brought opens seen = declined_known holds m layers request refusal v w does.0 does.1 h known
    deed_known (Step event) (Stepped (Ok outcome)) does brought opens seen = step_known holds m layers whole here event outcome v w loud does looked.unique looked.some h known
    deed_known (Step event) (Stepped (Err early)) does brought opens seen = known_same holds m layers v w h does.same known
    deed_known (Tick seconds) Ticked does brought opens seen = ticked_known holds m layers seconds v w does h known
    deed_known (Tell dev depth message) (Told result) does brought opens seen = told_known holds m layers dev depth message result v w does h known
    deed_known (Attach store chunk overflow) (Attached result) does brought opens seen = attach_known store chunk overflow result does brought opens seen
    deed_known (Detach number) (Detached (Ok store)) does brought opens seen = detached_known holds m layers number store v w does.0.taken opens h known
    deed_known (Detach number) (Detached (Err refusal)) does brought opens seen = known_same holds m layers v w h does.1.1 known
    deed_known (BeginMerge number) (Begun (Ok done)) does brought opens seen = begun_known holds m layers number v w done does.0 opens h known
    deed_known (BeginMerge number) (Begun (Err refusal)) does brought opens seen = unbegun_known holds m layers number refusal v w does.1 h known
    deed_known ResumeMerge (Resumed result) does brought opens seen = resumed_known holds m layers result v w does h known
    deed_known FinishMerge (Finished (Ok store)) does brought opens seen = finished_known holds m layers store v w loud does.0 opens h known
    deed_known FinishMerge (Finished (Err refusal)) does brought opens seen = known_same holds m layers v w h does.1.1 known
    deed_known (Submit request) (Stepped result) does brought opens seen = absurd does
    deed_known (Submit request) Ticked does brought opens seen = absurd does
    deed_known (Submit request) (Told result) does brought opens seen = absurd does
    deed_known (Submit request) (Attached result) does brought opens seen = absurd does
    deed_known (Submit request) (Detached result) does brought opens seen = absurd does
    deed_known (Submit request) (Begun result) does brought opens seen = absurd does
    deed_known (Submit request) (Resumed result) does brought opens seen = absurd does
    deed_known (Submit request) (Finished result) does brought opens seen = absurd does
    deed_known (Step event) (Submitted result) does brought opens seen = absurd does
    deed_known (Step event) Ticked does brought opens seen = absurd does
    deed_known (Step event) (Told result) does brought opens seen = absurd does
    deed_known (Step event) (Attached result) does brought opens seen = absurd does
    deed_known (Step event) (Detached result) does brought opens seen = absurd does
    deed_known (Step event) (Begun result) does brought opens seen = absurd does
    deed_known (Step event) (Resumed result) does brought opens seen = absurd does
    deed_known (Step event) (Finished result) does brought opens seen = absurd does
    deed_known (Tick seconds) (Submitted result) does brought opens seen = absurd does
    deed_known (Tick seconds) (Stepped result) does brought opens seen = absurd does
    deed_known (Tick seconds) (Told result) does brought opens seen = absurd does
    deed_known (Tick seconds) (Attached result) does brought opens seen = absurd does
    deed_known (Tick seconds) (Detached result) does brought opens seen = absurd does
    deed_known (Tick seconds) (Begun result) does brought opens seen = absurd does
    deed_known (Tick seconds) (Resumed result) does brought opens seen = absurd does
    deed_known (Tick seconds) (Finished result) does brought opens seen = absurd does
    deed_known (Tell dev depth message) (Submitted result) does brought opens seen = absurd does
    deed_known (Tell dev depth message) (Stepped result) does brought opens seen = absurd does
    deed_known (Tell dev depth message) Ticked does brought opens seen = absurd does
    deed_known (Tell dev depth message) (Attached result) does brought opens seen = absurd does
    deed_known (Tell dev depth message) (Detached result) does brought opens seen = absurd does
    deed_known (Tell dev depth message) (Begun result) does brought opens seen = absurd does
    deed_known (Tell dev depth message) (Resumed result) does brought opens seen = absurd does
    deed_known (Tell dev depth message) (Finished result) does brought opens seen = absurd does
    deed_known (Attach store chunk overflow) (Submitted result) does brought opens seen = absurd does
    deed_known (Attach store chunk overflow) (Stepped result) does brought opens seen = absurd does
    deed_known (Attach store chunk overflow) Ticked does brought opens seen = absurd does
    deed_known (Attach store chunk overflow) (Told result) does brought opens seen = absurd does
    deed_known (Attach store chunk overflow) (Detached result) does brought opens seen = absurd does
    deed_known (Attach store chunk overflow) (Begun result) does brought opens seen = absurd does
    deed_known (Attach store chunk overflow) (Resumed result) does brought opens seen = absurd does
    deed_known (Attach store chunk overflow) (Finished result) does brought opens seen = absurd does
    deed_known (Detach number) (Submitted result) does brought opens seen = absurd does
    deed_known (Detach number) (Stepped result) does brought opens seen = absurd does
    deed_known (Detach number) Ticked does brought opens seen = absurd does
    deed_known (Detach number) (Told result) does brought opens seen = absurd does
    deed_known (Detach number) (Attached result) does brought opens seen = absurd does
    deed_known (Detach number) (Begun result) does brought opens seen = absurd does
    deed_known (Detach number) (Resumed result) does brought opens seen = absurd does
    deed_known (Detach number) (Finished result) does brought opens seen = absurd does
    deed_known (BeginMerge number) (Submitted result) does brought opens seen = absurd does
    deed_known (BeginMerge number) (Stepped result) does brought opens seen = absurd does
    deed_known (BeginMerge number) Ticked does brought opens seen = absurd does
    deed_known (BeginMerge number) (Told result) does brought opens seen = absurd does
    deed_known (BeginMerge number) (Attached result) does brought opens seen = absurd does
    deed_known (BeginMerge number) (Detached result) does brought opens seen = absurd does
    deed_known (BeginMerge number) (Resumed result) does brought opens seen = absurd does
    deed_known (BeginMerge number) (Finished result) does brought opens seen = absurd does
    deed_known ResumeMerge (Submitted result) does brought opens seen = absurd does
    deed_known ResumeMerge (Stepped result) does brought opens seen = absurd does
    deed_known ResumeMerge Ticked does brought opens seen = absurd does
    deed_known ResumeMerge (Told result) does brought opens seen = absurd does
    deed_known ResumeMerge (Attached result) does brought opens seen = absurd does
    deed_known ResumeMerge (Detached result) does brought opens seen = absurd does
    deed_known ResumeMerge (Begun result) does brought opens seen = absurd does
    deed_known ResumeMerge (Finished result) does brought opens seen = absurd does
    deed_known FinishMerge (Submitted result) does brought opens seen = absurd does
    deed_known FinishMerge (Stepped result) does brought opens seen = absurd does
    deed_known FinishMerge Ticked does brought opens seen = absurd does
    deed_known FinishMerge (Told result) does brought opens seen = absurd does
    deed_known FinishMerge (Attached result) does brought opens seen = absurd does
    deed_known FinishMerge (Detached result) does brought opens seen = absurd does
    deed_known FinishMerge (Begun result) does brought opens seen = absurd does
    deed_known FinishMerge (Resumed result) does brought opens seen = absurd does

    step_within : (event : Event) (result : Result Outcome NotDue) → DoesStep holds m.contents layers m.size m.faults m.done true event result v w → StopsVolume holds m.size None v v → LosesNothing holds m.size h.made v w
    step_within event (Ok outcome) does stops = loses (given_by event (map in_flight v.flights)) v w (does.stops loud) (given_some event (map in_flight v.flights)) h.made known.made
    step_within event (Err early) does stops = subst (LosesNothing holds m.size h.made v) (sym does.same) (now_loses v stops h.made known.made)

    -- within an event
    pub deed_within : (deed : Deed B) (done : Done B) → IsDoneBy holds m layers deed done v w → StopsVolume holds m.size None v v → LosesWithin holds m.size h.made deed v w
    deed_within (Submit request) done does stops = tt
    deed_within (Step event) (Submitted result) does stops = absurd does
    deed_within (Step event) (Stepped result) does stops = step_within event result does stops
    deed_within (Step event) Ticked does stops = absurd does
    deed_within (Step event) (Told result) does stops = absurd does
    deed_within (Step event) (Attached result) does stops = absurd does
    deed_within (Step event) (Detached result) does stops = absurd does
    deed_within (Step event) (Begun result) does stops = absurd does
    deed_within (Step event) (Resumed result) does stops = absurd does
    deed_within (Step event) (Finished result) does stops = absurd does
    deed_within (Tick seconds) done does stops = tt
    deed_within (Tell dev depth message) done does stops = tt
    deed_within (Attach store chunk overflow) done does stops = tt
    deed_within (Detach number) done does stops = tt
    deed_within (BeginMerge number) done does stops = tt
    deed_within ResumeMerge done does stops = tt
    deed_within FinishMerge done does stops = tt

  -- Deeds one after another.
  lose_from : (ds : List (Deed B)) (answers : List (Done B)) (v w : Volumed B) (h : History) → is_loud_in_all layers v ≡ true → All (IsLoudDeed layers) ds → StopsVolume holds m.size None v v → Known holds m layers v h → ArePassed holds m layers ds answers v w → LoseNothing holds m layers h ds answers v w
  lose_from [] [] v w h loud brings stops known e = (e, now_loses v stops h.made known.made)
  lose_from [] (a ∷ answers) v w h loud brings stops known e = absurd e
  lose_from (d ∷ ds) [] v w h loud brings stops known e = absurd e
  lose_from (d ∷ ds) (a ∷ answers) v w h loud brings stops known (mid, one, rest) =
      let brought = All-head (IsLoudDeed layers) d ds brings in
      let still = one.done_is.loud loud brought in
      let seen : IsSeen m layers d a v mid = one.done_is.seen loud brought in (
        mid,
        seen,
        now_loses v stops h.made known.made,
        deed_within v mid loud one.looked h known d a one.by stops,
        lose_from ds answers mid w (noted d a (plain_of m.contents layers mid) h) still (All-tail (IsLoudDeed layers) d ds brings) (one.stops still) (deed_known v mid loud one.looked h known d a one.by brought (one.opens loud brought) seen) rest,
      )

  pub all_lose : (ds : List (Deed B)) (answers : List (Done B)) (v w : Volumed B) → ArePassed holds m layers ds answers v w → is_loud_in_all layers v ≡ true → All (IsLoudDeed layers) ds → StopsVolume holds m.size None v v → LoseNothing holds m layers (record { made = []; asked = [] }) ds answers v w
  all_lose ds answers v w e loud brings stops = lose_from ds answers v w (record { made = []; asked = [] }) loud brings stops (record { made = tt; asked = tt }) e
