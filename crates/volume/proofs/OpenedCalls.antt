-- What each call of a volume may open: an event what its write gives, a begun merge what the snapshot might be left with, and the
-- others nothing.
use Rattle.std.proofs.Common.{◌≡◌, ◌⊎◌, inl, inr, ℕ, ◌+◌, ◌<◌, Bool, true, false, List, [], ◌∷◌, length, get_or, map, Option, None, Some, refl, sym, ◌∙◌, ap, subst, arith}
use Rattle.std.specs.Prelude.{◌*◌, ◌&&◌, ◌==◌, IfErr, IfOk, OnOk, Result, Ok, Err, not, if◌then◌else◌}
use Rattle.std.specs.List.{remove}
use Rattle.std.proofs.lemmas.Bool.{cases_lt}
use Rattle.std.proofs.lemmas.List.{get_or-map, get_or_default, length-map}
use Rattle.std.proofs.lemmas.List.Edits.{get_or-remove_below, get_or-remove_above, length-remove}
use Rattle.device.specs.Layers.{Layer}
use Rattle.sector.specs.declared.refusal.Refusal.{Refusal}
use Rattle.sector.specs.declared.refusal.Refusal.TheVariants.{NotMerging}
use Rattle.plain_machine.specs.declared.event.Event.{Event}
use Rattle.plain_machine.specs.declared.event.Event.TheVariants.{Issue, CopyRead, CopyWrite, ZeroNext, WriteArea, Publish, WriteInvalid, FlushStore, MergeGroup, MergeAreaRead, MergeRead, MergeWrite, MergeFlush, MergeCommit, MergeRelease}
use Rattle.plain_machine.specs.declared.event.NotDue.{NotDue}
use Rattle.plain_machine.specs.declared.event.Outcome.{Outcome}
use Rattle.plain_machine.specs.declared.request.Dev.{Dev}
use Rattle.plain_machine.specs.declared.request.Request.{Request}
use Rattle.layers.specs.declared.message.Answer.{Answer}
use Rattle.layers.specs.declared.message.Message.{Message}
use Rattle.in_flight.specs.Kinds.{in_flight}
use Rattle.crash_laws.specs.Clauses.{Gives}
use Rattle.snapshot.specs.Kept.{Kept}
use Rattle.snapshot_list.specs.Numbers.{number_of_snap}
use Rattle.merge.specs.Merging.{Merging}
use Rattle.snapshot_list.specs.Keeping.{kept_back, kept_for, unkept}
use Rattle.volume.specs.declared.calls.Call.{Call}
use Rattle.volume.specs.declared.calls.Call.TheVariants.{BeginMerge}
use Rattle.volume.specs.AddedUp.{GivesAsked, IsFrom, IsGiven, IsSomeOf, IsOpenIn, IsOpenOrigin, OpensOnly}
use Rattle.volume.specs.Adding.{LeavesNoMore, MergeLeavesNoMore, OpensNothing}
use Rattle.volume.specs.Beginning.{IsMergeBegun, IsNotBegun, IsResumed, begin_refusal, merging_from}
use Rattle.sector.specs.Bytes.{sector_at}
use Rattle.volume.specs.Causes.{HasCause, IsAt, lives_of}
use Rattle.volume.specs.DoesStep.{DoesStep}
use Rattle.volume.specs.Layering.{Measures}
use Rattle.volume.specs.Stepping.{KeepsAll, KeepsDevices}
use Rattle.volume.specs.Stopping.{StopsVolume, given_by}
use Rattle.volume.specs.Submitting.{IsAcceptedAs, IsRefusedAs}
use Rattle.volume.specs.Telling.{IsNotTold, IsTold}
use Rattle.volume.specs.Volumed.{Volumed, is_loud_in_all}
use Rattle.volume.proofs.AskedFor.{asked_given}
use Rattle.volume.proofs.Beginnings.{live_at, number_at, within}
use Rattle.volume.proofs.FewerLives.{AreFewer, caused_lives, accepted_lives, refused_lives}
use Rattle.volume.proofs.Opened.{IsEarlier, IsEarlierMerge, same_at, long_as, snap_before, origin_before, event_sectors, event_snap, event_origin}
use Rattle.volume.proofs.Relayered.{IsMergeAlike, IsSnapAlike, IsVolumeAlike}
use Rattle.volume.proofs.Told.{told_alike, untold_alike}

module _ {B : Type 0} (holds : B → ℕ → List ℕ → Type 0) (contents : B → List ℕ) (layers : B → List Layer) (size : B → ℕ) where
  -- a device that is the same
  pub no_more : (d : B) → LeavesNoMore holds size d d
  no_more d s x lt h = h

  -- what a value came from where a call opened none
  as_before : (calls : List Call) (v w : Volumed B) → ((array : Option ℕ) (s : ℕ) (x : List ℕ) → IsOpenIn holds size w array s x → IsOpenIn holds size v array s x) → OpensOnly holds size calls v w
  as_before calls v w before array s x may = record { from = array; comes = inl refl; is = inl (before array s x may) }

  pub opens_none : (calls : List Call) (v w : Volumed B) → size w.origin ≡ size v.origin → LeavesNoMore holds size v.origin w.origin → IsEarlierMerge holds size v.merge w.merge → ((k : ℕ) (t : Kept B) → IsAt k t w → t.live ≡ true → IsEarlier holds size v t) → OpensOnly holds size calls v w
  opens_none calls v w so lo merge each = as_before calls v w by
    where
      by : (array : Option ℕ) (s : ℕ) (x : List ℕ) → IsOpenIn holds size w array s x → IsOpenIn holds size v array s x
      by None s x may = (subst (λ n. s < n) so may.0, origin_before holds size v.origin w.origin v.merge w.merge so lo merge s x may.1)
      by (Some number) s x may = (subst (λ n. s < n) so may.0, snap_before holds size v w so lo each number s x may.1)

  same_merge : (m m' : Option (Merging B)) → m' ≡ m → IsEarlierMerge holds size m m'
  same_merge m m' same = subst (IsEarlierMerge holds size m) (sym same) (itself m)
    where
      itself : (m : Option (Merging B)) → IsEarlierMerge holds size m m
      itself None = tt
      itself (Some m) = (refl, refl, no_more m.device)

  -- a snapshot that is the same but for what is not seen of it
  pub same_snap : (v : Volumed B) (k : ℕ) (s t : Kept B) → IsAt k s v → t.number ≡ s.number → t.live ≡ s.live → t.state.chunk ≡ s.state.chunk → t.device ≡ s.device → t.live ≡ true → IsEarlier holds size v t
  same_snap v k s t at number live chunk device alive = record {
    place = k;
    snap = s;
    at = at;
    number = sym number;
    live = sym live ∙ alive;
    chunk = chunk;
    size_is = ap size device;
    less = subst (λ (d : B). LeavesNoMore holds size s.device d) (sym device) (no_more s.device);
  }

  pub same_snaps : (v w : Volumed B) → w.snaps ≡ v.snaps → (k : ℕ) (t : Kept B) → IsAt k t w → t.live ≡ true → IsEarlier holds size v t
  same_snaps v w same k t at live = same_snap v k t t (record { within = subst (λ (l : List (Kept B)). k < length l) same at.within; is = at.is ∙ ap (λ l. get_or l k t) same }) refl refl refl refl live

  -- nothing changed
  pub opens_same : (calls : List Call) (v w : Volumed B) → w ≡ v → OpensOnly holds size calls v w
  opens_same calls v w same =
      opens_none calls v w (ap (λ (y : Volumed B). size y.origin) same) (subst (λ (y : Volumed B). LeavesNoMore holds size v.origin y.origin) (sym same) (no_more v.origin)) (same_merge v.merge w.merge (ap (λ (y : Volumed B). y.merge) same))
      (same_snaps v w (ap (λ (y : Volumed B). y.snaps) same))

  -- layers changed
  module _ (v w : Volumed B) (alike : IsVolumeAlike contents layers size v w) (opens : OpensNothing holds size v w) where
    alike_snap : (k : ℕ) (t : Kept B) → IsAt k t w → t.live ≡ true → IsEarlier holds size v t
    alike_snap k t at live =
        let count = alike.count in
        let inside = at.within in
        let within : k < length v.snaps = omega (arith, inside, count) in
        let b : Kept B = get_or v.snaps k t in
        let one : IsSnapAlike contents layers size b t = subst (IsSnapAlike contents layers size b) (sym at.is) (alike.snaps k t within) in
        let less : LeavesNoMore holds size b.device t.device = subst (λ (y : Kept B). LeavesNoMore holds size b.device y.device) (sym at.is) (opens.snaps k t within) in
        record {
          place = k;
          snap = b;
          at = record { within = within; is = get_or_default v.snaps k t b within };
          number = sym (ap (λ (y : Kept B). y.number) one.same);
          live = sym (ap (λ (y : Kept B). y.live) one.same) ∙ live;
          chunk = ap (λ (y : Kept B). y.state.chunk) one.same;
          size_is = one.store.sectors;
          less = less;
        }

    alike_merge : (m m' : Option (Merging B)) → IsMergeAlike contents layers size m m' → MergeLeavesNoMore holds size m m' → IsEarlierMerge holds size m m'
    alike_merge None None a less = tt
    alike_merge None (Some m') a less = absurd a
    alike_merge (Some m) None a less = absurd a
    alike_merge (Some m) (Some m') a less = (ap (λ (y : Merging B). y.state.chunk) a.1, a.0.sectors, less)

    pub opens_alike : (calls : List Call) → OpensOnly holds size calls v w
    opens_alike calls = opens_none calls v w alike.origin.sectors opens.origin (alike_merge v.merge w.merge alike.merge opens.merge) alike_snap

  -- a request touches no device
  pub opens_submit : (calls : List Call) (v w : Volumed B) → KeepsDevices v w → AreFewer (lives_of w) (lives_of v) → OpensOnly holds size calls v w
  opens_submit calls v w kept fewer = opens_none calls v w (ap size kept.origin) (subst (λ (d : B). LeavesNoMore holds size v.origin d) (sym kept.origin) (no_more v.origin)) (same_merge v.merge w.merge kept.merge) each
    where
      each : (k : ℕ) (t : Kept B) → IsAt k t w → t.live ≡ true → IsEarlier holds size v t
      each k t at live =
          let many = long_as number_of_snap v.snaps w.snaps kept.numbers in
          let inside = at.within in
          let within : k < length v.snaps = omega (arith, inside, many) in
          let b : Kept B = get_or v.snaps k t in
          let is : b ≡ get_or v.snaps k b = get_or_default v.snaps k t b within in
          let device : t.device ≡ b.device = same_at (λ (y : Kept B). y.device) v.snaps w.snaps k b t kept.devices within inside is at.is in
          record {
            place = k;
            snap = b;
            at = record { within = within; is = is };
            number = sym (same_at number_of_snap v.snaps w.snaps k b t kept.numbers within inside is at.is);
            live = sym (get_or-map (λ (y : Kept B). y.live) v.snaps k t false within) ∙ fewer k (get_or-map (λ (y : Kept B). y.live) w.snaps k t false inside ∙ ap (λ (y : Kept B). y.live) (sym at.is) ∙ live);
            chunk = same_at (λ (y : Kept B). y.state.chunk) v.snaps w.snaps k b t kept.chunks within inside is at.is;
            size_is = ap size device;
            less = subst (λ (d : B). LeavesNoMore holds size b.device d) (sym device) (no_more b.device);
          }

  pub opens_submitted : (calls : List Call) (request : Request) (result : Result ℕ Refusal) (v w : Volumed B) → IfOk result (λ number. IsAcceptedAs contents layers request number v w) → IfErr result (λ refusal. IsRefusedAs contents layers size request refusal v w) → KeepsDevices v w → OpensOnly holds size calls v w
  opens_submitted calls request (Ok number) v w ok err kept = opens_submit calls v w kept (accepted_lives v w contents layers request number ok)
  opens_submitted calls request (Err refusal) v w ok err kept = opens_submit calls v w kept (refused_lives v w contents layers size request refusal err)

  -- an event
  module _ (event : Event) (outcome : Outcome) (faults : B → ℕ) (v w : Volumed B) (kept : KeepsAll size v w) (cause : HasCause faults event outcome v w) (stops : StopsVolume holds size (given_by event (map in_flight v.flights)) v w) (whole : (d : B) → length (contents d) ≡ 512 * size d) (here : (d : B) (s : ℕ) → s < size d → holds d s (sector_at (contents d) s)) where
    given_from : (event : Event) (array : Option ℕ) (s : ℕ) (x : List ℕ) → Gives (given_by event (map in_flight v.flights)) array s x → IsSomeOf (GivesAsked array s x) (map in_flight v.flights)
    given_from (Issue number) array s x gives = asked_given array s x number (map in_flight v.flights) gives
    given_from (CopyRead n) array s x gives = absurd gives
    given_from (CopyWrite n) array s x gives = absurd gives
    given_from (ZeroNext n) array s x gives = absurd gives
    given_from (WriteArea n) array s x gives = absurd gives
    given_from (Publish n) array s x gives = absurd gives
    given_from (WriteInvalid n) array s x gives = absurd gives
    given_from (FlushStore n) array s x gives = absurd gives
    given_from MergeGroup array s x gives = absurd gives
    given_from MergeAreaRead array s x gives = absurd gives
    given_from MergeRead array s x gives = absurd gives
    given_from MergeWrite array s x gives = absurd gives
    given_from MergeFlush array s x gives = absurd gives
    given_from MergeCommit array s x gives = absurd gives
    given_from MergeRelease array s x gives = absurd gives

    pub opens_event : (calls : List Call) → OpensOnly holds size calls v w
    opens_event calls array s x may = record { from = array; comes = inl refl; is = by array s x may }
      where
        found : (array : Option ℕ) (s : ℕ) (x : List ℕ) → IsOpenIn holds size v array s x ⊎ Gives (given_by event (map in_flight v.flights)) array s x → IsOpenIn holds size v array s x ⊎ IsGiven (map in_flight v.flights) calls array s x
        found array s x (inl before) = inl before
        found array s x (inr gives) = inr (inl (given_from event array s x gives))

        so : size w.origin ≡ size v.origin
        so = event_sectors holds size (given_by event (map in_flight v.flights)) v w kept stops

        beside : (P Q : Type 0) (s : ℕ) → s < size v.origin → P ⊎ Q → ((s < size v.origin) × P) ⊎ Q
        beside P Q s lt (inl p) = inl (lt, p)
        beside P Q s lt (inr q) = inr q

        by : (array : Option ℕ) (s : ℕ) (x : List ℕ) → IsOpenIn holds size w array s x → IsOpenIn holds size v array s x ⊎ IsGiven (map in_flight v.flights) calls array s x
        by None s x may = found None s x (beside _ _ s (subst (λ n. s < n) so may.0) (event_origin holds size contents whole here (given_by event (map in_flight v.flights)) v w kept stops s x may.0 may.1))
        by (Some number) s x may =
            found (Some number) s x (beside _ _ s (subst (λ n. s < n) so may.0) (event_snap holds size (given_by event (map in_flight v.flights)) v w kept stops (caused_lives v w faults event outcome cause) number s x may.0 may.1))

  -- a merge begins: the origin shows what the snapshot showed
  kept_same : (number count chunk : ℕ) (s : Kept B) → ((kept_for number count chunk s).number ≡ s.number) × ((kept_for number count chunk s).live ≡ s.live) × ((kept_for number count chunk s).state.chunk ≡ s.state.chunk) × ((kept_for number count chunk s).device ≡ s.device)
  kept_same number count chunk s = either (s.live && not (s.number == number)) _
    where
      either : (b : Bool) (n : ℕ) → let t : Kept B = if b then kept_back n s else s in (t.number ≡ s.number) × (t.live ≡ s.live) × (t.state.chunk ≡ s.state.chunk) × (t.device ≡ s.device)
      either true n = (refl, refl, refl, refl)
      either false n = (refl, refl, refl, refl)

  -- a snapshot that is left stood before one that is taken out, or behind it
  pub stood : (snaps : List (Kept B)) (place k : ℕ) (t : Kept B) → place < length snaps → k < length (remove snaps place) → (j : ℕ) × (j < length snaps) × (get_or (remove snaps place) k t ≡ get_or snaps j t)
  stood snaps place k t at lt =
      let long = length-remove snaps place at in
      elim (cases_lt k place) [
        | inl below ↦ (k, omega (arith, below, at), get_or-remove_below snaps place t k below at)
        | inr above ↦ (k + 1, omega (arith, lt, long), get_or-remove_above snaps place t k above at)
      ]

  module _ (number : ℕ) (v w : Volumed B) (admitted : begin_refusal number v ≡ None) (begun : IsMergeBegun number v w) where
    abbrev left : List (Kept B)
    left = remove v.snaps begun.place

    inside : begun.place < length v.snaps
    inside = within v number begun.place admitted (sym begun.found)

    origin_same : w.origin ≡ v.origin
    origin_same = ap (λ (y : Volumed B). y.origin) begun.becomes

    begun_snap : (k : ℕ) (t : Kept B) → IsAt k t w → t.live ≡ true → IsEarlier holds size v t
    begun_snap k t at live =
        let f : Kept B → Kept B = kept_for number (length begun.snap.pairs) begun.snap.state.chunk in
        let are : w.snaps ≡ map f left = ap (λ (y : Volumed B). y.snaps) begun.becomes in
        let within = at.within in
        let lt : k < length left = omega (arith, within, ap length are, length-map left f) in
        let (j, below, is) = stood v.snaps begun.place k t inside lt in
        let b : Kept B = get_or v.snaps j t in
        let shown : t ≡ f b = at.is ∙ ap (λ l. get_or l k t) are ∙ get_or-map f left k t t lt ∙ ap f is in
        let same = kept_same number (length begun.snap.pairs) begun.snap.state.chunk b in
        same_snap v j b t (record { within = below; is = get_or_default v.snaps j t b below }) (ap (λ (y : Kept B). y.number) shown ∙ same.0) (ap (λ (y : Kept B). y.live) shown ∙ same.1) (ap (λ (y : Kept B). y.state.chunk) shown ∙ same.2) (ap (λ (y : Kept B). y.device) shown ∙ same.3) live

    pub opens_begun : OpensOnly holds size (BeginMerge number ∷ []) v w
    opens_begun array s x may = by array s x may
      where
        so : size w.origin ≡ size v.origin
        so = ap size origin_same

        by : (array : Option ℕ) (s : ℕ) (x : List ℕ) → IsOpenIn holds size w array s x → IsFrom holds size (BeginMerge number ∷ []) v array s x
        by (Some n) s x may = record {
          from = Some n;
          comes = inl refl;
          is = inl (subst (λ n. s < n) so may.0, snap_before holds size v w so (subst (λ (d : B). LeavesNoMore holds size v.origin d) (sym origin_same) (no_more v.origin)) begun_snap n s x may.1);
        }
        by None s x may =
            let over : IsOpenOrigin holds size v.origin (Some (merging_from begun.snap begun.buffer)) s x = subst (λ (d : B). IsOpenOrigin holds size d (Some (merging_from begun.snap begun.buffer)) s x) origin_same (subst (λ m. IsOpenOrigin holds size w.origin m s x) (ap (λ (y : Volumed B). y.merge) begun.becomes) may.1) in
            record {
              from = Some number;
              comes = inr (refl, inl refl);
              is = inl (subst (λ n. s < n) so may.0, record { place = begun.place; snap = begun.snap; at = record { within = inside; is = begun.is }; mine = number_at v number begun.place admitted (sym begun.found) begun.snap begun.is; live = live_at v number begun.place admitted (sym begun.found) begun.snap begun.is; shows = over });
            }

  -- it does not, and the snapshots may keep nothing back for one any more
  pub kept_snaps : (v w : Volumed B) → (w.snaps ≡ v.snaps) ⊎ (w.snaps ≡ map unkept v.snaps) → (k : ℕ) (t : Kept B) → IsAt k t w → t.live ≡ true → IsEarlier holds size v t
  kept_snaps v w (inl same) k t at live = same_snaps v w same k t at live
  kept_snaps v w (inr same) k t at live =
      let lt = at.within in
      let below : k < length v.snaps = omega (arith, lt, ap length same, length-map v.snaps unkept) in
      let b : Kept B = get_or v.snaps k t in
      let shown : t ≡ unkept b = at.is ∙ ap (λ l. get_or l k t) same ∙ get_or-map unkept v.snaps k t t below in
      same_snap v k b t (record { within = below; is = get_or_default v.snaps k t b below }) (ap (λ (y : Kept B). y.number) shown) (ap (λ (y : Kept B). y.live) shown) (ap (λ (y : Kept B). y.state.chunk) shown) (ap (λ (y : Kept B). y.device) shown) live

  opens_unbegun : (calls : List Call) (number : ℕ) (refusal : Refusal) (v w : Volumed B) → IsNotBegun number refusal v w → OpensOnly holds size calls v w
  opens_unbegun calls number refusal v w (inl first) = opens_same calls v w first.1
  opens_unbegun calls number refusal v w (inr lacks) =
      let is = lacks.2 in
      let origin : w.origin ≡ v.origin = ap (λ (y : Volumed B). y.origin) is.becomes in
      opens_none calls v w (ap size origin) (subst (λ (d : B). LeavesNoMore holds size v.origin d) (sym origin) (no_more v.origin)) (same_merge v.merge w.merge (ap (λ (y : Volumed B). y.merge) is.becomes)) (kept_snaps v w is.kept)

  pub opens_begin : {A : Type 0} (number : ℕ) (result : Result A Refusal) (v w : Volumed B) → OnOk result (begin_refusal number v ≡ None) → OnOk result (IsMergeBegun number v w) → IfErr result (λ refusal. IsNotBegun number refusal v w) → OpensOnly holds size (BeginMerge number ∷ []) v w
  opens_begin number (Ok done) v w admitted begun refused = opens_begun number v w admitted begun
  opens_begin number (Err refusal) v w admitted begun refused = opens_unbegun (BeginMerge number ∷ []) number refusal v w refused

  -- a merge goes on: its device is the same
  pub opens_resume : {A : Type 0} (calls : List Call) (result : Result A Refusal) (v w : Volumed B) → OnOk result (IsResumed v w) → IfErr result (λ refusal. (refusal ≡ NotMerging) × (v.merge ≡ None) × (w ≡ v)) → OpensOnly holds size calls v w
  opens_resume calls (Err refusal) v w resumed err = opens_same calls v w err.2
  opens_resume calls (Ok done) v w resumed err =
      let origin : w.origin ≡ v.origin = ap (λ (y : Volumed B). y.origin) resumed.becomes in
      let merge : IsEarlierMerge holds size (Some resumed.merge) (Some (record resumed.merge { failed = false })) = (refl, refl, no_more resumed.merge.device) in
      opens_none calls v w (ap size origin) (subst (λ (d : B). LeavesNoMore holds size v.origin d) (sym origin) (no_more v.origin))
      (subst (λ m. IsEarlierMerge holds size m w.merge) (sym resumed.was) (subst (IsEarlierMerge holds size (Some resumed.merge)) (sym (ap (λ (y : Volumed B). y.merge) resumed.becomes)) merge))
      (same_snaps v w (ap (λ (y : Volumed B). y.snaps) resumed.becomes))

  -- an event that was due, or was not
  pub opens_stepped : (calls : List Call) (event : Event) (result : Result Outcome NotDue) (faults done : B → ℕ) (v w : Volumed B) → ((d : B) → length (contents d) ≡ 512 * size d) → ((d : B) (s : ℕ) → s < size d → holds d s (sector_at (contents d) s)) → is_loud_in_all layers v ≡ true
      → DoesStep holds contents layers size faults done true event result v w → OpensOnly holds size calls v w
  opens_stepped calls event (Ok outcome) faults done v w whole here loud does = opens_event event outcome faults v w does.kept does.cause (does.stops loud) whole here calls
  opens_stepped calls event (Err early) faults done v w whole here loud does = opens_same calls v w does.same

-- a message
pub opens_told : {B : Type 0} (holds : B → ℕ → List ℕ → Type 0) (m : Measures B) (layers : B → List Layer) (calls : List Call) (dev : Dev) (depth : ℕ) (message : Message) (result : Result Answer Refusal) (v w : Volumed B)
    → IfOk result (λ answer. IsTold m layers dev depth message answer v w) → IfErr result (λ refusal. IsNotTold m layers dev depth message refusal v w) → OpensNothing holds m.size v w → OpensOnly holds m.size calls v w
opens_told holds m layers calls dev depth message (Ok answer) v w told untold opens = opens_alike holds m.contents layers m.size v w (told_alike m layers dev depth message v w answer told) opens calls
opens_told holds m layers calls dev depth message (Err refusal) v w told untold opens = opens_alike holds m.contents layers m.size v w (untold_alike m layers dev depth message v w refusal untold) opens calls
