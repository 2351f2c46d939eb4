-- What a stop leaves of the snapshots that are remembered, deed by deed.
use Rattle.std.proofs.Common.{◌≡◌, ◌⊎◌, inl, inr, ℕ, ◌+◌, ◌*◌, ◌<◌, Bool, true, false, List, [], ◌∷◌, ◌++◌, filter, length, get_or, map, None, Some, Option, refl, sym, ◌∙◌, ap, subst, arith}
use Rattle.std.specs.Prelude.{◌==◌, AllPairs, nat_eq, Err, IfErr, IfOk, Ok, OnOk, Result, if◌then◌else◌}
use Rattle.std.specs.List.{All, remove}
use Rattle.std.proofs.lemmas.Bool.{cases_Bool, cases_lt, eq-eqb, true≢false}
use Rattle.std.proofs.lemmas.List.{get_or-map, get_or_append_left, get_or_push, length-append, length-map, map-id}
use Rattle.std.proofs.lemmas.List.Elements.{All-head, All-tail}
use Rattle.sector.specs.Bytes.{sector_at}
use Rattle.sector.specs.declared.refusal.Refusal.{Refusal}
use Rattle.device.specs.Layers.{Layer, is_loud}
use Rattle.cow_format.specs.Picture.{picture}
use Rattle.plain_machine.specs.Plain.{Entry, Invalid, Live, Plain, overflow_of}
use Rattle.plain_machine.specs.Legal.{IsTaken}
use Rattle.in_flight.specs.Kinds.{in_flight}
use Rattle.cache_loss_laws.proofs.Closing.{both_close}
use Rattle.crash_laws.specs.Again.{IsOpen}
use Rattle.crash_laws.specs.Firm.{IsFirm}
use Rattle.crash_laws.specs.Stop.{MayLeave, Within}
use Rattle.snapshot.specs.declared.opening.StoreDev.{StoreDev}
use Rattle.snapshot.specs.Kept.{Kept}
use Rattle.snapshot.specs.Opening.{shown_array}
use Rattle.snapshot_list.proofs.Finds.{position_within}
use Rattle.snapshot_list.specs.Numbers.{number_of_snap}
use Rattle.merge.specs.Merging.{Merging}
use Rattle.volume.specs.Shown.{shown_entry}
use Rattle.volume.specs.AddedUp.{GivesAsked, IsOpenIn, IsOpenSnap, IsSomeOf, OpensOnly}
use Rattle.volume.specs.Adding.{LeavesNoMore}
use Rattle.volume.specs.Attached.{IsGained, IsRefusedOver}
use Rattle.volume.specs.Causes.{IsAt}
use Rattle.volume.specs.Finishing.{IsTakenOut, finish_refusal}
use Rattle.volume.specs.Fresh.{is_fresh}
use Rattle.volume.specs.Layering.{Measures}
use Rattle.volume.specs.Leaving.{IsWithout, detach_refusal}
use Rattle.volume.specs.Stopping.{StopsVolume}
use Rattle.volume.specs.Volumed.{Volumed, is_loud_in_all, plain_of}
use Rattle.volume.specs.declared.calls.Call.TheVariants.{BeginMerge as Begins}
use Rattle.volume.proofs.AddedUp.{asked_none}
use Rattle.volume.proofs.Fresh.{fresh_shown}
use Rattle.volume.proofs.Opened.{IsEarlier, open_before, snap_before}
use Rattle.volume.proofs.Shown.{loud_books}
use Rattle.volume.proofs.OpenedCalls.{kept_snaps, no_more, same_snap, same_snaps, stood}
use Rattle.volume_lifetime.specs.declared.deed.Deed.{Deed}
use Rattle.volume_lifetime.specs.declared.deed.Deed.TheVariants.{Submit, Step, Tick, Tell, Attach, Detach, BeginMerge, ResumeMerge, FinishMerge}
use Rattle.volume_lifetime.specs.declared.deed.Done.{Done}
use Rattle.volume_lifetime.specs.declared.deed.Done.TheVariants.{Submitted, Stepped, Ticked, Told, Attached, Detached, Begun, Resumed, Finished}
use Rattle.volume_lifetime.specs.Answered.{AreAnswered, IsDone}
use Rattle.volume_lifetime.specs.Doing.{IsDoneBy}
use Rattle.volume_lifetime.specs.Lasted.{IsLasting, LastAll, LastsTaken, OpensByDeed, TakesAs}
use Rattle.volume_lifetime.specs.Lived.{IsLoudDeed, IsSeen, Sees, Taken, remembered}
use Rattle.volume_lifetime.proofs.Lives.{seen_keeps}
use Rattle.volume_lifetime.proofs.Plains.{AreKept, IsKept, apart}

-- a fact of each of some
abbrev pub Each : (Taken → Type 0) → List Taken → Type 0
Each P [] = Unit {0}
Each P (t ∷ taken) = P t × Each P taken

each_of_some : (P : Taken → Type 0) (test : Taken → Bool) (taken : List Taken) → Each P taken → Each P (filter test taken)
each_of_some P test [] all = tt
each_of_some P test (t ∷ taken) all = elim (cases_Bool (test t)) [
  | inl stays ↦ rw stays (all.0, each_of_some P test taken all.1)
  | inr goes ↦ rw goes (each_of_some P test taken all.1)
]

-- a snapshot over a fresh store is one more
each_more : {B : Type 0} (contents : B → List ℕ) (P : Taken → Type 0) (store : StoreDev B) (number : ℕ) (p : Plain) (taken : List Taken) → (is_fresh (contents store.device) ≡ true → P (record { number = number; array = p.origin })) → Each P taken
    → Each P (if is_fresh (contents store.device) then record { number = number; array = p.origin } ∷ taken else taken)
each_more contents P store number p taken new all = elim (cases_Bool (is_fresh (contents store.device))) [
  | inl fresh ↦ rw fresh (new fresh, all)
  | inr written ↦ rw written all
]

-- so is what is remembered after a deed
each_remembered : {B : Type 0} (contents : B → List ℕ) (P : Taken → Type 0) (deed : Deed B) (done : Done B) (p : Plain) (taken : List Taken)
    → ((store : StoreDev B) (chunk : ℕ) (overflow : Bool) (number : ℕ) → deed ≡ Attach store chunk overflow → done ≡ Attached (Ok number) → is_fresh (contents store.device) ≡ true → P (record { number = number; array = p.origin }))
    → Each P taken → Each P (remembered contents deed done p taken)
each_remembered contents P (Step event) done p taken new all = all
each_remembered contents P (Tick seconds) done p taken new all = all
each_remembered contents P (Tell dev depth message) done p taken new all = all
each_remembered contents P ResumeMerge done p taken new all = all
each_remembered contents P FinishMerge done p taken new all = all
each_remembered contents P (Submit request) (Submitted (Ok number)) p taken new all = each_of_some P _ taken all
each_remembered contents P (Submit request) (Submitted (Err refused)) p taken new all = all
each_remembered contents P (Submit request) (Stepped result) p taken new all = all
each_remembered contents P (Submit request) Ticked p taken new all = all
each_remembered contents P (Submit request) (Told result) p taken new all = all
each_remembered contents P (Submit request) (Attached result) p taken new all = all
each_remembered contents P (Submit request) (Detached result) p taken new all = all
each_remembered contents P (Submit request) (Begun result) p taken new all = all
each_remembered contents P (Submit request) (Resumed result) p taken new all = all
each_remembered contents P (Submit request) (Finished result) p taken new all = all
each_remembered contents P (Attach store chunk overflow) (Submitted result) p taken new all = all
each_remembered contents P (Attach store chunk overflow) (Stepped result) p taken new all = all
each_remembered contents P (Attach store chunk overflow) Ticked p taken new all = all
each_remembered contents P (Attach store chunk overflow) (Told result) p taken new all = all
each_remembered contents P (Attach store chunk overflow) (Attached (Ok number)) p taken new all = each_more contents P store number p taken (new store chunk overflow number refl refl) all
each_remembered contents P (Attach store chunk overflow) (Attached (Err refused)) p taken new all = all
each_remembered contents P (Attach store chunk overflow) (Detached result) p taken new all = all
each_remembered contents P (Attach store chunk overflow) (Begun result) p taken new all = all
each_remembered contents P (Attach store chunk overflow) (Resumed result) p taken new all = all
each_remembered contents P (Attach store chunk overflow) (Finished result) p taken new all = all
each_remembered contents P (Detach number) (Submitted result) p taken new all = all
each_remembered contents P (Detach number) (Stepped result) p taken new all = all
each_remembered contents P (Detach number) Ticked p taken new all = all
each_remembered contents P (Detach number) (Told result) p taken new all = all
each_remembered contents P (Detach number) (Attached result) p taken new all = all
each_remembered contents P (Detach number) (Detached (Ok store)) p taken new all = each_of_some P _ taken all
each_remembered contents P (Detach number) (Detached (Err refused)) p taken new all = all
each_remembered contents P (Detach number) (Begun result) p taken new all = all
each_remembered contents P (Detach number) (Resumed result) p taken new all = all
each_remembered contents P (Detach number) (Finished result) p taken new all = all
each_remembered contents P (BeginMerge number) (Submitted result) p taken new all = all
each_remembered contents P (BeginMerge number) (Stepped result) p taken new all = all
each_remembered contents P (BeginMerge number) Ticked p taken new all = all
each_remembered contents P (BeginMerge number) (Told result) p taken new all = all
each_remembered contents P (BeginMerge number) (Attached result) p taken new all = all
each_remembered contents P (BeginMerge number) (Detached result) p taken new all = all
each_remembered contents P (BeginMerge number) (Begun (Ok done)) p taken new all = each_of_some P _ taken all
each_remembered contents P (BeginMerge number) (Begun (Err refused)) p taken new all = all
each_remembered contents P (BeginMerge number) (Resumed result) p taken new all = all
each_remembered contents P (BeginMerge number) (Finished result) p taken new all = all

some_none : (n : ℕ) → Some n ≡ None → ⊥
some_none n e = cc

module _ {B : Type 0} (holds : B → ℕ → List ℕ → Type 0) (m : Measures B) (layers : B → List Layer) where
  abbrev plain : Volumed B → Plain
  plain v = plain_of m.contents layers v

  -- a call that submits no write
  pub by_calls : (deed : Deed B) (done : Done B) (v w : Volumed B) → OpensOnly holds m.size [] v w → OpensByDeed holds m layers deed done v w
  by_calls deed done v w opens number s x may = (let f = opens (Some number) s x may in from f.from f.comes f.is)
    where
      from : (array : Option ℕ) → (array ≡ Some number) ⊎ ((Some number ≡ None) × ⊥) → IsOpenIn holds m.size v array s x ⊎ (IsSomeOf (GivesAsked array s x) (map in_flight v.flights) ⊎ ⊥)
          → IsOpenIn holds m.size v (Some number) s x ⊎ (IsSomeOf (GivesAsked (Some number) s x) (map in_flight v.flights) ⊎ ((array : List ℕ) × TakesAs m.contents deed done (plain v) number array × (x ≡ sector_at array s)))
      from array (inr merged) is = absurd merged.1
      from array (inl same) (inl before) = inl (subst (λ o. IsOpenIn holds m.size v o s x) same before)
      from array (inl same) (inr (inl asked)) = inr (inl (subst (λ o. IsSomeOf (GivesAsked o s x) (map in_flight v.flights)) same asked))
      from array (inl same) (inr (inr none)) = absurd none

  -- a deed after which no snapshot's devices may be left with more
  before_deed : (deed : Deed B) (done : Done B) (v w : Volumed B) → m.size w.origin ≡ m.size v.origin → LeavesNoMore holds m.size v.origin w.origin → ((k : ℕ) (t : Kept B) → IsAt k t w → t.live ≡ true → IsEarlier holds m.size v t) → OpensByDeed holds m layers deed done v w
  before_deed deed done v w so lo each number s x may = inl (subst (λ n. s < n) so may.0, snap_before holds m.size v w so lo each number s x may.1)

  pub begin_opens : (n : ℕ) (done : Done B) (v w : Volumed B) → OpensOnly holds m.size (Begins n ∷ []) v w → OpensByDeed holds m layers (BeginMerge n) done v w
  begin_opens n done v w opens number s x may = (let f = opens (Some number) s x may in from f.from f.comes f.is)
    where
      from : (array : Option ℕ) → (array ≡ Some number) ⊎ ((Some number ≡ None) × ((array ≡ Some n) ⊎ ⊥)) → IsOpenIn holds m.size v array s x ⊎ (IsSomeOf (GivesAsked array s x) (map in_flight v.flights) ⊎ (⊥ ⊎ ⊥))
          → IsOpenIn holds m.size v (Some number) s x ⊎ (IsSomeOf (GivesAsked (Some number) s x) (map in_flight v.flights) ⊎ ((array : List ℕ) × TakesAs m.contents (BeginMerge n) done (plain v) number array × (x ≡ sector_at array s)))
      from array (inr merged) is = absurd (some_none number merged.0)
      from array (inl same) (inl before) = inl (subst (λ o. IsOpenIn holds m.size v o s x) same before)
      from array (inl same) (inr (inl asked)) = inr (inl (subst (λ o. IsSomeOf (GivesAsked o s x) (map in_flight v.flights)) same asked))
      from array (inl same) (inr (inr (inl none))) = absurd none
      from array (inl same) (inr (inr (inr none))) = absurd none

  -- nothing changed
  same_opens : (deed : Deed B) (done : Done B) (v w : Volumed B) → w ≡ v → OpensByDeed holds m layers deed done v w
  same_opens deed done v w same number s x may = inl (subst (λ (y : Volumed B). IsOpenIn holds m.size y (Some number) s x) same may)

  -- a snapshot is taken away
  detach_opens : (n : ℕ) (done : Done B) (v w : Volumed B) (store : StoreDev B) → IsWithout n v w store → OpensByDeed holds m layers (Detach n) done v w
  detach_opens n done v w store is =
      let origin : w.origin ≡ v.origin = ap (λ (y : Volumed B). y.origin) is.becomes in
      before_deed (Detach n) done v w (ap m.size origin) (subst (λ (d : B). LeavesNoMore holds m.size v.origin d) (sym origin) (no_more holds m.contents layers m.size v.origin)) each
    where
      each : (k : ℕ) (t : Kept B) → IsAt k t w → t.live ≡ true → IsEarlier holds m.size v t
      each k t at live =
          let are : w.snaps ≡ remove v.snaps is.place = ap (λ (y : Volumed B). y.snaps) is.becomes in
          let inside = position_within (λ (y : Kept B). nat_eq y.number n) v.snaps is.place is.found in
          let lt : k < length (remove v.snaps is.place) = subst (λ (l : List (Kept B)). k < length l) are at.within in
          let (j, below, same) = stood holds m.contents layers m.size v.snaps is.place k t inside lt in
          let shown : t ≡ get_or v.snaps j t = at.is ∙ ap (λ l. get_or l k t) are ∙ same in
          same_snap holds m.contents layers m.size v j t t (record { within = below; is = shown }) refl refl refl refl live

  pub detached_opens : (n : ℕ) (result : Result (StoreDev B) Refusal) (v w : Volumed B) → IfOk result (λ store. IsWithout n v w store) → IfErr result (λ refusal. (detach_refusal n v ≡ Some refusal) × (w ≡ v)) → OpensByDeed holds m layers (Detach n) (Detached result) v w
  detached_opens n (Ok store) v w ok err = detach_opens n (Detached (Ok store)) v w store ok
  detached_opens n (Err refusal) v w ok err = same_opens (Detach n) (Detached (Err refusal)) v w err.1

  -- a merge is taken out
  pub finished_opens : (result : Result (StoreDev B) Refusal) (v w : Volumed B) → IfOk result (λ store. IsTakenOut v w store) → IfErr result (λ refusal. (finish_refusal v ≡ Some refusal) × (w ≡ v)) → OpensByDeed holds m layers FinishMerge (Finished result) v w
  finished_opens (Ok store) v w ok err =
      let origin : w.origin ≡ v.origin = ap (λ (y : Volumed B). y.origin) ok.becomes in
      before_deed FinishMerge (Finished (Ok store)) v w (ap m.size origin) (subst (λ (d : B). LeavesNoMore holds m.size v.origin d) (sym origin) (no_more holds m.contents layers m.size v.origin))
      (kept_snaps holds m.contents layers m.size v w (inr (ap (λ (y : Volumed B). y.snaps) ok.becomes)))
  finished_opens (Err refusal) v w ok err = same_opens FinishMerge (Finished (Err refusal)) v w err.1

  -- a snapshot is taken: both devices are flushed
  module _ (store : StoreDev B) (chunk : ℕ) (overflow : Bool) (v w : Volumed B) (origin_kept : (s : ℕ) (x : List ℕ) → holds w.origin s x → holds v.origin s x) where
    less : LeavesNoMore holds m.size v.origin w.origin
    less s x lt h = origin_kept s x h

    module _ (number : ℕ) (gained : IsGained m.contents layers m.size number overflow store v w) where
      grown : w.snaps ≡ v.snaps ++ gained.snap ∷ []
      grown = ap (λ (y : Volumed B). y.snaps) gained.becomes

      -- one that was there
      old_snap : (n s : ℕ) (x : List ℕ) (o : IsOpenSnap holds m.size w n s x) → o.place < length v.snaps → IsOpenSnap holds m.size v n s x
      old_snap n s x o lt = record {
        place = o.place;
        snap = o.snap;
        at = record { within = lt; is = o.at.is ∙ ap (λ l. get_or l o.place o.snap) grown ∙ get_or_append_left v.snaps (gained.snap ∷ []) o.snap o.place lt };
        mine = o.mine;
        live = o.live;
        shows = open_before holds m.size o.snap.state.chunk o.snap.state.chunk s x v.origin w.origin o.snap.device o.snap.device refl gained.origin.size_is refl less (no_more holds m.contents layers m.size o.snap.device) o.shows;
      }

      -- or the one that is new
      long : length w.snaps ≡ length v.snaps + 1
      long = ap length grown ∙ length-append v.snaps (gained.snap ∷ [])

      new_snap : (n s : ℕ) (x : List ℕ) (o : IsOpenSnap holds m.size w n s x) → (o.place < length v.snaps → ⊥) → o.snap ≡ gained.snap
      new_snap n s x o past =
          let within = o.at.within in
          let last : length v.snaps ≡ o.place = elim (cases_lt o.place (length v.snaps)) [ inl lower ↦ absurd (past lower) | inr above ↦ omega (arith, above, within, long) ] in
          o.at.is ∙ ap (λ l. get_or l o.place o.snap) grown ∙ get_or_push v.snaps gained.snap o.snap o.place last

      -- its array
      module _ (array : List ℕ) (taken : IsTaken (plain v) number array (overflow_of overflow) (plain w)) where
        abbrev as_entry : Kept B → Entry
        as_entry = shown_entry m.contents (m.contents w.origin)

        by_live : (b : Bool) (shown : List ℕ) → b ≡ true → (if b then Live shown else Invalid) ≡ Live array → shown ≡ array
        by_live true shown live e = cc
        by_live false shown live e = absurd (true≢false (sym live))

        entries : map as_entry w.snaps ≡ (plain v).saved ++ record { number = number; saved = Live array; overflow = overflow_of overflow } ∷ []
        entries = ap (λ (p : Plain). p.saved) taken.becomes

        last_shown : picture gained.snap.state.chunk (m.contents w.origin) (m.contents gained.snap.device) ≡ array
        last_shown =
            let e : Entry = record { number = number; saved = Live array; overflow = overflow_of overflow } in
            let at : get_or w.snaps (length v.snaps) gained.snap ≡ gained.snap = ap (λ l. get_or l (length v.snaps) gained.snap) grown ∙ get_or_push v.snaps gained.snap gained.snap (length v.snaps) refl in
            let one : get_or (map as_entry w.snaps) (length v.snaps) e ≡ as_entry gained.snap = get_or-map as_entry w.snaps (length v.snaps) gained.snap e (omega (arith, long)) ∙ ap as_entry at in
            let two : get_or ((plain v).saved ++ e ∷ []) (length v.snaps) e ≡ e = get_or_push (plain v).saved e e (length v.snaps) (length-map v.snaps (shown_entry m.contents (m.contents v.origin))) in
            let same : as_entry gained.snap ≡ e = sym one ∙ ap (λ l. get_or l (length v.snaps) e) entries ∙ two in
            by_live gained.snap.live (picture gained.snap.state.chunk (m.contents w.origin) (m.contents gained.snap.device)) gained.live (ap (λ (y : Entry). y.saved) same)

        module _ (whole : (d : B) → length (m.contents d) ≡ 512 * m.size d) (here : (d : B) (s : ℕ) → s < m.size d → holds d s (sector_at (m.contents d) s)) (firm_origin : IsFirm (holds w.origin) (m.contents w.origin) (m.size w.origin)) (firm : IsFirm (holds gained.snap.device) (m.contents gained.snap.device) (m.size gained.snap.device)) where
          new_shows : (n s : ℕ) (x : List ℕ) (o : IsOpenSnap holds m.size w n s x) → o.snap ≡ gained.snap → (number ≡ n) × (x ≡ sector_at array s)
          new_shows n s x o same =
              let shows = subst (λ (y : Kept B). IsOpen y.state.chunk (holds w.origin) (holds y.device) (m.size w.origin) (m.size y.device) s x) same o.shows in (
                sym gained.number_is ∙ ap (λ (y : Kept B). y.number) (sym same) ∙ o.mine,
                both_close gained.snap.state.chunk (m.size w.origin) (m.size gained.snap.device) (holds w.origin) (holds gained.snap.device) (m.contents w.origin) (m.contents gained.snap.device)
                    (record { whole = whole w.origin; each = here w.origin }) (record { whole = whole gained.snap.device; each = here gained.snap.device }) firm_origin firm s x shows ∙ ap (λ b. sector_at b s) last_shown,
              )

          attach_opens : array ≡ shown_array (plain v).origin (m.contents store.device) → OpensByDeed holds m layers (Attach store chunk overflow) (Attached (Ok number)) v w
          attach_opens is n s x may = (let o = may.1 in elim (cases_lt o.place (length v.snaps)) [
            | inl lower ↦ inl (subst (λ k. s < k) gained.origin.size_is may.0, old_snap n s x o lower)
            | inr above ↦
                (let new = new_shows n s x o (new_snap n s x o (λ lower. omega (arith, above, lower))) in
                inr (inr (array, subst (λ k. TakesAs m.contents (Attach store chunk overflow) (Attached (Ok number)) (plain v) k array) new.0 (record { store = store; chunk = chunk; overflow = overflow; attach = refl; attached = refl; shown = is }), new.1)))
          ])

    -- or it is not
    refused_opens : (done : Done B) (refusal : Refusal) → IsRefusedOver m.contents layers m.size refusal v w → OpensByDeed holds m layers (Attach store chunk overflow) done v w
    refused_opens done refusal is = before_deed (Attach store chunk overflow) done v w is.origin.size_is less (same_snaps holds m.contents layers m.size v w (ap (λ (y : Volumed B). y.snaps) is.becomes))

    pub attached_opens : (result : Result ℕ (Refusal × StoreDev B)) → ((d : B) → length (m.contents d) ≡ 512 * m.size d) → ((d : B) (s : ℕ) → s < m.size d → holds d s (sector_at (m.contents d) s)) → is_loud_in_all layers v ≡ true → is_loud (layers store.device) ≡ true
        → IsDone holds m layers (Attach store chunk overflow) (Attached result) v w → OnOk result (is_loud (layers v.origin) ≡ true → IsFirm (holds w.origin) (m.contents w.origin) (m.size w.origin))
        → IfOk result (λ _. is_loud (layers store.device) ≡ true → (s : Kept B) → s ≡ get_or w.snaps (length v.snaps) s → IsFirm (holds s.device) (m.contents s.device) (m.size s.device)) → OpensByDeed holds m layers (Attach store chunk overflow) (Attached result) v w
    attached_opens (Err refused) whole here loud brought done firm_origin firm = refused_opens (Attached (Err refused)) refused.0 done.answered.0.same
    attached_opens (Ok number) whole here loud brought done firm_origin firm =
        let gained : IsGained m.contents layers m.size number overflow store v w = done.answered.0.gained in
        let taken = (done.seen loud brought).sees.2 in
        let at : gained.snap ≡ get_or w.snaps (length v.snaps) gained.snap = sym (ap (λ l. get_or l (length v.snaps) gained.snap) (grown number gained) ∙ get_or_push v.snaps gained.snap gained.snap (length v.snaps) refl) in
        attach_opens number gained (shown_array (plain v).origin (m.contents store.device)) taken whole here (firm_origin (loud_books m.contents layers m.size v loud).origin) (firm brought gained.snap at) refl

  -- What a stop leaves where each snapshot that is remembered has nothing open but its array.
  abbrev pub OnlyShows : Volumed B → Taken → Type 0
  OnlyShows v t = (s : ℕ) (x : List ℕ) → IsOpenIn holds m.size v (Some t.number) s x → x ≡ sector_at t.array s

  lasts_one : (v : Volumed B) (t : Taken) → StopsVolume holds m.size None v v → OnlyShows v t → LastsTaken holds m.size v t
  lasts_one v t stops shows place s at mine live o c lo lc =
      let either : (d : B) (b : List ℕ) → MayLeave (holds d) (m.size d) b → MayLeave (Within (holds d) (holds d)) (m.size d) b = λ d b left. record { whole = left.whole; each = λ k lt. inl (left.each k lt) } in
      let again = (stops.snaps place s s at.within at.is at.is o c (either v.origin o lo) (either s.device c lc)).0 live in
      (again.0, λ n lt. shows n (sector_at (picture s.state.chunk o c) n) (lt, record { place = place; snap = s; at = at; mine = mine; live = live; shows = record { origin = o; store = c; origin_left = lo; store_left = lc; is = refl } }))

  last_all : (v : Volumed B) (taken : List Taken) → StopsVolume holds m.size None v v → Each (OnlyShows v) taken → LastAll holds m.size v taken
  last_all v [] stops all = tt
  last_all v (t ∷ taken) stops all = (lasts_one v t stops all.0, last_all v taken stops all.1)

  -- after a deed, of those that were remembered
  pub same_attach : (store store' : StoreDev B) (chunk chunk' : ℕ) (overflow overflow' : Bool) → Attach store chunk overflow ≡ Attach store' chunk' overflow' → store ≡ store'
  same_attach store store' chunk chunk' overflow overflow' e = cc

  taken_before : (store : StoreDev B) (chunk : ℕ) (overflow : Bool) (v w : Volumed B) (t : Taken) → Sees m.contents (Attach store chunk overflow) (Attached (Ok t.number)) (plain v) (plain w) → IsKept (plain v) t → ⊥
  taken_before store chunk overflow v w t sees kept = (let other : (t.number == t.number) ≡ false = apart t.number (plain v) t sees.0 kept in true≢false (sym (eq-eqb t.number t.number refl) ∙ other))

  still_shows : (deed : Deed B) (done : Done B) (v w : Volumed B) (t : Taken) → Sees m.contents deed done (plain v) (plain w) → OpensByDeed holds m layers deed done v w → IsKept (plain v) t → OnlyShows v t → OnlyShows w t
  still_shows deed done v w t sees opens kept shows s x may = by (opens t.number s x may)
    where
      by : IsOpenIn holds m.size v (Some t.number) s x ⊎ (IsSomeOf (GivesAsked (Some t.number) s x) (map in_flight v.flights) ⊎ ((array : List ℕ) × TakesAs m.contents deed done (plain v) t.number array × (x ≡ sector_at array s))) → x ≡ sector_at t.array s
      by (inl before) = shows s x before
      by (inr (inl asked)) = absurd (asked_none t.number s x (map in_flight v.flights) kept.free asked)
      by (inr (inr (array, takes, is))) =
          absurd (taken_before takes.store takes.chunk takes.overflow v w t (subst (λ a. Sees m.contents (Attach takes.store takes.chunk takes.overflow) a (plain v) (plain w)) takes.attached (subst (λ a. Sees m.contents a done (plain v) (plain w)) takes.attach sees)) kept)

  still_each : (deed : Deed B) (done : Done B) (v w : Volumed B) (taken : List Taken) → Sees m.contents deed done (plain v) (plain w) → OpensByDeed holds m layers deed done v w → AreKept (plain v) taken → Each (OnlyShows v) taken → Each (OnlyShows w) taken
  still_each deed done v w [] sees opens kept all = tt
  still_each deed done v w (t ∷ taken) sees opens kept all = (still_shows deed done v w t sees opens kept.0 all.0, still_each deed done v w taken sees opens kept.1 all.1)

  -- and of the one that it takes
  new_one : (store : StoreDev B) (chunk : ℕ) (overflow : Bool) (number : ℕ) (v w : Volumed B) → is_fresh (m.contents store.device) ≡ true → IsDone holds m layers (Attach store chunk overflow) (Attached (Ok number)) v w → Sees m.contents (Attach store chunk overflow) (Attached (Ok number)) (plain v) (plain w)
      → OpensByDeed holds m layers (Attach store chunk overflow) (Attached (Ok number)) v w → OnlyShows w (record { number = number; array = (plain v).origin })
  new_one store chunk overflow number v w fresh done sees opens s x may = by (opens number s x may)
    where
      by : IsOpenIn holds m.size v (Some number) s x ⊎ (IsSomeOf (GivesAsked (Some number) s x) (map in_flight v.flights) ⊎ ((array : List ℕ) × TakesAs m.contents (Attach store chunk overflow) (Attached (Ok number)) (plain v) number array × (x ≡ sector_at array s))) → x ≡ sector_at (plain v).origin s
      by (inl before) = (let o = before.1 in absurd (done.answered.0.gained.fresh o.place o.snap o.at.within (ap (λ (y : Kept B). y.number) (sym o.at.is) ∙ o.mine)))
      by (inr (inl asked)) = absurd (subst (λ rs. IsSomeOf (GivesAsked (Some number) s x) rs) sees.1 asked)
      by (inr (inr (array, takes, is))) =
          let same : store ≡ takes.store = same_attach store takes.store chunk takes.chunk overflow takes.overflow takes.attach in
          is ∙ ap (λ b. sector_at b s) (takes.shown ∙ ap (λ (d : StoreDev B). shown_array (plain v).origin (m.contents d.device)) (sym same) ∙ fresh_shown (plain v).origin (m.contents store.device) fresh)

  shows_after : (deed : Deed B) (done : Done B) (v w : Volumed B) (taken : List Taken) → IsDone holds m layers deed done v w → Sees m.contents deed done (plain v) (plain w) → OpensByDeed holds m layers deed done v w → AreKept (plain v) taken → Each (OnlyShows v) taken
      → Each (OnlyShows w) (remembered m.contents deed done (plain v) taken)
  shows_after deed done v w taken is sees opens kept all =
      each_remembered m.contents (OnlyShows w) deed done (plain v) taken new (still_each deed done v w taken sees opens kept all)
    where
      new : (store : StoreDev B) (chunk : ℕ) (overflow : Bool) (number : ℕ) → deed ≡ Attach store chunk overflow → done ≡ Attached (Ok number) → is_fresh (m.contents store.device) ≡ true → OnlyShows w (record { number = number; array = (plain v).origin })
      new store chunk overflow number attach attached fresh =
          new_one store chunk overflow number v w fresh (subst (λ a. IsDone holds m layers (Attach store chunk overflow) a v w) attached (subst (λ a. IsDone holds m layers a done v w) attach is))
          (subst (λ a. Sees m.contents (Attach store chunk overflow) a (plain v) (plain w)) attached (subst (λ a. Sees m.contents a done (plain v) (plain w)) attach sees))
          (subst (λ a. OpensByDeed holds m layers (Attach store chunk overflow) a v w) attached (subst (λ a. OpensByDeed holds m layers a done v w) attach opens))

  -- What a look at a volume says: numbers of snapshots ascend, and a chunk has a sector at least.
  pub record IsLookedAt (w : Volumed B) : Type 0 where
    pub unique : AllPairs (λ a b. a < b) (map number_of_snap w.snaps)
    pub some : (g : Merging B) → w.merge ≡ Some g → 0 < g.state.chunk

  -- One deed of a path, and a list of them: what it promises, what it opens, and what a look at the volume says behind it.
  pub record IsPassed (deed : Deed B) (done : Done B) (v w : Volumed B) : Type 0 where
    pub by : IsDoneBy holds m layers deed done v w
    pub looked : IsLookedAt w
    pub done_is : IsDone holds m layers deed done v w
    pub opens : is_loud_in_all layers v ≡ true → IsLoudDeed layers deed → OpensByDeed holds m layers deed done v w
    pub stops : is_loud_in_all layers w ≡ true → StopsVolume holds m.size None w w

  abbrev pub ArePassed : List (Deed B) → List (Done B) → Volumed B → Volumed B → Type 0
  ArePassed [] [] v w = w ≡ v
  ArePassed [] (a ∷ answers) v w = ⊥
  ArePassed (d ∷ ds) [] v w = ⊥
  ArePassed (d ∷ ds) (a ∷ answers) v w = (mid : Volumed B) × IsPassed d a v mid × ArePassed ds answers mid w

  pub passed_more : (ds : List (Deed B)) (answers : List (Done B)) (d : Deed B) (a : Done B) (v w x : Volumed B) → ArePassed ds answers v w → IsPassed d a w x → ArePassed (ds ++ d ∷ []) (answers ++ a ∷ []) v x
  passed_more [] [] d a v w x e one = (x, subst (λ (y : Volumed B). IsPassed d a y x) e one, refl)
  passed_more [] (b ∷ answers) d a v w x e one = absurd e
  passed_more (c ∷ ds) [] d a v w x e one = absurd e
  passed_more (c ∷ ds) (b ∷ answers) d a v w x (mid, first, rest) one = (mid, first, passed_more ds answers d a mid w x rest one)

  pub all_passed : (seen ds : List (Deed B)) (answers : List (Done B)) (v w : Volumed B) → map (λ d. d) seen ≡ ds → ArePassed seen answers v w → ArePassed ds answers v w
  all_passed seen ds answers v w all e = subst (λ (x : List (Deed B)). ArePassed x answers v w) (sym (map-id seen) ∙ all) e

  pub passed_answered : (ds : List (Deed B)) (answers : List (Done B)) (v w : Volumed B) → ArePassed ds answers v w → AreAnswered holds m layers ds answers v w
  passed_answered [] [] v w e = e
  passed_answered [] (a ∷ answers) v w e = absurd e
  passed_answered (d ∷ ds) [] v w e = absurd e
  passed_answered (d ∷ ds) (a ∷ answers) v w (mid, one, rest) = (mid, one.done_is, passed_answered ds answers mid w rest)

  lasting_from : (ds : List (Deed B)) (answers : List (Done B)) (v w : Volumed B) (taken : List Taken) → is_loud_in_all layers v ≡ true → All (IsLoudDeed layers) ds → AreKept (plain v) taken → Each (OnlyShows v) taken → ArePassed ds answers v w → IsLasting holds m layers taken ds answers v w
  lasting_from [] [] v w taken loud brings kept shows e = e
  lasting_from [] (a ∷ answers) v w taken loud brings kept shows e = absurd e
  lasting_from (d ∷ ds) [] v w taken loud brings kept shows e = absurd e
  lasting_from (d ∷ ds) (a ∷ answers) v w taken loud brings kept shows (mid, one, rest) =
      let brought = All-head (IsLoudDeed layers) d ds brings in
      let still = one.done_is.loud loud brought in
      let seen : IsSeen m layers d a v mid = one.done_is.seen loud brought in
      let after = shows_after d a v mid taken one.done_is seen.sees (one.opens loud brought) kept shows in (
        mid,
        seen,
        last_all mid (remembered m.contents d a (plain v) taken) (one.stops still) after,
        lasting_from ds answers mid w (remembered m.contents d a (plain v) taken) still (All-tail (IsLoudDeed layers) d ds brings) (seen_keeps m.contents d a (plain v) (plain mid) taken seen.sees kept) after rest,
      )

  pub all_lasting : (ds : List (Deed B)) (answers : List (Done B)) (v w : Volumed B) → ArePassed ds answers v w → is_loud_in_all layers v ≡ true → All (IsLoudDeed layers) ds → IsLasting holds m layers [] ds answers v w
  all_lasting ds answers v w e loud brings = lasting_from ds answers v w [] loud brings tt tt e
