-- What a stop leaves is what the next session shows: what was made last is carried over.
use Rattle.std.proofs.Common.{◌≡◌, ◌⊎◌, inl, inr, ℕ, ◌<◌, Bool, true, false, List, [], ◌∷◌, filter, map, Option, None, Some, refl, sym, ◌∙◌, ap, subst}
use Rattle.std.specs.Prelude.{◌==◌}
use Rattle.std.proofs.lemmas.Bool.{cases_Bool, eqb-true}
use Rattle.sector.specs.Bytes.{sector_at}
use Rattle.device.specs.Layers.{Layer}
use Rattle.cow_format.specs.Picture.{picture}
use Rattle.crash_laws.specs.Again.{LoadsAgain}
use Rattle.crash_laws.specs.Stop.{MayLeave, Within}
use Rattle.plain_machine.specs.Plain.{Plain}
use Rattle.snapshot.specs.Kept.{Kept}
use Rattle.merge.specs.Due.{is_finished_of}
use Rattle.merge.specs.Merging.{Merging}
use Rattle.volume.specs.Causes.{IsAt}
use Rattle.volume.specs.Layering.{Measures}
use Rattle.volume.specs.Shown.{shown_origin}
use Rattle.volume.specs.Volumed.{Volumed, is_loud_in_all, plain_of}
use Rattle.volume_lifetime.specs.Flushed.{Allows, Flushed, History, LastAll, LastsArray, LastsOrigin, LoadsMerging, LosesNothing, ShowsDisk, array_in, bytes_of, is_of, is_same}
use Rattle.volume_nbd.specs.Served.{Served}
use Rattle.served_session_laws.specs.Carrying.{AreShown, Carries, IsOpenedOver, as_array, of_origin, of_snap}
use Rattle.served_session_laws.specs.Keeping.{AreLoaded, IsLoadedFrom, IsMergedFrom}
use Rattle.served_session_laws.specs.Sessions.{CarriesNow, LosesNow}
use Rattle.served_session_laws.proofs.Keeping.{brought, loaded_from, loads_loud, merged_from, was}

-- which array is meant
same_none : (a : Option ℕ) → is_same a None ≡ true → a ≡ None
same_none None is = refl
same_none (Some n) is = absurd (let no : false ≡ true = is in cc)

same_some : (a : Option ℕ) (k : ℕ) → is_same a (Some k) ≡ true → a ≡ Some k
same_some None k is = absurd (let no : false ≡ true = is in cc)
same_some (Some n) k is = ap Some (eqb-true n k is)

module _ {B : Type 0} (holds : B → ℕ → List ℕ → Type 0) (m : Measures B) (layers : B → List Layer) (failed : B → Bool) where
  abbrev plain : Volumed B → Plain
  plain v = plain_of m.contents layers v

  -- stores that are loaded leave the origin's array
  loads_origin : (numbers : List ℕ) (old new : Volumed B) → AreLoaded holds m layers failed numbers old new → is_loud_in_all layers new ≡ true → (plain new).origin ≡ (plain old).origin
  loads_origin [] old new same kept = ap (λ (x : Volumed B). (plain x).origin) same
  loads_origin (n ∷ numbers) old new (mid, chunk, overflow, store, found, loads, more) kept =
      let loud = loads_loud holds m layers failed numbers mid new more kept in
      let before = was holds m layers failed chunk overflow store n found old mid loads loud in
      let there = brought holds m layers failed chunk overflow store n found old mid loads loud in
      loads_origin numbers mid new more kept ∙ ap (λ (p : Plain). p.origin) (loads.attached.taken before there).becomes

  opened_over : (o : List ℕ) (new : Volumed B) (again : IsOpenedOver holds m layers failed o new) → (plain new).origin ≡ o
  opened_over o new again = loads_origin again.numbers again.old new again.loads again.kept ∙ ap (shown_origin m.contents again.old.origin) again.none ∙ again.origin_is

module _ {B N : Type 0} (holds : B → ℕ → List ℕ → Type 0) (size : B → ℕ) (next_holds : N → ℕ → List ℕ → Type 0) (m : Measures N) (layers : N → List Layer) (failed : N → Bool) where
  abbrev shown : Volumed N → Plain
  shown v = plain_of m.contents layers v

  -- what lasts of some arrays is shown of them
  origin_each : (p : Plain) (sectors : ℕ) (v w : Volumed B) (made : List Flushed) → ((f : Flushed) → f.array ≡ None → LastsArray holds size f f.array v w → (s : ℕ) → s < sectors → Allows f s (sector_at (array_in f.array p) s)) → LastAll holds size made v w → AreShown p sectors (of_origin made)
  origin_each p sectors v w [] each all = tt
  origin_each p sectors v w (f ∷ made) each all = elim (cases_Bool (is_same f.array None)) [
    | inl mine ↦ rw mine (each f (same_none f.array mine) all.0, origin_each p sectors v w made each all.1)
    | inr other ↦ rw other (origin_each p sectors v w made each all.1)
  ]

  snap_each : (p : Plain) (sectors : ℕ) (v w : Volumed B) (before number : ℕ) (made : List Flushed) → ((f : Flushed) → f.array ≡ Some before → LastsArray holds size f f.array v w → (s : ℕ) → s < sectors → Allows f s (sector_at (array_in (Some number) p) s)) → LastAll holds size made v w → AreShown p sectors (of_snap before number made)
  snap_each p sectors v w before number [] each all = tt
  snap_each p sectors v w before number (f ∷ made) each all = elim (cases_Bool (is_same f.array (Some before))) [
    | inl mine ↦ rw mine (each f (same_some f.array before mine) all.0, snap_each p sectors v w before number made each all.1)
    | inr other ↦ rw other (snap_each p sectors v w before number made each all.1)
  ]

  module _ (old new : Volumed B) (made : List Flushed) (loses : LosesNothing holds size made old new) where
    -- what a stop between them may leave of the origin, and of a store
    abbrev origin_left : List ℕ → Type 0
    origin_left o = MayLeave (Within (holds old.origin) (holds new.origin)) (size old.origin) o

    abbrev store_left : B → B → List ℕ → Type 0
    store_left d e c = MayLeave (Within (holds d) (holds e)) (size d) c

    -- the origin's disk alone, where no merge is left to do
    on_disk : (f : Flushed) (merge after : Option (Merging B)) → ((g : Merging B) → merge ≡ Some g → is_finished_of g ≡ true) → LastsOrigin holds size f old.origin new.origin merge after → ShowsDisk (Within (holds old.origin) (holds new.origin)) (size old.origin) f
    on_disk f None after done lasts = lasts
    on_disk f (Some g) None done lasts = absurd lasts
    on_disk f (Some g) (Some h) done lasts = lasts.1 (done g refl)

    origin_is : (f : Flushed) (p : Plain) (array : List ℕ) (s : ℕ) → f.array ≡ None → p.origin ≡ array → sector_at array s ≡ sector_at (array_in f.array p) s
    origin_is f p array s none is = ap (λ b. sector_at b s) (sym is) ∙ ap (λ a. sector_at (array_in a p) s) (sym none)

    as_origin : (f : Flushed) → f.array ≡ None → LastsArray holds size f f.array old new → LastsOrigin holds size f old.origin new.origin old.merge new.merge
    as_origin f none lasts = subst (λ a. LastsArray holds size f a old new) none lasts

    carried_origin : ((g : Merging B) → old.merge ≡ Some g → is_finished_of g ≡ true) → (o : List ℕ) → origin_left o
        → (next : Volumed N) → IsOpenedOver next_holds m layers failed o next → AreShown (shown next) (size old.origin) (of_origin made)
    carried_origin done o left next again = origin_each (shown next) (size old.origin) old new made
        (λ f none lasts s lt. subst (Allows f s) (origin_is f (shown next) o s none (opened_over next_holds m layers failed o next again)) (on_disk f old.merge new.merge done (as_origin f none lasts) o left s lt)) loses.lasts

    carried_snap : (place : ℕ) (s t : Kept B) → IsAt place s old → IsAt place t new → s.live ≡ true → (o c : List ℕ) → origin_left o → store_left s.device t.device c
        → (number : ℕ) (next : Volumed N) → IsLoadedFrom next_holds m layers failed o c number next → AreShown (shown next) (size old.origin) (of_snap s.number number made)
    carried_snap place s t at after live o c lo lc number next again =
        let array : array_in (Some number) (shown next) ≡ picture s.state.chunk o c = ap bytes_of (loaded_from next_holds m layers failed s.state.chunk o c number next (loses.loads.snaps place s t at after live c lc).header again) in
        snap_each (shown next) (size old.origin) old new s.number number made
        (λ f mine lasts n lt. subst (Allows f n) (ap (λ b. sector_at b n) (sym array)) ((subst (λ a. LastsArray holds size f a old new) mine lasts) place s t at after refl live o c lo lc n lt)) loses.lasts

    carried_merging : (g h : Merging B) → old.merge ≡ Some g → new.merge ≡ Some h → (o c : List ℕ) → origin_left o → store_left g.device h.device c
        → (next : Volumed N) → IsMergedFrom next_holds m layers failed o c next → AreShown (shown next) (size old.origin) (of_origin made)
    carried_merging g h is after o c lo lc next again =
        let loads : LoadsMerging holds size old.origin (Some g) (Some h) = subst (λ x. LoadsMerging holds size old.origin x (Some h)) is (subst (λ x. LoadsMerging holds size old.origin old.merge x) after loses.loads.merge) in
        let array : (shown next).origin ≡ picture g.state.chunk o c = merged_from next_holds m layers failed g.state.chunk o c next (loads c lc).header again in
        origin_each (shown next) (size old.origin) old new made
        (λ f none lasts s lt. (let over : LastsOrigin holds size f old.origin new.origin (Some g) (Some h) = subst (λ x. LastsOrigin holds size f old.origin new.origin x (Some h)) is (subst (λ x. LastsOrigin holds size f old.origin new.origin old.merge x) after (as_origin f none lasts)) in
        subst (Allows f s) (origin_is f (shown next) (picture g.state.chunk o c) s none array) (over.0 o c lo lc s lt))) loses.lasts

    -- what a session of any files shows then
    pub carries : Carries holds size next_holds m layers failed made old new
    carries = record { origin = carried_origin; snaps = carried_snap; merging = carried_merging }

pub carries_now : {B : Type 0} (holds : B → ℕ → List ℕ → Type 0) (m : Measures B) (layers : B → List Layer) (failed : B → Bool) (h : History) (v : Served B) → LosesNow holds m layers h v → CarriesNow holds m layers failed h v
carries_now holds m layers failed h v loses loud = carries holds m.size holds m layers failed v.volume v.volume h.made (loses loud)
