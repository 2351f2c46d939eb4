-- A volume whose files hold nothing but what is there: each array as it is shown is known to last.
use Rattle.std.proofs.Common.{◌≡◌, ◌⊎◌, inl, inr, ℕ, ◌*◌, ◌<◌, Bool, true, List, [], ◌∷◌, ◌++◌, length, map, get_or, Option, Some, None, refl, sym, ◌∙◌, ap, subst}
use Rattle.std.specs.Prelude.{◌&&◌}
use Rattle.std.specs.List.{list_all}
use Rattle.std.proofs.lemmas.List.Elements.{All-get_or}
use Rattle.sector.specs.Bytes.{sector_at}
use Rattle.device.specs.Layers.{Layer, is_loud}
use Rattle.cow_format.specs.Picture.{picture}
use Rattle.crash_laws.specs.Firm.{IsFirm}
use Rattle.volume.specs.Closing.{ClosesAll}
use Rattle.cache_loss_laws.proofs.Closing.{firm_same}
use Rattle.plain_machine.specs.Plain.{Entry, Plain}
use Rattle.in_flight.specs.Kinds.{in_flight}
use Rattle.snapshot.specs.Kept.{Kept}
use Rattle.merge.specs.Merging.{Merging}
use Rattle.volume.specs.AddedUp.{GivesAsked, IsOpenIn, IsSomeOf}
use Rattle.volume.specs.Causes.{IsAt}
use Rattle.volume.specs.Layering.{Measures}
use Rattle.volume.specs.Volumed.{Volumed, is_loud_in_all, is_loud_with, plain_of}
use Rattle.volume.proofs.MergeLasts.{kept_merge}
use Rattle.volume.proofs.Shown.{and_right}
use Rattle.volume_lifetime.specs.Flushed.{Allows, Flushed, History, array_in}
use Rattle.volume_lifetime.proofs.Closes.{disk_closed, merging_closed, origin_loud, out_closed, snap_answered}
use Rattle.volume_lifetime.proofs.Histories.{EachOf, Holds, Known}
use Rattle.volume_nbd.specs.Looked.{IsLookedAt}
use Rattle.served_session_laws.specs.Carrying.{AreShown}
use Rattle.served_session_laws.specs.Sessions.{AreFirm, IsOpened, as_shown, known_first, known_with, opened}
use Rattle.served_session_laws.proofs.Calls.{IsKnown}

-- a fact of each, of maps
each_of : {X Y : Type 0} (P : Y → Type 0) (f : X → Y) (xs : List X) → ((x : X) → P (f x)) → EachOf P (map f xs)
each_of P f [] all = tt
each_of P f (x ∷ xs) all = (all x, each_of P f xs all)

each_both : {X : Type 0} (P : X → Type 0) (xs ys : List X) → EachOf P xs → EachOf P ys → EachOf P (xs ++ ys)
each_both P [] ys these those = those
each_both P (x ∷ xs) ys these those = (these.0, each_both P xs ys these.1 those)

module _ {B : Type 0} (holds : B → ℕ → List ℕ → Type 0) (m : Measures B) (layers : B → List Layer) (failed : B → Bool) (whole : (d : B) → length (m.contents d) ≡ 512 * m.size d) (here : (d : B) (s : ℕ) → s < m.size d → holds d s (sector_at (m.contents d) s)) (v : Volumed B)
    (looked : IsLookedAt holds m.contents layers m.size v) (firm : AreFirm holds m layers v) (idle : v.flights ≡ []) (carried : List Flushed) (are : AreShown (plain_of m.contents layers v) (m.size v.origin) carried) where
  abbrev plain : Plain
  plain = plain_of m.contents layers v

  none_given : (array : Option ℕ) (s : ℕ) (x : List ℕ) → IsSomeOf (GivesAsked array s x) (map in_flight v.flights) → ⊥
  none_given array s x one = subst (λ fs. IsSomeOf (GivesAsked array s x) (map in_flight fs)) idle one

  module _ (loud : is_loud_in_all layers v ≡ true) where
    firm_origin : IsFirm (holds v.origin) (m.contents v.origin) (m.size v.origin)
    firm_origin = firm.origin (origin_loud holds m layers whole here v loud)

    merging_loud : (g : Merging B) → v.merge ≡ Some g → is_loud (layers g.device) ≡ true
    merging_loud g is = (let others : Bool = is_loud (layers v.origin) && list_all (λ (s : Kept B). is_loud (layers s.device)) v.snaps in and_right others (is_loud (layers g.device)) (ap (λ (x : Option (Merging B)). is_loud_with layers x others) (sym is) ∙ loud))

    origin_shows : (s : ℕ) (x : List ℕ) → IsOpenIn holds m.size v None s x → Allows (as_shown plain None) s x
    origin_shows s x may = by v.merge refl
      where
        by : (y : Option (Merging B)) → v.merge ≡ y → Allows (as_shown plain None) s x
        by None is = disk_closed holds m layers whole here v is firm_origin (record { array = None; bytes = []; since = [] }) refl s x may
        by (Some g) is =
            let pos = (kept_merge m.contents layers m.size v g looked.kept.whole is).holds.text.some in
            elim (merging_closed holds m layers whole here v g is pos (firm.merging g is (merging_loud g is)) (record { array = None; bytes = []; since = [] }) refl s may.0) [
              | inl closed ↦ closed x may
              | inr out ↦ out_closed holds m layers whole here v g is pos firm_origin (record { array = None; bytes = []; since = [] }) refl s x out may
            ]

    closes : (n : ℕ) (k : ℕ) (s : Kept B) → k < length v.snaps → s ≡ get_or v.snaps k s → s.number ≡ n → is_loud (layers v.origin) ≡ true → is_loud (layers s.device) ≡ true → ClosesAll holds m.contents m.size s.state.chunk v.origin s.device
    closes n k s lt is mine lo ls i x within shows =
        let store : IsFirm (holds s.device) (m.contents s.device) (m.size s.device) = subst (λ (d : Kept B). is_loud (layers d.device) ≡ true → IsFirm (holds d.device) (m.contents d.device) (m.size d.device)) (sym is) (All-get_or (λ (d : Kept B). is_loud (layers d.device) ≡ true → IsFirm (holds d.device) (m.contents d.device) (m.size d.device)) v.snaps k s lt firm.stores) ls in
        shows.is ∙ ap (λ o. sector_at (picture s.state.chunk o shows.store) i) (firm_same (holds v.origin) (m.contents v.origin) shows.origin (m.size v.origin) (whole v.origin) firm_origin shows.origin_left)
        ∙ ap (λ c. sector_at (picture s.state.chunk (m.contents v.origin) c) i) (firm_same (holds s.device) (m.contents s.device) shows.store (m.size s.device) (whole s.device) store shows.store_left)

    snap_shows : (n : ℕ) (s : ℕ) (x : List ℕ) → IsOpenIn holds m.size v (Some n) s x → Allows (as_shown plain (Some n)) s x
    snap_shows n s x may = snap_answered holds m layers whole here v loud looked.kept.whole.numbers.ascending n (record { array = Some n; bytes = []; since = [] }) refl (closes n) s x may

    origin_held : Holds holds m layers v (as_shown plain None)
    origin_held = record { shows = origin_shows; asked = λ s x gives. absurd (none_given None s x gives) }

    snap_held : (n : ℕ) → Holds holds m layers v (as_shown plain (Some n))
    snap_held n = record { shows = snap_shows n; asked = λ s x gives. absurd (none_given (Some n) s x gives) }

    -- what is carried over: each array shows just what it is
    just_that : (a : Option ℕ) (s : ℕ) (x : List ℕ) → Allows (as_shown plain a) s x → x ≡ sector_at (array_in a plain) s
    just_that a s x (inl (inl is)) = is
    just_that a s x (inl (inr none)) = absurd none
    just_that a s x (inr none) = absurd none

    shows_array : (a : Option ℕ) (s : ℕ) (x : List ℕ) → IsOpenIn holds m.size v a s x → (s < m.size v.origin) × (x ≡ sector_at (array_in a plain) s)
    shows_array None s x may = (may.0, just_that None s x (origin_shows s x may))
    shows_array (Some n) s x may = (may.0, just_that (Some n) s x (snap_shows n s x may))

    carried_held : (f : Flushed) → ((s : ℕ) → s < m.size v.origin → Allows f s (sector_at (array_in f.array plain) s)) → Holds holds m layers v f
    carried_held f shown = record {
      shows = λ s x may. (let is = shows_array f.array s x may in subst (Allows f s) (sym is.1) (shown s is.0));
      asked = λ s x gives. absurd (none_given f.array s x gives);
    }

    all_carried : (some : List Flushed) → AreShown plain (m.size v.origin) some → EachOf (Holds holds m layers v) some
    all_carried [] shown = tt
    all_carried (f ∷ some) shown = (carried_held f shown.0, all_carried some shown.1)

    known : Known holds m layers v (opened carried plain)
    known = record {
      made = (
        origin_held,
        each_both (Holds holds m layers v) (map (λ (e : Entry). as_shown plain (Some e.number)) plain.saved) carried (each_of (Holds holds m layers v) (λ (e : Entry). as_shown plain (Some e.number)) plain.saved (λ e. snap_held e.number)) (all_carried carried are),
      );
      asked = tt;
    }

  pub opened_known : IsKnown holds m layers failed whole here v (opened carried plain)
  opened_known = record { looked = looked; known = known }

-- and nothing of one without a snapshot
module _ {B : Type 0} (holds : B → ℕ → List ℕ → Type 0) (m : Measures B) (layers : B → List Layer) (failed : B → Bool) (whole : (d : B) → length (m.contents d) ≡ 512 * m.size d) (here : (d : B) (s : ℕ) → s < m.size d → holds d s (sector_at (m.contents d) s)) (v : Volumed B) where
  none_known : IsLookedAt holds m.contents layers m.size v → IsKnown holds m layers failed whole here v (record { made = []; asked = [] })
  none_known looked = record { looked = looked; known = λ loud. record { made = tt; asked = tt } }

  with_firm : (snaps : List (Kept B)) (merge : Option (Merging B)) (h : History) → IsKnown holds m layers failed whole here v h → IsLookedAt holds m.contents layers m.size v → IsKnown holds m layers failed whole here v (known_with snaps merge h)
  with_firm [] None h is looked = none_known looked
  with_firm [] (Some g) h is looked = is
  with_firm (s ∷ snaps) merge h is looked = is

  pub first_known : (carried : List Flushed) → AreShown (plain_of m.contents layers v) (m.size v.origin) carried → IsLookedAt holds m.contents layers m.size v → IsOpened holds m layers v → IsKnown holds m layers failed whole here v (known_first m layers carried v)
  first_known carried are looked is = by is.firm
    where
      by : ((v.snaps ≡ []) × (v.merge ≡ None)) ⊎ AreFirm holds m layers v → IsKnown holds m layers failed whole here v (known_first m layers carried v)
      by (inl none) = subst (λ (snaps : List (Kept B)). IsKnown holds m layers failed whole here v (known_with snaps v.merge (opened carried (plain_of m.contents layers v)))) (sym none.0)
          (subst (λ (merge : Option (Merging B)). IsKnown holds m layers failed whole here v (known_with [] merge (opened carried (plain_of m.contents layers v)))) (sym none.1) (none_known looked))
      by (inr firm) = with_firm v.snaps v.merge (opened carried (plain_of m.contents layers v)) (opened_known holds m layers failed whole here v looked firm is.idle carried are) looked
