-- A snapshot that is loaded, and one that is merged: a stop leaves nothing but what is there.
use Rattle.std.proofs.Common.{◌≡◌, ◌⊎◌, inl, inr, ℕ, ◌<◌, Bool, true, false, List, [], ◌∷◌, ◌++◌, length, map, get_or, remove, Option, Some, None, refl, sym, ◌∙◌, ap, subst, arith}
use Rattle.std.specs.Prelude.{◌&&◌, ◌==◌, nat_eq, not, if◌then◌else◌}
use Rattle.std.specs.List.{All}
use Rattle.std.proofs.lemmas.List.Elements.{All-get_or, All-map, All-push, All-weaker}
use Rattle.device.specs.Layers.{Layer, is_loud}
use Rattle.crash_laws.specs.Firm.{IsFirm}
use Rattle.volume_laws.proofs.Lists.{All-remove}
use Rattle.cow_header.specs.declared.found.Found.{Found}
use Rattle.snapshot.specs.Kept.{Kept}
use Rattle.snapshot_list.specs.Keeping.{kept_back, kept_for}
use Rattle.snapshot_list.proofs.Finds.{position_within}
use Rattle.merge.specs.Merging.{Merging}
use Rattle.volume.specs.Beginning.{IsMergeBegun, merging_from}
use Rattle.volume.specs.Layering.{Measures}
use Rattle.volume.specs.Volumed.{Volumed}
use Rattle.volume_opening.specs.Loaded.{IsLoaded}
use Rattle.served_session_laws.specs.Sessions.{AreFirm, IsOpened}

-- where a list's last element stands
last_is : {X : Type 0} (xs : List X) (x d : X) → get_or (xs ++ x ∷ []) (length xs) d ≡ x
last_is [] x d = refl
last_is (y ∷ xs) x d = last_is xs x d

module _ {B : Type 0} (holds : B → ℕ → List ℕ → Type 0) (m : Measures B) (layers : B → List Layer) (failed : B → Bool) where
  -- a store's device holds nothing but what is there, where it kept all
  abbrev pub FirmStore : Kept B → Type 0
  FirmStore s = is_loud (layers s.device) ≡ true → IsFirm (holds s.device) (m.contents s.device) (m.size s.device)

  module _ (chunk : ℕ) (overflow : Bool) (store : B) (number : ℕ) (found : Found) (v w : Volumed B) (opened : IsOpened holds m layers v) (loaded : IsLoaded holds m layers failed chunk overflow store number found v w) where
    abbrev snap : Kept B
    snap = loaded.attached.gained.snap

    snaps_are : w.snaps ≡ v.snaps ++ snap ∷ []
    snaps_are = ap (λ (x : Volumed B). x.snaps) loaded.attached.gained.becomes

    merge_is : w.merge ≡ v.merge
    merge_is = ap (λ (x : Volumed B). x.merge) loaded.attached.gained.becomes

    last : snap ≡ get_or w.snaps (length v.snaps) snap
    last = sym (ap (λ (xs : List (Kept B)). get_or xs (length v.snaps) snap) snaps_are ∙ last_is v.snaps snap snap)

    new_firm : FirmStore snap
    new_firm loud = loaded.attached.firm (sym loaded.attached.gained.loud ∙ loud) snap last

    old_stores : ((v.snaps ≡ []) × (v.merge ≡ None)) ⊎ AreFirm holds m layers v → All FirmStore v.snaps
    old_stores (inl none) = subst (All FirmStore) (sym none.0) (λ k d lt. absurd (omega (arith, lt)))
    old_stores (inr firm) = firm.stores

    old_merging : ((v.snaps ≡ []) × (v.merge ≡ None)) ⊎ AreFirm holds m layers v → (g : Merging B) → v.merge ≡ Some g → is_loud (layers g.device) ≡ true → IsFirm (holds g.device) (m.contents g.device) (m.size g.device)
    old_merging (inl none) g is = absurd (let no : None ≡ Some g = sym none.1 ∙ is in cc)
    old_merging (inr firm) g is = firm.merging g is

    pub loaded_opened : IsOpened holds m layers w
    loaded_opened = record {
      idle = ap (λ (x : Volumed B). x.flights) loaded.attached.gained.becomes ∙ opened.idle;
      firm = inr (record {
        origin = λ loud. loaded.attached.origin_firm (sym loaded.attached.gained.origin.loud_is ∙ loud);
        stores = subst (All FirmStore) (sym snaps_are) (All-push FirmStore v.snaps snap (old_stores opened.firm) new_firm);
        merging = λ g is. old_merging opened.firm g (sym merge_is ∙ is);
      });
    }

  module _ (number : ℕ) (v w : Volumed B) (opened : IsOpened holds m layers v) (begun : IsMergeBegun number v w) where
    kept_device : (n count chunk : ℕ) (s : Kept B) → (kept_for n count chunk s).device ≡ s.device
    kept_device n count chunk s = either (s.live && not (s.number == n)) _
      where
        either : (b : Bool) (k : ℕ) → (if b then kept_back k s else s).device ≡ s.device
        either true k = refl
        either false k = refl

    stays : (n count chunk : ℕ) (s : Kept B) → FirmStore s → FirmStore (kept_for n count chunk s)
    stays n count chunk s firm = subst (λ (d : B). is_loud (layers d) ≡ true → IsFirm (holds d) (m.contents d) (m.size d)) (sym (kept_device n count chunk s)) firm

    within : begun.place < length v.snaps
    within = position_within (λ (s : Kept B). nat_eq s.number number) v.snaps begun.place begun.found

    firm_then : AreFirm holds m layers v → AreFirm holds m layers w
    firm_then firm = record {
      origin = subst (λ (d : B). is_loud (layers d) ≡ true → IsFirm (holds d) (m.contents d) (m.size d)) (sym (ap (λ (x : Volumed B). x.origin) begun.becomes)) firm.origin;
      stores = subst (All FirmStore) (sym (ap (λ (x : Volumed B). x.snaps) begun.becomes)) (All-map FirmStore (kept_for number (length begun.snap.pairs) begun.snap.state.chunk) (remove v.snaps begun.place)
          (All-weaker FirmStore (λ (s : Kept B). FirmStore (kept_for number (length begun.snap.pairs) begun.snap.state.chunk s)) (stays number (length begun.snap.pairs) begun.snap.state.chunk) (remove v.snaps begun.place) (All-remove FirmStore v.snaps begun.place firm.stores)));
      merging = λ g is. (let same : merging_from begun.snap begun.buffer ≡ g = (let both : Some (merging_from begun.snap begun.buffer) ≡ Some g = sym (ap (λ (x : Volumed B). x.merge) begun.becomes) ∙ is in cc) in
          subst (λ (x : Merging B). is_loud (layers x.device) ≡ true → IsFirm (holds x.device) (m.contents x.device) (m.size x.device)) same (subst FirmStore (sym begun.is) (All-get_or FirmStore v.snaps begun.place begun.snap within firm.stores)));
    }

    pub begun_opened : IsOpened holds m layers w
    begun_opened = record { idle = ap (λ (x : Volumed B). x.flights) begun.becomes ∙ opened.idle; firm = by opened.firm }
      where
        by : ((v.snaps ≡ []) × (v.merge ≡ None)) ⊎ AreFirm holds m layers v → ((w.snaps ≡ []) × (w.merge ≡ None)) ⊎ AreFirm holds m layers w
        by (inl none) = absurd (let lt : begun.place < length {A = Kept B} [] = subst (λ (xs : List (Kept B)). begun.place < length xs) none.0 within in omega (arith, lt))
        by (inr firm) = inr (firm_then firm)
