-- An attach over an empty store leaves a header and an empty area.
use Rattle.std.proofs.Common.{◌≡◌, inl, inr, ℕ, ◌∙◌, sym, ap, refl, subst, true, false, List, [], ◌∷◌, ◌++◌}
use Rattle.std.specs.Prelude.{Option, Some, None, Result, Ok, Err, nat_lt, ◌&&◌, Bool, length, map, slice_index_or}
use Rattle.std.proofs.lemmas.Bool.{cases_Bool, cond-true, cond-false}
use Rattle.sector.specs.Bytes.{sector_at}
use Rattle.sector.specs.declared.refusal.Refusal.{Refusal}
use Rattle.chunk.specs.Sizes.{is_chunk}
use Rattle.cow_header.specs.HeaderText.{found_in}
use Rattle.cow_header.specs.declared.found.Found.{Found}
use Rattle.cow_header.specs.declared.found.Found.TheVariants.{Fresh, Header}
use Rattle.plain_machine.specs.declared.request.Overflowing.{Overflowing}
use Rattle.plain_machine.specs.Plain.{overflow_of}
use Rattle.device.specs.Layers.{Layer, is_loud}
use Rattle.whole_commands.specs.Devices.{Device}
use Rattle.whole_commands.specs.Snaps.{Snap, Volume}
use Rattle.whole_commands.specs.Loads.{made}
use Rattle.whole_commands.specs.Attaching.{Tried, Store, Attached, open_store, attached, with_tried, taken_by, refused_attach}
use Rattle.whole_commands.proofs.Tried.{TakenAs, IsTakenAs, open_taken}
use Rattle.crash_laws.specs.Firm.{IsFirm}
use Rattle.event_machine.specs.Held.{SnapHeld}
use Rattle.snapshot.specs.declared.opening.StoreDev.{StoreDev}
use Rattle.snapshot.specs.Kept.{Kept}
use Rattle.volume.specs.Volumed.{Volumed, is_loud_in_all}
use Rattle.volume.specs.Moved.{held_of}
use Rattle.volume.specs.Layering.{Measures}
use Rattle.volume.specs.Attached.{store_of, volume_in}
use Rattle.volume.specs.DoesAttach.{DoesAttach}
use Rattle.volume.proofs.AttachedAs.{snap_of}
use Rattle.volume_opening.specs.Taken.{IsOver}

-- what an attach over an empty store is to leave
module _ (chunk number : ℕ) (overflow : Overflowing) (bytes : List ℕ) where
  abbrev IsMade : ℕ → List ℕ → Type 0
  IsMade own after = after ≡ made chunk bytes

  -- the volume, without snapshots before, has one over these bytes
  abbrev pub HasMade : Attached → Type 0
  HasMade a = a.refused ≡ None → (snap : Snap) → a.volume.snaps ≡ snap ∷ [] → snap.store.bytes ≡ made chunk bytes

  refused_made : (refusal : Refusal) (store : Store) (v : Volume) → HasMade (refused_attach refusal store v)
  refused_made refusal store v none = absurd (cc)

  head_same : (x y : Snap) → (let xs : List Snap = x ∷ [] in xs) ≡ y ∷ [] → x ≡ y
  head_same x y e = cc

  tried_made : (device : Device) (outcome : Result ℕ Refusal) (v : Volume) → v.snaps ≡ [] → TakenAs IsMade outcome device → HasMade (taken_by number overflow device outcome v)
  tried_made device (Err refusal) v none taken = refused_made refusal (record { device = device; stale = false }) v
  tried_made device (Ok own) v none taken = λ well snap is.
      let one : Snap = record { number = number; chunk = own; live = true; overflow = overflow; stale = false; store = device } in
      let same : one ≡ snap = head_same one snap (ap (λ (ss : List Snap). ss ++ one ∷ []) (sym none) ∙ is) in
      ap (λ (s : Snap). s.store.bytes) (sym same) ∙ taken

  fresh_taken : (origin device : Device) → device.bytes ≡ bytes → found_in (sector_at bytes 0) ≡ Ok Fresh → IsTakenAs IsMade (open_store chunk origin device)
  fresh_taken origin device same fresh =
      open_taken IsMade bytes chunk origin device same (λ is large. refl) (λ own is loadable. absurd (not_both own (sym fresh ∙ is)))
    where
      not_both : (own : ℕ) → (let a : Result Found Refusal = Ok Fresh in a) ≡ Ok (Header own) → ⊥
      not_both own e = cc

  pub attached_made : (store : Store) (v : Volume) → v.snaps ≡ [] → store.device.bytes ≡ bytes → found_in (sector_at bytes 0) ≡ Ok Fresh → HasMade (attached number chunk overflow store v)
  unfolding attached
  attached_made store v none same fresh = elim (cases_Bool store.stale) [
    | inl stale ↦ subst HasMade (sym (cond-true _ _ _ stale)) (refused_made _ store v)
    | inr not_stale ↦ subst HasMade (sym (cond-false _ _ _ not_stale)) (elim (cases_Bool (nat_lt (length v.snaps) 8 && nat_lt number 4_294_967_296)) [
      | inr many ↦ subst HasMade (sym (cond-false _ _ _ many)) (refused_made _ store v)
      | inl few ↦ subst HasMade (sym (cond-true _ _ _ few)) (elim (cases_Bool (is_chunk chunk)) [
        | inr bad ↦ subst HasMade (sym (cond-false _ _ _ bad)) (refused_made _ store v)
        | inl allowed ↦ subst HasMade (sym (cond-true _ _ _ allowed))
            (let tried : Tried = open_store chunk v.origin store.device in
            tried_made tried.device tried.outcome (record { origin = tried.origin; snaps = v.snaps }) none (fresh_taken v.origin store.device same fresh))
      ])
    ])
  ]

-- a volume over an origin alone
abbrev pub bare : {B : Type 0} → B → Volumed B
bare o = record { origin = o; snaps = []; merge = None; flights = []; requests = 0; copies = 0; attached = 0 }

both_of : (a b : Bool) → ((a && true) && b) ≡ true → (a ≡ true) × (b ≡ true)
both_of true true is = (refl, refl)
both_of true false is = absurd (let no : ⊥ = cc in no)
both_of false b is = absurd (let no : ⊥ = cc in no)

and_true : (a : Bool) → a ≡ true → (a && true) ≡ true
and_true true is = refl
and_true false is = is

module _ {B : Type 0} (holds : B → ℕ → List ℕ → Type 0) (m : Measures B) (layers : B → List Layer) (store : StoreDev B) (chunk number : ℕ) (o : B) (new : Volumed B) (does : DoesAttach holds m layers store chunk false (Ok number) (bare o) new) where
  louds : is_loud_in_all layers new ≡ true → (is_loud (layers o) ≡ true) × (is_loud (layers store.device) ≡ true)
  louds is = both_of (is_loud (layers o)) (is_loud (layers store.device)) (sym does.loud ∙ is)

  store_made : is_loud_in_all layers new ≡ true → found_in (sector_at (m.contents store.device) 0) ≡ Ok Fresh → (s : Kept B) → new.snaps ≡ s ∷ [] → m.contents s.device ≡ made chunk (m.contents store.device)
  store_made is fresh s eq =
      let both = louds is in
      let exact = (does.exact (and_true (is_loud (layers o)) both.0) both.1).exact in
      let has : HasMade chunk number (overflow_of false) (m.contents store.device) (attached number chunk (overflow_of false) (store_of m.contents layers store) (volume_in m.contents layers (bare o))) =
      attached_made chunk number (overflow_of false) (m.contents store.device) (store_of m.contents layers store) (volume_in m.contents layers (bare o)) refl refl fresh in
      subst (HasMade chunk number (overflow_of false) (m.contents store.device)) exact has refl (snap_of m.contents layers s)
      (ap (λ (ss : List (Kept B)). map (λ (h : SnapHeld). h.snap) (map (held_of m.contents layers) ss)) eq)

  store_firm : is_loud_in_all layers new ≡ true → (s : Kept B) → new.snaps ≡ s ∷ [] → IsFirm (holds s.device) (m.contents s.device) (m.size s.device)
  store_firm is s eq = does.firm (louds is).1 s (ap (λ (ss : List (Kept B)). slice_index_or ss 0 s) (sym eq))

  pub attached_over : IsOver holds m.contents layers m.size chunk o store.device new
  attached_over =
      let gained = does.gained in
      record {
        one = (gained.snap, ap (λ (v : Volumed B). v.snaps) gained.becomes);
        alone = ap (λ (v : Volumed B). v.merge) gained.becomes;
        quiet = ap (λ (v : Volumed B). v.flights) gained.becomes;
        loud = louds;
        origin_is = gained.origin.contents_are;
        origin_lasts = λ is. does.origin_firm (louds is).0;
        store_is = store_made;
        store_lasts = store_firm;
      }

-- so where it was that volume
pub attached_from : {B : Type 0} (holds : B → ℕ → List ℕ → Type 0) (m : Measures B) (layers : B → List Layer) (store : StoreDev B) (chunk number : ℕ) (o : B) (old new : Volumed B) → old ≡ bare o → DoesAttach holds m layers store chunk false (Ok number) old new → IsOver holds m.contents layers m.size chunk o store.device new
attached_from {B} holds m layers store chunk number o old new is does =
    attached_over holds m layers store chunk number o new (subst (λ (v : Volumed B). DoesAttach holds m layers store chunk false (Ok number) v new) is does)
