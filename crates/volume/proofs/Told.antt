-- A message changes the layers of one device: a volume stays whole, its books and what callers see are the same, and the
-- event machine has other layers there.
use Rattle.std.proofs.Common.{◌≡◌, inl, inr, ℕ, zero, suc, ◌<◌, Bool, true, false, List, [], ◌∷◌, Option, Some, None, length, get_or, set, map, refl, sym, ◌∙◌, ap, subst, arith, ne_eqb, eq-eqb}
use Rattle.std.specs.Prelude.{◌&&◌, ◌==◌, Result, Ok, Err, IfOk, IfErr, OnOk, OnErr}
use Rattle.std.specs.List.{list_all, list_any}
use Rattle.std.proofs.lemmas.Bool.{cases_Bool, cases_eq, eqb-true, true≢false}
use Rattle.std.proofs.lemmas.List.{get_or-set_same, get_or-set_other, length-set, get_or_default}
use Rattle.device.specs.Layers.{Layer, is_loud}
use Rattle.layers.specs.declared.message.Answer.{Answer}
use Rattle.layers.specs.declared.message.Message.{Message}
use Rattle.layers.specs.Loudness.{loud_told}
use Rattle.layers.specs.Messages.{Told, Answered, Refused, NeedsRoom, answer_of, told}
use Rattle.plain_machine.specs.declared.request.Dev.{Dev}
use Rattle.plain_machine.specs.declared.request.Dev.TheVariants.{Origin, Snap}
use Rattle.plain_machine.specs.declared.request.Reply.{Reply}
use Rattle.sector.specs.declared.refusal.Refusal.{Refusal}
use Rattle.sector.specs.declared.refusal.Refusal.TheVariants.{NoSuchDevice}
use Rattle.event_machine.specs.Held.{SnapHeld, MergeHeld, Moving, on_device}
use Rattle.event_machine.specs.MergeRest.{merge_in, IsMergeResting, IsBetween}
use Rattle.event_machine.specs.MergeSeen.{held_in, merge_held_of}
use Rattle.whole_commands.specs.Moments.{snap_relayered}
use Rattle.event_machine.specs.Requests.{volume_of}
use Rattle.event_machine.specs.Rest.{IsResting, IsAtRest}
use Rattle.whole_commands.specs.Snaps.{Snap as SettledSnap, Volume}
use Rattle.whole_commands.proofs.Each.{Each, each_from, all_from}
use Rattle.volume_laws.specs.Whole.{plain_of as plain_books}
use Rattle.store.specs.Layering.{IsRelayered}
use Rattle.snapshot.specs.Kept.{Kept}
use Rattle.merge.specs.Merging.{Merging, due_of as merging_due}
use Rattle.volume.specs.Volumed.{Volumed, books_of, plain_of, is_loud_in_all, is_loud_with}
use Rattle.snapshot_list.specs.Finding.{place_of_snap}
use Rattle.volume.specs.Whole.{IsWhole, GoesOn}
use Rattle.volume.specs.Moved.{moving_of, held_of, merge_seen}
use Rattle.volume.specs.Layering.{Measures, held_relayered, merge_relayered}
use Rattle.volume.specs.Telling.{layers_left, layers_told, store_layers, merging_layers, layers_or, told_under, volume_told, merged_in, helds_relayered, numbered_relayered, dev_relayered, volume_relayered, IsRelayeredBy, IsOriginRelayered, IsNotMerging, IsSnapRelayered, IsMergeRelayered, IsRelayeredAt, IsTold, IsNotTold, IsRefusal, IsMergeMet, IsMergeTold, IsMergeNotTold}
use Rattle.volume.proofs.Accepts.{if_ok, if_err}
use Rattle.snapshot_list.proofs.Finds.{position_none}
use Rattle.volume.proofs.Keeping.{of_both}
use Rattle.volume.proofs.MovedLists.{IsFirst, first_position}
use Rattle.volume.proofs.Relayered.{IsAlike, IsSnapAlike, IsVolumeAlike, books_of_alike, whole_alike, IsMergeAlike, merge_same, merge_loud_alike}
use Rattle.volume.proofs.Shown.{shown}

-- tests of all that agree at each place
all_at : {A : Type 0} (test : A → Bool) (xs ys : List A) → length ys ≡ length xs → ((k : ℕ) (d : A) → k < length xs → test (get_or ys k d) ≡ test (get_or xs k d)) → list_all test ys ≡ list_all test xs
all_at test [] [] len each = refl
all_at test [] (y ∷ ys) len each = absurd (omega (arith, len))
all_at test (x ∷ xs) [] len each = absurd (omega (arith, len))
all_at test (x ∷ xs) (y ∷ ys) len each =
    ap (λ b. b && list_all test ys) (each 0 x (omega arith)) ∙ ap (λ b. test x && b) (all_at test xs ys (omega (arith, len)) (λ k d lt. each (suc k) d (omega (arith, lt))))

-- what callers see
module _ {B : Type 0} (contents : B → List ℕ) (layers : B → List Layer) (size : B → ℕ) (v w : Volumed B) (h : IsVolumeAlike contents layers size v w) where
  pub plain_alike : plain_of contents layers w ≡ plain_of contents layers v
  plain_alike = shown contents layers size w ∙ ap plain_books (books_of_alike contents layers size v w h) ∙ sym (shown contents layers size v)

  pub loud_alike : is_loud_in_all layers w ≡ is_loud_in_all layers v
  loud_alike =
      merge_loud_alike contents layers size (is_loud (layers w.origin) && list_all (λ (s : Kept B). is_loud (layers s.device)) w.snaps) v.merge w.merge h.merge
      ∙ ap (λ b. is_loud_with layers v.merge (b && list_all (λ (s : Kept B). is_loud (layers s.device)) w.snaps)) h.origin.loud
      ∙ ap (λ b. is_loud_with layers v.merge (is_loud (layers v.origin) && b))
      (all_at (λ (s : Kept B). is_loud (layers s.device)) v.snaps w.snaps h.count (λ k d lt. ap (λ (x : Kept B). is_loud (layers x.device)) (h.snaps k d lt).same ∙ (h.snaps k d lt).store.loud))

-- a message leaves as many layers that drop writes
told_as_loud : (ls : List Layer) (depth : ℕ) (m : Message) (t : Told (List Layer)) → told ls depth m ≡ t → is_loud (layers_left ls t) ≡ is_loud ls
told_as_loud ls depth m (Refused r) is = refl
told_as_loud ls depth m (Answered a ns) is = loud_told ls depth m a ns is

pub loud_layers_told : (depth : ℕ) (m : Message) (ls : List Layer) → is_loud (layers_told depth m ls) ≡ is_loud ls
loud_layers_told depth m ls = told_as_loud ls depth m (told ls depth m) refl

-- an answer's layers
pub answered_layers : (ls ns : List Layer) (depth : ℕ) (m : Message) (a : Answer) → told ls depth m ≡ Answered a ns → ns ≡ layers_told depth m ls
answered_layers ls ns depth m a is = sym (ap (layers_left ls) is)

module _ {B : Type 0} (m : Measures B) (layers : B → List Layer) (f : List Layer → List Layer) (loud : (ls : List Layer) → is_loud (f ls) ≡ is_loud ls) where
  device_alike : (old new : B) → IsRelayeredBy m layers f old new → IsAlike m.contents layers m.size old new
  device_alike old new h = record { bytes = h.rest.contents_are; sectors = h.rest.size_is; loud = ap is_loud h.layers_are ∙ loud (layers old) }

  same_device : (d : B) → IsAlike m.contents layers m.size d d
  same_device d = record { bytes = refl; sectors = refl; loud = refl }

  same_snap : (s : Kept B) → IsSnapAlike m.contents layers m.size s s
  same_snap s = record { store = same_device s.device; same = refl }

  pub origin_alike : (v w : Volumed B) → IsOriginRelayered m layers f v w → IsVolumeAlike m.contents layers m.size v w
  origin_alike v w h =
      let snaps : w.snaps ≡ v.snaps = ap (λ (x : Volumed B). x.snaps) h.becomes in
      let merge : w.merge ≡ v.merge = ap (λ (x : Volumed B). x.merge) h.becomes in
      record {
        origin = device_alike v.origin w.origin h.device;
        count = ap length snaps;
        snaps = λ k d lt. subst (λ (xs : List (Kept B)). IsSnapAlike m.contents layers m.size (get_or v.snaps k d) (get_or xs k d)) (sym snaps) (same_snap (get_or v.snaps k d));
        merge = subst (IsMergeAlike m.contents layers m.size v.merge) (sym merge) (merge_same m.contents layers m.size v.merge);
        becomes = h.becomes ∙ ap (λ (xs : List (Kept B)). (let x : Volumed B = record v { origin = w.origin; snaps = xs } in x)) (sym snaps)
            ∙ ap (λ y. (let x : Volumed B = record v { origin = w.origin; snaps = w.snaps; merge = y } in x)) (sym merge);
      }

  snaps_alike : (xs : List (Kept B)) (k : ℕ) (s t : Kept B) → s ≡ get_or xs k s → IsSnapAlike m.contents layers m.size s t → (j : ℕ) (d : Kept B) → j < length xs → IsSnapAlike m.contents layers m.size (get_or xs j d) (get_or (set xs k t) j d)
  snaps_alike xs k s t is h j d lt = elim (cases_eq j k) [
    | inl same ↦
        (let within : k < length xs = omega (arith, lt, same) in
        let was : get_or xs j d ≡ s = ap (λ i. get_or xs i d) same ∙ get_or_default xs k d s within ∙ sym is in
        let now : get_or (set xs k t) j d ≡ t = ap (λ i. get_or (set xs k t) i d) same ∙ get_or-set_same xs k t d within in
        subst (λ (x : Kept B). IsSnapAlike m.contents layers m.size x (get_or (set xs k t) j d)) (sym was) (subst (IsSnapAlike m.contents layers m.size s) (sym now) h))
    | inr other ↦ subst (IsSnapAlike m.contents layers m.size (get_or xs j d)) (sym (get_or-set_other xs k j t d other)) (same_snap (get_or xs j d))
  ]

  pub snap_alike : (number : ℕ) (v w : Volumed B) → IsSnapRelayered m layers number f v w → IsVolumeAlike m.contents layers m.size v w
  snap_alike number v w h =
      let t : Kept B = record h.snap { device = h.device } in
      let snaps : w.snaps ≡ set v.snaps h.place t = ap (λ (x : Volumed B). x.snaps) h.becomes in
      let origin : w.origin ≡ v.origin = ap (λ (x : Volumed B). x.origin) h.becomes in
      let merge : w.merge ≡ v.merge = ap (λ (x : Volumed B). x.merge) h.becomes in
      let one : IsSnapAlike m.contents layers m.size h.snap t = record { store = device_alike h.snap.device h.device h.relayered_is; same = refl } in
      record {
        origin = subst (IsAlike m.contents layers m.size v.origin) (sym origin) (same_device v.origin);
        count = ap length snaps ∙ length-set v.snaps h.place t;
        merge = subst (IsMergeAlike m.contents layers m.size v.merge) (sym merge) (merge_same m.contents layers m.size v.merge);
        snaps = λ k d lt. subst (λ (xs : List (Kept B)). IsSnapAlike m.contents layers m.size (get_or v.snaps k d) (get_or xs k d)) (sym snaps) (snaps_alike v.snaps h.place h.snap t h.is one k d lt);
        becomes = h.becomes ∙ ap (λ (x : B). (let y : Volumed B = record v { origin = x; snaps = set v.snaps h.place t } in y)) (sym origin)
            ∙ ap (λ (xs : List (Kept B)). (let y : Volumed B = record v { origin = w.origin; snaps = xs } in y)) (sym snaps)
            ∙ ap (λ z. (let y : Volumed B = record v { origin = w.origin; snaps = w.snaps; merge = z } in y)) (sym merge);
      }

  pub merge_alike : (number : ℕ) (v w : Volumed B) → IsMergeRelayered m layers number f v w → IsVolumeAlike m.contents layers m.size v w
  merge_alike number v w h =
      let g : Merging B = record h.merge { device = h.device } in
      let snaps : w.snaps ≡ v.snaps = ap (λ (x : Volumed B). x.snaps) h.becomes in
      let origin : w.origin ≡ v.origin = ap (λ (x : Volumed B). x.origin) h.becomes in
      let merge : w.merge ≡ Some g = ap (λ (x : Volumed B). x.merge) h.becomes in
      let one : IsMergeAlike m.contents layers m.size (Some h.merge) (Some g) = (device_alike h.merge.device h.device h.relayered_is, refl) in
      record {
        origin = subst (IsAlike m.contents layers m.size v.origin) (sym origin) (same_device v.origin);
        count = ap length snaps;
        snaps = λ k d lt. subst (λ (xs : List (Kept B)). IsSnapAlike m.contents layers m.size (get_or v.snaps k d) (get_or xs k d)) (sym snaps) (same_snap (get_or v.snaps k d));
        merge = subst (λ (x : Option (Merging B)). IsMergeAlike m.contents layers m.size x w.merge) (sym h.is) (subst (IsMergeAlike m.contents layers m.size (Some h.merge)) (sym merge) one);
        becomes = h.becomes ∙ ap (λ (x : B). (let y : Volumed B = record v { origin = x; merge = Some g } in y)) (sym origin)
            ∙ ap (λ (xs : List (Kept B)). (let y : Volumed B = record v { origin = w.origin; snaps = xs; merge = Some g } in y)) (sym snaps)
            ∙ ap (λ z. (let y : Volumed B = record v { origin = w.origin; snaps = w.snaps; merge = z } in y)) (sym merge);
      }

  pub at_alike : (dev : Dev) (v w : Volumed B) → IsRelayeredAt m layers dev f v w → IsVolumeAlike m.contents layers m.size v w
  at_alike Origin v w h = origin_alike v w h
  at_alike (Snap number) v w (inl h) = snap_alike number v w h
  at_alike (Snap number) v w (inr h) = merge_alike number v w h

-- the first snapshot that has a number, in a longer list
pub later_first : {B : Type 0} (number k : ℕ) (s y : Kept B) (ys : List (Kept B)) → IsFirst (λ (x : Kept B). x.number == number) (suc k) s (y ∷ ys) → IsFirst (λ (x : Kept B). x.number == number) k s ys
later_first number k s y ys h = record { within = omega (arith, h.within); is = h.is; passes = h.passes; before = λ i d lt. h.before (suc i) d (omega (arith, lt)) }

-- the event machine
module _ {B : Type 0} (m : Measures B) (layers : B → List Layer) (f : List Layer → List Layer) where
  held_by : (s : Kept B) (d : B) → IsRelayeredBy m layers f s.device d → held_of m.contents layers (record s { device = d }) ≡ held_relayered f (held_of m.contents layers s)
  held_by s d h =
      let mk : List ℕ → List Layer → SnapHeld = λ bytes ls. (let o : SnapHeld = held_of m.contents layers s in record o { snap = record o.snap { store = record { bytes = bytes; layers = ls } } }) in
      ap (λ b. mk b (layers d)) h.rest.contents_are ∙ ap (mk (m.contents s.device)) h.layers_are

  helds_at : (number k : ℕ) (s t : Kept B) (xs : List (Kept B)) → IsFirst (λ (x : Kept B). x.number == number) k s xs → held_of m.contents layers t ≡ held_relayered f (held_of m.contents layers s)
      → map (held_of m.contents layers) (set xs k t) ≡ helds_relayered number f (map (held_of m.contents layers) xs)
  helds_at number k s t [] first same = absurd (omega (arith, first.within))
  helds_at number zero s t (y ∷ ys) first same =
      rw (subst (λ (x : Kept B). (x.number == number) ≡ true) first.is first.passes)
      (ap (λ z. z ∷ map (held_of m.contents layers) ys) (same ∙ ap (λ (x : Kept B). held_relayered f (held_of m.contents layers x)) first.is))
  helds_at number (suc k) s t (y ∷ ys) first same =
      rw (first.before 0 y (omega arith)) (ap (λ zs. held_of m.contents layers y ∷ zs) (helds_at number k s t ys (later_first number k s y ys first) same))

  -- another snapshot's, and none
  others_stay : (number : ℕ) (xs : List (Kept B)) → list_any (λ (x : Kept B). x.number == number) xs ≡ false → helds_relayered number f (map (held_of m.contents layers) xs) ≡ map (held_of m.contents layers) xs
  others_stay number [] none = refl
  others_stay number (x ∷ xs) none = elim (cases_Bool (x.number == number)) [
    | inl here ↦ (let h : true ≡ false = rw here at none in absurd (true≢false h))
    | inr other ↦ (let rest : list_any (λ (y : Kept B). y.number == number) xs ≡ false = rw other at none in rw other (ap (λ (hs : List SnapHeld). held_of m.contents layers x ∷ hs) (others_stay number xs rest)))
  ]

  merge_stays : (number : ℕ) (g : Option (Merging B)) → IsNotMerging number g → numbered_relayered number f (held_in (merge_seen m.contents layers g)) ≡ held_in (merge_seen m.contents layers g)
  merge_stays number None other = refl
  merge_stays number (Some g) other = rw (ne_eqb g.number number (other g refl)) refl

  merge_turns : (number : ℕ) (g : Merging B) (d : B) → g.number ≡ number → IsRelayeredBy m layers f g.device d
      → held_in (merge_seen m.contents layers (Some (record g { device = d }))) ≡ numbered_relayered number f (held_in (merge_seen m.contents layers (Some g)))
  merge_turns number g d mine h =
      let o : MergeHeld = merge_held_of (record { due = merging_due m.contents true g; layers = layers g.device; next = g.next }) in
      let mk : List ℕ → List Layer → Option MergeHeld = λ bytes ls. Some (on_device o (record { bytes = bytes; layers = ls })) in
      let turned : held_in (merge_seen m.contents layers (Some (record g { device = d }))) ≡ Some (merge_relayered f o) =
      ap (λ b. mk b (layers d)) h.rest.contents_are ∙ ap (mk (m.contents g.device)) h.layers_are in
      rw (eq-eqb g.number number mine) turned

  snap_moving : (number : ℕ) (replied : Option Reply) (v w : Volumed B) → IsSnapRelayered m layers number f v w → moving_of m.contents layers replied w ≡ dev_relayered (Snap number) f (moving_of m.contents layers replied v)
  snap_moving number replied v w h =
      let o : Moving = moving_of m.contents layers replied v in
      let mk : List SnapHeld → Option MergeHeld → Moving = λ hs g. record o { snaps = hs; merge = g } in
      ap (moving_of m.contents layers replied) h.becomes
      ∙ ap (λ hs. mk hs o.merge) (helds_at number h.place h.snap (record h.snap { device = h.device }) v.snaps (first_position (λ (x : Kept B). x.number == number) h.place h.snap v.snaps h.is h.found) (held_by h.snap h.device h.relayered_is))
      ∙ ap (mk (helds_relayered number f o.snaps)) (sym (merge_stays number v.merge h.other))

  merge_moving : (number : ℕ) (replied : Option Reply) (v w : Volumed B) → IsMergeRelayered m layers number f v w → moving_of m.contents layers replied w ≡ dev_relayered (Snap number) f (moving_of m.contents layers replied v)
  merge_moving number replied v w h =
      let o : Moving = moving_of m.contents layers replied v in
      let mk : List SnapHeld → Option MergeHeld → Moving = λ hs g. record o { snaps = hs; merge = g } in
      let turned : held_in (merge_seen m.contents layers (Some (record h.merge { device = h.device }))) ≡ numbered_relayered number f o.merge =
      merge_turns number h.merge h.device h.mine h.relayered_is ∙ ap (λ (g : Option (Merging B)). numbered_relayered number f (held_in (merge_seen m.contents layers g))) (sym h.is) in
      ap (moving_of m.contents layers replied) h.becomes
      ∙ ap (mk o.snaps) turned
      ∙ ap (λ hs. mk hs (numbered_relayered number f o.merge)) (sym (others_stay number v.snaps (position_none (λ (x : Kept B). x.number == number) v.snaps h.none)))

  pub at_moving : (dev : Dev) (replied : Option Reply) (v w : Volumed B) → IsRelayeredAt m layers dev f v w → moving_of m.contents layers replied w ≡ dev_relayered dev f (moving_of m.contents layers replied v)
  at_moving Origin replied v w h =
      let o : Moving = moving_of m.contents layers replied v in
      let mk : List ℕ → List Layer → Moving = λ bytes ls. record o { origin = record { bytes = bytes; layers = ls } } in
      ap (moving_of m.contents layers replied) h.becomes ∙ ap (λ b. mk b (layers w.origin)) h.device.rest.contents_are ∙ ap (mk (m.contents v.origin)) h.device.layers_are
  at_moving (Snap number) replied v w (inl h) = snap_moving number replied v w h
  at_moving (Snap number) replied v w (inr h) = merge_moving number replied v w h

  -- a snapshot that is there has the store that was told
  pub relayered_there : (number k : ℕ) (v w : Volumed B) → place_of_snap number v.snaps ≡ Some k → IsRelayeredAt m layers (Snap number) f v w → IsSnapRelayered m layers number f v w
  relayered_there number k v w found (inl h) = h
  relayered_there number k v w found (inr h) = (let two : Some k ≡ None = sym found ∙ h.none in absurd (cc))

-- the same layers again
helds_again : (number : ℕ) (hs : List SnapHeld) → helds_relayered number (λ ls. ls) hs ≡ hs
helds_again number [] = refl
helds_again number (h ∷ hs) = elim (cases_Bool (h.snap.number == number)) [
  | inl here ↦ rw here refl
  | inr other ↦ rw other (ap (λ zs. h ∷ zs) (helds_again number hs))
]

numbered_again : (number : ℕ) (g : Option MergeHeld) → numbered_relayered number (λ ls. ls) g ≡ g
numbered_again number None = refl
numbered_again number (Some g) = elim (cases_Bool (g.merge.number == number)) [
  | inl here ↦ rw here refl
  | inr other ↦ rw other refl
]

dev_again : (dev : Dev) (v : Moving) → dev_relayered dev (λ ls. ls) v ≡ v
dev_again Origin v = refl
dev_again (Snap number) v =
    ap (λ (hs : List SnapHeld). (let w : Moving = record v { snaps = hs; merge = numbered_relayered number (λ ls. ls) v.merge } in w)) (helds_again number v.snaps)
    ∙ ap (λ g. (let w : Moving = record v { merge = g } in w)) (numbered_again number v.merge)

-- what is told
module _ {B : Type 0} (contents : B → List ℕ) (layers : B → List Layer) where
  abbrev layers_of_snaps : ℕ → List (Kept B) → Option (List Layer)
  layers_of_snaps number xs = store_layers number (map (λ (h : SnapHeld). h.snap) (map (held_of contents layers) xs))

  layers_first : (number k : ℕ) (s : Kept B) (xs : List (Kept B)) → IsFirst (λ (x : Kept B). x.number == number) k s xs → layers_of_snaps number xs ≡ Some (layers s.device)
  layers_first number k s [] first = absurd (omega (arith, first.within))
  layers_first number zero s (y ∷ ys) first =
      rw (subst (λ (x : Kept B). (x.number == number) ≡ true) first.is first.passes) (ap (λ (x : Kept B). Some (layers x.device)) (sym first.is))
  layers_first number (suc k) s (y ∷ ys) first = rw (first.before 0 y (omega arith)) (layers_first number k s ys (later_first number k s y ys first))

  layers_none : (number : ℕ) (xs : List (Kept B)) → list_any (λ (x : Kept B). x.number == number) xs ≡ false → layers_of_snaps number xs ≡ None
  layers_none number [] none = refl
  layers_none number (x ∷ xs) none = elim (cases_Bool (x.number == number)) [
    | inl here ↦ (let h : true ≡ false = rw here at none in absurd (true≢false h))
    | inr other ↦ (let rest : list_any (λ (y : Kept B). y.number == number) xs ≡ false = rw other at none in rw other (layers_none number xs rest))
  ]

  abbrev layers_of_merge : ℕ → Option (Merging B) → Option (List Layer)
  layers_of_merge number g = merging_layers number (merge_in (held_in (merge_seen contents layers g)))

  other_layers : (number : ℕ) (g : Option (Merging B)) → IsNotMerging number g → layers_of_merge number g ≡ None
  other_layers number None other = refl
  other_layers number (Some g) other = rw (ne_eqb g.number number (other g refl)) refl

  mine_layers : (number : ℕ) (g : Merging B) → g.number ≡ number → layers_of_merge number (Some g) ≡ Some (layers g.device)
  mine_layers number g mine = rw (eq-eqb g.number number mine) refl

  -- a message to the store that is found, to the merging one, and to one that is not there
  pub snap_told : (number k depth : ℕ) (message : Message) (s : Kept B) (v : Volumed B) → s ≡ get_or v.snaps k s → place_of_snap number v.snaps ≡ Some k → volume_told (Snap number) depth message (merged_in contents layers v) ≡ told (layers s.device) depth message
  snap_told number k depth message s v is found =
      ap (λ o. told_under (layers_or o (layers_of_merge number v.merge)) depth message) (layers_first number k s v.snaps (first_position (λ (x : Kept B). x.number == number) k s v.snaps is found))

  missing_told : (number depth : ℕ) (message : Message) (v : Volumed B) → place_of_snap number v.snaps ≡ None → volume_told (Snap number) depth message (merged_in contents layers v) ≡ told_under (layers_of_merge number v.merge) depth message
  missing_told number depth message v none =
      ap (λ o. told_under (layers_or o (layers_of_merge number v.merge)) depth message) (layers_none number v.snaps (position_none (λ (x : Kept B). x.number == number) v.snaps none))

  pub merging_told : (number depth : ℕ) (message : Message) (g : Merging B) (v : Volumed B) → place_of_snap number v.snaps ≡ None → v.merge ≡ Some g → g.number ≡ number
      → volume_told (Snap number) depth message (merged_in contents layers v) ≡ told (layers g.device) depth message
  merging_told number depth message g v none is mine =
      missing_told number depth message v none
      ∙ ap (λ x. told_under (layers_of_merge number x) depth message) is
      ∙ ap (λ o. told_under o depth message) (mine_layers number g mine)

  pub none_told : (number depth : ℕ) (message : Message) (v : Volumed B) → place_of_snap number v.snaps ≡ None → IsNotMerging number v.merge → volume_told (Snap number) depth message (merged_in contents layers v) ≡ Refused NoSuchDevice
  none_told number depth message v none other = missing_told number depth message v none ∙ ap (λ o. told_under o depth message) (other_layers number v.merge other)

-- what a caller sees of a message
module _ {B : Type 0} (m : Measures B) (layers : B → List Layer) (dev : Dev) (depth : ℕ) (message : Message) (v w : Volumed B) where
  pub told_alike : (a : Answer) → IsTold m layers dev depth message a v w → IsVolumeAlike m.contents layers m.size v w
  told_alike a h = at_alike m layers (layers_told depth message) (loud_layers_told depth message) dev v w h.device

  pub told_moving : (a : Answer) → IsTold m layers dev depth message a v w → (replied : Option Reply) → moving_of m.contents layers replied w ≡ dev_relayered dev (layers_told depth message) (moving_of m.contents layers replied v)
  told_moving a h replied = at_moving m layers (layers_told depth message) dev replied v w h.device

  pub untold_alike : (r : Refusal) → IsNotTold m layers dev depth message r v w → IsVolumeAlike m.contents layers m.size v w
  untold_alike r h = elim h.same [
    | inl same ↦ subst (IsVolumeAlike m.contents layers m.size v) (sym same) (record {
      origin = record { bytes = refl; sectors = refl; loud = refl };
      count = refl;
      snaps = λ k d lt. record { store = record { bytes = refl; sectors = refl; loud = refl }; same = refl };
      merge = merge_same m.contents layers m.size v.merge;
      becomes = refl;
    })
    | inr again ↦ at_alike m layers (λ ls. ls) (λ ls. refl) dev v w again
  ]

  pub untold_moving : (r : Refusal) → IsNotTold m layers dev depth message r v w → (replied : Option Reply) → moving_of m.contents layers replied w ≡ moving_of m.contents layers replied v
  untold_moving r h replied = elim h.same [
    | inl same ↦ ap (moving_of m.contents layers replied) same
    | inr again ↦ at_moving m layers (λ ls. ls) dev replied v w again ∙ dev_again dev (moving_of m.contents layers replied v)
  ]

-- a refusal, with what else is so then
if_err_also : {X E : Type 0} (r : Result X E) (P Q : E → Type 0) (C : Type 0) → ((e : E) → P e → C → Q e) → IfErr r P → OnErr r C → IfErr r Q
if_err_also (Ok x) P Q C f p c = tt
if_err_also (Err e) P Q C f p c = f e p c

-- the device under the origin answered a message
module _ {B : Type 0} (m : Measures B) (layers : B → List Layer) (v : Volumed B) (o : B) (depth : ℕ) (message : Message) (r : Result Answer Refusal)
    (ok : IfOk r (λ a. told (layers v.origin) depth message ≡ Answered a (layers o))) (err : IfErr r (IsRefusal (layers v.origin) depth message)) (unchanged : OnErr r (layers o ≡ layers v.origin))
    (rest : IsRelayered m.contents m.durable m.size m.faults m.done v.origin o) where
  abbrev told_origin : Volumed B
  told_origin = record v { origin = o }

  by_answer : (a : Answer) → told (layers v.origin) depth message ≡ Answered a (layers o) → IsTold m layers Origin depth message a v told_origin
  by_answer a is = record {
    answer_is = ap answer_of is;
    device = record { device = record { layers_are = answered_layers (layers v.origin) (layers o) depth message a is; rest = rest }; becomes = refl };
  }

  by_refusal : (e : Refusal) → IsRefusal (layers v.origin) depth message e → layers o ≡ layers v.origin → IsNotTold m layers Origin depth message e v told_origin
  by_refusal e why same = record { why = why; same = inr (record { device = record { layers_are = same; rest = rest }; becomes = refl }) }

  pub origin_answered : IfOk r (λ a. IsTold m layers Origin depth message a v told_origin)
  origin_answered = if_ok r _ _ by_answer ok

  pub origin_refused : IfErr r (λ e. IsNotTold m layers Origin depth message e v told_origin)
  origin_refused = if_err_also r (IsRefusal (layers v.origin) depth message) (λ e. IsNotTold m layers Origin depth message e v told_origin) (layers o ≡ layers v.origin) by_refusal err unchanged

  pub origin_told : IsVolumeAlike m.contents layers m.size v told_origin
  origin_told =
      of_both r _ _ (λ a h. told_alike m layers Origin depth message v told_origin a h) (λ e h. untold_alike m layers Origin depth message v told_origin e h) origin_answered origin_refused

  pub origin_whole : IsWhole m.contents layers m.size v → IsWhole m.contents layers m.size told_origin
  origin_whole whole = whole_alike m.contents layers m.size v told_origin origin_told whole

-- a snapshot that is there is not the one that is being merged
pub apart_found : {B : Type 0} (contents : B → List ℕ) (layers : B → List Layer) (size : B → ℕ) (v : Volumed B) (number k : ℕ) (s : Kept B) → place_of_snap number v.snaps ≡ Some k → s ≡ get_or v.snaps k s → IsWhole contents layers size v → IsNotMerging number v.merge
apart_found {B = B} contents layers size v number k s found at whole = λ g is same.
    let on : GoesOn contents layers size (Some g) v = subst (λ (x : Option (Merging B)). GoesOn contents layers size x v) is whole.merge in
    let first = first_position (λ (x : Kept B). x.number == number) k s v.snaps at found in
    on.apart k s first.within (ap (λ (x : Kept B). x.number) (sym at) ∙ eqb-true s.number number first.passes ∙ sym same)

-- the store of the snapshot at place k did
module _ {B : Type 0} (m : Measures B) (layers : B → List Layer) (v : Volumed B) (number k : ℕ) (s t : Kept B) (found : place_of_snap number v.snaps ≡ Some k) (other : IsNotMerging number v.merge) (at : s ≡ get_or v.snaps k s) (depth : ℕ) (message : Message) (r : Result Answer Refusal)
    (ok : IfOk r (λ a. told (layers s.device) depth message ≡ Answered a (layers t.device))) (err : IfErr r (IsRefusal (layers s.device) depth message)) (unchanged : OnErr r (layers t.device ≡ layers s.device))
    (rest : IsRelayered m.contents m.durable m.size m.faults m.done s.device t.device) (kept : t ≡ record s { device = t.device }) where
  abbrev told_store : Volumed B
  told_store = record v { snaps = set v.snaps k t }

  relayered_by : (f : List Layer → List Layer) → layers t.device ≡ f (layers s.device) → IsSnapRelayered m layers number f v told_store
  relayered_by f is = record {
    place = k;
    snap = s;
    device = t.device;
    found = found;
    is = at;
    other = other;
    relayered_is = record { layers_are = is; rest = rest };
    becomes = ap (λ (x : Kept B). (let w : Volumed B = record v { snaps = set v.snaps k x } in w)) kept;
  }

  told_is : volume_told (Snap number) depth message (merged_in m.contents layers v) ≡ told (layers s.device) depth message
  told_is = snap_told m.contents layers number k depth message s v at found

  by_store : (a : Answer) → told (layers s.device) depth message ≡ Answered a (layers t.device) → IsTold m layers (Snap number) depth message a v told_store
  by_store a is = record { answer_is = ap answer_of (told_is ∙ is); device = inl (relayered_by (layers_told depth message) (answered_layers (layers s.device) (layers t.device) depth message a is)) }

  by_unmoved : (e : Refusal) → IsRefusal (layers s.device) depth message e → layers t.device ≡ layers s.device → IsNotTold m layers (Snap number) depth message e v told_store
  by_unmoved e why same = record {
    why = elim why [ inl refused ↦ inl (told_is ∙ refused) | inr starved ↦ inr (starved.0, subst (NeedsRoom message) (sym told_is) starved.1) ];
    same = inr (inl (relayered_by (λ ls. ls) same));
  }

  pub store_answered : IfOk r (λ a. IsTold m layers (Snap number) depth message a v told_store)
  store_answered = if_ok r _ _ by_store ok

  pub store_refused : IfErr r (λ e. IsNotTold m layers (Snap number) depth message e v told_store)
  store_refused = if_err_also r (IsRefusal (layers s.device) depth message) (λ e. IsNotTold m layers (Snap number) depth message e v told_store) (layers t.device ≡ layers s.device) by_unmoved err unchanged

  pub store_told : IsVolumeAlike m.contents layers m.size v told_store
  store_told =
      of_both r _ _ (λ a h. told_alike m layers (Snap number) depth message v told_store a h) (λ e h. untold_alike m layers (Snap number) depth message v told_store e h) store_answered store_refused

  pub store_whole : IsWhole m.contents layers m.size v → IsWhole m.contents layers m.size told_store
  store_whole whole = whole_alike m.contents layers m.size v told_store store_told whole

-- the merging store did, or there is no such snapshot
module _ {B : Type 0} (m : Measures B) (layers : B → List Layer) (v : Volumed B) (number : ℕ) (none : place_of_snap number v.snaps ≡ None) (g : Option (Merging B)) (depth : ℕ) (message : Message) (r : Result Answer Refusal)
    (ok : IfOk r (λ a. IsMergeTold m layers number depth message a v.merge g)) (err : IfErr r (λ e. IsMergeNotTold m layers number depth message e v.merge g)) where
  abbrev told_merge : Volumed B
  told_merge = record v { merge = g }

  merge_by : (x : Merging B) (f : List Layer → List Layer) (h : IsMergeMet m number x v.merge g) → layers h.device ≡ f (layers x.device) → IsMergeRelayered m layers number f v told_merge
  merge_by x f h is = record {
    merge = x;
    device = h.device;
    none = none;
    is = h.is;
    mine = h.mine;
    relayered_is = record { layers_are = is; rest = h.rest };
    becomes = ap (λ (y : Option (Merging B)). (let w : Volumed B = record v { merge = y } in w)) h.becomes;
  }

  by_merge : (a : Answer) → IsMergeTold m layers number depth message a v.merge g → IsTold m layers (Snap number) depth message a v told_merge
  by_merge a h = record {
    answer_is = ap answer_of (merging_told m.contents layers number depth message h.merge v none h.met.is h.met.mine ∙ h.told_is);
    device = inr (merge_by h.merge (layers_told depth message) h.met (answered_layers (layers h.merge.device) (layers h.met.device) depth message a h.told_is));
  }

  by_unheard : (e : Refusal) → IsMergeNotTold m layers number depth message e v.merge g → IsNotTold m layers (Snap number) depth message e v told_merge
  by_unheard e (inl h) = record {
    why = inl (none_told m.contents layers number depth message v none h.1 ∙ ap Refused (sym h.0));
    same = inl (ap (λ (y : Option (Merging B)). (let w : Volumed B = record v { merge = y } in w)) h.2);
  }
  by_unheard e (inr h) =
      let is : volume_told (Snap number) depth message (merged_in m.contents layers v) ≡ told (layers h.merge.device) depth message = merging_told m.contents layers number depth message h.merge v none h.met.is h.met.mine in
      record {
        why = elim h.why [ inl refused ↦ inl (is ∙ refused) | inr starved ↦ inr (starved.0, subst (NeedsRoom message) (sym is) starved.1) ];
        same = inr (inr (merge_by h.merge (λ ls. ls) h.met h.same));
      }

  pub merge_answered : IfOk r (λ a. IsTold m layers (Snap number) depth message a v told_merge)
  merge_answered = if_ok r _ _ by_merge ok

  pub merge_refused : IfErr r (λ e. IsNotTold m layers (Snap number) depth message e v told_merge)
  merge_refused = if_err r _ _ by_unheard err

  pub merge_told : IsVolumeAlike m.contents layers m.size v told_merge
  merge_told =
      of_both r _ _ (λ a h. told_alike m layers (Snap number) depth message v told_merge a h) (λ e h. untold_alike m layers (Snap number) depth message v told_merge e h) merge_answered merge_refused

  pub merge_whole : IsWhole m.contents layers m.size v → IsWhole m.contents layers m.size told_merge
  merge_whole whole = whole_alike m.contents layers m.size v told_merge merge_told whole

-- what the merging store answered
module _ {B : Type 0} (m : Measures B) (layers : B → List Layer) (number depth : ℕ) (message : Message) (x y : Merging B) (mine : x.number ≡ number) (r : Result Answer Refusal)
    (rest : IsRelayered m.contents m.durable m.size m.faults m.done x.device y.device) (kept : y ≡ record x { device = y.device }) where
  abbrev merge_met : IsMergeMet m number x (Some x) (Some y)
  merge_met = record { device = y.device; is = refl; mine = mine; rest = rest; becomes = ap Some kept }

  pub met_answered : IfOk r (λ a. told (layers x.device) depth message ≡ Answered a (layers y.device)) → IfOk r (λ a. IsMergeTold m layers number depth message a (Some x) (Some y))
  met_answered ok = if_ok r _ _ (λ a is. record { merge = x; met = merge_met; told_is = is }) ok

  met_unheard : (e : Refusal) → IsRefusal (layers x.device) depth message e → layers y.device ≡ layers x.device → IsMergeNotTold m layers number depth message e (Some x) (Some y)
  met_unheard e why same = inr (record { merge = x; met = merge_met; why = why; same = same })

  pub met_refused : IfErr r (IsRefusal (layers x.device) depth message) → OnErr r (layers y.device ≡ layers x.device) → IfErr r (λ e. IsMergeNotTold m layers number depth message e (Some x) (Some y))
  met_refused err unchanged =
      if_err_also r (IsRefusal (layers x.device) depth message) (λ e. IsMergeNotTold m layers number depth message e (Some x) (Some y)) (layers y.device ≡ layers x.device) met_unheard err unchanged

-- the clauses of a call
module _ {B : Type 0} (m : Measures B) (layers : B → List Layer) (dev : Dev) (depth : ℕ) (message : Message) (v w : Volumed B) (r : Result Answer Refusal)
    (ok : IfOk r (λ a. IsTold m layers dev depth message a v w)) (err : IfErr r (λ e. IsNotTold m layers dev depth message e v w)) where
  pub call_alike : IsVolumeAlike m.contents layers m.size v w
  call_alike = of_both r _ _ (λ a h. told_alike m layers dev depth message v w a h) (λ e h. untold_alike m layers dev depth message v w e h) ok err

  pub call_moving : OnOk r ((replied : Option Reply) → moving_of m.contents layers replied w ≡ dev_relayered dev (layers_told depth message) (moving_of m.contents layers replied v))
  call_moving = if_ok r _ _ (λ a h. told_moving m layers dev depth message v w a h) ok

  pub call_still : OnErr r ((replied : Option Reply) → moving_of m.contents layers replied w ≡ moving_of m.contents layers replied v)
  call_still = if_err r _ _ (λ e h. untold_moving m layers dev depth message v w e h) err

  pub call_books : books_of m.contents layers m.size w ≡ books_of m.contents layers m.size v
  call_books = books_of_alike m.contents layers m.size v w call_alike

  pub call_plain : plain_of m.contents layers w ≡ plain_of m.contents layers v
  call_plain = plain_alike m.contents layers m.size v w call_alike

  pub call_loud : is_loud_in_all layers w ≡ is_loud_in_all layers v
  call_loud = loud_alike m.contents layers m.size v w call_alike

-- the settled machine's volume
helds_settled : (number : ℕ) (f : List Layer → List Layer) (hs : List SnapHeld) → map (λ (h : SnapHeld). h.snap) (helds_relayered number f hs) ≡ snap_relayered number f (map (λ (h : SnapHeld). h.snap) hs)
helds_settled number f [] = refl
helds_settled number f (h ∷ hs) = elim (cases_Bool (h.snap.number == number)) [
  | inl here ↦ rw here refl
  | inr other ↦ rw other (ap (λ (ss : List SettledSnap). h.snap ∷ ss) (helds_settled number f hs))
]

pub dev_settled : (dev : Dev) (f : List Layer → List Layer) (v : Moving) → volume_of (dev_relayered dev f v) ≡ volume_relayered dev f (volume_of v)
dev_settled Origin f v = refl
dev_settled (Snap number) f v = ap (λ (ss : List SettledSnap). (let w : Volume = record { origin = v.origin; snaps = ss } in w)) (helds_settled number f v.snaps)

-- a volume at rest stays at rest
one_rests : (sectors : ℕ) (f : List Layer → List Layer) (h : SnapHeld) → IsResting sectors h → IsResting sectors (held_relayered f h)
one_rests sectors f h rest = record {
  tried = rest.tried;
  copies = rest.copies;
  marks = rest.marks;
  live = λ live. (let kept = rest.live live in record { order = kept.order; pairs = kept.pairs; next = kept.next; zeroed = kept.zeroed; firm = kept.firm; unmarked = kept.unmarked });
}

helds_rest : (sectors number : ℕ) (f : List Layer → List Layer) (hs : List SnapHeld) → Each (IsResting sectors) hs → Each (IsResting sectors) (helds_relayered number f hs)
helds_rest sectors number f [] all = tt
helds_rest sectors number f (h ∷ hs) all = elim (cases_Bool (h.snap.number == number)) [
  | inl here ↦ rw here (one_rests sectors f h all.0, all.1)
  | inr other ↦ rw other (all.0, helds_rest sectors number f hs all.1)
]

pub dev_rests : (sectors : ℕ) (dev : Dev) (f : List Layer → List Layer) (v : Moving) → IsAtRest sectors v → IsAtRest sectors (dev_relayered dev f v)
dev_rests sectors Origin f v rest = record { whole = rest.whole; snaps = rest.snaps; requests = rest.requests; alone = rest.alone }
dev_rests sectors (Snap number) f v rest = record {
  whole = rest.whole;
  snaps = all_from (IsResting sectors) (helds_relayered number f v.snaps) (helds_rest sectors number f v.snaps (each_from (IsResting sectors) v.snaps rest.snaps));
  requests = rest.requests;
  alone = ap (λ (g : Option MergeHeld). numbered_relayered number f g) rest.alone;
}

-- and beside a merge of which nothing is under way
merge_rests : (f : List Layer → List Layer) (m : MergeHeld) → IsMergeResting m → IsMergeResting (merge_relayered f m)
merge_rests f m rest = record { pairs = rest.pairs; free = ap (merge_relayered f) rest.free }

some_is : (m g : MergeHeld) → Some m ≡ Some g → m ≡ g
some_is m g is = cc

numbered_rests : (number : ℕ) (f : List Layer → List Layer) (o : Option MergeHeld) → ((m : MergeHeld) → o ≡ Some m → IsMergeResting m) → (g : MergeHeld) → numbered_relayered number f o ≡ Some g → IsMergeResting g
numbered_rests number f None rest g is = absurd (cc)
numbered_rests number f (Some m) rest g is = elim (cases_Bool (m.merge.number == number)) [
  | inl here ↦ (let turned : Some (merge_relayered f m) ≡ Some g = rw here at is in subst IsMergeResting (some_is (merge_relayered f m) g turned) (merge_rests f m (rest m refl)))
  | inr other ↦ (let stayed : Some m ≡ Some g = rw other at is in subst IsMergeResting (some_is m g stayed) (rest m refl))
]

pub dev_between : (sectors : ℕ) (dev : Dev) (f : List Layer → List Layer) (v : Moving) → IsBetween sectors v → IsBetween sectors (dev_relayered dev f v)
dev_between sectors Origin f v rest = record { whole = rest.whole; snaps = rest.snaps; requests = rest.requests; merge = rest.merge }
dev_between sectors (Snap number) f v rest = record {
  whole = rest.whole;
  snaps = all_from (IsResting sectors) (helds_relayered number f v.snaps) (helds_rest sectors number f v.snaps (each_from (IsResting sectors) v.snaps rest.snaps));
  requests = rest.requests;
  merge = numbered_rests number f v.merge rest.merge;
}

-- without a merge only a snapshot's store is told
pub dev_alone : (number : ℕ) (f : List Layer → List Layer) (v : Moving) → v.merge ≡ None → dev_relayered (Snap number) f v ≡ record v { snaps = helds_relayered number f v.snaps }
dev_alone number f v alone =
    ap (λ (g : Option MergeHeld). (let w : Moving = record v { snaps = helds_relayered number f v.snaps; merge = g } in w)) (ap (numbered_relayered number f) alone ∙ sym alone)
