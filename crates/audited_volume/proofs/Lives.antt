-- Which snapshots are live, and which of their stores may still overflow, after each call: whatever the devices do.
use Rattle.std.proofs.Common.{◌≡◌, ◌≢◌, inl, inr, ℕ, zero, suc, ◌+◌, ◌<◌, Bool, true, false, List, [], ◌∷◌, ◌++◌, length, get_or, set, map, Some, refl, sym, ◌∙◌, ap, arith}
use Rattle.std.specs.Prelude.{◌==◌, ◌&&◌, cond, nat_lt, not, None, if◌then◌else◌}
use Rattle.std.specs.List.{position, position_or_len, remove}
use Rattle.std.proofs.lemmas.Bool.{cases_Bool}
use Rattle.std.proofs.lemmas.List.{get_or-map, get_or-set_same, length-map, map-append, map-set}
use Rattle.device.specs.Layers.{Layer}
use Rattle.sector.specs.declared.refusal.Refusal.{Refusal}
use Rattle.sector.specs.declared.refusal.Refusal.TheVariants.{Invalid, NoMemory, Overflow}
use Rattle.plain_machine.specs.declared.request.Dev.TheVariants.{Snap}
use Rattle.plain_machine.specs.declared.request.Failure.TheVariants.{Invalid as IsInvalid, Io, Overflow as IsOverflow}
use Rattle.plain_machine.specs.declared.request.Overflowing.TheVariants.{Did}
use Rattle.plain_machine.specs.declared.request.Reply.{Reply}
use Rattle.plain_machine.specs.declared.request.Reply.TheVariants.{Data, Written, Flushed, Refused}
use Rattle.plain_machine.specs.declared.request.Request.{Request}
use Rattle.plain_machine.specs.Plain.{Plain, Entry as ShownEntry, did_overflow, may_overflow}
use Rattle.snapshot.specs.Kept.{Kept}
use Rattle.snapshot.specs.declared.opening.StoreDev.{StoreDev}
use Rattle.snapshot_list.specs.Finding.{place_of_snap}
use Rattle.snapshot_list.specs.Keeping.{kept_back, kept_for, unkept}
use Rattle.snapshot_list.specs.Numbers.{number_of_snap}
use Rattle.snapshot_list.specs.Starting.{spoilt_of, unroomed}
use Rattle.volume_laws.proofs.Lists.{map-remove}
use Rattle.volume.specs.Attached.{IsGained}
use Rattle.volume.specs.Beginning.{IsMergeBegun, IsNotBegun, SameButKept}
use Rattle.volume.specs.Causes.{HasReplied, lives_of}
use Rattle.volume.specs.Finishing.{IsTakenOut}
use Rattle.volume.specs.Leaving.{IsWithout}
use Rattle.volume.specs.Shown.{shown_entry}
use Rattle.volume.specs.Submitting.{IsFoundFull, IsOverflown, IsRefusedAs, SameButRoom}
use Rattle.volume.specs.Volumed.{Volumed, plain_of}
use Rattle.volume.proofs.FewerLives.{AreFewer}
use Rattle.volume.proofs.Named.{dev_of_write, found_within}
use Rattle.volume.proofs.Savings.{overflows_live}
use Rattle.audited_volume.specs.declared.entry.Entry.{Entry}
use Rattle.audited_volume.specs.Marked.{IsMarkNoted, is_marked}
use Rattle.audited_volume.specs.Noted.{Noted, is_live, is_open, mays_of}
use Rattle.audited_volume.proofs.Beginning.{lives_shown, mays_shown}
use Rattle.audited_volume.proofs.Lost.{noted_now}
use Rattle.audited_volume.proofs.Marks.{all_bits, not_open, second_bit, third_bit}
use Rattle.audited_volume.proofs.Mays.{wanted_may}
use Rattle.audited_volume.proofs.Receipts.{noted_all, saved_count, snaps_same}

-- what a change of snapshots leaves of each, it leaves of all
pub same_map : {B X : Type 0} (f : Kept B → Kept B) (g : Kept B → X) → ((s : Kept B) → g (f s) ≡ g s) → (snaps : List (Kept B)) → map g (map f snaps) ≡ map g snaps
same_map f g same [] = refl
same_map f g same (s ∷ snaps) = (λ i. same s i ∷ same_map f g same snaps i)

pub roomed_map : {B X : Type 0} (g : Kept B → X) → ((s : Kept B) → g (unroomed s) ≡ g s) → (xs ys : List (Kept B)) → map unroomed xs ≡ map unroomed ys → map g xs ≡ map g ys
roomed_map g same xs ys roomed = sym (same_map unroomed g same xs) ∙ ap (map g) roomed ∙ same_map unroomed g same ys

pub own_map : {B X : Type 0} (g : Kept B → X) (snaps : List (Kept B)) (k : ℕ) (s : Kept B) (x : X) → s ≡ get_or snaps k s → x ≡ g s → set (map g snaps) k x ≡ map g snaps
own_map g [] k s x is own = refl
own_map g (y ∷ snaps) zero s x is own = ap (λ z. z ∷ map g snaps) (own ∙ ap g is)
own_map g (y ∷ snaps) (suc k) s x is own = ap (λ zs. g y ∷ zs) (own_map g snaps k s x is own)

at_own : {B : Type 0} (g : Kept B → Bool) (snaps : List (Kept B)) (k : ℕ) (s : Kept B) → k < length snaps → s ≡ get_or snaps k s → g s ≡ true → get_or (map g snaps) k false ≡ true
at_own g snaps k s within is holds = get_or-map g snaps k s false within ∙ ap g (sym is) ∙ holds

kept_live : {B : Type 0} (number count chunk : ℕ) (s : Kept B) → (kept_for number count chunk s).live ≡ s.live
kept_live number count chunk s = either (s.live && not (s.number == number)) _
  where
    either : (b : Bool) (n : ℕ) → (if b then kept_back n s else s).live ≡ s.live
    either true n = refl
    either false n = refl

kept_may : {B : Type 0} (number count chunk : ℕ) (s : Kept B) → may_overflow (kept_for number count chunk s).overflow ≡ may_overflow s.overflow
kept_may number count chunk s = either (s.live && not (s.number == number)) _
  where
    either : (b : Bool) (n : ℕ) → may_overflow (if b then kept_back n s else s).overflow ≡ may_overflow s.overflow
    either true n = refl
    either false n = refl

-- the place of a number, among snapshots with the same numbers
first_same : {X : Type 0} (x y : X) (xs ys : List X) → x ∷ xs ≡ y ∷ ys → x ≡ y
first_same x y xs ys e = cc

rest_same : {X : Type 0} (x y : X) (xs ys : List X) → x ∷ xs ≡ y ∷ ys → xs ≡ ys
rest_same x y xs ys e = cc

same_search : {B : Type 0} (n : ℕ) (xs : List ShownEntry) (ys : List (Kept B)) → map (λ e. e.number) xs ≡ map number_of_snap ys → position_or_len (λ e. e.number == n) xs ≡ position_or_len (λ s. s.number == n) ys
same_search n [] [] e = refl
same_search n [] (y ∷ ys) e = absurd (let two : [] ≡ y.number ∷ map number_of_snap ys = e in cc)
same_search n (x ∷ xs) [] e = absurd (let two : x.number ∷ map (λ z. z.number) xs ≡ [] = e in cc)
same_search n (x ∷ xs) (y ∷ ys) e =
    let mine : x.number ≡ y.number = first_same x.number y.number (map (λ z. z.number) xs) (map number_of_snap ys) e in
    let rest = same_search n xs ys (rest_same x.number y.number (map (λ z. z.number) xs) (map number_of_snap ys) e) in
    elim (cases_Bool (y.number == n)) [
      | inl here ↦ rw (ap (λ m. m == n) mine ∙ here) (rw here refl)
      | inr other ↦ rw (ap (λ m. m == n) mine ∙ other) (rw other (ap (λ k. 1 + k) rest))
    ]

same_places : {B : Type 0} (n : ℕ) (xs : List ShownEntry) (ys : List (Kept B)) → map (λ e. e.number) xs ≡ map number_of_snap ys → position (λ e. e.number == n) xs ≡ place_of_snap n ys
same_places n xs ys e =
    let long : length xs ≡ length ys = sym (length-map xs (λ z. z.number)) ∙ ap length e ∙ length-map ys number_of_snap in
    let at = same_search n xs ys e in
    (λ i. cond (nat_lt (at i) (long i)) (Some (at i)) None)

numbers_shown : {B : Type 0} (contents : B → List ℕ) (origin : List ℕ) (snaps : List (Kept B)) → map (λ e. e.number) (map (shown_entry contents origin) snaps) ≡ map number_of_snap snaps
numbers_shown contents origin [] = refl
numbers_shown contents origin (s ∷ snaps) = ap (λ ns. s.number ∷ ns) (numbers_shown contents origin snaps)

dids_shown : {B : Type 0} (contents : B → List ℕ) (origin : List ℕ) (snaps : List (Kept B)) → map is_marked (map (shown_entry contents origin) snaps) ≡ map (λ s. did_overflow s.overflow) snaps
dids_shown contents origin [] = refl
dids_shown contents origin (s ∷ snaps) = ap (λ bs. did_overflow s.overflow ∷ bs) (dids_shown contents origin snaps)

overflow_mays : {B : Type 0} (snaps : List (Kept B)) → map (λ s. may_overflow s.overflow) snaps ≡ map may_overflow (map (λ s. s.overflow) snaps)
overflow_mays [] = refl
overflow_mays (s ∷ snaps) = ap (λ bs. may_overflow s.overflow ∷ bs) (overflow_mays snaps)

snap_is : (m n : ℕ) → Snap m ≡ Snap n → m ≡ n
snap_is m n e = cc

some_is : (m n : ℕ) → Some m ≡ Some n → m ≡ n
some_is m n e = cc

module _ {B : Type 0} (v w : Volumed B) where
  -- an event, and a request
  pub mays_by : map (λ s. s.overflow) w.snaps ≡ map (λ s. s.overflow) v.snaps → mays_of w ≡ mays_of v
  mays_by same = overflow_mays w.snaps ∙ ap (map may_overflow) same ∙ sym (overflow_mays v.snaps)

  -- an answer loses none
  pub replied_alive : (faults : B → ℕ) (number : ℕ) (reply : Reply) → HasReplied faults number reply v w → lives_of w ≡ lives_of v
  replied_alive faults number (Refused Io) is = is.2.lives
  replied_alive faults number (Refused IsInvalid) is = is.lives
  replied_alive faults number (Refused IsOverflow) is = is.lives
  replied_alive faults number (Data bytes) is = is.lives
  replied_alive faults number Written is = is.lives
  replied_alive faults number Flushed is = is.lives

  -- a snapshot that is taken
  pub gained_lives : (contents : B → List ℕ) (layers : B → List Layer) (size : B → ℕ) (number : ℕ) (wanted : Bool) (store : StoreDev B) → IsGained contents layers size number wanted store v w → lives_of w ≡ lives_of v ++ true ∷ []
  gained_lives contents layers size number wanted store is = ap lives_of is.becomes ∙ map-append (λ (s : Kept B). s.live) v.snaps (is.snap ∷ []) ∙ ap (λ b. lives_of v ++ b ∷ []) is.live

  pub gained_mays : (contents : B → List ℕ) (layers : B → List Layer) (size : B → ℕ) (number : ℕ) (wanted : Bool) (store : StoreDev B) → IsGained contents layers size number wanted store v w → mays_of w ≡ mays_of v ++ wanted ∷ []
  gained_mays contents layers size number wanted store is =
      ap mays_of is.becomes ∙ map-append (λ (s : Kept B). may_overflow s.overflow) v.snaps (is.snap ∷ []) ∙ ap (λ b. mays_of v ++ b ∷ []) (ap may_overflow is.overflow_is ∙ wanted_may wanted)

  -- one that leaves
  module _ (number k : ℕ) (found : place_of_snap number v.snaps ≡ Some k) where
    pub without_lives : (store : StoreDev B) → IsWithout number v w store → lives_of w ≡ remove (lives_of v) k
    without_lives store is = ap lives_of is.becomes ∙ map-remove (λ (s : Kept B). s.live) v.snaps is.place ∙ ap (remove (lives_of v)) (some_is is.place k (sym is.found ∙ found))

    pub without_mays : (store : StoreDev B) → IsWithout number v w store → mays_of w ≡ remove (mays_of v) k
    without_mays store is = ap mays_of is.becomes ∙ map-remove (λ (s : Kept B). may_overflow s.overflow) v.snaps is.place ∙ ap (remove (mays_of v)) (some_is is.place k (sym is.found ∙ found))

    -- and one that begins to be merged
    pub begun_lives : IsMergeBegun number v w → lives_of w ≡ remove (lives_of v) k
    begun_lives is =
        ap lives_of is.becomes ∙ same_map (kept_for number (length is.snap.pairs) is.snap.state.chunk) (λ (s : Kept B). s.live) (kept_live number (length is.snap.pairs) is.snap.state.chunk) (remove v.snaps is.place)
        ∙ map-remove (λ (s : Kept B). s.live) v.snaps is.place ∙ ap (remove (lives_of v)) (some_is is.place k (sym is.found ∙ found))

    pub begun_mays : IsMergeBegun number v w → mays_of w ≡ remove (mays_of v) k
    begun_mays is =
        ap mays_of is.becomes ∙ same_map (kept_for number (length is.snap.pairs) is.snap.state.chunk) (λ (s : Kept B). may_overflow s.overflow) (kept_may number (length is.snap.pairs) is.snap.state.chunk) (remove v.snaps is.place)
        ∙ map-remove (λ (s : Kept B). may_overflow s.overflow) v.snaps is.place ∙ ap (remove (mays_of v)) (some_is is.place k (sym is.found ∙ found))

  -- a merge that does not begin, and one that is taken out
  pub unbegun_lives : (number : ℕ) (refusal : Refusal) → IsNotBegun number refusal v w → (lives_of w ≡ lives_of v) × (mays_of w ≡ mays_of v)
  unbegun_lives number refusal (inl is) = (ap lives_of is.1, ap mays_of is.1)
  unbegun_lives number refusal (inr is) =
      let kept : SameButKept v w = is.2 in
      elim kept.kept [
        | inl same ↦ (ap (map (λ (s : Kept B). s.live)) same, ap (map (λ (s : Kept B). may_overflow s.overflow)) same)
        | inr less ↦ (
          ap (map (λ (s : Kept B). s.live)) less ∙ same_map unkept (λ (s : Kept B). s.live) (λ s. refl) v.snaps,
          ap (map (λ (s : Kept B). may_overflow s.overflow)) less ∙ same_map unkept (λ (s : Kept B). may_overflow s.overflow) (λ s. refl) v.snaps,
        )
      ]

  pub finished_lives : (store : StoreDev B) → IsTakenOut v w store → (lives_of w ≡ lives_of v) × (mays_of w ≡ mays_of v)
  finished_lives store is = (
    ap lives_of is.becomes ∙ same_map unkept (λ (s : Kept B). s.live) (λ s. refl) v.snaps,
    ap mays_of is.becomes ∙ same_map unkept (λ (s : Kept B). may_overflow s.overflow) (λ s. refl) v.snaps,
  )

  module _ (contents : B → List ℕ) (layers : B → List Layer) where
    abbrev saved : List ShownEntry
    saved = (plain_of contents layers w).saved

    -- what nobody sees
    pub unseen_lives : plain_of contents layers w ≡ plain_of contents layers v → lives_of w ≡ lives_of v
    unseen_lives same = lives_shown contents (contents w.origin) w.snaps ∙ ap (λ (p : Plain). map is_live p.saved) same ∙ sym (lives_shown contents (contents v.origin) v.snaps)

    pub unseen_mays : plain_of contents layers w ≡ plain_of contents layers v → mays_of w ≡ mays_of v
    unseen_mays same = mays_shown contents (contents w.origin) w.snaps ∙ ap (λ (p : Plain). map is_open p.saved) same ∙ sym (mays_shown contents (contents v.origin) v.snaps)

    -- a look at those that may be lost
    pub looked_lives : (lives lives' : List Bool) (es es' : List Entry) → Noted (length w.snaps) saved lives lives' es es' → lives ≡ lives_of v → map number_of_snap w.snaps ≡ map number_of_snap v.snaps → AreFewer (lives_of w) (lives_of v) → lives' ≡ lives_of w
    looked_lives lives lives' es es' noted were numbers fewer =
        let shown : lives_of w ≡ map is_live saved = lives_shown contents (contents w.origin) w.snaps in
        noted_now saved lives lives' es es' (noted_all contents layers w lives lives' es es' noted)
        (ap length were ∙ length-map v.snaps (λ s. s.live) ∙ sym (snaps_same v w numbers) ∙ sym (saved_count contents layers w))
        (λ k e. ap (λ (bs : List Bool). get_or bs k false) were ∙ fewer k (ap (λ (bs : List Bool). get_or bs k false) shown ∙ e))
        ∙ sym shown

    module _ (size : B → ℕ) (request : Request) (refusal : Refusal) where
      -- a request that is refused with anything but Overflow marks none
      pub refused_mays : refusal ≢ Overflow → IsRefusedAs contents layers size request refusal v w → mays_of w ≡ mays_of v
      refused_mays other (inl is) = ap mays_of is.1
      refused_mays other (inr (inl is)) = (let room : SameButRoom v w = is.2 in roomed_map (λ (s : Kept B). may_overflow s.overflow) (λ s. refl) w.snaps v.snaps room.roomed)
      refused_mays other (inr (inr (inl is))) =
          let full : IsFoundFull contents layers is.2.0 _ v w = is.2.2 in
          roomed_map (λ (s : Kept B). may_overflow s.overflow) (λ s. refl) w.snaps (set v.snaps full.place (spoilt_of full.snap)) full.spoilt
          ∙ map-set (λ (s : Kept B). may_overflow s.overflow) v.snaps full.place (spoilt_of full.snap) ∙ own_map (λ (s : Kept B). may_overflow s.overflow) v.snaps full.place full.snap (may_overflow full.snap.overflow) full.is refl
      refused_mays other (inr (inr (inr is))) = absurd (other is.1)

      -- and one with Overflow loses none
      pub refused_alive : refusal ≡ Overflow → IsRefusedAs contents layers size request refusal v w → lives_of w ≡ lives_of v
      refused_alive overflow (inl is) = ap lives_of is.1
      refused_alive overflow (inr (inl is)) = (let room : SameButRoom v w = is.2 in roomed_map (λ (s : Kept B). s.live) (λ s. refl) w.snaps v.snaps room.roomed)
      refused_alive overflow (inr (inr (inl is))) = (let e : Invalid ≡ Overflow = sym is.1 ∙ overflow in absurd (cc))
      refused_alive overflow (inr (inr (inr is))) =
          let full : IsOverflown contents layers is.2.0 _ v w = is.2.2 in
          let snap : Kept B = record full.snap { overflow = Did } in
          roomed_map (λ (s : Kept B). s.live) (λ s. refl) w.snaps (set v.snaps full.place snap) full.marked ∙ map-set (λ (s : Kept B). s.live) v.snaps full.place snap ∙ own_map (λ (s : Kept B). s.live) v.snaps full.place full.snap full.snap.live full.is refl

      module _ (lives may may' : List Bool) (es es' : List Entry) (were : lives ≡ lives_of v) (could : may ≡ mays_of v) where
        -- where none is marked, no mark is noted
        unmarked : mays_of w ≡ mays_of v → IsMarkNoted request.dev saved lives may may' es es' → may' ≡ mays_of w
        unmarked same (inl (number, place, placed, new, marked, are)) =
            let opens : get_or (map is_open saved) place false ≡ true =
            ap (λ (bs : List Bool). get_or bs place false) (sym (mays_shown contents (contents w.origin) w.snaps) ∙ same ∙ sym could) ∙ second_bit (get_or lives place false) (get_or may place false) (get_or (map is_marked saved) place false) new in
            absurd (not_open saved place opens (third_bit (get_or lives place false) (get_or may place false) (get_or (map is_marked saved) place false) new))
        unmarked same (inr (none, still, are)) = still ∙ could ∙ sym same

        -- where one is, its mark is
        overflown : (number first : ℕ) → request.dev ≡ Snap number → IsOverflown contents layers number first v w → map number_of_snap w.snaps ≡ map number_of_snap v.snaps → IsMarkNoted request.dev saved lives may may' es es' → may' ≡ mays_of w
        overflown number first dev full numbers noted = by noted
          where
            snap : Kept B
            snap = record full.snap { overflow = Did }

            within : full.place < length v.snaps
            within = found_within number v.snaps full.place (sym full.found)

            here : position (λ e. e.number == number) saved ≡ Some full.place
            here = same_places number saved v.snaps (numbers_shown contents (contents w.origin) w.snaps ∙ numbers) ∙ full.found

            mays : mays_of w ≡ set (mays_of v) full.place false
            mays = roomed_map (λ (s : Kept B). may_overflow s.overflow) (λ s. refl) w.snaps (set v.snaps full.place snap) full.marked ∙ map-set (λ (s : Kept B). may_overflow s.overflow) v.snaps full.place snap

            live : get_or lives full.place false ≡ true
            live = ap (λ (bs : List Bool). get_or bs full.place false) were ∙ at_own (λ (s : Kept B). s.live) v.snaps full.place full.snap within full.is (overflows_live _ full.snap full.full)

            opens : get_or may full.place false ≡ true
            opens = ap (λ (bs : List Bool). get_or bs full.place false) could ∙ at_own (λ (s : Kept B). may_overflow s.overflow) v.snaps full.place full.snap within full.is (ap may_overflow full.may)

            did : get_or (map is_marked saved) full.place false ≡ true
            did =
                ap (λ (bs : List Bool). get_or bs full.place false) (dids_shown contents (contents w.origin) w.snaps
                ∙ roomed_map (λ (s : Kept B). did_overflow s.overflow) (λ s. refl) w.snaps (set v.snaps full.place snap) full.marked ∙ map-set (λ (s : Kept B). did_overflow s.overflow) v.snaps full.place snap)
                ∙ get_or-set_same (map (λ (s : Kept B). did_overflow s.overflow) v.snaps) full.place true false (omega (arith, within, length-map v.snaps (λ (s : Kept B). did_overflow s.overflow)))

            by : IsMarkNoted request.dev saved lives may may' es es' → may' ≡ mays_of w
            by (inl (n, place, placed, new, marked, are)) =
                let mine : n ≡ number = snap_is n number (sym placed.0 ∙ dev) in
                let at : place ≡ full.place = some_is place full.place (sym placed.1 ∙ ap (λ (m : ℕ). position (λ (e : ShownEntry). e.number == m) saved) mine ∙ here) in
                marked ∙ (λ i. set (could i) (at i) false) ∙ sym mays
            by (inr (none, still, are)) =
                absurd (all_bits (get_or lives full.place false) (get_or may full.place false) (get_or (map is_marked saved) full.place false) live opens did (none number full.place (dev, here)))

        pub marked_mays : refusal ≡ Overflow → IsRefusedAs contents layers size request refusal v w → map number_of_snap w.snaps ≡ map number_of_snap v.snaps → IsMarkNoted request.dev saved lives may may' es es' → may' ≡ mays_of w
        marked_mays overflow (inl is) numbers noted = unmarked (ap mays_of is.1) noted
        marked_mays overflow (inr (inl is)) numbers noted = (let e : NoMemory ≡ Overflow = sym is.1 ∙ overflow in absurd (cc))
        marked_mays overflow (inr (inr (inl is))) numbers noted = (let e : Invalid ≡ Overflow = sym is.1 ∙ overflow in absurd (cc))
        marked_mays overflow (inr (inr (inr is))) numbers noted = overflown is.2.0 _ (dev_of_write request is.2.0 is.2.1) is.2.2 numbers noted
