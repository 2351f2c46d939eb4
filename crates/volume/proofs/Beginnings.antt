-- A merge that is admitted begins, once the other snapshots keep back what it will start.
use Rattle.std.proofs.Common.{◌≡◌, ℕ, ◌*◌, ◌<◌, Bool, true, false, List, [], ◌∷◌, Option, Some, None, length, get_or, map, refl, sym, ◌∙◌, ap, subst, arith, nat_eq}
use Rattle.std.specs.List.{All, remove}
use Rattle.std.proofs.lemmas.List.{get_or-map, get_or_default}
use Rattle.std.proofs.lemmas.List.Elements.{All-map}
use Rattle.std.proofs.lemmas.List.Quantifiers.{position-Some}
use Rattle.std.proofs.lemmas.Bool.{eqb-true}
use Rattle.std.specs.Prelude.{slice_index_or, ◌==◌, if◌then◌else◌}
use Rattle.device.specs.Layers.{Layer}
use Rattle.sector.specs.declared.pair.Pair.{Pair}
use Rattle.store.specs.declared.state.State.{State}
use Rattle.sector.specs.declared.refusal.Refusal.TheVariants.{Invalid, NotQuiet}
use Rattle.plain_machine.specs.Plain.{Plain}
use Rattle.plain_machine.specs.Legal.{IsBegun}
use Rattle.plain_machine.specs.declared.request.Reply.{Reply}
use Rattle.volume_laws.proofs.Lists.{map-remove}
use Rattle.event_machine.specs.Merging.{begun}
use Rattle.snapshot.specs.Kept.{Kept}
use Rattle.snapshot_list.specs.Finding.{place_of_snap}
use Rattle.snapshot_list.proofs.Finds.{position_within}
use Rattle.merge.specs.Merging.{Merging}
use Rattle.snapshot_list.specs.Keeping.{unkept, kept_for}
use Rattle.snapshot_list.proofs.Unkept.{kept_unkept}
use Rattle.volume.specs.Beginning.{IsMergeBegun, begin_refusal, begin_with, beside_refusal, merging_from, place_refusal}
use Rattle.volume.specs.Causes.{lives_of}
use Rattle.volume.specs.Leaving.{is_quiet_of}
use Rattle.volume.specs.Volumed.{Volumed, is_loud_in_all, plain_of}
use Rattle.volume.specs.Whole.{IsWhole}
use Rattle.volume.specs.Moved.{moving_of}
use Rattle.volume.proofs.Begun.{KeepsFor, kept_keeps, whole_begun, plain_begun, exact_begun, loud_begun}
use Rattle.volume.proofs.KeptBack.{all_done, whole_kept, plain_kept, moving_kept, loud_kept}
use Rattle.volume.proofs.MovedLists.{IsFirst, first_position}
use Rattle.volume.proofs.Quieted.{quiet_flights, quiet_done}
use Rattle.volume.proofs.Unlike.{hidden_at, hidden_length}

-- no merge is begun where one is admitted
admitted_alone : {B : Type 0} (m : Option (Merging B)) (number : ℕ) (v : Volumed B) → begin_with m number v ≡ None → m ≡ None
admitted_alone None number v e = refl
admitted_alone {B = B} (Some m) number v e = (let none : Some (beside_refusal (nat_eq m.number number) (place_of_snap number v.snaps)) ≡ None = e in absurd (cc))

admitted_at : (lives : List Bool) (quiet : Bool) (k : ℕ) → place_refusal lives quiet (Some k) ≡ None → (slice_index_or lives k false ≡ true) × (quiet ≡ true)
admitted_at lives quiet k e = by_test (slice_index_or lives k false) quiet e
  where
    by_test : (live calm : Bool) → (if live then (if calm then None else Some NotQuiet) else Some Invalid) ≡ None → (live ≡ true) × (calm ≡ true)
    by_test true true h = (refl, refl)
    by_test true false h = (let none : Some NotQuiet ≡ None = h in absurd (cc))
    by_test false calm h = (let none : Some Invalid ≡ None = h in absurd (cc))

-- a merge with the store of a snapshot
pub made_from : {B : Type 0} (s : Kept B) (number : ℕ) (device : B) (state : State) (next : ℕ) (pairs : List Pair) (buffer : List ℕ) → s.number ≡ number → device ≡ s.device → state ≡ s.state → next ≡ s.next → pairs ≡ s.pairs
    → record { number = number; device = device; state = state; next = next; pairs = pairs; group = None; buffer = buffer; failed = false } ≡ merging_from s buffer
made_from {B = B} s number device state next pairs buffer number_is device_is state_is next_is pairs_is =
    let made : ℕ → B → State → ℕ → List Pair → Merging B = λ (n : ℕ) (d : B) (t : State) (p : ℕ) (ps : List Pair). record { number = n; device = d; state = t; next = p; pairs = ps; group = None; buffer = buffer; failed = false } in
    ap (λ n. made n device state next pairs) (sym number_is)
    ∙ ap (λ d. made s.number d state next pairs) device_is
    ∙ ap (λ t. made s.number s.device t next pairs) state_is
    ∙ ap (λ p. made s.number s.device s.state p pairs) next_is
    ∙ ap (λ ps. made s.number s.device s.state s.next ps) pairs_is

-- what is kept for the others, of a list
pub all_unkept : {B : Type 0} (number count chunk : ℕ) (xs : List (Kept B)) → map unkept (map (kept_for number count chunk) xs) ≡ map unkept xs
all_unkept number count chunk [] = refl
all_unkept number count chunk (x ∷ xs) = ap (λ y. y ∷ map unkept (map (kept_for number count chunk) xs)) (kept_unkept number count chunk x) ∙ ap (λ ys. unkept x ∷ ys) (all_unkept number count chunk xs)

pub twice_unkept : {B : Type 0} (xs : List (Kept B)) → map unkept (map unkept xs) ≡ map unkept xs
twice_unkept [] = refl
twice_unkept (x ∷ xs) = ap (λ ys. unkept x ∷ ys) (twice_unkept xs)

module _ {B : Type 0} (v : Volumed B) (number k : ℕ) (admitted : begin_refusal number v ≡ None) (place : Some k ≡ place_of_snap number v.snaps) where
  pub alone : v.merge ≡ None
  alone = admitted_alone v.merge number v admitted

  both : (slice_index_or (lives_of v) k false ≡ true) × (is_quiet_of v ≡ true)
  both = admitted_at (lives_of v) (is_quiet_of v) k
      (ap (place_refusal (lives_of v) (is_quiet_of v)) place ∙ ap (λ (m : Option (Merging B)). begin_with m number v) (sym alone) ∙ admitted)

  pub calm : is_quiet_of v ≡ true
  calm = both.1

  pub within : k < length v.snaps
  within = position_within (λ (s : Kept B). nat_eq s.number number) v.snaps k (sym place)

  -- the snapshot at the place is live, of that number, and has no copies
  module _ (s : Kept B) (is : s ≡ get_or v.snaps k s) where
    pub live_at : s.live ≡ true
    live_at =
        ap (λ (t : Kept B). t.live) is ∙ sym (get_or-map (λ (t : Kept B). t.live) v.snaps k s false within) ∙ both.0

    pub number_at : s.number ≡ number
    number_at = ap (λ (t : Kept B). t.number) is ∙ eqb-true (get_or v.snaps k s).number number ((position-Some (λ (t : Kept B). nat_eq t.number number) v.snaps k s (sym place)).1)

    done_at : (s.copies ≡ []) × (s.marks ≡ [])
    done_at = subst (λ (t : Kept B). (t.copies ≡ []) × (t.marks ≡ [])) (sym is) (all_done v.snaps (quiet_done v calm) k s within)

    pub idle_at : s.copies ≡ []
    idle_at = done_at.0

    pub unmarked_at : s.marks ≡ []
    unmarked_at = done_at.1

  -- all snapshots keep back what they do for its pairs, and it leaves them
  module _ (count chunk : ℕ) (snaps : List (Kept B)) (kept : snaps ≡ map (kept_for number count chunk) v.snaps) (s : Kept B) (is : s ≡ get_or snaps k s) where
    abbrev was : Kept B
    was = get_or v.snaps k s

    was_is : was ≡ get_or v.snaps k was
    was_is = get_or_default v.snaps k s was within

    same : map unkept snaps ≡ map unkept v.snaps
    same = ap (map unkept) kept ∙ all_unkept number count chunk v.snaps

    pub there : k < length snaps
    there = (let n = hidden_length unkept snaps v.snaps same in let w = within in omega (arith, w, n))

    like : unkept s ≡ unkept was
    like = ap unkept is ∙ sym (hidden_at unkept snaps v.snaps same k s there)

    pub live_now : s.live ≡ true
    live_now = ap (λ (t : Kept B). t.live) like ∙ live_at was was_is

    pub number_now : s.number ≡ number
    number_now = ap (λ (t : Kept B). t.number) like ∙ number_at was was_is

    pub idle_now : s.copies ≡ []
    idle_now = ap (λ (t : Kept B). t.copies) like ∙ idle_at was was_is

    pub unmarked_now : s.marks ≡ []
    unmarked_now = ap (λ (t : Kept B). t.marks) like ∙ unmarked_at was was_is

    pub chunk_now : s.state.chunk ≡ was.state.chunk
    chunk_now = ap (λ (t : Kept B). t.state.chunk) like

    module _ (contents : B → List ℕ) (layers : B → List Layer) (size : B → ℕ) (h : IsWhole contents layers size v) (buffer : List ℕ) (sized : length buffer ≡ 512 * s.state.chunk) (counts : count ≡ length was.pairs) (chunks : chunk ≡ was.state.chunk) where
      abbrev kept_volume : Volumed B
      kept_volume = record v { snaps = snaps }

      abbrev final : Volumed B
      final = record v { snaps = remove snaps k; merge = Some (merging_from s buffer) }

      whole_now : IsWhole contents layers size kept_volume
      whole_now = whole_kept contents layers size v snaps same alone (quiet_done v calm) h

      none : v.flights ≡ []
      none = quiet_flights v calm

      pairs_now : count ≡ length s.pairs
      pairs_now = counts ∙ sym (ap (λ (t : Kept B). length t.pairs) like)

      chunks_now : chunk ≡ s.state.chunk
      chunks_now = chunks ∙ sym chunk_now

      keeps : All (KeepsFor s.number (length s.pairs) s.state.chunk) snaps
      keeps =
          subst (λ (xs : List (Kept B)). All (KeepsFor s.number (length s.pairs) s.state.chunk) xs) (sym kept)
          (subst (λ n. All (KeepsFor n (length s.pairs) s.state.chunk) (map (kept_for number count chunk) v.snaps)) (sym number_now)
          (subst (λ n. All (KeepsFor number n s.state.chunk) (map (kept_for number count chunk) v.snaps)) pairs_now
          (subst (λ n. All (KeepsFor number count n) (map (kept_for number count chunk) v.snaps)) chunks_now
          (All-map (KeepsFor number count chunk) (kept_for number count chunk) v.snaps (λ j d lt. kept_keeps number count chunk (get_or v.snaps j d))))))

      pub whole_after : IsWhole contents layers size (record v { snaps = remove snaps k; merge = Some (merging_from s buffer) })
      whole_after = whole_begun contents layers size kept_volume k s buffer there is whole_now alone none live_now idle_now sized keeps

      pub plain_after : IsBegun (plain_of contents layers v) number (plain_of contents layers (record v { snaps = remove snaps k; merge = Some (merging_from s buffer) }))
      plain_after =
          subst (λ (p : Plain). IsBegun p number (plain_of contents layers final)) (plain_kept contents layers size v snaps same)
          (subst (λ n. IsBegun (plain_of contents layers kept_volume) n (plain_of contents layers final)) number_now
          (plain_begun contents layers size kept_volume k s buffer there is whole_now alone none live_now idle_now sized))

      first : IsFirst (λ (t : Kept B). t.number == number) k s snaps
      first =
          let old = first_position (λ (t : Kept B). nat_eq t.number number) k was v.snaps was_is (sym place) in
          record {
            within = there;
            is = is;
            passes = ap (λ (t : Kept B). nat_eq t.number number) like ∙ old.passes;
            before = λ i d lt.
                (let below : i < length snaps = (let t = there in omega (arith, t, lt)) in
                sym (ap (λ (t : Kept B). nat_eq t.number number) (hidden_at unkept snaps v.snaps same i d below)) ∙ old.before i d lt);
          }

      pub exact_after : (replied : Option Reply) → begun number (moving_of contents layers replied v) ≡ moving_of contents layers replied (record v { snaps = remove snaps k; merge = Some (merging_from s buffer) })
      exact_after replied =
          ap (begun number) (sym (moving_kept contents layers size v snaps same replied))
          ∙ exact_begun contents layers size kept_volume k s buffer there is whole_now alone none live_now idle_now sized number first replied

      pub loud_after : is_loud_in_all layers (record v { snaps = remove snaps k; merge = Some (merging_from s buffer) }) ≡ is_loud_in_all layers v
      loud_after =
          loud_begun contents layers size kept_volume k s buffer there is whole_now alone none live_now idle_now sized
          ∙ loud_kept contents layers size v snaps same

      pub is_begun : IsMergeBegun number v (record v { snaps = remove snaps k; merge = Some (merging_from s buffer) })
      is_begun =
          let made : List (Kept B) → Merging B → Volumed B = λ (xs : List (Kept B)) (m : Merging B). record v { snaps = xs; merge = Some m } in
          record {
            place = k;
            snap = was;
            buffer = buffer;
            found = sym place;
            is = was_is;
            becomes =
                ap (λ (xs : List (Kept B)). made (remove xs k) (merging_from s buffer)) kept
                ∙ ap (λ (xs : List (Kept B)). made xs (merging_from s buffer)) (sym (map-remove (kept_for number count chunk) v.snaps k))
                ∙ ap (λ n. made (map (kept_for number n chunk) (remove v.snaps k)) (merging_from s buffer)) counts
                ∙ ap (λ n. made (map (kept_for number (length was.pairs) n) (remove v.snaps k)) (merging_from s buffer)) chunks
                ∙ ap (λ (t : Kept B). made (map (kept_for number (length was.pairs) was.state.chunk) (remove v.snaps k)) (merging_from t buffer)) like;
          }
