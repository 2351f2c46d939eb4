-- A quiet volume whose devices drop no writes is at rest.
use Rattle.std.proofs.Common.{◌≡◌, inl, inr, ℕ, suc, ◌+◌, ◌<◌, ◌≤◌, Bool, true, false, List, [], ◌∷◌, length, get_or, drop, map, refl, sym, ◌∙◌, ap, subst, arith, nat_eq, Option, Some, None}
use Rattle.std.specs.Prelude.{◌&&◌, not}
use Rattle.std.specs.List.{All, list_all}
use Rattle.std.proofs.lemmas.Bool.{cases_lt, eqb-true}
use Rattle.std.proofs.lemmas.List.{drop_more, nil_from_length, get_or_default}
use Rattle.std.proofs.lemmas.List.Elements.{All-cons}
use Rattle.device.specs.Layers.{Layer, is_loud}
use Rattle.plain_machine.specs.declared.request.Reply.{Reply}
use Rattle.whole_commands.specs.Order.{IsInOrder}
use Rattle.event_machine.specs.Held.{MergeHeld}
use Rattle.event_machine.specs.MergeRest.{IsMergeResting, IsBetween}
use Rattle.event_machine.specs.MergeSeen.{MergeSeen, held_in, merge_held_of as held_merge}
use Rattle.event_machine.specs.MergeStepping.{without_group}
use Rattle.event_machine.specs.Rest.{IsResting, IsAtRest}
use Rattle.event_machine.specs.Seen.{copying_of, going_of}
use Rattle.snapshot.specs.Kept.{Kept}
use Rattle.merge.specs.declared.group.Group.{Group}
use Rattle.merge.specs.Merging.{Merging, due_of as merging_due}
use Rattle.volume.specs.Volumed.{Volumed, is_loud_in_all, is_loud_with}
use Rattle.volume.specs.Whole.{IsAttached, IsWhole}
use Rattle.volume.specs.Moved.{held_of, moving_of, merge_seen}
use Rattle.volume.specs.Leaving.{IsStillOn, has_group_in, is_done_of}
use Rattle.volume.proofs.MergeDue.{merge_holds}
use Rattle.volume.proofs.Quieted.{no_group}
use Rattle.volume.proofs.Shown.{loud_others}

and_first : (a b : Bool) → (a && b) ≡ true → a ≡ true
and_first true b h = refl
and_first false b h = h

and_second : (a b : Bool) → (a && b) ≡ true → b ≡ true
and_second true b h = h
and_second false b h = absurd (cc)

not_true : (a : Bool) → not a ≡ true → a ≡ false
not_true true h = sym h
not_true false h = refl

-- the test of the first of a list's rest is passed
pub all_passes : {X : Type 0} (f : X → Bool) (xs : List X) (n : ℕ) (x : X) → n < length xs → x ≡ get_or xs n x → f x ≡ true → list_all f (drop n xs) ≡ list_all f (drop (n + 1) xs)
all_passes f xs n x within is passed =
    ap (list_all f) (drop_more xs n x within) ∙ ap (λ b. b && list_all f (drop (n + 1) xs)) (ap f (sym is) ∙ passed)

-- a merge as the machine's looks see it
abbrev pub merge_seen_of : {B : Type 0} → (B → List ℕ) → (B → List Layer) → Merging B → MergeSeen
merge_seen_of contents layers m = record { due = merging_due contents true m; layers = layers m.device; next = m.next }

module _ {B : Type 0} (contents : B → List ℕ) (layers : B → List Layer) where
  -- one more snapshot is still
  pub still_more : (snaps : List (Kept B)) (n : ℕ) (s : Kept B) → n < length snaps → s ≡ get_or snaps n s → ((i : ℕ) (d : Kept B) → i < n → IsStillOn contents layers (get_or snaps i d)) → IsStillOn contents layers s → (i : ℕ) (d : Kept B) → i < n + 1 → IsStillOn contents layers (get_or snaps i d)
  still_more snaps n s within is before here i d below = elim (cases_lt i n) [
    | inl lower ↦ before i d lower
    | inr last ↦ (let same : i ≡ n = omega (arith, below, last) in
        let at : s ≡ get_or snaps n d = is ∙ get_or_default snaps n s d within in
        subst (λ (k : ℕ). IsStillOn contents layers (get_or snaps k d)) (sym same) (subst (IsStillOn contents layers) at here))
  ]

  -- nothing is left to do for a snapshot that is done
  resting : (sectors : ℕ) (s : Kept B) → sectors ≤ 2_147_483_648 → s.state.origin ≡ sectors → is_done_of s ≡ true → is_loud (layers s.device) ≡ true → IsStillOn contents layers s → IsResting sectors (held_of contents layers s)
  resting sectors s small origin done loud still =
      let lists : (nat_eq (length s.copies) 0 && nat_eq (length s.marks) 0) ≡ true = and_first (nat_eq (length s.copies) 0 && nat_eq (length s.marks) 0) (not s.untried) done in
      record {
        tried = not_true s.untried (and_second (nat_eq (length s.copies) 0 && nat_eq (length s.marks) 0) (not s.untried) done);
        copies = ap (λ cs. map copying_of cs) (nil_from_length s.copies (eqb-true (length s.copies) 0 (and_first (nat_eq (length s.copies) 0) (nat_eq (length s.marks) 0) lists)));
        marks = nil_from_length s.marks (eqb-true (length s.marks) 0 (and_second (nat_eq (length s.copies) 0) (nat_eq (length s.marks) 0) lists));
        live = λ alive.
            (let is = still alive loud (omega (arith, small, origin)) in record {
              order = (s.state.size, subst (λ (n : ℕ). IsInOrder s.state.chunk n s.state.size (contents s.device)) origin is.order);
              pairs = is.pairs;
              next = is.next;
              zeroed = is.zeroed;
              firm = is.firm;
              unmarked = is.unmarked;
            });
      }

  all_resting : (copies sectors : ℕ) (ss : List (Kept B)) → sectors ≤ 2_147_483_648 → All (IsAttached copies sectors) ss → All (IsStillOn contents layers) ss → list_all is_done_of ss ≡ true → list_all (λ s. is_loud (layers s.device)) ss ≡ true → All (IsResting sectors) (map (held_of contents layers) ss)
  all_resting copies sectors [] small attached still done loud = λ k d below. absurd (omega (arith, below))
  all_resting copies sectors (s ∷ ss) small attached still done loud =
      All-cons (IsResting sectors) (held_of contents layers s) (map (held_of contents layers) ss)
      (resting sectors s small (attached 0 s (omega arith)).origin (and_first (is_done_of s) (list_all is_done_of ss) done) (and_first (is_loud (layers s.device)) (list_all (λ (t : Kept B). is_loud (layers t.device)) ss) loud) (still 0 s (omega arith)))
      (all_resting copies sectors ss small (λ k d below. attached (suc k) d (omega (arith, below))) (λ k d below. still (suc k) d (omega (arith, below)))
      (and_second (is_done_of s) (list_all is_done_of ss) done) (and_second (is_loud (layers s.device)) (list_all (λ (t : Kept B). is_loud (layers t.device)) ss) loud))

  -- no request is in flight, no group of the merge is formed, and each snapshot is done
  module _ (size : B → ℕ) (v : Volumed B) (replied : Option Reply) (whole : IsWhole contents layers size v) (small : size v.origin ≤ 2_147_483_648) (none : v.flights ≡ []) (done : list_all is_done_of v.snaps ≡ true) (still : All (IsStillOn contents layers) v.snaps) (loud : is_loud_in_all layers v ≡ true) where
    snaps_rest : All (IsResting (size v.origin)) (map (held_of contents layers) v.snaps)
    snaps_rest = all_resting v.copies (size v.origin) v.snaps small whole.snaps still done (and_second (is_loud (layers v.origin)) (list_all (λ (s : Kept B). is_loud (layers s.device)) v.snaps) (loud_others contents layers size v loud))

    pub rests : v.merge ≡ None → IsAtRest (size v.origin) (moving_of contents layers replied v)
    rests alone = record {
      whole = whole.holds.whole;
      snaps = snaps_rest;
      requests = ap (λ fs. map going_of fs) none;
      alone = ap (λ (m : Option (Merging B)). held_in (merge_seen contents layers m)) alone;
    }

    -- a merge without a group rests: where its store's writes are done, its pairs are those of the store's bytes
    loud_merge : (m : Merging B) → v.merge ≡ Some m → (is_loud (layers v.origin) && is_loud (layers m.device)) ≡ true
    loud_merge m is =
        let others : Bool = is_loud (layers v.origin) && list_all (λ (s : Kept B). is_loud (layers s.device)) v.snaps in
        let all : (others && is_loud (layers m.device)) ≡ true = ap (λ (x : Option (Merging B)). is_loud_with layers x others) (sym is) ∙ loud in
        ap (λ b. b && is_loud (layers m.device)) (and_first (is_loud (layers v.origin)) (list_all (λ (s : Kept B). is_loud (layers s.device)) v.snaps) (and_first others (is_loud (layers m.device)) all))
        ∙ and_second others (is_loud (layers m.device)) all

    merge_rests : (m : Merging B) → v.merge ≡ Some m → m.group ≡ None → IsMergeResting (held_merge (merge_seen_of contents layers m))
    merge_rests m is free = record {
      pairs = (merge_holds contents layers size v whole m is).stored (loud_merge m is);
      free = subst (λ (group : Option Group). without_group (held_merge (merge_seen_of contents layers (record m { group = group }))) ≡ held_merge (merge_seen_of contents layers (record m { group = group }))) (sym free) refl;
    }

    merges_rest : (merge : Option (Merging B)) → v.merge ≡ merge → has_group_in merge ≡ false → (m : MergeHeld) → held_in (merge_seen contents layers merge) ≡ Some m → IsMergeResting m
    merges_rest None is free m held = absurd (cc)
    merges_rest (Some x) is free m held =
        let same : held_merge (merge_seen_of contents layers x) ≡ m = cc in
        subst IsMergeResting same (merge_rests x is (no_group x.group free))

    pub between : has_group_in v.merge ≡ false → IsBetween (size v.origin) (moving_of contents layers replied v)
    between free = record {
      whole = whole.holds.whole;
      snaps = snaps_rest;
      requests = ap (λ fs. map going_of fs) none;
      merge = merges_rest v.merge refl free;
    }
