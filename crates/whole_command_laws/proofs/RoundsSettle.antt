-- The chunks that a merged chunk touches are saved, event by event: in each round one of every snapshot that lacks one, and the
-- publication of its copy starts its next. They leave what the big step's rounds say.
use Rattle.std.proofs.Common.{◌≡◌, ◌⊎◌, inl, inr, ℕ, zero, suc, ◌+◌, ◌*◌, ◌/◌, ◌<◌, ◌≤◌, Bool, true, false, List, [], ◌∷◌, ◌++◌, length, map, Option, Some, arith, refl, ap, ◌∙◌, sym, subst, append_assoc}
use Rattle.std.specs.Prelude.{◌&&◌, ◌||◌, not, is_some, nat_lt}
use Rattle.std.specs.List.{list_any, list_all}
use Rattle.std.specs.Option.{unwrap_or}
use Rattle.std.proofs.lemmas.Bool.{cases_Bool, cond-true, cond-false, true≢false}
use Rattle.sector.specs.declared.pair.Pair.{Pair}
use Rattle.plain_machine.specs.declared.request.Reply.{Reply}
use Rattle.chunk.specs.Pieces.{chunks_over}
use Rattle.cow_format.specs.NextPlace.{stepped}
use Rattle.cow_format.specs.Picture.{place_of}
use Rattle.in_flight.specs.Copies.{count_of}
use Rattle.in_flight.specs.declared.copies.Mark.{Mark}
use Rattle.in_flight.specs.declared.copies.Stage.TheVariants.{Waiting}
use Rattle.volume_laws.specs.Published.{is_published}
use Rattle.whole_commands.specs.Devices.{Device, met}
use Rattle.whole_commands.specs.Snaps.{Snap, Volume}
use Rattle.whole_commands.specs.Saving.{Saving, spoilt, next_place, is_full, has_chunk, save}
use Rattle.whole_commands.specs.Pieces.{save_at}
use Rattle.whole_commands.specs.Merges.{next_over as next_of_snap, unsaved_in, saved_rounds}
use Rattle.whole_commands.specs.MergeShown.{IsWell}
use Rattle.whole_commands.proofs.Each.{Each, each_weaker, each_more}
use Rattle.whole_commands.proofs.Saves.{saves_nothing, saves_full, saves_copy, chunk_read}
use Rattle.whole_commands.proofs.SavedBytes.{save_at_bytes}
use Rattle.whole_commands.proofs.Rounds.{first_same, next_inside, next_has, none_next}
use Rattle.whole_commands.proofs.RoundSaves.{HasSize, HasOver, all_over}
use Rattle.event_machine.specs.Held.{SnapHeld, Going, MergeHeld, Moving, spoiled, is_untried}
use Rattle.event_machine.specs.Due.{copy_at, least_in}
use Rattle.event_machine.specs.Again.{unpublished_in, next_over, is_saved_over, is_clear_over}
use Rattle.event_machine.specs.MergeDue.{next_of}
use Rattle.event_machine.specs.MergeStepping.{start_next, start_waiting}
use Rattle.event_machine.specs.Rest.{IsKept, IsResting}
use Rattle.event_machine.specs.Submitting.{needs_none, is_filled, with_copy, started_all, started_by, start_copies}
use Rattle.event_machine.proofs.Around.{at_with, IsIdle, IsLater, IsBefore}
use Rattle.whole_command_laws.proofs.Goes.{Goes, goes_none, goes_on}
use Rattle.whole_command_laws.proofs.Stages.{holding, copying, marks_here}
use Rattle.whole_command_laws.proofs.Ends.{started_if, Ends, ends_read}
use Rattle.whole_command_laws.proofs.Resting.{rests_live, saved_snap}
use Rattle.whole_command_laws.proofs.Starts.{needs_same, next_same, copy_bytes, as_holding}
use Rattle.whole_command_laws.proofs.Primed.{tried_of, primed, primed_none, primed_full, primed_copy, refused_none, resting_idle, primed_later, primed_above, least_low}
use Rattle.whole_command_laws.proofs.SavesSettle.{snap_of, goes_between, none_routed, tries_all}
use Rattle.whole_command_laws.proofs.Waits.{Needs, primed_needs, primed_still, started_still, by_none, by_full, by_copy, by_more, mid_none, mid_full, mid_copy, IsReady, idle_ready, copy_ready}

-- where all chunks are published that these sectors touch, and no mark is untried
pub clear_over : (first count : ℕ) (snaps : List SnapHeld) → Each (λ d. is_saved_over first count d ≡ true) snaps → Each IsIdle snaps → is_clear_over snaps first count ≡ true
clear_over first count snaps saved idle = ap (λ b. b && not (list_any is_untried snaps)) (all_each snaps saved) ∙ ap not (any_none snaps idle)
  where
    all_each : (xs : List SnapHeld) → Each (λ d. is_saved_over first count d ≡ true) xs → list_all (is_saved_over first count) xs ≡ true
    all_each [] all = refl
    all_each (x ∷ xs) all = ap (λ b. b && list_all (is_saved_over first count) xs) all.0 ∙ all_each xs all.1

    any_none : (xs : List SnapHeld) → Each IsIdle xs → list_any is_untried xs ≡ false
    any_none [] all = refl
    any_none (x ∷ xs) all = ap (λ b. b || list_any is_untried xs) all.0.tried ∙ any_none xs all.1

-- a snapshot at rest has published what its store has
module _ (sectors first count : ℕ) where
  and_true : (b : Bool) → (b && true) ≡ b
  and_true true = refl
  and_true false = refl

  pub unpublished_same : (h : SnapHeld) → IsResting sectors h → h.snap.live ≡ true → unpublished_in first count h ≡ unsaved_in first count h.snap
  unpublished_same h rest on =
      first_same (λ c. not (is_published h.pairs h.marks c)) (λ c. not (has_chunk c h.snap)) (chunks_over h.snap.chunk first count)
      (λ c. ap not (ap (λ (ms : List Mark). is_published h.pairs ms c) rest.marks ∙ and_true (is_some (place_of h.pairs c)) ∙ ap (λ ps. is_some (place_of ps c)) (sym (rest.live on).pairs)))

  pub wanted_same : (h : SnapHeld) → IsResting sectors h → h.snap.live ≡ true → next_over first count h ≡ next_of_snap first count h.snap
  wanted_same h rest on = ap (λ o. unwrap_or o (first / h.snap.chunk)) (unpublished_same h rest on)

  pub kept_well : (snaps : List SnapHeld) → Each (IsResting sectors) snaps → Each (IsWell sectors) (map snap_of snaps)
  kept_well [] rest = tt
  kept_well (h ∷ snaps) rest = (λ on. (rest.0.live on).order, kept_well snaps rest.1)

module _ (m : MergeHeld) (q : Pair) (next : next_of m ≡ Some q) (sectors : ℕ) (a : Option Reply) where
  abbrev pub first_in : ℕ
  first_in = m.merge.chunk * q.old

  abbrev pub count_in : ℕ
  count_in = count_of m.merge.chunk sectors q.old

  -- the chunk that is copied next in a snapshot
  abbrev pub wanted : SnapHeld → ℕ
  wanted h = next_over (m.merge.chunk * q.old) (count_of m.merge.chunk sectors q.old) h

  abbrev pub wanted_of : Snap → ℕ
  wanted_of s = next_of_snap (m.merge.chunk * q.old) (count_of m.merge.chunk sectors q.old) s

  -- the volume with no request in flight
  abbrev pub beside : Device → List SnapHeld → ℕ → Moving
  beside origin snaps k = at_with (Some m) origin snaps [] a k

  size_is : (n : ℕ) → n ≡ 512 * sectors → n / 512 ≡ sectors
  size_is n e = omega arith

  pub starts_are : (origin : Device) (snaps : List SnapHeld) (k : ℕ) → length origin.bytes ≡ 512 * sectors → start_waiting (beside origin snaps k) ≡ beside origin (started_all wanted k snaps) (started_by wanted k snaps)
  starts_are origin snaps k whole =
      ap (λ o. start_next m.merge.chunk o (beside origin snaps k)) next
      ∙ ap (λ n. start_copies (next_over (m.merge.chunk * q.old) (count_of m.merge.chunk n q.old)) (beside origin snaps k)) (size_is (length origin.bytes) whole)
      ∙ ap (λ (rs : List Going). at_with (Some m) origin (started_all wanted k snaps) rs a (started_by wanted k snaps)) (refused_none wanted snaps)

  -- the snapshots once a round came to its end, and the next is begun
  pub record RoundEnds (v : Moving) (origin : Device) (done snaps : List SnapHeld) (k : ℕ) : Type 0 where
    pub finals : List SnapHeld
    pub goes : Goes start_waiting v (beside (save_at wanted_of origin (map snap_of snaps)).origin (done ++ primed wanted k finals) (started_by wanted k finals))
    pub same : map snap_of finals ≡ (save_at wanted_of origin (map snap_of snaps)).snaps
    pub rest : Each (IsResting sectors) finals

  -- one snapshot, which becomes this one, and stands in the list as that one, and then those after it
  round_more : (origin : Device) (done snaps : List SnapHeld) (h y z : SnapHeld) (n n' k k' : ℕ) (x : Saving) → save (wanted_of h.snap) origin h.snap ≡ x → y.snap ≡ x.snap → IsResting sectors y
      → ((ys : List SnapHeld) → primed wanted k (y ∷ ys) ≡ z ∷ primed wanted k' ys) → ((ys : List SnapHeld) → started_by wanted k (y ∷ ys) ≡ started_by wanted k' ys)
      → Goes start_waiting (beside origin (done ++ primed wanted n (h ∷ snaps)) k) (beside x.origin (done ++ z ∷ primed wanted n' snaps) k')
      → RoundEnds (beside x.origin ((done ++ z ∷ []) ++ primed wanted n' snaps) k') x.origin (done ++ z ∷ []) snaps k'
      → RoundEnds (beside origin (done ++ primed wanted n (h ∷ snaps)) k) origin done (h ∷ snaps) k
  round_more origin done snaps h y z n n' k k' x is same rest stands counts goes more =
      let then_all : Saving → Volume = λ (s : Saving). record { origin = (save_at wanted_of s.origin (map snap_of snaps)).origin; snaps = s.snap ∷ (save_at wanted_of s.origin (map snap_of snaps)).snaps } in
      let all : save_at wanted_of origin (map snap_of (h ∷ snaps)) ≡ then_all x = ap then_all is in
      let O : Device = (save_at wanted_of x.origin (map snap_of snaps)).origin in
      let shifts : beside x.origin (done ++ z ∷ primed wanted n' snaps) k' ≡ beside x.origin ((done ++ z ∷ []) ++ primed wanted n' snaps) k' = ap (λ xs. beside x.origin xs k') (sym (append_assoc done (z ∷ []) (primed wanted n' snaps))) in
      let ends : beside O ((done ++ z ∷ []) ++ primed wanted k' more.finals) (started_by wanted k' more.finals) ≡ beside O (done ++ primed wanted k (y ∷ more.finals)) (started_by wanted k (y ∷ more.finals)) =
      ap (λ xs. beside O xs (started_by wanted k' more.finals)) (append_assoc done (z ∷ []) (primed wanted k' more.finals) ∙ ap (λ xs. done ++ xs) (sym (stands more.finals)))
      ∙ ap (beside O (done ++ primed wanted k (y ∷ more.finals))) (sym (counts more.finals)) in
      record {
        finals = y ∷ more.finals;
        goes = goes_on _ _ _ goes (goes_between _ _ _ _ shifts (ends ∙ ap (λ (v : Volume). beside v.origin (done ++ primed wanted k (y ∷ more.finals)) (started_by wanted k (y ∷ more.finals))) (sym all)) more.goes);
        same = ap (λ s. s ∷ map snap_of more.finals) same ∙ ap (λ ss. x.snap ∷ ss) more.same ∙ sym (ap (λ (v : Volume). v.snaps) all);
        rest = (rest, more.rest);
      }

  abbrev stays : (n c : ℕ) (h : SnapHeld) → wanted (with_copy n c h) ≡ wanted h
  stays n c h = refl

  abbrev IsReadyHere : ℕ → SnapHeld → Type 0
  IsReadyHere last h = IsReady wanted stays last h

  -- the big step's chunk is the same
  nothing_same : (h : SnapHeld) → IsResting sectors h → needs_none (wanted h) h ≡ true → (not h.snap.live || has_chunk (wanted_of h.snap) h.snap) ≡ true
  nothing_same h rest none = elim (cases_Bool h.snap.live) [
    | inr out ↦ ap (λ b. not b || has_chunk (wanted_of h.snap) h.snap) out
    | inl on ↦ ap (λ c. not h.snap.live || has_chunk c h.snap) (sym (wanted_same sectors first_in count_in h rest on)) ∙ sym (needs_same sectors (wanted h) h rest) ∙ none
  ]

  or_false : (x y : Bool) → (not x || y) ≡ false → (x ≡ true) × (y ≡ false)
  or_false true y e = (refl, e)
  or_false false y e = absurd (true≢false e)

  tried_rests : (h : SnapHeld) → IsResting sectors (tried_of h)
  tried_rests h = record { tried = refl; copies = refl; marks = refl; live = λ live. absurd (true≢false (sym live)) }

  module _ (some : 0 < count_in) (inside : first_in + count_in ≤ sectors) where
    -- What is left of a snapshot's copy, and what its publication starts in that snapshot: this one stands in the list, under
    -- so many copies.
    record Again (v : Moving) (origin : Device) (done rest : List SnapHeld) (h : SnapHeld) (last k : ℕ) : Type 0 where
      pub stands : SnapHeld
      pub count : ℕ
      pub up : k ≤ count
      pub goes : Goes start_waiting v (beside origin (done ++ stands ∷ rest) count)
      pub primes : (ys : List SnapHeld) → primed wanted k (h ∷ ys) ≡ stands ∷ primed wanted count ys
      pub counts : (ys : List SnapHeld) → started_by wanted k (h ∷ ys) ≡ started_by wanted count ys
      pub ready : IsReadyHere last stands

    again_after : (v : Moving) (origin : Device) (done rest : List SnapHeld) (h : SnapHeld) (last k : ℕ) → length origin.bytes ≡ 512 * sectors → last ≤ k → Each (IsReadyHere last) done → Each (Needs wanted stays) rest → Each IsLater rest → IsResting sectors h
        → Goes start_waiting v (started_if start_waiting h.snap.live (beside origin (done ++ h ∷ rest) k)) → Again v origin done rest h last k
    again_after v origin done rest h last k whole low before behind later resting goes =
        let idle : IsIdle h = resting_idle sectors h resting in
        let needs : Each (Needs wanted stays) done = each_weaker (IsReadyHere last) (Needs wanted stays) done (λ d r. r.needs) before in
        let began : h.snap.live ≡ true → Goes start_waiting v (beside origin (started_all wanted k (done ++ h ∷ rest)) (started_by wanted k (done ++ h ∷ rest))) = λ on.
        subst (Goes start_waiting v) (cond-true _ _ _ on ∙ starts_are origin (done ++ h ∷ rest) k whole) goes in
        elim (cases_Bool (needs_none (wanted h) h)) [
          | inl none ↦ record {
            stands = h;
            count = k;
            up = omega arith;
            goes = elim (cases_Bool h.snap.live) [
              | inr out ↦ subst (Goes start_waiting v) (cond-false _ _ _ out) goes
              | inl on ↦ (let is = mid_none wanted stays k done rest h needs behind none in
                  subst (Goes start_waiting v) (ap (λ xs. beside origin xs (started_by wanted k (done ++ h ∷ rest))) is.0 ∙ ap (beside origin (done ++ h ∷ rest)) is.1) (began on))
            ];
            primes = λ ys. primed_none wanted k h ys none;
            counts = λ ys. by_none wanted stays k h ys none;
            ready = idle_ready wanted stays last h idle none;
          }
          | inr lacks ↦ (let on : h.snap.live ≡ true = (or_false h.snap.live (has_chunk (wanted h) h.snap) (sym (needs_same sectors (wanted h) h resting) ∙ lacks)).0 in
              elim (cases_Bool (is_filled h)) [
                | inl full ↦ record {
                  stands = tried_of h;
                  count = k;
                  up = omega arith;
                  goes = (let is = mid_full wanted stays k done rest h needs behind lacks full in
                      let sooner : Each IsLater done = each_weaker (IsReadyHere last) IsLater done (λ d r. r.later) before in
                      goes_on _ _ _ (subst (Goes start_waiting v) (ap (λ xs. beside origin xs (started_by wanted k (done ++ h ∷ rest))) is.0 ∙ ap (beside origin (done ++ spoiled h ∷ rest)) is.1) (began on))
                      (marks_here (Some m) origin done rest [] a k h (resting.live on).unmarked sooner later));
                  primes = λ ys. primed_full wanted k h ys lacks full;
                  counts = λ ys. by_full wanted stays k h ys full;
                  ready = idle_ready wanted stays last (tried_of h) (record { tried = refl; copies = refl; marks = refl }) refl;
                }
                | inr room ↦ record {
                  stands = with_copy (k + 1) (wanted h) h;
                  count = k + 1;
                  up = omega arith;
                  goes = (let is = mid_copy wanted stays k done rest h needs behind lacks room in
                      subst (Goes start_waiting v) (ap (λ xs. beside origin xs (started_by wanted k (done ++ h ∷ rest))) is.0 ∙ ap (beside origin (done ++ with_copy (k + 1) (wanted h) h ∷ rest)) is.1) (began on));
                  primes = λ ys. primed_copy wanted k h ys lacks room;
                  counts = λ ys. by_copy wanted stays k h ys lacks room;
                  ready = copy_ready wanted stays last k h low idle;
                }
              ])
        ]

    -- one snapshot's copy comes to its end
    record CopyEnds (origin : Device) (done snaps : List SnapHeld) (h : SnapHeld) (n k last : ℕ) : Type 0 where
      pub held : SnapHeld
      pub snap : held.snap ≡ saved_snap sectors (wanted h) origin h h
      pub rest : IsResting sectors held
      pub again : Again (beside origin (done ++ primed wanted n (h ∷ snaps)) k) (met origin (chunk_read (wanted h) origin h.snap)) done (primed wanted (n + 1) snaps) held last k

    copy_ends : (origin : Device) (done snaps : List SnapHeld) (h : SnapHeld) (n k last : ℕ) → length origin.bytes ≡ 512 * sectors → n + 1 ≤ last → last ≤ k → Each (IsReadyHere last) done → Each IsIdle snaps → IsResting sectors h → h.snap.live ≡ true → needs_none (wanted h) h ≡ false → has_chunk (wanted h) h.snap ≡ false → is_filled h ≡ false → is_full h.snap ≡ false
        → CopyEnds origin done snaps h n k last
    copy_ends origin done snaps h n k last whole below low before idle resting on lacking lacks filled room =
        let c : ℕ = wanted h in
        let s : Snap = h.snap in
        let kept : IsKept sectors h = resting.live on in
        let p : Pair = record { old = c; new = next_place s } in
        let nx : ℕ = stepped s.chunk (next_place s + 1) in
        let rest : List SnapHeld = primed wanted (n + 1) snaps in
        let start : SnapHeld = holding s h.pairs nx false false (copying (n + 1) p Waiting [] ∷ []) [] in
        let v : Moving = beside origin (done ++ primed wanted n (h ∷ snaps)) k in
        let after : Device = met origin (chunk_read c origin s) in
        let e : Ends start_waiting (Some m) done rest [] a k after (beside origin (done ++ start ∷ rest) k) (h.pairs ++ p ∷ []) nx (saved_snap sectors c origin h h) =
        ends_read start_waiting (Some m) done rest [] a k (n + 1) p h.pairs nx (each_weaker (IsReadyHere last) (IsBefore (n + 1)) done (λ d r. r.before (n + 1) below) before) (primed_later wanted (n + 1) snaps idle) (λ d x. refl) origin s kept.order.1.some on kept.pairs
        (copy_bytes sectors origin s c (next_place s) whole) (least_low (n + 1) (least_in (copy_at Waiting) rest) (primed_above wanted (n + 1) snaps idle)) in
        let begins : v ≡ beside origin (done ++ start ∷ rest) k = ap (λ xs. beside origin (done ++ xs) k) (primed_copy wanted n h snaps lacking filled ∙ ap (λ (w : SnapHeld). w ∷ rest) (as_holding sectors c (n + 1) h resting kept)) in
        let fits : s.chunk * c < sectors = subst (λ (x : ℕ). s.chunk * x < sectors) (sym (wanted_same sectors first_in count_in h resting on)) (next_inside sectors first_in count_in s kept.order.1.some some inside) in
        let rests : IsResting sectors e.held = record {
          tried = e.idle.tried;
          copies = e.idle.copies;
          marks = e.idle.marks;
          live = λ live. rests_live sectors c origin h e.held whole kept on fits lacks room e.snap (e.pairs live) (e.next live) (e.zeroed live) (e.firm live) (e.unmarked live) live;
        } in
        record {
          held = e.held;
          snap = e.snap;
          rest = rests;
          again = again_after v after done rest e.held last k whole low before (primed_needs wanted stays (n + 1) snaps idle) (primed_later wanted (n + 1) snaps idle) rests (goes_between _ _ _ _ begins refl e.goes);
        }

    -- the copies of one snapshot after the other
    round_all : (snaps : List SnapHeld) (origin : Device) (done : List SnapHeld) (n k last : ℕ) → length origin.bytes ≡ 512 * sectors → Each (IsReadyHere last) done → Each (IsResting sectors) snaps → started_by wanted n snaps ≤ last → last ≤ k
        → RoundEnds (beside origin (done ++ primed wanted n snaps) k) origin done snaps k
    round_all [] origin done n k last whole before rest few low = record { finals = []; goes = goes_none _; same = refl; rest = tt }
    round_all (h ∷ snaps) origin done n k last whole before rest few low =
        let c : ℕ = wanted h in
        let s : Snap = h.snap in
        let needs : needs_none c h ≡ (not s.live || has_chunk c s) = needs_same sectors c h rest.0 in
        let idle : IsIdle h = resting_idle sectors h rest.0 in
        elim (cases_Bool (needs_none c h)) [
          | inl none ↦ round_more origin done snaps h h h n n k k (record { origin = origin; snap = s }) (saves_nothing (wanted_of s) origin s (nothing_same h rest.0 none)) refl rest.0
              (λ ys. primed_none wanted k h ys none) (λ ys. by_none wanted stays k h ys none)
              (goes_between _ _ _ _ (ap (λ xs. beside origin (done ++ xs) k) (primed_none wanted n h snaps none)) refl (goes_none (beside origin (done ++ h ∷ primed wanted n snaps) k)))
              (round_all snaps origin (done ++ h ∷ []) n k last whole (each_more (IsReadyHere last) done h before (idle_ready wanted stays last h idle none)) rest.1
              (subst (λ (x : ℕ). x ≤ last) (by_none wanted stays n h snaps none) few) low)
          | inr lacking ↦ (let both = or_false s.live (has_chunk c s) (sym needs ∙ lacking) in
              let kept = rest.0.live both.0 in
              let same : wanted_of s ≡ c = sym (wanted_same sectors first_in count_in h rest.0 both.0) in
              let saves : save (wanted_of s) origin s ≡ save c origin s = ap (λ x. save x origin s) same in
              let full_same : is_filled h ≡ is_full s = ap (λ x. nat_lt (length s.store.bytes) (512 * (s.chunk * (x + 1)))) (next_same sectors h kept) in
              elim (cases_Bool (is_filled h)) [
                | inl full ↦ round_more origin done snaps h (tried_of h) (tried_of h) n n k k (record { origin = origin; snap = spoilt s }) (saves ∙ saves_full c origin s (sym needs ∙ lacking) (sym full_same ∙ full)) refl (tried_rests h)
                    (λ ys. primed_none wanted k (tried_of h) ys refl) (λ ys. by_none wanted stays k (tried_of h) ys refl)
                    (goes_between _ _ _ _ (ap (λ xs. beside origin (done ++ xs) k) (primed_full wanted n h snaps lacking full)) refl (goes_none (beside origin (done ++ tried_of h ∷ primed wanted n snaps) k)))
                    (round_all snaps origin (done ++ tried_of h ∷ []) n k last whole (each_more (IsReadyHere last) done (tried_of h) before (idle_ready wanted stays last (tried_of h) (record { tried = refl; copies = refl; marks = refl }) refl)) rest.1
                    (subst (λ (x : ℕ). x ≤ last) (by_full wanted stays n h snaps full) few) low)
                | inr filled ↦ (let room : is_full s ≡ false = sym full_same ∙ filled in
                    let most : started_by wanted (n + 1) snaps ≤ last = subst (λ (x : ℕ). x ≤ last) (by_copy wanted stays n h snaps lacking filled) few in
                    let up : n + 1 ≤ started_by wanted (n + 1) snaps = by_more wanted stays (n + 1) snaps in
                    let one : CopyEnds origin done snaps h n k last = copy_ends origin done snaps h n k last whole (omega (arith, most, up)) low before (each_weaker (IsResting sectors) IsIdle snaps (resting_idle sectors) rest.1) rest.0 both.0 lacking both.1 filled room in
                    let step = one.again.up in
                    round_more origin done snaps h one.held one.again.stands n (n + 1) k one.again.count (record { origin = met origin (chunk_read c origin s); snap = saved_snap sectors c origin h h }) (saves ∙ saves_copy c origin s (sym needs ∙ lacking) room) one.snap one.rest
                    one.again.primes one.again.counts one.again.goes
                    (round_all snaps (met origin (chunk_read c origin s)) (done ++ one.again.stands ∷ []) (n + 1) one.again.count last whole (each_more (IsReadyHere last) done one.again.stands before one.again.ready) rest.1 most (omega (arith, low, step))))
              ])
        ]

    -- The snapshots after so many rounds, and the next is begun.
    record AllEnd (j : ℕ) (v : Moving) (before : Volume) : Type 0 where
      pub finals : List SnapHeld
      pub count : ℕ
      pub goes : Goes start_waiting v (beside (saved_rounds first_in count_in j before).origin (primed wanted count finals) (started_by wanted count finals))
      pub same : map snap_of finals ≡ (saved_rounds first_in count_in j before).snaps
      pub rest : Each (IsResting sectors) finals

    abbrev volume_with : Device → List Snap → Volume
    volume_with origin snaps = record { origin = origin; snaps = snaps }

    rounds_all : (j : ℕ) (snaps : List SnapHeld) (origin : Device) (n : ℕ) → length origin.bytes ≡ 512 * sectors → Each (IsResting sectors) snaps → AllEnd j (beside origin (primed wanted n snaps) (started_by wanted n snaps)) (volume_with origin (map snap_of snaps))
    rounds_all zero snaps origin n whole rest = record { finals = snaps; count = n; goes = goes_none _; same = refl; rest = rest }
    rounds_all (suc j) snaps origin n whole rest =
        let k : ℕ = started_by wanted n snaps in
        let after : Volume = save_at wanted_of origin (map snap_of snaps) in
        let one : RoundEnds (beside origin (primed wanted n snaps) k) origin [] snaps k = round_all snaps origin [] n k k whole tt rest (omega arith) (omega arith) in
        let whole_after : length after.origin.bytes ≡ 512 * sectors = ap length (save_at_bytes wanted_of origin (map snap_of snaps)) ∙ whole in
        let more : AllEnd j (beside after.origin (primed wanted k one.finals) (started_by wanted k one.finals)) after =
        subst (λ (ss : List Snap). AllEnd j (beside after.origin (primed wanted k one.finals) (started_by wanted k one.finals)) (volume_with after.origin ss)) one.same (rounds_all j one.finals after.origin k whole_after one.rest) in
        record { finals = more.finals; count = more.count; goes = goes_on _ _ _ one.goes more.goes; same = more.same; rest = more.rest }

    -- the snapshots once they have published all chunks that are touched
    pub record OverEnds (v : Moving) (before : Volume) : Type 0 where
      pub finals : List SnapHeld
      pub count : ℕ
      pub goes : Goes start_waiting v (beside (saved_rounds first_in count_in count_in before).origin finals count)
      pub same : map snap_of finals ≡ (saved_rounds first_in count_in count_in before).snaps
      pub rest : Each (IsResting sectors) finals
      pub saved : Each (λ d. is_saved_over first_in count_in d ≡ true) finals

    abbrev HasAll : Snap → Type 0
    HasAll s = HasOver sectors first_in count_in some inside s

    all_needs : (snaps : List SnapHeld) → Each (IsResting sectors) snaps → Each HasAll (map snap_of snaps) → Each (Needs wanted stays) snaps
    all_needs [] rest over = tt
    all_needs (h ∷ snaps) rest over = (needs_same sectors (wanted h) h rest.0 ∙ by_live (cases_Bool h.snap.live), all_needs snaps rest.1 over.1)
      where
        by_live : (h.snap.live ≡ true) ⊎ (h.snap.live ≡ false) → (not h.snap.live || has_chunk (wanted h) h.snap) ≡ true
        by_live (inr out) = ap (λ b. not b || has_chunk (wanted h) h.snap) out
        by_live (inl on) =
            ap (λ b. not b || has_chunk (wanted h) h.snap) on ∙ ap (λ c. has_chunk c h.snap) (wanted_same sectors first_in count_in h rest.0 on)
            ∙ next_has first_in count_in h.snap some (over.0 on)

    all_saved : (snaps : List SnapHeld) → Each (IsResting sectors) snaps → Each HasAll (map snap_of snaps) → Each (λ d. is_saved_over first_in count_in d ≡ true) snaps
    all_saved [] rest over = tt
    all_saved (h ∷ snaps) rest over = (by_live (cases_Bool h.snap.live), all_saved snaps rest.1 over.1)
      where
        by_live : (h.snap.live ≡ true) ⊎ (h.snap.live ≡ false) → is_saved_over first_in count_in h ≡ true
        by_live (inr out) = ap (λ b. not b || not (is_some (unpublished_in first_in count_in h))) out
        by_live (inl on) =
            ap (λ b. not b || not (is_some (unpublished_in first_in count_in h))) on
            ∙ ap (λ o. not (is_some o)) (unpublished_same sectors first_in count_in h rest.0 on ∙ none_next first_in count_in h.snap (over.0 on))

    -- from the start of the copies to the end of them all
    pub over_settles : (origin : Device) (snaps : List SnapHeld) (k : ℕ) → length origin.bytes ≡ 512 * sectors → Each (IsResting sectors) snaps → Each (HasSize sectors first_in count_in some inside) (map snap_of snaps)
        → OverEnds (beside origin (started_all wanted k snaps) (started_by wanted k snaps)) (volume_with origin (map snap_of snaps))
    over_settles origin snaps k whole rest sizes =
        let all : AllEnd count_in (beside origin (primed wanted k snaps) (started_by wanted k snaps)) (volume_with origin (map snap_of snaps)) = rounds_all count_in snaps origin k whole rest in
        let over : Each HasAll (map snap_of all.finals) =
        subst (Each HasAll) (sym all.same) (all_over sectors first_in count_in some inside (volume_with origin (map snap_of snaps)) whole sizes (kept_well sectors first_in count_in snaps rest)) in
        let needs : Each (Needs wanted stays) all.finals = all_needs all.finals all.rest over in
        let O : Device = (saved_rounds first_in count_in count_in (volume_with origin (map snap_of snaps))).origin in
        let ends : beside O (primed wanted all.count all.finals) (started_by wanted all.count all.finals) ≡ beside O all.finals all.count =
        ap (λ xs. beside O xs (started_by wanted all.count all.finals)) (primed_still wanted stays all.count all.finals needs) ∙ ap (beside O all.finals) (started_still wanted stays all.count all.finals needs).1 in
        let tried : Goes start_waiting (beside origin (started_all wanted k snaps) (started_by wanted k snaps)) (beside origin (primed wanted k snaps) (started_by wanted k snaps)) =
        tries_all (Some m) sectors first_in (λ hs. []) (none_routed (Some m) first_in) a (started_by wanted k snaps) wanted origin snaps k rest in
        record {
          finals = all.finals;
          count = all.count;
          goes = goes_on _ _ _ tried (subst (Goes start_waiting (beside origin (primed wanted k snaps) (started_by wanted k snaps))) ends all.goes);
          same = all.same;
          rest = all.rest;
          saved = all_saved all.finals all.rest over;
        }
