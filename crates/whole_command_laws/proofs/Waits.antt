-- Snapshots among which one at most lacks a copy that a merge waits for: starting copies in all of them starts the one.
use Rattle.std.proofs.Common.{◌≡◌, inl, inr, ℕ, ◌+◌, ◌<◌, ◌≤◌, Bool, true, false, List, [], ◌∷◌, ◌++◌, arith, refl, ap, ◌∙◌, sym, subst, eq-eqb}
use Rattle.std.specs.Prelude.{◌==◌, ◌&&◌, ◌||◌, not, is_some}
use Rattle.std.specs.List.{list_any}
use Rattle.std.proofs.lemmas.Bool.{cases_Bool, cond-true, cond-false, ne_eqb}
use Rattle.cow_format.specs.Picture.{place_of}
use Rattle.in_flight.specs.declared.copies.Stage.TheVariants.{Waiting}
use Rattle.event_machine.specs.Held.{Copying, SnapHeld, spoiled}
use Rattle.event_machine.specs.Due.{is_at}
use Rattle.event_machine.specs.Stepping.{is_copy}
use Rattle.event_machine.specs.Submitting.{needs_none, is_filled, with_copy, started_all, started_by}
use Rattle.event_machine.proofs.Lists.{Above}
use Rattle.event_machine.proofs.Around.{IsIdle, IsLater, idle_later, IsBefore, idle_before}
use Rattle.whole_commands.proofs.Each.{Each}
use Rattle.whole_command_laws.proofs.Primed.{primed, primed_none, primed_full, primed_copy, copy_later, copy_some}

or_last : (x y : Bool) → y ≡ true → (x || y) ≡ true
or_last true y e = refl
or_last false y e = e

module _ (wanted : SnapHeld → ℕ) (still : (n c : ℕ) (h : SnapHeld) → wanted (with_copy n c h) ≡ wanted h) where
  -- it has the chunk that is wanted, or a copy of it is under way
  abbrev pub Needs : SnapHeld → Type 0
  Needs h = needs_none (wanted h) h ≡ true

  pub copy_needs : (n : ℕ) (h : SnapHeld) → h.copies ≡ [] → Needs (with_copy n (wanted h) h)
  copy_needs n h none =
      let c : ℕ = wanted h in
      ap (λ x. needs_none x (with_copy n c h)) (still n c h)
      ∙ ap (λ (cs : List Copying). not h.snap.live || is_some (place_of h.pairs c) || list_any (λ p. p.pair.old == c) (cs ++ (record { number = n; pair = record { old = c; new = h.next }; stage = Waiting; bytes = [] }) ∷ [])) none
      ∙ or_last (not h.snap.live || is_some (place_of h.pairs c)) ((c == c) || false) (ap (λ b. b || false) (eq-eqb c c refl))

  pub primed_needs : (m : ℕ) (snaps : List SnapHeld) → Each IsIdle snaps → Each Needs (primed wanted m snaps)
  primed_needs m [] idle = tt
  primed_needs m (h ∷ snaps) idle = elim (cases_Bool (needs_none (wanted h) h)) [
    | inl none ↦ subst (Each Needs) (sym (primed_none wanted m h snaps none)) (none, primed_needs m snaps idle.1)
    | inr some ↦ elim (cases_Bool (is_filled h)) [
      | inl full ↦ subst (Each Needs) (sym (primed_full wanted m h snaps some full)) (refl, primed_needs m snaps idle.1)
      | inr room ↦ subst (Each Needs) (sym (primed_copy wanted m h snaps some room)) (copy_needs (m + 1) h idle.0.copies, primed_needs (m + 1) snaps idle.1)
    ]
  ]

  -- how many are started
  pub by_none : (k : ℕ) (h : SnapHeld) (xs : List SnapHeld) → Needs h → started_by wanted k (h ∷ xs) ≡ started_by wanted k xs
  by_none k h xs none = cond-true _ _ _ (ap (λ b. b || is_filled h) none)

  pub by_full : (k : ℕ) (h : SnapHeld) (xs : List SnapHeld) → is_filled h ≡ true → started_by wanted k (h ∷ xs) ≡ started_by wanted k xs
  by_full k h xs full = cond-true _ _ _ (or_last (needs_none (wanted h) h) (is_filled h) full)

  pub by_copy : (k : ℕ) (h : SnapHeld) (xs : List SnapHeld) → needs_none (wanted h) h ≡ false → is_filled h ≡ false → started_by wanted k (h ∷ xs) ≡ started_by wanted (k + 1) xs
  by_copy k h xs some room = cond-false _ _ _ (ap (λ b. b || is_filled h) some ∙ room)

  pub by_more : (k : ℕ) (snaps : List SnapHeld) → k ≤ started_by wanted k snaps
  by_more k [] = omega arith
  by_more k (h ∷ snaps) = elim (cases_Bool (needs_none (wanted h) h || is_filled h)) [
    | inl none ↦ (let e : started_by wanted k (h ∷ snaps) ≡ started_by wanted k snaps = cond-true _ _ _ none in subst (λ (x : ℕ). k ≤ x) (sym e) (by_more k snaps))
    | inr one ↦ (let e : started_by wanted k (h ∷ snaps) ≡ started_by wanted (k + 1) snaps = cond-false _ _ _ one in
        let up : k + 1 ≤ started_by wanted (k + 1) snaps = by_more (k + 1) snaps in
        let le : k ≤ started_by wanted (k + 1) snaps = omega (arith, up) in
        subst (λ (x : ℕ). k ≤ x) (sym e) le)
  ]

  -- nothing is started in these
  pub started_still : (k : ℕ) (snaps : List SnapHeld) → Each Needs snaps → (started_all wanted k snaps ≡ snaps) × (started_by wanted k snaps ≡ k)
  started_still k [] needs = (refl, refl)
  started_still k (h ∷ snaps) needs =
      let more = started_still k snaps needs.1 in
      (cond-true _ _ _ needs.0 ∙ ap (λ xs. h ∷ xs) more.0, by_none k h snaps needs.0 ∙ more.1)

  pub primed_still : (k : ℕ) (snaps : List SnapHeld) → Each Needs snaps → primed wanted k snaps ≡ snaps
  primed_still k [] needs = refl
  primed_still k (h ∷ snaps) needs = primed_none wanted k h snaps needs.0 ∙ ap (λ xs. h ∷ xs) (primed_still k snaps needs.1)

  -- one after those
  started_skip : (k : ℕ) (done xs : List SnapHeld) → Each Needs done → (started_all wanted k (done ++ xs) ≡ done ++ started_all wanted k xs) × (started_by wanted k (done ++ xs) ≡ started_by wanted k xs)
  started_skip k [] xs needs = (refl, refl)
  started_skip k (h ∷ done) xs needs =
      let more = started_skip k done xs needs.1 in
      (cond-true _ _ _ needs.0 ∙ ap (λ ys. h ∷ ys) more.0, by_none k h (done ++ xs) needs.0 ∙ more.1)

  module _ (k : ℕ) (done rest : List SnapHeld) (h : SnapHeld) (before : Each Needs done) (behind : Each Needs rest) where
    pub mid_none : Needs h → (started_all wanted k (done ++ h ∷ rest) ≡ done ++ h ∷ rest) × (started_by wanted k (done ++ h ∷ rest) ≡ k)
    mid_none none =
        let skip = started_skip k done (h ∷ rest) before in
        let more = started_still k rest behind in
        (skip.0 ∙ ap (λ xs. done ++ xs) (cond-true _ _ _ none ∙ ap (λ xs. h ∷ xs) more.0), skip.1 ∙ by_none k h rest none ∙ more.1)

    pub mid_full : needs_none (wanted h) h ≡ false → is_filled h ≡ true → (started_all wanted k (done ++ h ∷ rest) ≡ done ++ spoiled h ∷ rest) × (started_by wanted k (done ++ h ∷ rest) ≡ k)
    mid_full some full =
        let skip = started_skip k done (h ∷ rest) before in
        let more = started_still k rest behind in
        (skip.0 ∙ ap (λ xs. done ++ xs) (cond-false _ _ _ some ∙ cond-true _ _ _ full ∙ ap (λ xs. spoiled h ∷ xs) more.0), skip.1 ∙ by_full k h rest full ∙ more.1)

    pub mid_copy : needs_none (wanted h) h ≡ false → is_filled h ≡ false → (started_all wanted k (done ++ h ∷ rest) ≡ done ++ with_copy (k + 1) (wanted h) h ∷ rest) × (started_by wanted k (done ++ h ∷ rest) ≡ k + 1)
    mid_copy some room =
        let skip = started_skip k done (h ∷ rest) before in
        let more = started_still (k + 1) rest behind in
        (skip.0 ∙ ap (λ xs. done ++ xs) (cond-false _ _ _ some ∙ cond-false _ _ _ room ∙ ap (λ xs. with_copy (k + 1) (wanted h) h ∷ xs) more.0), skip.1 ∙ by_copy k h rest some room ∙ more.1)

  -- A snapshot that a round is done with: it needs no copy, or waits for one whose number is above those of the round.
  pub record IsReady (last : ℕ) (h : SnapHeld) : Type 0 where
    pub later : IsLater h
    pub needs : Needs h
    pub before : (n : ℕ) → n ≤ last → IsBefore n h

  pub idle_ready : (last : ℕ) (h : SnapHeld) → IsIdle h → Needs h → IsReady last h
  idle_ready last h idle needs = record { later = idle_later h idle; needs = needs; before = λ n le. idle_before n h idle }

  pub copy_ready : (last k : ℕ) (h : SnapHeld) → last ≤ k → IsIdle h → IsReady last (with_copy (k + 1) (wanted h) h)
  copy_ready last k h le idle =
      let c : ℕ = wanted h in
      record {
        later = copy_later (k + 1) c h idle;
        needs = copy_needs (k + 1) h idle.copies;
        before = λ n low. record {
          later = copy_later (k + 1) c h idle;
          above = (let lt : n < k + 1 = omega arith in subst (Above n) (sym (copy_some (k + 1) c h idle)) lt);
          apart = λ stage. ap (λ (cs : List Copying). list_any (is_copy stage n) (cs ++ (record { number = k + 1; pair = record { old = c; new = h.next }; stage = Waiting; bytes = [] }) ∷ [])) idle.copies
              ∙ ap (λ b. (b && is_at stage (record { number = k + 1; pair = record { old = c; new = h.next }; stage = Waiting; bytes = [] })) || false) (ne_eqb (k + 1) n (λ e. absurd (omega arith)));
        };
      }
