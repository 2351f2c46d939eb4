-- Each step keeps the rule.
use Rattle.std.proofs.Common.{◌≡◌, ◌≢◌, ◌⊎◌, ℕ, zero, suc, ◌+◌, ◌<◌, ◌==◌, Bool, true, false, if◌then◌else◌, List, [], ◌∷◌, ◌++◌, length, set, refl, sym, ap, ◌∙◌, subst, ⊎_elim, inl, inr, append_assoc, append-nil, arith, eq-eqb}
use mathlib.Core.Option.{Option, none, some, some-ne-none, some-injective}
use lib.ListN.{get_elem?}
use Rattle.std.proofs.lemmas.Bool.{ne_eqb}
use Rattle.std.proofs.lemmas.List.{length-set}
use Rattle.atomic_table.proofs.Lists.{at_set}
use Rattle.atomic_table.specs.Table.{Me, keeps, step, Allows, Splits, Joins}
use Rattle.audited_volume.specs.declared.entry.Answered.{Answered}
use Rattle.audited_volume.specs.declared.entry.Entry.{Entry}
use Rattle.audited_volume.specs.declared.entry.Entry.TheVariants.{Answered as WasAnswered, Spoiled, Overflowed, Attached, Detached, Begun, Finished}
use Rattle.audited_volume.specs.Entries.{entries_by}
use Rattle.audited_volume.specs.Seats.{Seated, seated_under, without_seated}
use Rattle.locked_volume.specs.Keeping.{Begins, held_by, knower, nobody, after_deal, next_seat, keeper_of, looking_of, seat_of, seated_with, is_silent, Answers, HasAsked, MayNote, told_of, Owns, Waits, Fits, IsKept, Knows, IsNotedAs, IsChecked}
use Rattle.locked_volume.specs.declared.rule.View.{View}
use Rattle.locked_volume.specs.declared.told.Told.{Told}
use Rattle.locked_volume.specs.declared.told.Told.TheVariants.{Asked, Answered as AnsweredTold, Noted}
use Rattle.locked_volume.proofs.Held.{held_by-append, held_mine, held_other, under_held, without_mine, without_other}

off : false ≡ true → ⊥
off e = cc

in_front : (b : Bool) (a : Answered) (xs ys : List Answered) → (if b then (a ∷ (xs ++ ys)) else (xs ++ ys)) ≡ (if b then (a ∷ xs) else xs) ++ ys
in_front true a xs ys = refl
in_front false a xs ys = refl

pub entries_by-append : (n : ℕ) (es fs : List Entry) → entries_by n (es ++ fs) ≡ entries_by n es ++ entries_by n fs
entries_by-append n [] fs = refl
entries_by-append n (Spoiled m ∷ es) fs = entries_by-append n es fs
entries_by-append n (Overflowed m ∷ es) fs = entries_by-append n es fs
entries_by-append n (Attached m x o f ∷ es) fs = entries_by-append n es fs
entries_by-append n (Detached m ∷ es) fs = entries_by-append n es fs
entries_by-append n (Begun m ∷ es) fs = entries_by-append n es fs
entries_by-append n (Finished ∷ es) fs = entries_by-append n es fs
entries_by-append n (WasAnswered a ∷ es) fs = ap (λ x. if a.seat == n then (a ∷ x) else x) (entries_by-append n es fs) ∙ in_front (a.seat == n) a (entries_by n es) (entries_by n fs)

pub at_end : (l : List View) (a b : View) (j : ℕ) → get_elem? (l ++ a ∷ []) j ≡ some b → (get_elem? l j ≡ some b) ⊎ ((j ≡ length l) × (a ≡ b))
at_end [] a b zero e = inr (refl, some-injective a b e)
at_end [] a b (suc j) e = absurd (some-ne-none b (sym e))
at_end (x ∷ xs) a b zero e = inl e
at_end (x ∷ xs) a b (suc j) e = ⊎_elim (λ was. inl was) (λ (t : (j ≡ length xs) × (a ≡ b)). inr (ap suc t.0, t.1)) (at_end xs a b j e)

pub within : (l : List View) (a : View) (j : ℕ) → get_elem? l j ≡ some a → j < length l
within [] a j e = absurd (some-ne-none a (sym e))
within (x ∷ xs) a zero e = omega arith
within (x ∷ xs) a (suc j) e = let h = within xs a j e in omega arith

set_views : (P : ℕ → View → Type 0) (views : List View) (by : ℕ) (w : View) → ((j : ℕ) (u : View) → j ≢ by → get_elem? views j ≡ some u → P j u) → P by w → (j : ℕ) (u : View) → get_elem? (set views by w) j ≡ some u → P j u
set_views P views by w others mine j u e =
    ⊎_elim
    (λ (x : (j ≡ by) × (w ≡ u)). subst (λ (y : ℕ × View). P y.0 y.1) (λ i. (sym x.0 i, x.1 i)) mine)
    (λ (x : (j ≢ by) × (get_elem? views j ≡ some u)). others j u x.0 x.1)
    (at_set views by j w u e)

-- one entry more leaves a seat's entries, unless it is the seat's
none_of : (n : ℕ) (a : Answered) → a.seat ≢ n → entries_by n (WasAnswered a ∷ []) ≡ []
none_of n a apart = ap (λ b. if b then (a ∷ []) else []) (ne_eqb a.seat n apart)

not_true : {C : Type 0} → false ≡ true → C
not_true e = absurd (off e)

silent_of : (n : ℕ) (e : Entry) → is_silent e ≡ true → entries_by n (e ∷ []) ≡ []
silent_of n (WasAnswered a) silent = not_true silent
silent_of n (Spoiled m) silent = refl
silent_of n (Overflowed m) silent = refl
silent_of n (Attached m x o f) silent = refl
silent_of n (Detached m) silent = refl
silent_of n (Begun m) silent = refl
silent_of n Finished silent = refl

other_of : (n s : ℕ) (e : Entry) → Answers n e → n ≢ s → entries_by s (e ∷ []) ≡ []
other_of n s (WasAnswered a) mine apart = none_of s a (λ same. apart (sym mine ∙ same))
other_of n s (Spoiled m) mine apart = absurd mine
other_of n s (Overflowed m) mine apart = absurd mine
other_of n s (Attached m x o f) mine apart = absurd mine
other_of n s (Detached m) mine apart = absurd mine
other_of n s (Begun m) mine apart = absurd mine
other_of n s Finished mine apart = absurd mine

-- one entry more, among all and among a seat's own
owns_more : (log : List Entry) (seat : ℕ) (old mine : List Answered) (e : Entry) → entries_by seat log ≡ old ++ mine → entries_by seat (log ++ e ∷ []) ≡ old ++ (mine ++ entries_by seat (e ∷ []))
owns_more log seat old mine e owns = entries_by-append seat log (e ∷ []) ∙ ap (λ l. l ++ entries_by seat (e ∷ [])) owns ∙ append_assoc old mine (entries_by seat (e ∷ []))

owns_still : (log : List Entry) (seat : ℕ) (own : List Answered) (e : Entry) → entries_by seat (e ∷ []) ≡ [] → entries_by seat log ≡ own → entries_by seat (log ++ e ∷ []) ≡ own
owns_still log seat own e empty owns = entries_by-append seat log (e ∷ []) ∙ ap (λ l. entries_by seat log ++ l) empty ∙ append-nil (entries_by seat log) ∙ owns

-- what is known once this is told
abbrev log_after : List Entry → Told → List Entry
log_after log (Asked number request) = log
log_after log (AnsweredTold number entry) = log ++ entry.value ∷ []
log_after log (Noted entry) = log ++ entry.value ∷ []

abbrev flying_after : ℕ → List Seated → Told → List Seated
flying_after seat flying (Asked number request) = flying ++ record { number = number; seat = seat; request = request.value } ∷ []
flying_after seat flying (AnsweredTold number entry) = without_seated number flying
flying_after seat flying (Noted entry) = flying

-- what another seat knows stays as it is
theirs_still : (log : List Entry) (v u : View) (t : Told) → MayNote v t → (v.sits ≡ true → v.seat ≢ u.seat) → Owns log u → Waits v.flying u → Owns (log_after log t) u × Waits (flying_after v.seat v.flying t) u
theirs_still log v u (Asked number request) may apart owns waits =
    (owns, held_by-append u.seat v.flying _ ∙ ap (λ l. held_by u.seat v.flying ++ l) (held_other u.seat _ (apart may)) ∙ append-nil (held_by u.seat v.flying) ∙ waits)
theirs_still log v u (AnsweredTold number entry) may apart owns waits =
    let asked : HasAsked number v = may.2 in
    let other = apart may.0 in (
      owns_still log u.seat _ entry.value (other_of v.seat u.seat entry.value may.1 other) owns,
      without_other number u.seat v.flying asked.0 asked.1 (λ same. other (sym asked.2 ∙ same)) ∙ waits,
    )
theirs_still log v u (Noted entry) may apart owns waits = (owns_still log u.seat _ entry.value (silent_of u.seat entry.value may) owns, waits)

-- what the keeper knows
keeper_after : (log : List Entry) (flying : List Seated) (v : View) (t : Told) → v.all ≡ log → v.flying ≡ flying → ((told_of v t).all ≡ log_after log t) × ((told_of v t).flying ≡ flying_after v.seat flying t)
keeper_after log flying v (Asked number request) all flies = (all, ap (λ l. l ++ record { number = number; seat = v.seat; request = request.value } ∷ []) flies)
keeper_after log flying v (AnsweredTold number entry) all flies = (ap (λ l. l ++ entry.value ∷ []) all, ap (without_seated number) flies)
keeper_after log flying v (Noted entry) all flies = (ap (λ l. l ++ entry.value ∷ []) all, flies)

-- what the seat beside it knows
mine_after : (log : List Entry) (v : View) (t : Told) → MayNote v t → Owns log v → Waits v.flying v → Owns (log_after log t) (told_of v t) × Waits (flying_after v.seat v.flying t) (told_of v t)
mine_after log v (Asked number request) may owns waits =
    (owns, held_by-append v.seat v.flying _ ∙ ap (λ l. l ++ held_by v.seat (record { number = number; seat = v.seat; request = request.value } ∷ [])) waits ∙ ap (λ l. v.waits ++ l) (held_mine v.seat _ refl))
mine_after log v (AnsweredTold number entry) may owns waits =
    let asked : HasAsked number v = may.2 in (
      owns_more log v.seat (entries_by v.seat v.old) v.mine entry.value owns,
      without_mine number v.seat v.flying asked.0 asked.1 asked.2 ∙ ap (without_seated number) waits,
    )
mine_after log v (Noted entry) may owns waits = (owns_still log v.seat _ entry.value (silent_of v.seat entry.value may) owns, waits)

known_after : (v : View) (t : Told) → MayNote v t → (v.sits ≡ true → Waits v.flying v) → (v.sits ≡ true → Owns v.all v) → Knows v t
known_after v (Asked number request) may waits owns = tt
known_after v (AnsweredTold number entry) may waits owns =
    let asked : HasAsked number v = may.2 in
    (ap (seated_under number) (sym (waits may.0)) ∙ under_held number v.seat v.flying asked.0 asked.1 asked.2 ∙ sym asked.1, owns may.0)
known_after v (Noted entry) may waits owns = tt

pub same_keeps : (v : View) (t : Told) → (told_of v t).keeps ≡ v.keeps
same_keeps v (Asked number request) = refl
same_keeps v (AnsweredTold number entry) = refl
same_keeps v (Noted entry) = refl

same_dealt : (v : View) (t : Told) → (told_of v t).dealt ≡ v.dealt
same_dealt v (Asked number request) = refl
same_dealt v (AnsweredTold number entry) = refl
same_dealt v (Noted entry) = refl

same_sits : (v : View) (t : Told) → (told_of v t).sits ≡ v.sits
same_sits v (Asked number request) = refl
same_sits v (AnsweredTold number entry) = refl
same_sits v (Noted entry) = refl

same_seat : (v : View) (t : Told) → (told_of v t).seat ≡ v.seat
same_seat v (Asked number request) = refl
same_seat v (AnsweredTold number entry) = refl
same_seat v (Noted entry) = refl

-- what was seen stays the first of all
begins_more : (seen log : List Entry) (t : Told) → Begins seen log → Begins seen (log_after log t)
begins_more seen log (Asked number request) h = h
begins_more seen log (AnsweredTold number entry) h = (h.0 ++ entry.value ∷ [], ap (λ (l : List Entry). l ++ entry.value ∷ []) h.1 ∙ append_assoc seen h.0 (entry.value ∷ []))
begins_more seen log (Noted entry) h = (h.0 ++ entry.value ∷ [], ap (λ (l : List Entry). l ++ entry.value ∷ []) h.1 ∙ append_assoc seen h.0 (entry.value ∷ []))

same_seen : (v : View) (t : Told) → (told_of v t).seen ≡ v.seen
same_seen v (Asked number request) = refl
same_seen v (AnsweredTold number entry) = refl
same_seen v (Noted entry) = refl

pub notes : (slots id : ℕ) (me : Me Told View) (t : Told) (f : ℕ → ℕ) → me.0.keeps ≡ true → MayNote me.0 t → Allows IsKept slots id me 0 f (IsNotedAs (step slots 0 0 0 (some t)) me)
notes slots id me t f mine may s h same at small =
    let v = me.0 in
    let known = h.5 id v at in
    let k0 = known.keeps mine in
    let log = log_after h.2 t in
    let flying = flying_after v.seat h.3 t in
    let w = told_of v t in
    let waits : v.sits ≡ true → Waits v.flying v = λ k. subst (λ l. Waits l v) (sym k0.2) (known.sits k).3 in
    let after = keeper_after h.2 h.3 v t k0.1 k0.2 in (
      w,
      keeps,
      tt,
      (
        h.0,
        h.1,
        log,
        flying,
        h.4,
        set_views (Fits h.0 h.1 log flying h.4) s.views id w
            (λ j u apart is.
            let theirs = h.5 j u is in record {
              keeps = λ k. absurd (apart ((theirs.keeps k).0 ∙ sym k0.0));
              sits = λ k.
                  let x = theirs.sits k in
                  let still = theirs_still h.2 v u t may (λ y e. apart (x.0 ∙ ap h.1 (sym e) ∙ sym (known.sits y).0)) x.2 (subst (λ l. Waits l u) (sym k0.2) x.3) in
                  (x.0, x.1, still.0, subst (λ l. Waits (flying_after v.seat l t) u) k0.2 still.1, begins_more u.seen h.2 t x.4);
            })
            (record {
              keeps = λ k. (k0.0, after.0, after.1, same_dealt v t ∙ k0.3);
              sits = λ k.
                  let y = sym (same_sits v t) ∙ k in
                  let x = known.sits y in
                  let more = mine_after h.2 v t may x.2 (waits y) in
                  (x.0 ∙ ap h.1 (sym (same_seat v t)), subst (λ n. n < h.4) (sym (same_seat v t)) x.1, more.0, subst (λ l. Waits (flying_after v.seat l t) w) k0.2 more.1, subst (λ l. Begins l log) (sym (same_seen v t)) (begins_more v.seen h.2 t x.4));
            }),
      ),
      (refl, refl, known_after v t may waits (λ k. subst (λ l. Owns l v) (sym k0.1) (known.sits k).2), λ k. subst (λ l. Begins v.seen l) (sym k0.1) (known.sits k).4),
    )

pub checks : (slots id : ℕ) (me : Me Told View) (f : ℕ → ℕ) → Allows IsKept slots id me 0 f (IsChecked (step slots 0 0 0 none) me)
checks slots id me f s h same at small =
    let v = me.0 in
    let known = h.5 id v at in (
      v,
      keeps,
      tt,
      (h.0, h.1, h.2, h.3, h.4, set_views (Fits h.0 h.1 h.2 h.3 h.4) s.views id v (λ j u apart is. h.5 j u is) known),
      (refl, λ k y. (subst (λ l. Owns l v) (sym (known.keeps k).1) (known.sits y).2, subst (λ l. Waits l v) (sym (known.keeps k).2) (known.sits y).3, subst (λ l. Begins v.seen l) (sym (known.keeps k).1) (known.sits y).4)),
    )

-- who has a seat now
abbrev gives_to : (ℕ → ℕ) → ℕ → ℕ → ℕ → ℕ
gives_to owner seat to s = if s == seat then to else owner s

given_here : (owner : ℕ → ℕ) (seat to s : ℕ) → s ≡ seat → to ≡ gives_to owner seat to s
given_here owner seat to s e = sym (ap (λ b. if b then to else owner s) (eq-eqb s seat e))

given_else : (owner : ℕ → ℕ) (seat to s : ℕ) → s ≢ seat → owner s ≡ gives_to owner seat to s
given_else owner seat to s e = sym (ap (λ b. if b then to else owner s) (ne_eqb s seat e))

pub joins : (id other : ℕ) (v w : View) → w.sits ≡ true → Joins IsKept id v other w (seated_with v w) nobody
joins id other v w sits s h at apart there =
    let both = seated_with v w in
    let known = h.5 id v at in
    let theirs : get_elem? s.views other ≡ some w = ⊎_elim (λ (t : (other ≡ id) × (both ≡ w)). absurd (apart t.0)) (λ (t : (other ≢ id) × (get_elem? s.views other ≡ some w)). t.1) (at_set s.views id other both w there) in
    let had = (h.5 other w theirs).sits sits in
    let owner = gives_to h.1 w.seat id in (
      h.0,
      owner,
      h.2,
      h.3,
      h.4,
      set_views (Fits h.0 owner h.2 h.3 h.4) (set s.views id both) other nobody
          (λ j u off_other is. set_views (λ j u. j ≢ other → Fits h.0 owner h.2 h.3 h.4 j u) s.views id both
          (λ i y _ e not_other.
          let f = h.5 i y e in record {
            keeps = f.keeps;
            sits = λ k. let t = f.sits k in (t.0 ∙ given_else h.1 w.seat id y.seat (λ z. not_other (t.0 ∙ ap h.1 z ∙ sym had.0)), t.1, t.2, t.3, t.4);
          })
          (λ _. record { keeps = known.keeps; sits = λ k. (given_here h.1 w.seat id w.seat refl, had.1, had.2, had.3, had.4) })
          j u is off_other)
          (record { keeps = λ k. absurd (off k); sits = λ k. absurd (off k) }),
    )

-- what a seat knows that has seen these
abbrev with_seen : List Entry → View → View
with_seen seen v = record { keeps = false; all = []; flying = []; dealt = 0; sits = v.sits; seat = v.seat; old = v.old; mine = v.mine; waits = v.waits; seen = seen }

parted : (id : ℕ) (v : View) (seen : List Entry) → v.keeps ≡ true → ((log : List Entry) → v.all ≡ log → Begins v.seen log → Begins seen log) → Splits IsKept id v (keeper_of v) (with_seen seen v)
parted id v seen mine sees s h at =
    let known = h.5 id v at in
    let new = length s.views in
    let owner = gives_to h.1 v.seat new in
    let w = keeper_of v in
    elim (cases_sits v) [
      | inl sits ↦
          let had = known.sits sits in (
            h.0,
            owner,
            h.2,
            h.3,
            h.4,
            λ j u e. ⊎_elim
                (λ was. set_views (Fits h.0 owner h.2 h.3 h.4) s.views id w
                (λ i y apart is.
                let f = h.5 i y is in record {
                  keeps = f.keeps;
                  sits = λ k. let t = f.sits k in (t.0 ∙ given_else h.1 v.seat new y.seat (λ z. apart (t.0 ∙ ap h.1 z ∙ sym had.0)), t.1, t.2, t.3, t.4);
                })
                (record { keeps = known.keeps; sits = λ k. absurd (off k) })
                j u was)
                (λ (t : (j ≡ length (set s.views id w)) × (with_seen seen v ≡ u)).
                subst (λ (y : ℕ × View). Fits h.0 owner h.2 h.3 h.4 y.0 y.1) (λ i. (sym (t.0 ∙ length-set s.views id w) i, t.1 i))
                (record { keeps = λ k. absurd (off k); sits = λ k. (given_here h.1 v.seat new v.seat refl, had.1, had.2, had.3, sees h.2 (known.keeps mine).1 had.4) }))
                (at_end (set s.views id w) (with_seen seen v) u j e),
          )
      | inr stands ↦ (
        h.0,
        h.1,
        h.2,
        h.3,
        h.4,
        λ j u e. ⊎_elim
            (λ was. set_views (Fits h.0 h.1 h.2 h.3 h.4) s.views id w (λ i y apart is. h.5 i y is) (record { keeps = known.keeps; sits = λ k. absurd (off k) }) j u was)
            (λ (t : (j ≡ length (set s.views id w)) × (with_seen seen v ≡ u)).
            subst (Fits h.0 h.1 h.2 h.3 h.4 j) t.1 (record { keeps = λ k. absurd (off k); sits = λ k. absurd (off (sym stands ∙ k)) }))
            (at_end (set s.views id w) (with_seen seen v) u j e),
      )
    ]
  where
    cases_sits : (v : View) → (v.sits ≡ true) ⊎ (v.sits ≡ false)
    cases_sits v = go v.sits refl
      where
        go : (b : Bool) → v.sits ≡ b → (v.sits ≡ true) ⊎ (v.sits ≡ false)
        go true e = inl e
        go false e = inr e

pub parts : (id : ℕ) (v : View) → v.keeps ≡ true → Splits IsKept id v (keeper_of v) (seat_of v)
parts id v mine = parted id v v.seen mine (λ log is h. h)

pub looks : (id : ℕ) (v : View) → v.keeps ≡ true → Splits IsKept id v (keeper_of v) (looking_of v)
looks id v mine = parted id v v.all mine (λ log is h. ([], sym (append-nil v.all ∙ is)))

pub deals : (id : ℕ) (v : View) → v.keeps ≡ true → v.sits ≡ false → Splits IsKept id v (after_deal v) (next_seat v)
deals id v mine stands s h at =
    let known = h.5 id v at in
    let k0 = known.keeps mine in
    let new = length s.views in
    let owner = gives_to h.1 v.dealt new in
    let w = after_deal v in (
      h.0,
      owner,
      h.2,
      h.3,
      h.4 + 1,
      λ j u e. ⊎_elim
          (λ was. set_views (Fits h.0 owner h.2 h.3 (h.4 + 1)) s.views id w
          (λ i y apart is.
          let f = h.5 i y is in record {
            keeps = λ k. absurd (apart ((f.keeps k).0 ∙ sym k0.0));
            sits = λ k. let t = f.sits k in (t.0 ∙ given_else h.1 v.dealt new y.seat (λ z. omega (arith, z, t.1, k0.3)), omega (arith, t.1), t.2, t.3, t.4);
          })
          (record { keeps = λ k. (k0.0, k0.1, k0.2, ap (λ n. n + 1) k0.3); sits = λ k. absurd (off k) })
          j u was)
          (λ (t : (j ≡ length (set s.views id w)) × (next_seat v ≡ u)).
          subst (λ (y : ℕ × View). Fits h.0 owner h.2 h.3 (h.4 + 1) y.0 y.1) (λ i. (sym (t.0 ∙ length-set s.views id w) i, t.1 i))
          (record { keeps = λ k. absurd (off k); sits = λ k. (given_here h.1 v.dealt new v.dealt refl, omega (arith, k0.3), ap (entries_by v.dealt) (sym k0.1) ∙ sym (append-nil (entries_by v.dealt v.all)), ap (held_by v.dealt) (sym k0.2), ([], sym (append-nil v.all ∙ k0.1))) }))
          (at_end (set s.views id w) (next_seat v) u j e),
    )

pub begins : (all : List Entry) (words : List ℕ) (homes : List (Option Told)) → IsKept (record { words = words; homes = homes; views = knower all 1 ∷ [] })
begins all words homes = (0, (λ s. 0), all, [], 1, one)
  where
    one : (by : ℕ) (v : View) → get_elem? (knower all 1 ∷ []) by ≡ some v → Fits 0 (λ s. 0) all [] 1 by v
    one zero v e = subst (Fits 0 (λ s. 0) all [] 1 0) (some-injective _ _ e) (record { keeps = λ _. (refl, refl, refl, refl); sits = λ k. absurd (off k) })
    one (suc by) v e = absurd (some-ne-none v (sym e))
