-- Where a snapshot stands among those that are shown, and that its mark is noted there.
use Rattle.std.proofs.Common.{◌≡◌, ◌≢◌, inl, inr, ℕ, ◌+◌, ◌<◌, Bool, true, false, List, [], ◌∷◌, ◌++◌, length, get_or, set, map, Some, None, nat_lt, cond, refl, sym, ◌∙◌, ap, subst, arith}
use Rattle.std.specs.Prelude.{◌==◌, ◌&&◌}
use Rattle.std.specs.List.{position, position_or_len}
use Rattle.std.proofs.lemmas.Bool.{cases_Bool, eq-eqb, false≢true}
use Rattle.std.proofs.lemmas.List.{get_or-map, get_or_default, length-map}
use Rattle.std.proofs.lemmas.List.Sums.{fails_before_first}
use Rattle.plain_machine.specs.Plain.{Entry as ShownEntry, did_overflow}
use Rattle.plain_machine.specs.declared.request.Dev.{Dev}
use Rattle.plain_machine.specs.declared.request.Dev.TheVariants.{Snap}
use Rattle.snapshot.specs.Kept.{Kept}
use Rattle.snapshot_list.specs.Finding.{place_of_snap}
use Rattle.volume.specs.Shown.{shown_entry}
use Rattle.audited_volume.specs.declared.entry.Entry.{Entry}
use Rattle.audited_volume.specs.declared.entry.Entry.TheVariants.{Overflowed}
use Rattle.audited_volume.specs.Marked.{IsMarkNoted, is_marked, is_new_mark}
use Rattle.audited_volume.proofs.Departed.{found_at}
use Rattle.audited_volume.proofs.Lost.{shown_at}

snap_is : (m n : ℕ) → Snap m ≡ Snap n → m ≡ n
snap_is m n e = cc

some_is : (m n : ℕ) → Some m ≡ Some n → m ≡ n
some_is m n e = cc

module _ {B : Type 0} (contents : B → List ℕ) (origin : List ℕ) where
  abbrev shown : List (Kept B) → List ShownEntry
  shown snaps = map (shown_entry contents origin) snaps

  same_search : (number : ℕ) (snaps : List (Kept B)) → position_or_len (λ e. e.number == number) (shown snaps) ≡ position_or_len (λ s. s.number == number) snaps
  same_search number [] = refl
  same_search number (s ∷ snaps) = elim (cases_Bool (s.number == number)) [
    | inl here ↦ rw here refl
    | inr other ↦ rw other (ap (λ k. 1 + k) (same_search number snaps))
  ]

  same_place : (number : ℕ) (snaps : List (Kept B)) → position (λ e. e.number == number) (shown snaps) ≡ place_of_snap number snaps
  same_place number snaps =
      let long : length (shown snaps) ≡ length snaps = length-map snaps (shown_entry contents origin) in
      (λ i. cond (nat_lt (same_search number snaps i) (long i)) (Some (same_search number snaps i)) None)

  -- no one before it has its number
  pub none_before : (number : ℕ) (snaps : List (Kept B)) (k : ℕ) → place_of_snap number snaps ≡ Some k → (j : ℕ) (d : ShownEntry) → j < k → (get_or (shown snaps) j d).number ≢ number
  none_before number snaps k found j d lt same =
      let at : position_or_len (λ e. e.number == number) (shown snaps) ≡ k = same_search number snaps ∙ found_at (λ s. s.number == number) snaps k found in
      let fails = fails_before_first (λ (e : ShownEntry). e.number == number) (shown snaps) j d (omega (arith, lt, at)) in
      false≢true (sym fails ∙ eq-eqb (get_or (shown snaps) j d).number number same)

  marked_there : (snaps : List (Kept B)) (k : ℕ) (s : Kept B) → k < length snaps → s ≡ get_or snaps k s → get_or (map is_marked (shown snaps)) k false ≡ did_overflow s.overflow
  marked_there snaps k s within is =
      let d : ShownEntry = shown_entry contents origin s in
      get_or-map is_marked (shown snaps) k d false (omega (arith, within, length-map snaps (shown_entry contents origin)))
      ∙ ap is_marked (shown_at contents origin snaps k s within d) ∙ ap (λ (x : Kept B). did_overflow x.overflow) (sym is)

  module _ (dev : Dev) (number : ℕ) (named : dev ≡ Snap number) (snaps : List (Kept B)) (lives may may' : List Bool) (es es' : List Entry) where
    -- there is no such snapshot
    pub nowhere_noted : place_of_snap number snaps ≡ None → may' ≡ may → es' ≡ es → IsMarkNoted dev (shown snaps) lives may may' es es'
    nowhere_noted none same are = inr (
      λ n place placed. absurd (
          let mine : number ≡ n = snap_is number n (sym named ∙ placed.0) in
          let found : None ≡ Some place = sym none ∙ ap (λ j. place_of_snap j snaps) mine ∙ sym (same_place n snaps) ∙ placed.1 in cc),
      same,
      are,
    )

    module _ (k : ℕ) (found : place_of_snap number snaps ≡ Some k) where
      -- its mark is new
      pub new_noted : get_or lives k false ≡ true → get_or may k false ≡ true → get_or (map is_marked (shown snaps)) k false ≡ true → may' ≡ set may k false → es' ≡ es ++ Overflowed number ∷ [] → IsMarkNoted dev (shown snaps) lives may may' es es'
      new_noted live could did same are = inl (number, k, (named, same_place number snaps ∙ found), all (get_or lives k false) (get_or may k false) (get_or (map is_marked (shown snaps)) k false) live could did, same, are)
        where
          all : (a b c : Bool) → a ≡ true → b ≡ true → c ≡ true → (a && b && c) ≡ true
          all true true true x y z = refl
          all true true false x y z = z
          all true false c x y z = y
          all false b c x y z = x

      -- or not
      pub old_noted : is_new_mark (shown snaps) lives may k ≡ false → may' ≡ may → es' ≡ es → IsMarkNoted dev (shown snaps) lives may may' es es'
      old_noted none same are = inr (
        λ n place placed.
            let mine : number ≡ n = snap_is number n (sym named ∙ placed.0) in
            let at : Some k ≡ Some place = sym found ∙ ap (λ j. place_of_snap j snaps) mine ∙ sym (same_place n snaps) ∙ placed.1 in
            subst (λ (j : ℕ). is_new_mark (shown snaps) lives may j ≡ false) (some_is k place at) none,
        same,
        are,
      )

  -- whether the mark is new, by what is read there
  module _ (snaps : List (Kept B)) (lives may : List Bool) (k : ℕ) (within : k < length snaps) (long : length may ≡ length snaps) where
    pub read_may : (x : Bool) → x ≡ get_or may k x → get_or may k false ≡ x
    read_may x is = get_or_default may k false x (omega (arith, within, long)) ∙ sym is

    pub read_mark : (s : Kept B) (b : Bool) → s ≡ get_or snaps k s → b ≡ did_overflow s.overflow → get_or (map is_marked (shown snaps)) k false ≡ b
    read_mark s b is did = marked_there snaps k s within is ∙ sym did

    pub dead_mark : get_or lives k false ≡ false → is_new_mark (shown snaps) lives may k ≡ false
    dead_mark e = none_first (get_or lives k false) (get_or may k false) (get_or (map is_marked (shown snaps)) k false) e
      where
        none_first : (a b c : Bool) → a ≡ false → (a && b && c) ≡ false
        none_first a b c e = ap (λ x. x && b && c) e

    pub noted_mark : get_or may k false ≡ false → is_new_mark (shown snaps) lives may k ≡ false
    noted_mark e = none_second (get_or lives k false) (get_or may k false) (get_or (map is_marked (shown snaps)) k false) e
      where
        none_second : (a b c : Bool) → b ≡ false → (a && b && c) ≡ false
        none_second true b c e = ap (λ x. x && c) e
        none_second false b c e = refl

    pub no_mark : get_or (map is_marked (shown snaps)) k false ≡ false → is_new_mark (shown snaps) lives may k ≡ false
    no_mark e = none_third (get_or lives k false) (get_or may k false) (get_or (map is_marked (shown snaps)) k false) e
      where
        none_third : (a b c : Bool) → c ≡ false → (a && b && c) ≡ false
        none_third true true c e = e
        none_third true false c e = refl
        none_third false b c e = refl
