-- Snapshots that are found spoiled, one place after another.
use Rattle.std.proofs.Common.{◌≡◌, ◌≢◌, ◌⊎◌, inl, inr, ℕ, zero, suc, ◌+◌, ◌<◌, ◌≤◌, Bool, true, false, List, [], ◌∷◌, ◌++◌, length, get_or, set, map, refl, sym, ◌∙◌, ap, subst, arith, length-append}
use Rattle.std.specs.Prelude.{◌&&◌, ◌||◌, ◌==◌, not, if◌then◌else◌}
use Rattle.std.specs.List.{All, list_any}
use Rattle.std.proofs.lemmas.Bool.{cases_eq, false≢true, eq-eqb, eqb-true}
use Rattle.std.proofs.lemmas.List.{get_or-set_same, get_or-set_other, get_or_default, length-set, append-nil, append_assoc, map-append, get_or-map, length-map, ext_get_or}
use Rattle.std.proofs.lemmas.List.Elements.{All-nil, All-append}
use Rattle.std.proofs.lemmas.List.Folds.{list_any-append}
use Rattle.std.proofs.lemmas.List.Quantifiers.{all_pairs_push}
use Rattle.plain_machine.specs.Plain.{Entry as ShownEntry, Saved, Live, Invalid, is_in, spoiled_entry}
use Rattle.plain_machine.specs.declared.request.Overflowing.{Overflowing}
use Rattle.plain_machine.specs.declared.request.Overflowing.TheVariants.{Never}
use Rattle.volume.specs.Shown.{shown_entry}
use Rattle.snapshot.specs.Kept.{Kept}
use Rattle.audited_volume.specs.declared.entry.Entry.{Entry}
use Rattle.audited_volume.specs.declared.entry.Entry.TheVariants.{Spoiled}
use Rattle.audited_volume.specs.Noted.{Noted, IsLost, is_live, is_live_state, live_count}
use Rattle.audited_volume.proofs.Spoils.{HasLive, not_invalid}

-- what callers see of a snapshot at a place says whether it is live, and its number
pub live_shown : (b : Bool) (array : List ℕ) → is_live_state (if b then Live array else Invalid) ≡ b
live_shown true array = refl
live_shown false array = refl

module _ {B : Type 0} (contents : B → List ℕ) (origin : List ℕ) (snaps : List (Kept B)) (k : ℕ) (s : Kept B) (within : k < length snaps) where
  pub shown_at : (d : ShownEntry) → get_or (map (shown_entry contents origin) snaps) k d ≡ shown_entry contents origin (get_or snaps k s)
  shown_at d = get_or-map (shown_entry contents origin) snaps k s d within

  pub live_at : (d : ShownEntry) → is_live (get_or (map (shown_entry contents origin) snaps) k d) ≡ (get_or snaps k s).live
  live_at d = ap is_live (shown_at d) ∙ live_shown (get_or snaps k s).live _

  pub number_at : (d : ShownEntry) → (get_or (map (shown_entry contents origin) snaps) k d).number ≡ (get_or snaps k s).number
  number_at d = ap (λ (e : ShownEntry). e.number) (shown_at d)

pub count_lost : (xs : List Bool) (k : ℕ) → k < length xs → get_or xs k false ≡ true → suc (live_count (set xs k false)) ≡ live_count xs
count_lost [] k lt e = absurd (omega (arith, lt))
count_lost (true ∷ xs) zero lt e = refl
count_lost (false ∷ xs) zero lt e = absurd (false≢true e)
count_lost (true ∷ xs) (suc k) lt e = ap suc (count_lost xs k (omega (arith, lt)) e)
count_lost (false ∷ xs) (suc k) lt e = count_lost xs k (omega (arith, lt)) e

pub count_some : (xs : List Bool) (k : ℕ) → get_or xs k false ≡ true → 0 < live_count xs
count_some [] k e = absurd (false≢true e)
count_some (true ∷ xs) k e = omega arith
count_some (false ∷ xs) zero e = absurd (false≢true e)
count_some (false ∷ xs) (suc k) e = count_some xs k e

pub live_few : (bs : List Bool) → live_count bs ≤ length bs
live_few [] = omega arith
live_few (true ∷ bs) = omega (arith, live_few bs)
live_few (false ∷ bs) = omega (arith, live_few bs)

pub both_true : (a b : Bool) → (a && not b) ≡ true → (a ≡ true) × (b ≡ false)
both_true true true e = absurd (false≢true e)
both_true true false e = (refl, refl)
both_true false b e = absurd (false≢true e)

pub lost_is : (a b c : Bool) → a ≡ true → c ≡ b → not c ≡ (a && not b)
lost_is a b c on same = ap not same ∙ sym (ap (λ x. x && not b) on)

any_entry : ShownEntry
any_entry = record { number = 0; saved = Invalid; overflow = Never }

-- there is room for one more
pub noted_room : (n : ℕ) (saved : List ShownEntry) (lives lives' : List Bool) (entries entries' : List Entry) (k : ℕ) → Noted n saved lives lives' entries entries' → get_or lives' k false ≡ true → length entries' < length entries + live_count lives
noted_room n saved lives lives' entries entries' k s e = omega (arith, ap length s.entries_are, length-append entries (map Spoiled s.which), length-map s.which Spoiled, s.room, count_some lives' k e)

module _ (saved : List ShownEntry) (lives : List Bool) where
  -- before the first place
  pub noted_none : (entries : List Entry) → Noted 0 saved lives lives entries entries
  noted_none entries = record {
    which = [];
    entries_are = sym (append-nil entries);
    same_length = refl;
    looked = λ k d lt. absurd (omega (arith, lt));
    ahead = λ k lt. refl;
    sound = All-nil (IsLost saved lives 0);
    apart = λ i j d lt within. absurd (omega (arith, within));
    complete = λ k d lt was is. absurd (omega (arith, lt));
    room = omega arith;
  }

  later_lost : (n number : ℕ) → IsLost saved lives n number → IsLost saved lives (n + 1) number
  later_lost n number l = record { place = l.place; within = omega (arith, l.within); was = l.was; is = l.is; mine = l.mine }

  kept_bit : (a b : Bool) → (a && not b) ≡ false → a ≡ (a && b)
  kept_bit true true e = refl
  kept_bit true false e = absurd (false≢true (sym e))
  kept_bit false b e = refl

  not_lost : (a b : Bool) → (a && not b) ≡ false → a ≡ true → b ≡ false → ⊥
  not_lost true true e was is = false≢true (sym is)
  not_lost true false e was is = false≢true (sym e)
  not_lost false b e was is = false≢true was

  module _ (n : ℕ) (lives' : List Bool) (entries entries' : List Entry) (s : Noted n saved lives lives' entries entries') where
    here : get_or lives' n false ≡ get_or lives n false
    here = s.ahead n (omega arith)

    -- a place where nothing was lost
    pub noted_kept : ((d : ShownEntry) → (get_or lives' n false && not (is_live (get_or saved n d))) ≡ false) → Noted (n + 1) saved lives lives' entries entries'
    noted_kept same = record {
      which = s.which;
      entries_are = s.entries_are;
      same_length = s.same_length;
      looked = λ k d lt. elim (cases_eq k n) [
        | inl at ↦ subst (λ (j : ℕ). get_or lives' j false ≡ (get_or lives j false && is_live (get_or saved j d))) (sym at) (kept_bit (get_or lives' n false) (is_live (get_or saved n d)) (same d) ∙ ap (λ b. b && is_live (get_or saved n d)) here)
        | inr apart ↦ s.looked k d (omega (arith, lt, apart))
      ];
      ahead = λ k lt. s.ahead k (omega (arith, lt));
      sound = λ k d lt. later_lost n _ (s.sound k d lt);
      apart = s.apart;
      complete = λ k d lt was is. elim (cases_eq k n) [
        | inl at ↦ absurd (not_lost (get_or lives' n false) (is_live (get_or saved n d)) (same d) (here ∙ ap (λ (j : ℕ). get_or lives j false) (sym at) ∙ was) (ap (λ (j : ℕ). is_live (get_or saved j d)) (sym at) ∙ is))
        | inr apart ↦ s.complete k d (omega (arith, lt, apart)) was is
      ];
      room = s.room;
    }

    -- a snapshot that was lost, the first that has its number
    pub noted_lost : (number : ℕ) → n < length lives → get_or lives' n false ≡ true → ((d : ShownEntry) → is_live (get_or saved n d) ≡ false) → ((d : ShownEntry) → (get_or saved n d).number ≡ number)
        → ((j : ℕ) (d : ShownEntry) → j < n → (get_or saved j d).number ≢ number) → Noted (n + 1) saved lives (set lives' n false) entries (entries' ++ Spoiled number ∷ [])
    noted_lost number within was is mine first =
        let inside : n < length lives' = omega (arith, within, s.same_length) in record {
          which = s.which ++ number ∷ [];
          entries_are = ap (λ (es : List Entry). es ++ Spoiled number ∷ []) s.entries_are ∙ append_assoc entries (map Spoiled s.which) (Spoiled number ∷ []) ∙ ap (λ (es : List Entry). entries ++ es) (sym (map-append Spoiled s.which (number ∷ [])));
          same_length = length-set lives' n false ∙ s.same_length;
          looked = λ k d lt. elim (cases_eq k n) [
            | inl at ↦ subst (λ (j : ℕ). get_or (set lives' n false) j false ≡ (get_or lives j false && is_live (get_or saved j d))) (sym at)
                (get_or-set_same lives' n false false inside ∙ sym (ap (λ b. get_or lives n false && b) (is d) ∙ and_false (get_or lives n false)))
            | inr apart ↦ get_or-set_other lives' n k false false apart ∙ s.looked k d (omega (arith, lt, apart))
          ];
          ahead = λ k lt. get_or-set_other lives' n k false false (λ e. absurd (omega (arith, lt, e))) ∙ s.ahead k (omega (arith, lt));
          sound = All-append (IsLost saved lives (n + 1)) s.which (number ∷ []) (λ k d lt. later_lost n _ (s.sound k d lt)) (one_lost number was is mine);
          apart = all_pairs_push (λ a b. a ≢ b) s.which number s.apart (λ k d lt. other_lost number first (get_or s.which k d) (s.sound k d lt));
          complete = λ k d lt was' is'. elim (cases_eq k n) [
            | inl at ↦ at_end s.which number (get_or saved k d).number (ap (λ (j : ℕ). (get_or saved j d).number) at ∙ mine d)
            | inr apart ↦ in_front s.which number (get_or saved k d).number (s.complete k d (omega (arith, lt, apart)) was' is')
          ];
          room = omega (arith, length-append s.which (number ∷ []), s.room, count_lost lives' n inside was);
        }
      where
        and_false : (b : Bool) → (b && false) ≡ false
        and_false true = refl
        and_false false = refl

        one_lost : (number : ℕ) → get_or lives' n false ≡ true → ((d : ShownEntry) → is_live (get_or saved n d) ≡ false) → ((d : ShownEntry) → (get_or saved n d).number ≡ number) → All (IsLost saved lives (n + 1)) (number ∷ [])
        one_lost number was is mine zero d lt = record { place = n; within = omega arith; was = sym here ∙ was; is = is; mine = mine }
        one_lost number was is mine (suc k) d lt = absurd (omega (arith, lt))

        other_lost : (number : ℕ) → ((j : ℕ) (d : ShownEntry) → j < n → (get_or saved j d).number ≢ number) → (other : ℕ) → IsLost saved lives n other → other ≢ number
        other_lost number first other l same = first l.place any_entry l.within (l.mine any_entry ∙ same)

        or_true : (b : Bool) → (b || true) ≡ true
        or_true true = refl
        or_true false = refl

        at_end : (ns : List ℕ) (n m : ℕ) → m ≡ n → is_in (ns ++ n ∷ []) m ≡ true
        at_end ns n m same = list_any-append (λ j. j == m) ns (n ∷ []) ∙ ap (λ b. is_in ns m || b) (ap (λ b. b || false) (eq-eqb n m (sym same))) ∙ or_true (is_in ns m)

        in_front : (ns : List ℕ) (n m : ℕ) → is_in ns m ≡ true → is_in (ns ++ n ∷ []) m ≡ true
        in_front ns n m e = list_any-append (λ j. j == m) ns (n ∷ []) ∙ ap (λ b. b || is_in (n ∷ []) m) e

-- the snapshots that were found spoiled are all that were spoiled
abbrev inv : ShownEntry → ShownEntry
inv x = record x { saved = Invalid }

same_by : (a b : Bool) (n : ℕ) (s : Saved) (o : Overflowing) → (a ≡ true → is_live_state s ≡ true → b ≡ true) → (b ≡ true → a ≡ true)
    → (if b then (record { number = n; saved = Invalid; overflow = o }) else (record { number = n; saved = s; overflow = o })) ≡ (let x : ShownEntry = if a then (record { number = n; saved = Invalid; overflow = o }) else (record { number = n; saved = s; overflow = o }) in x)
same_by true true n s o more less = refl
same_by false false n s o more less = refl
same_by false true n s o more less = absurd (false≢true (less refl))
same_by true false n (Live array) o more less = absurd (false≢true (more refl refl))
same_by true false n Invalid o more less = refl

module _ (which : List ℕ) (old new : List ShownEntry) (lives lives' : List Bool) (es es' : List Entry) (was : lives ≡ map is_live old) (is : new ≡ map (spoiled_entry which) old) (s : Noted (length new) new lives lives' es es') where
  len : length new ≡ length old
  len = ap length is ∙ length-map old (spoiled_entry which)

  was_at : (k : ℕ) (d : ShownEntry) → k < length old → get_or lives k false ≡ is_live (get_or old k d)
  was_at k d lt = ap (λ (l : List Bool). get_or l k false) was ∙ get_or-map is_live old k d false lt

  new_at : (k : ℕ) (d : ShownEntry) → k < length old → get_or new k d ≡ spoiled_entry which (get_or old k d)
  new_at k d lt = ap (λ (l : List ShownEntry). get_or l k d) is ∙ get_or-map (spoiled_entry which) old k d d lt

  live_kept : (b : Bool) (x : ShownEntry) → b ≡ false → is_live (if b then inv x else x) ≡ is_live x
  live_kept true x e = absurd (false≢true (sym e))
  live_kept false x e = refl

  gone : (b : Bool) (x : ShownEntry) → b ≡ true → is_live (if b then inv x else x) ≡ false
  gone true x e = refl
  gone false x e = absurd (false≢true e)

  number_same : (b : Bool) (x : ShownEntry) → (if b then inv x else x).number ≡ x.number
  number_same true x = refl
  number_same false x = refl

  -- a number that was noted is one that was spoiled
  spoiled_too : (x : ShownEntry) → is_in s.which x.number ≡ true → is_in which x.number ≡ true
  spoiled_too x e =
      let (k, d, within, passes) = found in
      let lost : IsLost new lives (length new) (get_or s.which k d) = s.sound k d within in
      let low : lost.place < length old = omega (arith, lost.within, len) in
      let same : get_or s.which k d ≡ x.number = eqb-true (get_or s.which k d) x.number passes in
      let at : (get_or old lost.place x).number ≡ x.number = sym (number_same (is_in which (get_or old lost.place x).number) (get_or old lost.place x)) ∙ ap (λ (y : ShownEntry). y.number) (sym (new_at lost.place x low)) ∙ lost.mine x ∙ same in
      elim (bool_cases (is_in which x.number)) [
        | inl spoilt ↦ spoilt
        | inr kept ↦ absurd (false≢true (
            sym (lost.is x)
            ∙ ap is_live (new_at lost.place x low)
            ∙ live_kept (is_in which (get_or old lost.place x).number) (get_or old lost.place x) (ap (is_in which) at ∙ kept)
            ∙ sym (was_at lost.place x low) ∙ lost.was))
      ]
    where
      bool_cases : (b : Bool) → (b ≡ true) ⊎ (b ≡ false)
      bool_cases true = inl refl
      bool_cases false = inr refl

      any_at : (p : ℕ → Bool) (ns : List ℕ) (d : ℕ) → list_any p ns ≡ true → (k : ℕ) × (d : ℕ) × (k < length ns) × (p (get_or ns k d) ≡ true)
      any_at p [] d e = absurd (false≢true e)
      any_at p (n ∷ ns) d e = elim (bool_cases (p n)) [
        | inl passes ↦ (0, d, omega arith, passes)
        | inr fails ↦ let (k, f, lt, at) = any_at p ns d (sym (ap (λ b. b || list_any p ns) fails) ∙ e) in (suc k, f, omega (arith, lt), at)
      ]

      found : (k : ℕ) × (d : ℕ) × (k < length s.which) × ((get_or s.which k d == x.number) ≡ true)
      found = any_at (λ (j : ℕ). j == x.number) s.which 0 e

  same_at : (k : ℕ) (d : ShownEntry) → k < length old → spoiled_entry s.which (get_or old k d) ≡ spoiled_entry which (get_or old k d)
  same_at k d lt =
      let x = get_or old k d in
      same_by (is_in which x.number) (is_in s.which x.number) x.number x.saved x.overflow
      (λ spoilt live. let e : (get_or new k d).number ≡ x.number = ap (λ (y : ShownEntry). y.number) (new_at k d lt) ∙ number_same (is_in which x.number) x in
      ap (is_in s.which) (sym e) ∙ s.complete k d (omega (arith, lt, len)) (was_at k d lt ∙ live) (ap is_live (new_at k d lt) ∙ gone (is_in which x.number) x spoilt))
      (spoiled_too x)

  pub all_noted : map (spoiled_entry s.which) old ≡ new
  all_noted =
      let d : ShownEntry = any_entry in
      ext_get_or d _ _ (length-map old (spoiled_entry s.which) ∙ sym len)
      (λ i lt. let low : i < length old = omega (arith, lt, length-map old (spoiled_entry s.which)) in get_or-map (spoiled_entry s.which) old i d d low ∙ same_at i d low ∙ sym (new_at i d low))

  live_both : (b : Bool) (x : ShownEntry) → (is_live x && is_live (if b then inv x else x)) ≡ is_live (if b then inv x else x)
  live_both true x = and_false (is_live x)
    where
      and_false : (b : Bool) → (b && false) ≡ false
      and_false true = refl
      and_false false = refl
  live_both false x = and_self (is_live x)
    where
      and_self : (b : Bool) → (b && b) ≡ b
      and_self true = refl
      and_self false = refl

  -- each was live
  pub were_live : All (HasLive old) s.which
  were_live k d lt =
      let number : ℕ = get_or s.which k d in
      let lost : IsLost new lives (length new) number = s.sound k d lt in
      let low : lost.place < length old = omega (arith, lost.within, len) in
      let x : ShownEntry = get_or old lost.place any_entry in
      let mine : x.number ≡ number = sym (number_same (is_in which x.number) x) ∙ ap (λ (y : ShownEntry). y.number) (sym (new_at lost.place any_entry low)) ∙ lost.mine any_entry in
      (lost.place, x, low, get_or_default old lost.place x any_entry low, (mine, not_invalid x.saved (sym (was_at lost.place any_entry low) ∙ lost.was)))

  -- and the lives are those of the snapshots now
  pub lives_now : lives' ≡ map is_live new
  lives_now =
      let d : ShownEntry = any_entry in
      let n : length lives ≡ length old = ap length was ∙ length-map old is_live in
      ext_get_or false _ _ (omega (arith, s.same_length, n, len, length-map new is_live))
      (λ i lt. let low : i < length old = omega (arith, lt, s.same_length, n) in
      s.looked i d (omega (arith, low, len))
      ∙ ap (λ b. b && is_live (get_or new i d)) (was_at i d low)
      ∙ ap (λ (y : ShownEntry). is_live (get_or old i d) && is_live y) (new_at i d low)
      ∙ live_both (is_in which (get_or old i d).number) (get_or old i d)
      ∙ ap is_live (sym (new_at i d low))
      ∙ sym (get_or-map is_live new i d false (omega (arith, low, len))))

-- Where no snapshot came back, a look leaves which are live now.
pub noted_now : (saved : List ShownEntry) (lives lives' : List Bool) (es es' : List Entry) → Noted (length saved) saved lives lives' es es' → length lives ≡ length saved
    → ((k : ℕ) → get_or (map is_live saved) k false ≡ true → get_or lives k false ≡ true) → lives' ≡ map is_live saved
noted_now saved lives lives' es es' s same fewer =
    ext_get_or false lives' (map is_live saved) (omega (arith, s.same_length, same, length-map saved is_live))
    (λ i lt.
    let low : i < length saved = omega (arith, lt, s.same_length, same) in
    let at : get_or (map is_live saved) i false ≡ is_live (get_or saved i any_entry) = get_or-map is_live saved i any_entry false low in
    s.looked i any_entry low ∙ second (get_or lives i false) (is_live (get_or saved i any_entry)) (λ e. fewer i (at ∙ e)) ∙ sym at)
  where
    second : (a b : Bool) → (b ≡ true → a ≡ true) → (a && b) ≡ b
    second true b more = refl
    second false true more = absurd (false≢true (more refl))
    second false false more = refl
