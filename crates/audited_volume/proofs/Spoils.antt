-- Spoils are lawful: each is of a snapshot that is there, and was not spoiled before.
use Rattle.std.proofs.Common.{◌≡◌, ◌≢◌, ℕ, suc, Bool, true, false, List, [], ◌∷◌, get_or, map, refl, sym, ◌∙◌, ap, arith, inl, inr, AllPairs, Any}
use Rattle.std.specs.Prelude.{◌&&◌, ◌||◌, ◌==◌, if◌then◌else◌}
use Rattle.std.specs.List.{All, list_any}
use Rattle.std.proofs.lemmas.Bool.{cases_Bool, false≢true, eqb-true, eq-eqb, ne_eqb}
use Rattle.std.proofs.lemmas.List.{get_or-map, length-map}
use Rattle.std.proofs.lemmas.List.Folds.{Any-from_list_any}
use Rattle.plain_machine.specs.Plain.{Entry as ShownEntry, Saved, Live, Invalid, Shown, spoiled_entry}
use Rattle.audited_volume.specs.declared.entry.Entry.TheVariants.{Spoiled}
use Rattle.audited_volume.specs.Replay.{after, replay, AllLawful}
use Rattle.audited_volume.specs.Noted.{is_live, is_live_state}
use Rattle.audited_volume.proofs.Replaying.{spoiled_both, spoiled_none}

-- a live snapshot has this number
abbrev pub HasLive : List ShownEntry → ℕ → Type 0
HasLive saved number = Any (λ e. (e.number ≡ number) × (e.saved ≢ Invalid)) saved

pub not_invalid : (s : Saved) → is_live_state s ≡ true → s ≢ Invalid
not_invalid s live is = false≢true (sym (ap is_live_state is) ∙ live)

-- one that is spoiled leaves those with other numbers
other_live : (n m : ℕ) (saved : List ShownEntry) → n ≢ m → HasLive saved m → HasLive (map (spoiled_entry (n ∷ [])) saved) m
other_live n m saved apart (k, x, within, is, (mine, live)) =
    let here : spoiled_entry (n ∷ []) x ≡ x = rw (ne_eqb n x.number (λ e. apart (e ∙ mine))) refl in
    (k, x, omega (arith, within, length-map saved (spoiled_entry (n ∷ []))), get_or-map (spoiled_entry (n ∷ [])) saved k x x within ∙ ap (spoiled_entry (n ∷ [])) is ∙ here, (mine, live))

-- Live snapshots, each once, may be spoiled one after another.
pub lawful_spoils : (s : Shown) (ns : List ℕ) → All (HasLive s.saved) ns → AllPairs (λ m n. m ≢ n) ns → AllLawful s (map Spoiled ns)
lawful_spoils s [] live apart = tt
lawful_spoils s (n ∷ ns) live apart = (
  live 0 n (omega arith),
  lawful_spoils (after s (Spoiled n)) ns
      (λ k d lt. other_live n (get_or ns k d) s.saved (apart 0 (suc k) d (omega arith) (omega (arith, lt))) (live (suc k) d (omega (arith, lt))))
      (λ i j d lt within. apart (suc i) (suc j) d (omega (arith, lt)) (omega (arith, within))),
)

-- of some numbers those that spoil a live snapshot, one after another
abbrev pub is_live_under : ℕ → ShownEntry → Bool
is_live_under n e = (e.number == n) && is_live e

abbrev pub lost_of : List ℕ → List ShownEntry → List ℕ
lost_of [] saved = []
lost_of (n ∷ ns) saved = if list_any (is_live_under n) saved then n ∷ lost_of ns (map (spoiled_entry (n ∷ [])) saved) else lost_of ns saved

first_bit : (a b : Bool) → (a && b) ≡ true → a ≡ true
first_bit true b e = refl
first_bit false b e = absurd (false≢true e)

second_bit : (a b : Bool) → (a && b) ≡ true → b ≡ true
second_bit true b e = e
second_bit false b e = absurd (false≢true e)

live_found : (n : ℕ) (saved : List ShownEntry) → list_any (is_live_under n) saved ≡ true → HasLive saved n
live_found n saved any =
    let (k, x, within, is, passes) = Any-from_list_any (is_live_under n) saved any in
    (k, x, within, is, (eqb-true x.number n (first_bit (x.number == n) (is_live x) passes), not_invalid x.saved (second_bit (x.number == n) (is_live x) passes)))

-- one that spoils none changes nothing
dead_same : (s : Saved) → is_live_state s ≡ false → Invalid ≡ s
dead_same (Live array) dead = absurd (false≢true (sym dead))
dead_same Invalid dead = refl

both_false : (a b : Bool) → (a && b) ≡ false → a ≡ true → b ≡ false
both_false true b e is = e
both_false false b e is = absurd (false≢true is)

one_same : (n : ℕ) (x : ShownEntry) → is_live_under n x ≡ false → spoiled_entry (n ∷ []) x ≡ x
one_same n x none = elim (cases_Bool (n == x.number)) [
  | inl here ↦ rw here (let dead = both_false (x.number == n) (is_live x) none (eq-eqb x.number n (sym (eqb-true n x.number here))) in (λ i. record x { saved = dead_same x.saved dead i }))
  | inr other ↦ rw other refl
]

or_first : (a b : Bool) → (a || b) ≡ false → a ≡ false
or_first true b e = e
or_first false b e = refl

or_second : (a b : Bool) → (a || b) ≡ false → b ≡ false
or_second true b e = absurd (false≢true (sym e))
or_second false b e = e

none_same : (n : ℕ) (saved : List ShownEntry) → list_any (is_live_under n) saved ≡ false → map (spoiled_entry (n ∷ [])) saved ≡ saved
none_same n [] none = refl
none_same n (x ∷ saved) none = (λ i. one_same n x (or_first (is_live_under n x) (list_any (is_live_under n) saved) none) i ∷ none_same n saved (or_second (is_live_under n x) (list_any (is_live_under n) saved) none) i)

pub lost_lawful : (s : Shown) (ns : List ℕ) → AllLawful s (map Spoiled (lost_of ns s.saved))
lost_lawful s [] = tt
lost_lawful s (n ∷ ns) = elim (cases_Bool (list_any (is_live_under n) s.saved)) [
  | inl live ↦ rw live (live_found n s.saved live, lost_lawful (after s (Spoiled n)) ns)
  | inr none ↦ rw none (lost_lawful s ns)
]

pub replay_lost : (s : Shown) (ns : List ℕ) → replay s (map Spoiled (lost_of ns s.saved)) ≡ record s { saved = map (spoiled_entry ns) s.saved }
replay_lost s [] = ap (λ ys. record s { saved = ys }) (sym (spoiled_none s.saved))
replay_lost s (n ∷ ns) = elim (cases_Bool (list_any (is_live_under n) s.saved)) [
  | inl live ↦ rw live (replay_lost (after s (Spoiled n)) ns ∙ ap (λ ys. record s { saved = ys }) (spoiled_both n ns s.saved))
  | inr none ↦ rw none (replay_lost s ns ∙ ap (λ ys. record s { saved = ys }) (ap (map (spoiled_entry ns)) (sym (none_same n s.saved none)) ∙ spoiled_both n ns s.saved))
]
