-- Snapshots by their places, and by their numbers, which rise.
use Rattle.std.proofs.Common.{◌≡◌, inl, inr, ℕ, zero, suc, ◌<◌, true, false, List, [], ◌∷◌, length, map, arith, refl, ap, ◌∙◌, sym, subst}
use Rattle.std.specs.Prelude.{◌==◌, AllPairs, Some, Ok, Err, slice_get, slice_set}
use Rattle.std.specs.List.{remove}
use Rattle.std.proofs.lemmas.Bool.{cases_Bool, cond-true, cond-false}
use Rattle.std.proofs.lemmas.Option.{slice_get_cases}
use Rattle.volume_laws.proofs.Lists.{AllPairs-head, AllPairs-tail}
use Rattle.sector.specs.declared.refusal.Refusal.TheVariants.{NoSuchDevice}
use Rattle.plain_machine.specs.Plain.{Saved, Entry, marked_in}
use Rattle.whole_commands.specs.Snaps.{Snap, Volume as Settled}
use Rattle.whole_commands.specs.Attaching.{detached}
use Rattle.whole_commands.proofs.Each.{Each, each_from}
use Rattle.command_semantics.specs.State.{Names}
use Rattle.command_semantics.specs.Messages.{snap_at}
use Rattle.command_semantics.proofs.Keeping.{same_ok, not_ok}
use Rattle.volume_commands.specs.Showing.{entry_of, changed_at, saved_at, AreKept as AreEntriesKept}
use Rattle.commands_on_saved_arrays.specs.Arrays.{Named, named_by}
use Rattle.commands_on_saved_arrays.specs.Shown.{AreKept}

-- each number is below all later ones
abbrev pub Rise : List ℕ → Type 0
Rise numbers = AllPairs (λ m n. m < n) numbers

-- the snapshot at a place
pub snap_there : (k : ℕ) (state : Settled) (s : Snap) → snap_at k state ≡ Ok s → slice_get state.snaps k ≡ Some s
snap_there k state s h = elim (slice_get_cases state.snaps k).1 [
  | inl (x, lt, here, found) ↦ (let at : snap_at k state ≡ Ok x = rw here refl in here ∙ ap Some (same_ok x s (sym at ∙ h)))
  | inr (past, nothing) ↦ (let at : snap_at k state ≡ Err NoSuchDevice = rw nothing refl in absurd (not_ok _ s (sym at ∙ h)))
]

-- a number below all is not that of a later one
later : {X : Type 0} (number : X → ℕ) (a k : ℕ) (xs : List X) (x : X) → Each (λ (m : ℕ). a < m) (map number xs) → slice_get xs k ≡ Some x → a < number x
later number a k [] x all at = absurd (cc)
later number a zero (y ∷ xs) x all at = let e : y ≡ x = cc in subst (λ (z : _). a < number z) e all.0
later number a (suc k) (y ∷ xs) x all at = later number a k xs x all.1 at

first_other : {X : Type 0} (number : X → ℕ) (k : ℕ) (x : X) (xs : List X) (y : X) → Rise (map number (x ∷ xs)) → slice_get xs k ≡ Some y → (number x == number y) ≡ false
first_other number k x xs y rise at =
    let lt : number x < number y = later number (number x) k xs y (each_from (λ (m : ℕ). number x < m) (map number xs) (AllPairs-head (λ m n. m < n) (number x) (map number xs) rise)) at in
    elim (cases_Bool (number x == number y)) [
      | inl same ↦ absurd (grind arith)
      | inr other ↦ other
    ]

tail_rises : {X : Type 0} (number : X → ℕ) (x : X) (xs : List X) → Rise (map number (x ∷ xs)) → Rise (map number xs)
tail_rises number x xs rise = AllPairs-tail (λ m n. m < n) (number x) (map number xs) rise

-- a detach by number is one by place
pub detached_here : (k : ℕ) (snaps : List Snap) (s : Snap) → Rise (map (λ t. t.number) snaps) → slice_get snaps k ≡ Some s → detached s.number snaps ≡ remove snaps k
detached_here k [] s rise at = absurd (cc)
detached_here zero (t ∷ snaps) s rise at = let e : t ≡ s = cc in cond-true _ _ _ (subst (λ (u : Snap). (t.number == u.number) ≡ true) e (same_number t.number))
  where
    same_number : (n : ℕ) → (n == n) ≡ true
    same_number n = grind arith
detached_here (suc k) (t ∷ snaps) s rise at =
    cond-false _ _ _ (first_other (λ (u : Snap). u.number) k t snaps s rise at) ∙ ap (λ ss. t ∷ ss) (detached_here k snaps s (tail_rises (λ (u : Snap). u.number) t snaps rise) at)

-- one less by place
pub named_less : (disk : List ℕ) (k : ℕ) (names : List Names) (snaps : List Snap) → length names ≡ length snaps → named_by disk (remove names k) (remove snaps k) ≡ remove (named_by disk names snaps) k
named_less disk zero [] [] same = refl
named_less disk (suc k) [] [] same = refl
named_less disk k [] (s ∷ snaps) same = absurd (omega (arith, same))
named_less disk k (n ∷ names) [] same = absurd (omega (arith, same))
named_less disk zero (n ∷ names) (s ∷ snaps) same = refl
named_less disk (suc k) (n ∷ names) (s ∷ snaps) same = ap (λ xs. record { name = n.snapshot; saved = (entry_of disk s).saved } ∷ xs) (named_less disk k names snaps (omega (arith, same)))

-- names beside what numbers show
abbrev pub named_with : List Names → List Entry → List Named
named_with [] es = []
named_with (n ∷ names) [] = []
named_with (n ∷ names) (e ∷ es) = record { name = n.snapshot; saved = e.saved } ∷ named_with names es

pub named_is : (disk : List ℕ) (names : List Names) (snaps : List Snap) → named_by disk names snaps ≡ named_with names (map (entry_of disk) snaps)
named_is disk [] snaps = refl
named_is disk (n ∷ names) [] = refl
named_is disk (n ∷ names) (s ∷ snaps) = ap (λ xs. record { name = n.snapshot; saved = (entry_of disk s).saved } ∷ xs) (named_is disk names snaps)

-- one that is marked shows what it showed
pub named_marked : (number : ℕ) (names : List Names) (es : List Entry) → named_with names (marked_in number es) ≡ named_with names es
named_marked number [] es = refl
named_marked number (n ∷ names) [] = refl
named_marked number (n ∷ names) (e ∷ es) = elim (cases_Bool (e.number == number)) [
  | inl this ↦ ap (named_with (n ∷ names)) (cond-true _ _ _ this)
  | inr other ↦ ap (named_with (n ∷ names)) (cond-false _ _ _ other) ∙ ap (λ xs. record { name = n.snapshot; saved = e.saved } ∷ xs) (named_marked number names es)
]

pub numbers_are : (disk : List ℕ) (snaps : List Snap) → map (λ e. e.number) (map (entry_of disk) snaps) ≡ map (λ s. s.number) snaps
numbers_are disk [] = refl
numbers_are disk (s ∷ snaps) = ap (λ ns. s.number ∷ ns) (numbers_are disk snaps)

pub entry_at : (disk : List ℕ) (k : ℕ) (snaps : List Snap) (s : Snap) → slice_get snaps k ≡ Some s → slice_get (map (entry_of disk) snaps) k ≡ Some (entry_of disk s)
entry_at disk k [] s at = absurd (cc)
entry_at disk zero (t ∷ snaps) s at = let e : t ≡ s = cc in ap (λ u. Some (entry_of disk u)) e
entry_at disk (suc k) (t ∷ snaps) s at = entry_at disk k snaps s at

pub entries_kept : (names : List Names) (es fs : List Entry) → AreEntriesKept es fs → AreKept (named_with names es) (named_with names fs)
entries_kept [] es fs kept = tt
entries_kept (n ∷ names) [] [] kept = tt
entries_kept (n ∷ names) [] (f ∷ fs) kept = absurd kept
entries_kept (n ∷ names) (e ∷ es) [] kept = absurd kept
entries_kept (n ∷ names) (e ∷ es) (f ∷ fs) kept = (refl, kept.2, entries_kept names es fs kept.3)

-- What the snapshot with a number shows is what the one at a place shows, and a change of the one is that of the other.
pub record IsHere (number k : ℕ) (f : Saved → Saved) (names : List Names) (es : List Entry) : Type 0 where
  pub snapshot : Named
  pub was : slice_get (named_with names es) k ≡ Some snapshot
  pub shows : saved_at number es ≡ snapshot.saved
  pub becomes : named_with names (changed_at number f es) ≡ slice_set (named_with names es) k (record { name = snapshot.name; saved = f snapshot.saved })

pub is_here : (number k : ℕ) (f : Saved → Saved) (names : List Names) (es : List Entry) (e : Entry) → length names ≡ length es → Rise (map (λ x. x.number) es) → slice_get es k ≡ Some e → e.number ≡ number → IsHere number k f names es
is_here number k f names [] e len rise at is = absurd (cc)
is_here number k f [] (x ∷ es) e len rise at is = absurd (omega (arith, len))
is_here number zero f (n ∷ names) (x ∷ es) e len rise at is =
    let same : x ≡ e = cc in
    let this : (x.number == number) ≡ true = grind arith in
    record {
      snapshot = record { name = n.snapshot; saved = x.saved };
      was = refl;
      shows = cond-true _ _ _ this;
      becomes = ap (named_with (n ∷ names)) (cond-true _ _ _ this);
    }
is_here number (suc k) f (n ∷ names) (x ∷ es) e len rise at is =
    let rest : IsHere number k f names es = is_here number k f names es e (omega (arith, len)) (tail_rises (λ (u : Entry). u.number) x es rise) at is in
    let other : (x.number == number) ≡ false = subst (λ (m : ℕ). (x.number == m) ≡ false) is (first_other (λ (u : Entry). u.number) k x es e rise at) in
    record {
      snapshot = rest.snapshot;
      was = rest.was;
      shows = cond-false _ _ _ other ∙ rest.shows;
      becomes = ap (named_with (n ∷ names)) (cond-false _ _ _ other) ∙ ap (λ xs. record { name = n.snapshot; saved = x.saved } ∷ xs) rest.becomes;
    }
