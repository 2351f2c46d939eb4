-- The arrays of a table, by those of its volumes.
use Rattle.std.proofs.Common.{◌≡◌, inl, inr, ℕ, zero, suc, List, [], ◌∷◌, ◌++◌, length, map, arith, refl, ap, ◌∙◌, sym}
use Rattle.std.specs.Prelude.{Option, Some, Ok, Err, slice_get, slice_set}
use Rattle.std.specs.List.{remove}
use Rattle.std.proofs.lemmas.List.{map-set}
use Rattle.std.proofs.lemmas.Option.{slice_get_cases, slice_get_read}
use Rattle.std.proofs.Math.Seq.{map-set_same}
use Rattle.plain_machine.specs.Plain.{Saved}
use Rattle.sector.specs.declared.refusal.Refusal.TheVariants.{NoSuchDevice}
use Rattle.whole_commands.specs.Snaps.{Snap, shown}
use Rattle.command_semantics.specs.State.{Names, Volume, Table}
use Rattle.command_semantics.specs.Places.{volume_at}
use Rattle.command_semantics.specs.Raw.{names_at}
use Rattle.command_semantics.proofs.Keeping.{same_ok, not_ok, volume_there}
use Rattle.commands_on_saved_arrays.specs.Arrays.{Named, Arrays, named_by, arrays_of, arrays_in}
use Rattle.commands_on_saved_arrays.specs.Shown.{IsChangedAt}

-- a list of arrays where one stands
mapped_at : (volumes : List Volume) (v : ℕ) (old : Volume) → slice_get volumes v ≡ Some old → slice_get (map arrays_of volumes) v ≡ Some (arrays_of old)
mapped_at [] v old at = absurd (cc)
mapped_at (x ∷ volumes) zero old at = let e : x ≡ old = cc in ap (λ y. Some (arrays_of y)) e
mapped_at (x ∷ volumes) (suc v) old at = mapped_at volumes v old at

-- one volume changes
pub changed_in : (v : ℕ) (table : Table) (old new : Volume) (how : Arrays → Arrays → Type 0) → volume_at v table ≡ Ok old → how (arrays_of old) (arrays_of new) → IsChangedAt v how (arrays_in table) (map arrays_of (slice_set table.volumes v new))
changed_in v table old new how at done =
    let there = volume_there v table old at in
    (arrays_of old, arrays_of new, mapped_at table.volumes v old (slice_get_read table.volumes (length table.volumes) v old refl there.0 there.1), done, map-set arrays_of table.volumes v new)

-- or shows what it showed
pub same_in : (v : ℕ) (table : Table) (old new : Volume) → volume_at v table ≡ Ok old → arrays_of new ≡ arrays_of old → map arrays_of (slice_set table.volumes v new) ≡ arrays_in table
same_in v table old new at same =
    let there = volume_there v table old at in
    map-set_same arrays_of table.volumes v new old (same ∙ ap arrays_of there.1)

-- one more, and one less
pub one_more : (volumes : List Volume) (new : Volume) → map arrays_of (volumes ++ new ∷ []) ≡ map arrays_of volumes ++ arrays_of new ∷ []
one_more [] new = refl
one_more (x ∷ volumes) new = ap (λ xs. arrays_of x ∷ xs) (one_more volumes new)

pub one_less : (volumes : List Volume) (v : ℕ) → map arrays_of (remove volumes v) ≡ remove (map arrays_of volumes) v
one_less [] zero = refl
one_less [] (suc v) = refl
one_less (x ∷ volumes) zero = refl
one_less (x ∷ volumes) (suc v) = ap (λ xs. arrays_of x ∷ xs) (one_less volumes v)

-- the names at a place
pub names_here : (k : ℕ) (volume : Volume) (names : Names) → names_at k volume ≡ Ok names → slice_get volume.snaps k ≡ Some names
names_here k volume names h = elim (slice_get_cases volume.snaps k).1 [
  | inl (x, lt, here, found) ↦ (let at : names_at k volume ≡ Ok x = rw here refl in here ∙ ap Some (same_ok x names (sym at ∙ h)))
  | inr (past, nothing) ↦ (let at : names_at k volume ≡ Err NoSuchDevice = rw nothing refl in absurd (not_ok _ names (sym at ∙ h)))
]

-- a snapshot by its place
pub named_at : (disk : List ℕ) (k : ℕ) (names : List Names) (snaps : List Snap) (n : Names) (s : Snap) → slice_get names k ≡ Some n → slice_get snaps k ≡ Some s → slice_get (named_by disk names snaps) k ≡ Some (record { name = n.snapshot; saved = shown disk s })
named_at disk k [] snaps n s name at = absurd (cc)
named_at disk k (m ∷ names) [] n s name at = absurd (cc)
named_at disk zero (m ∷ names) (t ∷ snaps) n s name at =
    let e : m ≡ n = cc in
    let f : t ≡ s = cc in
    let made : List ℕ → Saved → Option Named = λ a b. Some (record { name = a; saved = b }) in
    ap (λ x. made x.snapshot (shown disk t)) e ∙ ap (λ x. made n.snapshot (shown disk x)) f
named_at disk (suc k) (m ∷ names) (t ∷ snaps) n s name at = named_at disk k names snaps n s name at

-- one that shows the same in the place of another
pub named_same : (disk : List ℕ) (k : ℕ) (names : List Names) (snaps : List Snap) (s t : Snap) → slice_get snaps k ≡ Some s → shown disk t ≡ shown disk s → named_by disk names (slice_set snaps k t) ≡ named_by disk names snaps
named_same disk k [] snaps s t at same = refl
named_same disk k (m ∷ names) [] s t at same = absurd (cc)
named_same disk zero (m ∷ names) (x ∷ snaps) s t at same =
    let e : x ≡ s = cc in
    ap (λ (b : Saved). let n : Named = record { name = m.snapshot; saved = b } in n ∷ named_by disk names snaps) (same ∙ ap (shown disk) (sym e))
named_same disk (suc k) (m ∷ names) (x ∷ snaps) s t at same =
    ap (λ xs. let n : Named = record { name = m.snapshot; saved = shown disk x } in n ∷ xs) (named_same disk k names snaps s t at same)

-- one snapshot more
pub named_more : (disk : List ℕ) (names : List Names) (snaps : List Snap) (n : Names) (s : Snap) → length names ≡ length snaps → named_by disk (names ++ n ∷ []) (snaps ++ s ∷ []) ≡ named_by disk names snaps ++ (record { name = n.snapshot; saved = shown disk s }) ∷ []
named_more disk [] [] n s len = refl
named_more disk [] (x ∷ snaps) n s len = absurd (omega (arith, len))
named_more disk (m ∷ names) [] n s len = absurd (omega (arith, len))
named_more disk (m ∷ names) (x ∷ snaps) n s len = ap (λ xs. let e : Named = record { name = m.snapshot; saved = shown disk x } in e ∷ xs) (named_more disk names snaps n s (omega (arith, len)))
