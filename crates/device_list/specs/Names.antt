-- What calls leave of the names of a volume's devices.
use Rattle.std.specs.Prelude.{◌≡◌, ◌+◌, Bool, true, List, ℕ, [], ◌∷◌, ◌++◌}
use Rattle.std.specs.Prelude.{Some, None, Ok}
use Rattle.std.specs.List.{remove}
use Rattle.command_semantics.specs.State.{Stacked, Names, Volume, names_in}
use Rattle.command_semantics.specs.Raw.{names_at}

-- all names, marks and counts are as they were
pub record KeepsNames (old new : Volume) : Type 0 where
  pub origin : new.origin ≡ old.origin
  pub under : new.under ≡ old.under
  pub stale : new.stale ≡ old.stale
  pub snaps : new.snaps ≡ old.snaps
  pub merging : names_in new.merging ≡ names_in old.merging
  pub given : new.given ≡ old.given
  pub sound : new.sound ≡ old.sound

-- a snapshot of this name over a store, which may overflow or not, is there after the others
pub record IsNamedMore (name : List ℕ) (overflow : Bool) (store : Stacked) (old new : Volume) : Type 0 where
  pub origin : new.origin ≡ old.origin
  pub under : new.under ≡ old.under
  pub stale : new.stale ≡ old.stale
  pub snaps : new.snaps ≡ old.snaps ++ (record { snapshot = name; store = store.names; overflow = overflow }) ∷ []
  pub merging : names_in new.merging ≡ names_in old.merging
  pub given : new.given ≡ old.given + 1

-- the snapshot at a place is merged now, and is none of the others any more
pub record IsNamedBegun (k : ℕ) (old new : Volume) : Type 0 where
  pub origin : new.origin ≡ old.origin
  pub under : new.under ≡ old.under
  pub stale : new.stale ≡ old.stale
  pub names : Names
  pub named : names_at k old ≡ Ok names
  pub snaps : new.snaps ≡ remove old.snaps k
  pub before : names_in old.merging ≡ None
  pub merging : names_in new.merging ≡ Some names
  pub given : new.given ≡ old.given

-- no merge is begun any more, and this is its store
pub record IsNamedLess (stacked : Stacked) (old new : Volume) : Type 0 where
  pub origin : new.origin ≡ old.origin
  pub under : new.under ≡ old.under
  pub stale : new.stale ≡ old.stale
  pub snaps : new.snaps ≡ old.snaps
  pub names : Names
  pub was : names_in old.merging ≡ Some names
  pub store : stacked.names ≡ names.store
  pub merging : names_in new.merging ≡ None
  pub given : new.given ≡ old.given

-- whether a device ever dropped writes is as it was; and whether anything is left to do
abbrev pub KeepsSound : Volume → Volume → Type 0
KeepsSound old new = new.sound ≡ old.sound

abbrev pub KeepsQuiet : Volume → Volume → Type 0
KeepsQuiet old new = new.quiet ≡ old.quiet

-- where nothing is left to do, nothing is after
abbrev pub StaysQuiet : Volume → Volume → Type 0
StaysQuiet old new = old.quiet ≡ true → new.quiet ≡ true
