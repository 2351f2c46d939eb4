-- What holds of a table before a call and after its rule holds after the call.
use Rattle.std.proofs.Common.{◌≡◌, ℕ, ◌<◌, Bool, true, false, length, get_or, refl, sym, ap, ◌∙◌, inl, inr, subst}
use Rattle.std.specs.Prelude.{Option, Some, None, Result, Ok, Err, is_some, if◌then◌else◌}
use Rattle.std.proofs.lemmas.Option.{slice_get_cases}
use Rattle.sector.specs.declared.refusal.Refusal.{Refusal}
use Rattle.sector.specs.declared.refusal.Refusal.TheVariants.{NoSuchDevice}
use Rattle.words.specs.Given.{◌>>=◌}
use Rattle.command_semantics.specs.State.{Stacked, Names, Volume, Table}
use Rattle.command_semantics.specs.Places.{stack_at, volume_at}
use Rattle.command_semantics.specs.Raw.{names_at}
use Rattle.command_semantics.specs.Changes.{Changes, Enters, Steps, kept, changed}

-- what a call left, by the table before it and the one that its rule leaves
pub changes_keep : {T : Type 0} (P : T → Type 0) (r : Result (Unit {0}) Refusal) (old new : T) (rule : Result T Refusal) → Changes r old new rule → P old → P (changed old rule).left → P new
changes_keep P (Ok done) old new rule h before after = subst (λ x. P (changed old x).left) h after
changes_keep P (Err e) old new rule h before after = subst P (sym h.0) before

-- the same of a call that takes a place in a journal
pub enters_keep : {T : Type 0} (P : T → Type 0) (r : Result (Unit {0}) Refusal) (old new : T) (rule : Result T Refusal) → Enters r old new rule → P old → P (changed old rule).left → P new
enters_keep P (Ok done) old new rule h before after = subst (λ x. P (changed old x).left) h after
enters_keep P (Err e) old new rule h before after = subst P (sym h.0) before

-- the same of a call that answers
pub steps_keep : {A T : Type 0} (P : T → Type 0) (r : Result A Refusal) (old new : T) (rule : Result (A × T) Refusal) → Steps r old new rule → P old → P (kept old rule).left → P new
steps_keep P (Ok answer) old new rule h before after = subst (λ x. P (kept old x).left) h after
steps_keep P (Err e) old new rule h before after = subst P (sym h.0) before

-- a rule that refuses where a test holds
pub keeps_if : {T : Type 0} (P : T → Type 0) (b : Bool) (e : Refusal) (rule : Result T Refusal) (old : T) → P old → (b ≡ false → P (changed old rule).left) → P (changed old (if b then Err e else rule)).left
keeps_if P true e rule old before goes = before
keeps_if P false e rule old before goes = goes refl

-- and one that refuses where none does
pub keeps_unless : {T : Type 0} (P : T → Type 0) (b : Bool) (e : Refusal) (rule : Result T Refusal) (old : T) → P old → (b ≡ true → P (changed old rule).left) → P (changed old (if b then rule else Err e)).left
keeps_unless P true e rule old before goes = goes refl
keeps_unless P false e rule old before goes = before

-- a rule that goes on after an answer
pub keeps_then : {B T : Type 0} (P : T → Type 0) (r : Result B Refusal) (f : B → Result T Refusal) (old : T) → P old → ((x : B) → r ≡ Ok x → P (changed old (f x)).left) → P (changed old (r >>= f)).left
keeps_then P (Ok x) f old before goes = goes x refl
keeps_then P (Err e) f old before goes = before

-- the same where it answers
pub answers_then : {A B T : Type 0} (P : T → Type 0) (r : Result B Refusal) (f : B → Result (A × T) Refusal) (old : T) → P old → ((x : B) → r ≡ Ok x → P (kept old (f x)).left) → P (kept old (r >>= f)).left
answers_then P (Ok x) f old before goes = goes x refl
answers_then P (Err e) f old before goes = before

-- the value of a call that answered
value_of : {A : Type 0} → Result A Refusal → A → A
value_of (Ok x) d = x
value_of (Err e) d = d

pub same_ok : {A : Type 0} (x y : A) → ◌≡◌ {A = Result A Refusal} (Ok x) (Ok y) → x ≡ y
unfolding value_of
same_ok x y h = ap (λ r. value_of r x) h

pub not_ok : {A : Type 0} (e : Refusal) (x : A) → ◌≡◌ {A = Result A Refusal} (Err e) (Ok x) → ⊥
not_ok e x h = absurd (cc)

pub no_place : {A : Type 0} (o : Option A) → is_some o ≡ false → o ≡ None
no_place None empty = refl
no_place (Some x) empty = absurd (cc)

-- an answer that came by two steps
pub came_by : {A B : Type 0} (r : Result B Refusal) (f : B → Result A Refusal) (a : A) → (r >>= f) ≡ Ok a → (x : B) × (r ≡ Ok x) × (f x ≡ Ok a)
came_by (Ok x) f a h = (x, refl, h)
came_by (Err e) f a h = absurd (not_ok e a h)

-- the stack at a place
pub stack_there : (i : ℕ) (table : Table) (old : Stacked) → stack_at i table ≡ Ok old → (i < length table.stacks) × (old ≡ get_or table.stacks i old)
stack_there i table old h = elim (slice_get_cases table.stacks i).1 [
  | inl (x, lt, here, found) ↦
      let at : stack_at i table ≡ Ok x = rw here refl in
      let e : x ≡ old = same_ok x old (sym at ∙ h) in
      let P : Stacked → Type 0 = λ d. d ≡ get_or table.stacks i d in
      (lt, subst P e (sym found))
  | inr (past, nothing) ↦ let at : stack_at i table ≡ Err NoSuchDevice = rw nothing refl in absurd (not_ok _ old (sym at ∙ h))
]

-- the volume at a place
pub volume_there : (v : ℕ) (table : Table) (old : Volume) → volume_at v table ≡ Ok old → (v < length table.volumes) × (old ≡ get_or table.volumes v old)
volume_there v table old h = elim (slice_get_cases table.volumes v).1 [
  | inl (x, lt, here, found) ↦
      let at : volume_at v table ≡ Ok x = rw here refl in
      let e : x ≡ old = same_ok x old (sym at ∙ h) in
      let P : Volume → Type 0 = λ d. d ≡ get_or table.volumes v d in
      (lt, subst P e (sym found))
  | inr (past, nothing) ↦ let at : volume_at v table ≡ Err NoSuchDevice = rw nothing refl in absurd (not_ok _ old (sym at ∙ h))
]

-- the names of the snapshot at a place
pub names_there : (k : ℕ) (volume : Volume) (names : Names) → names_at k volume ≡ Ok names → (k < length volume.snaps) × (names ≡ get_or volume.snaps k names)
names_there k volume names h = elim (slice_get_cases volume.snaps k).1 [
  | inl (x, lt, here, found) ↦
      let at : names_at k volume ≡ Ok x = rw here refl in
      let e : x ≡ names = same_ok x names (sym at ∙ h) in
      let P : Names → Type 0 = λ d. d ≡ get_or volume.snaps k d in
      (lt, subst P e (sym found))
  | inr (past, nothing) ↦ let at : names_at k volume ≡ Err NoSuchDevice = rw nothing refl in absurd (not_ok _ names (sym at ∙ h))
]
