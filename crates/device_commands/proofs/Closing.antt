-- An origin that goes, and whose stack is left.
use Rattle.std.proofs.Common.{◌≡◌, ◌≢◌, ◌⊎◌, ℕ, ◌<◌, List, [], ◌∷◌, ◌++◌, Bool, true, false, length, get_or, refl, sym, ap, ◌∙◌, inl, inr, subst, arith}
use Rattle.std.specs.Prelude.{◌||◌, Option, Some, None, Result, Ok, Err, is_some, nat_lt, if◌then◌else◌}
use Rattle.std.specs.List.{remove, insert}
use Rattle.std.proofs.lemmas.Bool.{lt-ltb}
use Rattle.sector.specs.declared.refusal.Refusal.{Refusal}
use Rattle.sector.specs.declared.refusal.Refusal.TheVariants.{Busy, NotQuiet}
use Rattle.device.specs.Layers.{is_loud}
use Rattle.words.specs.Given.{◌>>=◌}
use Rattle.command_semantics.specs.State.{Stacked, Names, Merging, Volume, Table}
use Rattle.command_semantics.specs.Changes.{Changes}
use Rattle.command_semantics.specs.Origins.{closed, stack_under, still}
use Rattle.command_semantics.specs.Sound.{is_sound}
use Rattle.command_semantics.proofs.AtPlace.{volume_here}
use Rattle.command_semantics.proofs.SoundFrames.{left_over_sound, volume_sound}
use Rattle.device_commands.proofs.Places.{restored}

without : (snaps : List Names) (merging : Option Merging) (rule : Result Table Refusal) → snaps ≡ [] → merging ≡ None → (if nat_lt 0 (length snaps) || is_some merging then Err Busy else rule) ≡ rule
without [] None rule none unmerged = refl
without [] (Some g) rule none unmerged = absurd (cc)
without (names ∷ snaps) merging rule none unmerged = absurd (cc)

busy_where : (b : Bool) (rule : Result Table Refusal) → b ≡ true → (if b then Err Busy else rule) ≡ Err Busy
busy_where true rule is = refl
busy_where false rule is = absurd (cc)

some_there : (snaps : List Names) → snaps ≢ [] → nat_lt 0 (length snaps) ≡ true
some_there [] some = absurd (some refl)
some_there (names ∷ snaps) some = lt-ltb 0 (length (names ∷ snaps)) (omega arith)

either : (a b : Bool) → (a ≡ true) ⊎ (b ≡ true) → (a || b) ≡ true
either true b h = refl
either false b (inl h) = absurd (cc)
either false b (inr h) = h

-- a snapshot is there, or a merge is begun
abbrev IsUsed : Volume → Type 0
IsUsed old = (old.snaps ≢ []) ⊎ (is_some old.merging ≡ true)

used : (old : Volume) → IsUsed old → (nat_lt 0 (length old.snaps) || is_some old.merging) ≡ true
used old (inl some) = either (nat_lt 0 (length old.snaps)) (is_some old.merging) (inl (some_there old.snaps some))
used old (inr begun) = either (nat_lt 0 (length old.snaps)) (is_some old.merging) (inr begun)

with_one : (old : Volume) (rule : Result Table Refusal) → IsUsed old → (if nat_lt 0 (length old.snaps) || is_some old.merging then Err Busy else rule) ≡ Err Busy
with_one old rule some = busy_where (nat_lt 0 (length old.snaps) || is_some old.merging) rule (used old some)

still_goes : (volume : Volume) (rule : Result Table Refusal) → volume.quiet ≡ true → (still volume >>= λ _. rule) ≡ rule
still_goes volume rule quiet = rw quiet refl

still_refuses : (volume : Volume) (rule : Result Table Refusal) → volume.quiet ≡ false → (still volume >>= λ _. rule) ≡ Err NotQuiet
still_refuses volume rule loud = rw loud refl

pub closed_is : (table : Table) (v : ℕ) (old : Volume) (stacked : Stacked) (stacks : List Stacked) (volumes : List Volume) → v < length table.volumes → old ≡ get_or table.volumes v old → (old.snaps ≡ []) × (old.merging ≡ None) × (old.quiet ≡ true) × (stacked ≡ stack_under old) → stacks ≡ table.stacks ++ stacked ∷ [] → volumes ≡ remove table.volumes v → closed v table ≡ Ok (record { stacks = stacks; volumes = volumes })
unfolding closed
closed_is table v old stacked stacks volumes lt at left more less =
    let there = volume_here table v old lt at in
    let by_stack : Stacked → Result Table Refusal = λ s. Ok (record { stacks = table.stacks ++ s ∷ []; volumes = remove table.volumes v }) in
    let by_stacks : List Stacked → Result Table Refusal = λ ss. Ok (record { stacks = ss; volumes = remove table.volumes v }) in
    let by_volumes : List Volume → Result Table Refusal = λ ws. Ok (record { stacks = stacks; volumes = ws }) in
    rw there (without old.snaps old.merging (still old >>= λ _. by_stack (stack_under old)) left.0 left.1 ∙ still_goes old (by_stack (stack_under old)) left.2 ∙ ap by_stack (sym left.3) ∙ ap by_stacks (sym more) ∙ ap by_volumes (sym less))

-- why it stays
abbrev pub Stays : Refusal → Volume → Type 0
Stays e old = ((e ≡ Busy) × IsUsed old) ⊎ ((e ≡ NotQuiet) × (old.snaps ≡ []) × (old.merging ≡ None) × (old.quiet ≡ false))

closed_refused : (table : Table) (v : ℕ) (old : Volume) (e : Refusal) → v < length table.volumes → old ≡ get_or table.volumes v old → Stays e old → closed v table ≡ Err e
unfolding closed
closed_refused table v old e lt at (inl busy) =
    let there = volume_here table v old lt at in rw there (with_one old _ busy.1 ∙ ap (λ (r : Refusal). Err r) (sym busy.0))
closed_refused table v old e lt at (inr loud) =
    let there = volume_here table v old lt at in
    rw there (without old.snaps old.merging _ loud.1 loud.2 ∙ still_refuses old _ loud.3 ∙ ap (λ (r : Refusal). Err r) (sym loud.0))

-- a volume that stays goes back to its place
pub stays : (table : Table) (v : ℕ) (old back : Volume) (stacks : List Stacked) (volumes new : List Volume) (e : Refusal) → v < length table.volumes → old ≡ get_or table.volumes v old → Stays e old × (back ≡ old) → stacks ≡ table.stacks → volumes ≡ remove table.volumes v → new ≡ insert volumes v back → Changes (Err e) table (record { stacks = stacks; volumes = new }) (closed v table)
stays table v old back stacks volumes new e lt at why same out put = (
  ap (λ (ss : List Stacked). record { stacks = ss; volumes = new }) same
      ∙ ap (λ (ws : List Volume). record { stacks = table.stacks; volumes = ws }) (restored table.volumes volumes new v old back lt out at why.1 put),
  λ other. closed_refused table v old e lt at why.0,
)

pub closed_sound : (table : Table) (v : ℕ) (old : Volume) (stacked : Stacked) (stacks : List Stacked) (volumes : List Volume) → v < length table.volumes → old ≡ get_or table.volumes v old → (old.sound ≡ true → is_loud stacked.device.layers ≡ true) → stacks ≡ table.stacks ++ stacked ∷ [] → volumes ≡ remove table.volumes v → is_sound table ≡ true → is_sound (record { stacks = stacks; volumes = volumes }) ≡ true
closed_sound table v old stacked stacks volumes lt at loud more less sound =
    let P : List Stacked → Type 0 = λ ss. is_sound (record { stacks = ss; volumes = remove table.volumes v }) ≡ true in
    let Q : List Volume → Type 0 = λ ws. is_sound (record { stacks = stacks; volumes = ws }) ≡ true in
    subst Q (sym less) (subst P (sym more) (left_over_sound table v stacked (loud (volume_sound table v old sound lt at)) sound))
