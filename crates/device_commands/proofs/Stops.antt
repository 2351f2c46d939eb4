-- A volume that is stopped, and whose stacks are left.
use Rattle.std.proofs.Common.{◌≡◌, ℕ, ◌+◌, ◌<◌, ◌≤◌, List, [], ◌∷◌, ◌++◌, true, length, get_or, refl, sym, ap, ◌∙◌, subst, arith}
use Rattle.std.specs.Prelude.{Result, Ok}
use Rattle.std.specs.List.{list_all, remove}
use Rattle.std.proofs.lemmas.List.{append_assoc, append-nil}
use Rattle.sector.specs.declared.refusal.Refusal.{Refusal}
use Rattle.command_semantics.specs.State.{Stacked, Volume, Table}
use Rattle.command_semantics.specs.Naming.{AreNamed}
use Rattle.command_semantics.specs.Sound.{is_sound, is_sound_stack}
use Rattle.command_semantics.specs.Stopping.{stopped}
use Rattle.command_semantics.proofs.AtPlace.{volume_here}
use Rattle.command_semantics.proofs.SoundFrames.{volume_sound}
use Rattle.command_semantics.proofs.StoppingRules.{all_left_named, all_left_sound}
use Rattle.device_commands.specs.Stopping.{stopped_at}

pub stopped_is : (table : Table) (v : ℕ) (old : Volume) (left stacks : List Stacked) (volumes : List Volume) → v < length table.volumes → old ≡ get_or table.volumes v old → left ≡ stopped old → stacks ≡ table.stacks ++ left → volumes ≡ remove table.volumes v → stopped_at v table ≡ Ok (record { stacks = stacks; volumes = volumes })
stopped_is table v old left stacks volumes lt at is more less =
    let there = volume_here table v old lt at in
    let by_left : List Stacked → Result Table Refusal = λ ss. Ok (record { stacks = table.stacks ++ ss; volumes = remove table.volumes v }) in
    let by_stacks : List Stacked → Result Table Refusal = λ ss. Ok (record { stacks = ss; volumes = remove table.volumes v }) in
    let by_volumes : List Volume → Result Table Refusal = λ ws. Ok (record { stacks = stacks; volumes = ws }) in
    rw there (ap by_left (sym is) ∙ ap by_stacks (sym more) ∙ ap by_volumes (sym less))

pub stopped_sound : (table : Table) (v : ℕ) (old : Volume) (left stacks : List Stacked) (volumes : List Volume) → v < length table.volumes → old ≡ get_or table.volumes v old → (old.sound ≡ true → list_all is_sound_stack left ≡ true) → stacks ≡ table.stacks ++ left → volumes ≡ remove table.volumes v → is_sound table ≡ true → is_sound (record { stacks = stacks; volumes = volumes }) ≡ true
stopped_sound table v old left stacks volumes lt at loud more less sound =
    let P : List Stacked → Type 0 = λ ss. is_sound (record { stacks = ss; volumes = remove table.volumes v }) ≡ true in
    let Q : List Volume → Type 0 = λ ws. is_sound (record { stacks = stacks; volumes = ws }) ≡ true in
    subst Q (sym less) (subst P (sym more) (all_left_sound table v left (loud (volume_sound table v old sound lt at)) sound))

pub stopped_named : (table : Table) (v : ℕ) (old : Volume) (left stacks : List Stacked) (volumes : List Volume) → v < length table.volumes → old ≡ get_or table.volumes v old → left ≡ stopped old → stacks ≡ table.stacks ++ left → volumes ≡ remove table.volumes v → AreNamed table → AreNamed (record { stacks = stacks; volumes = volumes })
stopped_named table v old left stacks volumes lt at is more less named =
    let P : List Stacked → Type 0 = λ ss. AreNamed (record { stacks = ss; volumes = remove table.volumes v }) in
    let Q : List Volume → Type 0 = λ ws. AreNamed (record { stacks = stacks; volumes = ws }) in
    subst Q (sym less) (subst P (sym (more ∙ ap (λ ss. table.stacks ++ ss) is)) (all_left_named table v old lt at named))

-- The stacks go one after the other: what is left of them comes behind.
pub one_freed : (stacks new left rest all : List Stacked) (stack : Stacked) → stacks ++ left ≡ all → left ≡ stack ∷ rest → new ≡ stacks ++ stack ∷ [] → new ++ rest ≡ all
one_freed stacks new left rest all stack so_far is pushed =
    ap (λ ss. ss ++ rest) pushed ∙ append_assoc stacks (stack ∷ []) rest ∙ ap (λ ss. stacks ++ ss) (sym is) ∙ so_far

pub one_less : (left rest : List Stacked) (stack : Stacked) → left ≡ stack ∷ rest → length left ≡ length rest + 1
one_less left rest stack is = let more : length (stack ∷ rest) ≡ length rest + 1 = omega arith in ap (λ (ss : List Stacked). length ss) is ∙ more

pub none_left : (stacks left all : List Stacked) → stacks ++ left ≡ all → left ≡ [] → stacks ≡ all
none_left stacks left all so_far none = sym (append-nil stacks) ∙ ap (λ ss. stacks ++ ss) (sym none) ∙ so_far

pub none_uncounted : (left : List Stacked) (counter count : ℕ) → length left + counter ≤ count → count ≤ counter → left ≡ []
none_uncounted [] counter count few past = refl
none_uncounted (stack ∷ left) counter count few past = absurd (omega (arith, few, past))
