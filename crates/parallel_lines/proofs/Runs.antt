-- What a run leaves of the table.
use Rattle.std.proofs.Common.{◌≡◌, ◌⊎◌, ℕ, Bool, true, false, List, [], ◌∷◌, length, get_or, refl, sym, ap, ◌∙◌, subst, inl, inr, arith}
use Rattle.std.specs.Prelude.{sum_by, ◌&&◌}
use Rattle.std.specs.List.{list_all}
use Rattle.std.proofs.lemmas.List.FromFn.{length-map-range_with_len}
use Rattle.std.proofs.lemmas.List.Sums.{sum_by-cons, sum_by-remove}
use Rattle.command_semantics.specs.Naming.{AreNamed, merging_sum, names_sum, volume_sum}
use Rattle.command_semantics.specs.Sound.{is_sound, is_sound_stack, is_sound_volume}
use Rattle.command_semantics.specs.State.{Stacked, Table, Volume, names_in}
use Rattle.command_semantics.proofs.Keeping.{names_there}
use Rattle.command_semantics.proofs.NamedFrames.{no_more_named, same_volume_names}
use Rattle.device_list.specs.Names.{IsNamedBegun, KeepsNames}
use Rattle.command.specs.declared.seat_line.SeatLine.{SeatLine}
use Rattle.parallel_lines.specs.Running.{AreRun, IsRun, IsRunIf, IsTableRun, is_used, used_in}

-- Nothing was run.

still : (v : Volume) → IsRun v v
still v = record {
  names = inl (record { origin = refl; under = refl; stale = refl; snaps = refl; merging = refl; given = refl; sound = refl });
  sound = refl;
  quiet = λ h. h;
}

pub still_if : (used : Bool) (v : Volume) → IsRunIf used v v
still_if true v = still v
still_if false v = refl

pub none_run : (uses : List Bool) (volumes : List Volume) → length uses ≡ length volumes → AreRun uses volumes volumes
none_run [] [] many = tt
none_run [] (v ∷ vs) many = absurd (omega (arith, many))
none_run (u ∷ us) [] many = absurd (omega (arith, many))
none_run (u ∷ us) (v ∷ vs) many = (still_if u v, none_run us vs (omega (arith, many)))

-- there is a mark for each volume
pub marks_many : (lines : List SeatLine) (table : Table) (used : List Bool) → used ≡ used_in lines table → length used ≡ length table.volumes
marks_many lines table used is = ap length is ∙ length-map-range_with_len (λ (v : ℕ). is_used v lines table) 0 (length table.volumes)

pub not_run : (lines : List SeatLine) (table : Table) → IsTableRun lines table table
not_run lines table = record { stacks = refl; volumes = none_run (used_in lines table) table.volumes (marks_many lines table (used_in lines table) refl) }

pub table_run : (lines : List SeatLine) (old new : Table) (used : List Bool) → used ≡ used_in lines old → new.stacks ≡ old.stacks → AreRun used old.volumes new.volumes → IsTableRun lines old new
table_run lines old new used is stacks volumes = record { stacks = stacks; volumes = subst (λ (us : List Bool). AreRun us old.volumes new.volumes) is volumes }

-- The names stay.

begun_names : (f : List ℕ → ℕ) (k : ℕ) (old new : Volume) → IsNamedBegun k old new → volume_sum f new ≡ volume_sum f old
begun_names f k old new begun =
    let there = names_there k old begun.names begun.named in
    let a = ap f begun.origin in
    let b = ap (sum_by f) begun.under in
    let c = ap (sum_by (names_sum f)) begun.snaps in
    let d : merging_sum f (names_in old.merging) ≡ 0 = ap (merging_sum f) begun.before in
    let e : merging_sum f (names_in new.merging) ≡ names_sum f begun.names = ap (merging_sum f) begun.merging in
    let less = sum_by-remove (names_sum f) old.snaps k begun.names there.0 in
    let was : names_sum f (get_or old.snaps k begun.names) ≡ names_sum f begun.names = ap (names_sum f) (sym there.1) in
    omega (arith, a, b, c, d, e, less, was)

run_names : (f : List ℕ → ℕ) (old new : Volume) → KeepsNames old new ⊎ ((k : ℕ) × IsNamedBegun k old new) → volume_sum f new ≡ volume_sum f old
run_names f old new (inl kept) = same_volume_names f old new kept.origin kept.under kept.snaps kept.merging
run_names f old new (inr (k, begun)) = begun_names f k old new begun

if_names : (f : List ℕ → ℕ) (used : Bool) (old new : Volume) → IsRunIf used old new → volume_sum f new ≡ volume_sum f old
if_names f true old new run = run_names f old new run.names
if_names f false old new same = ap (volume_sum f) same

all_names : (f : List ℕ → ℕ) (uses : List Bool) (olds news : List Volume) → AreRun uses olds news → sum_by (volume_sum f) news ≡ sum_by (volume_sum f) olds
all_names f [] [] [] run = refl
all_names f [] [] (n ∷ ns) run = absurd run
all_names f [] (o ∷ os) news run = absurd run
all_names f (u ∷ us) [] news run = absurd run
all_names f (u ∷ us) (o ∷ os) [] run = absurd run
all_names f (u ∷ us) (o ∷ os) (n ∷ ns) run =
    let one = if_names f u o n run.0 in
    let more = all_names f us os ns run.1 in
    let was = sum_by-cons (volume_sum f) o os in
    let now = sum_by-cons (volume_sum f) n ns in
    omega (arith, one, more, was, now)

pub still_named : (lines : List SeatLine) (old new : Table) → IsTableRun lines old new → AreNamed old → AreNamed new
still_named lines old new run named =
    no_more_named old new
    (λ f.
    let stacks = ap (λ (s : List Stacked). sum_by (λ (x : Stacked). sum_by f x.names) s) run.stacks in
    let volumes = all_names f (used_in lines old) old.volumes new.volumes run.volumes in
    omega (arith, stacks, volumes))
    named

-- No device drops writes that did not, and volumes stay quiet.

both : (a b : Bool) → (a && b) ≡ true → (a ≡ true) × (b ≡ true)
both true true is = (refl, refl)
both true false is = absurd (let no : ⊥ = cc in no)
both false b is = absurd (let no : ⊥ = cc in no)

and : (a b : Bool) → a ≡ true → b ≡ true → (a && b) ≡ true
and true true x y = refl
and true false x y = y
and false b x y = x

run_sound : (old new : Volume) → IsRun old new → is_sound_volume old ≡ true → is_sound_volume new ≡ true
run_sound old new run was =
    let parts = both old.sound old.quiet was in
    and new.sound new.quiet (run.sound ∙ parts.0) (run.quiet parts.1)

if_sound : (used : Bool) (old new : Volume) → IsRunIf used old new → is_sound_volume old ≡ true → is_sound_volume new ≡ true
if_sound true old new run was = run_sound old new run was
if_sound false old new same was = ap is_sound_volume same ∙ was

all_sound : (uses : List Bool) (olds news : List Volume) → AreRun uses olds news → list_all is_sound_volume olds ≡ true → list_all is_sound_volume news ≡ true
all_sound [] [] [] run was = was
all_sound [] [] (n ∷ ns) run was = absurd run
all_sound [] (o ∷ os) news run was = absurd run
all_sound (u ∷ us) [] news run was = absurd run
all_sound (u ∷ us) (o ∷ os) [] run was = absurd run
all_sound (u ∷ us) (o ∷ os) (n ∷ ns) run was =
    let parts = both (is_sound_volume o) (list_all is_sound_volume os) was in
    and (is_sound_volume n) (list_all is_sound_volume ns) (if_sound u o n run.0 parts.0) (all_sound us os ns run.1 parts.1)

pub still_sound : (lines : List SeatLine) (old new : Table) → IsTableRun lines old new → is_sound old ≡ true → is_sound new ≡ true
still_sound lines old new run was =
    let parts = both (list_all is_sound_stack old.stacks) (list_all is_sound_volume old.volumes) was in
    and (list_all is_sound_stack new.stacks) (list_all is_sound_volume new.volumes)
    (ap (λ (s : List Stacked). list_all is_sound_stack s) run.stacks ∙ parts.0)
    (all_sound (used_in lines old) old.volumes new.volumes run.volumes parts.1)
