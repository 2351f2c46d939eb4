-- A message that is answered by more than that it is done leaves all devices as they were.
use Rattle.std.proofs.Common.{◌≡◌, ◌≢◌, ℕ, ◌-◌, Bool, true, false, List, [], ◌∷◌, Option, Some, None, set, refl, sym, ap, ◌∙◌, inl, inr, subst}
use Rattle.std.specs.Prelude.{Result, Ok, Err, ◌==◌, if◌then◌else◌}
use Rattle.std.proofs.lemmas.Option.{slice_get_cases}
use Rattle.sector.specs.declared.refusal.Refusal.{Refusal}
use Rattle.sector.specs.declared.refusal.Refusal.TheVariants.{NoSuchDevice}
use Rattle.device.specs.Layers.{Layer, Flaky, Dusty, Broken, Counted, Tearing, Window, ReadAhead}
use Rattle.layers.specs.declared.message.Message.{Message}
use Rattle.layers.specs.declared.message.Message.TheVariants.{AddBadBlock, RemoveBadBlock, QueryBlock, CountBadBlocks, ClearBadBlocks, Enable, Disable, Tick}
use Rattle.layers.specs.declared.message.Answer.{Answer}
use Rattle.layers.specs.declared.message.Answer.TheVariants.{Done}
use Rattle.layers.specs.Messages.{Told, Answered, Refused, told, told_with, layer_told, dust_told, flakey_told, is_past, is_listed}
use Rattle.words.specs.Given.{◌>>=◌}
use Rattle.whole_commands.specs.Devices.{Device}
use Rattle.whole_commands.specs.Snaps.{Snap, Volume as Settled}
use Rattle.whole_commands.specs.Merges.{Merge, Merged}
use Rattle.command_semantics.specs.declared.place.Role.{Role}
use Rattle.command_semantics.specs.declared.place.Role.TheVariants.{Origin, Under, Snapshot, Store, Merging as MergingRole, MergingStore}
use Rattle.command_semantics.specs.declared.place.Place.{Place}
use Rattle.command_semantics.specs.declared.place.Place.TheVariants.{Free, In}
use Rattle.command_semantics.specs.State.{Stacked, Merging, Volume, Table, merge_in, merged_in, with_merge, with_merged}
use Rattle.command_semantics.specs.Places.{place_of, found, stack_at, volume_at}
use Rattle.command_semantics.specs.Layers.{put}
use Rattle.command_semantics.specs.Messages.{with_layers, told_in, told_free, told_under, snap_at, told_snap, told_store, told_beside, told_merge, told_merging, told_role, told_mounted, put_volume, told_at, tell}
use Rattle.command_semantics.proofs.AtPlace.{put_back}
use Rattle.command_semantics.proofs.Keeping.{same_ok, not_ok, stack_there, volume_there}

-- an answer with words leaves what was there
abbrev IsQuiet : {X : Type 0} → X → Told X → Type 0
IsQuiet old (Refused refusal) = Unit {0}
IsQuiet old (Answered answer new) = answer ≢ Done → new ≡ old

done_or : {X : Type 0} (old new : X) → IsQuiet old (Answered Done new)
done_or old new = λ other. absurd (other refl)

either_quiet : {X : Type 0} (b : Bool) (old : X) (x y : Told X) → IsQuiet old x → IsQuiet old y → IsQuiet old (if b then x else y)
either_quiet true old x y hx hy = hx
either_quiet false old x y hx hy = hy

dust_quiet : (sectors size : ℕ) (on : Bool) (bad : List ℕ) (m : Message) → IsQuiet (Dusty sectors size on bad) (dust_told sectors size on bad m)
dust_quiet sectors size on bad (AddBadBlock k) = either_quiet (is_past sectors size k) _ _ _ tt (either_quiet (is_listed k bad) _ _ _ (λ other. refl) (done_or _ _))
dust_quiet sectors size on bad (RemoveBadBlock k) = either_quiet (is_past sectors size k) _ _ _ tt (either_quiet (is_listed k bad) _ _ _ (done_or _ _) (λ other. refl))
dust_quiet sectors size on bad (QueryBlock k) = either_quiet (is_past sectors size k) _ _ _ tt (λ other. refl)
dust_quiet sectors size on bad CountBadBlocks = λ other. refl
dust_quiet sectors size on bad ClearBadBlocks = done_or _ _
dust_quiet sectors size on bad Enable = done_or _ _
dust_quiet sectors size on bad Disable = done_or _ _
dust_quiet sectors size on bad (Tick n) = tt

flakey_quiet : (l : Layer) (m : Message) → IsQuiet l (flakey_told l m)
flakey_quiet l (AddBadBlock k) = tt
flakey_quiet l (RemoveBadBlock k) = tt
flakey_quiet l (QueryBlock k) = tt
flakey_quiet l CountBadBlocks = tt
flakey_quiet l ClearBadBlocks = tt
flakey_quiet l Enable = tt
flakey_quiet l Disable = tt
flakey_quiet l (Tick n) = done_or _ _

layer_quiet : (l : Layer) (m : Message) → IsQuiet l (layer_told l m)
layer_quiet (Flaky moment up down features offset) m = flakey_quiet (Flaky moment up down features offset) m
layer_quiet (Dusty sectors size enabled bad) m = dust_quiet sectors size enabled bad m
layer_quiet Broken m = tt
layer_quiet (Counted left) m = tt
layer_quiet (Tearing left) m = tt
layer_quiet (Window aside) m = tt
layer_quiet (ReadAhead ranges kept) m = tt

-- what is made of it
with_quiet : {X Y : Type 0} (f : X → Y) (old : X) (t : Told X) → IsQuiet old t → IsQuiet (f old) (told_with f t)
with_quiet f old (Refused refusal) h = tt
with_quiet f old (Answered answer new) h = λ other. ap f (h other)

at_quiet : (first : Bool) (l : Layer) (ls : List Layer) (m : Message) (rest : Told (List Layer)) → IsQuiet ls rest → IsQuiet (l ∷ ls) (if first then told_with (λ n. n ∷ ls) (layer_told l m) else told_with (λ ns. l ∷ ns) rest)
at_quiet true l ls m rest h = with_quiet (λ n. n ∷ ls) l (layer_told l m) (layer_quiet l m)
at_quiet false l ls m rest h = with_quiet (λ ns. l ∷ ns) ls rest h

told_quiet : (ls : List Layer) (d : ℕ) (m : Message) → IsQuiet ls (told ls d m)
told_quiet [] d m = tt
told_quiet (Window aside ∷ ls) d m = with_quiet (λ ns. Window aside ∷ ns) ls (told ls d m) (told_quiet ls d m)
told_quiet (Flaky moment up down features offset ∷ ls) d m = at_quiet (d == 0) (Flaky moment up down features offset) ls m (told ls (d - 1) m) (told_quiet ls (d - 1) m)
told_quiet (Dusty sectors size enabled bad ∷ ls) d m = at_quiet (d == 0) (Dusty sectors size enabled bad) ls m (told ls (d - 1) m) (told_quiet ls (d - 1) m)
told_quiet (Broken ∷ ls) d m = at_quiet (d == 0) Broken ls m (told ls (d - 1) m) (told_quiet ls (d - 1) m)
told_quiet (Counted left ∷ ls) d m = at_quiet (d == 0) (Counted left) ls m (told ls (d - 1) m) (told_quiet ls (d - 1) m)
told_quiet (Tearing left ∷ ls) d m = at_quiet (d == 0) (Tearing left) ls m (told ls (d - 1) m) (told_quiet ls (d - 1) m)
told_quiet (ReadAhead ranges kept ∷ ls) d m = at_quiet (d == 0) (ReadAhead ranges kept) ls m (told ls (d - 1) m) (told_quiet ls (d - 1) m)

-- the same of a rule
abbrev LeavesSame : {T : Type 0} → T → Result (Answer × T) Refusal → Type 0
LeavesSame old (Ok done) = done.0 ≢ Done → done.1 ≡ old
LeavesSame old (Err refusal) = Unit {0}

-- what follows a step that has this
then_same : {S T : Type 0} (r : Result (Answer × S) Refusal) (make : S → T) (was : S) (old : T) → LeavesSame was r → make was ≡ old → LeavesSame old (r >>= λ done. Ok (done.0, make done.1))
then_same (Ok done) make was old h is = λ other. ap make (h other) ∙ is
then_same (Err refusal) make was old h is = tt

-- what follows a look
looked : {B T : Type 0} (r : Result B Refusal) (f : B → Result (Answer × T) Refusal) (old : T) → ((x : B) → r ≡ Ok x → LeavesSame old (f x)) → LeavesSame old (r >>= f)
looked (Ok x) f old h = h x refl
looked (Err refusal) f old h = tt

in_same : (device : Device) (depth : ℕ) (m : Message) → LeavesSame device (told_in device depth m)
unfolding told_in
in_same device depth m = by (told device.layers depth m) (told_quiet device.layers depth m)
  where
    by : (t : Told (List Layer)) → IsQuiet device.layers t → LeavesSame device (with_layers device t)
    by (Refused refusal) h = tt
    by (Answered answer layers) h = λ other. ap (λ ls. record { bytes = device.bytes; layers = ls }) (h other)

free_same : (depth : ℕ) (m : Message) (stacked : Stacked) → LeavesSame stacked (told_free depth m stacked)
unfolding told_free
free_same depth m stacked = then_same (told_in stacked.device depth m) _ stacked.device stacked (in_same stacked.device depth m) refl

-- the snapshot at a place, put back
snap_back : (k : ℕ) (state : Settled) (snap : Snap) → snap_at k state ≡ Ok snap → set state.snaps k snap ≡ state.snaps
snap_back k state snap h = elim (slice_get_cases state.snaps k).1 [
  | inl (x, lt, here, found) ↦
      let at : snap_at k state ≡ Ok x = rw here refl in
      let e : x ≡ snap = same_ok x snap (sym at ∙ h) in
      put_back state.snaps k x snap (sym found) (sym e)
  | inr (past, nothing) ↦ let at : snap_at k state ≡ Err NoSuchDevice = rw nothing refl in absurd (not_ok _ snap (sym at ∙ h))
]

-- a message beside the merge
beside_same : (merge : Option Merge) (rule : Result (Answer × Settled) Refusal) (state : Settled) → LeavesSame state rule → LeavesSame (record { volume = state; merge = merge }) (told_beside merge rule)
beside_same merge rule state h = then_same rule (λ after. record { volume = after; merge = merge }) state (record { volume = state; merge = merge }) h refl

merging_same : (depth : ℕ) (m : Message) (merge : Option Merge) (state : Settled) → LeavesSame (record { volume = state; merge = merge }) (told_merging depth m merge state)
unfolding told_merging told_merge
merging_same depth m None state = tt
merging_same depth m (Some g) state =
    then_same (told_merge depth m g) (λ after. record { volume = state; merge = Some after }) g (record { volume = state; merge = Some g })
    (then_same (told_in g.store depth m) (λ store. record g { store = store }) g.store g (in_same g.store depth m) refl) refl

role_same : (role : Role) (m : Message) (merged : Merged) → LeavesSame merged (told_role role m merged)
unfolding told_under told_store told_snap
role_same Origin m merged = tt
role_same (Under depth) m merged = let state = merged.volume in
    beside_same merged.merge (told_under depth m state) state (then_same (told_in state.origin depth m) _ state.origin state (in_same state.origin depth m) refl)
role_same (Snapshot k) m merged = tt
role_same (Store k depth) m merged = let state = merged.volume in
    beside_same merged.merge (told_store k depth m state) state (looked (snap_at k state) _ state (λ snap at.
    then_same (told_snap depth m snap) (λ after. record { origin = state.origin; snaps = set state.snaps k after }) snap state
    (then_same (told_in snap.store depth m) _ snap.store snap (in_same snap.store depth m) refl)
    (ap (λ (snaps : List Snap). record { origin = state.origin; snaps = snaps }) (snap_back k state snap at))))
role_same MergingRole m merged = tt
role_same (MergingStore depth) m merged = merging_same depth m merged.merge merged.volume

-- a volume with the devices and the merge that it has
same_merged : (volume : Volume) → with_merged (merged_in volume) volume ≡ volume
same_merged volume = ap (λ merging. record volume { merging = merging }) (same_merge volume.merging)
  where
    same_merge : (merging : Option Merging) → with_merge merging (merge_in merging) ≡ merging
    same_merge None = refl
    same_merge (Some g) = refl

mounted_same : (role : Role) (m : Message) (volume : Volume) → LeavesSame volume (told_mounted role m volume)
unfolding told_mounted
mounted_same role m volume = then_same (told_role role m (merged_in volume)) (λ after. with_merged after volume) (merged_in volume) volume (role_same role m (merged_in volume)) (same_merged volume)

at_same : (place : Place) (m : Message) (table : Table) → LeavesSame table (told_at place m table)
unfolding told_at
at_same (Free i depth) m table = looked (stack_at i table) _ table (λ stacked at.
    then_same (told_free depth m stacked) (λ after. put i after table) stacked table (free_same depth m stacked)
    (ap (λ (stacks : List Stacked). record { stacks = stacks; volumes = table.volumes }) (put_back table.stacks i stacked stacked (stack_there i table stacked at).1 refl)))
at_same (In v role) m table = looked (volume_at v table) _ table (λ volume at.
    then_same (told_mounted role m volume) (λ after. put_volume v after table) volume table (mounted_same role m volume)
    (ap (λ (volumes : List Volume). record { stacks = table.stacks; volumes = volumes }) (put_back table.volumes v volume volume (volume_there v table volume at).1 refl)))

tell_same : (name : List ℕ) (m : Message) (table : Table) → LeavesSame table (tell name m table)
unfolding tell
tell_same name m table = looked (found (place_of name table)) _ table (λ place at. at_same place m table)

-- an answer with words
pub tell_quiet : (name : List ℕ) (m : Message) (table new : Table) (answer : Answer) → tell name m table ≡ Ok (answer, new) → answer ≢ Done → new ≡ table
tell_quiet name m table new answer is other =
    let P : Result (Answer × Table) Refusal → Type 0 = λ r. LeavesSame table r in subst P is (tell_same name m table) other
