-- Changes of the table that leave it sound.
use Rattle.std.proofs.Common.{◌≡◌, ℕ, zero, suc, ◌<◌, Bool, true, false, ◌&&◌, List, [], ◌∷◌, ◌++◌, length, get_or, map, set, refl, sym, ap, ◌∙◌, arith}
use Rattle.std.specs.Prelude.{Some}
use Rattle.std.specs.List.{list_all, remove}
use Rattle.std.proofs.lemmas.List.Folds.{list_all-append}
use Rattle.device.specs.Layers.{Layer, is_loud, is_loud_layer, Flaky, Dusty, Broken, Counted, Tearing, Window, ReadAhead}
use Rattle.layers.specs.Windows.{layers_below}
use Rattle.command_semantics.specs.State.{Stacked, Volume, Table}
use Rattle.command_semantics.specs.Disks.{with_stack}
use Rattle.command_semantics.specs.Layers.{put}
use Rattle.command_semantics.specs.Messages.{put_volume}
use Rattle.command_semantics.specs.Origins.{moved_under}
use Rattle.command_semantics.specs.Sound.{is_sound_stack, is_sound_volume, is_sound}
use Rattle.command_semantics.proofs.NamedFrames.{taken_by, given_by, left_over}

-- Lists of which each passes.

pub both : (a b : Bool) → (a && b) ≡ true → (a ≡ true) × (b ≡ true)
both true b h = (refl, h)
both false b h = absurd (cc)

pub of_both : (a b : Bool) → a ≡ true → b ≡ true → (a && b) ≡ true
of_both a b x y = rw x y

pub all_pushed : {X : Type 0} (p : X → Bool) (xs : List X) (x : X) → list_all p xs ≡ true → p x ≡ true → list_all p (xs ++ x ∷ []) ≡ true
all_pushed p xs x all one = list_all-append p xs (x ∷ []) ∙ of_both _ _ all (of_both (p x) true one refl)

pub all_removed : {X : Type 0} (p : X → Bool) (xs : List X) (i : ℕ) → list_all p xs ≡ true → list_all p (remove xs i) ≡ true
all_removed p [] zero all = refl
all_removed p [] (suc i) all = refl
all_removed p (x ∷ xs) zero all = (both (p x) (list_all p xs) all).1
all_removed p (x ∷ xs) (suc i) all = let h = both (p x) (list_all p xs) all in of_both (p x) _ h.0 (all_removed p xs i h.1)

pub all_set : {X : Type 0} (p : X → Bool) (xs : List X) (i : ℕ) (x : X) → list_all p xs ≡ true → p x ≡ true → list_all p (set xs i x) ≡ true
all_set p [] zero x all one = refl
all_set p [] (suc i) x all one = refl
all_set p (y ∷ xs) zero x all one = of_both (p x) _ one (both (p y) (list_all p xs) all).1
all_set p (y ∷ xs) (suc i) x all one = let h = both (p y) (list_all p xs) all in of_both (p y) _ h.0 (all_set p xs i x h.1 one)

pub all_mapped : {X : Type 0} (p : X → Bool) (f : X → X) (xs : List X) → ((x : X) → p (f x) ≡ p x) → list_all p (map f xs) ≡ list_all p xs
all_mapped p f [] same = refl
all_mapped p f (x ∷ xs) same = ap (λ b. b && list_all p (map f xs)) (same x) ∙ ap (λ b. p x && b) (all_mapped p f xs same)

-- one of them passes
pub passes_at : {X : Type 0} (p : X → Bool) (xs : List X) (i : ℕ) (d : X) → list_all p xs ≡ true → i < length xs → p (get_or xs i d) ≡ true
passes_at p [] i d all lt = absurd (omega (arith, lt))
passes_at p (x ∷ xs) zero d all lt = (both (p x) (list_all p xs) all).0
passes_at p (x ∷ xs) (suc i) d all lt = passes_at p xs i d (both (p x) (list_all p xs) all).1 (omega (arith, lt))

-- The frames: a table is sound after each change.

-- both lists of it
pub sound_parts : (table : Table) → is_sound table ≡ true → (list_all is_sound_stack table.stacks ≡ true) × (list_all is_sound_volume table.volumes ≡ true)
sound_parts table sound = both (list_all is_sound_stack table.stacks) (list_all is_sound_volume table.volumes) sound

pub sound_of : (stacks : List Stacked) (volumes : List Volume) → list_all is_sound_stack stacks ≡ true → list_all is_sound_volume volumes ≡ true → is_sound (record { stacks = stacks; volumes = volumes }) ≡ true
sound_of stacks volumes a b = of_both _ _ a b

-- one of its stacks, and of its volumes
pub stack_sound : (table : Table) (i : ℕ) (old : Stacked) → is_sound table ≡ true → i < length table.stacks → old ≡ get_or table.stacks i old → is_loud old.device.layers ≡ true
stack_sound table i old sound lt at = ap is_sound_stack at ∙ passes_at is_sound_stack table.stacks i old (sound_parts table sound).0 lt

pub volume_whole : (table : Table) (v : ℕ) (old : Volume) → is_sound table ≡ true → v < length table.volumes → old ≡ get_or table.volumes v old → is_sound_volume old ≡ true
volume_whole table v old sound lt at = ap is_sound_volume at ∙ passes_at is_sound_volume table.volumes v old (sound_parts table sound).1 lt

-- none of its devices drops writes, and nothing is in flight
pub volume_sound : (table : Table) (v : ℕ) (old : Volume) → is_sound table ≡ true → v < length table.volumes → old ≡ get_or table.volumes v old → old.sound ≡ true
volume_sound table v old sound lt at = (both old.sound old.quiet (volume_whole table v old sound lt at)).0

pub volume_quiet : (table : Table) (v : ℕ) (old : Volume) → is_sound table ≡ true → v < length table.volumes → old ≡ get_or table.volumes v old → old.quiet ≡ true
volume_quiet table v old sound lt at = (both old.sound old.quiet (volume_whole table v old sound lt at)).1

-- one stack more
pub with_stack_sound : (table : Table) (stacked : Stacked) → is_loud stacked.device.layers ≡ true → is_sound table ≡ true → is_sound (with_stack stacked table) ≡ true
with_stack_sound table stacked loud sound = let h = sound_parts table sound in of_both _ _ (all_pushed is_sound_stack table.stacks stacked h.0 loud) h.1

-- another stack at a place
pub put_sound : (table : Table) (i : ℕ) (new : Stacked) → is_loud new.device.layers ≡ true → is_sound table ≡ true → is_sound (put i new table) ≡ true
put_sound table i new loud sound = let h = sound_parts table sound in of_both _ _ (all_set is_sound_stack table.stacks i new h.0 loud) h.1

-- a stack goes
pub removed_sound : (table : Table) (i : ℕ) → is_sound table ≡ true → is_sound (record { stacks = remove table.stacks i; volumes = table.volumes }) ≡ true
removed_sound table i sound = let h = sound_parts table sound in of_both _ _ (all_removed is_sound_stack table.stacks i h.0) h.1

-- another volume at a place
pub put_volume_sound : (table : Table) (v : ℕ) (new : Volume) → is_sound_volume new ≡ true → is_sound table ≡ true → is_sound (put_volume v new table) ≡ true
put_volume_sound table v new whole sound = let h = sound_parts table sound in of_both _ _ h.0 (all_set is_sound_volume table.volumes v new h.1 whole)

-- a stack goes to a new volume
pub moved_under_sound : (table : Table) (i : ℕ) (volume : Volume) → is_sound_volume volume ≡ true → is_sound table ≡ true → is_sound (moved_under i volume table) ≡ true
moved_under_sound table i volume whole sound =
    let h = sound_parts table sound in of_both _ _ (all_removed is_sound_stack table.stacks i h.0) (all_pushed is_sound_volume table.volumes volume h.1 whole)

-- a stack becomes a store of a volume
pub taken_by_sound : (table : Table) (i v : ℕ) (new : Volume) → is_sound_volume new ≡ true → is_sound table ≡ true → is_sound (taken_by i v new table) ≡ true
taken_by_sound table i v new whole sound =
    let h = sound_parts table sound in of_both _ _ (all_removed is_sound_stack table.stacks i h.0) (all_set is_sound_volume table.volumes v new h.1 whole)

-- a volume gives a stack back
pub given_by_sound : (table : Table) (v : ℕ) (stacked : Stacked) (new : Volume) → is_loud stacked.device.layers ≡ true → is_sound_volume new ≡ true → is_sound table ≡ true → is_sound (given_by stacked v new table) ≡ true
given_by_sound table v stacked new loud whole sound =
    let h = sound_parts table sound in of_both _ _ (all_pushed is_sound_stack table.stacks stacked h.0 loud) (all_set is_sound_volume table.volumes v new h.1 whole)

-- a volume goes, and its stack is left
pub left_over_sound : (table : Table) (v : ℕ) (stacked : Stacked) → is_loud stacked.device.layers ≡ true → is_sound table ≡ true → is_sound (left_over stacked v table) ≡ true
left_over_sound table v stacked loud sound =
    let h = sound_parts table sound in of_both _ _ (all_pushed is_sound_stack table.stacks stacked h.0 loud) (all_removed is_sound_volume table.volumes v h.1)

-- the layers below the top layer
pub loud_below : (layers rest : List Layer) → layers_below layers ≡ Some rest → is_loud layers ≡ true → is_loud rest ≡ true
loud_below [] rest is loud = absurd (cc)
loud_below (l ∷ []) rest is loud = absurd (cc)
loud_below (l ∷ Window aside ∷ ls) rest is loud =
    let same : ls ≡ rest = cc in
    sym (ap is_loud same) ∙ (both (is_loud_layer l) (is_loud ls) loud).1
loud_below (l ∷ Flaky moment up down features offset ∷ ls) rest is loud = absurd (cc)
loud_below (l ∷ Dusty sectors size enabled bad ∷ ls) rest is loud = absurd (cc)
loud_below (l ∷ Broken ∷ ls) rest is loud = absurd (cc)
loud_below (l ∷ Counted left ∷ ls) rest is loud = absurd (cc)
loud_below (l ∷ Tearing left ∷ ls) rest is loud = absurd (cc)
loud_below (l ∷ ReadAhead ranges kept ∷ ls) rest is loud = absurd (cc)
