-- Laws: neither the time nor a message makes a stack drop writes, nor stops one that does.
use Rattle.std.specs.Prelude.{◌≡◌, ℕ, ◌-◌, ◌==◌, Bool, true, false, ◌&&◌, List, [], ◌∷◌, if◌then◌else◌, refl}
use Rattle.std.proofs.Common.{ap, ◌∙◌, subst}
use Rattle.device.specs.Layers.{Layer, Flaky, Dusty, Broken, Counted, Tearing, Window, ReadAhead, is_loud, is_loud_layer}
use Rattle.layers.specs.declared.message.Message.{Message}
use Rattle.layers.specs.declared.message.Message.TheVariants.{AddBadBlock, RemoveBadBlock, QueryBlock, CountBadBlocks, ClearBadBlocks, Enable, Disable, Tick}
use Rattle.layers.specs.declared.message.Answer.{Answer}
use Rattle.layers.specs.Messages.{Told, Answered, Refused, told, told_with, layer_told, dust_told, flakey_told, is_past, is_listed}
use Rattle.layers.specs.Ticks.{ticked, layers_ticked}

loud_layer_ticked : (n : ℕ) (l : Layer) → is_loud_layer (ticked n l) ≡ is_loud_layer l
loud_layer_ticked n (Flaky moment up down features offset) = refl
loud_layer_ticked n (Dusty sectors size enabled bad) = refl
loud_layer_ticked n Broken = refl
loud_layer_ticked n (Counted left) = refl
loud_layer_ticked n (Tearing left) = refl
loud_layer_ticked n (Window aside) = refl
loud_layer_ticked n (ReadAhead ranges kept) = refl

-- the time
pub loud_ticked : (n : ℕ) (ls : List Layer) → is_loud (layers_ticked n ls) ≡ is_loud ls
loud_ticked n [] = refl
loud_ticked n (l ∷ ls) = ap (λ b. b && is_loud (layers_ticked n ls)) (loud_layer_ticked n l) ∙ ap (λ b. is_loud_layer l && b) (loud_ticked n ls)

-- what a refusal or an answer leaves is as loud
abbrev AsLoud : Bool → Told (List Layer) → Type 0
AsLoud loud (Refused r) = Unit {0}
AsLoud loud (Answered a ls) = is_loud ls ≡ loud

-- so is a layer that answered, over others
abbrev AsLoudLayer : Bool → Told Layer → Type 0
AsLoudLayer loud (Refused r) = Unit {0}
AsLoudLayer loud (Answered a l) = is_loud_layer l ≡ loud

either_told : (b : Bool) (loud : Bool) (x y : Told Layer) → AsLoudLayer loud x → AsLoudLayer loud y → AsLoudLayer loud (if b then x else y)
either_told true loud x y hx hy = hx
either_told false loud x y hx hy = hy

dust_loud : (sectors size : ℕ) (on : Bool) (bad : List ℕ) (m : Message) → AsLoudLayer true (dust_told sectors size on bad m)
dust_loud sectors size on bad (AddBadBlock k) = either_told (is_past sectors size k) true _ _ tt (either_told (is_listed k bad) true _ _ refl refl)
dust_loud sectors size on bad (RemoveBadBlock k) = either_told (is_past sectors size k) true _ _ tt (either_told (is_listed k bad) true _ _ refl refl)
dust_loud sectors size on bad (QueryBlock k) = either_told (is_past sectors size k) true _ _ tt refl
dust_loud sectors size on bad CountBadBlocks = refl
dust_loud sectors size on bad ClearBadBlocks = refl
dust_loud sectors size on bad Enable = refl
dust_loud sectors size on bad Disable = refl
dust_loud sectors size on bad (Tick n) = tt

flakey_loud : (l : Layer) (m : Message) → AsLoudLayer (is_loud_layer l) (flakey_told l m)
flakey_loud l (AddBadBlock k) = tt
flakey_loud l (RemoveBadBlock k) = tt
flakey_loud l (QueryBlock k) = tt
flakey_loud l CountBadBlocks = tt
flakey_loud l ClearBadBlocks = tt
flakey_loud l Enable = tt
flakey_loud l Disable = tt
flakey_loud l (Tick n) = loud_layer_ticked n l

layer_loud : (l : Layer) (m : Message) → AsLoudLayer (is_loud_layer l) (layer_told l m)
layer_loud (Flaky moment up down features offset) m = flakey_loud (Flaky moment up down features offset) m
layer_loud (Dusty sectors size enabled bad) m = dust_loud sectors size enabled bad m
layer_loud Broken m = tt
layer_loud (Counted left) m = tt
layer_loud (Tearing left) m = tt
layer_loud (Window aside) m = tt
layer_loud (ReadAhead ranges kept) m = tt

over_loud : (l : Layer) (ls : List Layer) (t : Told Layer) → AsLoudLayer (is_loud_layer l) t → AsLoud (is_loud (l ∷ ls)) (told_with (λ n. n ∷ ls) t)
over_loud l ls (Refused r) h = tt
over_loud l ls (Answered a n) h = ap (λ b. b && is_loud ls) h

under_loud : (l : Layer) (ls : List Layer) (t : Told (List Layer)) → AsLoud (is_loud ls) t → AsLoud (is_loud (l ∷ ls)) (told_with (λ ns. l ∷ ns) t)
under_loud l ls (Refused r) h = tt
under_loud l ls (Answered a ns) h = ap (λ b. is_loud_layer l && b) h

at_loud : (first : Bool) (l : Layer) (ls : List Layer) (m : Message) (rest : Told (List Layer)) → AsLoud (is_loud ls) rest → AsLoud (is_loud (l ∷ ls)) (if first then told_with (λ n. n ∷ ls) (layer_told l m) else told_with (λ ns. l ∷ ns) rest)
at_loud true l ls m rest h = over_loud l ls (layer_told l m) (layer_loud l m)
at_loud false l ls m rest h = under_loud l ls rest h

told_loud : (ls : List Layer) (d : ℕ) (m : Message) → AsLoud (is_loud ls) (told ls d m)
told_loud [] d m = tt
told_loud (Window aside ∷ ls) d m = under_loud (Window aside) ls (told ls d m) (told_loud ls d m)
told_loud (Flaky moment up down features offset ∷ ls) d m = at_loud (d == 0) (Flaky moment up down features offset) ls m (told ls (d - 1) m) (told_loud ls (d - 1) m)
told_loud (Dusty sectors size enabled bad ∷ ls) d m = at_loud (d == 0) (Dusty sectors size enabled bad) ls m (told ls (d - 1) m) (told_loud ls (d - 1) m)
told_loud (Broken ∷ ls) d m = at_loud (d == 0) Broken ls m (told ls (d - 1) m) (told_loud ls (d - 1) m)
told_loud (Counted left ∷ ls) d m = at_loud (d == 0) (Counted left) ls m (told ls (d - 1) m) (told_loud ls (d - 1) m)
told_loud (Tearing left ∷ ls) d m = at_loud (d == 0) (Tearing left) ls m (told ls (d - 1) m) (told_loud ls (d - 1) m)
told_loud (ReadAhead ranges kept ∷ ls) d m = at_loud (d == 0) (ReadAhead ranges kept) ls m (told ls (d - 1) m) (told_loud ls (d - 1) m)

-- a message
pub loud_told : (ls : List Layer) (d : ℕ) (m : Message) (a : Answer) (ns : List Layer) → told ls d m ≡ Answered a ns → is_loud ns ≡ is_loud ls
loud_told ls d m a ns is = subst (AsLoud (is_loud ls)) is (told_loud ls d m)
