-- A volume that is not taken out after all.
use Rattle.std.proofs.Common.{◌≡◌, ◌≤◌, ℕ, Bool, true, false, List, [], ◌∷◌, length, max, refl, sym, ap, ◌∙◌, subst, arith}
use Rattle.std.specs.Prelude.{◌==◌, ◌&&◌}
use Rattle.layers.specs.declared.stack.Stack.{Stack}
use Rattle.volume_commands.specs.Rested.{Rested}
use Rattle.command_semantics.specs.State.{Volume}
use Rattle.device_list.specs.Parting.{HasAll, IsParted, Parts, named_with, with_requests}

greater : (n m : ℕ) → m ≤ n → max n m ≡ n
greater n m le = omega (arith, le)

-- it is what it was
pub as_it_was : (p : Parts) (v w : Rested Stack) (old new : Volume) → w ≡ v → IsParted p v → old ≡ named_with p v → (HasAll p w → new ≡ named_with (with_requests w.requests p) w) → new ≡ old
as_it_was p v w old new same parted was is =
    is (subst (HasAll p) (sym same) parted.all)
    ∙ ap (λ (x : Rested Stack). named_with (with_requests x.requests p) x) same
    ∙ ap (λ (n : ℕ). named_with (record p { asked = n }) v) (greater p.asked v.requests parted.requests)
    ∙ sym was

none_flying : {X : Type 0} (flights : List X) (b : Bool) → ((length flights == 0) && b) ≡ true → flights ≡ []
none_flying [] b is = refl
none_flying (f ∷ fs) b is =
    let some : (length (f ∷ fs) == 0) ≡ false = search (arith) in
    absurd (let no : ⊥ = cc in no)

-- nothing is in flight in a quiet one
pub idle : (p : Parts) (v : Rested Stack) (old : Volume) → old ≡ named_with p v → old.quiet ≡ true → v.events.flights ≡ []
idle p v old is quiet = none_flying v.events.flights _ (ap (λ (o : Volume). o.quiet) (sym is) ∙ quiet)
