-- The lines of volumes, one after the other.
use Rattle.std.proofs.Common.{ℕ, List, [], ◌∷◌, ◌++◌, append_assoc, append-nil, refl, sym, ◌∙◌, ap}
use Rattle.command_semantics.specs.State.{Volume}
use Rattle.device_list.specs.Trace.{IsTraced}
use Rattle.script_runner.specs.Traced.{AreTraced}

-- one volume more
pub traced_more : (page text : List ℕ) (volumes : List Volume) (v : Volume) → AreTraced page volumes → IsTraced text v → AreTraced (page ++ text) (volumes ++ v ∷ [])
traced_more page text [] v none is = (text, [], is, refl, ap (λ xs. xs ++ text) none ∙ sym (append-nil text))
traced_more page text (u ∷ volumes) v first is =
    let (mine, rest, told, others, whole) = first in
    (mine, rest ++ text, told, traced_more rest text volumes v others is, ap (λ xs. xs ++ text) whole ∙ append_assoc mine rest text)
