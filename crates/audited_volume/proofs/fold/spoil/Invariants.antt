use Rattle.std.proofs.Common.{◌≡◌, ◌∷◌, ◌++◌, [], drop, map, take, vec_capacity, vec_len}
use Rattle.plain_machine.specs.Plain.{spoiled_entry}
use Rattle.audited_volume.specs.Books.{shown_in}
use Rattle.audited_volume.proofs.fold.spoil.Given as goal

abbrev pub invariant-loop-k : goal.invariant-loop-k
invariant-loop-k l =
    (map shown_in l.saved.items ≡ map (spoiled_entry (l.number ∷ [])) (take l.k (map shown_in l.fn.saved.items)) ++ drop l.k (map shown_in l.fn.saved.items))
    × (vec_len l.saved ≡ vec_len l.fn.saved) × (vec_capacity l.saved ≡ vec_capacity l.fn.saved)
