-- Nothing is under way where no copy is.
use Rattle.std.proofs.Common.{◌≡◌, ◌∙◌, [], ap, sym, map, length}
use Rattle.std.proofs.lemmas.List.{length-map}
use Rattle.exception_arena.specs.Pending as arena
use Rattle.in_flight.specs.Copies.{pair_of}
use Rattle.store.specs.Held.{pending, pairs_pending}
use Rattle.snapshot.proofs.snapshot.Snapshot.into_store.Goals as goal

pub returns-clause-idle : goal.returns-clause-idle
returns-clause-idle g c =
    let s = c.self.inside.store in
    let none : c.self.inside.copies.items ≡ [] = ap (λ v. v.copies) c.self.view_is ∙ c.requires.copied in
    let begun : pairs_pending s.exceptions ≡ [] = c.self.invariant.0.agree ∙ ap (map pair_of) none in
    sym (length-map (pending s.exceptions) arena.pair_of) ∙ ap length begun
