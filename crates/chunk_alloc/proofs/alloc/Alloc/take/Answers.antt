use Rattle.std.proofs.Common.{arith, ℕ, ◌+◌, ◌*◌, ◌≤◌, ◌++◌, ◌∷◌, [], refl, subst, sym}
use Rattle.cow_format.specs.NextPlace.{IsNextPlace}
use Rattle.chunk_alloc.proofs.Ahead.{area_then, stepped_over, stepped_same}
use Rattle.cow_format.proofs.NextPlaces.{place_small, stepped_near, next-taken}
use Rattle.chunk_alloc.proofs.alloc.Alloc.take.Goals as goal

pub invariant_of-self-clause-near : goal.invariant_of-self-clause-near
invariant_of-self-clause-near c =
    let inside : c.args.self.now.chunk * (c.args.self.now.next + 1) ≤ c.args.self.now.sectors = c.if-is_full.ensures in
    let h = place_small c.args.self.now.chunk c.args.self.now.next c.args.self.now.sectors c.args.self.now.some inside in
    let s = stepped_near c.args.self.now.chunk (c.args.self.now.next + 1) in
    omega arith

pub invariant_of-self-clause-whole : goal.invariant_of-self-clause-whole
invariant_of-self-clause-whole c = area_then c.args.self.now.chunk c.args.self.now.area c.args.self.now.some c.args.self.now.whole

pub returns-then-self-clause-least : goal.returns-then-self-clause-least
returns-then-self-clause-least c taken is =
    let s = c.args.self.now in
    subst (λ (m : ℕ). IsNextPlace s.chunk (taken ++ s.next ∷ []) m) (sym (stepped_over s.chunk (s.next + 1) s.area s.whole (omega arith))) (next-taken s.chunk taken s.next s.some is)

pub returns-else-self-clause-taken : goal.returns-else-self-clause-taken
returns-else-self-clause-taken c =
    let s = c.args.self.now in
    (refl, c.if-is_full.ensures, stepped_same s.chunk (s.next + 1) s.area s.whole (omega arith) (omega arith))

pub returns-else-self-clause-least : goal.returns-else-self-clause-least
returns-else-self-clause-least c taken is =
    let s = c.args.self.now in
    subst (λ (m : ℕ). IsNextPlace s.chunk (taken ++ s.next ∷ []) m) (sym (stepped_same s.chunk (s.next + 1) s.area s.whole (omega arith) (omega arith))) (next-taken s.chunk taken s.next s.some is)
