use Rattle.std.proofs.Common.{◌≡◌, ◌≤◌, ◌∙◌, ◌+◌, ◌*◌, ℕ, ap, subst, arith}
use Rattle.cow_format.specs.Places.{is_area_place}
use Rattle.cow_format.specs.NextPlace.{stepped}
use Rattle.exception_arena.specs.declared.begun.Begun.{Begun}
use Rattle.store.specs.Held.{committed, pending}
use Rattle.store.proofs.Pending.{given_started}
use Rattle.store.proofs.store.Store.start.Goals as goal

pub invariant_of-self-in-Some-clause-given : goal.invariant_of-self-in-Some-clause-given
invariant_of-self-in-Some-clause-given g c =
    let s = c.args.self.now in
    let (at, fits, next) = c.in-Some.ensures.taken in
    let begun : Begun = record { id = c.begin-id.result; pair = record { old = c.args.old; new = c.in-Some.new } } in
    let fits' : s.state.chunk * (s.places.next + 1) ≤ s.state.size = subst (λ (n : ℕ). s.state.chunk * (n + 1) ≤ s.state.size) at (subst (λ (n : ℕ). n * (c.in-Some.new + 1) ≤ s.state.size) s.places_chunk (subst (λ (n : ℕ). s.places.chunk * (c.in-Some.new + 1) ≤ n) s.places_size fits)) in
    let step : c.take.new.self.next ≡ stepped s.state.chunk (s.places.next + 1) = next ∙ ap (λ n. stepped n (c.in-Some.new + 1)) s.places_chunk ∙ ap (λ n. stepped s.state.chunk (n + 1)) at in
    given_started s.state.chunk s.state.origin s.state.size s.places.next c.take.new.self.next s.state.copying (committed s.exceptions) (committed c.begin-id.new.self) (pending s.exceptions) (pending c.begin-id.new.self) begun s.front.some s.given c.requires.copying at fits' c.requires.begins c.requires.absent c.requires.idle c.begin-id.ensures.committed c.begin-id.ensures.pending step

pub returns-in-Some-clause-inside : goal.returns-in-Some-clause-inside
returns-in-Some-clause-inside g c =
    let s = c.args.self.now in
    let (at, fits, next) = c.in-Some.ensures.taken in
    let fits' : s.state.chunk * (c.in-Some.new + 1) ≤ s.state.size = subst (λ (n : ℕ). n * (c.in-Some.new + 1) ≤ s.state.size) s.places_chunk (subst (λ (n : ℕ). s.places.chunk * (c.in-Some.new + 1) ≤ n) s.places_size fits) in
    let is = s.given.least c.requires.copying in
    let low = is.low in
    record { old = c.requires.begins; new = fits'; low = omega arith; free = ap (is_area_place s.state.chunk) at ∙ is.free }
