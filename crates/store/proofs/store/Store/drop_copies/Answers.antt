use Rattle.store.specs.Held.{committed, pending}
use Rattle.store.proofs.Pending.{given_none}
use Rattle.store.proofs.store.Store.drop_copies.Goals as goal

pub invariant_of-self-clause-given : goal.invariant_of-self-clause-given
invariant_of-self-clause-given g c =
    let s = c.args.self.now in
    given_none s.state.chunk s.state.origin s.state.size s.places.next s.state.copying (committed s.exceptions) _ (pending s.exceptions) _ s.given c.abandon_all.ensures.committed c.abandon_all.ensures.pending
