use Rattle.std.proofs.Common.{arith}
use Rattle.chunk_alloc.proofs.Small.{area_small}
use Rattle.store.proofs.store.Store.usage.Goals as goal

pub usage-requires : goal.usage-requires
usage-requires g c =
    let s = c.args.self.now in
    let (small, _) = area_small s.state.chunk s.state.current s.state.size s.front.some s.front.place in
    let same = s.places_size in
    omega arith
