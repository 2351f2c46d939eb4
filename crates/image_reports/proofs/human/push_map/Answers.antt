use Rattle.std.proofs.Common.{◌≤◌, ℕ, sym, subst}
use Rattle.image_reports.proofs.Used.{used_low}
use Rattle.image_reports.proofs.human.push_map.Goals as goal

pub push_used-requires-clause-small : goal.push_used-requires-clause-small
push_used-requires-clause-small c =
    let map = c.args.map.now in
    subst (λ (n : ℕ). n ≤ 140_737_488_355_328) (sym c.usage-usage.ensures.allocated) (used_low map.chunk map.size map.pairs.items map.allowed map.small map.within)
