use Rattle.std.proofs.Common.{◌∙◌}
use Rattle.exception_arena.specs.Links.{nowhere}
use Rattle.exception_arena.proofs.Hung.{hung_put}
use Rattle.exception_arena.proofs.chains.push.Goals as goal

pub hang-requires-clause-hung : goal.hang-requires-clause-hung
hang-requires-clause-hung c = rw (c.len-place.ensures ∙ c.args.nodes.now.ok.0) (hung_put c.args.nodes.now.items c.push_reserved.new.self.items c.args.heads.now.items (record { old = c.args.pair.old; new = c.args.pair.new; next = nowhere }) c.push_reserved.ensures.items c.requires.hung)
