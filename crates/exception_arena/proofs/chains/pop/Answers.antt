use Rattle.std.proofs.Common.{◌≡◌, ◌∙◌, length}
use Rattle.exception_arena.proofs.Hung.{hung_less}
use Rattle.exception_arena.proofs.chains.pop.Goals as goal

pub returns-clause-hung : goal.returns-clause-hung
returns-clause-hung c =
    let n : c.len.result ≡ length c.args.heads.now.items = c.len.ensures ∙ c.args.heads.now.ok.0 in
    hung_less c.args.nodes.now.items c.pop.new.self.items c.args.heads.now.items c.in-Some.node c.bucket_of-bucket.result c.in-Some.ensures.items (rw n at c.bucket_of-bucket.ensures.within) (rw n at c.bucket_of-bucket.ensures.is) c.requires.hung
