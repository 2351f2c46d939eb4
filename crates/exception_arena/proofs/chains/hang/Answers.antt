use Rattle.std.proofs.Common.{◌≡◌, ◌∙◌, ap, length}
use Rattle.std.proofs.lemmas.List.{get_or_default}
use Rattle.exception_arena.specs.Links.{node_at, pair_of}
use Rattle.exception_arena.specs.declared.node.Node.{Node}
use Rattle.exception_arena.proofs.Hung.{hung_more, more_pairs}
use Rattle.exception_arena.proofs.chains.hang.Goals as goal

pub returns-clause-pairs : goal.returns-clause-pairs
returns-clause-pairs c =
    let d = c.index_mut.result.now in
    let e : d ≡ node_at c.args.nodes.now.items c.args.place = c.index_mut.ensures.value ∙ get_or_default c.args.nodes.now.items c.args.place d _ c.requires.inside in
    more_pairs c.args.nodes.now.items c.args.place (record { old = d.old; new = d.new; next = c.index-2.result.now }) c.requires.inside (ap pair_of e)

pub returns-clause-hung : goal.returns-clause-hung
returns-clause-hung c =
    let d = c.index_mut.result.now in
    let e : d ≡ node_at c.args.nodes.now.items c.args.place = c.index_mut.ensures.value ∙ get_or_default c.args.nodes.now.items c.args.place d _ c.requires.inside in
    let f : c.index.result.now ≡ node_at c.args.nodes.now.items c.args.place = c.index.ensures ∙ get_or_default c.args.nodes.now.items c.args.place c.index.result.now _ c.requires.inside in
    let n : c.len.result ≡ length c.args.heads.now.items = c.len.ensures ∙ c.args.heads.now.ok.0 in
    let within = rw n at c.bucket_of-bucket.ensures.within in
    let is = rw (n, f) at c.bucket_of-bucket.ensures.is in
    rw c.to.ensures (hung_more c.args.nodes.now.items c.args.heads.now.items c.args.place c.bucket_of-bucket.result (record { old = d.old; new = d.new; next = c.index-2.result.now }) c.requires.inside within is (ap (λ (n : Node). n.old) e) (c.index-2.ensures ∙ get_or_default c.args.heads.now.items c.bucket_of-bucket.result c.index-2.result.now _ within) c.requires.hung)
