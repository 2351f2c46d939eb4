use Rattle.std.proofs.Common.{sym, ap, ◌∙◌}
use Rattle.snapshot.specs.Kept.{Kept}
use Rattle.audited_volume.proofs.Lost.{live_at, lost_is}
use Rattle.audited_volume.proofs.noting.is_lost.Goals as goal

pub returns-then-lives-k : goal.returns-then-lives-k
returns-then-lives-k g c d =
    let shown = live_at g.B.Block.contents (g.B.Block.contents c.args.volume.now.origin) c.args.volume.now.snaps c.args.k c.snap-snap.result.now c.requires.snaps d in
    let same = c.is_live.ensures ∙ ap (λ (x : Kept _). x.live) (c.snap-snap.ensures.value c.snap-snap.result.now) ∙ sym shown in
    lost_is _ _ c.is_live.result c.if-lives-k.true same
