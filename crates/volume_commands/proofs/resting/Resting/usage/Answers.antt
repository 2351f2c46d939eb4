-- What is kept of a live snapshot is what its store's bytes say.
use Rattle.std.proofs.Common.{◌≡◌, None, true, false, sym, ◌∙◌, ap, subst}
use Rattle.volume_commands.specs.Rested.{Attached, IsSettled}
use Rattle.volume_commands.specs.Using.{IsUsed}
use Rattle.volume_commands.proofs.Seen.{loud_same}
use Rattle.volume_commands.proofs.Lends.{inside, seen_at, used_at, held_usage, kept_usage, no_usage}
use Rattle.volume_commands.specs.Recorded.{Recorded}
use Rattle.volume_commands.proofs.resting.Resting.usage.Goals as goal

pub returns-then-is_live-clause-is : goal.returns-then-is_live-clause-is
returns-then-is_live-clause-is g c = λ d.
    let s = c.snap-snap.result.now in
    let live : s.live ≡ true = sym c.is_live.ensures ∙ c.if-is_live.true in
    kept_usage c.self.inside.volume.volume c.args.self.now.rested (ap (λ (r : Recorded g.row.B.Denot). r.rested) c.self.view_is) c.args.k s c.snap-snap.ensures.value c.usage.result live c.usage.ensures.allocated c.usage.ensures.total c.usage.ensures.metadata d

pub returns-then-is_live-clause-held : goal.returns-then-is_live-clause-held
returns-then-is_live-clause-held g c = λ d.
    let s = c.snap-snap.result.now in
    let live : s.live ≡ true = sym c.is_live.ensures ∙ c.if-is_live.true in
    held_usage c.self.inside.volume.volume c.args.self.now.rested (ap (λ (r : Recorded g.row.B.Denot). r.rested) c.self.view_is) c.args.k s c.snap-snap.ensures.value g.B.Block.size c.usage.result live c.snap-snap.ensures.counted (c.snap-snap.ensures.sized live) c.usage.ensures.allocated c.usage.ensures.total c.usage.ensures.metadata d

pub returns-else-is_live-clause-is : goal.returns-else-is_live-clause-is
returns-else-is_live-clause-is g c = λ d.
    let s = c.snap-snap.result.now in
    let spoiled : s.live ≡ false = sym c.is_live.ensures ∙ c.if-is_live.false in
    no_usage c.self.inside.volume.volume c.args.self.now.rested (ap (λ (r : Recorded g.row.B.Denot). r.rested) c.self.view_is) c.args.k s c.snap-snap.ensures.value spoiled d

pub returns-then-is_live-clause-live : goal.returns-then-is_live-clause-live
returns-then-is_live-clause-live g c = λ d. sym c.if-is_live.true ∙ c.is_live.ensures ∙ ap (λ (x : Attached g.row.B.Denot). x.live) (sym (seen_at c.self.inside.volume.volume c.args.self.now.rested (ap (λ (r : Recorded g.row.B.Denot). r.rested) c.self.view_is) c.args.k c.snap-snap.result.now c.requires c.snap-snap.ensures.value d))

pub returns-then-is_live-clause-used : goal.returns-then-is_live-clause-used
returns-then-is_live-clause-used g c = λ settled d.
    let s = c.snap-snap.result.now in
    let lt = inside c.self.inside.volume.volume c.args.self.now.rested (ap (λ (r : Recorded g.row.B.Denot). r.rested) c.self.view_is) c.args.k s c.requires c.snap-snap.ensures.value in
    let live : s.live ≡ true = sym c.is_live.ensures ∙ c.if-is_live.true in
    let rests = subst (λ (r : Recorded g.row.B.Denot). IsSettled g.B.Block.layers r.rested) (sym c.self.view_is) settled in
    let between = c.is_quiet.ensures.between (c.is_quiet.ensures.value ∙ rests.quiet) (sym (loud_same g.B.Block.contents g.B.Block.layers c.self.inside.volume.volume) ∙ rests.loud) None in
    subst (λ (x : Attached g.row.B.Denot). IsUsed g.B.Block.contents g.B.Block.size x c.usage.result) (sym (seen_at c.self.inside.volume.volume c.args.self.now.rested (ap (λ (r : Recorded g.row.B.Denot). r.rested) c.self.view_is) c.args.k s c.requires c.snap-snap.ensures.value d))
    (used_at g.B.Block.contents g.B.Block.layers g.B.Block.size c.self.inside.volume.volume c.args.k s lt c.snap-snap.ensures.value c.usage.result live c.snap-snap.ensures.counted (c.snap-snap.ensures.sized live) c.usage.ensures.allocated c.usage.ensures.total c.usage.ensures.metadata between)

pub returns-else-is_live-clause-live : goal.returns-else-is_live-clause-live
returns-else-is_live-clause-live g c = λ d. sym c.if-is_live.false ∙ c.is_live.ensures ∙ ap (λ (x : Attached g.row.B.Denot). x.live) (sym (seen_at c.self.inside.volume.volume c.args.self.now.rested (ap (λ (r : Recorded g.row.B.Denot). r.rested) c.self.view_is) c.args.k c.snap-snap.result.now c.requires c.snap-snap.ensures.value d))
