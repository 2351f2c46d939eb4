-- The event was due, was done ahead and then done.
use Rattle.std.proofs.Common.{◌≡◌, ◌∙◌, ap, rules, subst, sym, true}
use Rattle.volume.specs.Lasting.{IsKept}
use Rattle.volume_nbd.specs.Served.{Served}
use Rattle.volume_nbd.proofs.Events.{event_done}
use Rattle.volume_nbd.proofs.volume_array.VolumeArray.do_event.Goals as goal

pub returns-clause-some : goal.returns-clause-some
returns-clause-some g c =
    event_done g.B.Block.may_hold g.B.Block.contents g.B.Block.layers g.B.Block.size g.B.Block.fault_count g.B.Block.done_count g.B.Ahead.failed g.B.Ahead.unanswered c.args.self.now.chosen g.met.B.Block.whole g.met.B.Block.holds_now
    c.args.event c.in-Ok.outcome c.stepped.result c.args.self.now.volume c.ahead.new.self c.step.new.self (search rules) (search rules) (search rules) (λ few all. (let told : c.ahead.result ≡ true = c.ahead.ensures.sure (search rules) few all in sym (c.ahead.ensures.told (search rules)) ∙ told)) (λ answered. c.ahead.ensures.faultless (c.ahead.ensures.told (search rules) ∙ answered)) (subst (IsKept g.B.Block.may_hold g.B.Block.contents g.B.Block.layers g.B.Block.size) (ap (λ (x : Served g.row.B.Denot). x.volume) c.self.view_is) c.look_at.ensures.kept) c.look_at-2.ensures (search rules)
