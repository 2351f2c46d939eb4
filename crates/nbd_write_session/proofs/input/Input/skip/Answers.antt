use Rattle.std.proofs.Common.{ap, ◌∙◌}
use Rattle.nbd_write_session.specs.Stream.{lessened}
use Rattle.nbd_write_session.proofs.Heard.{range_thinned}
use Rattle.nbd_write_session.proofs.input.Input.skip.Goals as goal

pub returns : goal.returns
returns c =
    range_thinned c.self.inside.room.items c.self.inside.from c.self.inside.to c.args.count c.min-now.result c.self.invariant.0 c.self.invariant.1 c.min-now.ensures
    ∙ ap (lessened c.args.count) c.self.view_is
