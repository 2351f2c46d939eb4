use Rattle.std.proofs.Common.{◌≡◌, ◌∙◌, false, sym, ap}
use Rattle.std.specs.Prelude.{◌==◌}
use Rattle.std.specs.List.{list_any}
use Rattle.file_device.specs.Pieces.{meets}
use Rattle.file_device.proofs.Among.{rest_any}
use Rattle.file_device.proofs.pieces.Pieces.meet.Goals as goal

pub returns-else-meets : goal.returns-else-meets
returns-else-meets c =
    let t = meets c.args.range.first c.args.range.count in
    let not_near : t c.args.self.now.near ≡ false = cc in
    c.one_meets-else-meets.ensures ∙ ap (list_any t) c.deref-else-meets.ensures.value ∙ sym (rest_any t (c.args.self.now.near.count == 0) c.args.self.now.near c.args.self.now.more.items not_near)
