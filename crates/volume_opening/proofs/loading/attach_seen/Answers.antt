-- A store that was looked at, and then synced and attached.
use Rattle.std.proofs.Common.{ap, ◌∙◌}
use Rattle.sector.specs.Bytes.{sector_at}
use Rattle.cow_header.specs.HeaderText.{found_in}
use Rattle.volume_opening.proofs.Seen.{ahead_seen, seen_more}
use Rattle.volume_opening.proofs.loading.attach_seen.Goals as goal

pub returns : goal.returns
returns g c = λ found first looked told.
    let does = c.sync_ahead.ensures.does in
    record {
      seen = c.sync_ahead.new.self;
      looked = seen_more g.B.Block.may_hold g.B.Block.contents g.B.Block.layers g.B.Block.size first c.args.store c.sync_ahead.new.self looked (ahead_seen g.B.Block.may_hold g.B.Block.contents g.B.Block.layers g.B.Block.size g.B.Block.fault_count g.B.Block.done_count _ _ does);
      told = λ is. ap (λ bytes. found_in (sector_at bytes 0)) (does.same is) ∙ told (does.loud is);
      attached = c.in-Ok.ensures.does;
      origin = c.in_ok-are_answered.ensures.origin;
      stores = c.in_ok-are_answered.ensures.stores;
    }
