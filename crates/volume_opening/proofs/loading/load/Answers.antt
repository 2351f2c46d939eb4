-- It was looked at first.
use Rattle.volume_opening.proofs.loading.load.Goals as goal

pub returns : goal.returns
returns g c = c.in_ok-number.ensures c.in_ok-found.found c.args.store c.load_ahead.ensures.seen c.in_ok-found.ensures.told
