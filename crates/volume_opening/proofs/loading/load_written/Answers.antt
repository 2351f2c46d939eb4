-- It was looked at first, and has a header.
use Rattle.std.proofs.Common.{arith}
use Rattle.std.proofs.lemmas.Result.{IfOk-weaker}
use Rattle.cow_header.specs.declared.found.Found.TheVariants.{Header}
use Rattle.volume_opening.proofs.loading.load_written.Goals as goal

pub returns-in-Header : goal.returns-in-Header
returns-in-Header g c = IfOk-weaker c.attach_seen.result _ _ (λ number attached.
    (c.in-Header.chunk, attached (Header c.in-Header.chunk) c.args.store c.load_ahead.ensures.seen (λ is. grind (arith, c.in_ok-load_ahead.ensures.told is, c.in-Header.is)))) c.attach_seen.ensures
