use Rattle.device_list.proofs.Merges.{store_of_one}
use Rattle.device_list.proofs.stored.merging_store.Goals as goal

pub returns-clause-some : goal.returns-clause-some
returns-clause-some c = store_of_one (λ d. d.now) c.args.volume.now.rested c.merging_store.result c.merging_store.ensures.some
