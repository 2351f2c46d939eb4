use Rattle.device_list.proofs.Tells.{merging_told, under_told, store_told, told_apart}
use Rattle.device_list.proofs.telling.tell_role.Goals as goal

pub returns-in-Under-clause-steps : goal.returns-in-Under-clause-steps
returns-in-Under-clause-steps c =
    rw c.in-Under.is (told_apart c.args.volume.now.rested c.message_origin.new.self.rested c.message_origin.result _ c.message_origin.ensures.merging (under_told c.in-Under.depth c.args.message.now c.args.volume.now.rested c.message_origin.new.self.rested c.message_origin.result c.message_origin.ensures.ok c.message_origin.ensures.err))

pub returns-in-Store-clause-steps : goal.returns-in-Store-clause-steps
returns-in-Store-clause-steps c =
    let lt = rw c.in-Store.is at c.requires in
    rw c.in-Store.is (told_apart c.args.volume.now.rested c.message_store.new.self.rested c.message_store.result _ c.message_store.ensures.merging (store_told c.in-Store.k c.in-Store.depth c.args.message.now c.args.volume.now.rested c.message_store.new.self.rested c.message_store.result lt c.message_store.ensures.ok c.message_store.ensures.err))

pub returns-in-MergingStore-clause-steps : goal.returns-in-MergingStore-clause-steps
returns-in-MergingStore-clause-steps c =
    rw c.in-MergingStore.is (merging_told c.in-MergingStore.depth c.args.message.now c.args.volume.now.rested c.message_merging.new.self.rested c.message_merging.result c.message_merging.ensures.ok c.message_merging.ensures.err)
