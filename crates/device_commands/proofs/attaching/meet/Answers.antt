use Rattle.device_list.specs.Tables.{table_of}
use Rattle.command_semantics.proofs.AtPlace.{put_back}
use Rattle.device_list.proofs.Showing.{shown_at, shown_in, shown_inside, shown_set}
use Rattle.device_commands.proofs.Places.{placed}
use Rattle.device_commands.proofs.Meeting.{made_ok, made_err, met_ok, met_err, busy_ok, busy_err, attached_named, put_back_named}
use Rattle.device_commands.proofs.Ruled.{both_here}
use Rattle.device_commands.proofs.Fills.{asked_there}
use Rattle.device_commands.proofs.attaching.meet.Goals as goal

pub returns-in-Ok : goal.returns-in-Ok
returns-in-Ok c = rw (shown_set c.args.held.now.volumes.items c.args.v c.attach.new.self) (record {
  done = λ sound.
      met_ok c.args.name c.args.chunk c.args.overflow c.args.i c.args.v (table_of c.args.held.now) c.remove-stack.result c.index_mut.result.now.shown c.attach.new.self.shown c.remove-stack.new.self.items
      c.requires.stack c.remove-stack.ensures.value c.requires.volume (shown_at c.args.held.now.volumes.items c.args.v c.index_mut.result.now (shown_inside c.args.held.now.volumes.items c.args.v c.requires.volume) c.index_mut.ensures.value) c.remove-stack.ensures.items
      (let h = both_here (table_of c.args.held.now) c.args.v c.args.i c.index_mut.result.now.shown c.remove-stack.result sound c.requires.volume (shown_at c.args.held.now.volumes.items c.args.v c.index_mut.result.now (shown_inside c.args.held.now.volumes.items c.args.v c.requires.volume) c.index_mut.ensures.value) c.requires.stack c.remove-stack.ensures.value in
      c.in-Ok.ensures.ok h.0 h.1 h.2);
  busy =
      busy_ok c.args.i c.args.v (table_of c.args.held.now) _ c.remove-stack.result c.index_mut.result.now.shown
      c.requires.stack c.remove-stack.ensures.value c.requires.volume (shown_at c.args.held.now.volumes.items c.args.v c.index_mut.result.now (shown_inside c.args.held.now.volumes.items c.args.v c.requires.volume) c.index_mut.ensures.value) c.in-Ok.ensures.still;
  made =
      made_ok c.args.name c.args.chunk c.args.overflow c.args.i c.args.v (table_of c.args.held.now) c.remove-stack.result c.index_mut.result.now.shown c.attach.new.self.shown c.remove-stack.new.self.items
      c.requires.stack c.remove-stack.ensures.value c.requires.volume (shown_at c.args.held.now.volumes.items c.args.v c.index_mut.result.now (shown_inside c.args.held.now.volumes.items c.args.v c.requires.volume) c.index_mut.ensures.value) c.remove-stack.ensures.items c.in-Ok.ensures.named c.in-Ok.ensures.still;
  named = λ none room named.
      attached_named (table_of c.args.held.now) c.args.name c.args.overflow c.args.i c.args.v c.remove-stack.result c.index_mut.result.now.shown c.attach.new.self.shown c.remove-stack.new.self.items
      none room c.requires.stack c.remove-stack.ensures.value c.requires.volume (shown_at c.args.held.now.volumes.items c.args.v c.index_mut.result.now (shown_inside c.args.held.now.volumes.items c.args.v c.requires.volume) c.index_mut.ensures.value) c.remove-stack.ensures.items c.in-Ok.ensures.named named;
  full = tt;
})

pub returns-in-Err : goal.returns-in-Err
returns-in-Err c = rw (shown_set c.args.held.now.volumes.items c.args.v c.attach.new.self) (record {
  done = λ sound.
      met_err c.args.name c.args.chunk c.args.overflow c.args.i c.args.v (table_of c.args.held.now) c.remove-stack.result c.in-Err.stack c.index_mut.result.now.shown _ _ c.in-Err.refusal
      c.requires.stack c.remove-stack.ensures.value c.requires.volume (shown_at c.args.held.now.volumes.items c.args.v c.index_mut.result.now (shown_inside c.args.held.now.volumes.items c.args.v c.requires.volume) c.index_mut.ensures.value)
      (placed c.args.held.now.stacks.items c.remove-stack.new.self.items c.put_stack_back.new.stacks.items c.args.i c.in-Err.stack c.requires.stack c.remove-stack.ensures.items c.put_stack_back.ensures)
      (put_back (shown_in c.args.held.now.volumes.items) c.args.v c.index_mut.result.now.shown c.attach.new.self.shown (shown_at c.args.held.now.volumes.items c.args.v c.index_mut.result.now (shown_inside c.args.held.now.volumes.items c.args.v c.requires.volume) c.index_mut.ensures.value) c.in-Err.ensures.same)
      (let h = both_here (table_of c.args.held.now) c.args.v c.args.i c.index_mut.result.now.shown c.remove-stack.result sound c.requires.volume (shown_at c.args.held.now.volumes.items c.args.v c.index_mut.result.now (shown_inside c.args.held.now.volumes.items c.args.v c.requires.volume) c.index_mut.ensures.value) c.requires.stack c.remove-stack.ensures.value in
      λ other. c.in-Err.ensures.err other h.0 h.1 h.2)
      (λ none. c.in-Err.ensures.starved none);
  busy =
      busy_err c.args.i c.args.v (table_of c.args.held.now) c.remove-stack.result c.in-Err.stack c.index_mut.result.now.shown _ _ c.in-Err.refusal
      c.requires.stack c.remove-stack.ensures.value c.requires.volume (shown_at c.args.held.now.volumes.items c.args.v c.index_mut.result.now (shown_inside c.args.held.now.volumes.items c.args.v c.requires.volume) c.index_mut.ensures.value)
      (placed c.args.held.now.stacks.items c.remove-stack.new.self.items c.put_stack_back.new.stacks.items c.args.i c.in-Err.stack c.requires.stack c.remove-stack.ensures.items c.put_stack_back.ensures)
      (put_back (shown_in c.args.held.now.volumes.items) c.args.v c.index_mut.result.now.shown c.attach.new.self.shown (shown_at c.args.held.now.volumes.items c.args.v c.index_mut.result.now (shown_inside c.args.held.now.volumes.items c.args.v c.requires.volume) c.index_mut.ensures.value) c.in-Err.ensures.same)
      c.in-Err.ensures.busy;
  made =
      made_err c.args.name c.args.chunk c.args.overflow c.args.i c.args.v (table_of c.args.held.now) c.remove-stack.result c.in-Err.stack c.index_mut.result.now.shown _ _ c.in-Err.refusal
      c.requires.stack c.remove-stack.ensures.value c.requires.volume (shown_at c.args.held.now.volumes.items c.args.v c.index_mut.result.now (shown_inside c.args.held.now.volumes.items c.args.v c.requires.volume) c.index_mut.ensures.value)
      (placed c.args.held.now.stacks.items c.remove-stack.new.self.items c.put_stack_back.new.stacks.items c.args.i c.in-Err.stack c.requires.stack c.remove-stack.ensures.items c.put_stack_back.ensures)
      (put_back (shown_in c.args.held.now.volumes.items) c.args.v c.index_mut.result.now.shown c.attach.new.self.shown (shown_at c.args.held.now.volumes.items c.args.v c.index_mut.result.now (shown_inside c.args.held.now.volumes.items c.args.v c.requires.volume) c.index_mut.ensures.value) c.in-Err.ensures.same)
      c.in-Err.ensures.refused c.in-Err.ensures.names c.in-Err.ensures.starved c.in-Err.ensures.busy;
  named = λ none room named.
      put_back_named (table_of c.args.held.now) c.args.i c.remove-stack.result c.in-Err.stack c.put_stack_back.new.stacks.items _ c.requires.stack c.remove-stack.ensures.value
      (placed c.args.held.now.stacks.items c.remove-stack.new.self.items c.put_stack_back.new.stacks.items c.args.i c.in-Err.stack c.requires.stack c.remove-stack.ensures.items c.put_stack_back.ensures)
      (put_back (shown_in c.args.held.now.volumes.items) c.args.v c.index_mut.result.now.shown c.attach.new.self.shown (shown_at c.args.held.now.volumes.items c.args.v c.index_mut.result.now (shown_inside c.args.held.now.volumes.items c.args.v c.requires.volume) c.index_mut.ensures.value) c.in-Err.ensures.same)
      c.in-Err.ensures.names named;
  full = λ is. asked_there c.put_stack_back.new.stacks.items (shown_in c.args.held.now.volumes.items) c.args.v c.attach.new.self.shown c.requires.volume (c.in-Err.ensures.full is);
})
