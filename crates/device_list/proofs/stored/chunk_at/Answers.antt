use Rattle.std.proofs.Common.{sym, ap, ◌∙◌}
use Rattle.layers.specs.declared.stack.Stack.{Stack}
use Rattle.whole_commands.specs.Snaps.{Snap}
use Rattle.volume_commands.specs.Rested.{Attached}
use Rattle.device_list.proofs.Places.{at_place}
use Rattle.device_list.proofs.stored.chunk_at.Goals as goal

pub returns : goal.returns
returns c = λ d.
    let at = at_place c.args.volume.now.rested c.args.k c.requires in
    c.chunk.ensures at.0 ∙ ap (λ (s : Attached Stack). s.chunk) (at.1.is at.0) ∙ sym (ap (λ (s : Snap). s.chunk) (at.1.held d))
