use Rattle.std.proofs.Common.{◌≡◌, ◌+◌, ◌-◌, length, subst, arith, None}
use Rattle.exception_arena.specs.Links.{node_at, head_at}
use Rattle.exception_arena.proofs.Hung.{IsOn, on_first, on_here, on_over}
use Rattle.exception_arena.proofs.chains.find.Goals as goal
use Rattle.exception_arena.proofs.chains.find.Goals.{then-node-old_chunk, else-node-old_chunk}

pub loop-step-init : goal.loop-step-init
loop-step-init c =
    let all : length c.args.nodes.now ≡ length c.args.nodes.now - 0 = omega arith in
    subst (λ left. IsOn c.args.nodes.now (length c.args.heads.now) c.args.old_chunk (head_at c.args.heads.now c.bucket_of.result) None left) all
    (on_first c.args.nodes.now c.args.heads.now c.args.old_chunk (c.bucket_of.result) c.bucket_of.ensures.is c.bucket_of.ensures.within c.requires.hung)

pub loop-step-preserved : goal.loop-step-preserved
loop-step-preserved c =
    let left : length c.args.nodes.now - c.loop-step._step - 1 ≡ length c.args.nodes.now - (c.loop-step._step + 1) = omega arith in
    subst (λ left. IsOn c.args.nodes.now (length c.args.heads.now) c.args.old_chunk (node_at c.args.nodes.now c.in-Some.place).next c.if-node-old_chunk.found left) left
    (elim c.if-node-old_chunk.branch [
      | then-node-old_chunk w ↦ rw w.found-is (on_here c.args.nodes.now c.args.heads.now c.args.old_chunk c.in-Some.place c.loop-step.link c.loop-step.found (length c.args.nodes.now - c.loop-step._step) c.requires.hung c.loop-step.invariant c.in-Some.ensures w.if-node-old_chunk.true)
      | else-node-old_chunk w ↦ rw w.found-is (on_over c.args.nodes.now c.args.heads.now c.args.old_chunk c.in-Some.place c.loop-step.link c.loop-step.found (length c.args.nodes.now - c.loop-step._step) c.requires.hung c.loop-step.invariant c.in-Some.ensures w.if-node-old_chunk.false)
    ])
