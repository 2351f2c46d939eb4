use Rattle.std.proofs.Common.{◌+◌, ◌-◌, ◌*◌, ◌%◌, ◌<◌, ◌≤◌, ℕ, Bool, arith, ap, ◌∙◌, sym}
use Rattle.std.proofs.Math.Nat.{mod-lt}
use Rattle.cow_nbd.specs.Shows.{has_copy}
use Rattle.nbd_read_session.specs.Blocks.{marked_for}
use Rattle.cow_nbd.proofs.Marks.{first_marked, marked_step, marked_stop, marked_all, kinds_same, kinds_other, some_times}
use Rattle.cow_nbd.proofs.marking.marked.Goals as goal

pub returns-then-not-is_alike-clause-len : goal.returns-then-not-is_alike-clause-len
returns-then-not-is_alike-clause-len c =
    let first = c.is_some-marked.ensures ∙ first_marked c.args.chunk c.args.pairs.now c.args.at c.run_at.result.chunks c.run_at.result.place c.run_at.ensures.some c.run_at.ensures.run in
    let other = kinds_other _ _ (sym c.is_alike.ensures ∙ c.if-not-is_alike.true) in
    marked_stop c.args.chunk c.args.pairs.now c.args.at c.loop-done.done c.args.most c.run_at-run.result.chunks c.run_at-run.result.place c.is_some-marked.result c.run_at-run.ensures.some c.loop-done.invariant.told c.run_at-run.ensures.run other
    ∙ ap (λ (kind : Bool). marked_for (has_copy c.args.chunk c.args.pairs.now) kind c.args.most c.args.at) first

pub loop-done-preserved : goal.loop-done-preserved
loop-done-preserved c =
    let i = c.loop-done.invariant in
    let done = c.loop-done.done in
    let len = c.min.result in
    let least = c.min.ensures in
    let most = c.saturating_mul.ensures in
    let some = c.requires.some in
    let allowed = c.requires.allowed in
    let from : ℕ = c.args.at + done in
    let bytes : ℕ = 512 * c.args.chunk in
    let chunks = c.run_at-run.result.chunks in
    let few = i.few in
    let less : from % bytes < bytes = mod-lt from (omega arith) in
    let many : bytes ≤ chunks * bytes = some_times chunks bytes c.run_at-run.ensures.some in
    let inside : len ≤ c.args.most - done = omega arith in
    let part : from % (512 * c.args.chunk) + len ≤ chunks * (512 * c.args.chunk) = omega arith in
    record {
      few = omega arith;
      told = marked_step c.args.chunk c.args.pairs.now c.args.at done c.args.most len chunks c.run_at-run.result.place c.is_some-marked.result some few i.told c.run_at-run.ensures.run part (kinds_same _ _ (sym c.is_alike.ensures ∙ c.if-not-is_alike.false)) inside;
    }

pub returns-clause-len : goal.returns-clause-len
returns-clause-len c =
    let first = c.is_some-marked.ensures ∙ first_marked c.args.chunk c.args.pairs.now c.args.at c.run_at.result.chunks c.run_at.result.place c.run_at.ensures.some c.run_at.ensures.run in
    marked_all c.args.chunk c.args.pairs.now c.args.at c.loop-done.done c.args.most c.is_some-marked.result c.loop-done.invariant.few (let end = c.loop-done-test.false in omega arith) c.loop-done.invariant.told
    ∙ ap (λ (kind : Bool). marked_for (has_copy c.args.chunk c.args.pairs.now) kind c.args.most c.args.at) first
