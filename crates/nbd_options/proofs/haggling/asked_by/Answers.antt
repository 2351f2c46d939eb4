use Rattle.std.proofs.Common.{◌≡◌, ◌∙◌, ap, sym, refl, Bool, true, false, length}
use Rattle.std.specs.Prelude.{◌==◌, if◌then◌else◌}
use Rattle.nbd_options.proofs.Queries.{asked_short, asked_cut, asked_next, asked_end}
use Rattle.nbd_options.proofs.haggling.asked_by.Goals as goal

pub returns-then-rest-lt4 : goal.returns-then-rest-lt4
returns-then-rest-lt4 c = asked_short c.args.context c.args.chooses c.loop-left.found c.loop-left.left c.loop-left.rest.now c.loop-left-test.true c.if-rest-lt4.true ∙ c.loop-left.invariant

pub returns-then-rest-len : goal.returns-then-rest-len
returns-then-rest-len c = asked_cut c.args.context c.args.chooses c.loop-left.found c.loop-left.left c.u32_at-len.result c.loop-left.rest.now c.loop-left-test.true c.if-rest-lt4.false c.if-rest-len.true c.u32_at-len.ensures ∙ c.loop-left.invariant

pub loop-left-preserved : goal.loop-left-preserved
loop-left-preserved c = asked_next c.args.context c.args.chooses c.loop-left.found c.once-found.result c.loop-left.left c.u32_at-len.result c.loop-left.rest.now c.loop-left-test.true c.if-rest-lt4.false c.if-rest-len.false c.u32_at-len.ensures (c.once-found.ensures ∙ ap (λ (t : Bool). if t then true else c.loop-left.found) c.is_fitting.ensures) ∙ c.loop-left.invariant

pub returns-then-not-is_empty : goal.returns-then-not-is_empty
returns-then-not-is_empty c =
    let is : (length c.loop-left.rest.now == 0) ≡ false = sym c.is_empty.ensures ∙ c.if-not-is_empty.true in
    sym (asked_end c.args.context c.args.chooses c.loop-left.found c.loop-left.left c.loop-left.rest.now c.loop-left-test.false ∙ rw is refl) ∙ c.loop-left.invariant

pub returns : goal.returns
returns c =
    let is : (length c.loop-left.rest.now == 0) ≡ true = sym c.is_empty.ensures ∙ c.if-not-is_empty.false in
    sym (asked_end c.args.context c.args.chooses c.loop-left.found c.loop-left.left c.loop-left.rest.now c.loop-left-test.false ∙ rw is refl) ∙ c.loop-left.invariant
