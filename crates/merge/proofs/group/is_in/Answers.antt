use Rattle.std.proofs.Common.{◌≡◌, inl, inr, ◌-◌, arith, sym, ◌∙◌, true, false, nat_lt, leb}
use Rattle.std.proofs.lemmas.Bool.{cases_lt}
use Rattle.merge.specs.Lists.{total}
use Rattle.merge.proofs.Groups.{any_in, any_out}
use Rattle.merge.proofs.group.is_in.Goals as goal

pub returns-then-group-chunk : goal.returns-then-group-chunk
returns-then-group-chunk c =
    let first = c.args.group.first in
    let n = c.total_of.result in
    let le = c.if-group-chunk.true in
    rw (← c.total_of.ensures) (elim (cases_lt (c.args.chunk - first.old) n) [
      | inl lt ↦ (let all = any_in first 0 n c.args.chunk (omega arith) (omega arith) in let here : nat_lt (c.args.chunk - first.old) n ≡ true = grind arith in here ∙ sym all)
      | inr ge ↦ (let none = any_out first 0 n c.args.chunk (inr (omega arith)) in let here : nat_lt (c.args.chunk - first.old) n ≡ false = grind arith in here ∙ sym none)
    ])

pub returns-else-group-chunk : goal.returns-else-group-chunk
returns-else-group-chunk c =
    let first = c.args.group.first in
    let out = c.if-group-chunk.false in
    let none = any_out first 0 (total c.args.group) c.args.chunk (inl (omega arith)) in
    let here : leb first.old c.args.chunk ≡ false = grind arith in
    here ∙ sym none
