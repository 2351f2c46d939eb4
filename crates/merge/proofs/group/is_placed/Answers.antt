use Rattle.std.proofs.Common.{◌≡◌, inl, inr, ◌-◌, arith, sym, ◌∙◌, true, false, nat_lt, leb}
use Rattle.std.proofs.lemmas.Bool.{cases_lt}
use Rattle.merge.specs.Lists.{total}
use Rattle.merge.proofs.Groups.{place_in, place_out}
use Rattle.merge.proofs.group.is_placed.Goals as goal

pub returns-then-group-place : goal.returns-then-group-place
returns-then-group-place c =
    let first = c.args.group.first in
    let n = c.total_of.result in
    let le = c.if-group-place.true in
    rw (← c.total_of.ensures) (elim (cases_lt (c.args.place - first.new) n) [
      | inl lt ↦ (let all = place_in first 0 n c.args.place (omega arith) (omega arith) in let here : nat_lt (c.args.place - first.new) n ≡ true = grind arith in here ∙ sym all)
      | inr ge ↦ (let none = place_out first 0 n c.args.place (inr (omega arith)) in let here : nat_lt (c.args.place - first.new) n ≡ false = grind arith in here ∙ sym none)
    ])

pub returns-else-group-place : goal.returns-else-group-place
returns-else-group-place c =
    let first = c.args.group.first in
    let out = c.if-group-place.false in
    let none = place_out first 0 (total c.args.group) c.args.place (inl (omega arith)) in
    let here : leb first.new c.args.place ≡ false = grind arith in
    here ∙ sym none
