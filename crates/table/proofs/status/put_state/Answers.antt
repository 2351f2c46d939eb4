use Rattle.std.proofs.Common.{◌≡◌, ◌∷◌, ◌++◌, length, sym, ap, ◌∙◌, rules}
use Rattle.std.specs.Prelude.{codes, decimal}
use Rattle.table.specs.Lines.{state_text}
use Rattle.table.proofs.Digits.{end_put, used_put}
use Rattle.table.proofs.status.put_state.Goals as goal

pub returns-in-Invalid-clause-written : goal.returns-in-Invalid-clause-written
returns-in-Invalid-clause-written c =
    let long : length c.args.room.now ≡ 100 = search rules in
    end_put c.args.room.now _ (codes "Invalid") long c.put.ensures.written ∙ ap state_text (sym c.in-Invalid.is)

pub returns-in-Failed-clause-written : goal.returns-in-Failed-clause-written
returns-in-Failed-clause-written c =
    let long : length c.args.room.now ≡ 100 = search rules in
    end_put c.args.room.now _ (codes "Merge failed") long c.put-in-Failed.ensures.written ∙ ap state_text (sym c.in-Failed.is)

pub returns-in-Overflow-clause-written : goal.returns-in-Overflow-clause-written
returns-in-Overflow-clause-written c =
    let long : length c.args.room.now ≡ 100 = search rules in
    end_put c.args.room.now _ (codes "Overflow") long c.put-in-Overflow.ensures.written ∙ ap state_text (sym c.in-Overflow.is)

pub returns-in-Used-clause-written : goal.returns-in-Used-clause-written
returns-in-Used-clause-written c =
    let long : length c.args.room.now ≡ 100 = search rules in
    let last = end_put c.args.room.now _ (decimal c.in-Used.metadata) long c.put_number-end.ensures.written in
    c.put_number.ensures.written
    ∙ ap (λ t. decimal c.in-Used.allocated ++ t) (c.put-end-in-Used.ensures.written
    ∙ ap (λ t. 47 ∷ t) (c.put_number-end-in-Used.ensures.written
    ∙ ap (λ t. decimal c.in-Used.total ++ t) (c.put-end.ensures.written ∙ ap (λ t. 32 ∷ t) last)))
    ∙ used_put (decimal c.in-Used.allocated) (decimal c.in-Used.total) (decimal c.in-Used.metadata) ∙ ap state_text (sym c.in-Used.is)
