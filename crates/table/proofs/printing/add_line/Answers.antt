use Rattle.table.specs.Printed.{target_words}
use Rattle.table.proofs.Added.{line_added, line_failed}
use Rattle.table.proofs.printing.add_line.Goals as goal

pub returns-in_err-add_number : goal.returns-in_err-add_number
returns-in_err-add_number c =
    line_failed c.from_residual-in_err-add_number.result tt c.in_err-add_number.field-0.0 c.args.out.now c.add.new.out c.add_number.new.out c.args.line.now.sectors
    (target_words c.args.line.now.target) c.from_residual-in_err-add_number.ensures.0 c.in_ok-add.ensures c.in_err-add_number.ensures

pub returns : goal.returns
returns c =
    line_added c.add_target.result tt tt c.args.out.now c.add.new.out c.add_number.new.out c.add_target.new.out c.args.line.now.sectors
    (target_words c.args.line.now.target) c.in_ok-add.ensures c.in_ok-add_number.ensures c.add_target.ensures
