-- All lines are marked.
use Rattle.std.proofs.Common.{◌≡◌, ℕ, false, length, take, List, ap, ◌∙◌, arith}
use Rattle.std.proofs.lemmas.List.{take_all}
use Rattle.std.proofs.lemmas.List.FromFn.{fill_by_all}
use Rattle.command.specs.declared.seat_line.SeatLine.{SeatLine}
use Rattle.device_list.specs.Tables.{table_of}
use Rattle.parallel_lines.specs.Running.{is_used}
use Rattle.parallel_lines.proofs.planning.used_in.Goals as goal

pub returns : goal.returns
returns c =
    let all : take c.loop-line.line-index c.args.lines.now ≡ c.args.lines.now = take_all c.loop-line.line-index c.args.lines.now (omega arith) in
    fill_by_all (λ (v : ℕ). is_used v c.args.lines.now (table_of c.args.held.now)) c.loop-line.used.items (length (table_of c.args.held.now).volumes) false (omega (arith, c.loop-line.invariant.many))
    (λ v low. c.loop-line.invariant.marked v low ∙ ap (λ (l : List SeatLine). is_used v l (table_of c.args.held.now)) all)
