use Rattle.std.proofs.Common.{rules, ◌≡◌, ◌∙◌, ◌+◌, ◌-◌, ◌<◌, ap, refl, sym, length, take, drop, Some}
use Rattle.std.specs.Prelude.{position}
use Rattle.std.specs.List.{after_first}
use Rattle.words.specs.Lines.{is_end}
use Rattle.words.proofs.LineParts.{after_some}
use Rattle.words.proofs.ahead.Ahead.lend_line.Goals as goal

pub returns-in-Some-clause-rest : goal.returns-in-Some-clause-rest
returns-in-Some-clause-rest c = λ _.
    let place : position is_end (take (c.self.inside.to - c.self.inside.from) (drop c.self.inside.from c.self.inside.bytes.items)) ≡ Some c.in-Some.end = search rules in
    let within : c.in-Some.end < length (take (c.self.inside.to - c.self.inside.from) (drop c.self.inside.from c.self.inside.bytes.items)) = search rules in
    let same : c.args.self.now.rest ≡ take (c.self.inside.to - c.self.inside.from) (drop c.self.inside.from c.self.inside.bytes.items) = search rules in
    after_some c.self.inside.bytes.items c.self.inside.from c.self.inside.to c.in-Some.end (c.self.inside.from + (c.in-Some.end + 1)) refl within place ∙ ap (after_first is_end) (sym same)
