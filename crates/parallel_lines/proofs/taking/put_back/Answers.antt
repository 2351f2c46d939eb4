-- Its names are put back with the last audit.
use Rattle.std.proofs.Common.{◌≡◌, ◌++◌, ◌∷◌, [], ap, ◌∙◌}
use Rattle.std.specs.Option.{option_to_list}
use Rattle.parallel_lines.proofs.Slots.{back_of, put_of}
use Rattle.parallel_lines.proofs.taking.put_back.Goals as goal

pub name-requires : goal.name-requires
name-requires c =
    let last : c.args.audits.now.items ≡ c.pop.new.self.items ++ c.in-Some.audit ∷ [] = c.pop.ensures.items ∙ ap (λ r. c.pop.new.self.items ++ option_to_list r) c.in-Some.is in
    let one = back_of c.args.slot c.in-Out.parts c.requires.0 c.requires.1 c.args.audits.now.items c.pop.new.self.items c.requires.2 c.requires.3 c.in-Some.audit c.requires.4 c.in-Out.is last c.requires.5 in
    (one.0, c.requires.4, one.3)

pub returns-in-Some-clause-put : goal.returns-in-Some-clause-put
returns-in-Some-clause-put c used befores first others old back =
    let last : c.args.audits.now.items ≡ c.pop.new.self.items ++ c.in-Some.audit ∷ [] = c.pop.ensures.items ∙ ap (λ r. c.pop.new.self.items ++ option_to_list r) c.in-Some.is in
    put_of c.args.slot c.in-Out.parts used befores c.args.audits.now.items c.pop.new.self.items first others c.in-Some.audit old c.in-Out.is last back c.name.result.shown c.name.ensures

pub returns-in-Some-clause-others : goal.returns-in-Some-clause-others
returns-in-Some-clause-others c used befores first others old back =
    let last : c.args.audits.now.items ≡ c.pop.new.self.items ++ c.in-Some.audit ∷ [] = c.pop.ensures.items ∙ ap (λ r. c.pop.new.self.items ++ option_to_list r) c.in-Some.is in
    (back_of c.args.slot c.in-Out.parts used befores c.args.audits.now.items c.pop.new.self.items first others c.in-Some.audit old c.in-Out.is last back).2
