use Rattle.std.proofs.Common.{◌++◌, drop, length, ap, ◌∙◌}
use Rattle.words.proofs.Placed.{placed}
use Rattle.words.proofs.short.ShortText.put.Goals as goal

pub returns-clause-written : goal.returns-clause-written
returns-clause-written c =
    let start = c.self.inside.start in
    let same = c.copy_from_slice.ensures.after in
    placed c.args.end start c.args.room.now c.copy_from_slice.new.self c.requires.within c.requires.space (ap (λ z. length z) same ∙ c.self.told) c.self.invariant
    ∙ ap (λ z. z ++ drop c.args.end c.args.room.now) (ap (drop start) same ∙ c.self.view_is)
