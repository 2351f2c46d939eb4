use Rattle.std.proofs.Common.{List, ℕ, ◌∙◌, subst}
use Rattle.std.specs.Io.KnownBytes.{Appends}
use Rattle.cow_image.proofs.exporting.put_piece.Goals as goal

pub returns-in-Ok-clause-all : goal.returns-in-Ok-clause-all
returns-in-Ok-clause-all g c = λ o b ois bis.
    subst (λ (xs : List ℕ). Appends (g.S.Sink.contents c.args.sink.now) (g.S.Sink.contents c.put.new.self) xs) (c.in_default.ensures.shown o b ois bis) c.in-Ok.ensures.all

pub returns-in-Err-put-clause-part : goal.returns-in-Err-put-clause-part
returns-in-Err-put-clause-part g c = λ o b ois bis.
    let (front, rest, is, appends) = c.in-Err-put.ensures.part in
    (front, (rest, is ∙ c.in_default.ensures.shown o b ois bis), appends)
