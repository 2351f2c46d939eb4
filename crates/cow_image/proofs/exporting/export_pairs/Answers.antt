use Rattle.std.proofs.Common.{[], ◌*◌, refl, ◌∙◌}
use Rattle.std.proofs.KnownBytes.{Appends-nil}
use Rattle.cow_image.specs.Shown.{shown}
use Rattle.cow_image.proofs.exporting.export_pairs.Goals as goal

pub returns-in_default-clause-part : goal.returns-in_default-clause-part
returns-in_default-clause-part g c = λ o b ois bis. ([], (shown c.args.chunk o b c.args.pairs.now 0 (512 * c.args.size), refl), Appends-nil _)

pub returns-in-Ok-write_all-clause-all : goal.returns-in-Ok-write_all-clause-all
returns-in-Ok-write_all-clause-all g c = λ o b ois bis. c.in-Ok-write_all.ensures.all o b (c.in-Ok-new.ensures ∙ ois) (c.in-Ok-new-2.ensures ∙ bis)

pub returns-clause-part : goal.returns-clause-part
returns-clause-part g c = λ o b ois bis. c.in-Err.ensures.part o b (c.in-Ok-new.ensures ∙ ois) (c.in-Ok-new-2.ensures ∙ bis)
