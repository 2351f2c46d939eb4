use Rattle.std.proofs.Common.{◌≡◌, ◌∙◌, ap, sym}
use Rattle.cow_image.specs.Judged.{stands_in}
use Rattle.cow_image.specs.Sorted.{old_of, new_of}
use Rattle.cow_salvage.proofs.Ends.{on_ok_two}
use Rattle.cow_salvage.proofs.Sifts.{stands_push}
use Rattle.cow_salvage.proofs.sifting.take_slot.Goals as goal

pub returns-in-None-clause-olds : goal.returns-in-None-clause-olds
returns-in-None-clause-olds c = on_ok_two c.keep.result _ _ _
    (λ more put held q. stands_push old_of c.args.sifted.now.kept.items c.args.pair q _ _ (put q) (held q) ∙ ap (λ ks. stands_in old_of ks q) (sym more))
    c.keep.ensures.kept c.keep.ensures.olds

pub returns-in-None-clause-news : goal.returns-in-None-clause-news
returns-in-None-clause-news c = on_ok_two c.keep.result _ _ _
    (λ more put held q. stands_push new_of c.args.sifted.now.kept.items c.args.pair q _ _ (put q) (held q) ∙ ap (λ ks. stands_in new_of ks q) (sym more))
    c.keep.ensures.kept c.keep.ensures.news
