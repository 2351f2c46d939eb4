-- Nothing was published before.
use Rattle.std.proofs.Common.{◌∷◌, ◌++◌, [], ap, ◌∙◌, subst}
use Rattle.locked_volume.specs.Boards.{AreFirstTold}
use Rattle.locked_volume.specs.Usages.{usage_at}
use Rattle.locked_volume.proofs.opened_volume.OpenedVolume.into_post.Goals as goal

pub returns-clause-told : goal.returns-clause-told
returns-clause-told g c =
    subst (λ v. AreFirstTold v c.publish_all.new.publishers) c.volume.ensures
    (λ k d low. c.publish_all.ensures.once k d low ∙ ap (λ l. l ++ usage_at k c.volume.result.now ∷ []) (c.self.invariant.3 k d low))
