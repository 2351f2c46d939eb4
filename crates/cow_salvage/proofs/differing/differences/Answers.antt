use Rattle.std.proofs.Common.{◌≡◌, ℕ, ◌*◌, List, sym, subst, ap, ◌∙◌}
use Rattle.cow_format.specs.Picture.{picture}
use Rattle.cow_image.specs.Shown.{shown}
use Rattle.cow_image.proofs.Exports.{picture_is}
use Rattle.sector.specs.declared.pair.Pair.{Pair}
use Rattle.cow_salvage.specs.Differences.{AreDifferences, Differs, IsSame}
use Rattle.cow_salvage.proofs.Adding.{none_yet}
use Rattle.cow_salvage.proofs.differing.differences.Goals as goal

pub returns-in-Ok-compare_all : goal.returns-in-Ok-compare_all
returns-in-Ok-compare_all g c = record {
  all = λ o b ois bis whole is.
      let a : List ℕ = shown c.args.map.now.chunk o b c.as_slice-pairs.result.now 0 (512 * c.args.size) in
      let same : a ≡ picture c.args.map.now.chunk o b = ap (λ (ps : List Pair). shown c.args.map.now.chunk o b ps 0 (512 * c.args.size)) c.as_slice-pairs.ensures.value ∙ picture_is c.args.size (512 * c.args.size) o b c.args.map.now whole is in
      subst (λ (x : List ℕ). AreDifferences x o c.args.size c.compare_all.new.spans.items) same
      (c.in-Ok-compare_all.ensures.all o b ois bis whole (subst (AreDifferences a o 0) (sym c.new-spans.ensures.items) (none_yet (Differs a o) (IsSame a o))));
}
