use Rattle.std.proofs.Common.{List, ℕ, ◌∙◌, ◌++◌, subst}
use Rattle.std.specs.Io.KnownBytes.{Appends}
use Rattle.std.proofs.KnownBytes.{Appends-trans}
use Rattle.image_to_dmrig.specs.Loads.{disk_line, loads_below, pieces}
use Rattle.image_to_dmrig.proofs.Fronts.{front_left, front_right}
use Rattle.image_to_dmrig.proofs.putting.put_words.Goals as goal

pub returns-in-Err-clause-part : goal.returns-in-Err-clause-part
returns-in-Err-clause-part g c = λ b bis len.
    let (front, left, is, appends) = c.in-Err.ensures.part in
    (front, front_left front (disk_line c.args.name.now c.args.sectors) (loads_below c.args.name.now b (pieces c.args.sectors)) (left, is ∙ (c.as_slice.ensures.value ∙ c.in-Ok.ensures)), appends)

pub returns-clause-part : goal.returns-clause-part
returns-clause-part g c = λ b bis len.
    let (front, is, appends) = c.in-Err-put_loads.ensures.part b bis len in (
      disk_line c.args.name.now c.args.sectors ++ front,
      front_right front (disk_line c.args.name.now c.args.sectors) (loads_below c.args.name.now b (pieces c.args.sectors)) is,
      Appends-trans _ _ _ _ _ (subst (λ (xs : List ℕ). Appends (g.S.Sink.contents c.args.sink.now) (g.S.Sink.contents c.put.new.self) xs) (c.as_slice.ensures.value ∙ c.in-Ok.ensures) c.in_default-put.ensures.all) appends,
    )
