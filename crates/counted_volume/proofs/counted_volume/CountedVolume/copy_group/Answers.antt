-- Where the volume copied them, each of their events was done in its turn; else nothing changed.
use Rattle.std.proofs.Common.{◌∙◌, inl, inr, sym, subst}
use Rattle.std.proofs.lemmas.Bool.{cases_Bool}
use Rattle.volume.specs.Volumed.{Volumed}
use Rattle.counted_volume.specs.Following.{AreMerged}
use Rattle.counted_volume.specs.Places.{HasPlaces, counted_with}
use Rattle.counted_volume.proofs.MergeFollows.{copied_have, copied_merged, copies_group, none_merged}
use Rattle.counted_volume.proofs.counted_volume.CountedVolume.copy_group.Goals as goal

pub invariant_of-self : goal.invariant_of-self
invariant_of-self g c =
    elim (cases_Bool c.copy_group.result) [
      | inl copied ↦
          (let found = copies_group g.B.Block.copies_runs g.B.Block.layers c.self.inside.volume (sym c.copy_group.ensures.answer ∙ copied) in
          copied_have g.B.Block.may_hold g.B.Block.contents g.B.Block.layers g.B.Block.size g.B.Block.fault_count g.B.Block.done_count found.2.waiting c.self.inside.volume c.copy_group.new.self c.self.inside.places (c.copy_group.ensures.copied copied found.0 found.1 found.2 found.3) c.self.invariant)
      | inr left ↦ subst (λ (x : Volumed g.row.B.Denot). HasPlaces x c.self.inside.places) (sym (c.copy_group.ensures.same left)) c.self.invariant
    ]

pub returns : goal.returns
returns g c =
    elim (cases_Bool c.copy_group.result) [
      | inl copied ↦
          (let found = copies_group g.B.Block.copies_runs g.B.Block.layers c.self.inside.volume (sym c.copy_group.ensures.answer ∙ copied) in
          rw (← c.self.view_is) (copied_merged g.B.Block.may_hold g.B.Block.contents g.B.Block.layers g.B.Block.size g.B.Block.fault_count g.B.Block.done_count found.2.waiting c.self.inside.volume c.copy_group.new.self c.self.inside.places (c.copy_group.ensures.copied copied found.0 found.1 found.2 found.3)))
      | inr left ↦
          rw (← c.self.view_is) (subst (λ (x : Volumed g.row.B.Denot). AreMerged g.B.Block.may_hold g.B.Block.contents g.B.Block.layers g.B.Block.fault_count g.B.Block.size (counted_with c.self.inside.volume c.self.inside.places) (counted_with x c.self.inside.places)) (sym (c.copy_group.ensures.same left)) (none_merged (counted_with c.self.inside.volume c.self.inside.places)))
    ]
