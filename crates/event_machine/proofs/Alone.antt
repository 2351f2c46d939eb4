-- Without a merge the machine is that of snapshots and requests; and a publication starts nothing for a merge that has no
-- pair to copy.
use Rattle.std.proofs.Common.{◌≡◌, ℕ, Option, Some, None, refl, ap, ◌∙◌, sym}
use Rattle.std.specs.Prelude.{◌==◌}
use Rattle.plain_machine.specs.declared.event.Event.{Event}
use Rattle.plain_machine.specs.declared.event.Event.TheVariants.{Issue, CopyRead, CopyWrite, ZeroNext, WriteArea, Publish, WriteInvalid, FlushStore, MergeGroup, MergeAreaRead, MergeRead, MergeWrite, MergeFlush, MergeCommit, MergeRelease}
use Rattle.volume_laws.specs.MergeDue.{due_or}
use Rattle.whole_commands.specs.Devices.{sectors_of}
use Rattle.event_machine.specs.Held.{SnapHeld, MergeHeld, Moving}
use Rattle.event_machine.specs.Due.{due}
use Rattle.event_machine.specs.MergeDue.{next_of, merge_due, due_all}
use Rattle.event_machine.specs.Stepping.{for_some, first_that, publish, publishes, stepped}
use Rattle.event_machine.specs.MergeStepping.{start_next, start_waiting, stepped_all}

due_none : (o : Option Event) → due_or o None ≡ o
due_none None = refl
due_none (Some event) = refl

pub due_alone : (v : Moving) → v.merge ≡ None → due_all v ≡ due v
due_alone v alone = ap (λ m. due_or (due v) (merge_due (sectors_of v.origin) v.snaps v.requests m)) alone ∙ due_none (due v)

nothing : (v : Moving) (f : MergeHeld → Moving) → v.merge ≡ None → for_some v.merge f v ≡ v
nothing v f alone = ap (λ m. for_some m f v) alone

-- where there is no merge, or none of its pairs comes next
pub start_alone : (v : Moving) → v.merge ≡ None → start_waiting v ≡ v
start_alone v alone = nothing v _ alone

pub start_none : (v : Moving) (m : MergeHeld) → v.merge ≡ Some m → next_of m ≡ None → start_waiting v ≡ v
start_none v m is none = ap (λ o. for_some o (λ (x : MergeHeld). start_next x.merge.chunk (next_of x) v) v) is ∙ ap (λ o. start_next m.merge.chunk o v) none

module _ (n : ℕ) (v : Moving) where
  abbrev published : Option SnapHeld → Moving
  published o = for_some o (λ h. publish (publishes v.requests n) (λ m. m.number == n) h v) v

  published_merge : (o : Option SnapHeld) → (published o).merge ≡ v.merge
  published_merge None = refl
  published_merge (Some h) = refl

  -- a publication leaves the merge as it is
  pub publish_merge : (stepped (Publish n) v).merge ≡ v.merge
  publish_merge = published_merge (first_that (publishes v.requests n) v.snaps)

  -- and starts what the merge waits for, where the mark is due
  pub publish_found : (h : SnapHeld) → first_that (publishes v.requests n) v.snaps ≡ Some h → stepped_all (Publish n) v ≡ start_waiting (stepped (Publish n) v)
  publish_found h is = ap (λ x. for_some x (λ h. start_waiting (stepped (Publish n) v)) v) is

  -- where nothing is started after it, that is all
  pub publish_alone : start_waiting (stepped (Publish n) v) ≡ stepped (Publish n) v → stepped_all (Publish n) v ≡ stepped (Publish n) v
  publish_alone same = at (first_that (publishes v.requests n) v.snaps) refl
    where
      at : (o : Option SnapHeld) → first_that (publishes v.requests n) v.snaps ≡ o → stepped_all (Publish n) v ≡ stepped (Publish n) v
      at None is = ap (λ x. for_some x (λ h. start_waiting (stepped (Publish n) v)) v) is ∙ sym (ap published is)
      at (Some h) is = publish_found h is ∙ same

pub stepped_alone : (event : Event) (v : Moving) → v.merge ≡ None → stepped_all event v ≡ stepped event v
stepped_alone MergeGroup v alone = nothing v _ alone
stepped_alone MergeAreaRead v alone = nothing v _ alone
stepped_alone MergeRead v alone = nothing v _ alone
stepped_alone MergeWrite v alone = nothing v _ alone
stepped_alone MergeFlush v alone = nothing v _ alone
stepped_alone MergeCommit v alone = nothing v _ alone
stepped_alone MergeRelease v alone = nothing v _ alone
stepped_alone (Issue n) v alone = refl
stepped_alone (CopyRead n) v alone = refl
stepped_alone (CopyWrite n) v alone = refl
stepped_alone (ZeroNext n) v alone = refl
stepped_alone (WriteArea n) v alone = refl
stepped_alone (Publish n) v alone = publish_alone n v (start_alone (stepped (Publish n) v) (publish_merge n v ∙ alone))
stepped_alone (WriteInvalid n) v alone = refl
stepped_alone (FlushStore n) v alone = refl
