-- A volume settles to one thing alone, however its events are chosen.
use Rattle.std.proofs.Common.{◌≡◌, ℕ, zero, suc, ◌+◌, Option, Some, None, arith, refl, ap, ◌∙◌, sym}
use Rattle.plain_machine.specs.declared.event.Event.{Event}
use Rattle.whole_commands.specs.Merges.{Merged, Merging}
use Rattle.event_machine.specs.Held.{Moving}
use Rattle.event_machine.specs.Due.{due}
use Rattle.event_machine.specs.MergeDue.{due_all}
use Rattle.event_machine.specs.MergeSettles.{SettlesToMerged, SettlesToReplied}
use Rattle.event_machine.specs.MergeStepping.{stepped_all}
use Rattle.event_machine.specs.Settles.{settle_by, settle, settle_all}
use Rattle.event_machine.specs.Stepping.{for_some, stepped}
use Rattle.whole_commands.specs.Pieces.{Answered}

module _ (choose : Moving → Option Event) (step : Event → Moving → Moving) where
  -- where nothing is due, no event changes anything
  by_stays : (m : ℕ) (v : Moving) → choose v ≡ None → settle_by choose step m v ≡ v
  by_stays zero v quiet = refl
  by_stays (suc m) v quiet = ap (λ o. for_some o (λ e. settle_by choose step m (step e v)) v) quiet

  more_by : (n m : ℕ) (v : Moving) (o : Option Event) → choose v ≡ o → ((w : Moving) → settle_by choose step (n + m) w ≡ settle_by choose step m (settle_by choose step n w)) →
      for_some (choose v) (λ e. settle_by choose step (n + m) (step e v)) v ≡ settle_by choose step m (for_some (choose v) (λ e. settle_by choose step n (step e v)) v)
  more_by n m v None is more =
      ap (λ o. for_some o (λ e. settle_by choose step (n + m) (step e v)) v) is ∙ sym (by_stays m v is) ∙ ap (λ o. settle_by choose step m (for_some o (λ e. settle_by choose step n (step e v)) v)) (sym is)
  more_by n m v (Some event) is more =
      ap (λ o. for_some o (λ e. settle_by choose step (n + m) (step e v)) v) is ∙ more (step event v) ∙ ap (λ o. settle_by choose step m (for_some o (λ e. settle_by choose step n (step e v)) v)) (sym is)

  by_more : (n m : ℕ) (v : Moving) → settle_by choose step (n + m) v ≡ settle_by choose step m (settle_by choose step n v)
  by_more zero m v = ap (λ k. settle_by choose step k v) (omega arith)
  by_more (suc n) m v =
      let turn : suc n + m ≡ suc (n + m) = omega arith in
      ap (λ k. settle_by choose step k v) turn ∙ more_by n m v (choose v) refl (by_more n m)

  pub by_one : (fuel enough : ℕ) (u w last : Moving) → ((more : ℕ) → settle_by choose step (enough + more) u ≡ last) → settle_by choose step fuel u ≡ w → choose w ≡ None → w ≡ last
  by_one fuel enough u w last ends is quiet =
      let turn : fuel + enough ≡ enough + fuel = omega arith in
      sym (by_stays enough w quiet) ∙ ap (settle_by choose step enough) (sym is) ∙ sym (by_more fuel enough u) ∙ ap (λ k. settle_by choose step k u) turn ∙ ends fuel

-- with a merge
pub merged_one : (sectors fuel : ℕ) (u w : Moving) (answer : Merged) (to : SettlesToMerged sectors u answer) → settle_all fuel u ≡ w → due_all w ≡ None → w ≡ to.last
merged_one sectors fuel u w answer to is quiet = by_one due_all stepped_all fuel to.fuel u w to.last to.ends is quiet

-- beside one
pub replied_one : (sectors fuel : ℕ) (u w : Moving) (answer : Answered Merging) (to : SettlesToReplied sectors u answer) → settle fuel u ≡ w → due w ≡ None → w ≡ to.last
replied_one sectors fuel u w answer to is quiet = by_one due stepped fuel to.fuel u w to.last to.ends is quiet
