-- A volume that is not closed, as the volume with names has it.
use Rattle.std.proofs.Common.{◌≡◌, ◌⊎◌, List, [], length, true, false, sym, ap, ◌∙◌, inl, inr}
use Rattle.std.specs.Prelude.{◌≢◌, Option, None, is_some}
use Rattle.std.proofs.lemmas.List.{nil_from_length}
use Rattle.sector.specs.declared.refusal.Refusal.{Refusal}
use Rattle.sector.specs.declared.refusal.Refusal.TheVariants.{Busy, NotQuiet}
use Rattle.layers.specs.declared.stack.Stack.{Stack}
use Rattle.volume.specs.Leaving.{is_quiet_of}
use Rattle.volume_commands.specs.Rested.{Rested}
use Rattle.command_semantics.specs.State.{Names}
use Rattle.device_list.specs.Held.{merging_with}
use Rattle.device_list.proofs.Merges.{begun_too, merge_by, no_names}

pub closed_not : (names : List Names) (merging : Option Names) (v : Rested Stack) (e : Refusal) → length names ≡ length v.snaps → is_some merging ≡ is_some v.events.merge
    → ((e ≡ Busy) × ((v.snaps ≢ []) ⊎ (is_some v.events.merge ≡ true))) ⊎ ((e ≡ NotQuiet) × (v.snaps ≡ []) × (v.events.merge ≡ None) × (is_quiet_of v.events ≡ false))
    → ((e ≡ Busy) × ((names ≢ []) ⊎ (is_some (merging_with merging v) ≡ true))) ⊎ ((e ≡ NotQuiet) × (names ≡ []) × (merging_with merging v ≡ None) × (is_quiet_of v.events ≡ false))
closed_not names merging v e many begun (inl busy) = inl (
  busy.0,
  elim busy.1 [
    | inl some ↦ inl (λ none. some (nil_from_length v.snaps (sym many ∙ ap length none)))
    | inr one ↦ inr (begun_too merging v begun ∙ begun ∙ one)
  ],
)
closed_not names merging v e many begun (inr loud) = inr (loud.0, nil_from_length names (many ∙ ap length loud.1), no_names merging v (ap merge_by loud.2), loud.3)
