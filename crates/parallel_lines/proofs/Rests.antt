-- What is left to do in a volume is done while no request is in flight.
use Rattle.std.proofs.Common.{◌≡◌, List, [], ◌++◌, map, refl, sym, ap, ◌∙◌, subst}
use Rattle.std.specs.Prelude.{Err, None, Ok, OnOk, Option, Result, Some}
use Rattle.std.proofs.lemmas.List.{append-nil, append_assoc, map-append}
use Rattle.layers.specs.declared.stack.Stack.{Stack}
use Rattle.layers.specs.Stack.{stack_layers, stack_size}
use Rattle.plain_machine.specs.declared.event.Outcome.{Outcome}
use Rattle.plain_machine.specs.declared.event.Outcome.TheVariants.{Done, Fault, Reply as Replied}
use Rattle.volume.specs.Stepping.{KeepsAll}
use Rattle.volume.specs.Volumed.{is_loud_in_all}
use Rattle.audited_volume.specs.declared.entry.Entry.{Entry}
use Rattle.audited_volume.specs.declared.entry.Entry.TheVariants.{Spoiled}
use Rattle.audited_volume.specs.declared.entry.Receipt.{Receipt}
use Rattle.audited_volume.specs.Books.{AuditShape}
use Rattle.audited_volume.specs.PlacesTaken.{IsApplied, IsNoted, IsSilent, KeepsBase, outcome_in}
use Rattle.volume_commands.specs.Rested.{rested_of}
use Rattle.volume_commands.proofs.Seen.{devices_kept, devices_more, devices_none}
use Rattle.parallel_lines.specs.Taking.{IsRested}

-- nothing is done yet
pub none_rested : (audit : AuditShape Stack) → audit.held ≡ [] → IsRested audit audit
none_rested audit none = record {
  held = none;
  base = record { base = refl; taken = refl; loud = refl; folded = refl };
  spoils = record { which = []; entries = sym (append-nil audit.entries) };
  kept = devices_none stack_size stack_layers (rested_of audit.volume);
}

-- an event replies to nobody
silent : (outcome : Outcome) (receipt : Option Receipt) (old new : AuditShape Stack) → old.held ≡ [] → IsNoted 1 outcome receipt old new → IsSilent old new
silent (Replied number reply) (Some receipt) old new none noted =
    absurd (let asked = noted.asked in let no : ⊥ = cc in no)
silent (Replied number reply) None old new none noted = absurd noted
silent Done None old new none noted = noted
silent Done (Some receipt) old new none noted = absurd noted
silent Fault None old new none noted = noted
silent Fault (Some receipt) old new none noted = absurd noted

-- one event more
pub more_rested : (first old new : AuditShape Stack) (outcome : Outcome) (receipt : Option Receipt) → IsRested first old → IsNoted 1 outcome receipt old new → KeepsBase old new → KeepsAll stack_size old.volume new.volume → is_loud_in_all stack_layers new.volume ≡ is_loud_in_all stack_layers old.volume → IsRested first new
more_rested first old new outcome receipt so noted base kept loud =
    let quiet = silent outcome receipt old new so.held noted in
    record {
      held = quiet.held ∙ so.held;
      base = record { base = base.base ∙ so.base.base; taken = base.taken ∙ so.base.taken; loud = base.loud ∙ so.base.loud; folded = base.folded ∙ so.base.folded };
      spoils = record {
        which = so.spoils.which ++ quiet.spoils.which;
        entries = quiet.spoils.entries ∙ ap (λ (l : List Entry). l ++ map Spoiled quiet.spoils.which) so.spoils.entries
            ∙ append_assoc first.entries (map Spoiled so.spoils.which) (map Spoiled quiet.spoils.which)
            ∙ ap (λ (l : List Entry). first.entries ++ l) (sym (map-append Spoiled so.spoils.which quiet.spoils.which));
      };
      kept = devices_more stack_size stack_layers (rested_of first.volume) (rested_of old.volume) (rested_of new.volume) so.kept (devices_kept stack_size stack_layers old.volume new.volume kept loud);
    }

-- or none, where it was not due
pub still_rested : {E : Type 0} (first old new : AuditShape Stack) (r : Result (Outcome × Option Receipt) E) → IsRested first old → IsApplied 1 r old new → OnOk (outcome_in r) (KeepsAll stack_size old.volume new.volume) → is_loud_in_all stack_layers new.volume ≡ is_loud_in_all stack_layers old.volume → IsRested first new
still_rested first old new (Ok x) so applied kept loud = more_rested first old new x.0 x.1 so applied.noted applied.base kept loud
still_rested first old new (Err e) so applied kept loud = subst (IsRested first) (sym applied.err) so
