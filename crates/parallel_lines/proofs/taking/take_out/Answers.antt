-- It is what it was where it is not taken out.
use Rattle.std.proofs.Common.{◌≡◌, ◌∙◌, ap, arith, inl, refl, subst, sym}
use Rattle.layers.specs.declared.stack.Stack.{Stack}
use Rattle.layers.specs.Stack.{stack_layers}
use Rattle.volume.specs.Volumed.{Volumed}
use Rattle.volume_commands.specs.Recorded.{Recorded}
use Rattle.volume_commands.specs.Rested.{Rested, is_loud_in, rested_of}
use Rattle.device_list.specs.Backed.{Backed}
use Rattle.device_list.specs.Parting.{HasAll, IsParted, named_with}
use Rattle.parallel_lines.proofs.Backs.{loud_is}
use Rattle.parallel_lines.proofs.Outs.{as_it_was, idle}
use Rattle.parallel_lines.proofs.taking.take_out.Goals as goal

pub into_audit-requires : goal.into_audit-requires
into_audit-requires c = record { quiet = idle c.into_parts-parts.result.0 c.into_parts-parts.result.1.rested c.args.volume.shown (ap (λ (w : Backed). w.shown) c.into_parts-parts.ensures.named) c.requires.quiet }

pub of_parts-requires-clause-fits : goal.of_parts-requires-clause-fits
of_parts-requires-clause-fits c = inl (subst (HasAll c.into_parts-parts.result.0) (sym (ap (λ (r : Recorded Stack). r.rested) c.in-Err.ensures.err.1)) c.into_parts-parts.ensures.parted.all)

pub of_parts-requires-clause-loud : goal.of_parts-requires-clause-loud
of_parts-requires-clause-loud c sound = ap (λ (v : Rested Stack). is_loud_in stack_layers v) (ap (λ (r : Recorded Stack). r.rested) c.in-Err.ensures.err.1) ∙ c.into_parts-parts.ensures.parted.loud sound

pub returns-in-Err-clause-slot : goal.returns-in-Err-clause-slot
returns-in-Err-clause-slot c =
    (as_it_was c.into_parts-parts.result.0 c.into_parts-parts.result.1.rested c.in-Err.resting.rested c.args.volume.shown c.of_parts.result.shown (ap (λ (r : Recorded Stack). r.rested) c.in-Err.ensures.err.1) c.into_parts-parts.ensures.parted (ap (λ (w : Backed). w.shown) c.into_parts-parts.ensures.named) (λ has. ap (λ (w : Backed). w.shown) (c.of_parts.ensures.same has)), refl)

pub returns-in-Ok-clause-slot : goal.returns-in-Ok-clause-slot
returns-in-Ok-clause-slot c =
    let all : Rested Stack = c.into_parts-parts.result.1.rested in
    let is : rested_of c.in-Ok.audit.volume ≡ all = ap (λ (v : Volumed Stack). rested_of v) c.in-Ok.ensures.volume ∙ sym c.in-Ok.ensures.whole in (
      refl,
      c.in-Ok.audit,
      c.push_reserved.ensures.items,
      record {
        named = ap (λ (w : Backed). w.shown) c.into_parts-parts.ensures.named ∙ ap (λ (v : Rested Stack). named_with c.into_parts-parts.result.0 v) (sym is);
        parted = subst (IsParted c.into_parts-parts.result.0) (sym is) c.into_parts-parts.ensures.parted;
        held = c.in-Ok.ensures.idle;
        earned = (let earned = c.look_at_places.ensures.earned in omega (arith, earned));
        truth = record { lawful = c.entries.ensures.lawful; inside = c.entries.ensures.inside; gives = c.entries.ensures.replay };
        loud = λ sound. c.in-Ok.ensures.loud ∙ sym (loud_is all.events) ∙ ap (λ (v : Rested Stack). is_loud_in stack_layers v) (sym c.in-Ok.ensures.whole) ∙ c.into_parts-parts.ensures.parted.loud sound;
      },
    )
