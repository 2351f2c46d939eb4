-- It fits the names that it had, and lines were run at it.
use Rattle.std.proofs.Common.{◌≡◌, sym, subst, ◌∙◌, ap}
use Rattle.layers.specs.declared.stack.Stack.{Stack}
use Rattle.layers.specs.Stack.{stack_layers, stack_size}
use Rattle.volume_commands.specs.Kept.{KeepsDevices}
use Rattle.volume_commands.specs.Rested.{Rested, rested_of}
use Rattle.volume.specs.Leaving.{is_quiet_of}
use Rattle.device_list.specs.Backed.{Backed}
use Rattle.device_list.specs.Parting.{HasAll, HasBegun, named_with, place_begun, with_begun, with_requests}
use Rattle.parallel_lines.proofs.Backs.{fits, is_run, loud, stands_now}
use Rattle.parallel_lines.proofs.Plays.{is_made}
use Rattle.parallel_lines.proofs.taking.name.Goals as goal

pub rest-requires : goal.rest-requires
rest-requires c = record { none = c.requires.2.left.held }

pub of_parts-requires-clause-fits : goal.of_parts-requires-clause-fits
of_parts-requires-clause-fits c =
    fits c.requires.0 c.args.parts c.args.audit c.requires.1 c.of_audit.result.rested c.requires.2 (subst (λ (v : Rested Stack). KeepsDevices stack_layers stack_size (rested_of c.args.audit.volume) v) (sym c.of_audit.ensures.rested) c.rest.ensures.rested.kept)

pub of_parts-requires-clause-loud : goal.of_parts-requires-clause-loud
of_parts-requires-clause-loud c =
    loud c.requires.0 c.args.parts c.args.audit c.requires.1 c.of_audit.result.rested c.requires.2 (subst (λ (v : Rested Stack). KeepsDevices stack_layers stack_size (rested_of c.args.audit.volume) v) (sym c.of_audit.ensures.rested) c.rest.ensures.rested.kept)

pub returns : goal.returns
returns c before old back =
    let p = c.args.parts in
    let result = c.of_parts.result.shown in
    let rested = c.rest.new.audit in
    let is = c.of_audit.ensures.rested in
    let kept = c.rest.ensures.rested.kept in
    let all = subst (λ (v : Rested Stack). HasAll p v → result ≡ named_with (with_requests v.requests p) v) is (λ has. ap (λ (w : Backed). w.shown) (c.of_parts.ensures.same has)) in
    let begun = subst (λ (v : Rested Stack). HasBegun p v → result ≡ named_with (with_requests v.requests (with_begun (place_begun v) p)) v) is (λ has. ap (λ (w : Backed). w.shown) (c.of_parts.ensures.begun has)) in
    is_made before p c.args.audit rested old result back c.rest.ensures.rested (record { lawful = c.entries.ensures.lawful; inside = c.entries.ensures.inside; gives = c.entries.ensures.replay })
    (stands_now before p c.args.audit old rested.volume result back kept all begun)
    (is_run before p c.args.audit old (rested_of rested.volume) result back kept c.rest.ensures.quiet c.of_parts.ensures.sound (c.of_parts.ensures.quiet ∙ ap (λ (v : Rested Stack). is_quiet_of v.events) is) all begun)
