-- A store more has the next number, and its file was synced.
use Rattle.std.proofs.Common.{arith, rules, ◌≡◌, ◌∷◌, [], false, map, true}
use Rattle.std.proofs.lemmas.Grind.{common_steps}
use Rattle.std.proofs.lemmas.List.Elements.{All-push}
use Rattle.file_calls.specs.Calls.{Sync}
use Rattle.file_calls.specs.Note.{call_of}
use Rattle.serve_files.proofs.Numbers.{number_more}
use Rattle.serve_files.proofs.all_files.session_files.Goals as goal

pub loop-store-preserved : goal.loop-store-preserved
loop-store-preserved c = record {
  origin = search rules;
  number = search rules;
  stores = grind (arith, common_steps);
  numbers = rw c.in_ok-add.ensures.stores (number_more (λ store. store.number) c.loop-store.files.stores.items c.in_ok-part_of-2.field-0.device c.loop-store.invariant.numbers (grind arith));
  synced = rw c.in_ok-add.ensures.held (All-push (λ file. map call_of file.file.noted.notes ≡ Sync true false ∷ []) c.loop-store.files.held.items c.in_ok-part_of-2.field-0.held c.loop-store.invariant.synced c.in_ok-part_of-2.ensures.synced);
  held = grind (arith, common_steps);
}
