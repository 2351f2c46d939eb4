-- One snapshot more has a file that answered, and at the end all have.
use Rattle.std.proofs.Common.{◌≡◌, ◌∙◌, map, subst, sym, true}
use Rattle.std.proofs.lemmas.List.{take_all}
use Rattle.std.proofs.lemmas.List.Elements.{All-more, All-same}
use Rattle.file_calls.specs.Kept.{are_answered}
use Rattle.file_calls.specs.Note.{call_of}
use Rattle.serve_commands.proofs.ending.are_all_answered.Goals as goal

pub loop-snap-preserved : goal.loop-snap-preserved
loop-snap-preserved c = record {
  origin = c.loop-snap.invariant.origin;
  merged = c.loop-snap.invariant.merged;
  stores = All-more (λ snap. are_answered (map call_of snap.device.file.file.noted.notes) ≡ true) c.snaps-snaps.result.now c.loop-snap.snap-index c.snap-item.result c.loop-snap-test.true c.loop-snap.invariant.stores
      (subst (λ snap. are_answered (map call_of snap.device.file.file.noted.notes) ≡ true) c.snap-item.is
      (subst (λ device. are_answered (map call_of device.file.file.noted.notes) ≡ true) c.device.ensures c.in_ok-is_answered-3.ensures.ok));
}

pub returns-clause-stores : goal.returns-clause-stores
returns-clause-stores c = All-same (λ snap. are_answered (map call_of snap.device.file.file.noted.notes) ≡ true) _ _
    (sym c.snaps-snaps.ensures ∙ sym (take_all c.loop-snap.snap-index c.snaps-snaps.result.now c.loop-snap-test.false)) c.loop-snap.invariant.stores
