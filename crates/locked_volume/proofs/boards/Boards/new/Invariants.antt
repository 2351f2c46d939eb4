-- So many boards are there, with what publishes on them.
use Rattle.std.proofs.Common.{◌≡◌, length, ◌∷◌, []}
use Rattle.thread_channels.specs.Words.{no_usage}
use Rattle.crossbeam_utils.specs.Padded.{padded_value}
use Rattle.locked_volume.specs.Boards.{Publishes}
use Rattle.locked_volume.proofs.Matched.{AreMatched}
use Rattle.locked_volume.proofs.boards.Boards.new.Given as goal

abbrev pub invariant-loop : goal.invariant-loop
invariant-loop l = record {
  many : length l.padded.items ≡ l.counter;
  wide : length l.passes.items ≡ l.counter;
  each : AreMatched (λ b p. Publishes (padded_value b) p × (p.seen ≡ no_usage ∷ [])) l.counter l.padded.items l.passes.items;
}
