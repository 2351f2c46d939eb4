use Rattle.std.proofs.Common.{◌-◌, arith, ◌++◌, List, ℕ, take, drop, replicate, take-append-drop, ap, ◌∙◌}
use Rattle.images_on_files.specs.Held.{held}
use Rattle.images_on_files.proofs.Holds.{piece, slice_length}
use Rattle.images_on_files.proofs.file_sink.FileSinkSink.put.Goals as goal

pub returns-in-Err-clause-part : goal.returns-in-Err-clause-part
returns-in-Err-clause-part g c =
    let h = held (g.C.FileCalls.history c.args.self.now.file) c.args.self.now.at in
    let b = c.args.bytes.now in (
      take c.data_ends-to.result b,
      drop c.data_ends-to.result b,
      take-append-drop c.data_ends-to.result b,
      c.write.ensures.held
          ∙ ap (λ (l : List ℕ). l ++ take (c.data_ends-to.result - c.data_begins-from.result) (drop c.data_begins-from.result b)) (c.skip.ensures.held ∙ ap (λ (l : List ℕ). l ++ replicate (c.data_begins-from.result - c.loop-done.done) 0) c.loop-done.invariant.held)
          ∙ piece h b c.loop-done.done c.data_begins-from.result c.data_ends-to.result c.data_begins-from.ensures.after c.data_ends-to.ensures.after c.data_begins-from.ensures.zeros,
    )

pub loop-done-preserved : goal.loop-done-preserved
loop-done-preserved g c =
    let h = held (g.C.FileCalls.history c.args.self.now.file) c.args.self.now.at in
    let b = c.args.bytes.now in
    record {
      at =
          (let wrote = c.write.ensures.at in
          let skipped = c.skip.ensures.at in
          let here = c.loop-done.invariant.at in
          let len = slice_length b c.data_begins-from.result c.data_ends-to.result c.data_ends-to.ensures.inside in
          let low = c.data_begins-from.ensures.after in
          let high = c.data_ends-to.ensures.after in
          omega (arith, wrote, skipped, here, len, low, high));
      inside = c.data_ends-to.ensures.inside;
      held =
          c.write.ensures.held
          ∙ ap (λ (l : List ℕ). l ++ take (c.data_ends-to.result - c.data_begins-from.result) (drop c.data_begins-from.result b)) (c.skip.ensures.held ∙ ap (λ (l : List ℕ). l ++ replicate (c.data_begins-from.result - c.loop-done.done) 0) c.loop-done.invariant.held)
          ∙ piece h b c.loop-done.done c.data_begins-from.result c.data_ends-to.result c.data_begins-from.ensures.after c.data_ends-to.ensures.after c.data_begins-from.ensures.zeros;
    }
