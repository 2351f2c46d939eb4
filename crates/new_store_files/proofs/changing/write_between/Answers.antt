use Rattle.std.proofs.Common.{ℕ, ◌*◌, subst, sym, ◌∙◌}
use Rattle.chunk.proofs.Limits.{is_chunk-some}
use Rattle.new_store_files.specs.Changed.{AreChanged}
use Rattle.new_store_files.specs.Padding.{padded}
use Rattle.new_store_files.proofs.Changes.{store_between}
use Rattle.new_store_files.proofs.Padded.{known_is}
use Rattle.new_store_files.proofs.changing.write_between.Goals as goal

pub returns-in-Ok-write_store : goal.returns-in-Ok-write_store
returns-in-Ok-write_store g c = record {
  all = λ o a ois ais lo la.
      let chunk : ℕ = c.args.chunk in
      let end : ℕ = 512 * c.args.size in
      let theirs = known_is (512 * c.args.size) (g.O.Image.bytes c.args.origin.now) o ois lo in
      let ours = known_is (512 * c.args.size) (g.A.Image.bytes c.args.array.now) a ais la in
      let changed = c.in-Ok.ensures.all (padded o) (padded a) theirs ours in
      let (s, store, good, appends) = c.in-Ok-write_store.ensures.all (padded a) (c.in-Ok.ensures.array ∙ ours) in
      (s, store_between chunk c.args.size c.chunks_in-total.result o a s c.as_slice.result.now (is_chunk-some chunk c.requires.allowed) lo la c.chunks_in-total.ensures.all c.chunks_in-total.ensures.each (subst (AreChanged chunk (padded o) (padded a) c.chunks_in-total.result) (sym c.as_slice.ensures.value) changed) store good, appends);
}
