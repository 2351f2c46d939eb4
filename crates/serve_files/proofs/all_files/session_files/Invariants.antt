-- The devices and the files so far are those of the origin and of the stores so far.
use Rattle.std.proofs.Common.{◌≡◌, ◌∷◌, ◌+◌, ◌<◌, ℕ, [], false, length, map, slice_index_or, true}
use Rattle.std.specs.List.{All}
use Rattle.file_calls.specs.Calls.{Sync}
use Rattle.file_calls.specs.Note.{call_of}
use Rattle.serve_files.proofs.all_files.session_files.Given as goal

abbrev pub invariant-loop-store : goal.invariant-loop-store
invariant-loop-store l = record {
  origin : l.files.origin.file.name.now ≡ l.origin;
  number : l.files.origin.number ≡ 0;
  stores : map (λ store. store.file.name.now) l.files.stores.items ≡ map (λ store. store.name.now) l.yielded;
  numbers : (k : ℕ) (store : _) → k < length l.files.stores.items → (slice_index_or l.files.stores.items k store).number ≡ 1 + k;
  synced : All (λ file. map call_of file.file.noted.notes ≡ Sync true false ∷ []) l.files.held.items;
  held : map (λ file. file.name.now) l.files.held.items ≡ l.origin ∷ map (λ store. store.name.now) l.yielded;
}
