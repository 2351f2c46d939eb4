-- The stores so far are those of the names so far, and none is the origin's file or another's.
use Rattle.std.proofs.Common.{◌≡◌, ◌≢◌, map, take}
use Rattle.std.specs.List.{All, AllPairs}
use Rattle.serve_files.specs.Names.{text_of}
use Rattle.serve_files.proofs.all_files.stores_opened.Given as goal

abbrev pub invariant-loop-cow : goal.invariant-loop-cow
invariant-loop-cow l = record {
  names : map (λ store. store.name.now) l.stores.items ≡ map text_of (take l.cow-index l.cows);
  apart : All (λ store. l.origin.which ≢ store.which) l.stores.items;
  each_apart : AllPairs (λ store other. store.which ≢ other.which) l.stores.items;
}
