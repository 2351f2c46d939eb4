-- The chunks of a volume's snapshots have sectors.
use Rattle.std.proofs.Common.{◌≡◌, ℕ, ◌<◌, true, List, length, get_or, set, map, sym, subst}
use Rattle.std.specs.List.{All}
use Rattle.std.proofs.lemmas.List.Elements.{All-map, All-set, All-weaker}
use Rattle.device.specs.Layers.{Layer}
use Rattle.volume_laws.specs.Books.{SnapBooks}
use Rattle.snapshot.specs.Kept.{Kept, books_of as snap_books}
use Rattle.volume.specs.Volumed.{Volumed}
use Rattle.volume.specs.Whole.{IsAttached, IsWhole}

module _ {B : Type 0} (contents : B → List ℕ) (layers : B → List Layer) (size : B → ℕ) (v : Volumed B) (h : IsWhole contents layers size v) where
  pub chunks_all : All (λ (s : Kept B). 0 < s.state.chunk) v.snaps
  chunks_all = All-weaker (IsAttached v.copies (size v.origin)) (λ (s : Kept B). 0 < s.state.chunk) (λ s old. old.some) v.snaps h.snaps

  pub chunks_set : (k : ℕ) (s s' : Kept B) → k < length v.snaps → s ≡ get_or v.snaps k s → s'.state.chunk ≡ s.state.chunk → All (λ (x : Kept B). 0 < x.state.chunk) (set v.snaps k s')
  chunks_set k s s' within is same =
      let old : 0 < s.state.chunk = subst (λ (x : Kept B). 0 < x.state.chunk) (sym is) (chunks_all k s within) in
      All-set (λ (x : Kept B). 0 < x.state.chunk) v.snaps k s' (subst (λ n. 0 < n) (sym same) old) chunks_all

  pub chunks_books : All (λ (s : SnapBooks). s.live ≡ true → 0 < s.chunk) (map (snap_books contents layers) v.snaps)
  chunks_books = All-map (λ (s : SnapBooks). s.live ≡ true → 0 < s.chunk) (snap_books contents layers) v.snaps (λ k d lt live. chunks_all k d lt)
