-- What a trace says of a snapshot that is lost.
use Rattle.std.proofs.Common.{◌≡◌, ℕ, ◌+◌, ◌*◌, ◌<◌, ◌≤◌, true, false, List, [], ◌∷◌, ◌++◌, sym}
use Rattle.std.specs.Prelude.{codes}
use Rattle.std.proofs.lemmas.Bool.{le-ltb, lt-ltb}
use Rattle.std.proofs.lemmas.List.{append-nil}
use Rattle.layers.specs.declared.stack.Stack.{Stack}
use Rattle.snapshot.specs.Kept.{Kept}
use Rattle.volume_trace.specs.Trace.{item_of, lost_text}

-- of a live one nothing
pub none_lost : (old : List ℕ) (name : List ℕ) (s : Kept Stack) → s.live ≡ true → old ≡ old ++ lost_text name s
none_lost old name s live = rw live (sym (append-nil old))

-- of one whose store has no room
pub lost_full : (old new name : List ℕ) (s : Kept Stack) → s.live ≡ false → s.state.size < s.state.chunk * (s.next + 1)
    → new ≡ old ++ item_of (codes "lost" ∷ name ∷ codes "full" ∷ []) → new ≡ old ++ lost_text name s
lost_full old new name s lost full added = rw (lost, lt-ltb s.state.size (s.state.chunk * (s.next + 1)) full) added

-- and of one whose store has
pub lost_else : (old new name : List ℕ) (s : Kept Stack) → s.live ≡ false → s.state.chunk * (s.next + 1) ≤ s.state.size
    → new ≡ old ++ item_of (codes "lost" ∷ name ∷ []) → new ≡ old ++ lost_text name s
lost_else old new name s lost room added = rw (lost, le-ltb s.state.size (s.state.chunk * (s.next + 1)) room) added
