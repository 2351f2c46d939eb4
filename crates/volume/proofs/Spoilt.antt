-- What became of a snapshot that was spoiled, and the place of a snapshot in its volume.
use Rattle.std.proofs.Common.{◌≡◌, ℕ, ◌<◌, true, false, List, [], None, length, get_or, sym, ◌∙◌, ap, subst}
use Rattle.device.specs.Layers.{Layer}
use Rattle.in_flight.specs.declared.copies.ChunkCopy.{ChunkCopy}
use Rattle.snapshot.specs.Kept.{Kept}
use Rattle.volume.specs.Volumed.{Volumed}
use Rattle.volume.specs.Whole.{IsAttached, IsWhole, IsCounted}
use Rattle.volume.proofs.Good.{SpoiltTo}
use Rattle.volume.proofs.MovedCounts.{counted_device, counted_spoilt}

-- a snapshot as a spoil leaves it
abbrev pub spoilt : {B : Type 0} → Kept B → Kept B
spoilt s = record s { live = false; untried = true; state = record s.state { copying = false }; begun = []; copies = []; marks = []; kept_back = 0; spare = false; merging = None }

-- after a read into one of its copies
pub spoilt_copies : {B : Type 0} (s u s' : Kept B) (copies : List ChunkCopy) → u ≡ record s { copies = copies } → s' ≡ spoilt u → SpoiltTo s s' × (s'.device ≡ s.device)
spoilt_copies s u s' copies first then = (
  record {
    number = ap (λ (x : Kept _). x.number) then ∙ ap (λ (x : Kept _). x.number) first;
    live = ap (λ (x : Kept _). x.live) then;
    untried = ap (λ (x : Kept _). x.untried) then;
    overflow = ap (λ (x : Kept _). x.overflow) then ∙ ap (λ (x : Kept _). x.overflow) first;
    chunk_is = ap (λ (x : Kept _). x.state.chunk) then ∙ ap (λ (x : Kept _). x.state.chunk) first;
    origin = ap (λ (x : Kept _). x.state.origin) then ∙ ap (λ (x : Kept _). x.state.origin) first;
    pairs = ap (λ (x : Kept _). x.pairs) then ∙ ap (λ (x : Kept _). x.pairs) first;
    sure = ap (λ (x : Kept _). x.state.sure) then ∙ ap (λ (x : Kept _). x.state.sure) first;
    copies = ap (λ (x : Kept _). x.copies) then;
    marks = ap (λ (x : Kept _). x.marks) then;
    counted = λ counts. subst IsCounted (sym (then ∙ ap spoilt first)) (counted_spoilt s counts);
  },
  ap (λ (x : Kept _). x.device) then ∙ ap (λ (x : Kept _). x.device) first,
)

-- after an operation of its device
pub spoilt_device : {B : Type 0} (s u s' : Kept B) (d : B) → u ≡ record s { device = d } → s' ≡ spoilt u → SpoiltTo s s' × (s'.device ≡ d)
spoilt_device s u s' d first then = (
  record {
    number = ap (λ (x : Kept _). x.number) then ∙ ap (λ (x : Kept _). x.number) first;
    live = ap (λ (x : Kept _). x.live) then;
    untried = ap (λ (x : Kept _). x.untried) then;
    overflow = ap (λ (x : Kept _). x.overflow) then ∙ ap (λ (x : Kept _). x.overflow) first;
    chunk_is = ap (λ (x : Kept _). x.state.chunk) then ∙ ap (λ (x : Kept _). x.state.chunk) first;
    origin = ap (λ (x : Kept _). x.state.origin) then ∙ ap (λ (x : Kept _). x.state.origin) first;
    pairs = ap (λ (x : Kept _). x.pairs) then ∙ ap (λ (x : Kept _). x.pairs) first;
    sure = ap (λ (x : Kept _). x.state.sure) then ∙ ap (λ (x : Kept _). x.state.sure) first;
    copies = ap (λ (x : Kept _). x.copies) then;
    marks = ap (λ (x : Kept _). x.marks) then;
    counted = λ counts. subst IsCounted (sym (then ∙ ap spoilt first)) (counted_spoilt (record s { device = d }) (counted_device s counts d));
  },
  ap (λ (x : Kept _). x.device) then ∙ ap (λ (x : Kept _). x.device) first,
)

module _ {B : Type 0} (contents : B → List ℕ) (layers : B → List Layer) (size : B → ℕ) (v : Volumed B) (h : IsWhole contents layers size v) where
  pub attached_at : (k : ℕ) (s : Kept B) → k < length v.snaps → s ≡ get_or v.snaps k s → IsAttached v.copies (size v.origin) s
  attached_at k s within is = subst (IsAttached v.copies (size v.origin)) (sym is) (h.snaps k s within)
