-- Events of a snapshot, from what its fields are afterwards.
use Rattle.std.proofs.Common.{◌≡◌, Bool, ℕ, ◌+◌, ◌-◌, ◌*◌, ◌<◌, ◌≤◌, true, false, Some, List, [], ◌∷◌, ◌++◌, length, get_or, set, take, drop, map, arith, refl, ap, ◌∙◌, sym, subst, length-append, length-take}
use Rattle.std.specs.List.{All}
use Rattle.std.proofs.lemmas.List.{take-map, length-map}
use Rattle.sector.specs.Bytes.{sectors_at, with_sectors}
use Rattle.sector.specs.declared.pair.Pair.{Pair}
use Rattle.device.specs.Layers.{Layer, is_loud}
use Rattle.cow_format.specs.Places.{area_place, ChangesOnly}
use Rattle.cow_format.specs.Pairs.{pairs_of}
use Rattle.cow_format.specs.NextPlace.{stepped}
use Rattle.in_flight.specs.Copies.{count_of}
use Rattle.in_flight.specs.declared.copies.ChunkCopy.{ChunkCopy}
use Rattle.in_flight.specs.declared.copies.Mark.{Mark}
use Rattle.in_flight.specs.declared.copies.Stage.TheVariants.{Waiting, Read, Written, Flushed}
use Rattle.exception_arena.specs.declared.begun.Begun.{Begun}
use Rattle.exception_arena.specs.Pending.{pairs, pair_of}
use Rattle.store.specs.declared.state.State.{State}
use Rattle.volume_laws.specs.Held.{StoreHolds}
use Rattle.volume_laws.specs.Steps.{Commits, mark_of}
use Rattle.snapshot.specs.Kept.{Kept, books_of, spare_after}
use Rattle.snapshot.specs.Calls.{GoesTo, ReadsAt, WritesAt, StartsAt, StartsMerging}
use Rattle.snapshot.proofs.Copies.{IsLike}

-- a copy is read
pub reads_at : {B : Type 0} (contents : B → List ℕ) (layers : B → List Layer) (origin : List ℕ) (k : ℕ) (p q : ChunkCopy) (v w : Kept B) → w ≡ record v { copies = set v.copies k q } → k < length v.copies → p ≡ get_or v.copies k p
    → GoesTo Read (sectors_at origin (v.state.chunk * p.pair.old) (count_of v.state.chunk v.state.origin p.pair.old)) p q → length q.buffer.items ≡ length p.buffer.items → ReadsAt contents layers origin k p q v w
reads_at contents layers origin k p q v w is within was to len = subst (ReadsAt contents layers origin k p q v) (sym is) (record {
  copy = to;
  fields = refl;
  event = record {
    same = record { number = refl; live = refl; untried = refl; marked = refl; loud = refl; chunk = refl; sectors = refl; size = refl; overflow = refl };
    store = record { store = refl; pairs = refl; begun = refl; sure = refl };
    copy = record { within = within; was = was; pair = to.pair; copies = refl };
    marks = refl;
    stage = to.stage;
    room = len;
    read = to.buffer;
  };
})

-- a copy is written
pub writes_at : {B : Type 0} (contents : B → List ℕ) (layers : B → List Layer) (k : ℕ) (p q : ChunkCopy) (v w : Kept B) (d : B) → w ≡ record v { device = d; copies = set v.copies k q } → k < length v.copies → p ≡ get_or v.copies k p → p.stage ≡ Read
    → GoesTo Written p.buffer.items p q → is_loud (layers d) ≡ is_loud (layers v.device) → ChangesOnly v.state.chunk p.pair.new (contents v.device) (contents d)
    → (is_loud (layers v.device) ≡ true → contents d ≡ with_sectors (contents v.device) (v.state.chunk * p.pair.new) p.buffer.items) → WritesAt contents layers k p q v w
writes_at contents layers k p q v w d is within was read to loud only written = subst (WritesAt contents layers k p q v) (sym is) (record {
  copy = to;
  fields = refl;
  event = record {
    same = record { number = refl; live = refl; untried = refl; marked = refl; loud = loud; chunk = refl; sectors = refl; size = refl; overflow = refl };
    pairs = refl;
    begun = refl;
    sure = refl;
    copy = record { within = within; was = was; pair = to.pair; copies = refl };
    marks = refl;
    was_read = read;
    stage = to.stage;
    buffer = to.buffer;
    only = only;
    written = written;
  };
})

-- a copy is started
pub starts_at : {B : Type 0} (contents : B → List ℕ) (layers : B → List Layer) (p : ChunkCopy) (v w : Kept B) → w ≡ record v { next = stepped v.state.chunk (v.next + 1); begun = v.begun ++ p.pair ∷ []; copies = v.copies ++ p ∷ []; room = v.room - 1 } → p.stage ≡ Waiting
    → length p.buffer.items ≡ 512 * count_of v.state.chunk v.state.origin p.pair.old → StoreHolds v.state.chunk v.state.origin v.state.size (contents v.device) (v.pairs ++ (v.begun ++ p.pair ∷ [])) → StartsAt contents layers p v w
starts_at contents layers p v w is stage room text = subst (StartsAt contents layers p v) (sym is) (record {
  fields = refl;
  event = record {
    same = record { number = refl; live = refl; untried = refl; marked = refl; loud = refl; chunk = refl; sectors = refl; size = refl; overflow = refl };
    pairs = refl;
    store = refl;
    begun = refl;
    sure = refl;
    copies = refl;
    marks = refl;
    stage = stage;
    room = room;
    text = text;
  };
})

-- a copy is started for a merge
pub starts_merging : {B : Type 0} (contents : B → List ℕ) (layers : B → List Layer) (p : ChunkCopy) (v w : Kept B)
    → w ≡ record v { next = stepped v.state.chunk (v.next + 1); begun = v.begun ++ p.pair ∷ []; copies = v.copies ++ p ∷ []; kept_back = v.kept_back - 1; spare = false; merging = Some p.number } → p.stage ≡ Waiting
    → length p.buffer.items ≡ 512 * count_of v.state.chunk v.state.origin p.pair.old → StoreHolds v.state.chunk v.state.origin v.state.size (contents v.device) (v.pairs ++ (v.begun ++ p.pair ∷ [])) → StartsMerging contents layers p v w
starts_merging contents layers p v w is stage room text = subst (StartsMerging contents layers p v) (sym is) (record {
  fields = refl;
  event = record {
    same = record { number = refl; live = refl; untried = refl; marked = refl; loud = refl; chunk = refl; sectors = refl; size = refl; overflow = refl };
    pairs = refl;
    store = refl;
    begun = refl;
    sure = refl;
    copies = refl;
    marks = refl;
    stage = stage;
    room = room;
    text = text;
  };
})

-- what a commit makes of a snapshot
abbrev pub committed_as : {B : Type 0} → ℕ → B → State → Kept B → Kept B
committed_as count d t v = record v { device = d; state = t; pairs = v.pairs ++ take count v.begun; begun = drop count v.begun; copies = drop count v.copies; marks = v.marks ++ map mark_of (take count v.copies); spare = spare_after count v }

-- its fields, from the store's
pub commit_fields : {B : Type 0} (count : ℕ) (d : B) (t t' : State) (v : Kept B) (pending : List Begun) (ps bs : List Pair) (cs : List ChunkCopy) (ms : List Mark) (b : Bool) → v.begun ≡ pairs pending → t' ≡ t → ps ≡ v.pairs ++ pairs (take count pending) → bs ≡ drop count (pairs pending)
    → cs ≡ drop count v.copies → ms ≡ v.marks ++ map mark_of (take count v.copies) → b ≡ spare_after count v
    → (let k : Kept B = record v { device = d; state = t'; pairs = ps; begun = bs; copies = cs; marks = ms; spare = b } in k) ≡ committed_as count d t v
commit_fields count d t t' v pending ps bs cs ms b begun state committed dropped copies marks spare =
    let first : ps ≡ v.pairs ++ take count v.begun = committed ∙ ap (λ x. v.pairs ++ x) (sym (take-map pair_of count pending) ∙ ap (take count) (sym begun)) in
    let rest : bs ≡ drop count v.begun = dropped ∙ ap (drop count) (sym begun) in
    rw (state, first, rest, copies, marks, spare) refl

-- the first copies are committed
pub commits_at : {B : Type 0} (contents : B → List ℕ) (layers : B → List Layer) (count : ℕ) (v w : Kept B) (d : B) (t : State) → w ≡ committed_as count d t v → IsLike v.state t → t.sure ≡ v.state.sure → count ≤ length v.copies → All (λ p. p.stage ≡ Flushed) (take count v.copies)
    → is_loud (layers d) ≡ is_loud (layers v.device) → ChangesOnly v.state.chunk (area_place v.state.chunk v.state.current) (contents v.device) (contents d)
    → (is_loud (layers v.device) ≡ true → pairs_of v.state.chunk (contents d) ≡ w.pairs) → Commits count v.state.current (books_of contents layers v) (books_of contents layers w)
commits_at contents layers count v w d t is like sure few ready loud only stored = record {
  same = record { number = ap (λ x. x.number) is; live = ap (λ x. x.live) is; untried = ap (λ x. x.untried) is; marked = ap (λ x. x.marked) is; loud = ap (λ x. is_loud (layers x.device)) is ∙ loud; overflow = ap (λ x. x.overflow) is; chunk = ap (λ x. x.state.chunk) is ∙ like.chunk; sectors = ap (λ x. x.state.origin) is ∙ like.origin; size = ap (λ x. x.state.size) is ∙ like.size };
  few = few;
  ready = ready;
  pairs = ap (λ x. x.pairs) is;
  begun = ap (λ x. x.begun) is;
  sure = ap (λ x. x.state.sure) is ∙ sure;
  copies = ap (λ x. x.copies) is;
  marks = ap (λ x. x.marks) is;
  only = subst (λ (b : List ℕ). ChangesOnly v.state.chunk (area_place v.state.chunk v.state.current) (contents v.device) b) (sym (ap (λ x. contents x.device) is)) only;
  stored = λ l. ap (λ x. pairs_of v.state.chunk (contents x.device)) is ∙ stored l;
}

-- how many marks there are after a commit
pub marked_count : (count : ℕ) (ms : List Mark) (cs : List ChunkCopy) → count ≤ length cs → length (ms ++ map mark_of (take count cs)) ≡ length ms + count
marked_count count ms cs few = simp (length-append, length-map, length-take) (omega arith)
