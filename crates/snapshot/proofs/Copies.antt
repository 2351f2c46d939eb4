-- A snapshot's copies, and what it keeps true where they change.
use Rattle.std.proofs.Common.{◌≡◌, inl, inr, ℕ, suc, ◌+◌, ◌-◌, ◌*◌, ◌<◌, ◌≤◌, Bool, true, false, List, [], ◌∷◌, ◌++◌, length, get_or, set, drop, map, arith, refl, ap, ◌∙◌, sym, subst, length-append, length-drop, length-set}
use Rattle.std.specs.Prelude.{◌==◌, ◌&&◌, not, None}
use Rattle.std.specs.List.{All, list_any}
use Rattle.std.proofs.lemmas.Bool.{true≢false, cases_eq, eq-eqb, eqb-true, cond-true, cond-false}
use Rattle.std.proofs.lemmas.List.{get_or-map, length-map, drop-map, map_push}
use Rattle.std.proofs.lemmas.List.Elements.{All-set, All-drop, All-push, All-map}
use Rattle.std.proofs.Math.Seq.{map-set_same}
use Rattle.sector.specs.declared.pair.Pair.{Pair}
use Rattle.cow_format.specs.Pairs.{IsInside}
use Rattle.cow_format.specs.Picture.{place_of}
use Rattle.in_flight.specs.Copies.{count_of, pair_of}
use Rattle.in_flight.specs.Flushed.{flushed_copy}
use Rattle.in_flight.proofs.Batches.{batch_few}
use Rattle.in_flight.specs.declared.copies.ChunkCopy.{ChunkCopy}
use Rattle.in_flight.specs.declared.copies.Mark.{Mark}
use Rattle.store.specs.declared.state.State.{State}
use Rattle.store.specs.Stored.{after_commit}
use Rattle.volume_laws.proofs.Lists.{All-back, All-from_list_any}
use Rattle.snapshot.specs.Kept.{batch_of, needs_area}
use Rattle.snapshot.specs.Held.{IsBuffered, IsAhead, IsSnapshot}

-- the buffer of a copy
pub buffered : (chunk origin : ℕ) (copies : List ChunkCopy) (k : ℕ) (p : ChunkCopy) → All (IsBuffered chunk origin) copies → k < length copies → p ≡ get_or copies k p → length p.buffer.items ≡ 512 * count_of chunk origin p.pair.old
buffered chunk origin copies k p all lt is =
    let h : IsBuffered chunk origin p = subst (IsBuffered chunk origin) (sym is) (all k p lt) in h.room

-- the pair of a copy
pub copy_inside : (chunk origin size : ℕ) (pairs begun : List Pair) (copies : List ChunkCopy) (k : ℕ) (p : ChunkCopy) → All (IsInside chunk origin size) (pairs ++ begun) → begun ≡ map pair_of copies → k < length copies → p ≡ get_or copies k p → IsInside chunk origin size p.pair
copy_inside chunk origin size pairs begun copies k p all agree lt is =
    let here : All (IsInside chunk origin size) (map pair_of copies) = subst (All (IsInside chunk origin size)) agree (All-back (IsInside chunk origin size) pairs begun all) in
    let at : get_or (map pair_of copies) k p.pair ≡ p.pair = get_or-map pair_of copies k p p.pair lt ∙ ap pair_of (sym is) in
    subst (IsInside chunk origin size) at (here k p.pair (rw length-map lt))

-- copy k goes on, with its pair
pub copy_set : (live untried marked stale : Bool) (s : State) (begun : List Pair) (copies : List ChunkCopy) (marks : List Mark) (k : ℕ) (p q : ChunkCopy) → IsSnapshot live untried marked stale s begun copies marks → k < length copies → p ≡ get_or copies k p → q.pair ≡ p.pair → length q.buffer.items ≡ length p.buffer.items
    → IsSnapshot live untried marked stale s begun (set copies k q) marks
copy_set live untried marked stale s begun copies marks k p q h lt is same len = record {
  allowed = h.allowed;
  ready = h.ready;
  copying = h.copying;
  tried = h.tried;
  sound = h.sound;
  failed = h.failed;
  dead = h.dead;
  written = h.written;
  valid = h.valid;
  agree = h.agree ∙ sym (map-set_same pair_of copies k q p (same ∙ ap pair_of is));
  buffers = All-set (IsBuffered s.chunk s.origin) copies k q
      (record { room = len ∙ buffered s.chunk s.origin copies k p h.buffers lt is ∙ ap (λ (x : Pair). 512 * count_of s.chunk s.origin x.old) (sym same) }) h.buffers;
  idle = λ dead. let none : length copies ≡ 0 = ap length (h.idle dead) in absurd (omega arith);
  unmarked = h.unmarked;
  ahead = λ alive zeroed. rw length-set (h.ahead alive zeroed);
}

-- a store's state that changes nothing of what a snapshot keeps
pub record IsLike (s t : State) : Type 0 where
  pub chunk : t.chunk ≡ s.chunk
  pub origin : t.origin ≡ s.origin
  pub size : t.size ≡ s.size
  pub left : t.left ≡ s.left
  pub copying : t.copying ≡ s.copying
  pub valid : t.valid ≡ s.valid

pub like_same : (s t : State) → t ≡ s → IsLike s t
like_same s t is = record { chunk = ap (λ x. x.chunk) is; origin = ap (λ x. x.origin) is; size = ap (λ x. x.size) is; left = ap (λ x. x.left) is; copying = ap (λ x. x.copying) is; valid = ap (λ x. x.valid) is }

pub like_zeroed : (s t : State) → t ≡ record s { zeroed = true; firm = false } → IsLike s t
like_zeroed s t is = record { chunk = ap (λ x. x.chunk) is; origin = ap (λ x. x.origin) is; size = ap (λ x. x.size) is; left = ap (λ x. x.left) is; copying = ap (λ x. x.copying) is; valid = ap (λ x. x.valid) is }

pub like_firm : (s t : State) (n : ℕ) → t ≡ record s { firm = s.zeroed; sure = n } → IsLike s t
like_firm s t n is = record { chunk = ap (λ x. x.chunk) is; origin = ap (λ x. x.origin) is; size = ap (λ x. x.size) is; left = ap (λ x. x.left) is; copying = ap (λ x. x.copying) is; valid = ap (λ x. x.valid) is }

like_committed : (s : State) (count : ℕ) (b : Bool) → s.filled + count == 32 * s.chunk ≡ b → IsLike s (after_commit s count)
like_committed s count true is = subst (IsLike s) (sym (cond-true _ _ _ is)) (record { chunk = refl; origin = refl; size = refl; left = refl; copying = refl; valid = refl })
like_committed s count false is = subst (IsLike s) (sym (cond-false _ _ _ is)) (record { chunk = refl; origin = refl; size = refl; left = refl; copying = refl; valid = refl })

pub like_commit : (s t : State) (count : ℕ) → t ≡ after_commit s count → IsLike s t
like_commit s t count is = subst (IsLike s) (sym is) (like_committed s count (s.filled + count == 32 * s.chunk) refl)

-- a commit makes no pair sure
sure_committed : (s : State) (count : ℕ) (b : Bool) → s.filled + count == 32 * s.chunk ≡ b → (after_commit s count).sure ≡ s.sure
sure_committed s count true is = ap (λ (x : State). x.sure) (cond-true _ _ _ is)
sure_committed s count false is = ap (λ (x : State). x.sure) (cond-false _ _ _ is)

pub sure_commit : (s t : State) (count : ℕ) → t ≡ after_commit s count → t.sure ≡ s.sure
sure_commit s t count is = ap (λ (x : State). x.sure) is ∙ sure_committed s count (s.filled + count == 32 * s.chunk) refl

-- the area after the current one is as it was
pub ahead_same : (live : Bool) (s t : State) (n : ℕ) → t ≡ s → IsAhead live s n → IsAhead live t n
ahead_same live s t n is h = subst (λ (x : State). IsAhead live x n) (sym is) h

-- the last pair that is committed next fills the current area
pub needs_is : (s : State) (copies : List ChunkCopy) → needs_area s copies ≡ true → s.filled + batch_of s copies ≡ 32 * s.chunk
needs_is s copies is = eqb-true (s.filled + batch_of s copies) (32 * s.chunk) (and_first (s.filled + batch_of s copies == 32 * s.chunk) (not s.zeroed) is)
  where
    and_first : (a b : Bool) → (a && b) ≡ true → a ≡ true
    and_first true b h = refl
    and_first false b h = h

-- it is zeroed for the first copies
pub ahead_zeroed : (live : Bool) (s t : State) (copies : List ChunkCopy) → t ≡ record s { zeroed = true; firm = false } → 0 < length copies → s.filled + batch_of s copies ≡ 32 * s.chunk → IsAhead live t (length copies)
ahead_zeroed live s t copies is some due =
    subst (λ (x : State). IsAhead live x (length copies)) (sym is) (λ alive zeroed. (some, omega (arith, due, batch_few (32 * s.chunk - s.filled) copies)))

-- it is used up where the first copies fill the current area
ahead_committed : (live : Bool) (s : State) (n count : ℕ) (b : Bool) → s.filled + count == 32 * s.chunk ≡ b → s.filled + count ≤ 32 * s.chunk → count ≤ n → IsAhead live s n → IsAhead live (after_commit s count) (n - count)
ahead_committed live s n count true is fits few h =
    subst (λ (x : State). IsAhead live x (n - count)) (sym (cond-true _ _ _ is)) (λ alive zeroed. absurd (true≢false (sym zeroed)))
ahead_committed live s n count false is fits few h =
    subst (λ (x : State). IsAhead live x (n - count)) (sym (cond-false _ _ _ is)) (λ alive zeroed.
    let fills = (h alive zeroed).1 in
    elim (cases_eq (s.filled + count) (32 * s.chunk)) [
      | inl same ↦ absurd (true≢false (sym (eq-eqb _ _ same) ∙ is))
      | inr below ↦ (omega (arith, fits, fills, below, few), omega (arith, fills, few))
    ])

pub ahead_commit : (live : Bool) (s t : State) (n count : ℕ) → t ≡ after_commit s count → s.filled + count ≤ 32 * s.chunk → count ≤ n → IsAhead live s n → IsAhead live t (n - count)
ahead_commit live s t n count is fits few h =
    subst (λ (x : State). IsAhead live x (n - count)) (sym is) (ahead_committed live s n count (s.filled + count == 32 * s.chunk) refl fits few h)

-- a flush zeroes nothing
pub ahead_firm : (live : Bool) (s t : State) (k n : ℕ) → t ≡ record s { firm = s.zeroed; sure = k } → IsAhead live s n → IsAhead live t n
ahead_firm live s t k n is h = subst (λ (x : State). IsAhead live x n) (sym is) h

-- the store's state changes, and the copies stay
pub state_kept : (live untried marked stale : Bool) (s t : State) (begun begun' : List Pair) (copies : List ChunkCopy) (marks : List Mark) → IsSnapshot live untried marked stale s begun copies marks → IsLike s t → begun' ≡ begun → IsAhead live t (length copies) → IsSnapshot live untried marked stale t begun' copies marks
state_kept live untried marked stale s t begun begun' copies marks h like is ahead = record {
  allowed = rw like.chunk h.allowed;
  ready = like.left ∙ h.ready;
  copying = λ alive. like.copying ∙ h.copying alive;
  tried = h.tried;
  sound = h.sound;
  failed = h.failed;
  dead = h.dead;
  written = h.written;
  valid = like.valid ∙ h.valid;
  agree = is ∙ h.agree;
  buffers = rw (like.chunk, like.origin) h.buffers;
  idle = h.idle;
  unmarked = h.unmarked;
  ahead = ahead;
}

-- the store is flushed
pub flushed_pair : (p : ChunkCopy) → pair_of (flushed_copy p) ≡ pair_of p
flushed_pair p = refl

pub pairs_flushed : (copies : List ChunkCopy) → map pair_of (map flushed_copy copies) ≡ map pair_of copies
pairs_flushed [] = refl
pairs_flushed (p ∷ copies) = ap (λ x. p.pair ∷ x) (pairs_flushed copies)

buffers_flushed : (chunk origin : ℕ) (copies : List ChunkCopy) → All (IsBuffered chunk origin) copies → All (IsBuffered chunk origin) (map flushed_copy copies)
buffers_flushed chunk origin copies all = All-map (IsBuffered chunk origin) flushed_copy copies (λ k d lt. record { room = (all k d lt).room })

pub copies_flushed : (live untried marked stale : Bool) (s t : State) (n : ℕ) (begun begun' : List Pair) (copies : List ChunkCopy) (marks marks' : List Mark) → live ≡ true → IsSnapshot live untried marked stale s begun copies marks → t ≡ record s { firm = s.zeroed; sure = n } → begun' ≡ begun → IsSnapshot live untried marked stale t begun' (map flushed_copy copies) marks'
copies_flushed live untried marked stale s t n begun begun' copies marks marks' alive h is same =
    let like = like_firm s t n is in
    record {
      allowed = rw like.chunk h.allowed;
      ready = like.left ∙ h.ready;
      copying = λ alive. like.copying ∙ h.copying alive;
      tried = h.tried;
      sound = h.sound;
      failed = h.failed;
      dead = h.dead;
      written = h.written;
      valid = like.valid ∙ h.valid;
      agree = same ∙ h.agree ∙ sym (pairs_flushed copies);
      buffers = rw (like.chunk, like.origin) (buffers_flushed s.chunk s.origin copies h.buffers);
      idle = λ dead. absurd (true≢false (sym alive ∙ dead));
      unmarked = λ dead. absurd (true≢false (sym alive ∙ dead));
      ahead = subst (IsAhead live t) (sym (length-map copies flushed_copy)) (ahead_firm live s t n (length copies) is h.ahead);
    }

-- the store's state stays too
pub state_same : (live untried marked stale : Bool) (s t : State) (begun begun' : List Pair) (copies : List ChunkCopy) (marks : List Mark) → IsSnapshot live untried marked stale s begun copies marks → t ≡ s → begun' ≡ begun → IsSnapshot live untried marked stale t begun' copies marks
state_same live untried marked stale s t begun begun' copies marks h same is =
    state_kept live untried marked stale s t begun begun' copies marks h (like_same s t same) is (ahead_same live s t (length copies) same h.ahead)

-- the first copies are committed
pub copies_drop : (live untried marked stale : Bool) (s t : State) (begun begun' : List Pair) (copies : List ChunkCopy) (marks marks' : List Mark) (n : ℕ) → live ≡ true → IsSnapshot live untried marked stale s begun copies marks → IsLike s t → begun' ≡ drop n begun → IsAhead live t (length copies - n) → IsSnapshot live untried marked stale t begun' (drop n copies) marks'
copies_drop live untried marked stale s t begun begun' copies marks marks' n alive h like is ahead = record {
  allowed = rw like.chunk h.allowed;
  ready = like.left ∙ h.ready;
  copying = λ alive. like.copying ∙ h.copying alive;
  tried = h.tried;
  sound = h.sound;
  failed = h.failed;
  dead = h.dead;
  written = h.written;
  valid = like.valid ∙ h.valid;
  agree = is ∙ ap (drop n) h.agree ∙ drop-map pair_of n copies;
  buffers = rw (like.chunk, like.origin) (All-drop (IsBuffered s.chunk s.origin) n copies h.buffers);
  idle = λ dead. absurd (true≢false (sym alive ∙ dead));
  unmarked = λ dead. absurd (true≢false (sym alive ∙ dead));
  ahead = subst (IsAhead live t) (sym (length-drop n copies)) ahead;
}

-- a copy is started
pub copies_push : (live untried marked stale : Bool) (s : State) (begun begun' : List Pair) (copies : List ChunkCopy) (marks : List Mark) (p : ChunkCopy) → live ≡ true → IsSnapshot live untried marked stale s begun copies marks → begun' ≡ begun ++ p.pair ∷ [] → length p.buffer.items ≡ 512 * count_of s.chunk s.origin p.pair.old
    → IsSnapshot live untried marked stale s begun' (copies ++ p ∷ []) marks
copies_push live untried marked stale s begun begun' copies marks p alive h is room = record {
  allowed = h.allowed;
  ready = h.ready;
  copying = h.copying;
  tried = h.tried;
  sound = h.sound;
  failed = h.failed;
  dead = h.dead;
  written = h.written;
  valid = h.valid;
  agree = is ∙ ap (λ x. x ++ p.pair ∷ []) h.agree ∙ sym (map_push pair_of copies p);
  buffers = All-push (IsBuffered s.chunk s.origin) copies p h.buffers (record { room = room });
  idle = λ dead. absurd (true≢false (sym alive ∙ dead));
  unmarked = λ dead. absurd (true≢false (sym alive ∙ dead));
  ahead = λ _ zeroed. (let more = length-append copies (p ∷ []) in omega (arith, more), (let old = (h.ahead alive zeroed).1 in let more = length-append copies (p ∷ []) in omega (arith, old, more)));
}

-- a chunk without a copy is no begun pair's
none_begun : (ps : List ChunkCopy) (c : ℕ) → All (λ p. (p.pair.old == c) ≡ false) ps → place_of (map pair_of ps) c ≡ None
none_begun [] c all = refl
none_begun (p ∷ ps) c all = cond-false _ _ _ (all 0 p (omega arith)) ∙ none_begun ps c (λ k d lt. all (suc k) d (omega arith))

pub not_begun : (begun : List Pair) (copies : List ChunkCopy) (c : ℕ) → begun ≡ map pair_of copies → list_any (λ p. p.pair.old == c) copies ≡ false → place_of begun c ≡ None
not_begun begun copies c agree none =
    ap (λ x. place_of x c) agree ∙ none_begun copies c (All-from_list_any (λ (p : ChunkCopy). p.pair.old == c) copies none)
