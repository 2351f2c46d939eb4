-- What the reads of a copy and of a merge ask, and that their device has those sectors: once it did that ahead, what was told of it is
-- told of the event.
use Rattle.std.proofs.Common.{◌≡◌, ℕ, ◌+◌, ◌-◌, ◌*◌, ◌/◌, ◌<◌, ◌≤◌, true, List, [], ◌∷◌, ◌++◌, Option, Some, None, length, get_or, sym, ◌∙◌, ap, subst, arith}
use Rattle.std.specs.Prelude.{◌&&◌}
use Rattle.std.specs.List.{All, position}
use Rattle.std.proofs.Math.Nat.{mul-add-div_right}
use Rattle.std.proofs.lemmas.Nat.{mul-le}
use Rattle.std.proofs.lemmas.Bool.{false≢true}
use Rattle.std.proofs.lemmas.List.Elements.{All-head}
use Rattle.sector.specs.declared.pair.Pair.{Pair}
use Rattle.device.specs.CanDoAhead.{CanDoAhead}
use Rattle.device.specs.Layers.{Layer, fate, is_answered, is_loud}
use Rattle.device.specs.declared.operation.Operation.TheVariants.{Reads}
use Rattle.plain_machine.specs.declared.event.Event.TheVariants.{CopyRead, MergeAreaRead, MergeRead}
use Rattle.cow_format.specs.Places.{area_place}
use Rattle.cow_format.specs.Pairs.{IsInside}
use Rattle.in_flight.specs.Copies.{count_of}
use Rattle.in_flight.specs.declared.copies.ChunkCopy.{ChunkCopy}
use Rattle.in_flight.specs.declared.copies.Stage.TheVariants.{Waiting}
use Rattle.volume_laws.specs.Books.{MergeBooks}
use Rattle.volume_laws.specs.Held.{LiveHolds, SnapHolds, StoreHolds}
use Rattle.volume_laws.specs.MergeDue.{is_readable, last_of}
use Rattle.volume_laws.specs.Merging.{MergeHolds}
use Rattle.volume_laws.proofs.Lists.{All-front, All-back}
use Rattle.volume_laws.proofs.MergeTests.{last_is}
use Rattle.volume_laws.proofs.Stores.{inside_at}
use Rattle.volume_laws.proofs.WholeOne.{snap_holds, live_by_copy}
use Rattle.whole_commands.specs.Devices.{answers}
use Rattle.event_machine.specs.MergeSeen.{held_in}
use Rattle.snapshot.specs.Kept.{Kept, books_of as snap_books}
use Rattle.snapshot_list.specs.Finding.{is_copy_of}
use Rattle.snapshot_list.proofs.Finds.{position_within}
use Rattle.merge.specs.InStep.{IsInStep}
use Rattle.merge.specs.Due.{next_read_of}
use Rattle.merge.specs.Lists.{waiting_of}
use Rattle.merge.specs.Looks.{LooksAgree}
use Rattle.merge.specs.Merging.{Merging, books_of as merging_books}
use Rattle.volume.specs.Answered.{if_some, copied_sectors, answers_event}
use Rattle.volume.specs.Asks.{Asks}
use Rattle.volume.specs.DoesAhead.{AreAhead}
use Rattle.volume.specs.Lasting.{IsKept}
use Rattle.volume.specs.Moved.{merge_seen, moving_of}
use Rattle.volume.specs.Volumed.{Volumed, books_of, is_due_of}
use Rattle.volume.specs.declared.ahead.Ask.TheVariants.{Origin, Merging as ToMerging}
use Rattle.volume.proofs.AsksEvents.{copy_told, merge_after, t_is}
use Rattle.volume.proofs.Changing.{books_within, books_is}
use Rattle.volume.proofs.MergeDue.{merged, merge_holds}
use Rattle.volume.proofs.MergeDues.{read_due}
use Rattle.volume.proofs.MovedCopies.{sectors_is}

-- a chunk of an origin, as many sectors as it has there
pub chunk_can : (chunk size old : ℕ) → 0 < chunk → chunk ≤ 1024 → chunk * old < size → CanDoAhead size (Reads (chunk * old) (count_of chunk size old))
chunk_can chunk size old some allowed begins = (omega (arith, some, begins), omega (arith, allowed), omega (arith, begins))

-- a whole chunk's place
fits_next : (chunk n size : ℕ) → chunk * (n + 1) ≤ size → chunk * n + chunk ≤ size
fits_next chunk n size room = (let end : chunk * (n + 1) ≡ chunk * n + chunk = grind arith in omega (arith, end, room))

-- a copy on a store, at the front of a chunk's place there
pub place_can : (chunk sectors size old new : ℕ) → 0 < chunk → chunk ≤ 1024 → chunk * old < sectors → chunk * (new + 1) ≤ size → CanDoAhead size (Reads (chunk * new) (count_of chunk sectors old))
place_can chunk sectors size old new some allowed begins room =
    let end = fits_next chunk new size room in
    (omega (arith, some, begins), omega (arith, allowed), omega (arith, end))

-- an area
pub area_can : (chunk size area : ℕ) → 0 < chunk → chunk ≤ 1024 → chunk * (area_place chunk area + 1) ≤ size → CanDoAhead size (Reads (chunk * area_place chunk area) chunk)
area_can chunk size area some allowed room = (some, allowed, fits_next chunk (area_place chunk area) size room)

-- its first sector is counted in 64 bits
pub area_low : (chunk place size : ℕ) → 0 < chunk → chunk * (place + 1) ≤ size → (place + 1 ≤ size) × (chunk * place ≤ size)
area_low chunk place size some room =
    let one : 1 * (place + 1) ≤ chunk * (place + 1) = mul-le 1 (place + 1) chunk (place + 1) some (omega arith) in
    (omega (arith, one, room), omega (arith, fits_next chunk place size room))

-- the areas stand one behind the other
next_up : (n a b : ℕ) → a ≤ b → a * n + 1 + 1 ≤ b * n + 1 + 1
next_up n a b le = (let up : a * n ≤ b * n = mul-le a n b n le (omega arith) in omega (arith, up))

areas_up : (chunk a b : ℕ) → a ≤ b → chunk * (area_place chunk a + 1) ≤ chunk * (area_place chunk b + 1)
areas_up chunk a b le = mul-le chunk (area_place chunk a + 1) chunk (area_place chunk b + 1) (omega arith) (next_up (32 * chunk + 1) a b le)

by_both : (a b c d : ℕ) → a ≤ b → b ≤ c → c ≡ d → a ≤ d
by_both a b c d low high same = omega (arith, low, high, same)

-- the current one is the last that is full, or the one behind it
below_full : (n a f len : ℕ) → 0 < n → len ≡ a * n + f → a ≤ len / n
below_full n a f len some is = (let e : len / n ≡ a + f / n = ap (λ z. z / n) is ∙ mul-add-div_right some a f in omega (arith, e))

module _ {B : Type 0} (holds : B → ℕ → List ℕ → Type 0) (contents : B → List ℕ) (layers : B → List Layer) (size faults done : B → ℕ) (law : (d : B) → length (contents d) ≡ 512 * size d) (v : Volumed B) (kept : IsKept holds contents layers size v) where
  -- the chunk of a copy that waits
  module _ (n k : ℕ) (s : Kept B) (within : k < length v.snaps) (is : s ≡ get_or v.snaps k s) (j : ℕ) (p : ChunkCopy) (found : position (is_copy_of Waiting n) s.copies ≡ Some j) (p_is : p ≡ get_or s.copies j p) where
    held : SnapHolds (is_loud (layers v.origin)) (contents v.origin) v.flights (snap_books contents layers s)
    held = snap_holds (books_of contents layers size v) k (snap_books contents layers s) kept.whole.holds (books_within contents layers size v v.origin k s s within is) (books_is contents layers size v v.origin k s s within is)

    alive : LiveHolds (is_loud (layers v.origin)) (contents v.origin) v.flights (snap_books contents layers s)
    alive = held.alive (live_by_copy (contents v.origin) v.flights (snap_books contents layers s) j held (position_within (is_copy_of Waiting n) s.copies j found))

    -- it begins on the origin disk
    pub copy_begins : s.state.chunk * p.pair.old < size v.origin
    copy_begins =
        let inside : IsInside s.state.chunk s.state.origin s.state.size p.pair = inside_at (contents v.origin) v.flights (snap_books contents layers s) alive j p (position_within (is_copy_of Waiting n) s.copies j found) p_is in
        let fits : length (contents v.origin) ≡ 512 * s.state.origin = alive.fits in
        omega (arith, inside.old, fits, law v.origin)

    copy_read_told : (w : Volumed B) → AreAhead holds contents layers size faults done v w
        → answers_event (CopyRead n) (moving_of contents layers None w) ≡ is_answered (fate (layers w.origin) (Reads (s.state.chunk * p.pair.old) (count_of s.state.chunk (size v.origin) p.pair.old)))
    copy_read_told w a =
        copy_told holds contents layers size faults done law v kept n k s within is w a Waiting j p found p_is
        (λ h q. answers (moving_of contents layers None w).origin (Reads (h.snap.chunk * q.pair.old) (copied_sectors h q (moving_of contents layers None w))))
        ∙ ap (λ (x : Kept B). is_answered (fate (layers w.origin) (Reads (x.state.chunk * p.pair.old) (count_of x.state.chunk (length (contents w.origin) / 512) p.pair.old))))
        (t_is holds contents layers size faults done law v kept n k s within is w a)
        ∙ ap (λ m. is_answered (fate (layers w.origin) (Reads (s.state.chunk * p.pair.old) (count_of s.state.chunk m p.pair.old))))
        (sectors_is (contents w.origin) (size v.origin) (law w.origin ∙ ap (λ m. 512 * m) a.origin.sized))

    pub copy_read_asks : Asks holds contents layers size faults done (CopyRead n) (Origin (Reads (s.state.chunk * p.pair.old) (count_of s.state.chunk (size v.origin) p.pair.old))) v
    copy_read_asks = (tt, chunk_can s.state.chunk (size v.origin) p.pair.old alive.text.some alive.text.allowed copy_begins, λ w a told tells. tells ∙ sym (copy_read_told w a))

  -- of a merge
  module _ (m : Merging B) (was : v.merge ≡ Some m) where
    abbrev mine : MergeBooks
    mine = merging_books contents (is_loud (layers v.origin) && is_loud (layers m.device)) m

    here : MergeHolds (contents v.origin) v.flights mine
    here = merge_holds contents layers size v kept.whole m was

    pub text : StoreHolds m.state.chunk m.state.origin m.state.size (contents m.device) (m.pairs ++ mine.released)
    text = here.text

    pub store_is : m.state.size ≡ size m.device
    store_is = (let w = text.whole in omega (arith, w, law m.device))

    -- the merge after something was done ahead
    pub stays : (w : Volumed B) → AreAhead holds contents layers size faults done v w → (g : Merging B) → w.merge ≡ Some g → g ≡ record m { device = g.device }
    stays w a g there = (let after = merge_after holds contents layers size faults done law v kept v.merge w.merge m a.merge was in
        let same : after.0 ≡ g = cc (after.1, there) in
        subst (λ (x : Merging B). x ≡ record m { device = x.device }) same after.2)

    -- the last pair that waits
    module _ (q : Pair) (last : last_of (waiting_of m.group) ≡ Some q) where
      waiting_inside : IsInside m.state.chunk m.state.origin m.state.size q
      waiting_inside =
          let ending = here.ending in
          let P : Pair → Type 0 = IsInside m.state.chunk m.state.origin m.state.size in
          let pairs : All P m.pairs = All-front P m.pairs mine.released text.inside in
          let waits : All P mine.waiting = All-front P mine.waiting (mine.reading ++ mine.copied) (All-back P ending.0 (mine.waiting ++ (mine.reading ++ mine.copied)) (subst (All P) ending.1 pairs)) in
          let rest = last_is mine.waiting q last in
          All-head P q [] (All-back P rest.0 (q ∷ []) (subst (All P) rest.1 waits))

      pub read_begins : m.state.chunk * q.old < size v.origin
      read_begins = (let origin = (merged contents layers size v kept.whole m was).origin in omega (arith, waiting_inside.old, origin))

      pub read_room : m.state.chunk * (q.new + 1) ≤ size m.device
      read_room = omega (arith, waiting_inside.new, store_is)

      merge_read_told : (w : Volumed B) → AreAhead holds contents layers size faults done v w → (g : Merging B) → w.merge ≡ Some g
          → answers_event MergeRead (moving_of contents layers None w) ≡ is_answered (fate (layers g.device) (Reads (m.state.chunk * q.new) (count_of m.state.chunk m.state.origin q.old)))
      merge_read_told w a g there =
          let same = stays w a g there in
          ap (λ (o : Option (Merging B)). if_some (held_in (merge_seen contents layers o))
          (λ h. if_some (last_of h.waiting) (λ p. answers h.merge.store (Reads (h.merge.chunk * p.new) (count_of h.merge.chunk (length (contents w.origin) / 512) p.old))))) there
          ∙ ap (λ (x : Merging B). if_some (last_of (waiting_of x.group)) (λ p. is_answered (fate (layers g.device) (Reads (x.state.chunk * p.new) (count_of x.state.chunk (length (contents w.origin) / 512) p.old))))) same
          ∙ ap (λ (o : Option Pair). if_some o (λ p. is_answered (fate (layers g.device) (Reads (m.state.chunk * p.new) (count_of m.state.chunk (length (contents w.origin) / 512) p.old))))) last
          ∙ ap (λ k. is_answered (fate (layers g.device) (Reads (m.state.chunk * q.new) (count_of m.state.chunk k q.old))))
          (sectors_is (contents w.origin) m.state.origin (law w.origin ∙ ap (λ k. 512 * k) (a.origin.sized ∙ sym (merged contents layers size v kept.whole m was).origin)))

      pub merge_read_asks : Asks holds contents layers size faults done MergeRead (ToMerging (Reads (m.state.chunk * q.new) (count_of m.state.chunk m.state.origin q.old))) v
      merge_read_asks = (
        tt,
        (m, was, place_can m.state.chunk m.state.origin (size m.device) q.old q.new text.some text.allowed waiting_inside.old read_room),
        λ w a g there told tells. tells ∙ sym (merge_read_told w a g there),
      )

    -- where none waits, none is read
    pub read_undue : LooksAgree contents true m → next_read_of m.group ≡ None → is_due_of contents layers v MergeRead ≡ true → ⊥
    read_undue looks none due = false≢true (sym (looks.read v.flights ∙ ap (is_readable v.flights) none) ∙ sym (read_due contents layers v m was) ∙ due)

    -- the area before the current one
    pub area_room : IsInStep contents layers size m → m.state.chunk * (area_place m.state.chunk (m.state.current - 1) + 1) ≤ size m.device
    area_room step =
        let chunk : ℕ = m.state.chunk in
        let full : m.state.current ≤ length m.pairs / (32 * chunk) = below_full (32 * chunk) m.state.current m.state.filled (length m.pairs) (omega (arith, text.some)) step.count in
        let last : ℕ = length m.pairs / (32 * chunk) in
        by_both (chunk * (area_place chunk (m.state.current - 1) + 1)) (chunk * (area_place chunk last + 1)) m.state.size (size m.device)
        (areas_up chunk (m.state.current - 1) last (omega (arith, full))) step.formed.room step.sized

    area_told : (w : Volumed B) → AreAhead holds contents layers size faults done v w → (g : Merging B) → w.merge ≡ Some g
        → answers_event MergeAreaRead (moving_of contents layers None w) ≡ is_answered (fate (layers g.device) (Reads (m.state.chunk * area_place m.state.chunk (m.state.current - 1)) m.state.chunk))
    area_told w a g there =
        ap (λ (o : Option (Merging B)). if_some (held_in (merge_seen contents layers o)) (λ h. answers h.merge.store (Reads (h.merge.chunk * area_place h.merge.chunk (h.merge.current - 1)) h.merge.chunk))) there
        ∙ ap (λ (x : Merging B). is_answered (fate (layers g.device) (Reads (x.state.chunk * area_place x.state.chunk (x.state.current - 1)) x.state.chunk))) (stays w a g there)

    pub area_read_asks : IsInStep contents layers size m → Asks holds contents layers size faults done MergeAreaRead (ToMerging (Reads (m.state.chunk * area_place m.state.chunk (m.state.current - 1)) m.state.chunk)) v
    area_read_asks step = (
      tt,
      (m, was, area_can m.state.chunk (size m.device) (m.state.current - 1) text.some text.allowed (area_room step)),
      λ w a g there told tells. tells ∙ sym (area_told w a g there),
    )
