-- A write at a copy's place, inside its chunk, leaves a snapshot at rest.
use Rattle.std.proofs.Common.{◌≡◌, ◌≢◌, inl, inr, ℕ, ◌+◌, ◌*◌, ◌/◌, ◌%◌, ◌≤◌, true, false, List, length, get_or, arith, ap, ◌∙◌, sym, subst}
use Rattle.std.specs.Prelude.{Some}
use Rattle.std.proofs.lemmas.Bool.{cases_Bool, cond-true, cond-false, true≢false}
use Rattle.std.proofs.lemmas.Nat.{div-add-mod'}
use Rattle.sector.specs.Bytes.{with_part, with_sectors}
use Rattle.sector.specs.declared.pair.Pair.{Pair}
use Rattle.device.specs.declared.operation.Operation.TheVariants.{Writes}
use Rattle.cow_format.specs.Places.{area_place, is_area_place, ChangesOnly}
use Rattle.cow_format.specs.Pairs.{pairs_of, IsInside}
use Rattle.cow_format.specs.Picture.{place_of}
use Rattle.cow_format.proofs.AreaPlaces.{place_is}
use Rattle.cow_format.proofs.Slots.{pairs-outside}
use Rattle.cow_format.proofs.Pictures.{place_found}
use Rattle.whole_commands.specs.Order.{IsInOrder}
use Rattle.whole_commands.proofs.Parts.{part_only}
use Rattle.whole_commands.proofs.Commits.{tail_kept}
use Rattle.whole_commands.proofs.Laws.{chunk_fits}
use Rattle.whole_commands.specs.Devices.{answers, written_by}
use Rattle.event_machine.specs.Held.{SnapHeld, with_store}
use Rattle.event_machine.specs.Rest.{IsKept, IsResting}

-- a change of one copy's place
order_place : (chunk origin size n : ℕ) (old new : List ℕ) → IsInOrder chunk origin size old → is_area_place chunk n ≡ false → ChangesOnly chunk n old new → IsInOrder chunk origin size new × (pairs_of chunk new ≡ pairs_of chunk old)
order_place chunk origin size n old new order free only =
    let same : pairs_of chunk new ≡ pairs_of chunk old = pairs-outside chunk n old new order.some free only in
    let apart : (a : ℕ) → area_place chunk a ≢ n = λ a e. true≢false (sym (place_is chunk a order.some) ∙ ap (is_area_place chunk) e ∙ free) in (
      record {
        some = order.some;
        small = order.small;
        origin_small = order.origin_small;
        whole = only.len ∙ order.whole;
        pairs = rw same order.pairs;
        tail = rw same (tail_kept chunk n (length (pairs_of chunk old) / (32 * chunk)) (length (pairs_of chunk old) % (32 * chunk)) old new only (apart (length (pairs_of chunk old) / (32 * chunk))) order.tail);
      },
      same,
    )

-- the bytes of a write at a place
place_only : (chunk n first count : ℕ) (store bytes : List ℕ) → first % chunk + count ≤ chunk → length bytes ≡ 512 * count → 512 * (chunk * n + chunk) ≤ length store → ChangesOnly chunk n store (with_sectors store (chunk * n + first % chunk) bytes)
place_only chunk n first count store bytes inside len fits =
    let at : 512 * (chunk * n) + 512 * (first % chunk) ≡ 512 * (chunk * n + first % chunk) = omega arith in
    subst (λ (x : ℕ). ChangesOnly chunk n store (with_part store x bytes)) at (part_only chunk n (512 * (first % chunk)) store bytes (omega arith) (omega arith))

-- a range inside one chunk
inside_chunk : (chunk first count : ℕ) → first + count ≤ chunk * (first / chunk) + chunk → first % chunk + count ≤ chunk
inside_chunk chunk first count piece =
    let whole : first / chunk * chunk + first % chunk ≡ first = div-add-mod' first chunk in
    let turn : first / chunk * chunk ≡ chunk * (first / chunk) = grind arith in
    omega arith

pub place_rests : (sectors n first count : ℕ) (bytes : List ℕ) (h : SnapHeld) → IsResting sectors h → h.snap.live ≡ true → place_of h.pairs (first / h.snap.chunk) ≡ Some n → first + count ≤ h.snap.chunk * (first / h.snap.chunk) + h.snap.chunk → length bytes ≡ 512 * count →
    IsResting sectors (with_store h (written_by h.snap.store (Writes (h.snap.chunk * n + first % h.snap.chunk) count) (with_sectors h.snap.store.bytes (h.snap.chunk * n + first % h.snap.chunk) bytes)))
place_rests sectors n first count bytes h rest on some piece len =
    let chunk : ℕ = h.snap.chunk in
    let store : List ℕ = h.snap.store.bytes in
    let at : ℕ = chunk * n + first % chunk in
    let kept : IsKept sectors h = rest.live on in
    let (size, order) = kept.order in
    let named : place_of (pairs_of chunk store) (first / chunk) ≡ Some n = ap (λ (ps : List Pair). place_of ps (first / chunk)) kept.pairs ∙ some in
    let (k, lt, here) = place_found (pairs_of chunk store) (first / chunk) n named in
    let d : Pair = record { old = 0; new = 0 } in
    let fits : IsInside chunk sectors size (get_or (pairs_of chunk store) k d) = order.pairs.inside k d lt in
    let new_is : (get_or (pairs_of chunk store) k d).new ≡ n = (here d).1 in
    let free : is_area_place chunk n ≡ false = subst (λ (x : ℕ). is_area_place chunk x ≡ false) new_is fits.free in
    let room : chunk * (n + 1) ≤ size = subst (λ (x : ℕ). chunk * (x + 1) ≤ size) new_is fits.new in
    let only : ChangesOnly chunk n store (with_sectors store at bytes) = place_only chunk n first count store bytes (inside_chunk chunk first count piece) len (chunk_fits chunk n size store order.whole room) in
    let both = order_place chunk sectors size n store (with_sectors store at bytes) order free only in
    let now : List ℕ = (written_by h.snap.store (Writes at count) (with_sectors store at bytes)).bytes in
    let after : IsInOrder chunk sectors size now × (pairs_of chunk now ≡ h.pairs) = elim (cases_Bool (answers h.snap.store (Writes at count))) [
      | inl ok ↦ (let is : now ≡ with_sectors store at bytes = cond-true _ _ _ ok in rw is (both.0, both.1 ∙ kept.pairs))
      | inr failed ↦ (let is : now ≡ store = cond-false _ _ _ failed in rw is (order, kept.pairs))
    ] in
    record {
      tried = rest.tried;
      copies = rest.copies;
      marks = rest.marks;
      live = λ live. record { order = (size, after.0); pairs = after.1; next = kept.next; zeroed = kept.zeroed; firm = kept.firm; unmarked = kept.unmarked };
    }
