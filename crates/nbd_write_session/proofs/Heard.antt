-- What was heard, as a range of a room.
use Rattle.std.proofs.Common.{◌≡◌, ℕ, ◌+◌, ◌-◌, ◌≤◌, min, List, ◌++◌, length, take, drop, Option, None, Some, arith, rules, refl, ap, ◌∙◌, sym, subst, slice_range, length-append, length-drop}
use Rattle.std.proofs.lemmas.List.{append-nil, places, same_lists, drop-append-le, drop-drop, drop-take, length-take-le}
use Rattle.std.proofs.lemmas.Slice.{between_is}
use Rattle.std.specs.Io.KnownBytes.{Consumes, Keeps}
use Rattle.nbd_write_session.specs.Stream.{Stream, left, rest_of, thinned}
use Rattle.nbd_write_session.proofs.Asked.{heard_kept, left_kept}
use borrow.Rule.Slice.PartMut.{put_mid}

pub length_range : (room : List ℕ) (from to : ℕ) → from ≤ to → to ≤ length room → length (slice_range room from to) ≡ to - from
length_range room from to order inside =
    let behind : length (drop from room) ≡ length room - from = length-drop from room in
    let there : to - from ≤ length (drop from room) = omega (arith, order, inside, behind) in
    length-take-le (to - from) (drop from room) there

-- some bytes less at the front
pub range_dropped : (room : List ℕ) (from to n : ℕ) → from + n ≤ to → slice_range room (from + n) to ≡ drop n (slice_range room from to)
range_dropped room from to n inside =
    let split : n + (to - (from + n)) ≡ to - from = omega (arith, inside) in
    sym (ap (λ k. drop n (take k (drop from room))) (sym split)
    ∙ drop-take n (to - (from + n)) (drop from room)
    ∙ ap (take (to - (from + n))) (drop-drop n from room))

-- what was heard, and how many that nobody wants are to come
abbrev pub stream : List ℕ → ℕ → Stream
stream heard unwanted = record { heard = heard; unwanted = unwanted }

stream_same : (a b : List ℕ) (m n : ℕ) → a ≡ b → m ≡ n → stream a m ≡ stream b n
stream_same a b m n same also =
    let P : List ℕ → Type 0 = λ l. stream a m ≡ stream l n in
    let Q : ℕ → Type 0 = λ k. stream a m ≡ stream a k in
    subst P same (subst Q also refl)

-- what nobody wants goes
range_thinned_by : (room : List ℕ) (from to count gone : ℕ) → from ≤ to → length (slice_range room from to) ≡ to - from → gone ≡ min count (to - from) → stream (slice_range room (from + gone) to) (count - gone) ≡ thinned (stream (slice_range room from to) count)
range_thinned_by room from to count gone order len is =
    let same : gone ≡ min count (length (slice_range room from to)) = is ∙ ap (min count) (sym len) in
    let there : from + gone ≤ to = omega (arith, order, is) in
    stream_same (slice_range room (from + gone) to) (drop (min count (length (slice_range room from to))) (slice_range room from to)) (count - gone) (count - min count (length (slice_range room from to)))
    (range_dropped room from to gone there ∙ ap (λ k. drop k (slice_range room from to)) same)
    (ap (λ k. count - k) same)

pub range_thinned : (room : List ℕ) (from to count gone : ℕ) → from ≤ to → to ≤ length room → gone ≡ min count (to - from) → stream (slice_range room (from + gone) to) (count - gone) ≡ thinned (stream (slice_range room from to) count)
range_thinned room from to count gone order inside is = range_thinned_by room from to count gone order (length_range room from to order inside) is

take_put : (room buf : List ℕ) (at n : ℕ) → at ≤ length room → length buf ≡ length room - at → n ≤ length buf → take (at + n) (put_mid at (length room - at) room buf) ≡ take at room ++ take n buf
take_put room buf at n inside len few = same_lists _ _ (search (rules, places)) (λ k d h. grind (arith, places))

-- bytes were put behind what was heard
pub range_put : (room buf : List ℕ) (from to n : ℕ) → from ≤ to → to ≤ length room → length buf ≡ length room - to → n ≤ length buf → slice_range (put_mid to (length room - to) room buf) from (to + n) ≡ slice_range room from to ++ take n buf
range_put room buf from to n order inside len few =
    let there : length (take to room) ≡ to = length-take-le to room inside in
    let front : from ≤ length (take to room) = omega (arith, order, there) in
    between_is (put_mid to (length room - to) room buf) from (to + n)
    ∙ ap (drop from) (take_put room buf to n inside len few)
    ∙ drop-append-le from (take to room) (take n buf) front
    ∙ ap (λ (l : List ℕ). l ++ take n buf) (sym (between_is room from to))

-- or none were
pub range_put_none : (room buf : List ℕ) (from to : ℕ) → from ≤ to → to ≤ length room → length buf ≡ length room - to → slice_range (put_mid to (length room - to) room buf) from to ≡ slice_range room from to
range_put_none room buf from to order inside len =
    let none : to + 0 ≡ to = omega arith in
    let few : 0 ≤ length buf = omega arith in
    let P : ℕ → Type 0 = λ k. slice_range (put_mid to (length room - to) room buf) from k ≡ slice_range room from to ++ take 0 buf in
    subst P none (range_put room buf from to 0 order inside len few) ∙ append-nil (slice_range room from to)

-- bytes were put behind what was heard, and those that nobody wants went: what is left stays
pub put_kept : (room buf : List ℕ) (from to n unwanted gone : ℕ) (s : Stream) (old new : Option (List ℕ)) → from ≤ to → to ≤ length room → length buf ≡ length room - to → n ≤ length buf → gone ≡ min unwanted ((to + n) - from) → stream (slice_range room from to) unwanted ≡ s → Consumes old new (take n buf) → Keeps (left s old) (left (stream (slice_range (put_mid to (length room - to) room buf) (from + gone) (to + n)) (unwanted - gone)) new)
put_kept room buf from to n unwanted gone s old new order inside len few is same came =
    let heard : List ℕ = slice_range room from to in
    let room' : List ℕ = put_mid to (length room - to) room buf in
    let put : slice_range room' from (to + n) ≡ heard ++ take n buf = range_put room buf from to n order inside len few in
    let behind : length heard ≡ to - from = length_range room from to order inside in
    let more : length (take n buf) ≡ n = length-take-le n buf few in
    let both : length (heard ++ take n buf) ≡ length heard + length (take n buf) = length-append heard (take n buf) in
    let all : length (slice_range room' from (to + n)) ≡ length (heard ++ take n buf) = ap length put in
    let size : length (slice_range room' from (to + n)) ≡ (to + n) - from = omega (arith, order, behind, more, both, all) in
    let there : from ≤ to + n = omega (arith, order) in
    let after : stream (slice_range room' (from + gone) (to + n)) (unwanted - gone) ≡ thinned (stream (heard ++ take n buf) unwanted) =
    range_thinned_by room' from (to + n) unwanted gone there size is ∙ ap (λ (l : List ℕ). thinned (stream l unwanted)) put in
    let P : Stream → Type 0 = λ t. Keeps (left t old) (left (stream (slice_range room' (from + gone) (to + n)) (unwanted - gone)) new) in
    let Q : Stream → Type 0 = λ t. Keeps (left (stream heard unwanted) old) (left t new) in
    subst P same (subst Q (sym after) (heard_kept heard (take n buf) unwanted old new came))

-- no byte came: what is left stays
pub none_kept : (buf : List ℕ) (n : ℕ) (s t : Stream) (old new : Option (List ℕ)) → n ≡ 0 → t ≡ s → Consumes old new (take n buf) → Keeps (left s old) (left t new)
none_kept buf n s t None new none same came = tt
none_kept buf n s t (Some x) None none same came = absurd came
none_kept buf n s t (Some x) (Some y) none same came =
    let P : ℕ → Type 0 = λ k. Consumes (Some x) (Some y) (take k buf) in
    let is : x ≡ y = subst P none came in
    ap (λ (u : Stream). rest_of u y) same ∙ ap (rest_of s) (sym is)

-- the reader keeps what it has
pub same_kept : (s t : Stream) (old new : Option (List ℕ)) → t ≡ s → Keeps old new → Keeps (left s old) (left t new)
same_kept s t old new same kept = let P : Stream → Type 0 = λ u. Keeps (left s old) (left u new) in subst P (sym same) (left_kept s old new kept)

-- how many bytes the room has from one on
pub room_behind : (room : List ℕ) (at : ℕ) → at ≤ length room → length (take (length room - at) (drop at room)) ≡ length room - at
room_behind room at inside =
    let behind : length (drop at room) ≡ length room - at = length-drop at room in
    let there : length room - at ≤ length (drop at room) = omega (arith, behind) in
    length-take-le (length room - at) (drop at room) there
