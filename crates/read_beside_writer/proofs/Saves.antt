-- Why what is read is what the snapshot showed at the first moment.
use Rattle.std.proofs.Common.{◌≡◌, ◌≢◌, ℕ, ◌+◌, ◌*◌, ◌/◌, ◌%◌, ◌<◌, ◌≤◌, List, [], ◌∷◌, ◌++◌, ◌-◌, length, take, drop, get_or, Option, None, Some, IfSome, refl, arith, ap, ◌∙◌, sym, append_assoc, add_assoc, subst, inl, inr}
use Rattle.std.proofs.Math.Nat.{mod-lt, div-add-mod'}
use Rattle.std.proofs.lemmas.Nat.{div-mul-add, mod-mul-add}
use Rattle.std.proofs.lemmas.Bool.{cases_lt}
use Rattle.std.proofs.lemmas.List.{places}
use Rattle.sector.specs.declared.pair.Pair.{Pair}
use Rattle.cow_format.specs.Pairs.{pairs_of}
use Rattle.cow_format.specs.Places.{slot}
use Rattle.cow_format.specs.Picture.{place_of, byte_of}
use Rattle.read_beside_writer.specs.Moments.{Files, AreRead, IsLive, IsSavedFirst, IsSaving}
use Rattle.read_beside_writer.specs.Known.{AreKnown, AreOfOrigin, AreShown, WereAll, shown_at}
use Rattle.cow_image.specs.Shown.{shown}
use Rattle.cow_image.proofs.Shown.{byte_got}
use Rattle.cow_image.proofs.Exports.{bytes_shown}
use Rattle.read_beside_writer.proofs.Places.{place_front, none_front}
use Rattle.read_beside_writer.proofs.Slots.{behind, front, one_more, none_more}
use borrow.Rule.Slice.PartMut.{put_mid}

-- what was known is known later
pub known_later : (chunk : ℕ) (h : ℕ → Files) (now then : ℕ) (ps : List Pair) → now ≤ then → AreKnown chunk h now ps → AreKnown chunk h then ps
known_later chunk h now then ps le known = λ later after live. known later (omega arith) live

-- a pair more is known
pub known_more : (chunk : ℕ) (h : ℕ → Files) (now m then : ℕ) (ps qs : List Pair) (x : Pair) → 0 < chunk → IsSaving chunk h → AreKnown chunk h now ps → now ≤ m → m ≤ then → x ≡ slot chunk (h m).store (length ps) → x.new ≢ 0 → qs ≡ ps ++ x ∷ [] → AreKnown chunk h then qs
known_more chunk h now m then ps qs x some saving known from to here used is = λ later after live.
    (let (alive, saved) = saving m later (omega arith) live in
    let (more, are) = one_more chunk (h m).store ps x some (behind ps _ (known m from alive)) here used in
    let (others, grown) = behind (pairs_of chunk (h m).store) (pairs_of chunk (h later).store) saved.grows in
    front qs (pairs_of chunk (h later).store) (more ++ others) (grown ∙ ap (λ (l : List Pair). l ++ others) are ∙ append_assoc (ps ++ x ∷ []) more others ∙ ap (λ (l : List Pair). l ++ (more ++ others)) (sym is)))

-- an empty slot tells that these were all
pub all_known : (chunk : ℕ) (h : ℕ → Files) (now m first last : ℕ) (ps : List Pair) (x : Pair) → 0 < chunk → AreKnown chunk h now ps → now ≤ m → first ≤ m → m ≤ last → x ≡ slot chunk (h m).store (length ps) → x.new ≡ 0 → WereAll chunk h first last ps
all_known chunk h now m first last ps x some known from low high here empty = (m, low, high, λ live. none_more chunk (h m).store ps x some (behind ps _ (known m from live)) here empty)

-- the snapshot shows the same as at the first moment
pub same_shown : (chunk : ℕ) (h : ℕ → Files) (m i : ℕ) → 0 < chunk → IsSaving chunk h → IsLive chunk (h m) → i < length (h 0).origin → shown_at chunk h m i ≡ shown_at chunk h 0 i
same_shown chunk h m i some saving live inside =
    by (place_of (pairs_of chunk (h 0).store) (i / (512 * chunk))) (place_of (pairs_of chunk (h m).store) (i / (512 * chunk))) refl refl
  where
    saved : IsSavedFirst chunk (h 0) (h m)
    saved = (saving 0 m (omega arith) live).1

    by : (p q : Option ℕ) → place_of (pairs_of chunk (h 0).store) (i / (512 * chunk)) ≡ p → place_of (pairs_of chunk (h m).store) (i / (512 * chunk)) ≡ q → shown_at chunk h m i ≡ shown_at chunk h 0 i
    by (Some p) q was is =
        let (more, grown) = behind (pairs_of chunk (h 0).store) (pairs_of chunk (h m).store) saved.grows in
        let now : place_of (pairs_of chunk (h m).store) (i / (512 * chunk)) ≡ Some p = ap (λ (l : List Pair). place_of l (i / (512 * chunk))) grown ∙ place_front (pairs_of chunk (h 0).store) more (i / (512 * chunk)) p was in
        ap (byte_of chunk (h m).origin (h m).store i) now
        ∙ saved.stays (i / (512 * chunk)) p (i % (512 * chunk)) was (mod-lt i (omega arith))
        ∙ sym (ap (byte_of chunk (h 0).origin (h 0).store i) was)
    by None (Some q) was is =
        ap (byte_of chunk (h m).origin (h m).store i) is ∙ saved.copied i q inside was is ∙ sym (ap (byte_of chunk (h 0).origin (h 0).store i) was)
    by None None was is =
        ap (byte_of chunk (h m).origin (h m).store i) is ∙ saved.saved i is ∙ sym (ap (byte_of chunk (h 0).origin (h 0).store i) was)

-- a byte of the origin, whose chunk had no pair when the pairs were looked at behind the read
pub own_shown : (chunk : ℕ) (h : ℕ → Files) (m read now later i : ℕ) (ps : List Pair) → 0 < chunk → IsSaving chunk h → m ≤ read → WereAll chunk h read now ps → now ≤ later → IsLive chunk (h later) → place_of ps (i / (512 * chunk)) ≡ None → i < length (h 0).origin → get_or (h m).origin i 0 ≡ shown_at chunk h 0 i
own_shown chunk h m read now later i ps some saving before (looked, from, to, all) after live none inside =
    let (alive, _) = saving looked later (omega arith) live in
    let (lived, saved) = saving m looked (omega arith) alive in
    let (more, grown) = behind (pairs_of chunk (h m).store) (pairs_of chunk (h looked).store) saved.grows in
    let still : place_of (pairs_of chunk (h m).store ++ more) (i / (512 * chunk)) ≡ None = ap (λ (l : List Pair). place_of l (i / (512 * chunk))) (sym grown ∙ all alive) ∙ none in
    let own : place_of (pairs_of chunk (h m).store) (i / (512 * chunk)) ≡ None = none_front (pairs_of chunk (h m).store) more (i / (512 * chunk)) still in
    sym (ap (byte_of chunk (h m).origin (h m).store i) own) ∙ same_shown chunk h m i some saving lived inside

-- a byte of a copy
pub copy_shown : (chunk : ℕ) (h : ℕ → Files) (now m later i p : ℕ) (ps : List Pair) → 0 < chunk → IsSaving chunk h → AreKnown chunk h now ps → now ≤ m → m ≤ later → IsLive chunk (h later) → place_of ps (i / (512 * chunk)) ≡ Some p → i < length (h 0).origin → get_or (h m).store (512 * (chunk * p) + i % (512 * chunk)) 0 ≡ shown_at chunk h 0 i
copy_shown chunk h now m later i p ps some saving known from to live place inside =
    let (alive, _) = saving m later to live in
    let (more, are) = behind ps (pairs_of chunk (h m).store) (known m from alive) in
    let here : place_of (pairs_of chunk (h m).store) (i / (512 * chunk)) ≡ Some p = ap (λ (l : List Pair). place_of l (i / (512 * chunk))) are ∙ place_front ps more (i / (512 * chunk)) p place in
    sym (ap (byte_of chunk (h m).origin (h m).store i) here) ∙ same_shown chunk h m i some saving alive inside

-- bytes behind one of the same chunk
same_chunk : (n from i : ℕ) → from % n + i < n → (from + i) / n ≡ from / n
same_chunk n from i less =
    let split : from / n * n + from % n ≡ from = div-add-mod' from n in
    let at : from + i ≡ from / n * n + (from % n + i) = omega (arith, split) in
    ap (λ (k : ℕ). k / n) at ∙ div-mul-add (from / n) n (from % n + i) less

same_rest : (n from i : ℕ) → from % n + i < n → (from + i) % n ≡ from % n + i
same_rest n from i less =
    let split : from / n * n + from % n ≡ from = div-add-mod' from n in
    let at : from + i ≡ from / n * n + (from % n + i) = omega (arith, split) in
    ap (λ (k : ℕ). k % n) at ∙ mod-mul-add (from / n) n (from % n + i) less

-- bytes of a chunk without a pair
pub part_own : (chunk : ℕ) (h : ℕ → Files) (first read now from : ℕ) (ps : List Pair) (bytes : List ℕ) → 0 < chunk → AreOfOrigin chunk h first read now ps from bytes → from % (512 * chunk) + length bytes ≤ 512 * chunk → place_of ps (from / (512 * chunk)) ≡ None → AreShown chunk h now from bytes (length bytes)
part_own chunk h first read now from ps bytes some (saving, inside, origin, all, known) part none = λ later after live i lt.
    (let (m, low, high, is) = origin i lt in
    let less : from % (512 * chunk) + i < 512 * chunk = omega arith in
    let within : from + i < length (h 0).origin = omega arith in
    is ∙ own_shown chunk h m read now later (from + i) ps some saving high all after live (ap (place_of ps) (same_chunk (512 * chunk) from i less) ∙ none) within)

-- bytes of a copy
pub part_copy : (chunk : ℕ) (h : ℕ → Files) (first read now then from p : ℕ) (ps : List Pair) (old new : List ℕ) → 0 < chunk → AreOfOrigin chunk h first read now ps from old → from % (512 * chunk) + length old ≤ 512 * chunk → place_of ps (from / (512 * chunk)) ≡ Some p → length new ≡ length old → AreRead (λ m. (h m).store) now then (512 * chunk * p + from % (512 * chunk)) new → AreShown chunk h then from new (length old)
part_copy chunk h first read now then from p ps old new some (saving, inside, origin, all, known) part place long copied = λ later after live i lt.
    (let (m, low, high, is) = copied i (omega arith) in
    let less : from % (512 * chunk) + i < 512 * chunk = omega arith in
    let within : from + i < length (h 0).origin = omega arith in
    let rest = same_rest (512 * chunk) from i less in
    let front : 512 * chunk * p ≡ 512 * (chunk * p) = grind arith in
    let at : 512 * chunk * p + from % (512 * chunk) + i ≡ 512 * (chunk * p) + (from + i) % (512 * chunk) = omega (arith, rest, front) in
    is ∙ ap (λ (n : ℕ). get_or (h m).store n 0) at ∙ copy_shown chunk h now m later (from + i) p ps some saving known low (omega arith) live (ap (place_of ps) (same_chunk (512 * chunk) from i less) ∙ place) within)

-- a part of what was read of the origin
pub of_part : (chunk : ℕ) (h : ℕ → Files) (first read now then at done len room : ℕ) (ps : List Pair) (bytes out : List ℕ) → AreOfOrigin chunk h first read now ps at bytes → now ≤ then → room ≡ len → done + len ≤ length out → length out ≡ length bytes → ((i : ℕ) → done ≤ i → get_or out i 0 ≡ get_or bytes i 0) → length (take room (drop done out)) ≡ len → AreOfOrigin chunk h first read then ps (at + done) (take room (drop done out))
of_part chunk h first read now then at done len room ps bytes out (saving, inside, origin, (looked, from, to, all), known) after same fits long rest short = (
  saving,
  omega arith,
  λ i lt.
      (let less : i < room = omega arith in
      let (m, low, high, is) = origin (done + i) (omega arith) in
      (m, low, high, byte_got out done room i less ∙ rest (done + i) (omega arith) ∙ is ∙ ap (λ (n : ℕ). get_or (h m).origin n 0) (sym (add_assoc at done i)))),
  (looked, from, omega arith, all),
  known_later chunk h now then ps after known,
)

-- a part more is shown
pub shown_more : (chunk : ℕ) (h : ℕ → Files) (now then at done len room : ℕ) (out part : List ℕ) → room ≡ len → done + len ≤ length out → length part ≡ len → now ≤ then → AreShown chunk h now at out done → AreShown chunk h then (at + done) part len → AreShown chunk h then at (put_mid done room out part) (done + len)
shown_more chunk h now then at done len room out part same fits long le before here = λ later after live i lt. elim (cases_lt i done) [
  | inl less ↦
      (let kept : get_or (put_mid done room out part) i 0 ≡ get_or out i 0 = grind (arith, places) in
      kept ∙ before later (omega arith) live i less)
  | inr more ↦
      (let put : get_or (put_mid done room out part) i 0 ≡ get_or part (i - done) 0 = grind (arith, places) in
      let there : at + done + (i - done) ≡ at + i = omega arith in
      put ∙ here later after live (i - done) (omega arith) ∙ ap (shown_at chunk h 0) there)
]

-- and the rest stays
pub rest_stays : (done len room : ℕ) (bytes out part : List ℕ) → room ≡ len → done + len ≤ length out → length part ≡ len → ((i : ℕ) → done ≤ i → get_or out i 0 ≡ get_or bytes i 0) → (i : ℕ) → done + len ≤ i → get_or (put_mid done room out part) i 0 ≡ get_or bytes i 0
rest_stays done len room bytes out part same fits long rest i le =
    let kept : get_or (put_mid done room out part) i 0 ≡ get_or out i 0 = grind (arith, places) in
    kept ∙ rest i (omega arith)

-- all that was asked for
pub all_shown : (chunk : ℕ) (h : ℕ → Files) (now m at n : ℕ) (out : List ℕ) → length out ≡ n → AreShown chunk h now at out n → now ≤ m → IsLive chunk (h m) → out ≡ shown chunk (h 0).origin (h 0).store (pairs_of chunk (h 0).store) at n
all_shown chunk h now m at n out long are le live = bytes_shown chunk (h 0).origin (h 0).store (pairs_of chunk (h 0).store) at n out long (are m le live)

-- what holds of a history that may be known
pub of_history : (history : Option (ℕ → Files)) (h : ℕ → Files) (P : (ℕ → Files) → Type 0) → history ≡ Some h → IfSome history P → P h
of_history history h P is holds = subst (λ (o : Option (ℕ → Files)). IfSome o P) is holds
