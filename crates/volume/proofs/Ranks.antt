-- What is known of the snapshot at a place: it is the first with its number, and its store is as large as the device.
use Rattle.std.proofs.Common.{◌≡◌, ℕ, ◌*◌, ◌<◌, true, false, List, length, get_or, map, Some, None, sym, ◌∙◌, ap, arith}
use Rattle.std.specs.Prelude.{◌==◌, nat_lt, AllPairs, if◌then◌else◌}
use Rattle.std.specs.List.{position_or_len}
use Rattle.std.proofs.lemmas.List.{length-map, get_or-map}
use Rattle.std.proofs.lemmas.List.Sums.{position_or_len_is}
use Rattle.device.specs.Layers.{Layer, is_loud}
use Rattle.snapshot.specs.Kept.{Kept, books_of as snap_books}
use Rattle.volume_laws.specs.Books.{SnapBooks}
use Rattle.volume_laws.specs.Held.{SnapHolds}
use Rattle.volume.specs.Volumed.{Volumed}
use Rattle.snapshot_list.specs.Numbers.{number_of_snap}
use Rattle.volume.specs.Whole.{IsWhole}
use Rattle.snapshot_list.specs.Finding.{place_of_snap}

below-other : (m n : ℕ) → m < n → (m == n) ≡ false
below-other m n lt = search (arith)

same-number : (n : ℕ) → (n == n) ≡ true
same-number n = search (arith)

below-true : (m n : ℕ) → m < n → nat_lt m n ≡ true
below-true m n lt = search (arith)

-- numbers ascend, so a snapshot is the first that has its number
pub place_is : {B : Type 0} (xs : List (Kept B)) (k : ℕ) (d : Kept B) → AllPairs (λ m n. m < n) (map number_of_snap xs) → k < length xs → place_of_snap (get_or xs k d).number xs ≡ Some k
place_is xs k d rising within =
    let n : ℕ = (get_or xs k d).number in
    let len : length (map number_of_snap xs) ≡ length xs = length-map xs number_of_snap in
    let here : get_or (map number_of_snap xs) k 0 ≡ n = get_or-map number_of_snap xs k d 0 within in
    let before : (j : ℕ) → j < k → ((get_or xs j d).number == n) ≡ false = λ j l.
    (let less : get_or (map number_of_snap xs) j 0 < get_or (map number_of_snap xs) k 0 = rising j k 0 l (omega (arith, within, len)) in
    let there : get_or (map number_of_snap xs) j 0 ≡ (get_or xs j d).number = get_or-map number_of_snap xs j d 0 (omega (arith, l, within)) in
    below-other (get_or xs j d).number n (omega (arith, less, here, there))) in
    let at : position_or_len (λ s. s.number == n) xs ≡ k = position_or_len_is (λ s. s.number == n) xs k d (omega (arith, within)) before (λ lt. same-number n) in
    ap (λ i. if nat_lt i (length xs) then Some i else None) at ∙ ap (λ b. if b then Some k else None) (below-true k (length xs) within)

one-size : (a b c : ℕ) → a ≡ 512 * b → a ≡ 512 * c → b ≡ c
one-size a b c e f = omega (arith, e, f)

-- a live snapshot's store is as large as its device
pub size_is : {B : Type 0} (contents : B → List ℕ) (layers : B → List Layer) (size : B → ℕ) (v : Volumed B) → IsWhole contents layers size v → ((d : B) → length (contents d) ≡ 512 * size d)
    → (k : ℕ) (d : Kept B) → k < length v.snaps → (get_or v.snaps k d).live ≡ true → (get_or v.snaps k d).state.size ≡ size (get_or v.snaps k d).device
size_is contents layers size v whole wholes k d within live =
    let s : Kept _ = get_or v.snaps k d in
    let books : List SnapBooks = map (snap_books contents layers) v.snaps in
    let held : SnapHolds (is_loud (layers v.origin)) (contents v.origin) v.flights (get_or books k (snap_books contents layers d)) = whole.holds.snaps k (snap_books contents layers d) (omega (arith, within, length-map v.snaps (snap_books contents layers))) in
    let mine : SnapHolds (is_loud (layers v.origin)) (contents v.origin) v.flights (snap_books contents layers s) = rw (sym (get_or-map (snap_books contents layers) v.snaps k d (snap_books contents layers d) within)) held in
    one-size (length (contents s.device)) s.state.size (size s.device) (mine.alive live).text.whole (wholes s.device)
