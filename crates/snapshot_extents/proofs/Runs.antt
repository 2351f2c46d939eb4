-- The range of chunks in a row.
use Rattle.std.proofs.Common.{◌≡◌, ℕ, ◌+◌, ◌-◌, ◌*◌, ◌<◌, ◌≤◌, List, length, take, drop, get_or, refl, ◌∙◌, ap, arith}
use Rattle.std.specs.Prelude.{Option, Some, None, IfSome}
use Rattle.std.specs.List.{All}
use Rattle.std.proofs.lemmas.List.{length-take, length-drop}
use Rattle.sector.specs.declared.pair.Pair.{Pair}
use Rattle.cow_format.proofs.Pictures.{place_found}
use Rattle.cow_image.specs.Runs.{IsRun}
use Rattle.cow_image.specs.Shown.{shown}
use Rattle.cow_image.proofs.Ranges.{own_shown, copy_shown}
use Rattle.snapshot_extents.specs.declared.range.Range.{Range}
use Rattle.snapshot_extents.specs.Ranges.{bytes_from, Has, IsShown, byte_of_place}

room_of : (chunk chunks done end : ℕ) → end ≤ done + chunks * chunk → 0 + 512 * (end - done) ≤ chunks * (512 * chunk)
room_of chunk chunks done end le = let more : end - done ≤ chunks * chunk = omega arith in grind arith

own_start : (chunk number done : ℕ) → done ≡ chunk * number → 512 * done ≡ 512 * chunk * number + 0
own_start chunk number done at = grind arith

copy_start : (chunk place : ℕ) → 512 * (chunk * place) ≡ 512 * chunk * place + 0
copy_start chunk place = grind arith

back_of : (chunk number done : ℕ) → done ≡ chunk * number → 512 * (chunk * number) + 0 ≡ 512 * done
back_of chunk number done at = grind arith

length_part : (at len : ℕ) (xs : List ℕ) → at + len ≤ length xs → length (take len (drop at xs)) ≡ len
length_part at len xs fits = simp (length-take, length-drop) (omega arith)

pub shown_run : (chunk : ℕ) (pairs : List Pair) (number chunks done end : ℕ) (place : Option ℕ) (o b : List ℕ) → 0 < chunk → IsRun pairs number place chunks → done ≡ chunk * number → end ≤ done + chunks * chunk → Has (512 * done) (512 * (end - done)) o b (byte_of_place chunk place) → bytes_from (512 * done) (512 * (end - done)) o b (byte_of_place chunk place) ≡ shown chunk o b pairs (512 * done) (512 * (end - done))
shown_run chunk pairs number chunks done end None o b some run at le has =
    own_shown chunk number 0 (512 * done) (512 * (end - done)) chunks o b _ pairs some run (room_of chunk chunks done end le) (own_start chunk number done at) has refl (length_part (512 * done) (512 * (end - done)) o has)
    ∙ ap (λ n. shown chunk o b pairs n (512 * (end - done))) (back_of chunk number done at)
shown_run chunk pairs number chunks done end (Some place) o b some run at le has =
    copy_shown chunk number 0 (512 * (chunk * place)) (512 * (end - done)) chunks place o b _ pairs some run (room_of chunk chunks done end le) (copy_start chunk place) has refl (length_part (512 * (chunk * place)) (512 * (end - done)) b has)
    ∙ ap (λ n. shown chunk o b pairs n (512 * (end - done))) (back_of chunk number done at)

pub range_shown : (chunk : ℕ) (pairs : List Pair) (number chunks done end : ℕ) (place : Option ℕ) (range : Range) → 0 < chunk → IsRun pairs number place chunks → done ≡ chunk * number → end ≤ done + chunks * chunk → range.start ≡ 512 * done → range.count ≡ 512 * (end - done) → range.copy ≡ byte_of_place chunk place → IsShown chunk pairs range
range_shown chunk pairs number chunks done end place range some run at le starts counts copies = λ o b.
    rw starts (rw counts (rw copies (shown_run chunk pairs number chunks done end place o b some run at le)))

-- the place of a run is that of a pair
pub place_near : (bound : ℕ) (pairs : List Pair) (number chunks : ℕ) (place : Option ℕ) → All (λ pair. pair.new < bound) pairs → IsRun pairs number place chunks → 0 < chunks → IfSome place (λ n. n < bound)
place_near bound pairs number chunks None all run some = tt
place_near bound pairs number chunks (Some n) all run some =
    let (k, lt, named) = place_found pairs (number + 0) (n + 0) (run 0 some) in
    let d : Pair = record { old = 0; new = 0 } in
    let low : (get_or pairs k d).new < bound = all k d lt in
    let same = (named d).1 in
    omega arith
