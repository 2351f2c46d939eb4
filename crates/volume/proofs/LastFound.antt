-- What a search of an event says of the snapshot that it found.
use Rattle.std.proofs.Common.{◌≡◌, ℕ, Bool, true, false, refl, sym}
use Rattle.std.specs.Prelude.{◌&&◌, ◌==◌, not}
use Rattle.std.proofs.lemmas.Bool.{true≢false}
use Rattle.in_flight.specs.Due.{front_ready}
use Rattle.snapshot.specs.Kept.{Kept, needs_area, fills_area}
use Rattle.snapshot_list.specs.Finding.{is_zeroing}

second : (a b : Bool) → (a && b) ≡ true → b ≡ true
second true b e = e
second false b e = absurd (true≢false (sym e))

-- the next area of one that zeroes it is not firm
pub zeroing_loose : {B : Type 0} (number : ℕ) (s : Kept B) → is_zeroing number s ≡ true → (s.state.firm ≡ true → s.state.zeroed ≡ true) → s.state.firm ≡ false
zeroing_loose number s found ahead =
    let needs : needs_area s.state s.copies ≡ true = second (front_ready s.copies) (needs_area s.state s.copies) (second (s.number == number) (front_ready s.copies && needs_area s.state s.copies) found) in
    let fresh : not s.state.zeroed ≡ true = second (fills_area s.state s.copies) (not s.state.zeroed) needs in
    by s.state.firm s.state.zeroed ahead fresh
  where
    by : (firm zeroed : Bool) → (firm ≡ true → zeroed ≡ true) → not zeroed ≡ true → firm ≡ false
    by false zeroed h e = refl
    by true true h e = absurd (true≢false (sym e))
    by true false h e = absurd (true≢false (sym (h refl)))
