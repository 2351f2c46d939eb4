-- What was read of two arrays, sector by sector.
use Rattle.std.proofs.Common.{◌≡◌, ℕ, ◌+◌, ◌-◌, ◌*◌, ◌<◌, ◌≤◌, Bool, true, false, List, ◌++◌, refl, sym, ◌∙◌, ap, arith, take, drop, length, zero-add}
use Rattle.std.specs.Prelude.{Option, Some, None, is_some, min, not, nat_eq}
use Rattle.std.specs.Bool.{Decides}
use Rattle.std.specs.Cmp.{unsigned_Decides}
use Rattle.std.proofs.lemmas.Bool.{cases_Bool}
use Rattle.std.proofs.lemmas.Slice.Eq.{slice_eq-Decides}
use lib.Pointwise.{pointwise}
use Rattle.std.proofs.lemmas.List.{drop-drop, drop-take, take-take, length-take, length-drop}
use Rattle.std.proofs.lemmas.List.FromFn.{length-map-range_with_len}
use Rattle.std.proofs.Math.Seq.{drop-append_seam, take-append_seam}
use Rattle.sector.specs.Bytes.{sector_at}
use Rattle.sector.specs.declared.pair.Pair.{Pair}
use Rattle.cow_format.specs.Picture.{picture_at}
use Rattle.cow_image.specs.Runs.{IsRun}
use Rattle.cow_image.specs.Shown.{shown}
use Rattle.cow_image.proofs.Exports.{shown_parts}
use Rattle.cow_image.proofs.Ranges.{own_shown}

-- a sector of what was read is that of the array
pub part_at : (xs out : List ℕ) (first count i : ℕ) → out ≡ take (512 * count) (drop (512 * first) xs) → i < count → take 512 (drop (512 * i) out) ≡ sector_at xs (first + i)
part_at xs out first count i is lt =
    let m : ℕ = 512 * count - 512 * i in
    let whole : 512 * count ≡ 512 * i + m = omega arith in
    let at : 512 * first + 512 * i ≡ 512 * (first + i) = omega arith in
    ap (λ l. take 512 (drop (512 * i) l)) is
    ∙ ap (λ n. take 512 (drop (512 * i) (take n (drop (512 * first) xs)))) whole
    ∙ ap (take 512) (drop-take (512 * i) m (drop (512 * first) xs))
    ∙ take-take 512 m (drop (512 * i) (drop (512 * first) xs)) (omega arith)
    ∙ ap (take 512) (drop-drop (512 * i) (512 * first) xs)
    ∙ ap (λ n. take 512 (drop n xs)) at

length_part : (done len : ℕ) (o : List ℕ) → 512 * done + len ≤ length o → length (take len (drop (512 * done) o)) ≡ len
length_part done len o fits = simp (length-take, length-drop) (omega arith)

room_of : (chunk chunks done end : ℕ) → end ≤ done + chunks * chunk → 0 + 512 * (end - done) ≤ chunks * (512 * chunk)
room_of chunk chunks done end le = let more : end - done ≤ chunks * chunk = omega arith in grind arith

start_of : (chunk number done : ℕ) → done ≡ chunk * number → 512 * done ≡ 512 * chunk * number + 0
start_of chunk number done at = grind arith

back_of : (chunk number done : ℕ) → done ≡ chunk * number → 512 * (chunk * number) + 0 ≡ 512 * done
back_of chunk number done at = grind arith

module _ (chunk : ℕ) (o b : List ℕ) (ps : List Pair) where
  length_shown : (at n : ℕ) → length (shown chunk o b ps at n) ≡ n
  length_shown at n = length-map-range_with_len (picture_at chunk o b ps) at n

  -- a part of what is shown
  pub shown_at : (at len end : ℕ) → at + len ≤ end → take len (drop at (shown chunk o b ps 0 end)) ≡ shown chunk o b ps at len
  shown_at at len end le =
      let rest : ℕ = end - (at + len) in
      let whole : end ≡ at + (len + rest) = omega arith in
      ap (λ n. take len (drop at (shown chunk o b ps 0 n))) whole
      ∙ ap (λ l. take len (drop at l)) (shown_parts chunk o b ps 0 at (len + rest))
      ∙ ap (λ n. take len (drop n (shown chunk o b ps 0 at ++ shown chunk o b ps (0 + at) (len + rest)))) (sym (length_shown 0 at))
      ∙ ap (take len) (drop-append_seam (shown chunk o b ps 0 at) (shown chunk o b ps (0 + at) (len + rest)))
      ∙ ap (λ n. take len (shown chunk o b ps n (len + rest))) (zero-add at)
      ∙ ap (take len) (shown_parts chunk o b ps at len rest)
      ∙ ap (λ n. take n (shown chunk o b ps at len ++ shown chunk o b ps (at + len) rest)) (sym (length_shown at len))
      ∙ take-append_seam (shown chunk o b ps at len) (shown chunk o b ps (at + len) rest)

  -- sectors of chunks without copies
  pub same_run : (number chunks done end size : ℕ) → 0 < chunk → IsRun ps number None chunks → done ≡ chunk * number → end ≤ done + chunks * chunk → end ≤ size → length o ≡ 512 * size → (s : ℕ) → done ≤ s → s < end → sector_at (shown chunk o b ps 0 (512 * size)) s ≡ sector_at o s
  same_run number chunks done end size some run at le fits whole s low high =
      let count : ℕ = end - done in
      let i : ℕ = s - done in
      let len : ℕ = 512 * count in
      let out : List ℕ = take len (drop (512 * done) o) in
      let lt : i < count = omega arith in
      let back : done + i ≡ s = omega arith in
      let long : length out ≡ len = length_part done len o (omega arith) in
      let own : out ≡ shown chunk o b ps (512 * done) len =
      own_shown chunk number 0 (512 * done) len chunks o b out ps some run (room_of chunk chunks done end le) (start_of chunk number done at) (omega arith) refl long
      ∙ ap (λ n. shown chunk o b ps n len) (back_of chunk number done at) in
      let ours = part_at (shown chunk o b ps 0 (512 * size)) out done count i (own ∙ sym (shown_at (512 * done) len (512 * size) (omega arith))) lt in
      let theirs = part_at o out done count i refl lt in
      ap (sector_at (shown chunk o b ps 0 (512 * size))) (sym back) ∙ sym ours ∙ theirs ∙ ap (sector_at o) back

told_true : (b : Bool) → not b ≡ false → b ≡ true
told_true true is = refl
told_true false is = cc

-- what `!=` says of two sectors that were read
module _ (a o ours theirs : List ℕ) (first count i n : ℕ) (r : Bool) (ours_is : ours ≡ take (512 * count) (drop (512 * first) a)) (theirs_is : theirs ≡ take (512 * count) (drop (512 * first) o)) (lt : i < count) (whole : n ≡ 512) (is : r ≡ not (pointwise nat_eq (take n (drop (512 * i) ours)) (take n (drop (512 * i) theirs)))) where
  ours_at : take n (drop (512 * i) ours) ≡ sector_at a (first + i)
  ours_at = ap (λ k. take k (drop (512 * i) ours)) whole ∙ part_at a ours first count i ours_is lt

  theirs_at : take n (drop (512 * i) theirs) ≡ sector_at o (first + i)
  theirs_at = ap (λ k. take k (drop (512 * i) theirs)) whole ∙ part_at o theirs first count i theirs_is lt

  decided : Decides (pointwise nat_eq (take n (drop (512 * i) ours)) (take n (drop (512 * i) theirs))) (take n (drop (512 * i) ours) ≡ take n (drop (512 * i) theirs))
  decided = slice_eq-Decides unsigned_Decides (take n (drop (512 * i) ours)) (take n (drop (512 * i) theirs)) _ refl

  pub differs_at : r ≡ true → sector_at a (first + i) ≡ sector_at o (first + i) → ⊥
  differs_at other same =
      let equal : pointwise nat_eq (take n (drop (512 * i) ours)) (take n (drop (512 * i) theirs)) ≡ true = decided.1 (ours_at ∙ same ∙ sym theirs_at) in
      let none : true ≡ false = sym other ∙ is ∙ ap not equal in cc

  pub same_at : r ≡ false → sector_at a (first + i) ≡ sector_at o (first + i)
  same_at none = sym ours_at ∙ decided.0 (told_true _ (sym is ∙ none)) ∙ theirs_at

-- chunks in a row, and where they end
pub end_at : (chunk number chunks left done end size : ℕ) → 0 < chunk → done ≡ chunk * number → end ≡ min size (done + chunks * chunk) → end < size → end ≡ chunk * (number + chunks)
end_at chunk number chunks left done end size some at is lt = let whole : end ≡ done + chunks * chunk = omega arith in grind arith

le-mul : (n m : ℕ) → 0 < m → n ≤ n * m
le-mul n m some = grind arith

pub low_at : (chunk number chunks done end size : ℕ) → 0 < chunk → number ≤ done → chunks ≤ size - done → done < size → end ≡ min size (done + chunks * chunk) → number + chunks ≤ end
low_at chunk number chunks done end size some low few lt is = let more : chunks ≤ chunks * chunk = le-mul chunks chunk some in omega arith

pub no_place : (place : Option ℕ) → is_some place ≡ false → place ≡ None
no_place None is = refl
no_place (Some n) is = cc

pub run_less : (ps : List Pair) (number : ℕ) (place : Option ℕ) (chunks few : ℕ) → IsRun ps number place chunks → few ≤ chunks → IsRun ps number place few
run_less ps number place chunks few run le = λ q lt. run q (omega arith)
