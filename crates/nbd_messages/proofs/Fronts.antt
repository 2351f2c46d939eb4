-- A header is read from the front of what is heard, whatever comes behind it.
use Rattle.std.proofs.Common.{◌≡◌, ℕ, ◌+◌, ◌≤◌, List, ◌++◌, length, drop, refl, arith, ap, ◌∙◌, length-drop}
use Rattle.std.proofs.lemmas.List.{drop-append-le}
use Rattle.byteorder.specs.Endian.{big_number}
use Rattle.byteorder.specs.Numbers.{big_from-append}
use Rattle.nbd_messages.specs.Layout.{number_at}
use Rattle.nbd_messages.specs.Requests.{request_in, asked_in}

pub number_front : (xs ys : List ℕ) (at n : ℕ) → at + n ≤ length xs → number_at (xs ++ ys) at n ≡ number_at xs at n
unfolding number_at
number_front xs ys at n inside =
    let here : at ≤ length xs = omega arith in
    let left : n ≤ length (drop at xs) = omega (arith, length-drop at xs) in
    ap (big_number n) (drop-append-le at xs ys here) ∙ big_from-append n (drop at xs) ys left

pub asked_front : (xs ys : List ℕ) → 16 ≤ length xs → asked_in (xs ++ ys) ≡ asked_in xs
asked_front xs ys long = rw (number_front xs ys 0 8 (omega arith), number_front xs ys 8 4 (omega arith), number_front xs ys 12 4 (omega arith)) refl

pub request_front : (xs ys : List ℕ) → 28 ≤ length xs → request_in (xs ++ ys) ≡ request_in xs
request_front xs ys long = rw (number_front xs ys 0 4 (omega arith), number_front xs ys 4 2 (omega arith), number_front xs ys 6 2 (omega arith), number_front xs ys 8 8 (omega arith), number_front xs ys 16 8 (omega arith), number_front xs ys 24 4 (omega arith)) refl
