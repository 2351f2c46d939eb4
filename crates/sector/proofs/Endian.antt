-- Numbers of bytes at an offset.
use Rattle.std.proofs.Common.{◌≡◌, ℕ, zero, suc, ◌+◌, ◌*◌, ◌-◌, ◌/◌, ◌%◌, ◌<◌, ◌≤◌, ◌^◌, List, ◌∷◌, ◌++◌, length, take, drop, get_or, arith, rules, refl, ap, ◌∙◌, sym, add-zero}
use Rattle.std.proofs.lemmas.List.{get_or-append-add, get_or-drop, places, same_lists}
use Rattle.std.proofs.Math.Nat.{add-mul, add_assoc, div-add-mod', div-div-eq-div-mul, div-one, mod-eq_of_lt, mod-lt, mul-add-mod_self_right, mul-le-mul_right, mul_assoc, one-le-pow, pow-suc}
use Rattle.std.specs.Int.{byte_at, bytes_low_first}
use Rattle.byteorder.specs.Endian.{little_number, little_from}
use Rattle.sector.specs.Number.{number_at, number_bytes}
use Rattle.sector.proofs.Numbers.{moved_number}
use borrow.Rule.Slice.PartMut.{put_mid}

number_from : (bytes : List ℕ) (at i n : ℕ) → little_from i n (drop at bytes) ≡ number_at bytes (at + i) n
number_from bytes at i zero = refl
number_from bytes at i (suc n) =
    let e : at + suc i ≡ at + i + 1 = omega arith in
    rw (get_or-drop at bytes i 0) (ap (λ m. get_or bytes (at + i) 0 + 256 * m) (number_from bytes at (suc i) n ∙ ap (λ m. number_at bytes m n) e))

-- what byteorder reads
pub number_read : (bytes : List ℕ) (at n : ℕ) → little_number n (drop at bytes) ≡ number_at bytes at n
number_read bytes at n = number_from bytes at 0 n ∙ ap (λ m. number_at bytes m n) (omega arith)

-- past a number that is written at `at`
pub past_put : (xs ys : List ℕ) (at n i : ℕ) → length ys ≡ n → at + n ≤ length xs → at + n ≤ i → get_or (put_mid at (length xs - at) xs (ys ++ drop n (take (length xs - at) (drop at xs)))) i 0 ≡ get_or xs i 0
past_put xs ys at n i len fits past = grind (arith, places)

-- the whole list after a number is written at `at`
pub put_is : (xs ys : List ℕ) (at n : ℕ) → length ys ≡ n → at + n ≤ length xs → put_mid at (length xs - at) xs (ys ++ drop n (take (length xs - at) (drop at xs))) ≡ take at xs ++ (ys ++ drop (at + length ys) xs)
put_is xs ys at n len fits = same_lists _ _ (search (rules, places)) (λ k d h. grind (arith, places))

-- the two low digits of n, to the bases c and then m
digits_split : (n : ℕ) {m c : ℕ} → zero < m → zero < c → n % (m * c) ≡ (n / c % m) * c + n % c
digits_split n {m} {c} hm hc =
    let a = mod-lt (n / c) hm in
    let b = mod-lt n hc in
    let top : (n / c % m + 1) * c ≤ m * c = mul-le-mul_right c (omega arith) in
    let expand : (n / c % m + 1) * c ≡ n / c % m * c + 1 * c = add-mul (n / c % m) 1 c in
    let split : n ≡ n / c / m * (m * c) + (n / c % m * c + n % c) =
    sym (div-add-mod' n c)
    ∙ ap (λ (x : ℕ). x * c + n % c) (sym (div-add-mod' (n / c) m))
    ∙ ap (λ (x : ℕ). x + n % c) (add-mul (n / c / m * m) (n / c % m) c ∙ ap (λ (x : ℕ). x + n / c % m * c) (mul_assoc (n / c / m) m c))
    ∙ add_assoc (n / c / m * (m * c)) (n / c % m * c) (n % c) in
    ap (λ (x : ℕ). x % (m * c)) split ∙ mul-add-mod_self_right (n / c / m) (m * c) (n / c % m * c + n % c) ∙ mod-eq_of_lt (omega arith)

byte_by_place : (k x : ℕ) → byte_at k x ≡ x / 256 ^ k % 256
byte_by_place zero x = ap (λ (y : ℕ). y % 256) (sym (div-one x))
byte_by_place (suc k) x = refl

power_pos : (n : ℕ) → zero < 256 ^ n
power_pos n = let h = one-le-pow n 256 (omega arith) in omega arith

-- a byte in front moves a number on
number_behind : (b : ℕ) (bytes : List ℕ) (n : ℕ) → number_at (b ∷ bytes) 1 n ≡ number_at bytes 0 n
number_behind b bytes n = sym (moved_number bytes (b ∷ bytes) 0 1 n (λ i lo hi. let e : suc i ≡ 1 + i = omega arith in ap (λ j. get_or (b ∷ bytes) j 0) e))

-- the bytes of x from byte j on, the lowest first, are what is left of x above them
number_left : (n j x : ℕ) (rest : List ℕ) → number_at (bytes_low_first j n x ++ rest) 0 n ≡ x / 256 ^ j % 256 ^ n
number_left zero j x rest = omega arith
number_left (suc n) j x rest =
    let moved = number_behind (byte_at j x) (bytes_low_first (suc j) n x ++ rest) n in
    let left = number_left n (suc j) x rest in
    let shift : x / 256 ^ suc j ≡ x / 256 ^ j / 256 = ap (λ (p : ℕ). x / p) (pow-suc 256 j) ∙ sym (div-div-eq-div-mul x (256 ^ j) 256) in
    let split = digits_split (x / 256 ^ j) {m = 256 ^ n} {c = 256} (power_pos n) (omega arith) in
    rw (moved, left, shift, byte_by_place j x, pow-suc 256 n, split) (omega arith)

-- a number that stands somewhere in a text is read
pub number_written : (n x at : ℕ) (front rest : List ℕ) → x < 256 ^ n → length front ≡ at → number_at (front ++ (number_bytes n x ++ rest)) at n ≡ x
unfolding number_bytes
number_written n x at front rest fits len =
    ap (λ i. number_at (front ++ (bytes_low_first 0 n x ++ rest)) i n) (sym len ∙ sym (add-zero (length front)))
    ∙ sym (moved_number (bytes_low_first 0 n x ++ rest) (front ++ (bytes_low_first 0 n x ++ rest)) 0 (length front) n (λ i lo hi. sym (get_or-append-add front (bytes_low_first 0 n x ++ rest) i 0)))
    ∙ number_left n 0 x rest ∙ ap (λ (y : ℕ). y % 256 ^ n) (div-one x) ∙ mod-eq_of_lt fits
