-- What chunks in a row show.
use Rattle.std.proofs.Common.{◌≡◌, ℕ, ◌+◌, ◌-◌, ◌*◌, ◌/◌, ◌%◌, ◌<◌, ◌≤◌, List, ◌++◌, length, take, drop, get_or, arith, rules, ap, ◌∙◌, sym, add_assoc}
use Rattle.std.specs.Prelude.{Some, None}
use Rattle.std.proofs.lemmas.List.{places, same_lists}
use Rattle.std.proofs.Math.Nat.{div-add-mod', div-lt_iff_lt-mul, mod-lt}
use Rattle.sector.specs.declared.pair.Pair.{Pair}
use Rattle.cow_format.specs.Picture.{picture_at}
use Rattle.cow_image.specs.Runs.{IsRun}
use Rattle.cow_image.specs.Shown.{shown}
use Rattle.cow_image.proofs.Shown.{byte_got, byte_shown, rest_of}
use Rattle.cow_image.proofs.Exports.{bytes_shown, shown_parts}
use borrow.Rule.Slice.PartMut.{put_mid}

-- a quotient is less than a factor
quotient_less : (n m c : ℕ) → n < c * m → 0 < m → n / m < c
quotient_less n m c lt some = (div-lt_iff_lt-mul some).1 lt

-- chunks and a rest
chunks_and : (chunk c q r n : ℕ) → q * (512 * chunk) + r ≡ n → 512 * (chunk * c) + n ≡ 512 * (chunk * (c + q)) + r
chunks_and chunk c q r n split = grind arith

byte_after : (at chunk c inside i : ℕ) → at ≡ 512 * chunk * c + inside → at + i ≡ 512 * (chunk * c) + (inside + i)
byte_after at chunk c inside i is = grind arith

-- byte n of chunks in a row, where they have no copies
own_at : (chunk number n : ℕ) (o b : List ℕ) (ps : List Pair) (chunks : ℕ) → 0 < chunk → IsRun ps number None chunks → n < chunks * (512 * chunk) → picture_at chunk o b ps (512 * (chunk * number) + n) ≡ get_or o (512 * (chunk * number) + n) 0
own_at chunk number n o b ps chunks some run lt =
    let m = 512 * chunk in
    let q = n / m in
    let r = n % m in
    let split : q * m + r ≡ n = div-add-mod' n m in
    let less : r < m = mod-lt n (omega arith) in
    let at : 512 * (chunk * number) + n ≡ 512 * (chunk * (number + q)) + r = chunks_and chunk number q r n split in
    ap (picture_at chunk o b ps) at ∙ byte_shown chunk (number + q) r o b ps None less (run q (quotient_less n m chunks lt (omega arith))) ∙ ap (λ k. get_or o k 0) (sym at)

-- and where they have copies in a row
copy_at : (chunk number n place : ℕ) (o b : List ℕ) (ps : List Pair) (chunks : ℕ) → 0 < chunk → IsRun ps number (Some place) chunks → n < chunks * (512 * chunk) → picture_at chunk o b ps (512 * (chunk * number) + n) ≡ get_or b (512 * (chunk * place) + n) 0
copy_at chunk number n place o b ps chunks some run lt =
    let m = 512 * chunk in
    let q = n / m in
    let r = n % m in
    let split : q * m + r ≡ n = div-add-mod' n m in
    let less : r < m = mod-lt n (omega arith) in
    let at : 512 * (chunk * number) + n ≡ 512 * (chunk * (number + q)) + r = chunks_and chunk number q r n split in
    let at' : 512 * (chunk * place) + n ≡ 512 * (chunk * (place + q)) + r = chunks_and chunk place q r n split in
    ap (picture_at chunk o b ps) at
    ∙ byte_shown chunk (number + q) r o b ps (Some (place + q)) less (run q (quotient_less n m chunks lt (omega arith)))
    ∙ ap (λ k. get_or b (512 * (chunk * (place + q)) + k) 0) (rest_of chunk (number + q) r less)
    ∙ ap (λ k. get_or b k 0) (sym at')

-- bytes that were read of chunks without copies
pub own_shown : (chunk number inside at len chunks : ℕ) (o b out : List ℕ) (ps : List Pair) → 0 < chunk → IsRun ps number None chunks → inside + len ≤ chunks * (512 * chunk) → at ≡ 512 * chunk * number + inside → at + len ≤ length o → out ≡ take len (drop at o) → length out ≡ len → out ≡ shown chunk o b ps (512 * (chunk * number) + inside) len
own_shown chunk number inside at len chunks o b out ps some run part is within got long =
    bytes_shown chunk o b ps (512 * (chunk * number) + inside) len out long
    (λ i lt. ap (λ l. get_or l i 0) got ∙ byte_got o at len i lt ∙ ap (λ k. get_or o k 0) (byte_after at chunk number inside i is) ∙ sym (own_at chunk number (inside + i) o b ps chunks some run (omega arith)) ∙ ap (picture_at chunk o b ps) (sym (add_assoc (512 * (chunk * number)) inside i)))

-- and of copies
pub copy_shown : (chunk number inside at len chunks place : ℕ) (o b out : List ℕ) (ps : List Pair) → 0 < chunk → IsRun ps number (Some place) chunks → inside + len ≤ chunks * (512 * chunk) → at ≡ 512 * chunk * place + inside → at + len ≤ length b → out ≡ take len (drop at b) → length out ≡ len → out ≡ shown chunk o b ps (512 * (chunk * number) + inside) len
copy_shown chunk number inside at len chunks place o b out ps some run part is within got long =
    bytes_shown chunk o b ps (512 * (chunk * number) + inside) len out long
    (λ i lt. ap (λ l. get_or l i 0) got ∙ byte_got b at len i lt ∙ ap (λ k. get_or b k 0) (byte_after at chunk place inside i is) ∙ sym (copy_at chunk number (inside + i) place o b ps chunks some run (omega arith)) ∙ ap (picture_at chunk o b ps) (sym (add_assoc (512 * (chunk * number)) inside i)))

-- a byte by its chunk
pub chunk_and : (chunk n : ℕ) → 512 * (chunk * (n / (512 * chunk))) + n % (512 * chunk) ≡ n
chunk_and chunk n =
    let split : n / (512 * chunk) * (512 * chunk) + n % (512 * chunk) ≡ n = div-add-mod' n (512 * chunk) in
    by (n / (512 * chunk)) (n % (512 * chunk)) split
  where
    by : (q r : ℕ) → q * (512 * chunk) + r ≡ n → 512 * (chunk * q) + r ≡ n
    by q r is = let same : q * (512 * chunk) ≡ 512 * (chunk * q) = grind arith in omega arith

-- a piece more
pub range_more : (chunk : ℕ) (o b out part : List ℕ) (ps : List Pair) (at from done len room : ℕ) → room ≡ len → from ≡ at + done → done + len ≤ length out → length part ≡ len → take done out ≡ shown chunk o b ps at done → part ≡ shown chunk o b ps from len → take (done + len) (put_mid done room out part) ≡ shown chunk o b ps at (done + len)
range_more chunk o b out part ps at from done len room same here inside long before now =
    let joined : take (done + len) (put_mid done room out part) ≡ take done out ++ part = same_lists _ _ (search (rules, places)) (λ k d h. grind (arith, places)) in
    joined ∙ ap (λ l. l ++ part) before ∙ ap (λ l. shown chunk o b ps at done ++ l) (now ∙ ap (λ n. shown chunk o b ps n len) here) ∙ sym (shown_parts chunk o b ps at done len)

pub length-put : (out part : List ℕ) (done len room : ℕ) → room ≡ len → done + len ≤ length out → length part ≡ len → length (put_mid done room out part) ≡ length out
length-put out part done len room same inside long = search (rules, places)

pub length-part : (out : List ℕ) (done len : ℕ) → done + len ≤ length out → length (take ((done + len) - done) (drop done out)) ≡ len
length-part out done len inside = search (rules, places)
