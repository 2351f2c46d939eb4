-- Bytes in a row that lie in chunks with copies, or in chunks without.
use Rattle.std.proofs.Common.{◌≡◌, ℕ, zero, suc, ◌+◌, ◌-◌, ◌*◌, ◌/◌, ◌%◌, ◌<◌, ◌≤◌, List, Option, None, Some, Bool, true, false, refl, arith, ap, ◌∙◌, sym}
use Rattle.std.specs.Option.{is_some}
use Rattle.std.proofs.Math.Nat.{div-add-mod', div-lt_iff_lt-mul, mod-lt}
use Rattle.std.proofs.lemmas.Nat.{div-mul-add}
use Rattle.sector.specs.declared.pair.Pair.{Pair}
use Rattle.cow_format.specs.Picture.{place_of}
use Rattle.cow_image.specs.Runs.{IsRun, place_after}
use Rattle.cow_nbd.specs.Shows.{has_copy}
use Rattle.nbd_read_session.specs.Blocks.{marked_for, same_kind}

same_self : (b : Bool) → same_kind b b ≡ true
same_self true = refl
same_self false = refl

-- some bytes more of one kind
pub marked_more : (marks : ℕ → Bool) (kind : Bool) (left len at : ℕ) → len ≤ left → ((j : ℕ) → j < len → marks (at + j) ≡ kind) → marked_for marks kind left at ≡ len + marked_for marks kind (left - len) (at + len)
unfolding marked_for
marked_more marks kind left zero at few each =
    let a : left - 0 ≡ left = omega arith in
    let b : at + 0 ≡ at = omega arith in
    rw (a, b) (omega arith)
marked_more marks kind zero (suc len) at few each = absurd (omega arith)
marked_more marks kind (suc left) (suc len) at few each =
    let here : marks at ≡ kind = (let e : at + 0 ≡ at = omega arith in ap marks (sym e) ∙ each 0 (omega arith)) in
    let is : same_kind (marks at) kind ≡ true = ap (λ (k : Bool). same_kind k kind) here ∙ same_self kind in
    let next : marked_for marks kind left (at + 1) ≡ len + marked_for marks kind (left - len) (at + 1 + len) =
    marked_more marks kind left len (at + 1) (omega arith) (λ j lt. (let e : at + 1 + j ≡ at + (j + 1) = omega arith in ap marks e ∙ each (j + 1) (omega arith))) in
    let a : suc left - suc len ≡ left - len = omega arith in
    let b : at + suc len ≡ at + 1 + len = omega arith in
    rw (is, a, b) (omega (arith, next))

other_self : (a b : Bool) → (a ≡ b → ⊥) → same_kind a b ≡ false
other_self true true other = absurd (other refl)
other_self true false other = refl
other_self false true other = refl
other_self false false other = absurd (other refl)

-- a byte of the other kind ends them
pub marked_ends : (marks : ℕ → Bool) (kind : Bool) (left at : ℕ) → (marks at ≡ kind → ⊥) → marked_for marks kind left at ≡ 0
unfolding marked_for
marked_ends marks kind zero at other = refl
marked_ends marks kind (suc left) at other = let is : same_kind (marks at) kind ≡ false = other_self (marks at) kind other in rw is refl

-- and so does the last one that is asked about
pub marked_none : (marks : ℕ → Bool) (kind : Bool) (left at : ℕ) → left ≤ 0 → marked_for marks kind left at ≡ 0
unfolding marked_for
marked_none marks kind zero at none = refl
marked_none marks kind (suc left) at none = absurd (omega arith)

some_after : (place : Option ℕ) (q : ℕ) → is_some (place_after place q) ≡ is_some place
some_after None q = refl
some_after (Some place) q = refl

-- the chunk of a byte that stands so many bytes behind another
chunk_behind : (bytes from j : ℕ) → 0 < bytes → (from + j) / bytes ≡ from / bytes + (from % bytes + j) / bytes
chunk_behind bytes from j some =
    let split : from / bytes * bytes + from % bytes ≡ from = div-add-mod' from bytes in
    let split' : (from % bytes + j) / bytes * bytes + (from % bytes + j) % bytes ≡ from % bytes + j = div-add-mod' (from % bytes + j) bytes in
    let less : (from % bytes + j) % bytes < bytes = mod-lt (from % bytes + j) some in
    by (from / bytes) (from % bytes) ((from % bytes + j) / bytes) ((from % bytes + j) % bytes) split split' less
  where
    by : (c r q s : ℕ) → c * bytes + r ≡ from → q * bytes + s ≡ r + j → s < bytes → (from + j) / bytes ≡ c + q
    by c r q s is is' lt =
        let at : from + j ≡ (c + q) * bytes + s = (let e : (c + q) * bytes ≡ c * bytes + q * bytes = grind arith in omega arith) in
        ap (λ (n : ℕ). n / bytes) at ∙ div-mul-add (c + q) bytes s lt

-- bytes of chunks in a row are of one kind
pub run_marked : (chunk : ℕ) (ps : List Pair) (from chunks len : ℕ) (place : Option ℕ) → 0 < chunk → IsRun ps (from / (512 * chunk)) place chunks → from % (512 * chunk) + len ≤ chunks * (512 * chunk) → (j : ℕ) → j < len → has_copy chunk ps (from + j) ≡ is_some place
run_marked chunk ps from chunks len place some run part j lt =
    let behind = chunk_behind (512 * chunk) from j (omega arith) in
    let less : (from % (512 * chunk) + j) / (512 * chunk) < chunks = (div-lt_iff_lt-mul (omega arith)).1 (omega arith) in
    ap (λ (n : ℕ). is_some (place_of ps n)) behind ∙ ap (λ (p : Option ℕ). is_some p) (run ((from % (512 * chunk) + j) / (512 * chunk)) less) ∙ some_after place _

-- the first byte, by the run that its chunk begins
pub first_marked : (chunk : ℕ) (ps : List Pair) (at chunks : ℕ) (place : Option ℕ) → 0 < chunks → IsRun ps (at / (512 * chunk)) place chunks → is_some place ≡ has_copy chunk ps at
first_marked chunk ps at chunks place some run =
    let e : at / (512 * chunk) + 0 ≡ at / (512 * chunk) = omega arith in
    sym (ap (λ (n : ℕ). is_some (place_of ps n)) (sym e) ∙ ap (λ (p : Option ℕ). is_some p) (run 0 some) ∙ some_after place 0)

-- a run more
pub marked_step : (chunk : ℕ) (ps : List Pair) (at done most len chunks : ℕ) (place : Option ℕ) (marked : Bool) → 0 < chunk → done ≤ most → done + marked_for (has_copy chunk ps) marked (most - done) (at + done) ≡ marked_for (has_copy chunk ps) marked most at → IsRun ps ((at + done) / (512 * chunk)) place chunks → (at + done) % (512 * chunk) + len ≤ chunks * (512 * chunk) → is_some place ≡ marked → len ≤ most - done → done + len + marked_for (has_copy chunk ps) marked (most - (done + len)) (at + (done + len)) ≡ marked_for (has_copy chunk ps) marked most at
marked_step chunk ps at done most len chunks place marked some few told run part same inside =
    let next = marked_more (has_copy chunk ps) marked (most - done) len (at + done) inside (λ j lt. run_marked chunk ps (at + done) chunks len place some run part j lt ∙ same) in
    let a : most - done - len ≡ most - (done + len) = omega arith in
    let b : at + done + len ≡ at + (done + len) = omega arith in
    let moved : marked_for (has_copy chunk ps) marked (most - done - len) (at + done + len) ≡ marked_for (has_copy chunk ps) marked (most - (done + len)) (at + (done + len)) = rw (a, b) refl in
    omega (arith, next, moved, told)

-- a run of the other kind
pub marked_stop : (chunk : ℕ) (ps : List Pair) (at done most chunks : ℕ) (place : Option ℕ) (marked : Bool) → 0 < chunks → done + marked_for (has_copy chunk ps) marked (most - done) (at + done) ≡ marked_for (has_copy chunk ps) marked most at → IsRun ps ((at + done) / (512 * chunk)) place chunks → (is_some place ≡ marked → ⊥) → done ≡ marked_for (has_copy chunk ps) marked most at
marked_stop chunk ps at done most chunks place marked some told run other =
    let none : marked_for (has_copy chunk ps) marked (most - done) (at + done) ≡ 0 = marked_ends (has_copy chunk ps) marked (most - done) (at + done) (λ e. other (first_marked chunk ps (at + done) chunks place some run ∙ e)) in
    omega (arith, none, told)

-- and the end
pub marked_all : (chunk : ℕ) (ps : List Pair) (at done most : ℕ) (marked : Bool) → done ≤ most → most ≤ done → done + marked_for (has_copy chunk ps) marked (most - done) (at + done) ≡ marked_for (has_copy chunk ps) marked most at → most ≡ marked_for (has_copy chunk ps) marked most at
marked_all chunk ps at done most marked few end told =
    let none : marked_for (has_copy chunk ps) marked (most - done) (at + done) ≡ 0 = marked_none (has_copy chunk ps) marked (most - done) (at + done) (omega arith) in
    omega (arith, none, told)

pub marked_begins : (marks : ℕ → Bool) (marked : Bool) (most at : ℕ) → 0 + marked_for marks marked (most - 0) (at + 0) ≡ marked_for marks marked most at
marked_begins marks marked most at =
    let a : most - 0 ≡ most = omega arith in
    let b : at + 0 ≡ at = omega arith in
    rw (a, b) (omega arith)

-- two are of the same kind just where they are the same
pub kinds_same : (a b : Bool) → same_kind a b ≡ true → a ≡ b
kinds_same true true is = refl
kinds_same true false is = absurd (cc)
kinds_same false true is = absurd (cc)
kinds_same false false is = refl

pub kinds_other : (a b : Bool) → same_kind a b ≡ false → a ≡ b → ⊥
kinds_other true true is same = absurd (cc)
kinds_other true false is same = absurd (cc)
kinds_other false true is same = absurd (cc)
kinds_other false false is same = absurd (cc)

-- some times a number is no less
pub some_times : (times n : ℕ) → 0 < times → n ≤ times * n
some_times zero n some = absurd (omega arith)
some_times (suc times) n some = (let e : suc times * n ≡ times * n + n = grind arith in omega arith)
