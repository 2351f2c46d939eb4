-- Replies by seat.
use Rattle.std.proofs.Common.{◌≡◌, ℕ, zero, suc, ◌+◌, ◌-◌, ◌<◌, ◌≤◌, cond, Bool, List, [], ◌∷◌, ◌++◌, length, length-append, map, replicate, Option, None, Some, refl, sym, ap, ◌∙◌, subst, inl, inr, arith}
use Rattle.std.specs.Prelude.{nat_lt, ◌==◌}
use Rattle.std.specs.List.{All, count_by, flat_map, range_with_len}
use Rattle.std.proofs.Math.Logic.{∥∥₁_elim}
use Rattle.std.proofs.lemmas.Bool.Decides.{nat_tests}
use Rattle.std.proofs.lemmas.List.{append-nil, append_assoc, length-map, map-append}
use Rattle.std.proofs.lemmas.List.Elements.{All-append, All-map, All-nil, All-push}
use Rattle.std.proofs.lemmas.List.Sums.{count_by-le-length, length-filter, sum_by-cons}
use Rattle.std.proofs.lemmas.Slice.Zip.{AllZip-long}
use native.Mathlib.Nat.{ℕ_set}
use Rattle.command.specs.declared.seat_line.SeatLine.{SeatLine}
use Rattle.parallel_lines.specs.Played.{Story}
use Rattle.command_semantics.specs.State.{Table}
use Rattle.command_replies.specs.declared.command_reply.CommandReply.{CommandReply}
use Rattle.command_replies.specs.declared.command_reply.CommandReply.TheVariants.{Gate}
use Rattle.volume_threads.specs.Rigs.{SeatShape}
use Rattle.parallel_threads.specs.declared.task.Task.{Task}
use Rattle.audited_volume.specs.declared.entry.Entry.{Entry}
use Rattle.parallel_lines.specs.Played.{denied_in, pieces_in}
use Rattle.locked_volume.specs.Denying.{Wish}
use Rattle.sector.specs.declared.refusal.Refusal.{Refusal}
use Rattle.parallel_threads.specs.Tasks.{AreDone, IsEnded}
use Rattle.parallel_lines.specs.Asking.{IsTask}
use Rattle.parallel_lines.specs.Answering.{AreAsked, AreEnded, gate_replies, lines_by, replies_of, reply_of}
use Rattle.parallel_lines.specs.Running.{IsOfBlock, gate_told, seat_in, seats_told}

-- the replies of one seat more
told_more : {X : Type 0} (f : ℕ → List X) (first n : ℕ) → flat_map f (range_with_len first n) ++ f (first + n) ≡ flat_map f (range_with_len first (n + 1))
told_more f first zero = ap f (let is : first + 0 ≡ first = omega arith in is) ∙ sym (append-nil (f first))
told_more {X} f first (suc n) =
    ap (λ (k : ℕ). (f first ++ flat_map f (range_with_len (first + 1) n)) ++ f k) (let is : first + suc n ≡ first + 1 + n = omega arith in is)
    ∙ append_assoc (f first) (flat_map f (range_with_len (first + 1) n)) (f (first + 1 + n))
    ∙ ap (λ (l : List X). f first ++ l) (told_more f (first + 1) n)
    ∙ ap (λ (k : ℕ). flat_map f (range_with_len first k)) (let is : suc (n + 1) ≡ suc n + 1 = omega arith in is)

-- those of the first seats
abbrev pub first_replies : ℕ → (ℕ → List Task) → List CommandReply
first_replies n told = flat_map (λ i. map (reply_of (i + 1)) (told i)) (range_with_len 0 n)

pub first_more : (n : ℕ) (told : ℕ → List Task) → first_replies n told ++ map (reply_of (n + 1)) (told n) ≡ first_replies (n + 1) told
first_more n told =
    let f : ℕ → List CommandReply = λ i. map (reply_of (i + 1)) (told i) in
    ap (λ (k : ℕ). first_replies n told ++ f k) (let is : n ≡ 0 + n = omega arith in is) ∙ told_more f 0 n

-- as many as tasks
many_more : (n : ℕ) (told : ℕ → List Task) → length (first_replies (n + 1) told) ≡ length (first_replies n told) + length (told n)
many_more n told =
    ap length (sym (first_more n told)) ∙ length-append (first_replies n told) (map (reply_of (n + 1)) (told n))
    ∙ ap (λ (k : ℕ). length (first_replies n told) + k) (length-map (told n) (reply_of (n + 1)))

first_few : (m n : ℕ) (told : ℕ → List Task) → length (first_replies n told) ≤ length (first_replies (n + m) told)
first_few zero n told = subst (λ (k : ℕ). length (first_replies n told) ≤ length (first_replies k told)) (let is : n ≡ n + 0 = omega arith in is) (omega arith)
first_few (suc m) n told =
    let less = first_few m n told in
    let more = many_more (n + m) told in
    subst (λ (k : ℕ). length (first_replies n told) ≤ length (first_replies k told)) (let is : n + m + 1 ≡ n + suc m = omega arith in is) (omega (arith, less, more))

-- those of a seat leave room for the others
pub seat_fits : (i : ℕ) (told : ℕ → List Task) → i < 8 → length (first_replies i told) + length (told i) ≤ length (replies_of told)
seat_fits i told low =
    let less = subst (λ (k : ℕ). length (first_replies (i + 1) told) ≤ length (first_replies k told)) (let is : i + 1 + (7 - i) ≡ 8 = omega (arith, low) in is) (first_few (7 - i) (i + 1) told) in
    omega (arith, less, many_more i told)

-- The seats leave as many tasks as there were.

done_many : (denies : ℕ → List Entry → Wish → Refusal → Type 0) (pieces : ℕ → ℕ) (asked told : List Task) (old new : SeatShape) → AreDone denies pieces asked told old new → length told ≡ length asked
done_many denies pieces [] [] old new h = refl
done_many denies pieces [] (a ∷ after) old new h = absurd h
done_many denies pieces (b ∷ before) [] old new h = absurd h
done_many denies pieces (b ∷ before) (a ∷ after) old new h = ap suc (done_many denies pieces before after h.0 new h.2)

seat_many : (denies : ℕ → List Entry → Wish → Refusal → Type 0) (pieces : ℕ → ℕ) (asked told : List Task) (number : ℕ) (seat : SeatShape) → IsEnded denies pieces asked told number seat → length told ≡ length asked
seat_many denies pieces asked told number seat (is, inl called) = ∥∥₁_elim called (ℕ_set (length told) (length asked)) (λ x. done_many denies pieces asked told x.0 seat x.2)
seat_many denies pieces asked told number seat (is, inr none) = ap length none.0

first_many : (n : ℕ) (asked told : ℕ → List Task) → ((i : ℕ) → i < n → length (told i) ≡ length (asked i)) → length (first_replies n told) ≡ length (first_replies n asked)
first_many zero asked told same = refl
first_many (suc n) asked told same =
    let less = first_many n asked told (λ i low. same i (omega (arith, low))) in
    subst (λ (k : ℕ). length (first_replies k told) ≡ length (first_replies k asked)) (let is : n + 1 ≡ suc n = omega arith in is)
    (omega (arith, less, many_more n told, many_more n asked, same n (omega arith)))

pub ended_many : (played : List Story) (asked told : ℕ → List Task) → AreEnded played asked told → length (replies_of told) ≡ length (replies_of asked)
ended_many played asked told ended = first_many 8 asked told (λ i low. let e = ended i low in seat_many (denied_in played) (pieces_in played) (asked i) (told i) (i + 1) e.0 e.1)

-- There are as many tasks as lines.

one : (n x : ℕ) → cond (nat_lt x (n + 1)) 1 0 ≡ cond (nat_lt x n) 1 0 + cond (x == n) 1 0
one n x = grind (arith, nat_tests)

-- so many seats are below the next number
below_more : (n : ℕ) (lines : List SeatLine) → count_by (λ l. nat_lt l.seat (n + 1)) lines ≡ count_by (λ l. nat_lt l.seat n) lines + count_by (λ l. l.seat == n) lines
below_more n [] = refl
below_more n (x ∷ xs) =
    let more = below_more n xs in
    let a = sum_by-cons (λ (y : SeatLine). cond (nat_lt y.seat (n + 1)) 1 0) x xs in
    let b = sum_by-cons (λ (y : SeatLine). cond (nat_lt y.seat n) 1 0) x xs in
    let c = sum_by-cons (λ (y : SeatLine). cond (y.seat == n) 1 0) x xs in
    let here = one n x.seat in
    omega (arith, more, a, b, c, here)

asked_many : (used : List Bool) (table : Table) (lines : List SeatLine) (asked : ℕ → List Task) → AreAsked used table lines asked → (i : ℕ) → i < 8 → length (asked i) ≡ count_by (λ l. l.seat == i + 1) lines
asked_many used table lines asked are i low =
    AllZip-long (λ (line : SeatLine) (task : Task). IsTask used table line.work task) (lines_by (i + 1) lines) (asked i) (are i low) ∙ length-filter (λ (l : SeatLine). l.seat == i + 1) lines

first_below : (n : ℕ) (lines : List SeatLine) (asked : ℕ → List Task) → ((i : ℕ) → i < n → length (asked i) ≡ count_by (λ l. l.seat == i + 1) lines) → length (first_replies n asked) ≤ count_by (λ l. nat_lt l.seat (n + 1)) lines
first_below zero lines asked many = omega arith
first_below (suc n) lines asked many =
    let less = first_below n lines asked (λ i low. many i (omega (arith, low))) in
    let more = below_more (n + 1) lines in
    subst (λ (k : ℕ). length (first_replies k asked) ≤ count_by (λ l. nat_lt l.seat (k + 1)) lines) (let is : n + 1 ≡ suc n = omega arith in is)
    (omega (arith, less, more, many_more n asked, many n (omega arith)))

pub asked_few : (used : List Bool) (table : Table) (lines : List SeatLine) (asked : ℕ → List Task) → AreAsked used table lines asked → length (replies_of asked) ≤ length lines
asked_few used table lines asked are =
    let below = first_below 8 lines asked (asked_many used table lines asked are) in
    let all = count_by-le-length (λ (l : SeatLine). nat_lt l.seat 9) lines in
    omega (arith, below, all)

-- Each seat has a reply for each of its lines.

seat_replies : (seat : ℕ) (tasks : List Task) → map seat_in (map (reply_of seat) tasks) ≡ replicate (length tasks) (Some seat)
seat_replies seat [] = refl
seat_replies seat (t ∷ ts) = ap (λ (l : List (Option ℕ)). Some seat ∷ l) (seat_replies seat ts)

count_seats : (seat : ℕ) (lines : List SeatLine) → count_by (λ l. l.seat == seat) lines ≡ count_by (λ s. s == seat) (map (λ l. l.seat) lines)
count_seats seat [] = refl
count_seats seat (l ∷ ls) =
    let more = count_seats seat ls in
    let a = sum_by-cons (λ (y : SeatLine). cond (y.seat == seat) 1 0) l ls in
    let b = sum_by-cons (λ (y : ℕ). cond (y == seat) 1 0) l.seat (map (λ (x : SeatLine). x.seat) ls) in
    omega (arith, more, a, b)

abbrev first_told : ℕ → List ℕ → List (Option ℕ)
first_told n seats = flat_map (λ seat. replicate (count_by (λ s. s == seat) seats) (Some seat)) (range_with_len 1 n)

first_seats : (n : ℕ) (seats : List ℕ) (told : ℕ → List Task) → ((i : ℕ) → i < n → length (told i) ≡ count_by (λ s. s == i + 1) seats) → map seat_in (first_replies n told) ≡ first_told n seats
first_seats zero seats told many = refl
first_seats (suc n) seats told many =
    let f : ℕ → List (Option ℕ) = λ seat. replicate (count_by (λ s. s == seat) seats) (Some seat) in
    let less = first_seats n seats told (λ i low. many i (omega (arith, low))) in
    subst (λ (k : ℕ). map seat_in (first_replies k told) ≡ first_told k seats) (let is : n + 1 ≡ suc n = omega arith in is)
    (ap (map seat_in) (sym (first_more n told))
    ∙ map-append seat_in (first_replies n told) (map (reply_of (n + 1)) (told n))
    ∙ ap (λ (l : List (Option ℕ)). l ++ map seat_in (map (reply_of (n + 1)) (told n))) less
    ∙ ap (λ (l : List (Option ℕ)). first_told n seats ++ l) (seat_replies (n + 1) (told n) ∙ ap (λ (k : ℕ). replicate k (Some (n + 1))) (many n (omega arith)))
    ∙ ap (λ (k : ℕ). first_told n seats ++ f k) (let is : n + 1 ≡ 1 + n = omega arith in is)
    ∙ told_more f 1 n)

gate_seat : (ticket : Option ℕ) (opened : Bool) → map seat_in (gate_replies ticket opened) ≡ gate_told ticket
gate_seat None opened = refl
gate_seat (Some ticket) opened = refl

pub seats_are : (used : List Bool) (table : Table) (lines : List SeatLine) (played : List Story) (asked told : ℕ → List Task) (ticket : Option ℕ) (opened : Bool) → AreAsked used table lines asked → AreEnded played asked told
    → map seat_in (replies_of told ++ gate_replies ticket opened) ≡ seats_told (map (λ l. l.seat) lines) ++ gate_told ticket
seats_are used table lines played asked told ticket opened are ended =
    let seats : List ℕ = map (λ (l : SeatLine). l.seat) lines in
    map-append seat_in (replies_of told) (gate_replies ticket opened)
    ∙ ap (λ (l : List (Option ℕ)). l ++ map seat_in (gate_replies ticket opened))
    (first_seats 8 seats told (λ i low. let e = ended i low in seat_many (denied_in played) (pieces_in played) (asked i) (told i) (i + 1) e.0 e.1 ∙ asked_many used table lines asked are i low ∙ count_seats (i + 1) lines))
    ∙ ap (λ (l : List (Option ℕ)). seats_told seats ++ l) (gate_seat ticket opened)

-- All are replies of a block.

first_of_block : (n : ℕ) (told : ℕ → List Task) → All IsOfBlock (first_replies n told)
first_of_block zero told = All-nil IsOfBlock
first_of_block (suc n) told =
    subst (λ (k : ℕ). All IsOfBlock (first_replies k told)) (let is : n + 1 ≡ suc n = omega arith in is)
    (subst (All IsOfBlock) (first_more n told)
    (All-append IsOfBlock (first_replies n told) (map (reply_of (n + 1)) (told n)) (first_of_block n told) (All-map IsOfBlock (reply_of (n + 1)) (told n) (λ k d low. tt))))

gate_of_block : (ticket : Option ℕ) (opened : Bool) → All IsOfBlock (gate_replies ticket opened)
gate_of_block None opened = All-nil IsOfBlock
gate_of_block (Some ticket) opened = All-push IsOfBlock [] (Gate opened) (All-nil IsOfBlock) tt

pub are_of_block : (told : ℕ → List Task) (ticket : Option ℕ) (opened : Bool) → All IsOfBlock (replies_of told ++ gate_replies ticket opened)
are_of_block told ticket opened = All-append IsOfBlock (replies_of told) (gate_replies ticket opened) (first_of_block 8 told) (gate_of_block ticket opened)
