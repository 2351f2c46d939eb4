-- The law of saving: the picture stays, the store stays in order, and the chunk has its copy.
use Rattle.std.proofs.Common.{◌≡◌, ◌≢◌, ◌⊎◌, inl, inr, ℕ, ◌+◌, ◌*◌, ◌/◌, ◌%◌, ◌<◌, ◌≤◌, List, length, arith, refl, ◌∙◌, sym, subst, Bool, false, length-append}
use Rattle.std.specs.Prelude.{Option, Some, None}
use Rattle.std.proofs.lemmas.Bool.{cases_eq, cases_lt, true≢false}
use Rattle.std.proofs.lemmas.Nat.{mul-le, div-add-mod', mod_below}
use Rattle.cow_format.specs.Places.{area_place}
use Rattle.cow_format.specs.Pairs.{pairs_of}
use Rattle.cow_format.specs.Picture.{place_of}
use Rattle.sector.proofs.Numbers.{length-number_bytes}
use Rattle.cow_header.specs.HeaderText.{header_bytes}
use Rattle.std.proofs.lemmas.List.{length-replicate}
use Rattle.whole_commands.specs.Saves.{next_of, zeroed, paired, saved, spoilt, marked}
use Rattle.whole_commands.specs.Order.{AreEmptyFrom, IsInOrder}
use Rattle.whole_commands.proofs.Nexts.{next_of_is}
use Rattle.whole_commands.proofs.Parts.{length-with_part}
use Rattle.whole_commands.proofs.Cases.{next_pair, copied_next, saved-kept, saved-full, saved-more, saved-lacks, saved-filled}
use Rattle.whole_commands.proofs.Commits.{zeroed_empty}
use Rattle.whole_commands.proofs.Saved.{IsSavedTo, AfterSaving, IsCopiedTo, copied_to, zeroed_to, put_to, kept_to, above_unnamed, slot_more, slot_full}
use Rattle.cow_format.proofs.Views.{place_unnamed}

-- a store has room for its header
pub header_fits : (chunk origin size : ℕ) (store : List ℕ) → IsInOrder chunk origin size store → 512 * chunk ≤ length store
header_fits chunk origin size store order =
    let room = order.pairs.room in
    let whole = order.whole in
    let h : chunk * 1 ≤ chunk * (area_place chunk (length (pairs_of chunk store) / (32 * chunk)) + 1) = mul-le chunk 1 chunk (area_place chunk (length (pairs_of chunk store) / (32 * chunk)) + 1) (omega arith) (omega arith) in
    omega arith

-- the header's text fills its chunk
pub length-header_bytes : (len : ℕ) (valid : Bool) (chunk : ℕ) → 16 ≤ len → length (header_bytes len valid chunk) ≡ len
unfolding header_bytes
length-header_bytes len valid chunk fits = simp (length-append, length-number_bytes, length-replicate) (omega arith)

-- a mark keeps the length
pub length-marked : (chunk : ℕ) (store : List ℕ) → 0 < chunk → 512 * chunk ≤ length store → length (marked chunk store) ≡ length store
length-marked chunk store pos fits =
    let len = length-header_bytes (512 * chunk) false chunk (omega arith) in
    length-with_part store (header_bytes (512 * chunk) false chunk) 0 (omega arith)

-- a saving that spoils
spoilt_law : (chunk origin size c : ℕ) (disk store now : List ℕ) → IsInOrder chunk origin size store → length now ≡ length store → AfterSaving chunk origin size c disk store (spoilt chunk now)
spoilt_law chunk origin size c disk store now order same =
    let fits = header_fits chunk origin size store order in
    (length-marked chunk now order.some (omega arith) ∙ same, λ live. absurd (true≢false (sym live)))

-- chunks in bytes
pub chunk_fits : (chunk n size : ℕ) (store : List ℕ) → length store ≡ 512 * size → chunk * (n + 1) ≤ size → 512 * (chunk * n + chunk) ≤ length store
chunk_fits chunk n size store whole fits = let h : chunk * (n + 1) ≡ chunk * n + chunk = grind arith in omega arith

fits_chunk : (chunk n size : ℕ) (store : List ℕ) → length store ≡ 512 * size → 512 * (chunk * (n + 1)) ≤ length store → chunk * (n + 1) ≤ size
fits_chunk chunk n size store whole fits = omega arith

-- a copy in the next place
copied_law : (chunk origin size c : ℕ) (disk store : List ℕ) → length disk ≡ 512 * origin → IsInOrder chunk origin size store → chunk * c < origin → chunk * (next_of chunk (pairs_of chunk store) + 1) ≤ size → IsCopiedTo chunk (length (pairs_of chunk store) / (32 * chunk)) (length (pairs_of chunk store) % (32 * chunk)) disk store (copied_next chunk disk store c) (pairs_of chunk store) (next_pair chunk store c)
copied_law chunk origin size c disk store whole order inside fits =
    let nth = next_of_is chunk (pairs_of chunk store) order.some in
    copied_to chunk origin c (next_of chunk (pairs_of chunk store)) _ _ disk store (pairs_of chunk store) order.some whole inside
    (chunk_fits chunk (next_of chunk (pairs_of chunk store)) size store order.whole fits) nth.free refl
    (λ d. above_unnamed (pairs_of chunk store) (next_of chunk (pairs_of chunk store)) d nth.past) order.tail

-- a new pair that leaves room in its area
more_law : (chunk origin size c : ℕ) (disk store : List ℕ) → length disk ≡ 512 * origin → IsInOrder chunk origin size store → chunk * c < origin → place_of (pairs_of chunk store) c ≡ None → chunk * (next_of chunk (pairs_of chunk store) + 1) ≤ size → (length (pairs_of chunk store) + 1) % (32 * chunk) ≢ 0 → IsSavedTo chunk origin size c disk store (paired chunk (copied_next chunk disk store c) (length (pairs_of chunk store)) (next_pair chunk store c))
more_law chunk origin size c disk store whole order inside none fits more =
    let k : ℕ = length (pairs_of chunk store) in
    let pos : 0 < chunk = order.some in
    let at : k ≡ k / (32 * chunk) * (32 * chunk) + k % (32 * chunk) = sym (div-add-mod' k (32 * chunk)) in
    let j_below : k % (32 * chunk) < 32 * chunk = mod_below k (32 * chunk) (omega arith) in
    let is = copied_law chunk origin size c disk store whole order inside fits in
    elim (cases_lt (k % (32 * chunk) + 1) (32 * chunk)) [
      | inl lt ↦ (let (q, r) = slot_more (32 * chunk) (k / (32 * chunk)) (k % (32 * chunk)) k at lt in
          put_to chunk origin size c _ _ disk store (copied_next chunk disk store c) whole order inside none fits at j_below
          (chunk_fits chunk _ size (copied_next chunk disk store c) (is.whole ∙ order.whole) order.pairs.room) (rw q order.pairs.room) (λ full. absurd (omega arith)) is)
      | inr ge ↦ (let (q, r) = slot_full (32 * chunk) (k / (32 * chunk)) (k % (32 * chunk)) k (omega arith) at (omega arith) in absurd (more r))
    ]

-- a new pair that fills its area
filled_law : (chunk origin size c : ℕ) (disk store : List ℕ) → length disk ≡ 512 * origin → IsInOrder chunk origin size store → chunk * c < origin → place_of (pairs_of chunk store) c ≡ None → chunk * (next_of chunk (pairs_of chunk store) + 1) ≤ size → (length (pairs_of chunk store) + 1) % (32 * chunk) ≡ 0 → 512 * (chunk * (area_place chunk ((length (pairs_of chunk store) + 1) / (32 * chunk)) + 1)) ≤ length (copied_next chunk disk store c) → IsSavedTo chunk origin size c disk store (paired chunk (zeroed chunk (copied_next chunk disk store c) ((length (pairs_of chunk store) + 1) / (32 * chunk))) (length (pairs_of chunk store)) (next_pair chunk store c))
filled_law chunk origin size c disk store whole order inside none fits full there =
    let k : ℕ = length (pairs_of chunk store) in
    let pos : 0 < chunk = order.some in
    let at : k ≡ k / (32 * chunk) * (32 * chunk) + k % (32 * chunk) = sym (div-add-mod' k (32 * chunk)) in
    let j_below : k % (32 * chunk) < 32 * chunk = mod_below k (32 * chunk) (omega arith) in
    let is = copied_law chunk origin size c disk store whole order inside fits in
    let len : length (copied_next chunk disk store c) ≡ 512 * size = is.whole ∙ order.whole in
    elim (cases_lt (k % (32 * chunk) + 1) (32 * chunk)) [
      | inl lt ↦ (let (q, r) = slot_more (32 * chunk) (k / (32 * chunk)) (k % (32 * chunk)) k at lt in absurd (let h : k % (32 * chunk) + 1 ≡ 0 = sym r ∙ full in omega arith))
      | inr ge ↦ (let (q, r) = slot_full (32 * chunk) (k / (32 * chunk)) (k % (32 * chunk)) k (omega arith) at (omega arith) in
          let room : chunk * (area_place chunk ((k + 1) / (32 * chunk)) + 1) ≤ size = fits_chunk chunk (area_place chunk ((k + 1) / (32 * chunk))) size (copied_next chunk disk store c) len there in
          let there' : 512 * (chunk * area_place chunk ((k + 1) / (32 * chunk)) + chunk) ≤ length (copied_next chunk disk store c) = chunk_fits chunk (area_place chunk ((k + 1) / (32 * chunk))) size (copied_next chunk disk store c) len room in
          let nth = next_of_is chunk (pairs_of chunk store) pos in
          let zero_to = zeroed_to chunk (k / (32 * chunk)) (k % (32 * chunk)) ((k + 1) / (32 * chunk)) disk store (copied_next chunk disk store c) (pairs_of chunk store) (next_pair chunk store c) pos there' at j_below (omega arith) nth.free
          (place_unnamed chunk origin size ((k + 1) / (32 * chunk)) (pairs_of chunk store) pos order.pairs.inside) is in
          put_to chunk origin size c _ _ disk store (zeroed chunk (copied_next chunk disk store c) ((k + 1) / (32 * chunk))) whole order inside none fits at j_below
          (chunk_fits chunk _ size (zeroed chunk (copied_next chunk disk store c) ((k + 1) / (32 * chunk))) (zero_to.whole ∙ order.whole) order.pairs.room) room
          (λ e. subst (λ (x : ℕ). AreEmptyFrom chunk x 0 (zeroed chunk (copied_next chunk disk store c) ((k + 1) / (32 * chunk)))) q (zeroed_empty chunk ((k + 1) / (32 * chunk)) (copied_next chunk disk store c) there')) zero_to)
    ]

pub option_cases : (o : Option ℕ) → (o ≡ None) ⊎ ((n : ℕ) × (o ≡ Some n))
option_cases None = inl refl
option_cases (Some n) = inr (n, refl)

-- saving a chunk of the origin
pub saving_law : (chunk origin size c : ℕ) (disk store : List ℕ) → length disk ≡ 512 * origin → IsInOrder chunk origin size store → chunk * c < origin → AfterSaving chunk origin size c disk store (saved chunk disk store c)
saving_law chunk origin size c disk store whole order inside = elim (option_cases (place_of (pairs_of chunk store) c)) [
  | inr (n, some) ↦ rw (saved-kept chunk disk store c n some) (refl, λ live. kept_to chunk origin size c disk store order (λ e. let h : Some n ≡ None = sym some ∙ e in absurd (cc)))
  | inl none ↦ elim (cases_lt (length store) (512 * (chunk * (next_of chunk (pairs_of chunk store) + 1)))) [
    | inl full ↦ rw (saved-full chunk disk store c none full) (spoilt_law chunk origin size c disk store store order refl)
    | inr room ↦ (let fits = fits_chunk chunk (next_of chunk (pairs_of chunk store)) size store order.whole room in
        let is = copied_law chunk origin size c disk store whole order inside fits in
        elim (cases_eq ((length (pairs_of chunk store) + 1) % (32 * chunk)) 0) [
          | inr more ↦ (let h = more_law chunk origin size c disk store whole order inside none fits more in
              rw (saved-more chunk disk store c none room more) (h.order.whole ∙ sym order.whole, λ live. h))
          | inl full ↦ elim (cases_lt (length (copied_next chunk disk store c)) (512 * (chunk * (area_place chunk ((length (pairs_of chunk store) + 1) / (32 * chunk)) + 1)))) [
            | inl lacks ↦ rw (saved-lacks chunk disk store c none room full lacks) (spoilt_law chunk origin size c disk store (copied_next chunk disk store c) order is.whole)
            | inr there ↦ (let h = filled_law chunk origin size c disk store whole order inside none fits full there in
                rw (saved-filled chunk disk store c none room full there) (h.order.whole ∙ sym order.whole, λ live. h))
          ]
        ])
  ]
]
