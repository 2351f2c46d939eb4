-- Attaching over a device without layers is that of the machine whose devices never fail.
use Rattle.std.proofs.Common.{◌≡◌, ◌⊎◌, inl, inr, ℕ, zero, suc, ◌+◌, ◌*◌, ◌-◌, ◌/◌, ◌%◌, ◌<◌, ◌≤◌, Bool, true, false, List, [], ◌∷◌, ◌++◌, length, get_or, drop, arith, refl, ap, ◌∙◌, sym, subst, eqb-true, length-take, length-drop}
use Rattle.std.specs.Prelude.{◌==◌, ◌&&◌, nat_lt, not, Result, Ok, Err, Some, None, replicate, if◌then◌else◌}
use Rattle.std.specs.List.{list_all}
use Rattle.std.proofs.lemmas.Bool.{cases_Bool, cases_lt, cond-true, cond-false, true≢false, le-ltb, lt-ltb}
use Rattle.std.proofs.lemmas.List.{places, same_lists, get_or-replicate, length-replicate}
use Rattle.std.proofs.lemmas.List.Folds.{list_all_at}
use Rattle.std.proofs.lemmas.Grind.{get_or_default_zero}
use Rattle.std.proofs.lemmas.Nat.{mul-le, mod_below}
use Rattle.sector.specs.Bytes.{with_part, sector_at}
use Rattle.sector.specs.Number.{number_at}
use Rattle.sector.specs.declared.refusal.Refusal.{Refusal}
use Rattle.sector.specs.declared.refusal.Refusal.TheVariants.{StoreTooSmall, Damaged, BadChunk, TooMany}
use Rattle.cow_format.specs.Places.{chunk_at, area_place}
use Rattle.sector.specs.declared.pair.Pair.{Pair}
use Rattle.cow_format.specs.Pairs.{pairs_of}
use Rattle.cow_format.specs.Picture.{picture}
use Rattle.cow_header.specs.HeaderText.{found_in}
use Rattle.cow_header.specs.declared.found.Found.{Found}
use Rattle.cow_header.specs.declared.found.Found.TheVariants.{Fresh, Header}
use Rattle.plain_machine.specs.declared.request.Overflowing.{Overflowing}
use Rattle.whole_commands.specs.Loads.{made, trimmed, is_loadable, is_too_small, taken_fresh, taken_written, taken_as, taken}
use Rattle.whole_commands.specs.Faultless.{Snap as Plainly, Settled}
use Rattle.whole_commands.specs.FaultlessAttaching.{with_taken, attached as settled_attached}
use Rattle.chunk.specs.Sizes.{is_chunk}
use Rattle.chunk.proofs.Limits.{is_chunk-some}
use Rattle.whole_commands.proofs.Laws.{chunk_fits}
use Rattle.whole_commands.proofs.Parts.{length-with_part, part_inside, part_outside}
use Rattle.plain_machine.specs.Plain.{Saved, Live}
use Rattle.whole_commands.proofs.Loadable.{loadable-formed, header_allowed}
use Rattle.whole_commands.specs.Devices.{Device}
use Rattle.whole_commands.specs.Snaps.{Snap, Volume}
use Rattle.whole_commands.specs.Bare.{is_live, bare, AreBare, IsBare}
use Rattle.whole_commands.specs.Attaching.{Tried, refuse, done, read_areas, last_area, has_tail, make, clear, load, load_as, open_store, Store, Attached, refused_attach, taken_by, with_tried, attached}
use Rattle.whole_commands.proofs.Faultless.{plainly}

-- zeros that are there already
zeros_back : (store : List ℕ) (at n : ℕ) → at + n ≤ length store → ((i : ℕ) → i < n → get_or store (at + i) 0 ≡ 0) → with_part store at (replicate n 0) ≡ store
zeros_back store at n fits none =
    let len : length (replicate n zero) ≡ n = length-replicate n zero in
    let room : at + length (replicate n zero) ≤ length store = omega arith in
    let whole : length (with_part store at (replicate n zero)) ≡ length store = length-with_part store (replicate n zero) at room in
    same_lists _ _ whole
    (λ k d lt. get_or_default_zero (with_part store at (replicate n zero)) k d lt ∙ by_place k (omega arith) ∙ sym (get_or_default_zero store k d (omega arith)))
  where
    by_place : (k : ℕ) → k < length store → get_or (with_part store at (replicate n zero)) k 0 ≡ get_or store k 0
    by_place k lt =
        let len : length (replicate n zero) ≡ n = length-replicate n zero in
        elim (cases_lt k at) [
          | inl below ↦ part_outside store (replicate n zero) at k (omega arith) (inl below)
          | inr from ↦ elim (cases_lt k (at + n)) [
            | inr above ↦ part_outside store (replicate n zero) at k (omega arith) (inr (omega arith))
            | inl here ↦ (let e : at + (k - at) ≡ k = omega arith in
                let within : k - at < n = omega arith in
                ap (λ x. get_or (with_part store at (replicate n zero)) x 0) (sym e) ∙ part_inside store (replicate n zero) at (k - at) (omega arith) (omega arith)
                ∙ get_or-replicate n (k - at) zero 0 within ∙ sym (none (k - at) within) ∙ ap (λ x. get_or store x 0) e)
          ]
        ]

-- areas that are all there are read
areas_read : (chunk a n : ℕ) (origin : Device) (next : Device → Tried) (store : List ℕ) → ((i : ℕ) → i < n → 512 * (chunk * (area_place chunk (a + i) + 1)) ≤ length store) → read_areas chunk a n origin next (plainly store) ≡ next (plainly store)
areas_read chunk a zero origin next store all = refl
areas_read chunk a (suc n) origin next store all =
    let here : 512 * (chunk * (area_place chunk a + 1)) ≤ length store = subst (λ (x : ℕ). 512 * (chunk * (area_place chunk x + 1)) ≤ length store) (omega arith) (all 0 (omega arith)) in
    cond-false _ _ _ (le-ltb _ _ here) ∙ areas_read chunk (a + 1) n origin next store (λ i lt. let e : a + suc i ≡ a + 1 + i = omega arith in subst (λ (x : ℕ). 512 * (chunk * (area_place chunk x + 1)) ≤ length store) e (all (suc i) (omega arith)))

-- or the store is damaged
areas_cases : (chunk a n : ℕ) (origin : Device) (next : Device → Tried) (store : List ℕ) → (read_areas chunk a n origin next (plainly store) ≡ next (plainly store)) ⊎ (read_areas chunk a n origin next (plainly store) ≡ refuse Damaged origin (plainly store))
areas_cases chunk a zero origin next store = inl refl
areas_cases chunk a (suc n) origin next store = elim (cases_Bool (nat_lt (length store) (512 * (chunk * (area_place chunk a + 1))))) [
  | inl lacks ↦ inr (cond-true _ _ _ lacks)
  | inr there ↦ elim (areas_cases chunk (a + 1) n origin next store) [
    | inl all ↦ inl (cond-false _ _ _ there ∙ all)
    | inr none ↦ inr (cond-false _ _ _ there ∙ none)
  ]
]

-- what a load gives is what the other machine takes, and the origin is left as it was
abbrev pub Agrees : List ℕ → Tried → Result Plainly Refusal → Type 0
Agrees disk tried (Err refusal) = (tried.outcome ≡ Err refusal) × (tried.origin ≡ plainly disk)
Agrees disk tried (Ok t) = (is_live t.saved ≡ true) × (tried ≡ done t.chunk (plainly disk) (plainly t.store))

refused_agrees : (disk : List ℕ) (refusal : Refusal) (tried : Tried) (device : Device) → tried ≡ refuse refusal (plainly disk) device → Agrees disk tried (Err refusal)
refused_agrees disk refusal tried device is = (ap (λ (x : Tried). x.outcome) is, ap (λ (x : Tried). x.origin) is)

make_agrees : (chunk : ℕ) (disk array store : List ℕ) → Agrees disk (make chunk (plainly disk) (plainly store)) (taken_fresh chunk array store)
unfolding made
make_agrees chunk disk array store = elim (cases_Bool (is_too_small chunk store)) [
  | inl small ↦ subst (Agrees disk (make chunk (plainly disk) (plainly store))) (sym (cond-true _ _ _ small)) (refused_agrees disk StoreTooSmall _ (plainly store) (cond-true _ _ _ small))
  | inr large ↦ subst (Agrees disk (make chunk (plainly disk) (plainly store))) (sym (cond-false _ _ _ large)) (refl, cond-false _ _ _ large)
]

-- a tail that is zero already
byte_after : (chunk place j i : ℕ) (store : List ℕ) → 512 * (chunk * place + chunk) ≤ length store → 16 * (j + 1) + i < 512 * chunk → get_or (drop (16 * (j + 1)) (chunk_at chunk store place)) i 0 ≡ get_or store (512 * (chunk * place) + 16 * (j + 1) + i) 0
byte_after chunk place j i store fits lt = grind (arith, places)

pub no_tail : (chunk : ℕ) (store : List ℕ) → 0 < chunk → 512 * (chunk * area_place chunk (last_area chunk store) + chunk) ≤ length store → has_tail chunk store ≡ false → trimmed chunk store ≡ store
unfolding trimmed
no_tail chunk store pos fits none =
    let k : ℕ = length (pairs_of chunk store) in
    let j : ℕ = k % (32 * chunk) in
    let place : ℕ = area_place chunk (last_area chunk store) in
    let below : k % (32 * chunk) < 32 * chunk = mod_below k (32 * chunk) (omega arith) in
    let rest : List ℕ = drop (16 * (j + 1)) (chunk_at chunk store place) in
    let zeros : list_all (λ b. b == 0) rest ≡ true = not_false (list_all (λ b. b == 0) rest) none in
    zeros_back store (512 * (chunk * place) + 16 * (j + 1)) (512 * chunk - 16 * (j + 1)) (omega arith)
    (λ i lt. let long : length (drop (16 * (k % (32 * chunk) + 1)) (chunk_at chunk store (area_place chunk (last_area chunk store)))) ≡ 512 * chunk - 16 * (k % (32 * chunk) + 1) = simp (length-drop, length-take) (omega arith) in
    sym (byte_after chunk place j i store fits (omega arith)) ∙ zero_at rest i (omega arith) zeros)
  where
    not_false : (b : Bool) → not b ≡ false → b ≡ true
    not_false true e = refl
    not_false false e = absurd (true≢false e)

    zero_at : (xs : List ℕ) (i : ℕ) → i < length xs → list_all (λ b. b == 0) xs ≡ true → get_or xs i 0 ≡ 0
    zero_at xs i lt all = elim (cases_Bool (get_or xs i 0 == 0)) [
      | inl is ↦ eqb-true (get_or xs i 0) 0 is
      | inr other ↦ absurd (true≢false (sym all ∙ list_all_at (λ b. b == 0) xs i 0 lt other))
    ]

clear_agrees : (chunk : ℕ) (disk : List ℕ) (shown : Saved) (store : List ℕ) (was : is_live shown ≡ true) → 0 < chunk → is_loadable chunk (length disk / 512) (length store / 512) (pairs_of chunk store) ≡ true → 512 * (chunk * area_place chunk (last_area chunk store) + chunk) ≤ length store →
    Agrees disk (clear chunk (plainly disk) (plainly store)) (Ok (record { chunk = chunk; saved = shown; store = trimmed chunk store }))
clear_agrees chunk disk shown store was pos loadable fits = elim (cases_Bool (has_tail chunk store)) [
  | inl tail ↦ (was, cond-false _ _ _ (ap not loadable) ∙ cond-true _ _ _ tail)
  | inr none ↦ (was, cond-false _ _ _ (ap not loadable) ∙ cond-false _ _ _ none ∙ ap (λ b. done chunk (plainly disk) (plainly b)) (sym (no_tail chunk store pos fits none)))
]

areas_inside : (chunk last size i : ℕ) (store : List ℕ) → length store ≡ 512 * size → chunk * (area_place chunk last + 1) ≤ size → i ≤ last → 512 * (chunk * (area_place chunk (0 + i) + 1)) ≤ length store
areas_inside chunk last size i store whole room le =
    let e : 0 + i ≡ i = omega arith in
    let steps : i * (32 * chunk + 1) ≤ last * (32 * chunk + 1) = mul-le i (32 * chunk + 1) last (32 * chunk + 1) le (omega arith) in
    let more : chunk * (area_place chunk i + 1) ≤ chunk * (area_place chunk last + 1) = mul-le chunk (area_place chunk i + 1) chunk (area_place chunk last + 1) (omega arith) (omega arith) in
    subst (λ (x : ℕ). 512 * (chunk * (area_place chunk x + 1)) ≤ length store) (sym e) (omega arith)

pub size_of : (n m : ℕ) → n ≡ 512 * m → n / 512 ≡ m
size_of n m e = omega arith

load_agrees : (chunk size : ℕ) (disk array store : List ℕ) → length array ≡ length disk → 0 < chunk → length store ≡ 512 * size → Agrees disk (load chunk (plainly disk) (plainly store)) (taken_written chunk array store)
load_agrees chunk size disk array store alike pos whole =
    let tried : Tried = load chunk (plainly disk) (plainly store) in
    let last : ℕ = last_area chunk store in
    let ps : List Pair = pairs_of chunk store in
    let same : is_loadable chunk (length array / 512) (length store / 512) ps ≡ is_loadable chunk (length disk / 512) (length store / 512) ps = ap (λ (n : ℕ). is_loadable chunk (n / 512) (length store / 512) ps) alike in
    elim (cases_Bool (is_too_small chunk store)) [
      | inl small ↦ subst (Agrees disk tried) (sym (cond-true _ _ _ small)) (refused_agrees disk StoreTooSmall tried (plainly store) (cond-true _ _ _ small))
      | inr large ↦ elim (cases_Bool (is_loadable chunk (length disk / 512) (length store / 512) ps)) [
        | inl loadable ↦ (let formed = loadable-formed chunk (length disk / 512) (length store / 512) ps loadable in
            let room : chunk * (area_place chunk (last_area chunk store) + 1) ≤ size = subst (λ (x : ℕ). chunk * (area_place chunk (last_area chunk store) + 1) ≤ x) (size_of (length store) size whole) formed.room in
            let goes : tried ≡ clear chunk (plainly disk) (plainly store) =
            cond-false _ _ _ large ∙ areas_read chunk 0 (last + 1) (plainly disk) (clear chunk (plainly disk)) store (λ i lt. areas_inside chunk last size i store whole room (omega arith)) in
            let want : Result Plainly Refusal = Ok (record { chunk = chunk; saved = Live (picture chunk array store); store = trimmed chunk store }) in
            subst (Agrees disk tried) (sym (cond-false _ _ _ large ∙ cond-true _ _ _ (same ∙ loadable)))
            (subst (λ (x : Tried). Agrees disk x want) (sym goes) (clear_agrees chunk disk (Live (picture chunk array store)) store refl pos loadable (chunk_fits chunk (area_place chunk last) size store whole room))))
        | inr damaged ↦ (let refuses : clear chunk (plainly disk) (plainly store) ≡ refuse Damaged (plainly disk) (plainly store) = cond-true _ _ _ (ap not damaged) in
            let ends : tried ≡ refuse Damaged (plainly disk) (plainly store) = cond-false _ _ _ large ∙ elim (areas_cases chunk 0 (last + 1) (plainly disk) (clear chunk (plainly disk)) store) [ inl all ↦ all ∙ refuses | inr none ↦ none ] in
            subst (Agrees disk tried) (sym (cond-false _ _ _ large ∙ cond-false _ _ _ (same ∙ damaged))) (refused_agrees disk Damaged tried (plainly store) ends))
      ]
    ]

found_agrees : (line size : ℕ) (disk array store : List ℕ) (found : Result Found Refusal) → length array ≡ length disk → ((own : ℕ) → found ≡ Ok (Header own) → 0 < own) → length store ≡ 512 * size → Agrees disk (load_as line found (plainly disk) (plainly store)) (taken_as line array store found)
found_agrees line size disk array store (Err refusal) alike own whole = (refl, refl)
found_agrees line size disk array store (Ok Fresh) alike own whole = make_agrees line disk array store
found_agrees line size disk array store (Ok (Header chunk)) alike own whole = load_agrees chunk size disk array store alike (own chunk refl) whole

nothing_there : (xs : List ℕ) → length xs ≡ 0 → xs ≡ []
nothing_there [] e = refl
nothing_there (x ∷ xs) e = absurd (omega arith)

open_agrees : (line size : ℕ) (disk array store : List ℕ) → length array ≡ length disk → 0 < line → length store ≡ 512 * size → Agrees disk (open_store line (plainly disk) (plainly store)) (taken line array store)
unfolding open_store taken
open_agrees line size disk array store alike pos whole =
    let same : length store / 512 ≡ size = size_of (length store) size whole in
    elim (cases_Bool (length store / 512 == 0)) [
      | inl none ↦ (let zero_size : length store / 512 ≡ 0 = eqb-true (length store / 512) 0 none in
          let empty : store ≡ [] = nothing_there store (omega arith) in
          let small : is_too_small line [] ≡ true = lt-ltb _ _ (omega arith) in
          let refused : taken_as line array [] (found_in (sector_at [] 0)) ≡ Err StoreTooSmall = cond-true _ _ _ small in
          let is : taken_as line array store (found_in (sector_at store 0)) ≡ Err StoreTooSmall = ap (λ (b : List ℕ). taken_as line array b (found_in (sector_at b 0))) empty ∙ refused in
          subst (Agrees disk (open_store line (plainly disk) (plainly store))) (sym is) (refused_agrees disk StoreTooSmall _ (plainly store) (cond-true _ _ _ none)))
      | inr some ↦ subst (λ (x : Tried). Agrees disk x (taken_as line array store (found_in (sector_at store 0)))) (sym (cond-false _ _ _ some))
          (found_agrees line size disk array store (found_in (sector_at store 0)) alike (λ own is. is_chunk-some own (header_allowed (number_at (sector_at store 0) 0 4) (number_at (sector_at store 0) 4 4) (number_at (sector_at store 0) 8 4) (number_at (sector_at store 0) 12 4) own is)) whole)
    ]

-- an attach leaves what the other machine leaves
abbrev pub AttachAgrees : Attached → Volume → Result Settled Refusal → Type 0
AttachAgrees a v (Err refusal) = (a.refused ≡ Some refusal) × (a.volume ≡ v)
AttachAgrees a v (Ok w) = (a.refused ≡ None) × IsBare a.volume w

count_same : (ss : List Snap) (ts : List Plainly) → AreBare ss ts → length ss ≡ length ts
count_same [] [] are = refl
count_same [] (t ∷ ts) are = absurd are
count_same (s ∷ ss) [] are = absurd are
count_same (s ∷ ss) (t ∷ ts) are = ap suc (count_same ss ts are.1)

one_more : (ss : List Snap) (ts : List Plainly) (s : Snap) (t : Plainly) → AreBare ss ts → s ≡ bare s.number s.overflow t → AreBare (ss ++ s ∷ []) (ts ++ t ∷ [])
one_more [] [] s t are is = (is, tt)
one_more [] (u ∷ ts) s t are is = absurd are
one_more (r ∷ ss) [] s t are is = absurd are
one_more (r ∷ ss) (u ∷ ts) s t are is = (are.0, one_more ss ts s t are.1 is)

tried_agrees : (number : ℕ) (overflow : Overflowing) (v : Volume) (w : Settled) (tried : Tried) (judged : Result Plainly Refusal) → IsBare v w → Agrees w.disk tried judged → AttachAgrees (with_tried number overflow tried v) v (with_taken w judged)
tried_agrees number overflow v w tried (Err refusal) is agrees =
    let over : Device → Volume = λ (o : Device). record { origin = o; snaps = v.snaps } in (
      ap (λ o. (taken_by number overflow tried.device o (over tried.origin)).refused) agrees.0,
      ap (λ o. (taken_by number overflow tried.device o (over tried.origin)).volume) agrees.0 ∙ ap over (agrees.1 ∙ sym is.origin),
    )
tried_agrees number overflow v w tried (Ok t) is agrees =
    let goes : with_tried number overflow tried v ≡ with_tried number overflow (done t.chunk (plainly w.disk) (plainly t.store)) v = ap (λ (x : Tried). with_tried number overflow x v) agrees.1 in
    let mk : Bool → Snap = λ (b : Bool). record { number = number; chunk = t.chunk; live = b; overflow = overflow; stale = false; store = plainly t.store } in
    subst (λ (a : Attached). (a.refused ≡ None) × IsBare a.volume (record { array = w.array; disk = w.disk; snaps = w.snaps ++ t ∷ [] })) (sym goes)
    (refl, record { origin = refl; snaps = one_more v.snaps w.snaps (mk true) t is.snaps (ap mk (sym agrees.0)) })

-- an attach of a store that is not stale, under a number of 32 bits
pub attach_faultless : (number line size : ℕ) (overflow : Overflowing) (bytes : List ℕ) (v : Volume) (w : Settled) → number < 4_294_967_296 → IsBare v w → length w.array ≡ length w.disk → length bytes ≡ 512 * size →
    AttachAgrees (attached number line overflow (record { device = plainly bytes; stale = false }) v) v (settled_attached line bytes w)
unfolding attached settled_attached
attach_faultless number line size overflow bytes v w few is array whole =
    let count : length v.snaps ≡ length w.snaps = count_same v.snaps w.snaps is.snaps in
    let store : Store = record { device = plainly bytes; stale = false } in
    let outer : Bool → Bool → Attached = λ (b c : Bool). if b then (if c then with_tried number overflow (open_store line v.origin store.device) v else refused_attach BadChunk store v) else refused_attach TooMany store v in
    let outer' : Bool → Bool → Result Settled Refusal = λ (b c : Bool). if b then (if c then with_taken w (taken line w.array bytes) else Err BadChunk) else Err TooMany in
    let same : (nat_lt (length v.snaps) 8 && nat_lt number 4_294_967_296) ≡ nat_lt (length w.snaps) 8 = ap (λ b. nat_lt (length v.snaps) 8 && b) (lt-ltb _ _ few) ∙ and_all (nat_lt (length v.snaps) 8) ∙ ap (λ n. nat_lt n 8) count in
    subst (λ b. AttachAgrees (outer (nat_lt (length v.snaps) 8 && nat_lt number 4_294_967_296) (is_chunk line)) v (outer' b (is_chunk line))) same
    (by_tests (nat_lt (length v.snaps) 8 && nat_lt number 4_294_967_296) (is_chunk line) (λ allowed. subst (λ (o : Device). AttachAgrees (with_tried number overflow (open_store line o (plainly bytes)) v) v (with_taken w (taken line w.array bytes))) (sym is.origin)
    (tried_agrees number overflow v w (open_store line (plainly w.disk) (plainly bytes)) (taken line w.array bytes) is (open_agrees line size w.disk w.array bytes array (is_chunk-some line allowed) whole))))
  where
    and_all : (b : Bool) → (b && true) ≡ b
    and_all true = refl
    and_all false = refl

    by_tests : (b c : Bool) → (c ≡ true → AttachAgrees (with_tried number overflow (open_store line v.origin (plainly bytes)) v) v (with_taken w (taken line w.array bytes))) →
        AttachAgrees (if b then (if c then with_tried number overflow (open_store line v.origin (plainly bytes)) v else refused_attach BadChunk (record { device = plainly bytes; stale = false }) v) else refused_attach TooMany (record { device = plainly bytes; stale = false }) v) v
        (if b then (if c then with_taken w (taken line w.array bytes) else Err BadChunk) else Err TooMany)
    by_tests true true f = f refl
    by_tests true false f = (refl, refl)
    by_tests false true f = (refl, refl)
    by_tests false false f = (refl, refl)
