-- Saving a chunk of the origin leaves the picture, the order, and a copy of the chunk.
use Rattle.std.proofs.Common.{◌≡◌, ◌≢◌, ◌⊎◌, inl, inr, ℕ, zero, suc, ◌+◌, ◌*◌, ◌-◌, ◌/◌, ◌%◌, ◌^◌, ◌<◌, ◌≤◌, List, [], ◌∷◌, ◌++◌, length, get_or, take, map, arith, rules, refl, ap, ◌∙◌, sym, subst, true, false, length-append, append-nil, min, length-take, length-drop}
use Rattle.std.specs.Prelude.{Option, Some, None, is_some}
use Rattle.std.specs.List.{All}
use Rattle.std.proofs.lemmas.Bool.{true≢false, cases_eq, cases_lt, cond-true, cond-false, eq-eqb, ne_eqb}
use Rattle.std.proofs.lemmas.List.Elements.{All-push}
use Rattle.std.proofs.lemmas.List.Quantifiers.{all_pairs_push}
use Rattle.std.proofs.lemmas.List.{get_or-map, length-map, same_lists, places}
use Rattle.std.proofs.lemmas.Nat.{mul-le, div-mul-add, mod-mul-add, mod_below}
use Rattle.sector.specs.Bytes.{with_part, sectors_at}
use Rattle.sector.specs.declared.pair.Pair.{Pair}
use Rattle.cow_format.specs.Places.{chunk_at, area_place, is_area_place, ChangesOnly}
use Rattle.cow_format.specs.Pairs.{pairs_of, IsApart, IsInside, AreWellFormed}
use Rattle.cow_format.specs.Picture.{place_of, picture_at, picture, IsCopied}
use Rattle.cow_format.proofs.AreaPlaces.{place_is, places_apart}
use Rattle.cow_format.proofs.Slots.{pairs-outside, pairs-later}
use Rattle.cow_format.proofs.Pictures.{same_picture, place-pushed, place_found, front_copied}
use Rattle.cow_format.proofs.Views.{byte_same, picture-only, picture-commit, place_unnamed}
use Rattle.whole_commands.specs.Saves.{next_of, pairs_after, copied, zeroed, Saving}
use Rattle.whole_commands.specs.Order.{AreEmptyFrom, IsInOrder}
use Rattle.whole_commands.proofs.Nexts.{next_of_is}
use Rattle.whole_commands.proofs.Parts.{part_only, front_here}
use Rattle.whole_commands.proofs.Commits.{put, put_pairs, put_only, put_tail, tail_kept, zeroed_only}

-- a chunk without a copy is named by no pair
pub none_named : (ps : List Pair) (c : ℕ) → place_of ps c ≡ None → (k : ℕ) (d : Pair) → k < length ps → (get_or ps k d).old ≢ c
none_named [] c none k d lt = absurd (omega arith)
none_named (p ∷ ps) c none zero d lt = λ e. let h : Some p.new ≡ None = sym (cond-true _ _ _ (eq-eqb _ _ e)) ∙ none in absurd (cc)
none_named (p ∷ ps) c none (suc k) d lt = elim (cases_eq p.old c) [
  | inl e ↦ (let h : Some p.new ≡ None = sym (cond-true _ _ _ (eq-eqb _ _ e)) ∙ none in absurd (cc))
  | inr ne ↦ none_named ps c (sym (cond-false _ _ _ (ne_eqb _ _ ne)) ∙ none) k d (omega arith)
]

-- one pair more is well formed
pub formed_more : (chunk origin size : ℕ) (ps : List Pair) (p : Pair) → AreWellFormed chunk origin size ps → IsInside chunk origin size p → place_of ps p.old ≡ None → All (λ k. k < p.new) (map (λ pair. pair.new) ps) → chunk * (area_place chunk ((length ps + 1) / (32 * chunk)) + 1) ≤ size → AreWellFormed chunk origin size (ps ++ p ∷ [])
formed_more chunk origin size ps p formed inside none below room = record {
  inside = All-push (IsInside chunk origin size) ps p formed.inside inside;
  apart = all_pairs_push IsApart ps p formed.apart (λ k d lt. record { old = none_named ps p.old none k d lt; new = λ e. let h = below k 0 (rw length-map lt) in let at = get_or-map (λ pair. pair.new) ps k d 0 lt in omega arith });
  room = subst (λ n. chunk * (area_place chunk (n / (32 * chunk)) + 1) ≤ size) (sym (length-append ps (p ∷ []))) room;
}

-- the slot after one, in the same area and in the next
pub slot_more : (w a j k : ℕ) → k ≡ a * w + j → j + 1 < w → ((k + 1) / w ≡ a) × ((k + 1) % w ≡ j + 1)
slot_more w a j k is lt =
    let e : k + 1 ≡ a * w + (j + 1) = omega arith in
    (ap (λ n. n / w) e ∙ div-mul-add a w (j + 1) lt, ap (λ n. n % w) e ∙ mod-mul-add a w (j + 1) lt)

pub slot_full : (w a j k : ℕ) → 0 < w → k ≡ a * w + j → j + 1 ≡ w → ((k + 1) / w ≡ a + 1) × ((k + 1) % w ≡ 0)
slot_full w a j k pos is full =
    let h : a * w + w ≡ (a + 1) * w = grind arith in
    let e : k + 1 ≡ (a + 1) * w + 0 = omega arith in
    (ap (λ n. n / w) e ∙ div-mul-add (a + 1) w 0 pos, ap (λ n. n % w) e ∙ mod-mul-add (a + 1) w 0 pos)

-- the chunk of a disk, as long as it is there
pub chunk_front : (chunk origin c count : ℕ) (disk : List ℕ) → length disk ≡ 512 * origin → count ≡ min chunk (origin - chunk * c) → chunk_at chunk disk c ≡ sectors_at disk (chunk * c) count
chunk_front chunk origin c count disk whole is = same_lists _ _ (search (rules, places)) (λ k d h. grind (arith, places))

pub length-chunk_front : (chunk origin c count : ℕ) (disk : List ℕ) → length disk ≡ 512 * origin → count ≡ min chunk (origin - chunk * c) → length (chunk_at chunk disk c) ≡ 512 * count
length-chunk_front chunk origin c count disk whole is = simp (length-take, length-drop) (omega arith)

-- no pair's copy stands in a place above all of them
pub above_unnamed : (ps : List Pair) (n c : ℕ) → All (λ k. k < n) (map (λ pair. pair.new) ps) → place_of ps c ≢ Some n
above_unnamed ps n c below e =
    let (k, lt, at) = place_found ps c n e in
    let d : Pair = record { old = 0; new = 0 } in
    let h = below k 0 (rw length-map lt) in
    let is = get_or-map (λ pair. pair.new) ps k d 0 lt in
    let new = (at d).1 in
    omega arith

-- between a copy and its pair: the list is as it was, and the copy stands
pub record IsCopiedTo (chunk a j : ℕ) (disk store now : List ℕ) (ps : List Pair) (p : Pair) : Type 0 where
  pub whole : length now ≡ length store
  pub pairs : pairs_of chunk now ≡ ps
  pub front : IsCopied chunk disk now p
  pub same : (i : ℕ) → picture_at chunk disk now ps i ≡ picture_at chunk disk store ps i
  pub tail : AreEmptyFrom chunk a j now

-- a free chunk is no area's place
free_apart : (chunk a n : ℕ) → 0 < chunk → is_area_place chunk n ≡ false → area_place chunk a ≢ n
free_apart chunk a n pos free e = true≢false (sym (place_is chunk a pos) ∙ ap (is_area_place chunk) e ∙ free)

-- the copy
pub copied_to : (chunk origin c n a j : ℕ) (disk store : List ℕ) (ps : List Pair) → 0 < chunk → length disk ≡ 512 * origin → chunk * c < origin → 512 * (chunk * n + chunk) ≤ length store → is_area_place chunk n ≡ false → pairs_of chunk store ≡ ps → ((c : ℕ) → place_of ps c ≢ Some n) → AreEmptyFrom chunk a j store → IsCopiedTo chunk a j disk store (copied chunk disk store c n) ps (record { old = c; new = n })
copied_to chunk origin c n a j disk store ps pos whole inside fits free pairs unnamed tail =
    let count : ℕ = min chunk (origin - chunk * c) in
    let len : length (chunk_at chunk disk c) ≡ 512 * min chunk (origin - chunk * c) = length-chunk_front chunk origin c _ disk whole refl in
    let at : 512 * (chunk * n) + 0 ≡ 512 * (chunk * n) = omega arith in
    let only : ChangesOnly chunk n store (copied chunk disk store c n) =
    subst (λ (x : ℕ). ChangesOnly chunk n store (with_part store x (chunk_at chunk disk c))) at (part_only chunk n 0 store (chunk_at chunk disk c) (omega arith) (omega arith)) in
    record {
      whole = only.len;
      pairs = pairs-outside chunk n store (copied chunk disk store c n) pos free only ∙ pairs;
      front = record {
        front =
            front_copied chunk c n (min chunk (origin - chunk * c)) disk (copied chunk disk store c n) pos
            (front_here chunk n (min chunk (origin - chunk * c)) store (chunk_at chunk disk c) len (omega arith) fits ∙ chunk_front chunk origin c _ disk whole refl)
            (omega arith) (short chunk origin c disk whole inside);
      };
      same = picture-only chunk n disk store (copied chunk disk store c n) ps pos only unnamed;
      tail = tail_kept chunk n a j store (copied chunk disk store c n) only (free_apart chunk a n pos free) tail;
    }
  where
    short : (chunk origin c : ℕ) (disk : List ℕ) → length disk ≡ 512 * origin → chunk * c < origin → (length disk ≤ 512 * (chunk * c + min chunk (origin - chunk * c))) ⊎ (min chunk (origin - chunk * c) ≡ chunk)
    short chunk origin c disk whole inside = elim (cases_lt (origin - chunk * c) chunk) [ inl lt ↦ inl (omega arith) | inr ge ↦ inr (omega arith) ]

-- zeroing an area that is no copy's place
pub zeroed_to : (chunk a j b : ℕ) (disk store now : List ℕ) (ps : List Pair) (p : Pair) → 0 < chunk → 512 * (chunk * area_place chunk b + chunk) ≤ length now → length ps ≡ a * (32 * chunk) + j → j < 32 * chunk → a < b → is_area_place chunk p.new ≡ false → ((c : ℕ) → place_of ps c ≢ Some (area_place chunk b)) → IsCopiedTo chunk a j disk store now ps p → IsCopiedTo chunk a j disk store (zeroed chunk now b) ps p
zeroed_to chunk a j b disk store now ps p pos fits len lt later free unnamed is =
    let only = zeroed_only chunk b now fits in
    record {
      whole = only.len ∙ is.whole;
      pairs = pairs-later chunk a b j now (zeroed chunk now b) pos only (ap length is.pairs ∙ len) lt later ∙ is.pairs;
      front = record {
        front = λ i short at.
            byte_same chunk (area_place chunk b) p.new (i % (512 * chunk)) now (zeroed chunk now b) only (λ e. free_apart chunk b p.new pos free (sym e)) (mod_below i (512 * chunk) (omega arith))
            ∙ is.front.front i short at;
      };
      same = λ i. picture-only chunk (area_place chunk b) disk now (zeroed chunk now b) ps pos only unnamed i ∙ is.same i;
      tail = tail_kept chunk (area_place chunk b) a j now (zeroed chunk now b) only (places_apart chunk a b (omega arith)) is.tail;
    }

-- what is left once the pair stands too
pub record IsSavedTo (chunk origin size c : ℕ) (disk store new : List ℕ) : Type 0 where
  pub order : IsInOrder chunk origin size new
  pub pairs : pairs_of chunk new ≡ pairs_after chunk (pairs_of chunk store) c
  pub same : picture chunk disk new ≡ picture chunk disk store
  pub copy : place_of (pairs_of chunk new) c ≢ None

-- the slots after the new pair are empty
tail_after : (chunk a j k : ℕ) (now : List ℕ) (p : Pair) → 0 < chunk → k ≡ a * (32 * chunk) + j → j < 32 * chunk → 512 * (chunk * area_place chunk a + chunk) ≤ length now → AreEmptyFrom chunk a j now → (j + 1 ≡ 32 * chunk → AreEmptyFrom chunk (a + 1) 0 now) → AreEmptyFrom chunk ((k + 1) / (32 * chunk)) ((k + 1) % (32 * chunk)) (put chunk now a j p)
tail_after chunk a j k now p pos is lt fits tail next = elim (cases_lt (j + 1) (32 * chunk)) [
  | inl more ↦ (let (q, r) = slot_more (32 * chunk) a j k is more in
      rw (q, r) (put_tail chunk a j now p lt fits tail))
  | inr ge ↦ (let full : j + 1 ≡ 32 * chunk = omega arith in
      let (q, r) = slot_full (32 * chunk) a j k (omega arith) is full in
      rw (q, r) (tail_kept chunk (area_place chunk a) (a + 1) 0 now (put chunk now a j p) (put_only chunk a j now p lt fits) (places_apart chunk (a + 1) a (omega arith)) (next full)))
]

-- the pair
pub put_to : (chunk origin size c a j : ℕ) (disk store now : List ℕ) → length disk ≡ 512 * origin → IsInOrder chunk origin size store → chunk * c < origin → place_of (pairs_of chunk store) c ≡ None → chunk * (next_of chunk (pairs_of chunk store) + 1) ≤ size → length (pairs_of chunk store) ≡ a * (32 * chunk) + j → j < 32 * chunk → 512 * (chunk * area_place chunk a + chunk) ≤ length now → chunk * (area_place chunk ((length (pairs_of chunk store) + 1) / (32 * chunk)) + 1) ≤ size → (j + 1 ≡ 32 * chunk → AreEmptyFrom chunk (a + 1) 0 now) → IsCopiedTo chunk a j disk store now (pairs_of chunk store) (record { old = c; new = next_of chunk (pairs_of chunk store) }) → IsSavedTo chunk origin size c disk store (put chunk now a j (record { old = c; new = next_of chunk (pairs_of chunk store) }))
put_to chunk origin size c a j disk store now whole order inside none fits len lt here room next is =
    let pos : 0 < chunk = order.some in
    let ps : List Pair = pairs_of chunk store in
    let n : ℕ = next_of chunk (pairs_of chunk store) in
    let p : Pair = record { old = c; new = next_of chunk (pairs_of chunk store) } in
    let new : List ℕ = put chunk now a j p in
    let nth = next_of_is chunk (pairs_of chunk store) pos in
    let well : IsInside chunk origin size p = record { old = inside; new = fits; low = (let l = nth.low in omega arith); free = nth.free } in
    let more : AreWellFormed chunk origin size (ps ++ p ∷ []) = formed_more chunk origin size ps p order.pairs well none nth.past room in
    let small_c : c < 256 ^ 8 = small_number chunk c origin pos order.origin_small inside in
    let small_n : n < 256 ^ 8 = small_number chunk n size pos order.small (omega arith) in
    let pairs : pairs_of chunk new ≡ ps ++ p ∷ [] = put_pairs chunk a j now ps p pos is.pairs len lt here small_c small_n (let l = nth.low in omega arith) is.tail next in
    let sum : length (ps ++ p ∷ []) ≡ length ps + 1 = length-append ps (p ∷ []) in
    let only : ChangesOnly chunk (area_place chunk a) now new = put_only chunk a j now p lt here in
    record {
      order = record {
        some = pos;
        small = order.small;
        origin_small = order.origin_small;
        whole = only.len ∙ is.whole ∙ order.whole;
        pairs = rw pairs more;
        tail = rw (pairs, sum) (tail_after chunk a j (length ps) now p pos len lt here is.tail next);
      };
      pairs = pairs ∙ sym (after_none chunk ps c none);
      same = picture-commit chunk (area_place chunk a) disk now new ps (p ∷ []) pos only is.pairs pairs
          (place_unnamed chunk origin size a (ps ++ p ∷ []) pos more.inside)
          (λ k d inside. let e : k ≡ 0 = omega arith in let f : place_of (ps ++ take 0 (p ∷ [])) p.old ≡ None = ap (λ x. place_of x p.old) (append-nil ps) ∙ none in
          subst (λ (x : ℕ). place_of (ps ++ take x (p ∷ [])) (get_or (p ∷ []) x d).old ≡ None) (sym e) f)
          (λ k d inside. let e : k ≡ 0 = omega arith in subst (λ (x : ℕ). IsCopied chunk disk now (get_or (p ∷ []) x d)) (sym e) is.front)
          ∙ same_picture chunk disk store disk now ps refl is.pairs (λ i short. is.same i);
      copy = rw pairs (λ e. let h : Some p.new ≡ None = sym (place-pushed ps p c none refl) ∙ e in absurd (cc));
    }
  where
    small_number : (chunk c origin : ℕ) → 0 < chunk → origin ≤ 2_147_483_648 → chunk * c < origin → c < 256 ^ 8
    small_number chunk c origin pos small lt = let h : 1 * c ≤ chunk * c = mul-le 1 c chunk c (omega arith) (omega arith) in omega arith

    after_none : (chunk : ℕ) (ps : List Pair) (c : ℕ) → place_of ps c ≡ None → pairs_after chunk ps c ≡ ps ++ record { old = c; new = next_of chunk ps } ∷ []
    after_none chunk ps c none = cond-false _ _ _ (ap is_some none)

some_of : (o : Option ℕ) → o ≢ None → is_some o ≡ true
some_of None ne = absurd (ne refl)
some_of (Some n) ne = refl

-- The whole step: nothing, where the chunk has its copy.
pub kept_to : (chunk origin size c : ℕ) (disk store : List ℕ) → IsInOrder chunk origin size store → place_of (pairs_of chunk store) c ≢ None → IsSavedTo chunk origin size c disk store store
kept_to chunk origin size c disk store order some = record {
  order = order;
  pairs = sym (cond-true _ _ _ (some_of (place_of (pairs_of chunk store) c) some));
  same = refl;
  copy = some;
}

-- what holds of a live snapshot's store after a chunk was saved
abbrev pub AfterSaving : ℕ → ℕ → ℕ → ℕ → List ℕ → List ℕ → Saving → Type 0
AfterSaving chunk origin size c disk store saving = (length saving.store ≡ length store) × (saving.live ≡ true → IsSavedTo chunk origin size c disk store saving.store)
