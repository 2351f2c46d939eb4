-- Each write of a store is one of a chunk that no pair names: a copy's place, an area, or the header; and the origin is written where
-- there are copies.
use Rattle.std.proofs.Common.{◌≡◌, ◌≢◌, inl, inr, ℕ, ◌+◌, ◌*◌, ◌/◌, ◌%◌, ◌<◌, ◌≤◌, false, List, [], ◌∷◌, ◌++◌, length, get_or, None, Ok, refl, arith, ap, ◌∙◌, sym, subst, append-nil, length-append}
use Rattle.std.specs.List.{All, flat_map}
use Rattle.std.proofs.lemmas.Bool.{cases_lt, true≢false}
use Rattle.std.proofs.lemmas.Nat.{div-add-mod', div-mul-add}
use Rattle.sector.specs.Bytes.{sector_at, with_part, with_sectors}
use Rattle.sector.specs.declared.pair.Pair.{Pair}
use Rattle.sector.proofs.Sectors.{byte_outside, length-with_sectors}
use Rattle.cow_header.specs.HeaderText.{found_in, header_bytes}
use Rattle.cow_header.specs.declared.found.Found.TheVariants.{Header}
use Rattle.cow_format.specs.Places.{slot, area_place, is_area_place, ChangesOnly}
use Rattle.cow_format.specs.Pairs.{pairs_of, IsInside}
use Rattle.cow_format.specs.Picture.{place_of, IsCopied}
use Rattle.cow_format.specs.Slots.{pair_bytes}
use Rattle.cow_format.proofs.AreaPlaces.{place_is}
use Rattle.cow_format.proofs.Slots.{IsListed-of, changes_only, slot-other}
use Rattle.crash_laws.proofs.Between.{IsBetween}
use Rattle.crash_laws.proofs.Areas.{between_all, between_first}
use Rattle.crash_laws.proofs.Loads.{header_kept}
use Rattle.volume_laws.specs.Steps.{WritesDisk}
use Rattle.volume_laws.proofs.Bytes.{disk_untouched}
use Rattle.whole_commands.specs.Saves.{marked, zeroed}
use Rattle.whole_commands.proofs.Parts.{part_only}
use Rattle.whole_commands.proofs.PairParts.{length-pair_bytes}
use Rattle.whole_commands.proofs.Commits.{zeroed_only}
use Rattle.whole_commands.proofs.Laws.{length-header_bytes}
use Rattle.event_machine.specs.Stepping.{all_paired}

-- A write of one chunk of a store that no pair names, by which pairs come to it that have their copies; it makes no header good.
pub record IsSafe (chunk : ℕ) (o d d' : List ℕ) (ps qs : List Pair) : Type 0 where
  pub place : ℕ
  pub only : ChangesOnly chunk place d d'
  pub was : IsBetween (slot chunk d) (length ps) (ps ++ qs)
  pub now : pairs_of chunk d' ≡ ps ++ qs
  pub away : All (λ q. q.new ≢ place) (ps ++ qs)
  pub copied : All (IsCopied chunk o d) qs
  pub back : found_in (sector_at d' 0) ≡ Ok (Header chunk) → found_in (sector_at d 0) ≡ Ok (Header chunk)

pub pairs_long : (ps : List Pair) → length (flat_map pair_bytes ps) ≡ 16 * length ps
pairs_long [] = refl
pairs_long (p ∷ ps) = let n = pairs_long ps in omega (arith, n, length-pair_bytes p, length-append (pair_bytes p) (flat_map pair_bytes ps))

none_copied : (chunk : ℕ) (o d : List ℕ) → All (IsCopied chunk o d) []
none_copied chunk o d k x lt = absurd (omega arith)

up : (chunk n : ℕ) → chunk * (n + 1) ≡ chunk * n + chunk
up chunk n = grind arith

-- a pair's copy stands neither on the header nor on an area
pub record IsBeside (chunk : ℕ) (q : Pair) : Type 0 where
  pub low : 0 < q.new
  pub free : is_area_place chunk q.new ≡ false

pub inside_beside : (chunk sectors size : ℕ) (ps : List Pair) → All (IsInside chunk sectors size) ps → All (IsBeside chunk) ps
inside_beside chunk sectors size ps inside k x lt = record { low = (inside k x lt).low; free = (inside k x lt).free }

-- no pair stands on an area
off_area : (chunk a : ℕ) (ps : List Pair) → 0 < chunk → All (IsBeside chunk) ps → All (λ q. q.new ≢ area_place chunk a) ps
off_area chunk a ps pos inside k x lt same = true≢false (sym (place_is chunk a pos) ∙ ap (is_area_place chunk) (sym same) ∙ (inside k x lt).free)

area_some : (chunk a : ℕ) → area_place chunk a ≢ 0
area_some chunk a e = omega arith

module _ (chunk sectors size : ℕ) (o d d' : List ℕ) (ps : List Pair) (pos : 0 < chunk) (long : length d ≡ 512 * size) (listed : pairs_of chunk d ≡ ps) where
  -- the pairs stay
  pub same_pairs : (n : ℕ) → ChangesOnly chunk n d d' → pairs_of chunk d' ≡ ps → All (λ q. q.new ≢ n) ps → (found_in (sector_at d' 0) ≡ Ok (Header chunk) → found_in (sector_at d 0) ≡ Ok (Header chunk)) → IsSafe chunk o d d' ps []
  same_pairs n only now away back = record {
    place = n;
    only = only;
    was = between_all chunk d ps [] pos (listed ∙ sym (append-nil ps));
    now = now ∙ sym (append-nil ps);
    away = subst (All (λ q. q.new ≢ n)) (sym (append-nil ps)) away;
    copied = none_copied chunk o d;
    back = back;
  }

  kept_header : (n : ℕ) → n ≢ 0 → ChangesOnly chunk n d d' → found_in (sector_at d' 0) ≡ Ok (Header chunk) → found_in (sector_at d 0) ≡ Ok (Header chunk)
  kept_header n some only good = sym (ap found_in (header_kept chunk n d d' pos some only)) ∙ good

  -- a copy is written to its place
  pub copy_safe : (q : Pair) (bytes : List ℕ) → IsInside chunk sectors size q → length bytes ≤ 512 * chunk → d' ≡ with_sectors d (chunk * q.new) bytes → pairs_of chunk d' ≡ ps → All (λ p. p.new ≢ q.new) ps → IsSafe chunk o d d' ps []
  copy_safe q bytes inside short is now away =
      let fits : 512 * (chunk * q.new) + length bytes ≤ length d = (let room = inside.new in omega (arith, up chunk q.new, room, long, short)) in
      let only : ChangesOnly chunk q.new d d' = subst (ChangesOnly chunk q.new d) (sym is)
      (changes_only chunk q.new (chunk * q.new) chunk d (with_sectors d (chunk * q.new) bytes) (length-with_sectors d (chunk * q.new) bytes fits) (omega arith) (omega arith)
      (λ i out. byte_outside d (chunk * q.new) bytes i fits (elim out [ inl lo ↦ inl lo | inr hi ↦ inr (omega (arith, hi, short)) ]))) in
      same_pairs q.new only now away (kept_header q.new (λ e. (let low = inside.low in omega (arith, e, low))) only)

  -- an area is zeroed
  pub zero_safe : (a : ℕ) → 512 * (chunk * (area_place chunk a + 1)) ≤ length d → d' ≡ zeroed chunk d a → pairs_of chunk d' ≡ ps → All (IsBeside chunk) ps → IsSafe chunk o d d' ps []
  zero_safe a room is now inside =
      let only : ChangesOnly chunk (area_place chunk a) d d' = subst (ChangesOnly chunk (area_place chunk a) d) (sym is) (zeroed_only chunk a d (omega (arith, up chunk (area_place chunk a), room))) in
      same_pairs (area_place chunk a) only now (off_area chunk a ps pos inside) (kept_header (area_place chunk a) (area_some chunk a) only)

  -- the header is marked
  pub mark_safe : chunk ≤ size → d' ≡ marked chunk d → pairs_of chunk d' ≡ ps → All (IsBeside chunk) ps → found_in (sector_at d 0) ≡ Ok (Header chunk) → IsSafe chunk o d d' ps []
  mark_safe room is now inside good =
      let len = length-header_bytes (512 * chunk) false chunk (omega arith) in
      let at : 512 * (chunk * 0) + 0 ≡ 0 = omega arith in
      let only : ChangesOnly chunk 0 d d' = subst (ChangesOnly chunk 0 d) (sym is)
      (subst (λ (x : ℕ). ChangesOnly chunk 0 d (with_part d x (header_bytes (512 * chunk) false chunk))) at
      (part_only chunk 0 0 d (header_bytes (512 * chunk) false chunk) (omega arith) (omega (arith, room, long, len)))) in
      same_pairs 0 only now (λ k x lt e. (let low = (inside k x lt).low in omega (arith, e, low))) (λ _. good)

  -- pairs are committed to the current area, behind which it is empty
  pub commit_safe : (qs : List Pair) → length ps % (32 * chunk) + length qs ≤ 32 * chunk → chunk * (area_place chunk (length ps / (32 * chunk)) + 1) ≤ size → d' ≡ all_paired chunk d (length ps) qs → pairs_of chunk d' ≡ ps ++ qs → All (IsBeside chunk) (ps ++ qs)
      → ((k : ℕ) → length ps ≤ k → k < (length ps / (32 * chunk) + 1) * (32 * chunk) → (slot chunk d k).new ≡ 0) → All (IsCopied chunk o d) qs → IsSafe chunk o d d' ps qs
  commit_safe qs fits room is now inside past copied =
      let a : ℕ = length ps / (32 * chunk) in
      let j : ℕ = length ps % (32 * chunk) in
      let split : length ps / (32 * chunk) * (32 * chunk) + length ps % (32 * chunk) ≡ length ps = div-add-mod' (length ps) (32 * chunk) in
      let more : (length ps / (32 * chunk) + 1) * (32 * chunk) ≡ length ps / (32 * chunk) * (32 * chunk) + 32 * chunk = grind arith in
      let only : ChangesOnly chunk (area_place chunk a) d d' = subst (ChangesOnly chunk (area_place chunk a) d) (sym is)
      (part_only chunk (area_place chunk a) (16 * j) d (flat_map pair_bytes qs) (omega (arith, fits, pairs_long qs)) (omega (arith, fits, pairs_long qs, up chunk (area_place chunk a), room, long))) in
      record {
        place = area_place chunk a;
        only = only;
        was = between_first chunk d ps qs pos listed
            (λ k lo hi. elim (cases_lt k ((length ps / (32 * chunk) + 1) * (32 * chunk))) [
              | inl here ↦ past k lo here
              | inr next ↦
                  let end : k ≡ length ps + length qs = omega (arith, hi, next, more, split, fits) in
                  let at : k ≡ (a + 1) * (32 * chunk) + 0 = omega (arith, hi, next, more, split, fits) in
                  let area : k / (32 * chunk) ≡ a + 1 = ap (λ n. n / (32 * chunk)) at ∙ div-mul-add (a + 1) (32 * chunk) 0 (omega (arith, pos)) in
                  ap (λ (p : Pair). p.new) (sym (slot-other chunk a d d' only k (λ e. omega (arith, e, area))))
                  ∙ ap (λ n. (slot chunk d' n).new) (end ∙ sym (length-append ps qs)) ∙ (IsListed-of chunk d' (ps ++ qs) pos now).ends
            ])
            (λ k x lt e. (let low = (inside k x lt).low in omega (arith, e, low)));
        now = now;
        away = off_area chunk a (ps ++ qs) pos inside;
        copied = copied;
        back = kept_header (area_place chunk a) (area_some chunk a) only;
      }

-- The origin is written in chunks that have copies.
pub origin_safe : (chunk first count : ℕ) (o o' : List ℕ) (ps : List Pair) → WritesDisk first count o o' → ((j : ℕ) → j < count → place_of ps ((first + j) / chunk) ≢ None) → (i : ℕ) → place_of ps (i / (512 * chunk)) ≡ None → get_or o' i 0 ≡ get_or o i 0
origin_safe chunk first count o o' ps wrote placed i none = disk_untouched chunk first count i o o' wrote (λ j lt same. placed j lt (ap (place_of ps) same ∙ none))

-- sectors that are written, of which there are so many at most
pub disk_written : (o bytes : List ℕ) (first count : ℕ) → length bytes ≤ 512 * count → 512 * first + length bytes ≤ length o → WritesDisk first count o (with_sectors o first bytes)
disk_written o bytes first count few fits = record {
  len = length-with_sectors o first bytes fits;
  rest = λ i out. byte_outside o first bytes i fits (elim out [ inl lo ↦ inl lo | inr hi ↦ inr (omega (arith, hi, few)) ]);
}
