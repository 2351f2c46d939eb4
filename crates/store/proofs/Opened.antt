-- The memory of a written store after a load.
use Rattle.std.proofs.Common.{◌≡◌, inl, inr, ℕ, ◌+◌, ◌*◌, ◌-◌, ◌/◌, ◌<◌, ◌≤◌, List, length, get_or, map, arith, ap, ◌∙◌, sym, subst, true, false}
use Rattle.std.specs.Prelude.{AllPairs}
use Rattle.std.specs.List.{All}
use Rattle.std.proofs.lemmas.Bool.{cases_eq, false≢true, true≢false}
use Rattle.sector.specs.declared.pair.Pair.{Pair}
use Rattle.cow_format.specs.Slots.{pair_in}
use Rattle.cow_format.specs.Places.{area_place, slot}
use Rattle.cow_format.specs.Pairs.{pairs_of, IsApart, IsInside, AreWellFormed}
use Rattle.cow_format.proofs.AreaPlaces.{area_of}
use Rattle.cow_format.proofs.Slots.{slot-at, IsListed-of}
use Rattle.metadata_area.specs.Cleared.{zero_from}
use Rattle.sector.specs.Bytes.{sector_at}
use Rattle.chunk.specs.Sizes.{is_chunk}
use Rattle.cow_header.specs.HeaderText.{found_in}
use Rattle.store.specs.Headed.{head_of}
use Rattle.store.specs.Loaded.{IsRead, IsCleared}
use Rattle.store.specs.Stored.{IsFront, IsStored, new_of}
use Rattle.std.proofs.lemmas.List.{get_or-map, length-map}
use Rattle.cow_format.proofs.NextPlaces.{place_small}
use Rattle.chunk_alloc.specs.Greatest.{IsGreatest}
use Rattle.store.specs.declared.state.State.{State}
use Rattle.store.proofs.Areas.{no_chunks, slot_listed}

-- the slot after those in use is empty
pub empty_next : (chunk size current filled : ℕ) (b area : List ℕ) (ps : List Pair) → 0 < chunk → IsRead chunk size b current ps area → length ps ≡ current * (32 * chunk) + filled → filled < 32 * chunk → (pair_in area filled).new ≡ 0
empty_next chunk size current filled b area ps pos read count below =
    ap (λ a. (pair_in a filled).new) read.here ∙ ap (λ p. p.new) (sym (slot-at chunk b current filled below)) ∙ ap (λ k. (slot chunk b k).new) (sym count) ∙ (IsListed-of chunk b ps pos read.all).ends

pub front_loaded : (s : State) (b area area' : List ℕ) (ps : List Pair) → 0 < s.chunk → s.chunk ≤ 1024 → is_chunk s.chunk ≡ true → s.valid ≡ true → IsRead s.chunk s.size b s.current ps area → length ps ≡ s.current * (32 * s.chunk) + s.filled → s.filled < 32 * s.chunk → IsCleared s.chunk s.filled area s.left area' → length area' ≡ 512 * s.chunk → s.zeroed ≡ false → s.firm ≡ false → IsFront ps s area'
front_loaded s b area area' ps pos small size valid read count below clear whole unzeroed unfirm = record {
  some = pos;
  allowed = small;
  size = size;
  whole = whole;
  place = read.inside;
  count = count;
  fits = omega arith;
  empty = λ i from to. elim (cases_eq i s.filled) [
    | inl e ↦ ap (λ k. (pair_in area' k).new) e ∙ ap (λ p. p.new) (clear.slots s.filled (omega arith)) ∙ empty_next s.chunk s.size s.current s.filled b area ps pos read count below
    | inr ne ↦ clear.empty i (omega arith) to
  ];
  part = λ _. below;
  next = λ _. below;
  none = λ e. absurd (true≢false (sym clear.begun ∙ e));
  blank = λ e. absurd (true≢false (sym clear.begun ∙ e));
  room = λ z. absurd (false≢true (sym unzeroed ∙ z));
  firm = λ f. absurd (false≢true (sym unfirm ∙ f));
  early = λ e. absurd (true≢false (sym valid ∙ e));
}

pub stored_loaded : (s : State) (b area area' : List ℕ) (ps : List Pair) → 0 < s.chunk → found_in (sector_at b 0) ≡ head_of s.left s.valid s.chunk → IsRead s.chunk s.size b s.current ps area → length ps ≡ s.current * (32 * s.chunk) + s.filled → s.filled < 32 * s.chunk → IsCleared s.chunk s.filled area s.left area' → s.zeroed ≡ false → IsStored b ps s area'
stored_loaded s b area area' ps pos says read count below clear unzeroed = record {
  head = says;
  listed = λ _. read.all;
  holds = λ i d lt. clear.slots i (omega arith) ∙ ap (λ a. pair_in a i) read.here ∙ slot_listed s.chunk s.current s.filled b ps i d pos read.all count lt (omega arith);
  here = λ e. sym read.here ∙ sym (clear.same e);
  tail = λ e. ap (λ a. zero_from a (s.filled + 1)) (sym read.here) ∙ sym (clear.zeroed e);
  next = λ z. absurd (false≢true (sym unzeroed ∙ z));
}

-- the pairs of a load are well formed
pub formed_loaded : (chunk origin size current : ℕ) (b area : List ℕ) (ps : List Pair) → 0 < chunk → IsRead chunk size b current ps area → All (IsInside chunk origin size) ps → AllPairs IsApart ps → AreWellFormed chunk origin size ps
formed_loaded chunk origin size current b area ps pos read inside apart =
    let low = read.low in let high = read.high in
    let e : length ps ≡ current * (32 * chunk) + (length ps - current * (32 * chunk)) = omega arith in
    let at : length ps / (32 * chunk) ≡ current = ap (λ n. n / (32 * chunk)) e ∙ area_of chunk current (length ps - current * (32 * chunk)) (omega arith) in
    let P : ℕ → Type 0 = λ a. chunk * (area_place chunk a + 1) ≤ size in
    record { inside = inside; apart = apart; room = subst P (sym at) read.inside }

-- the greatest new chunk of pairs that are inside a store
pub greatest_inside : (chunk origin size greatest : ℕ) (ps : List Pair) → 0 < chunk → 2 * chunk ≤ size → All (IsInside chunk origin size) ps → IsGreatest (map new_of ps) greatest → greatest < size
greatest_inside chunk origin size greatest ps pos large inside is =
    is.one size (omega arith) (λ k d lt.
    let len = length-map ps new_of in
    let at = inside k no_chunks (omega arith) in
    let small = place_small chunk (get_or ps k no_chunks).new size pos at.new in
    let e = get_or-map new_of ps k no_chunks d (omega arith) in
    omega arith)

-- why a written store is refused
pub refused_formed : (chunk origin size current : ℕ) (b area : List ℕ) (ps : List Pair) → IsRead chunk size b current ps area → (All (IsInside chunk origin size) ps → AllPairs IsApart ps → ⊥) → AreWellFormed chunk origin size (pairs_of chunk b) → ⊥
refused_formed chunk origin size current b area ps read not formed =
    let is : AreWellFormed chunk origin size ps = subst (λ (qs : List Pair). AreWellFormed chunk origin size qs) read.all formed in
    not is.inside is.apart
