-- A store that overflowed is noted, and keeps what is true of an audit.
use Rattle.std.proofs.Common.{◌≡◌, inl, inr, ℕ, zero, suc, ◌+◌, ◌<◌, Bool, true, false, List, [], ◌∷◌, ◌++◌, length, get_or, set, map, Some, None, nat_lt, cond, refl, sym, ◌∙◌, ap, subst, arith}
use Rattle.std.specs.Prelude.{◌==◌, ◌&&◌}
use Rattle.std.specs.List.{position, position_or_len}
use Rattle.std.proofs.lemmas.Bool.{cases_Bool, false≢true}
use Rattle.std.proofs.lemmas.List.{length-set}
use Rattle.plain_machine.specs.Legal.{IsDeclined, Overflows}
use Rattle.plain_machine.specs.Plain.{Plain, Entry as ShownEntry, Live, did_overflow, marked_in, may_overflow, overflow_under, saved_under, shown_of}
use Rattle.plain_machine.specs.declared.request.Dev.{Dev}
use Rattle.plain_machine.specs.declared.request.Dev.TheVariants.{Snap}
use Rattle.plain_machine.specs.declared.request.Overflowing.{Overflowing}
use Rattle.plain_machine.specs.declared.request.Overflowing.TheVariants.{Never, May, Did}
use Rattle.plain_machine.specs.declared.request.Request.{Request}
use Rattle.sector.specs.declared.refusal.Refusal.{Refusal}
use Rattle.sector.specs.declared.refusal.Refusal.TheVariants.{Invalid, Overflow}
use Rattle.audited_volume.specs.declared.entry.Entry.{Entry}
use Rattle.audited_volume.specs.declared.entry.Entry.TheVariants.{Overflowed}
use Rattle.audited_volume.specs.Books.{AuditShape, Books, IsAudit, IsBounded, Replays}
use Rattle.audited_volume.specs.Entries.{entries_by}
use Rattle.audited_volume.specs.PlacesTaken.{IsRefusalNoted, OnlySpoils}
use Rattle.audited_volume.specs.Marked.{IsMarkNoted, IsPlaced, is_marked, is_new_mark}
use Rattle.audited_volume.specs.Noted.{is_live, is_live_state, is_open}
use Rattle.audited_volume.proofs.Bounds.{entry_bounds, quiet_bounds}
use Rattle.audited_volume.proofs.Changes.{entry_keeps}
use Rattle.audited_volume.proofs.Departed.{found_at}
use Rattle.audited_volume.proofs.Mays.{may_marked}
use Rattle.audited_volume.proofs.Receipts.{none_new}
use Rattle.audited_volume.proofs.Replaying.{entries_by_silent}

-- the place of a number
abbrev place_in : ℕ → List ShownEntry → ℕ
place_in n xs = position_or_len (λ e. e.number == n) xs

next_get : {X : Type 0} (x : X) (xs : List X) (n : ℕ) (d : X) → get_or (x ∷ xs) (1 + n) d ≡ get_or xs n d
next_get x xs n d = ap (λ k. get_or (x ∷ xs) k d) (next n) where
  next : (n : ℕ) → 1 + n ≡ suc n
  next n = omega arith

next_set : {X : Type 0} (x : X) (xs : List X) (n : ℕ) (d : X) → set (x ∷ xs) (1 + n) d ≡ x ∷ set xs n d
next_set x xs n d = ap (λ k. set (x ∷ xs) k d) (next n) where
  next : (n : ℕ) → 1 + n ≡ suc n
  next n = omega arith

-- a mark changes no number and no array
pub live_marked : (n : ℕ) (xs : List ShownEntry) → map is_live (marked_in n xs) ≡ map is_live xs
live_marked n [] = refl
live_marked n (x ∷ xs) = elim (cases_Bool (x.number == n)) [
  | inl here ↦ rw here refl
  | inr other ↦ rw other (ap (λ (bs : List Bool). is_live x ∷ bs) (live_marked n xs))
]

-- at its place the store may not overflow any more
pub open_marked : (n : ℕ) (xs : List ShownEntry) → set (map is_open xs) (place_in n (marked_in n xs)) false ≡ map is_open (marked_in n xs)
open_marked n [] = refl
open_marked n (x ∷ xs) = elim (cases_Bool (x.number == n)) [
  | inl here ↦ rw here (rw here refl)
  | inr other ↦ rw other (rw other (next_set (is_open x) (map is_open xs) (place_in n (marked_in n xs)) false ∙ ap (λ (bs : List Bool). is_open x ∷ bs) (open_marked n xs)))
]

-- What is seen at the place of a snapshot that is marked, which was live and could overflow.
record IsAtMark (n k : ℕ) (xs : List ShownEntry) : Type 0 where
  pub within : k < length (marked_in n xs)
  pub live : get_or (map is_live xs) k false ≡ true
  pub could : get_or (map is_open xs) k false ≡ true
  pub marked : get_or (map is_marked (marked_in n xs)) k false ≡ true

at_first : (n : ℕ) (x : ShownEntry) (xs : List ShownEntry) (array : List ℕ) → (x.number == n) ≡ true → saved_under n (x ∷ xs) ≡ Some (Live array) → overflow_under n (x ∷ xs) ≡ May → IsAtMark n 0 (x ∷ xs)
at_first n x xs array here live may =
    let is : Some x.saved ≡ Some (Live array) = rw here at live in
    let alive : x.saved ≡ Live array = cc in
    let could : x.overflow ≡ May = rw here at may in
    record { within = rw here (omega arith); live = ap is_live_state alive; could = ap may_overflow could; marked = rw here refl }

at_later : (n k : ℕ) (x : ShownEntry) (xs : List ShownEntry) → (x.number == n) ≡ false → IsAtMark n k xs → IsAtMark n (1 + k) (x ∷ xs)
at_later n k x xs other rest =
    record {
      within = rw other (omega (arith, rest.within));
      live = next_get (is_live x) (map is_live xs) k false ∙ rest.live;
      could = next_get (is_open x) (map is_open xs) k false ∙ rest.could;
      marked = rw other (next_get (is_marked x) (map is_marked (marked_in n xs)) k false ∙ rest.marked);
    }

at_mark : (n : ℕ) (xs : List ShownEntry) (array : List ℕ) → saved_under n xs ≡ Some (Live array) → overflow_under n xs ≡ May → IsAtMark n (place_in n (marked_in n xs)) xs
at_mark n [] array live may = absurd (cc)
at_mark n (x ∷ xs) array live may = elim (cases_Bool (x.number == n)) [
  | inl here ↦ subst (λ k. IsAtMark n k (x ∷ xs)) (sym (zero_place n x xs here)) (at_first n x xs array here live may)
  | inr other ↦ subst (λ k. IsAtMark n k (x ∷ xs)) (sym (next_place n x xs other)) (at_later n (place_in n (marked_in n xs)) x xs other (at_mark n xs array (rw other at live) (rw other at may)))
]
  where
    zero_place : (n : ℕ) (x : ShownEntry) (xs : List ShownEntry) → (x.number == n) ≡ true → place_in n (marked_in n (x ∷ xs)) ≡ 0
    zero_place n x xs here = rw here (rw here refl)

    next_place : (n : ℕ) (x : ShownEntry) (xs : List ShownEntry) → (x.number == n) ≡ false → place_in n (marked_in n (x ∷ xs)) ≡ 1 + place_in n (marked_in n xs)
    next_place n x xs other = rw other (rw other refl)

-- one that overflowed may not
not_again : (o : Overflowing) → may_overflow o ≡ true → did_overflow o ≡ true → ⊥
not_again Never may did = false≢true may
not_again May may did = false≢true did
not_again Did may did = false≢true may

pub not_open : (xs : List ShownEntry) (k : ℕ) → get_or (map is_open xs) k false ≡ true → get_or (map is_marked xs) k false ≡ true → ⊥
not_open [] k could marked = false≢true could
not_open (x ∷ xs) zero could marked = not_again x.overflow could marked
not_open (x ∷ xs) (suc k) could marked = not_open xs k could marked

-- three at once
pub first_bit : (a b c : Bool) → (a && b && c) ≡ true → a ≡ true
first_bit true b c all = refl
first_bit false b c all = absurd (false≢true all)

pub second_bit : (a b c : Bool) → (a && b && c) ≡ true → b ≡ true
second_bit true true c all = refl
second_bit true false c all = absurd (false≢true all)
second_bit false b c all = absurd (false≢true all)

pub third_bit : (a b c : Bool) → (a && b && c) ≡ true → c ≡ true
third_bit true true true all = refl
third_bit true true false all = absurd (false≢true all)
third_bit true false c all = absurd (false≢true all)
third_bit false b c all = absurd (false≢true all)

pub all_bits : (a b c : Bool) → a ≡ true → b ≡ true → c ≡ true → (a && b && c) ≡ false → ⊥
all_bits true true true x y z none = false≢true (sym none)
all_bits true true false x y z none = false≢true z
all_bits true false c x y z none = false≢true y
all_bits false b c x y z none = false≢true x

under_there : {X : Type 0} (k n : ℕ) (x y : X) → k < n → cond (nat_lt k n) x y ≡ x
under_there k n x y lt = ap (λ b. cond b x y) (less k n lt) where
  less : (k n : ℕ) → k < n → nat_lt k n ≡ true
  less k n lt = search (arith)

snap_is : (m n : ℕ) → Snap m ≡ Snap n → m ≡ n
snap_is m n e = cc

none_overflowed : (number s : ℕ) (es : List Entry) → entries_by s (es ++ Overflowed number ∷ []) ≡ entries_by s es
none_overflowed number s es = entries_by_silent s es (Overflowed number) refl

module _ (loud loud' told : Bool) (p q : Plain) (v : Books) (h : IsAudit loud told p v) (same : loud' ≡ loud) (requests : q.requests ≡ p.requests) (count : length q.saved ≡ length p.saved) where
  -- the books, with no more entries
  still : (told ≡ true → q ≡ p) → (may' : List Bool) (es' : List Entry) (room' : ℕ) → may' ≡ v.may → es' ≡ v.entries → room' ≡ v.room → IsAudit loud' told q (record v { entries = es'; may = may'; room = room' })
  still plain may' es' room' may are room = subst (λ (w : Books). IsAudit loud' told q w) (λ i. record v { entries = sym are i; may = sym may i; room = sym room i }) (record {
    counted = record {
      fits = h.counted.fits;
      held = h.counted.held ∙ sym requests;
      counts = h.counted.counts;
      seats = h.counted.seats;
      folds = h.counted.folds;
      lives = h.counted.lives ∙ sym count;
      may = h.counted.may ∙ sym count;
      entries = h.counted.entries;
      room = h.counted.room;
    };
    loud_is = λ on. same ∙ h.loud_is on;
    replays = λ on. subst (λ (x : Plain). Replays x v) (sym (plain on)) (h.replays on);
  })

  -- one more, of the mark
  more : (number place : ℕ) → get_or v.lives place false ≡ true → get_or v.may place false ≡ true → (told ≡ true → Overflows number p q) → (told ≡ true → place_in number q.saved ≡ place)
      → (may' : List Bool) (es' : List Entry) (room' : ℕ) → may' ≡ set v.may place false → es' ≡ v.entries ++ Overflowed number ∷ [] → room' ≡ v.room → IsAudit loud' told q (record v { entries = es'; may = may'; room = room' })
  more number place live could overflows placed may' es' room' may are room =
      subst (λ (w : Books). IsAudit loud' told q w) (λ i. record v { entries = sym are i; may = sym may i; room = room' })
      (entry_keeps loud loud' told told p q v (Overflowed number) v.lives (set v.may place false) room' h (λ on. on) (λ on was. same ∙ was) requests (h.counted.lives ∙ sym count)
      (length-set v.may place false ∙ h.counted.may ∙ sym count) (none_overflowed number) (omega (arith, h.counted.entries, may_marked v.lives v.may place live could)) room
      (λ on was. let o = overflows on in (
        sym (ap shown_of o.becomes),
        record { array = o.array; live = o.live; may = o.may; becomes = refl },
        λ lives. lives ∙ sym (live_marked number p.saved) ∙ ap (λ (x : Plain). map is_live x.saved) (sym o.becomes),
        λ were. ap (λ (bs : List Bool). set bs place false) were ∙ ap (λ k. set (map is_open p.saved) k false) (sym (placed on) ∙ ap (λ (x : Plain). place_in number x.saved) o.becomes)
            ∙ open_marked number p.saved ∙ ap (λ (x : Plain). map is_open x.saved) (sym o.becomes),
      )))

  -- A write was refused with Overflow: its mark is noted, if it is new.
  module _ (request : Request) (refusal : Refusal) (may' : List Bool) (es' : List Entry) (room' : ℕ) (overflow : refusal ≡ Overflow) (declined : loud ≡ true → IsDeclined request refusal p q) (room : room' ≡ v.room) where
    marked_there : told ≡ true → (number place : ℕ) → IsPlaced request.dev q.saved number place → is_new_mark q.saved v.lives v.may place ≡ true → Overflows number p q
    marked_there on number place placed is = elim (declined (h.loud_is on)) [
      | inl plain ↦ (
          let could = second_bit (get_or v.lives place false) (get_or v.may place false) (get_or (map is_marked q.saved) place false) is in
          let marked = third_bit (get_or v.lives place false) (get_or v.may place false) (get_or (map is_marked q.saved) place false) is in
          absurd (not_open q.saved place (ap (λ (x : Plain). get_or (map is_open x.saved) place false) plain ∙ ap (λ (bs : List Bool). get_or bs place false) (sym (h.replays on).may) ∙ could) marked))
      | inr full ↦ elim full.4 [
        | inl strict ↦ (let differ : Invalid ≡ Overflow = sym strict.0 ∙ overflow in absurd (cc))
        | inr o ↦ subst (λ n. Overflows n p q) (snap_is full.0 number (sym full.2 ∙ placed.0)) o.1
      ]
    ]

    unmarked_there : told ≡ true → ((number place : ℕ) → IsPlaced request.dev q.saved number place → is_new_mark q.saved v.lives v.may place ≡ false) → q ≡ p
    unmarked_there on none = elim (declined (h.loud_is on)) [
      | inl plain ↦ plain
      | inr full ↦ elim full.4 [
        | inl strict ↦ (let differ : Invalid ≡ Overflow = sym strict.0 ∙ overflow in absurd (cc))
        | inr o ↦ (
            let n = full.0 in
            let k = place_in n (marked_in n p.saved) in
            let r = h.replays on in
            let m = at_mark n p.saved o.1.array o.1.live o.1.may in
            let is : marked_in n p.saved ≡ q.saved = ap (λ (x : Plain). x.saved) (sym o.1.becomes) in
            let found = ap (position (λ e. e.number == n)) (sym is) ∙ under_there k (length (marked_in n p.saved)) (Some k) None m.within in
            absurd (all_bits (get_or v.lives k false) (get_or v.may k false) (get_or (map is_marked q.saved) k false) (ap (λ (bs : List Bool). get_or bs k false) r.lives ∙ m.live) (ap (λ (bs : List Bool). get_or bs k false) r.may ∙ m.could)
            (ap (λ (xs : List ShownEntry). get_or (map is_marked xs) k false) (sym is) ∙ m.marked) (none n k (full.2, found))))
      ]
    ]

    pub marked_keeps : IsMarkNoted request.dev q.saved v.lives v.may may' v.entries es' → IsAudit loud' told q (record v { entries = es'; may = may'; room = room' })
    marked_keeps (inl (number, place, placed, is, may, are)) =
        more number place (first_bit (get_or v.lives place false) (get_or v.may place false) (get_or (map is_marked q.saved) place false) is) (second_bit (get_or v.lives place false) (get_or v.may place false) (get_or (map is_marked q.saved) place false) is)
        (λ on. marked_there on number place placed is) (λ on. found_at (λ e. e.number == number) q.saved place placed.1) may' es' room' may are room
    marked_keeps (inr (none, may, are)) = still (λ on. unmarked_there on none) may' es' room' may are room

-- and nothing that is written lies outside its array
pub marked_bounds : (given given' : ℕ) (told : Bool) (p q : Plain) (v : Books) (dev : Dev) (saved : List ShownEntry) (may' : List Bool) (es' : List Entry) (room' : ℕ) → IsBounded given told p v → given' ≡ given → length q.origin ≡ length p.origin → q.requests ≡ p.requests
    → IsMarkNoted dev saved v.lives v.may may' v.entries es' → IsBounded given' told q (record v { entries = es'; may = may'; room = room' })
marked_bounds given given' told p q v dev saved may' es' room' b same long requests (inl (number, place, placed, is, may, are)) =
    subst (λ (w : Books). IsBounded given' told q w) (λ i. record v { entries = sym are i; may = may'; room = room' }) (entry_bounds given given' told told p q v b same (λ on. on) long requests (Overflowed number) v.lives may' room' tt)
marked_bounds given given' told p q v dev saved may' es' room' b same long requests (inr (none, may, are)) =
    let s = quiet_bounds given given' told told p q v b same (λ on. on) long requests in
    subst (λ (w : Books). IsBounded given' told q w) (λ i. record v { entries = sym are i; may = may'; room = room' }) (record { asked = s.asked; made = s.made; inside = s.inside })

-- what callers see of it
pub mark_noted : {B : Type 0} (request : Request) (refusal : Refusal) (old new : AuditShape B) (saved : List ShownEntry) (lives may may' : List Bool) (es es' : List Entry) → refusal ≡ Overflow → new.held ≡ old.held
    → IsMarkNoted request.dev saved lives may may' es es' → es ≡ old.entries → new.entries ≡ es' → IsRefusalNoted request refusal old new
mark_noted request refusal old new saved lives may may' es es' overflow held (inl (number, place, placed, is, marked, are)) was now = record {
  held = held;
  noted = inr (record { number = number; dev = placed.0; entries = now ∙ are ∙ ap (λ (l : List Entry). l ++ Overflowed number ∷ []) was });
  others = λ other. absurd (other overflow);
}
mark_noted request refusal old new saved lives may may' es es' overflow held (inr (none, marked, are)) was now = record {
  held = held;
  noted = inl (none_new old new (now ∙ are ∙ was));
  others = λ other. absurd (other overflow);
}

pub none_noted : {B : Type 0} (request : Request) (refusal : Refusal) (old new : AuditShape B) → new.held ≡ old.held → OnlySpoils old new → IsRefusalNoted request refusal old new
none_noted request refusal old new held spoils = record { held = held; noted = inl spoils; others = λ other. spoils }
