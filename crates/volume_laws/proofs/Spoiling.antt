-- One snapshot is spoiled, in a whole volume: its copies are dropped, and its requests refused.
use Rattle.std.proofs.Common.{◌≡◌, ◌≢◌, inl, inr, ℕ, zero, suc, ◌<◌, true, false, List, [], ◌∷◌, length, get_or, set, map, take, refl, sym, ◌∙◌, ap, subst, arith, eq-eqb, ne_eqb}
use Rattle.std.specs.List.{All}
use Rattle.std.specs.Prelude.{AllPairs}
use Rattle.std.proofs.lemmas.Bool.{false≢true, cases_eq, cases_order}
use Rattle.std.proofs.lemmas.List.{map-set, length-map, get_or-map, length-set, get_or-set_same, get_or-set_other, get_or_default}
use Rattle.plain_machine.specs.Plain.{Entry, is_in, spoiled_entry}
use Rattle.in_flight.specs.Kinds.{in_flight}
use Rattle.in_flight.specs.Routes.{refused_of}
use Rattle.cow_format.specs.Picture.{picture}
use Rattle.volume_laws.specs.Books.{SnapBooks, Books, number_of}
use Rattle.volume_laws.specs.Held.{SnapHolds, UntriedHolds}
use Rattle.volume_laws.specs.Whole.{Holds, plain_of, entry_of, origin_of, begun_of}
use Rattle.volume_laws.specs.Steps.{SpoilsOne}
use Rattle.volume_laws.specs.Outcomes.{IsSpoil}
use Rattle.volume_laws.proofs.Same.{same_volume, plain}
use Rattle.volume_laws.proofs.Refusing.{origin_refused, snap_refused, untried_refused, refuses, requests_refused, refused_in_flight}
use Rattle.volume_laws.proofs.Untried.{all_untried}
use Rattle.volume_laws.proofs.WholeOne.{same_numbers, snap_holds, shown}

-- two snapshots have two numbers
pub numbers_differ : (snaps : List SnapBooks) (j k : ℕ) (s t : SnapBooks) → AllPairs (λ m n. m ≢ n) (map number_of snaps) → j < length snaps → k < length snaps → s ≡ get_or snaps j s → t ≡ get_or snaps k t → j ≢ k → s.number ≢ t.number
numbers_differ snaps j k s t all j_in k_in s_is t_is ne =
    let s_at : get_or (map number_of snaps) j 0 ≡ s.number = get_or-map number_of snaps j s 0 j_in ∙ sym (ap number_of s_is) in
    let t_at : get_or (map number_of snaps) k 0 ≡ t.number = get_or-map number_of snaps k t 0 k_in ∙ sym (ap number_of t_is) in
    let len = length-map snaps number_of in
    elim (cases_order j k) [
      | inl same ↦ absurd (ne same)
      | inr apart ↦ elim apart [
        | inl lt ↦ λ e. all j k 0 lt (omega arith) (s_at ∙ e ∙ sym t_at)
        | inr gt ↦ λ e. all k j 0 gt (omega arith) (t_at ∙ sym e ∙ sym s_at)
      ]
    ]

pub alone_in : (n : ℕ) → is_in (n ∷ []) n ≡ true
alone_in n = rw (eq-eqb n n refl) refl

pub not_in : (m n : ℕ) → n ≢ m → is_in (m ∷ []) n ≡ false
not_in m n ne = rw (ne_eqb m n (λ e. ne (sym e))) refl

-- a map that changes one element
map_none : (g : Entry → Entry) (es : List Entry) → ((j : ℕ) (d : Entry) → j < length es → g (get_or es j d) ≡ get_or es j d) → map g es ≡ es
map_none g [] same = refl
map_none g (y ∷ ys) same = ap (λ x. x ∷ map g ys) (same 0 y (omega arith)) ∙ ap (λ x. y ∷ x) (map_none g ys (λ j d lt. same (suc j) d (omega arith)))

map_one : (g : Entry → Entry) (es : List Entry) (k : ℕ) (x : Entry) → k < length es → g (get_or es k x) ≡ x → ((j : ℕ) (d : Entry) → j < length es → j ≢ k → g (get_or es j d) ≡ get_or es j d) → map g es ≡ set es k x
map_one g [] k x within here same = absurd (omega (arith, within))
map_one g (y ∷ ys) zero x within here same = ap (λ z. z ∷ map g ys) here ∙ ap (λ z. x ∷ z) (map_none g ys (λ j d lt. same (suc j) d (omega arith) (omega arith)))
map_one g (y ∷ ys) (suc k) x within here same =
    ap (λ z. z ∷ map g ys) (same 0 y (omega arith) (omega arith))
    ∙ ap (λ z. y ∷ z) (map_one g ys k x (omega (arith, within)) here (λ j d lt ne. same (suc j) d (omega arith) (omega (arith, ne))))

entry_refused : (n : ℕ) (e : Entry) → e.number ≢ n → spoiled_entry (n ∷ []) e ≡ e
entry_refused n e ne = rw (not_in n e.number ne) refl

module _ (k : ℕ) (s s' : SnapBooks) (v w : Books) (h : Holds v) (e : SpoilsOne k s s' v w) where
  abbrev which : List ℕ
  which = s.number ∷ []

  abbrev after : Books
  after = record v { snaps = set v.snaps k s'; requests = map (refused_of which) v.requests }

  after_is : w ≡ after
  after_is = same_volume w after e.origin e.sectors e.loud e.snaps e.merge e.requests

  spoilt_now : SnapHolds v.loud v.origin (map (refused_of which) v.requests) s'
  spoilt_now = record {
    alive = λ live. absurd (false≢true (sym e.spoils.live ∙ live));
    spoilt = λ _. record {
      copies = e.spoils.copies;
      unpublished = e.spoils.marks;
      routes = refuses which s'.number v.requests (ap (is_in which) e.spoils.number ∙ alone_in s.number);
      waited = λ _. (let live = (snap_holds v k s h e.within e.was).alive e.spoils.was in
          subst (λ c. All (UntriedHolds c (take s'.sure s'.pairs)) (map (refused_of which) v.requests)) (sym e.spoils.chunk)
          (subst (λ n. All (UntriedHolds s.chunk (take n s'.pairs)) (map (refused_of which) v.requests)) (sym e.spoils.sure)
          (subst (λ ps. All (UntriedHolds s.chunk (take s.sure ps)) (map (refused_of which) v.requests)) (sym e.spoils.pairs)
          (untried_refused which s.chunk (take s.sure s.pairs) v.requests (all_untried s.number s.chunk s.sure s.pairs s.marks v.requests live.link live.routes)))));
    };
  }

  snaps_now : All (SnapHolds v.loud v.origin (map (refused_of which) v.requests)) (set v.snaps k s')
  snaps_now j d lt =
      let within : j < length v.snaps = omega (arith, length-set v.snaps k s') in
      elim (cases_eq j k) [
        | inl same ↦ subst (SnapHolds v.loud v.origin (map (refused_of which) v.requests))
            (sym (ap (λ i. get_or (set v.snaps k s') i d) same ∙ get_or-set_same v.snaps k s' d e.within)) spoilt_now
        | inr other ↦
            (let x = get_or v.snaps j d in
            subst (SnapHolds v.loud v.origin (map (refused_of which) v.requests)) (sym (get_or-set_other v.snaps k j s' d other))
            (snap_refused which v.origin v.requests x (not_in s.number x.number (numbers_differ v.snaps j k x s h.numbers within e.within (get_or_default v.snaps j d x within) e.was other)) (h.snaps j d within)))
      ]

  entries_now : map (entry_of v.origin) (set v.snaps k s') ≡ map (spoiled_entry which) (map (entry_of v.origin) v.snaps)
  entries_now = map-set (entry_of v.origin) v.snaps k s'
      ∙ sym (map_one (spoiled_entry which) (map (entry_of v.origin) v.snaps) k (entry_of v.origin s') (omega (arith, e.within, length-map v.snaps (entry_of v.origin)))
      (ap (spoiled_entry which) (get_or-map (entry_of v.origin) v.snaps k s (entry_of v.origin s') e.within ∙ ap (entry_of v.origin) (sym e.was)) ∙ spoilt_entry)
      (λ j d lt ne. other_entry j d (omega (arith, length-map v.snaps (entry_of v.origin))) ne))
    where
      spoilt_entry : spoiled_entry which (entry_of v.origin s) ≡ entry_of v.origin s'
      spoilt_entry = rw (alone_in s.number) (sym (ap (λ b. shown s'.number s'.overflow b (picture s'.chunk v.origin s'.store)) e.spoils.live ∙ ap (λ n. shown n s'.overflow false (picture s'.chunk v.origin s'.store)) e.spoils.number
          ∙ ap (λ x. shown s.number x false (picture s'.chunk v.origin s'.store)) e.spoils.overflow))

      other_entry : (j : ℕ) (d : Entry) → j < length v.snaps → j ≢ k → spoiled_entry which (get_or (map (entry_of v.origin) v.snaps) j d) ≡ get_or (map (entry_of v.origin) v.snaps) j d
      other_entry j d within ne =
          let x = get_or v.snaps j s in
          let at : get_or (map (entry_of v.origin) v.snaps) j d ≡ entry_of v.origin x = get_or-map (entry_of v.origin) v.snaps j s d within in
          ap (spoiled_entry which) at ∙ entry_refused s.number (entry_of v.origin x) (numbers_differ v.snaps j k x s h.numbers within e.within (get_or_default v.snaps j s x within) e.was ne) ∙ sym at

  pub spoil_event : IsSpoil (s.number ∷ []) v w
  spoil_event = record {
    holds = subst Holds (sym after_is) (record {
      whole = h.whole;
      merge = origin_refused which v.origin v.requests v.merge h.merge;
      snaps = snaps_now;
      requests = requests_refused which v.sectors v.requests h.requests;
      numbers = subst (AllPairs (λ m n. m ≢ n)) (sym (same_numbers v.snaps k s s' e.was e.spoils.number)) h.numbers;
    });
    step = λ _. ap plain_of after_is
        ∙ ap (λ x. plain (origin_of v.origin v.merge) (begun_of v.merge) x (map in_flight (map (refused_of which) v.requests))) entries_now
        ∙ ap (λ x. plain (origin_of v.origin v.merge) (begun_of v.merge) (map (spoiled_entry which) (map (entry_of v.origin) v.snaps)) x) (refused_in_flight which v.requests);
  }
