-- What the looks at a merge say of its books.
use Rattle.std.proofs.Common.{◌≡◌, inl, inr, ◌==◌, ◌&&◌, not, ℕ, zero, suc, ◌+◌, ◌-◌, ◌<◌, Bool, true, false, nat_lt, List, [], ◌∷◌, length, arith, refl, ap, ◌∙◌, sym}
use Rattle.std.specs.Prelude.{Option, Some, None, if◌then◌else◌}
use Rattle.std.proofs.lemmas.Bool.{cases_lt}
use Rattle.sector.specs.declared.pair.Pair.{Pair}
use Rattle.in_flight.specs.declared.flights.Flight.{Flight}
use Rattle.store.specs.Grouping.{shifted, run_at}
use Rattle.store.specs.declared.state.State.{State}
use Rattle.volume_laws.specs.MergeDue.{is_none, last_of, is_readable, is_writable}
use Rattle.volume_laws.specs.MergeWaits.{next_pairs}
use Rattle.merge.specs.declared.group.Group.{Group}
use Rattle.merge.specs.declared.group.Progress.{Progress}
use Rattle.merge.specs.declared.group.Progress.TheVariants.{Open, Full, Flushed, Committed}
use Rattle.merge.specs.Due.{has_group_of, next_of, last_in, read_at_progress, next_read_of, full_at, full_of, flush_at, can_flush_of, commit_at, can_commit_of, release_at, can_release_of}
use Rattle.merge.specs.Lists.{total, is_flushed, group_pairs, waiting_of, reading_at, reading_of, first_or, next_of_group, copied_at, copied_of, released_at, released_of}
use Rattle.merge.specs.Held.{IsGroupOf}
use Rattle.merge.specs.Merging.{Merging, flushed_of}
use Rattle.merge.specs.Looks.{LooksAgree, option_pairs}
use Rattle.merge.proofs.Groups.{group_all}

some_run : (first : Pair) (k n : ℕ) → 0 < n → is_none (run_at first k n) ≡ false
some_run first k zero some = absurd (omega arith)
some_run first k (suc n) some = refl

last_run : (first : Pair) (k n : ℕ) → last_of (run_at first k (suc n)) ≡ Some (shifted first (k + n))
last_run first k zero = (let e : k ≡ k + 0 = omega arith in ap (λ (x : ℕ). Some (shifted first x)) e)
last_run first k (suc n) = (let e : k + 1 + n ≡ k + suc n = omega arith in last_run first (k + 1) n ∙ ap (λ (x : ℕ). Some (shifted first x)) e)

-- the last of a group's waiting pairs
last_is : (g : Group) → last_in g ≡ last_of (run_at g.first 0 g.waiting)
last_is g = elim (cases_lt 0 g.waiting) [
  | inl lt ↦ (let here : nat_lt 0 g.waiting ≡ true = grind arith in
      let up : g.waiting ≡ suc (g.waiting - 1) = omega (arith, lt) in
      let z : 0 + (g.waiting - 1) ≡ g.waiting - 1 = omega arith in
      ap (λ (b : Bool). if b then Some (shifted g.first (g.waiting - 1)) else None) here ∙ sym (ap (λ (n : ℕ). last_of (run_at g.first 0 n)) up ∙ last_run g.first 0 (g.waiting - 1) ∙ ap (λ (x : ℕ). Some (shifted g.first x)) z))
  | inr ge ↦ (let here : nat_lt 0 g.waiting ≡ false = grind arith in
      let none : g.waiting ≡ 0 = omega (arith, ge) in
      ap (λ (b : Bool). if b then Some (shifted g.first (g.waiting - 1)) else None) here ∙ sym (ap (λ (n : ℕ). last_of (run_at g.first 0 n)) none))
]

pub next_is : (group : Option Group) → next_of group ≡ last_of (waiting_of group)
next_is None = refl
next_is (Some g) = last_is g

and_false : (a : Bool) → (a && false) ≡ false
and_false true = refl
and_false false = refl

pub and_three : (a b c : Bool) → (a && (b && c)) ≡ ((a && b) && c)
and_three true b c = refl
and_three false b c = refl

pub and_four : (a b c d : Bool) → (a && (b && (c && d))) ≡ (((a && b) && c) && d)
and_four true true c d = refl
and_four true false c d = refl
and_four false b c d = refl

pub none_is : (ps : List Pair) → (length ps == 0) ≡ is_none ps
none_is [] = refl
none_is (p ∷ ps) = (let e : (suc (length ps) == 0) ≡ false = grind arith in e)

-- a group is formed
pub has_group_is : (s : State) (ps : List Pair) (group : Option Group) → ((g : Group) → group ≡ Some g → IsGroupOf s ps g) → has_group_of group ≡ not (is_none (group_pairs group))
has_group_is s ps None is = refl
has_group_is s ps (Some g) is = sym (ap (λ x. not (is_none x)) (group_all g) ∙ ap not (some_run g.first 0 (total g) (is g refl).some))

-- the chunk that may be read
read_at_is : (p : Progress) (s : State) (ps : List Pair) (g : Group) (rs : List Flight) → g.progress ≡ p → IsGroupOf s ps g → (is_none (reading_at p g) && is_readable rs (last_of (run_at g.first 0 g.waiting))) ≡ is_readable rs (read_at_progress p g)
read_at_is Open s ps g rs far is = ap (is_readable rs) (sym (last_is g))
read_at_is Full s ps g rs far is = refl
read_at_is Flushed s ps g rs far is = (let none : g.waiting ≡ 0 = is.done (ap is_flushed far) in ap (λ (n : ℕ). is_readable rs (last_of (run_at g.first 0 n))) none)
read_at_is Committed s ps g rs far is = (let none : g.waiting ≡ 0 = is.done (ap is_flushed far) in ap (λ (n : ℕ). is_readable rs (last_of (run_at g.first 0 n))) none)

pub read_is : (s : State) (ps : List Pair) (group : Option Group) (rs : List Flight) → ((g : Group) → group ≡ Some g → IsGroupOf s ps g) → (is_none (reading_of group) && is_readable rs (last_of (waiting_of group))) ≡ is_readable rs (next_read_of group)
read_is s ps None rs is = refl
read_is s ps (Some g) rs is = read_at_is g.progress s ps g rs refl (is g refl)

-- the chunk that is in the buffer
full_at_is : (p : Progress) (g : Group) → reading_at p g ≡ option_pairs (full_at p g)
full_at_is Open g = refl
full_at_is Full g = refl
full_at_is Flushed g = refl
full_at_is Committed g = refl

pub full_is : (group : Option Group) → reading_of group ≡ option_pairs (full_of group)
full_is None = refl
full_is (Some g) = full_at_is g.progress g

-- the pair that is copied next: the one in the buffer
pub turn_full : (group : Option Group) (q : Pair) → full_of group ≡ Some q → next_of_group group ≡ Some q
turn_full group q is = ap (λ (qs : List Pair). first_or qs (last_of (waiting_of group))) (full_is group ∙ ap option_pairs is)

-- or else the last that waits
pub turn_next : (group : Option Group) → full_of group ≡ None → next_of_group group ≡ next_of group
turn_next group none = ap (λ (qs : List Pair). first_or qs (last_of (waiting_of group))) (full_is group ∙ ap option_pairs none) ∙ sym (next_is group)

-- it is the books' one
turn_pairs : (full last : Option Pair) → option_pairs (first_or (option_pairs full) last) ≡ next_pairs (option_pairs full) last
turn_pairs None None = refl
turn_pairs None (Some q) = refl
turn_pairs (Some q) last = refl

pub turn_is : (group : Option Group) → option_pairs (next_of_group group) ≡ next_pairs (reading_of group) (last_of (waiting_of group))
turn_is group =
    let last : Option Pair = last_of (waiting_of group) in
    let full = full_is group in
    ap (λ (qs : List Pair). option_pairs (first_or qs last)) full ∙ turn_pairs (full_of group) last ∙ ap (λ (qs : List Pair). next_pairs qs last) (sym full)

-- all chunks are copied, and the origin disk is to be flushed, or is flushed
abbrev copied_all : Progress → Group → Bool
copied_all p g = (is_none (run_at g.first 0 g.waiting) && is_none (reading_at p g)) && not (is_none (copied_at p g))

flush_at_is : (p : Progress) (s : State) (ps : List Pair) (g : Group) → g.progress ≡ p → IsGroupOf s ps g → flush_at p g ≡ (copied_all p g && not (is_flushed p))
flush_at_is Open s ps g far is = elim (cases_lt 0 g.waiting) [
  | inl lt ↦ (let here : (g.waiting == 0) ≡ false = grind arith in here ∙ sym (ap (λ (b : Bool). ((b && true) && not (is_none (run_at g.first g.waiting g.copied))) && true) (some_run g.first 0 g.waiting lt)))
  | inr ge ↦ (let none : g.waiting ≡ 0 = omega (arith, ge) in
      let n : total g ≡ g.waiting + (0 + g.copied) = rw far refl in
      let positive = is.some in
      let here : (g.waiting == 0) ≡ true = grind arith in
      here ∙ sym (ap (λ (w : ℕ). ((is_none (run_at g.first 0 w) && true) && not (is_none (run_at g.first g.waiting g.copied))) && true) none
      ∙ ap (λ (b : Bool). not b && true) (some_run g.first g.waiting g.copied (omega (arith, n, positive, none)))))
]
flush_at_is Full s ps g far is = sym (ap (λ (b : Bool). (b && not (is_none (copied_at Full g))) && true) (and_false (is_none (run_at g.first 0 g.waiting))))
flush_at_is Flushed s ps g far is = sym (and_false (copied_all Flushed g))
flush_at_is Committed s ps g far is = sym (and_false (copied_all Committed g))

pub flush_is : (s : State) (ps : List Pair) (group : Option Group) → ((g : Group) → group ≡ Some g → IsGroupOf s ps g)
    → can_flush_of group ≡ (((is_none (waiting_of group) && is_none (reading_of group)) && not (is_none (copied_of group))) && not (flushed_of group))
flush_is s ps None is = refl
flush_is s ps (Some g) is = flush_at_is g.progress s ps g refl (is g refl)

commit_at_is : (p : Progress) (s : State) (ps : List Pair) (g : Group) → g.progress ≡ p → IsGroupOf s ps g → commit_at p ≡ (copied_all p g && is_flushed p)
commit_at_is Open s ps g far is = sym (and_false (copied_all Open g))
commit_at_is Full s ps g far is = sym (and_false (copied_all Full g))
commit_at_is Flushed s ps g far is =
    let none : g.waiting ≡ 0 = is.done (ap is_flushed far) in
    let n : total g ≡ g.waiting + (0 + g.copied) = rw far refl in
    let positive = is.some in
    sym (ap (λ (w : ℕ). ((is_none (run_at g.first 0 w) && true) && not (is_none (run_at g.first g.waiting g.copied))) && true) none
    ∙ ap (λ (b : Bool). not b && true) (some_run g.first g.waiting g.copied (omega (arith, n, positive, none))))
commit_at_is Committed s ps g far is = sym (ap (λ (b : Bool). b && true) (and_false (is_none (run_at g.first 0 g.waiting) && true)))

pub commit_is : (s : State) (ps : List Pair) (group : Option Group) → ((g : Group) → group ≡ Some g → IsGroupOf s ps g)
    → can_commit_of group ≡ (((is_none (waiting_of group) && is_none (reading_of group)) && not (is_none (copied_of group))) && flushed_of group)
commit_is s ps None is = refl
commit_is s ps (Some g) is = commit_at_is g.progress s ps g refl (is g refl)

-- the group may end
release_at_is : (p : Progress) (s : State) (ps : List Pair) (g : Group) → g.progress ≡ p → IsGroupOf s ps g → release_at p ≡ not (is_none (released_at p g))
release_at_is Open s ps g far is = refl
release_at_is Full s ps g far is = refl
release_at_is Flushed s ps g far is = refl
release_at_is Committed s ps g far is =
    let none : g.waiting ≡ 0 = is.done (ap is_flushed far) in
    let n : total g ≡ g.waiting + (0 + g.copied) = rw far refl in
    let positive = is.some in
    sym (ap not (some_run g.first g.waiting g.copied (omega (arith, n, positive, none))))

pub release_is : (s : State) (ps : List Pair) (group : Option Group) → ((g : Group) → group ≡ Some g → IsGroupOf s ps g) → can_release_of group ≡ not (is_none (released_of group))
release_is s ps None is = refl
release_is s ps (Some g) is = release_at_is g.progress s ps g refl (is g refl)

pub looks_agree : {B : Type 0} (contents : B → List ℕ) (loud : Bool) (m : Merging B) → ((g : Group) → m.group ≡ Some g → IsGroupOf m.state m.pairs g) → LooksAgree contents loud m
looks_agree contents loud m is =
    let s : State = m.state in
    let here = has_group_is s m.pairs m.group is in
    record {
      present = here;
      finished = ap (λ (b : Bool). b && not (has_group_of m.group)) (none_is m.pairs) ∙ ap (λ (b : Bool). is_none m.pairs && not b) here;
      group = and_three (not m.failed) (not (has_group_of m.group)) (nat_lt 0 s.filled) ∙ ap (λ (b : Bool). (not m.failed && not b) && nat_lt 0 s.filled) here;
      area = and_four (not m.failed) (not (has_group_of m.group)) (s.filled == 0) (nat_lt 0 s.current) ∙ ap (λ (b : Bool). ((not m.failed && not b) && (s.filled == 0)) && nat_lt 0 s.current) here;
      next = next_is m.group;
      read = λ rs. read_is s m.pairs m.group rs is;
      write = λ snaps. ap (is_writable snaps s.chunk s.origin) (full_is m.group);
      flush = flush_is s m.pairs m.group is;
      commit = commit_is s m.pairs m.group is;
      release = release_is s m.pairs m.group is;
    }
