-- The pairs that are sure: each of the others bears a mark that is not safe, so that a chunk that is published is sure.
use Rattle.std.proofs.Common.{◌≡◌, ◌≢◌, ℕ, zero, ◌+◌, ◌<◌, ◌≤◌, true, false, List, [], ◌∷◌, ◌++◌, Option, Some, None, length, get_or, map, take, drop, refl, sym, ◌∙◌, ap, subst, arith, length-append}
use Rattle.std.specs.List.{All, Any, remove}
use Rattle.std.proofs.Math.Seq.{drop-length}
use Rattle.std.proofs.lemmas.Bool.{false≢true}
use Rattle.std.proofs.lemmas.List.{take-append-drop, drop-append-le, get_or_append_left, get_or-append-add}
use Rattle.std.proofs.lemmas.List.Elements.{All-nil, All-cons, All-append, All-weaker}
use Rattle.sector.specs.declared.pair.Pair.{Pair}
use Rattle.cow_format.specs.Picture.{place_of}
use Rattle.in_flight.specs.Copies.{pair_of}
use Rattle.in_flight.specs.declared.copies.ChunkCopy.{ChunkCopy}
use Rattle.in_flight.specs.declared.copies.Mark.{Mark}
use Rattle.volume_laws.specs.Published.{IsPublished}
use Rattle.volume_laws.specs.Held.{IsLinked}
use Rattle.volume_laws.specs.Steps.{mark_of}
use Rattle.volume_laws.proofs.Lists.{Any-remove}
use Rattle.volume_laws.proofs.Pairs.{place_of-All, place_of-whole_none}

pub any_front : {X : Type 0} (P : X → Type 0) (ms ns : List X) → Any P ms → Any P (ms ++ ns)
any_front P ms ns (k, x, lt, is, holds) = (k, x, omega (arith, lt, length-append ms ns), get_or_append_left ms ns x k lt ∙ is, holds)

pub any_back : {X : Type 0} (P : X → Type 0) (ms ns : List X) → Any P ns → Any P (ms ++ ns)
any_back P ms ns (k, x, lt, is, holds) = (length ms + k, x, omega (arith, lt, length-append ms ns), get_or-append-add ms ns k x ∙ is, holds)

-- a chunk that is published is sure
pub published_sure : (sure : ℕ) (pairs : List Pair) (marks : List Mark) (c : ℕ) → All (IsLinked marks) (drop sure pairs) → IsPublished pairs marks c → place_of (take sure pairs) c ≢ None
published_sure sure pairs marks c link h none = behind (place_of (drop sure pairs) c) refl
  where
    behind : (r : Option ℕ) → place_of (drop sure pairs) c ≡ r → ⊥
    behind None is = h.placed (ap (λ x. place_of x c) (sym (take-append-drop sure pairs)) ∙ place_of-whole_none (take sure pairs) (drop sure pairs) c none is)
    behind (Some n) is =
        let (pair, old, new, linked) = place_of-All (IsLinked marks) (drop sure pairs) c n link is in
        let (k, m, lt, m_is, holds) = linked in
        h.unmarked k m lt (ap (λ (x : Mark). x.chunk) m_is ∙ holds.0 ∙ old)

-- the first copies are committed
pub link_marked : (marks : List Mark) (cs : List ChunkCopy) → All (IsLinked (marks ++ map mark_of cs)) (map pair_of cs)
link_marked marks [] = All-nil (IsLinked (marks ++ []))
link_marked marks (p ∷ cs) = All-cons (IsLinked (marks ++ mark_of p ∷ map mark_of cs)) p.pair (map pair_of cs)
    (any_back (λ (m : Mark). (m.chunk ≡ p.pair.old) × (m.safe ≡ false)) marks (mark_of p ∷ map mark_of cs) (zero, mark_of p, omega arith, refl, (refl, refl)))
    (subst (λ ms. All (IsLinked ms) (map pair_of cs)) (append_one marks (mark_of p) (map mark_of cs)) (link_marked (marks ++ mark_of p ∷ []) cs))
  where
    append_one : (ms : List Mark) (m : Mark) (ns : List Mark) → (ms ++ m ∷ []) ++ ns ≡ ms ++ m ∷ ns
    append_one [] m ns = refl
    append_one (x ∷ ms) m ns = ap (λ y. x ∷ y) (append_one ms m ns)

pub link_committed : (sure : ℕ) (pairs : List Pair) (marks : List Mark) (cs : List ChunkCopy) → sure ≤ length pairs → All (IsLinked marks) (drop sure pairs)
    → All (IsLinked (marks ++ map mark_of cs)) (drop sure (pairs ++ map pair_of cs))
link_committed sure pairs marks cs few link =
    subst (All (IsLinked (marks ++ map mark_of cs))) (sym (drop-append-le sure pairs (map pair_of cs) few))
    (All-append (IsLinked (marks ++ map mark_of cs)) (drop sure pairs) (map pair_of cs)
    (All-weaker (IsLinked marks) (IsLinked (marks ++ map mark_of cs)) (λ q one. any_front (λ (m : Mark). (m.chunk ≡ q.old) × (m.safe ≡ false)) marks (map mark_of cs) one) (drop sure pairs) link)
    (link_marked marks cs))

-- the store is flushed
pub link_flushed : (pairs : List Pair) (marks : List Mark) → All (IsLinked marks) (drop (length pairs) pairs)
link_flushed pairs marks = subst (All (IsLinked marks)) (sym (drop-length pairs)) (All-nil (IsLinked marks))

-- a safe mark is taken away
pub link_unmarked : (marks : List Mark) (k : ℕ) (m : Mark) (qs : List Pair) → k < length marks → m ≡ get_or marks k m → m.safe ≡ true → All (IsLinked marks) qs → All (IsLinked (remove marks k)) qs
link_unmarked marks k m qs within is safe link = All-weaker (IsLinked marks) (IsLinked (remove marks k))
    (λ q one. Any-remove (λ (x : Mark). (x.chunk ≡ q.old) × (x.safe ≡ false)) marks k m within is (λ both. false≢true (sym both.1 ∙ safe)) one) qs link
