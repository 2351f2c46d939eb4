-- The chains of the buckets.
use Rattle.std.proofs.Common.{◌≡◌, ◌≢◌, inl, inr, ℕ, zero, suc, ◌+◌, ◌-◌, ◌%◌, ◌<◌, ◌≤◌, List, [], ◌∷◌, ◌++◌, Option, None, Some, length, take, drop, set, arith, refl, ap, ◌∙◌, sym, subst, cond}
use lib.Dec.{eqb}
use Rattle.std.proofs.lemmas.Bool.{cases_eq, cases_lt, cond-true, cond-false, eq-eqb, ne_eqb}
use Rattle.std.proofs.lemmas.List.{get_or-set_same, get_or-set_other, get_or_append_left, get_or_at, length-set, length-append, length-map, drop_all, take-map}
use Rattle.cow_format.specs.Picture.{place_of}
use Rattle.exception_arena.specs.Links.{nowhere, to, node_at, pair_of, pairs_on, head_at, newest, AreHung}
use Rattle.exception_arena.specs.declared.link.Link.{Link}
use Rattle.exception_arena.specs.declared.node.Node.{Node}

newest_here : (nodes : List Node) (n b k : ℕ) → (node_at nodes k).old % n ≡ b → newest nodes n b (suc k) ≡ to k
newest_here nodes n b k e = cond-true _ _ _ (eq-eqb _ _ e)

newest_there : (nodes : List Node) (n b k : ℕ) → (node_at nodes k).old % n ≢ b → newest nodes n b (suc k) ≡ newest nodes n b k
newest_there nodes n b k ne = cond-false _ _ _ (ne_eqb _ _ ne)

-- nodes of the same old chunks
newest_same : (nodes nodes' : List Node) (n b k : ℕ) → ((i : ℕ) → i < k → (node_at nodes' i).old ≡ (node_at nodes i).old) → newest nodes' n b k ≡ newest nodes n b k
newest_same nodes nodes' n b zero same = refl
newest_same nodes nodes' n b (suc k) same =
    ap (λ (old : ℕ). cond (eqb (old % n) b) (to k) (newest nodes' n b k)) (same k (omega arith))
    ∙ ap (λ x. cond (eqb ((node_at nodes k).old % n) b) (to k) x) (newest_same nodes nodes' n b k (λ i lt. same i (omega arith)))

-- nodes after the first k change
pub hung_same : (nodes nodes' : List Node) (heads : List Link) (k : ℕ) → ((i : ℕ) → i < k → node_at nodes' i ≡ node_at nodes i) → AreHung nodes heads k → AreHung nodes' heads k
hung_same nodes nodes' heads k same hung =
    let olds : (i : ℕ) → i < k → (node_at nodes' i).old ≡ (node_at nodes i).old = λ i lt. ap (λ (n : Node). n.old) (same i lt) in
    record {
      starts = λ b lt. hung.starts b lt ∙ sym (newest_same nodes nodes' (length heads) b k olds);
      nexts = λ i lt. ap (λ (n : Node). n.next) (same i lt) ∙ hung.nexts i lt ∙ sym (newest_same nodes nodes' (length heads) ((node_at nodes i).old % length heads) i (λ j l. olds j (omega arith)))
          ∙ ap (λ (old : ℕ). newest nodes' (length heads) (old % length heads) i) (sym (olds i lt));
    }

-- one node more hangs in its bucket
pub hung_more : (nodes : List Node) (heads : List Link) (i k : ℕ) (node : Node) → i < length nodes → k < length heads → k ≡ (node_at nodes i).old % length heads → node.old ≡ (node_at nodes i).old → node.next ≡ head_at heads k → AreHung nodes heads i → AreHung (set nodes i node) (set heads k (to i)) (i + 1)
hung_more nodes heads i k node lt inside at old next hung =
    let n : ℕ = length heads in
    let nodes' : List Node = set nodes i node in
    let heads' : List Link = set heads k (to i) in
    let len : length heads' ≡ n = length-set heads k (to i) in
    let self : node_at nodes' i ≡ node = get_or-set_same nodes i _ _ lt in
    let others : (j : ℕ) → j < i → node_at nodes' j ≡ node_at nodes j = λ j l. get_or-set_other nodes i j _ _ (λ e. absurd (omega (arith, e))) in
    let before : AreHung nodes' heads i = hung_same nodes nodes' heads i others hung in
    let own : (node_at nodes' i).old % n ≡ k = ap (λ (x : Node). x.old % n) self ∙ ap (λ x. x % n) old ∙ sym at in
    let starts : (b : ℕ) → b < n → head_at heads' b ≡ newest nodes' n b (suc i) = λ b l. elim (cases_eq b k) [
      | inl e ↦ ap (head_at heads') e ∙ get_or-set_same heads k (to i) nowhere inside ∙ sym (newest_here nodes' n b i (own ∙ sym e))
      | inr ne ↦ get_or-set_other heads k b (to i) nowhere ne ∙ before.starts b l ∙ sym (newest_there nodes' n b i (λ e. ne (sym e ∙ own)))
    ] in
    let nexts : (j : ℕ) → j < i + 1 → (node_at nodes' j).next ≡ newest nodes' n ((node_at nodes' j).old % n) j = λ j l. elim (cases_lt j i) [
      | inl less ↦ before.nexts j less
      | inr le ↦ (let e : j ≡ i = omega arith in
          subst (λ x. (node_at nodes' x).next ≡ newest nodes' n ((node_at nodes' x).old % n) x) (sym e)
          (ap (λ (x : Node). x.next) self ∙ next ∙ before.starts k inside ∙ ap (λ b. newest nodes' n b i) (sym own)))
    ] in
    let s : suc i ≡ i + 1 = omega arith in
    record {
      starts = λ b l. subst (λ m. head_at heads' b ≡ newest nodes' m b (i + 1)) (sym len) (subst (λ m. head_at heads' b ≡ newest nodes' n b m) s (starts b (omega arith)));
      nexts = λ j l. subst (λ m. (node_at nodes' j).next ≡ newest nodes' m ((node_at nodes' j).old % m) j) (sym len) (nexts j l);
    }

-- the pairs are as they were
pub more_pairs : (nodes : List Node) (i : ℕ) (node : Node) → i < length nodes → pair_of node ≡ pair_of (node_at nodes i) → pairs_on (set nodes i node) ≡ pairs_on nodes
more_pairs [] i node lt is = absurd (omega arith)
more_pairs (n ∷ nodes) zero node lt is = ap (λ x. x ∷ pairs_on nodes) is
more_pairs (n ∷ nodes) (suc i) node lt is = ap (λ x. pair_of n ∷ x) (more_pairs nodes i node (omega arith) is)

-- the last node less
pub hung_less : (nodes nodes' : List Node) (heads : List Link) (node : Node) (k : ℕ) → nodes ≡ nodes' ++ node ∷ [] → k < length heads → k ≡ node.old % length heads → AreHung nodes heads (length nodes) → AreHung nodes' (set heads k node.next) (length nodes')
hung_less nodes nodes' heads node k is inside at hung =
    let n : ℕ = length heads in
    let i : ℕ = length nodes' in
    let heads' : List Link = set heads k node.next in
    let len : length heads' ≡ n = length-set heads k node.next in
    let s : length nodes ≡ suc i = ap length is ∙ length-append nodes' (node ∷ []) ∙ omega arith in
    let last : node_at nodes i ≡ node = ap (λ x. node_at x i) is ∙ get_or_at nodes' node [] _ i refl in
    let own : (node_at nodes i).old % n ≡ k = ap (λ (x : Node). x.old % n) last ∙ sym at in
    let same : (j : ℕ) → j < i → node_at nodes' j ≡ node_at nodes j = λ j l. sym (ap (λ x. node_at x j) is ∙ get_or_append_left nodes' (node ∷ []) _ j l) in
    let before : AreHung nodes heads' i = record {
      starts = λ b l. subst (λ m. head_at heads' b ≡ newest nodes m b i) (sym len) (elim (cases_eq b k) [
        | inl e ↦ ap (head_at heads') e ∙ get_or-set_same heads k node.next nowhere inside ∙ ap (λ (x : Node). x.next) (sym last) ∙ hung.nexts i (omega arith) ∙ ap (λ x. newest nodes n x i) (own ∙ sym e)
        | inr ne ↦ get_or-set_other heads k b node.next nowhere ne ∙ hung.starts b (omega arith) ∙ ap (newest nodes n b) s ∙ newest_there nodes n b i (λ e. ne (sym e ∙ own))
      ]);
      nexts = λ j l. subst (λ m. (node_at nodes j).next ≡ newest nodes m ((node_at nodes j).old % m) j) (sym len) (hung.nexts j (omega arith));
    } in
    hung_same nodes nodes' heads' i same before

-- what the newest one's link leads to
pub newest_on : (nodes : List Node) (n b k : ℕ) → ((newest nodes n b k).code ≤ k) × (newest nodes n b (newest nodes n b k).code ≡ newest nodes n b k)
newest_on nodes n b zero = (omega arith, refl)
newest_on nodes n b (suc k) = elim (cases_eq ((node_at nodes k).old % n) b) [
  | inl e ↦ (
      let h = newest_here nodes n b k e in
      subst (λ (x : Link). (x.code ≤ suc k) × (newest nodes n b x.code ≡ x)) (sym h) (omega arith, h))
  | inr ne ↦ (
      let h = newest_there nodes n b k ne in
      let (le, on) = newest_on nodes n b k in
      subst (λ (x : Link). (x.code ≤ suc k) × (newest nodes n b x.code ≡ x)) (sym h) (omega arith, on))
]

pair_front : (nodes : List Node) (k : ℕ) → k < length nodes → drop k (pairs_on nodes) ≡ pair_of (node_at nodes k) ∷ drop (suc k) (pairs_on nodes)
pair_front (n ∷ nodes) zero lt = refl
pair_front (n ∷ nodes) (suc k) lt = pair_front nodes k (omega arith)
pair_front [] k lt = absurd (omega arith)

-- no node between the newest one and the first k names the chunk
pub passed : (nodes : List Node) (n c k : ℕ) → k ≤ length nodes → place_of (drop (newest nodes n (c % n) k).code (pairs_on nodes)) c ≡ place_of (drop k (pairs_on nodes)) c
passed nodes n c zero le = refl
passed nodes n c (suc k) le = elim (cases_eq ((node_at nodes k).old % n) (c % n)) [
  | inl e ↦ ap (λ (x : Link). place_of (drop x.code (pairs_on nodes)) c) (newest_here nodes n (c % n) k e)
  | inr ne ↦ ap (λ (x : Link). place_of (drop x.code (pairs_on nodes)) c) (newest_there nodes n (c % n) k ne) ∙ passed nodes n c k (omega arith)
      ∙ ap (λ x. place_of x c) (pair_front nodes k (omega arith)) ∙ cond-false _ _ _ (ne_eqb _ _ (λ e. ne (ap (λ x. x % n) e)))
]

-- a look-up that has come to a link
pub record IsOn (nodes : List Node) (n c : ℕ) (link : Link) (found : Option ℕ) (left : ℕ) : Type 0 where
  pub on : newest nodes n (c % n) link.code ≡ link
  pub within : link.code ≤ left
  pub inside : left ≤ length nodes
  pub rest : place_of (drop link.code (pairs_on nodes)) c ≡ found

pub on_first : (nodes : List Node) (heads : List Link) (c b : ℕ) → b ≡ c % length heads → b < length heads → AreHung nodes heads (length nodes) → IsOn nodes (length heads) c (head_at heads b) None (length nodes)
on_first nodes heads c b at lt hung =
    let n : ℕ = length heads in
    let e : newest nodes n (c % n) (length nodes) ≡ head_at heads b = ap (λ x. newest nodes n x (length nodes)) (sym at) ∙ sym (hung.starts b lt) in
    let (le, on) = newest_on nodes n (c % n) (length nodes) in
    subst (λ x. IsOn nodes n c x None (length nodes)) e (record {
      on = on;
      within = le;
      inside = omega arith;
      rest = passed nodes n c (length nodes) (omega arith) ∙ ap (λ x. place_of x c) (drop_all (length nodes) (pairs_on nodes) (omega (arith, length-map nodes pair_of)));
    })

-- the node that a link of the chain leads to
pub on_node : (nodes : List Node) (n c at : ℕ) (link : Link) (found : Option ℕ) (left : ℕ) → IsOn nodes n c link found left → link ≡ to at → (at < left) × ((node_at nodes at).old % n ≡ c % n)
on_node nodes n c at link found left is to_at =
    let code : link.code ≡ suc at = ap (λ (x : Link). x.code) to_at in
    let w = is.within in
    let e : newest nodes n (c % n) (suc at) ≡ to at = ap (newest nodes n (c % n)) (sym code) ∙ is.on ∙ to_at in (
      omega arith,
      elim (cases_eq ((node_at nodes at).old % n) (c % n)) [
        | inl same ↦ same
        | inr ne ↦ (
            let h : newest nodes n (c % n) at ≡ to at = sym (newest_there nodes n (c % n) at ne) ∙ e in
            let (le, on) = newest_on nodes n (c % n) at in
            absurd (omega (arith, ap (λ (x : Link). x.code) h)))
      ],
    )

pub on_next : (nodes : List Node) (heads : List Link) (c at : ℕ) (link : Link) (found : Option ℕ) (left : ℕ) → AreHung nodes heads (length nodes) → IsOn nodes (length heads) c link found left → link ≡ to at
    → IsOn nodes (length heads) c (node_at nodes at).next (cond (eqb (node_at nodes at).old c) (Some (node_at nodes at).new) found) (left - 1)
on_next nodes heads c at link found left hung is to_at =
    let n : ℕ = length heads in
    let (lt, own) = on_node nodes n c at link found left is to_at in
    let inside = is.inside in
    let code : link.code ≡ suc at = ap (λ (x : Link). x.code) to_at in
    let e : newest nodes n (c % n) at ≡ (node_at nodes at).next = sym (hung.nexts at (omega arith) ∙ ap (λ x. newest nodes n x at) own) in
    let (le, on) = newest_on nodes n (c % n) at in
    let rest : place_of (drop (suc at) (pairs_on nodes)) c ≡ found = ap (λ x. place_of (drop x (pairs_on nodes)) c) (sym code) ∙ is.rest in
    subst (λ x. IsOn nodes n c x (cond (eqb (node_at nodes at).old c) (Some (node_at nodes at).new) found) (left - 1)) e (record {
      on = on;
      within = omega arith;
      inside = omega arith;
      rest = passed nodes n c at (omega arith) ∙ ap (λ x. place_of x c) (pair_front nodes at (omega arith)) ∙ ap (λ x. cond (eqb (node_at nodes at).old c) (Some (node_at nodes at).new) x) rest;
    })

pub on_here : (nodes : List Node) (heads : List Link) (c at : ℕ) (link : Link) (found : Option ℕ) (left : ℕ) → AreHung nodes heads (length nodes) → IsOn nodes (length heads) c link found left → link ≡ to at → (node_at nodes at).old ≡ c
    → IsOn nodes (length heads) c (node_at nodes at).next (Some (node_at nodes at).new) (left - 1)
on_here nodes heads c at link found left hung is to_at e = subst (λ x. IsOn nodes (length heads) c (node_at nodes at).next x (left - 1)) (cond-true _ _ _ (eq-eqb _ _ e)) (on_next nodes heads c at link found left hung is to_at)

pub on_over : (nodes : List Node) (heads : List Link) (c at : ℕ) (link : Link) (found : Option ℕ) (left : ℕ) → AreHung nodes heads (length nodes) → IsOn nodes (length heads) c link found left → link ≡ to at → (node_at nodes at).old ≢ c
    → IsOn nodes (length heads) c (node_at nodes at).next found (left - 1)
on_over nodes heads c at link found left hung is to_at ne = subst (λ x. IsOn nodes (length heads) c (node_at nodes at).next x (left - 1)) (cond-false _ _ _ (ne_eqb _ _ ne)) (on_next nodes heads c at link found left hung is to_at)

pub on_end : (nodes : List Node) (n c : ℕ) (link : Link) (found : Option ℕ) (left : ℕ) → IsOn nodes n c link found left → link.code ≡ 0 → found ≡ place_of (pairs_on nodes) c
on_end nodes n c link found left is none = sym is.rest ∙ ap (λ x. place_of (drop x (pairs_on nodes)) c) none

-- the last pair less
pub pairs_less : (nodes : List Node) → pairs_on (take (length nodes - 1) nodes) ≡ take (length (pairs_on nodes) - 1) (pairs_on nodes)
pairs_less nodes = sym (take-map pair_of (length nodes - 1) nodes) ∙ ap (λ n. take (n - 1) (pairs_on nodes)) (sym (length-map nodes pair_of))

-- a node more at the end
pub hung_put : (nodes nodes' : List Node) (heads : List Link) (node : Node) → nodes' ≡ nodes ++ node ∷ [] → AreHung nodes heads (length nodes) → AreHung nodes' heads (length nodes)
hung_put nodes nodes' heads node is hung = hung_same nodes nodes' heads (length nodes) (λ i lt. ap (λ x. node_at x i) is ∙ get_or_append_left nodes (node ∷ []) _ i lt) hung
