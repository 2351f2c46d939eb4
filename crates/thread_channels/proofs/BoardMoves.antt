-- Each step keeps the rule.
use Rattle.std.proofs.Common.{◌≡◌, ◌≢◌, ℕ, zero, suc, true, false, List, [], ◌∷◌, ◌++◌, set, refl, sym, ap, ◌∙◌, subst, ⊎_elim, append_assoc, append-nil, arith}
use Rattle.std.specs.Prelude.{slice_index}
use mathlib.Core.Option.{Option, none, some, some-ne-none, some-injective}
use lib.ListN.{get_elem?}
use Rattle.atomic_table.proofs.Lists.{at_set, at_snoc, set_again}
use Rattle.atomic_table.specs.Table.{Me, keeps, step, Allows, Splits, Joins}
use Rattle.thread_channels.specs.Words.{usage_word, IsNarrow, no_usage}
use Rattle.thread_channels.specs.Growth.{StartsWith, EndsIn, reader, opening_view, taking, Fits, Growing, Adds, Sees}
use Rattle.thread_channels.specs.declared.usage.PlaceUsage.{PlaceUsage}
use Rattle.thread_channels.specs.declared.board_rule.View.{View}
use Rattle.thread_channels.proofs.Widths.{same_usage}

starts_self : (xs : List PlaceUsage) → StartsWith xs xs
starts_self xs = ([], sym (append-nil xs))

starts_more : (all seen more : List PlaceUsage) → StartsWith all seen → StartsWith (all ++ more) seen
starts_more all seen more (rest, is) = (rest ++ more, ap (λ l. l ++ more) is ∙ append_assoc seen rest more)

off : false ≡ true → ⊥
off e = cc

-- after a change of one view, each view fits
fits_set : (owner : ℕ) (now : List PlaceUsage) (views : List View) (by : ℕ) (w : View) → ((j : ℕ) (u : View) → j ≢ by → get_elem? views j ≡ some u → Fits owner now j u) → Fits owner now by w → (j : ℕ) (u : View) → get_elem? (set views by w) j ≡ some u → Fits owner now j u
fits_set owner now views by w others mine j u e =
    ⊎_elim
    (λ (x : (j ≡ by) × (w ≡ u)). subst (λ (y : ℕ × View). Fits owner now y.0 y.1) (λ i. (sym x.0 i, x.1 i)) mine)
    (λ (x : (j ≢ by) × (get_elem? views j ≡ some u)). others j u x.0 x.1)
    (at_set views by j w u e)

-- the publisher stores the word of a usage
pub publishes : (slots id : ℕ) (me : Me Unit View) (u : PlaceUsage) (n : ℕ) → me.0.publishes ≡ true → IsNarrow u → n ≡ usage_word u → Allows Growing slots id me 0 (λ _. n) (λ _. Adds (step slots 0 n 0 none) me n)
publishes slots id me u n mine narrow word s h same at small =
    let known = h.6 id me.0 at in
    let own = known.2 mine in
    let all = me.0.seen ++ u ∷ [] in
    let w : View = record { publishes = me.0.publishes; seen = all; taken = me.0.taken } in (
      w,
      keeps,
      tt,
      (
        h.0,
        all,
        u,
        narrow,
        ap (λ (l : List ℕ). set l 0 n) h.4 ∙ ap (λ (k : ℕ). k ∷ []) word,
        (me.0.seen, refl),
        fits_set h.0 all s.views id w
            (λ j v apart e.
            let theirs = h.6 j v e in (
              starts_more me.0.seen v.seen (u ∷ []) (subst (λ l. StartsWith l v.seen) (sym own.1) theirs.0),
              starts_more me.0.seen v.taken (u ∷ []) (subst (λ l. StartsWith l v.taken) (sym own.1) theirs.1),
              (λ p. absurd (apart ((theirs.2 p).0 ∙ sym own.0))),
            )) (
              starts_self all,
              starts_more me.0.seen me.0.taken (u ∷ []) (subst (λ l. StartsWith l me.0.taken) (sym own.1) known.1),
              (λ _. (own.0, refl)),
            ),
      ),
      ((λ other slim is. ap (λ (x : PlaceUsage). me.0.seen ++ x ∷ []) (same_usage u other narrow slim (sym word ∙ is))), refl, refl),
    )

-- any pass loads the word
pub reads : (slots id : ℕ) (me : Me Unit View) → Allows Growing slots id me 0 (λ n. n) (Sees (step slots 0 0 0 none) me)
reads slots id me s h same at small =
    let known = h.6 id me.0 at in
    let all = h.1 in
    let last = h.2 in
    let w : View = record { publishes = me.0.publishes; seen = all; taken = me.0.taken } in
    let found : slice_index s.words 0 ≡ usage_word last = ap (λ (l : List ℕ). slice_index l 0) h.4 in (
      w,
      keeps,
      tt,
      (
        h.0,
        all,
        last,
        h.3,
        ap (λ (l : List ℕ). set l 0 (slice_index l 0)) h.4,
        h.5,
        fits_set h.0 all s.views id w (λ j u apart e. h.6 j u e) (starts_self all, known.1, (λ p. ((known.2 p).0, refl))),
      ),
      (
        (λ u narrow is. subst (EndsIn all) (same_usage last u h.3 narrow (sym found ∙ is)) h.5),
        (last, h.3, found),
        known.0,
        known.1,
        (λ p. sym (known.2 p).1),
        refl,
        refl,
      ),
    )

-- a second pass that has seen as much
pub splits : (id : ℕ) (v : View) → Splits Growing id v v (reader v.seen)
splits id v s h at = (
  h.0,
  h.1,
  h.2,
  h.3,
  h.4,
  h.5,
  λ j u e. ⊎_elim
      (λ was. h.6 j u (subst (λ l. get_elem? l j ≡ some u) (set_again s.views id v at) was))
      (λ (same : reader v.seen ≡ u). subst (Fits h.0 h.1 j) same ((h.6 id v at).0, (h.1, refl), (λ p. absurd (off p))))
      (at_snoc (set s.views id v) (reader v.seen) u j e),
)

-- a pass takes in what another has seen
pub joins : (id other : ℕ) (v w : View) → Joins Growing id v other w (taking v w) (reader [])
joins id other v w s h at apart there =
    let known = h.6 id v at in
    let both = taking v w in
    let theirs : get_elem? s.views other ≡ some w = ⊎_elim (λ (t : (other ≡ id) × (both ≡ w)). absurd (apart t.0)) (λ (t : (other ≢ id) × (get_elem? s.views other ≡ some w)). t.1) (at_set s.views id other both w there) in (
      h.0,
      h.1,
      h.2,
      h.3,
      h.4,
      h.5,
      fits_set h.0 h.1 (set s.views id both) other (reader [])
          (λ j u _ e. fits_set h.0 h.1 s.views id both (λ i y _ is. h.6 i y is) (known.0, (h.6 other w theirs).0, known.2) j u e)
          ((h.1, refl), (h.1, refl), (λ p. absurd (off p))),
    )

-- at the start one pass has seen the one publication
pub begins : (n : ℕ) (homes : List (Option Unit)) → n ≡ usage_word no_usage → Growing (record { words = n ∷ []; homes = homes; views = opening_view ∷ [] })
begins n homes is = (0, no_usage ∷ [], no_usage, (omega arith, omega arith), ap (λ (k : ℕ). k ∷ []) is, ([], refl), one)
  where
    one : (by : ℕ) (v : View) → get_elem? (opening_view ∷ []) by ≡ some v → Fits 0 (no_usage ∷ []) by v
    one zero v e = subst (Fits 0 (no_usage ∷ []) 0) (some-injective _ _ e) (starts_self (no_usage ∷ []), (no_usage ∷ [], refl), (λ _. (refl, refl)))
    one (suc by) v e = absurd (some-ne-none v (sym e))
