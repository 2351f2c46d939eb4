-- The test of a written store's pairs is that they are well formed.
use Rattle.std.proofs.Common.{◌≡◌, ℕ, suc, List, [], ◌∷◌, arith, refl, sym, Bool, true, false, inl, inr, ap, ◌∙◌}
use Rattle.std.specs.Prelude.{AllPairs, ◌&&◌, ◌||◌, Result, Ok, Err, ◌==◌, not}
use Rattle.std.specs.List.{All, list_all, list_any}
use Rattle.std.proofs.lemmas.Bool.{true≢false, ltb-true, leb-true, lt-ltb, le-leb, eqb-false, ne_eqb, not-true, not_from_false, cond-true, cond-false, cases_Bool, not-false}
use Rattle.std.proofs.lemmas.List.Elements.{All-cons, All-nil}
use Rattle.std.proofs.lemmas.List.Kept.{AllPairs-cons}
use Rattle.sector.specs.declared.pair.Pair.{Pair}
use Rattle.cow_format.specs.Pairs.{IsApart, IsInside, AreWellFormed}
use Rattle.whole_commands.specs.Loads.{is_inside, is_shared, are_apart, is_loadable}
use Rattle.sector.specs.declared.refusal.Refusal.{Refusal}
use Rattle.sector.specs.declared.refusal.Refusal.TheVariants.{BadHeader, BadVersion, BadChunk, Invalid as InvalidRefusal}
use Rattle.chunk.specs.Sizes.{is_chunk}
use Rattle.cow_header.specs.HeaderText.{found_by, magic_number}
use Rattle.cow_header.specs.declared.found.Found.{Found}
use Rattle.cow_header.specs.declared.found.Found.TheVariants.{Fresh, Header}

and_first : (a b : Bool) → (a && b) ≡ true → a ≡ true
and_first true b e = refl
and_first false b e = absurd (true≢false (sym e))

and_second : (a b : Bool) → (a && b) ≡ true → b ≡ true
and_second true b e = e
and_second false b e = absurd (true≢false (sym e))

and_both : (a b : Bool) → a ≡ true → b ≡ true → (a && b) ≡ true
and_both true b p q = q
and_both false b p q = absurd (true≢false (sym p))

or_neither : (a b : Bool) → (a || b) ≡ false → (a ≡ false) × (b ≡ false)
or_neither true b e = absurd (true≢false e)
or_neither false b e = (refl, e)

neither_or : (a b : Bool) → a ≡ false → b ≡ false → (a || b) ≡ false
neither_or true b p q = absurd (true≢false p)
neither_or false b p q = q

inside_from : (chunk origin size : ℕ) (p : Pair) → is_inside chunk origin size p ≡ true → IsInside chunk origin size p
inside_from chunk origin size p e = let one = and_first _ _ e in let two = and_first _ _ one in record {
  old = ltb-true _ _ (and_first _ _ two);
  new = leb-true _ _ (and_second _ _ two);
  low = ltb-true _ _ (and_second _ _ one);
  free = not-true _ (and_second _ _ e);
}

from_inside : (chunk origin size : ℕ) (p : Pair) → IsInside chunk origin size p → is_inside chunk origin size p ≡ true
from_inside chunk origin size p is = and_both _ _ (and_both _ _ (and_both _ _ (lt-ltb _ _ is.old) (le-leb _ _ is.new)) (lt-ltb _ _ is.low)) (not_from_false _ is.free)

all_inside : (chunk origin size : ℕ) (ps : List Pair) → list_all (is_inside chunk origin size) ps ≡ true → All (IsInside chunk origin size) ps
all_inside chunk origin size [] e = All-nil (IsInside chunk origin size)
all_inside chunk origin size (p ∷ ps) e = All-cons (IsInside chunk origin size) p ps (inside_from chunk origin size p (and_first _ _ e)) (all_inside chunk origin size ps (and_second _ _ e))

inside_all : (chunk origin size : ℕ) (ps : List Pair) → All (IsInside chunk origin size) ps → list_all (is_inside chunk origin size) ps ≡ true
inside_all chunk origin size [] is = refl
inside_all chunk origin size (p ∷ ps) is = and_both _ _ (from_inside chunk origin size p (is 0 p (omega arith))) (inside_all chunk origin size ps (λ k d lt. is (suc k) d (omega arith)))

apart_from : (p : Pair) (ps : List Pair) → list_any (is_shared p) ps ≡ false → All (IsApart p) ps
apart_from p [] e = All-nil (IsApart p)
apart_from p (q ∷ qs) e =
    let (here, there) = or_neither _ _ e in
    let (old, new) = or_neither _ _ here in
    All-cons (IsApart p) q qs (record { old = eqb-false _ _ old; new = eqb-false _ _ new }) (apart_from p qs there)

from_apart : (p : Pair) (ps : List Pair) → All (IsApart p) ps → list_any (is_shared p) ps ≡ false
from_apart p [] is = refl
from_apart p (q ∷ qs) is =
    let here = is 0 q (omega arith) in
    neither_or _ _ (neither_or _ _ (ne_eqb _ _ here.old) (ne_eqb _ _ here.new)) (from_apart p qs (λ k d lt. is (suc k) d (omega arith)))

all_apart : (ps : List Pair) → are_apart ps ≡ true → AllPairs IsApart ps
all_apart [] e = λ i j d below lt. absurd (omega arith)
all_apart (p ∷ ps) e = AllPairs-cons IsApart p ps (apart_from p ps (not-true _ (and_first _ _ e))) (all_apart ps (and_second _ _ e))

apart_all : (ps : List Pair) → AllPairs IsApart ps → are_apart ps ≡ true
apart_all [] is = refl
apart_all (p ∷ ps) is = and_both _ _ (not_from_false _ (from_apart p ps (λ k d lt. is 0 (suc k) d (omega arith) (omega arith)))) (apart_all ps (λ i j d below lt. is (suc i) (suc j) d (omega arith) (omega arith)))

-- pairs that pass the test
pub loadable-formed : (chunk origin size : ℕ) (ps : List Pair) → is_loadable chunk origin size ps ≡ true → AreWellFormed chunk origin size ps
unfolding is_loadable
loadable-formed chunk origin size ps e = let one = and_first _ _ e in record {
  inside = all_inside chunk origin size ps (and_first _ _ one);
  apart = all_apart ps (and_second _ _ one);
  room = leb-true _ _ (and_second _ _ e);
}

-- and no others do
pub formed-loadable : (chunk origin size : ℕ) (ps : List Pair) → AreWellFormed chunk origin size ps → is_loadable chunk origin size ps ≡ true
unfolding is_loadable
formed-loadable chunk origin size ps formed = and_both _ _ (and_both _ _ (inside_all chunk origin size ps formed.inside) (apart_all ps formed.apart)) (le-leb _ _ formed.room)

-- a good header has an allowed chunk size
pub header_allowed : (magic mark version chunk own : ℕ) → found_by magic mark version chunk ≡ Ok (Header own) → is_chunk own ≡ true
header_allowed magic mark version chunk own e = elim (cases_Bool (magic == 0)) [
  | inl fresh ↦ (let h : ◌≡◌ {A = Result Found Refusal} (Ok Fresh) (Ok (Header own)) = sym (cond-true _ _ _ fresh) ∙ e in absurd (cc))
  | inr a ↦ elim (cases_Bool (not (magic == magic_number))) [
    | inl bad ↦ (let h : ◌≡◌ {A = Result Found Refusal} (Err BadHeader) (Ok (Header own)) = sym (cond-false _ _ _ a ∙ cond-true _ _ _ bad) ∙ e in absurd (cc))
    | inr b ↦ elim (cases_Bool (not (version == 1))) [
      | inl bad ↦ (let h : ◌≡◌ {A = Result Found Refusal} (Err BadVersion) (Ok (Header own)) = sym (cond-false _ _ _ a ∙ cond-false _ _ _ b ∙ cond-true _ _ _ bad) ∙ e in absurd (cc))
      | inr c ↦ elim (cases_Bool (not (is_chunk chunk))) [
        | inl bad ↦ (let h : ◌≡◌ {A = Result Found Refusal} (Err BadChunk) (Ok (Header own)) = sym (cond-false _ _ _ a ∙ cond-false _ _ _ b ∙ cond-false _ _ _ c ∙ cond-true _ _ _ bad) ∙ e in absurd (cc))
        | inr d ↦ elim (cases_Bool (mark == 0)) [
          | inl bad ↦ (let h : ◌≡◌ {A = Result Found Refusal} (Err InvalidRefusal) (Ok (Header own)) = sym (cond-false _ _ _ a ∙ cond-false _ _ _ b ∙ cond-false _ _ _ c ∙ cond-false _ _ _ d ∙ cond-true _ _ _ bad) ∙ e in absurd (cc))
          | inr f ↦ (let h : ◌≡◌ {A = Result Found Refusal} (Ok (Header chunk)) (Ok (Header own)) = sym (cond-false _ _ _ a ∙ cond-false _ _ _ b ∙ cond-false _ _ _ c ∙ cond-false _ _ _ d ∙ cond-false _ _ _ f) ∙ e in
              let same : chunk ≡ own = cc in ap is_chunk (sym same) ∙ not-false _ d)
        ]
      ]
    ]
  ]
]
