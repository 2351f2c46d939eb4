-- Copies by sectors, and look-ups of pairs that stand behind others.
use Rattle.std.proofs.Common.{◌≡◌, ◌≢◌, inl, inr, ℕ, ◌+◌, ◌*◌, ◌/◌, ◌%◌, ◌<◌, List, [], ◌∷◌, length, take, drop, get_or, zero, suc, arith, refl, ap, ◌∙◌, sym, length-take, length-drop}
use Rattle.std.specs.Prelude.{Option, Some, None, AllPairs, ◌==◌}
use Rattle.std.proofs.lemmas.Bool.{cases_lt, cases_eq, cases_Bool, eq-eqb, cond-true, cond-false}
use Rattle.std.proofs.lemmas.List.{get_or-take, get_or-drop, get_or_default}
use Rattle.std.proofs.lemmas.Nat.{mod_below}
use Rattle.sector.specs.Bytes.{sector_at}
use Rattle.sector.proofs.Sectors.{byte_read}
use Rattle.sector.specs.declared.pair.Pair.{Pair}
use Rattle.cow_format.specs.Pairs.{IsApart}
use Rattle.cow_format.specs.Picture.{place_of, IsCopied}
use Rattle.cow_format.proofs.Pictures.{place_found}
use Rattle.cow_format.proofs.Views.{place_none}
use Rattle.crash_laws.proofs.Sectors.{sector_chunk}
use Rattle.cache_loss_laws.proofs.Parts.{place_first}

-- a copy whose sectors are the origin's
pub sectors_copied : (chunk sectors : ℕ) (o c : List ℕ) (q : Pair) → 0 < chunk → length o ≡ 512 * sectors → ((s : ℕ) → s < sectors → s / chunk ≡ q.old → sector_at c (chunk * q.new + s % chunk) ≡ sector_at o s) → IsCopied chunk o c q
sectors_copied chunk sectors o c q pos whole same = record { front = λ i lt named. by i lt named } where
  by : (i : ℕ) → i < length o → i / (512 * chunk) ≡ q.old → get_or c (512 * (chunk * q.new) + i % (512 * chunk)) 0 ≡ get_or o i 0
  by i lt named =
      let s : ℕ = i / 512 in
      let r : ℕ = i % 512 in
      let small : i % 512 < 512 = mod_below i 512 (omega arith) in
      let e : 512 * (i / 512) + i % 512 ≡ i = omega arith in
      let at = sector_chunk chunk (i / 512) (i % 512) pos small in
      let its : i / 512 / chunk ≡ q.old = sym at.0 ∙ ap (λ x. x / (512 * chunk)) e ∙ named in
      let off : i % (512 * chunk) ≡ 512 * (i / 512 % chunk) + i % 512 = ap (λ x. x % (512 * chunk)) (sym e) ∙ at.1 in
      let there : 512 * (chunk * q.new) + i % (512 * chunk) ≡ 512 * (chunk * q.new + i / 512 % chunk) + i % 512 = omega (arith, off) in
      ap (λ x. get_or c x 0) there ∙ sym (byte_read c (chunk * q.new + i / 512 % chunk) 1 (i % 512) (omega arith)) ∙ ap (λ x. get_or x (i % 512) 0) (same (i / 512) (omega arith) its)
      ∙ byte_read o (i / 512) 1 (i % 512) (omega arith) ∙ ap (λ x. get_or o x 0) e

-- a pair behind the first n names a chunk that none of these names
pub unnamed_before : (n : ℕ) (ps : List Pair) → AllPairs IsApart ps → (k : ℕ) (d : Pair) → k < length (drop n ps) → place_of (take n ps) (get_or (drop n ps) k d).old ≡ None
unnamed_before n ps apart k d lt =
    place_none (take n ps) (get_or (drop n ps) k d).old
    (λ j d' below. let few : j < n = omega (arith, below, length-take n ps) in
    let there : n + k < length ps = omega (arith, lt, length-drop n ps) in
    λ e. (apart j (n + k) d' (omega arith) there).old (ap (λ (p : Pair). p.old) (sym (get_or-take n ps j d' few)) ∙ e ∙ ap (λ (p : Pair). p.old) (get_or-drop n ps k d ∙ get_or_default ps (n + k) d d' there)))

-- a pair of a list has its chunk there
named_there : (ps : List Pair) (k : ℕ) (d : Pair) → k < length ps → place_of ps (get_or ps k d).old ≢ None
named_there [] k d lt e = absurd (omega arith)
named_there (p ∷ ps) zero d lt e = let no : Some p.new ≡ None = sym (cond-true (p.old == p.old) (Some p.new) (place_of ps p.old) (eq-eqb p.old p.old refl)) ∙ e in absurd (cc)
named_there (p ∷ ps) (suc k) d lt e = elim (cases_Bool (p.old == (get_or ps k d).old)) [
  | inl t ↦ (let no : Some p.new ≡ None = sym (cond-true _ _ _ t) ∙ e in absurd (cc))
  | inr f ↦ named_there ps k d (omega arith) (sym (cond-false _ _ _ f) ∙ e)
]

-- Each pair behind the first n is found there by its chunk, where no two name the same.
pub found_there : (n : ℕ) (ps : List Pair) → AllPairs IsApart ps → (k : ℕ) (d : Pair) → k < length (drop n ps) → place_of (drop n ps) (get_or (drop n ps) k d).old ≡ Some (get_or (drop n ps) k d).new
found_there n ps apart k d lt = by (place_of (drop n ps) (get_or (drop n ps) k d).old) refl where
  there : (j : ℕ) → j < length (drop n ps) → n + j < length ps
  there j lt' = omega (arith, lt', length-drop n ps)

  olds : (i j : ℕ) (d : Pair) → i < j → j < length (drop n ps) → (get_or (drop n ps) i d).old ≢ (get_or (drop n ps) j d).old
  olds i j d below lt' e = (apart (n + i) (n + j) d (omega arith) (there j lt')).old (ap (λ (p : Pair). p.old) (sym (get_or-drop n ps i d)) ∙ e ∙ ap (λ (p : Pair). p.old) (get_or-drop n ps j d))

  at : (j : ℕ) → j < length (drop n ps) → (get_or (drop n ps) j d).old ≡ (get_or (drop n ps) k d).old → j ≡ k
  at j lt' same = elim (cases_eq j k) [
    | inl e ↦ e
    | inr ne ↦ elim (cases_lt j k) [
      | inl below ↦ absurd (olds j k d below lt same)
      | inr above ↦ absurd (olds k j d (omega (arith, ne, above)) lt' (sym same))
    ]
  ]

  by : (x : Option ℕ) → place_of (drop n ps) (get_or (drop n ps) k d).old ≡ x → place_of (drop n ps) (get_or (drop n ps) k d).old ≡ Some (get_or (drop n ps) k d).new
  by None e = absurd (named_there (drop n ps) k d lt e)
  by (Some m) e =
      let (j, below, is) = place_found (drop n ps) (get_or (drop n ps) k d).old m e in
      let same : j ≡ k = at j below (is d).0 in
      e ∙ ap Some (sym (is d).1 ∙ ap (λ i. (get_or (drop n ps) i d).new) same)

-- a chunk that no pair names is not named by the first of them
pub none_before : (n : ℕ) (ps : List Pair) (x : ℕ) → place_of ps x ≡ None → place_of (take n ps) x ≡ None
none_before n ps x none = by (place_of (take n ps) x) refl where
  by : (y : Option ℕ) → place_of (take n ps) x ≡ y → place_of (take n ps) x ≡ None
  by None e = e
  by (Some m) e = let no : Some m ≡ None = sym (place_first n ps x m e) ∙ none in absurd (cc)
