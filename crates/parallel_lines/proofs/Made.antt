-- What was made at volumes that were taken out, the last of the table first: lists side by side, of which the last item is that
-- of the first volume.
use Rattle.std.proofs.Common.{◌≡◌, ◌⊎◌, ℕ, zero, suc, ◌+◌, ◌<◌, ◌≤◌, cond, Bool, true, false, List, [], ◌∷◌, ◌++◌, length, get_or, drop, refl, sym, ap, ◌∙◌, subst, inl, inr, arith}
use Rattle.std.specs.List.{count_by}
use Rattle.std.proofs.Math.ListN.{get_or-append}
use Rattle.std.proofs.Math.Seq.{get_or-append_seam}
use Rattle.std.proofs.lemmas.List.{length_push}
use Rattle.std.proofs.lemmas.List.Sums.{sum_by-cons}

-- how many are true
abbrev pub uses_of : List Bool → ℕ
uses_of uses = count_by (λ is_used. is_used) uses

-- The last of these, by which one volume became another.
pub record IsLast {A E V : Type 0} (is : A → A → E → V → V → Type 0) (bs cs : List A) (es : List E) (bs' cs' : List A) (es' : List E) (old new : V) : Type 0 where
  pub before : A
  pub after : A
  pub entry : E
  pub befores : bs ≡ bs' ++ before ∷ []
  pub afters : cs ≡ cs' ++ after ∷ []
  pub entries : es ≡ es' ++ entry ∷ []
  pub made : is before after entry old new

abbrev pub AreMade : {A E V : Type 0} → (A → A → E → V → V → Type 0) → List Bool → List A → List A → List E → List V → List V → Type 0
AreMade is [] bs cs es [] [] = (bs ≡ []) × (cs ≡ []) × (es ≡ [])
AreMade is [] bs cs es [] (new ∷ news) = ⊥
AreMade is [] bs cs es (old ∷ olds) news = ⊥
AreMade is (used ∷ uses) bs cs es [] news = ⊥
AreMade is (used ∷ uses) bs cs es (old ∷ olds) [] = ⊥
AreMade {A = A} {E = E} is (used ∷ uses) bs cs es (old ∷ olds) (new ∷ news) =
    ((new ≡ old) × AreMade is uses bs cs es olds news)
    ⊎ ((used ≡ true) × (bs' : List A) × (cs' : List A) × (es' : List E) × IsLast is bs cs es bs' cs' es' old new × AreMade is uses bs' cs' es' olds news)

uses_cons : (u : Bool) (us : List Bool) → uses_of (u ∷ us) ≡ cond u 1 0 + uses_of us
uses_cons u us = sum_by-cons (λ (b : Bool). cond b 1 0) u us

one_is : (u : Bool) → u ≡ true → (let n : ℕ = cond u 1 0 in n) ≡ 1
one_is true is = refl
one_is false is = absurd (cc)

drop_suc : (n : ℕ) (u : Bool) (us : List Bool) → drop (n + 1) (u ∷ us) ≡ drop n us
drop_suc n u us = ap (λ (k : ℕ). drop k (u ∷ us)) (let is : n + 1 ≡ suc n = omega arith in is)

-- no more than volumes that are used
pub made_few : {A E V : Type 0} (is : A → A → E → V → V → Type 0) (uses : List Bool) (bs cs : List A) (es : List E) (olds news : List V) → AreMade is uses bs cs es olds news → length es ≤ uses_of uses
made_few is [] bs cs es [] [] h = let none = ap length h.2 in omega (arith, none)
made_few is [] bs cs es [] (n ∷ ns) h = absurd h
made_few is [] bs cs es (o ∷ os) ns h = absurd h
made_few is (u ∷ us) bs cs es [] ns h = absurd h
made_few is (u ∷ us) bs cs es (o ∷ os) [] h = absurd h
made_few is (u ∷ us) bs cs es (o ∷ os) (n ∷ ns) (inl h) =
    let less = made_few is us bs cs es os ns h.1 in
    omega (arith, less, uses_cons u us)
made_few is (u ∷ us) bs cs es (o ∷ os) (n ∷ ns) (inr (used, bs', cs', es', last, h)) =
    let less = made_few is us bs' cs' es' os ns h in
    let more = ap length last.entries ∙ length_push es' last.entry in
    let one = one_is u used in
    omega (arith, less, more, one, uses_cons u us)

-- as many of each
pub made_long : {A E V : Type 0} (is : A → A → E → V → V → Type 0) (uses : List Bool) (bs cs : List A) (es : List E) (olds news : List V) → AreMade is uses bs cs es olds news → (length bs ≡ length es) × (length cs ≡ length es)
made_long is [] bs cs es [] [] h =
    let a = ap length h.0 in
    let b = ap length h.1 in
    let c = ap length h.2 in
    (omega (arith, a, c), omega (arith, b, c))
made_long is [] bs cs es [] (n ∷ ns) h = absurd h
made_long is [] bs cs es (o ∷ os) ns h = absurd h
made_long is (u ∷ us) bs cs es [] ns h = absurd h
made_long is (u ∷ us) bs cs es (o ∷ os) [] h = absurd h
made_long is (u ∷ us) bs cs es (o ∷ os) (n ∷ ns) (inl h) = made_long is us bs cs es os ns h.1
made_long is (u ∷ us) bs cs es (o ∷ os) (n ∷ ns) (inr (used, bs', cs', es', last, h)) =
    let less = made_long is us bs' cs' es' os ns h in
    let a = ap length last.befores ∙ length_push bs' last.before in
    let b = ap length last.afters ∙ length_push cs' last.after in
    let c = ap length last.entries ∙ length_push es' last.entry in
    (omega (arith, less.0, a, c), omega (arith, less.1, b, c))

-- the items at a place
pub at_last : {X : Type 0} (xs ys : List X) (y d : X) (k : ℕ) → xs ≡ ys ++ y ∷ [] → k ≡ length ys → get_or xs k d ≡ y
at_last xs ys y d k is here = ap (λ (l : List _). get_or l k d) is ∙ ap (λ (n : ℕ). get_or (ys ++ y ∷ []) n d) here ∙ get_or-append_seam ys y [] d

pub at_first : {X : Type 0} (xs ys : List X) (y d : X) (k : ℕ) → xs ≡ ys ++ y ∷ [] → k < length ys → get_or xs k d ≡ get_or ys k d
at_first xs ys y d k is low = ap (λ (l : List _). get_or l k d) is ∙ get_or-append ys (y ∷ []) d k low

module _ {A E V : Type 0} (is : A → A → E → V → V → Type 0) where
  moved : (b b' a a' : A) (e e' : E) (o o' n n' : V) → b' ≡ b → a' ≡ a → e' ≡ e → o' ≡ o → n' ≡ n → is b a e o n → is b' a' e' o' n'
  moved b b' a a' e e' o o' n n' hb ha he ho hn h =
      subst (λ (x : A). is x a' e' o' n') (sym hb) (subst (λ (x : A). is b x e' o' n') (sym ha) (subst (λ (x : E). is b a x o' n') (sym he) (subst (λ (x : V). is b a e x n') (sym ho) (subst (λ (x : V). is b a e o x) (sym hn) h))))

  pub made_at : (uses : List Bool) (bs cs : List A) (es : List E) (olds news : List V) → AreMade is uses bs cs es olds news → (k : ℕ) (b a : A) (e : E) → k < length es
      → (old : V) × (new : V) × is (get_or bs k b) (get_or cs k a) (get_or es k e) old new
  made_at [] bs cs es [] [] h k b a e low = absurd (let none = ap length h.2 in omega (arith, low, none))
  made_at [] bs cs es [] (n ∷ ns) h k b a e low = absurd h
  made_at [] bs cs es (o ∷ os) ns h k b a e low = absurd h
  made_at (u ∷ us) bs cs es [] ns h k b a e low = absurd h
  made_at (u ∷ us) bs cs es (o ∷ os) [] h k b a e low = absurd h
  made_at (u ∷ us) bs cs es (o ∷ os) (n ∷ ns) (inl h) k b a e low = made_at us bs cs es os ns h.1 k b a e low
  made_at (u ∷ us) bs cs es (o ∷ os) (n ∷ ns) (inr (used, bs', cs', es', last, h)) k b a e low =
      let long = made_long is us bs' cs' es' os ns h in
      let more = ap length last.entries ∙ length_push es' last.entry in
      elim (nat_cases k (length es') (omega (arith, low, more))) [
        | inl first ↦ (
            let r = made_at us bs' cs' es' os ns h k b a e first in (
              r.0,
              r.1,
              moved (get_or bs' k b) (get_or bs k b) (get_or cs' k a) (get_or cs k a) (get_or es' k e) (get_or es k e) r.0 r.0 r.1 r.1
                  (at_first bs bs' last.before b k last.befores (omega (arith, first, long.0))) (at_first cs cs' last.after a k last.afters (omega (arith, first, long.1))) (at_first es es' last.entry e k last.entries first) refl refl r.2,
            ))
        | inr here ↦ (
          o,
          n,
          moved last.before (get_or bs k b) last.after (get_or cs k a) last.entry (get_or es k e) o o n n
              (at_last bs bs' last.before b k last.befores (omega (arith, here, long.0))) (at_last cs cs' last.after a k last.afters (omega (arith, here, long.1))) (at_last es es' last.entry e k last.entries here) refl refl last.made,
        )
      ]
    where
      nat_cases : (i n : ℕ) → i ≤ n → (i < n) ⊎ (i ≡ n)
      nat_cases zero zero le = inr refl
      nat_cases zero (suc n) le = inl (omega arith)
      nat_cases (suc i) zero le = absurd (omega (arith, le))
      nat_cases (suc i) (suc n) le = elim (nat_cases i n (omega (arith, le))) [
        | inl low ↦ inl (omega (arith, low))
        | inr same ↦ inr (ap suc same)
      ]

-- a volume that is used has a place below the others
place_low : (us : List Bool) (v : ℕ) → v < length us → get_or us v false ≡ true → uses_of (drop (v + 1) us) < uses_of us
place_low [] v low used = absurd (omega (arith, low))
place_low (u ∷ us) zero low used =
    let here = ap uses_of (drop_suc 0 u us) in
    let one = one_is u used in
    omega (arith, here, one, uses_cons u us)
place_low (u ∷ us) (suc v) low used =
    let less = place_low us v (omega (arith, low)) used in
    let here = ap uses_of (drop_suc (suc v) u us) ∙ ap (λ (k : ℕ). uses_of (drop k us)) (let is : suc v ≡ v + 1 = omega arith in is) in
    omega (arith, less, here, uses_cons u us)

module _ {A E V : Type 0} (is : A → A → E → V → V → Type 0) where
  pub made_long_uses : (uses : List Bool) (bs cs : List A) (es : List E) (olds news : List V) → AreMade is uses bs cs es olds news → (length uses ≡ length olds) × (length news ≡ length olds)
  made_long_uses [] bs cs es [] [] h = (refl, refl)
  made_long_uses [] bs cs es [] (n ∷ ns) h = absurd h
  made_long_uses [] bs cs es (o ∷ os) ns h = absurd h
  made_long_uses (u ∷ us) bs cs es [] ns h = absurd h
  made_long_uses (u ∷ us) bs cs es (o ∷ os) [] h = absurd h
  made_long_uses (u ∷ us) bs cs es (o ∷ os) (n ∷ ns) (inl h) = let r = made_long_uses us bs cs es os ns h.1 in (ap suc r.0, ap suc r.1)
  made_long_uses (u ∷ us) bs cs es (o ∷ os) (n ∷ ns) (inr (used, bs', cs', es', last, h)) = let r = made_long_uses us bs' cs' es' os ns h in (ap suc r.0, ap suc r.1)

  -- each volume that is used has its own, where there are as many
  pub made_of : (uses : List Bool) (bs cs : List A) (es : List E) (olds news : List V) → AreMade is uses bs cs es olds news → length es ≡ uses_of uses → (v : ℕ) (old new : V) (e : E) → v < length olds → get_or uses v false ≡ true
      → (b : A) × (a : A) × is b a (get_or es (uses_of (drop (v + 1) uses)) e) (get_or olds v old) (get_or news v new)
  made_of [] bs cs es [] [] h many v old new e low used = absurd (omega (arith, low))
  made_of [] bs cs es [] (n ∷ ns) h many v old new e low used = absurd h
  made_of [] bs cs es (o ∷ os) ns h many v old new e low used = absurd h
  made_of (u ∷ us) bs cs es [] ns h many v old new e low used = absurd h
  made_of (u ∷ us) bs cs es (o ∷ os) [] h many v old new e low used = absurd h
  made_of (u ∷ us) bs cs es (o ∷ os) (n ∷ ns) (inl h) many zero old new e low used =
      let few = made_few is us bs cs es os ns h.1 in
      let one = one_is u used in
      absurd (omega (arith, few, many, one, uses_cons u us))
  made_of (u ∷ us) bs cs es (o ∷ os) (n ∷ ns) (inl h) many (suc v) old new e low used =
      let few = made_few is us bs cs es os ns h.1 in
      let r = made_of us bs cs es os ns h.1 (omega (arith, few, many, uses_cons u us)) v old new e (omega (arith, low)) used in
      let here : uses_of (drop (suc v + 1) (u ∷ us)) ≡ uses_of (drop (v + 1) us) = ap uses_of (drop_suc (suc v) u us) ∙ ap (λ (k : ℕ). uses_of (drop k us)) (let is : suc v ≡ v + 1 = omega arith in is) in
      (r.0, r.1, subst (λ (p : ℕ). is r.0 r.1 (get_or es p e) (get_or os v old) (get_or ns v new)) (sym here) r.2)
  made_of (u ∷ us) bs cs es (o ∷ os) (n ∷ ns) (inr (is_used, bs', cs', es', last, h)) many zero old new e low used =
      let more = ap length last.entries ∙ length_push es' last.entry in
      let one = one_is u is_used in
      let here : uses_of (drop (0 + 1) (u ∷ us)) ≡ length es' = ap uses_of (drop_suc 0 u us) ∙ (omega (arith, many, more, one, uses_cons u us)) in
      (last.before, last.after, subst (λ (x : E). is last.before last.after x o n) (sym (at_last es es' last.entry e (uses_of (drop (0 + 1) (u ∷ us))) last.entries here)) last.made)
  made_of (u ∷ us) bs cs es (o ∷ os) (n ∷ ns) (inr (is_used, bs', cs', es', last, h)) many (suc v) old new e low used =
      let more = ap length last.entries ∙ length_push es' last.entry in
      let one = one_is u is_used in
      let all : length es' ≡ uses_of us = omega (arith, many, more, one, uses_cons u us) in
      let r = made_of us bs' cs' es' os ns h all v old new e (omega (arith, low)) used in
      let here : uses_of (drop (suc v + 1) (u ∷ us)) ≡ uses_of (drop (v + 1) us) = ap uses_of (drop_suc (suc v) u us) ∙ ap (λ (k : ℕ). uses_of (drop k us)) (let is : suc v ≡ v + 1 = omega arith in is) in
      let long = made_long_uses us bs' cs' es' os ns h in
      let below = place_low us v (omega (arith, low, long.0)) used in
      let p = uses_of (drop (v + 1) us) in
      let same : get_or es (uses_of (drop (suc v + 1) (u ∷ us))) e ≡ get_or es' p e = ap (λ (k : ℕ). get_or es k e) here ∙ at_first es es' last.entry e p last.entries (omega (arith, below, all)) in
      (r.0, r.1, subst (λ (x : E). is r.0 r.1 x (get_or os v old) (get_or ns v new)) (sym same) r.2)
