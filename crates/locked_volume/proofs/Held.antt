-- A seat's requests in flight, as requests come and go.
use Rattle.std.proofs.Common.{◌≡◌, ◌≢◌, ℕ, ◌==◌, Bool, true, false, if◌then◌else◌, List, [], ◌∷◌, ◌++◌, Option, Some, None, refl, sym, ap, ◌∙◌, eq-eqb}
use Rattle.std.proofs.lemmas.Bool.{ne_eqb}
use Rattle.audited_volume.specs.Seats.{Seated, seated_under, without_seated}
use Rattle.locked_volume.specs.Keeping.{held_by}

in_front : (b : Bool) (a : Seated) (xs ys : List Seated) → (if b then (a ∷ (xs ++ ys)) else (xs ++ ys)) ≡ (if b then (a ∷ xs) else xs) ++ ys
in_front true a xs ys = refl
in_front false a xs ys = refl

pub held_by-append : (n : ℕ) (es fs : List Seated) → held_by n (es ++ fs) ≡ held_by n es ++ held_by n fs
held_by-append n [] fs = refl
held_by-append n (a ∷ es) fs = ap (λ x. if a.seat == n then (a ∷ x) else x) (held_by-append n es fs) ∙ in_front (a.seat == n) a (held_by n es) (held_by n fs)

pub held_mine : (n : ℕ) (a : Seated) → a.seat ≡ n → held_by n (a ∷ []) ≡ a ∷ []
held_mine n a same = ap (λ b. if b then (a ∷ []) else []) (eq-eqb a.seat n same)

pub held_other : (n : ℕ) (a : Seated) → a.seat ≢ n → held_by n (a ∷ []) ≡ []
held_other n a apart = ap (λ b. if b then (a ∷ []) else []) (ne_eqb a.seat n apart)

-- how the front of a list falls out, by two tests: whether it has the number, and whether it is the seat's
abbrev under_if : Bool → Seated → Option Seated → Option Seated
under_if b y rest = if b then Some y else rest

abbrev held_if : Bool → Seated → List Seated → List Seated
held_if b y rest = if b then (y ∷ rest) else rest

some_is : (y x : Seated) → Some y ≡ Some x → y ≡ x
some_is y x e = ap (λ o. or_else o) e
  where
    or_else : Option Seated → Seated
    or_else (Some z) = z
    or_else None = y

none_is : {C : Type 0} (x : Seated) → None ≡ Some x → C
none_is x e = absurd (let h : None ≡ Some x = e in cc)

-- the seat's request under a number is the one under it among the seat's own
pub under_held : (n s : ℕ) (xs : List Seated) (x : Seated) → seated_under n xs ≡ Some x → x.seat ≡ s → seated_under n (held_by s xs) ≡ Some x
under_held n s [] x e mine = none_is x e
under_held n s (y ∷ ys) x e mine = go (λ f. under_held n s ys x f mine) (y.number == n) (y.seat == s) refl refl e
  where
    seat_is : (b : Bool) → y.seat == s ≡ b → y ≡ x → b ≡ true
    seat_is b at same = sym at ∙ eq-eqb y.seat s (ap (λ (z : Seated). z.seat) same ∙ mine)

    go : (seated_under n ys ≡ Some x → seated_under n (held_by s ys) ≡ Some x) → (a b : Bool) → y.number == n ≡ a → y.seat == s ≡ b → under_if a y (seated_under n ys) ≡ Some x
        → seated_under n (held_if b y (held_by s ys)) ≡ Some x
    go ih true true at by f = ap (λ (c : Bool). under_if c y (seated_under n (held_by s ys))) at ∙ f
    go ih true false at by f = absurd (let h : false ≡ true = seat_is false by (some_is y x f) in cc)
    go ih false true at by f = ap (λ (c : Bool). under_if c y (seated_under n (held_by s ys))) at ∙ ih f
    go ih false false at by f = ih f

-- where a seat's request leaves, it leaves the seat's own
pub without_mine : (n s : ℕ) (xs : List Seated) (x : Seated) → seated_under n xs ≡ Some x → x.seat ≡ s → held_by s (without_seated n xs) ≡ without_seated n (held_by s xs)
without_mine n s [] x e mine = none_is x e
without_mine n s (y ∷ ys) x e mine = go (λ f. without_mine n s ys x f mine) (y.number == n) (y.seat == s) refl refl e
  where
    seat_is : (b : Bool) → y.seat == s ≡ b → y ≡ x → b ≡ true
    seat_is b at same = sym at ∙ eq-eqb y.seat s (ap (λ (z : Seated). z.seat) same ∙ mine)

    go : (seated_under n ys ≡ Some x → held_by s (without_seated n ys) ≡ without_seated n (held_by s ys)) → (a b : Bool) → y.number == n ≡ a → y.seat == s ≡ b → under_if a y (seated_under n ys) ≡ Some x
        → held_by s (if a then ys else (y ∷ without_seated n ys)) ≡ without_seated n (held_if b y (held_by s ys))
    go ih true true at by f = sym (ap (λ (c : Bool). if c then (held_by s ys) else (y ∷ without_seated n (held_by s ys))) at)
    go ih true false at by f = absurd (let h : false ≡ true = seat_is false by (some_is y x f) in cc)
    go ih false true at by f =
        ap (λ (c : Bool). held_if c y (held_by s (without_seated n ys))) by
        ∙ ap (λ (l : List Seated). y ∷ l) (ih f)
        ∙ sym (ap (λ (c : Bool). if c then (held_by s ys) else (y ∷ without_seated n (held_by s ys))) at)
    go ih false false at by f = ap (λ (c : Bool). held_if c y (held_by s (without_seated n ys))) by ∙ ih f

-- and no other's
pub without_other : (n s : ℕ) (xs : List Seated) (x : Seated) → seated_under n xs ≡ Some x → x.seat ≢ s → held_by s (without_seated n xs) ≡ held_by s xs
without_other n s [] x e apart = none_is x e
without_other n s (y ∷ ys) x e apart = go (λ f. without_other n s ys x f apart) (y.number == n) refl e
  where
    go : (seated_under n ys ≡ Some x → held_by s (without_seated n ys) ≡ held_by s ys) → (a : Bool) → y.number == n ≡ a → under_if a y (seated_under n ys) ≡ Some x → held_by s (if a then ys else (y ∷ without_seated n ys)) ≡ held_by s (y ∷ ys)
    go ih true at f = sym (ap (λ (c : Bool). held_if c y (held_by s ys)) (ne_eqb y.seat s (λ e. apart (sym (ap (λ (z : Seated). z.seat) (some_is y x f)) ∙ e))))
    go ih false at f = ap (λ (l : List Seated). held_if (y.seat == s) y l) (ih f)
