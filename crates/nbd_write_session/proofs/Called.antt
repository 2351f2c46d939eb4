-- Calls of an array, one after the other.
use Rattle.std.proofs.Common.{◌≡◌, List, [], ◌∷◌, ◌++◌, Result, Ok, Err, OnErr, refl, ap, ◌∙◌, sym, subst, append_assoc}
use Rattle.nbd_backend.specs.Calls.{Call, Called, CallsTo}
use Rattle.nbd_write_session.specs.Reached.{Reaches}

module _ {S : Type 0} (does : Call → S → S → Type 0) where
  pub called_then : (a b c : S) (k l : List Call) → Called does a k b → Called does b l c → Called does a (l ++ k) c
  called_then a b c k [] first same = let P : S → Type 0 = λ s. Called does a k s in subst P (sym same) first
  called_then a b c k (call ∷ l) first (between, so, last) = (between, called_then a b between k l first so, last)

  pub calls_none : (a b : S) (P : List Call → List Call → Type 0) → b ≡ a → ((calls : List Call) → P calls calls) → CallsTo does a b P
  calls_none a b P same is = ([], same, is)

  pub calls_one : (a b : S) (P : List Call → List Call → Type 0) (call : Call) → does call a b → ((calls : List Call) → P calls (call ∷ calls)) → CallsTo does a b P
  calls_one a b P call so is = (call ∷ [], (a, refl, so), is)

  pub calls_under : (a b : S) (P Q : List Call → List Call → Type 0) → ((k l : List Call) → P k l → Q k l) → CallsTo does a b P → CallsTo does a b Q
  calls_under a b P Q under (k, so, is) = (k, so, λ calls. under calls (k ++ calls) (is calls))

  pub calls_then : (a b c : S) (P Q R : List Call → List Call → Type 0) → ((k l m : List Call) → P k l → Q l m → R k m) → CallsTo does a b P → CallsTo does b c Q → CallsTo does a c R
  calls_then a b c P Q R both (k, first, p) (l, second, q) =
      (l ++ k, called_then a b c k l first second, λ calls. subst (R calls) (sym (append_assoc l k calls)) (both calls (k ++ calls) (l ++ (k ++ calls)) (p calls) (q (k ++ calls))))

  -- where nothing is said of the calls
  pub reaches_one : (a b : S) (call : Call) → does call a b → Reaches does a b
  reaches_one a b call so = (call ∷ [], (a, refl, so))

  pub reaches_by : (a b : S) (More : List Call → Type 0) → ((calls : List Call) × Called does a calls b × More calls) → Reaches does a b
  reaches_by a b More (k, so, is) = (k, so)

  pub reaches_then : (a b c : S) → Reaches does a b → Reaches does b c → Reaches does a c
  reaches_then a b c (k, first) (l, second) = (l ++ k, called_then a b c k l first second)

  -- the same of an error
  pub reaches_at : {T E : Type 0} (result : Result T E) (a b : S) → Reaches does a b → OnErr result (Reaches does a b)
  reaches_at (Ok x) a b so = tt
  reaches_at (Err e) a b so = so

  pub reaches_behind : {T E : Type 0} (result : Result T E) (a b c : S) → Reaches does a b → OnErr result (Reaches does b c) → OnErr result (Reaches does a c)
  reaches_behind (Ok x) a b c first second = tt
  reaches_behind (Err e) a b c first second = reaches_then a b c first second
