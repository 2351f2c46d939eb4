-- What is known of results, and of an error in place of a read's bytes.
use Rattle.std.proofs.Common.{◌≡◌, ℕ, ◌++◌, Bool, true, false, List, [], Ok, Err, OnOk, IfOk, MatchBool, ap, ◌∙◌}
use Rattle.std.specs.Prelude.{Result}
use Rattle.nbd_messages.specs.declared.request.Request.{Request}
use Rattle.nbd_messages.specs.Reading.{error_reply}

-- an error after nothing
pub error_alone : (old new : List ℕ) (s : Bool) (n m : ℕ) (req : Request) → new ≡ old ++ error_reply s n req → old ≡ [] → n ≡ m → new ≡ error_reply s m req
error_alone old new s n m req is none same = is ∙ ap (λ (l : List ℕ). l ++ error_reply s n req) none ∙ ap (λ (k : ℕ). error_reply s k req) same

pub on_ok : {T E : Type 0} (A B : Type 0) (r : Result T E) → (A → B) → OnOk r A → OnOk r B
on_ok A B (Ok x) f h = f h
on_ok A B (Err e) f h = h

pub if_went : {E : Type 0} (A B C : Type 0) (r : Result Bool E) → (A → B) → IfOk r (λ w. MatchBool w A C) → IfOk r (λ w. MatchBool w B C)
if_went A B C (Ok true) f h = f h
if_went A B C (Ok false) f h = h
if_went A B C (Err e) f h = h
