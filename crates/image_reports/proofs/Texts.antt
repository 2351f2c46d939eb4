-- Texts that are added one by one.
use Rattle.std.proofs.Common.{◌≡◌, ℕ, ◌+◌, ◌<◌, List, ◌++◌, length, get_or, take, sym, ap, ◌∙◌}
use Rattle.std.specs.Prelude.{Result, Ok, Err, OnOk, flat_map, if◌then◌else◌}
use Rattle.std.specs.Result.{is_ok}
use Rattle.std.proofs.lemmas.List.{take_more, flat_map_more}

-- the last text is added, or memory is refused
pub added : {T E : Type 0} (r : Result T E) (new all old : List ℕ) → new ≡ (if is_ok r then all else old) → OnOk r (new ≡ all)
added (Ok x) new all old is = is
added (Err e) new all old is = tt

-- a text more, of a list
pub one_more_text : {X : Type 0} (f : X → List ℕ) (told before after : List ℕ) (xs : List X) (k : ℕ) (d : X) → k < length xs → before ≡ told ++ flat_map f (take k xs) → after ≡ before ++ f (get_or xs k d) → after ≡ told ++ flat_map f (take (k + 1) xs)
one_more_text f told before after xs k d lt is more =
    more ∙ ap (λ ys. ys ++ f (get_or xs k d)) is ∙ flat_map_more f told (take k xs) (get_or xs k d) ∙ ap (λ ys. told ++ flat_map f ys) (sym (take_more xs k d lt))
