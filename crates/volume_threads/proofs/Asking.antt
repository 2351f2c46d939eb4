-- One call of a seat at one of its volumes.
use Rattle.std.proofs.Common.{◌≡◌, ◌==◌, ◌<◌, ℕ, Bool, true, false, List, [], ◌++◌, length, set, get_or, refl, sym, ap, ◌∙◌, subst, Result, Ok, Err, IfErr, IfOk}
use Rattle.std.proofs.lemmas.Bool.{eqb-true, eqb-false}
use Rattle.std.proofs.lemmas.List.{get_or-set_same, get_or-set_other, length-set}
use Rattle.thread_channels.specs.BoardPasses.{Seen}
use Rattle.audited_volume.specs.declared.entry.Receipt.{Receipt}
use Rattle.sector.specs.declared.refusal.Refusal.{Refusal}
use Rattle.locked_volume.specs.Keeping.{Begins}
use Rattle.locked_volume.proofs.Begins.{begins_as, begins_in}
use Rattle.audited_volume.specs.declared.entry.Entry.{Entry}
use Rattle.locked_volume.specs.Denying.{Wish, WasDenied}
use Rattle.locked_volume.specs.Fixed.{Fixed}
use Rattle.volume_threads.specs.Rigs.{AreIdle, HasAdded, IsIdle, seen_at}
use Rattle.volume_threads.specs.Sittings.{SittingShape}

-- the seat is idle at each volume still
pub idle_still : (number volume : ℕ) (ss : List SittingShape) (now : SittingShape) → volume < length ss → AreIdle number ss → IsIdle number volume now → AreIdle number (set ss volume now)
idle_still number volume ss now within idle is k d low = go (k == volume) refl
  where
    go : (b : Bool) → k == volume ≡ b → IsIdle number k (get_or (set ss volume now) k d)
    go true e =
        let same = eqb-true k volume e in
        subst (λ n. IsIdle number n (get_or (set ss volume now) n d)) (sym same) (subst (IsIdle number volume) (sym (get_or-set_same ss volume now d within)) is)
    go false e =
        subst (IsIdle number k) (sym (get_or-set_other ss volume k now d (eqb-false k volume e))) (idle k d (subst (λ n. k < n) (length-set ss volume now) low))

pub added_at : (number volume : ℕ) (watches : List (List Seen)) (more : List Receipt) (ss : List SittingShape) (now : SittingShape) → volume < length ss
    → ((d : SittingShape) → now.receipts ≡ (get_or ss volume d).receipts ++ more) → ((d : SittingShape) → Begins (get_or ss volume d).seen now.seen)
    → HasAdded volume more (record { number = number; sittings = ss; watches = watches }) (record { number = number; sittings = set ss volume now; watches = watches })
added_at number volume watches more ss now within grows later = record {
  number = refl;
  here = ap (λ (s : SittingShape). s.receipts) (get_or-set_same ss volume now _ within) ∙ grows _;
  others = λ k apart. ap (λ (s : SittingShape). s.receipts) (get_or-set_other ss volume k now _ apart);
  later = λ k. seen_more k (k == volume) refl;
  watches = refl;
}
  where
    nothing : ℕ → SittingShape
    nothing k = record { volume = k; seat = number; receipts = []; waits = []; seen = []; room = 0 }

    seen_more : (k : ℕ) (b : Bool) → k == volume ≡ b → Begins (get_or ss k (nothing k)).seen (get_or (set ss volume now) k (nothing k)).seen
    seen_more k true e =
        subst (λ n. Begins (get_or ss n (nothing n)).seen (get_or (set ss volume now) n (nothing n)).seen) (sym (eqb-true k volume e))
        (begins_in _ now.seen _ (later (nothing volume)) (ap (λ (s : SittingShape). s.seen) (get_or-set_same ss volume now (nothing volume) within)))
    seen_more k false e = begins_as _ _ (ap (λ (s : SittingShape). s.seen) (get_or-set_other ss volume k now (nothing k) (eqb-false k volume e)))

-- what the seat has seen there, and what was denied by it
pub seen_now : (number volume : ℕ) (watches : List (List Seen)) (ss : List SittingShape) (now : SittingShape) → volume < length ss → seen_at (record { number = number; sittings = set ss volume now; watches = watches }) volume ≡ now.seen
seen_now number volume watches ss now within = ap (λ (s : SittingShape). s.seen) (get_or-set_same ss volume now _ within)

pub denied_as : (start : ℕ → List Entry) (fixed : ℕ → Fixed) (wish : Wish) (refusal : Refusal) (v w : ℕ) (seen now : List Entry) → v ≡ w → seen ≡ now → WasDenied (start v) (fixed v) seen wish refusal → WasDenied (start w) (fixed w) now wish refusal
denied_as start fixed wish refusal v w seen now same is h = subst (λ (x : ℕ × List Entry). WasDenied (start x.0) (fixed x.0) x.1 wish refusal) (λ i. (same i, is i)) h

-- what an Ok says
pub ok_mapped : {A E : Type 0} (P Q : A → Type 0) (r : Result A E) → ((x : A) → P x → Q x) → IfOk r P → IfOk r Q
ok_mapped P Q (Ok x) f h = f x h
ok_mapped P Q (Err e) f h = tt

pub err_mapped : {A E : Type 0} (P Q : E → Type 0) (r : Result A E) → ((e : E) → P e → Q e) → IfErr r P → IfErr r Q
err_mapped P Q (Ok x) f h = tt
err_mapped P Q (Err e) f h = f e h
