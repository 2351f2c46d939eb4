-- What a client sends has one answer.
use Rattle.std.proofs.Common.{◌≡◌, ℕ, List, [], ◌∷◌, ◌++◌, Option, None, Some, refl, ap, ◌∙◌, sym, subst}
use Rattle.std.proofs.lemmas.List.{append_cancel_left}
use Rattle.nbd_options.specs.declared.export.Export.{Export}
use Rattle.nbd_read_session.specs.declared.served.Fault.{Fault}
use Rattle.nbd_read_session.specs.declared.served.Fault.TheVariants.{Io, NoMemory}
use Rattle.nbd_options.specs.declared.session.Session.{Session}
use Rattle.nbd_options.specs.declared.session.Stage.{Stage}
use Rattle.nbd_options.specs.declared.session.Stage.TheVariants.{Opening, Haggling, Serving, Over}
use Rattle.nbd_options.specs.Haggled.{Reaction}
use Rattle.nbd_read_session.specs.Talk.{Talk, Turn, HaveMemory, NoneFails, NoneIsWhole, IsWhole, IsCaused, reaction}
use Rattle.nbd_read_session.proofs.Wholes.{one_message}
use Rattle.nbd_read_session.specs.Blocks.{Array}

-- no fault without a cause
no_fault_at : (may_fail : ℕ → ℕ → ℕ → Type 0) (export : ℕ) (fault : Option Fault) (request : Rattle.nbd_messages.specs.declared.request.Request.Request) → NoneFails may_fail → Rattle.nbd_read_session.specs.Replied.HasCause may_fail export fault request → (fault ≡ Some NoMemory → ⊥) → fault ≡ None
no_fault_at may_fail export None request never cause memory = refl
no_fault_at may_fail export (Some Io) request never cause memory = let (at, n, from, to, fails) = cause refl in absurd (never export at n fails)
no_fault_at may_fail export (Some NoMemory) request never cause memory = absurd (memory refl)

no_fault : (may_fail : ℕ → ℕ → ℕ → Type 0) (stage : Stage) (message : List ℕ) (fault : Option Fault) → NoneFails may_fail → IsCaused may_fail stage message fault → (fault ≡ Some NoMemory → ⊥) → fault ≡ None
no_fault may_fail Opening message fault never cause memory = cause
no_fault may_fail Haggling message fault never cause memory = cause
no_fault may_fail (Serving place) message fault never (request, is, cause) memory = no_fault_at may_fail place.export fault request never cause memory
no_fault may_fail Over message fault never cause memory = cause

pub one_answer_is : (exports : List Export) (arrays : ℕ → Array) (may_fail : ℕ → ℕ → ℕ → Type 0) (session : Session) (heard said said' : List ℕ) (turns turns' : List Turn) → NoneFails may_fail → Talk exports arrays may_fail session heard said turns → Talk exports arrays may_fail session heard said' turns' → HaveMemory turns → HaveMemory turns' → said ≡ said'
one_answer_is exports arrays may_fail session heard said said' [] [] never talk talk' good good' = talk.1 ∙ sym talk'.1
one_answer_is exports arrays may_fail session heard said said' [] (turn' ∷ turns') never talk (rest', more', whole', heard_is', said_is', later', cause') good good' = absurd (talk.0 turn'.message rest' heard_is' whole')
one_answer_is exports arrays may_fail session heard said said' (turn ∷ turns) [] never (rest, more, whole, heard_is, said_is, later, cause) talk' good good' = absurd (talk'.0 turn.message rest heard_is whole)
one_answer_is exports arrays may_fail session heard said said' (turn ∷ turns) (turn' ∷ turns') never (rest, more, whole, heard_is, said_is, later, cause) (rest', more', whole', heard_is', said_is', later', cause') good good' =
    let one : turn.message ≡ turn'.message = one_message session.stage turn.message rest turn'.message rest' (sym heard_is ∙ heard_is') whole whole' in
    let left : rest' ≡ rest = append_cancel_left turn.message rest' rest (ap (λ (l : List ℕ). l ++ rest') one ∙ sym heard_is' ∙ heard_is) in
    let none : turn.fault ≡ None = no_fault may_fail session.stage turn.message turn.fault never cause good.0 in
    let none' : turn'.fault ≡ None = no_fault may_fail session.stage turn'.message turn'.fault never cause' good'.0 in
    let faults : turn'.fault ≡ turn.fault = none' ∙ sym none in
    let same : reaction exports arrays session turn'.fault turn'.message ≡ reaction exports arrays session turn.fault turn.message =
    ap (λ (f : Option Fault). reaction exports arrays session f turn'.message) faults ∙ ap (reaction exports arrays session turn.fault) (sym one) in
    let later'' : Talk exports arrays may_fail (reaction exports arrays session turn.fault turn.message).after rest more' turns' =
    subst (λ (r : Reaction). Talk exports arrays may_fail r.after rest more' turns') same (subst (λ (l : List ℕ). Talk exports arrays may_fail (reaction exports arrays session turn'.fault turn'.message).after l more' turns') left later') in
    let next : more ≡ more' = one_answer_is exports arrays may_fail (reaction exports arrays session turn.fault turn.message).after rest more more' turns turns' never later later'' good.1 good'.1 in
    said_is ∙ ap (λ (l : List ℕ). (reaction exports arrays session turn.fault turn.message).answer ++ l) next ∙ ap (λ (r : Reaction). r.answer ++ more') (sym same) ∙ sym said_is'
