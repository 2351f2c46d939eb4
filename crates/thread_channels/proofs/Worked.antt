-- Copies done one after another.
use Rattle.std.proofs.Common.{List, [], ◌∷◌, ◌++◌, map, refl, sym, ◌∙◌, subst, append-nil, append_assoc}
use Rattle.std.proofs.lemmas.List.{map-append}
use Rattle.thread_channels.specs.Passes.{Passed}
use Rattle.thread_channels.specs.declared.ticket.Ticket.TheVariants.{Copy}
use Rattle.thread_channels.specs.declared.ticket.PendingCopy.{PendingCopy}
use Rattle.thread_channels.specs.Working.{AreDone, HasDone, HasWorked}

module _ {C : Type 0} (does : C → PendingCopy → C → Type 0) where
  -- one copy more is done at the end
  done_more : (copies : List PendingCopy) (copy : PendingCopy) (c d e : C) → AreDone does copies c d → does d copy e → AreDone does (copies ++ copy ∷ []) c e
  done_more [] copy c d e done one = (e, subst (λ x. does x copy e) (sym done) one, refl)
  done_more (x ∷ xs) copy c d e done one = (done.0, done.1, done_more xs copy done.0 d e done.2 one)

  -- before the first ticket
  pub worked_none : (p : Passed) (c : C) → HasWorked does p c p c
  worked_none p c = ([], [], refl, rw (append-nil p.put, append-nil p.taken) refl)

  -- one ticket more
  pub worked_more : (p : Passed) (c : C) (q : Passed) (d : C) (r : Passed) (e : C) → HasWorked does p c q d → HasDone does q d r e → HasWorked does p c r e
  worked_more p c q d r e (copies, more, done, q_is) (copy, one, (others, r_is)) = (
    copies ++ copy ∷ [],
    more ++ others,
    done_more copies copy c d e done one,
    r_is ∙ rw (q_is, map-append Copy copies (copy ∷ []), append_assoc p.put more others, append_assoc p.taken (map Copy copies) (Copy copy ∷ [])) refl,
  )
