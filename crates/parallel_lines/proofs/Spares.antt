-- Volumes at which no line was run.
use Rattle.std.proofs.Common.{◌≡◌, inl, inr, ℕ, ◌+◌, ◌<◌, Bool, List, [], ◌∷◌, ◌++◌, length, refl, sym, ap, ◌∙◌, subst, arith}
use Rattle.std.specs.Prelude.{Err, Ok, OnErr, Result}
use Rattle.std.proofs.lemmas.List.{append_cancel_left, append-nil, length_push}
use Rattle.layers.specs.declared.stack.Stack.{Stack}
use Rattle.audited_volume.specs.declared.entry.Answered.{Answered}
use Rattle.audited_volume.specs.Books.{AuditShape}
use Rattle.audited_volume.specs.Entries.{entries_by}
use Rattle.command_semantics.specs.State.{Volume}
use Rattle.parallel_lines.specs.Played.{Story}
use Rattle.parallel_lines.specs.Spared.{AreSpared, NoneAdded}
use Rattle.parallel_lines.specs.Taking.{IsMade}
use Rattle.parallel_lines.proofs.Made.{AreMade, at_first, at_last, made_long}

-- what is so in any case is so where there is an error
pub on_error : {T E : Type 0} (P : Type 0) (r : Result T E) → P → OnErr r P
on_error P (Ok x) p = tt
on_error P (Err e) p = p

-- nothing was done
pub all_spared : (volumes : List Volume) → AreSpared volumes volumes
all_spared [] = tt
all_spared (v ∷ vs) = (inl refl, all_spared vs)

pub same_spared : (old new : List Volume) → new ≡ old → AreSpared old new
same_spared old new same = subst (AreSpared old) (sym same) (all_spared old)

pub none_added : (audits : List (AuditShape Stack)) → NoneAdded audits audits
none_added audits seat k d some few low = refl

nothing_behind : (xs ys : List Answered) → xs ++ ys ≡ xs → ys ≡ []
nothing_behind xs ys e = append_cancel_left xs ys [] (e ∙ sym (append-nil xs))

-- what was made of volumes to whose journals no seat added
pub made_spared : (uses : List Bool) (befores afters : List (AuditShape Stack)) (entries : List Story) (olds news : List Volume) → AreMade IsMade uses befores afters entries olds news → NoneAdded befores afters
    → AreSpared olds news
made_spared [] bs cs es [] [] h none = tt
made_spared [] bs cs es [] (n ∷ ns) h none = absurd h
made_spared [] bs cs es (o ∷ os) ns h none = absurd h
made_spared (u ∷ us) bs cs es [] ns h none = absurd h
made_spared (u ∷ us) bs cs es (o ∷ os) [] h none = absurd h
made_spared (u ∷ us) bs cs es (o ∷ os) (n ∷ ns) (inl h) none = (inl h.0, made_spared us bs cs es os ns h.1 none)
made_spared (u ∷ us) bs cs es (o ∷ os) (n ∷ ns) (inr (used, bs', cs', es', last, h)) none =
    let long = made_long IsMade us bs' cs' es' os ns h in
    let many : length bs ≡ length bs' + 1 = ap length last.befores ∙ length_push bs' last.before in
    let k = length bs' in
    let d = last.before in
    let same : (s : ℕ) → 0 < s → s < 9 → entries_by s last.after.entries ≡ entries_by s last.before.entries =
    λ s some few. ap (λ (a : AuditShape Stack). entries_by s a.entries) (sym (at_last cs cs' last.after d k last.afters (omega (arith, long.0, long.1))))
    ∙ none s k d some few (omega (arith, many)) ∙ ap (λ (a : AuditShape Stack). entries_by s a.entries) (at_last bs bs' last.before d k last.befores refl) in (
      inr (last.entry, last.made.played, λ s some few. nothing_behind (entries_by s last.before.entries) (entries_by s last.entry.entries) (sym (last.made.added s) ∙ same s some few)),
      made_spared us bs' cs' es' os ns h
          (λ s j e some few low.
          ap (λ (a : AuditShape Stack). entries_by s a.entries) (sym (at_first cs cs' last.after e j last.afters (omega (arith, low, long.0, long.1))))
          ∙ none s j e some few (omega (arith, low, many)) ∙ ap (λ (a : AuditShape Stack). entries_by s a.entries) (at_first bs bs' last.before e j last.befores low)),
    )
