-- A record of no calls is a struct of no bytes.
use Rattle.std.proofs.Common.{[], ◌∷◌, refl}
use Rattle.std.proofs.raw_atomic.Walks.{proved}
use Rattle.file_calls.specs.contracts.record.Record.new as f
use base.Fml.{ftrue}
use mir.Val.{Val, vstruct, vcons, vnil}
use types.Kit.{‵, ◌⊛◌, ◌$◌, ◌∵◌, !, qed, done, keep, suffices}
use types.Part.{agg}
use types.Run.{enter, no_more, and_then, returns}
use types.ByLocal.{alloc_all, pass_all, free_all, look_at, get, sets}
use denote.Shadow.{pure_i}
use denote.Steps.{nothing}
use denote.Triple.Walked.{Stays, walk_of, says, ends_at}
use Rattle.file_calls.specs.declared.record.Record.{Record}
use Rattle.file_calls.specs.contracts.record.Record.{the_row as R}
use Rattle.file_calls.proofs.record.Record.new.Statement.{statement}
use Rattle.file_calls.proofs.record.Record.new.Code as code

abbrev stayed : Stays f.ended.signature.params f.ended.kept
stayed = tt

pub new_spec : {M : Type 1} → statement M
new_spec 𝓤 𝓛 𝓜 𝓡 wired =
    let c = f.clauses 𝓛 𝓜.mem 𝓡.returns in
    proved 𝓛 f.ended stayed c 𝓜 𝓡 tt f.Key.name code.function (code.unfolded 𝓤 𝓛.H 𝓜 𝓡 wired) (λ κs. tt) (λ κs. tt) (λ κs qs bounds a _ are.
    let W = walk_of 𝓛 f.ended stayed c in
    let y : W.Ghost = ((κs, qs, bounds, a, tt), tt) in
    let none : Record = record { marker = record {}; notes = [] } in
    let bits : Val = vstruct (vcons (vstruct vnil) vnil) in
    qed 𝓛 ((‵ ftrue ⊛ ‵ ftrue) ∷ ‵ ftrue ∷ []) ∵ keep ! [] $
    enter ! _ _ _ _ _ $ alloc_all ! (λ l. pass_all ! refl tt $
    sets ! (agg ! (no_more !)) refl (tt, tt) $ sets ! (agg ! (and_then ! (get ! refl) (no_more !))) refl (tt, (tt, tt)) $
    returns ! (look_at ! 0 refl) $ free_all ! refl $
    suffices ! _ (ends_at 𝓛 f.ended stayed c y bits none tt tt) $ says ! refl $
    pure_i ! (R.own_val none (bits ∷ [])) ((λ _. (tt, ((λ _. (tt, tt)), tt))), tt) (((vstruct vnil ∷ [], tt), (refl, ((tt, (refl, tt)), tt))), tt) $ nothing ! $ nothing ! $ done !))
