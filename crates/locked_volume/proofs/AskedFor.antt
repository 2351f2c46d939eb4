-- Which entries of a journal are new, and that they were asked for.
use Rattle.std.proofs.Common.{◌≡◌, ◌⊎◌, inl, inr, ℕ, Bool, List, [], ◌∷◌, ◌++◌, map, sym, ap, ◌∙◌}
use Rattle.std.specs.List.{All}
use Rattle.std.proofs.lemmas.List.{append_cancel_left}
use Rattle.std.proofs.lemmas.List.Elements.{All-append, All-map, All-nil, All-push, All-same}
use Rattle.audited_volume.specs.declared.entry.Entry.{Entry}
use Rattle.audited_volume.specs.declared.entry.Entry.TheVariants.{Overflowed, Spoiled}
use Rattle.audited_volume.specs.Books.{AuditShape}
use Rattle.audited_volume.specs.PlacesTaken.{HasOverflowed, OnlySpoils}
use Rattle.plain_machine.specs.declared.request.Request.{Request}
use Rattle.locked_volume.specs.declared.rule.View.{View}
use Rattle.locked_volume.specs.AskedFor.{AddsAskedFor, IsAskedFor}
use Rattle.locked_volume.specs.Posts.{with_more}
use Rattle.locked_volume.proofs.Fresh.{fresh_in, fresh_is}

module _ (merges : ℕ → Bool) where
  pub none_asked : All (IsAskedFor merges) []
  none_asked = All-nil (IsAskedFor merges)

  pub one_asked : (all : List Entry) (e : Entry) → All (IsAskedFor merges) all → IsAskedFor merges e → All (IsAskedFor merges) (all ++ e ∷ [])
  one_asked = All-push (IsAskedFor merges)

  -- what a volume notes itself
  pub spoils_asked : (which : List ℕ) → All (IsAskedFor merges) (map Spoiled which)
  spoils_asked which = All-map (IsAskedFor merges) Spoiled which (λ k d low. tt)

  pub noted_asked : {B : Type 0} (request : Request) (old new : AuditShape B) (more : List Entry) → OnlySpoils old new ⊎ HasOverflowed request old new → new.entries ≡ old.entries ++ more → All (IsAskedFor merges) more
  noted_asked request old new more (inl spoils) are = All-same (IsAskedFor merges) more (map Spoiled spoils.which) (append_cancel_left old.entries more _ (sym are ∙ spoils.entries)) (spoils_asked spoils.which)
  noted_asked request old new more (inr mark) are =
      All-same (IsAskedFor merges) more (Overflowed mark.number ∷ []) (append_cancel_left old.entries more _ (sym are ∙ mark.entries)) (one_asked [] (Overflowed mark.number) none_asked tt)

  -- the keeper was told what is new
  pub more_asked : (v w : View) (es fs old new more : List Entry) → w ≡ with_more (fresh_in es fs) v → es ≡ new → fs ≡ old → new ≡ old ++ more → All (IsAskedFor merges) v.all → All (IsAskedFor merges) more → All (IsAskedFor merges) w.all
  more_asked v w es fs old new more told is was now all fresh =
      All-same (IsAskedFor merges) w.all (v.all ++ more) (ap (λ (x : View). x.all) told ∙ ap (λ (l : List Entry). v.all ++ l) (fresh_is es fs old new more is was now))
      (All-append (IsAskedFor merges) v.all more all fresh)

  -- all entries that the keeper knows are those behind the start
  pub adds_asked : (start all entries : List Entry) → entries ≡ start ++ all → All (IsAskedFor merges) all → AddsAskedFor merges start entries
  adds_asked start all entries are asked more is = All-same (IsAskedFor merges) more all (append_cancel_left start more all (sym is ∙ are)) asked
