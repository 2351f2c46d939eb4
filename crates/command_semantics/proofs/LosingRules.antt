-- Stacks that lost what was not flushed have the names that they had.
use Rattle.std.proofs.Common.{◌≡◌, ℕ, ◌+◌, List, [], ◌∷◌, map, refl, sym, ap, ◌∙◌, arith}
use Rattle.std.specs.List.{sum_by}
use Rattle.std.proofs.lemmas.List.Sums.{sum_by-cons}
use Rattle.command_semantics.specs.State.{Stacked, Table}
use Rattle.command_semantics.specs.Naming.{stack_sum, volume_sum, AreNamed}
use Rattle.command_semantics.specs.Losing.{Lasting, lasting, HaveLost}
use Rattle.command_semantics.proofs.NamedFrames.{no_more_named}

-- the sum over names, by what lasts
lasting_sum : (f : List ℕ → ℕ) (ss : List Stacked) → sum_by (stack_sum f) ss ≡ sum_by (λ (l : Lasting). sum_by f l.names) (map lasting ss)
lasting_sum f [] = refl
lasting_sum f (s ∷ ss) = sum_by-cons (stack_sum f) s ss ∙ ap (λ n. sum_by f s.names + n) (lasting_sum f ss) ∙ sym (sum_by-cons (λ (l : Lasting). sum_by f l.names) (lasting s) (map lasting ss))

pub lost_named : (count : ℕ) (old new : Table) → HaveLost count old new → AreNamed old → AreNamed new
lost_named count old new lost named =
    no_more_named old new (λ f.
    let before = lasting_sum f old.stacks in
    let after = lasting_sum f new.stacks in
    let same = ap (sum_by (λ (l : Lasting). sum_by f l.names)) lost.lost in
    let others = ap (sum_by (volume_sum f)) lost.volumes in
    omega (arith, before, after, same, others)) named
