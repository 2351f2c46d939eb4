-- A request that goes somewhere is issued, where nothing else is under way; and what a volume that is at rest settles to.
use Rattle.std.proofs.Common.{◌≡◌, ℕ, ◌*◌, Bool, true, List, [], ◌∷◌, length, map, Option, Some, None, refl, ap, ◌∙◌, sym, subst, eq-eqb}
use Rattle.std.specs.Prelude.{◌==◌}
use Rattle.std.proofs.lemmas.Bool.{cond-true}
use Rattle.plain_machine.specs.declared.event.Event.TheVariants.{Issue}
use Rattle.plain_machine.specs.declared.request.Reply.{Reply}
use Rattle.in_flight.specs.Due.{is_routed}
use Rattle.whole_commands.specs.Devices.{Device}
use Rattle.whole_commands.specs.Pieces.{Answered}
use Rattle.event_machine.specs.Held.{SnapHeld, Going, MergeHeld, Moving}
use Rattle.event_machine.specs.Due.{due}
use Rattle.event_machine.specs.Stepping.{for_some, answer, issue}
use Rattle.event_machine.specs.Rest.{IsResting}
use Rattle.event_machine.specs.Settles.{SettlesTo}
use Rattle.event_machine.proofs.Lists.{same_number}
use Rattle.whole_commands.proofs.Each.{Each, each_weaker, all_from}
use Rattle.whole_command_laws.proofs.Goes.{no_start, Goes, goes_by, settled_there}
use Rattle.event_machine.proofs.Around.{at_with, IsIdle, due_request}
use Rattle.whole_command_laws.proofs.Primed.{resting_idle}
use Rattle.whole_commands.specs.Snaps.{Volume}

abbrev pub mine_of : Going → Going → Bool
mine_of r x = x.number == r.number

pub issued : (g : Option MergeHeld) (origin : Device) (snaps : List SnapHeld) (r : Going) (a : Option Reply) (k : ℕ) → Each IsIdle snaps → is_routed r.route ≡ true → Goes no_start (at_with g origin snaps (r ∷ []) a k) (issue r.route (mine_of r) r (at_with g origin snaps (r ∷ []) a k))
issued g origin snaps r a k idle routed =
    let v : Moving = at_with g origin snaps (r ∷ []) a k in
    goes_by v _ (Issue r.number) (due_request origin snaps (r ∷ []) a k idle (Some r.number) (cond-true _ _ _ routed)) tt
    (ap (λ o. for_some o (λ (x : Going). issue x.route (λ (y : Going). y.number == r.number) x v) v) (cond-true _ _ _ (same_number r.number (is_routed r.route) ∙ routed)))

pub answered_here : (g : Option MergeHeld) (origin : Device) (snaps : List SnapHeld) (r : Going) (reply : Reply) (a : Option Reply) (k : ℕ) → answer (mine_of r) reply (at_with g origin snaps (r ∷ []) a k) ≡ at_with g origin snaps [] (Some reply) k
answered_here g origin snaps r reply a k = ap (λ rs. at_with g origin snaps rs (Some reply) k) (cond-true _ _ _ (eq-eqb r.number r.number refl))

-- A volume beside a merge goes on to one at rest, whose devices, snapshots and reply are those of this answer.
pub record Serves (sectors : ℕ) (g : Option MergeHeld) (u : Moving) (answered : Answered Volume) : Type 0 where
  pub snaps : List SnapHeld
  pub started : ℕ
  pub goes : Goes no_start u (at_with g answered.state.origin snaps [] (Some answered.reply) started)
  pub whole : length answered.state.origin.bytes ≡ 512 * sectors
  pub rest : Each (IsResting sectors) snaps
  pub same : map (λ (h : SnapHeld). h.snap) snaps ≡ answered.state.snaps

pub serves_there : (sectors : ℕ) (g : Option MergeHeld) (u v : Moving) (origin : Device) (snaps : List SnapHeld) (reply : Reply) (k : ℕ) (answered : Answered Volume) → u ≡ v → Goes no_start v (at_with g origin snaps [] (Some reply) k) → length origin.bytes ≡ 512 * sectors → Each (IsResting sectors) snaps →
    answered ≡ record { state = record { origin = origin; snaps = map (λ (h : SnapHeld). h.snap) snaps }; reply = reply } → Serves sectors g u answered
serves_there sectors g u v origin snaps reply k answered begun goes whole rest is =
    subst (Serves sectors g u) (sym is) (record { snaps = snaps; started = k; goes = subst (λ (x : Moving). Goes no_start x (at_with g origin snaps [] (Some reply) k)) (sym begun) goes; whole = whole; rest = rest; same = refl })

-- without a merge it settles
pub serves_settles : (sectors : ℕ) (u : Moving) (answered : Answered Volume) → Serves sectors None u answered → SettlesTo sectors u answered
serves_settles sectors u answered serves =
    let last : Moving = at_with None answered.state.origin serves.snaps [] (Some answered.reply) serves.started in
    let idle : Each IsIdle serves.snaps = each_weaker (IsResting sectors) IsIdle serves.snaps (resting_idle sectors) serves.rest in
    let quiet : due last ≡ None = due_request answered.state.origin serves.snaps [] (Some answered.reply) serves.started idle None refl in
    let there = settled_there u last serves.goes quiet in
    record {
      fuel = there.0;
      last = last;
      ends = there.1;
      quiet = quiet;
      rest = record { whole = serves.whole; snaps = all_from (IsResting sectors) serves.snaps serves.rest; requests = refl; alone = refl };
      origin = refl;
      snaps = serves.same;
      reply = refl;
    }
