-- What the seat has seen is what its pass has.
use Rattle.std.proofs.Common.{◌≡◌, ℕ, List, true, sym, ap, ◌∙◌, subst}
use Rattle.std.specs.Prelude.{◌≢◌, IfErr, OnOk}
use Rattle.audited_volume.specs.declared.entry.Entry.{Entry}
use Rattle.locked_volume.specs.Denying.{Begin, WasBegun, WasDenied}
use Rattle.sector.specs.declared.refusal.Refusal.TheVariants.{NotQuiet}
use Rattle.volume_threads.specs.Sittings.{seen_of}
use Rattle.volume_threads.proofs.sitting.Sitting.begin_merge.Goals as goal

pub begin_merge-pass-requires-clause-asked : goal.begin_merge-pass-requires-clause-asked
begin_merge-pass-requires-clause-asked g c = subst (λ v. g.J.Room.merges v c.args.number ≡ true) (sym c.requires.volume) c.requires.asked

pub returns-clause-begun : goal.returns-clause-begun
returns-clause-begun g c =
    let made = c.begin_merge-pass in
    let saw = sym (ap (λ s. s.seen) c.self.view_is) ∙ ap (λ b. seen_of b.views) (sym c.replace-badge.ensures.value) ∙ ap seen_of c.into_seat.ensures.2 in
    let sees = ap seen_of c.into_badge.ensures.2 in
    subst (λ (x : List Entry × List Entry). OnOk made.result.1 (WasBegun c.args.number x.0 x.1)) (λ i. (sym saw i, sym sees i)) made.ensures.begun

pub returns-clause-denied : goal.returns-clause-denied
returns-clause-denied g c =
    let made = c.begin_merge-pass in
    let sees = ap seen_of c.into_badge.ensures.2 in
    subst (λ (x : ℕ × List Entry). IfErr made.result.1 (λ refusal. refusal ≢ NotQuiet → WasDenied (g.J.Room.start x.0) (g.J.Room.fixed x.0) x.1 (Begin c.args.number) refusal)) (λ i. (c.requires.volume i, sym sees i)) made.ensures.denied
