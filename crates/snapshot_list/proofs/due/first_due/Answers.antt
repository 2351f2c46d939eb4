-- What is found first of the snapshots that are busy is due first of all; and where nothing is, what waits.
use Rattle.std.proofs.Common.{◌≡◌, List, [], length, map, refl, sym, ◌∙◌, ap, subst}
use Rattle.std.specs.Prelude.{Option, None}
use Rattle.std.proofs.lemmas.Bool.{eqb-true}
use Rattle.std.proofs.lemmas.List.{nil_from_length}
use Rattle.plain_machine.specs.declared.event.Event.TheVariants.{CopyRead, Issue}
use Rattle.in_flight.specs.Due.{first_by, is_issuable, least, number_of_flight}
use Rattle.in_flight.specs.declared.copies.Stage.TheVariants.{Waiting}
use Rattle.volume_laws.specs.Due.{copy_of, event_or, least_of}
use Rattle.snapshot.specs.Kept.{Kept, due_of_kept}
use Rattle.snapshot_list.specs.Busy.{AreAlike}
use Rattle.snapshot_list.proofs.Alike.{alike_all, due_busy, due_waiting}
use Rattle.snapshot_list.proofs.Firsts.{least_right}
use Rattle.snapshot_list.proofs.due.first_due.Goals as goal

pub returns-then-is_empty : goal.returns-then-is_empty
returns-then-is_empty g c =
    let f = due_of_kept g.B.Block.contents g.B.Block.layers in
    let all = map f c.args.snaps.now in
    let busy = c.from_busy-waiting.result.0.now in
    let waiting = c.from_busy-waiting.result.1 in
    let none : busy ≡ [] = nil_from_length busy (eqb-true (length busy) 0 (sym c.is_empty.ensures ∙ c.if-is_empty.true)) in
    let alike : AreAlike [] all = subst (λ (xs : List (Kept g.row.B.Denot)). AreAlike (map f xs) all) none c.from_busy-waiting.ensures.alike in
    let least_is : waiting ≡ least_of (copy_of Waiting) all = sym (c.from_busy-waiting.ensures.waiting ∙ ap (λ (xs : List (Kept g.row.B.Denot)). least waiting (least_of (copy_of Waiting) (map f xs))) none ∙ least_right waiting) in
    c.first_waiting.ensures ∙ ap (λ (o : Option _). event_or o CopyRead (event_or (first_by is_issuable number_of_flight c.args.flights.now) Issue None)) least_is
    ∙ sym (due_waiting [] [] all c.args.flights.now (alike_all []) alike refl)

pub returns-in-Some : goal.returns-in-Some
returns-in-Some g c =
    let f = due_of_kept g.B.Block.contents g.B.Block.layers in
    sym (due_busy (map f c.to_busy.result.now) (map f c.from_busy-waiting.result.0.now) (map f c.args.snaps.now) c.args.flights.now c.to_busy.ensures c.from_busy-waiting.ensures.alike c.in-Some.event (sym c.first_busy.ensures ∙ c.in-Some.is))

pub returns-in-None : goal.returns-in-None
returns-in-None g c =
    let f = due_of_kept g.B.Block.contents g.B.Block.layers in
    let least_is : c.least.result ≡ least_of (copy_of Waiting) (map f c.args.snaps.now) = c.least.ensures ∙ ap (least c.from_busy-waiting.result.1) c.least_copy.ensures ∙ sym c.from_busy-waiting.ensures.waiting in
    c.first_waiting-in-None.ensures ∙ ap (λ (o : Option _). event_or o CopyRead (event_or (first_by is_issuable number_of_flight c.args.flights.now) Issue None)) least_is
    ∙ sym (due_waiting (map f c.to_busy.result.now) (map f c.from_busy-waiting.result.0.now) (map f c.args.snaps.now) c.args.flights.now c.to_busy.ensures c.from_busy-waiting.ensures.alike (sym c.first_busy.ensures ∙ c.in-None.is))
