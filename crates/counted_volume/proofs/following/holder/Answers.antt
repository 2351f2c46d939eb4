-- The copy that was found stands in its snapshot.
use Rattle.std.proofs.Common.{◌≡◌, ◌<◌, ◌∙◌, List, arith, get_or, length, sym, ap, subst, true}
use Rattle.std.specs.Prelude.{◌==◌}
use Rattle.std.specs.List.{list_all, list_any, position}
use Rattle.std.proofs.lemmas.Bool.{and_parts}
use Rattle.in_flight.specs.declared.copies.Stage.TheVariants.{Read}
use Rattle.snapshot.specs.Kept.{Kept}
use Rattle.snapshot_list.specs.Finding.{is_copy_of}
use Rattle.counted_volume.specs.Following.{StandsAt, is_alone, is_of_origin}
use Rattle.counted_volume.specs.Places.{Counted}
use Rattle.counted_volume.proofs.OnlyCopies.{alone_at, position_any}
use Rattle.counted_volume.proofs.following.holder.Goals as goal

pub returns-in-Some-clause-here : goal.returns-in-Some-clause-here
returns-in-Some-clause-here g c =
    let s = c.index-snaps-place.result in
    let k = c.in-Some.place in
    let snaps = c.snaps-snaps.result.now in
    let within : k < length snaps = omega (arith, c.in-Some.ensures.found.0, ap length c.snaps-snaps.ensures) in
    let same = ap (λ (x : Counted g.row.B.Denot). x.volume.snaps) (sym c.volume.view_is) ∙ sym c.snaps-snaps.ensures in
    let found = ap (λ (xs : List (Kept g.row.B.Denot)). position (is_copy_of Read c.args.number) (get_or xs k s).copies) c.snaps-snaps.ensures ∙ c.in-Some.ensures.found.1 s in (
      s,
      subst (λ (xs : List (Kept g.row.B.Denot)). StandsAt k xs s) (sym same) (within, c.index-snaps-place.is),
      position_any (is_copy_of Read c.args.number) s.copies c.in-Some.field-0-1 (ap (λ (x : Kept g.row.B.Denot). position (is_copy_of Read c.args.number) x.copies) c.index-snaps-place.is ∙ found),
    )

pub returns-in-Some-clause-alone : goal.returns-in-Some-clause-alone
returns-in-Some-clause-alone g c = λ yes.
    let s = c.index-snaps-place.result in
    let both = and_parts (length c.copies.result.now == 1) (list_all is_of_origin c.flights.result.now) (sym c.is_only-alone.ensures ∙ yes) in
    let one : (length s.copies == 1) ≡ true = ap (λ cs. length cs == 1) (sym c.copies.ensures) ∙ both.0 in
    let k = c.in-Some.place in
    let within : k < length c.snaps-snaps.result.now = omega (arith, c.in-Some.ensures.found.0, ap length c.snaps-snaps.ensures) in
    let found = ap (λ (xs : List (Kept g.row.B.Denot)). position (is_copy_of Read c.args.number) (get_or xs k s).copies) c.snaps-snaps.ensures ∙ c.in-Some.ensures.found.1 s in
    let alone = alone_at c.args.number k c.in-Some.field-0-1 c.snaps-snaps.result.now s within c.index-snaps-place.is
    (ap (λ (x : Kept g.row.B.Denot). position (is_copy_of Read c.args.number) x.copies) c.index-snaps-place.is ∙ found) one in
    record {
      copy = ap (λ (x : Counted g.row.B.Denot). list_any (is_alone c.args.number) x.volume.snaps) (sym c.volume.view_is) ∙ ap (list_any (is_alone c.args.number)) (sym c.snaps-snaps.ensures) ∙ alone;
      requests = ap (λ (x : Counted g.row.B.Denot). list_all is_of_origin x.volume.flights) (sym c.volume.view_is) ∙ ap (list_all is_of_origin) (sym c.flights.ensures.is) ∙ both.1;
    }
