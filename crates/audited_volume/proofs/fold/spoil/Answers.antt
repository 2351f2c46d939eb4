use Rattle.std.proofs.Common.{◌<◌, ◌∷◌, [], ap, arith, length, ◌∙◌}
use Rattle.std.proofs.lemmas.List.{get_or_default}
use Rattle.plain_machine.specs.Plain.{spoiled_entry}
use Rattle.audited_volume.specs.Books.{shown_in}
use Rattle.audited_volume.proofs.Cut.{spoilt_more}
use Rattle.audited_volume.proofs.fold.spoil.Goals as goal

pub loop-k-preserved : goal.loop-k-preserved
loop-k-preserved c =
    let inv = c.loop-k.invariant in
    let low : c.loop-k.k < length c.args.saved.now.items = omega (arith, c.loop-k-test.true, c.len-k-end.ensures, c.args.saved.now.ok.0) in
    let here : c.loop-k.k < length c.loop-k.saved.items = omega (arith, low, inv.1, c.loop-k.saved.ok.0, c.args.saved.now.ok.0) in (
      spoilt_more c.args.number c.args.saved.now.items c.loop-k.saved.items c.loop-k.k c.spoil_one.new.saved low here inv.0
          (c.spoil_one.ensures ∙ ap (λ s. spoiled_entry (c.args.number ∷ []) (shown_in s)) (c.index_mut.ensures.value ∙ get_or_default c.loop-k.saved.items c.loop-k.k _ c.spoil_one.new.saved here)),
      inv.1,
      inv.2,
    )
