-- A merge that failed goes on, and one that did not is as it was.
use Rattle.std.proofs.Common.{refl, sym, ◌∙◌, ap, subst}
use Rattle.volume.specs.Volumed.{Volumed, plain_of, is_loud_in_all}
use Rattle.volume.specs.Whole.{IsWhole}
use Rattle.volume.specs.Moved.{moving_of}
use Rattle.volume.proofs.Resumed.{whole_resumed, plain_resumed, loud_resumed, exact_resumed, unfailed_same, with_own}
use Rattle.volume.specs.MergeLasting.{MergeLasting}
use Rattle.volume.proofs.volume.Volume.resume_merge.Goals.{then-is_failed, else-is_failed}
use Rattle.volume.proofs.volume.Volume.resume_merge.Goals as goal

pub invariant_of-self-2 : goal.invariant_of-self-2
invariant_of-self-2 g c = record {
  whole =
      let v : Volumed g.row.B.Denot = record { origin = c.self.inside.origin; snaps = c.self.inside.snaps.items; merge = c.self.inside.merge; flights = c.self.inside.flights.items; requests = c.self.inside.requests; copies = c.self.inside.copies; attached = c.self.inside.attached } in
      elim c.if-is_failed.branch [
        | then-is_failed w ↦ rw (w.self-inside-is, w.resume.ensures.fields) (whole_resumed g.B.Block.contents g.B.Block.layers g.B.Block.size v c.in-Some.merge c.in-Some.is c.self.invariant.whole)
        | else-is_failed w ↦ rw (w.self-inside-is) (subst (IsWhole g.B.Block.contents g.B.Block.layers g.B.Block.size) (with_own v c.in-Some.merge c.in-Some.is) c.self.invariant.whole)
      ];
  lasting =
      let v : Volumed g.row.B.Denot = record { origin = c.self.inside.origin; snaps = c.self.inside.snaps.items; merge = c.self.inside.merge; flights = c.self.inside.flights.items; requests = c.self.inside.requests; copies = c.self.inside.copies; attached = c.self.inside.attached } in
      let l = c.self.invariant.lasting in
      let m = subst (MergeLasting g.B.Block.may_hold g.B.Block.contents g.B.Block.layers g.B.Block.size v.origin) c.in-Some.is l.merge in
      elim c.if-is_failed.branch [
        | then-is_failed w ↦ rw (w.self-inside-is, w.resume.ensures.fields) (record { snaps = l.snaps; merge = m })
        | else-is_failed w ↦ rw (w.self-inside-is) (record { snaps = l.snaps; merge = m })
      ];
}

pub returns : goal.returns
returns g c =
    let v : Volumed g.row.B.Denot = record { origin = c.self.inside.origin; snaps = c.self.inside.snaps.items; merge = c.self.inside.merge; flights = c.self.inside.flights.items; requests = c.self.inside.requests; copies = c.self.inside.copies; attached = c.self.inside.attached } in
    record {
      does = record {
        resumed =
            elim c.if-is_failed.branch [
              | then-is_failed w ↦ rw (← c.self.view_is, w.self-inside-is, w.resume.ensures.fields) (record { merge = c.in-Some.merge; was = c.in-Some.is; becomes = refl })
              | else-is_failed w ↦ rw (← c.self.view_is, w.self-inside-is)
                  (record { merge = c.in-Some.merge; was = c.in-Some.is; becomes = unfailed_same v c.in-Some.merge (sym c.is_failed.ensures ∙ w.if-is_failed.false) })
            ];
        exact =
            λ replied.
            let exact = exact_resumed g.B.Block.contents g.B.Block.layers g.B.Block.size v c.in-Some.merge c.in-Some.is replied in
            elim c.if-is_failed.branch [
              | then-is_failed w ↦ rw (← c.self.view_is, w.self-inside-is, w.resume.ensures.fields) exact
              | else-is_failed w ↦ rw (← c.self.view_is, w.self-inside-is)
                  (exact ∙ ap (moving_of g.B.Block.contents g.B.Block.layers replied) (sym (unfailed_same v c.in-Some.merge (sym c.is_failed.ensures ∙ w.if-is_failed.false))))
            ];
        plain =
            elim c.if-is_failed.branch [
              | then-is_failed w ↦ rw (← c.self.view_is, w.self-inside-is, w.resume.ensures.fields) (plain_resumed g.B.Block.contents g.B.Block.layers g.B.Block.size v c.in-Some.merge c.in-Some.is)
              | else-is_failed w ↦ rw (← c.self.view_is, w.self-inside-is) (ap (plain_of g.B.Block.contents g.B.Block.layers) (sym (with_own v c.in-Some.merge c.in-Some.is)))
            ];
        loud =
            elim c.if-is_failed.branch [
              | then-is_failed w ↦ rw (← c.self.view_is, w.self-inside-is, w.resume.ensures.fields) (loud_resumed g.B.Block.contents g.B.Block.layers g.B.Block.size v c.in-Some.merge c.in-Some.is)
              | else-is_failed w ↦ rw (← c.self.view_is, w.self-inside-is) (ap (is_loud_in_all g.B.Block.layers) (sym (with_own v c.in-Some.merge c.in-Some.is)))
            ];
        err = tt;
      };
    }
