-- A request goes by its kind, where no merge is begun.
use Rattle.std.proofs.Common.{◌≡◌, ◌∙◌, None, ap, inl, sym}
use Rattle.volume.specs.Volumed.{Volumed}
use Rattle.volume.proofs.Attaches.{none_begun}
use Rattle.volume.proofs.volume.Volume.way_of.Goals as goal

pub returns-then-is_quiet : goal.returns-then-is_quiet
returns-then-is_quiet g c =
    let alone : c.args.self.now.merge ≡ None = ap (λ (x : Volumed g.row.B.Denot). x.merge) (sym c.self.view_is) ∙ none_begun c.self.inside.merge (sym c.is_some.ensures ∙ c.if-is_some.false) in
    (sym c.if-is_quiet.ensures.value, alone, inl (sym c.in-OriginRead.ensures))

pub way_of_write-requires-clause-alone : goal.way_of_write-requires-clause-alone
way_of_write-requires-clause-alone g c =
    ap (λ (x : Volumed g.row.B.Denot). x.merge) (sym c.self.view_is) ∙ none_begun c.self.inside.merge (sym c.is_some.ensures ∙ c.if-is_some.false)

pub way_of_read-requires-clause-alone : goal.way_of_read-requires-clause-alone
way_of_read-requires-clause-alone g c =
    ap (λ (x : Volumed g.row.B.Denot). x.merge) (sym c.self.view_is) ∙ none_begun c.self.inside.merge (sym c.is_some.ensures ∙ c.if-is_some.false)

pub way_of_write-requires-clause-kind : goal.way_of_write-requires-clause-kind
way_of_write-requires-clause-kind g c = sym c.in-OriginWrite.ensures

pub way_of_read-requires-clause-kind : goal.way_of_read-requires-clause-kind
way_of_read-requires-clause-kind g c = sym c.in-SnapRead.ensures
