use Rattle.std.proofs.Common.{ℕ, ◌++◌, List, subst}
use Rattle.std.specs.Io.KnownBytes.{Appends}
use Rattle.std.proofs.KnownBytes.{Appends-trans}
use Rattle.new_store_files.specs.Parts.{IsAreaOf}
use Rattle.new_store_files.proofs.Stores.{area_is}
use Rattle.new_store_files.proofs.areas.write_area.Goals as goal

pub returns-in-Ok-write_copies-clause-all : goal.returns-in-Ok-write_copies-clause-all
returns-in-Ok-write_copies-clause-all g c = λ b is.
    let area = c.fill.new.area in
    let h : List ℕ = c.fill.new.area.bytes.items in
    let (x, len, copies, appends) = c.in-Ok-write_copies.ensures.all b is in (
      h ++ x,
      subst (λ (n : ℕ). IsAreaOf n b c.args.place c.args.pairs.now (h ++ x)) c.fill.ensures.chunk
          (area_is area.chunk c.args.place b h x c.args.pairs.now area.whole c.fill.ensures.pairs c.fill.ensures.empty len copies),
      Appends-trans _ _ _ _ _ (subst (λ (y : List ℕ). Appends (g.S.Sink.contents c.args.sink.now) (g.S.Sink.contents c.put.new.self) y) c.encode.ensures c.in-Ok.ensures.all) appends,
    )
