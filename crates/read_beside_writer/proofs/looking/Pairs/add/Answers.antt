use Rattle.std.proofs.Common.{◌≡◌, ℕ, Option, None, Some, false, Bor, refl, ◌∙◌, sym}
use Rattle.std.specs.Option.{is_some, option_copied}
use Rattle.read_beside_writer.proofs.Places.{placed_more}
use Rattle.read_beside_writer.proofs.looking.Pairs.add.Goals as goal

none_of : (r : Option (Bor ℕ)) → is_some r ≡ false → option_copied r ≡ None
none_of None is = refl
none_of (Some x) is = absurd (cc)

pub invariant_of-self-in-Ok-insert : goal.invariant_of-self-in-Ok-insert
invariant_of-self-in-Ok-insert c = record {
  placed = placed_more c.args.self.now.places c.insert.new.self c.args.self.now.listed.items c.push.new.self.items c.args.pair c.args.self.now.placed (sym c.get.ensures.value ∙ none_of c.get.result (sym c.is_some.ensures ∙ c.if-is_some.false)) c.in-Ok-insert.ensures.updates.0 c.in-Ok.ensures.items;
}
