use Rattle.std.proofs.Common.{◌∙◌, sym, ap, eq-eqb, take}
use Rattle.std.specs.Prelude.{◌&&◌}
use Rattle.std.specs.Str.{bytes_eq}
use Rattle.words.proofs.Padded.{same_padded}
use Rattle.words.proofs.names.Name.is_same.Goals as goal

pub returns-then-self-other : goal.returns-then-self-other
returns-then-self-other c =
    let one = c.self.inside in
    let other = c.other.inside in
    c.are_same.ensures
    ∙ sym (ap (λ t. t && bytes_eq one.bytes other.bytes) (eq-eqb one.len other.len c.if-self-other.true))
    ∙ same_padded one.len other.len one.bytes other.bytes c.self.invariant.0 c.other.invariant.0 c.self.told c.other.told c.self.invariant.2 c.other.invariant.2
    ∙ ap (λ name. bytes_eq name (take other.len other.bytes)) c.self.view_is
    ∙ ap (bytes_eq c.args.self.now) c.other.view_is
