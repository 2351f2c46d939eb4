-- While every call is answered, writes pass.
use Rattle.std.proofs.Common.{◌≡◌, ◌∙◌, not, true, false, refl, subst, sym, rules}
use Rattle.file_device.specs.Laws.{unbroken}
use Rattle.file_device.proofs.ahead.FileDeviceAhead.write_ahead.Goals as goal
use Rattle.file_device.proofs.ahead.FileDeviceAhead.write_ahead.Goals.{then-self, else-self}

pub returns-clause-sure : goal.returns-clause-sure
returns-clause-sure g c = λ all.
    (let d = c.args.self.now in
    let none : (d.is_broken ≡ false) × (d.has_failed ≡ false) = unbroken (g.C.FileCalls.history d.file) d.is_broken d.has_failed d.broken d.failed all in
    let whole : c.if-self.self ≡ false = elim c.if-self.branch [
      | then-self w ↦ (let is : d.is_broken ≡ true = search rules in absurd (let no : true ≡ false = sym is ∙ none.0 in cc))
      | else-self w ↦ (let is : c.if-self.self ≡ d.has_failed = search rules in is ∙ none.1)
    ] in
    subst (λ b. not b ≡ true) (sym whole) refl)
