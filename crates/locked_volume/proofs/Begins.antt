-- The first entries of a list.
use Rattle.std.proofs.Common.{◌≡◌, List, [], ◌++◌, sym, ap, ◌∙◌, subst, append_assoc, append-nil}
use Rattle.audited_volume.specs.declared.entry.Entry.{Entry}
use Rattle.locked_volume.specs.Keeping.{Begins}

pub begins_same : (es : List Entry) → Begins es es
begins_same es = ([], sym (append-nil es))

-- of an equal list
pub begins_as : (es fs : List Entry) → fs ≡ es → Begins es fs
begins_as es fs same = ([], same ∙ sym (append-nil es))

pub begins_then : (es fs gs : List Entry) → Begins es fs → Begins fs gs → Begins es gs
begins_then es fs gs h i = (h.0 ++ i.0, i.1 ∙ ap (λ (l : List Entry). l ++ i.0) h.1 ∙ append_assoc es h.0 i.0)

-- of a list that is equal to a longer one
pub begins_in : (es fs gs : List Entry) → Begins es fs → gs ≡ fs → Begins es gs
begins_in es fs gs h same = subst (Begins es) (sym same) h

pub begins_more : (es fs gs more : List Entry) → Begins es fs → gs ≡ fs ++ more → Begins es gs
begins_more es fs gs more h grown = begins_then es fs gs h (more, grown)
