-- Where nothing is written, no bytes are; and what a new text holds where something was told to it.
use Rattle.std.proofs.Common.{◌≡◌, ◌∙◌, ℕ, Bool, true, false, List, [], sym, ap, Option, Some, None, refl}
use Rattle.std.proofs.lemmas.List.{append-nil}
use Rattle.std.specs.Io.KnownBytes.{Appends, Keeps}
use Rattle.explain_syntax.specs.Sentences.{Tells}

pub appends_nothing : (a : Option (List ℕ)) → Appends a a []
appends_nothing None = tt
appends_nothing (Some xs) = sym (append-nil xs)

-- what was written is kept by a flush
pub appends_kept : (a b c : Option (List ℕ)) (s : List ℕ) → Appends a b s → Keeps b c → Appends a c s
appends_kept None b c s p q = tt
appends_kept (Some xs) None c s p q = absurd p
appends_kept (Some xs) (Some ys) None s p q = absurd q
appends_kept (Some xs) (Some ys) (Some zs) s p q = q ∙ p

pub tells_yes : (text : List ℕ) (s : Option (List ℕ)) → Tells (Some []) (Some text) s true → Some text ≡ s
tells_yes text None told = absurd (let clash : true ≡ false = told.0 in cc)
tells_yes text (Some sentence) told = ap Some told.1

pub tells_no : (text : List ℕ) (s : Option (List ℕ)) → Tells (Some []) (Some text) s false → None ≡ s
tells_no text None told = refl
tells_no text (Some sentence) told = absurd (let clash : false ≡ true = told.0 in cc)
