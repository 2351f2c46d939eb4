-- Known bytes that were kept, and then changed.
use Rattle.std.proofs.Common.{◌≡◌, ℕ, List, [], ◌++◌, refl, sym, ap, ◌∙◌, Option, Some, None}
use Rattle.std.specs.Io.KnownBytes.{Keeps, Consumes, IsAtEnd}
use Rattle.words.specs.Lines.{left}

-- bytes that nobody touched are kept
pub keeps_same : (a : Option (List ℕ)) → Keeps a a
keeps_same None = tt
keeps_same (Some xs) = refl

-- kept twice is kept
pub keeps_more : (a b c : Option (List ℕ)) → Keeps a b → Keeps b c → Keeps a c
keeps_more None b c p q = tt
keeps_more (Some xs) None c p q = absurd p
keeps_more (Some xs) (Some ys) None p q = absurd q
keeps_more (Some xs) (Some ys) (Some zs) p q = cc

-- what is taken after nothing was taken
pub keeps_consumes : (a b c : Option (List ℕ)) (bs : List ℕ) → Keeps a b → Consumes b c bs → Consumes a c bs
keeps_consumes None b c bs p q = tt
keeps_consumes (Some xs) None c bs p q = absurd p
keeps_consumes (Some xs) (Some ys) None bs p q = absurd q
keeps_consumes (Some xs) (Some ys) (Some zs) bs p q = cc

-- the end, found after nothing was taken
pub keeps_end : (a b : Option (List ℕ)) → Keeps a b → IsAtEnd b → IsAtEnd a
keeps_end None b p q = tt
keeps_end (Some xs) None p q = absurd p
keeps_end (Some xs) (Some ys) p q = cc

-- what was read is left as before
pub filled : (old new : List ℕ) (a b : Option (List ℕ)) → old ≡ [] → Consumes a b new → Keeps (left old a) (left new b)
filled old new None b none took = tt
filled old new (Some xs) None none took = absurd took
filled old new (Some xs) (Some ys) none took = sym took ∙ sym (ap (λ zs. zs ++ xs) none)

-- where nothing was read ahead, and nothing more comes, nothing is left
pub none_left : (old : List ℕ) (a : Option (List ℕ)) → old ≡ [] → IsAtEnd a → IsAtEnd (left old a)
none_left old None none end = tt
none_left old (Some xs) none end = ap (λ zs. zs ++ xs) none ∙ end
