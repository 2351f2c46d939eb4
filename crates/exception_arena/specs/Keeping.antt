-- What calls keep of the nodes and the buckets of an arena, in phrases over what was there before and after. This project's own.
use Rattle.std.specs.Prelude.{◌≡◌, length, vec_capacity}
use Rattle.std.specs.Global.{Vec}
use Rattle.exception_arena.specs.Links.{AreHung, pairs_on}
use Rattle.exception_arena.specs.declared.link.Link.{Link}
use Rattle.exception_arena.specs.declared.node.Node.{Node}

-- this is as it was
abbrev pub Keeps : {A C : Type 0} → (A → C) → A → A → Type 0
Keeps of old new = of new ≡ of old

-- a list has as many elements, and room in memory for as many
abbrev pub KeepsLen : {A : Type 0} → Vec A → Vec A → Type 0
KeepsLen old new = length new.items ≡ length old.items

abbrev pub KeepsRoom : {A : Type 0} → Vec A → Vec A → Type 0
KeepsRoom old new = vec_capacity new ≡ vec_capacity old

-- the nodes have the same pairs
abbrev pub KeepsPairs : Vec Node → Vec Node → Type 0
KeepsPairs old new = pairs_on new.items ≡ pairs_on old.items

-- each node hangs in its bucket
abbrev pub AllHang : Vec Node → Vec Link → Type 0
AllHang nodes heads = AreHung nodes.items heads.items (length nodes.items)
