-- An origin and a store of so many sectors, as a merge begins.
use Rattle.std.specs.Prelude.{ℕ, List}
use Rattle.cow_merge.specs.declared.sizes.Sizes.{Sizes}
use Rattle.cow_merge.specs.Holding.{Begin}

abbrev pub begun : Sizes → List ℕ → List ℕ → Begin
begun sizes origin store = record { chunk = sizes.chunk; sectors = sizes.origin; size = sizes.store; origin = origin; store = store }
