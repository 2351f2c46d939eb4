-- Publications, of which there are more and more.
use Rattle.std.specs.Prelude.{◌≡◌, ℕ, true, false, List, [], ◌∷◌, ◌++◌}
use mathlib.Core.Option.{some}
use lib.ListN.{get_elem?}
use Rattle.atomic_table.specs.Table.{State, Me, Step}
use Rattle.thread_channels.specs.Words.{usage_word, IsNarrow, no_usage}
use Rattle.thread_channels.specs.declared.usage.PlaceUsage.{PlaceUsage}
use Rattle.thread_channels.specs.declared.board_rule.View.{View}

-- the second list begins the first
abbrev pub StartsWith : List PlaceUsage → List PlaceUsage → Type 0
StartsWith all seen = (rest : List PlaceUsage) × (all ≡ seen ++ rest)

-- the last of the list is this
abbrev pub EndsIn : List PlaceUsage → PlaceUsage → Type 0
EndsIn all last = (before : List PlaceUsage) × (all ≡ before ++ last ∷ [])

-- the view of a pass that publishes nothing
abbrev pub reader : List PlaceUsage → View
reader seen = record { publishes = false; seen = seen; taken = [] }

-- the view of the first pass
abbrev pub opening_view : View
opening_view = record { publishes = true; seen = no_usage ∷ []; taken = [] }

-- the first pass takes in the second
abbrev pub taking : View → View → View
taking v w = record { publishes = v.publishes; seen = v.seen; taken = w.seen }

-- a pass has seen a beginning of all publications, and all of them if it is the publisher
abbrev pub Fits : ℕ → List PlaceUsage → ℕ → View → Type 0
Fits owner all by v = StartsWith all v.seen × StartsWith all v.taken × (v.publishes ≡ true → (by ≡ owner) × (v.seen ≡ all))

-- the word stands for the last publication
abbrev pub Growing : State Unit View → Type 0
Growing s =
    (owner : ℕ) × (all : List PlaceUsage) × (last : PlaceUsage)
    × IsNarrow last
    × (s.words ≡ usage_word last ∷ [])
    × EndsIn all last
    × ((by : ℕ) (v : View) → get_elem? s.views by ≡ some v → Fits owner all by v)

-- the usage of the word that was stored is one publication more
abbrev pub Adds : Step Unit → Me Unit View → ℕ → Me Unit View → Type 0
Adds s v n w =
    ((u : PlaceUsage) → IsNarrow u → n ≡ usage_word u → w.0.seen ≡ v.0.seen ++ u ∷ [])
    × (w.0.publishes ≡ v.0.publishes)
    × (w.1 ≡ v.1)

-- the word that was found stands for the last publication so far, and these begin with what was seen and what was taken
abbrev pub Sees : Step Unit → Me Unit View → ℕ → Me Unit View → Type 0
Sees s v n w =
    ((u : PlaceUsage) → IsNarrow u → n ≡ usage_word u → EndsIn w.0.seen u)
    × ((u : PlaceUsage) × IsNarrow u × (n ≡ usage_word u))
    × StartsWith w.0.seen v.0.seen
    × StartsWith w.0.seen v.0.taken
    × (v.0.publishes ≡ true → w.0.seen ≡ v.0.seen)
    × (w.0.publishes ≡ v.0.publishes)
    × (w.1 ≡ v.1)
