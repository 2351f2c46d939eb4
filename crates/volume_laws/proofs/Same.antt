-- Books whose fields are equal are equal.
use Rattle.std.proofs.Common.{◌≡◌, ℕ, Bool, List, Option, ◌∙◌, ap}
use Rattle.sector.specs.declared.pair.Pair.{Pair}
use Rattle.in_flight.specs.declared.copies.ChunkCopy.{ChunkCopy}
use Rattle.in_flight.specs.declared.copies.Mark.{Mark}
use Rattle.in_flight.specs.declared.flights.Flight.{Flight}
use Rattle.plain_machine.specs.declared.request.Overflowing.{Overflowing}
use Rattle.plain_machine.specs.Plain.{Plain, Entry, InFlight}
use Rattle.volume_laws.specs.Books.{SnapBooks, MergeBooks, Books}

abbrev snap : ℕ → Bool → Bool → Bool → Bool → Overflowing → ℕ → ℕ → ℕ → List ℕ → List Pair → List Pair → ℕ → List ChunkCopy → List Mark → SnapBooks
snap number live untried marked loud overflow chunk sectors size store pairs begun sure copies marks = record {
  number = number;
  live = live;
  untried = untried;
  marked = marked;
  loud = loud;
  overflow = overflow;
  chunk = chunk;
  sectors = sectors;
  size = size;
  store = store;
  pairs = pairs;
  begun = begun;
  sure = sure;
  copies = copies;
  marks = marks;
}

pub same_books : (w u : SnapBooks) → w.number ≡ u.number → w.live ≡ u.live → w.untried ≡ u.untried → w.marked ≡ u.marked → w.loud ≡ u.loud → w.overflow ≡ u.overflow → w.chunk ≡ u.chunk → w.sectors ≡ u.sectors → w.size ≡ u.size
    → w.store ≡ u.store → w.pairs ≡ u.pairs → w.begun ≡ u.begun → w.sure ≡ u.sure → w.copies ≡ u.copies → w.marks ≡ u.marks → w ≡ u
same_books w u number live untried marked loud overflow chunk sectors size store pairs begun sure copies marks =
    ap (λ x. snap x w.live w.untried w.marked w.loud w.overflow w.chunk w.sectors w.size w.store w.pairs w.begun w.sure w.copies w.marks) number
    ∙ ap (λ x. snap u.number x w.untried w.marked w.loud w.overflow w.chunk w.sectors w.size w.store w.pairs w.begun w.sure w.copies w.marks) live
    ∙ ap (λ x. snap u.number u.live x w.marked w.loud w.overflow w.chunk w.sectors w.size w.store w.pairs w.begun w.sure w.copies w.marks) untried
    ∙ ap (λ x. snap u.number u.live u.untried x w.loud w.overflow w.chunk w.sectors w.size w.store w.pairs w.begun w.sure w.copies w.marks) marked
    ∙ ap (λ x. snap u.number u.live u.untried u.marked x w.overflow w.chunk w.sectors w.size w.store w.pairs w.begun w.sure w.copies w.marks) loud
    ∙ ap (λ x. snap u.number u.live u.untried u.marked u.loud x w.chunk w.sectors w.size w.store w.pairs w.begun w.sure w.copies w.marks) overflow
    ∙ ap (λ x. snap u.number u.live u.untried u.marked u.loud u.overflow x w.sectors w.size w.store w.pairs w.begun w.sure w.copies w.marks) chunk
    ∙ ap (λ x. snap u.number u.live u.untried u.marked u.loud u.overflow u.chunk x w.size w.store w.pairs w.begun w.sure w.copies w.marks) sectors
    ∙ ap (λ x. snap u.number u.live u.untried u.marked u.loud u.overflow u.chunk u.sectors x w.store w.pairs w.begun w.sure w.copies w.marks) size
    ∙ ap (λ x. snap u.number u.live u.untried u.marked u.loud u.overflow u.chunk u.sectors u.size x w.pairs w.begun w.sure w.copies w.marks) store
    ∙ ap (λ x. snap u.number u.live u.untried u.marked u.loud u.overflow u.chunk u.sectors u.size u.store x w.begun w.sure w.copies w.marks) pairs
    ∙ ap (λ x. snap u.number u.live u.untried u.marked u.loud u.overflow u.chunk u.sectors u.size u.store u.pairs x w.sure w.copies w.marks) begun
    ∙ ap (λ x. snap u.number u.live u.untried u.marked u.loud u.overflow u.chunk u.sectors u.size u.store u.pairs u.begun x w.copies w.marks) sure
    ∙ ap (λ x. snap u.number u.live u.untried u.marked u.loud u.overflow u.chunk u.sectors u.size u.store u.pairs u.begun u.sure x w.marks) copies
    ∙ ap (λ x. snap u.number u.live u.untried u.marked u.loud u.overflow u.chunk u.sectors u.size u.store u.pairs u.begun u.sure u.copies x) marks

abbrev pub books : List ℕ → ℕ → Bool → List SnapBooks → Option MergeBooks → List Flight → Books
books origin sectors loud snaps merge requests = record { origin = origin; sectors = sectors; loud = loud; snaps = snaps; merge = merge; requests = requests }

pub same_volume : (w u : Books) → w.origin ≡ u.origin → w.sectors ≡ u.sectors → w.loud ≡ u.loud → w.snaps ≡ u.snaps → w.merge ≡ u.merge → w.requests ≡ u.requests → w ≡ u
same_volume w u origin sectors loud snaps merge requests =
    ap (λ x. books x w.sectors w.loud w.snaps w.merge w.requests) origin
    ∙ ap (λ x. books u.origin x w.loud w.snaps w.merge w.requests) sectors
    ∙ ap (λ x. books u.origin u.sectors x w.snaps w.merge w.requests) loud
    ∙ ap (λ x. books u.origin u.sectors u.loud x w.merge w.requests) snaps
    ∙ ap (λ x. books u.origin u.sectors u.loud u.snaps x w.requests) merge
    ∙ ap (λ x. books u.origin u.sectors u.loud u.snaps u.merge x) requests

abbrev pub plain : List ℕ → Option ℕ → List Entry → List InFlight → Plain
plain origin begun saved requests = record { origin = origin; begun = begun; saved = saved; requests = requests }
