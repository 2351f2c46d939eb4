-- Every event lowers the whole number of what is left.
use Rattle.std.proofs.Common.{◌≡◌, ℕ, ◌+◌, ◌*◌, ◌<◌, ◌≤◌, Bool, true, false, List, [], ◌∷◌, length, get_or, set, map, take, drop, refl, sym, ◌∙◌, ap, arith, if◌then◌else◌}
use Rattle.std.specs.Prelude.{◌&&◌, not, sum_by}
use Rattle.std.specs.List.{All, remove}
use Rattle.std.proofs.lemmas.List.{length-take-le}
use Rattle.std.proofs.lemmas.List.Elements.{All-head, All-tail}
use Rattle.std.proofs.lemmas.List.Sums.{sum_by-cons, sum_by-append, sum_by-set, sum_by-remove, sum_by-take-drop}
use Rattle.in_flight.specs.declared.copies.Stage.{Stage}
use Rattle.in_flight.specs.declared.copies.Stage.TheVariants.{Waiting, Read, Written, Flushed}
use Rattle.in_flight.specs.declared.copies.ChunkCopy.{ChunkCopy}
use Rattle.in_flight.specs.declared.copies.Mark.{Mark}
use Rattle.in_flight.specs.Kinds.{kind_of}
use Rattle.in_flight.specs.declared.flights.Flight.{Flight}
use Rattle.in_flight.specs.declared.flights.Kind.{Kind}
use Rattle.in_flight.specs.declared.flights.Kind.TheVariants.{OriginRead, OriginWrite, OriginFlush, SnapRead, SnapWrite, SnapFlush}
use Rattle.in_flight.specs.declared.flights.Route.{Route}
use Rattle.in_flight.specs.declared.flights.Route.TheVariants.{Held, Origin, Store, Whole, Refused}
use Rattle.volume_laws.specs.Books.{SnapBooks}
use Rattle.volume_laws.specs.Steps.{ReadsCopy, WritesCopy, ZeroesArea, Commits, Unmarks, SpoilsSnap, WritesMark, TriesMark, CopyGoesOn, mark_of}
use Rattle.volume_laws.specs.Due.{DueSnap, weight_at, weight_of, steps_at, steps_of, steps_of_mark, steps_of_invalid, steps_of_area, left_in, left_of}

-- one snapshot's number falls, and so does the whole
pub one_left : (snaps : List DueSnap) (k : ℕ) (s s' : DueSnap) (rs : List Flight) → k < length snaps → s ≡ get_or snaps k s → left_in s' < left_in s → left_of (set snaps k s') rs < left_of snaps rs
one_left snaps k s s' rs within is less =
    let e = sum_by-set left_in snaps k s' s within in
    let at : left_in (get_or snaps k s) ≡ left_in s = ap left_in (sym is) in
    omega (arith, e, at, less)

-- a request is answered
weight_at_some : (kind : Kind) (route : Route) → 1 ≤ weight_at kind route
weight_at_some OriginRead route = omega arith
weight_at_some OriginWrite route = omega arith
weight_at_some OriginFlush Held = omega arith
weight_at_some OriginFlush Origin = omega arith
weight_at_some OriginFlush (Store place) = omega arith
weight_at_some OriginFlush Whole = omega arith
weight_at_some OriginFlush Refused = omega arith
weight_at_some (SnapRead n) route = omega arith
weight_at_some (SnapWrite n) route = omega arith
weight_at_some (SnapFlush n) route = omega arith

pub weight_some : (f : Flight) → 1 ≤ weight_of f
weight_some f = weight_at_some (kind_of f.request) f.route

pub issue_left : (snaps : List DueSnap) (rs : List Flight) (k : ℕ) → k < length rs → left_of snaps (remove rs k) < left_of snaps rs
issue_left snaps rs k within = elim rs as (λ rs. k < length rs → left_of snaps (remove rs k) < left_of snaps rs) [
  | [] ↦ λ lt. absurd (omega (arith, lt))
  | f ∷ fs ↦ λ lt. omega (arith, sum_by-remove weight_of (f ∷ fs) k f lt, weight_some (get_or (f ∷ fs) k f))
] within

-- what a snapshot's number is made of
parts : (s : DueSnap) → left_in s ≡ steps_of_invalid s.books + sum_by steps_of s.books.copies + sum_by steps_of_mark s.books.marks + steps_of_area s
parts s = refl

-- an invalid mark, and the next area
abbrev invalid_at : Bool → Bool → ℕ
invalid_at untried marked = if untried then (if marked then 1 else 2) else 0

abbrev pub area_at : Bool → Bool → Bool → ℕ
area_at live zeroed firm = (if live && not zeroed then 1 else 0) + (if live && not firm then 3 else 0)

invalid_le : (untried marked : Bool) → invalid_at untried marked ≤ 2
invalid_le true true = omega arith
invalid_le true false = omega arith
invalid_le false marked = omega arith

area_le : (live zeroed firm : Bool) → area_at live zeroed firm ≤ 4
area_le true true true = omega arith
area_le true true false = omega arith
area_le true false true = omega arith
area_le true false false = omega arith
area_le false zeroed firm = omega arith

pub invalid_few : (v : SnapBooks) → steps_of_invalid v ≤ 2
invalid_few v = invalid_le v.untried v.marked

pub invalid_same : (v w : SnapBooks) → w.untried ≡ v.untried → w.marked ≡ v.marked → steps_of_invalid w ≡ steps_of_invalid v
invalid_same v w untried marked = ap (λ x. invalid_at x w.marked) untried ∙ ap (λ x. invalid_at v.untried x) marked

pub area_same : (s s' : DueSnap) → s'.books.live ≡ s.books.live → s'.zeroed ≡ s.zeroed → s'.firm ≡ s.firm → steps_of_area s' ≡ steps_of_area s
area_same s s' live zeroed firm = ap (λ x. area_at x s'.zeroed s'.firm) live ∙ ap (λ x. area_at s.books.live x s'.firm) zeroed ∙ ap (λ x. area_at s.books.live s.zeroed x) firm

pub area_dead : (s : DueSnap) → s.books.live ≡ false → steps_of_area s ≡ 0
area_dead s dead = ap (λ x. area_at x s.zeroed s.firm) dead

-- each copy still needs some events, and so does each mark
stage_some : (stage : Stage) → 8 ≤ steps_at stage
stage_some Waiting = omega arith
stage_some Read = omega arith
stage_some Written = omega arith
stage_some Flushed = omega arith

pub mark_some : (m : Mark) → 1 ≤ steps_of_mark m
mark_some m = at m.safe
  where
    at : (safe : Bool) → 1 ≤ (if safe then 1 else 3)
    at true = omega arith
    at false = omega arith

-- a copy goes on
copies_left : (k : ℕ) (p q : ChunkCopy) (v w : SnapBooks) → CopyGoesOn k p q v w → sum_by steps_of w.copies + steps_at p.stage ≡ sum_by steps_of v.copies + steps_at q.stage
copies_left k p q v w e =
    ap (λ xs. sum_by steps_of xs + steps_at p.stage) e.copies
    ∙ ap (λ (x : ChunkCopy). sum_by steps_of (set v.copies k q) + steps_at x.stage) e.was
    ∙ sum_by-set steps_of v.copies k q p e.within

-- the other parts stay
rest_left : (s s' : DueSnap) → s'.books.untried ≡ s.books.untried → s'.books.marked ≡ s.books.marked → s'.books.live ≡ s.books.live → s'.zeroed ≡ s.zeroed → s'.firm ≡ s.firm → s'.books.marks ≡ s.books.marks
    → sum_by steps_of s'.books.copies < sum_by steps_of s.books.copies → left_in s' < left_in s
rest_left s s' untried marked live zeroed firm marks less =
    let a = invalid_same s.books s'.books untried marked in
    let b = area_same s s' live zeroed firm in
    let c : sum_by steps_of_mark s'.books.marks ≡ sum_by steps_of_mark s.books.marks = ap (sum_by steps_of_mark) marks in
    omega (arith, a, b, c, less)

pub copy_read_left : (o : List ℕ) (k : ℕ) (p q : ChunkCopy) (s s' : DueSnap) → ReadsCopy o k p q s.books s'.books → p.stage ≡ Waiting → s'.zeroed ≡ s.zeroed → s'.firm ≡ s.firm → left_in s' < left_in s
copy_read_left o k p q s s' e was zeroed firm =
    let sums = copies_left k p q s.books s'.books e.copy in
    let a : steps_at p.stage ≡ steps_at Waiting = ap steps_at was in
    let b : steps_at q.stage ≡ steps_at Read = ap steps_at e.stage in
    rest_left s s' e.same.untried e.same.marked e.same.live zeroed firm e.marks (omega (arith, sums, a, b))

pub copy_write_left : (k : ℕ) (p q : ChunkCopy) (s s' : DueSnap) → WritesCopy k p q s.books s'.books → s'.zeroed ≡ s.zeroed → s'.firm ≡ s.firm → left_in s' < left_in s
copy_write_left k p q s s' e zeroed firm =
    let sums = copies_left k p q s.books s'.books e.copy in
    let a : steps_at p.stage ≡ steps_at Read = ap steps_at e.was_read in
    let b : steps_at q.stage ≡ steps_at Written = ap steps_at e.stage in
    rest_left s s' e.same.untried e.same.marked e.same.live zeroed firm e.marks (omega (arith, sums, a, b))

-- the next area is zeroed
pub zero_left : (a : ℕ) (s s' : DueSnap) → ZeroesArea a s.books s'.books → s.books.live ≡ true → s.zeroed ≡ false → s.firm ≡ false → s'.zeroed ≡ true → s'.firm ≡ false → left_in s' < left_in s
zero_left a s s' e live before loose after still =
    let invalid = invalid_same s.books s'.books e.same.untried e.same.marked in
    let now : steps_of_area s' ≡ area_at true true false = ap (λ x. area_at x s'.zeroed s'.firm) (e.same.live ∙ live) ∙ ap (λ x. area_at true x s'.firm) after ∙ ap (λ x. area_at true true x) still in
    let was : steps_of_area s ≡ area_at true false false = ap (λ x. area_at x s.zeroed s.firm) live ∙ ap (λ x. area_at true x s.firm) before ∙ ap (λ x. area_at true false x) loose in
    let copies : sum_by steps_of s'.books.copies ≡ sum_by steps_of s.books.copies = ap (sum_by steps_of) e.copies in
    let marks : sum_by steps_of_mark s'.books.marks ≡ sum_by steps_of_mark s.books.marks = ap (sum_by steps_of_mark) e.marks in
    omega (arith, invalid, now, was, copies, marks)

-- copies that are flushed, and their marks
flushed_sum : (cs : List ChunkCopy) → All (λ p. p.stage ≡ Flushed) cs → sum_by steps_of cs ≡ steps_at Flushed * length cs
flushed_sum [] all = refl
flushed_sum (c ∷ cs) all =
    let here : steps_at c.stage ≡ steps_at Flushed = ap steps_at (All-head (λ p. p.stage ≡ Flushed) c cs all) in
    let rest = flushed_sum cs (All-tail (λ p. p.stage ≡ Flushed) c cs all) in
    let more : sum_by steps_of (c ∷ cs) ≡ steps_at c.stage + sum_by steps_of cs = sum_by-cons steps_of c cs in
    omega (arith, here, rest, more)

marked_sum : (cs : List ChunkCopy) → sum_by steps_of_mark (map mark_of cs) ≡ 3 * length cs
marked_sum [] = refl
marked_sum (c ∷ cs) =
    let rest = marked_sum cs in
    let more : sum_by steps_of_mark (map mark_of (c ∷ cs)) ≡ 3 + sum_by steps_of_mark (map mark_of cs) = sum_by-cons steps_of_mark (mark_of c) (map mark_of cs) in
    omega (arith, rest, more)

-- the first copies are committed
pub commit_left : (count a : ℕ) (s s' : DueSnap) → Commits count a s.books s'.books → 0 < count → left_in s' < left_in s
commit_left count a s s' e some =
    let first : List ChunkCopy = take count s.books.copies in
    let len : length (take count s.books.copies) ≡ count = length-take-le count s.books.copies e.few in
    let sum = flushed_sum (take count s.books.copies) e.ready in
    let whole = sum_by-take-drop steps_of s.books.copies count in
    let invalid = invalid_same s.books s'.books e.same.untried e.same.marked in
    let copies : sum_by steps_of s'.books.copies ≡ sum_by steps_of (drop count s.books.copies) = ap (sum_by steps_of) e.copies in
    let marks : sum_by steps_of_mark s'.books.marks ≡ sum_by steps_of_mark s.books.marks + 3 * count =
    ap (sum_by steps_of_mark) e.marks ∙ sum_by-append steps_of_mark s.books.marks (map mark_of (take count s.books.copies))
    ∙ ap (λ n. sum_by steps_of_mark s.books.marks + n) (marked_sum (take count s.books.copies) ∙ ap (λ n. 3 * n) len) in
    let now = area_le s'.books.live s'.zeroed s'.firm in
    omega (arith, len, sum, whole, invalid, copies, marks, now, some)

-- a mark is taken away
pub unmark_left : (k : ℕ) (m : Mark) (s s' : DueSnap) → Unmarks k m s.books s'.books → s'.zeroed ≡ s.zeroed → s'.firm ≡ s.firm → left_in s' < left_in s
unmark_left k m s s' e zeroed firm =
    let invalid = invalid_same s.books s'.books e.same.untried e.same.marked in
    let area = area_same s s' e.same.live zeroed firm in
    let copies : sum_by steps_of s'.books.copies ≡ sum_by steps_of s.books.copies = ap (sum_by steps_of) e.copies in
    let marks : sum_by steps_of_mark s'.books.marks + steps_of_mark (get_or s.books.marks k m) ≡ sum_by steps_of_mark s.books.marks =
    ap (λ xs. sum_by steps_of_mark xs + steps_of_mark (get_or s.books.marks k m)) e.marks ∙ sum_by-remove steps_of_mark s.books.marks k m e.within in
    omega (arith, invalid, area, copies, marks, mark_some (get_or s.books.marks k m))

-- each copy still needs some events
pub copies_some : (cs : List ChunkCopy) → 0 < length cs → 8 ≤ sum_by steps_of cs
copies_some [] some = absurd (omega arith)
copies_some (c ∷ cs) some =
    let h = stage_some c.stage in
    let more : sum_by steps_of (c ∷ cs) ≡ steps_at c.stage + sum_by steps_of cs = sum_by-cons steps_of c cs in
    omega (arith, h, more)

-- what is left of a snapshot that is spoiled
pub spoiled_few : (s s' : DueSnap) → SpoilsSnap s.books s'.books → left_in s' ≤ 2
spoiled_few s s' e =
    let invalid = invalid_few s'.books in
    let copies : sum_by steps_of s'.books.copies ≡ 0 = ap (sum_by steps_of) e.copies in
    let marks : sum_by steps_of_mark s'.books.marks ≡ 0 = ap (sum_by steps_of_mark) e.marks in
    omega (arith, invalid, copies, marks, area_dead s' e.live)

-- a snapshot with a copy is spoiled
pub spoil_left : (s s' : DueSnap) → SpoilsSnap s.books s'.books → 0 < length s.books.copies → left_in s' < left_in s
spoil_left s s' e some = (let before = copies_some s.books.copies some in omega (arith, before, spoiled_few s s' e))

-- an invalid mark is written
pub mark_left : (s s' : DueSnap) → s.books.untried ≡ true → s.books.marked ≡ false → WritesMark s.books s'.books → left_in s' < left_in s
mark_left s s' untried marked e =
    let was : steps_of_invalid s.books ≡ 2 = ap (λ x. invalid_at x s.books.marked) untried ∙ ap (λ x. invalid_at true x) marked in
    let now : steps_of_invalid s'.books ≡ 1 = ap (λ x. invalid_at x s'.books.marked) (e.untried ∙ untried) ∙ ap (λ x. invalid_at true x) e.marked in
    let copies : sum_by steps_of s'.books.copies ≡ sum_by steps_of s.books.copies = ap (sum_by steps_of) e.copies in
    let marks : sum_by steps_of_mark s'.books.marks ≡ sum_by steps_of_mark s.books.marks = ap (sum_by steps_of_mark) e.marks in
    omega (arith, was, now, copies, marks, area_dead s' e.live)

-- and is tried
pub tried_left : (s s' : DueSnap) → s.books.untried ≡ true → TriesMark s.books s'.books → left_in s' < left_in s
tried_left s s' was e =
    let a : steps_of_invalid s.books ≡ invalid_at true s.books.marked = ap (λ x. invalid_at x s.books.marked) was in
    let b : steps_of_invalid s'.books ≡ 0 = ap (λ x. invalid_at x s'.books.marked) e.tried in
    let c : sum_by steps_of s'.books.copies ≡ sum_by steps_of s.books.copies = ap (sum_by steps_of) e.copies in
    let d : sum_by steps_of_mark s'.books.marks ≡ sum_by steps_of_mark s.books.marks = ap (sum_by steps_of_mark) e.marks in
    omega (arith, a, some s.books.marked, b, c, d, area_dead s' e.live)
  where
    some : (marked : Bool) → 1 ≤ invalid_at true marked
    some true = omega arith
    some false = omega arith
