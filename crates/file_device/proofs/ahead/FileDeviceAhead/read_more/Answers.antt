use Rattle.std.proofs.Common.{◌≡◌, ℕ, ◌*◌, ◌≤◌, ◌∷◌, ◌∙◌, List, true, false, ap, sym, subst, refl, take, length, arith, rules}
use Rattle.std.specs.Prelude.{◌&&◌, not, if◌then◌else◌, Some}
use Rattle.std.proofs.lemmas.List.{places}
use Rattle.file_calls.specs.Calls.{Call, Read}
use Rattle.file_calls.specs.Kept.{now_in, MayHold}
use Rattle.file_device.specs.Pieces.{IsPieceOf, pieces_in}
use Rattle.file_device.specs.Layers.{at_first}
use Rattle.file_device.specs.Laws.{answers, loud_before}
use Rattle.file_device.proofs.CallsAhead.{got, read_kept, read_same, read_stop, read_long, piece_read}
use Rattle.file_device.proofs.CallsMore.{more_still, added, none_has, and_false, passes}
use Rattle.file_device.proofs.ahead.FileDeviceAhead.read_more.Goals as goal
use Rattle.file_device.specs.Laws.{unbroken}
use Rattle.file_device.proofs.ahead.FileDeviceAhead.read_more.Goals.{then-self, else-self}

pub invariant_of-self-then-not-fill-clause-long : goal.invariant_of-self-then-not-fill-clause-long
invariant_of-self-then-not-fill-clause-long g c =
    let d = c.args.self.now in
    let bytes : List ℕ = take (512 * c.args.range.count) c.fill.new.self.bytes.items in
    let whole : length bytes ≡ 512 * c.args.range.count = grind (arith, places, c.fill.ensures.len, c.in_ok-piece.ensures.room) in
    read_long (at_first (g.S.Start.first d.number) d.sectors) (g.C.FileCalls.history d.file) _ d.sectors c.args.range.first c.args.range.count bytes c.fill.result d.long c.requires.inside whole c.fill.ensures.noted

pub invariant_of-self-then-not-fill-clause-there : goal.invariant_of-self-then-not-fill-clause-there
invariant_of-self-then-not-fill-clause-there g c =
    let d = c.args.self.now in
    let start = at_first (g.S.Start.first d.number) d.sectors in
    let past : List Call = g.C.FileCalls.history d.file in
    let bytes : List ℕ = take (512 * c.args.range.count) c.fill.new.self.bytes.items in
    let whole : length bytes ≡ 512 * c.args.range.count = grind (arith, places, c.fill.ensures.len, c.in_ok-piece.ensures.room) in
    more_still start past _ d.sectors c.args.range.first c.args.range.count bytes c.fill.result (pieces_in c.make_way.new.self) d.long c.requires.inside whole c.fill.ensures.noted c.make_way.ensures.apart (c.make_way.ensures.all (now_in start past) d.sectors d.there)

pub returns-then-not-fill-clause-told : goal.returns-then-not-fill-clause-told
returns-then-not-fill-clause-told g c =
    let d = c.args.self.now in
    let b : List ℕ = now_in (at_first (g.S.Start.first d.number) d.sectors) (g.C.FileCalls.history d.file) in
    sym (answers c.if-self.self c.make_way.new.self _ c.args.range.first c.args.range.count
    ∙ ap (λ x. not c.if-self.self && x) (none_has b d.sectors c.args.range.first c.args.range.count (pieces_in c.make_way.new.self) c.requires.some (c.make_way.ensures.all b d.sectors d.there) c.make_way.ensures.apart)
    ∙ and_false (not c.if-self.self))

pub returns-then-not-fill-clause-does : goal.returns-then-not-fill-clause-does
returns-then-not-fill-clause-does g c =
    let d = c.args.self.now in
    let start = at_first (g.S.Start.first d.number) d.sectors in
    let past : List Call = g.C.FileCalls.history d.file in
    let bytes : List ℕ = take (512 * c.args.range.count) c.fill.new.self.bytes.items in
    record {
      loud = λ loud. loud_before start (Read _ _ _) past d.is_broken d.pieces (read_kept start past _ _ _ _ c.fill.ensures.noted c.if-self.self c.make_way.new.self loud);
      same = λ loud. ap (now_in start) c.fill.ensures.noted ∙ read_same start past d.sectors c.args.range.first c.args.range.count bytes c.fill.result d.long c.requires.inside (read_kept start past _ _ _ _ c.fill.ensures.noted c.if-self.self c.make_way.new.self loud);
      stop = λ loud s' v held. read_stop start past d.sectors c.args.range.first c.args.range.count bytes c.fill.result d.long c.requires.inside (read_kept start past _ _ _ _ c.fill.ensures.noted c.if-self.self c.make_way.new.self loud) s' v (subst (λ h. MayHold start h s' v) c.fill.ensures.noted held);
      sized = refl;
      faulty = refl;
      counted = refl;
    }

pub invariant_of-self-2-clause-long : goal.invariant_of-self-2-clause-long
invariant_of-self-2-clause-long g c =
    let d = c.args.self.now in
    let bytes : List ℕ = take (512 * c.args.range.count) c.fill.new.self.bytes.items in
    let whole : length bytes ≡ 512 * c.args.range.count = grind (arith, places, c.fill.ensures.len, c.in_ok-piece.ensures.room) in
    read_long (at_first (g.S.Start.first d.number) d.sectors) (g.C.FileCalls.history d.file) _ d.sectors c.args.range.first c.args.range.count bytes c.fill.result d.long c.requires.inside whole c.fill.ensures.noted

pub invariant_of-self-2-clause-there : goal.invariant_of-self-2-clause-there
invariant_of-self-2-clause-there g c =
    let d = c.args.self.now in
    let start = at_first (g.S.Start.first d.number) d.sectors in
    let past : List Call = g.C.FileCalls.history d.file in
    let now : List ℕ = now_in start (g.C.FileCalls.history c.fill.new.file) in
    let bytes : List ℕ = take (512 * c.args.range.count) c.fill.new.self.bytes.items in
    let whole : length bytes ≡ 512 * c.args.range.count = grind (arith, places, c.fill.ensures.len, c.in_ok-piece.ensures.room) in
    let room : 512 * c.args.range.count ≤ length c.fill.new.self.bytes.items = omega (arith, c.fill.ensures.len, c.in_ok-piece.ensures.room) in
    let filled : c.fill.result ≡ true = cc in
    let noted : g.C.FileCalls.history c.fill.new.file ≡ Read (512 * c.args.range.first) (512 * c.args.range.count) (Some bytes) ∷ past = c.fill.ensures.noted ∙ ap (λ b. Read (512 * c.args.range.first) (512 * c.args.range.count) (got b bytes) ∷ past) filled in
    added (IsPieceOf now d.sectors) (pieces_in c.make_way.new.self) (pieces_in c.add.new.self) c.fill.new.self c.add.result c.add.ensures.done c.add.ensures.undone
    (more_still start past (g.C.FileCalls.history c.fill.new.file) d.sectors c.args.range.first c.args.range.count bytes c.fill.result (pieces_in c.make_way.new.self) d.long c.requires.inside whole c.fill.ensures.noted c.make_way.ensures.apart (c.make_way.ensures.all (now_in start past) d.sectors d.there))
    (piece_read start past (g.C.FileCalls.history c.fill.new.file) d.sectors c.args.range.first c.args.range.count c.fill.new.self d.long c.requires.inside c.requires.some room (c.fill.ensures.first filled) (c.fill.ensures.count ∙ ap (λ b. if b then c.args.range.count else 0) filled) noted)

pub returns-in_err-add-clause-does : goal.returns-in_err-add-clause-does
returns-in_err-add-clause-does g c =
    let d = c.args.self.now in
    let start = at_first (g.S.Start.first d.number) d.sectors in
    let past : List Call = g.C.FileCalls.history d.file in
    let bytes : List ℕ = take (512 * c.args.range.count) c.fill.new.self.bytes.items in
    record {
      loud = λ loud. loud_before start (Read _ _ _) past d.is_broken d.pieces (read_kept start past _ _ _ _ c.fill.ensures.noted c.if-self.self c.add.new.self loud);
      same = λ loud. ap (now_in start) c.fill.ensures.noted ∙ read_same start past d.sectors c.args.range.first c.args.range.count bytes c.fill.result d.long c.requires.inside (read_kept start past _ _ _ _ c.fill.ensures.noted c.if-self.self c.add.new.self loud);
      stop = λ loud s' v held. read_stop start past d.sectors c.args.range.first c.args.range.count bytes c.fill.result d.long c.requires.inside (read_kept start past _ _ _ _ c.fill.ensures.noted c.if-self.self c.add.new.self loud) s' v (subst (λ h. MayHold start h s' v) c.fill.ensures.noted held);
      sized = refl;
      faulty = refl;
      counted = refl;
    }

pub returns-clause-does : goal.returns-clause-does
returns-clause-does g c =
    let d = c.args.self.now in
    let start = at_first (g.S.Start.first d.number) d.sectors in
    let past : List Call = g.C.FileCalls.history d.file in
    let bytes : List ℕ = take (512 * c.args.range.count) c.fill.new.self.bytes.items in
    record {
      loud = λ loud. loud_before start (Read _ _ _) past d.is_broken d.pieces (read_kept start past _ _ _ _ c.fill.ensures.noted c.if-self.self c.add.new.self loud);
      same = λ loud. ap (now_in start) c.fill.ensures.noted ∙ read_same start past d.sectors c.args.range.first c.args.range.count bytes c.fill.result d.long c.requires.inside (read_kept start past _ _ _ _ c.fill.ensures.noted c.if-self.self c.add.new.self loud);
      stop = λ loud s' v held. read_stop start past d.sectors c.args.range.first c.args.range.count bytes c.fill.result d.long c.requires.inside (read_kept start past _ _ _ _ c.fill.ensures.noted c.if-self.self c.add.new.self loud) s' v (subst (λ h. MayHold start h s' v) c.fill.ensures.noted held);
      sized = refl;
      faulty = refl;
      counted = refl;
    }

pub returns-clause-beside : goal.returns-clause-beside
returns-clause-beside g c is =
    let d = c.args.self.now in
    let whole : d.is_broken ≡ false = elim c.if-self.branch [ then-self w ↦ (let no : d.is_broken ≡ false = search rules in no) | else-self w ↦ (let no : d.is_broken ≡ false = search rules in no) ] in
    let goes_on : c.if-self.self ≡ false = cc in
    passes (now_in (at_first (g.S.Start.first d.number) d.sectors) (g.C.FileCalls.history d.file)) d.sectors c.args.range.first c.args.range.count d.pieces c.make_way.new.self c.add.new.self c.fill.new.self d.is_broken c.if-self.self _ _ whole goes_on c.requires.some d.there c.make_way.ensures.same c.in_ok-add.ensures.done

pub returns-then-self-2-clause-sure : goal.returns-then-self-2-clause-sure
returns-then-self-2-clause-sure g c = λ all.
    (let d = c.args.self.now in
    let none : (d.is_broken ≡ false) × (d.has_failed ≡ false) = unbroken (g.C.FileCalls.history d.file) d.is_broken d.has_failed d.broken d.failed all in
    elim c.if-self.branch [
      | then-self w ↦ (let is : d.is_broken ≡ true = search rules in absurd (let no : true ≡ false = sym is ∙ none.0 in cc))
      | else-self w ↦ (let is : d.has_failed ≡ true = search rules in absurd (let no : true ≡ false = sym is ∙ none.1 in cc))
    ])
