use Rattle.std.proofs.Common.{◌≡◌, ℕ, ◌+◌, ◌*◌, ◌/◌, ◌≤◌, ◌∙◌, ap, length, arith}
use Rattle.cow_salvage.specs.Blanks.{byte_or_blank}
use Rattle.cow_salvage.proofs.BlankBytes.{none_inside, none_read, blank_inside, blank_read}
use Rattle.cow_salvage.proofs.Ends.{on_ok}
use Rattle.cow_salvage.proofs.blanked.BlankedImage.read_at.Goals as goal

pub returns-then-len-eq0-clause-inside : goal.returns-then-len-eq0-clause-inside
returns-then-len-eq0-clause-inside g c =
    let none : length c.args.self.now.spans.items ≡ 0 = let h = c.len.ensures in let e = c.if-len-eq0.true in omega (arith, c.args.self.now.spans.ok.0) in
    on_ok c.read_at.result _ _ (none_inside (g.I.Image.bytes c.args.self.now.below) c.args.self.now.spans.items c.args.at (length c.args.out.now) none) c.read_at.ensures.inside

pub returns-then-len-eq0-clause-data : goal.returns-then-len-eq0-clause-data
returns-then-len-eq0-clause-data g c =
    let none : length c.args.self.now.spans.items ≡ 0 = let h = c.len.ensures in let e = c.if-len-eq0.true in omega (arith, c.args.self.now.spans.ok.0) in
    on_ok c.read_at.result _ _ (none_read (g.I.Image.bytes c.args.self.now.below) c.args.self.now.spans.items c.args.at (length c.args.out.now) c.read_at.new.out none) c.read_at.ensures.data

pub returns-clause-inside : goal.returns-clause-inside
returns-clause-inside g c =
    let inside : c.args.at + length c.args.out.now ≤ c.in_ok-len.len = let h = c.if-len-at.false in let h' = c.if-len-at-2.false in omega arith in
    on_ok c.read_sectors.result _ _ (λ each. blank_inside (g.I.Image.bytes c.args.self.now.below) c.args.self.now.spans.items c.args.at (length c.args.out.now) c.in_ok-len.len c.in_ok-len.ensures.value inside) c.read_sectors.ensures.data

pub returns-clause-data : goal.returns-clause-data
returns-clause-data g c =
    let inside : c.args.at + length c.args.out.now ≤ c.in_ok-len.len = let h = c.if-len-at.false in let h' = c.if-len-at-2.false in omega arith in
    on_ok c.read_sectors.result _ _
    (λ each. blank_read (g.I.Image.bytes c.args.self.now.below) c.args.self.now.spans.items c.args.at (length c.args.out.now) c.in_ok-len.len c.read_sectors.new.out c.in_ok-len.ensures.value inside c.read_sectors.auto.out c.if-at-ne0.false c.if-out-ne0.false
    (λ b is i lt. each b (c.in_ok-len.ensures.bytes ∙ is) i lt ∙ ap (λ xs. byte_or_blank xs b (512 * (c.args.at / 512) + i)) c.as_slice-spans.ensures.value))
    c.read_sectors.ensures.data
