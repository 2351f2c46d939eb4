use Rattle.std.proofs.Common.{◌≡◌, ℕ, ◌+◌, ◌-◌, ◌≤◌, length, take, drop, arith, ap, sym, ◌∙◌}
use Rattle.new_store_files.specs.Padding.{padded}
use Rattle.new_store_files.proofs.Padded.{if_padded, length-padded, read_front, read_across}
use Rattle.new_store_files.proofs.padding.PaddedImage.read_at.Goals as goal

pub returns-in-Ok-clause-inside : goal.returns-in-Ok-clause-inside
returns-in-Ok-clause-inside g c =
    if_padded c.args.self.now.end (g.I.Image.bytes c.args.self.now.below.now) (λ b. c.args.at + length c.args.out.now ≤ length b) (λ b is long.
    let low = c.if-self-at.false in
    let fits = c.if-count-left.true in
    let l = length-padded b in
    omega arith)

pub returns-in-Ok-clause-data : goal.returns-in-Ok-clause-data
returns-in-Ok-clause-data g c =
    if_padded c.args.self.now.end (g.I.Image.bytes c.args.self.now.below.now) (λ b. c.read_at.new.out ≡ take (length c.args.out.now) (drop c.args.at b)) (λ b is long.
    let low = c.if-self-at.false in
    let fits = c.if-count-left.true in
    let got = rw is at c.in-Ok.ensures.data in
    got ∙ sym (read_front c.args.at (length c.args.out.now) b (omega arith)))

pub returns-in-Ok-read_across-clause-inside : goal.returns-in-Ok-read_across-clause-inside
returns-in-Ok-read_across-clause-inside g c =
    if_padded c.args.self.now.end (g.I.Image.bytes c.args.self.now.below.now) (λ b. c.args.at + length c.args.out.now ≤ length b) (λ b is long.
    let low = c.if-self-at.false in
    let past = c.if-count-left.false in
    let few = c.in-Ok-read_across.ensures.few in
    let l = length-padded b in
    omega arith)

pub returns-in-Ok-read_across-clause-data : goal.returns-in-Ok-read_across-clause-data
returns-in-Ok-read_across-clause-data g c =
    if_padded c.args.self.now.end (g.I.Image.bytes c.args.self.now.below.now) (λ b. c.read_across.new.out ≡ take (length c.args.out.now) (drop c.args.at b)) (λ b is long.
    let low = c.if-self-at.false in
    let past = c.if-count-left.false in
    let left : ℕ = c.args.self.now.end - c.args.at in
    let n : ℕ = length c.args.out.now in
    let few = c.in-Ok-read_across.ensures.few in
    let ends : c.args.at + (c.args.self.now.end - c.args.at) ≡ length b = omega arith in
    let whole : (c.args.self.now.end - c.args.at) + (length c.args.out.now - (c.args.self.now.end - c.args.at)) ≡ length c.args.out.now = omega arith in
    c.in-Ok-read_across.ensures.data b is ∙ sym (read_across c.args.at left (n - left) b ends few) ∙ ap (λ m. take m (drop c.args.at (padded b))) whole)
