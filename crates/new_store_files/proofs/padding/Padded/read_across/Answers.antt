use Rattle.std.proofs.Common.{◌≡◌, ℕ, ◌-◌, length, take, drop, arith, refl, ap, ◌∙◌}
use Rattle.std.proofs.lemmas.List.{length-take-le, length-replicate}
use Rattle.new_store_files.proofs.Padded.{over_zeros}
use Rattle.new_store_files.proofs.padding.Padded.read_across.Goals as goal

pub returns-in-Ok-clause-data : goal.returns-in-Ok-clause-data
returns-in-Ok-clause-data g c = λ b is.
    let n : ℕ = length c.args.out.now in
    let left : ℕ = c.args.left in
    let few = c.requires in
    let zeros = c.fill.ensures.after (λ y e. e) in
    let filled : length c.fill.new.self ≡ n = ap length zeros ∙ length-replicate n 0 in
    let slice : length (take left c.fill.new.self) ≡ left = length-take-le left c.fill.new.self (omega arith) in
    let got = rw is at c.in-Ok.ensures.data in
    over_zeros n left (n - left) c.read_at.new.out c.fill.new.self (take left (drop c.args.at b)) few (got ∙ ap (λ m. take m (drop c.args.at b)) slice) (c.read_at.auto.out ∙ slice) zeros refl
