use Rattle.std.proofs.Common.{◌≡◌, inl, inr, ◌+◌, ◌*◌, ◌-◌, ℕ, length, arith, ap, ◌∙◌}
use Rattle.sector.specs.Bytes.{sector_at}
use Rattle.device.proofs.Aside.{sectors_long, write_out, replaced_in}
use Rattle.device.proofs.kept.replace.Goals as goal

pub returns-then-from-to-clause-replaced : goal.returns-then-from-to-clause-replaced
returns-then-from-to-clause-replaced c i less lo hi =
    let test = c.if-from-to.true in
    let from = c.max-from.ensures in
    let to = c.min-to.ensures in
    ap (λ b. sector_at b (c.args.place + i)) c.write_sectors.ensures.all
    ∙ replaced_in c.args.aside.now c.args.now.now c.sectors_of.result.now c.args.place c.args.span.first c.max-from.result c.min-to.result i (omega arith) (omega arith) (omega arith) (omega (arith, c.requires.inside)) (omega (arith, c.requires.there)) c.sectors_of.ensures

pub returns-then-from-to-clause-others : goal.returns-then-from-to-clause-others
returns-then-from-to-clause-others c j out =
    let test = c.if-from-to.true in
    let from = c.max-from.ensures in
    let to = c.min-to.ensures in
    let n : ℕ = c.min-to.result - c.max-from.result in
    let long : length c.sectors_of.result.now ≡ 512 * n = ap length c.sectors_of.ensures ∙ sectors_long c.args.now.now c.max-from.result n (omega (arith, c.requires.inside)) in
    ap (λ b. sector_at b j) c.write_sectors.ensures.all
    ∙ write_out c.args.aside.now c.sectors_of.result.now (c.args.place + (c.max-from.result - c.args.span.first)) n j (omega (arith, c.requires.there)) long (elim out [ inl lt ↦ inl (omega arith) | inr ge ↦ inr (omega arith) ])

pub returns-then-from-to-clause-outside : goal.returns-then-from-to-clause-outside
returns-then-from-to-clause-outside c i less out =
    let test = c.if-from-to.true in
    let from = c.max-from.ensures in
    let to = c.min-to.ensures in
    let n : ℕ = c.min-to.result - c.max-from.result in
    let long : length c.sectors_of.result.now ≡ 512 * n = ap length c.sectors_of.ensures ∙ sectors_long c.args.now.now c.max-from.result n (omega (arith, c.requires.inside)) in
    ap (λ b. sector_at b (c.args.place + i)) c.write_sectors.ensures.all
    ∙ write_out c.args.aside.now c.sectors_of.result.now (c.args.place + (c.max-from.result - c.args.span.first)) n (c.args.place + i) (omega (arith, c.requires.there)) long (elim out [ inl lt ↦ inl (omega arith) | inr ge ↦ inr (omega arith) ])
