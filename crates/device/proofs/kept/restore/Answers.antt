use Rattle.std.proofs.Common.{◌≡◌, inl, inr, ◌+◌, ◌*◌, ◌≤◌, ℕ, length, arith, ap, ◌∙◌, sym}
use Rattle.std.proofs.lemmas.Bool.{cases_eq}
use Rattle.sector.specs.Bytes.{sector_at, with_sectors}
use Rattle.sector.proofs.Sectors.{length-with_sectors}
use Rattle.device.specs.Marks.{mark_at}
use Rattle.device.proofs.Aside.{sectors_long, back_at, back_beside}
use Rattle.device.proofs.kept.restore.Goals as goal
use Rattle.device.proofs.kept.restore.Goals.{then-has_mark, else-has_mark}

pub write_sectors-requires : goal.write_sectors-requires
write_sectors-requires c =
    let i : ℕ = c.loop-i.i in
    let there : 512 * (c.args.place + i + 1) ≤ length c.args.aside.now = omega (arith, c.loop-i-test.true, c.requires.there) in
    let long : length c.sectors_of.result.now ≡ 512 * 1 = ap length c.sectors_of.ensures ∙ sectors_long c.args.aside.now (c.args.place + i) 1 there in
    omega (arith, c.loop-i-test.true, c.requires.inside, c.requires.bytes, c.loop-i.invariant.len)

pub loop-i-preserved : goal.loop-i-preserved
loop-i-preserved c =
    let i : ℕ = c.loop-i.i in
    let p : ℕ = c.args.place + i in
    let s : ℕ = c.args.span.first + i in
    let fits : 512 * (s + 1) ≤ length c.loop-i.now = omega (arith, c.loop-i-test.true, c.requires.inside, c.requires.bytes, c.loop-i.invariant.len) in
    let there : 512 * (p + 1) ≤ length c.args.aside.now = omega (arith, c.loop-i-test.true, c.requires.there) in
    elim c.if-has_mark.branch [
      | then-has_mark w ↦ (
          let values = w.sectors_of.result.now in
          let is : c.if-has_mark.now ≡ with_sectors c.loop-i.now s values = w.now-is ∙ w.write_sectors.ensures.all in
          let of = w.sectors_of.ensures in
          let long : length values ≡ 512 * 1 = ap length of ∙ sectors_long c.args.aside.now p 1 there in
          let marked = c.has_mark.ensures.yes w.if-has_mark.true in
          record {
            len = ap length is ∙ length-with_sectors c.loop-i.now s values (omega arith) ∙ c.loop-i.invariant.len;
            back = λ k lt kept. elim (cases_eq k i) [
              | inl e ↦ ap (λ b. sector_at b (c.args.span.first + k)) is ∙ back_at c.loop-i.now c.args.aside.now values s p (c.args.span.first + k) fits there of (omega arith) ∙ ap (λ j. sector_at c.args.aside.now (c.args.place + j)) (sym e)
              | inr ne ↦ ap (λ b. sector_at b (c.args.span.first + k)) is ∙ back_beside c.loop-i.now c.args.aside.now values s p (c.args.span.first + k) fits there of (omega arith) ∙ c.loop-i.invariant.back k (omega arith) kept
            ];
            outside = λ t out. ap (λ b. sector_at b t) is ∙ back_beside c.loop-i.now c.args.aside.now values s p t fits there of (elim out [ inl lt ↦ omega arith | inr ge ↦ omega (arith, c.loop-i-test.true) ]) ∙ c.loop-i.invariant.outside t out;
            others = λ t ne. elim (cases_eq t s) [
              | inl e ↦ absurd (ne (ap (mark_at c.args.marks.now) e ∙ marked))
              | inr other ↦ ap (λ b. sector_at b t) is ∙ back_beside c.loop-i.now c.args.aside.now values s p t fits there of other ∙ c.loop-i.invariant.others t ne
            ];
          }
          )
      | else-has_mark w ↦ (
          let is = w.now-is in
          let not = c.has_mark.ensures.no w.if-has_mark.false in
          record {
            len = ap length is ∙ c.loop-i.invariant.len;
            back = λ k lt kept. elim (cases_eq k i) [
              | inl e ↦ absurd (not (sym (ap (λ j. mark_at c.args.marks.now (c.args.span.first + j)) e) ∙ kept))
              | inr ne ↦ ap (λ b. sector_at b (c.args.span.first + k)) is ∙ c.loop-i.invariant.back k (omega arith) kept
            ];
            outside = λ t out. ap (λ b. sector_at b t) is ∙ c.loop-i.invariant.outside t out;
            others = λ t ne. ap (λ b. sector_at b t) is ∙ c.loop-i.invariant.others t ne;
          }
          )
    ]
