use Rattle.std.proofs.Common.{◌≡◌, inl, inr, ◌+◌, ◌*◌, ◌≤◌, ℕ, length, replicate, arith, ap, ◌∙◌, sym}
use Rattle.std.proofs.lemmas.Bool.{cases_eq}
use Rattle.std.proofs.lemmas.List.{length-replicate}
use Rattle.sector.specs.Bytes.{sector_at, with_sectors}
use Rattle.sector.proofs.Sectors.{length-with_sectors}
use Rattle.device.specs.Marks.{mark_at}
use Rattle.device.proofs.Aside.{zeros_at, zeros_still, zeros_beside}
use Rattle.device.proofs.zeroed.zero_span.Goals as goal
use Rattle.device.proofs.zeroed.zero_span.Goals.{then-has_mark, else-has_mark}

pub loop-s-preserved : goal.loop-s-preserved
loop-s-preserved c =
    let s : ℕ = c.loop-s.s in
    let fits : 512 * (s + 1) ≤ length c.loop-s.now = omega (arith, c.loop-s-test.true, c.requires.inside, c.requires.whole, c.loop-s.invariant.len) in
    elim c.if-has_mark.branch [
      | then-has_mark w ↦ (
          let is : c.if-has_mark.now ≡ with_sectors c.loop-s.now s (replicate 512 0) = w.now-is ∙ w.write_sectors.ensures.all in
          let zero = c.has_mark.ensures.yes w.if-has_mark.true in
          record {
            len = ap length is ∙ length-with_sectors c.loop-s.now s (replicate 512 0) (omega (arith, length-replicate {A = ℕ} 512 0)) ∙ c.loop-s.invariant.len;
            zero = λ t marked lo hi. elim (cases_eq t s) [
              | inl e ↦ ap (λ b. sector_at b t) is ∙ zeros_at c.loop-s.now s t fits e
              | inr ne ↦ ap (λ b. sector_at b t) is ∙ zeros_still c.loop-s.now s t fits (c.loop-s.invariant.zero t marked lo (omega arith))
            ];
            still = λ t before. ap (λ b. sector_at b t) is ∙ zeros_still c.loop-s.now s t fits (c.loop-s.invariant.still t before);
            others = λ t ne. elim (cases_eq t s) [
              | inl e ↦ absurd (ne (ap (λ k. mark_at c.args.marks.now k) e ∙ zero))
              | inr other ↦ ap (λ b. sector_at b t) is ∙ zeros_beside c.loop-s.now s t fits other ∙ c.loop-s.invariant.others t ne
            ];
          }
          )
      | else-has_mark w ↦ (
          let is = w.now-is in
          let not = c.has_mark.ensures.no w.if-has_mark.false in
          record {
            len = ap length is ∙ c.loop-s.invariant.len;
            zero = λ t marked lo hi. elim (cases_eq t s) [
              | inl e ↦ absurd (not (sym (ap (λ k. mark_at c.args.marks.now k) e) ∙ marked))
              | inr ne ↦ ap (λ b. sector_at b t) is ∙ c.loop-s.invariant.zero t marked lo (omega arith)
            ];
            still = λ t before. ap (λ b. sector_at b t) is ∙ c.loop-s.invariant.still t before;
            others = λ t ne. ap (λ b. sector_at b t) is ∙ c.loop-s.invariant.others t ne;
          }
          )
    ]
