use Rattle.std.proofs.Common.{rules, arith, ap, ◌∙◌, get_or, suc, ◌≡◌, ◌+◌, ◌++◌, ◌∷◌, [], List, ℕ, take, sym, subst}
use Rattle.std.proofs.Math.Seq.{take-suc}
use Rattle.command_semantics.specs.State.{Volume}
use Rattle.device_list.proofs.Showing.{shown_at, shown_in, shown_within}
use Rattle.script_runner.specs.Traced.{AreTraced}
use Rattle.script_runner.proofs.TracedLemmas.{traced_more}
use Rattle.script_runner.proofs.tracing.traced_volumes.Goals as goal

pub loop-volume-preserved : goal.loop-volume-preserved
loop-volume-preserved c =
    let all = c.args.volumes.now in
    let i = c.loop-volume.volume-index in
    let v = c.volume-item.result in
    let next : suc i ≡ i + 1 = omega arith in
    let at : get_or all i v ≡ v = search (rules, c.volume-item.is) in
    let here : get_or (shown_in all) i v.shown ≡ v.shown = sym (shown_at all i v c.loop-volume-test.true (sym at)) in
    let taken : take (i + 1) (shown_in all) ≡ take i (shown_in all) ++ v.shown ∷ [] =
    ap (λ n. take n (shown_in all)) (sym next) ∙ take-suc (shown_in all) i v.shown (shown_within all i c.loop-volume-test.true) ∙ ap (λ (w : Volume). take i (shown_in all) ++ w ∷ []) here in
    let page : c.extend_from_slice.new.self.items ≡ c.loop-volume.page.items ++ c.in_ok-text.text = search rules in
    subst (λ (vs : List Volume). AreTraced c.extend_from_slice.new.self.items vs) (sym taken)
    (subst (λ (bs : List ℕ). AreTraced bs (take i (shown_in all) ++ v.shown ∷ [])) (sym page)
    (traced_more c.loop-volume.page.items c.in_ok-text.text (take i (shown_in all)) v.shown c.loop-volume.invariant c.in_ok-text.ensures))
