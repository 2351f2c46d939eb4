-- One letter more ends a line, which is given or not, or it is of the same line.
use Rattle.std.proofs.Common.{arith, ◌≡◌, ◌≤◌, ℕ, subst, ◌∙◌, ◌++◌, ◌∷◌, ◌+◌, ◌-◌, [], Some, ap, sym, drop, map, take, slice_index_or}
use Rattle.serve_files.specs.Listing.{Given as GivenWords, is_given, left_out}
use Rattle.serve_files.specs.Names.{text_in, text_of}
use Rattle.serve_files.proofs.Lines.{begins, between, goes_on, is_left, is_not_left, same_line}
use Rattle.serve_files.proofs.listing.Given.leaves_out.Goals as goal
use Rattle.serve_files.proofs.listing.Given.leaves_out.Goals.{then-text-place-eq10+else-not-serves, else-text-place-eq10}

pub returns-then-not-serves : goal.returns-then-not-serves
returns-then-not-serves c =
    let given : GivenWords = record { merge = text_in c.args.self.merge; cows = map text_of c.args.self.cows.now; others = c.args.self.others } in
    let line = drop c.loop-place.from (take c.loop-place.place c.args.text.now) in
    let same = between c.loop-place.from c.loop-place.place c.args.text.now c.loop-place.invariant.0 in
    ap Some (sym same) ∙ sym (is_left given line c.args.text.now c.loop-place.place 0 c.loop-place-test.true c.if-text-place-eq10.true (ap (is_given given) same ∙ sym c.serves.ensures ∙ c.if-not-serves.true)) ∙ c.loop-place.invariant.1

pub loop-place-preserved : goal.loop-place-preserved
loop-place-preserved c =
    let given : GivenWords = record { merge = text_in c.args.self.merge; cows = map text_of c.args.self.cows.now; others = c.args.self.others } in
    let text = c.args.text.now in
    let place = c.loop-place.place in
    let line = drop c.loop-place.from (take place text) in
    let same = between c.loop-place.from place text c.loop-place.invariant.0 in
    let kept : ℕ → Type 0 = λ from. (from ≤ place + 1) × (left_out given (drop from (take (place + 1) text)) (drop (place + 1) text) ≡ left_out given [] text) in
    elim c.if-text-place-eq10.branch [
      | then-text-place-eq10+else-not-serves w ↦
          subst kept (sym w.from-is) (
            grind arith,
            (ap (λ l. left_out given l (drop (place + 1) text)) (begins place text)
                ∙ sym (is_not_left given line text place 0 c.loop-place-test.true w.if-text-place-eq10.true (ap (is_given given) same ∙ sym w.serves.ensures ∙ w.if-not-serves.false)) ∙ c.loop-place.invariant.1),
          )
      | else-text-place-eq10 w ↦
          subst kept (sym w.from-is) (
            grind (arith, c.loop-place.invariant.0),
            (ap (λ l. left_out given l (drop (place + 1) text)) (goes_on c.loop-place.from place text 0 c.loop-place.invariant.0 c.loop-place-test.true)
                ∙ sym (same_line given line text place 0 c.loop-place-test.true w.if-text-place-eq10.false) ∙ c.loop-place.invariant.1),
          )
    ]
