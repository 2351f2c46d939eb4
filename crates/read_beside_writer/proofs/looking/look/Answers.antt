use Rattle.std.proofs.Common.{◌≡◌, ℕ, ◌≤◌, length, arith, rules, ap, ◌∙◌}
use Rattle.cow_format.specs.Places.{slot}
use Rattle.read_beside_writer.proofs.Saves.{known_later, known_more, all_known, of_history}
use Rattle.read_beside_writer.proofs.looking.look.Goals as goal

pub returns-then-pair-eq0-clause-known : goal.returns-then-pair-eq0-clause-known
returns-then-pair-eq0-clause-known g c = λ h is saving known. known_later c.args.chunk h (g.F.MovingFiles.now c.loop.files) (g.F.MovingFiles.now c.read_slot.new.files) c.loop.pairs.listed.items c.in_ok-pair.ensures.later (c.loop.invariant.known h is saving known)

pub returns-then-pair-eq0-clause-all : goal.returns-then-pair-eq0-clause-all
returns-then-pair-eq0-clause-all g c = λ h is saving known.
    (let now = g.F.MovingFiles.now c.loop.files in
    let end = g.F.MovingFiles.now c.read_slot.new.files in
    let pair = c.in_ok-pair.pair in
    let (m, low, high, here) =
    of_history (g.F.MovingFiles.history c.loop.files) h (λ k. (m : ℕ) × (now ≤ m) × (m ≤ end) × (pair ≡ slot c.args.chunk (k m).store c.len.result)) (c.loop.invariant.history ∙ is) c.in_ok-pair.ensures.data in
    let before = c.loop.invariant.later in
    let count : c.len.result ≡ length c.loop.pairs.listed.items = search rules in
    all_known c.args.chunk h now m (g.F.MovingFiles.now c.args.files.now) end c.loop.pairs.listed.items pair c.requires.some (c.loop.invariant.known h is saving known) low (omega arith) high (here ∙ ap (λ (n : ℕ). slot c.args.chunk (h m).store n) count) c.if-pair-eq0.true)

pub loop-preserved : goal.loop-preserved
loop-preserved g c =
    let now = g.F.MovingFiles.now c.loop.files in
    let end = g.F.MovingFiles.now c.read_slot.new.files in
    let pair = c.in_ok-pair.pair in
    let before = c.loop.invariant.later in
    let count : c.len.result ≡ length c.loop.pairs.listed.items = search rules in
    let after = c.in_ok-pair.ensures.later in
    record {
      known = λ h is saving known.
          (let (m, low, high, here) =
          of_history (g.F.MovingFiles.history c.loop.files) h (λ k. (m : ℕ) × (now ≤ m) × (m ≤ end) × (pair ≡ slot c.args.chunk (k m).store c.len.result)) (c.loop.invariant.history ∙ is) c.in_ok-pair.ensures.data in
          known_more c.args.chunk h now m end c.loop.pairs.listed.items c.add.new.self.listed.items pair c.requires.some saving (c.loop.invariant.known h is saving known) low high (here ∙ ap (λ (n : ℕ). slot c.args.chunk (h m).store n) count) c.if-pair-eq0.false c.in_ok-add.ensures.added);
      history = c.in_ok-pair.ensures.history ∙ c.loop.invariant.history;
      later = omega arith;
    }
