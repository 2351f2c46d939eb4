use Rattle.std.proofs.Common.{◌≡◌, ℕ, ◌+◌, ◌≤◌, Some, length, arith, subst, ◌∙◌}
use Rattle.std.proofs.lemmas.Result.{on_ok_weaker}
use Rattle.cow_format.specs.Pairs.{pairs_of}
use Rattle.cow_image.specs.Shown.{shown}
use Rattle.read_beside_writer.specs.Moments.{AreRead, IsLive}
use Rattle.read_beside_writer.proofs.Saves.{known_later, all_shown, of_history}
use Rattle.read_beside_writer.proofs.snapshot.LiveSnapshot.read.Goals as goal

pub returns-clause-saves : goal.returns-clause-saves
returns-clause-saves g c = on_ok_weaker c.is_live.result (λ got h is saving within.
    (let s = c.args.self.now in
    let chunk = s.chunk in
    let start = g.F.MovingFiles.now s.files in
    let read = g.F.MovingFiles.now c.read_origin.new.self in
    let end = g.F.MovingFiles.now c.put_copies.new.files in
    let bytes = c.read_origin.new.out in
    let out = c.put_copies.new.out in
    let there : g.F.MovingFiles.history c.read_origin.new.self ≡ Some h = c.in_default.ensures.history ∙ is in
    let here : g.F.MovingFiles.history c.look.new.files ≡ Some h = c.in_ok-look.ensures.history ∙ there in
    let past : g.F.MovingFiles.history c.put_copies.new.files ≡ Some h = c.in_ok-put_copies.ensures.history ∙ here in
    let origin = of_history (g.F.MovingFiles.history s.files) h (λ k. AreRead (λ m. (k m).origin) start read c.args.at bytes) is c.in_default.ensures.data in
    let known = known_later chunk h start read s.pairs.listed.items c.in_default.ensures.later (s.known h is saving) in
    let (m, low, live) = of_history (g.F.MovingFiles.history c.put_copies.new.files) h (λ k. (m : ℕ) × (end ≤ m) × IsLive chunk (k m)) past got in
    let long : length bytes ≡ length c.args.out.now = c.read_origin.auto.out in
    let asked = c.requires.inside in
    let inside : c.args.at + length bytes ≤ length (h 0).origin = omega arith in
    let are = c.in_ok-put_copies.ensures.shown h start read here (saving, inside, origin, c.in_ok-look.ensures.all h there saving known, c.in_ok-look.ensures.known h there saving known) in
    subst (λ (n : ℕ). out ≡ shown chunk (h 0).origin (h 0).store (pairs_of chunk (h 0).store) c.args.at n) long (all_shown chunk h end m c.args.at (length bytes) out c.put_copies.auto.out are low live))) c.is_live.ensures.live
