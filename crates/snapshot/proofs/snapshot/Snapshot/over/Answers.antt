-- A new snapshot has the pairs that its store's bytes hold, and nothing under way.
use Rattle.std.proofs.Common.{◌≡◌, ◌*◌, ◌∙◌, ap, length, sym, refl, [], Bool, true, false}
use Rattle.std.proofs.lemmas.Bool.{false≢true, true≢false}
use Rattle.plain_machine.specs.Plain.{did_overflow, overflow_of}
use Rattle.store.specs.Held.{committed, pending, pairs_pending}
use Rattle.store.specs.Loading.{is_begun}
use Rattle.snapshot.proofs.Stores.{store_holds, store_alone, none_pending}
use Rattle.snapshot.proofs.Steps.{in_step}
use Rattle.snapshot.proofs.snapshot.Snapshot.over.Goals as goal

-- no write of a new one found its store full
new_strict : (overflow : Bool) → did_overflow (overflow_of overflow) ≡ false
new_strict true = refl
new_strict false = refl

pub returns-clause-new : goal.returns-clause-new
returns-clause-new g c = λ origin fits.
    let s = c.args.store in
    let bytes = g.B.Block.contents s.device in
    let whole : length bytes ≡ 512 * s.state.size = g.met.B.Block.whole s.device ∙ ap (λ n. 512 * n) (sym s.size) in
    let begun : pairs_pending s.exceptions ≡ [] = none_pending (pending s.exceptions) c.requires.idle in
    record {
      live = refl;
      strict = ap did_overflow c.overflowing.ensures ∙ new_strict c.args.overflow;
      tried = refl;
      begun = begun;
      sure = c.requires.sure;
      copies = c.new.ensures.items;
      marks = c.new-2.ensures.items;
      fits = fits;
      text = store_alone s.state.chunk s.state.origin s.state.size bytes (committed s.exceptions) (pairs_pending s.exceptions) begun
          (store_holds s.state.chunk s.state.origin s.state.size s.places.next s.state.copying bytes (committed s.exceptions) (pairs_pending s.exceptions) s.front.some s.front.allowed whole s.given);
      stored = λ loud. (s.stored loud).listed (ap is_begun c.requires.ready);
    }

pub returns-clause-in_step : goal.returns-clause-in_step
returns-clause-in_step g c =
    let s = c.args.store in
    in_step g.B.Block.contents g.B.Block.layers g.B.Block.size _ s.area.bytes.items c.requires.ready (λ _. c.requires.copying) (λ is. absurd (false≢true is)) (λ is. absurd (true≢false is)) c.requires.valid s.size s.given s.stored
