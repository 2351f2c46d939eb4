use Rattle.std.proofs.Common.{◌≡◌, ap, ◌∙◌, sym, refl}
use Rattle.store.specs.Held.{committed}
use Rattle.merge.specs.Merging.{Merging, due_of}
use Rattle.merge.proofs.Changes.{merging, same_merging, flushed_books}
use Rattle.merge.proofs.merge.Merge.flush_store.Goals as goal

pub returns-clause-books : goal.returns-clause-books
returns-clause-books g c =
    let m = c.self.inside in
    let s = m.store in
    let t = c.flush_last.new.self in
    let v : Merging g.row.B.Denot = merging m.number s.device m.failed s.state s.places.next (committed s.exceptions) m.group m.buffer.items in
    let fields = same_merging m.number t.device m.failed t.state s.state t.places.next s.places.next (committed t.exceptions) (committed s.exceptions) m.group m.group m.buffer.items m.buffer.items
    c.flush_last.ensures.state (ap (λ x. x.next) c.flush_last.ensures.places) (ap committed c.flush_last.ensures.exceptions) refl refl in
    rw (← c.self.view_is) (λ loud. ap (due_of g.B.Block.contents loud) fields ∙ flushed_books g.B.Block.contents loud v t.device c.flush_last.ensures.same)

pub returns-clause-firm : goal.returns-clause-firm
returns-clause-firm g c = rw (← c.self.view_is) c.flush_last.ensures.firm
