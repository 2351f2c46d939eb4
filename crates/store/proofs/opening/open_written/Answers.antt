use Rattle.std.proofs.Common.{◌≡◌, inl, inr, ℕ, ◌+◌, ◌-◌, ◌*◌, ◌/◌, ◌<◌, ◌∙◌, List, [], length, arith, ap, refl, sym, subst, map, true, false}
use Rattle.std.proofs.lemmas.List.{nil_from_length}
use Rattle.std.specs.Prelude.{AllPairs}
use Rattle.std.specs.List.{All}
use Rattle.sector.specs.declared.pair.Pair.{Pair}
use Rattle.cow_format.specs.Pairs.{pairs_of, IsApart, IsInside}
use Rattle.chunk_alloc.specs.Greatest.{IsGreatest}
use Rattle.exception_arena.specs.declared.begun.Begun.{Begun}
use Rattle.exception_arena.specs.Pending.{pairs}
use Rattle.store.specs.Held.{committed, pending}
use Rattle.store.specs.Stored.{AreGiven, new_of}
use Rattle.store.specs.declared.state.State.{State}
use Rattle.store.specs.Loaded.{IsRead, IsCleared}
use Rattle.store.proofs.Opened.{front_loaded, stored_loaded, formed_loaded, greatest_inside, refused_formed}
use Rattle.store.proofs.Heads.{head_loaded}
use Rattle.store.proofs.AreaReads.{areas_are_read}
use Rattle.store.proofs.Given.{given_loaded}
use Rattle.store.proofs.opening.open_written.Goals as goal

pub returns-in-Err-hold_formed-clause-refused : goal.returns-in-Err-hold_formed-clause-refused
returns-in-Err-hold_formed-clause-refused g c =
    let ps = c.read_areas.new.pairs.items in
    let area = c.read_areas.new.area.bytes.items in
    let bytes = g.B.Block.contents c.args.device in
    let size : c.sectors-size.result ≡ g.B.Block.size c.args.device = c.sectors-size.ensures in
    let current = c.in-Ok-read_areas.current in
    let read : IsRead c.args.chunk (g.B.Block.size c.args.device) bytes current ps area = rw c.in-Ok.ensures.first at c.in-Ok-read_areas.ensures.read in
    elim c.in-Err-hold_formed.ensures.refused [
      | inl memory ↦ inr (inl memory)
      | inr (damaged, not) ↦ inr (inr (damaged, refused_formed c.args.chunk c.args.origin (g.B.Block.size c.args.device) current bytes area ps read (rw (c.as_slice.ensures.value, size) at not)))
    ]

pub after_load-places-requires-clause-small : goal.after_load-places-requires-clause-small
after_load-places-requires-clause-small g c = rw c.sectors-size.ensures (g.met.B.Block.small c.args.device)

pub after_load-places-requires-clause-near : goal.after_load-places-requires-clause-near
after_load-places-requires-clause-near g c =
    let ps = c.read_areas.new.pairs.items in
    let area = c.read_areas.new.area.bytes.items in
    let bytes = g.B.Block.contents c.args.device in
    let size : c.sectors-size.result ≡ g.B.Block.size c.args.device = c.sectors-size.ensures in
    let current = c.in-Ok-read_areas.current in
    let read : IsRead c.args.chunk (g.B.Block.size c.args.device) bytes current ps area = rw c.in-Ok.ensures.first at c.in-Ok-read_areas.ensures.read in
    let small = g.met.B.Block.small c.args.device in
    let inside : All (IsInside c.args.chunk c.args.origin (g.B.Block.size c.args.device)) ps = rw (c.as_slice.ensures.value, size) at c.in-Ok-hold_formed.ensures.inside in
    let lt = greatest_inside c.args.chunk c.args.origin (g.B.Block.size c.args.device) c.greatest_new.result ps c.requires.some c.requires.large inside (rw c.as_slice-2.ensures.value at c.greatest_new.ensures) in
    omega arith

pub invariant_of-result-clause-front : goal.invariant_of-result-clause-front
invariant_of-result-clause-front g c =
    let ps = c.read_areas.new.pairs.items in
    let area = c.read_areas.new.area.bytes.items in
    let area' = c.clear_load-left.new.area.bytes.items in
    let bytes = g.B.Block.contents c.args.device in
    let size : c.sectors-size.result ≡ g.B.Block.size c.args.device = c.sectors-size.ensures in
    let current = c.in-Ok-read_areas.current in
    let read : IsRead c.args.chunk (g.B.Block.size c.args.device) bytes current ps area = rw c.in-Ok.ensures.first at c.in-Ok-read_areas.ensures.read in
    let there : IsRead c.args.chunk c.sectors-size.result bytes current ps area = subst (λ (n : ℕ). IsRead c.args.chunk n bytes current ps area) (sym size) read in
    let held : committed c.in-Ok-hold_formed.exceptions ≡ ps = c.in-Ok-hold_formed.ensures.committed ∙ c.as_slice.ensures.value in
    let filled : ℕ = c.len.result - current * (32 * c.args.chunk) in
    let low = read.low in
    let high = read.high in
    let many : c.len.result ≡ length ps = omega arith in
    let count : length ps ≡ current * (32 * c.args.chunk) + (c.len.result - current * (32 * c.args.chunk)) = omega arith in
    let below : c.len.result - current * (32 * c.args.chunk) < 32 * c.args.chunk = omega arith in
    let chunk : c.read_areas.new.area.chunk ≡ c.args.chunk = c.in-Ok-read_areas.ensures.chunk ∙ c.in-Ok.ensures.first in
    let clear : IsCleared c.args.chunk (c.len.result - current * (32 * c.args.chunk)) area c.clear_load-left.result area' = rw chunk at c.clear_load-left.ensures.cleared in
    let state : State = record { chunk = c.args.chunk; origin = c.args.origin; size = c.sectors-size.result; current = current; filled = c.len.result - current * (32 * c.args.chunk); zeroed = false; firm = false; sure = 0; left = c.clear_load-left.result; awaits = true; copying = true; valid = true } in
    let whole : length area' ≡ 512 * c.args.chunk = c.clear_load-left.new.area.whole ∙ ap (λ n. 512 * n) (c.clear_load-left.ensures.chunk ∙ chunk) in
    rw held (front_loaded state bytes area area' ps c.requires.some c.requires.allowed c.requires.size refl there count below clear whole refl refl)

pub invariant_of-result-clause-given : goal.invariant_of-result-clause-given
invariant_of-result-clause-given g c =
    let ps = c.read_areas.new.pairs.items in
    let area = c.read_areas.new.area.bytes.items in
    let area' = c.clear_load-left.new.area.bytes.items in
    let bytes = g.B.Block.contents c.args.device in
    let size : c.sectors-size.result ≡ g.B.Block.size c.args.device = c.sectors-size.ensures in
    let current = c.in-Ok-read_areas.current in
    let read : IsRead c.args.chunk (g.B.Block.size c.args.device) bytes current ps area = rw c.in-Ok.ensures.first at c.in-Ok-read_areas.ensures.read in
    let there : IsRead c.args.chunk c.sectors-size.result bytes current ps area = subst (λ (n : ℕ). IsRead c.args.chunk n bytes current ps area) (sym size) read in
    let held : committed c.in-Ok-hold_formed.exceptions ≡ ps = c.in-Ok-hold_formed.ensures.committed ∙ c.as_slice.ensures.value in
    let inside : All (IsInside c.args.chunk c.args.origin c.sectors-size.result) ps = rw c.as_slice.ensures.value at c.in-Ok-hold_formed.ensures.inside in
    let apart : AllPairs IsApart ps = rw c.as_slice.ensures.value at c.in-Ok-hold_formed.ensures.apart in
    let formed = formed_loaded c.args.chunk c.args.origin c.sectors-size.result current bytes area ps c.requires.some there inside apart in
    let greatest : IsGreatest (map new_of ps) c.greatest_new.result = rw c.as_slice-2.ensures.value at c.greatest_new.ensures in
    let next = c.after_load-places.ensures.least (map new_of ps) greatest in
    let nil : pending c.in-Ok-hold_formed.exceptions ≡ [] = nil_from_length (pending c.in-Ok-hold_formed.exceptions) c.in-Ok-hold_formed.ensures.pending in
    subst (λ (P : List Begun). AreGiven c.args.chunk c.args.origin c.sectors-size.result c.after_load-places.result.next true (committed c.in-Ok-hold_formed.exceptions) (pairs P)) (sym nil)
    (subst (λ (C : List Pair). AreGiven c.args.chunk c.args.origin c.sectors-size.result c.after_load-places.result.next true C []) (sym held)
    (given_loaded c.args.chunk c.args.origin c.sectors-size.result c.after_load-places.result.next ps formed next))

pub invariant_of-result-clause-stored : goal.invariant_of-result-clause-stored
invariant_of-result-clause-stored g c = λ loud.
    let ps = c.read_areas.new.pairs.items in
    let area = c.read_areas.new.area.bytes.items in
    let area' = c.clear_load-left.new.area.bytes.items in
    let bytes = g.B.Block.contents c.args.device in
    let size : c.sectors-size.result ≡ g.B.Block.size c.args.device = c.sectors-size.ensures in
    let current = c.in-Ok-read_areas.current in
    let read : IsRead c.args.chunk (g.B.Block.size c.args.device) bytes current ps area = rw c.in-Ok.ensures.first at c.in-Ok-read_areas.ensures.read in
    let there : IsRead c.args.chunk c.sectors-size.result bytes current ps area = subst (λ (n : ℕ). IsRead c.args.chunk n bytes current ps area) (sym size) read in
    let held : committed c.in-Ok-hold_formed.exceptions ≡ ps = c.in-Ok-hold_formed.ensures.committed ∙ c.as_slice.ensures.value in
    let filled : ℕ = c.len.result - current * (32 * c.args.chunk) in
    let low = read.low in
    let high = read.high in
    let many : c.len.result ≡ length ps = omega arith in
    let count : length ps ≡ current * (32 * c.args.chunk) + (c.len.result - current * (32 * c.args.chunk)) = omega arith in
    let below : c.len.result - current * (32 * c.args.chunk) < 32 * c.args.chunk = omega arith in
    let chunk : c.read_areas.new.area.chunk ≡ c.args.chunk = c.in-Ok-read_areas.ensures.chunk ∙ c.in-Ok.ensures.first in
    let clear : IsCleared c.args.chunk (c.len.result - current * (32 * c.args.chunk)) area c.clear_load-left.result area' = rw chunk at c.clear_load-left.ensures.cleared in
    let state : State = record { chunk = c.args.chunk; origin = c.args.origin; size = c.sectors-size.result; current = current; filled = c.len.result - current * (32 * c.args.chunk); zeroed = false; firm = false; sure = 0; left = c.clear_load-left.result; awaits = true; copying = true; valid = true } in
    rw (held, c.in-Ok-read_areas.ensures.contents) (stored_loaded state bytes area area' ps c.requires.some (c.requires.found ∙ sym (head_loaded c.clear_load-left.result c.args.chunk c.clear_load-left.ensures.tail)) there count below clear refl)

pub returns-clause-formed : goal.returns-clause-formed
returns-clause-formed g c =
    let ps = c.read_areas.new.pairs.items in
    let area = c.read_areas.new.area.bytes.items in
    let area' = c.clear_load-left.new.area.bytes.items in
    let bytes = g.B.Block.contents c.args.device in
    let size : c.sectors-size.result ≡ g.B.Block.size c.args.device = c.sectors-size.ensures in
    let current = c.in-Ok-read_areas.current in
    let read : IsRead c.args.chunk (g.B.Block.size c.args.device) bytes current ps area = rw c.in-Ok.ensures.first at c.in-Ok-read_areas.ensures.read in
    let there : IsRead c.args.chunk c.sectors-size.result bytes current ps area = subst (λ (n : ℕ). IsRead c.args.chunk n bytes current ps area) (sym size) read in
    let held : committed c.in-Ok-hold_formed.exceptions ≡ ps = c.in-Ok-hold_formed.ensures.committed ∙ c.as_slice.ensures.value in
    let inside : All (IsInside c.args.chunk c.args.origin c.sectors-size.result) ps = rw c.as_slice.ensures.value at c.in-Ok-hold_formed.ensures.inside in
    let apart : AllPairs IsApart ps = rw c.as_slice.ensures.value at c.in-Ok-hold_formed.ensures.apart in
    let formed = formed_loaded c.args.chunk c.args.origin c.sectors-size.result current bytes area ps c.requires.some there inside apart in
    rw (held, ← size) formed

pub returns-clause-tail : goal.returns-clause-tail
returns-clause-tail g c =
    let ps = c.read_areas.new.pairs.items in
    let area = c.read_areas.new.area.bytes.items in
    let area' = c.clear_load-left.new.area.bytes.items in
    let bytes = g.B.Block.contents c.args.device in
    let size : c.sectors-size.result ≡ g.B.Block.size c.args.device = c.sectors-size.ensures in
    let current = c.in-Ok-read_areas.current in
    let read : IsRead c.args.chunk (g.B.Block.size c.args.device) bytes current ps area = rw c.in-Ok.ensures.first at c.in-Ok-read_areas.ensures.read in
    let there : IsRead c.args.chunk c.sectors-size.result bytes current ps area = subst (λ (n : ℕ). IsRead c.args.chunk n bytes current ps area) (sym size) read in
    let held : committed c.in-Ok-hold_formed.exceptions ≡ ps = c.in-Ok-hold_formed.ensures.committed ∙ c.as_slice.ensures.value in
    rw read.here at c.clear_load-left.ensures.tail

pub returns-in-Err-hold_formed-clause-layers : goal.returns-in-Err-hold_formed-clause-layers
returns-in-Err-hold_formed-clause-layers g c =
    let size = g.B.Block.size c.args.device in
    let bytes = g.B.Block.contents c.args.device in
    let all = rw c.in-Ok.ensures.first at c.in-Ok-read_areas.ensures.layers in
    elim c.in-Err-hold_formed.ensures.refused [
      | inl memory ↦ inl (memory, areas_are_read c.args.chunk size 0 (length (pairs_of c.args.chunk bytes) / (32 * c.args.chunk) + 1) (g.B.Block.layers c.args.device) (g.B.Block.layers c.read_areas.new.device) all)
      | inr damaged ↦ inr (inr (damaged.0, all))
    ]
