use Rattle.std.proofs.Common.{ℕ, ◌*◌, ◌++◌, List, true, subst, sym}
use Rattle.std.proofs.KnownBytes.{Appends-trans}
use Rattle.chunk.proofs.Limits.{is_chunk-some}
use Rattle.cow_header.specs.HeaderText.{header_bytes}
use Rattle.new_store_files.specs.Parts.{IsFrontOf}
use Rattle.new_store_files.specs.Written.{IsStoreOf}
use Rattle.new_store_files.proofs.Stores.{front_begins}
use Rattle.new_store_files.proofs.Good.{good_store}
use Rattle.new_store_files.proofs.writing.write_store.Goals as goal

pub returns-in-Ok-write_areas-clause-all : goal.returns-in-Ok-write_areas-clause-all
returns-in-Ok-write_areas-clause-all g c = λ b is.
    let chunk : ℕ = c.args.chunk in
    let own = c.in-Ok.ensures.chunk in
    let header : List ℕ = header_bytes (512 * chunk) true chunk in
    let begins = front_begins chunk b c.args.pairs.now (is_chunk-some chunk c.requires) in
    let (x, written, appends) = c.in-Ok-write_areas.ensures.all b is header (subst (λ (n : ℕ). IsFrontOf n b c.args.pairs.now 0 header) (sym own) begins) in
    let store = subst (λ (n : ℕ). IsStoreOf n b c.args.pairs.now (header ++ x)) own written in
    (header ++ x, store, good_store chunk b (header ++ x) c.args.pairs.now c.requires store, Appends-trans _ _ _ _ _ c.in-Ok-write_header.ensures appends)
