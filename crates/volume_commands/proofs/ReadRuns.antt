-- The pieces of a read, one after the other, whether a merge is begun or not.
use Rattle.std.proofs.Common.{◌≡◌, ℕ, ◌+◌, ◌<◌, List, [], ◌∷◌, ◌++◌, Option, Some, None, length, take, refl, ap, ◌∙◌, sym, arith, length-append}
use Rattle.chunk.specs.Pieces.{Span}
use Rattle.plain_machine.specs.declared.request.Dev.{Dev}
use Rattle.plain_machine.specs.declared.request.Reply.{Reply}
use Rattle.plain_machine.specs.declared.request.Reply.TheVariants.{Data, Written, Flushed, Refused}
use Rattle.plain_machine.specs.declared.request.Failure.{Failure}
use Rattle.whole_commands.specs.Snaps.{Volume}
use Rattle.whole_commands.specs.Pieces.{Answered}
use Rattle.whole_commands.specs.Commands.{go_on, bytes_in, read_piece, read_pieces}
use Rattle.whole_commands.specs.Merges.{Merge, Merged, Merging, read_part, read_parts}
use Rattle.whole_commands.specs.Beside.{alone, beside, served, served_by}
use Rattle.volume_commands.specs.Serving.{IsGood, part_read}
use Rattle.volume_commands.proofs.WriteRuns.{answer, alone_goes, beside_goes, take_front, joined, ends}

-- the pieces of a read, after these bytes
abbrev pub parts_read : Dev → List Span → List ℕ → Merged → Answered Merged
parts_read dev [] before m = answer m (Data before)
parts_read dev (piece ∷ pieces) before m =
    let here = part_read dev piece m in
    go_on here.reply here (parts_read dev pieces (before ++ bytes_in here.reply) here.state)

alone_parts : (dev : Dev) (ps : List Span) (before : List ℕ) (v : Volume) → alone (read_pieces dev ps before v) ≡ parts_read dev ps before (record { volume = v; merge = None })
alone_parts dev [] before v = refl
alone_parts dev (p ∷ ps) before v =
    let here : Answered Volume = read_piece dev p v in
    alone_goes here.reply here (read_pieces dev ps (before ++ bytes_in here.reply) here.state) ∙ ap (go_on here.reply (alone here)) (alone_parts dev ps (before ++ bytes_in here.reply) here.state)

beside_parts : (dev : Dev) (ps : List Span) (before : List ℕ) (m : Merging) → beside (read_parts dev ps before m) ≡ parts_read dev ps before (record { volume = m.volume; merge = Some m.merge })
beside_parts dev [] before m = refl
beside_parts dev (p ∷ ps) before m =
    let here : Answered Merging = read_part dev p m in
    beside_goes here.reply here (read_parts dev ps (before ++ bytes_in here.reply) here.state) ∙ ap (go_on here.reply (beside here)) (beside_parts dev ps (before ++ bytes_in here.reply) here.state)

pub served_parts : (dev : Dev) (ps : List Span) (before : List ℕ) (m : Merged) → served (read_pieces dev ps before) (read_parts dev ps before) m ≡ parts_read dev ps before m
served_parts dev ps before m = by m.merge m.volume
  where
    by : (o : Option Merge) (v : Volume) → served_by (read_pieces dev ps before) (read_parts dev ps before) o v ≡ parts_read dev ps before (record { volume = v; merge = o })
    by None v = alone_parts dev ps before v
    by (Some g) v = beside_parts dev ps before (record { volume = v; merge = g })

-- a piece that was done is followed by the rest
goes_read : (r : Reply) (here rest rest' x : Answered Merged) (w : Merged) (out : List ℕ) → here.reply ≡ r → (rest ≡ answer w (Data out) → rest' ≡ x) → go_on r here rest ≡ answer w (Data out) → go_on r here rest' ≡ x
goes_read (Data bytes) here rest rest' x w out is f e = f e
goes_read Written here rest rest' x w out is f e = f e
goes_read Flushed here rest rest' x w out is f e = f e
goes_read (Refused failure) here rest rest' x w out is f e = let same : Refused failure ≡ Data out = sym is ∙ ap (λ (a : Answered Merged). a.reply) e in absurd (cc)

module _ (dev : Dev) where
  -- pieces that were read, and then the others
  pub read_join : (ps qs : List Span) (before out : List ℕ) (v w : Merged) → parts_read dev ps before v ≡ answer w (Data out) → parts_read dev (ps ++ qs) before v ≡ parts_read dev qs out w
  read_join [] qs before out v w e = let same : before ≡ out = data_same (ap (λ (a : Answered Merged). a.reply) e) in ap (λ (a : Answered Merged). parts_read dev qs before a.state) e ∙ ap (λ bs. parts_read dev qs bs w) same
    where
      data_same : {a b : List ℕ} → Data a ≡ Data b → a ≡ b
      data_same h = cc
  read_join (p ∷ ps) qs before out v w e =
      let here : Answered Merged = part_read dev p v in
      let next : List ℕ = before ++ bytes_in here.reply in
      goes_read here.reply here (parts_read dev ps next here.state) (parts_read dev (ps ++ qs) next here.state) (parts_read dev qs out w) w out refl
      (λ done. read_join ps qs next out here.state w done) e

  -- So far: these pieces were read, of all of them; where L holds, from v to w.
  pub record ReadsTo (L : Type 0) (all rest : List Span) (out : List ℕ) (v w : Merged) : Type 0 where
    pub passed : List Span
    pub cut : passed ++ rest ≡ all
    pub did : L → parts_read dev passed [] v ≡ answer w (Data out)

  pub reads_none : (L : Type 0) (all rest : List Span) (v : Merged) → rest ≡ all → ReadsTo L all rest [] v v
  reads_none L all rest v e = record { passed = []; cut = e; did = λ l. refl }

  -- a piece that is done, by its reply
  done_one : (p : Span) (out : List ℕ) (w u : Merged) (got : Reply) → IsGood got → part_read dev p w ≡ answer u got → parts_read dev (p ∷ []) out w ≡ answer u (Data (out ++ bytes_in got))
  done_one p out w u (Data more) good e = ap (λ (a : Answered Merged). go_on a.reply a (answer a.state (Data (out ++ bytes_in a.reply)))) e
  done_one p out w u Written good e = ap (λ (a : Answered Merged). go_on a.reply a (answer a.state (Data (out ++ bytes_in a.reply)))) e
  done_one p out w u Flushed good e = ap (λ (a : Answered Merged). go_on a.reply a (answer a.state (Data (out ++ bytes_in a.reply)))) e
  done_one p out w u (Refused failure) good e = absurd good

  pub reads_more : (L : Type 0) (all rest rest' : List Span) (out out' : List ℕ) (p : Span) (v w u : Merged) (got : Reply) → ReadsTo L all rest out v w → rest ≡ p ∷ rest' → IsGood got
      → (L → part_read dev p w ≡ answer u got) → (L → out' ≡ out ++ bytes_in got) → ReadsTo L all rest' out' v u
  reads_more L all rest rest' out out' p v w u got so e good one more = record {
    passed = so.passed ++ p ∷ [];
    cut = joined so.passed p rest' ∙ ap (λ (xs : List Span). so.passed ++ xs) (sym e) ∙ so.cut;
    did = λ l. read_join so.passed (p ∷ []) [] out v w (so.did l) ∙ done_one p out w u got good (one l) ∙ ap (λ bs. answer u (Data bs)) (sym (more l));
  }

  -- all of them
  pub reads_all : (L : Type 0) (all rest : List Span) (out : List ℕ) (v w : Merged) → ReadsTo L all rest out v w → rest ≡ [] → L → parts_read dev all [] v ≡ answer w (Data out)
  reads_all L all rest out v w so e l = ap (λ xs. parts_read dev xs [] v) (sym (sym (ends so.passed) ∙ ap (λ (xs : List Span). so.passed ++ xs) (sym e) ∙ so.cut)) ∙ so.did l

  -- one that failed
  pub reads_failed : (L : Type 0) (all rest rest' : List Span) (out : List ℕ) (p : Span) (v w u : Merged) (failure : Failure) → ReadsTo L all rest out v w → rest ≡ p ∷ rest'
      → (L → part_read dev p w ≡ answer u (Refused failure)) → L → parts_read dev all [] v ≡ answer u (Refused failure)
  reads_failed L all rest rest' out p v w u failure so e one l =
      ap (λ xs. parts_read dev xs [] v) (sym (ap (λ (xs : List Span). so.passed ++ xs) (sym e) ∙ so.cut))
      ∙ read_join so.passed (p ∷ rest') [] out v w (so.did l)
      ∙ ap (λ (a : Answered Merged). go_on a.reply a (parts_read dev rest' (out ++ bytes_in a.reply) a.state)) (one l)

  -- fewer than all, where some are left
  pub reads_fewer : (L : Type 0) (all rest rest' : List Span) (out : List ℕ) (p : Span) (v w : Merged) (so : ReadsTo L all rest out v w) → rest ≡ p ∷ rest' → length so.passed < length all
  reads_fewer L all rest rest' out p v w so e =
      let whole : length (so.passed ++ p ∷ rest') ≡ length all = ap length (ap (λ (xs : List Span). so.passed ++ xs) (sym e) ∙ so.cut) in
      let sum : length (so.passed ++ p ∷ rest') ≡ length so.passed + length (p ∷ rest') = length-append so.passed (p ∷ rest') in
      omega (arith, whole, sum)

  -- the first ones
  pub reads_first : (L : Type 0) (all rest : List Span) (out : List ℕ) (v w : Merged) (so : ReadsTo L all rest out v w) → L → parts_read dev (take (length so.passed) all) [] v ≡ answer w (Data out)
  reads_first L all rest out v w so l = ap (λ xs. parts_read dev xs [] v) (ap (take (length so.passed)) (sym so.cut) ∙ take_front so.passed rest) ∙ so.did l
