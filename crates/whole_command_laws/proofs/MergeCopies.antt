-- The chunk of one pair, and then those of a group, are copied to the origin disk: nobody sees it, and what was copied stands
-- there.
use Rattle.std.proofs.Common.{◌≡◌, ◌≢◌, inl, inr, ℕ, ◌+◌, ◌*◌, ◌<◌, ◌≤◌, Bool, true, false, List, ◌∷◌, ◌++◌, length, arith, refl, ap, ◌∙◌, sym, subst, length-take, length-drop}
use Rattle.std.specs.Prelude.{if◌then◌else◌, Some, None, AllPairs}
use Rattle.std.specs.List.{All}
use Rattle.std.proofs.lemmas.Bool.{cases_Bool, cond-true, cond-false, true≢false}
use Rattle.std.proofs.lemmas.List.Elements.{All-head}
use Rattle.sector.specs.Bytes.{sectors_at, with_sectors}
use Rattle.sector.specs.declared.pair.Pair.{Pair}
use Rattle.sector.proofs.Sectors.{length-with_sectors, sectors_at-with_same, byte_outside}
use Rattle.chunk.specs.Sizes.{is_chunk}
use Rattle.chunk.proofs.Limits.{is_chunk-some}
use Rattle.device.specs.declared.operation.Operation.{Operation}
use Rattle.device.specs.declared.operation.Operation.TheVariants.{Reads, Writes}
use Rattle.cow_format.specs.Pairs.{pairs_of, IsApart, IsInside, AreWellFormed}
use Rattle.cow_format.specs.Picture.{place_of, picture, IsCopied}
use Rattle.cow_format.proofs.Pictures.{front_copied}
use Rattle.in_flight.specs.Copies.{count_of}
use Rattle.whole_commands.proofs.Writes.{picture-saved}
use Rattle.volume_laws.specs.Steps.{WritesDisk}
use Rattle.volume_laws.proofs.Bytes.{disk_other}
use Rattle.volume_laws.proofs.Copying.{whole_chunk}
use Rattle.volume_laws.proofs.Lists.{All-back, AllPairs-back, AllPairs-head}
use Rattle.volume_laws.proofs.Pairs.{place_of-middle}
use Rattle.whole_commands.specs.Devices.{Device, answers, met, written_by}
use Rattle.whole_commands.specs.Snaps.{Snap}
use Rattle.whole_commands.specs.Shown.{ShowTheSame}
use Rattle.whole_commands.specs.Merges.{Merge, Merging, pairs_in, stopped, with_store, with_origin, saved_rounds, saved_over, write_disk, sectors_in, copy_back}
use Rattle.whole_commands.specs.MergeShown.{IsWell, IsUnderWay, IsMerging, IsUnseen}
use Rattle.whole_commands.proofs.Each.{Each, each_from, all_from, each_weaker}
use Rattle.whole_commands.proofs.Rounds.{rounds_bytes, rounds_keep}
use Rattle.whole_commands.proofs.RoundSaves.{rounds_well}
use Rattle.whole_command_laws.proofs.MergeSaves.{rounds_shown_over}

-- what a copy back does: the other snapshots save what the chunk touches, and it is written to the origin disk or not
pub record CopiesBack (p : Pair) (m after : Merging) : Type 0 where
  pub chunk : after.merge.chunk ≡ m.merge.chunk
  pub current : after.merge.current ≡ m.merge.current
  pub store : after.merge.store.bytes ≡ m.merge.store.bytes
  pub snaps : after.volume.snaps ≡ (saved_rounds (m.merge.chunk * p.old) (sectors_in p m) (sectors_in p m) m.volume).snaps
  pub wrote : Bool
  pub disk : after.volume.origin.bytes ≡ (if wrote then with_sectors m.volume.origin.bytes (m.merge.chunk * p.old) (sectors_at m.merge.store.bytes (m.merge.chunk * p.new) (sectors_in p m)) else m.volume.origin.bytes)
  pub done : after.merge.failed ≡ false → wrote ≡ true

module _ (p : Pair) (m : Merging) where
  pub copies_back : CopiesBack p m (copy_back p m)
  copies_back =
      let saved : Merging = saved_over (m.merge.chunk * p.old) (sectors_in p m) m in
      let disk : Device = saved.volume.origin in
      let same : disk.bytes ≡ m.volume.origin.bytes = rounds_bytes (m.merge.chunk * p.old) (sectors_in p m) (sectors_in p m) m.volume in
      let bytes : List ℕ = sectors_at m.merge.store.bytes (m.merge.chunk * p.new) (sectors_in p m) in
      let reads : Operation = Reads (m.merge.chunk * p.new) (sectors_in p m) in
      let writes : Operation = Writes (m.merge.chunk * p.old) (sectors_in p m) in
      let read : Merging = with_store saved (met m.merge.store reads) in
      let over : List ℕ → List ℕ = λ (b : List ℕ). if answers disk writes then with_sectors b (m.merge.chunk * p.old) bytes else b in
      let written : Merging = with_origin read (written_by disk writes (with_sectors disk.bytes (m.merge.chunk * p.old) bytes)) in
      elim (cases_Bool (answers m.merge.store reads)) [
        | inr failed ↦ (let is : copy_back p m ≡ stopped read = cond-false _ _ _ failed in
            subst (CopiesBack p m) (sym is) (record { chunk = refl; current = refl; store = refl; snaps = refl; wrote = false; disk = same; done = λ no. absurd (true≢false no) }))
        | inl ok ↦ (let goes : copy_back p m ≡ write_disk (m.merge.chunk * p.old) (sectors_in p m) bytes read = cond-true _ _ _ ok in
            elim (cases_Bool (answers disk writes)) [
              | inl wrote ↦ (let is : copy_back p m ≡ written = goes ∙ cond-true _ _ _ wrote in
                  subst (CopiesBack p m) (sym is) (record { chunk = refl; current = refl; store = refl; snaps = refl; wrote = answers disk writes; disk = ap over same; done = λ _. wrote }))
              | inr lost ↦ (let is : copy_back p m ≡ stopped written = goes ∙ cond-false _ _ _ lost in
                  subst (CopiesBack p m) (sym is) (record { chunk = refl; current = refl; store = refl; snaps = refl; wrote = answers disk writes; disk = ap over same; done = λ no. absurd (true≢false no) }))
            ])
      ]

-- the origin disk with the chunk of a pair
abbrev pub disk_back : ℕ → ℕ → List ℕ → List ℕ → Pair → List ℕ
disk_back chunk sectors disk store p = with_sectors disk (chunk * p.old) (sectors_at store (chunk * p.new) (count_of chunk sectors p.old))

module _ (chunk sectors size : ℕ) (disk store : List ℕ) (p : Pair) (pos : 0 < chunk) (whole : length disk ≡ 512 * sectors) (long : length store ≡ 512 * size) (well : IsInside chunk sectors size p) where
  pub back_some : 0 < count_of chunk sectors p.old
  back_some = let h = well.old in omega arith

  pub back_inside : chunk * p.old + count_of chunk sectors p.old ≤ sectors
  back_inside = let h = well.old in omega arith

  pub back_few : count_of chunk sectors p.old ≤ chunk
  back_few = omega arith

  pub back_length : length (sectors_at store (chunk * p.new) (count_of chunk sectors p.old)) ≡ 512 * count_of chunk sectors p.old
  back_length =
      let h = well.new in
      let e : chunk * (p.new + 1) ≡ chunk * p.new + chunk = grind arith in
      let few = back_few in
      simp (length-take, length-drop) (omega arith)

  pub back_whole : length (disk_back chunk sectors disk store p) ≡ length disk
  back_whole = let len = back_length in let h = back_inside in length-with_sectors disk (chunk * p.old) (sectors_at store (chunk * p.new) (count_of chunk sectors p.old)) (omega arith)

  back_writes : WritesDisk (chunk * p.old) (count_of chunk sectors p.old) disk (disk_back chunk sectors disk store p)
  back_writes = record {
    len = back_whole;
    rest = λ i out. (let len = back_length in let h = back_inside in byte_outside disk (chunk * p.old) (sectors_at store (chunk * p.new) (count_of chunk sectors p.old)) i (omega arith) (elim out [ inl lo ↦ inl lo | inr hi ↦ inr (omega arith) ]));
  }

  pub back_copied : IsCopied chunk (disk_back chunk sectors disk store p) store p
  back_copied =
      let len = back_length in
      let h = back_inside in
      record {
        front = front_copied chunk p.old p.new (count_of chunk sectors p.old) (disk_back chunk sectors disk store p) store pos
            (sym (sectors_at-with_same disk (chunk * p.old) (count_of chunk sectors p.old) (sectors_at store (chunk * p.new) (count_of chunk sectors p.old)) (omega arith) len)) back_few
            (whole_chunk chunk sectors p.old (length (disk_back chunk sectors disk store p)) (back_whole ∙ whole) well.old);
      }

  -- another pair's chunk
  pub back_others : (q : Pair) → IsApart p q → IsCopied chunk disk store q → IsCopied chunk (disk_back chunk sectors disk store p) store q
  back_others q apart was = record {
    front = λ i lt at. was.front i (omega (arith, back_whole)) at
        ∙ sym (disk_other chunk (chunk * p.old) (count_of chunk sectors p.old) p.old i disk (disk_back chunk sectors disk store p) pos back_writes (omega arith) (let few = back_few in omega arith) (λ same. apart.old (sym same ∙ at)));
  }

  pub back_picture : place_of (pairs_of chunk store) p.old ≢ None → picture chunk (disk_back chunk sectors disk store p) store ≡ picture chunk disk store
  back_picture some =
      let len = back_length in
      let h = back_inside in
      let few = back_few in
      picture-saved chunk p.old (chunk * p.old) (count_of chunk sectors p.old) disk store (sectors_at store (chunk * p.new) (count_of chunk sectors p.old)) pos some (omega arith) (omega arith) len (omega arith)

-- either of two lists of bytes
either : (P : List ℕ → Type 0) (x y : List ℕ) (b : Bool) → P x → P y → P (if b then x else y)
either P x y true px py = px
either P x y false px py = py

-- a merge into the same store, from the same area
pub record IsSameMerge (m after : Merging) : Type 0 where
  pub current : after.merge.current ≡ m.merge.current
  pub store : after.merge.store.bytes ≡ m.merge.store.bytes

-- a merge under way is one by its chunk, area and bytes
pub still_under_way : (sectors : ℕ) (g h : Merge) → h.chunk ≡ g.chunk → h.current ≡ g.current → h.store.bytes ≡ g.store.bytes → IsUnderWay sectors g → IsUnderWay sectors h
still_under_way sectors g h chunk current store is =
    let pairs : pairs_in h ≡ pairs_in g = ap (λ n. pairs_of n h.store.bytes) chunk ∙ ap (pairs_of g.chunk) store in
    let at : h.current * (32 * h.chunk) ≡ g.current * (32 * g.chunk) = ap (λ n. n * (32 * h.chunk)) current ∙ ap (λ n. g.current * (32 * n)) chunk in
    let len = ap length pairs in
    let low = is.low in
    let high = is.high in
    let some = is.some in
    record {
      some = omega arith;
      size = is.size;
      whole = ap length store ∙ is.whole;
      pairs = subst (λ n. AreWellFormed n sectors is.size (pairs_in h)) (sym chunk) (subst (AreWellFormed g.chunk sectors is.size) (sym pairs) is.pairs);
      low = omega arith;
      high = omega arith;
    }

-- one pair
module _ (sectors : ℕ) (front back : List Pair) (p : Pair) (m after : Merging) (is : IsMerging sectors m) (at : pairs_in m.merge ≡ front ++ p ∷ back) (copy : CopiesBack p m after) where
  pub pair_inside : IsInside m.merge.chunk sectors is.merge.size p
  pair_inside = All-head (IsInside m.merge.chunk sectors is.merge.size) p back (All-back (IsInside m.merge.chunk sectors is.merge.size) front (p ∷ back) (subst (All (IsInside m.merge.chunk sectors is.merge.size)) at is.merge.pairs.inside))

  pair_apart : All (IsApart p) back
  pair_apart = AllPairs-head IsApart p back (AllPairs-back IsApart front (p ∷ back) (subst (AllPairs IsApart) at is.merge.pairs.apart))

  pair_named : place_of (pairs_in m.merge) p.old ≢ None
  pair_named none = let e : Some p.new ≡ None = sym (ap (λ x. place_of x p.old) at ∙ place_of-middle front p back (subst (AllPairs IsApart) at is.merge.pairs.apart)) ∙ none in absurd (cc)

  count_is : sectors_in p m ≡ count_of m.merge.chunk sectors p.old
  count_is = let whole = is.whole in ap (λ n. count_of m.merge.chunk n p.old) (omega arith)

  pair_disk : after.volume.origin.bytes ≡ (if copy.wrote then disk_back m.merge.chunk sectors m.volume.origin.bytes m.merge.store.bytes p else m.volume.origin.bytes)
  pair_disk = copy.disk ∙ ap (λ n. if copy.wrote then with_sectors m.volume.origin.bytes (m.merge.chunk * p.old) (sectors_at m.merge.store.bytes (m.merge.chunk * p.new) n) else m.volume.origin.bytes) count_is

  pair_snaps : after.volume.snaps ≡ (saved_rounds (m.merge.chunk * p.old) (count_of m.merge.chunk sectors p.old) (count_of m.merge.chunk sectors p.old) m.volume).snaps
  pair_snaps = copy.snaps ∙ ap (λ n. (saved_rounds (m.merge.chunk * p.old) n n m.volume).snaps) count_is

  chunks_each : Each (λ (s : Snap). is_chunk s.chunk ≡ true) m.volume.snaps
  chunks_each = each_from (λ (s : Snap). is_chunk s.chunk ≡ true) m.volume.snaps is.chunks

  pub pair_sizes : Each (λ (s : Snap). 0 < s.chunk) m.volume.snaps
  pair_sizes = each_weaker (λ (s : Snap). is_chunk s.chunk ≡ true) (λ s. 0 < s.chunk) m.volume.snaps (λ s h. is_chunk-some s.chunk h) chunks_each

  pub pair_holds : IsMerging sectors after
  pair_holds =
      let some = back_some m.merge.chunk sectors is.merge.size m.volume.origin.bytes m.merge.store.bytes p is.merge.some is.whole is.merge.whole pair_inside in
      let inside = back_inside m.merge.chunk sectors is.merge.size m.volume.origin.bytes m.merge.store.bytes p is.merge.some is.whole is.merge.whole pair_inside in
      let len = back_length m.merge.chunk sectors is.merge.size m.volume.origin.bytes m.merge.store.bytes p is.merge.some is.whole is.merge.whole pair_inside in
      let back = back_whole m.merge.chunk sectors is.merge.size m.volume.origin.bytes m.merge.store.bytes p is.merge.some is.whole is.merge.whole pair_inside in
      let first : ℕ = m.merge.chunk * p.old in
      let n : ℕ = count_of m.merge.chunk sectors p.old in
      let saved : List Snap = (saved_rounds first n n m.volume).snaps in
      let IsSize : ℕ → Type 0 = λ (x : ℕ). is_chunk x ≡ true in
      let HasSize : Snap → Type 0 = λ (s : Snap). is_chunk s.chunk ≡ true in
      record {
        whole = ap length pair_disk ∙ either (λ b. length b ≡ 512 * sectors) (disk_back m.merge.chunk sectors m.volume.origin.bytes m.merge.store.bytes p) m.volume.origin.bytes copy.wrote (back ∙ is.whole) is.whole;
        merge = still_under_way sectors m.merge after.merge copy.chunk copy.current copy.store is.merge;
        snaps = subst (All (IsWell sectors)) (sym pair_snaps) (all_from (IsWell sectors) saved (rounds_well sectors first n some inside n m.volume is.whole pair_sizes (each_from (IsWell sectors) m.volume.snaps is.snaps)));
        allowed = ap is_chunk copy.chunk ∙ is.allowed;
        chunks = subst (All HasSize) (sym pair_snaps) (all_from HasSize saved (rounds_keep first n IsSize n m.volume chunks_each));
      }

  pub pair_unseen : IsUnseen sectors m after
  pair_unseen =
      let some = back_some m.merge.chunk sectors is.merge.size m.volume.origin.bytes m.merge.store.bytes p is.merge.some is.whole is.merge.whole pair_inside in
      let inside = back_inside m.merge.chunk sectors is.merge.size m.volume.origin.bytes m.merge.store.bytes p is.merge.some is.whole is.merge.whole pair_inside in
      let len = back_length m.merge.chunk sectors is.merge.size m.volume.origin.bytes m.merge.store.bytes p is.merge.some is.whole is.merge.whole pair_inside in
      let same = back_picture m.merge.chunk sectors is.merge.size m.volume.origin.bytes m.merge.store.bytes p is.merge.some is.whole is.merge.whole pair_inside pair_named in
      let first : ℕ = m.merge.chunk * p.old in
      let bytes : List ℕ = sectors_at m.merge.store.bytes (m.merge.chunk * p.new) (count_of m.merge.chunk sectors p.old) in
      record {
        holds = pair_holds;
        chunk = copy.chunk;
        origin = ap (λ n. picture n after.volume.origin.bytes after.merge.store.bytes) copy.chunk ∙ ap (picture m.merge.chunk after.volume.origin.bytes) copy.store
            ∙ ap (λ b. picture m.merge.chunk b m.merge.store.bytes) pair_disk
            ∙ either (λ b. picture m.merge.chunk b m.merge.store.bytes ≡ picture m.merge.chunk m.volume.origin.bytes m.merge.store.bytes) (disk_back m.merge.chunk sectors m.volume.origin.bytes m.merge.store.bytes p) m.volume.origin.bytes copy.wrote same refl;
        snaps = subst (ShowTheSame m.volume.origin.bytes after.volume.origin.bytes m.volume.snaps) (sym pair_snaps)
            (rounds_shown_over sectors first (count_of m.merge.chunk sectors p.old) some inside m.volume bytes after.volume.origin.bytes is.whole len pair_sizes (each_from (IsWell sectors) m.volume.snaps is.snaps) copy.wrote pair_disk);
      }

  -- where it did not fail, the chunk stands on the origin disk
  pub pair_copied : after.merge.failed ≡ false → IsCopied m.merge.chunk after.volume.origin.bytes m.merge.store.bytes p
  pair_copied fine = subst (λ (b : List ℕ). IsCopied m.merge.chunk b m.merge.store.bytes p) (sym (pair_disk ∙ cond-true _ _ _ (copy.done fine)))
      (back_copied m.merge.chunk sectors is.merge.size m.volume.origin.bytes m.merge.store.bytes p is.merge.some is.whole is.merge.whole pair_inside)

  -- and what stood there of the pairs behind it still does
  pub pair_others : (q : Pair) → IsApart p q → IsCopied m.merge.chunk m.volume.origin.bytes m.merge.store.bytes q → IsCopied m.merge.chunk after.volume.origin.bytes m.merge.store.bytes q
  pair_others q apart was = subst (λ (b : List ℕ). IsCopied m.merge.chunk b m.merge.store.bytes q) (sym pair_disk)
      (either (λ b. IsCopied m.merge.chunk b m.merge.store.bytes q) (disk_back m.merge.chunk sectors m.volume.origin.bytes m.merge.store.bytes p) m.volume.origin.bytes copy.wrote
      (back_others m.merge.chunk sectors is.merge.size m.volume.origin.bytes m.merge.store.bytes p is.merge.some is.whole is.merge.whole pair_inside q apart was) was)
