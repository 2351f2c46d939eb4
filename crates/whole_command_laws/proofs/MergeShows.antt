-- A group, the read of an area, and the whole merge: nobody sees them, whatever fails.
use Rattle.std.proofs.Common.{◌≡◌, inl, inr, ℕ, ◌+◌, ◌*◌, ◌/◌, ◌<◌, ◌≤◌, true, false, List, [], ◌∷◌, ◌++◌, length, take, arith, refl, ap, ◌∙◌, sym, subst, length-append, append_assoc}
use Rattle.std.specs.Prelude.{AllPairs}
use Rattle.std.specs.List.{All}
use Rattle.std.proofs.lemmas.Bool.{cases_Bool, cond-true, cond-false, true≢false}
use Rattle.std.proofs.Math.Seq.{take-append_seam}
use Rattle.std.proofs.lemmas.Nat.{mul-le}
use Rattle.sector.specs.declared.pair.Pair.{Pair}
use Rattle.device.specs.declared.operation.Operation.{Operation}
use Rattle.device.specs.declared.operation.Operation.TheVariants.{Writes, Flushes}
use Rattle.chunk.specs.Sizes.{is_chunk}
use Rattle.cow_format.specs.Places.{area_place, ChangesOnly}
use Rattle.cow_format.specs.Pairs.{pairs_of, IsApart, AreWellFormed}
use Rattle.cow_format.specs.Picture.{picture, IsCopied}
use Rattle.cow_format.proofs.Views.{picture-merged, place_unnamed}
use Rattle.volume_laws.proofs.Committing.{fresh_pairs}
use Rattle.volume_laws.proofs.Lists.{AllPairs-back, AllPairs-head}
use Rattle.whole_commands.specs.Devices.{answers, met, written_by}
use Rattle.whole_commands.specs.Shown.{ShowTheSame}
use Rattle.whole_commands.specs.Merges.{Merge, Merging, pairs_in, stopped, going, with_store, with_origin, copy_back, copy_all, flush, without_slots, clear_slots}
use Rattle.whole_commands.specs.MergeShown.{IsWell, IsUnderWay, IsMerging, IsUnseen}
use Rattle.whole_commands.proofs.Each.{Each, each_from, all_from}
use Rattle.whole_command_laws.proofs.MergeSaves.{show_same, show_then}
use Rattle.whole_command_laws.proofs.MergeRuns.{area_of_last, formed_less, cleared_only, cleared_pairs}
use Rattle.whole_command_laws.proofs.MergeCopies.{CopiesBack, copies_back, still_under_way, pair_unseen, pair_copied, pair_others}

-- two steps in turn
pub unseen_then : (sectors : ℕ) (m k after : Merging) → IsUnseen sectors m k → IsUnseen sectors k after → IsUnseen sectors m after
unseen_then sectors m k after one two = record {
  holds = two.holds;
  chunk = two.chunk ∙ one.chunk;
  origin = two.origin ∙ one.origin;
  snaps = show_then m.volume.origin.bytes k.volume.origin.bytes after.volume.origin.bytes m.volume.snaps k.volume.snaps after.volume.snaps one.snaps two.snaps;
}

-- a step that changes neither the origin disk's bytes nor a snapshot
pub unseen_by : (sectors : ℕ) (m after : Merging) → IsMerging sectors m → after.volume.origin.bytes ≡ m.volume.origin.bytes → after.volume.snaps ≡ m.volume.snaps → after.merge.chunk ≡ m.merge.chunk → IsUnderWay sectors after.merge →
    picture m.merge.chunk m.volume.origin.bytes after.merge.store.bytes ≡ picture m.merge.chunk m.volume.origin.bytes m.merge.store.bytes → IsUnseen sectors m after
unseen_by sectors m after is disk snaps chunk under same = record {
  holds = record {
    whole = ap length disk ∙ is.whole;
    merge = under;
    snaps = subst (All (IsWell sectors)) (sym snaps) is.snaps;
    allowed = ap is_chunk chunk ∙ is.allowed;
    chunks = subst (All (λ s. is_chunk s.chunk ≡ true)) (sym snaps) is.chunks;
  };
  chunk = chunk;
  origin = ap (λ n. picture n after.volume.origin.bytes after.merge.store.bytes) chunk ∙ ap (λ b. picture m.merge.chunk b after.merge.store.bytes) disk ∙ same;
  snaps = subst (λ (b : List ℕ). ShowTheSame m.volume.origin.bytes b m.volume.snaps after.volume.snaps) (sym disk) (subst (ShowTheSame m.volume.origin.bytes m.volume.origin.bytes m.volume.snaps) (sym snaps) (show_same m.volume.origin.bytes m.volume.snaps));
}

-- nothing but a failure, or what layers met
pub unseen_still : (sectors : ℕ) (m after : Merging) → IsMerging sectors m → after.volume.origin.bytes ≡ m.volume.origin.bytes → after.volume.snaps ≡ m.volume.snaps → after.merge.chunk ≡ m.merge.chunk → after.merge.current ≡ m.merge.current → after.merge.store.bytes ≡ m.merge.store.bytes → IsUnseen sectors m after
unseen_still sectors m after is disk snaps chunk current store =
    unseen_by sectors m after is disk snaps chunk (still_under_way sectors m.merge after.merge chunk current store is.merge) (ap (picture m.merge.chunk m.volume.origin.bytes) store)

-- the chunks of some pairs were copied
pub record CopiesAll (sectors : ℕ) (pairs : List Pair) (m after : Merging) : Type 0 where
  pub unseen : IsUnseen sectors m after
  pub current : after.merge.current ≡ m.merge.current
  pub store : after.merge.store.bytes ≡ m.merge.store.bytes
  pub copied : after.merge.failed ≡ false → Each (IsCopied m.merge.chunk after.volume.origin.bytes m.merge.store.bytes) pairs

-- a copy, of stores that are the same
moved_copy : (n n' : ℕ) (disk b b' : List ℕ) (p : Pair) → n ≡ n' → b ≡ b' → IsCopied n disk b p → IsCopied n' disk b' p
moved_copy n n' disk b b' p chunk store is = subst (λ (x : ℕ). IsCopied x disk b' p) chunk (subst (λ (x : List ℕ). IsCopied n disk x p) store is)

pub copies_all : (sectors : ℕ) (front pairs : List Pair) (m : Merging) → IsMerging sectors m → pairs_in m.merge ≡ front ++ pairs → CopiesAll sectors pairs m (copy_all pairs m)
copies_all sectors front [] m is at = record { unseen = unseen_still sectors m m is refl refl refl refl refl; current = refl; store = refl; copied = λ _. tt }
copies_all sectors front (p ∷ pairs) m is at =
    let k : Merging = copy_all pairs m in
    let before : CopiesAll sectors pairs m k = copies_all sectors (front ++ p ∷ []) pairs m is (at ∙ sym (append_assoc front (p ∷ []) pairs)) in
    elim (cases_Bool k.merge.failed) [
      | inl failed ↦ (let e : copy_all (p ∷ pairs) m ≡ k = cond-true _ _ _ failed in
          subst (CopiesAll sectors (p ∷ pairs) m) (sym e) (record { unseen = before.unseen; current = before.current; store = before.store; copied = λ fine. absurd (true≢false (sym failed ∙ fine)) }))
      | inr fine ↦ (let e : copy_all (p ∷ pairs) m ≡ copy_back p k = cond-false _ _ _ fine in
          let holds = before.unseen.holds in
          let same : pairs_in k.merge ≡ front ++ p ∷ pairs = ap (λ n. pairs_of n k.merge.store.bytes) before.unseen.chunk ∙ ap (pairs_of m.merge.chunk) before.store ∙ at in
          let copy : CopiesBack p k (copy_back p k) = copies_back p k in
          let apart : All (IsApart p) pairs = AllPairs-head IsApart p pairs (AllPairs-back IsApart front (p ∷ pairs) (subst (AllPairs IsApart) at is.merge.pairs.apart)) in
          subst (CopiesAll sectors (p ∷ pairs) m) (sym e) (record {
            unseen = unseen_then sectors m k (copy_back p k) before.unseen (pair_unseen sectors front pairs p k (copy_back p k) holds same copy);
            current = copy.current ∙ before.current;
            store = copy.store ∙ before.store;
            copied = λ ok. (
              moved_copy k.merge.chunk m.merge.chunk (copy_back p k).volume.origin.bytes k.merge.store.bytes m.merge.store.bytes p before.unseen.chunk before.store (pair_copied sectors front pairs p k (copy_back p k) holds same copy ok),
              others k (copy_back p k) pairs (λ q far was. moved_copy k.merge.chunk m.merge.chunk (copy_back p k).volume.origin.bytes k.merge.store.bytes m.merge.store.bytes q before.unseen.chunk before.store
                  (pair_others sectors front pairs p k (copy_back p k) holds same copy q far (moved_copy m.merge.chunk k.merge.chunk k.volume.origin.bytes m.merge.store.bytes k.merge.store.bytes q (sym before.unseen.chunk) (sym before.store) was)))
                  (each_from_all pairs apart) (before.copied fine),
            );
          }))
    ]
  where
    each_from_all : (qs : List Pair) → All (IsApart p) qs → Each (IsApart p) qs
    each_from_all qs all = each_from (IsApart p) qs all

    others : (k after : Merging) (qs : List Pair) → ((q : Pair) → IsApart p q → IsCopied m.merge.chunk k.volume.origin.bytes m.merge.store.bytes q → IsCopied m.merge.chunk after.volume.origin.bytes m.merge.store.bytes q) → Each (IsApart p) qs → Each (IsCopied m.merge.chunk k.volume.origin.bytes m.merge.store.bytes) qs → Each (IsCopied m.merge.chunk after.volume.origin.bytes m.merge.store.bytes) qs
    others k after [] f far all = tt
    others k after (q ∷ qs) f far all = (f q far.0 all.0, others k after qs f far.1 all.1)

-- the flush
pub flush_copies : (sectors : ℕ) (pairs : List Pair) (m k : Merging) → CopiesAll sectors pairs m k → CopiesAll sectors pairs m (going flush k)
flush_copies sectors pairs m k before = elim (cases_Bool k.merge.failed) [
  | inl failed ↦ subst (CopiesAll sectors pairs m) (sym (cond-true _ _ _ failed)) before
  | inr fine ↦ (let e : going flush k ≡ flush k = cond-false _ _ _ fine in
      let after : Merging = with_origin k (met k.volume.origin Flushes) in
      subst (CopiesAll sectors pairs m) (sym e) (elim (cases_Bool (answers k.volume.origin Flushes)) [
        | inl ok ↦ subst (CopiesAll sectors pairs m) (sym (cond-true _ _ _ ok)) (record { unseen = unseen_then sectors m k after before.unseen (unseen_still sectors k after before.unseen.holds refl refl refl refl refl); current = before.current; store = before.store; copied = λ ok. before.copied fine })
        | inr lost ↦ subst (CopiesAll sectors pairs m) (sym (cond-false _ _ _ lost)) (record { unseen = unseen_then sectors m k (stopped after) before.unseen (unseen_still sectors k (stopped after) before.unseen.holds refl refl refl refl refl); current = before.current; store = before.store; copied = λ no. absurd (true≢false no) })
      ]))
]

-- a group's slots are cleared, where its chunks stand on the origin disk
pub record Clears (sectors : ℕ) (kept : List Pair) (m after : Merging) : Type 0 where
  pub unseen : IsUnseen sectors m after
  pub current : after.merge.current ≡ m.merge.current
  pub pairs : after.merge.failed ≡ false → pairs_in after.merge ≡ kept

module _ (sectors j n : ℕ) (kept group : List Pair) (m : Merging) (is : IsMerging sectors m) (at : pairs_in m.merge ≡ kept ++ group) (some : 0 < n) (group_len : length group ≡ n) (kept_len : length kept ≡ m.merge.current * (32 * m.merge.chunk) + j)
    (copied : Each (IsCopied m.merge.chunk m.volume.origin.bytes m.merge.store.bytes) group) where
  both_len : length (pairs_in m.merge) ≡ m.merge.current * (32 * m.merge.chunk) + (j + n)
  both_len = ap length at ∙ length-append kept group ∙ omega arith

  clear_fits : j + n ≤ 32 * m.merge.chunk
  clear_fits = let len = both_len in let high = is.merge.high in omega arith

  clear_there : 512 * (m.merge.chunk * area_place m.merge.chunk m.merge.current + m.merge.chunk) ≤ length m.merge.store.bytes
  clear_there =
      let pos = is.merge.some in
      let here : m.merge.current ≤ length (pairs_in m.merge) / (32 * m.merge.chunk) = area_of_last (32 * m.merge.chunk) m.merge.current (length (pairs_in m.merge)) (omega arith) is.merge.low in
      let rise : m.merge.current * (32 * m.merge.chunk + 1) ≤ length (pairs_in m.merge) / (32 * m.merge.chunk) * (32 * m.merge.chunk + 1) = mul-le _ _ _ _ here (omega arith) in
      let rises : m.merge.chunk * (area_place m.merge.chunk m.merge.current + 1) ≤ m.merge.chunk * (area_place m.merge.chunk (length (pairs_in m.merge) / (32 * m.merge.chunk)) + 1) = mul-le _ _ _ _ (omega arith) (omega arith) in
      let e : m.merge.chunk * (area_place m.merge.chunk m.merge.current + 1) ≡ m.merge.chunk * area_place m.merge.chunk m.merge.current + m.merge.chunk = grind arith in
      let room = is.merge.pairs.room in
      let whole = is.merge.whole in
      omega arith

  clear_pairs : pairs_of m.merge.chunk (without_slots m.merge.chunk m.merge.store.bytes m.merge.current j n) ≡ kept
  clear_pairs =
      cleared_pairs m.merge.chunk m.merge.current j n m.merge.store.bytes is.merge.some clear_fits clear_there (pairs_in m.merge) refl both_len some
      ∙ ap (λ k. take k (pairs_in m.merge)) (sym kept_len) ∙ ap (take (length kept)) at ∙ take-append_seam kept group

  clear_only : ChangesOnly m.merge.chunk (area_place m.merge.chunk m.merge.current) m.merge.store.bytes (without_slots m.merge.chunk m.merge.store.bytes m.merge.current j n)
  clear_only = cleared_only m.merge.chunk m.merge.current j n m.merge.store.bytes is.merge.some clear_fits clear_there

  clear_formed : AreWellFormed m.merge.chunk sectors is.merge.size kept
  clear_formed = formed_less m.merge.chunk sectors is.merge.size m.merge.current j kept group is.merge.some (subst (AreWellFormed m.merge.chunk sectors is.merge.size) at is.merge.pairs) (let e = length-append kept group in omega arith)

  clear_picture : picture m.merge.chunk m.volume.origin.bytes (without_slots m.merge.chunk m.merge.store.bytes m.merge.current j n) ≡ picture m.merge.chunk m.volume.origin.bytes m.merge.store.bytes
  clear_picture =
      picture-merged m.merge.chunk (area_place m.merge.chunk m.merge.current) m.volume.origin.bytes m.merge.store.bytes (without_slots m.merge.chunk m.merge.store.bytes m.merge.current j n) kept group is.merge.some clear_only at clear_pairs
      (place_unnamed m.merge.chunk sectors is.merge.size m.merge.current kept is.merge.some clear_formed.inside)
      (fresh_pairs kept group (subst (AllPairs IsApart) at is.merge.pairs.apart))
      (all_from (IsCopied m.merge.chunk m.volume.origin.bytes m.merge.store.bytes) group copied)

  -- a merge whose store has the kept pairs
  clear_under : (g : Merge) → g.chunk ≡ m.merge.chunk → g.current ≡ m.merge.current → g.store.bytes ≡ without_slots m.merge.chunk m.merge.store.bytes m.merge.current j n → IsUnderWay sectors g
  clear_under g chunk current store =
      let pairs : pairs_in g ≡ kept = ap (λ x. pairs_of x g.store.bytes) chunk ∙ ap (pairs_of m.merge.chunk) store ∙ clear_pairs in
      let at : g.current * (32 * g.chunk) ≡ m.merge.current * (32 * m.merge.chunk) = ap (λ x. x * (32 * g.chunk)) current ∙ ap (λ x. m.merge.current * (32 * x)) chunk in
      let len = ap length pairs in
      let pos = is.merge.some in
      let fits = clear_fits in
      record {
        some = omega arith;
        size = is.merge.size;
        whole = ap length store ∙ clear_only.len ∙ is.merge.whole;
        pairs = subst (λ x. AreWellFormed x sectors is.merge.size (pairs_in g)) (sym chunk) (subst (AreWellFormed m.merge.chunk sectors is.merge.size) (sym pairs) clear_formed);
        low = omega arith;
        high = omega arith;
      }

  pub clears : Clears sectors kept m (clear_slots j n m)
  clears =
      let g : Merge = m.merge in
      let op : Operation = Writes (g.chunk * area_place g.chunk g.current) g.chunk in
      let new : List ℕ = without_slots g.chunk g.store.bytes g.current j n in
      let after : Merging = with_store m (written_by g.store op new) in
      let done : Merging = record after { merge = record after.merge { next = area_place g.chunk g.current + j + 1 } } in
      elim (cases_Bool (answers g.store op)) [
        | inl ok ↦ (let store : done.merge.store.bytes ≡ new = cond-true _ _ _ ok in
            subst (Clears sectors kept m) (sym (cond-true _ _ _ ok)) (record {
              unseen = unseen_by sectors m done is refl refl refl (clear_under done.merge refl refl store) (ap (picture g.chunk m.volume.origin.bytes) store ∙ clear_picture);
              current = refl;
              pairs = λ _. ap (pairs_of g.chunk) store ∙ clear_pairs;
            }))
        | inr lost ↦ subst (Clears sectors kept m) (sym (cond-false _ _ _ lost)) (record {
          unseen = unseen_still sectors m (stopped after) is refl refl refl refl (cond-false _ _ _ lost);
          current = refl;
          pairs = λ no. absurd (true≢false no);
        })
      ]
