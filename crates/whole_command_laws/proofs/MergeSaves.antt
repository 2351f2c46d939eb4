-- Chunks of the origin are saved in snapshots that are in order, and then written or not: they show what they showed, while
-- they are live, and stay in order.
use Rattle.std.proofs.Common.{◌≡◌, inl, inr, ℕ, zero, suc, ◌+◌, ◌*◌, ◌/◌, ◌<◌, ◌≤◌, Bool, true, false, List, [], ◌∷◌, length, arith, refl, ap, ◌∙◌, sym, subst}
use Rattle.std.specs.Prelude.{if◌then◌else◌}
use Rattle.std.proofs.lemmas.Bool.{cases_Bool, cond-true, cond-false}
use Rattle.sector.specs.Bytes.{with_sectors}
use Rattle.cow_format.specs.Picture.{picture}
use Rattle.plain_machine.specs.Plain.{Live, Invalid}
use Rattle.whole_commands.proofs.Writes.{picture-saved, picture-over}
use Rattle.chunk.specs.Sizes.{is_chunk}
use Rattle.chunk.proofs.PiecePlaces.{piece_low}
use Rattle.chunk.proofs.Wider.{wider}
use Rattle.whole_commands.specs.Devices.{Device}
use Rattle.whole_commands.specs.Snaps.{Snap, Volume, shown}
use Rattle.whole_commands.specs.Saving.{save}
use Rattle.whole_commands.specs.Pieces.{save_all}
use Rattle.whole_commands.specs.Shown.{ShowTheSame}
use Rattle.whole_commands.specs.Commands.{piece_of}
use Rattle.whole_commands.specs.Merges.{Merging, least_chunk, next_over, saved_round, saved_rounds}
use Rattle.whole_commands.specs.MergeShown.{IsWell, IsMerging}
use Rattle.whole_commands.proofs.Each.{Each, each_from, each_weaker}
use Rattle.whole_commands.proofs.Chunks.{save_chunk, at_keep, HasChunks, least_allowed, piece_allowed, piece_least}
use Rattle.whole_commands.proofs.Rounds.{rounds_bytes, rounds_keep}
use Rattle.whole_commands.proofs.RoundSaves.{chunk_saved, WantsInside, at_well, at_shown, HasSize, wants_all, HasOver, all_over}
use Rattle.whole_commands.proofs.SavedBytes.{save_bytes}

-- what shows an array is live
pub shown_live : (origin : List ℕ) (s : Snap) (array : List ℕ) → shown origin s ≡ Live array → s.live ≡ true
shown_live origin s array is = elim (cases_Bool s.live) [
  | inl on ↦ on
  | inr out ↦ (let no : Invalid ≡ Live array = sym (cond-false _ _ _ out) ∙ is in absurd (cc))
]

-- no change, and two changes in turn
pub show_same : (origin : List ℕ) (snaps : List Snap) → ShowTheSame origin origin snaps snaps
show_same origin [] = tt
show_same origin (s ∷ snaps) = (λ _. refl, show_same origin snaps)

pub show_then : (a b c : List ℕ) (ss ts us : List Snap) → ShowTheSame a b ss ts → ShowTheSame b c ts us → ShowTheSame a c ss us
show_then a b c [] [] [] one two = tt
show_then a b c [] [] (u ∷ us) one two = absurd two
show_then a b c [] (t ∷ ts) us one two = absurd one
show_then a b c (s ∷ ss) [] us one two = absurd one
show_then a b c (s ∷ ss) (t ∷ ts) [] one two = absurd two
show_then a b c (s ∷ ss) (t ∷ ts) (u ∷ us) one two = (
  λ live. let is : shown c u ≡ shown b t = two.0 live in
      let on : t.live ≡ true = shown_live b t (picture u.chunk c u.store.bytes) (sym is ∙ cond-true _ _ _ live) in
      is ∙ one.0 on,
  show_then a b c ss ts us one.1 two.1,
)

-- so many sectors from this one on lie in one chunk of a snapshot
abbrev pub IsInOne : ℕ → ℕ → Snap → Type 0
IsInOne first count s = first + count ≤ s.chunk * (first / s.chunk) + s.chunk

module _ (sectors first count : ℕ) (bytes : List ℕ) (some : 0 < count) (inside : first + count ≤ sectors) (len : length bytes ≡ 512 * count) where
  -- the chunk of the first sector begins inside the origin
  abbrev first_of : Snap → ℕ
  first_of s = first / s.chunk

  begins_inside : (s : Snap) → s.chunk * (first / s.chunk) < sectors
  begins_inside s = let low = piece_low s.chunk first in omega arith

  one_shown : (origin : Device) (s : Snap) (after : List ℕ) → length origin.bytes ≡ 512 * sectors → IsWell sectors s → IsInOne first count s → (wrote : Bool) → after ≡ (if wrote then with_sectors origin.bytes first bytes else origin.bytes) →
      (save (first / s.chunk) origin s).snap.live ≡ true → shown after (save (first / s.chunk) origin s).snap ≡ shown origin.bytes s
  one_shown origin s after whole well one wrote is live =
      let c : ℕ = first / s.chunk in
      let t : Snap = (save c origin s).snap in
      let (on, kept) = chunk_saved sectors c origin s whole (begins_inside s) well live in
      let (size, done, pos) = kept in
      let low : s.chunk * c ≤ first = piece_low s.chunk first in
      let chunk : t.chunk ≡ s.chunk = save_chunk c origin s in
      let over : (b : Bool) → picture s.chunk (if b then with_sectors origin.bytes first bytes else origin.bytes) t.store.bytes ≡ picture s.chunk origin.bytes t.store.bytes =
      by_answer (λ (b : List ℕ). picture s.chunk b t.store.bytes ≡ picture s.chunk origin.bytes t.store.bytes) (with_sectors origin.bytes first bytes) origin.bytes
      (picture-saved s.chunk c first count origin.bytes t.store.bytes bytes pos done.copy low one len (omega arith)) refl in
      cond-true _ _ _ live ∙ ap Live (ap (λ n. picture n after t.store.bytes) chunk ∙ ap (λ b. picture s.chunk b t.store.bytes) is ∙ over wrote ∙ done.same) ∙ sym (cond-true _ _ _ on)
    where
      by_answer : (P : List ℕ → Type 0) (x y : List ℕ) → P x → P y → (b : Bool) → P (if b then x else y)
      by_answer P x y px py true = px
      by_answer P x y px py false = py

  -- all of them
  pub all_well : (origin : Device) (snaps : List Snap) → length origin.bytes ≡ 512 * sectors → Each (IsWell sectors) snaps → Each (IsWell sectors) (save_all first origin snaps).snaps
  all_well origin snaps whole well = at_well sectors first_of origin snaps whole (each_all snaps) well
    where
      each_all : (xs : List Snap) → Each (WantsInside sectors first_of) xs
      each_all [] = tt
      each_all (x ∷ xs) = (begins_inside x, each_all xs)

  pub all_shown : (origin : Device) (snaps : List Snap) (after : List ℕ) → length origin.bytes ≡ 512 * sectors → Each (IsWell sectors) snaps → Each (IsInOne first count) snaps → (wrote : Bool) → after ≡ (if wrote then with_sectors origin.bytes first bytes else origin.bytes) →
      ShowTheSame origin.bytes after snaps (save_all first origin snaps).snaps
  all_shown origin [] after whole well one wrote is = tt
  all_shown origin (s ∷ snaps) after whole well one wrote is =
      let next : Device = (save (first / s.chunk) origin s).origin in
      let same : next.bytes ≡ origin.bytes = save_bytes (first / s.chunk) origin s in (
        one_shown origin s after whole well.0 one.0 wrote is,
        subst (λ (b : List ℕ). ShowTheSame b after snaps (save_all first next snaps).snaps) same
            (all_shown next snaps after (ap length same ∙ whole) well.1 one.1 wrote (is ∙ ap (λ b. if wrote then with_sectors b first bytes else b) (sym same))),
      )

-- Rounds, and then a write over all chunks that they saved.
module _ (sectors first count : ℕ) (some : 0 < count) (inside : first + count ≤ sectors) where
  abbrev HasSome : Snap → Type 0
  HasSome s = HasSize sectors first count some inside s

  pub rounds_shown : (n : ℕ) (v : Volume) → length v.origin.bytes ≡ 512 * sectors → Each HasSome v.snaps → Each (IsWell sectors) v.snaps → ShowTheSame v.origin.bytes v.origin.bytes v.snaps (saved_rounds first count n v).snaps
  rounds_shown zero v whole pos well = show_same v.origin.bytes v.snaps
  rounds_shown (suc n) v whole pos well =
      let next : Volume = saved_round first count v in
      let wants : Each (WantsInside sectors (next_over first count)) v.snaps = wants_all sectors first count some inside v.snaps pos in
      let bytes : next.origin.bytes ≡ v.origin.bytes = rounds_bytes first count 1 v in
      let more : ShowTheSame next.origin.bytes next.origin.bytes next.snaps (saved_rounds first count n next).snaps = rounds_shown n next (ap length bytes ∙ whole) (at_keep (λ n. 0 < n) (next_over first count) v.origin v.snaps pos)
      (at_well sectors (next_over first count) v.origin v.snaps whole wants well) in
      show_then v.origin.bytes v.origin.bytes v.origin.bytes v.snaps next.snaps (saved_rounds first count n next).snaps (at_shown sectors (next_over first count) v.origin v.snaps whole wants well)
      (subst (λ (b : List ℕ). ShowTheSame b b next.snaps (saved_rounds first count n next).snaps) bytes more)

  pub over_shown : (disk bytes after : List ℕ) (snaps : List Snap) → length disk ≡ 512 * sectors → length bytes ≡ 512 * count → Each HasSome snaps → Each (HasOver sectors first count some inside) snaps → (wrote : Bool) → after ≡ (if wrote then with_sectors disk first bytes else disk) → ShowTheSame disk after snaps snaps
  over_shown disk bytes after [] whole len pos over wrote is = tt
  over_shown disk bytes after (s ∷ snaps) whole len pos over wrote is = (
    λ live. cond-true _ _ _ live ∙ ap Live (ap (λ b. picture s.chunk b s.store.bytes) is ∙ by_answer wrote (picture-over s.chunk first count disk s.store.bytes bytes pos.0 (over.0 live) len (omega arith))) ∙ sym (cond-true _ _ _ live),
    over_shown disk bytes after snaps whole len pos.1 over.1 wrote is,
  )
    where
      by_answer : (b : Bool) → picture s.chunk (with_sectors disk first bytes) s.store.bytes ≡ picture s.chunk disk s.store.bytes → picture s.chunk (if b then with_sectors disk first bytes else disk) s.store.bytes ≡ picture s.chunk disk s.store.bytes
      by_answer true same = same
      by_answer false same = refl

  pub rounds_shown_over : (v : Volume) (bytes after : List ℕ) → length v.origin.bytes ≡ 512 * sectors → length bytes ≡ 512 * count → Each HasSome v.snaps → Each (IsWell sectors) v.snaps → (wrote : Bool) → after ≡ (if wrote then with_sectors v.origin.bytes first bytes else v.origin.bytes) →
      ShowTheSame v.origin.bytes after v.snaps (saved_rounds first count count v).snaps
  rounds_shown_over v bytes after whole len pos well wrote is =
      let ss : List Snap = (saved_rounds first count count v).snaps in
      show_then v.origin.bytes v.origin.bytes after v.snaps ss ss (rounds_shown count v whole pos well)
      (over_shown v.origin.bytes bytes after ss whole len (rounds_keep first count (λ n. 0 < n) count v pos) (all_over sectors first count some inside v whole pos well) wrote is)

-- The least chunk size of a volume with a merge is one that is allowed, and no chunk is less.
pub record HasLeast (m : Merging) : Type 0 where
  pub allowed : is_chunk (least_chunk m) ≡ true
  pub merge : least_chunk m ≤ m.merge.chunk
  pub snaps : Each (HasChunks (least_chunk m)) m.volume.snaps

pub has_least : (sectors : ℕ) (m : Merging) → IsMerging sectors m → HasLeast m
has_least sectors m is =
    let each : Each (λ (s : Snap). is_chunk s.chunk ≡ true) m.volume.snaps = each_from (λ (s : Snap). is_chunk s.chunk ≡ true) m.volume.snaps is.chunks in
    record {
      allowed = least_allowed m.merge.chunk (piece_of m.volume.snaps) is.allowed (piece_allowed m.volume.snaps each);
      merge = omega arith;
      snaps = piece_least (least_chunk m) m.volume.snaps (omega arith) each;
    }

-- a piece that lies in one chunk of that size lies in one of each snapshot
pub one_wider : (chunk first count : ℕ) (snaps : List Snap) → is_chunk chunk ≡ true → first + count ≤ chunk * (first / chunk) + chunk → Each (HasChunks chunk) snaps → Each (IsInOne first count) snaps
one_wider chunk first count snaps allowed one all = each_weaker (HasChunks chunk) (IsInOne first count) snaps (λ s w. wider chunk s.chunk first count allowed w.0 w.1 one) all
