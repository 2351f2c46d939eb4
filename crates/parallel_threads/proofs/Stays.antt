-- Volumes that seats leave.
use Rattle.std.proofs.Common.{◌≡◌, ℕ, ◌<◌, List, [], ◌++◌, length, get_or, map, refl, sym, ap, ◌∙◌, subst, inl}
use Rattle.std.proofs.lemmas.List.{append-nil, get_or-map}
use Rattle.device.specs.Layers.{Layer}
use Rattle.audited_volume.specs.declared.entry.Entry.{Entry}
use Rattle.audited_volume.specs.declared.entry.Receipt.{Receipt}
use Rattle.audited_volume.specs.Books.{AuditShape}
use Rattle.audited_volume.specs.Entries.{answered_of, entries_by}
use Rattle.locked_volume.specs.Fixed.{Fixed, StaysFrom, fixed_of}
use Rattle.locked_volume.specs.Names.{nothing_fixed}
use Rattle.volume_threads.specs.Rigs.{AreOpened, IsRoomOf, OpenedShape, boards_in, fixed_in, histories_in, start_in}
use Rattle.parallel_threads.specs.declared.task.Task.{Task}
use Rattle.parallel_threads.specs.Left.{AreLeft, NothingRan}

still : (f : Fixed) → StaysFrom f f
still f = record { attached = refl; sectors = refl; snaps = inl (refl, refl, refl); sound = refl; loud = refl; base = refl; taken = refl; folded = refl; piece = refl }

-- Volumes at which nothing ran.
pub none_ran : {B : Type 0} (size : B → ℕ) (layers : B → List Layer) (audits : List (AuditShape B)) → ((k : ℕ) (d : AuditShape B) → k < length audits → (get_or audits k d).held ≡ []) → AreLeft size layers audits audits
none_ran size layers audits quiet = record {
  many = refl;
  quiet = quiet;
  stays = λ k d within. still _;
  grows = λ k d within. ([], sym (append-nil (get_or audits k d).entries));
}

-- Volumes of a rig that was closed.
pub closed : {B : Type 0} (size : B → ℕ) (layers : B → List Layer) (old new : List (AuditShape B)) (volumes : ℕ) (start : ℕ → List Entry) (fixed : ℕ → Fixed) → volumes ≡ length old → start ≡ start_in old
    → fixed ≡ fixed_in size layers old → length new ≡ volumes → ((k : ℕ) (d : AuditShape B) → k < volumes → (get_or new k d).held ≡ [])
    → ((k : ℕ) (d : AuditShape B) → k < volumes → StaysFrom (fixed k) (fixed_of size layers (get_or new k d)))
    → ((k : ℕ) (d : AuditShape B) → k < volumes → (more : List Entry) × ((get_or new k d).entries ≡ start k ++ more)) → AreLeft size layers old new
closed size layers old new volumes start fixed volumes_are start_is fixed_is many quiet stays grows = record {
  many = many ∙ volumes_are;
  quiet = λ k d low. quiet k d (subst (λ n. k < n) many low);
  stays = λ k d low.
      let here : k < length old = subst (λ n. k < n) (many ∙ volumes_are) low in
      let was : fixed k ≡ fixed_of size layers (get_or old k d) = ap (λ f. f k) fixed_is ∙ get_or-map (fixed_of size layers) old k d nothing_fixed here in
      subst (λ f. StaysFrom f (fixed_of size layers (get_or new k d))) was (stays k d (subst (λ n. k < n) many low));
  grows = λ k d low.
      let here : k < length old = subst (λ n. k < n) (many ∙ volumes_are) low in
      let was : start k ≡ (get_or old k d).entries = ap (λ f. f k) start_is ∙ get_or-map (λ a. a.entries) old k d [] here in
      let grown = grows k d (subst (λ n. k < n) many low) in
      (grown.0, grown.1 ∙ ap (λ (l : List Entry). l ++ grown.0) was);
}

-- The room of a rig is that of its audits and of what was opened for them.
pub room_of : {B : Type 0} (size : B → ℕ) (layers : B → List Layer) (audits : List (AuditShape B)) (opened : OpenedShape) → AreOpened (length audits) opened
    → IsRoomOf size layers audits opened (length audits) (histories_in opened) (boards_in opened) (start_in audits) opened.queue (fixed_in size layers audits)
room_of size layers audits opened is = record { is_opened = is; volumes_are = refl; histories = refl; boards_are = refl; starts = refl; queue_is = refl; fixed_is = refl }

-- Nothing ran at volumes that are the same.
pub same_spared : {B : Type 0} (audits : List (AuditShape B)) (asked : ℕ → List Task) → NothingRan audits audits asked asked
same_spared audits asked = record { tasks = λ i. refl; entries = λ seat k d some few low. refl }

-- and none of its entries is new where a seat has no receipts
pub entries_same : (seat : ℕ) (start old new : List Entry) (receipts : List Receipt) (number : ℕ) → number ≡ seat → start ≡ old → receipts ≡ [] → entries_by number new ≡ entries_by number start ++ map answered_of receipts
    → entries_by seat new ≡ entries_by seat old
entries_same seat start old new receipts number is was none own =
    ap (λ n. entries_by n new) (sym is) ∙ own ∙ ap (λ (l : List Receipt). entries_by number start ++ map answered_of l) none ∙ append-nil (entries_by number start) ∙ (λ i. entries_by (is i) (was i))
