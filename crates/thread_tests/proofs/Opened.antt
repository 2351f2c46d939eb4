-- What a rig over one audit is made from.
use Rattle.std.proofs.Common.{arith, ◌≡◌, ◌<◌, ℕ, zero, suc, List, [], ◌∷◌, ◌++◌, length, get_or, refl, ap, ◌∙◌, subst, sym}
use Rattle.device.specs.Layers.{Layer}
use Rattle.audited_volume.specs.Books.{AuditShape}
use Rattle.volume_threads.specs.Rigs.{AreOpened, IsRoomOf, OpenedShape, boards_in, fixed_in, histories_in, start_in}

-- the audits are the one that was put into an empty vector
pub one_of : {B : Type 0} (audits before : List (AuditShape B)) (a : AuditShape B) → before ≡ [] → audits ≡ before ++ a ∷ [] → audits ≡ a ∷ []
one_of audits before a none is = is ∙ ap (λ l. l ++ a ∷ []) none

-- The room of the rig is that of its audit and of what was opened for it.
pub room_of_one : {B : Type 0} (size : B → ℕ) (layers : B → List Layer) (audits : List (AuditShape B)) (a : AuditShape B) (opened : OpenedShape) → audits ≡ a ∷ [] → AreOpened 1 opened
    → IsRoomOf size layers audits opened (length audits) (histories_in opened) (boards_in opened) (start_in audits) opened.queue (fixed_in size layers audits)
room_of_one size layers audits a opened one is = record {
  is_opened = subst (λ n. AreOpened n opened) (sym (ap length one)) is;
  volumes_are = refl;
  histories = refl;
  boards_are = refl;
  starts = refl;
  queue_is = refl;
  fixed_is = refl;
}

first_quiet : {B : Type 0} (a : AuditShape B) (k : ℕ) (d : AuditShape B) → a.held ≡ [] → k < 1 → (get_or (a ∷ []) k d).held ≡ []
first_quiet a zero d none low = none
first_quiet a (suc k) d none low = absurd (omega (arith, low))

-- no audit has a request in flight, since that one has none
pub quiet_of_one : {B : Type 0} (audits : List (AuditShape B)) (a : AuditShape B) → audits ≡ a ∷ [] → a.held ≡ [] → (k : ℕ) (d : AuditShape B) → k < length audits → (get_or audits k d).held ≡ []
quiet_of_one audits a one none k d low =
    subst (λ l. (get_or l k d).held ≡ []) (sym one) (first_quiet a k d none (subst (λ n. k < n) (ap length one) low))
