-- A snapshot is taken: what was seen, and what the attach did.
use Rattle.std.proofs.Common.{◌≡◌, ℕ, ◌*◌, ◌<◌, ◌≤◌, ◌∙◌, sym, ap, subst, arith, Bool, true, false, List, [], ◌∷◌, length}
use Rattle.std.specs.Prelude.{Ok}
use Rattle.std.specs.List.{All}
use Rattle.std.proofs.lemmas.List.Elements.{All-head}
use Rattle.sector.specs.Bytes.{sector_at}
use Rattle.chunk.specs.Sizes.{is_chunk}
use Rattle.chunk.proofs.Limits.{is_chunk-some}
use Rattle.device.specs.Layers.{Layer, is_loud}
use Rattle.cow_format.specs.Picture.{picture}
use Rattle.cow_header.specs.HeaderText.{found_in}
use Rattle.cow_header.specs.declared.found.Found.TheVariants.{Fresh}
use Rattle.whole_commands.specs.Loads.{made}
use Rattle.whole_commands.proofs.Made.{made_shows}
use Rattle.snapshot.specs.Kept.{Kept}
use Rattle.volume.specs.Volumed.{Volumed, is_loud_in_all}
use Rattle.volume_opening.specs.Seen.{IsSeen}
use Rattle.volume_opening.specs.Taken.{IsOver, IsTaken}

module _ {B : Type 0} (holds : B → ℕ → List ℕ → Type 0) (contents : B → List ℕ) (layers : B → List Layer) (size : B → ℕ) (failed : B → Bool) (chunk : ℕ) (origin origin' store store' : B) (v : Volumed B) where
  pub taken_is : IsSeen holds contents layers size origin origin' → IsSeen holds contents layers size store store' → is_chunk chunk ≡ true → 2 * chunk ≤ size store' → length (contents store') ≡ 512 * size store' →
      (is_loud (layers store') ≡ true → found_in (sector_at (contents store') 0) ≡ Ok Fresh) → IsOver holds contents layers size chunk origin' store' v → failed v.origin ≡ false → All (λ s. failed s.device ≡ false) v.snaps →
      IsTaken holds contents layers size failed chunk origin store v
  taken_is seen_origin seen_store allowed large whole fresh over origin_answers stores_answer = record {
    one = over.one;
    alone = over.alone;
    quiet = over.quiet;
    answered = (origin_answers, λ s eq. All-head (λ (t : Kept B). failed t.device ≡ false) s [] (subst (All (λ (t : Kept B). failed t.device ≡ false)) eq stores_answer));
    loud = λ is. (seen_origin.loud (over.loud is).0, seen_store.loud (over.loud is).1);
    empty = λ is. ap (λ (b : List ℕ). found_in (sector_at b 0)) (sym (seen_store.same (over.loud is).1)) ∙ fresh (over.loud is).1;
    origin_is = λ is. over.origin_is ∙ seen_origin.same (over.loud is).0;
    origin_lasts = over.origin_lasts;
    store_is = λ is s eq. over.store_is is (fresh (over.loud is).1) s eq ∙ ap (made chunk) (seen_store.same (over.loud is).1);
    store_lasts = over.store_lasts;
    shown = λ is s eq.
        ap (picture chunk (contents v.origin)) (over.store_is is (fresh (over.loud is).1) s eq)
        ∙ made_shows chunk (contents v.origin) (contents store') (is_chunk-some chunk allowed) (omega (arith, large, whole))
        ∙ over.origin_is ∙ seen_origin.same (over.loud is).0;
  }
