-- A read that was answered, and whose bytes there was no memory to put into words.
use Rattle.std.proofs.Common.{◌≡◌, ℕ, List, [], ◌∷◌, inl, refl, sym}
use Rattle.std.proofs.lemmas.List.{append-nil}
use Rattle.chunk.specs.Pieces.{Span, pieces_of}
use Rattle.plain_machine.specs.declared.request.Dev.{Dev}
use Rattle.plain_machine.specs.declared.request.Request.{Request}
use Rattle.sector.specs.declared.refusal.Refusal.{Refusal}
use Rattle.sector.specs.declared.refusal.Refusal.TheVariants.{NoMemory}
use Rattle.audited_volume.specs.declared.entry.Receipt.{Receipt}
use Rattle.volume_threads.specs.Served.{IsReadBy, IsReadCut}

-- it is cut short behind its last piece
nothing_left : {C : Type 0} (p : Span) (ps : List Span) → [] ≡ p ∷ ps → C
nothing_left p ps e = absurd (let h : [] ≡ p ∷ ps = e in cc)

pub unsaid : (denies : Request → Refusal → Type 0) (piece : ℕ) (dev : Dev) (span : Span) (receipts : List Receipt) (bytes : List ℕ) → IsReadBy piece dev span receipts bytes → IsReadCut denies piece dev span receipts NoMemory
unsaid denies piece dev span receipts bytes h =
    let pieces = pieces_of piece span in
    (pieces, [], receipts, bytes, sym (append-nil pieces), h, inl (refl, (λ over. refl), λ p ps e. nothing_left p ps e))
