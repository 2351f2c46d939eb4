-- What a write that waits for a flush makes of the bytes of a disk.
use Rattle.std.proofs.Common.{◌≡◌, ◌⊎◌, inl, inr, ℕ, ◌+◌, ◌*◌, ◌-◌, ◌<◌, ◌≤◌, List, [], length, get_or, min, ap, ◌∙◌, sym, arith, rules, length-take, length-drop}
use Rattle.std.proofs.lemmas.Bool.{cases_lt}
use Rattle.std.proofs.lemmas.Grind.{same_number_lists}
use Rattle.std.proofs.lemmas.List.{places, same_lists}
use Rattle.sector.specs.Bytes.{sectors_at, with_sectors}
use Rattle.sector.proofs.Sectors.{byte_inside, byte_outside, byte_read, length-with_sectors}
use Rattle.device.specs.declared.mem_disk.MemDisk.{MemDisk}
use Rattle.device.specs.Disk.{contents_are, disk_contents}
use Rattle.device.specs.Sectors.{now_in}

-- nothing that is written changes nothing
pub none_written : (b : List ℕ) (first : ℕ) → with_sectors b first [] ≡ b
none_written b first = same_lists _ _ (search (rules, places)) (λ k d h. grind (arith, places))

pub shown_now : (d : MemDisk) → d.late.bytes.items ≡ [] → disk_contents d ≡ now_in d.sectors
shown_now d none = contents_are d ∙ ap (λ new. with_sectors (now_in d.sectors) d.late.range.first new) none ∙ none_written (now_in d.sectors) d.late.range.first

long_read : (b : List ℕ) (first count : ℕ) → 512 * (first + count) ≤ length b → length (sectors_at b first count) ≡ 512 * count
long_read b first count inside =
    let is : length (sectors_at b first count) ≡ min (512 * count) (length b - 512 * first) = simp (length-take, length-drop) in
    omega (arith, is)

-- it stands over what is read of the bytes below
pub read_over : (b late out out' : List ℕ) (late_first late_count first count : ℕ) → 512 * late_first + length late ≤ length b → length late ≡ 512 * late_count → 512 * (first + count) ≤ length b
    → out ≡ sectors_at b first count → length out' ≡ 512 * count
    → ((i : ℕ) → i < 512 * count → 512 * late_first ≤ 512 * first + i → 512 * first + i < 512 * (late_first + late_count) → get_or out' i 0 ≡ get_or late (512 * first + i - 512 * late_first) 0)
    → ((i : ℕ) → (512 * first + i < 512 * late_first) ⊎ (512 * (late_first + late_count) ≤ 512 * first + i) → get_or out' i 0 ≡ get_or out i 0)
    → out' ≡ sectors_at (with_sectors b late_first late) first count
read_over b late out out' late_first late_count first count fits whole inside is len over rest =
    let all : length (with_sectors b late_first late) ≡ length b = length-with_sectors b late_first late fits in
    same_number_lists _ _ (len ∙ sym (long_read (with_sectors b late_first late) first count (omega (arith, all)))) (λ i lt.
    let short : i < 512 * count = omega (arith, len) in
    let read : get_or (sectors_at (with_sectors b late_first late) first count) i 0 ≡ get_or (with_sectors b late_first late) (512 * first + i) 0 = byte_read (with_sectors b late_first late) first count i short in
    let below : get_or out i 0 ≡ get_or b (512 * first + i) 0 = ap (λ x. get_or x i 0) is ∙ byte_read b first count i short in
    elim (cases_lt (512 * first + i) (512 * late_first)) [
      | inl lo ↦ rest i (inl lo) ∙ below ∙ sym (byte_outside b late_first late (512 * first + i) fits (inl lo)) ∙ sym read
      | inr from ↦ elim (cases_lt (512 * first + i) (512 * (late_first + late_count))) [
        | inl hi ↦
            let at : 512 * late_first + (512 * first + i - 512 * late_first) ≡ 512 * first + i = omega arith in
            over i short from hi ∙ sym (byte_inside b late_first late (512 * first + i - 512 * late_first) fits (omega (arith, whole))) ∙ ap (λ n. get_or (with_sectors b late_first late) n 0) at ∙ sym read
        | inr past ↦ rest i (inr past) ∙ below ∙ sym (byte_outside b late_first late (512 * first + i) fits (inr (omega (arith, whole)))) ∙ sym read
      ]
    ])
