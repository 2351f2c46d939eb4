-- Why a store is refused, in words. They are this project's own.
use Rattle.std.specs.Prelude.{ℕ, ◌*◌, ◌/◌, ◌%◌, List, ◌++◌, codes, decimal, flat_map}
use Rattle.sector.specs.Refusal.{name_of}
use Rattle.sector.specs.declared.refusal.Refusal.{Refusal}
use Rattle.sector.specs.declared.refusal.Refusal.TheVariants.{BadHeader, BadVersion, BadChunk, Invalid, StoreTooSmall, Damaged}
use Rattle.cow_image.specs.declared.fault.Fault.{Fault}
use Rattle.cow_image.specs.declared.fault.Fault.TheVariants.{PastOrigin, OutsideStore, AtArea, OldTwice, NewTwice}
use Rattle.cow_image.specs.declared.found.Reason.{Reason}
use Rattle.cow_image.specs.declared.found.Reason.TheVariants.{Empty, Header, TooSmall, NoRoom, NoArea, Pairs}

-- the place of a slot, in a store whose areas have so many slots
abbrev pub slot_text : ℕ → ℕ → List ℕ
slot_text slots slot = codes "area " ++ decimal (slot / slots) ++ codes " slot " ++ decimal (slot % slots)

-- what is wrong with the pairs, in a store whose areas have so many slots
abbrev pub fault_text : ℕ → Fault → List ℕ
fault_text slots (PastOrigin slot pair) = slot_text slots slot ++ codes ": old chunk " ++ decimal pair.old ++ codes " begins past the origin's end"
fault_text slots (OutsideStore slot pair) = slot_text slots slot ++ codes ": new chunk " ++ decimal pair.new ++ codes " does not lie inside the store"
fault_text slots (AtArea slot pair) = slot_text slots slot ++ codes ": new chunk " ++ decimal pair.new ++ codes " is an area's place"
fault_text slots (OldTwice slot pair) = slot_text slots slot ++ codes ": old chunk " ++ decimal pair.old ++ codes " stands in an earlier slot"
fault_text slots (NewTwice slot pair) = slot_text slots slot ++ codes ": new chunk " ++ decimal pair.new ++ codes " stands in an earlier slot"

-- a line for each fault
abbrev pub fault_line : ℕ → Fault → List ℕ
fault_line slots fault = codes "fault " ++ (fault_text slots fault ++ codes "\n")

abbrev pub faults_text : ℕ → List Fault → List ℕ
faults_text slots faults = flat_map (fault_line slots) faults

-- what is wrong with a first sector
abbrev pub header_text : Refusal → List ℕ
header_text BadHeader = codes "the store begins neither with zero nor with SnAp"
header_text BadVersion = codes "the version is not 1"
header_text BadChunk = codes "the chunk size is no power of two from 1 to 1024"
header_text Invalid = codes "the store is marked as invalid"
header_text _ = codes "the first sector is refused"

abbrev pub reason_text : ℕ → Reason → List ℕ
reason_text slots Empty = codes "the store has no sector"
reason_text slots (Header refusal) = header_text refusal
reason_text slots (TooSmall chunk) = codes "less than two chunks of " ++ decimal chunk ++ codes " sectors"
reason_text slots NoRoom = codes "no header, and less than two sectors"
reason_text slots (NoArea area) = codes "area " ++ decimal area ++ codes " comes after full areas and does not lie inside the store"
reason_text slots (Pairs fault) = fault_text slots fault

-- the refusal's name
abbrev pub refused_name : Reason → List ℕ
refused_name Empty = name_of StoreTooSmall
refused_name (Header refusal) = name_of refusal
refused_name (TooSmall chunk) = name_of StoreTooSmall
refused_name NoRoom = name_of StoreTooSmall
refused_name (NoArea area) = name_of Damaged
refused_name (Pairs fault) = name_of Damaged
