-- The table: each row is found by its name, reads what it writes, and has plain words.
use Rattle.std.proofs.Common.{◌≡◌, true, refl}
use Rattle.std.specs.Prelude.{Some}
use Rattle.std.specs.List.{list_all}
use Rattle.text_lines.specs.Names.{plain}
use Rattle.text_lines.specs.Shapes.{kind_named, is_sound_slot, is_plain_slot}
use Rattle.transcript.specs.Types.{Name}
use Rattle.transcript.specs.declared.shape.Name.TheVariants.{Wake}
use Rattle.transcript.specs.Tables.{row, all_names}

pub row_found : (k : Name) → kind_named row all_names (row k).name ≡ Some k
row_found Wake = refl
row_found k = refl

pub row_sound : (k : Name) → list_all is_sound_slot (row k).slots ≡ true
row_sound Wake = refl
row_sound k = refl

pub name_plain : (k : Name) → plain (row k).name ≡ true
name_plain Wake = refl
name_plain k = refl

pub row_slots_plain : (k : Name) → list_all is_plain_slot (row k).slots ≡ true
row_slots_plain Wake = refl
row_slots_plain k = refl
