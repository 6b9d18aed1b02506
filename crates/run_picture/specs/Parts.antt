-- A text in parts (docs/PICTURES.md, "The drawing").
use Rattle.std.specs.Prelude.{ℕ, List, decimal}
use Rattle.std.specs.List.{flat_map}
use Rattle.run_picture.specs.declared.parts.Part.{Part}
use Rattle.run_picture.specs.declared.parts.Part.TheVariants as parts

abbrev pub part_text : Part → List ℕ
part_text (parts.Text text) = text.now
part_text (parts.Number number) = decimal number

abbrev pub parts_text : List Part → List ℕ
parts_text = flat_map part_text
