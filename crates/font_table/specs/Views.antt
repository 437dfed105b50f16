-- What the values of the code stand for.
use Rattle.std.specs.Prelude.{[]}
use Rattle.font_table.specs.declared.fonts.Face.{Face}
use Rattle.font_table.specs.declared.line.FaceLine.{FaceLine}

abbrev pub face_of : FaceLine → Face
face_of f = record {
  name = f.name.now;
  weight = f.weight;
  italic = f.italic;
  ascent = f.ascent;
  descent = f.descent;
  default_advance = f.default_advance;
  advances = [];
}
