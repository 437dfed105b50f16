-- What is open, the innermost last.
use Rattle.std.specs.Prelude.{◌-◌, List, length, take, Option, slice_get}
use Rattle.css_syntax.specs.declared.brackets.Open.{Open}

abbrev pub innermost : List Open → Option Open
innermost opens = slice_get opens (length opens - 1)

abbrev pub popped : List Open → List Open
popped opens = take (length opens - 1) opens
