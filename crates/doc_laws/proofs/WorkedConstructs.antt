-- Worked cases of what isn't laid out.
use Rattle.std.proofs.Common.{◌≡◌, [], ◌∷◌, Some, None, refl}
use Rattle.std.specs.Prelude.{codes}
use Rattle.mc_base.specs.declared.refusal.ConstructName.TheVariants as names
use Rattle.html_grammar.specs.Names.{same}
use Rattle.html_grammar.specs.Tree.{Forest, Nil, Element, Words}
use Rattle.box_data.specs.declared.style.BoxStyle.{BoxStyle}
use Rattle.box_data.specs.declared.style.Length.TheVariants.{Units as units}
use Rattle.box_data.specs.declared.style.Display.TheVariants.{Hidden as hidden, Block as block}
use Rattle.box_data.specs.Styles.{initial}
use Rattle.box_data.specs.BoxTree.{first_construct}

abbrev shown : BoxStyle
shown = record initial { display = block }

-- <p style="float: left">x</p>
abbrev floating : Forest
floating = Element 0 (codes "html") [] (Element 0 (codes "head") [] Nil
    (Element 0 (codes "body") [] (Element 0 (codes "p") [] (Words 23 (codes "x") Nil) Nil) Nil)) Nil

floats : first_construct (shown ∷ record initial { display = hidden } ∷ shown ∷ record shown { refused = Some names.Float }
    ∷ initial ∷ []) floating ≡ Some (record { offset = 0; name = names.Float })
unfolding same
floats = refl

-- <b><p height><img></b>: the block in the inline element comes first, then its height, and then the image's size
abbrev inside : Forest
inside = Element 0 (codes "html") [] (Element 0 (codes "head") [] Nil
    (Element 0 (codes "body") []
    (Element 0 (codes "b") [] (Element 3 (codes "p") [] (Element 9 (codes "img") [] Nil Nil) Nil) Nil) Nil)) Nil

in-inline : first_construct (shown ∷ record initial { display = hidden } ∷ shown ∷ initial ∷ record shown { height = units 64 }
    ∷ initial ∷ []) inside ≡ Some (record { offset = 3; name = names.BlockInInline })
unfolding same
in-inline = refl

high : first_construct (shown ∷ record initial { display = hidden } ∷ shown ∷ shown ∷ record shown { height = units 64 } ∷ initial
    ∷ []) inside ≡ Some (record { offset = 3; name = names.Height })
unfolding same
high = refl

without-size : first_construct (shown ∷ record initial { display = hidden } ∷ shown ∷ shown ∷ record shown {
  height = units 64;
  column_count = Some 2;
} ∷ initial ∷ []) inside ≡ Some (record { offset = 9; name = names.ImgSize })
unfolding same
without-size = refl

not-shown : first_construct (shown ∷ record initial { display = hidden } ∷ shown ∷ record initial { display = hidden }
    ∷ record shown { height = units 64 } ∷ initial ∷ []) inside ≡ None
unfolding same
not-shown = refl
