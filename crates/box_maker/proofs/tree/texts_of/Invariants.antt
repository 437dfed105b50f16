use Rattle.std.proofs.Common.{◌≡◌, take}
use Rattle.box_data.specs.Styles.{texts_of}
use Rattle.box_maker.proofs.tree.texts_of.Given as goal

abbrev pub invariant-loop-style : goal.invariant-loop-style
invariant-loop-style l = l.texts.items ≡ texts_of (take l.style-index l.styles)
