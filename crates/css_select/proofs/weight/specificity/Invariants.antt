use Rattle.std.proofs.Common.{◌≡◌, take}
use Rattle.css_select.specs.Specificity.{capped, ids_of, classes_of, types_of}
use Rattle.css_select.proofs.weight.specificity.Given as goal

abbrev pub invariant-loop-compound : goal.invariant-loop-compound
invariant-loop-compound l = record {
  ids : l.ids ≡ capped (ids_of (record l.selector { compounds = take l.compound-index l.selector.compounds }));
  classes : l.classes ≡ capped (classes_of (record l.selector { compounds = take l.compound-index l.selector.compounds }));
  types : l.types ≡ capped (types_of (record l.selector { compounds = take l.compound-index l.selector.compounds }));
}
