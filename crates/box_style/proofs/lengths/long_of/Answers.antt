use Rattle.std.proofs.Common.{◌^◌, ap, sym, ◌∙◌}
use Rattle.css_computed.specs.Styles.{field}
use Rattle.box_data.specs.Limits.{first_above}
use Rattle.box_style.specs.Lengths.{lengths_in}
use Rattle.box_style.proofs.LengthLemmas.{long_here, long_later}
use Rattle.box_style.proofs.lengths.long_of.Goals as goal

pub returns-in-Some : goal.returns-in-Some
returns-in-Some c =
    sym (long_here (λ property. lengths_in (field property c.args.style.now)) (2 ^ 24) c.all_properties-properties.result.now
    c.loop-property.property-index _ c.in-Some.units c.loop-property-test.true
    (ap (λ value. first_above (2 ^ 24) (lengths_in value)) (sym c.get.ensures) ∙ (sym c.long_in.ensures ∙ c.in-Some.is)))
    ∙ c.loop-property.invariant

pub loop-property-preserved : goal.loop-property-preserved
loop-property-preserved c =
    long_later (λ property. lengths_in (field property c.args.style.now)) (2 ^ 24) c.all_properties-properties.result.now
    c.loop-property.property-index _ c.loop-property-test.true
    (ap (λ value. first_above (2 ^ 24) (lengths_in value)) (sym c.get.ensures) ∙ (sym c.long_in.ensures ∙ c.in_default.is))
    ∙ c.loop-property.invariant
