use Rattle.css_computed.proofs.FieldNames.{field_named}
use Rattle.css_computed.proofs.laws.fields_are_named.Goals as goal

pub returns : goal.returns
returns c = field_named
