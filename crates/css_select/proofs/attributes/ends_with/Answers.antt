use Rattle.std.proofs.Common.{take, length, ◌-◌}
use Rattle.std.proofs.lemmas.Bool.Decides.{Decides-eqb}
use Rattle.std.proofs.lemmas.Slice.Eq.{ends_is}
use Rattle.css_select.proofs.attributes.ends_with.Goals as goal

pub returns : goal.returns
returns c =
    let is = ends_is Decides-eqb c.args.text.now c.args.end.now c.ends_with.result c.ends_with.ensures.value in
    (λ t. (take (length c.args.text.now - length c.args.end.now) c.args.text.now, is.0 t), λ h. is.1 h.0 h.1)
