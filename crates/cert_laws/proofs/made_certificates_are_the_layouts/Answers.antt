use Rattle.cert_laws.proofs.LayoutTexts.{made}
use Rattle.cert_laws.proofs.made_certificates_are_the_layouts.Goals as goal

pub returns : goal.returns
returns c = λ d book rows. made d book rows
