use Rattle.height_cert.proofs.Again.{read, alone}
use Rattle.height_cert.proofs.laws.certificates_are_read_again.Goals as goal

pub returns : goal.returns
returns c = λ tree cert. record { read = read tree cert; alone = λ other d. alone tree other cert d }
