-- Noting a failed read of one name leaves the counts of the others.
use Rattle.mc_base.proofs.NameCounts.{others_noted}
use Rattle.mc_base.proofs.disk.DiskFilesFiles.read.Goals as goal

pub returns-then-eq-clause-others : goal.returns-then-eq-clause-others
returns-then-eq-clause-others g c = λ other apart. rw (← c.self.view_is) (others_noted _ _ _ _ other c.note.ensures apart)
