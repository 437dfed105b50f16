-- Noting a failed read of one name leaves the counts of the others.
use Rattle.mc_base.proofs.NameCounts.{others_noted}
use Rattle.mc_base.proofs.memory.MemoryFilesFiles.read.Goals as goal

pub returns-then-contains-clause-others : goal.returns-then-contains-clause-others
returns-then-contains-clause-others c = λ other apart. rw (← c.self.view_is) (others_noted _ _ _ _ other c.note.ensures apart)

pub returns-in_default-clause-others : goal.returns-in_default-clause-others
returns-in_default-clause-others c =
    λ other apart. rw (← c.self.view_is) (others_noted _ _ _ _ other c.note-in_default.ensures apart)
