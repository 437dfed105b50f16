-- The inputs of a session of edits, in the order of its words.
use Rattle.std.specs.Prelude.{List, [], ◌∷◌, Option, None, Some}
use Rattle.mc_base.specs.declared.refusal.Input.TheVariants.{Document, Sheet, Metrics, Script}
use Rattle.mc_run.specs.Inputs.{NamedInput}
use Rattle.mc_words.specs.Words.{Session}

abbrev pub reads : Session → List NamedInput
reads session =
    record { input = Document; name = session.page.document } ∷ record { input = Sheet; name = session.page.sheet }
    ∷ record { input = Metrics; name = session.page.metrics } ∷ record { input = Script; name = session.script } ∷ []

-- the inputs that are read, if the words are taken
abbrev pub inputs_of : Option Session → List NamedInput
inputs_of None = []
inputs_of (Some session) = reads session
