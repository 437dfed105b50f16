use Rattle.std.specs.Prelude.{codes}
use Rattle.doc_gen.specs.Document.{heading_line, words}
use Rattle.doc_gen.proofs.Steps.{three_pieces}
use Rattle.doc_gen.proofs.page.Page.heading_line.Goals as goal

pub returns-clause-text : goal.returns-clause-text
unfolding heading_line
returns-clause-text c =
    three_pieces c.args.self.now.text c.extend.new.self c.words.new.self.text c.extend-2.new.self
    (codes "<h2 style=\"column-span:all\">") (words 3 c.args.self.now.state) (codes "</h2>\n")
    c.in_ok-extend.ensures.ok c.in_ok-words.ensures.text c.in_ok-extend-2.ensures.ok
