-- What is shown of a document that is laid out, and which command asks for it.
use Rattle.std.specs.Prelude.{ℕ, List}
use Rattle.flow_list.specs.Data.{FlowsData}
use Rattle.mc_run.specs.declared.pages.View.{View}
use Rattle.mc_run.specs.declared.pages.View.TheVariants.{Tree, Point, Drawing}
use Rattle.result_writer.specs.Printed.{result_text}
use Rattle.mc_words.specs.Words.{Command, Page, layout, hit, draw}
use Rattle.page_views.specs.Views.{hit_text, draw_text}

abbrev pub view_text : View → FlowsData → List ℕ
view_text Tree = result_text
view_text (Point x y) = hit_text x y
view_text (Drawing rule) = draw_text rule

abbrev pub page_command : View → Page → Command
page_command Tree page = layout page
page_command (Point x y) page = hit page x y
page_command (Drawing rule) page = draw page rule
