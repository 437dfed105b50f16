-- What a command of the program asks for.
use Rattle.std.specs.Prelude.{◌^◌, ◌<◌, ⊤}
use Rattle.mc_words.specs.declared.command.Command.{Command as Held}
use Rattle.mc_words.specs.declared.command.Command.TheVariants.{Rows, Gen, Trial, Layout, All, Hit, Draw, Check, RowsCheck}
use Rattle.mc_words.specs.declared.command.Page.{Page as HeldPage}
use Rattle.mc_words.specs.declared.session.SessionWords.{SessionWords}
use Rattle.mc_words.specs.Words.{Command, Page, Session, rows, gen, trial, layout, all, hit, draw, check, rows_check}

abbrev pub page_asked : HeldPage → Page
page_asked page = record {
  document = page.document.now;
  sheet = page.sheet.now;
  metrics = page.metrics.now;
  width = page.width;
  height = page.height;
}

abbrev pub asked : Held → Command
asked (Rows flow) = rows flow.now
asked (Gen start count) = gen start count
asked (Trial start count) = trial start count
asked (Layout page) = layout (page_asked page)
asked (All page) = all (page_asked page)
asked (Hit page x y) = hit (page_asked page) x y
asked (Draw page rule) = draw (page_asked page) rule
asked (Check page printed) = check (page_asked page) printed.now
asked (RowsCheck flow printed) = rows_check flow.now printed.now

-- the width that is asked for is below 2^60
abbrev pub IsNarrow : Held → Type 0
IsNarrow (Rows flow) = ⊤
IsNarrow (Gen start count) = ⊤
IsNarrow (Trial start count) = ⊤
IsNarrow (Layout page) = page.width < 2 ^ 60
IsNarrow (All page) = page.width < 2 ^ 60
IsNarrow (Hit page x y) = page.width < 2 ^ 60
IsNarrow (Draw page rule) = page.width < 2 ^ 60
IsNarrow (Check page printed) = page.width < 2 ^ 60
IsNarrow (RowsCheck flow printed) = ⊤

-- what the words of a session ask for
abbrev pub session_asked : SessionWords → Session
session_asked session = record { page = page_asked session.page; script = session.script.now }
