-- Why a command stops, and the line that tells it. Statuses and lines are this project's own.
use Rattle.std.specs.Prelude.{ℕ, List, [], ◌∷◌, ◌++◌, codes}
use Rattle.std.specs.List.{concat}
use Rattle.std.specs.Fmt.{decimal}
use Rattle.mc_base.specs.declared.refusal.Input.{Input}
use Rattle.mc_base.specs.declared.refusal.Input.TheVariants.{Document, Sheet, Metrics, Flow, Result, Script}
use Rattle.mc_base.specs.declared.refusal.ConstructName.{ConstructName}
use Rattle.mc_base.specs.declared.refusal.ConstructName.TheVariants.{Reference, Element, Escape, Media, AtRule, PseudoClass}
use Rattle.mc_base.specs.declared.refusal.ConstructName.TheVariants.{PseudoElement, Display, WhiteSpace, Function}
use Rattle.mc_base.specs.declared.refusal.ConstructName.TheVariants.{Unit as UnitName, Revert, NegativeMargin, BlockInInline}
use Rattle.mc_base.specs.declared.refusal.ConstructName.TheVariants.{Height, ImgSize, Float, Position, Top, Right, Bottom, Left}
use Rattle.mc_base.specs.declared.refusal.ConstructName.TheVariants.{Overflow, OverflowX, OverflowY, WritingMode, Direction}
use Rattle.mc_base.specs.declared.refusal.ConstructName.TheVariants.{VerticalAlign, TextIndent, TextTransform, LetterSpacing}
use Rattle.mc_base.specs.declared.refusal.ConstructName.TheVariants.{WordSpacing, MinWidth, MinHeight, MaxHeight, Font, Unbuilt}
use Rattle.mc_base.specs.declared.refusal.LimitName.{LimitName}
use Rattle.mc_base.specs.declared.refusal.LimitName.TheVariants.{Document as DocumentBytes, Flow as FlowBytes}
use Rattle.mc_base.specs.declared.refusal.LimitName.TheVariants.{Sheet as SheetBytes, Metrics as MetricsBytes}
use Rattle.mc_base.specs.declared.refusal.LimitName.TheVariants.{Script as ScriptBytes, Result as ResultBytes, Elements, Depth}
use Rattle.mc_base.specs.declared.refusal.LimitName.TheVariants.{Rules, Items, InnerItems, Columns, Nest, Length, Paragraphs}
use Rattle.mc_base.specs.declared.refusal.Refusal.{Refusal}
use Rattle.mc_base.specs.declared.refusal.Refusal.TheVariants.{Grammar, Construct, Limit, NoMemory}
use Rattle.mc_run.specs.declared.stop.Stop.{Stop}
use Rattle.mc_run.specs.declared.stop.Stop.TheVariants.{Usage, Read, Write, Refused}

unfoldable pub input_text : Input → List ℕ
input_text Document = codes "document"
input_text Sheet = codes "sheet"
input_text Metrics = codes "metrics"
input_text Flow = codes "flow"
input_text Result = codes "result"
input_text Script = codes "script"

unfoldable pub construct_text : ConstructName → List ℕ
construct_text Reference = codes "reference"
construct_text Element = codes "element"
construct_text Escape = codes "escape"
construct_text Media = codes "media"
construct_text AtRule = codes "at-rule"
construct_text PseudoClass = codes "pseudo-class"
construct_text PseudoElement = codes "pseudo-element"
construct_text Display = codes "display"
construct_text WhiteSpace = codes "white-space"
construct_text Function = codes "function"
construct_text UnitName = codes "unit"
construct_text Revert = codes "revert"
construct_text NegativeMargin = codes "negative-margin"
construct_text BlockInInline = codes "block-in-inline"
construct_text Height = codes "height"
construct_text ImgSize = codes "img-size"
construct_text Float = codes "float"
construct_text Position = codes "position"
construct_text Top = codes "top"
construct_text Right = codes "right"
construct_text Bottom = codes "bottom"
construct_text Left = codes "left"
construct_text Overflow = codes "overflow"
construct_text OverflowX = codes "overflow-x"
construct_text OverflowY = codes "overflow-y"
construct_text WritingMode = codes "writing-mode"
construct_text Direction = codes "direction"
construct_text VerticalAlign = codes "vertical-align"
construct_text TextIndent = codes "text-indent"
construct_text TextTransform = codes "text-transform"
construct_text LetterSpacing = codes "letter-spacing"
construct_text WordSpacing = codes "word-spacing"
construct_text MinWidth = codes "min-width"
construct_text MinHeight = codes "min-height"
construct_text MaxHeight = codes "max-height"
construct_text Font = codes "font"
construct_text Unbuilt = codes "unbuilt"

unfoldable pub limit_text : LimitName → List ℕ
limit_text DocumentBytes = codes "document"
limit_text FlowBytes = codes "flow"
limit_text SheetBytes = codes "sheet"
limit_text MetricsBytes = codes "metrics"
limit_text ScriptBytes = codes "script"
limit_text ResultBytes = codes "result"
limit_text Elements = codes "elements"
limit_text Depth = codes "depth"
limit_text Rules = codes "rules"
limit_text Items = codes "items"
limit_text InnerItems = codes "inner-items"
limit_text Columns = codes "columns"
limit_text Nest = codes "nest"
limit_text Length = codes "length"
limit_text Paragraphs = codes "paragraphs"

abbrev pub space : List ℕ
space = 32 ∷ []

abbrev pub line_feed : List ℕ
line_feed = 10 ∷ []

unfoldable pub usage_text : List ℕ
usage_text =
    codes "usage: mcol layout DOC SHEET METRICS WIDTH HEIGHT, check DOC SHEET METRICS WIDTH HEIGHT RESULT, rows FLOW, "
    ++ codes "rows-check FLOW RESULT, gen START COUNT, trial START COUNT, all DOC SHEET METRICS WIDTH HEIGHT, "
    ++ codes "hit DOC SHEET METRICS WIDTH HEIGHT X Y or draw DOC SHEET METRICS WIDTH HEIGHT RULE"

abbrev pub refusal_line : Refusal → List ℕ
refusal_line (Grammar input offset rule) =
    concat (codes "grammar: " ∷ input_text input ∷ space ∷ decimal offset ∷ space ∷ (rule.letter ∷ []) ∷ decimal rule.number
    ∷ line_feed ∷ [])
refusal_line (Construct input offset name) =
    concat (codes "construct: " ∷ input_text input ∷ space ∷ decimal offset ∷ space ∷ construct_text name ∷ line_feed ∷ [])
refusal_line (Limit name reached limit) =
    concat (codes "limit: " ∷ limit_text name ∷ space ∷ decimal reached ∷ space ∷ decimal limit ∷ line_feed ∷ [])
refusal_line NoMemory = concat (codes "memory" ∷ line_feed ∷ [])

-- the line that tells why a command stopped
unfoldable pub line_of : Stop → List ℕ
line_of Usage = concat (usage_text ∷ line_feed ∷ [])
line_of (Read input) = concat (codes "read: " ∷ input_text input ∷ line_feed ∷ [])
line_of Write = concat (codes "write" ∷ line_feed ∷ [])
line_of (Refused refusal) = refusal_line refusal

abbrev pub refusal_status : Refusal → ℕ
refusal_status (Grammar input offset rule) = 4
refusal_status (Construct input offset name) = 5
refusal_status (Limit name reached limit) = 6
refusal_status NoMemory = 7

-- the exit status of a command that stopped
abbrev pub status_of : Stop → ℕ
status_of Usage = 1
status_of (Read input) = 2
status_of Write = 3
status_of (Refused refusal) = refusal_status refusal
