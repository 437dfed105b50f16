-- Lines one after another, and how long their text is.
use Rattle.std.proofs.Common.{◌≡◌, ℕ, ◌+◌, ◌<◌, List, ◌∷◌, ◌++◌, length, drop, get_or, sym, ap, ◌∙◌, arith, append_assoc}
use Rattle.std.proofs.lemmas.List.{drop_more, length-append}
use Rattle.flow_list.specs.TreeText.{tree_text, tree_line_text}
use Rattle.tree_lines.specs.declared.line.TreeLine.{TreeLine}
use Rattle.tree_lines.specs.Lines.{line_of, lines_of}

-- with one line more
pub line-next : (front text out : List ℕ) (lines : List TreeLine) (i : ℕ) (line : TreeLine) → i < length lines
    → line ≡ get_or lines i line → out ≡ text ++ tree_line_text (line_of line)
    → text ++ tree_text (lines_of (drop i lines)) ≡ front ++ tree_text (lines_of lines)
    → out ++ tree_text (lines_of (drop (i + 1) lines)) ≡ front ++ tree_text (lines_of lines)
line-next front text out lines i line lt is put before =
    let rest = tree_text (lines_of (drop (i + 1) lines)) in
    let first : drop i lines ≡ line ∷ drop (i + 1) lines =
    drop_more lines i line lt ∙ ap (λ l. l ∷ drop (i + 1) lines) (sym is) in
    ap (λ o. o ++ rest) put ∙ append_assoc text (tree_line_text (line_of line)) rest
    ∙ ap (λ ls. text ++ tree_text (lines_of ls)) (sym first) ∙ before

-- where that is too long, so is the whole
pub line-passes : (front text out : List ℕ) (lines : List TreeLine) (i most : ℕ) (line : TreeLine) → i < length lines
    → line ≡ get_or lines i line → out ≡ text ++ tree_line_text (line_of line)
    → text ++ tree_text (lines_of (drop i lines)) ≡ front ++ tree_text (lines_of lines) → most < length out
    → most < length (front ++ tree_text (lines_of lines))
line-passes front text out lines i most line lt is put before long =
    let all = ap length (line-next front text out lines i line lt is put before) in
    let sum = length-append out (tree_text (lines_of (drop (i + 1) lines))) in
    omega arith
