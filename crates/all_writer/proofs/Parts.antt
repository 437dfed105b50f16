-- Lines and pieces one after another, and how long their text is.
use Rattle.std.proofs.Common.{◌≡◌, ℕ, ◌+◌, ◌<◌, List, ◌∷◌, ◌++◌, length, drop, get_or, sym, ap, ◌∙◌, arith, append_assoc}
use Rattle.std.specs.List.{flat_map}
use Rattle.std.proofs.lemmas.List.{drop_more, length-append}
use Rattle.flow_list.specs.TreeText.{tree_text, tree_line_text}
use Rattle.tree_lines.specs.declared.line.TreeLine.{TreeLine}
use Rattle.tree_lines.specs.Lines.{line_of, lines_of}

module _ {X : Type 0} (text_of : X → List ℕ) where
  -- with one part more
  pub part-next : (front text out : List ℕ) (parts : List X) (i : ℕ) (x : X) → i < length parts → x ≡ get_or parts i x
      → out ≡ text ++ text_of x → text ++ flat_map text_of (drop i parts) ≡ front ++ flat_map text_of parts
      → out ++ flat_map text_of (drop (i + 1) parts) ≡ front ++ flat_map text_of parts
  part-next front text out parts i x lt is put before =
      let rest = flat_map text_of (drop (i + 1) parts) in
      let first : drop i parts ≡ x ∷ drop (i + 1) parts =
      drop_more parts i x lt ∙ ap (λ (y : X). y ∷ drop (i + 1) parts) (sym is) in
      ap (λ (o : List ℕ). o ++ rest) put ∙ append_assoc text (text_of x) rest
      ∙ ap (λ (xs : List X). text ++ flat_map text_of xs) (sym first) ∙ before

  -- where that is too long, so is the whole
  pub part-passes : (front text out : List ℕ) (parts : List X) (i most : ℕ) (x : X) → i < length parts → x ≡ get_or parts i x
      → out ≡ text ++ text_of x → text ++ flat_map text_of (drop i parts) ≡ front ++ flat_map text_of parts
      → most < length out → most < length (front ++ flat_map text_of parts)
  part-passes front text out parts i most x lt is put before long =
      let all = ap length (part-next front text out parts i x lt is put before) in
      let sum = length-append out (flat_map text_of (drop (i + 1) parts)) in
      omega arith

-- ---- lines of a tree

-- with one line more
pub line-next : (front text out : List ℕ) (lines : List TreeLine) (i : ℕ) (line : TreeLine) → i < length lines
    → line ≡ get_or lines i line → out ≡ text ++ tree_line_text (line_of line)
    → text ++ tree_text (lines_of (drop i lines)) ≡ front ++ tree_text (lines_of lines)
    → out ++ tree_text (lines_of (drop (i + 1) lines)) ≡ front ++ tree_text (lines_of lines)
line-next front text out lines i line lt is put before =
    let rest = tree_text (lines_of (drop (i + 1) lines)) in
    let first : drop i lines ≡ line ∷ drop (i + 1) lines =
    drop_more lines i line lt ∙ ap (λ l. l ∷ drop (i + 1) lines) (sym is) in
    ap (λ o. o ++ rest) put ∙ append_assoc text (tree_line_text (line_of line)) rest
    ∙ ap (λ ls. text ++ tree_text (lines_of ls)) (sym first) ∙ before

-- where that is too long, so is the whole
pub line-passes : (front text out : List ℕ) (lines : List TreeLine) (i most : ℕ) (line : TreeLine) → i < length lines
    → line ≡ get_or lines i line → out ≡ text ++ tree_line_text (line_of line)
    → text ++ tree_text (lines_of (drop i lines)) ≡ front ++ tree_text (lines_of lines) → most < length out
    → most < length (front ++ tree_text (lines_of lines))
line-passes front text out lines i most line lt is put before long =
    let all = ap length (line-next front text out lines i line lt is put before) in
    let sum = length-append out (tree_text (lines_of (drop (i + 1) lines))) in
    omega arith
