-- The tree of a stack holds the items of its flow.
use Rattle.std.proofs.Common.{◌≡◌, ℕ, zero, suc, ◌+◌, ◌≤◌, List, [], ◌∷◌, ◌++◌, length, take, drop, refl, sym, subst, ◌∙◌, ap}
use Rattle.std.proofs.Common.{arith, append_assoc, false}
use Rattle.std.proofs.lemmas.List.{drop_more, take_all}
use Rattle.std.specs.List.{flat_map}
use Rattle.flow_list.specs.Data.{Bound, Flow, FlowsData, Item, Atom, Row}
use Rattle.flow_data.specs.Flows.{flow_of, stack_of, item_of, seam_of, no_item}
use Rattle.flow_list.specs.ClonedEdges.{tops}
use Rattle.flow_list.specs.Tokens.{row_start}
use Rattle.flow_list.specs.Strip.{strip_at, put, lay_all, begins}
use Rattle.flow_list.specs.Stacks.{height_in_stack, stack_strip}
use Rattle.flow_list.specs.Placing.{Laid, laid_edges}
use Rattle.flow_list.specs.Fragments.{laid_in_stack, stack_laid, stack_fragment, row_fragments}
use Rattle.flow_laws.specs.Holding.{Part, parts_in_tree, parts_in_trees, part_of, parts_of}
use Rattle.flow_laws.proofs.HoldingTrees.{of_laid, column-reads, skip-edges}
use Rattle.flow_laws.proofs.HoldingParts.{own_atom, own_row, part-reads}

abbrev counted : List Laid → List Part
counted xs = flat_map (of_laid Part own_atom own_row) xs

module _ (d : FlowsData) (bound : Bound) (f : Flow) where
  in-stack : (k : ℕ) (item : Item)
      → of_laid Part own_atom own_row (laid_in_stack d bound f k item) ≡ part_of k item row_start ∷ []
  in-stack k (Atom height kind) = refl
  in-stack k (Row r) = refl

  stack-parts : (k n : ℕ) → k + n ≤ length f.items
      → counted (stack_laid d bound f k n) ≡ parts_of k row_start (take n (drop k f.items))
  unfolding stack_laid
  stack-parts k zero le = refl
  stack-parts k (suc n) le =
      let s = stack_strip d bound f k in
      let behind = put s (height_in_stack d bound (item_of f k) (begins s)) in
      let tail = laid_edges behind (seam_of f (k + 1)).tail in
      let head = laid_edges (lay_all behind (seam_of f (k + 1)).tail) (seam_of f (k + 1)).head in
      let later = stack_laid d bound f (k + 1) n in
      let P : ℕ → Type 0 = λ m. counted later ≡ parts_of m row_start (take n (drop (k + 1) f.items)) in
      let e : k + 1 ≡ suc k = omega arith in
      let Q : List Item → Type 0 = λ items. counted (laid_in_stack d bound f k (item_of f k) ∷ ((tail ++ head) ++ later))
      ≡ parts_of k row_start (take (suc n) items) in
      subst Q (sym (drop_more f.items k no_item (omega arith)))
      (ap (λ us. us ++ counted ((tail ++ head) ++ later)) (in-stack k (item_of f k))
      ∙ ap (λ us. part_of k (item_of f k) row_start ∷ us)
      (ap (λ xs. counted xs) (append_assoc tail head later)
      ∙ skip-edges Part own_atom own_row behind (seam_of f (k + 1)).tail (head ++ later)
      ∙ skip-edges Part own_atom own_row (lay_all behind (seam_of f (k + 1)).tail) (seam_of f (k + 1)).head later
      ∙ subst P e (stack-parts (k + 1) n (omega arith))))

pub stack-holds : (d : FlowsData) (s : ℕ)
    → parts_in_tree (stack_fragment d s) ≡ parts_of 0 row_start (flow_of d (stack_of d s).flow).items
unfolding stack_fragment parts_in_tree parts_in_trees
stack-holds d s =
    let f = flow_of d (stack_of d s).flow in
    let bound = (stack_of d s).bound in
    let start = laid_edges (strip_at (tops d f.opened) false) (seam_of f 0).head in
    let rest = stack_laid d bound f 0 (length f.items) in
    column-reads Part own_atom own_row parts_in_trees (row_fragments d (suc (length d.rows)))
    (part-reads (row_fragments d (suc (length d.rows)))) d f.opened (start ++ rest)
    ∙ skip-edges Part own_atom own_row (strip_at (tops d f.opened) false) (seam_of f 0).head rest
    ∙ stack-parts d bound f 0 (length f.items) (omega arith)
    ∙ ap (parts_of 0 row_start) (take_all (length f.items) f.items (omega arith))
