-- A row that was searched: its height, and what it uses.
use Rattle.std.proofs.Common.{◌≡◌, ℕ, ◌≤◌, true, false, List, [], ◌++◌, Option, Some, None, sym, ◌∙◌, ap, subst, arith}
use Rattle.std.specs.Prelude.{IfSome}
use Rattle.std.specs.List.{flat_map}
use Rattle.std.proofs.lemmas.Bool.Decides.{nat_tests}
use Rattle.std.proofs.lemmas.List.{append-nil}
use Rattle.flow_data.specs.declared.data.FlowsData.{FlowsData}
use Rattle.flow_list.specs.Book.{after_uses}
use Rattle.flow_list.specs.Certificate.{Use, columns_from, range_uses, uses_of}
use Rattle.flow_list.specs.Column.{Column}
use Rattle.flow_list.specs.Ranges.{Range, judged, ranges}
use Rattle.flow_list.specs.RowHeights.{balanced_fits, balanced_height, size_of}
use Rattle.flow_list.specs.Rows.{all_rows}
use Rattle.flow_list.specs.Tokens.{Token}
use Rattle.range_laws.specs.Entering.{OwnColumnsEnter, UsesEnter}
use Rattle.mc_base.specs.declared.fragment.FragId.{FragId}
use Rattle.frag_pool.specs.Nodes.{Nodes}
use Rattle.frag_pool.specs.Standing.{StandsFor}
use Rattle.inner_rows.specs.Filling.{row_tree}
use Rattle.balancer.specs.Balancing.{balanced_uses}
use Rattle.balancer.specs.Finding.{EndsAt, fragment_uses}

-- a size that fits what is available is the height
pub fit-height : (available : Option ℕ) (size height : ℕ) → height ≡ size → balanced_fits available size ≡ true →
    height ≡ balanced_height available size
fit-height None size height is fit = is
fit-height (Some a) size height is fit = let le : size ≤ a = grind (arith, nat_tests) in omega arith

-- the columns judged at a height that is the size are the row's
pub fit-columns : (d : FlowsData) (r : ℕ) (q : Token) → OwnColumnsEnter d r q → (height : ℕ) → height ≡ size_of d r q →
    judged (all_rows d) d r q height ≡ columns_from d r q height
fit-columns d r q own height is =
    ap (judged (all_rows d) d r q) is ∙ sym own.judged_there ∙ ap (columns_from d r q) (sym is)

pub fit-uses : (d : FlowsData) (r : ℕ) (q : Token) → OwnColumnsEnter d r q → (available : Option ℕ) (height : ℕ)
    (done : List Range) → done ≡ ranges (all_rows d) d r q available → height ≡ size_of d r q →
    balanced_fits available (size_of d r q) ≡ true →
    flat_map (range_uses d r q) done ++ uses_of (judged (all_rows d) d r q height) ≡ balanced_uses d r q available
unfolding balanced_uses
fit-uses d r q own available height done all is fit =
    ap (λ xs. flat_map (range_uses d r q) xs ++ uses_of (judged (all_rows d) d r q height)) all
    ∙ ap (λ cs. flat_map (range_uses d r q) (ranges (all_rows d) d r q available) ++ uses_of cs)
    (fit-columns d r q own height is ∙ ap (columns_from d r q) (fit-height available (size_of d r q) height is fit))

-- what a row uses that is too high: the ranges, and then its columns at what is available
pub high-uses : (d : FlowsData) → UsesEnter d → (r : ℕ) (q : Token) (available : Option ℕ) (height : ℕ) (done : List Range)
    (old mid new : List Use) → done ≡ ranges (all_rows d) d r q available →
    height ≡ balanced_height available (size_of d r q) → mid ≡ after_uses d old (flat_map (range_uses d r q) done ++ []) →
    new ≡ after_uses d mid (uses_of (columns_from d r q height)) → new ≡ after_uses d old (balanced_uses d r q available)
unfolding balanced_uses
high-uses d law r q available height done old mid new all is before one =
    let us = flat_map (range_uses d r q) done in
    let vs = uses_of (columns_from d r q height) in
    one ∙ ap (λ b. after_uses d b vs) (before ∙ ap (after_uses d old) (append-nil us))
    ∙ law.one_list old us vs
    ∙ ap (λ xs. after_uses d old (flat_map (range_uses d r q) xs ++ vs)) all
    ∙ ap (λ h. after_uses d old (flat_map (range_uses d r q) (ranges (all_rows d) d r q available)
    ++ uses_of (columns_from d r q h))) is

-- ---- what a search found

pub ends-fit : (available : Option ℕ) (size height : ℕ) (frag : Option FragId) (piece : FragId) → frag ≡ Some piece →
    EndsAt available size height frag → (height ≡ size) × (balanced_fits available size ≡ true)
ends-fit available size height frag piece is end = subst (EndsAt available size height) is end

pub ends-high : (available : Option ℕ) (size height : ℕ) (frag : Option FragId) → frag ≡ None →
    EndsAt available size height frag → balanced_fits available size ≡ false
ends-high available size height frag is end = subst (EndsAt available size height) is end

pub fit-stands : (d : FlowsData) (r : ℕ) (q : Token) → OwnColumnsEnter d r q → (p : Nodes) (height : ℕ) (frag : Option FragId)
    (piece : FragId) → frag ≡ Some piece → height ≡ size_of d r q →
    IfSome frag (λ f. StandsFor p f (row_tree d r q height None (judged (all_rows d) d r q height))) →
    StandsFor p piece (row_tree d r q height None (columns_from d r q height))
fit-stands d r q own p height frag piece is size stand =
    subst (λ (cs : List Column). StandsFor p piece (row_tree d r q height None cs)) (fit-columns d r q own height size)
    (subst (λ (o : Option FragId). IfSome o (λ f. StandsFor p f (row_tree d r q height None (judged (all_rows d) d r q height))))
    is stand)

pub fit-used : (d : FlowsData) (r : ℕ) (q : Token) → OwnColumnsEnter d r q → (available : Option ℕ) (height : ℕ)
    (done : List Range) (frag : Option FragId) (piece : FragId) (old new : List Use) → frag ≡ Some piece →
    done ≡ ranges (all_rows d) d r q available → height ≡ size_of d r q → balanced_fits available (size_of d r q) ≡ true →
    new ≡ after_uses d old (flat_map (range_uses d r q) done ++ fragment_uses d r q height frag) →
    new ≡ after_uses d old (balanced_uses d r q available)
fit-used d r q own available height done frag piece old new is all size fit used =
    used ∙ ap (λ (o : Option FragId). after_uses d old (flat_map (range_uses d r q) done ++ fragment_uses d r q height o)) is
    ∙ ap (after_uses d old) (fit-uses d r q own available height done all size fit)

pub high-used : (d : FlowsData) → UsesEnter d → (r : ℕ) (q : Token) (available : Option ℕ) (end height : ℕ) (done : List Range)
    (frag : Option FragId) (old mid new : List Use) → frag ≡ None → done ≡ ranges (all_rows d) d r q available →
    height ≡ balanced_height available (size_of d r q) →
    mid ≡ after_uses d old (flat_map (range_uses d r q) done ++ fragment_uses d r q end frag) →
    new ≡ after_uses d mid (uses_of (columns_from d r q height)) → new ≡ after_uses d old (balanced_uses d r q available)
high-used d law r q available end height done frag old mid new is all at before one =
    high-uses d law r q available height done old mid new all at
    (before ∙ ap (λ (o : Option FragId). after_uses d old (flat_map (range_uses d r q) done ++ fragment_uses d r q end o)) is)
    one
