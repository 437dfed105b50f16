use Rattle.std.proofs.Common.{◌≡◌, ◌∙◌, ap, subst, sym, Some, None, List, ℕ}
use Rattle.mc_base.specs.PlainTree.{PlainTree, plain_trees}
use Rattle.flow_data.specs.Flows.{flow_in}
use Rattle.flow_list.specs.Book.{after_uses}
use Rattle.flow_list.specs.Certificate.{uses_of}
use Rattle.flow_list.specs.Column.{Column}
use Rattle.flow_list.specs.Entries.{uses_in}
use Rattle.flow_list.specs.RowHeights.{any_unforced, greatest_extent, row_height}
use Rattle.flow_list.specs.Rows.{all_rows, columns, reach_end}
use Rattle.flow_list.specs.Tokens.{row_start}
use Rattle.frag_pool.specs.Standing.{StandsFor}
use Rattle.frag_pool.proofs.Growth.{grows-same-trial, grows-trans, kept-grows-grows, stands-live}
use Rattle.inner_rows.proofs.Calls.{extends-refl}
use Rattle.container_layout.specs.Laid.{columns_in, in_stack, piece_in_stack}
use Rattle.container_layout.proofs.RowParts.{auto-fits, auto-height, auto-made, auto-ranges, auto-tree, auto-uses}
use Rattle.container_layout.proofs.RowParts.{inner-nests, left-small, start-place}
use Rattle.container_layout.proofs.rows.filled_row.Goals as goal

pub fold-requires-clause-place : goal.fold-requires-clause-place
fold-requires-clause-place g c =
    rw c.start-start.ensures (start-place c.args.flows.now (flow_in c.args.flows.now c.args.row))

pub fold-requires-clause-nests : goal.fold-requires-clause-nests
fold-requires-clause-nests g c =
    inner-nests c.args.flows.now c.flow_counts-counts.ensures.sound c.args.row c.requires.row _ c.requires.depth

pub piece_with-requires : goal.piece_with-requires
piece_with-requires g c = stands-live _ _ _ c.in_ok-made.ensures.frag

pub returns-in_err-made-clause-grown : goal.returns-in_err-made-clause-grown
returns-in_err-made-clause-grown g c = grows-same-trial c.args.pool.now c.fold.new.pool c.in_err-made.ensures.refused

pub returns-in_err-frag-clause-engine : goal.returns-in_err-frag-clause-engine
returns-in_err-frag-clause-engine g c =
    g.met.I.InnerRows.stays c.fold.new.inner c.args.flows.now c.fold.new.book c.fold.new.book c.fold.new.pool
    c.piece_with.new.pool c.in_ok-made.ensures.engine (extends-refl _) (kept-grows-grows _ _ c.in_err-frag.ensures.grown)

pub returns-in_err-frag-clause-grown : goal.returns-in_err-frag-clause-grown
returns-in_err-frag-clause-grown g c = grows-trans _ _ _ c.in_ok-made.ensures.grown c.in_err-frag.ensures.grown

pub returns-clause-engine : goal.returns-clause-engine
returns-clause-engine g c =
    g.met.I.InnerRows.stays c.fold.new.inner c.args.flows.now c.fold.new.book c.fold.new.book c.fold.new.pool
    c.piece_with.new.pool c.in_ok-made.ensures.engine (extends-refl _) (kept-grows-grows _ _ c.in_ok-frag.ensures.grown)

pub returns-clause-grown : goal.returns-clause-grown
returns-clause-grown g c = grows-trans _ _ _ c.in_ok-made.ensures.grown c.in_ok-frag.ensures.grown

pub returns-clause-height : goal.returns-clause-height
returns-clause-height g c =
    let d = c.args.flows.now in
    let r = c.args.row in
    let sound = c.flow_counts-counts.ensures.sound in
    let made = auto-made d sound r c.requires.row c.requires.auto c.args.available 4294967295 c.start-start.result
    c.limit_of-limit.result c.start-start.ensures c.limit_of-limit.ensures in
    c.filled-height.ensures
    ∙ auto-height d sound r c.requires.row c.requires.auto c.args.available 4294967295 c.in_ok-made.made.extent
    c.in_ok-made.made.unforced (left-small d sound r c.requires.row)
    (c.in_ok-made.ensures.fold.extent ∙ ap greatest_extent made)
    (c.in_ok-made.ensures.fold.unforced ∙ ap (any_unforced (flow_in d r)) made)

pub returns-clause-fits : goal.returns-clause-fits
returns-clause-fits g c =
    let d = c.args.flows.now in
    let r = c.args.row in
    let sound = c.flow_counts-counts.ensures.sound in
    let made = auto-made d sound r c.requires.row c.requires.auto c.args.available 4294967295 c.start-start.result
    c.limit_of-limit.result c.start-start.ensures c.limit_of-limit.ensures in
    auto-fits d sound r c.requires.row c.requires.auto c.args.available 4294967295 c.in_ok-made.made.fits
    (left-small d sound r c.requires.row)
    (c.in_ok-made.ensures.fold.fits ∙ ap (λ q. reach_end (flow_in d r) q (columns (all_rows d) d (flow_in d r) 4294967295
    c.start-start.result c.limit_of-limit.result)) c.start-start.ensures
    ∙ ap (reach_end (flow_in d r) row_start) made)

pub returns-clause-ranges : goal.returns-clause-ranges
returns-clause-ranges g c =
    c.new.ensures ∙ sym (auto-ranges c.args.flows.now c.flow_counts-counts.ensures.sound c.args.row c.requires.row
    c.requires.auto c.args.available)

pub returns-clause-frag : goal.returns-clause-frag
returns-clause-frag g c =
    let d = c.args.flows.now in
    let r = c.args.row in
    let sound = c.flow_counts-counts.ensures.sound in
    let made = auto-made d sound r c.requires.row c.requires.auto c.args.available 4294967295 c.start-start.result
    c.limit_of-limit.result c.start-start.ensures c.limit_of-limit.ensures in
    let high : c.filled-height.result ≡ row_height d r c.args.available = c.filled-height.ensures
    ∙ auto-height d sound r c.requires.row c.requires.auto c.args.available 4294967295 c.in_ok-made.made.extent
    c.in_ok-made.made.unforced (left-small d sound r c.requires.row)
    (c.in_ok-made.ensures.fold.extent ∙ ap greatest_extent made)
    (c.in_ok-made.ensures.fold.unforced ∙ ap (any_unforced (flow_in d r)) made) in
    let P : PlainTree → Type 0 = λ t. StandsFor c.fold.new.pool c.in_ok-made.made.frag t in
    let bare : P (piece_in_stack d r c.args.available None) = subst P (auto-tree d sound r c.requires.row c.requires.auto
    c.args.available 4294967295 c.start-start.result c.limit_of-limit.result (left-small d sound r c.requires.row)
    c.start-start.ensures c.limit_of-limit.ensures) c.in_ok-made.ensures.frag in
    let Q : ℕ → Type 0 = λ h. StandsFor c.piece_with.new.pool c.in_ok-frag.frag (piece_in_stack d r c.args.available (Some h)) in
    subst Q high (c.in_ok-frag.ensures.tree None (plain_trees (columns_in d (in_stack d r c.args.available))) bare)

pub returns-clause-uses : goal.returns-clause-uses
returns-clause-uses g c =
    let d = c.args.flows.now in
    let r = c.args.row in
    let sound = c.flow_counts-counts.ensures.sound in
    let made = auto-made d sound r c.requires.row c.requires.auto c.args.available 4294967295 c.start-start.result
    c.limit_of-limit.result c.start-start.ensures c.limit_of-limit.ensures in
    c.in_ok-made.ensures.uses
    ∙ ap (λ (cs : List Column). after_uses d (uses_in c.args.book.now) (uses_of cs)) made
    ∙ ap (after_uses d (uses_in c.args.book.now)) (sym (auto-uses d sound r c.requires.row c.requires.auto c.args.available
    4294967295 (left-small d sound r c.requires.row)))
