use Rattle.std.proofs.Common.{◌≡◌, ◌∙◌, ◌+◌, ◌-◌, ◌<◌, ◌++◌, ◌∷◌, [], ℕ, suc, List, Some, None, All, IfOk, OnOk, ap, sym, subst}
use Rattle.std.proofs.Common.{arith, drop, get_or, take}
use Rattle.std.proofs.lemmas.List.{drop_all, drop_more, take_more}
use Rattle.std.proofs.lemmas.List.Elements.{All-append, All-cons, All-nil, All-weaker}
use Rattle.mc_base.specs.PlainTree.{PlainTree, PlainTrees, row_piece}
use Rattle.mc_base.specs.declared.fragment.FragId.{FragId}
use Rattle.mc_base.specs.declared.fragment.FragId.TheVariants.{Kept}
use Rattle.mc_base.specs.declared.fragment.Node.{Node}
use Rattle.mc_base.specs.declared.fragment.Node.TheVariants.{RowPiece as RowNode}
use Rattle.frag_pool.specs.Nodes.{IsLive, ids_of, node_of, node_with}
use Rattle.frag_pool.specs.Standing.{StandsFor}
use Rattle.frag_pool.proofs.Growth.{grows-refl, grows-trans, stands-live}
use Rattle.frag_pool.proofs.Stays.{all-along, keeps-growing}
use Rattle.frag_maker.proofs.Growing.{live-grows}
use Rattle.inner_rows.proofs.Calls.{book-refl, book-trans, extends-refl}
use Rattle.piece_data.specs.LeastPiece.{least_height}
use Rattle.tree_lowering.specs.Lower.{AreMadeOf, IsMadeOf, all_lower, all_pieces, cut_of, inside, lower, lower_inside, pieces}
use Rattle.tree_lowering.specs.Lower.{pieces_inside, stack_in}
use Rattle.tree_lowering.specs.Met.{Meets, MeetsTree, MeetsTrees, all_met, piece_met, stack_met}
use Rattle.tree_lowering.specs.declared.cut.Within.{Within}
use Rattle.tree_lowering.proofs.Cutting.{cut-met, cut-stands}
use Rattle.tree_lowering.proofs.Making.{lowered-trees, made-grows, made-push, made-same, one-before}
use Rattle.tree_lowering.proofs.Meeting.{MetSoFar, met-all, met-push, none-met, one-more}
use Rattle.tree_lowering.proofs.Remaking.{cut-tree, node-remade, stack-tree}
use Rattle.tree_lowering.proofs.Results.{ok-each, ok-map, on-always, on-each, on-ok}
use Rattle.tree_lowering.proofs.walk.+lowering.Goals as goal

-- ---- fragments one after another

pub lower_all-loop-id-init : goal.lower_all-loop-id-init
lower_all-loop-id-init g t c = record {
  made = rw c.new-made.ensures tt;
  live = rw c.new-made.ensures (All-nil (IsLive c.args.pool.now));
  told = none-met c.args.flows.now c.args.flags.now c.args.at c.args.pool.now (g.L.Lowerer.told c.args.lowerer.now)
      c.args.ids.now;
  grown = grows-refl c.args.pool.now;
  engine = c.requires.engine;
  book = book-refl c.args.flows.now c.args.book.now c.requires.book;
}

pub lower_all-loop-id-preserved : goal.lower_all-loop-id-preserved
lower_all-loop-id-preserved g t c =
    let d = c.args.flows.now in
    let flags = c.args.flags.now in
    let at = c.args.at in
    let p = c.args.pool.now in
    let q = c.loop-id.pool in
    let s = c.lower_tree.new.pool in
    let ids = c.args.ids.now in
    let i = c.loop-id.id-index in
    let id : FragId = get_or ids i (Kept 0) in
    let old = g.L.Lowerer.told c.args.lowerer.now in
    let e = c.in_ok-one.ensures in
    let inv = c.loop-id.invariant in
    let more : take (i + 1) ids ≡ take i ids ++ id ∷ [] = take_more ids i (Kept 0) c.loop-id-test.true in
    let made : AreMadeOf p s (lower d flags at) (take i ids ++ id ∷ []) (c.loop-id.made ++ c.in_ok-one.one ∷ []) =
    made-push p s (lower d flags at) (take i ids) c.loop-id.made id c.in_ok-one.one
    (made-grows p q s (lower d flags at) (take i ids) c.loop-id.made e.grown inv.made)
    (one-before p q s (lower d flags at) id c.in_ok-one.one inv.grown e.tree) in
    let told : MetSoFar d flags at p old (g.L.Lowerer.told c.loop-id.lowerer) ids (id ∷ drop (i + 1) ids) =
    subst (λ left. MetSoFar d flags at p old (g.L.Lowerer.told c.loop-id.lowerer) ids left)
    (drop_more ids i (Kept 0) c.loop-id-test.true) inv.told in
    let live : All (IsLive s) (c.loop-id.made ++ c.in_ok-one.one ∷ []) =
    All-append (IsLive s) c.loop-id.made (c.in_ok-one.one ∷ [])
    (All-weaker (IsLive q) (IsLive s) (live-grows q s e.grown) c.loop-id.made inv.live)
    (All-cons (IsLive s) c.in_ok-one.one [] e.live (All-nil (IsLive s))) in
    record {
      made = subst (λ outs. AreMadeOf p s (lower d flags at) (take (i + 1) ids) outs) (sym c.in_ok-push.ensures.ok)
          (subst (λ ins. AreMadeOf p s (lower d flags at) ins (c.loop-id.made ++ c.in_ok-one.one ∷ [])) (sym more) made);
      live = subst (λ outs. All (IsLive s) outs) (sym c.in_ok-push.ensures.ok) live;
      told = one-more d flags at p q old (g.L.Lowerer.told c.loop-id.lowerer) (g.L.Lowerer.told c.lower_tree.new.lowerer) ids id
          (drop (i + 1) ids) inv.grown e.told told;
      grown = grows-trans p q s inv.grown e.grown;
      engine = e.engine;
      book = book-trans d c.args.book.now c.loop-id.book c.lower_tree.new.book inv.book e.book;
    }

pub lower_all-returns-clause-told : goal.lower_all-returns-clause-told
lower_all-returns-clause-told g t c =
    let d = c.args.flows.now in
    let ids = c.args.ids.now in
    let old = g.L.Lowerer.told c.args.lowerer.now in
    let new = g.L.Lowerer.told c.loop-id.lowerer in
    met-all d c.args.flags.now c.args.at c.args.pool.now old new ids
    (subst (λ left. MetSoFar d c.args.flags.now c.args.at c.args.pool.now old new ids left)
    (drop_all c.loop-id.id-index ids c.loop-id-test.false) c.loop-id.invariant.told)

-- ---- the columns of a piece

pub lower_columns-returns-then-at-eq0-clause-trees : goal.lower_columns-returns-then-at-eq0-clause-trees
lower_columns-returns-then-at-eq0-clause-trees g t c =
    let p = c.args.pool.now in
    subst (λ (n : ℕ). AreMadeOf p p (lower_inside c.args.flows.now c.args.flags.now n c.args.row c.args.height) c.args.columns
    c.args.columns)
    (sym c.if-at-eq0.true) (made-same p c.args.columns)

pub lower_columns-returns-then-at-eq0-clause-grown : goal.lower_columns-returns-then-at-eq0-clause-grown
lower_columns-returns-then-at-eq0-clause-grown g t c = grows-refl c.args.pool.now

one-less : (n : ℕ) → 0 < n → suc (n - 1) ≡ n
one-less n lt = omega arith

pub lower_columns-returns-clause-trees : goal.lower_columns-returns-clause-trees
lower_columns-returns-clause-trees g t c =
    let d = c.args.flows.now in
    let flags = c.args.flags.now in
    let p = c.args.pool.now in
    let q = c.lower_all.new.pool in
    let some = c.if-at-eq0.false in
    let n = c.args.at.nested in
    let lt : 0 < n = omega (arith, some) in
    subst (λ (n : ℕ). IfOk c.lower_all.result (AreMadeOf p q (lower_inside d flags n c.args.row c.args.height) c.args.columns))
    (one-less n lt)
    (subst (λ ids. IfOk c.lower_all.result (AreMadeOf p q (lower_inside d flags (suc (n - 1)) c.args.row c.args.height) ids))
    c.as_slice.ensures c.lower_all.ensures.trees)

pub lower_columns-returns-clause-told : goal.lower_columns-returns-clause-told
lower_columns-returns-clause-told g t c =
    let d = c.args.flows.now in
    let flags = c.args.flags.now in
    let p = c.args.pool.now in
    let old = g.L.Lowerer.told c.args.lowerer.now in
    let new = g.L.Lowerer.told c.lower_all.new.lowerer in
    let some = c.if-at-eq0.false in
    let n = c.args.at.nested in
    let lt : 0 < n = omega (arith, some) in
    subst (λ (n : ℕ). OnOk c.lower_all.result
    (MeetsTrees p old new (pieces_inside d flags n c.args.row c.args.height) c.args.columns))
    (one-less n lt)
    (subst (λ ids. OnOk c.lower_all.result
    (MeetsTrees p old new (pieces_inside d flags (suc (n - 1)) c.args.row c.args.height) ids))
    c.as_slice.ensures (rw c.row_at.ensures.same at c.lower_all.ensures.told))

-- ---- a cut piece

pub lower_cut-returns-then-cut-flow_counts-clause-grown : goal.lower_cut-returns-then-cut-flow_counts-clause-grown
lower_cut-returns-then-cut-flow_counts-clause-grown g t c = grows-refl c.args.pool.now

pub lower_cut-ids_within-requires : goal.lower_cut-ids_within-requires
lower_cut-ids_within-requires g t c = stands-live _ _ _ c.in_ok-found.ensures.frag

pub lower_cut-returns-clause-tree : goal.lower_cut-returns-clause-tree
lower_cut-returns-clause-tree g t c = λ columns.
    let d = c.args.flows.now in
    let flags = c.args.flags.now in
    let cut = c.args.cut in
    let h = c.in_ok-found.found.height in
    let s = c.added.new.pool in
    let found = c.in_ok-found.ensures.height in
    let room = c.saturating_sub-height.ensures in
    let least : h ≡ least_height d cut.row cut.from (c.args.at.room - cut.y) = cc (found, room) in
    ok-map c.added.result (λ made. node_of s made ≡ Some (RowNode cut.row cut.from cut.y (Some h) c.in_ok-columns.columns))
    (λ made. StandsFor s made (lower d flags c.args.at (row_piece cut.row cut.from cut.y None columns)))
    (λ made is. cut-stands d flags c.args.at c.lower.new.pool c.lower_columns.new.pool s c.in_ok-found.found.frag made cut.row
    cut.from cut.y h c.in_ok-ids.ids c.in_ok-columns.columns columns c.requires.flagged least c.in_ok-ids.ensures.ids
    c.in_ok-found.ensures.frag c.in_ok-columns.ensures.trees c.added.ensures.grown is)
    c.added.ensures.node

pub lower_cut-returns-clause-told : goal.lower_cut-returns-clause-told
lower_cut-returns-clause-told g t c = λ columns.
    let d = c.args.flows.now in
    let flags = c.args.flags.now in
    let cut = c.args.cut in
    let h = c.in_ok-found.found.height in
    let old = g.L.Lowerer.told c.args.lowerer.now in
    let mid = g.L.Lowerer.told c.lower.new.self in
    let new = g.L.Lowerer.told c.lower_columns.new.lowerer in
    let found = c.in_ok-found.ensures.height in
    let room = c.saturating_sub-height.ensures in
    let least : h ≡ least_height d cut.row cut.from (c.args.at.room - cut.y) = cc (found, room) in
    let more : mid ≡ old ++ piece_met cut.row cut.from (c.args.at.room - cut.y) ∷ [] =
    c.in_ok-found.ensures.told ∙ ap (λ (n : ℕ). old ++ piece_met cut.row cut.from n ∷ []) room in
    on-always c.added.result
    (Meets old new (λ stacks. pieces d flags c.args.at stacks (row_piece cut.row cut.from cut.y None columns)))
    (cut-met d flags c.args.at c.lower.new.pool c.in_ok-found.found.frag cut.row cut.from cut.y h c.in_ok-ids.ids columns old mid
    new c.requires.flagged least c.in_ok-ids.ensures.ids c.in_ok-found.ensures.frag more c.in_ok-columns.ensures.told)

pub lower_cut-returns-clause-engine : goal.lower_cut-returns-clause-engine
lower_cut-returns-clause-engine g t c =
    g.met.L.Lowerer.stays c.lower_columns.new.lowerer c.args.flows.now c.lower_columns.new.book c.lower_columns.new.book
    c.lower_columns.new.pool c.added.new.pool c.in_ok-columns.ensures.engine (extends-refl _) c.added.ensures.grown

pub lower_cut-returns-clause-grown : goal.lower_cut-returns-clause-grown
lower_cut-returns-clause-grown g t c =
    grows-trans c.args.pool.now c.lower.new.pool c.added.new.pool c.in_ok-found.ensures.grown
    (grows-trans c.lower.new.pool c.lower_columns.new.pool c.added.new.pool c.in_ok-columns.ensures.grown c.added.ensures.grown)

-- ---- a node

pub lower_node-returns-in_err-pass_stack-clause-grown : goal.lower_node-returns-in_err-pass_stack-clause-grown
lower_node-returns-in_err-pass_stack-clause-grown g t c = grows-refl c.args.pool.now

pub lower_node-returns-in-Some-clause-tree : goal.lower_node-returns-in-Some-clause-tree
lower_node-returns-in-Some-clause-tree g t c = λ tree stands.
    let d = c.args.flows.now in
    let p = c.args.pool.now in
    let is : stack_in d c.args.at.flow c.get.result.now ≡ Some c.in-Some.stack =
    sym c.stack_in.ensures.stack ∙ c.in-Some.is in
    let known = stack-tree d c.args.flags.now c.args.at p c.args.id c.get.result.now c.in-Some.stack c.get.ensures.node is tree
    stands in
    subst (λ (tr : PlainTree). StandsFor p c.args.id tr) (sym known.same) stands

pub lower_node-returns-in-Some-clause-told : goal.lower_node-returns-in-Some-clause-told
lower_node-returns-in-Some-clause-told g t c = λ tree stands stacks.
    let d = c.args.flows.now in
    let p = c.args.pool.now in
    let old = g.L.Lowerer.told c.args.lowerer.now in
    let is : stack_in d c.args.at.flow c.get.result.now ≡ Some c.in-Some.stack =
    sym c.stack_in.ensures.stack ∙ c.in-Some.is in
    let known = stack-tree d c.args.flags.now c.args.at p c.args.id c.get.result.now c.in-Some.stack c.get.ensures.node is tree
    stands in
    ap (all_met stacks) c.in_ok-pass_stack.ensures.told
    ∙ met-push stacks old (stack_met c.in-Some.stack)
    ∙ ap (λ xs. all_met stacks old ++ xs) (sym (known.met stacks))

pub lower_node-returns-in-Some-clause-grown : goal.lower_node-returns-in-Some-clause-grown
lower_node-returns-in-Some-clause-grown g t c = grows-refl c.args.pool.now

pub lower_node-returns-in_err-ids-clause-grown : goal.lower_node-returns-in_err-ids-clause-grown
lower_node-returns-in_err-ids-clause-grown g t c = grows-refl c.args.pool.now

pub lower_node-returns-clause-tree : goal.lower_node-returns-clause-tree
lower_node-returns-clause-tree g t c =
    let d = c.args.flows.now in
    let flags = c.args.flags.now in
    let at = c.args.at in
    let p = c.args.pool.now in
    let q = c.lower_all.new.pool in
    let s = c.with_others.new.pool in
    let node = c.get-2.result.now in
    let is = c.get-2.ensures.node in
    let made = c.in_ok-made.made in
    let ids : c.as_slice.result.now ≡ ids_of node = c.as_slice.ensures ∙ c.in_ok-ids.ensures.ids node is in
    let trees : AreMadeOf p q (lower d flags (inside d at node)) (ids_of node) made =
    subst (λ (w : Within). AreMadeOf p q (lower d flags w) (ids_of node) made) c.inside-place.ensures
    (subst (λ (xs : List FragId). AreMadeOf p q (lower d flags c.inside-place.result) xs made) ids c.in_ok-made.ensures.trees) in
    ok-map c.with_others.result (λ new. node_of s new ≡ Some (node_with node made)) (IsMadeOf p s (lower d flags at) c.args.id)
    (λ new new_is tree stands.
    let r = node-remade d flags at p c.args.id node is (c.requires.cut node is) tree stands in
    r.remade s new made new_is
    (all-along q s (keeps-growing q s c.with_others.ensures.grown) made (all_lower d flags (inside d at node) r.kids)
    (lowered-trees d flags (inside d at node) p q (ids_of node) made r.kids trees r.stand)))
    (c.with_others.ensures.node node ((keeps-growing p q c.in_ok-made.ensures.grown).node c.args.id node is))

pub lower_node-returns-clause-told : goal.lower_node-returns-clause-told
lower_node-returns-clause-told g t c =
    let d = c.args.flows.now in
    let flags = c.args.flags.now in
    let at = c.args.at in
    let p = c.args.pool.now in
    let old = g.L.Lowerer.told c.args.lowerer.now in
    let new = g.L.Lowerer.told c.lower_all.new.lowerer in
    let node = c.get-2.result.now in
    let is = c.get-2.ensures.node in
    let ids : c.as_slice.result.now ≡ ids_of node = c.as_slice.ensures ∙ c.in_ok-ids.ensures.ids node is in
    let told : MeetsTrees p old new (all_pieces d flags (inside d at node)) (ids_of node) =
    subst (λ (w : Within). MeetsTrees p old new (all_pieces d flags w) (ids_of node)) c.inside-place.ensures
    (subst (λ (xs : List FragId). MeetsTrees p old new (all_pieces d flags c.inside-place.result) xs) ids
    c.in_ok-made.ensures.told) in
    let same : c.get.result.now ≡ node = let first = c.get.ensures.node in cc (first, is) in
    let none : stack_in d at.flow node ≡ None =
    subst (λ (n : Node). stack_in d at.flow n ≡ None) same (sym c.stack_in.ensures.stack ∙ c.in_default.is) in
    on-always c.with_others.result (MeetsTree p old new (pieces d flags at) c.args.id)
    (λ tree stands stacks.
    let r = node-remade d flags at p c.args.id node is (c.requires.cut node is) tree stands in
    told r.kids r.stand stacks ∙ ap (λ xs. all_met stacks old ++ xs) (sym (r.met stacks none)))

pub lower_node-returns-clause-engine : goal.lower_node-returns-clause-engine
lower_node-returns-clause-engine g t c =
    g.met.L.Lowerer.stays c.lower_all.new.lowerer c.args.flows.now c.lower_all.new.book c.lower_all.new.book
    c.lower_all.new.pool c.with_others.new.pool c.in_ok-made.ensures.engine (extends-refl _) c.with_others.ensures.grown

-- ---- a tree

pub lower_tree-returns-then-at-eq0-clause-grown : goal.lower_tree-returns-then-at-eq0-clause-grown
lower_tree-returns-then-at-eq0-clause-grown g t c = grows-refl c.args.pool.now

pub lower_tree-returns-in-Some-clause-tree : goal.lower_tree-returns-in-Some-clause-tree
lower_tree-returns-in-Some-clause-tree g t c =
    let d = c.args.flows.now in
    let flags = c.args.flags.now in
    let p = c.args.pool.now in
    let s = c.lower_cut.new.pool in
    let cut = c.in-Some.cut in
    let of : cut_of flags c.get.result.now ≡ Some cut = sym c.cut_in.ensures ∙ c.in-Some.is in
    ok-map c.lower_cut.result
    (λ made. (columns : PlainTrees) → StandsFor s made (lower d flags c.args.at (row_piece cut.row cut.from cut.y None columns)))
    (IsMadeOf p s (lower d flags c.args.at) c.args.id)
    (λ made each tree stands.
    let known = cut-tree flags p c.args.id c.get.result.now cut c.get.ensures.node of tree stands in
    subst (λ (tr : PlainTree). StandsFor s made (lower d flags c.args.at tr)) (sym known.is) (each known.columns))
    (ok-each c.lower_cut.result
    (λ (columns : PlainTrees) made. StandsFor s made (lower d flags c.args.at (row_piece cut.row cut.from cut.y None columns)))
    c.lower_cut.ensures.tree)

pub lower_tree-returns-in-Some-clause-told : goal.lower_tree-returns-in-Some-clause-told
lower_tree-returns-in-Some-clause-told g t c =
    let d = c.args.flows.now in
    let flags = c.args.flags.now in
    let p = c.args.pool.now in
    let old = g.L.Lowerer.told c.args.lowerer.now in
    let new = g.L.Lowerer.told c.lower_cut.new.lowerer in
    let cut = c.in-Some.cut in
    let of : cut_of flags c.get.result.now ≡ Some cut = sym c.cut_in.ensures ∙ c.in-Some.is in
    on-ok c.lower_cut.result
    ((columns : PlainTrees) → Meets old new
    (λ stacks. pieces d flags c.args.at stacks (row_piece cut.row cut.from cut.y None columns)))
    (MeetsTree p old new (pieces d flags c.args.at) c.args.id)
    (λ each tree stands.
    let known = cut-tree flags p c.args.id c.get.result.now cut c.get.ensures.node of tree stands in
    subst (λ (tr : PlainTree). Meets old new (λ stacks. pieces d flags c.args.at stacks tr)) (sym known.is)
    (each known.columns))
    (on-each c.lower_cut.result
    (λ (columns : PlainTrees). Meets old new
    (λ stacks. pieces d flags c.args.at stacks (row_piece cut.row cut.from cut.y None columns)))
    c.lower_cut.ensures.told)
