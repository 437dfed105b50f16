-- Items and stacks: what may be written, and which lines they have.
use Rattle.std.proofs.Common.{◌≡◌, ℕ, suc, ◌+◌, ◌-◌, ◌<◌, ◌^◌, max, List, [], ◌∷◌, All, refl, sym, ap, subst}
use Rattle.std.proofs.Common.{arith}
use Rattle.std.proofs.Common.{Some, slice_get, length}
use Rattle.std.proofs.lemmas.List.Elements.{All-head, All-tail}
use Rattle.std.proofs.lemmas.Option.{slice_get_within}
use Rattle.mc_base.specs.PlainTree.{PlainTree, atom, piece, row_piece, column}
use Rattle.mc_base.specs.declared.fragment.FragId.{FragId}
use Rattle.mc_base.specs.declared.fragment.FragId.TheVariants.{Kept, Trial}
use Rattle.mc_base.specs.declared.fragment.Node.{Node}
use Rattle.mc_base.specs.declared.fragment.Node.TheVariants.{Atom as NodeAtom, Piece, RowPiece, Column as ColumnNode}
use Rattle.flow_list.specs.Data.{FlowsData, Item, AtomKind, Plain, Line, Void, Image, Bounded, Atom, Row}
use Rattle.flow_data.specs.Flows.{stack_of}
use Rattle.flow_data.specs.Soundness.{kind_x}
use Rattle.flow_list.specs.declared.laid.Laid.{Laid}
use Rattle.flow_list.specs.declared.laid.LaidStack.{LaidStack}
use Rattle.flow_list.specs.Tree.{TreeLine, Frame, stack, extent_of, item_lines}
use Rattle.flow_list.specs.Tree.{atom as atom_kind, line as line_kind, void as void_kind, image as image_kind}
use Rattle.frag_pool.specs.Nodes.{Nodes, node_of, IsLive}
use Rattle.frag_pool.specs.Standing.{StandsFor}
use Rattle.tree_lines.specs.declared.place.Place.{Place}
use Rattle.tree_lines.specs.Standing.{IsAt, atom_line}
use Rattle.tree_lines.specs.Shown.{Given, given_lines, stack_lines, Fits, ItemFits, StackFits, Tree, TreeFits}
use Rattle.tree_lines.specs.Shown.{tree_lines}
use Rattle.tree_lines.specs.Shown.{node_extent}
use Rattle.tree_lines.proofs.AtNodes.{at-atom, at-piece, at-row, at-column}

-- ---- stacks

some-live : (p : Nodes) (id : FragId) (node : Node) → node_of p id ≡ Some node → IsLive p id
some-live p (Kept n) node e = slice_get_within p.kept n node e
some-live p (Trial n) node e = slice_get_within p.trial n node e

pub stands-live : (p : Nodes) (id : FragId) (tree : PlainTree) → StandsFor p id tree → IsLive p id
unfolding StandsFor
stands-live p id (atom k y) s = some-live p id (NodeAtom k y) s
stands-live p id (piece o st y b kids) s = some-live p id (Piece o st y b s.0) s.1
stands-live p id (row_piece r from y h cs) s = some-live p id (RowPiece r from y h s.0) s.1
stands-live p id (column f from e x kids) s = some-live p id (ColumnNode f from e x s.0) s.1

extent-at : (p : Nodes) (id : FragId) (tree : PlainTree) (node : Node) → node_of p id ≡ Some node → StandsFor p id tree →
    node_extent node ≡ extent_of tree
extent-at p id tree (NodeAtom k y) is s = sym (ap extent_of (at-atom p id tree k y is s))
extent-at p id tree (Piece o st y b ids) is s = sym (ap extent_of (at-piece p id tree o st y b ids is s).1)
extent-at p id tree (RowPiece r from y h ids) is s = sym (ap extent_of (at-row p id tree r from y h ids is s).1)
extent-at p id tree (ColumnNode f from e x ids) is s = sym (ap extent_of (at-column p id tree f from e x ids is s).1)

abbrev pub stack_at : FlowsData → (s : ℕ) → LaidStack → (depth x y extent : ℕ) → Place
stack_at d s entry depth x y extent = record {
  flow = (stack_of d s).flow;
  depth = depth + 1;
  x = x;
  y = y;
  w = (stack_of d s).w;
  room = entry.height;
  reach = max entry.height extent;
}

abbrev pub stack_line : FlowsData → (s : ℕ) → LaidStack → (depth x y : ℕ) → TreeLine
stack_line d s entry depth x y = record { depth = depth; kind = stack s; x = x; y = y; w = (stack_of d s).w; h = entry.height }

module _ (d : FlowsData) (laid : Laid) (p : Nodes) (n s : ℕ) (depth x y : ℕ) where
  stack-all : (f : StackFits d laid p (suc n) s depth x y) → Fits (record {
    depth = depth;
    kind = stack s;
    x = x;
    y = y;
    w = (stack_of d s).w;
    h = f.given.heights s;
  })
  unfolding stack_lines
  stack-all f = All-head Fits _ _ f.fits

  pub stack-x : StackFits d laid p (suc n) s depth x y → x < 2 ^ 64
  stack-x f = (stack-all f).x

  pub stack-y : StackFits d laid p (suc n) s depth x y → y < 2 ^ 64
  stack-y f = (stack-all f).y

  module _ (entry : LaidStack) (node : Node) (found : slice_get laid.stacks s ≡ Some entry) (is : node_of p entry.frag ≡
      Some node) where
    pub stack-tree : Given d laid p → Tree d laid p (stack_at d s entry depth x y (node_extent node)) entry.frag
    stack-tree g = record {
      given = g;
      frame = record { x = x; y = y; w = (stack_of d s).w; h = g.heights s; extent = extent_of (g.trees s); bottoms = 0 };
      tree = g.trees s;
      at_frame = record {
        x = refl;
        y = refl;
        w = refl;
        room = let h = g.height s entry found in omega (arith, h);
        reach = let h = g.height s entry found in
            let e = extent-at p entry.frag (g.trees s) node is (g.stands s entry found) in omega (arith, h, e);
      };
      stands = g.stands s entry found;
    }

    pub stack-shows : (g : Given d laid p) →
        given_lines g (suc n) s depth x y ≡ stack_line d s entry depth x y ∷ tree_lines n (stack-tree g)
    unfolding stack_lines stack-tree
    stack-shows g =
        ap (λ h. record { depth = depth; kind = stack s; x = x; y = y; w = (stack_of d s).w; h = h }
        ∷ tree_lines n (stack-tree g)) (sym (g.height s entry found))

    pub stack-fits : s < length d.stacks → StackFits d laid p (suc n) s depth x y →
        TreeFits d laid p n (stack_at d s entry depth x y (node_extent node)) entry.frag
    unfolding stack-tree
    stack-fits lt f = record {
      is = stack-tree f.given;
      inside = f.given.inside s lt;
      fits = All-tail Fits (stack_line d s entry depth x y) (tree_lines n (stack-tree f.given))
          (subst (λ lines. All Fits lines) (stack-shows f.given) f.fits);
    }

-- ---- items

line-left : (depth left width y k h : ℕ) (kind : AtomKind) → ((owner number x : ℕ) → kind ≡ Bounded owner number x → ⊥) →
    All Fits (atom_line depth left width y k h kind) → left + kind_x kind < 2 ^ 64
line-left depth left width y k h Plain never f =
    let t : TreeLine = record { depth = depth; kind = atom_kind k; x = left; y = y; w = width; h = h } in
    let e = (All-head Fits t [] f).x in omega (arith, e)
line-left depth left width y k h (Line owner index x w) never f =
    let t : TreeLine = record { depth = depth; kind = line_kind owner index; x = left + x; y = y; w = w; h = h } in
    (All-head Fits t [] f).x
line-left depth left width y k h (Void owner x w) never f =
    let t : TreeLine = record { depth = depth; kind = void_kind owner; x = left + x; y = y; w = w; h = h } in
    (All-head Fits t [] f).x
line-left depth left width y k h (Image owner x w) never f =
    let t : TreeLine = record { depth = depth; kind = image_kind owner; x = left + x; y = y; w = w; h = h } in
    (All-head Fits t [] f).x
line-left depth left width y k h (Bounded owner number x) never f = absurd (never owner number x refl)

line-top : (depth left width y k h : ℕ) (kind : AtomKind) → ((owner number x : ℕ) → kind ≡ Bounded owner number x → ⊥) →
    All Fits (atom_line depth left width y k h kind) → y < 2 ^ 64
line-top depth left width y k h Plain never f =
    let t : TreeLine = record { depth = depth; kind = atom_kind k; x = left; y = y; w = width; h = h } in
    (All-head Fits t [] f).y
line-top depth left width y k h (Line owner index x w) never f =
    let t : TreeLine = record { depth = depth; kind = line_kind owner index; x = left + x; y = y; w = w; h = h } in
    (All-head Fits t [] f).y
line-top depth left width y k h (Void owner x w) never f =
    let t : TreeLine = record { depth = depth; kind = void_kind owner; x = left + x; y = y; w = w; h = h } in
    (All-head Fits t [] f).y
line-top depth left width y k h (Image owner x w) never f =
    let t : TreeLine = record { depth = depth; kind = image_kind owner; x = left + x; y = y; w = w; h = h } in
    (All-head Fits t [] f).y
line-top depth left width y k h (Bounded owner number x) never f = absurd (never owner number x refl)

module _ (d : FlowsData) (laid : Laid) (p : Nodes) (n : ℕ) (at : Place) (k y : ℕ) where
  pub item-stack-fits : (height owner number x : ℕ) → 0 < n →
      ItemFits d laid p n at k y (Atom height (Bounded owner number x)) →
      StackFits d laid p (suc (n - 1)) number at.depth (at.x + x) (at.y + y)
  item-stack-fits height owner number x some f =
      let same : suc (n - 1) ≡ n = omega arith in
      let a = f.at_frame.x in
      let b = f.at_frame.y in
      record { given = f.given; fits = rw (same, a, b) f.fits }

  pub item-stack-shows : (height owner number x : ℕ) → 0 < n → (g : Given d laid p) (frame : Frame) → IsAt frame at →
      item_lines (given_lines g n) at.depth frame k y (Atom height (Bounded owner number x))
      ≡ given_lines g (suc (n - 1)) number at.depth (at.x + x) (at.y + y)
  item-stack-shows height owner number x some g frame is =
      let same : suc (n - 1) ≡ n = omega arith in
      let a = is.x in
      let b = is.y in
      rw (same, a, b) refl

  pub item-stack-none : (height owner number x : ℕ) → n ≡ 0 → (g : Given d laid p) (frame : Frame) →
      item_lines (given_lines g n) at.depth frame k y (Atom height (Bounded owner number x)) ≡ []
  unfolding stack_lines
  item-stack-none height owner number x none g frame = rw none refl

  -- the line of an atom that is no container with a height
  pub item-shows : (height : ℕ) (kind : AtomKind) → ((owner number x : ℕ) → kind ≡ Bounded owner number x → ⊥) →
      (g : Given d laid p) (frame : Frame) → IsAt frame at →
      item_lines (given_lines g n) at.depth frame k y (Atom height kind) ≡ atom_line at.depth at.x at.w (at.y + y) k height kind
  item-shows height Plain never g frame is = let a = is.x in let b = is.y in let c = is.w in rw (a, b, c) refl
  item-shows height (Line owner index x w) never g frame is = let a = is.x in let b = is.y in rw (a, b) refl
  item-shows height (Void owner x w) never g frame is = let a = is.x in let b = is.y in rw (a, b) refl
  item-shows height (Image owner x w) never g frame is = let a = is.x in let b = is.y in rw (a, b) refl
  item-shows height (Bounded owner number x) never g frame is = absurd (never owner number x refl)

  item-lines : (height : ℕ) (kind : AtomKind) → ((owner number x : ℕ) → kind ≡ Bounded owner number x → ⊥) →
      ItemFits d laid p n at k y (Atom height kind) → All Fits (atom_line at.depth at.x at.w (at.y + y) k height kind)
  item-lines height kind never f =
      subst (λ lines. All Fits lines) (item-shows height kind never f.given f.frame f.at_frame) f.fits

  pub item-x : (height : ℕ) (kind : AtomKind) → ((owner number x : ℕ) → kind ≡ Bounded owner number x → ⊥) →
      ItemFits d laid p n at k y (Atom height kind) → at.x + kind_x kind < 2 ^ 64
  item-x height kind never f =
      line-left at.depth at.x at.w (at.y + y) k height kind never (item-lines height kind never f)

  pub item-y : (height : ℕ) (kind : AtomKind) → ((owner number x : ℕ) → kind ≡ Bounded owner number x → ⊥) →
      ItemFits d laid p n at k y (Atom height kind) → at.y + y < 2 ^ 64
  item-y height kind never f =
      line-top at.depth at.x at.w (at.y + y) k height kind never (item-lines height kind never f)

-- a row has no lines of its own among items
pub item-none : (stacks : ℕ → ℕ → ℕ → ℕ → List TreeLine) (depth : ℕ) (frame : Frame) (k y : ℕ) (item : Item) →
    ((h : ℕ) (kind : AtomKind) → item ≡ Atom h kind → ⊥) → item_lines stacks depth frame k y item ≡ []
item-none stacks depth frame k y (Atom h kind) never = absurd (never h kind refl)
item-none stacks depth frame k y (Row r) never = refl

-- the whole of a layout
pub some-fits : (d : FlowsData) (laid : Laid) (p : Nodes) (n m s depth x y : ℕ) → n ≡ m → 0 < n →
    StackFits d laid p m s depth x y →
    StackFits d laid p (suc (n - 1)) s depth x y
some-fits d laid p n m s depth x y e some f =
    let same : suc (n - 1) ≡ m = omega (arith, e) in
    record { given = f.given; fits = rw same f.fits }

pub some-shows : (d : FlowsData) (laid : Laid) (p : Nodes) (n m s depth x y : ℕ) → n ≡ m → 0 < n → (g : Given d laid p) →
    given_lines g (suc (n - 1)) s depth x y ≡ given_lines g m s depth x y
some-shows d laid p n m s depth x y e some g =
    let same : suc (n - 1) ≡ m = omega (arith, e) in
    ap (λ k. given_lines g k s depth x y) same
