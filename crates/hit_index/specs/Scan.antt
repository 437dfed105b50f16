-- What an index answers, as a scan over all lines of a tree gives it (this project's own).
use Rattle.std.specs.Prelude.{ℕ, zero, suc, ◌+◌, ◌==◌, max, Bool, true, false, cond, ◌&&◌, List, [], ◌∷◌, ◌++◌, Option}
use Rattle.std.specs.Prelude.{Some, None, get_or, map, filter, nat_lt, nat_le}
use Rattle.mc_base.specs.declared.units.Rect.{Rect}
use Rattle.flow_list.specs.Tree.{TreeKind, stack, row, col, box, line, void, image, atom, TreeLine}
use Rattle.hit_index.specs.declared.mark.Mark.{Mark}
use Rattle.hit_index.specs.declared.mark.Leaf.{Leaf}

-- ---- leaves

-- a leaf is a line of text, a void, an image or an atom
abbrev pub is_leaf : TreeKind → Bool
is_leaf (stack number) = false
is_leaf (row number from) = false
is_leaf (col index) = false
is_leaf (box owner starts ends) = false
is_leaf (line owner index) = true
is_leaf (void owner) = true
is_leaf (image owner) = true
is_leaf (atom item) = true

-- leaves are covered by the column or the stack that they stand in
abbrev pub is_holder : TreeKind → Bool
is_holder (stack number) = true
is_holder (row number from) = false
is_holder (col index) = true
is_holder (box owner starts ends) = false
is_holder (line owner index) = false
is_holder (void owner) = false
is_holder (image owner) = false
is_holder (atom item) = false

-- what an index keeps of a line
abbrev pub mark_of : TreeLine → Mark
mark_of l = record {
  depth = l.depth;
  leaf = is_leaf l.kind;
  holder = is_holder l.kind;
  rect = record { x = l.x; y = l.y; w = l.w; h = l.h };
}

-- the leaves among these lines, with their numbers; the first line has number n
abbrev pub leaves_from : ℕ → List Mark → List Leaf
leaves_from n [] = []
leaves_from n (m ∷ ms) = cond m.leaf (record { number = n; rect = m.rect } ∷ leaves_from (n + 1) ms) (leaves_from (n + 1) ms)

abbrev pub leaves_of : List Mark → List Leaf
leaves_of marks = leaves_from 0 marks

abbrev pub numbers_of : List Leaf → List ℕ
numbers_of leaves = map (λ (l : Leaf). l.number) leaves

-- ---- points and rectangles

-- whether a stretch of this length holds a place: its start does, its end doesn't
abbrev pub stretch_holds : (start length place : ℕ) → Bool
stretch_holds start length place = nat_le start place && nat_lt place (start + length)

-- whether a rectangle holds a point
abbrev pub holds : Rect → (px py : ℕ) → Bool
holds r px py = stretch_holds r.x r.w px && stretch_holds r.y r.h py

-- whether stretches from a and from b, of lengths w and v, have a place in common: both hold the later of their starts
abbrev pub overlap : (a w b v : ℕ) → Bool
overlap a w b v = stretch_holds a w (max a b) && stretch_holds b v (max a b)

-- whether two rectangles have a point in common
abbrev pub meets : Rect → Rect → Bool
meets r s = overlap r.x r.w s.x s.w && overlap r.y r.h s.y s.h

-- ---- answers

abbrev pub last_of : List ℕ → Option ℕ
last_of [] = None
last_of (n ∷ []) = Some n
last_of (n ∷ (m ∷ ns)) = last_of (m ∷ ns)

-- the last leaf whose rectangle holds a point
abbrev pub hit : List Mark → (px py : ℕ) → Option ℕ
hit marks px py = last_of (numbers_of (filter (λ (l : Leaf). holds l.rect px py) (leaves_of marks)))

-- the leaves that have a point in common with a rectangle, in order
abbrev pub within : List Mark → Rect → List ℕ
within marks r = numbers_of (filter (λ (l : Leaf). meets l.rect r) (leaves_of marks))

abbrev pub no_mark : Mark
no_mark = record { depth = 0; leaf = false; holder = false; rect = record { x = 0; y = 0; w = 0; h = 0 } }

-- how deep line n stands
abbrev pub depth_of : List Mark → ℕ → ℕ
depth_of marks n = (get_or marks n no_mark).depth

-- the nearest line before line n with this depth, or line 0
abbrev pub nearest : List Mark → (n depth : ℕ) → ℕ
nearest marks zero depth = 0
nearest marks (suc n) depth = cond (depth_of marks n == depth) n (nearest marks n depth)

-- the path to line n, which has this depth: that to the nearest line before it with a depth one less, and then itself
abbrev pub path_up : List Mark → (depth n : ℕ) → List ℕ
path_up marks zero n = n ∷ []
path_up marks (suc depth) n = path_up marks depth (nearest marks n depth) ++ n ∷ []

-- the lines from the stack of depth 0 to a leaf
abbrev pub path : List Mark → ℕ → List ℕ
path marks leaf = path_up marks (depth_of marks leaf) leaf
