-- What is told of a row is the same at every depth that serves.
use Rattle.std.proofs.Common.{◌≡◌, ℕ, zero, suc, ◌+◌, ◌-◌, ◌<◌, ◌≤◌, Bool, true, false, not, ◌&&◌, List, [], ◌∷◌, length, drop}
use Rattle.std.proofs.Common.{get_or, Option, Some, None, refl, ◌∙◌, ap, arith}
use Rattle.std.specs.Prelude.{All}
use Rattle.std.specs.List.{flat_map, list_any}
use Rattle.flow_list.specs.Data.{Flow, FlowsData, Item, Atom, Row}
use Rattle.flow_data.specs.Flows.{row_of, flow_in, item_of, seam_of, no_item, row_in}
use Rattle.flow_list.specs.ClonedEdges.{open_across, bottoms}
use Rattle.flow_data.specs.Soundness.{IsSound, NestsAtMost}
use Rattle.flow_list.specs.Tokens.{Token, row_start, item_number, within, is_end}
use Rattle.flow_list.specs.Strip.{Strip, lay_all, put}
use Rattle.flow_list.specs.Column.{Column, Inner, Step, cut, step_at, steps, steps_from, start_strip, strip_behind, is_forced}
use Rattle.flow_list.specs.Column.{height_of, row_from, fill_in_room, room, stopped, column, column_over, column_up_to, avoids_at}
use Rattle.flow_list.specs.Rows.{columns, columns_by, end_of, fits, fails, most_columns, least, heights_from, items_left, left_in}
use Rattle.flow_list.specs.Rows.{reach, size_in, fill_in, filled_by, rows_to, all_rows}
use Rattle.flow_list.proofs.ColumnParts.{EachFrom, steps-each, OfStop, cut-stop}
use Rattle.flow_laws.specs.Depth.{ToldAlike, DepthChangesNothing}
use Rattle.flow_laws.proofs.SoundRows.{nests-by-number}

-- ---- two ways to tell, alike at each row of a flow

module _ (x y : Inner) where
  abbrev pub ItemAlike : Item → Type 0
  ItemAlike (Atom height kind) = Unit {0}
  ItemAlike (Row r) = ToldAlike x y r

  abbrev pub ItemsAlike : List Item → Type 0
  ItemsAlike [] = Unit {0}
  ItemsAlike (item ∷ items) = ItemAlike item × ItemsAlike items

  abbrev RowAlike : Option (ℕ × Token) → Type 0
  RowAlike None = Unit {0}
  RowAlike (Some row) = ToldAlike x y row.0

  pub item-at : (items : List Item) (k : ℕ) → ItemsAlike items → ItemAlike (get_or items k no_item)
  item-at [] zero same = tt
  item-at [] (suc k) same = tt
  item-at (item ∷ items) zero same = same.0
  item-at (item ∷ items) (suc k) same = item-at items k same.1

  items-drop : (n : ℕ) (items : List Item) → ItemsAlike items → ItemsAlike (drop n items)
  items-drop zero items same = same
  items-drop (suc n) [] same = tt
  items-drop (suc n) (item ∷ items) same = items-drop n items same.1

  pub height-same : (item : Item) (q : Token) → ItemAlike item → height_of x item q ≡ height_of y item q
  height-same (Atom height kind) q same = refl
  height-same (Row r) q same = same.size q

  row-alike : (item : Item) (q : Token) → ItemAlike item → RowAlike (row_from item q)
  row-alike (Atom height kind) q same = tt
  row-alike (Row r) q same = same

  heights-same : (q : Token) (items : List Item) → ItemsAlike items → heights_from x q items ≡ heights_from y q items
  heights-same q [] same = refl
  heights-same q (item ∷ items) same = rw (height-same item q same.0, heights-same row_start items same.1) refl

  left-same : (q : Token) (items : List Item) → ItemsAlike items → items_left x q items ≡ items_left y q items
  left-same q [] same = refl
  left-same q (Atom height kind ∷ items) same = rw (left-same row_start items same.1) refl
  left-same q (Row r ∷ items) same = rw (same.0.left q, left-same row_start items same.1) refl

  -- ---- columns

  module _ (d : FlowsData) (f : Flow) (alike : ItemsAlike f.items) where
    step-of : Strip → ℕ → Token → ℕ → Step
    step-of s k q height = record (step_at y d f s k q)
        { height = height; need = (lay_all (put s height) (seam_of f (k + 1)).tail).y + bottoms d (open_across f (k + 1)) }

    pub steps-same : (s : Strip) (k : ℕ) (q : Token) (n : ℕ) → steps x d f s k q n ≡ steps y d f s k q n
    unfolding steps step-of
    steps-same s k q zero = refl
    steps-same s k q (suc n) =
        ap (λ height. step-of s k q height ∷ elim (is_forced (seam_of f (k + 1)).level) [ true ↦ [] | false ↦ more x height ])
        (height-same (item_of f k) q (item-at f.items k alike))
        ∙ go (is_forced (seam_of f (k + 1)).level)
        (steps-same (lay_all (strip_behind y f s k q) (seam_of f (k + 1)).head) (k + 1) row_start n)
      where
        more : Inner → ℕ → List Step
        more z height = steps z d f (lay_all (lay_all (put s height) (seam_of f (k + 1)).tail) (seam_of f (k + 1)).head) (k + 1)
            row_start n

        go : (b : Bool) → more x (height_of y (item_of f k) q) ≡ more y (height_of y (item_of f k) q) →
            step_at y d f s k q ∷ elim b as (λ _. List Step) [ true ↦ [] | false ↦ more x (height_of y (item_of f k) q) ]
            ≡ step_at y d f s k q ∷ elim b as (λ _. List Step) [ true ↦ [] | false ↦ more y (height_of y (item_of f k) q) ]
        go true e = refl
        go false e = ap (λ ss. step_at y d f s k q ∷ ss) e

    abbrev IsAlike : Step → Type 0
    IsAlike s = RowAlike s.row

    steps-alike : (s : Strip) (k : ℕ) (q : Token) (n : ℕ) → EachFrom (λ m. IsAlike) k (steps y d f s k q n)
    steps-alike s k q n =
        steps-each y d f (λ s k q n. Unit {0}) (λ m. IsAlike) (λ s k q n u. row-alike (item_of f k) q (item-at f.items k alike))
        (λ s k q n u. tt) s k q n tt

    fill-same : (a : ℕ) (row : Option (ℕ × Token)) → RowAlike row → fill_in_room x row a ≡ fill_in_room y row a
    fill-same a None same = refl
    fill-same a (Some row) same = ap Some (same.fill row.1 a)

    up_to-same : (avoids : ℕ → Bool) (h : ℕ) (before : List Step) (stop : Option Step) → OfStop IsAlike stop
        → column_up_to x avoids h before stop ≡ column_up_to y avoids h before stop
    up_to-same avoids h before None same = refl
    up_to-same avoids h before (Some s) same = ap (stopped (avoids s.item) h before s) (fill-same (room s h) s.row same)

    pub column-same : (t : Token) (h : ℕ) → column x d f t h ≡ column y d f t h
    unfolding column
    column-same t h =
        ap (column_over x (avoids_at d f) h)
        (steps-same (start_strip d f t) (item_number t) (within t) (length f.items - item_number t))
        ∙ up_to-same (avoids_at d f) h (cut h (steps_from y d f t)).before (cut h (steps_from y d f t)).stop
        (cut-stop IsAlike h (item_number t) (steps_from y d f t)
        (steps-alike (start_strip d f t) (item_number t) (within t) (length f.items - item_number t)))

    pub columns-same : (n : ℕ) (t : Token) (h : ℕ) → columns x d f n t h ≡ columns y d f n t h
    unfolding columns_by
    columns-same zero t h = refl
    columns-same (suc n) t h = go (is_end f t) (columns-same n (column y d f t h).end h)
      where
        go : (b : Bool) → columns x d f n (column y d f t h).end h ≡ columns y d f n (column y d f t h).end h →
            elim b as (λ _. List Column) [ true ↦ [] | false ↦ column x d f t h ∷ columns x d f n (column x d f t h).end h ]
            ≡ elim b as (λ _. List Column) [ true ↦ [] | false ↦ column y d f t h ∷ columns y d f n (column y d f t h).end h ]
        go true e = refl
        go false e = ap (λ c. c ∷ columns x d f n c.end h) (column-same t h) ∙ ap (λ cs. column y d f t h ∷ cs) e

    pub reach-same : (q : Token) → reach x d f q ≡ reach y d f q
    reach-same q = rw (heights-same (within q) (drop (item_number q) f.items) (items-drop (item_number q) f.items alike)) refl

    pub left_in-same : (q : Token) → left_in x f q ≡ left_in y f q
    left_in-same q = left-same (within q) (drop (item_number q) f.items) (items-drop (item_number q) f.items alike)

least-same : (p p' : ℕ → Bool) → ((h : ℕ) → p h ≡ p' h) → (n lo : ℕ) → least p n lo ≡ least p' n lo
unfolding least
least-same p p' e zero lo = refl
least-same p p' e (suc n) lo = go (p lo) (p' lo) (e lo) (least-same p p' e n (lo + 1))
  where
    go : (a b : Bool) → a ≡ b → least p n (lo + 1) ≡ least p' n (lo + 1)
        → elim a as (λ _. ℕ) [ true ↦ lo | false ↦ least p n (lo + 1) ]
        ≡ elim b as (λ _. ℕ) [ true ↦ lo | false ↦ least p' n (lo + 1) ]
    go true true k r = refl
    go true false k r = cc
    go false true k r = cc
    go false false k r = r

fits-same : (x y : Inner) (d : FlowsData) (r : ℕ) (q : Token) (h : ℕ) → ItemsAlike x y (flow_in d r).items
    → fits x d r q h ≡ fits y d r q h
unfolding fits
fits-same x y d r q h alike =
    ap (λ cs. is_end (flow_in d r) (end_of q cs) && not (list_any fails cs))
    (columns-same x y d (flow_in d r) alike (most_columns (row_of d r).n (flow_in d r) q) q h)

pub size-same : (x y : Inner) (d : FlowsData) (r : ℕ) (q : Token) → ItemsAlike x y (flow_in d r).items →
    size_in x d r q ≡ size_in y d r q
unfolding size_in
size-same x y d r q alike =
    ap (λ n. least (fits x d r q) n 0) (reach-same x y d (flow_in d r) alike q)
    ∙ least-same (fits x d r q) (fits y d r q) (λ h. fits-same x y d r q h alike) (reach y d (flow_in d r) q) 0

pub fill_in-same : (x y : Inner) (d : FlowsData) (r : ℕ) (q : Token) (h : ℕ) → ItemsAlike x y (flow_in d r).items →
    fill_in x d r q h ≡ fill_in y d r q h
unfolding fill_in
fill_in-same x y d r q h alike = ap (filled_by (flow_in d r) q) (columns-same x y d (flow_in d r) alike (row_of d r).n q h)

-- ---- by how many rows stand one inside another

-- what is true of each row in a flow is true of each of its items that is a row
pub items-alike : (x y : Inner) (P : ℕ → Type 0) → ((r : ℕ) → P r → ToldAlike x y r) → (items : List Item)
    → All P (flat_map row_in items) → ItemsAlike x y items
items-alike x y P told [] all = tt
items-alike x y P told (Atom height kind ∷ items) all = (tt, items-alike x y P told items all)
items-alike x y P told (Row r ∷ items) all =
    (told r (all 0 r (omega arith)), items-alike x y P told items (λ k e lt. all (suc k) e (omega arith)))

pub told-alike : (d : FlowsData) (n r a b : ℕ) → NestsAtMost d n r → n ≤ a → n ≤ b → ToldAlike (rows_to d a) (rows_to d b) r
unfolding rows_to
told-alike d zero r a b nests le ge = absurd nests
told-alike d (suc n) r zero b nests le ge = absurd (omega arith)
told-alike d (suc n) r (suc a) zero nests le ge = absurd (omega arith)
told-alike d (suc n) r (suc a) (suc b) nests le ge =
    let alike = items-alike (rows_to d a) (rows_to d b) (NestsAtMost d n)
    (λ s k. told-alike d n s a b k (omega arith) (omega arith)) (flow_in d r).items nests in
    record {
      size = λ q. size-same (rows_to d a) (rows_to d b) d r q alike;
      fill = λ q h. fill_in-same (rows_to d a) (rows_to d b) d r q h alike;
      left = λ q. left_in-same (rows_to d a) (rows_to d b) d (flow_in d r) alike q;
    }

-- in sound data each depth serves that is no less than the count of rows
pub sound-alike : (d : FlowsData) → IsSound d → (r a b : ℕ) → r < length d.rows → length d.rows ≤ a → length d.rows ≤ b
    → ToldAlike (rows_to d a) (rows_to d b) r
sound-alike d sound r a b lt le ge =
    told-alike d (length d.rows - r) r a b (nests-by-number d sound (length d.rows - r) r lt (omega arith)) (omega arith)
    (omega arith)

pub depth-same : (d : FlowsData) → DepthChangesNothing d
unfolding all_rows rows_to
depth-same d = record {
  told_alike = told-alike d;
  all_rows_size = λ n r q nests le. (told-alike d n r (length d.rows) (suc (length d.rows)) nests le (omega arith)).size q;
  all_rows_fill = λ n r q h nests le. (told-alike d n r (length d.rows) (suc (length d.rows)) nests le (omega arith)).fill q h;
  count_is_deep_enough = λ sound r depth lt le. sound-alike d sound r (length d.rows) depth lt (omega arith) le;
}
