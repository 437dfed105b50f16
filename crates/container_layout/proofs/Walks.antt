-- A stack, item by item.
use Rattle.std.proofs.Common.{◌≡◌, ℕ, suc, ◌+◌, ◌-◌, ◌<◌, ◌≤◌, ◌^◌, List, [], ◌∷◌, ◌++◌, length, Option, Some, None, cond, Bool}
use Rattle.std.proofs.Common.{true, false, refl, subst, sym, ◌∙◌, ap, add-one, arith, sum_by, All}
use Rattle.std.proofs.lemmas.List.Elements.{All-cons, All-head, All-nil, All-push, All-tail, All-weaker}
use Rattle.mc_base.specs.PlainTree.{plain_trees, row_piece}
use Rattle.flow_list.specs.Data.{Bound, Edge, Flow, FlowsData, Item, Row, Stack}
use Rattle.flow_data.specs.Flows.{amount, flow_of, item_of, row_of, seam_of}
use Rattle.flow_list.specs.ClonedEdges.{tops}
use Rattle.flow_list.specs.Fragments.{continued_from, laid_in_stack, stack_laid}
use Rattle.flow_list.specs.Placing.{Laid, RowLaid, Placed as AnyPlaced, laid_edges, places_from, row}
use Rattle.flow_list.specs.RowHeights.{balanced_height, row_height, size_of}
use Rattle.flow_list.specs.Stacks.{available_at, available_to, height_in_stack, stack_strip}
use Rattle.flow_list.specs.Strip.{Strip, begins, lay_all, put, strip_at}
use Rattle.flow_list.specs.Tokens.{Token, row_start}
use Rattle.flow_list.proofs.StripBounds.{lay_all_le, put_le}
use Rattle.frag_pool.specs.Growing.{Grows}
use Rattle.frag_pool.specs.Nodes.{Nodes}
use Rattle.frag_pool.specs.Standing.{StandsFor}
use Rattle.frag_pool.proofs.Growth.{stands-live}
use Rattle.frag_pool.proofs.Stays.{stands-growing}
use Rattle.frag_maker.specs.Building.{IsMade, RowsAreMade, laid_row, row_live, row_made}
use Rattle.frag_maker.specs.declared.placed.MadeRow.{MadeRow}
use Rattle.frag_maker.specs.declared.placed.Placed.{Placed}
use Rattle.frag_maker.specs.declared.placed.Placed.TheVariants.{Opens, Closes, Atom as AtomAt, Row as RowAt}
use Rattle.column_places.specs.declared.placing.Placing.{Placing}
use Rattle.column_places.specs.Placing.{Leads, row_put, rows_placed, strip_of, with_more}
use Rattle.column_places.proofs.Gaps.{leads-both, leads-same}
use Rattle.container_layout.specs.Laid.{columns_in, in_stack, piece_in_stack}
use Rattle.container_layout.specs.Placed.{AllHaveColumns, laid_in, places_in, stack_item}
use Rattle.container_layout.specs.declared.lay.Stands.{Stands}

-- ---- the strip and what is laid

module _ (d : FlowsData) (bound : Bound) (f : Flow) (k : ℕ) where
  abbrev behind : Strip
  behind = put (stack_strip d bound f k) (height_in_stack d bound (item_of f k) (begins (stack_strip d bound f k)))

  pub next-strip : lay_all (lay_all behind (seam_of f (k + 1)).tail) (seam_of f (k + 1)).head ≡ stack_strip d bound f (k + 1)
  unfolding stack_strip
  next-strip =
      ap (λ j. lay_all (lay_all behind (seam_of f j).tail) (seam_of f j).head) (add-one k)
      ∙ ap (stack_strip d bound f) (sym (add-one k))

  -- one item more
  pub laid-more : (n : ℕ) → stack_laid d bound f k (suc n) ≡ stack_item d bound f k ++ stack_laid d bound f (k + 1) n
  unfolding stack_laid
  laid-more n = refl

  pub laid-none : stack_laid d bound f k 0 ≡ []
  unfolding stack_laid
  laid-none = refl

-- the strip before the next item, told of one that is laid
pub next-laid : (d : FlowsData) (bound : Bound) (f : Flow) (k : ℕ) (s : Strip) → s ≡ stack_strip d bound f k → (height : ℕ) →
    height ≡ height_in_stack d bound (item_of f k) (begins s) → (tail head : List Edge) → tail ≡ (seam_of f (k + 1)).tail →
    head ≡ (seam_of f (k + 1)).head → lay_all (lay_all (put s height) tail) head ≡ stack_strip d bound f (k + 1)
next-laid d bound f k s at height high tail head whole_tail whole_head =
    ap (λ h. lay_all (lay_all (put s h) tail) head) high
    ∙ ap (λ s. lay_all (lay_all (put s (height_in_stack d bound (item_of f k) (begins s))) tail) head) at
    ∙ ap (λ es. lay_all (lay_all (behind d bound f k) es) head) whole_tail
    ∙ ap (λ es. lay_all (lay_all (behind d bound f k) (seam_of f (k + 1)).tail) es) whole_head
    ∙ next-strip d bound f k

-- ---- an item with the seam after it

module _ (d : FlowsData) (bound : Bound) (f : Flow) (k : ℕ) (a b : Placing) (at : strip_of a ≡ stack_strip d bound f k)
    (stood : Leads a (laid_in_stack d bound f k (item_of f k) ∷ [])
    (put (strip_of a) (height_in_stack d bound (item_of f k) (begins (strip_of a)))) b)
    (room : a.y + a.margin + height_in_stack d bound (item_of f k) (begins (strip_of a)) + sum_by amount (seam_of f (k + 1)).tail
    + sum_by amount (seam_of f (k + 1)).head < 2 ^ 60)
    (tail : List Edge) (whole_tail : tail ≡ (seam_of f (k + 1)).tail) where
  behind-is : strip_of b ≡ behind d bound f k
  behind-is = stood.strip ∙ ap (λ s. put s (height_in_stack d bound (item_of f k) (begins s))) at

  reach : b.y + b.margin ≤ a.y + a.margin + height_in_stack d bound (item_of f k) (begins (strip_of a))
  reach =
      let e = ap (λ (s : Strip). s.y + s.pending) stood.strip in
      omega (arith, put_le (strip_of a) (height_in_stack d bound (item_of f k) (begins (strip_of a))))

  pub tail-room : b.y + b.margin + sum_by amount tail < 2 ^ 63
  tail-room = let r = reach in let w = ap (sum_by amount) whole_tail in omega arith

  module _ (c : Placing) (tailed : Leads b (laid_edges (strip_of b) tail) (lay_all (strip_of b) tail) c) (head : List Edge)
      (whole_head : head ≡ (seam_of f (k + 1)).head) where
    pub head-room : c.y + c.margin + sum_by amount head < 2 ^ 63
    head-room =
        let r = reach in
        let w = ap (sum_by amount) whole_tail in
        let v = ap (sum_by amount) whole_head in
        let e = ap (λ (s : Strip). s.y + s.pending) tailed.strip in
        omega (arith, lay_all_le (strip_of b) tail)

    pub item-leads : (e : Placing) → Leads c (laid_edges (strip_of c) head) (lay_all (strip_of c) head) e →
        Leads a (stack_item d bound f k) (stack_strip d bound f (k + 1)) e
    item-leads e headed =
        let x = laid_in_stack d bound f k (item_of f k) in
        let after = lay_all (behind d bound f k) (seam_of f (k + 1)).tail in
        let tailed-is : strip_of c ≡ after =
        tailed.strip ∙ ap (λ s. lay_all s tail) behind-is ∙ ap (lay_all (behind d bound f k)) whole_tail in
        let first : Leads a (x ∷ []) (strip_of b) b = leads-same a b (x ∷ []) (x ∷ []) _ _ refl refl
        (record { strip = refl; margin = stood.margin; places = stood.places }) in
        let P : Strip → List Edge → Strip → Type 0 = λ s es t. Leads b (laid_edges s es) t c in
        let second : Leads b (laid_edges (behind d bound f k) (seam_of f (k + 1)).tail) (strip_of c) c =
        subst (λ s. P s (seam_of f (k + 1)).tail (strip_of c)) behind-is
        (subst (λ es. P (strip_of b) es (strip_of c)) whole_tail
        (record { strip = refl; margin = tailed.margin; places = tailed.places })) in
        let Q : Strip → List Edge → Strip → Type 0 = λ s es t. Leads c (laid_edges s es) t e in
        let third : Leads c (laid_edges after (seam_of f (k + 1)).head) (stack_strip d bound f (k + 1)) e =
        subst (Q after (seam_of f (k + 1)).head) (next-strip d bound f k)
        (subst (λ es. Q after es (lay_all after es)) whole_head
        (subst (λ s. Q s head (lay_all s head)) tailed-is headed)) in
        leads-both a c e (x ∷ laid_edges (behind d bound f k) (seam_of f (k + 1)).tail) _ (strip_of c) _
        (leads-both a b c (x ∷ []) _ (strip_of b) _ first second) third

-- ---- a row

-- a row that stands in a stack as it was laid out
pub row-laid : (d : FlowsData) (r : ℕ) (stands : Stands) (made : MadeRow) → made.row ≡ r → made.from ≡ row_start →
    made.height ≡ stands.height → stands.height ≡ row_height d r stands.available →
    made.made_at ≡ cond (row_of d r).auto stands.available (Some stands.height) → made.filled ≡ false →
    laid_row made ≡ in_stack d r stands.available
unfolding row_height
row-laid d r stands made is from tall high columns whole =
    let same : made.made_at ≡ cond (row_of d r).auto stands.available
    (Some (balanced_height stands.available (size_of d r row_start))) = columns ∙ go (row_of d r).auto refl in
    let height : made.height ≡ row_height d r stands.available = tall ∙ high in
    cc
  where
    go : (b : Bool) → (row_of d r).auto ≡ b → cond b stands.available (Some stands.height)
        ≡ cond b stands.available (Some (balanced_height stands.available (size_of d r row_start)))
    go true e = refl
    go false e = ap Some (high ∙ rw e refl)

-- what is made of it has its columns
pub made-row : (d : FlowsData) (r : ℕ) (stands : Stands) (q : Nodes) (made : MadeRow) → made.row ≡ r → made.from ≡ row_start →
    laid_row made ≡ in_stack d r stands.available → StandsFor q made.made (piece_in_stack d r stands.available None) →
    IsMade q (plain_trees (columns_in d (laid_row made))) made
made-row d r stands q made is from laid stand =
    let P : ℕ → Token → RowLaid → Type 0 = λ r q' x. StandsFor q made.made (row_piece r q' 0 None (plain_trees (columns_in d
    x))) in
    subst (λ x. P made.row made.from x) (sym laid) (subst (λ t. P made.row t (in_stack d r stands.available)) (sym from)
    (subst (λ n. P n row_start (in_stack d r stands.available)) (sym is) stand))

pub row-leads : (d : FlowsData) (bound : Bound) (f : Flow) (k r : ℕ) → item_of f k ≡ Row r → (a b : Placing) →
    strip_of a ≡ stack_strip d bound f k → (available : Option ℕ) → available ≡ available_to d bound f k → (made : MadeRow) →
    laid_row made ≡ in_stack d r available → Leads a (row (laid_row made) ∷ []) (row_put (strip_of a) (laid_row made)) b →
    Leads a (laid_in_stack d bound f k (item_of f k) ∷ [])
    (put (strip_of a) (height_in_stack d bound (item_of f k) (begins (strip_of a)))) b
row-leads d bound f k r is a b at available there made laid led =
    let same : available_to d bound f k ≡ available_at bound (begins (strip_of a)) =
    ap (λ s. available_at bound (begins s)) (sym at) in
    let P : RowLaid → Type 0 = λ x. Leads a (row x ∷ []) (row_put (strip_of a) x) b in
    let Q : Option ℕ → Type 0 = λ o. Leads a (row (in_stack d r (available_to d bound f k)) ∷ [])
    (put (strip_of a) (row_height d r o)) b in
    let R : Item → Type 0 = λ item. Leads a (laid_in_stack d bound f k item ∷ [])
    (put (strip_of a) (height_in_stack d bound item (begins (strip_of a)))) b in
    subst R (sym is) (subst Q same (subst P (laid ∙ ap (in_stack d r) there) led))

-- its height is that of the item
pub row-high : (d : FlowsData) (bound : Bound) (f : Flow) (k r : ℕ) → item_of f k ≡ Row r → (a : Placing) →
    strip_of a ≡ stack_strip d bound f k → (available : Option ℕ) → available ≡ available_to d bound f k → (made : MadeRow) →
    laid_row made ≡ in_stack d r available → made.height ≡ height_in_stack d bound (item_of f k) (begins (strip_of a))
row-high d bound f k r is a at available there made laid =
    let same : available ≡ available_at bound (begins (strip_of a)) =
    there ∙ ap (λ s. available_at bound (begins s)) (sym at) in
    ap (λ (x : RowLaid). x.height) laid ∙ ap (row_height d r) same
    ∙ ap (λ item. height_in_stack d bound item (begins (strip_of a))) (sym is)

-- ---- the whole stack

-- what is placed so far, with all that is still to come
pub places-go : (d : FlowsData) (bound : Bound) (f : Flow) (k n : ℕ) → k < n → (a b : Placing) (s : Strip) →
    Leads a (stack_item d bound f k) s b → (ps : List AnyPlaced) → with_more a (stack_laid d bound f k (n - k)) ≡ ps →
    with_more b (stack_laid d bound f (k + 1) (n - (k + 1))) ≡ ps
places-go d bound f k n lt a b s led ps is =
    let less : n - k ≡ suc (n - (k + 1)) = omega arith in
    sym (led.places (stack_laid d bound f (k + 1) (n - (k + 1))))
    ∙ sym (ap (λ m. with_more a (stack_laid d bound f k m)) less
    ∙ ap (with_more a) (laid-more d bound f k (n - (k + 1)))) ∙ is

pub places-end : (d : FlowsData) (bound : Bound) (f : Flow) (k n : ℕ) → n ≤ k → (a : Placing) (ps : List AnyPlaced) →
    with_more a (stack_laid d bound f k (n - k)) ≡ ps → with_more a [] ≡ ps
places-end d bound f k n le a ps is =
    let none : n - k ≡ 0 = omega arith in
    sym (ap (λ m. with_more a (stack_laid d bound f k m)) none ∙ ap (with_more a) (laid-none d bound f k)) ∙ is

pub places-begin : (d : FlowsData) (stack : Stack) (n : ℕ) → n ≡ length (flow_of d stack.flow).items → (at : Placing) →
    ((more : List Laid) → with_more at more ≡ places_in d stack
    (laid_edges (strip_at (tops d (flow_of d stack.flow).opened) false) (seam_of (flow_of d stack.flow) 0).head ++ more)) →
    with_more at (stack_laid d stack.bound (flow_of d stack.flow) 0 (n - 0)) ≡ places_in d stack (laid_in d stack)
places-begin d stack n is at places =
    let f = flow_of d stack.flow in
    let e : n - 0 ≡ length f.items = omega arith in
    ap (λ m. with_more at (stack_laid d stack.bound f 0 m)) e ∙ places (stack_laid d stack.bound f 0 (length f.items))

-- what stands at a stack's beginning, with the head of its first seam
pub begin-places : (d : FlowsData) (stack : Stack) (boxes : List ℕ) (head : List Edge) → boxes ≡ (flow_of d stack.flow).opened →
    head ≡ (seam_of (flow_of d stack.flow) 0).head → (a b : Placing) → strip_of a ≡ strip_at (tops d boxes) false →
    ((more : List Laid) → with_more a more ≡ continued_from d 0 boxes ++ places_from (length more + 1) (tops d boxes) more) →
    Leads a (laid_edges (strip_of a) head) (lay_all (strip_of a) head) b → (more : List Laid) → with_more b more
    ≡ places_in d stack
    (laid_edges (strip_at (tops d (flow_of d stack.flow).opened) false) (seam_of (flow_of d stack.flow) 0).head ++ more)
begin-places d stack boxes head opened whole a b at places led more =
    let here : List ℕ → Strip → List Edge → List AnyPlaced = λ bs s es.
    continued_from d 0 bs ++ places_from (length (laid_edges s es ++ more) + 1) (tops d bs) (laid_edges s es ++ more) in
    sym (led.places more) ∙ places (laid_edges (strip_of a) head ++ more)
    ∙ ap (λ s. here boxes s head) at
    ∙ ap (λ bs. here bs (strip_at (tops d bs) false) head) opened
    ∙ ap (here (flow_of d stack.flow).opened (strip_at (tops d (flow_of d stack.flow).opened) false)) whole

pub begin-strip : (d : FlowsData) (stack : Stack) (boxes : List ℕ) (head : List Edge) → boxes ≡ (flow_of d stack.flow).opened →
    head ≡ (seam_of (flow_of d stack.flow) 0).head → (s t : Strip) → s ≡ strip_at (tops d boxes) false → t ≡ lay_all s head →
    t ≡ stack_strip d stack.bound (flow_of d stack.flow) 0
unfolding stack_strip
begin-strip d stack boxes head opened whole s t at laid =
    laid ∙ ap (λ s. lay_all s head) at ∙ ap (λ bs. lay_all (strip_at (tops d bs) false) head) opened
    ∙ ap (lay_all (strip_at (tops d (flow_of d stack.flow).opened) false)) whole

-- ---- the rows that stand there

pub rows-grow : (d : FlowsData) (p q : Nodes) → Grows p q → (rows : List MadeRow) → AllHaveColumns d p rows →
    AllHaveColumns d q rows
rows-grow d p q grows rows made =
    All-weaker (λ (r : MadeRow). IsMade p (plain_trees (columns_in d (laid_row r))) r)
    (λ (r : MadeRow). IsMade q (plain_trees (columns_in d (laid_row r))) r) (λ r s. stands-growing p q grows r.made _ s) rows made

pub row-pushed : (d : FlowsData) (q : Nodes) (rows : List MadeRow) (r : MadeRow) → AllHaveColumns d q rows →
    IsMade q (plain_trees (columns_in d (laid_row r))) r → AllHaveColumns d q (rows ++ r ∷ [])
row-pushed d q rows r made own = All-push (λ (r : MadeRow). IsMade q (plain_trees (columns_in d (laid_row r))) r) rows r made own

pub made-placed : (d : FlowsData) (p : Nodes) (placed : List Placed) → AllHaveColumns d p (rows_placed placed) →
    RowsAreMade p (columns_in d) placed
made-placed d p [] made = All-nil (row_made p (columns_in d))
made-placed d p (Opens number y starts ∷ placed) made = All-cons (row_made p (columns_in d)) _ placed tt
    (made-placed d p placed made)
made-placed d p (Closes number y ∷ placed) made = All-cons (row_made p (columns_in d)) _ placed tt (made-placed d p placed made)
made-placed d p (AtomAt item y ∷ placed) made = All-cons (row_made p (columns_in d)) _ placed tt (made-placed d p placed made)
made-placed d p (RowAt r y ∷ placed) made =
    let P : MadeRow → Type 0 = λ r. IsMade p (plain_trees (columns_in d (laid_row r))) r in
    All-cons (row_made p (columns_in d)) _ placed (All-head P r (rows_placed placed) made)
    (made-placed d p placed (All-tail P r (rows_placed placed) made))

pub live-placed : (d : FlowsData) (p : Nodes) (placed : List Placed) → RowsAreMade p (columns_in d) placed →
    All (row_live p) placed
live-placed d p placed made = All-weaker (row_made p (columns_in d)) (row_live p) one placed made
  where
    one : (x : Placed) → row_made p (columns_in d) x → row_live p x
    one (Opens number y starts) m = tt
    one (Closes number y) m = tt
    one (AtomAt item y) m = tt
    one (RowAt r y) m = stands-live p r.made _ m

pub no-rows : (d : FlowsData) (p : Nodes) (rows : List MadeRow) → rows ≡ [] → AllHaveColumns d p rows
no-rows d p rows is = rw is (All-nil (λ (r : MadeRow). IsMade p (plain_trees (columns_in d (laid_row r))) r))
