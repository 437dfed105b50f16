-- Rows and stacks that were laid out, one more after others, and where the region goes on.
use Rattle.std.proofs.Common.{◌≡◌, ℕ, zero, suc, ◌≤◌, List, [], ◌∷◌, ◌++◌, length, Some, length-append, refl, sym, ◌∙◌, ap}
use Rattle.std.proofs.Common.{arith, ◌⊎◌, inl, inr}
use Rattle.std.specs.Prelude.{slice_get}
use Rattle.flow_list.specs.Data.{FlowsData}
use Rattle.flow_list.specs.Book.{after_uses}
use Rattle.flow_list.specs.Certificate.{Use, StackRow, book_behind, row_book, row_uses}
use Rattle.flow_list.specs.Entries.{uses_in}
use Rattle.flow_list.specs.declared.book.SizeEntry.{SizeEntry}
use Rattle.flow_list.specs.declared.laid.LaidRow.{LaidRow}
use Rattle.flow_list.specs.declared.laid.LaidStack.{LaidStack}
use Rattle.frag_pool.specs.Nodes.{IsKept, IsLive, Nodes, SameTrial, back_to}
use Rattle.frag_pool.specs.Growing.{Grows}
use Rattle.frag_pool.specs.Standing.{StandsFor}
use Rattle.mc_base.specs.PlainTree.{PlainTree}
use Rattle.mc_base.specs.declared.fragment.FragId.{FragId}
use Rattle.mc_base.specs.declared.fragment.FragId.TheVariants.{Kept, Trial}
use Rattle.frag_pool.proofs.Growth.{grows-same-trial, stands-live}
use Rattle.frag_pool.proofs.Stays.{stands-growing}
use Rattle.container_layout.specs.Laid.{AreLaidAfter, AreLaidStacks, IsLaidRow, IsLaidStack}

module _ (d : FlowsData) (p q : Nodes) (same : SameTrial p q) where
  pub row-stays : (r : StackRow) (out : LaidRow) → IsLaidRow d p r out → IsLaidRow d q r out
  row-stays r out is = record {
    row = is.row;
    available = is.available;
    height = is.height;
    auto = is.auto;
    fits = is.fits;
    ranges = is.ranges;
    kept = is.kept;
    frag = stands-growing p q (grows-same-trial p q same) out.frag _ is.frag;
  }

  pub rows-stay : (book : List Use) (rs : List StackRow) (outs : List LaidRow) → AreLaidAfter d p book rs outs →
      AreLaidAfter d q book rs outs
  rows-stay book [] [] are = tt
  rows-stay book [] (out ∷ outs) are = absurd are
  rows-stay book (r ∷ rs) [] are = absurd are
  rows-stay book (r ∷ rs) (out ∷ outs) are =
      (row-stays r out are.0, are.1, rows-stay (row_book d book r) rs outs are.2)

  pub stack-stays : (s : ℕ) (out : LaidStack) → IsLaidStack d p s out → IsLaidStack d q s out
  stack-stays s out is = record {
    height = is.height;
    kept = is.kept;
    frag = stands-growing p q (grows-same-trial p q same) out.frag _ is.frag;
  }

-- one row more
pub row-added : (d : FlowsData) (p : Nodes) (book : List Use) (rs : List StackRow) (outs : List LaidRow) (r : StackRow)
    (out : LaidRow) → AreLaidAfter d p book rs outs → IsLaidRow d p r out →
    out.before ≡ length (row_book d (book_behind d book rs) r) → AreLaidAfter d p book (rs ++ r ∷ []) (outs ++ out ∷ [])
row-added d p book [] [] r out are is before = (is, before, tt)
row-added d p book [] (x ∷ outs) r out are is before = absurd are
row-added d p book (x ∷ rs) [] r out are is before = absurd are
row-added d p book (x ∷ rs) (y ∷ outs) r out are is before =
    (are.0, are.1, row-added d p (row_book d book x) rs outs r out are.2 is before)

pub behind-more : (d : FlowsData) (book : List Use) (rs qs : List StackRow) →
    book_behind d book (rs ++ qs) ≡ book_behind d (book_behind d book rs) qs
behind-more d book [] qs = refl
behind-more d book (r ∷ rs) qs = behind-more d (row_book d book r) rs qs

-- a row laid out after others, whose sizes stand in the book
pub row-after : (d : FlowsData) (p q : Nodes) → SameTrial p q → (before : List StackRow) (outs : List LaidRow) (r : StackRow)
    (out : LaidRow) (old new : List Use) → old ≡ book_behind d [] before → AreLaidAfter d p [] before outs → IsLaidRow d q r out →
    out.before ≡ length new → new ≡ after_uses d old (row_uses d r.row r.available) →
    AreLaidAfter d q [] (before ++ r ∷ []) (outs ++ out ∷ [])
unfolding after_uses
row-after d p q same before outs r out old new is are laid count uses =
    row-added d q [] before outs r out (rows-stay d p q same [] before outs are) laid
    (count ∙ ap length (uses ∙ ap (λ book. after_uses d book (row_uses d r.row r.available)) is))

pub row-uses : (d : FlowsData) (r : StackRow) (old new : List Use) → new ≡ after_uses d old (row_uses d r.row r.available) →
    new ≡ book_behind d old (r ∷ [])
unfolding after_uses
row-uses d r old new uses = uses

pub uses-count : (book : List SizeEntry) → length (uses_in book) ≡ length book
uses-count [] = refl
uses-count (e ∷ book) = ap suc (uses-count book)

-- an element of a list to which one is added
pub get-pushed : {X : Type 0} (xs : List X) (x : X) (n : ℕ) (y : X) → slice_get (xs ++ x ∷ []) n ≡ Some y →
    (slice_get xs n ≡ Some y) ⊎ ((n ≡ length xs) × (x ≡ y))
get-pushed [] x zero y e = inr (refl, cc)
get-pushed [] x (suc n) y e = absurd (cc)
get-pushed (z ∷ xs) x zero y e = inl e
get-pushed (z ∷ xs) x (suc n) y e = elim (get-pushed xs x n y e) [ inl a ↦ inl a | inr b ↦ inr (ap suc b.0, b.1) ]

pub no-stacks : (d : FlowsData) (p : Nodes) → AreLaidStacks d p []
no-stacks d p s out at = absurd (cc)

pub stack-added : (d : FlowsData) (p q : Nodes) → SameTrial p q → (outs : List LaidStack) (out : LaidStack) →
    AreLaidStacks d p outs → IsLaidStack d q (length outs) out → AreLaidStacks d q (outs ++ out ∷ [])
stack-added d p q same outs out are is s one at = go (get-pushed outs out s one at)
  where
    go : (slice_get outs s ≡ Some one) ⊎ ((s ≡ length outs) × (out ≡ one)) → IsLaidStack d q s one
    go (inl old) = stack-stays d p q same s one (are s one old)
    go (inr (e, same_out)) = rw (e, sym same_out) is

-- ---- after trial nodes are given up

pub mark-known : (p q : Nodes) (n : ℕ) → n ≡ length p.trial → Grows p q → n ≤ length q.trial
mark-known p q n is grows = let e = ap length grows.trial in omega (arith, length-append p.trial grows.more_trial)

kept-live : (q : Nodes) (n : ℕ) (id : FragId) → IsKept id → IsLive q id → IsLive (back_to q n) id
kept-live q n (Kept m) kept live = live
kept-live q n (Trial m) kept live = absurd kept

module _ (d : FlowsData) (q r : Nodes) (n : ℕ) (back : r ≡ back_to q n)
    (stand : (id : FragId) (tree : PlainTree) → IsLive r id → StandsFor q id tree → StandsFor r id tree) where
  kept-stands : (id : FragId) (tree : PlainTree) → IsKept id → StandsFor q id tree → StandsFor r id tree
  kept-stands id tree kept stands = stand id tree (rw back (kept-live q n id kept (stands-live q id tree stands))) stands

  pub row-kept : (x : StackRow) (out : LaidRow) → IsLaidRow d q x out → IsLaidRow d r x out
  row-kept x out is = record {
    row = is.row;
    available = is.available;
    height = is.height;
    auto = is.auto;
    fits = is.fits;
    ranges = is.ranges;
    kept = is.kept;
    frag = kept-stands out.frag _ is.kept is.frag;
  }

  pub stack-kept : (s : ℕ) (out : LaidStack) → IsLaidStack d q s out → IsLaidStack d r s out
  stack-kept s out is = record { height = is.height; kept = is.kept; frag = kept-stands out.frag _ is.kept is.frag }
