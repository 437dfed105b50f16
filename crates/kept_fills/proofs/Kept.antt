-- Fills that are kept are found by their keys, and stay kept while the book and the kept nodes grow.
use Rattle.std.proofs.Common.{◌≡◌, Bool, true, false, cond, List, [], ◌∷◌, Option, Some, None, Bor, refl, sym, subst, ap, ℕ}
use Rattle.std.specs.Prelude.{◌&&◌, IfSome, ◌==◌, if◌then◌else◌, nat_eq}
use Rattle.std.specs.Cmp.Lexicographic.{pointwise, bytes_decides}
use Rattle.std.specs.Cmp.{unsigned_Decides}
use Rattle.std.specs.Map.{lookup}
use Rattle.std.specs.Option.{option_copied}
use Rattle.indexmap.specs.IndexMap.{insert_entry}
use Rattle.flow_data.specs.declared.data.FlowsData.{FlowsData}
use Rattle.flow_list.specs.Tokens.{Token}
use Rattle.flow_list.specs.declared.book.SizeEntry.{SizeEntry}
use Rattle.mc_base.specs.declared.fragment.FragId.{FragId}
use Rattle.mc_base.specs.declared.fragment.FragId.TheVariants.{Kept, Trial}
use Rattle.frag_pool.specs.Growing.{KeptGrows}
use Rattle.frag_pool.specs.Nodes.{Nodes, IsClosed, IsKept, IsLive, SameTrial, back_to}
use Rattle.frag_pool.specs.Standing.{Equals}
use Rattle.frag_pool.proofs.Growth.{given-up-kept, grows-same-trial, kept-grows-grows, kept-grows-trans}
use Rattle.frag_pool.proofs.Trees.{stands-back}
use Rattle.inner_rows.proofs.Calls.{kept-fill-stays}
use Rattle.inner_rows.specs.Filling.{fill_tree}
use Rattle.inner_rows.specs.declared.inner.Filled.{Filled}
use Rattle.inner_rows.specs.Keeping.{IsKeptFill}
use Rattle.inner_rows.specs.TrueBook.{Extends}
use Rattle.kept_fills.specs.declared.key.FillKey.{FillKey}
use Rattle.kept_fills.specs.Keeping.{EachIsKept, IsMade, same_key, with_frag}

both : (a b : Bool) → (a && b) ≡ true → (a ≡ true) × (b ≡ true)
both true b h = (refl, h)
both false b h = absurd cc

-- equal keys are the same
key-is : (a k : FillKey) → same_key k a ≡ true → k ≡ a
key-is a k same =
    let outer = both ((k.row == a.row) && (k.height == a.height)) (pointwise nat_eq k.from a.from) same in
    let inner = both (k.row == a.row) (k.height == a.height) outer.0 in
    let row_is : k.row ≡ a.row = (unsigned_Decides k.row a.row).0 inner.0 in
    let height_is : k.height ≡ a.height = (unsigned_Decides k.height a.height).0 inner.1 in
    let from_is : k.from ≡ a.from = (bytes_decides k.from a.from).0 outer.1 in
    λ i. record { row = row_is i; height = height_is i; from = from_is i }

-- a key of another row, place or height is another
pub other-key : (a k : FillKey) → ¬ ((k.row ≡ a.row) × (k.from ≡ a.from) × (k.height ≡ a.height)) → same_key a k ≡ false
other-key a k other = go (same_key a k) refl
  where
    go : (b : Bool) → same_key a k ≡ b → same_key a k ≡ false
    go true same =
        let e : k ≡ a = sym (key-is k a same) in
        absurd (other (ap (λ (x : FillKey). x.row) e, ap (λ (x : FillKey). x.from) e, ap (λ (x : FillKey). x.height) e))
    go false same = same

module _ (d : FlowsData) (book : List SizeEntry) (p : Nodes) where
  abbrev KeptOf : FillKey → Filled → Type 0
  KeptOf k f = IsKeptFill d book p k.row k.from k.height f

  -- what is found under a key is a kept fill of it
  pub kept-found : (es : List (FillKey × Filled)) (k : FillKey) (f : Filled) → EachIsKept d book p es →
      lookup (same_key k) es ≡ Some f → IsKeptFill d book p k.row k.from k.height f
  kept-found [] k f kept is = absurd cc
  kept-found (e ∷ es) k f kept is = by (same_key k e.0) refl is (λ rest. kept-found es k f kept.1 rest)
    where
      by : (t : Bool) → same_key k e.0 ≡ t → cond t (Some e.1) (lookup (same_key k) es) ≡ Some f →
          (lookup (same_key k) es ≡ Some f → IsKeptFill d book p k.row k.from k.height f) →
          IsKeptFill d book p k.row k.from k.height f
      by true same is rest =
          let value : e.1 ≡ f = cc in
          subst (KeptOf k) value (subst (λ a. KeptOf a e.1) (sym (key-is e.0 k same)) kept.0)
      by false same is rest = rest is

  pub some-found : (es : List (FillKey × Filled)) (k : FillKey) (r : Option (Bor Filled)) → EachIsKept d book p es →
      option_copied r ≡ lookup (same_key k) es → IfSome r (λ fill. IsKeptFill d book p k.row k.from k.height fill.now)
  some-found es k None kept is = tt
  some-found es k (Some r) kept is = kept-found es k r.now kept (sym is)

  -- one more that is a kept fill of its key
  pub kept-more : (es : List (FillKey × Filled)) (k : FillKey) (f : Filled) → EachIsKept d book p es →
      IsKeptFill d book p k.row k.from k.height f → EachIsKept d book p (insert_entry same_key es k f)
  kept-more [] k f kept new = (new, tt)
  kept-more (e ∷ es) k f kept new = by (same_key k e.0) refl (kept-more es k f kept.1 new)
    where
      by : (t : Bool) → same_key k e.0 ≡ t → EachIsKept d book p (insert_entry same_key es k f) →
          EachIsKept d book p (if t then (e.0, f) ∷ es else e ∷ insert_entry same_key es k f)
      by true same rest = (subst (λ a. KeptOf a f) (key-is e.0 k same) new, kept.1)
      by false same rest = (kept.0, rest)

-- ---- where the book and the kept nodes grow

pub kept-stays : (d : FlowsData) (b c : List SizeEntry) (p q : Nodes) (es : List (FillKey × Filled)) → Extends b c →
    KeptGrows p q → EachIsKept d b p es → EachIsKept d c q es
kept-stays d b c p q [] longer grown kept = tt
kept-stays d b c p q (e ∷ es) longer grown kept =
    (kept-fill-stays d b c p q e.0.row e.0.from e.0.height e.1 kept.0 longer grown, kept-stays d b c p q es longer grown kept.1)

-- ---- a fill that was made after a mark, when its fragment was promoted and the trial nodes after the mark are given up

module _ (p p1 q : Nodes) (n : ℕ) (same : SameTrial p p1) (back : q ≡ back_to p1 n) where
  pub given-up-after : SameTrial (back_to p n) q
  given-up-after = record {
    more_kept = same.more_kept;
    kept = rw back same.kept;
    trial = rw (back, same.trial) refl;
  }

  pub kept-after : KeptGrows p q
  kept-after = kept-grows-trans p p1 q (kept-grows-grows p p1 (grows-same-trial p p1 same)) (given-up-kept p1 q n back)

  pub made-kept : (d : FlowsData) (b : List SizeEntry) (r : ℕ) (t : Token) (h : ℕ) (fill made : Filled) (id : FragId) →
      IsClosed p1 → IsKept id → IsLive p1 id → Equals p fill.frag p1 id → made ≡ with_frag fill id →
      IsMade d b p r t h fill → IsKeptFill d b q r t h made
  made-kept d b r t h fill made id closed kept live equal is m = rw is (record {
    told = record {
      end = m.told.end;
      at_end = m.told.at_end;
      level = m.told.level;
      overflow = m.told.overflow;
      short = m.told.short;
      lines = m.told.lines;
    };
    uses = m.uses;
    frag = rw back (stands-back p1 closed 0 id (fill_tree d r t h) (live-kept id kept live) (equal (fill_tree d r t h) m.frag));
  })
    where
      live-kept : (id : FragId) → IsKept id → IsLive p1 id → IsLive (back_to p1 0) id
      live-kept (Kept k) kept live = live
      live-kept (Trial k) kept live = absurd kept
