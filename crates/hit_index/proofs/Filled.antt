-- Bands that are filled with the leaves among lines, one line after another.
use Rattle.std.proofs.Common.{◌≡◌, ℕ, suc, ◌+◌, Bool, true, false, cond, List, [], ◌∷◌, ◌++◌, length, Option}
use Rattle.std.proofs.Common.{sym, ap, ◌∙◌, arith, drop, get_or, ◌<◌}
use Rattle.std.proofs.lemmas.List.{append-nil, drop_more}
use Rattle.std.proofs.lemmas.List.Concat.{flat_map-append}
use Rattle.std.proofs.lemmas.List.Elements.{All-push}
use Rattle.hit_index.specs.declared.mark.Mark.{Mark}
use Rattle.hit_index.specs.declared.mark.Leaf.{Leaf}
use Rattle.hit_index.specs.declared.band.Band.{Band}
use Rattle.hit_index.specs.declared.fill.Filling.{Filling}
use Rattle.hit_index.specs.Scan.{leaves_from, leaves_of}
use Rattle.hit_index.specs.Bands.{later, hit_by, best, leaves_in, IsBand, IsIndexed}
use Rattle.hit_index.specs.Filling.{IsFilled}
use Rattle.hit_index.proofs.Best.{later-assoc, best-append, best-one}

-- ---- lines one after another

pub leaves-append : (n : ℕ) (marks : List Mark) (m : Mark)
    → leaves_from n (marks ++ m ∷ []) ≡ leaves_from n marks ++ leaves_from (n + length marks) (m ∷ [])
leaves-append n [] m = let e : n ≡ n + 0 = omega arith in ap (λ k. leaves_from k (m ∷ [])) e
leaves-append n (x ∷ marks) m =
    let e : n + 1 + length marks ≡ n + suc (length marks) = omega arith in
    go x.leaf (leaves-append (n + 1) marks m ∙ ap (λ k. leaves_from (n + 1) marks ++ leaves_from k (m ∷ [])) e)
  where
    go : (b : Bool)
        → leaves_from (n + 1) (marks ++ m ∷ []) ≡ leaves_from (n + 1) marks ++ leaves_from (n + suc (length marks)) (m ∷ [])
        → cond b (record { number = n; rect = x.rect } ∷ leaves_from (n + 1) (marks ++ m ∷ []))
        (leaves_from (n + 1) (marks ++ m ∷ []))
        ≡ cond b (record { number = n; rect = x.rect } ∷ leaves_from (n + 1) marks) (leaves_from (n + 1) marks)
        ++ leaves_from (n + suc (length marks)) (m ∷ [])
    go true more = ap (λ ls. record { number = n; rect = x.rect } ∷ ls) more
    go false more = more

-- ---- with one line more

-- the leaf that line n is
abbrev pub leaf_at : ℕ → Mark → Leaf
leaf_at n m = record { number = n; rect = m.rect }

no-leaf : (n : ℕ) (m : Mark) → m.leaf ≡ false → leaves_from n (m ∷ []) ≡ []
no-leaf n m e = ap (λ b. cond b (leaf_at n m ∷ []) []) e

one-leaf : (n : ℕ) (m : Mark) → m.leaf ≡ true → leaves_from n (m ∷ []) ≡ leaf_at n m ∷ []
one-leaf n m e = ap (λ b. cond b (leaf_at n m ∷ []) []) e

pub filled-none : (marks : List Mark) (filling : Filling) (m : Mark) → IsFilled marks filling → m.leaf ≡ false
    → IsFilled (marks ++ m ∷ []) filling
filled-none marks filling m is e = record {
  each = is.each;
  last = is.last;
  same = λ px py. is.same px py ∙ ap (best px py) (sym (leaves-append 0 marks m ∙ ap (λ ls. leaves_of marks ++ ls)
      (no-leaf (0 + length marks) m e) ∙ append-nil (leaves_of marks)));
}

-- what the leaves among lines answer, with one leaf more
leaf-more : (px py : ℕ) (marks : List Mark) (m : Mark) → m.leaf ≡ true →
    best px py (leaves_of (marks ++ m ∷ [])) ≡ later (best px py (leaves_of marks)) (hit_by px py (leaf_at (length marks) m))
leaf-more px py marks m e =
    let n : 0 + length marks ≡ length marks = omega arith in
    ap (best px py) (leaves-append 0 marks m ∙ ap (λ ls. leaves_of marks ++ ls) (one-leaf (0 + length marks) m e))
    ∙ best-append px py (leaves_of marks) (leaf_at (0 + length marks) m ∷ [])
    ∙ ap (later (best px py (leaves_of marks))) (best-one px py (leaf_at (0 + length marks) m)
    ∙ ap (λ k. hit_by px py (leaf_at k m)) n)

pub filled-last : (marks : List Mark) (filling : Filling) (m : Mark) (next : Band) → IsFilled marks filling → m.leaf ≡ true
    → IsBand next
    → ((px py : ℕ) → best px py next.leaves.items
    ≡ later (best px py filling.last.leaves.items) (hit_by px py (leaf_at (length marks) m)))
    → IsFilled (marks ++ m ∷ []) (record { full = filling.full; last = next })
filled-last marks filling m next is e band hits = record {
  each = is.each;
  last = band;
  same = λ px py.
      let full = best px py (leaves_in filling.full) in
      let hit = hit_by px py (leaf_at (length marks) m) in
      best-append px py (leaves_in filling.full) next.leaves.items ∙ ap (later full) (hits px py)
      ∙ sym (later-assoc full (best px py filling.last.leaves.items) hit)
      ∙ ap (λ b. later b hit) (sym (best-append px py (leaves_in filling.full) filling.last.leaves.items) ∙ is.same px py)
      ∙ sym (leaf-more px py marks m e);
}

-- the leaves of full bands and of one more
pub leaves-push : (bands : List Band) (b : Band) → leaves_in (bands ++ b ∷ []) ≡ leaves_in bands ++ b.leaves.items
leaves-push bands b = flat_map-append (λ (b : Band). b.leaves.items) bands (b ∷ [])
    ∙ ap (λ ls. leaves_in bands ++ ls) (append-nil b.leaves.items)

pub filled-next : (marks : List Mark) (filling : Filling) (m : Mark) (next : Band) → IsFilled marks filling → m.leaf ≡ true
    → IsBand next → ((px py : ℕ) → best px py next.leaves.items ≡ hit_by px py (leaf_at (length marks) m))
    → IsFilled (marks ++ m ∷ []) (record { full = filling.full ++ filling.last ∷ []; last = next })
filled-next marks filling m next is e band hits = record {
  each = All-push IsBand filling.full filling.last is.each is.last;
  last = band;
  same = λ px py.
      let hit = hit_by px py (leaf_at (length marks) m) in
      best-append px py (leaves_in (filling.full ++ filling.last ∷ [])) next.leaves.items
      ∙ ap (later (best px py (leaves_in (filling.full ++ filling.last ∷ [])))) (hits px py)
      ∙ ap (λ ls. later (best px py ls) hit) (leaves-push filling.full filling.last)
      ∙ ap (λ b. later b hit) (is.same px py) ∙ sym (leaf-more px py marks m e);
}

-- the whole
pub filled-whole : (marks : List Mark) (filling : Filling) → IsFilled marks filling
    → IsIndexed marks (filling.full ++ filling.last ∷ [])
filled-whole marks filling is = record {
  each = All-push IsBand filling.full filling.last is.each is.last;
  same = λ px py. ap (best px py) (leaves-push filling.full filling.last) ∙ is.same px py;
}

-- what is found in one band more
pub hit-next : (px py : ℕ) (bands : List Band) (i : ℕ) (b : Band) (found hit next : Option ℕ) → i < length bands
    → b ≡ get_or bands i b → hit ≡ best px py b.leaves.items → next ≡ later found hit
    → later found (best px py (leaves_in (drop i bands))) ≡ best px py (leaves_in bands)
    → later next (best px py (leaves_in (drop (i + 1) bands))) ≡ best px py (leaves_in bands)
hit-next px py bands i b found hit next lt is hit_is next_is before =
    let rest = best px py (leaves_in (drop (i + 1) bands)) in
    let first : drop i bands ≡ b ∷ drop (i + 1) bands =
    drop_more bands i b lt ∙ ap (λ b. b ∷ drop (i + 1) bands) (sym is) in
    ap (λ n. later n rest) next_is ∙ ap (λ h. later (later found h) rest) hit_is
    ∙ later-assoc found (best px py b.leaves.items) rest
    ∙ ap (later found) (sym (best-append px py b.leaves.items (leaves_in (drop (i + 1) bands))))
    ∙ ap (λ bs. later found (best px py (leaves_in bs))) (sym first) ∙ before
