-- The stop of a column at two heights: the same one below what it needs, else a later one or none.
use Rattle.std.proofs.Common.{◌≡◌, ℕ, ◌+◌, ◌<◌, ◌≤◌, Bool, true, false, cond, List, [], ◌∷◌, refl, subst, ap, arith, Option, Some}
use Rattle.std.proofs.Common.{None}
use Rattle.std.specs.Prelude.{nat_lt}
use Rattle.std.proofs.lemmas.Bool.Decides.{nat_tests}
use Rattle.flow_list.specs.Data.{Atom, Flow, FlowsData, Item, Row}
use Rattle.flow_data.specs.Flows.{item_of}
use Rattle.flow_list.specs.Strip.{Strip}
use Rattle.flow_list.specs.Tokens.{Token}
use Rattle.flow_list.specs.Column.{Inner, Step, cut, longer, steps, row_from, height_of}
use Rattle.flow_list.proofs.ColumnParts.{EachFrom, steps-each, through, cut-each, last-each}

-- an item has this number, and where it is a row its height is its size
abbrev pub IsGood : Inner → ℕ → Step → Type 0
IsGood inner k s = (s.item ≡ k) × ((row : ℕ × Token) → s.row ≡ Some row → s.height ≡ inner.size row.0 row.1)

abbrev pub Good : Inner → ℕ → List Step → Type 0
Good inner k ss = EachFrom (IsGood inner) k ss

row-height : (inner : Inner) (q : Token) (item : Item) (row : ℕ × Token) → row_from item q ≡ Some row →
    height_of inner item q ≡ inner.size row.0 row.1
row-height inner q (Atom h kind) row e = absurd cc
row-height inner q (Row r) row e = let k : (r, q) ≡ row = cc in ap (λ (w : ℕ × Token). inner.size w.0 w.1) k

pub steps-good : (inner : Inner) (d : FlowsData) (f : Flow) (s : Strip) (k : ℕ) (q : Token) (n : ℕ) →
    Good inner k (steps inner d f s k q n)
steps-good inner d f s k q n =
    steps-each inner d f (λ s k q n. Unit {0}) (IsGood inner) (λ s k q n known. (refl, row-height inner q (item_of f k)))
    (λ s k q n known. tt) s k q n tt

abbrev pub stop_number : Option Step → Option ℕ
stop_number None = None
stop_number (Some s) = Some s.item

-- the stop is one of these items
cut-above : (inner : Inner) (h k i : ℕ) (ss : List Step) → Good inner k ss → stop_number (cut h ss).stop ≡ Some i → k ≤ i
cut-above inner h k i [] g e = absurd cc
cut-above inner h k i (x ∷ ss) g e = go (nat_lt h x.need) e (λ m. cut-above inner h (k + 1) i ss g.1 m)
  where
    go : (b : Bool) → stop_number (cond b (record { before = []; stop = Some x }) (longer x (cut h ss))).stop ≡ Some i →
        (stop_number (cut h ss).stop ≡ Some i → k + 1 ≤ i) → k ≤ i
    go true e later = let m : x.item ≡ i = cc in let n = g.0.0 in omega arith
    go false e later = let m = later e in omega arith

-- below what the stop needs the same items fit
pub cut-same : (lo hi : ℕ) (s : Step) (ss : List Step) → lo ≤ hi → (cut lo ss).stop ≡ Some s → hi < s.need → cut hi ss ≡ cut lo ss
cut-same lo hi s [] le e lt = refl
cut-same lo hi s (x ∷ ss) le e lt = go (nat_lt lo x.need) refl (nat_lt hi x.need) refl e (λ m. cut-same lo hi s ss le m lt)
  where
    go : (b : Bool) → nat_lt lo x.need ≡ b → (c : Bool) → nat_lt hi x.need ≡ c →
        (cond b (record { before = []; stop = Some x }) (longer x (cut lo ss))).stop ≡ Some s →
        ((cut lo ss).stop ≡ Some s → cut hi ss ≡ cut lo ss) →
        cond c (record { before = []; stop = Some x }) (longer x (cut hi ss)) ≡
        cond b (record { before = []; stop = Some x }) (longer x (cut lo ss))
    go true eb true ec e later = refl
    go true eb false ec e later = let m : x ≡ s = cc in let n : x.need ≡ s.need = ap (λ (w : Step). w.need) m in
        absurd (grind (arith, nat_tests))
    go false eb true ec e later = absurd (grind (arith, nat_tests))
    go false eb false ec e later = ap (longer x) (later e)

-- where the stop fits, a later one comes, or none
pub cut-later : (inner : Inner) (lo hi k : ℕ) (s : Step) (ss : List Step) → Good inner k ss → lo ≤ hi →
    (cut lo ss).stop ≡ Some s → s.need ≤ hi → stop_number (cut hi ss).stop ≡ Some s.item → ⊥
cut-later inner lo hi k s [] g le e fit same = cc
cut-later inner lo hi k s (x ∷ ss) g le e fit same = go (nat_lt lo x.need) refl (nat_lt hi x.need) refl e same
    (λ m n. cut-later inner lo hi (k + 1) s ss g.1 le m fit n)
  where
    go : (b : Bool) → nat_lt lo x.need ≡ b → (c : Bool) → nat_lt hi x.need ≡ c →
        (cond b (record { before = []; stop = Some x }) (longer x (cut lo ss))).stop ≡ Some s →
        stop_number (cond c (record { before = []; stop = Some x }) (longer x (cut hi ss))).stop ≡ Some s.item →
        ((cut lo ss).stop ≡ Some s → stop_number (cut hi ss).stop ≡ Some s.item → ⊥) → ⊥
    go true eb true ec e same later = let m : x ≡ s = cc in let n : x.need ≡ s.need = ap (λ (w : Step). w.need) m in
        grind (arith, nat_tests)
    go true eb false ec e same later =
        let m : x ≡ s = cc in
        let n : x.item ≡ s.item = ap (λ (w : Step). w.item) m in
        let above = cut-above inner hi (k + 1) s.item ss g.1 same in
        let i = g.0.0 in
        omega arith
    go false eb true ec e same later = grind (arith, nat_tests)
    go false eb false ec e same later = later e same

pub stop-good : (inner : Inner) (lo k : ℕ) (s : Step) (ss : List Step) → Good inner k ss → (cut lo ss).stop ≡ Some s →
    (row : ℕ × Token) → s.row ≡ Some row → s.height ≡ inner.size row.0 row.1
stop-good inner lo k s ss g e row is =
    let all = subst (λ o. EachFrom (IsGood inner) k (through (cut lo ss).before o)) e (cut-each (IsGood inner) lo k ss g) in
    (last-each (IsGood inner) k (cut lo ss).before s all).1 row is
