-- The lines of columns one after another: each column's own line, and deeper ones after it.
use Rattle.std.proofs.Common.{◌≡◌, ℕ, ◌+◌, Bool, true, false, List, [], ◌∷◌, ◌++◌, map, refl, sym, ◌∙◌, ap, arith, Option, Some}
use Rattle.std.proofs.Common.{None}
use Rattle.flow_list.specs.Data.{Flow, FlowsData}
use Rattle.flow_list.specs.Tokens.{Token}
use Rattle.flow_list.specs.Column.{ColumnLine, Filled, Inner, Step, cut, steps_from, room, is_cut, fill_in_room, inner_lines}
use Rattle.flow_list.specs.Column.{deeper, column, column_up_to, avoids_at}

-- the lines of one column: its own, and deeper ones
abbrev pub Block : List ColumnLine → Type 0
Block ls = (l : ColumnLine) × (inner : List ColumnLine) × (l.depth ≡ 0) × (ls ≡ l ∷ map deeper inner)

-- nothing, or a column's own line first
abbrev pub Starts : List ColumnLine → Type 0
Starts [] = Unit {0}
Starts (l ∷ ls) = l.depth ≡ 0

same-insides : (as_ bs xs ys : List ColumnLine) → Starts xs → Starts ys → map deeper as_ ++ xs ≡ map deeper bs ++ ys →
    (map deeper as_ ≡ map deeper bs) × (xs ≡ ys)
same-insides [] [] xs ys sx sy e = (refl, e)
same-insides [] (b ∷ bs) [] ys sx sy e = absurd cc
same-insides [] (b ∷ bs) (x ∷ xs) ys sx sy e = let k : x ≡ deeper b = cc in
    let n : x.depth ≡ b.depth + 1 = ap (λ (l : ColumnLine). l.depth) k in absurd (omega arith)
same-insides (a ∷ as_) [] xs [] sx sy e = absurd cc
same-insides (a ∷ as_) [] xs (y ∷ ys) sx sy e = let k : deeper a ≡ y = cc in
    let n : a.depth + 1 ≡ y.depth = ap (λ (l : ColumnLine). l.depth) k in absurd (omega arith)
same-insides (a ∷ as_) (b ∷ bs) xs ys sx sy e =
    let h : deeper a ≡ deeper b = cc in
    let k = same-insides as_ bs xs ys sx sy cc in
    let m = k.0 in
    (cc, k.1)

pub same-blocks : (us vs xs ys : List ColumnLine) → Block us → Block vs → Starts xs → Starts ys → us ++ xs ≡ vs ++ ys →
    (us ≡ vs) × (xs ≡ ys)
same-blocks us vs xs ys (a, as_, da, ua) (b, bs, db, vb) sx sy e =
    let w : (a ∷ map deeper as_) ++ xs ≡ (b ∷ map deeper bs) ++ ys = sym (ap (λ ls. ls ++ xs) ua) ∙ e ∙ ap (λ ls. ls ++ ys) vb in
    let k = same-insides as_ bs xs ys sx sy cc in
    let h : a ≡ b = cc in
    let m = k.0 in
    let j : a ∷ map deeper as_ ≡ b ∷ map deeper bs = cc in
    (ua ∙ (j ∙ sym vb), k.1)

pub line-same : (a b : ColumnLine) → a.depth ≡ b.depth → a.end ≡ b.end → a.stop ≡ b.stop → a ≡ b
line-same a b depth end stop =
    let f : ℕ → Option Token → Option ℕ → ColumnLine = λ x y z. record { depth = x; end = y; stop = z } in
    ap (λ x. f x a.end a.stop) depth ∙ (ap (λ y. f b.depth y a.stop) end ∙ ap (λ z. f b.depth b.end z) stop)

pub deeper-same : (as_ bs : List ColumnLine) → map deeper as_ ≡ map deeper bs → as_ ≡ bs
deeper-same [] [] e = refl
deeper-same [] (b ∷ bs) e = absurd cc
deeper-same (a ∷ as_) [] e = absurd cc
deeper-same (a ∷ as_) (b ∷ bs) e =
    let k : deeper a ≡ deeper b = cc in
    let d : a.depth + 1 ≡ b.depth + 1 = ap (λ (l : ColumnLine). l.depth) k in
    let depth : a.depth ≡ b.depth = omega arith in
    let end : a.end ≡ b.end = ap (λ (l : ColumnLine). l.end) k in
    let stop : a.stop ≡ b.stop = ap (λ (l : ColumnLine). l.stop) k in
    let more = deeper-same as_ bs cc in
    let h : a ≡ b = line-same a b depth end stop in
    cc

block-cons : (l : ColumnLine) (ls inner : List ColumnLine) → l.depth ≡ 0 → ls ≡ map deeper inner → Block (l ∷ ls)
block-cons l ls inner at e = (l, inner, at, ap (λ xs. l ∷ xs) e)

pub column-block : (inner : Inner) (d : FlowsData) (f : Flow) (t : Token) (h : ℕ) → Block (column inner d f t h).lines
unfolding column
column-block inner d f t h = go (cut h (steps_from inner d f t)).before (cut h (steps_from inner d f t)).stop
  where
    inside : (b : Bool) (o : Option Filled) → (ls : List ColumnLine) × (inner_lines b o ≡ map deeper ls)
    inside b None = ([], refl)
    inside true (Some filled) = (filled.lines, refl)
    inside false (Some filled) = ([], refl)

    go : (before : List Step) (stop : Option Step) → Block (column_up_to inner (avoids_at d f) h before stop).lines
    go before None = block-cons _ _ [] refl refl
    go before (Some s) = let k = inside (is_cut s h) (fill_in_room inner s.row (room s h)) in block-cons _ _ k.0 refl k.1

pub deeper-none : (ls : List ColumnLine) → map deeper ls ≡ [] → ls ≡ []
deeper-none [] e = refl
deeper-none (l ∷ ls) e = absurd cc
