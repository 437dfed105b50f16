-- A column's lines and overflow stay while the height grows, up to the least bound.
use Rattle.std.proofs.Common.{◌≡◌, ℕ, ◌+◌, ◌-◌, ◌<◌, ◌≤◌, Bool, true, false, cond, not, ◌&&◌, List, [], ◌∷◌, ◌++◌, map, Option}
use Rattle.std.proofs.Common.{Some, None, refl, sym, ◌∙◌, ap, arith}
use Rattle.std.specs.Prelude.{nat_lt, nat_le, fold}
use Rattle.std.proofs.lemmas.Bool.{lt-ltb, le-ltb}
use Rattle.std.proofs.lemmas.Bool.Decides.{nat_tests}
use Rattle.flow_list.specs.Tokens.{Token}
use Rattle.flow_list.specs.Column.{ColumnLine, Column, Filled, Inner, Step, Place, Cut, cut, longer, seams_between, inside_place}
use Rattle.flow_list.specs.Column.{room, is_cut, fill_in_room, whole_place, best, choose, deeper, bounds_at, column_to, stopped}
use Rattle.flow_list.specs.Column.{column_up_to, column_over}
use Rattle.flow_laws.specs.Constant.{IsBelowEach, ColumnStays, FillStays, FillsStay}

-- ---- the stop

abbrev IsBelowStop : ℕ → Option Step → Type 0
IsBelowStop h None = Unit {0}
IsBelowStop h (Some s) = h < s.need

abbrev cut_before : Step → Cut
cut_before s = record { before = []; stop = Some s }

cut-cons : (s : Step) (c c' : Cut) (lo h : ℕ) → lo ≤ h → (b : Bool) → nat_lt lo s.need ≡ b
    → IsBelowStop h (cond b (cut_before s) (longer s c)).stop →
    (IsBelowStop h c.stop → c' ≡ c) → cond (nat_lt h s.need) (cut_before s) (longer s c') ≡ cond b (cut_before s) (longer s c)
cut-cons s c c' lo h le true e below same = rw (lt-ltb h s.need below) refl
cut-cons s c c' lo h le false e below same = rw (le-ltb h s.need (grind (arith, nat_tests)), same below) refl

cut-stays : (lo h : ℕ) (ss : List Step) → lo ≤ h → IsBelowStop h (cut lo ss).stop → cut h ss ≡ cut lo ss
cut-stays lo h [] le below = refl
cut-stays lo h (s ∷ ss) le below = cut-cons s (cut lo ss) (cut h ss) lo h le (nat_lt lo s.need) refl below (cut-stays lo h ss le)

-- ---- places

-- the same place, but for how far the column reaches
record IsSamePlace (p q : Place) : Type 0 where
  level : q.level ≡ p.level
  end : q.end ≡ p.end
  overflow : q.overflow ≡ p.overflow

same_place : (p : Place) → IsSamePlace p p
same_place p = record { level = refl; end = refl; overflow = refl }

fold-snoc : {A B : Type 0} (f : B → A → B) (b : B) (xs : List A) (x : A) → fold f b (xs ++ x ∷ []) ≡ f (fold f b xs) x
fold-snoc f b [] x = refl
fold-snoc f b (y ∷ ys) x = fold-snoc f (f b y) ys x

better-same : (b p q : Place) → IsSamePlace p q
    → IsSamePlace (cond (nat_le p.level b.level) p b) (cond (nat_le q.level b.level) q b)
better-same b p q e = go (nat_le p.level b.level) (nat_le q.level b.level) (ap (λ n. nat_le n b.level) e.level)
  where
    go : (t u : Bool) → u ≡ t → IsSamePlace (cond t p b) (cond u q b)
    go true true k = e
    go true false k = cc
    go false true k = cc
    go false false k = same_place b

choose-same : (ps : List Place) (p q other other' : Place) → IsSamePlace p q
    → IsSamePlace (choose (ps ++ p ∷ []) other) (choose (ps ++ q ∷ []) other')
choose-same [] p q other other' e = e
choose-same (b ∷ bs) p q other other' e =
    rw (
      fold-snoc (λ (b : Place) (x : Place). cond (nat_le x.level b.level) x b) b bs p,
      fold-snoc (λ (b : Place) (x : Place). cond (nat_le x.level b.level) x b) b bs q,
    ) (better-same (best b bs) p q e)

-- ---- the column at a stop

end-same : (t u : Bool) (a b : Token) → u ≡ t → (t ≡ false → b ≡ a) → cond u None (Some b) ≡ cond t None (Some a)
end-same true true a b e h = refl
end-same true false a b e h = cc
end-same false true a b e h = cc
end-same false false a b e h = ap Some (h refl)

column_to-stays : (p q : Place) (stop : Option ℕ) (ls ms : List ColumnLine) (bs cs : List ℕ) (us vs : List (ℕ × Token))
    → q.overflow ≡ p.overflow → (p.overflow ≡ false → q.end ≡ p.end) →
    (p.overflow ≡ false → q.level ≡ p.level) → ms ≡ ls → ColumnStays (column_to p stop ls bs us) (column_to q stop ms cs vs)
column_to-stays p q stop ls ms bs cs us vs o e l m = record {
  lines = rw (end-same p.overflow q.overflow p.end q.end o e, m) refl;
  overflow = o;
  end = e;
  level = l;
}

-- the same place where it doesn't overflow
record IsAlike (p q : Place) : Type 0 where
  overflow : q.overflow ≡ p.overflow
  end : p.overflow ≡ false → q.end ≡ p.end
  level : p.overflow ≡ false → q.level ≡ p.level

alike : (p q : Place) → IsSamePlace p q → IsAlike p q
alike p q e = record { overflow = e.overflow; end = λ _. e.end; level = λ _. e.level }

-- a place that overflows
abbrev overflowing : Place → Place
overflowing p = record { level = p.level; end = p.end; extent = p.extent; overflow = true }

over-alike : (p q : Place) → IsAlike (overflowing p) (overflowing q)
over-alike p q = record { overflow = refl; end = λ h. cc; level = λ h. cc }

choose-alike : (ps : List Place) (o o' : Place) → IsAlike o o' → IsAlike (choose (ps ++ []) o) (choose (ps ++ []) o')
choose-alike [] o o' e = e
choose-alike (b ∷ bs) o o' e = alike _ _ (same_place _)

choose-inside : (ps : List Place) (t u : Bool) (p q o o' : Place) → u ≡ t → (t ≡ false → IsSamePlace p q) → IsAlike o o' →
    IsAlike (choose (ps ++ cond (not t) (p ∷ []) []) o) (choose (ps ++ cond (not u) (q ∷ []) []) o')
choose-inside ps true true p q o o' e h k = choose-alike ps o o' k
choose-inside ps true false p q o o' e h k = cc
choose-inside ps false true p q o o' e h k = cc
choose-inside ps false false p q o o' e h k = alike _ _ (choose-same ps p q o o' (h refl))

-- the column at the stop s, by what the tests of its room say
abbrev stopped_by : Bool → ℕ → List Step → Step → Filled → (cuts high : Bool) → List ℕ → List (ℕ × Token) → Column
stopped_by avoids h before s f cuts high bounds uses =
    column_to
    (choose (seams_between (before ++ s ∷ []) ++ cond (cuts && not f.overflow) (inside_place avoids s (room s h) f ∷ []) [])
    (cond high (overflowing (inside_place avoids s (room s h) f)) (whole_place s)))
    (Some s.item) (cond cuts (map deeper f.lines) []) bounds uses

inside-same : (avoids : Bool) (s : Step) (lo h : ℕ) (f g : Filled) → f.overflow ≡ false → FillStays f g
    → IsSamePlace (inside_place avoids s (room s lo) f) (inside_place avoids s (room s h) g)
inside-same avoids s lo h f g none e = record {
  level = rw (e.level none) refl;
  end = rw (e.at_end none, e.end none) refl;
  overflow = rw (e.at_end none) refl;
}

-- the stop is cut at both heights
cut-stay : (avoids : Bool) (lo h : ℕ) (before : List Step) (s : Step) (f g : Filled) (c c' w w' : Bool) (bs cs : List ℕ)
    (us vs : List (ℕ × Token)) → c ≡ true → c' ≡ true → w ≡ true → w' ≡ true → FillStays f g →
    ColumnStays (stopped_by avoids lo before s f c w bs us) (stopped_by avoids h before s g c' w' cs vs)
cut-stay avoids lo h before s f g true true true true bs cs us vs _ _ _ _ e =
    let k = choose-inside (seams_between (before ++ s ∷ [])) f.overflow g.overflow (inside_place avoids s (room s lo) f)
    (inside_place avoids s (room s h) g) (overflowing (inside_place avoids s (room s lo) f))
    (overflowing (inside_place avoids s (room s h) g))
    e.overflow (λ none. inside-same avoids s lo h f g none e)
    (over-alike (inside_place avoids s (room s lo) f) (inside_place avoids s (room s h) g)) in
    column_to-stays _ _ (Some s.item) (map deeper f.lines) (map deeper g.lines) bs cs us vs k.overflow k.end k.level
    (ap (map deeper) e.lines)
cut-stay avoids lo h before s f g false c' w w' bs cs us vs x y z t e = cc
cut-stay avoids lo h before s f g true false w w' bs cs us vs x y z t e = cc
cut-stay avoids lo h before s f g true true false w' bs cs us vs x y z t e = cc
cut-stay avoids lo h before s f g true true true false bs cs us vs x y z t e = cc

-- it is cut at neither
uncut-stay : (avoids : Bool) (lo h : ℕ) (before : List Step) (s : Step) (f g : Filled) (c c' w w' : Bool) (bs cs : List ℕ)
    (us vs : List (ℕ × Token)) → c ≡ false → c' ≡ false → w' ≡ w →
    ColumnStays (stopped_by avoids lo before s f c w bs us) (stopped_by avoids h before s g c' w' cs vs)
uncut-stay avoids lo h before s f g true c' w w' bs cs us vs x y z = cc
uncut-stay avoids lo h before s f g false true w w' bs cs us vs x y z = cc
uncut-stay avoids lo h before s f g false false w w' bs cs us vs x y z =
    let k = choose-alike (seams_between (before ++ s ∷ []))
    (cond w (overflowing (inside_place avoids s (room s lo) f)) (whole_place s))
    (cond w' (overflowing (inside_place avoids s (room s h) g)) (whole_place s)) (go w w' z) in
    column_to-stays _ _ (Some s.item) [] [] bs cs us vs k.overflow k.end k.level refl
  where
    go : (w w' : Bool) → w' ≡ w → IsAlike (cond w (overflowing (inside_place avoids s (room s lo) f)) (whole_place s))
        (cond w' (overflowing (inside_place avoids s (room s h) g)) (whole_place s))
    go true true z = over-alike (inside_place avoids s (room s lo) f) (inside_place avoids s (room s h) g)
    go true false z = cc
    go false true z = cc
    go false false z = alike _ _ (same_place _)

-- ---- bounds

pub IsBelowEach-append : (h : ℕ) (xs ys : List ℕ) → IsBelowEach h (xs ++ ys) → IsBelowEach h xs × IsBelowEach h ys
IsBelowEach-append h [] ys b = (tt, b)
IsBelowEach-append h (x ∷ xs) ys b = let r = IsBelowEach-append h xs ys b.1 in ((b.0, r.0), r.1)

below-shifted : (h x : ℕ) (bs : List ℕ) → x ≤ h → IsBelowEach h (map (λ b. x + b) bs) → IsBelowEach (h - x) bs
below-shifted h x [] le b = tt
below-shifted h x (y ∷ ys) le b = let k = b.0 in (omega arith, below-shifted h x ys le b.1)

room-is : (s : Step) (h : ℕ) → room s h ≡ h - (s.y + s.bottoms)
room-is s h = omega arith

cuts-at : (s : Step) (h : ℕ) → s.y + s.bottoms ≤ h → room s h < s.height → is_cut s h ≡ true
cuts-at s h a b = grind (arith, nat_tests)

pub cut-from : (s : Step) (h : ℕ) → is_cut s h ≡ true → s.y + s.bottoms ≤ h
cut-from s h e = grind (arith, nat_tests)

pub cut-room : (s : Step) (h : ℕ) → is_cut s h ≡ true → room s h < s.height
cut-room s h e = grind (arith, nat_tests)

pub above-place : (s : Step) (h : ℕ) → (nat_lt 0 s.height && nat_lt h (s.y + s.bottoms)) ≡ true → h < s.y + s.bottoms
above-place s h e = grind (arith, nat_tests)

fits-whole : (s : Step) (h : ℕ) → is_cut s h ≡ false → (nat_lt 0 s.height && nat_lt h (s.y + s.bottoms)) ≡ false
    → s.height ≤ room s h
fits-whole s h e z = grind (arith, nat_tests)

uncut-above : (s : Step) (h : ℕ) → h < s.y + s.bottoms → is_cut s h ≡ false
uncut-above s h low = grind (arith, nat_tests)

uncut-whole : (s : Step) (h : ℕ) → s.height ≤ room s h → is_cut s h ≡ false
uncut-whole s h small = grind (arith, nat_tests)

no-room : (s : Step) (h : ℕ) → h < s.y + s.bottoms → room s h ≡ 0
no-room s h low = omega arith

stop-stays : (inner : Inner) (law : FillsStay inner) (avoids : Bool) (lo h : ℕ) (before : List Step) (s : Step) (r : ℕ)
    (q : Token) → lo ≤ h →
    (t : Bool) → is_cut s lo ≡ t → (z : Bool) → (nat_lt 0 s.height && nat_lt lo (s.y + s.bottoms)) ≡ z →
    IsBelowEach h (cond z ((s.y + s.bottoms) ∷ []) [] ++ cond t
    ((s.y + s.bottoms + s.height) ∷ map (λ b. s.y + s.bottoms + b) (inner.fill r q (room s lo)).bounds) []) →
    ColumnStays (stopped avoids lo before s (Some (inner.fill r q (room s lo))))
    (stopped avoids h before s (Some (inner.fill r q (room s h))))
stop-stays inner law avoids lo h before s r q le true e z ez b =
    let k = (IsBelowEach-append h (cond z ((s.y + s.bottoms) ∷ []) []) _ b).1 in
    let top : h < s.y + s.bottoms + s.height = k.0 in
    let from : s.y + s.bottoms ≤ lo = cut-from s lo e in
    let left : room s lo < s.height = cut-room s lo e in
    let now : is_cut s h ≡ true = cuts-at s h (omega arith) (omega arith) in
    let inner_below : IsBelowEach (room s h) (inner.fill r q (room s lo)).bounds =
    rw (room-is s h) (below-shifted h (s.y + s.bottoms) (inner.fill r q (room s lo)).bounds (omega arith) k.1) in
    cut-stay avoids lo h before s (inner.fill r q (room s lo)) (inner.fill r q (room s h)) (is_cut s lo) (is_cut s h)
    (nat_lt (room s lo) s.height) (nat_lt (room s h) s.height)
    _ _ _ _ e now (lt-ltb _ _ left) (lt-ltb _ _ (omega arith))
    (law r q (room s lo) (room s h) (omega arith) inner_below)
stop-stays inner law avoids lo h before s r q le false e true ez b =
    let low : lo < s.y + s.bottoms = above-place s lo ez in
    let top : h < s.y + s.bottoms = b.0 in
    uncut-stay avoids lo h before s (inner.fill r q (room s lo)) (inner.fill r q (room s h)) (is_cut s lo) (is_cut s h)
    (nat_lt (room s lo) s.height) (nat_lt (room s h) s.height)
    _ _ _ _ e (uncut-above s h top) (ap (λ n. nat_lt n s.height) (no-room s h top ∙ sym (no-room s lo low)))
stop-stays inner law avoids lo h before s r q le false e false ez b =
    let small : s.height ≤ room s lo = fits-whole s lo e ez in
    let wider : room s lo ≤ room s h = omega arith in
    uncut-stay avoids lo h before s (inner.fill r q (room s lo)) (inner.fill r q (room s h)) (is_cut s lo) (is_cut s h)
    (nat_lt (room s lo) s.height) (nat_lt (room s h) s.height)
    _ _ _ _ e (uncut-whole s h (omega arith)) (le-ltb _ _ (omega arith) ∙ sym (le-ltb _ _ small))

row-stays : (inner : Inner) (law : FillsStay inner) (avoids : Bool) (lo h : ℕ) (before : List Step) (s : Step) → lo ≤ h
    → (row : Option (ℕ × Token)) →
    IsBelowEach h (bounds_at s lo (fill_in_room inner row (room s lo)))
    → ColumnStays (stopped avoids lo before s (fill_in_room inner row (room s lo)))
    (stopped avoids h before s (fill_in_room inner row (room s h)))
row-stays inner law avoids lo h before s le None b = record { lines = refl; overflow = refl; end = λ _. refl; level = λ _. refl }
row-stays inner law avoids lo h before s le (Some p) b = stop-stays inner law avoids lo h before s p.0 p.1 le (is_cut s lo) refl
    (nat_lt 0 s.height && nat_lt lo (s.y + s.bottoms)) refl b.1

below-need : (s : Step) (lo h : ℕ) (filled : Option Filled) → IsBelowEach h (bounds_at s lo filled) → h < s.need
below-need s lo h None b = b.0
below-need s lo h (Some f) b = b.0

up_to-stays : (inner : Inner) (law : FillsStay inner) (avoids : ℕ → Bool) (lo h : ℕ) → lo ≤ h
    → (before : List Step) (stop : Option Step) →
    IsBelowEach h (column_up_to inner avoids lo before stop).bounds
    → IsBelowStop h stop × ColumnStays (column_up_to inner avoids lo before stop) (column_up_to inner avoids h before stop)
up_to-stays inner law avoids lo h le before None b =
    (tt, record { lines = refl; overflow = refl; end = λ _. refl; level = λ _. refl })
up_to-stays inner law avoids lo h le before (Some s) b =
    (below-need s lo h (fill_in_room inner s.row (room s lo)) b, row-stays inner law (avoids s.item) lo h before s le s.row b)

-- a column stays from lo up to its least bound, where the fills within do
pub over-stays : (inner : Inner) (law : FillsStay inner) (avoids : ℕ → Bool) (lo h : ℕ) (ss : List Step) → lo ≤ h
    → IsBelowEach h (column_over inner avoids lo ss).bounds →
    ColumnStays (column_over inner avoids lo ss) (column_over inner avoids h ss)
over-stays inner law avoids lo h ss le b =
    let k = up_to-stays inner law avoids lo h le (cut lo ss).before (cut lo ss).stop b in
    rw (cut-stays lo h ss le k.0) k.1
