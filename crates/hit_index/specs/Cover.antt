-- Which rectangles cover the leaves among some lines: one for each column or stack that holds some of them (this project's own).
use Rattle.std.specs.Prelude.{ℕ, zero, suc, ◌+◌, ◌-◌, ◌==◌, max, min, Bool, cond, ◌&&◌, List, [], ◌∷◌, ◌++◌, Option, Some, None}
use Rattle.std.specs.Prelude.{get_or, flat_map, nat_le, option_to_list}
use Rattle.std.specs.List.{list_any}
use Rattle.mc_base.specs.declared.units.Rect.{Rect}
use Rattle.hit_index.specs.declared.mark.Mark.{Mark}
use Rattle.hit_index.specs.declared.cover.Held.{Held}
use Rattle.hit_index.specs.Scan.{no_mark, depth_of, nearest}

-- the innermost column or stack on the path to line n, which has this depth; where there is none, the path's first line
abbrev pub holder_up : List Mark → (depth n : ℕ) → ℕ
holder_up marks zero n = n
holder_up marks (suc depth) n = cond (get_or marks n no_mark).holder n (holder_up marks depth (nearest marks n depth))

abbrev pub holder_of : List Mark → ℕ → ℕ
holder_of marks n = holder_up marks (depth_of marks n) n

-- whether a line is a leaf with a number from p through q
abbrev pub is_between : (p q n : ℕ) → Mark → Bool
is_between p q n m = (m.leaf && nat_le p n) && nat_le n q

-- the leaves from p through q among these of the lines, with what they stand in; the first of them has number n
abbrev pub held_from : List Mark → (p q n : ℕ) → List Mark → List Held
held_from marks p q n [] = []
held_from marks p q n (m ∷ ms) = cond (is_between p q n m)
    (record { holder = holder_of marks n; rect = m.rect } ∷ held_from marks p q (n + 1) ms) (held_from marks p q (n + 1) ms)

abbrev pub held_between : List Mark → (p q : ℕ) → List Held
held_between marks p q = held_from marks p q 0 marks

-- with one number more, if it isn't there
abbrev pub with_holder : List ℕ → ℕ → List ℕ
with_holder numbers n = cond (list_any (λ m. m == n) numbers) numbers (numbers ++ n ∷ [])

-- these numbers, and what these leaves stand in, each once, in the order of its first leaf
abbrev pub holders_after : List ℕ → List Held → List ℕ
holders_after numbers [] = numbers
holders_after numbers (l ∷ ls) = holders_after (with_holder numbers l.holder) ls

-- the least rectangle that holds two
abbrev pub join : Rect → Rect → Rect
join r s = record {
  x = min r.x s.x;
  y = min r.y s.y;
  w = max (r.x + r.w) (s.x + s.w) - min r.x s.x;
  h = max (r.y + r.h) (s.y + s.h) - min r.y s.y;
}

abbrev pub join_some : Rect → Option Rect → Rect
join_some r None = r
join_some r (Some s) = join r s

-- the least rectangle that holds all of these leaves that stand in this
abbrev pub least_in : (holder : ℕ) → List Held → Option Rect
least_in holder [] = None
least_in holder (l ∷ ls) = cond (l.holder == holder) (Some (join_some l.rect (least_in holder ls))) (least_in holder ls)

abbrev pub covered : List Held → List ℕ → List Rect
covered held holders = flat_map (λ h. option_to_list (least_in h held)) holders

-- for each column or stack that holds leaves from p through q, in the order of the first such leaf, the least rectangle that
-- holds all of those leaves
abbrev pub cover : List Mark → (p q : ℕ) → List Rect
cover marks p q = covered (held_between marks p q) (holders_after [] (held_between marks p q))
