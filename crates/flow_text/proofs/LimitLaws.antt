-- The limits on lines are those on rows.
use Rattle.std.proofs.Common.{◌≡◌, ℕ, suc, ◌+◌, ◌-◌, ◌<◌, ◌≤◌, List, [], ◌∷◌, ◌++◌, length, ltb, cond, ◌||◌, Bool, true, false}
use Rattle.std.proofs.Common.{Option, Some, None, refl, sym, ap, ◌∙◌, arith, inl, inr}
use Rattle.std.specs.Prelude.{◌⊎◌, max}
use Rattle.std.proofs.Math.Dec.{eqb-suc-zero}
use Rattle.std.proofs.lemmas.Bool.{lt-ltb, le-ltb, cases_lt}
use Rattle.flow_text.specs.declared.line.Line.{Line}
use Rattle.flow_text.specs.declared.line.Form.{Form}
use Rattle.flow_text.specs.declared.line.Form.TheVariants as forms
use Rattle.flow_text.specs.declared.limit.Counts.{Counts}
use Rattle.flow_text.specs.Grammar.{Rest, no_more, edge, place, atom, row, line, lines_of, boxes_behind, IsRest, FlowFile}
use Rattle.flow_text.specs.Grammar.{content_lines, IsContent, IsFlowFile}
use Rattle.flow_text.specs.Limits.{first_above, or_else, first_numbers, numbers, columns, first_long, first_wide, is_item, items}
use Rattle.flow_text.specs.Limits.{open_behind, is_deep, one_more, no_counts, counted, crowded, has_crowded_row}
use Rattle.flow_text.specs.TreeLimits.{depth, own_items, all_items, most_inner, of_content, file_depth, file_items}
use Rattle.flow_text.specs.TreeLimits.{file_most_inner, rest_numbers, rest_columns, in_content, file_numbers, file_columns}

-- an edge opens and ends no row, and is no item
record IsPlain (f : Form) : Type 0 where
  narrow : columns f ≡ []
  stays : (n : ℕ) → open_behind n f ≡ n
  no_item : is_item f ≡ false
  counts : (c : Counts) → counted c f ≡ c

plain : (f : Form) (t : Bool) (boxes next : List ℕ) → boxes_behind f t boxes ≡ Some next → IsPlain f
plain (forms.Margin u) t boxes next h = record { narrow = refl; stays = λ n. refl; no_item = refl; counts = λ c. refl }
plain (forms.Solid u) t boxes next h = record { narrow = refl; stays = λ n. refl; no_item = refl; counts = λ c. refl }
plain forms.Wall t boxes next h = record { narrow = refl; stays = λ n. refl; no_item = refl; counts = λ c. refl }
plain (forms.Start number x w avoid top bottom) t boxes next h =
    record { narrow = refl; stays = λ n. refl; no_item = refl; counts = λ c. refl }
plain (forms.End number) t boxes next h = record { narrow = refl; stays = λ n. refl; no_item = refl; counts = λ c. refl }
plain _ t boxes next h = absurd cc

-- items
items_are : (r : Rest) (t : Bool) (boxes : List ℕ) (after : List Line) → IsRest t boxes r
    → items (lines_of r after) ≡ all_items r + items after
items_are no_more t boxes after h = omega arith
items_are (edge l r) t boxes after h = let p = plain l.form t boxes h.0 h.1 in rw p.no_item (items_are r t h.0 after h.2)
items_are (place a level r) t boxes after h = items_are r false boxes after h.1
items_are (atom a u r) t boxes after h = omega (arith, items_are r true boxes after h.1)
items_are (row a n w st x content ended r) t boxes after h =
    let inside = items_are content false [] (line ended forms.Close ∷ lines_of r after) h.1 in
    let behind = items_are r true boxes after h.2 in
    let here : items (lines_of (row a n w st x content ended r) after)
    ≡ suc (items (lines_of content (line ended forms.Close ∷ lines_of r after))) = refl in
    let close : items (line ended forms.Close ∷ lines_of r after) ≡ items (lines_of r after) = refl in
    here ∙ omega arith

-- rows one inside another
or_or : (a b c : Bool) → (a || (b || c)) ≡ ((a || b) || c)
or_or true b c = refl
or_or false b c = refl

deeper : (n a b : ℕ) → n + 1 ≤ 3 → (ltb 3 (n + 1 + a) || ltb 3 (n + b)) ≡ ltb 3 (n + max (suc a) b)
deeper n a b h = by_left (cases_lt 3 (n + 1 + a))
  where
    by_right : n + 1 + a ≤ 3 → ((3 < n + b) ⊎ (n + b ≤ 3)) → (ltb 3 (n + 1 + a) || ltb 3 (n + b)) ≡ ltb 3 (n + max (suc a) b)
    by_right le (inl lt) =
        let more : 3 < n + max (suc a) b = omega arith in
        rw (le-ltb 3 (n + 1 + a) le, lt-ltb 3 (n + b) lt, lt-ltb 3 (n + max (suc a) b) more) refl
    by_right le (inr few) =
        let fewer : n + max (suc a) b ≤ 3 = omega arith in
        rw (le-ltb 3 (n + 1 + a) le, le-ltb 3 (n + b) few, le-ltb 3 (n + max (suc a) b) fewer) refl

    by_left : ((3 < n + 1 + a) ⊎ (n + 1 + a ≤ 3)) → (ltb 3 (n + 1 + a) || ltb 3 (n + b)) ≡ ltb 3 (n + max (suc a) b)
    by_left (inl lt) =
        let more : 3 < n + max (suc a) b = omega arith in
        rw (lt-ltb 3 (n + 1 + a) lt, lt-ltb 3 (n + max (suc a) b) more) refl
    by_left (inr le) = by_right le (cases_lt 3 (n + b))

deep_are : (r : Rest) (t : Bool) (boxes : List ℕ) (n : ℕ) (after : List Line) → IsRest t boxes r → n ≤ 3
    → is_deep n (lines_of r after) ≡ (ltb 3 (n + depth r) || is_deep n after)
deep_are no_more t boxes n after h le = let few : n + 0 ≤ 3 = omega arith in rw (le-ltb 3 (n + 0) few) refl
deep_are (edge l r) t boxes n after h le =
    let p = plain l.form t boxes h.0 h.1 in
    rw (p.stays n, le-ltb 3 n le) (deep_are r t h.0 n after h.2 le)
deep_are (place a level r) t boxes n after h le = rw (le-ltb 3 n le) (deep_are r false boxes n after h.1 le)
deep_are (atom a u r) t boxes n after h le = rw (le-ltb 3 n le) (deep_are r true boxes n after h.1 le)
deep_are (row a c w st x content ended r) t boxes n after h le =
    by_depth (cases_lt 3 (n + 1)) (λ few. deep_are content false [] (n + 1) (line ended forms.Close ∷ lines_of r after) h.1 few)
    (deep_are r true boxes n after h.2 le)
  where
    by_depth : ((3 < n + 1) ⊎ (n + 1 ≤ 3))
        → (n + 1 ≤ 3 → is_deep (n + 1) (lines_of content (line ended forms.Close ∷ lines_of r after))
        ≡ (ltb 3 (n + 1 + depth content) || is_deep (n + 1) (line ended forms.Close ∷ lines_of r after)))
        → is_deep n (lines_of r after) ≡ (ltb 3 (n + depth r) || is_deep n after)
        → (ltb 3 (n + 1) || is_deep (n + 1) (lines_of content (line ended forms.Close ∷ lines_of r after)))
        ≡ (ltb 3 (n + max (suc (depth content)) (depth r)) || is_deep n after)
    by_depth (inl lt) inside behind =
        let more : 3 < n + max (suc (depth content)) (depth r) = omega arith in
        rw (lt-ltb 3 (n + 1) lt, lt-ltb 3 (n + max (suc (depth content)) (depth r)) more) refl
    by_depth (inr few) inside behind =
        let back : n + 1 - 1 ≡ n = omega arith in
        rw (le-ltb 3 (n + 1) few, inside few, back, le-ltb 3 n le, behind, sym (deeper n (depth content) (depth r) few))
        (or_or (ltb 3 (n + 1 + depth content)) (ltb 3 (n + depth r)) (is_deep n after))

-- items of inner rows
or_max : (a b : ℕ) → (ltb 2000 a || ltb 2000 b) ≡ ltb 2000 (max a b)
or_max a b = by_left (cases_lt 2000 a)
  where
    by_right : a ≤ 2000 → ((2000 < b) ⊎ (b ≤ 2000)) → (ltb 2000 a || ltb 2000 b) ≡ ltb 2000 (max a b)
    by_right le (inl lt) =
        let more : 2000 < max a b = omega arith in
        rw (le-ltb 2000 a le, lt-ltb 2000 b lt, lt-ltb 2000 (max a b) more) refl
    by_right le (inr few) =
        let fewer : max a b ≤ 2000 = omega arith in
        rw (le-ltb 2000 a le, le-ltb 2000 b few, le-ltb 2000 (max a b) fewer) refl

    by_left : ((2000 < a) ⊎ (a ≤ 2000)) → (ltb 2000 a || ltb 2000 b) ≡ ltb 2000 (max a b)
    by_left (inl lt) =
        let more : 2000 < max a b = omega arith in
        rw (lt-ltb 2000 a lt, lt-ltb 2000 (max a b) more) refl
    by_left (inr le) = by_right le (cases_lt 2000 b)

or_true : (b : Bool) → (b || true) ≡ true
or_true true = refl
or_true false = refl

shuffle : (x d e f : Bool) → (x || ((d || e) || f)) ≡ ((d || (x || e)) || f)
shuffle true true e f = refl
shuffle true false e f = refl
shuffle false true e f = refl
shuffle false false e f = refl

abbrev counts : ℕ → List ℕ → Counts
counts i outer = record { inner = i; outer = outer }

not_crowded : (i o : ℕ) (os : List ℕ) → i ≤ 2000 → crowded (counts i (o ∷ os)) ≡ false
not_crowded i o os le = rw (eqb-suc-zero (length os), le-ltb 2000 i le) refl

now_crowded : (i o : ℕ) (os : List ℕ) → 2000 < i → crowded (counts i (o ∷ os)) ≡ true
now_crowded i o os lt = rw (eqb-suc-zero (length os), lt-ltb 2000 i lt) refl

one_more_is : (n : ℕ) → n ≤ 2000 → one_more n ≡ n + 1
one_more_is n h = rw (le-ltb 2000 n h) refl

-- after one item more of an inner row
one_item : (i o : ℕ) (os : List ℕ) (r : Rest) (after : List Line) (m : Bool)
    → (i + 1 ≤ 2000 → has_crowded_row (counts (i + 1) (o ∷ os)) (lines_of r after)
    ≡ ((ltb 2000 (i + 1 + own_items r) || m) || has_crowded_row (counts (i + 1 + own_items r) (o ∷ os)) after))
    → (crowded (counts (i + 1) (o ∷ os)) || has_crowded_row (counts (i + 1) (o ∷ os)) (lines_of r after))
    ≡ ((ltb 2000 (i + suc (own_items r)) || m) || has_crowded_row (counts (i + suc (own_items r)) (o ∷ os)) after)
one_item i o os r after m h = by_count (cases_lt 2000 (i + 1))
  where
    by_count : ((2000 < i + 1) ⊎ (i + 1 ≤ 2000))
        → (crowded (counts (i + 1) (o ∷ os)) || has_crowded_row (counts (i + 1) (o ∷ os)) (lines_of r after))
        ≡ ((ltb 2000 (i + suc (own_items r)) || m) || has_crowded_row (counts (i + suc (own_items r)) (o ∷ os)) after)
    by_count (inl lt) =
        let more : 2000 < i + suc (own_items r) = omega arith in
        rw (now_crowded (i + 1) o os lt, lt-ltb 2000 (i + suc (own_items r)) more) refl
    by_count (inr few) =
        let e : i + 1 + own_items r ≡ i + suc (own_items r) = omega arith in
        rw (not_crowded (i + 1) o os few)
        (h few ∙ ap (λ (n : ℕ). (ltb 2000 n || m) || has_crowded_row (counts n (o ∷ os)) after) e)

crowd_are : (r : Rest) (t : Bool) (boxes : List ℕ) (i o : ℕ) (os : List ℕ) (after : List Line) → IsRest t boxes r → i ≤ 2000
    → has_crowded_row (record { inner = i; outer = o ∷ os }) (lines_of r after)
    ≡ ((ltb 2000 (i + own_items r) || ltb 2000 (most_inner r))
    || has_crowded_row (record { inner = i + own_items r; outer = o ∷ os }) after)
crowd_are no_more t boxes i o os after h le =
    let e : i + 0 ≡ i = omega arith in
    rw (e, le-ltb 2000 i le) refl
crowd_are (edge l r) t boxes i o os after h le =
    let p = plain l.form t boxes h.0 h.1 in
    rw (p.counts (counts i (o ∷ os)), not_crowded i o os le) (crowd_are r t h.0 i o os after h.2 le)
crowd_are (place a level r) t boxes i o os after h le = rw (not_crowded i o os le) (crowd_are r false boxes i o os after h.1 le)
crowd_are (atom a u r) t boxes i o os after h le =
    rw (one_more_is i le) (one_item i o os r after (ltb 2000 (most_inner r))
    (λ few. crowd_are r true boxes (i + 1) o os after h.1 few))
crowd_are (row a n w st x content ended r) t boxes i o os after h le =
    let none : crowded (counts 0 (one_more i ∷ o ∷ os)) ≡ false = not_crowded 0 (one_more i) (o ∷ os) (omega arith) in
    let inside = crowd_are content false [] 0 (one_more i) (o ∷ os) (line ended forms.Close ∷ lines_of r after) h.1
    (omega arith) in
    let e : 0 + own_items content ≡ own_items content = omega arith in
    let rest = one_item i o os r after (ltb 2000 (most_inner r)) (λ few. crowd_are r true boxes (i + 1) o os after h.2 few) in
    rw (none, inside, e, one_more_is i le)
    (ap (λ (b : Bool). (ltb 2000 (own_items content) || ltb 2000 (most_inner content)) || b) rest
    ∙ shuffle (ltb 2000 (own_items content) || ltb 2000 (most_inner content)) (ltb 2000 (i + suc (own_items r)))
    (ltb 2000 (most_inner r)) (has_crowded_row (counts (i + suc (own_items r)) (o ∷ os)) after)
    ∙ ap (λ (b : Bool). (ltb 2000 (i + suc (own_items r)) || (b || ltb 2000 (most_inner r)))
    || has_crowded_row (counts (i + suc (own_items r)) (o ∷ os)) after) (or_max (own_items content) (most_inner content))
    ∙ ap (λ (b : Bool). (ltb 2000 (i + suc (own_items r)) || b) || has_crowded_row (counts (i + suc (own_items r)) (o ∷ os))
    after) (or_max (max (own_items content) (most_inner content)) (most_inner r)))

first_crowd : (r : Rest) (t : Bool) (boxes : List ℕ) (i : ℕ) (after : List Line) → IsRest t boxes r
    → (j : ℕ) × (has_crowded_row (record { inner = i; outer = [] }) (lines_of r after)
    ≡ (ltb 2000 (most_inner r) || has_crowded_row (record { inner = j; outer = [] }) after))
first_crowd no_more t boxes i after h = (i, refl)
first_crowd (edge l r) t boxes i after h =
    let p = plain l.form t boxes h.0 h.1 in
    let m = first_crowd r t h.0 i after h.2 in
    (m.0, rw (p.counts (counts i [])) m.1)
first_crowd (place a level r) t boxes i after h = first_crowd r false boxes i after h.1
first_crowd (atom a u r) t boxes i after h = first_crowd r true boxes (one_more i) after h.1
first_crowd (row a n w st x content ended r) t boxes i after h =
    let inside = crowd_are content false [] 0 (one_more i) [] (line ended forms.Close ∷ lines_of r after) h.1 (omega arith) in
    let e : 0 + own_items content ≡ own_items content = omega arith in
    let m = first_crowd r true boxes (one_more i) after h.2 in (
      m.0,
      rw (inside, e)
          (ap (λ (b : Bool). (ltb 2000 (own_items content) || ltb 2000 (most_inner content)) || b) m.1
          ∙ or_or (ltb 2000 (own_items content) || ltb 2000 (most_inner content)) (ltb 2000 (most_inner r))
          (has_crowded_row (counts m.0 []) after)
          ∙ ap (λ (b : Bool). (b || ltb 2000 (most_inner r)) || has_crowded_row (counts m.0 []) after)
          (or_max (own_items content) (most_inner content))
          ∙ ap (λ (b : Bool). b || has_crowded_row (counts m.0 []) after)
          (or_max (max (own_items content) (most_inner content)) (most_inner r))),
    )

-- of a file
content_deep : (content : Option Rest) (ended : ℕ) → IsContent content
    → is_deep 1 (content_lines content (line ended forms.Close ∷ [])) ≡ ltb 3 (suc (of_content depth content))
content_deep None ended h = refl
content_deep (Some r) ended h =
    let e : suc (depth r) ≡ 1 + depth r = omega arith in
    deep_are r false [] 1 (line ended forms.Close ∷ []) h (omega arith) ∙ rw e (or_false (ltb 3 (1 + depth r)))
  where
    or_false : (b : Bool) → (b || false) ≡ b
    or_false true = refl
    or_false false = refl

pub file_deep : (lines : List Line) (f : FlowFile) → IsFlowFile lines f → is_deep 0 lines ≡ ltb 3 (file_depth f)
file_deep lines f h = rw h.whole (content_deep f.content f.ended h.content)

content_items : (content : Option Rest) (ended : ℕ) → IsContent content
    → items (content_lines content (line ended forms.Close ∷ [])) ≡ of_content all_items content
content_items None ended h = refl
content_items (Some r) ended h = omega (arith, items_are r false [] (line ended forms.Close ∷ []) h)

pub file_items_are : (lines : List Line) (f : FlowFile) → IsFlowFile lines f → items lines ≡ file_items f
file_items_are lines f h = rw h.whole (content_items f.content f.ended h.content)

content_crowded : (content : Option Rest) (ended : ℕ) → IsContent content
    → has_crowded_row no_counts (content_lines content (line ended forms.Close ∷ [])) ≡ ltb 2000 (of_content most_inner content)
content_crowded None ended h = refl
content_crowded (Some r) ended h = let m = first_crowd r false [] 0 (line ended forms.Close ∷ []) h in m.1
    ∙ or_false (ltb 2000 (most_inner r))
  where
    or_false : (b : Bool) → (b || false) ≡ b
    or_false true = refl
    or_false false = refl

pub file_crowded : (lines : List Line) (f : FlowFile) → IsFlowFile lines f
    → has_crowded_row no_counts lines ≡ ltb 2000 (file_most_inner f)
file_crowded lines f h = rw h.whole (content_crowded f.content f.ended h.content)

-- ---- the greatest numbers

or_else_twice : (a b c : Option ℕ) → or_else (or_else a b) c ≡ or_else a (or_else b c)
or_else_twice None b c = refl
or_else_twice (Some x) b c = refl

or_else_none : (a : Option ℕ) → or_else a None ≡ a
or_else_none None = refl
or_else_none (Some x) = refl

above_both : (limit : ℕ) (a b : List ℕ) → first_above limit (a ++ b) ≡ or_else (first_above limit a) (first_above limit b)
above_both limit [] b = refl
above_both limit (n ∷ a) b = by_number (ltb limit n) (above_both limit a b)
  where
    by_number : (t : Bool) → first_above limit (a ++ b) ≡ or_else (first_above limit a) (first_above limit b)
        → cond t (Some n) (first_above limit (a ++ b)) ≡ or_else (cond t (Some n) (first_above limit a)) (first_above limit b)
    by_number true h = refl
    by_number false h = h

-- what stands in front, then what is left
in_front : (limit : ℕ) (front rest : List ℕ) (after behind : Option ℕ) → behind ≡ or_else (first_above limit rest) after
    → or_else (first_above limit front) behind ≡ or_else (first_above limit (front ++ rest)) after
in_front limit front rest after behind h =
    rw (h, above_both limit front rest) (sym (or_else_twice (first_above limit front) (first_above limit rest) after))

long_are : (r : Rest) (after : List Line)
    → first_long (lines_of r after) ≡ or_else (first_above 16777216 (rest_numbers r)) (first_long after)
long_are no_more after = refl
long_are (edge l r) after = in_front 16777216 (numbers l.form) (rest_numbers r) (first_long after) _ (long_are r after)
long_are (place a level r) after = long_are r after
long_are (atom a u r) after = in_front 16777216 (u ∷ []) (rest_numbers r) (first_long after) _ (long_are r after)
long_are (row a n w st x content ended r) after =
    let inside = long_are content (line ended forms.Close ∷ lines_of r after)
    ∙ in_front 16777216 (rest_numbers content) (rest_numbers r) (first_long after) _ (long_are r after) in
    in_front 16777216 (n ∷ w ∷ st ∷ x ∷ []) (rest_numbers content ++ rest_numbers r) (first_long after) _ inside

wide_are : (r : Rest) (t : Bool) (boxes : List ℕ) (after : List Line) → IsRest t boxes r
    → first_wide (lines_of r after) ≡ or_else (first_above 32 (rest_columns r)) (first_wide after)
wide_are no_more t boxes after h = refl
wide_are (edge l r) t boxes after h =
    let p = plain l.form t boxes h.0 h.1 in
    ap (λ (ns : List ℕ). or_else (first_above 32 ns) (first_wide (lines_of r after))) p.narrow ∙ wide_are r t h.0 after h.2
wide_are (place a level r) t boxes after h = wide_are r false boxes after h.1
wide_are (atom a u r) t boxes after h = wide_are r true boxes after h.1
wide_are (row a n w st x content ended r) t boxes after h =
    let inside = wide_are content false [] (line ended forms.Close ∷ lines_of r after) h.1
    ∙ in_front 32 (rest_columns content) (rest_columns r) (first_wide after) _ (wide_are r true boxes after h.2) in
    in_front 32 (n ∷ []) (rest_columns content ++ rest_columns r) (first_wide after) _ inside

content_long : (content : Option Rest) (ended : ℕ)
    → first_long (content_lines content (line ended forms.Close ∷ [])) ≡ first_above 16777216 (in_content rest_numbers content)
content_long None ended = refl
content_long (Some r) ended = long_are r (line ended forms.Close ∷ []) ∙ or_else_none (first_above 16777216 (rest_numbers r))

pub file_long : (lines : List Line) (f : FlowFile) → IsFlowFile lines f → first_long lines ≡ first_above 16777216 (file_numbers f)
file_long lines f h =
    rw (h.whole, content_long f.content f.ended)
    (sym (above_both 16777216 (first_numbers f.n f.w f.step f.available) (in_content rest_numbers f.content)))

content_wide : (content : Option Rest) (ended : ℕ) → IsContent content
    → first_wide (content_lines content (line ended forms.Close ∷ [])) ≡ first_above 32 (in_content rest_columns content)
content_wide None ended h = refl
content_wide (Some r) ended h = wide_are r false [] (line ended forms.Close ∷ []) h
    ∙ or_else_none (first_above 32 (rest_columns r))

pub file_wide : (lines : List Line) (f : FlowFile) → IsFlowFile lines f → first_wide lines ≡ first_above 32 (file_columns f)
file_wide lines f h =
    rw (h.whole, content_wide f.content f.ended h.content) (sym (above_both 32 (f.n ∷ []) (in_content rest_columns f.content)))
