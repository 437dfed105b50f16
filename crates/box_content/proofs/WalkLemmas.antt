-- Walking over the boxes of a tree adds the marks of their content.
use Rattle.std.proofs.Common.{◌≡◌, ℕ, suc, ◌+◌, ◌<◌, Bool, true, false, List, [], ◌∷◌, ◌++◌, Option, Some, None, refl, sym, ap}
use Rattle.std.proofs.Common.{subst, ◌∙◌, length, drop, append_assoc, arith}
use Rattle.std.specs.Prelude.{fold, slice_get, if◌then◌else◌}
use Rattle.std.proofs.lemmas.List.{append-nil, take_at, drop_at}
use Rattle.std.proofs.lemmas.List.Sums.{fold-append}
use Rattle.std.proofs.lemmas.Bool.{lt-ltb, le-ltb, ltb-true}
use Rattle.box_data.specs.declared.mark.Mark.{Mark}
use Rattle.box_data.specs.declared.placed.Placed.{Placed}
use Rattle.box_data.specs.BoxTree.{Boxes, none, box, box_count, in_order}
use Rattle.box_data.specs.Content.{content_of, marks}
use Rattle.box_data.specs.Bounds.{AreParented, IsNumbered, AreNumbered}
use Rattle.box_content.specs.declared.closing.Open.{Open}
use Rattle.box_content.specs.Walking.{Walk, inside_of, start_of, end_of, end_in, line_marks, closed, is_past, without, with_box}
use Rattle.box_content.specs.Walking.{walked, all_marks}
use Rattle.box_content.proofs.Standing.{StandIn, all_stand}
use Rattle.box_content.proofs.Numbered.{content_numbered}
use Rattle.box_content.proofs.BoxLemmas.{inside_is, box_marks}

abbrev settled : List Placed → (parent : Option ℕ) → Walk → Walk
settled places parent w = without places parent w.so_far w.still_open

abbrev with_more : Walk → List Mark → Walk
with_more w ms = record { so_far = w.so_far ++ ms; still_open = w.still_open }

abbrev walk_at : List Mark → List Open → Walk
walk_at ms os = record { so_far = ms; still_open = os }

-- the box of this number stands before those numbered from n
abbrev IsBefore : Option ℕ → ℕ → Type 0
IsBefore None n = Unit {0}
IsBefore (Some m) n = m < n

before_later : (parent : Option ℕ) (n k : ℕ) → IsBefore parent n → n < k → IsBefore parent k
before_later None n k h l = tt
before_later (Some m) n k h l = omega arith

past_at : (parent : Option ℕ) (n : ℕ) → IsBefore parent n → is_past parent n ≡ true
past_at None n h = refl
past_at (Some m) n h = lt-ltb m n h

past_both : (parent : Option ℕ) (n k : ℕ) → IsBefore parent n → is_past (Some n) k ≡ true → is_past parent k ≡ true
past_both parent n k h e = past_at parent k (before_later parent n k h (ltb-true n k e))

-- ---- closing

without_past : (places : List Placed) (parent : Option ℕ) (ms : List Mark) (o : Open) (os : List Open)
    → is_past parent o.number ≡ true
    → without places parent ms (o ∷ os) ≡ without places parent (closed places o ms) os
without_past places parent ms o os e =
    ap (λ (b : Bool). if b then without places parent (closed places o ms) os else walk_at ms (o ∷ os)) e

without_kept : (places : List Placed) (parent : Option ℕ) (ms : List Mark) (o : Open) (os : List Open)
    → is_past parent o.number ≡ false
    → without places parent ms (o ∷ os) ≡ walk_at ms (o ∷ os)
without_kept places parent ms o os e =
    ap (λ (b : Bool). if b then without places parent (closed places o ms) os else walk_at ms (o ∷ os)) e

twice_by_test : (places : List Placed) (parent : Option ℕ) (n : ℕ) (ms : List Mark) (o : Open) (os : List Open)
    → IsBefore parent n
    → (b : Bool) → is_past (Some n) o.number ≡ b
    → without places parent (closed places o ms) os ≡ settled places parent (without places (Some n) (closed places o ms) os)
    → without places parent ms (o ∷ os) ≡ settled places parent (without places (Some n) ms (o ∷ os))
twice_by_test places parent n ms o os h true e rest =
    without_past places parent ms o os (past_both parent n o.number h e) ∙ rest
    ∙ ap (settled places parent) (sym (without_past places (Some n) ms o os e))
twice_by_test places parent n ms o os h false e rest = ap (settled places parent) (sym (without_kept places (Some n) ms o os e))

-- closing up to a box inside, and then up to one around it
settled_twice : (places : List Placed) (parent : Option ℕ) (n : ℕ) (ms : List Mark) (os : List Open) → IsBefore parent n
    → without places parent ms os ≡ settled places parent (without places (Some n) ms os)
settled_twice places parent n ms [] h = refl
settled_twice places parent n ms (o ∷ os) h =
    twice_by_test places parent n ms o os h (is_past (Some n) o.number) refl
    (settled_twice places parent n (closed places o ms) os h)

abbrev Stays : List Placed → (parent : Option ℕ) → (more : List Mark) → Walk → Type 0
Stays places parent more w = without places parent more w.still_open ≡ walk_at more w.still_open

stays_by_test : (places : List Placed) (parent : Option ℕ) (ms more : List Mark) (o : Open) (os : List Open) (b : Bool)
    → is_past parent o.number ≡ b
    → Stays places parent more (without places parent (closed places o ms) os)
    → Stays places parent more (without places parent ms (o ∷ os))
stays_by_test places parent ms more o os true e rest = subst (Stays places parent more)
    (sym (without_past places parent ms o os e)) rest
stays_by_test places parent ms more o os false e rest =
    subst (Stays places parent more) (sym (without_kept places parent ms o os e)) (without_kept places parent more o os e)

-- the boxes that are left open stay so, whatever marks follow
stay_open : (places : List Placed) (parent : Option ℕ) (ms more : List Mark) (os : List Open)
    → Stays places parent more (without places parent ms os)
stay_open places parent ms more [] = refl
stay_open places parent ms more (o ∷ os) =
    stays_by_test places parent ms more o os (is_past parent o.number) refl (stay_open places parent (closed places o ms) more os)

-- ---- one box

-- a box closes whose kids have these marks
box_closed : (places : List Placed) (p : Placed) (front kids : List Mark) → IsNumbered places p
    → closed places (record { number = p.number; from = length (front ++ start_of p) })
    ((front ++ (start_of p ++ line_marks p.number 0 p.lines)) ++ kids)
    ≡ (front ++ start_of p) ++ (inside_of places p (line_marks p.number 0 p.lines ++ kids) ++ end_of p)
box_closed places p front kids h =
    let from = length (front ++ start_of p) in
    let inside = line_marks p.number 0 p.lines ++ kids in
    let all : (front ++ (start_of p ++ line_marks p.number 0 p.lines)) ++ kids ≡ (front ++ start_of p) ++ inside =
    simp append_assoc refl in
    ap (λ (o : Option Placed). end_in places o from ((front ++ (start_of p ++ line_marks p.number 0 p.lines)) ++ kids)) h
    ∙ ap (end_in places (Some p) from) all
    ∙ ap (λ (ms : List Mark). ms ++ (inside_of places p (drop from ((front ++ start_of p) ++ inside)) ++ end_of p))
    (take_at (front ++ start_of p) inside from refl)
    ∙ ap (λ (ms : List Mark). (front ++ start_of p) ++ (inside_of places p ms ++ end_of p))
    (drop_at (front ++ start_of p) inside from refl)

-- the box on top stays open for its kids, and closes before what follows them
top_stays : (places : List Placed) (p : Placed) (n : ℕ) (w : Walk) → p.number ≡ n
    → settled places (Some n) (with_box p w) ≡ with_box p w
top_stays places p n w e =
    without_kept places (Some n) (with_box p w).so_far (record {
      number = p.number;
      from = length
          (w.so_far ++ start_of p);
    }) w.still_open
    (le-ltb n p.number (omega arith))

top_closes : (places : List Placed) (parent : Option ℕ) (p : Placed) (ms kids : List Mark) (os : List Open)
    → IsBefore parent p.number → IsNumbered places p
    → let w = without places parent ms os in
    settled places parent (with_more (with_box p w) kids)
    ≡ walk_at ((w.so_far ++ start_of p) ++ (inside_of places p (line_marks p.number 0 p.lines ++ kids) ++ end_of p)) w.still_open
top_closes places parent p ms kids os h is =
    let w = without places parent ms os in
    without_past places parent ((w.so_far ++ (start_of p ++ line_marks p.number 0 p.lines)) ++ kids)
    (record { number = p.number; from = length (w.so_far ++ start_of p) }) w.still_open (past_at parent p.number h)
    ∙ ap (λ (all : List Mark). without places parent all w.still_open) (box_closed places p w.so_far kids is)
    ∙ stay_open places parent ms ((w.so_far ++ start_of p) ++
    (inside_of places p (line_marks p.number 0 p.lines ++ kids) ++ end_of p)) os

regroup : (front start inside end next : List Mark) → ((front ++ start) ++ (inside ++ end)) ++ next
    ≡ front ++ (start ++ (inside ++ (end ++ next)))
regroup front start inside end next = simp append_assoc refl

-- ---- boxes side by side

abbrev Walks : List Placed → Option ℕ → Boxes Placed → Walk → Type 0
Walks places parent boxes w =
    settled places parent (fold (walked places) w (in_order boxes))
    ≡ with_more (settled places parent w) (marks (content_of boxes))

walk_box : (places : List Placed) (parent : Option ℕ) (n : ℕ) (p : Placed) (kids next : Boxes Placed) (w : Walk)
    → IsBefore parent n → p.number ≡ n → p.parent ≡ parent → IsNumbered places p → AreNumbered places (content_of kids)
    → Walks places (Some n) kids (walked places w p)
    → Walks places parent next (fold (walked places) (walked places w p) (in_order kids))
    → Walks places parent (box p kids next) w
walk_box places parent n p kids next w h at in_parent is numbered in_kids in_next =
    let u = settled places parent w in
    let v = fold (walked places) (walked places w p) (in_order kids) in
    let lines = line_marks p.number 0 p.lines in
    let kid_marks = marks (content_of kids) in
    let begun : walked places w p ≡ with_box p u = ap (λ (q : Option ℕ). with_box p (settled places q w)) in_parent in
    let deep : settled places (Some n) v ≡ with_more (with_box p u) kid_marks =
    in_kids ∙ ap (λ (x : Walk). with_more (settled places (Some n) x) kid_marks) begun
    ∙ ap (λ (x : Walk). with_more x kid_marks) (top_stays places p n u at) in
    let front = (u.so_far ++ start_of p) ++ (inside_of places p (lines ++ kid_marks) ++ end_of p) in
    let back : settled places parent v ≡ walk_at front u.still_open =
    settled_twice places parent n v.so_far v.still_open h ∙ ap (settled places parent) deep
    ∙ top_closes places parent p w.so_far kid_marks w.still_open (subst (IsBefore parent) (sym at) h) is in
    let all : front ++ marks (content_of next) ≡ u.so_far ++ marks (content_of (box p kids next)) =
    regroup u.so_far (start_of p) (inside_of places p (lines ++ kid_marks)) (end_of p) (marks (content_of next))
    ∙ ap (λ (ms : List Mark). u.so_far ++ (start_of p ++ (ms ++ (end_of p ++ marks (content_of next)))))
    (inside_is places p (content_of kids) is numbered)
    ∙ ap (λ (ms : List Mark). u.so_far ++ ms) (sym (box_marks p kids next)) in
    ap (settled places parent) (fold-append (walked places) (walked places w p) (in_order kids) (in_order next))
    ∙ in_next
    ∙ ap (λ (x : Walk). with_more x (marks (content_of next))) back
    ∙ ap (λ (ms : List Mark). walk_at ms u.still_open) all

walk_all : (places : List Placed) (parent : Option ℕ) (n : ℕ) (boxes : Boxes Placed) (w : Walk) → IsBefore parent n
    → AreParented parent n boxes
    → StandIn places n boxes → Walks places parent boxes w
walk_all places parent n none w h are stand =
    ap (λ (ms : List Mark). walk_at ms (settled places parent w).still_open) (sym (append-nil (settled places parent w).so_far))
walk_all places parent n (box p kids next) w h are stand =
    walk_box places parent n p kids next w h are.0 are.1 (ap (slice_get places) are.0 ∙ stand.0)
    (content_numbered places (Some n) (suc n) kids are.2 stand.1)
    (walk_all places (Some n) (suc n) kids (walked places w p) (omega arith) are.2 stand.1)
    (walk_all places parent (suc n + box_count kids) next (fold (walked places) (walked places w p) (in_order kids))
    (before_later parent n (suc n + box_count kids) h (omega arith)) are.3 stand.2)

-- the marks of all boxes of a tree
pub marks_are : (places : List Placed) (boxes : Boxes Placed) → places ≡ in_order boxes → AreParented None 0 boxes
    → all_marks places ≡ marks (content_of boxes)
marks_are places boxes e are =
    let stand : StandIn places 0 boxes = subst (λ (all : List Placed). StandIn all 0 boxes) (sym e) (all_stand boxes) in
    let empty : Walk = walk_at [] [] in
    ap (λ (all : List Placed). (settled places None (fold (walked places) empty all)).so_far) e
    ∙ ap (λ (w : Walk). w.so_far) (walk_all places None 0 boxes empty tt are stand)
