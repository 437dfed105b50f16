-- What is read at the front of bytes is spelled there, and what is spelled there is read.
use Rattle.std.proofs.Common.{◌≡◌, ℕ, List, [], ◌∷◌, ◌++◌, length, Option, Some, None}
use Rattle.std.proofs.Common.{refl, sym, ap, ◌∙◌, subst, append_assoc}
use Rattle.std.specs.Prelude.{codes, nat_eq}
use Rattle.std.specs.List.{starts_with}
use Rattle.std.specs.Fmt.{decimal}
use Rattle.std.proofs.lemmas.List.{drop_at}
use Rattle.std.proofs.lemmas.Bool.Decides.{Decides-eqb}
use Rattle.std.proofs.lemmas.Slice.Eq.{starts_is}
use Rattle.mc_base.specs.Finding.{◌>>=◌}
use Rattle.mc_base.proofs.FindSteps.{some_step}
use Rattle.mc_base.specs.declared.units.Rect.{Rect}
use Rattle.flow_text.specs.Numbers.{IsNumber}
use Rattle.flow_text.proofs.FormLemmas.{pass, Stops, number_again}
use Rattle.mc_draw.specs.declared.drawing.Shape.{Shape}
use Rattle.mc_draw.specs.declared.drawing.ShapeClass.{ShapeClass}
use Rattle.mc_draw.specs.declared.drawing.ShapeClass.TheVariants as classes
use Rattle.mc_draw.specs.DrawingText.{class_text, numbered, rect_text, shape_text, head_text, foot_text}
use Rattle.mc_draw.specs.Fields.{past, numbered_at, or_else, first_class, all_classes, class_at, rect_at, shape_at, head_at}
use Rattle.mc_draw.specs.ReadBack.{IsFitRect, IsFitShape}
use Rattle.mc_draw.proofs.Numbers.{number_takes, guarded}

-- ---- what follows bytes

pub some_is : {A : Type 0} (x y : A) → pass x ≡ pass y → x ≡ y
some_is x y e = cc

pub past_takes : (front bytes rest : List ℕ) → past front bytes ≡ pass rest → bytes ≡ front ++ rest
past_takes front bytes rest h =
    let g = guarded (starts_with nat_eq bytes front) _ rest h in
    (starts_is Decides-eqb bytes front (starts_with nat_eq bytes front) refl).0 g.0 ∙ ap (λ (t : List ℕ). front ++ t) g.1

pub past_again : (front rest : List ℕ) → past front (front ++ rest) ≡ pass rest
past_again front rest =
    rw ((starts_is Decides-eqb (front ++ rest) front (starts_with nat_eq (front ++ rest) front) refl).1 rest refl)
    (ap pass (drop_at front rest (length front) refl))

-- ---- numbers after bytes

abbrev NumberTaken : List ℕ → List ℕ → ℕ × List ℕ → Type 0
NumberTaken front bytes x = (bytes ≡ numbered front x.0 ++ x.1) × IsNumber x.0

numbered_takes : (front bytes : List ℕ) (x : ℕ × List ℕ) → numbered_at front bytes ≡ pass x → NumberTaken front bytes x
numbered_takes front bytes x h = some_step (past front bytes) _ x h (λ rest e g.
    let n = number_takes rest x g in
    (past_takes front bytes rest e ∙ ap (λ (t : List ℕ). front ++ t) n.0 ∙ sym (append_assoc front (decimal x.0) x.1), n.1))

numbered_again : (front rest : List ℕ) (n : ℕ) → IsNumber n → Stops rest → numbered_at front (numbered front n ++ rest)
    ≡ pass (n, rest)
numbered_again front rest n fits stops =
    ap (numbered_at front) (append_assoc front (decimal n) rest)
    ∙ rw (past_again front (decimal n ++ rest)) (number_again n rest fits stops)

-- ---- classes

class_takes : (cs : List ShapeClass) (bytes : List ℕ) (x : ShapeClass × List ℕ) → first_class cs bytes ≡ pass x
    → bytes ≡ class_text x.0 ++ x.1
class_takes [] bytes x h = absurd cc
class_takes (c ∷ cs) bytes x h = by_word (past (class_text c) bytes) (class_takes cs bytes x) refl h
  where
    by_word : (o : Option (List ℕ)) → (first_class cs bytes ≡ pass x → bytes ≡ class_text x.0 ++ x.1)
        → past (class_text c) bytes ≡ o
        → or_else (o >>= λ rest. Some (c, rest)) (first_class cs bytes) ≡ pass x → bytes ≡ class_text x.0 ++ x.1
    by_word (Some rest) later is e =
        past_takes (class_text c) bytes rest is
        ∙ ap (λ (y : ShapeClass × List ℕ). class_text y.0 ++ y.1) (some_is (c, rest) x e)
    by_word None later is e = later e

class_again : (c : ShapeClass) (rest : List ℕ) → class_at (class_text c ++ rest) ≡ pass (c, rest)
unfolding class_at
class_again classes.Stack rest = refl
class_again classes.Row rest = refl
class_again classes.Col rest = refl
class_again classes.Piece rest = refl
class_again classes.Line rest = refl
class_again classes.Void rest = refl
class_again classes.Image rest = refl
class_again classes.Atom rest = refl
class_again classes.Rule rest = refl

-- ---- lines

step : {A B : Type 0} (r : Option A) (x : A) (f : A → Option B) (y : B) → r ≡ pass x → f x ≡ pass y → (r >>= f) ≡ pass y
step {A = A} r x f y e g = ap (λ (o : Option A). o >>= f) e ∙ g

joined : (a b x y z : List ℕ) → x ≡ a ++ y → y ≡ b ++ z → x ≡ (a ++ b) ++ z
joined a b x y z h k = h ∙ ap (λ (t : List ℕ). a ++ t) k ∙ sym (append_assoc a b z)

rect_takes : (bytes : List ℕ) (x : Rect × List ℕ) → rect_at bytes ≡ pass x → (bytes ≡ rect_text x.0 ++ x.1) × IsFitRect x.0
unfolding rect_at rect_text
rect_takes bytes x h = some_step (numbered_at (codes "\" x=\"") bytes) _ x h (λ a e1 h1.
    some_step (numbered_at (codes "\" y=\"") a.1) _ x h1 (λ b e2 h2.
    some_step (numbered_at (codes "\" width=\"") b.1) _ x h2 (λ c e3 h3.
    some_step (numbered_at (codes "\" height=\"") c.1) _ x h3 (λ d e4 h4.
    some_step (past (codes "\"/>\n") d.1) _ x h4 (λ rest e5 g.
    let f1 = numbered_takes (codes "\" x=\"") bytes a e1 in
    let f2 = numbered_takes (codes "\" y=\"") a.1 b e2 in
    let f3 = numbered_takes (codes "\" width=\"") b.1 c e3 in
    let f4 = numbered_takes (codes "\" height=\"") c.1 d e4 in
    let f5 = past_takes (codes "\"/>\n") d.1 rest e5 in
    let qa = numbered (codes "\" x=\"") a.0 in
    let qb = numbered (codes "\" y=\"") b.0 in
    let qc = numbered (codes "\" width=\"") c.0 in
    let qd = numbered (codes "\" height=\"") d.0 in
    let end = codes "\"/>\n" in
    let P : Rect × List ℕ → Type 0 = λ y. (bytes ≡ rect_text y.0 ++ y.1) × IsFitRect y.0 in
    subst P (some_is (record { x = a.0; y = b.0; w = c.0; h = d.0 }, rest) x g) (
      joined qa (qb ++ (qc ++ (qd ++ end))) bytes a.1 rest f1.0 (joined qb (qc ++ (qd ++ end)) a.1 b.1 rest f2.0
          (joined qc (qd ++ end) b.1 c.1 rest f3.0 (joined qd end c.1 d.1 rest f4.0 f5))),
      (f1.1, f2.1, f3.1, f4.1),
    ))))))

rect_parts : (a b c d e rest : List ℕ)
    → (a ++ (b ++ (c ++ (d ++ e)))) ++ rest ≡ a ++ (b ++ (c ++ (d ++ (e ++ rest))))
rect_parts a b c d e rest =
    append_assoc a (b ++ (c ++ (d ++ e))) rest
    ∙ ap (λ (t : List ℕ). a ++ t) (append_assoc b (c ++ (d ++ e)) rest
    ∙ ap (λ (t : List ℕ). b ++ t) (append_assoc c (d ++ e) rest ∙ ap (λ (t : List ℕ). c ++ t) (append_assoc d e rest)))

rect_again : (r : Rect) (rest : List ℕ) → IsFitRect r → rect_at (rect_text r ++ rest) ≡ pass (r, rest)
unfolding rect_at rect_text
rect_again r rest fit =
    let x = numbered (codes "\" x=\"") r.x in
    let y = numbered (codes "\" y=\"") r.y in
    let w = numbered (codes "\" width=\"") r.w in
    let h = numbered (codes "\" height=\"") r.h in
    let e = codes "\"/>\n" in
    ap rect_at (rect_parts x y w h e rest)
    ∙ step _ _ _ _ (numbered_again (codes "\" x=\"") (y ++ (w ++ (h ++ (e ++ rest)))) r.x fit.0 refl)
    (step _ _ _ _ (numbered_again (codes "\" y=\"") (w ++ (h ++ (e ++ rest))) r.y fit.1 refl)
    (step _ _ _ _ (numbered_again (codes "\" width=\"") (h ++ (e ++ rest)) r.w fit.2 refl)
    (step _ _ _ _ (numbered_again (codes "\" height=\"") (e ++ rest) r.h fit.3 refl)
    (step _ _ (λ t. Some (r, t)) _ (past_again e rest) refl))))

pub shape_takes : (bytes : List ℕ) (x : Shape × List ℕ) → shape_at bytes ≡ pass x
    → (bytes ≡ shape_text x.0 ++ x.1) × IsFitShape x.0
unfolding shape_at shape_text class_at
shape_takes bytes x h = some_step (past (codes "<rect class=\"") bytes) _ x h (λ a e1 h1.
    some_step (first_class all_classes a) _ x h1 (λ b e2 h2.
    some_step (rect_at b.1) _ x h2 (λ r e3 g.
    let f1 = past_takes (codes "<rect class=\"") bytes a e1 in
    let f2 = class_takes all_classes a b e2 in
    let f3 = rect_takes b.1 r e3 in
    let P : Shape × List ℕ → Type 0 = λ y. (bytes ≡ shape_text y.0 ++ y.1) × IsFitShape y.0 in
    subst P (some_is (record { class = b.0; rect = r.0 }, r.1) x g) (
      joined (codes "<rect class=\"") (class_text b.0 ++ rect_text r.0) bytes a r.1 f1
          (joined (class_text b.0) (rect_text r.0) a b.1 r.1 f2 f3.0),
      f3.1,
    ))))

abbrev shaped : ShapeClass → Rect × List ℕ → Option (Shape × List ℕ)
shaped class rect = Some (record { class = class; rect = rect.0 }, rect.1)

abbrev from_rect : ShapeClass × List ℕ → Option (Shape × List ℕ)
from_rect class = rect_at class.1 >>= shaped class.0

abbrev from_class : List ℕ → Option (Shape × List ℕ)
from_class rest = class_at rest >>= from_rect

pub shape_again : (s : Shape) (rest : List ℕ) → IsFitShape s → shape_at (shape_text s ++ rest) ≡ pass (s, rest)
unfolding shape_at shape_text
shape_again s rest fit =
    let front = codes "<rect class=\"" in
    ap shape_at (append_assoc front (class_text s.class ++ rect_text s.rect) rest
    ∙ ap (λ (t : List ℕ). front ++ t) (append_assoc (class_text s.class) (rect_text s.rect) rest))
    ∙ step _ _ from_class _ (past_again front (class_text s.class ++ (rect_text s.rect ++ rest)))
    (step _ _ from_rect _ (class_again s.class (rect_text s.rect ++ rest))
    (step _ _ (shaped s.class) _ (rect_again s.rect rest fit) refl))

pub record HeadTaken (bytes : List ℕ) (x : ℕ × ℕ × List ℕ) : Type 0 where
  pub spelled : bytes ≡ head_text x.0 x.1 ++ x.2
  pub w : IsNumber x.0
  pub h : IsNumber x.1

pub head_takes : (bytes : List ℕ) (x : ℕ × ℕ × List ℕ) → head_at bytes ≡ pass x → HeadTaken bytes x
unfolding head_at head_text
head_takes bytes x h = some_step (numbered_at (codes "<svg xmlns=\"http://www.w3.org/2000/svg\" viewBox=\"0 0 ") bytes) _ x h
    (λ a e1 h1. some_step (numbered_at (codes " ") a.1) _ x h1 (λ b e2 h2.
    some_step (past (codes "\">\n") b.1) _ x h2 (λ rest e3 g.
    let f1 = numbered_takes (codes "<svg xmlns=\"http://www.w3.org/2000/svg\" viewBox=\"0 0 ") bytes a e1 in
    let f2 = numbered_takes (codes " ") a.1 b e2 in
    let f3 = past_takes (codes "\">\n") b.1 rest e3 in
    let front = numbered (codes "<svg xmlns=\"http://www.w3.org/2000/svg\" viewBox=\"0 0 ") a.0 in
    subst (HeadTaken bytes) (some_is (a.0, b.0, rest) x g)
    (record {
      spelled = joined front (numbered (codes " ") b.0 ++ codes "\">\n") bytes a.1 rest f1.0
          (joined (numbered (codes " ") b.0) (codes "\">\n") a.1 b.1 rest f2.0 f3);
      w = f1.1;
      h = f2.1;
    }))))

pub head_again : (w h : ℕ) (rest : List ℕ) → IsNumber w → IsNumber h → head_at (head_text w h ++ rest) ≡ pass (w, h, rest)
unfolding head_at head_text
head_again w h rest fit_w fit_h =
    let one = codes "<svg xmlns=\"http://www.w3.org/2000/svg\" viewBox=\"0 0 " in
    let two = codes " " in
    let e = codes "\">\n" in
    ap head_at (append_assoc (numbered one w) (numbered two h ++ e) rest
    ∙ ap (λ (t : List ℕ). numbered one w ++ t) (append_assoc (numbered two h) e rest))
    ∙ step _ _ _ _ (numbered_again one (numbered two h ++ (e ++ rest)) w fit_w refl)
    (step _ _ _ _ (numbered_again two (e ++ rest) h fit_h refl) (step _ _ (λ t. Some (w, h, t)) _ (past_again e rest) refl))

-- the line that closes a drawing is no rectangle's
pub foot_no_shape : (rest : List ℕ) → shape_at (foot_text ++ rest) ≡ None
unfolding shape_at foot_text
foot_no_shape rest = refl
