-- One drawing at most has a text, and one line at most of other bytes is the first that is bad.
use Rattle.std.proofs.Common.{◌≡◌, ℕ, ◌+◌, List, [], ◌∷◌, ◌++◌, length, Option, Some, None, refl, sym, ap, ◌∙◌, arith}
use Rattle.std.proofs.Common.{append_assoc, inl, inr}
use Rattle.std.specs.List.{flat_map}
use Rattle.std.proofs.lemmas.List.{append-nil, length-append}
use Rattle.flow_text.specs.Numbers.{IsNumber}
use Rattle.flow_text.proofs.FormLemmas.{pass}
use Rattle.mc_draw.specs.declared.drawing.Drawing.{Drawing}
use Rattle.mc_draw.specs.declared.drawing.Shape.{Shape}
use Rattle.mc_draw.specs.DrawingText.{shape_text, head_text, foot_text}
use Rattle.mc_draw.specs.Fields.{shape_at, head_at}
use Rattle.mc_draw.specs.ReadBack.{AreFit, IsTextOf, HasNoHead, HasNoShape, IsBadWithin, IsBadAfter, IsBadLine, AreReadAgain}
use Rattle.mc_draw.proofs.FieldLemmas.{some_is, shape_takes, shape_again, head_again, foot_no_shape}

-- a text up to the first line that is no rectangle's
record Parts (text : List ℕ) (w h : ℕ) (shapes : List Shape) (rest : List ℕ) : Type 0 where
  fit_w : IsNumber w
  fit_h : IsNumber h
  fit : AreFit shapes
  spelled : text ≡ head_text w h ++ (flat_map shape_text shapes ++ rest)
  stops : shape_at rest ≡ None

-- there is just one such part

shape_first : (s : Shape) (rest more : List ℕ) → AreFit (s ∷ []) → shape_at ((shape_text s ++ rest) ++ more)
    ≡ pass (s, rest ++ more)
shape_first s rest more fit = ap shape_at (append_assoc (shape_text s) rest more) ∙ shape_again s (rest ++ more) fit.0

abbrev shaped : Shape → List ℕ → Option (Shape × List ℕ)
shaped s a = Some (s, a)

same_first : (s t : Shape) (a b : List ℕ) → shaped s a ≡ shaped t b → (s ≡ t) × (a ≡ b)
same_first s t a b e =
    let one = some_is (s, a) (t, b) e in
    (ap (λ (x : Shape × List ℕ). x.0) one, ap (λ (x : Shape × List ℕ). x.1) one)

same_shapes : (xs ys : List Shape) (a b : List ℕ) → AreFit xs → AreFit ys → shape_at a ≡ None → shape_at b ≡ None
    → flat_map shape_text xs ++ a ≡ flat_map shape_text ys ++ b → (xs ≡ ys) × (a ≡ b)
same_shapes [] [] a b f g none none_too e = (refl, e)
same_shapes [] (y ∷ ys) a b f g none none_too e =
    absurd (let some = ap shape_at e ∙ shape_first y (flat_map shape_text ys) b (g.0, tt) in cc)
same_shapes (x ∷ xs) [] a b f g none none_too e =
    absurd (let some = ap shape_at (sym e) ∙ shape_first x (flat_map shape_text xs) a (f.0, tt) in cc)
same_shapes (x ∷ xs) (y ∷ ys) a b f g none none_too e =
    let one = same_first x y (flat_map shape_text xs ++ a) (flat_map shape_text ys ++ b)
    (sym (shape_first x (flat_map shape_text xs) a (f.0, tt)) ∙ ap shape_at e
    ∙ shape_first y (flat_map shape_text ys) b (g.0, tt)) in
    let more = same_shapes xs ys a b f.1 g.1 none none_too one.1 in
    (ap (λ (s : Shape). s ∷ xs) one.0 ∙ ap (λ (ss : List Shape). y ∷ ss) more.0, more.1)

record Same (w v h k : ℕ) (xs ys : List Shape) (a b : List ℕ) : Type 0 where
  width : w ≡ v
  height : h ≡ k
  shapes : xs ≡ ys
  rest : a ≡ b

record SameHead (w v h k : ℕ) (a b : List ℕ) : Type 0 where
  width : w ≡ v
  height : h ≡ k
  rest : a ≡ b

abbrev headed : ℕ → ℕ → List ℕ → Option (ℕ × ℕ × List ℕ)
headed w h a = Some (w, h, a)

same_head : (w v h k : ℕ) (a b : List ℕ) → headed w h a ≡ headed v k b → SameHead w v h k a b
same_head w v h k a b e =
    let one = some_is (w, h, a) (v, k, b) e in
    record {
      width = ap (λ (x : ℕ × ℕ × List ℕ). x.0) one;
      height = ap (λ (x : ℕ × ℕ × List ℕ). x.1) one;
      rest = ap (λ (x : ℕ × ℕ × List ℕ). x.2) one;
    }

read_head : (text : List ℕ) (w h : ℕ) (xs : List Shape) (a : List ℕ) → Parts text w h xs a
    → head_at text ≡ pass (w, h, flat_map shape_text xs ++ a)
read_head text w h xs a p = ap head_at p.spelled ∙ head_again w h (flat_map shape_text xs ++ a) p.fit_w p.fit_h

same_parts : (text : List ℕ) (w v h k : ℕ) (xs ys : List Shape) (a b : List ℕ) → Parts text w h xs a → Parts text v k ys b
    → Same w v h k xs ys a b
same_parts text w v h k xs ys a b p q =
    let head = same_head w v h k (flat_map shape_text xs ++ a) (flat_map shape_text ys ++ b)
    (sym (read_head text w h xs a p) ∙ read_head text v k ys b q) in
    let lines = same_shapes xs ys a b p.fit q.fit p.stops q.stops head.rest in
    record { width = head.width; height = head.height; shapes = lines.0; rest = lines.1 }

-- the parts of a drawing, and of other bytes

stops_before : (rest : List ℕ) → HasNoShape rest → shape_at rest ≡ None
stops_before rest none = by_shape (shape_at rest) refl
  where
    by_shape : (o : Option (Shape × List ℕ)) → shape_at rest ≡ o → shape_at rest ≡ None
    by_shape None e = e
    by_shape (Some x) e = let one = shape_takes rest x e in absurd (none x.0 x.1 one.1 one.0)

of_drawing : (text : List ℕ) (d : Drawing) → IsTextOf text d → Parts text d.w d.h d.shapes foot_text
of_drawing text d is = record {
  fit_w = is.0.0;
  fit_h = is.0.1;
  fit = is.0.2;
  spelled = is.1;
  stops = ap shape_at (sym (append-nil foot_text)) ∙ foot_no_shape [];
}

of_within : (text : List ℕ) (n : ℕ) (b : IsBadWithin text n) → Parts text b.w b.h b.shapes b.rest
of_within text n b = record {
  fit_w = b.fit.0;
  fit_h = b.fit.1;
  fit = b.fit.2;
  spelled = b.spelled;
  stops = stops_before b.rest b.no_shape;
}

of_after : (text : List ℕ) (n : ℕ) (b : IsBadAfter text n)
    → Parts text b.drawing.w b.drawing.h b.drawing.shapes (foot_text ++ b.rest)
of_after text n b =
    let front : List ℕ = flat_map shape_text b.drawing.shapes in
    let head : List ℕ = head_text b.drawing.w b.drawing.h in
    record {
      fit_w = b.fit.0;
      fit_h = b.fit.1;
      fit = b.fit.2;
      spelled =
          b.spelled ∙ append_assoc head (front ++ foot_text) b.rest
          ∙ ap (λ (t : List ℕ). head ++ t) (append_assoc front foot_text b.rest);
      stops = foot_no_shape b.rest;
    }

has_head : (text : List ℕ) (w h : ℕ) (xs : List Shape) (a : List ℕ) → Parts text w h xs a → HasNoHead text → ⊥
has_head text w h xs a p none = none w h (flat_map shape_text xs ++ a) p.fit_w p.fit_h p.spelled

-- ---- the law

pub alone : (text : List ℕ) (d e : Drawing) → IsTextOf text d → IsTextOf text e → d ≡ e
alone text d e p q =
    let same = same_parts text d.w e.w d.h e.h d.shapes e.shapes foot_text foot_text (of_drawing text d p)
    (of_drawing text e q) in
    by_fields same.width same.height same.shapes
  where
    by_fields : d.w ≡ e.w → d.h ≡ e.h → d.shapes ≡ e.shapes → d ≡ e
    by_fields w h shapes =
        ap (λ (n : ℕ). drawing n d.h d.shapes) w ∙ ap (λ (n : ℕ). drawing e.w n d.shapes) h
        ∙ ap (λ (ss : List Shape). drawing e.w e.h ss) shapes
      where
        drawing : ℕ → ℕ → List Shape → Drawing
        drawing w h shapes = record { w = w; h = h; shapes = shapes }

pub good : (text : List ℕ) (d : Drawing) (n : ℕ) → IsTextOf text d → IsBadLine text n → ⊥
good text d n is (inl b) = has_head text d.w d.h d.shapes foot_text (of_drawing text d is) b.1
good text d n is (inr (inl b)) =
    let same = same_parts text d.w b.w d.h b.h d.shapes b.shapes foot_text b.rest (of_drawing text d is) (of_within text n b) in
    b.no_foot [] (sym same.rest ∙ sym (append-nil foot_text))
good text d n is (inr (inr b)) =
    let same = same_parts text d.w b.drawing.w d.h b.drawing.h d.shapes b.drawing.shapes foot_text (foot_text ++ b.rest)
    (of_drawing text d is) (of_after text n b) in
    let long : length foot_text ≡ length foot_text + length b.rest = ap length same.rest ∙ length-append foot_text b.rest in
    let some = b.some in
    absurd (omega arith)

first : (text : List ℕ) (m n : ℕ) → IsBadLine text m → IsBadLine text n → m ≡ n
first text m n (inl b) (inl c) = b.0 ∙ sym c.0
first text m n (inl b) (inr (inl c)) = absurd (has_head text c.w c.h c.shapes c.rest (of_within text n c) b.1)
first text m n (inl b) (inr (inr c)) =
    absurd (has_head text c.drawing.w c.drawing.h c.drawing.shapes (foot_text ++ c.rest) (of_after text n c) b.1)
first text m n (inr (inl b)) (inl c) = absurd (has_head text b.w b.h b.shapes b.rest (of_within text m b) c.1)
first text m n (inr (inl b)) (inr (inl c)) =
    let same = same_parts text b.w c.w b.h c.h b.shapes c.shapes b.rest c.rest (of_within text m b) (of_within text n c) in
    b.line ∙ ap (λ (ss : List Shape). length ss + 2) same.shapes ∙ sym c.line
first text m n (inr (inl b)) (inr (inr c)) =
    let same = same_parts text b.w c.drawing.w b.h c.drawing.h b.shapes c.drawing.shapes b.rest (foot_text ++ c.rest)
    (of_within text m b) (of_after text n c) in
    absurd (b.no_foot c.rest same.rest)
first text m n (inr (inr b)) (inl c) =
    absurd (has_head text b.drawing.w b.drawing.h b.drawing.shapes (foot_text ++ b.rest) (of_after text m b) c.1)
first text m n (inr (inr b)) (inr (inl c)) =
    let same = same_parts text c.w b.drawing.w c.h b.drawing.h c.shapes b.drawing.shapes c.rest (foot_text ++ b.rest)
    (of_within text n c) (of_after text m b) in
    absurd (c.no_foot b.rest same.rest)
first text m n (inr (inr b)) (inr (inr c)) =
    let same = same_parts text b.drawing.w c.drawing.w b.drawing.h c.drawing.h b.drawing.shapes c.drawing.shapes
    (foot_text ++ b.rest) (foot_text ++ c.rest) (of_after text m b) (of_after text n c) in
    b.line ∙ ap (λ (ss : List Shape). length ss + 3) same.shapes ∙ sym c.line

pub read_again : AreReadAgain
read_again = record { alone = alone; good = good; first = first }
