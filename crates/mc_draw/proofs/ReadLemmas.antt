-- Reading a drawing line by line.
use Rattle.std.proofs.Common.{◌≡◌, ℕ, ◌+◌, ◌<◌, List, [], ◌∷◌, ◌++◌, length, None, refl, sym, ap, ◌∙◌, subst, arith}
use Rattle.std.proofs.Common.{append_assoc, inl, inr}
use Rattle.std.specs.Prelude.{codes}
use Rattle.std.specs.List.{flat_map}
use Rattle.std.proofs.lemmas.List.{append-nil, length-append, flat_map_more}
use Rattle.flow_text.proofs.FormLemmas.{pass}
use Rattle.mc_draw.specs.declared.drawing.Drawing.{Drawing}
use Rattle.mc_draw.specs.declared.drawing.Shape.{Shape}
use Rattle.mc_draw.specs.DrawingText.{shape_text, head_text, foot_text, drawing_text}
use Rattle.mc_draw.specs.Fields.{past, shape_at, head_at}
use Rattle.mc_draw.specs.ReadBack.{IsFitShape, AreFit, IsTextOf, HasNoHead, HasNoShape, HasNoFoot}
use Rattle.mc_draw.specs.ReadBack.{IsBadLine}
use Rattle.mc_draw.proofs.FieldLemmas.{past_takes, past_again, shape_takes, shape_again, head_takes, head_again}

-- ---- the lines of rectangles

one_more_fit : (shapes : List Shape) (s : Shape) → AreFit shapes → IsFitShape s → AreFit (shapes ++ s ∷ [])
one_more_fit [] s fit one = (one, tt)
one_more_fit (t ∷ shapes) s fit one = (fit.0, one_more_fit shapes s fit.1 one)

pub next_shape : (bytes rest more : List ℕ) (shapes new : List Shape) (s : Shape) → shape_at rest ≡ pass (s, more)
    → new ≡ shapes ++ s ∷ [] → (bytes ≡ flat_map shape_text shapes ++ rest) × AreFit shapes
    → (bytes ≡ flat_map shape_text new ++ more) × AreFit new
next_shape bytes rest more shapes new s e is h =
    let one = shape_takes rest (s, more) e in
    let P : List Shape → Type 0 = λ ss. (bytes ≡ flat_map shape_text ss ++ more) × AreFit ss in
    let front : List ℕ = flat_map shape_text shapes in
    subst P (sym is) (
      h.0 ∙ ap (λ (t : List ℕ). front ++ t) one.0 ∙ sym (append_assoc front (shape_text s) more)
          ∙ ap (λ (t : List ℕ). t ++ more) (flat_map_more shape_text [] shapes s),
      one_more_fit shapes s h.1 one.1,
    )

shape_some : (s : Shape) → 0 < length (shape_text s)
unfolding shape_text
shape_some s = omega arith

pub shape_shorter : (rest more : List ℕ) (s : Shape) → shape_at rest ≡ pass (s, more) → length more < length rest
shape_shorter rest more s e =
    let one = shape_takes rest (s, more) e in
    let long = ap length one.0 ∙ length-append (shape_text s) more in
    omega (arith, shape_some s)

-- ---- what is read, and which line is bad

no_head : (text : List ℕ) → head_at text ≡ None → HasNoHead text
no_head text e w h rest fit_w fit_h is = absurd (let some = ap head_at is ∙ head_again w h rest fit_w fit_h in cc)

no_shape : (text : List ℕ) → shape_at text ≡ None → HasNoShape text
no_shape text e s rest fit is = absurd (let some = ap shape_at is ∙ shape_again s rest fit in cc)

no_foot : (text : List ℕ) → past (codes "</svg>\n") text ≡ None → HasNoFoot text
unfolding foot_text
no_foot text e rest is = absurd (let some = ap (past (codes "</svg>\n")) is ∙ past_again (codes "</svg>\n") rest in cc)

foot_taken : (text rest : List ℕ) → past (codes "</svg>\n") text ≡ pass rest → text ≡ foot_text ++ rest
unfolding foot_text
foot_taken text rest e = past_takes (codes "</svg>\n") text rest e

pub first_bad : (text : List ℕ) → head_at text ≡ None → IsBadLine text 1
first_bad text e = inl (refl, no_head text e)

pub within_bad : (text rest more : List ℕ) (w h n : ℕ) (shapes : List Shape) → head_at text ≡ pass (w, h, rest)
    → rest ≡ flat_map shape_text shapes ++ more → AreFit shapes → shape_at more ≡ None → past (codes "</svg>\n") more ≡ None
    → n ≡ length shapes → IsBadLine text (n + 2)
within_bad text rest more w h n shapes e lines fit none unclosed is =
    let head = head_takes text (w, h, rest) e in
    inr (inl (record {
      w = w;
      h = h;
      shapes = shapes;
      rest = more;
      fit = (head.w, head.h, fit);
      spelled = head.spelled ∙ ap (λ (t : List ℕ). head_text w h ++ t) lines;
      line = omega arith;
      no_shape = no_shape more none;
      no_foot = no_foot more unclosed;
    }))

whole : (text rest more after : List ℕ) (d : Drawing) → head_at text ≡ pass (d.w, d.h, rest)
    → rest ≡ flat_map shape_text d.shapes ++ more → past (codes "</svg>\n") more ≡ pass after
    → text ≡ drawing_text d ++ after
whole text rest more after d e lines close =
    let head = head_takes text (d.w, d.h, rest) e in
    let front : List ℕ = flat_map shape_text d.shapes in
    head.spelled ∙ ap (λ (t : List ℕ). head_text d.w d.h ++ t) (lines ∙ ap (λ (t : List ℕ). front ++ t)
    (foot_taken more after close) ∙ sym (append_assoc front foot_text after))
    ∙ sym (append_assoc (head_text d.w d.h) (front ++ foot_text) after)

pub after_bad : (text rest more after : List ℕ) (w h n : ℕ) (shapes : List Shape) → head_at text ≡ pass (w, h, rest)
    → rest ≡ flat_map shape_text shapes ++ more → AreFit shapes → past (codes "</svg>\n") more ≡ pass after
    → 0 < length after → n ≡ length shapes → IsBadLine text (n + 3)
after_bad text rest more after w h n shapes e lines fit close some is =
    let d : Drawing = record { w = w; h = h; shapes = shapes } in
    let head = head_takes text (w, h, rest) e in
    inr (inr (record {
      drawing = d;
      rest = after;
      fit = (head.w, head.h, fit);
      spelled = whole text rest more after d e lines close;
      some = some;
      line = omega arith;
    }))

pub all_read : (text rest more after : List ℕ) (w h : ℕ) (shapes : List Shape) → head_at text ≡ pass (w, h, rest)
    → rest ≡ flat_map shape_text shapes ++ more → AreFit shapes → past (codes "</svg>\n") more ≡ pass after
    → length after ≡ 0 → IsTextOf text (record { w = w; h = h; shapes = shapes })
all_read text rest [] after w h shapes e lines fit close none = absurd cc
all_read text rest (b ∷ more) (c ∷ after) w h shapes e lines fit close none = absurd (omega arith)
all_read text rest (b ∷ more) [] w h shapes e lines fit close none =
    let d : Drawing = record { w = w; h = h; shapes = shapes } in
    let head = head_takes text (w, h, rest) e in
    ((head.w, head.h, fit), whole text rest (b ∷ more) [] d e lines close ∙ append-nil (drawing_text d))
