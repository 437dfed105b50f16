-- Pieces that are taken over with just the styles that they name.
use Rattle.std.proofs.Common.{◌≡◌, ℕ, ◌+◌, ◌-◌, ◌<◌, List, [], ◌∷◌, ◌++◌, length, map, refl, sym, ap, ◌∙◌, arith, length-append}
use Rattle.std.specs.Prelude.{slice_get, Some}
use Rattle.std.specs.List.{AllByRecursion}
use Rattle.std.proofs.lemmas.List.{map-append, get_or_append_left}
use Rattle.std.proofs.lemmas.Option.{slice_get-get_or}
use Rattle.inline_text.specs.declared.content.Piece.{Piece}
use Rattle.inline_text.specs.declared.content.Piece.TheVariants as pieces
use Rattle.inline_text.specs.declared.content.RunStyle.{RunStyle}
use Rattle.inline_text.specs.WhiteSpace.{HasStyle}
use Rattle.line_breaker.specs.Measures.{no_style}
use Rattle.kept_lines.specs.declared.run.Narrow.{Narrow}
use Rattle.kept_lines.specs.Same.{Char, Image, styled}
use Rattle.kept_lines.specs.Narrowed.{style_number, with_number, HasMore, EndsWith, IsNarrowed}

-- an item is where it was when more follow
at_front : (xs ys : List RunStyle) (n : ℕ) → n < length xs → slice_get (xs ++ ys) n ≡ slice_get xs n
at_front xs ys n lt =
    let lt' : n < length (xs ++ ys) = omega (arith, length-append xs ys) in
    slice_get-get_or (xs ++ ys) n no_style lt' ∙ ap Some (get_or_append_left xs ys no_style n lt)
    ∙ sym (slice_get-get_or xs n no_style lt)

has_more : (xs ys : List RunStyle) (p : Piece) → HasStyle xs p → HasStyle (xs ++ ys) p
has_more xs ys (pieces.Char ch n) has = omega (arith, has, length-append xs ys)
has_more xs ys (pieces.Image w h n) has = omega (arith, has, length-append xs ys)
has_more xs ys pieces.Forced has = tt
has_more xs ys pieces.Chance has = tt

all_have_more : (xs ys : List RunStyle) (ps : List Piece) → AllByRecursion (HasStyle xs) ps
    → AllByRecursion (HasStyle (xs ++ ys)) ps
all_have_more xs ys [] all = tt
all_have_more xs ys (p ∷ ps) all = (has_more xs ys p all.0, all_have_more xs ys ps all.1)

styled_more : (xs ys : List RunStyle) (p : Piece) → HasStyle xs p → styled (xs ++ ys) p ≡ styled xs p
styled_more xs ys (pieces.Char ch n) has = ap (Char ch) (at_front xs ys n has)
styled_more xs ys (pieces.Image w h n) has = ap (Image w h) (at_front xs ys n has)
styled_more xs ys pieces.Forced has = refl
styled_more xs ys pieces.Chance has = refl

all_styled_more : (xs ys : List RunStyle) (ps : List Piece) → AllByRecursion (HasStyle xs) ps
    → map (styled (xs ++ ys)) ps ≡ map (styled xs) ps
all_styled_more xs ys [] all = refl
all_styled_more xs ys (p ∷ ps) all =
    let one = styled_more xs ys p all.0 in let more = all_styled_more xs ys ps all.1 in cc

all_and_one : (P : Piece → Type 0) (ps : List Piece) (p : Piece) → AllByRecursion P ps → P p → AllByRecursion P (ps ++ p ∷ [])
all_and_one P [] p all one = (one, tt)
all_and_one P (q ∷ ps) p all one = (all.0, all_and_one P ps p all.1 one)

pub number_known : (styles : List RunStyle) (p : Piece) (last : ℕ) → HasStyle styles p → last < length styles
    → style_number p last < length styles
number_known styles (pieces.Char ch n) last has known = has
number_known styles (pieces.Image w h n) last has known = has
number_known styles pieces.Forced last has known = known
number_known styles pieces.Chance last has known = known

numbered_known : (named : List RunStyle) (p : Piece) (n : ℕ) → n < length named → HasStyle named (with_number n p)
numbered_known named (pieces.Char ch k) n lt = lt
numbered_known named (pieces.Image w h k) n lt = lt
numbered_known named pieces.Forced n lt = tt
numbered_known named pieces.Chance n lt = tt

numbered_same : (styles named : List RunStyle) (p : Piece) (last n : ℕ)
    → slice_get named n ≡ slice_get styles (style_number p last) → styled named (with_number n p) ≡ styled styles p
numbered_same styles named (pieces.Char ch k) last n is = ap (Char ch) is
numbered_same styles named (pieces.Image w h k) last n is = ap (Image w h) is
numbered_same styles named pieces.Forced last n is = refl
numbered_same styles named pieces.Chance last n is = refl

-- one piece more
pub one_more : (styles : List RunStyle) (old new : Narrow) (ps : List Piece) (p : Piece) (n : ℕ)
    → HasStyle styles p → IsNarrowed styles old ps → HasMore old.runs.styles new.runs.styles
    → EndsWith styles new.runs.styles new.last → new.last ≡ style_number p old.last → n ≡ length new.runs.styles - 1
    → new.runs.pieces ≡ old.runs.pieces ++ with_number n p ∷ [] → IsNarrowed styles new (ps ++ p ∷ [])
one_more styles old new ps p n has was more ends last number is =
    let size : length new.runs.styles ≡ length old.runs.styles + length more.more =
    ap length more.is ∙ length-append old.runs.styles more.more in
    let below : n < length new.runs.styles = omega (arith, ends.some, number) in
    let at : slice_get new.runs.styles n ≡ slice_get styles (style_number p old.last) =
    ap (slice_get new.runs.styles) number ∙ ends.is ∙ ap (slice_get styles) last in
    let kept : AllByRecursion (HasStyle new.runs.styles) old.runs.pieces =
    rw more.is (all_have_more old.runs.styles more.more old.runs.pieces was.named) in
    let same : map (styled new.runs.styles) old.runs.pieces ≡ map (styled styles) ps =
    ap (λ xs. map (styled xs) old.runs.pieces) more.is
    ∙ all_styled_more old.runs.styles more.more old.runs.pieces was.named ∙ was.same in
    record {
      ends = ends;
      known = rw last (number_known styles p old.last has was.known);
      few = omega (arith, size, more.few, was.few, length-append ps (p ∷ []));
      named = rw is (all_and_one (HasStyle new.runs.styles) old.runs.pieces (with_number n p) kept
          (numbered_known new.runs.styles p n below));
      same = ap (map (styled new.runs.styles)) is ∙ map-append (styled new.runs.styles) old.runs.pieces (with_number n p ∷ [])
          ∙ ap (λ xs. xs ++ styled new.runs.styles (with_number n p) ∷ []) same
          ∙ ap (λ x. map (styled styles) ps ++ x ∷ []) (numbered_same styles new.runs.styles p old.last n at)
          ∙ sym (map-append (styled styles) ps (p ∷ []));
    }

pub first_stays : (xs ys : List RunStyle) → HasMore xs ys → 0 < length xs → slice_get ys 0 ≡ slice_get xs 0
first_stays xs ys more some = ap (λ zs. slice_get zs 0) more.is ∙ at_front xs more.more 0 some
