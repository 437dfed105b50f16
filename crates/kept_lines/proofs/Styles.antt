-- What a run's lines are made of is seen from its pieces with their styles.
use Rattle.std.proofs.Common.{◌≡◌, ℕ, ℤ, pos, ◌+◌, Bool, true, false, IsTrue, ◌||◌, ◌&&◌, ◌==◌, not, List, [], ◌∷◌}
use Rattle.std.proofs.Common.{Option, Some, None, map, refl, sym, ap, ◌∙◌}
use mathlib.Core.List.{reverse_aux}
use Rattle.std.specs.Prelude.{if◌then◌else◌, slice_get, unwrap_or, reverse}
use Rattle.std.specs.Char.{is_ascii_alphabetic}
use Rattle.std.specs.Int.{int_max}
use Rattle.std.specs.List.{AllByRecursion, list_any}
use Rattle.std.proofs.lemmas.Option.{unwrap_or-slice_get}
use Rattle.font_table.specs.declared.fonts.Face.{Face}
use Rattle.inline_text.specs.declared.content.Piece.{Piece}
use Rattle.inline_text.specs.declared.content.Piece.TheVariants as pieces
use Rattle.inline_text.specs.declared.content.RunStyle.{RunStyle}
use Rattle.inline_text.specs.WhiteSpace.{keeps, is_chance}
use Rattle.inline_text.specs.Opportunities.{wrapped_by, hyphenated_by, wrap_or, may_wrap, is_collapsed_space, letter_or}
use Rattle.inline_text.specs.Opportunities.{begins_with_letter, is_image, begins_with_image, is_soft_hyphen, lets_break}
use Rattle.inline_text.specs.Opportunities.{is_opportunity}
use Rattle.line_breaker.specs.Measures.{no_style, style_of, advance_in, is_invisible, width_of, width_sum, space_behind}
use Rattle.line_breaker.specs.Measures.{last_space}
use Rattle.line_breaker.specs.Measures.{hyphen_of, last_hyphen, above_of, below_of, above_with, below_with, greatest_above}
use Rattle.line_breaker.specs.Measures.{greatest_below}
use Rattle.line_breaker.specs.Lines.{is_content, is_forced, stretch_len, content_ahead}
use Rattle.kept_lines.specs.Same.{Styled, Char, Image, Forced, Chance, styled}

-- ---- styles

abbrev pub style_in : Option RunStyle → RunStyle
style_in o = unwrap_or o no_style

pub style_is : (styles : List RunStyle) (n : ℕ) → style_of styles n ≡ style_in (slice_get styles n)
style_is styles n = sym (unwrap_or-slice_get styles n no_style)

abbrev kept_in : Option RunStyle → Bool
kept_in None = false
kept_in (Some style) = style.keep

keeps_is : (styles : List RunStyle) (n : ℕ) → keeps styles n ≡ kept_in (slice_get styles n)
keeps_is styles n = by_style (slice_get styles n) refl
  where
    by_style : (o : Option RunStyle) → slice_get styles n ≡ o → keeps styles n ≡ kept_in (slice_get styles n)
    by_style None e = rw e refl
    by_style (Some style) e = rw e refl

-- ---- widths

abbrev space_in : Styled → Bool
space_in (Char ch o) = ch == 32 && not (kept_in o)
space_in (Image w h o) = false
space_in Forced = false
space_in Chance = false

space_is : (styles : List RunStyle) (p : Piece) → is_collapsed_space styles p ≡ space_in (styled styles p)
space_is styles (pieces.Char ch n) = ap (λ k. ch == 32 && not k) (keeps_is styles n)
space_is styles (pieces.Image w h n) = refl
space_is styles pieces.Forced = refl
space_is styles pieces.Chance = refl

abbrev hyphen_in : Styled → Bool
hyphen_in (Char ch o) = ch == 0xad && hyphenated_by o
hyphen_in (Image w h o) = false
hyphen_in Forced = false
hyphen_in Chance = false

hyphen_is : (styles : List RunStyle) (p : Piece) → is_soft_hyphen styles p ≡ hyphen_in (styled styles p)
hyphen_is styles (pieces.Char ch n) = refl
hyphen_is styles (pieces.Image w h n) = refl
hyphen_is styles pieces.Forced = refl
hyphen_is styles pieces.Chance = refl

abbrev width_in : List Face → Styled → ℕ
width_in faces (Char ch o) = if is_invisible ch then 0 else advance_in (style_in o) faces ch
width_in faces (Image w h o) = w
width_in faces Forced = 0
width_in faces Chance = 0

width_is : (styles : List RunStyle) (faces : List Face) (p : Piece) → width_of styles faces p ≡ width_in faces (styled styles p)
width_is styles faces (pieces.Char ch n) =
    ap (λ (s : RunStyle). if is_invisible ch then 0 else advance_in s faces ch) (style_is styles n)
width_is styles faces (pieces.Image w h n) = refl
width_is styles faces pieces.Forced = refl
width_is styles faces pieces.Chance = refl

abbrev pub sum_in : List Face → List Styled → ℕ
sum_in faces [] = 0
sum_in faces (x ∷ xs) = width_in faces x + sum_in faces xs

pub sum_is : (styles : List RunStyle) (faces : List Face) (ps : List Piece)
    → width_sum styles faces ps ≡ sum_in faces (map (styled styles) ps)
sum_is styles faces [] = refl
sum_is styles faces (p ∷ ps) = let one = width_is styles faces p in let more = sum_is styles faces ps in cc

abbrev space_width : List Face → ℕ → Styled → ℕ
space_width faces n (Char ch o) = if space_in (Char ch o) then width_in faces (Char ch o) else 0
space_width faces n (Image w h o) = 0
space_width faces n Forced = n
space_width faces n Chance = n

space_width_is : (styles : List RunStyle) (faces : List Face) (n : ℕ) (p : Piece)
    → space_behind styles faces n p ≡ space_width faces n (styled styles p)
space_width_is styles faces n (pieces.Char ch k) =
    ap (λ t. if t then width_of styles faces (pieces.Char ch k) else 0) (space_is styles (pieces.Char ch k))
    ∙ ap (λ (w : ℕ). if space_in (styled styles (pieces.Char ch k)) then w else 0) (width_is styles faces (pieces.Char ch k))
space_width_is styles faces n (pieces.Image w h k) = refl
space_width_is styles faces n pieces.Forced = refl
space_width_is styles faces n pieces.Chance = refl

abbrev pub last_space_in : List Face → ℕ → List Styled → ℕ
last_space_in faces n [] = n
last_space_in faces n (x ∷ xs) = last_space_in faces (space_width faces n x) xs

pub last_space_is : (styles : List RunStyle) (faces : List Face) (n : ℕ) (ps : List Piece)
    → last_space styles faces n ps ≡ last_space_in faces n (map (styled styles) ps)
last_space_is styles faces n [] = refl
last_space_is styles faces n (p ∷ ps) = last_space_is styles faces (space_behind styles faces n p) ps
    ∙ ap (λ m. last_space_in faces m (map (styled styles) ps)) (space_width_is styles faces n p)

abbrev hyphen_width : List Face → Styled → ℕ
hyphen_width faces (Char ch o) = if hyphen_in (Char ch o) then advance_in (style_in o) faces 45 else 0
hyphen_width faces (Image w h o) = 0
hyphen_width faces Forced = 0
hyphen_width faces Chance = 0

hyphen_width_is : (styles : List RunStyle) (faces : List Face) (p : Piece)
    → hyphen_of styles faces p ≡ hyphen_width faces (styled styles p)
hyphen_width_is styles faces (pieces.Char ch n) =
    ap (λ (s : RunStyle). if is_soft_hyphen styles (pieces.Char ch n) then advance_in s faces 45 else 0) (style_is styles n)
hyphen_width_is styles faces (pieces.Image w h n) = refl
hyphen_width_is styles faces pieces.Forced = refl
hyphen_width_is styles faces pieces.Chance = refl

abbrev pub last_hyphen_in : List Face → ℕ → List Styled → ℕ
last_hyphen_in faces n [] = n
last_hyphen_in faces n (x ∷ xs) = last_hyphen_in faces (hyphen_width faces x) xs

pub last_hyphen_is : (styles : List RunStyle) (faces : List Face) (n : ℕ) (ps : List Piece)
    → last_hyphen styles faces n ps ≡ last_hyphen_in faces n (map (styled styles) ps)
last_hyphen_is styles faces n [] = refl
last_hyphen_is styles faces n (p ∷ ps) = last_hyphen_is styles faces (hyphen_of styles faces p) ps
    ∙ ap (λ m. last_hyphen_in faces m (map (styled styles) ps)) (hyphen_width_is styles faces p)

-- ---- heights

abbrev above_in : List Face → ℤ → Styled → ℤ
above_in faces above (Char ch o) = int_max above (above_of faces (style_in o))
above_in faces above (Image w h o) = int_max above (pos h)
above_in faces above Forced = above
above_in faces above Chance = above

above_is : (styles : List RunStyle) (faces : List Face) (above : ℤ) (p : Piece)
    → above_with styles faces above p ≡ above_in faces above (styled styles p)
above_is styles faces above (pieces.Char ch n) = ap (λ (s : RunStyle). int_max above (above_of faces s)) (style_is styles n)
above_is styles faces above (pieces.Image w h n) = refl
above_is styles faces above pieces.Forced = refl
above_is styles faces above pieces.Chance = refl

abbrev pub most_above_in : List Face → ℤ → List Styled → ℤ
most_above_in faces above [] = above
most_above_in faces above (x ∷ xs) = most_above_in faces (above_in faces above x) xs

pub most_above_is : (styles : List RunStyle) (faces : List Face) (above : ℤ) (ps : List Piece)
    → greatest_above styles faces above ps ≡ most_above_in faces above (map (styled styles) ps)
most_above_is styles faces above [] = refl
most_above_is styles faces above (p ∷ ps) = most_above_is styles faces (above_with styles faces above p) ps
    ∙ ap (λ m. most_above_in faces m (map (styled styles) ps)) (above_is styles faces above p)

abbrev below_in : List Face → ℤ → Styled → ℤ
below_in faces below (Char ch o) = int_max below (below_of faces (style_in o))
below_in faces below (Image w h o) = int_max below (pos 0)
below_in faces below Forced = below
below_in faces below Chance = below

below_is : (styles : List RunStyle) (faces : List Face) (below : ℤ) (p : Piece)
    → below_with styles faces below p ≡ below_in faces below (styled styles p)
below_is styles faces below (pieces.Char ch n) = ap (λ (s : RunStyle). int_max below (below_of faces s)) (style_is styles n)
below_is styles faces below (pieces.Image w h n) = refl
below_is styles faces below pieces.Forced = refl
below_is styles faces below pieces.Chance = refl

abbrev pub most_below_in : List Face → ℤ → List Styled → ℤ
most_below_in faces below [] = below
most_below_in faces below (x ∷ xs) = most_below_in faces (below_in faces below x) xs

pub most_below_is : (styles : List RunStyle) (faces : List Face) (below : ℤ) (ps : List Piece)
    → greatest_below styles faces below ps ≡ most_below_in faces below (map (styled styles) ps)
most_below_is styles faces below [] = refl
most_below_is styles faces below (p ∷ ps) = most_below_is styles faces (below_with styles faces below p) ps
    ∙ ap (λ m. most_below_in faces m (map (styled styles) ps)) (below_is styles faces below p)

-- ---- opportunities

abbrev wrap_in : Styled → Bool → Bool
wrap_in (Char ch o) beyond = wrapped_by o
wrap_in (Image w h o) beyond = wrapped_by o
wrap_in Forced beyond = beyond
wrap_in Chance beyond = beyond

wrap_is : (styles : List RunStyle) (p : Piece) (beyond : Bool) → wrap_or styles p beyond ≡ wrap_in (styled styles p) beyond
wrap_is styles (pieces.Char ch n) beyond = refl
wrap_is styles (pieces.Image w h n) beyond = refl
wrap_is styles pieces.Forced beyond = refl
wrap_is styles pieces.Chance beyond = refl

abbrev may_wrap_in : List Styled → Bool
may_wrap_in [] = false
may_wrap_in (x ∷ xs) = wrap_in x (may_wrap_in xs)

may_wrap_is : (styles : List RunStyle) (ps : List Piece) → may_wrap styles ps ≡ may_wrap_in (map (styled styles) ps)
may_wrap_is styles [] = refl
may_wrap_is styles (p ∷ ps) = wrap_is styles p (may_wrap styles ps) ∙ ap (wrap_in (styled styles p)) (may_wrap_is styles ps)

abbrev letter_in : Styled → Bool → Bool
letter_in (Char ch o) beyond = is_ascii_alphabetic ch
letter_in (Image w h o) beyond = false
letter_in Forced beyond = false
letter_in Chance beyond = beyond

letter_is : (styles : List RunStyle) (p : Piece) (beyond : Bool) → letter_or p beyond ≡ letter_in (styled styles p) beyond
letter_is styles (pieces.Char ch n) beyond = refl
letter_is styles (pieces.Image w h n) beyond = refl
letter_is styles pieces.Forced beyond = refl
letter_is styles pieces.Chance beyond = refl

abbrev begins_letter_in : List Styled → Bool
begins_letter_in [] = false
begins_letter_in (x ∷ xs) = letter_in x (begins_letter_in xs)

begins_letter_is : (styles : List RunStyle) (ps : List Piece)
    → begins_with_letter ps ≡ begins_letter_in (map (styled styles) ps)
begins_letter_is styles [] = refl
begins_letter_is styles (p ∷ ps) =
    letter_is styles p (begins_with_letter ps) ∙ ap (letter_in (styled styles p)) (begins_letter_is styles ps)

abbrev image_in : Styled → Bool
image_in (Char ch o) = false
image_in (Image w h o) = true
image_in Forced = false
image_in Chance = false

image_is : (styles : List RunStyle) (p : Piece) → is_image p ≡ image_in (styled styles p)
image_is styles (pieces.Char ch n) = refl
image_is styles (pieces.Image w h n) = refl
image_is styles pieces.Forced = refl
image_is styles pieces.Chance = refl

abbrev begins_image_in : List Styled → Bool
begins_image_in [] = false
begins_image_in (x ∷ xs) = image_in x

begins_image_is : (styles : List RunStyle) (ps : List Piece) → begins_with_image ps ≡ begins_image_in (map (styled styles) ps)
begins_image_is styles [] = refl
begins_image_is styles (p ∷ ps) = image_is styles p

abbrev breaks_in : Styled → Bool → Bool
breaks_in (Char ch o) between =
    space_in (Char ch o) || ch == 0x200b || hyphen_in (Char ch o) || (ch == 45 && between)
breaks_in (Image w h o) between = true
breaks_in Forced between = false
breaks_in Chance between = true

breaks_is : (styles : List RunStyle) (p : Piece) (between : Bool)
    → lets_break styles p between ≡ breaks_in (styled styles p) between
breaks_is styles (pieces.Char ch n) between =
    ap (λ t. t || ch == 0x200b || is_soft_hyphen styles (pieces.Char ch n) || (ch == 45 && between))
    (space_is styles (pieces.Char ch n))
breaks_is styles (pieces.Image w h n) between = refl
breaks_is styles pieces.Forced between = refl
breaks_is styles pieces.Chance between = refl

abbrev pub opportunity_in : List Styled → List Styled → Bool
opportunity_in [] after = false
opportunity_in (x ∷ before) after = may_wrap_in (x ∷ before)
    && (breaks_in x (begins_letter_in before && begins_letter_in after) || begins_image_in after)

pub opportunity_is : (styles : List RunStyle) (before after : List Piece)
    → is_opportunity styles before after ≡ opportunity_in (map (styled styles) before) (map (styled styles) after)
opportunity_is styles [] after = refl
opportunity_is styles (p ∷ before) after =
    let wraps = may_wrap_is styles (p ∷ before) in
    let ahead = begins_letter_is styles before in
    let past = begins_letter_is styles after in
    let image = begins_image_is styles after in
    let breaks = breaks_is styles p
    (begins_letter_in (map (styled styles) before) && begins_letter_in (map (styled styles) after)) in
    cc

-- ---- stretches

abbrev forced_in : Styled → Bool
forced_in (Char ch o) = false
forced_in (Image w h o) = false
forced_in Forced = true
forced_in Chance = false

forced_is : (styles : List RunStyle) (p : Piece) → is_forced p ≡ forced_in (styled styles p)
forced_is styles (pieces.Char ch n) = refl
forced_is styles (pieces.Image w h n) = refl
forced_is styles pieces.Forced = refl
forced_is styles pieces.Chance = refl

abbrev pub stretch_in : List Styled → ℕ
stretch_in [] = 0
stretch_in (x ∷ xs) = if forced_in x then 1 else stretch_in xs + 1

pub stretch_is : (styles : List RunStyle) (ps : List Piece) → stretch_len ps ≡ stretch_in (map (styled styles) ps)
stretch_is styles [] = refl
stretch_is styles (p ∷ ps) = let one = forced_is styles p in let more = stretch_is styles ps in cc

abbrev content_in : Styled → Bool
content_in (Char ch o) = true
content_in (Image w h o) = true
content_in Forced = false
content_in Chance = false

content_is : (styles : List RunStyle) (p : Piece) → is_content p ≡ content_in (styled styles p)
content_is styles (pieces.Char ch n) = refl
content_is styles (pieces.Image w h n) = refl
content_is styles pieces.Forced = refl
content_is styles pieces.Chance = refl

abbrev pub some_content_in : List Styled → Bool
some_content_in [] = false
some_content_in (x ∷ xs) = content_in x || some_content_in xs

pub some_content_is : (styles : List RunStyle) (ps : List Piece)
    → list_any is_content ps ≡ some_content_in (map (styled styles) ps)
some_content_is styles [] = refl
some_content_is styles (p ∷ ps) = let one = content_is styles p in let more = some_content_is styles ps in cc

abbrev pub ahead_in : List Styled → Bool
ahead_in [] = false
ahead_in (x ∷ xs) = if forced_in x then false else (content_in x || ahead_in xs)

pub ahead_is : (styles : List RunStyle) (ps : List Piece) → content_ahead ps ≡ ahead_in (map (styled styles) ps)
ahead_is styles [] = refl
ahead_is styles (p ∷ ps) =
    let forced = forced_is styles p in let one = content_is styles p in let more = ahead_is styles ps in cc

-- ---- what makes no line

abbrev chance_in : Styled → Bool
chance_in (Char ch o) = false
chance_in (Image w h o) = false
chance_in Forced = false
chance_in Chance = true

chance_is : (styles : List RunStyle) (p : Piece) → is_chance p ≡ chance_in (styled styles p)
chance_is styles (pieces.Char ch n) = refl
chance_is styles (pieces.Image w h n) = refl
chance_is styles pieces.Forced = refl
chance_is styles pieces.Chance = refl

abbrev pub ChancesIn : List Styled → Type 0
ChancesIn xs = AllByRecursion (λ x. IsTrue (chance_in x)) xs

pub to_chances : (styles : List RunStyle) (ps : List Piece) → AllByRecursion (λ p. IsTrue (is_chance p)) ps
    → ChancesIn (map (styled styles) ps)
to_chances styles [] all = tt
to_chances styles (p ∷ ps) all = (rw (← chance_is styles p) all.0, to_chances styles ps all.1)

pub from_chances : (styles : List RunStyle) (ps : List Piece) → ChancesIn (map (styled styles) ps)
    → AllByRecursion (λ p. IsTrue (is_chance p)) ps
from_chances styles [] all = tt
from_chances styles (p ∷ ps) all = (rw (chance_is styles p) all.0, from_chances styles ps all.1)

-- ---- lists

turned_after : {A B : Type 0} (h : A → B) (l r : List A) → map h (reverse_aux l r) ≡ reverse_aux (map h l) (map h r)
turned_after h [] r = refl
turned_after h (x ∷ l) r = turned_after h l (x ∷ r)

pub turned : {A B : Type 0} (h : A → B) (l : List A) → map h (reverse l) ≡ reverse (map h l)
turned h l = turned_after h l []
