-- Which bytes are a drawing, and which line of other bytes is the first that is off the forms (this project's own).
use Rattle.std.specs.Prelude.{◌≡◌, ◌<◌, ℕ, ◌+◌, List, ◌++◌, length, ◌⊎◌, Result, Ok, Err}
use Rattle.std.specs.List.{flat_map, AllByRecursion}
use Rattle.flow_text.specs.Numbers.{IsNumber}
use Rattle.mc_base.specs.declared.units.Rect.{Rect}
use Rattle.mc_draw.specs.declared.drawing.Drawing.{Drawing}
use Rattle.mc_draw.specs.declared.drawing.Shape.{Shape}
use Rattle.mc_draw.specs.declared.read.BadDrawing.{BadDrawing}
use Rattle.mc_draw.specs.declared.read.BadDrawing.TheVariants as bad
use Rattle.mc_draw.specs.DrawingText.{shape_text, head_text, foot_text, drawing_text}

-- a rectangle of numbers of at most 19 digits
abbrev pub IsFitRect : Rect → Type 0
IsFitRect r = IsNumber r.x × IsNumber r.y × IsNumber r.w × IsNumber r.h

abbrev pub IsFitShape : Shape → Type 0
IsFitShape s = IsFitRect s.rect

abbrev pub AreFit : List Shape → Type 0
AreFit shapes = AllByRecursion IsFitShape shapes

-- a drawing whose numbers have at most 19 digits
abbrev pub IsFit : Drawing → Type 0
IsFit d = IsNumber d.w × IsNumber d.h × AreFit d.shapes

-- these bytes are the text of this drawing
abbrev pub IsTextOf : List ℕ → Drawing → Type 0
IsTextOf text d = IsFit d × (text ≡ drawing_text d)

-- no line that opens a drawing stands at the front
abbrev pub HasNoHead : List ℕ → Type 0
HasNoHead text = (w h : ℕ) (rest : List ℕ) → IsNumber w → IsNumber h → text ≡ head_text w h ++ rest → ⊥

-- no line of a rectangle stands at the front
abbrev pub HasNoShape : List ℕ → Type 0
HasNoShape text = (s : Shape) (rest : List ℕ) → IsFitShape s → text ≡ shape_text s ++ rest → ⊥

-- the line that closes a drawing doesn't stand at the front
abbrev pub HasNoFoot : List ℕ → Type 0
HasNoFoot text = (rest : List ℕ) → text ≡ foot_text ++ rest → ⊥

-- after the line that opens a drawing and those of rectangles stands, as line n, neither such a line nor one that closes it
pub record IsBadWithin (text : List ℕ) (n : ℕ) : Type 0 where
  pub w : ℕ
  pub h : ℕ
  pub shapes : List Shape
  pub rest : List ℕ
  pub fit : IsNumber w × IsNumber h × AreFit shapes
  pub spelled : text ≡ head_text w h ++ (flat_map shape_text shapes ++ rest)
  pub line : n ≡ length shapes + 2
  pub no_shape : HasNoShape rest
  pub no_foot : HasNoFoot rest

-- line n follows a whole drawing
pub record IsBadAfter (text : List ℕ) (n : ℕ) : Type 0 where
  pub drawing : Drawing
  pub rest : List ℕ
  pub fit : IsFit drawing
  pub spelled : text ≡ drawing_text drawing ++ rest
  pub some : 0 < length rest
  pub line : n ≡ length drawing.shapes + 3

-- Line n, from 1, is the first that is off the forms; where a drawing isn't closed, it is the line after the last.
abbrev pub IsBadLine : List ℕ → ℕ → Type 0
IsBadLine text n = ((n ≡ 1) × HasNoHead text) ⊎ (IsBadWithin text n ⊎ IsBadAfter text n)

abbrev pub IsBad : List ℕ → BadDrawing → Type 0
IsBad text (bad.BadLine n) = IsBadLine text n
IsBad text bad.NoMemory = Unit {0}

-- this drawing is read, unless memory is lacking
abbrev pub IsReadAs : Drawing → Result Drawing BadDrawing → Type 0
IsReadAs d (Ok e) = e ≡ d
IsReadAs d (Err (bad.BadLine n)) = ⊥
IsReadAs d (Err bad.NoMemory) = Unit {0}

-- The law: a drawing whose numbers have at most 19 digits is the only one of its text, and no line of it is bad; and of other
-- bytes one line at most is the first that is bad.
pub record AreReadAgain : Type 0 where
  pub alone : (text : List ℕ) (d e : Drawing) → IsTextOf text d → IsTextOf text e → d ≡ e
  pub good : (text : List ℕ) (d : Drawing) (n : ℕ) → IsTextOf text d → IsBadLine text n → ⊥
  pub first : (text : List ℕ) (m n : ℕ) → IsBadLine text m → IsBadLine text n → m ≡ n
