-- What holds of the elements that pieces name holds of those that they name after collapsing.
use Rattle.std.proofs.Common.{ℕ, suc, Bool, true, false, List, [], ◌∷◌, ◌++◌, map}
use Rattle.std.specs.Prelude.{◌==◌, ◌&&◌, if◌then◌else◌, replicate, zero}
use Rattle.std.specs.List.{AllByRecursion}
use Rattle.inline_text.specs.declared.content.Piece.{Piece}
use Rattle.inline_text.specs.declared.content.Piece.TheVariants as pieces
use Rattle.inline_text.specs.declared.content.RunStyle.{RunStyle}
use Rattle.inline_text.specs.WhiteSpace.{keeps, kept, is_white, collapsed_char, char_becomes, piece_becomes, follows_content, precedes_content, becomes, collapsed_behind}
use Rattle.box_laws.specs.Laws.{PieceHas}

pub all-append : {X : Type 0} (Q : X → Type 0) (xs ys : List X) → AllByRecursion Q xs → AllByRecursion Q ys → AllByRecursion Q (xs ++ ys)
all-append Q [] ys a b = b
all-append Q (x ∷ xs) ys (h, a) b = (h, all-append Q xs ys a b)

pub front-of : {X : Type 0} (Q : X → Type 0) (xs ys : List X) → AllByRecursion Q (xs ++ ys) → AllByRecursion Q xs
front-of Q [] ys a = tt
front-of Q (x ∷ xs) ys (h, a) = (h, front-of Q xs ys a)

pub rest-of : {X : Type 0} (Q : X → Type 0) (xs ys : List X) → AllByRecursion Q (xs ++ ys) → AllByRecursion Q ys
rest-of Q [] ys a = a
rest-of Q (x ∷ xs) ys (h, a) = rest-of Q xs ys a

module _ (P : ℕ → Type 0) where
  pub all-chars : (style : ℕ) → P style → (text : List ℕ) → AllByRecursion (PieceHas P) (map (λ ch. pieces.Char ch style) text)
  all-chars style h [] = tt
  all-chars style h (ch ∷ text) = (h, all-chars style h text)

  many : (n style : ℕ) → P style → AllByRecursion (PieceHas P) (replicate n (pieces.Char 32 style))
  many zero style h = tt
  many (suc n) style h = (h, many n style h)

  kept-has : (ch style : ℕ) → P style → AllByRecursion (PieceHas P) (kept ch style)
  kept-has ch style h = go (ch == 10) (ch == 9)
    where
      go : (feed tab : Bool) → AllByRecursion (PieceHas P)
          (if feed then pieces.Forced ∷ [] else if tab then replicate 8 (pieces.Char 32 style) else pieces.Char ch style ∷ [])
      go true tab = (tt, tt)
      go false true = many 8 style h
      go false false = (h, tt)

  collapsed-has : (ch style : ℕ) (stays : Bool) → P style → AllByRecursion (PieceHas P) (collapsed_char ch style stays)
  collapsed-has ch style stays h = go (is_white ch) stays
    where
      go : (white stays : Bool) → AllByRecursion (PieceHas P)
          (if white then (if stays then pieces.Char 32 style ∷ [] else []) else pieces.Char ch style ∷ [])
      go true true = (h, tt)
      go true false = tt
      go false stays = (h, tt)

  char-has : (keep : Bool) (ch style : ℕ) (stays : Bool) → P style → AllByRecursion (PieceHas P) (char_becomes keep ch style stays)
  char-has true ch style stays h = kept-has ch style h
  char-has false ch style stays h = collapsed-has ch style stays h

  piece-has : (styles : List RunStyle) (p : Piece) (stays : Bool) → PieceHas P p → AllByRecursion (PieceHas P) (piece_becomes styles p stays)
  piece-has styles (pieces.Char ch style) stays h = char-has (keeps styles style) ch style stays h
  piece-has styles (pieces.Image w h style) stays is = (is, tt)
  piece-has styles pieces.Forced stays h = (tt, tt)
  piece-has styles pieces.Chance stays h = (tt, tt)

  pub run-has : (styles : List RunStyle) (before ps : List Piece) → AllByRecursion (PieceHas P) ps
      → AllByRecursion (PieceHas P) (collapsed_behind styles before ps)
  run-has styles before [] h = tt
  run-has styles before (p ∷ after) (h, hs) =
      all-append (PieceHas P) (becomes styles before p after) (collapsed_behind styles (p ∷ before) after)
      (piece-has styles p (follows_content styles before && precedes_content styles after) h)
      (run-has styles (p ∷ before) after hs)
