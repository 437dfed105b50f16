-- The texts of a tree are UTF-8, and no longer than those of its tokens.
use Rattle.std.proofs.Common.{◌≡◌, ℕ, ◌+◌, ◌≤◌, List, [], ◌∷◌, length, Bool, true, false, cond, Option, Some, None, ◌⊎◌, inl, inr}
use Rattle.std.proofs.Common.{refl, sym, ap, subst, arith, length-append}
use Rattle.std.specs.Prelude.{encode_utf8, IsUtf8, sum_by, MatchBool}
use Rattle.std.specs.List.{AllByRecursion}
use Rattle.std.proofs.lemmas.List.Sums.{sum_by-cons}
use Rattle.std.proofs.lemmas.Str.{IsUtf8-append, IsUtf8-encode, IsUtf8-nil, length-encode}
use Rattle.html_grammar.specs.declared.dom.Attribute.{Attribute}
use Rattle.html_grammar.specs.declared.token.Piece.{Piece}
use Rattle.html_grammar.specs.declared.token.Token.{Token}
use Rattle.html_grammar.specs.declared.token.Token.TheVariants.{Start, Raw, End, Comment, Doctype, Char}
use Rattle.html_grammar.specs.Names.{same, is_void}
use Rattle.html_grammar.specs.Tokens.{is_blank, is_end, is_doctype}
use Rattle.html_grammar.specs.Tree.{Forest, Nil, Element, Words}
use Rattle.html_grammar.specs.Grammar.{skip_comments, skip_blank, run_text, behind_run, Closed, tag_as, raw_forest, Content}
use Rattle.html_grammar.specs.Grammar.{behind_doctype, behind_end}
use Rattle.html_subset.specs.WellFormed.{AttributeIsUtf8, attribute_bytes}
use Rattle.html_subset.proofs.FormsFit.{PieceIsUtf8, piece_bytes, TokenIsUtf8, token_bytes}

pub record TokensFit (toks : List Token) (most : ℕ) : Type 0 where
  pub utf8 : AllByRecursion TokenIsUtf8 toks
  pub bound : sum_by token_bytes toks ≤ most

pub tail_fits : (t : Token) (ts : List Token) (m : ℕ) → TokensFit (t ∷ ts) m → TokensFit ts m
tail_fits t ts m f = record { utf8 = f.utf8.1; bound = omega (arith, f.bound, sum_by-cons token_bytes t ts) }

pub own_fit : (toks : List Token) (m : ℕ) → TokensFit toks m → TokensFit toks (sum_by token_bytes toks)
own_fit toks m f = record { utf8 = f.utf8; bound = omega arith }

pick : (b : Bool) (xs ys : List Token) (m : ℕ) → TokensFit xs m → TokensFit ys m → TokensFit (cond b xs ys) m
pick true xs ys m f g = f
pick false xs ys m f g = g

comments_fit : (toks : List Token) (m : ℕ) → TokensFit toks m → TokensFit (skip_comments toks) m
comments_fit (Comment at ∷ ts) m f = comments_fit ts m (tail_fits (Comment at) ts m f)
comments_fit _ m f = f

pub blank_fit : (toks : List Token) (m : ℕ) → TokensFit toks m → TokensFit (skip_blank toks) m
blank_fit [] m f = f
blank_fit (t ∷ ts) m f = pick (is_blank t) (skip_blank ts) (t ∷ ts) m (blank_fit ts m (tail_fits t ts m f)) f

pub doctype_fit : (toks : List Token) (m : ℕ) → TokensFit toks m → TokensFit (behind_doctype toks) m
doctype_fit [] m f = f
doctype_fit (t ∷ ts) m f = pick (is_doctype t) ts (t ∷ ts) m (tail_fits t ts m f) f

pub end_fit : (name : List ℕ) (toks : List Token) (m : ℕ) → TokensFit toks m → TokensFit (behind_end name toks) m
end_fit name [] m f = f
end_fit name (t ∷ ts) m f = pick (is_end name t) ts (t ∷ ts) m (tail_fits t ts m f) f

-- a text in front and what stands after it
pub record RunFits (toks : List Token) (most : ℕ) : Type 0 where
  pub text : IsUtf8 (run_text toks)
  pub rest : AllByRecursion TokenIsUtf8 (behind_run toks)
  pub bound : length (run_text toks) + sum_by token_bytes (behind_run toks) ≤ most

no_run : (toks : List Token) (m : ℕ) → run_text toks ≡ [] → behind_run toks ≡ toks → TokensFit toks m → RunFits toks m
no_run toks m none same_rest f = record {
  text = subst IsUtf8 (sym none) IsUtf8-nil;
  rest = subst (AllByRecursion TokenIsUtf8) (sym same_rest) f.utf8;
  bound = omega (arith, f.bound, ap length none, ap (sum_by token_bytes) same_rest);
}

run_fits : (toks : List Token) (m : ℕ) → TokensFit toks m → RunFits toks m
run_fits [] m f = no_run [] m refl refl f
run_fits (Start tag ∷ ts) m f = no_run (Start tag ∷ ts) m refl refl f
run_fits (Raw tag text ∷ ts) m f = no_run (Raw tag text ∷ ts) m refl refl f
run_fits (End at n ∷ ts) m f = no_run (End at n ∷ ts) m refl refl f
run_fits (Comment at ∷ ts) m f = no_run (Comment at ∷ ts) m refl refl f
run_fits (Doctype at ∷ ts) m f = no_run (Doctype at ∷ ts) m refl refl f
run_fits (Char at c s ∷ ts) m f =
    let next = run_fits ts (sum_by token_bytes ts) (own_fit ts m (tail_fits (Char at c s) ts m f)) in
    record {
      text = IsUtf8-append (encode_utf8 c) (run_text ts) (IsUtf8-encode c f.utf8.0) next.text;
      rest = next.rest;
      bound = omega (
        arith,
        f.bound,
        next.bound,
        sum_by-cons token_bytes (Char at c s) ts,
        length-append (encode_utf8 c) (run_text ts),
        length-encode c,
      );
    }

-- Trees.

abbrev pub ForestIsUtf8 : Forest → Type 0
ForestIsUtf8 Nil = Unit {0}
ForestIsUtf8 (Element at m attrs kids next) = IsUtf8 m × AllByRecursion AttributeIsUtf8 attrs × ForestIsUtf8 kids
    × ForestIsUtf8 next
ForestIsUtf8 (Words at text next) = IsUtf8 text × ForestIsUtf8 next

abbrev pub forest_bytes : Forest → ℕ
forest_bytes Nil = 0
forest_bytes (Element at m attrs kids next) = length m + sum_by attribute_bytes attrs + forest_bytes kids + forest_bytes next
forest_bytes (Words at text next) = length text + forest_bytes next

-- a tree that tokens spell up to a rest
pub record Spelt (f : Forest) (rest : List Token) (most : ℕ) : Type 0 where
  pub tree : ForestIsUtf8 f
  pub rest_is : AllByRecursion TokenIsUtf8 rest
  pub bound : forest_bytes f + sum_by token_bytes rest ≤ most

pub nothing : (toks rest : List Token) (m : ℕ) → toks ≡ rest → TokensFit toks m → Spelt Nil rest m
nothing toks rest m e f =
    let g = subst (λ (ts : List Token). TokensFit ts m) e f in
    record { tree = tt; rest_is = g.utf8; bound = omega (arith, g.bound) }

raw_forest_fits : (text : Option Piece) → PieceIsUtf8 text
    → ForestIsUtf8 (raw_forest text) × (forest_bytes (raw_forest text) ≡ piece_bytes text)
raw_forest_fits None h = (tt, refl)
raw_forest_fits (Some p) h = ((h, tt), omega arith)

closed_by : (b : Bool) (m : ℕ) (t : Token) (ts after : List Token) (P : Type 0) → MatchBool b (after ≡ ts) (P × (after ≡ t ∷ ts))
    → TokensFit (t ∷ ts) m → TokensFit after m
closed_by true m t ts after P e f = subst (λ (x : List Token). TokensFit x m) (sym e) (tail_fits t ts m f)
closed_by false m t ts after P e f = subst (λ (x : List Token). TokensFit x m) (sym e.1) f

closed_fit : (name : List ℕ) (toks after : List Token) (m : ℕ) → Closed name toks after → TokensFit toks m → TokensFit after m
closed_fit name [] after m h f = subst (λ (x : List Token). TokensFit x m) (sym h.1) f
closed_fit name (Start tag ∷ ts) after m h f = subst (λ (x : List Token). TokensFit x m) (sym h.1) f
closed_fit name (Raw tag text ∷ ts) after m h f = subst (λ (x : List Token). TokensFit x m) (sym h.1) f
closed_fit name (End at n ∷ ts) after m h f = closed_by (same n name) m (End at n) ts after _ h f
closed_fit name (Comment at ∷ ts) after m h f = absurd h
closed_fit name (Doctype at ∷ ts) after m h f = absurd h
closed_fit name (Char at c s ∷ ts) after m h f = absurd h

-- what stands in an element, and what stands after it
void_or_not : (b : Bool) (m : List ℕ) (kids : Forest) (inner after : List Token) (most : ℕ)
    → MatchBool b ((kids ≡ Nil) × (after ≡ inner)) ((end : List Token) × Content m kids inner end × Closed m end after)
    → ((end : List Token) → Content m kids inner end → Spelt kids end most) → TokensFit inner most → Spelt kids after most
void_or_not true m kids inner after most (none, same_rest) again f =
    let g = subst (λ (x : List Token). TokensFit x most) (sym same_rest) f in
    record { tree = subst ForestIsUtf8 (sym none) tt; rest_is = g.utf8; bound = omega (arith, g.bound, ap forest_bytes none) }
void_or_not false m kids inner after most (end, content, closed) again f =
    let inside = again end content in
    let g = closed_fit m end after (sum_by token_bytes end) closed (record { utf8 = inside.rest_is; bound = omega arith }) in
    record { tree = inside.tree; rest_is = g.utf8; bound = omega (arith, inside.bound, g.bound) }

pub in_raw : (kids : Forest) (text : Option Piece) (inner after : List Token) (m : ℕ) → kids ≡ raw_forest text → after ≡ inner
    → PieceIsUtf8 text → piece_bytes text + sum_by token_bytes inner ≤ m → AllByRecursion TokenIsUtf8 inner → Spelt kids after m
in_raw kids text inner after m is same_rest utf8 le all =
    let own = raw_forest_fits text utf8 in
    record {
      tree = subst ForestIsUtf8 (sym is) own.0;
      rest_is = subst (AllByRecursion TokenIsUtf8) (sym same_rest) all;
      bound = omega (arith, le, own.1, ap forest_bytes is, ap (sum_by token_bytes) same_rest);
    }

-- an element with its name and attributes before what stands in it
pub with_tag : (at : ℕ) (m : List ℕ) (attrs : List Attribute) (kids next : Forest) (after rest : List Token) (k n : ℕ) → IsUtf8 m
    → AllByRecursion AttributeIsUtf8 attrs
    → Spelt kids after k → Spelt next rest (sum_by token_bytes after) → length m + sum_by attribute_bytes attrs + k ≤ n
    → Spelt (Element at m attrs kids next) rest n
with_tag at m attrs kids next after rest k n name attributes inside behind le = record {
  tree = (name, attributes, inside.tree, behind.tree);
  rest_is = behind.rest_is;
  bound = omega (arith, inside.bound, behind.bound, le);
}

element_by : (name : List ℕ) (at : ℕ) (m : List ℕ) (attrs : List Attribute) (kids next : Forest)
    (toks rest inner after : List Token) (unknown : Option ℕ) (late : _) (most : ℕ) (Q : Type 0)
    → ((skip_comments toks ≡ Start (tag_as at m attrs unknown late) ∷ inner) × Q
    × MatchBool (is_void m) ((kids ≡ Nil) × (after ≡ inner))
    ((end : List Token) × Content m kids inner end × Closed m end after))
    ⊎ ((text : Option Piece) × (skip_comments toks ≡ Raw (tag_as at m attrs unknown late) text ∷ inner) × (kids ≡ raw_forest text)
    × (after ≡ inner))
    → ((end : List Token) (k : ℕ) → Content m kids inner end → TokensFit inner k → Spelt kids end k)
    → (TokensFit after (sum_by token_bytes after) → Spelt next rest (sum_by token_bytes after))
    → TokensFit toks most → Spelt (Element at m attrs kids next) rest most
element_by name at m attrs kids next toks rest inner after unknown late most Q (inl (skipped, outer, inside)) again go f =
    let g = subst (λ (x : List Token). TokensFit x most) skipped (comments_fit toks most f) in
    let k = sum_by token_bytes inner in
    let tail = own_fit inner most (tail_fits (Start (tag_as at m attrs unknown late)) inner most g) in
    let kids_fit = void_or_not (is_void m) m kids inner after k inside (λ end content. again end k content tail) tail in
    with_tag at m attrs kids next after rest k most g.utf8.0.0 g.utf8.0.1 kids_fit
    (go (record { utf8 = kids_fit.rest_is; bound = omega arith }))
    (omega (arith, g.bound, sum_by-cons token_bytes (Start (tag_as at m attrs unknown late)) inner))
element_by name at m attrs kids next toks rest inner after unknown late most Q (inr (text, skipped, is, same_rest)) again go f =
    let g = subst (λ (x : List Token). TokensFit x most) skipped (comments_fit toks most f) in
    let k = piece_bytes text + sum_by token_bytes inner in
    let kids_fit = in_raw kids text inner after k is same_rest g.utf8.0.2 (omega arith) g.utf8.1 in
    with_tag at m attrs kids next after rest k most g.utf8.0.0 g.utf8.0.1 kids_fit
    (go (record { utf8 = kids_fit.rest_is; bound = omega arith }))
    (omega (arith, g.bound, sum_by-cons token_bytes (Raw (tag_as at m attrs unknown late) text) inner))

pub content_fits : (name : List ℕ) (f : Forest) (toks rest : List Token) (most : ℕ) → Content name f toks rest
    → TokensFit toks most → Spelt f rest most
content_fits name Nil toks rest most h f = nothing (skip_comments toks) rest most h (comments_fit toks most f)
content_fits name (Words at text next) toks rest most (c, s, more, skipped, is, others) f =
    let g = subst (λ (x : List Token). TokensFit x most) skipped (comments_fit toks most f) in
    let run = run_fits more (sum_by token_bytes more) (own_fit more most (tail_fits (Char at c s) more most g)) in
    let behind = content_fits name next (behind_run more) rest (sum_by token_bytes (behind_run more)) others
    (record { utf8 = run.rest; bound = omega arith }) in
    record {
      tree = (
        subst IsUtf8 (sym is) (IsUtf8-append (encode_utf8 c) (run_text more) (IsUtf8-encode c g.utf8.0) run.text),
        behind.tree,
      );
      rest_is = behind.rest_is;
      bound = omega (
        arith,
        g.bound,
        run.bound,
        behind.bound,
        sum_by-cons token_bytes (Char at c s) more,
        ap length is,
        length-append (encode_utf8 c) (run_text more),
        length-encode c,
      );
    }
content_fits name (Element at m attrs kids next) toks rest most (unknown, late, inner, after, closes, inside, others) f =
    element_by name at m attrs kids next toks rest inner after unknown late most _ inside
    (λ end k content tail. content_fits m kids inner end k content tail)
    (λ tail. content_fits name next after rest (sum_by token_bytes after) others tail) f
