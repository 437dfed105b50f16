-- The texts of a document are UTF-8, and hardly longer than the text that spells it.
use Rattle.std.proofs.Common.{◌≡◌, ℕ, suc, ◌+◌, ◌≤◌, List, [], ◌∷◌, ◌++◌, length, Bool, true, false, cond, ltb, ◌&&◌, Option}
use Rattle.std.proofs.Common.{Some, ◌⊎◌, inl, inr, refl, sym, ap, subst, arith}
use Rattle.std.specs.Prelude.{IsUtf8, codes, sum_by}
use Rattle.std.specs.List.{AllByRecursion}
use Rattle.std.proofs.lemmas.Bool.{ltb-true}
use Rattle.std.proofs.lemmas.List.Sums.{sum_by-cons, sum_by-append}
use Rattle.std.proofs.lemmas.Str.{IsUtf8-append, IsUtf8-nil}
use Rattle.html_grammar.specs.declared.dom.Attribute.{Attribute}
use Rattle.mc_base.specs.declared.read_error.Fault.{Fault}
use Rattle.html_grammar.specs.declared.token.Piece.{Piece}
use Rattle.html_grammar.specs.declared.token.Token.{Token}
use Rattle.html_grammar.specs.declared.token.Token.TheVariants.{Start, Raw, End, Comment, Doctype, Char}
use Rattle.html_grammar.specs.Tokens.{is_start, attributes_of, place_of}
use Rattle.html_grammar.specs.Tree.{Forest, Nil, Element, Words, nodes_from, element_node, words_node}
use Rattle.html_grammar.specs.Grammar.{skip_blank, tag_as, raw_forest, HeadPart, Begun, begun, behind_doctype, behind_end}
use Rattle.html_grammar.specs.Grammar.{html_begun, head_begun, body_begun, IsDocument}
use Rattle.html_subset.specs.WellFormed.{AttributeIsUtf8, attribute_bytes, NodeIsUtf8, node_bytes}
use Rattle.html_subset.proofs.TextsFit.{byte_fits}
use Rattle.html_subset.proofs.FormsFit.{piece_bytes, TokenIsUtf8, token_bytes}
use Rattle.html_subset.proofs.TreesFit.{TokensFit, tail_fits, own_fit, blank_fit, doctype_fit, end_fit, Spelt, nothing, in_raw}
use Rattle.html_subset.proofs.TreesFit.{with_tag, content_fits, ForestIsUtf8, forest_bytes}
use Rattle.html_subset.proofs.TextsWithin.{ForestIsWithin, attributes_within, forest_within}

both : (a b : Bool) → (a && b) ≡ true → (a ≡ true) × (b ≡ true)
both true b h = (refl, h)
both false b h = absurd cc

abbrev all_small : List ℕ → Bool
all_small [] = true
all_small (x ∷ xs) = ltb x 128 && all_small xs

small_utf8 : (xs : List ℕ) → all_small xs ≡ true → IsUtf8 xs
small_utf8 [] h = IsUtf8-nil
small_utf8 (x ∷ xs) h =
    let parts = both (ltb x 128) (all_small xs) h in
    IsUtf8-append (x ∷ []) xs (byte_fits x (ltb-true x 128 parts.0)).utf8 (small_utf8 xs parts.1)

-- where one of html, head and body begins
pub record BegunFits (b : Begun) (most : ℕ) : Type 0 where
  pub attributes : AllByRecursion AttributeIsUtf8 b.attributes
  pub inner : AllByRecursion TokenIsUtf8 b.inner
  pub bound : sum_by attribute_bytes b.attributes + sum_by token_bytes b.inner ≤ most

pick_begun : (c : Bool) (x y : Begun) (m : ℕ) → BegunFits x m → BegunFits y m → BegunFits (cond c x y) m
pick_begun true x y m f g = f
pick_begun false x y m f g = g

attributes_of_fit : (t : Token) → TokenIsUtf8 t → AllByRecursion AttributeIsUtf8 (attributes_of t)
    × (sum_by attribute_bytes (attributes_of t) ≤ token_bytes t)
attributes_of_fit (Start tag) h = (h.1, omega arith)
attributes_of_fit (Raw tag text) h = (h.1, omega arith)
attributes_of_fit (End at m) h = (tt, omega arith)
attributes_of_fit (Comment at) h = (tt, omega arith)
attributes_of_fit (Doctype at) h = (tt, omega arith)
attributes_of_fit (Char at c s) h = (tt, omega arith)

begun_fits : (name : List ℕ) (size : ℕ) (toks : List Token) (m : ℕ) → TokensFit toks m → BegunFits (begun name size toks) m
begun_fits name size [] m f = record { attributes = tt; inner = tt; bound = omega arith }
begun_fits name size (t ∷ ts) m f =
    let own = attributes_of_fit t f.utf8.0 in
    pick_begun (is_start name t) (record { at = place_of t; attributes = attributes_of t; inner = ts })
    (record { at = place_of t; attributes = []; inner = t ∷ ts }) m
    (record { attributes = own.0; inner = f.utf8.1; bound = omega (arith, f.bound, own.1, sum_by-cons token_bytes t ts) })
    (record { attributes = tt; inner = f.utf8; bound = omega (arith, f.bound) })

inner_fits : (b : Begun) (m : ℕ) → BegunFits b m → TokensFit b.inner (sum_by token_bytes b.inner)
inner_fits b m f = record { utf8 = f.inner; bound = omega arith }

-- an element of the head
head_element_by : (at : ℕ) (m : List ℕ) (attrs : List Attribute) (kids next : Forest) (toks rest inner : List Token)
    (unknown : Option ℕ) (late : Option Fault) (most : ℕ) (Q : Type 0)
    → ((skip_blank toks ≡ Start (tag_as at m attrs unknown late) ∷ inner) × Q × (kids ≡ Nil))
    ⊎ ((text : Option Piece) × (skip_blank toks ≡ Raw (tag_as at m attrs unknown late) text ∷ inner) × (kids ≡ raw_forest text))
    → (TokensFit inner (sum_by token_bytes inner) → Spelt next rest (sum_by token_bytes inner))
    → TokensFit toks most → Spelt (Element at m attrs kids next) rest most
head_element_by at m attrs kids next toks rest inner unknown late most Q (inl (skipped, void, none)) go f =
    let g = subst (λ (x : List Token). TokensFit x most) skipped (blank_fit toks most f) in
    let k = sum_by token_bytes inner in
    let tail = own_fit inner most (tail_fits (Start (tag_as at m attrs unknown late)) inner most g) in
    let kids_fit = subst (λ (x : Forest). Spelt x inner k) (sym none) (nothing inner inner k refl tail) in
    with_tag at m attrs kids next inner rest k most g.utf8.0.0 g.utf8.0.1 kids_fit (go tail)
    (omega (arith, g.bound, sum_by-cons token_bytes (Start (tag_as at m attrs unknown late)) inner))
head_element_by at m attrs kids next toks rest inner unknown late most Q (inr (text, skipped, is)) go f =
    let g = subst (λ (x : List Token). TokensFit x most) skipped (blank_fit toks most f) in
    let k = piece_bytes text + sum_by token_bytes inner in
    let tail = own_fit inner most (tail_fits (Raw (tag_as at m attrs unknown late) text) inner most g) in
    with_tag at m attrs kids next inner rest k most g.utf8.0.0 g.utf8.0.1
    (in_raw kids text inner inner k is refl g.utf8.0.2 (omega arith) g.utf8.1) (go tail)
    (omega (arith, g.bound, sum_by-cons token_bytes (Raw (tag_as at m attrs unknown late) text) inner))

head_fits : (f : Forest) (toks rest : List Token) (most : ℕ) → HeadPart f toks rest → TokensFit toks most → Spelt f rest most
head_fits Nil toks rest most h f = nothing (skip_blank toks) rest most h.0 (blank_fit toks most f)
head_fits (Words at text next) toks rest most h f = absurd h
head_fits (Element at m attrs kids next) toks rest most (unknown, late, inner, cases, others) f =
    head_element_by at m attrs kids next toks rest inner unknown late most _ cases
    (λ tail. head_fits next inner rest (sum_by token_bytes inner) others tail) f

pub document_fits : (size : ℕ) (toks : List Token) (tree : Forest) (m : ℕ) → IsDocument size toks tree → TokensFit toks m
    → ForestIsUtf8 tree × (forest_bytes tree ≤ m + 12) × ((n : ℕ) → m ≤ n → 4 ≤ n → ForestIsWithin n tree)
document_fits size toks tree m h f =
    let html = begun_fits (codes "html") size (skip_blank (behind_doctype (skip_blank toks))) m
    (blank_fit (behind_doctype (skip_blank toks)) m (doctype_fit (skip_blank toks) m (blank_fit toks m f))) in
    let a = html_begun size toks in
    let head = begun_fits (codes "head") size (skip_blank a.inner) (sum_by token_bytes a.inner)
    (blank_fit a.inner (sum_by token_bytes a.inner) (inner_fits a m html)) in
    let b = head_begun size toks in
    let part = head_fits h.head_kids b.inner h.past (sum_by token_bytes b.inner) h.head_part
    (inner_fits b (sum_by token_bytes a.inner) head) in
    let past = sum_by token_bytes h.past in
    let behind : TokensFit h.past past = record { utf8 = part.rest_is; bound = omega arith } in
    let body = begun_fits (codes "body") size (skip_blank (behind_end (codes "head") h.past)) past
    (blank_fit (behind_end (codes "head") h.past) past (end_fit (codes "head") h.past past behind)) in
    let c = body_begun size h.past in
    let inside = content_fits (codes "body") h.kids c.inner h.end (sum_by token_bytes c.inner) h.content
    (inner_fits c past body) in (
      subst ForestIsUtf8 (sym h.whole) (
        small_utf8 (codes "html") refl,
        html.attributes,
        (
          small_utf8 (codes "head") refl,
          head.attributes,
          part.tree,
          (small_utf8 (codes "body") refl, body.attributes, inside.tree, tt),
        ),
        tt,
      ),
      omega (arith, ap forest_bytes h.whole, html.bound, head.bound, part.bound, body.bound, inside.bound),
      λ n le four. subst (ForestIsWithin n) (sym h.whole) (
        four,
        attributes_within n a.attributes (omega (arith, le, html.bound)),
        (
          four,
          attributes_within n b.attributes (omega (arith, le, html.bound, head.bound)),
          forest_within n h.head_kids (omega (arith, le, html.bound, head.bound, part.bound)),
          (
            four,
            attributes_within n c.attributes (omega (arith, le, html.bound, head.bound, part.bound, body.bound)),
            forest_within n h.kids (omega (arith, le, html.bound, head.bound, part.bound, body.bound, inside.bound)),
            tt,
          ),
        ),
        tt,
      ),
    )

-- The nodes of a tree.

all-append : {X : Type 0} (P : X → Type 0) (xs ys : List X) → AllByRecursion P xs → AllByRecursion P ys
    → AllByRecursion P (xs ++ ys)
all-append P [] ys h k = k
all-append P (x ∷ xs) ys h k = (h.0, all-append P xs ys h.1 k)

pub nodes_utf8 : (parent : Option ℕ) (k : ℕ) (f : Forest) → ForestIsUtf8 f → AllByRecursion NodeIsUtf8 (nodes_from parent k f)
nodes_utf8 parent k Nil h = tt
nodes_utf8 parent k (Element at m attrs kids next) h = (
  (h.0, h.1),
  all-append NodeIsUtf8 (nodes_from (Some k) (suc k) kids)
      (nodes_from parent (suc k + length (nodes_from (Some k) (suc k) kids)) next)
      (nodes_utf8 (Some k) (suc k) kids h.2) (nodes_utf8 parent (suc k + length (nodes_from (Some k) (suc k) kids)) next h.3),
)
nodes_utf8 parent k (Words at text next) h = (h.0, nodes_utf8 parent (suc k) next h.1)

pub nodes_bytes : (parent : Option ℕ) (k : ℕ) (f : Forest) → sum_by node_bytes (nodes_from parent k f) ≡ forest_bytes f
nodes_bytes parent k Nil = refl
nodes_bytes parent k (Element at m attrs kids next) =
    let inside = nodes_from (Some k) (suc k) kids in
    let behind = nodes_from parent (suc k + length inside) next in
    omega (
      arith,
      sum_by-cons node_bytes (element_node parent at m attrs) (inside ++ behind),
      sum_by-append node_bytes inside behind,
      nodes_bytes (Some k) (suc k) kids,
      nodes_bytes parent (suc k + length inside) next,
    )
nodes_bytes parent k (Words at text next) =
    omega (
      arith,
      sum_by-cons node_bytes (words_node parent at text) (nodes_from parent (suc k) next),
      nodes_bytes parent (suc k) next,
    )
