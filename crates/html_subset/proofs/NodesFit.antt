-- A document has few nodes for the characters that spell it: markup takes three at least, and text stands beside markup.
use Rattle.std.proofs.Common.{◌≡◌, ℕ, suc, ◌+◌, ◌*◌, ◌≤◌, List, [], ◌∷◌, ◌++◌, length, Bool, true, false, cond, Option, Some}
use Rattle.std.proofs.Common.{None, ◌⊎◌, inl, inr, refl, ap, arith, length-append}
use Rattle.std.specs.Prelude.{codes, MatchBool}
use Rattle.html_grammar.specs.declared.dom.Attribute.{Attribute}
use Rattle.html_grammar.specs.declared.place.Place.{Place}
use Rattle.html_grammar.specs.declared.token.Piece.{Piece}
use Rattle.html_grammar.specs.declared.token.Tag.{Tag}
use Rattle.html_grammar.specs.declared.token.Token.{Token}
use Rattle.html_grammar.specs.declared.token.Token.TheVariants.{Start, Raw, End, Comment, Doctype, Char}
use Rattle.html_grammar.specs.declared.token.Spelled.{Spelled}
use Rattle.html_grammar.specs.declared.token.Spelled.TheVariants.{Plain, Reference, Unknown}
use Rattle.html_grammar.specs.Names.{same, is_void}
use Rattle.html_grammar.specs.Tokens.{is_blank, is_start, is_end, is_doctype, place_of, attributes_of}
use Rattle.html_grammar.specs.Tree.{Forest, Nil, Element, Words, nodes_from}
use Rattle.html_grammar.specs.Grammar.{skip_comments, skip_blank, behind_run, Closed, tag_as, raw_forest, Content, HeadPart}
use Rattle.html_grammar.specs.Grammar.{Begun, begun, behind_doctype, behind_end, html_begun, head_begun, body_begun, IsDocument}
use Rattle.html_grammar.specs.Spelling.{codes_of, IsTagName, IsTagEnd, IsAttributes, IsTag, IsStart, IsEndTag, IsCharacter}
use Rattle.html_grammar.specs.Spelling.{IsToken, IsLexed}

-- Tokens take at least so many characters.

abbrev pub cost : Token → ℕ
cost (Start tag) = 3
cost (Raw tag text) = 5
cost (End at m) = 1
cost (Comment at) = 1
cost (Doctype at) = 0
cost (Char at c s) = 1

abbrev pub costs : List Token → ℕ
costs [] = 0
costs (t ∷ ts) = cost t + costs ts

by_whole : (one white : List Place) (last : Place) → (one ≡ white ++ last ∷ [])
    ⊎ ((slash : Place) × (slash.character ≡ 47) × (one ≡ white ++ (slash ∷ (last ∷ [])))) → 1 ≤ length one
by_whole one white last (inl e) = omega (arith, ap length e, length-append white (last ∷ []))
by_whole one white last (inr (slash, is, e)) = omega (arith, ap length e, length-append white (slash ∷ (last ∷ [])))

end_length : (one : List Place) → IsTagEnd one → 1 ≤ length one
end_length one h = by_whole one h.white h.last h.whole

attributes_length : (attributes : List Attribute) (unknown bad : Option ℕ) (one rest : List Place)
    → IsAttributes attributes unknown bad one rest → 1 ≤ length one
attributes_length [] unknown bad one rest h = end_length one h.2
attributes_length (a ∷ others) unknown bad one rest
    (here, later, now, then, white, spelled, more, whole, spaces, split, marked, is, others_are) =
    omega (
      arith,
      ap length whole,
      length-append white (spelled ++ more),
      length-append spelled more,
      attributes_length others later then more rest others_are,
    )

name_length : (named : List Place) (name : List ℕ) → IsTagName named name → 1 ≤ length named
name_length [] name h = absurd h
name_length (p ∷ ps) name h = omega arith

tag_length : (tag : Tag) (one rest : List Place) → IsTag tag one rest → 3 ≤ length one
tag_length tag one rest h = omega (
  arith,
  ap length h.whole,
  length-append h.named h.more,
  name_length h.named tag.name h.name_is,
  attributes_length tag.attributes tag.unknown h.bad h.more rest h.attributes_are,
)

end_tag_length : (at : ℕ) (name : List ℕ) (one rest : List Place) → IsEndTag at name one rest → 3 ≤ length one
end_tag_length at name one rest h =
    omega (arith, ap length h.whole, length-append h.named (h.white ++ h.last ∷ []), length-append h.white (h.last ∷ []))

start_length : (tag : Tag) (one rest : List Place) → IsStart tag one rest → 3 ≤ length one
start_length tag one rest (inl h) = tag_length tag one rest h.0
start_length tag one rest (inr (tagged, feed, whole, is, takes)) =
    omega (arith, ap length whole, length-append tagged (feed ∷ []), tag_length tag tagged (feed ∷ rest) is)

some_codes : (ps : List Place) (c : ℕ) (cs : List ℕ) → codes_of ps ≡ c ∷ cs → 1 ≤ length ps
some_codes [] c cs h = absurd cc
some_codes (p ∷ ps) c cs h = omega arith

character_length : (at c : ℕ) (s : Spelled) (one rest : List Place) → IsCharacter at c s one rest → 1 ≤ length one
character_length at c Plain one rest (p, whole, stands, is, free) = omega (arith, ap length whole)
character_length at c Reference one rest (p, form, whole, stands, is, ref) = omega (arith, ap length whole)
character_length at c Unknown one rest (p, whole, stands, is, own, unknown) = omega (arith, ap length whole)

token_length : (t : Token) (one rest : List Place) → IsToken t one rest → cost t ≤ length one
token_length (Start tag) one rest h = start_length tag one rest h.1
token_length (Raw tag text) one rest h =
    let raw = h.1 in
    omega (
      arith,
      ap length raw.whole,
      length-append raw.tagged (raw.inner ++ raw.ending),
      length-append raw.inner raw.ending,
      tag_length tag raw.tagged (raw.inner ++ (raw.ending ++ rest)) raw.tag_is,
      end_tag_length raw.at raw.name raw.ending rest raw.end_is,
    )
token_length (End at m) one rest h = omega (arith, end_tag_length at m one rest h)
token_length (Comment at) one rest h =
    omega (arith, ap length h.whole, length-append h.opening (h.inner ++ h.closing), some_codes h.opening _ _ h.opens)
token_length (Doctype at) one rest h = omega arith
token_length (Char at c s) one rest h = character_length at c s one rest h.0

pub costs_fit : (toks : List Token) (ps : List Place) → IsLexed toks ps → costs toks ≤ length ps
costs_fit [] ps h = omega arith
costs_fit (t ∷ ts) ps (one, rest, whole, is, others) =
    omega (arith, ap length whole, length-append one rest, token_length t one rest is, costs_fit ts rest others)

-- Nodes.

-- how many nodes a tree has
abbrev pub node_count : Forest → ℕ
node_count Nil = 0
node_count (Element at m attrs kids next) = 1 + node_count kids + node_count next
node_count (Words at text next) = 1 + node_count next

-- 1 where a text stands in front
abbrev text_first : List Token → ℕ
text_first (Char at c s ∷ ts) = 1
text_first _ = 0

text_first_le : (toks : List Token) → text_first toks ≤ 1
text_first_le [] = omega arith
text_first_le (Start tag ∷ ts) = omega arith
text_first_le (Raw tag text ∷ ts) = omega arith
text_first_le (End at m ∷ ts) = omega arith
text_first_le (Comment at ∷ ts) = omega arith
text_first_le (Doctype at ∷ ts) = omega arith
text_first_le (Char at c s ∷ ts) = omega arith

comments_cost : (toks : List Token) → costs (skip_comments toks) + text_first (skip_comments toks) ≤ costs toks + text_first toks
comments_cost (Comment at ∷ ts) = omega (arith, comments_cost ts, text_first_le ts)
comments_cost _ = omega arith

run_cost : (toks : List Token) → costs (behind_run toks) + text_first (behind_run toks) ≤ costs toks
run_cost (Char at c s ∷ ts) = omega (arith, run_cost ts)
run_cost _ = omega arith

pick_cost : (b : Bool) (xs ys : List Token) (n : ℕ) → costs xs ≤ n → costs ys ≤ n → costs (cond b xs ys) ≤ n
pick_cost true xs ys n f g = f
pick_cost false xs ys n f g = g

blank_cost : (toks : List Token) → costs (skip_blank toks) ≤ costs toks
blank_cost [] = omega arith
blank_cost (t ∷ ts) = pick_cost (is_blank t) (skip_blank ts) (t ∷ ts) (costs (t ∷ ts)) (omega (arith, blank_cost ts))
    (omega arith)

end_by : (b : Bool) (at : ℕ) (n : List ℕ) (ts after : List Token) (P : Type 0)
    → MatchBool b (after ≡ ts) (P × (after ≡ End at n ∷ ts)) → costs after + text_first after ≤ 1 + costs ts
end_by true at n ts after P h = omega (arith, ap costs h, text_first_le after)
end_by false at n ts after P h = omega (arith, ap costs h.1, ap text_first h.1)

-- after an element whose end tag may be missing no text stands at once
closed_cost : (name : List ℕ) (toks after : List Token) → Closed name toks after → costs after + text_first after ≤ costs toks
closed_cost name [] after h = omega (arith, ap costs h.1, ap text_first h.1)
closed_cost name (Start tag ∷ ts) after h = omega (arith, ap costs h.1, ap text_first h.1)
closed_cost name (Raw tag text ∷ ts) after h = omega (arith, ap costs h.1, ap text_first h.1)
closed_cost name (End at n ∷ ts) after h = end_by (same n name) at n ts after _ h
closed_cost name (Comment at ∷ ts) after h = absurd h
closed_cost name (Doctype at ∷ ts) after h = absurd h
closed_cost name (Char at c s ∷ ts) after h = absurd h

raw_count : (text : Option Piece) → node_count (raw_forest text) ≤ 1
raw_count None = omega arith
raw_count (Some p) = omega arith

void_or_not : (b : Bool) (m : List ℕ) (kids : Forest) (inner after : List Token)
    → MatchBool b ((kids ≡ Nil) × (after ≡ inner)) ((end : List Token) × Content m kids inner end × Closed m end after)
    → ((end : List Token) → Content m kids inner end → 2 * node_count kids + costs end ≤ costs inner + text_first inner)
    → 2 * node_count kids + costs after + text_first after ≤ costs inner + 1
void_or_not true m kids inner after (none, same_rest) again =
    omega (arith, ap node_count none, ap costs same_rest, text_first_le after)
void_or_not false m kids inner after (end, content, closed) again =
    omega (arith, again end content, closed_cost m end after closed, text_first_le inner)

element_by : (m : List ℕ) (kids next : Forest) (toks rest inner after : List Token) (tag : Tag) (Q : Type 0)
    → ((skip_comments toks ≡ Start tag ∷ inner) × Q
    × MatchBool (is_void m) ((kids ≡ Nil) × (after ≡ inner))
    ((end : List Token) × Content m kids inner end × Closed m end after))
    ⊎ ((text : Option Piece) × (skip_comments toks ≡ Raw tag text ∷ inner) × (kids ≡ raw_forest text) × (after ≡ inner))
    → ((end : List Token) → Content m kids inner end → 2 * node_count kids + costs end ≤ costs inner + text_first inner)
    → 2 * node_count next + costs rest ≤ costs after + text_first after
    → 2 * (1 + node_count kids + node_count next) + costs rest ≤ costs toks + text_first toks
element_by m kids next toks rest inner after tag Q (inl (skipped, outer, inside)) again behind =
    omega (
      arith,
      comments_cost toks,
      ap costs skipped,
      ap text_first skipped,
      void_or_not (is_void m) m kids inner after inside again,
      behind,
    )
element_by m kids next toks rest inner after tag Q (inr (text, skipped, is, same_rest)) again behind =
    omega (
      arith,
      comments_cost toks,
      ap costs skipped,
      ap text_first skipped,
      ap node_count is,
      raw_count text,
      ap costs same_rest,
      text_first_le after,
      behind,
    )

content_count : (name : List ℕ) (f : Forest) (toks rest : List Token) → Content name f toks rest
    → 2 * node_count f + costs rest ≤ costs toks + text_first toks
content_count name Nil toks rest h = omega (arith, comments_cost toks, ap costs h)
content_count name (Words at text next) toks rest (c, s, more, skipped, is, others) =
    omega (
      arith,
      comments_cost toks,
      ap costs skipped,
      ap text_first skipped,
      run_cost more,
      content_count name next (behind_run more) rest others,
    )
content_count name (Element at m attrs kids next) toks rest (unknown, late, inner, after, closes, inside, others) =
    element_by m kids next toks rest inner after (tag_as at m attrs unknown late) _ inside
    (λ end content. content_count m kids inner end content) (content_count name next after rest others)

head_by : (kids next : Forest) (toks rest inner : List Token) (tag : Tag) (Q : Type 0)
    → ((skip_blank toks ≡ Start tag ∷ inner) × Q × (kids ≡ Nil))
    ⊎ ((text : Option Piece) × (skip_blank toks ≡ Raw tag text ∷ inner) × (kids ≡ raw_forest text))
    → 2 * node_count next + costs rest ≤ costs inner → 2 * (1 + node_count kids + node_count next) + costs rest ≤ costs toks
head_by kids next toks rest inner tag Q (inl (skipped, void, none)) behind =
    omega (arith, blank_cost toks, ap costs skipped, ap node_count none, behind)
head_by kids next toks rest inner tag Q (inr (text, skipped, is)) behind =
    omega (arith, blank_cost toks, ap costs skipped, ap node_count is, raw_count text, behind)

head_count : (f : Forest) (toks rest : List Token) → HeadPart f toks rest → 2 * node_count f + costs rest ≤ costs toks
head_count Nil toks rest h = omega (arith, blank_cost toks, ap costs h.0)
head_count (Words at text next) toks rest h = absurd h
head_count (Element at m attrs kids next) toks rest (unknown, late, inner, cases, others) =
    head_by kids next toks rest inner (tag_as at m attrs unknown late) _ cases (head_count next inner rest others)

doctype_cost : (toks : List Token) → costs (behind_doctype toks) ≤ costs toks
doctype_cost [] = omega arith
doctype_cost (t ∷ ts) = pick_cost (is_doctype t) ts (t ∷ ts) (costs (t ∷ ts)) (omega arith) (omega arith)

end_cost : (name : List ℕ) (toks : List Token) → costs (behind_end name toks) ≤ costs toks
end_cost name [] = omega arith
end_cost name (t ∷ ts) = pick_cost (is_end name t) ts (t ∷ ts) (costs (t ∷ ts)) (omega arith) (omega arith)

pick_inner : (b : Bool) (x y : Begun) (n : ℕ) → costs x.inner ≤ n → costs y.inner ≤ n → costs (cond b x y).inner ≤ n
pick_inner true x y n f g = f
pick_inner false x y n f g = g

begun_cost : (name : List ℕ) (size : ℕ) (toks : List Token) → costs (begun name size toks).inner ≤ costs toks
begun_cost name size [] = omega arith
begun_cost name size (t ∷ ts) =
    pick_inner (is_start name t) (record { at = place_of t; attributes = attributes_of t; inner = ts })
    (record { at = place_of t; attributes = []; inner = t ∷ ts }) (costs (t ∷ ts)) (omega arith) (omega arith)

pub document_count : (size : ℕ) (toks : List Token) (tree : Forest) → IsDocument size toks tree
    → 2 * node_count tree ≤ costs toks + 7
document_count size toks tree h =
    let first = skip_blank (behind_doctype (skip_blank toks)) in
    let a = html_begun size toks in
    let b = head_begun size toks in
    let c = body_begun size h.past in
    let opening : costs first ≤ costs toks =
    omega (arith, blank_cost (behind_doctype (skip_blank toks)), doctype_cost (skip_blank toks), blank_cost toks) in
    let html : costs a.inner ≤ costs first = begun_cost (codes "html") size first in
    let head : costs b.inner ≤ costs a.inner =
    omega (arith, begun_cost (codes "head") size (skip_blank a.inner), blank_cost a.inner) in
    let body : costs c.inner ≤ costs h.past =
    omega (
      arith,
      begun_cost (codes "body") size (skip_blank (behind_end (codes "head") h.past)),
      blank_cost (behind_end (codes "head") h.past),
      end_cost (codes "head") h.past,
    ) in
    omega (
      arith,
      ap node_count h.whole,
      head_count h.head_kids b.inner h.past h.head_part,
      content_count (codes "body") h.kids c.inner h.end h.content,
      text_first_le c.inner,
    )

pub nodes_length : (parent : Option ℕ) (k : ℕ) (f : Forest) → length (nodes_from parent k f) ≡ node_count f
nodes_length parent k Nil = refl
nodes_length parent k (Element at m attrs kids next) =
    let inside = nodes_from (Some k) (suc k) kids in
    let behind = nodes_from parent (suc k + length inside) next in
    omega (
      arith,
      length-append inside behind,
      nodes_length (Some k) (suc k) kids,
      nodes_length parent (suc k + length inside) next,
    )
nodes_length parent k (Words at text next) = omega (arith, nodes_length parent (suc k) next)
