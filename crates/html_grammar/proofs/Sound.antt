-- What is read is a document.
use Rattle.std.proofs.Common.{◌≡◌, ℕ, zero, suc, ◌+◌, ◌≤◌, List, [], ◌∷◌, ◌++◌, length, Option, Some, Result, Ok, Bool, true}
use Rattle.std.proofs.Common.{false, cond, refl, sym, ap, ◌∙◌, arith, inl, inr}
use Rattle.std.specs.Prelude.{max, encode_utf8, codes}
use Rattle.std.proofs.lemmas.Bool.{and_parts}
use Rattle.mc_base.specs.Reading.{◌>>=◌, fault}
use Rattle.html_grammar.specs.declared.dom.DomNode.{DomNode}
use Rattle.html_grammar.specs.declared.stage.Open.{Open}
use Rattle.mc_base.specs.declared.read_error.Fault.{Fault}
use Rattle.html_grammar.specs.declared.token.Piece.{Piece}
use Rattle.html_grammar.specs.declared.token.Spelled.{Spelled}
use Rattle.html_grammar.specs.declared.token.Tag.{Tag}
use Rattle.html_grammar.specs.declared.token.Token.{Token}
use Rattle.html_grammar.specs.declared.token.Token.TheVariants.{Start, Raw, End, Comment, Doctype, Char}
use Rattle.html_grammar.specs.Names.{same, is_outer, is_void, omits, closes}
use Rattle.html_grammar.specs.Tokens.{is_white}
use Rattle.html_grammar.specs.Tree.{Forest, Nil, Element, Words, element_node}
use Rattle.html_grammar.specs.Grammar.{skip_comments, skip_blank, run_text, behind_run, Closed, Content, raw_forest, behind_end}
use Rattle.html_grammar.specs.Grammar.{html_begun, head_begun, body_begun, whole_tree, IsDocument}
use Rattle.html_grammar.specs.Machine.{Built, drop_closed, started, raw_put, without, ended, all_omit, built}
use Rattle.html_grammar.specs.Laws.{built_as}
use Rattle.html_grammar.proofs.Steps.{run, at_rest, open_as, over_text}
use Rattle.html_grammar.proofs.Stages.{head_forest, with_head, body_tokens, past_head, built_is_body}
use Rattle.html_grammar.proofs.Heads.{head_part_of}
use Rattle.html_grammar.proofs.Whole.{document_is_read}

-- after the body: nothing but blank tokens, and the end of html if that is to come
abbrev pub Ending : Bool → List Token → Type 0
Ending true toks = skip_blank (behind_end (codes "html") (skip_blank toks)) ≡ []
Ending false toks = skip_blank toks ≡ []

-- the elements that are open, the innermost first, have some content and their ends, and then nothing follows
abbrev pub Ends : Bool → List Open → List Token → Type 0
Ends html [] toks = Ending html toks
Ends html (o ∷ os) toks = (f : Forest) × (end : List Token) × (after : List Token) × Content o.name f toks end
    × Closed o.name end after × Ends html os after

-- a run over these tokens that comes to its end has found a tree
abbrev pub Sound : ℕ → List Token → Type 0
Sound size toks = (nodes : List DomNode) (opens : List Open) (html : Bool) (d : ℕ) (all : Built)
    → run size (at_rest nodes opens html d) toks ≡ Ok all → Ends html opens toks

ending_nothing : (html : Bool) → Ending html []
ending_nothing true = refl
ending_nothing false = refl

nothing_left : (html : Bool) (opens : List Open) → all_omit opens ≡ true → Ends html opens []
nothing_left html [] h = ending_nothing html
nothing_left html (o ∷ os) h = let p = and_parts (omits o.name) (all_omit os) h
    in (Nil, [], [], refl, (p.0, refl), nothing_left html os p.1)

at_end : (size : ℕ) → Sound size []
at_end size nodes opens html d all h = by_test (all_omit opens) refl h
  where
    by_test : (b : Bool) → all_omit opens ≡ b → cond b (Ok (record { nodes = nodes; deepest = d })) (fault size 7) ≡ Ok all
        → Ends html opens []
    by_test true is h = nothing_left html opens is
    by_test false is h = absurd cc

content_comment : (name : List ℕ) (f : Forest) (at : ℕ) (toks rest : List Token) → Content name f toks rest
    → Content name f (Comment at ∷ toks) rest
content_comment name Nil at toks rest h = h
content_comment name (Element a m attrs kids next) at toks rest h = h
content_comment name (Words a text next) at toks rest h = h

ending_comment : (html : Bool) (at : ℕ) (toks : List Token) → Ending html toks → Ending html (Comment at ∷ toks)
ending_comment true at toks h = h
ending_comment false at toks h = h

ends_comment : (html : Bool) (opens : List Open) (at : ℕ) (toks : List Token) → Ends html opens toks
    → Ends html opens (Comment at ∷ toks)
ends_comment html [] at toks h = ending_comment html at toks h
ends_comment html (o ∷ os) at toks h = (h.0, h.1, h.2, content_comment o.name h.0 at toks h.1 h.3, h.4, h.5)

-- an innermost element ends, and its content with it
ended_here : (html : Bool) (o : Open) (os : List Open) (toks after : List Token) → skip_comments toks ≡ toks
    → Closed o.name toks after → Ends html os after → Ends html (o ∷ os) toks
ended_here html o os toks after e closed rest = (Nil, toks, after, e, closed, rest)

with_void : (html : Bool) (tag : Tag) (o : Open) (os : List Open) (ts : List Token) → closes tag.name o.name ≡ false
    → is_outer tag.name ≡ false → is_void tag.name ≡ true
    → Ends html (o ∷ os) ts → Ends html (o ∷ os) (Start tag ∷ ts)
with_void html tag o os ts stays inner empty h = (
  Element tag.at tag.name tag.attributes Nil h.0,
  h.1,
  h.2,
  (tag.unknown, tag.late, ts, ts, stays, inl (refl, inner, rw empty (refl, refl)), h.3),
  h.4,
  h.5,
)

with_element : (html : Bool) (tag : Tag) (k : ℕ) (o : Open) (os : List Open) (ts : List Token) → closes tag.name o.name ≡ false
    → is_outer tag.name ≡ false → is_void tag.name ≡ false
    → Ends html (open_as k tag.name ∷ o ∷ os) ts → Ends html (o ∷ os) (Start tag ∷ ts)
with_element html tag k o os ts stays inner full h = (
  Element tag.at tag.name tag.attributes h.0 h.5.0,
  h.5.1,
  h.5.2,
  (tag.unknown, tag.late, ts, h.2, stays, inl (refl, inner, rw full (h.1, h.3, h.4)), h.5.3),
  h.5.4,
  h.5.5,
)

with_raw_element : (html : Bool) (tag : Tag) (text : Option Piece) (o : Open) (os : List Open) (ts : List Token)
    → closes tag.name o.name ≡ false
    → Ends html (o ∷ os) ts → Ends html (o ∷ os) (Raw tag text ∷ ts)
with_raw_element html tag text o os ts stays h = (
  Element tag.at tag.name tag.attributes (raw_forest text) h.0,
  h.1,
  h.2,
  (tag.unknown, tag.late, ts, ts, stays, inr (text, refl, refl, refl), h.3),
  h.4,
  h.5,
)

at_start : (size : ℕ) (tag : Tag) (ts : List Token) (nodes : List DomNode) (html : Bool) (d : ℕ) (all : Built) → Sound size ts
    → (all_opens opens : List Open)
    → (started (at_rest nodes all_opens html d) nodes tag (drop_closed tag.name opens) >>= λ next. run size next ts) ≡ Ok all
    → Ends html opens (Start tag ∷ ts)
at_start size tag ts nodes html d all sound all_opens [] h = absurd cc
at_start size tag ts nodes html d all sound all_opens (o ∷ os) h =
    by_close (at_start size tag ts nodes html d all sound all_opens os) (closes tag.name o.name) refl h
  where
    by_void : closes tag.name o.name ≡ false → is_outer tag.name ≡ false → (b : Bool) → is_void tag.name ≡ b
        → run size (at_rest (nodes ++ element_node (Some o.number) tag.at tag.name tag.attributes ∷ [])
        (cond b (o ∷ os) (open_as (length nodes) tag.name ∷ o ∷ os)) html (max d (length (o ∷ os) + 2))) ts ≡ Ok all
        → Ends html (o ∷ os) (Start tag ∷ ts)
    by_void stays inner true is h = with_void html tag o os ts stays inner is (sound _ _ _ _ _ h)
    by_void stays inner false is h = with_element html tag (length nodes) o os ts stays inner is (sound _ _ _ _ _ h)

    by_outer : closes tag.name o.name ≡ false → (b : Bool) → is_outer tag.name ≡ b
        → (cond b (fault tag.at 8) (Ok
        (at_rest (nodes ++ element_node (Some o.number) tag.at tag.name tag.attributes ∷ [])
        (cond (is_void tag.name) (o ∷ os) (open_as (length nodes) tag.name ∷ o ∷ os)) html
        (max d (length (o ∷ os) + 2)))) >>= λ next. run size next ts) ≡ Ok all
        → Ends html (o ∷ os) (Start tag ∷ ts)
    by_outer stays true is h = absurd cc
    by_outer stays false is h = by_void stays is (is_void tag.name) refl h

    by_close : ((started (at_rest nodes all_opens html d) nodes tag (drop_closed tag.name os) >>= λ next. run size next ts)
        ≡ Ok all → Ends html os (Start tag ∷ ts)) → (b : Bool) → closes tag.name o.name ≡ b
        → (started (at_rest nodes all_opens html d) nodes tag (cond b (drop_closed tag.name os) (o ∷ os)) >>= λ next.
        run size next ts) ≡ Ok all → Ends html (o ∷ os) (Start tag ∷ ts)
    by_close below true is h = ended_here html o os (Start tag ∷ ts) (Start tag ∷ ts) refl (is, refl) (below h)
    by_close below false is h = by_outer is (is_outer tag.name) refl h

at_raw : (size : ℕ) (tag : Tag) (text : Option Piece) (ts : List Token) (nodes : List DomNode) (html : Bool) (d : ℕ) (all : Built)
    → Sound size ts → (all_opens opens : List Open)
    → (raw_put (at_rest nodes all_opens html d) nodes tag text (drop_closed tag.name opens) >>= λ next. run size next ts) ≡ Ok all
    → Ends html opens (Raw tag text ∷ ts)
at_raw size tag text ts nodes html d all sound all_opens [] h = absurd cc
at_raw size tag text ts nodes html d all sound all_opens (o ∷ os) h =
    by_close (at_raw size tag text ts nodes html d all sound all_opens os) (closes tag.name o.name) refl h
  where
    by_close : ((raw_put (at_rest nodes all_opens html d) nodes tag text (drop_closed tag.name os) >>= λ next. run size next ts)
        ≡ Ok all → Ends html os (Raw tag text ∷ ts)) → (b : Bool) → closes tag.name o.name ≡ b
        → (raw_put (at_rest nodes all_opens html d) nodes tag text (cond b (drop_closed tag.name os) (o ∷ os)) >>= λ next.
        run size next ts) ≡ Ok all → Ends html (o ∷ os) (Raw tag text ∷ ts)
    by_close below true is h = ended_here html o os (Raw tag text ∷ ts) (Raw tag text ∷ ts) refl (is, refl) (below h)
    by_close below false is h = with_raw_element html tag text o os ts is (sound _ _ _ _ _ h)

at_end_tag : (size at : ℕ) (m : List ℕ) (ts : List Token) (nodes : List DomNode) (html : Bool) (d : ℕ) (all : Built)
    → Sound size ts → (all_opens opens : List Open)
    → ((without at m html opens >>= ended (at_rest nodes all_opens html d) nodes) >>= λ next. run size next ts) ≡ Ok all
    → Ends html opens (End at m ∷ ts)
at_end_tag size at m ts nodes true d all sound all_opens [] h = by_name (same m (codes "html")) refl h
  where
    by_name : (b : Bool) → same m (codes "html") ≡ b
        → ((cond b (Ok ([], false)) (fault at 6) >>= ended (at_rest nodes all_opens true d) nodes) >>= λ next. run size next ts)
        ≡ Ok all → Ends true [] (End at m ∷ ts)
    by_name true is h = ap (λ (b : Bool). skip_blank (cond b ts (End at m ∷ ts))) is ∙ sound _ _ _ _ _ h
    by_name false is h = absurd cc
at_end_tag size at m ts nodes false d all sound all_opens [] h = absurd cc
at_end_tag size at m ts nodes html d all sound all_opens (o ∷ os) h =
    by_name (at_end_tag size at m ts nodes html d all sound all_opens os) (same m o.name) refl h
  where
    by_omission : (((without at m html os >>= ended (at_rest nodes all_opens html d) nodes) >>= λ next. run size next ts) ≡ Ok all
        → Ends html os (End at m ∷ ts)) → same m o.name ≡ false → (b : Bool) → omits o.name ≡ b
        → ((cond b (without at m html os) (fault at 6) >>= ended (at_rest nodes all_opens html d) nodes) >>= λ next.
        run size next ts) ≡ Ok all → Ends html (o ∷ os) (End at m ∷ ts)
    by_omission below other true is h = ended_here html o os (End at m ∷ ts) (End at m ∷ ts) refl (rw other (is, refl)) (below h)
    by_omission below other false is h = absurd cc

    by_name : (((without at m html os >>= ended (at_rest nodes all_opens html d) nodes) >>= λ next. run size next ts) ≡ Ok all
        → Ends html os (End at m ∷ ts)) → (b : Bool) → same m o.name ≡ b
        → ((cond b (Ok (os, html)) (cond (omits o.name) (without at m html os) (fault at 6)) >>= ended
        (at_rest nodes all_opens html d) nodes) >>= λ next. run size next ts) ≡ Ok all
        → Ends html (o ∷ os) (End at m ∷ ts)
    by_name below true is h = ended_here html o os (End at m ∷ ts) ts refl (rw is refl) (sound _ _ _ _ _ h)
    by_name below false is h = by_omission below is (omits o.name) refl h

at_text : (html : Bool) (at c : ℕ) (s : Spelled) (ts : List Token) (o : Open) (os : List Open)
    → Ends html (o ∷ os) (behind_run ts) → Ends html (o ∷ os) (Char at c s ∷ ts)
at_text html at c s ts o os h = (Words at (encode_utf8 c ++ run_text ts) h.0, h.1, h.2, (c, s, ts, refl, refl, h.3), h.4, h.5)

length_behind : (ts : List Token) → length (behind_run ts) ≤ length ts
length_behind (Char at c s ∷ ts) = let h = length_behind ts in omega arith
length_behind _ = omega arith

ending_white : (html : Bool) (at c : ℕ) (s : Spelled) (ts : List Token) → is_white c s ≡ true → Ending html ts
    → Ending html (Char at c s ∷ ts)
ending_white true at c s ts is h =
    ap (λ (b : Bool). skip_blank (behind_end (codes "html") (cond b (skip_blank ts) (Char at c s ∷ ts)))) is ∙ h
ending_white false at c s ts is h = ap (λ (b : Bool). cond b (skip_blank ts) (Char at c s ∷ ts)) is ∙ h

outside : (size at c : ℕ) (s : Spelled) (ts : List Token) (nodes : List DomNode) (html : Bool) (d : ℕ) (all : Built)
    → Sound size ts → run size (at_rest nodes [] html d) (Char at c s ∷ ts) ≡ Ok all → Ends html [] (Char at c s ∷ ts)
outside size at c s ts nodes html d all sound h = by_white (is_white c s) refl h
  where
    by_white : (b : Bool) → is_white c s ≡ b → (cond b (Ok (at_rest nodes [] html d)) (fault at 8) >>= λ next. run size next ts)
        ≡ Ok all → Ends html [] (Char at c s ∷ ts)
    by_white true is h = ending_white html at c s ts is (sound nodes [] html d all h)
    by_white false is h = absurd cc

pub sound_within : (n size : ℕ) (toks : List Token) → length toks ≤ n → Sound size toks
sound_within n size [] le = at_end size
sound_within zero size (t ∷ ts) le = absurd (omega arith)
sound_within (suc n) size (Comment at ∷ ts) le =
    λ nodes opens html d all h. ends_comment html opens at ts (sound_within n size ts (omega arith) nodes opens html d all h)
sound_within (suc n) size (Start tag ∷ ts) le =
    λ nodes opens html d all h. at_start size tag ts nodes html d all (sound_within n size ts (omega arith)) opens opens h
sound_within (suc n) size (Raw tag text ∷ ts) le =
    λ nodes opens html d all h. at_raw size tag text ts nodes html d all (sound_within n size ts (omega arith)) opens opens h
sound_within (suc n) size (End at m ∷ ts) le =
    λ nodes opens html d all h. at_end_tag size at m ts nodes html d all (sound_within n size ts (omega arith)) opens opens h
sound_within (suc n) size (Doctype at ∷ ts) le = λ nodes opens html d all h. absurd cc
sound_within (suc n) size (Char at c s ∷ ts) le =
    by_opens (sound_within n size ts (omega arith)) (sound_within n size (behind_run ts) (omega (arith, length_behind ts)))
  where
    by_opens : Sound size ts → Sound size (behind_run ts)
        → (nodes : List DomNode) (opens : List Open) (html : Bool) (d : ℕ) (all : Built)
        → run size (at_rest nodes opens html d) (Char at c s ∷ ts) ≡ Ok all → Ends html opens (Char at c s ∷ ts)
    by_opens a b nodes [] html d all h = outside size at c s ts nodes html d all a h
    by_opens a b nodes (o ∷ os) html d all h =
        at_text html at c s ts o os (b _ _ _ _ _ (sym (over_text size nodes at (encode_utf8 c) o os html d ts) ∙ h))

-- the document that was read
pub document_of : (size : ℕ) (toks : List Token) (all : Built) → built size toks ≡ Ok all
    → (tree : Forest) × IsDocument size toks tree
document_of size toks all h =
    made (sound_within (length (body_tokens size toks)) size (body_tokens size toks) (omega arith) _ _ _ _ all
    (sym (built_is_body size toks) ∙ h))
  where
    made : Ends true (open_as (length (with_head size toks)) (codes "body") ∷ []) (body_tokens size toks)
        → (tree : Forest) × IsDocument size toks tree
    made e = (
      whole_tree (html_begun size toks) (head_begun size toks) (head_forest (head_begun size toks).inner)
          (body_begun size (past_head size toks)) e.0,
      record {
        head_kids = head_forest (head_begun size toks).inner;
        past = past_head size toks;
        kids = e.0;
        end = e.1;
        after = e.2;
        head_part = head_part_of (head_begun size toks).inner;
        content = e.3;
        closed = e.4;
        nothing = e.5;
        whole = refl;
      },
    )

abbrev read_as : Built → Result Built Fault
read_as x = Ok x

only_built : (x y : Built) → read_as x ≡ read_as y → x ≡ y
only_built x y e = cc

pub tree_of : (size : ℕ) (toks : List Token) (all : Built) → built size toks ≡ Ok all
    → (tree : Forest) × IsDocument size toks tree × (all ≡ built_as tree)
tree_of size toks all h = let d = document_of size toks all h
    in (d.0, d.1, only_built all (built_as d.0) (sym h ∙ document_is_read size toks d.0 d.1))
