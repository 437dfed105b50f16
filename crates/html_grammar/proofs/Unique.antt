-- Tokens have at most one tree.
use Rattle.std.proofs.Common.{◌≡◌, ℕ, List, [], ◌∷◌, ◌++◌, Option, Bool, true, false, refl, sym, ap, subst, ◌∙◌, inl, inr}
use Rattle.std.specs.Prelude.{IsTrue, MatchBool, encode_utf8, codes}
use Rattle.std.proofs.lemmas.Bool.{true≢false}
use Rattle.html_grammar.specs.declared.dom.Attribute.{Attribute}
use Rattle.mc_base.specs.declared.read_error.Fault.{Fault}
use Rattle.html_grammar.specs.declared.token.Piece.{Piece}
use Rattle.html_grammar.specs.declared.token.Spelled.{Spelled}
use Rattle.html_grammar.specs.declared.token.Tag.{Tag}
use Rattle.html_grammar.specs.declared.token.Token.{Token}
use Rattle.html_grammar.specs.declared.token.Token.TheVariants.{Start, Raw, End, Comment, Doctype, Char}
use Rattle.html_grammar.specs.Names.{same, is_void, omits, closes}
use Rattle.html_grammar.specs.Tree.{Forest, Nil, Element, Words}
use Rattle.html_grammar.specs.Grammar.{skip_comments, run_text, behind_run, Closed, Content, tag_as, raw_forest, html_begun}
use Rattle.html_grammar.specs.Grammar.{head_begun, body_begun, whole_tree, IsDocument}
use Rattle.html_grammar.proofs.Complete.{Form}
use Rattle.html_grammar.proofs.Heads.{head_part_is}

pub record Alike (f g : Forest) (end end' after after' : List Token) : Type 0 where
  pub forests : f ≡ g
  pub ends : end ≡ end'
  pub afters : after ≡ after'

closed_once : (name : List ℕ) (end after after' : List Token) → Closed name end after → Closed name end after' → after ≡ after'
closed_once name [] after after' h g = h.1 ∙ sym g.1
closed_once name (Start tag ∷ ts) after after' h g = h.1 ∙ sym g.1
closed_once name (Raw tag text ∷ ts) after after' h g = h.1 ∙ sym g.1
closed_once name (End at m ∷ ts) after after' h g = by_name (same m name) h g
  where
    by_name : (b : Bool) → MatchBool b (after ≡ ts) (IsTrue (omits name) × (after ≡ End at m ∷ ts))
        → MatchBool b (after' ≡ ts) (IsTrue (omits name) × (after' ≡ End at m ∷ ts)) → after ≡ after'
    by_name true h g = h ∙ sym g
    by_name false h g = h.1 ∙ sym g.1
closed_once name (Comment at ∷ ts) after after' h g = absurd h
closed_once name (Doctype at ∷ ts) after after' h g = absurd h
closed_once name (Char at c s ∷ ts) after after' h g = absurd h

abbrev Once : List ℕ → Forest → Type 0
Once name f = (g : Forest) (toks end end' after after' : List Token) → Content name f toks end → Closed name end after
    → Content name g toks end' → Closed name end' after' → Alike f g end end' after after'

no_words_behind : {P : Type 0} (name : List ℕ) (at c : ℕ) (s : Spelled) (skipped more end after : List Token) → skipped ≡ end
    → skipped ≡ Char at c s ∷ more → Closed name end after → P
no_words_behind name at c s skipped more end after e f h = absurd (subst (λ (x : List Token). Closed name x after) (sym e ∙ f) h)

no_element_behind : {P : Type 0} (name : List ℕ) (at : ℕ) (m : List ℕ) (attrs : List Attribute) (kids : Forest)
    (skipped end after : List Token) (unknown : Option ℕ) (late : Option Fault) (inner behind : List Token)
    → skipped ≡ end → closes m name ≡ false → Form at m attrs kids skipped unknown late inner behind → Closed name end after → P
no_element_behind name at m attrs kids skipped end after unknown late inner behind e stays (inl g) h =
    let c = subst (λ (x : List Token). Closed name x after) (sym e ∙ g.0) h in absurd (true≢false (sym c.0 ∙ stays))
no_element_behind name at m attrs kids skipped end after unknown late inner behind e stays (inr g) h =
    let c = subst (λ (x : List Token). Closed name x after) (sym e ∙ g.1) h in absurd (true≢false (sym c.0 ∙ stays))

no_words_as_element : {P : Type 0} (at c : ℕ) (s : Spelled) (at' : ℕ) (m : List ℕ) (attrs : List Attribute) (kids : Forest)
    (skipped more : List Token) (unknown : Option ℕ) (late : Option Fault) (inner behind : List Token)
    → skipped ≡ Char at c s ∷ more → Form at' m attrs kids skipped unknown late inner behind → P
no_words_as_element at c s at' m attrs kids skipped more unknown late inner behind e (inl g) = let f = g.0 in absurd cc
no_words_as_element at c s at' m attrs kids skipped more unknown late inner behind e (inr g) = let f = g.1 in absurd cc

abbrev Inside : List ℕ → Forest → List Token → List Token → Type 0
Inside m kids inner after = MatchBool (is_void m) ((kids ≡ Nil) × (after ≡ inner))
    ((end : List Token) × Content m kids inner end × Closed m end after)

inside_once : (m : List ℕ) (kids kids' : Forest) (inner after after' : List Token) → Once m kids → Inside m kids inner after
    → Inside m kids' inner after' → (kids ≡ kids') × (after ≡ after')
inside_once m kids kids' inner after after' once h g = by_void (is_void m) h g
  where
    by_void : (b : Bool) → MatchBool b ((kids ≡ Nil) × (after ≡ inner))
        ((end : List Token) × Content m kids inner end × Closed m end after)
        → MatchBool b ((kids' ≡ Nil) × (after' ≡ inner)) ((end : List Token) × Content m kids' inner end × Closed m end after')
        → (kids ≡ kids') × (after ≡ after')
    by_void true h g = (h.0 ∙ sym g.0, h.1 ∙ sym g.1)
    by_void false h g = let a = once kids' inner h.0 g.0 after after' h.1 h.2 g.1 g.2 in (a.forests, a.afters)

words_once : (name : List ℕ) (at at' c c' : ℕ) (s s' : Spelled) (text text' : List ℕ) (next next' : Forest)
    (skipped more more' end end' after after' : List Token) → Once name next
    → skipped ≡ Char at c s ∷ more → text ≡ encode_utf8 c ++ run_text more → Content name next (behind_run more) end
    → Closed name end after
    → skipped ≡ Char at' c' s' ∷ more' → text' ≡ encode_utf8 c' ++ run_text more' → Content name next' (behind_run more') end'
    → Closed name end' after'
    → Alike (Words at text next) (Words at' text' next') end end' after after'
words_once name at at' c c' s s' text text' next next' skipped more more' end end' after after' once e t h hc e' t' g gc =
    let same_more : more' ≡ more = cc in
    let same_char : c ≡ c' = cc in
    let same_text : text ≡ text' = t ∙ ap (λ (x : ℕ). encode_utf8 x ++ run_text more) same_char
    ∙ ap (λ (x : List Token). encode_utf8 c' ++ run_text x) (sym same_more) ∙ sym t' in
    let same_at : at ≡ at' = cc in
    let a = once next' (behind_run more) end end' after after' h hc
    (subst (λ (x : List Token). Content name next' (behind_run x) end') same_more g) gc in
    let f : next ≡ next' = a.forests in
    record {
      forests = ap (λ (x : ℕ). Words x text next) same_at ∙ ap (λ (x : List ℕ). Words at' x next) same_text
          ∙ ap (λ (x : Forest). Words at' text' x) f;
      ends = a.ends;
      afters = a.afters;
    }

-- what two forms of one element agree on
record Same (at at' : ℕ) (m m' : List ℕ) (attrs attrs' : List Attribute) (kids kids' : Forest) (after after' : List Token) :
    Type 0 where
  ats : at ≡ at'
  names : m ≡ m'
  attributes : attrs ≡ attrs'
  inner : kids ≡ kids'
  afters : after ≡ after'

first_of : (t t' : Token) (ts ts' : List Token) → t ∷ ts ≡ t' ∷ ts' → t ≡ t'
first_of t t' ts ts' e = cc

rest_of : (t t' : Token) (ts ts' : List Token) → t ∷ ts ≡ t' ∷ ts' → ts ≡ ts'
rest_of t t' ts ts' e = cc

abbrev started : Tag → Token
started tag = Start tag

abbrev raw : Tag → Option Piece → Token
raw tag text = Raw tag text

same_tag : (a b : Tag) → started a ≡ started b → a ≡ b
same_tag a b e = cc

same_raw : (a b : Tag) (p q : Option Piece) → raw a p ≡ raw b q → a ≡ b
same_raw a b p q e = cc

same_piece : (a b : Tag) (p q : Option Piece) → raw a p ≡ raw b q → p ≡ q
same_piece a b p q e = cc

form_once : (at at' : ℕ) (m m' : List ℕ) (attrs attrs' : List Attribute) (kids kids' : Forest) (skipped : List Token)
    (unknown unknown' : Option ℕ) (late late' : Option Fault) (inner inner' after after' : List Token)
    → Once m kids → Form at m attrs kids skipped unknown late inner after
    → Form at' m' attrs' kids' skipped unknown' late' inner' after' → Same at at' m m' attrs attrs' kids kids' after after'
form_once at at' m m' attrs attrs' kids kids' skipped unknown unknown' late late' inner inner' after after' once (inl h) (inl g) =
    let e = sym h.0 ∙ g.0 in
    let tags = same_tag (tag_as at m attrs unknown late) (tag_as at' m' attrs' unknown' late') (first_of _ _ inner inner' e) in
    let names : m ≡ m' = ap (λ (x : Tag). x.name) tags in
    let rests : inner ≡ inner' = rest_of _ _ inner inner' e in
    let i = inside_once m kids kids' inner after after' once h.2
    (subst (λ (x : List ℕ). Inside x kids' inner after') (sym names)
    (subst (λ (x : List Token). Inside m' kids' x after') (sym rests) g.2)) in
    record {
      ats = ap (λ (x : Tag). x.at) tags;
      names = names;
      attributes = ap (λ (x : Tag). x.attributes) tags;
      inner = i.0;
      afters = i.1;
    }
form_once at at' m m' attrs attrs' kids kids' skipped unknown unknown' late late' inner inner' after after' once (inl h) (inr g) =
    let e = h.0 in let f = g.1 in absurd cc
form_once at at' m m' attrs attrs' kids kids' skipped unknown unknown' late late' inner inner' after after' once (inr h) (inl g) =
    let e = h.1 in let f = g.0 in absurd cc
form_once at at' m m' attrs attrs' kids kids' skipped unknown unknown' late late' inner inner' after after' once (inr h) (inr g) =
    let e = sym h.1 ∙ g.1 in
    let f = first_of _ _ inner inner' e in
    let tags = same_raw (tag_as at m attrs unknown late) (tag_as at' m' attrs' unknown' late') h.0 g.0 f in
    let texts = same_piece (tag_as at m attrs unknown late) (tag_as at' m' attrs' unknown' late') h.0 g.0 f in
    let rests : inner ≡ inner' = rest_of _ _ inner inner' e in
    record {
      ats = ap (λ (x : Tag). x.at) tags;
      names = ap (λ (x : Tag). x.name) tags;
      attributes = ap (λ (x : Tag). x.attributes) tags;
      inner = h.2 ∙ ap raw_forest texts ∙ sym g.2;
      afters = h.3 ∙ rests
          ∙ sym g.3;
    }

element_once : (name : List ℕ) (at at' : ℕ) (m m' : List ℕ) (attrs attrs' : List Attribute) (kids kids' next next' : Forest)
    (behind behind' end end' after after' : List Token) → Once name next
    → Same at at' m m' attrs attrs' kids kids' behind behind' → Content name next behind end → Closed name end after
    → Content name next' behind' end' → Closed name end' after'
    → Alike (Element at m attrs kids next) (Element at' m' attrs' kids' next') end end' after after'
element_once name at at' m m' attrs attrs' kids kids' next next' behind behind' end end' after after' once s h hc g gc =
    let a = once next' behind end end' after after' h hc
    (subst (λ (x : List Token). Content name next' x end') (sym s.afters) g) gc in
    record {
      forests = ap (λ (x : ℕ). Element x m attrs kids next) s.ats ∙ ap (λ (x : List ℕ). Element at' x attrs kids next) s.names
          ∙ ap (λ (x : List Attribute). Element at' m' x kids next) s.attributes
          ∙ ap (λ (x : Forest). Element at' m' attrs' x next) s.inner
          ∙ ap (λ (x : Forest). Element at' m' attrs' kids' x) a.forests;
      ends = a.ends;
      afters = a.afters;
    }

pub content_once : (name : List ℕ) (f : Forest) → Once name f
content_once name Nil Nil toks end end' after after' h hc g gc =
    let e : end ≡ end' = sym h ∙ g in
    record {
      forests = refl;
      ends = e;
      afters = closed_once name end' after after' (subst (λ (x : List Token). Closed name x after) e hc) gc;
    }
content_once name Nil (Words at text next) toks end end' after after' h hc g gc =
    no_words_behind name at g.0 g.1 (skip_comments toks) g.2 end after h g.3 hc
content_once name Nil (Element at m attrs kids next) toks end end' after after' h hc g gc =
    no_element_behind name at m attrs kids (skip_comments toks) end after g.0 g.1 g.2 g.3 h g.4 g.5 hc
content_once name (Words at text next) Nil toks end end' after after' h hc g gc =
    no_words_behind name at h.0 h.1 (skip_comments toks) h.2 end' after' g h.3 gc
content_once name (Words at text next) (Words at' text' next') toks end end' after after' h hc g gc =
    words_once name at at' h.0 g.0 h.1 g.1 text text' next next' (skip_comments toks) h.2 g.2 end end' after after'
    (content_once name next) h.3 h.4 h.5 hc g.3 g.4 g.5 gc
content_once name (Words at text next) (Element at' m' attrs' kids' next') toks end end' after after' h hc g gc =
    no_words_as_element at h.0 h.1 at' m' attrs' kids' (skip_comments toks) h.2 g.0 g.1 g.2 g.3 h.3 g.5
content_once name (Element at m attrs kids next) Nil toks end end' after after' h hc g gc =
    no_element_behind name at m attrs kids (skip_comments toks) end' after' h.0 h.1 h.2 h.3 g h.4 h.5 gc
content_once name (Element at m attrs kids next) (Words at' text' next') toks end end' after after' h hc g gc =
    no_words_as_element at' g.0 g.1 at m attrs kids (skip_comments toks) g.2 h.0 h.1 h.2 h.3 g.3 h.5
content_once name (Element at m attrs kids next) (Element at' m' attrs' kids' next') toks end end' after after' h hc g gc =
    element_once name at at' m m' attrs attrs' kids kids' next next' h.3 g.3 end end' after after' (content_once name next)
    (form_once at at' m m' attrs attrs' kids kids' (skip_comments toks) h.0 g.0 h.1 g.1 h.2 g.2 h.3 g.3 (content_once m kids) h.5
    g.5) h.6 hc g.6 gc

pub one_tree : (size : ℕ) (toks : List Token) (f g : Forest) → IsDocument size toks f → IsDocument size toks g → f ≡ g
one_tree size toks f g d e =
    let p = head_part_is d.head_kids (head_begun size toks).inner d.past d.head_part in
    let q = head_part_is e.head_kids (head_begun size toks).inner e.past e.head_part in
    let pasts : e.past ≡ d.past = q.1 ∙ sym p.1 in
    let a = content_once (codes "body") d.kids e.kids (body_begun size d.past).inner d.end e.end d.after e.after d.content
    d.closed
    (subst (λ (x : List Token). Content (codes "body") e.kids (body_begun size x).inner e.end) pasts e.content) e.closed in
    d.whole
    ∙ ap (λ (x : Forest). whole_tree (html_begun size toks) (head_begun size toks) x (body_begun size d.past) d.kids)
    (p.0 ∙ sym q.0)
    ∙ ap (λ (x : List Token). whole_tree (html_begun size toks) (head_begun size toks) e.head_kids (body_begun size x) d.kids)
    (sym pasts)
    ∙ ap (λ (x : Forest). whole_tree (html_begun size toks) (head_begun size toks) e.head_kids (body_begun size e.past) x)
    a.forests
    ∙ sym e.whole
