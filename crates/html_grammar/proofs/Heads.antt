-- The head of a document, and the nodes and the depth of the whole.
use Rattle.std.proofs.Common.{◌≡◌, ℕ, suc, ◌+◌, ◌≤◌, List, [], ◌∷◌, Option, Some, None, Bool, true, false, cond, refl, sym, ap}
use Rattle.std.proofs.Common.{subst, ◌∙◌, arith, inl, inr}
use Rattle.std.specs.Prelude.{◌⊎◌, max}
use Rattle.std.proofs.lemmas.Bool.{true≢false}
use Rattle.html_grammar.specs.declared.token.Piece.{Piece}
use Rattle.html_grammar.specs.declared.token.Token.{Token}
use Rattle.html_grammar.specs.declared.token.Token.TheVariants.{Start, Raw, End, Comment, Doctype, Char}
use Rattle.html_grammar.specs.Names.{is_head_void}
use Rattle.html_grammar.specs.Tokens.{is_white, is_blank, is_head_element}
use Rattle.html_grammar.specs.Tree.{Forest, Nil, Element, Words}
use Rattle.html_grammar.specs.Grammar.{skip_blank, raw_forest, tag_as, depth_of, HeadPart, begins_head_element}
use Rattle.html_grammar.proofs.Stages.{head_forest, head_rest, deepened_head}

-- the next token that isn't blank
pub not_blank : (toks : List Token) (t : Token) (ts : List Token) → skip_blank toks ≡ t ∷ ts → is_blank t ≡ false
not_blank [] t ts h = absurd cc
not_blank (u ∷ us) t ts h = by_blank (not_blank us t ts) (is_blank u) refl h
  where
    same_first : u ∷ us ≡ t ∷ ts → u ≡ t
    same_first e = cc

    by_blank : (skip_blank us ≡ t ∷ ts → is_blank t ≡ false) → (b : Bool) → is_blank u ≡ b
        → cond b (skip_blank us) (u ∷ us) ≡ t ∷ ts → is_blank t ≡ false
    by_blank below true is h = below h
    by_blank below false is h = subst (λ (x : Token). is_blank x ≡ false) (same_first h) is

-- blank tokens in front are nothing to the head
forest_skips : (toks : List Token) → head_forest (skip_blank toks) ≡ head_forest toks
unfolding head_forest
forest_skips (Comment at ∷ ts) = forest_skips ts
forest_skips (Char at c s ∷ ts) = by_white (forest_skips ts) (is_white c s) refl
  where
    by_white : head_forest (skip_blank ts) ≡ head_forest ts → (b : Bool) → is_white c s ≡ b
        → head_forest (cond b (skip_blank ts) (Char at c s ∷ ts)) ≡ cond b (head_forest ts) Nil
    by_white h true is = h
    by_white h false is = rw is refl
forest_skips _ = refl

rest_skips : (toks : List Token) → head_rest (skip_blank toks) ≡ head_rest toks
unfolding head_rest
rest_skips (Comment at ∷ ts) = rest_skips ts
rest_skips (Char at c s ∷ ts) = by_white (rest_skips ts) (is_white c s) refl
  where
    by_white : head_rest (skip_blank ts) ≡ head_rest ts → (b : Bool) → is_white c s ≡ b
        → head_rest (cond b (skip_blank ts) (Char at c s ∷ ts)) ≡ cond b (head_rest ts) (Char at c s ∷ ts)
    by_white h true is = h
    by_white h false is = rw is refl
rest_skips _ = refl

-- where no element of the head stands next
no_head : (t : Token) (ts : List Token) → is_blank t ≡ false → is_head_element t ≡ false
    → (Nil ≡ head_forest (t ∷ ts)) × (t ∷ ts ≡ head_rest (t ∷ ts))
unfolding head_forest head_rest
no_head (Start tag) ts full other = rw other (refl, refl)
no_head (Raw tag text) ts full other = absurd (true≢false other)
no_head (End at m) ts full other = (refl, refl)
no_head (Comment at) ts full other = absurd (true≢false full)
no_head (Doctype at) ts full other = (refl, refl)
no_head (Char at c s) ts full other = rw full (refl, refl)

pub head_part_is : (f : Forest) (toks rest : List Token) → HeadPart f toks rest → (f ≡ head_forest toks) × (rest ≡ head_rest toks)
unfolding head_forest head_rest
head_part_is Nil toks rest h = by_rest rest h.0 h.1
  where
    by_rest : (rest : List Token) → skip_blank toks ≡ rest → begins_head_element rest ≡ false
        → (Nil ≡ head_forest toks) × (rest ≡ head_rest toks)
    by_rest [] e other = (ap head_forest (sym e) ∙ forest_skips toks, ap head_rest (sym e) ∙ rest_skips toks)
    by_rest (t ∷ ts) e other = let n = no_head t ts (not_blank toks t ts e) other in
        (n.0 ∙ ap head_forest (sym e) ∙ forest_skips toks, n.1 ∙ ap head_rest (sym e) ∙ rest_skips toks)
head_part_is (Words at text next) toks rest h = absurd h
head_part_is (Element at m attrs kids next) toks rest h = by_form (head_part_is next h.2 rest h.4) h.3
  where
    by_form : (next ≡ head_forest h.2) × (rest ≡ head_rest h.2)
        → ((skip_blank toks ≡ Start (tag_as at m attrs h.0 h.1) ∷ h.2) × (is_head_void m ≡ true) × (kids ≡ Nil))
        ⊎ ((text : Option Piece) × (skip_blank toks ≡ Raw (tag_as at m attrs h.0 h.1) text ∷ h.2) × (kids ≡ raw_forest text))
        → (Element at m attrs kids next ≡ head_forest toks) × (rest ≡ head_rest toks)
    by_form below (inl g) = (
      ap (λ (x : Forest). Element at m attrs x next) g.2
          ∙ ap (λ (x : Forest). Element at m attrs Nil x) below.0
          ∙ sym (ap (λ (b : Bool). cond b (Element at m attrs Nil (head_forest h.2)) Nil) g.1)
          ∙ ap head_forest (sym g.0) ∙ forest_skips toks,
      below.1
          ∙ sym (ap (λ (b : Bool). cond b (head_rest h.2) (Start (tag_as at m attrs h.0 h.1) ∷ h.2)) g.1)
          ∙ ap head_rest (sym g.0) ∙ rest_skips toks,
    )
    by_form below (inr g) = (
      ap (λ (x : Forest). Element at m attrs x next) g.2
          ∙ ap (λ (x : Forest). Element at m attrs (raw_forest g.0) x) below.0
          ∙ ap head_forest (sym g.1) ∙ forest_skips toks,
      below.1 ∙ ap head_rest (sym g.1) ∙ rest_skips toks,
    )

-- the head begins at the next token that isn't blank
part_skips : (f : Forest) (a b rest : List Token) → skip_blank a ≡ skip_blank b → HeadPart f b rest → HeadPart f a rest
part_skips Nil a b rest e h = (e ∙ h.0, h.1)
part_skips (Words at text next) a b rest e h = absurd h
part_skips (Element at m attrs kids next) a b rest e h = (h.0, h.1, h.2, by_form h.3, h.4)
  where
    by_form : ((skip_blank b ≡ Start (tag_as at m attrs h.0 h.1) ∷ h.2) × (is_head_void m ≡ true) × (kids ≡ Nil))
        ⊎ ((text : Option Piece) × (skip_blank b ≡ Raw (tag_as at m attrs h.0 h.1) text ∷ h.2) × (kids ≡ raw_forest text))
        → ((skip_blank a ≡ Start (tag_as at m attrs h.0 h.1) ∷ h.2) × (is_head_void m ≡ true) × (kids ≡ Nil))
        ⊎ ((text : Option Piece) × (skip_blank a ≡ Raw (tag_as at m attrs h.0 h.1) text ∷ h.2) × (kids ≡ raw_forest text))
    by_form (inl g) = inl (e ∙ g.0, g.1, g.2)
    by_form (inr g) = inr (g.0, e ∙ g.1, g.2)

pub head_part_of : (toks : List Token) → HeadPart (head_forest toks) toks (head_rest toks)
unfolding head_forest head_rest
head_part_of [] = (refl, refl)
head_part_of (Start tag ∷ ts) = by_void (head_part_of ts) (is_head_void tag.name) refl
  where
    by_void : HeadPart (head_forest ts) ts (head_rest ts) → (b : Bool) → is_head_void tag.name ≡ b
        → HeadPart (cond b (Element tag.at tag.name tag.attributes Nil (head_forest ts)) Nil) (Start tag ∷ ts)
        (cond b (head_rest ts) (Start tag ∷ ts))
    by_void h true is = (tag.unknown, tag.late, ts, inl (refl, is, refl), h)
    by_void h false is = (refl, is)
head_part_of (Raw tag text ∷ ts) = (tag.unknown, tag.late, ts, inr (text, refl, refl), head_part_of ts)
head_part_of (End at m ∷ ts) = (refl, refl)
head_part_of (Comment at ∷ ts) = part_skips (head_forest ts) (Comment at ∷ ts) ts (head_rest ts) refl (head_part_of ts)
head_part_of (Doctype at ∷ ts) = (refl, refl)
head_part_of (Char at c s ∷ ts) = by_white (head_part_of ts) (is_white c s) refl
  where
    by_white : HeadPart (head_forest ts) ts (head_rest ts) → (b : Bool) → is_white c s ≡ b
        → HeadPart (cond b (head_forest ts) Nil) (Char at c s ∷ ts) (cond b (head_rest ts) (Char at c s ∷ ts))
    by_white h true is = part_skips (head_forest ts) (Char at c s ∷ ts) ts (head_rest ts) (rw is refl) h
    by_white h false is = (rw is refl, refl)

depth_raw : (text : Option Piece) → depth_of (raw_forest text) ≡ 0
depth_raw None = refl
depth_raw (Some p) = refl

one_deeper : (d a b : ℕ) → 2 ≤ d → a ≡ 0 → max (max d 3) (2 + b) ≡ max d (2 + max (suc a) b)
one_deeper d a b h e = omega (arith, e)

pub head_deeper : (toks : List Token) (d : ℕ) → 2 ≤ d
    → deepened_head d (head_forest toks) ≡ max d (2 + depth_of (head_forest toks))
unfolding head_forest
head_deeper [] d h = omega arith
head_deeper (Start tag ∷ ts) d h = by_void (head_deeper ts) (is_head_void tag.name)
  where
    by_void : ((e : ℕ) → 2 ≤ e → deepened_head e (head_forest ts) ≡ max e (2 + depth_of (head_forest ts))) → (b : Bool)
        → deepened_head d (cond b (Element tag.at tag.name tag.attributes Nil (head_forest ts)) Nil)
        ≡ max d (2 + depth_of (cond b (Element tag.at tag.name tag.attributes Nil (head_forest ts)) Nil))
    by_void below true = below (max d 3) (omega arith) ∙ one_deeper d 0 (depth_of (head_forest ts)) h refl
    by_void below false = omega arith
head_deeper (Raw tag text ∷ ts) d h = head_deeper ts (max d 3) (omega arith)
    ∙ one_deeper d (depth_of (raw_forest text)) (depth_of (head_forest ts)) h (depth_raw text)
head_deeper (End at m ∷ ts) d h = omega arith
head_deeper (Comment at ∷ ts) d h = head_deeper ts d h
head_deeper (Doctype at ∷ ts) d h = omega arith
head_deeper (Char at c s ∷ ts) d h = by_white (head_deeper ts d h) (is_white c s)
  where
    by_white : deepened_head d (head_forest ts) ≡ max d (2 + depth_of (head_forest ts)) → (b : Bool)
        → deepened_head d (cond b (head_forest ts) Nil) ≡ max d (2 + depth_of (cond b (head_forest ts) Nil))
    by_white h' true = h'
    by_white h' false = omega arith
