-- A token begins at its first place.
use Rattle.std.proofs.Common.{◌≡◌, ℕ, List, [], ◌∷◌, ◌++◌, sym, ap, ◌∙◌, inl, inr}
use Rattle.std.specs.Prelude.{codes}
use Rattle.std.proofs.lemmas.List.{append-nil}
use Rattle.html_grammar.specs.declared.place.Place.{Place}
use Rattle.html_grammar.specs.declared.token.Tag.{Tag}
use Rattle.html_grammar.specs.declared.token.Spelled.{Spelled}
use Rattle.html_grammar.specs.declared.token.Spelled.TheVariants.{Plain, Reference, Unknown}
use Rattle.html_grammar.specs.declared.token.Token.{Token}
use Rattle.html_grammar.specs.declared.token.Token.TheVariants.{Start, Raw, End, Comment, Doctype, Char}
use Rattle.html_grammar.specs.Places.{place_or}
use Rattle.html_grammar.specs.Tokens.{place_of}
use Rattle.html_grammar.specs.Spelling.{codes_of, IsCharacter, IsTag, IsStart, IsComment, IsToken}

tag_place : (tag : Tag) (p : Place) (front one rest : List Place) → p ∷ front ≡ one ++ rest → (more : List Place)
    → IsTag tag one more → tag.at ≡ p.at
tag_place tag p front one rest e more t = sym t.stands ∙ ap (place_or 0) (sym (e ∙ ap (λ (u : List Place). u ++ rest) t.whole))

char_place : (at c : ℕ) (s : Spelled) (p : Place) (front rest : List Place) → IsCharacter at c s (p ∷ front) rest → at ≡ p.at
char_place at c Plain p front rest h = sym h.2 ∙ ap (place_or 0) (sym h.1)
char_place at c Reference p front rest h = sym h.3 ∙ ap (place_or 0) (sym h.2)
char_place at c Unknown p front rest h = sym h.2 ∙ ap (place_or 0) (sym h.1)

comment_place : (at : ℕ) (p : Place) (front rest : List Place) (f : IsComment at (p ∷ front) rest) → at ≡ p.at
comment_place at p front rest f = by_opening f.opening f.whole f.opens f.stands
  where
    by_opening : (opening : List Place) → p ∷ front ≡ opening ++ (f.inner ++ f.closing) → codes_of opening ≡ codes "<!--"
        → place_or 0 opening ≡ at → at ≡ p.at
    by_opening [] e opens stands = absurd cc
    by_opening (q ∷ opening) e opens stands = sym stands ∙ ap (place_or 0) (sym e)

pub place_at : (t : Token) (p : Place) (front rest : List Place) → IsToken t (p ∷ front) rest → place_of t ≡ p.at
place_at (Start tag) p front rest h = by_form h.1
  where
    by_form : IsStart tag (p ∷ front) rest → tag.at ≡ p.at
    by_form (inl g) = tag_place tag p front (p ∷ front) [] (sym (append-nil (p ∷ front))) rest g.0
    by_form (inr g) = tag_place tag p front g.0 (g.1 ∷ []) g.2 (g.1 ∷ rest) g.3
place_at (Raw tag text) p front rest h =
    tag_place tag p front h.1.tagged (h.1.inner ++ h.1.ending) h.1.whole (h.1.inner ++ (h.1.ending ++ rest)) h.1.tag_is
place_at (End at m) p front rest h = sym h.stands ∙ ap (place_or 0) (sym h.whole)
place_at (Comment at) p front rest h = comment_place at p front rest h
place_at (Doctype at) p front rest h = sym h.stands ∙ ap (place_or 0) (sym h.whole)
place_at (Char at c s) p front rest h = char_place at c s p front rest h.0
