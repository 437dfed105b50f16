-- Lines are one flow file at most.
use Rattle.std.proofs.Common.{◌≡◌, ℕ, List, [], ◌∷◌, Bool, true, false, Option, Some, None, refl, sym, ap, ◌∙◌, subst}
use Rattle.mc_base.specs.declared.level.Level.{Level}
use Rattle.flow_text.specs.declared.line.Line.{Line}
use Rattle.flow_text.specs.declared.line.Form.{Form}
use Rattle.flow_text.specs.declared.line.Form.TheVariants as forms
use Rattle.flow_text.specs.Grammar.{Rest, no_more, edge, place, atom, row, line, lines_of, boxes_behind, IsRest, FlowFile}
use Rattle.flow_text.specs.Grammar.{content_lines, IsContent, file_lines, IsFlowFile}
use Rattle.flow_text.specs.Faults.{is_edge}

edge_form : (f : Form) (t : Bool) (boxes next : List ℕ) → boxes_behind f t boxes ≡ Some next → is_edge f ≡ true
edge_form (forms.Margin u) t boxes next h = refl
edge_form (forms.Solid u) t boxes next h = refl
edge_form forms.Wall t boxes next h = refl
edge_form (forms.Start number x w avoid top bottom) t boxes next h = refl
edge_form (forms.End number) t boxes next h = refl
edge_form _ t boxes next h = absurd cc

first_same : (a b : Line) (xs ys : List Line) → a ∷ xs ≡ b ∷ ys → (a ≡ b) × (xs ≡ ys)
first_same a b xs ys h = (cc, cc)

-- an edge is no other line
clash : (l : Line) (at : ℕ) (f : Form) (xs ys : List Line) → is_edge l.form ≡ true → is_edge f ≡ false
    → l ∷ xs ≡ line at f ∷ ys → ⊥
clash l at f xs ys h k e =
    let same : l.form ≡ f = ap (λ (m : Line). m.form) (first_same l (line at f) xs ys e).0 in
    let yes : is_edge f ≡ true = subst (λ (g : Form). is_edge g ≡ true) same h in
    let two : true ≡ false = sym yes ∙ k in
    cc

other_form : (a b : ℕ) (f g : Form) (xs ys : List Line) → line a f ∷ xs ≡ line b g ∷ ys → (a ≡ b) × (f ≡ g) × (xs ≡ ys)
other_form a b f g xs ys h = let s = first_same (line a f) (line b g) xs ys h
    in (ap (λ (l : Line). l.at) s.0, ap (λ (l : Line). l.form) s.0, s.1)

record Same (r s : Rest) (xs ys : List Line) : Type 0 where
  rest : r ≡ s
  after : xs ≡ ys

same_rest : (r s : Rest) (t u : Bool) (b c : List ℕ) (e e' : ℕ) (xs ys : List Line) → IsRest t b r → IsRest u c s
    → lines_of r (line e forms.Close ∷ xs) ≡ lines_of s (line e' forms.Close ∷ ys)
    → Same r s (line e forms.Close ∷ xs) (line e' forms.Close ∷ ys)
same_rest no_more no_more t u b c e e' xs ys h k eq = record { rest = refl; after = eq }
same_rest no_more (edge m s) t u b c e e' xs ys h k eq =
    absurd (clash m e forms.Close _ _ (edge_form m.form u c k.0 k.1) refl (sym eq))
same_rest no_more (place a level s) t u b c e e' xs ys h k eq =
    absurd (let f = (other_form e a forms.Close (forms.Break level) _ _ eq).1 in cc)
same_rest no_more (atom a v s) t u b c e e' xs ys h k eq =
    absurd (let f = (other_form e a forms.Close (forms.Atom v) _ _ eq).1 in cc)
same_rest no_more (row a n w st x content ended s) t u b c e e' xs ys h k eq =
    absurd (let f = (other_form e a forms.Close (forms.Row n w st x) _ _ eq).1 in cc)
same_rest (edge l r) no_more t u b c e e' xs ys h k eq =
    absurd (clash l e' forms.Close _ _ (edge_form l.form t b h.0 h.1) refl eq)
same_rest (edge l r) (edge m s) t u b c e e' xs ys h k eq =
    let f = first_same l m _ _ eq in
    let g = same_rest r s t u h.0 k.0 e e' xs ys h.2 k.2 f.1 in
    record { rest = ap (λ (n : Line). edge n r) f.0 ∙ ap (edge m) g.rest; after = g.after }
same_rest (edge l r) (place a level s) t u b c e e' xs ys h k eq =
    absurd (clash l a (forms.Break level) _ _ (edge_form l.form t b h.0 h.1) refl eq)
same_rest (edge l r) (atom a v s) t u b c e e' xs ys h k eq =
    absurd (clash l a (forms.Atom v) _ _ (edge_form l.form t b h.0 h.1) refl eq)
same_rest (edge l r) (row a n w st x content ended s) t u b c e e' xs ys h k eq =
    absurd (clash l a (forms.Row n w st x) _ _ (edge_form l.form t b h.0 h.1) refl eq)
same_rest (place a level r) no_more t u b c e e' xs ys h k eq =
    absurd (let f = (other_form a e' (forms.Break level) forms.Close _ _ eq).1 in cc)
same_rest (place a level r) (edge m s) t u b c e e' xs ys h k eq =
    absurd (clash m a (forms.Break level) _ _ (edge_form m.form u c k.0 k.1) refl (sym eq))
same_rest (place a level r) (place a' level' s) t u b c e e' xs ys h k eq =
    let f = other_form a a' (forms.Break level) (forms.Break level') _ _ eq in
    let g = same_rest r s false false b c e e' xs ys h.1 k.1 f.2 in
    let at : a ≡ a' = f.0 in
    let form : forms.Break level ≡ forms.Break level' = f.1 in
    let lev : level ≡ level' = cc in
    record {
      rest = ap (λ (n : ℕ). place n level r) at ∙ ap (λ (l : Level). place a' l r) lev ∙ ap (place a' level') g.rest;
      after = g.after;
    }
same_rest (place a level r) (atom a' v s) t u b c e e' xs ys h k eq =
    absurd (let f = (other_form a a' (forms.Break level) (forms.Atom v) _ _ eq).1 in cc)
same_rest (place a level r) (row a' n w st x content ended s) t u b c e e' xs ys h k eq =
    absurd (let f = (other_form a a' (forms.Break level) (forms.Row n w st x) _ _ eq).1 in cc)
same_rest (atom a v r) no_more t u b c e e' xs ys h k eq =
    absurd (let f = (other_form a e' (forms.Atom v) forms.Close _ _ eq).1 in cc)
same_rest (atom a v r) (edge m s) t u b c e e' xs ys h k eq =
    absurd (clash m a (forms.Atom v) _ _ (edge_form m.form u c k.0 k.1) refl (sym eq))
same_rest (atom a v r) (place a' level s) t u b c e e' xs ys h k eq =
    absurd (let f = (other_form a a' (forms.Atom v) (forms.Break level) _ _ eq).1 in cc)
same_rest (atom a v r) (atom a' v' s) t u b c e e' xs ys h k eq =
    let f = other_form a a' (forms.Atom v) (forms.Atom v') _ _ eq in
    let g = same_rest r s true true b c e e' xs ys h.1 k.1 f.2 in
    let at : a ≡ a' = f.0 in
    let form : forms.Atom v ≡ forms.Atom v' = f.1 in
    let height : v ≡ v' = cc in
    record { rest = ap (λ (n : ℕ). atom n v r) at ∙ ap (λ (n : ℕ). atom a' n r) height ∙ ap (atom a' v') g.rest; after = g.after }
same_rest (atom a v r) (row a' n w st x content ended s) t u b c e e' xs ys h k eq =
    absurd (let f = (other_form a a' (forms.Atom v) (forms.Row n w st x) _ _ eq).1 in cc)
same_rest (row a n w st x content ended r) no_more t u b c e e' xs ys h k eq =
    absurd (let f = (other_form a e' (forms.Row n w st x) forms.Close _ _ eq).1 in cc)
same_rest (row a n w st x content ended r) (edge m s) t u b c e e' xs ys h k eq =
    absurd (clash m a (forms.Row n w st x) _ _ (edge_form m.form u c k.0 k.1) refl (sym eq))
same_rest (row a n w st x content ended r) (place a' level s) t u b c e e' xs ys h k eq =
    absurd (let f = (other_form a a' (forms.Row n w st x) (forms.Break level) _ _ eq).1 in cc)
same_rest (row a n w st x content ended r) (atom a' v s) t u b c e e' xs ys h k eq =
    absurd (let f = (other_form a a' (forms.Row n w st x) (forms.Atom v) _ _ eq).1 in cc)
same_rest (row a n w st x content ended r) (row a' n' w' st' x' content' ended' s) t u b c e e' xs ys h k eq =
    let f = other_form a a' (forms.Row n w st x) (forms.Row n' w' st' x') _ _ eq in
    let i = same_rest content content' false false [] [] ended ended' (lines_of r (line e forms.Close ∷ xs))
    (lines_of s (line e' forms.Close ∷ ys)) h.1 k.1 f.2 in
    let o = other_form ended ended' forms.Close forms.Close _ _ i.after in
    let g = same_rest r s true true b c e e' xs ys h.2 k.2 o.2 in
    record {
      rest = rows_same a a' n n' w w' st st' x x' content content' ended ended' r s f.0 f.1 i.rest o.0 g.rest;
      after = g.after;
    }
  where
    rows_same : (a a' n n' w w' st st' x x' : ℕ) (content content' : Rest) (ended ended' : ℕ) (r s : Rest) → a ≡ a'
        → forms.Row n w st x ≡ forms.Row n' w' st' x' → content ≡ content' → ended ≡ ended' → r ≡ s
        → row a n w st x content ended r ≡ row a' n' w' st' x' content' ended' s
    rows_same a a' n n' w w' st st' x x' content content' ended ended' r s e1 e2 e3 e4 e5 = cc

-- what stands in the first row
abbrev SameContent : Option Rest → Option Rest → ℕ → ℕ → Type 0
SameContent r s e e' = (r ≡ s) × (e ≡ e')

some_line : (r : Rest) (e e' : ℕ) → IsRest false [] r → line e forms.Close ∷ [] ≡ lines_of r (line e' forms.Close ∷ []) → ⊥
some_line no_more e e' h eq = let two = h.0 in cc
some_line (edge l r) e e' h eq = clash l e forms.Close _ _ (edge_form l.form false [] h.0 h.1) refl (sym eq)
some_line (place a level r) e e' h eq = let f = (other_form e a forms.Close (forms.Break level) _ _ eq).1 in cc
some_line (atom a v r) e e' h eq = let f = (other_form e a forms.Close (forms.Atom v) _ _ eq).1 in cc
some_line (row a n w st x content ended r) e e' h eq = let f = (other_form e a forms.Close (forms.Row n w st x) _ _ eq).1 in cc

abbrev some_rest : Rest → Option Rest
some_rest r = Some r

same_content : (r s : Option Rest) (e e' : ℕ) → IsContent r → IsContent s
    → content_lines r (line e forms.Close ∷ []) ≡ content_lines s (line e' forms.Close ∷ []) → SameContent r s e e'
same_content None None e e' h k eq = (refl, (other_form e e' forms.Close forms.Close [] [] eq).0)
same_content None (Some s) e e' h k eq = absurd (some_line s e e' k eq)
same_content (Some r) None e e' h k eq = absurd (some_line r e' e h (sym eq))
same_content (Some r) (Some s) e e' h k eq =
    let g = same_rest r s false false [] [] e e' [] [] h k eq in
    (ap some_rest g.rest, (other_form e e' forms.Close forms.Close [] [] g.after).0)

file_of : ℕ → ℕ → ℕ → ℕ → ℕ → Option ℕ → Bool → Option Rest → ℕ → FlowFile
file_of at first_at n w st available auto content ended =
    record {
      at = at;
      first_at = first_at;
      n = n;
      w = w;
      step = st;
      available = available;
      auto = auto;
      content = content;
      ended = ended;
    }

files_same : (a a' b b' n n' w w' st st' : ℕ) (v v' : Option ℕ) (o o' : Bool) (c c' : Option Rest) (e e' : ℕ) → a ≡ a' → b ≡ b'
    → forms.First n w st v o ≡ forms.First n' w' st' v' o' → c ≡ c' → e ≡ e'
    → file_of a b n w st v o c e ≡ file_of a' b' n' w' st' v' o' c' e'
files_same a a' b b' n n' w w' st st' v v' o o' c c' e e' e1 e2 e3 e4 e5 = cc

same_lines : (f g : FlowFile) → IsContent f.content → IsContent g.content → file_lines f ≡ file_lines g → f ≡ g
unfolding file_of
same_lines f g h k eq =
    let first = other_form f.at g.at forms.Flow forms.Flow _ _ eq in
    let second = other_form f.first_at g.first_at (forms.First f.n f.w f.step f.available f.auto)
    (forms.First g.n g.w g.step g.available g.auto) _ _ first.2 in
    let c = same_content f.content g.content f.ended g.ended h k second.2 in
    files_same f.at g.at f.first_at g.first_at f.n g.n f.w g.w f.step g.step f.available g.available f.auto g.auto f.content
    g.content f.ended g.ended first.0 second.0 second.1 c.0 c.1

pub one_file : (lines : List Line) (f g : FlowFile) → IsFlowFile lines f → IsFlowFile lines g → f ≡ g
one_file lines f g h k = same_lines f g h.content k.content (sym h.whole ∙ k.whole)
