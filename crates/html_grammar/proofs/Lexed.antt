-- Reading a whole text, as a list of tokens.
use Rattle.std.proofs.Common.{◌≡◌, ℕ, zero, suc, ◌+◌, ◌≤◌, List, [], ◌∷◌, ◌++◌, length, Option, Some, None, Result, Ok, Err, refl}
use Rattle.std.proofs.Common.{sym, ap, subst, ◌∙◌, arith, length-append}
use Rattle.mc_base.specs.declared.refusal.Found.{Found}
use Rattle.mc_base.specs.Reading.{◌>>=◌, fault}
use Rattle.html_grammar.specs.declared.place.Place.{Place}
use Rattle.mc_base.specs.declared.read_error.Fault.{Fault}
use Rattle.html_grammar.specs.declared.token.Token.{Token}
use Rattle.html_grammar.specs.declared.token.Token.TheVariants.{Start, Raw, End, Comment, Doctype, Char}
use Rattle.html_grammar.specs.Tokens.{late_of, construct_of}
use Rattle.html_grammar.specs.Machine.{State, take_token, read_all}
use Rattle.html_grammar.specs.Lexing.{token_at}
use Rattle.html_grammar.specs.Spelling.{IsToken, IsLexed}
use Rattle.html_grammar.specs.Whole.{Reading, or_found, not_late, concluded, read_from}
use Rattle.html_grammar.specs.Documents.{first_construct}
use Rattle.html_grammar.proofs.AttributeForms.{Gives}
use Rattle.html_grammar.proofs.TokenBack.{front_token, token_answer, token_back}
use Rattle.html_grammar.proofs.TokenRead.{Reads, Sound, token_gives}

-- a spelled token has no late fault
pub in_time : (t : Token) (one rest : List Place) → IsToken t one rest → late_of t ≡ None
in_time (Start tag) one rest h = h.3
in_time (Raw tag text) one rest h = h.3
in_time (End at m) one rest h = refl
in_time (Comment at) one rest h = refl
in_time (Doctype at) one rest h = refl
in_time (Char at c s) one rest h = refl

no_answer : {P : Type 0} (t : Token) (rest : List Place) → fault {A = Token × List Place} 0 0 ≡ token_answer t rest → P
no_answer t rest e = absurd cc

abbrev pair : Token → List Place → Token × List Place
pair t rest = (t, rest)

same_pair : (t u : Token) (a b : List Place) → token_answer t a ≡ token_answer u b → pair t a ≡ pair u b
same_pair t u a b e = cc

pub same_answer : (t u : Token) (a b : List Place) → token_answer t a ≡ token_answer u b → (t ≡ u) × (a ≡ b)
same_answer t u a b e = let p = same_pair t u a b e
    in (ap (λ (x : Token × List Place). x.0) p, ap (λ (x : Token × List Place). x.1) p)

or_none : (x : Option Found) → or_found x None ≡ x
or_none None = refl
or_none (Some x) = refl

or_assoc : (x y z : Option Found) → or_found (or_found x y) z ≡ or_found x (or_found y z)
or_assoc None y z = refl
or_assoc (Some x) y z = refl

-- the rest after a token is shorter than the text after its first place
pub shorter : (size : ℕ) (p : Place) (ps rest : List Place) (t : Token) → length ps ≤ size → late_of t ≡ None
    → token_at size p ps ≡ token_answer t rest → length rest ≤ length ps
shorter size p ps rest t le ok e =
    let r : Reads p ps (t, rest) = subst (Gives (Sound p ps)) e (token_gives size p ps le) ok in
    let l : length ps ≡ length r.front + length rest = ap length r.whole ∙ length-append r.front rest in
    omega (arith, l)

at_end : (n size : ℕ) (seen : Option Found) (s : State) → read_from n size seen s [] ≡ concluded size seen s
unfolding read_from
at_end zero size seen s = refl
at_end (suc n) size seen s = refl

one_token : (n size : ℕ) (seen : Option Found) (s : State) (p : Place) (ps : List Place) (t : Token) (rest : List Place)
    → token_at size p ps ≡ token_answer t rest → late_of t ≡ None
    → read_from (suc n) size seen s (p ∷ ps)
    ≡ (take_token s t >>= λ next. read_from n size (or_found seen (construct_of t)) next rest)
unfolding read_from
one_token n size seen s p ps t rest e ok =
    ap (λ (r : Result (Token × List Place) Fault). r >>= λ t. not_late (late_of t.0) (take_token s t.0) >>= λ next.
    read_from n size (or_found seen (construct_of t.0)) next t.1) e
    ∙ ap (λ (x : Option Fault). not_late x (take_token s t) >>= λ next. read_from n size (or_found seen (construct_of t)) next
    rest) ok

-- the tokens of a text are read one after the other
pub lexed_reads : (n size : ℕ) (toks : List Token) (ps : List Place) (seen : Option Found) (s : State) → IsLexed toks ps
    → length ps ≤ n → length ps ≤ size
    → read_from n size seen s ps ≡ (read_all s toks >>= concluded size (or_found seen (first_construct toks)))
lexed_reads n size [] ps seen s h le len = ap (read_from n size seen s) h ∙ at_end n size seen s
    ∙ ap (λ (x : Option Found). concluded size x s) (sym (or_none seen))
lexed_reads n size (t ∷ ts) ps seen s h le len =
    by_places n ps h.2 le len (λ k seen next. lexed_reads k size ts h.1 seen next h.4)
  where
    by_taken : (r : Result State Fault) (f g : State → Result Reading Fault) → ((x : State) → f x ≡ g x) → (r >>= f) ≡ (r >>= g)
    by_taken (Ok x) f g h = h x
    by_taken (Err e) f g h = refl

    assoc : (r : Result State Fault) (f : State → Result State Fault) (g : State → Result Reading Fault)
        → (r >>= λ x. f x >>= g) ≡ ((r >>= f) >>= g)
    assoc (Ok x) f g = refl
    assoc (Err e) f g = refl

    by_places : (n : ℕ) (ps : List Place) → ps ≡ h.0 ++ h.1 → length ps ≤ n → length ps ≤ size
        → ((k : ℕ) (seen : Option Found) (next : State) → length h.1 ≤ k → length h.1 ≤ size
        → read_from k size seen next h.1 ≡ (read_all next ts >>= concluded size (or_found seen (first_construct ts))))
        → read_from n size seen s ps ≡ (read_all s (t ∷ ts) >>= concluded size (or_found seen (first_construct (t ∷ ts))))
    by_places n [] e le len below =
        let l : length h.0 ≤ 0 = let k : 0 ≡ length h.0 + length h.1 = ap length e ∙ length-append h.0 h.1 in omega (arith, k) in
        no_answer t h.1 (ap (front_token 0) e ∙ token_back 0 t h.0 h.1 h.3 (omega (arith, l)))
    by_places zero (p ∷ ps) e le len below = absurd (omega arith)
    by_places (suc n) (p ∷ ps) e le len below =
        let k : suc (length ps) ≡ length h.0 + length h.1 = ap length e ∙ length-append h.0 h.1 in
        let ok = in_time t h.0 h.1 h.3 in
        let a : token_at size p ps ≡ token_answer t h.1 = ap (front_token size) e
        ∙ token_back size t h.0 h.1 h.3 (omega (arith, k, len)) in
        let l = shorter size p ps h.1 t (omega (arith, len)) ok a in
        one_token n size seen s p ps t h.1 a ok
        ∙ by_taken (take_token s t) (λ next. read_from n size (or_found seen (construct_of t)) next h.1)
        (λ next. read_all next ts >>= concluded size (or_found (or_found seen (construct_of t)) (first_construct ts)))
        (λ next. below n (or_found seen (construct_of t)) next (omega (arith, l, le)) (omega (arith, l, len)))
        ∙ assoc (take_token s t) (λ next. read_all next ts)
        (concluded size (or_found (or_found seen (construct_of t)) (first_construct ts)))
        ∙ ap (λ (x : Option Found). read_all s (t ∷ ts) >>= concluded size x)
        (or_assoc seen (construct_of t) (first_construct ts))

-- what is read is lexed
pub reads_lexed : (n size : ℕ) (ps : List Place) (seen : Option Found) (s : State) (all : Reading) → length ps ≤ n
    → length ps ≤ size → read_from n size seen s ps ≡ Ok all → (toks : List Token) × IsLexed toks ps
unfolding read_from
reads_lexed n size [] seen s all le len h = ([], refl)
reads_lexed zero size (p ∷ ps) seen s all le len h = absurd (omega arith)
reads_lexed (suc n) size (p ∷ ps) seen s all le len h =
    by_token (token_at size p ps) refl (token_gives size p ps (omega (arith, len))) (λ rest. reads_lexed n size rest) h
  where
    joined : (t : Token) (rest : List Place) → Reads p ps (t, rest) → (toks : List Token) × IsLexed toks rest
        → (toks : List Token) × IsLexed toks (p ∷ ps)
    joined t rest r more = (t ∷ more.0, (p ∷ r.front, rest, ap (λ (u : List Place). p ∷ u) r.whole, r.is, more.1))

    by_late : (t : Token) (rest : List Place) → length rest ≤ length ps → Reads p ps (t, rest) → (late : Option Fault)
        → late ≡ None
        → ((seen : Option Found) (s : State) (all : Reading) → length rest ≤ n → length rest ≤ size
        → read_from n size seen s rest ≡ Ok all → (toks : List Token) × IsLexed toks rest)
        → (r : Result State Fault) → (r >>= λ next. read_from n size (or_found seen (construct_of t)) next rest) ≡ Ok all
        → (toks : List Token) × IsLexed toks (p ∷ ps)
    by_late t rest l r late ok below (Ok next) h =
        joined t rest r (below (or_found seen (construct_of t)) next all (omega (arith, l, le)) (omega (arith, l, len)) h)
    by_late t rest l r late ok below (Err e) h = absurd cc

    not_in_time : (f : Fault) (r : Result State Fault) (g : State → Result Reading Fault)
        → (not_late (Some f) r >>= g) ≡ Ok all → ⊥
    not_in_time f (Ok s) g h = absurd cc
    not_in_time f (Err e) g h = absurd cc

    by_time : (t : Token) (rest : List Place) → token_at size p ps ≡ token_answer t rest → Sound p ps (t, rest)
        → ((seen : Option Found) (s : State) (all : Reading) → length rest ≤ n → length rest ≤ size
        → read_from n size seen s rest ≡ Ok all → (toks : List Token) × IsLexed toks rest)
        → (late : Option Fault) → late_of t ≡ late
        → (not_late late (take_token s t) >>= λ next. read_from n size (or_found seen (construct_of t)) next rest) ≡ Ok all
        → (toks : List Token) × IsLexed toks (p ∷ ps)
    by_time t rest e g below None ok h = by_late t rest (shorter size p ps rest t (omega (arith, len)) ok e) (g ok) None refl
        below (take_token s t) h
    by_time t rest e g below (Some f) ok h = absurd (not_in_time f (take_token s t) _ h)

    by_token : (r : Result (Token × List Place) Fault) → token_at size p ps ≡ r → Gives (Sound p ps) r
        → ((rest : List Place) (seen : Option Found) (s : State) (all : Reading) → length rest ≤ n → length rest ≤ size
        → read_from n size seen s rest ≡ Ok all → (toks : List Token) × IsLexed toks rest)
        → (r >>= λ t. not_late (late_of t.0) (take_token s t.0) >>= λ next. read_from n size (or_found seen (construct_of t.0))
        next t.1) ≡ Ok all → (toks : List Token) × IsLexed toks (p ∷ ps)
    by_token (Ok x) e g below h = by_time x.0 x.1 e g (below x.1) (late_of x.0) refl h
    by_token (Err f) e g below h = absurd cc

-- places spell at most one list of tokens
pub lexed_once : (a b : List Token) (ps : List Place) → IsLexed a ps → IsLexed b ps → a ≡ b
lexed_once [] [] ps h g = refl
lexed_once [] (u ∷ us) ps h g = none u g.0 g.1 g.3 (sym h ∙ g.2)
  where
    none : {P : Type 0} (t : Token) (one rest : List Place) → IsToken t one rest → [] ≡ one ++ rest → P
    none t one rest k e =
        let l : length one ≤ 0 = let m : 0 ≡ length one + length rest = ap length e ∙ length-append one rest
        in omega (arith, m) in
        no_answer t rest (ap (front_token 0) e ∙ token_back 0 t one rest k (omega (arith, l)))
lexed_once (t ∷ ts) [] ps h g = none t h.0 h.1 h.3 (sym g ∙ h.2)
  where
    none : {P : Type 0} (t : Token) (one rest : List Place) → IsToken t one rest → [] ≡ one ++ rest → P
    none t one rest k e =
        let l : length one ≤ 0 = let m : 0 ≡ length one + length rest = ap length e ∙ length-append one rest
        in omega (arith, m) in
        no_answer t rest (ap (front_token 0) e ∙ token_back 0 t one rest k (omega (arith, l)))
lexed_once (t ∷ ts) (u ∷ us) ps h g =
    let n = length ps in
    let a = token_back n t h.0 h.1 h.3 (front_less h.0 h.1 h.2) in
    let b = token_back n u g.0 g.1 g.3 (front_less g.0 g.1 g.2) in
    let same = same_answer t u h.1 g.1 (sym a ∙ ap (front_token n) (sym h.2 ∙ g.2) ∙ b) in
    let more = lexed_once ts us h.1 h.4 (subst (IsLexed us) (sym same.1) g.4) in
    ap (λ (x : Token). x ∷ ts) same.0 ∙ ap (λ (x : List Token). u ∷ x) more
  where
    front_less : (one rest : List Place) → ps ≡ one ++ rest → length one ≤ suc (length ps)
    front_less one rest e = let l : length ps ≡ length one + length rest = ap length e ∙ length-append one rest
        in omega (arith, l)
