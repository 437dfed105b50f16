-- The first fault of a text.
use Rattle.std.proofs.Common.{◌≡◌, ℕ, zero, suc, ◌≤◌, ◌<◌, List, [], ◌∷◌, ◌++◌, length, Option, Some, None, Result, Ok, Err, Bool}
use Rattle.std.proofs.Common.{true, false, cond, nat_lt, refl, sym, ap, subst, ◌∙◌, append_assoc, arith, inl, inr}
use Rattle.std.specs.Prelude.{◌⊎◌, chars}
use Rattle.std.proofs.lemmas.List.{append-nil}
use Rattle.mc_base.specs.declared.refusal.Found.{Found}
use Rattle.mc_base.specs.Reading.{◌>>=◌, fault}
use Rattle.html_grammar.specs.declared.place.Place.{Place}
use Rattle.mc_base.specs.declared.read_error.Fault.{Fault}
use Rattle.mc_base.proofs.ReadSteps.{failed_is, seen}
use Rattle.mc_base.specs.SoundText.{sound_len}
use Rattle.html_grammar.specs.declared.token.Token.{Token}
use Rattle.html_grammar.specs.Tokens.{place_of, late_of, construct_of}
use Rattle.html_grammar.specs.Places.{places_of}
use Rattle.html_grammar.specs.Machine.{State, Built, opening_state, take_token, read_all, conclude, built}
use Rattle.html_grammar.specs.Faults.{IsFront, rule_of}
use Rattle.html_grammar.specs.Lexing.{token_at}
use Rattle.html_grammar.specs.Whole.{Reading, or_found, not_late, concluded, read_from, read_text}
use Rattle.html_grammar.specs.FirstFaults.{fault_as, IsLexedTo, IsStartOf, Barred, IsFaultHere, IsFaultBehind, IsFirstFaultOf}
use Rattle.html_grammar.proofs.Whole.{document_is_read}
use Rattle.html_grammar.proofs.First.{one_more, is_front, no_front, taken_fault, concluded_fault}
use Rattle.html_grammar.proofs.AttributeForms.{Gives}
use Rattle.html_grammar.proofs.TokenRead.{Reads, Sound, token_gives}
use Rattle.html_grammar.proofs.TokenBack.{token_answer}
use Rattle.html_grammar.proofs.Lexed.{shorter}
use Rattle.html_grammar.proofs.TokenFaults.{Fails, Here, token_failing}
use Rattle.html_grammar.proofs.Fates.{is_good, alike}
use Rattle.html_grammar.proofs.TokenLate.{Lately, LateOf, token_late}
use Rattle.html_grammar.proofs.TextPlaces.{place_at}
use Rattle.html_grammar.proofs.Texts.{bytes_are_good, places_fit}

-- after tokens that are spelled up to here
pub record Faulty (size : ℕ) (front : List Token) (ps : List Place) (f : Fault) : Type 0 where
  pub more : List Token
  pub rest : List Place
  pub spelled : IsLexedTo more ps rest
  pub goes_on : IsFront size (front ++ more)
  pub fault : IsFaultBehind size (front ++ more) rest f

-- at once
here : (size : ℕ) (front : List Token) (ps : List Place) (f : Fault) → IsFront size front → IsFaultBehind size front ps f
    → Faulty size front ps f
here size front ps f goes_on h = record {
  more = [];
  rest = ps;
  spelled = refl;
  goes_on = subst (IsFront size) (sym (append-nil front)) goes_on;
  fault = subst (λ (x : List Token). IsFaultBehind size x ps f) (sym (append-nil front)) h;
}

at_end : (size : ℕ) (front : List Token) (s : State) (construct : Option Found) (f : Fault) → read_all opening_state front ≡ Ok s
    → concluded size construct s ≡ Err f → IsFaultBehind size front [] f
unfolding built
at_end size front s construct f h e = by_built (seen (conclude size s))
  where
    by_built : ((b : Built) × (conclude size s ≡ Ok b)) ⊎ ((g : Fault) × (conclude size s ≡ Err g))
        → IsFaultBehind size front [] f
    by_built (inl b) =
        let k : concluded size construct s ≡ Ok (record { built = b.0; construct = construct }) =
        ap (λ (r : Result Built Fault). r >>= λ last. Ok (record { built = last; construct = construct })) b.1 in absurd cc
    by_built (inr g) =
        let k : concluded size construct s ≡ Err g.0 =
        ap (λ (r : Result Built Fault). r >>= λ last. Ok (record { built = last; construct = construct })) g.1 in
        let is : g.0 ≡ f = failed_is {A = Reading} g.0 f (sym k ∙ e) in
        let all : built size front ≡ Err g.0 = ap (λ (r : Result State Fault). r >>= conclude size) h ∙ g.1 in
        ((λ tree d. let ok = document_is_read size front tree d in absurd cc), sym is ∙ concluded_fault size s g.0 g.1)

good_not : {A : Type 0} (r : Result A Fault) (f : Fault) → r ≡ Err f → is_good r ≡ false
good_not r f e = ap is_good e

bad_is : {A : Type 0} (r : Result A Fault) → is_good r ≡ false → (f : Fault) × (r ≡ Err f)
bad_is (Ok x) h = absurd cc
bad_is (Err f) h = (f, refl)

barred : (size : ℕ) (front : List Token) (s : State) (m : List ℕ) (t : Token) (g : Fault) → read_all opening_state front ≡ Ok s
    → IsStartOf m t → take_token s t ≡ Err g → Barred size front m
barred size front s m t g h start e = λ u other.
    let b = bad_is (take_token s u) (sym (alike s m t u start other) ∙ good_not (take_token s t) g e) in
    no_front size (front ++ u ∷ []) b.0 (one_more front s u h ∙ b.1)

-- the place of a token that is read
place_is : (p : Place) (ps : List Place) (x : Token × List Place) → Reads p ps x → place_of x.0 ≡ p.at
place_is p ps x r = place_at x.0 p r.front x.1 r.is

stuck : (size : ℕ) (front : List Token) (s : State) (p : Place) (ps : List Place) (x : Token × List Place) (g : Fault)
    → read_all opening_state front ≡ Ok s → Reads p ps x → take_token s x.0 ≡ Err g → IsFaultHere size front p ps g
stuck size front s p ps x g h r e =
    inr (inr (inr (inr (inl (
      x.0,
      p ∷ r.front,
      x.1,
      ap (λ (u : List Place). p ∷ u) r.whole,
      r.is,
      no_front size (front ++ x.0 ∷ []) g (one_more front s x.0 h ∙ e),
      taken_fault s x.0 g e ∙ ap (λ (u : ℕ). fault_as u (rule_of x.0)) (place_is p ps x r),
    )))))

late_stuck : (size : ℕ) (front : List Token) (s : State) (p : Place) (ps : List Place) (x : Token × List Place) (late g : Fault)
    → read_all opening_state front ≡ Ok s → Lately p ps x.0 late → take_token s x.0 ≡ Err g → IsFaultHere size front p ps g
late_stuck size front s p ps x late g h l e =
    inr (inr (inr (inr (inr (inl (
      l.tag,
      l.has,
      l.once,
      barred size front s l.tag.name x.0 g h l.start e,
      taken_fault s x.0 g e ∙ ap (λ (u : ℕ). fault_as u (rule_of x.0)) l.stands ∙ ap (fault_as p.at) l.rule,
    ))))))

late_fault : (size : ℕ) (front : List Token) (s next : State) (p : Place) (ps : List Place) (x : Token × List Place)
    (late : Fault) → read_all opening_state front ≡ Ok s → Lately p ps x.0 late → take_token s x.0 ≡ Ok next
    → IsFaultHere size front p ps late
late_fault size front s next p ps x late h l e =
    inr (inr
    (inr (inr
    (inr (inr (
      l.tag,
      l.has,
      l.once,
      (x.0, l.start, is_front size (front ++ x.0 ∷ []) next (one_more front s x.0 h ∙ e)),
      l.late,
    ))))))

unread : (size : ℕ) (front : List Token) (p : Place) (ps : List Place) (f : Fault) → Here p ps f → IsFaultHere size front p ps f
unread size front p ps f (inl h) = inl h
unread size front p ps f (inr (inl h)) = inr (inl h)
unread size front p ps f (inr (inr (inl h))) = inr (inr (inl h))
unread size front p ps f (inr (inr (inr h))) = inr (inr (inr (inl h)))

-- a text that is read up to a fault
pub reading_fault : (n size : ℕ) (ps : List Place) (construct : Option Found) (s : State) (front : List Token) (f : Fault)
    → read_all opening_state front ≡ Ok s → length ps ≤ n → length ps ≤ size
    → read_from n size construct s ps ≡ Err f → Faulty size front ps f
unfolding read_from
reading_fault zero size [] construct s front f h le len e =
    here size front [] f (is_front size front s h) (at_end size front s construct f h e)
reading_fault (suc n) size [] construct s front f h le len e =
    here size front [] f (is_front size front s h) (at_end size front s construct f h e)
reading_fault zero size (p ∷ ps) construct s front f h le len e = absurd (omega arith)
reading_fault (suc n) size (p ∷ ps) construct s front f h le len e =
    by_token (token_at size p ps) refl (token_gives size p ps (omega (arith, len))) (token_failing size p ps (omega (arith, len)))
    (token_late size p ps (omega (arith, len)))
    (λ rest construct next front. reading_fault n size rest construct next front f) e
  where
    at_once : IsFaultHere size front p ps f → Faulty size front (p ∷ ps) f
    at_once k = here size front (p ∷ ps) f (is_front size front s h) k

    further : (t : Token) (rest : List Place) → Reads p ps (t, rest) → Faulty size (front ++ t ∷ []) rest f
        → Faulty size front (p ∷ ps) f
    further t rest r k =
        let whole : (front ++ t ∷ []) ++ k.more ≡ front ++ (t ∷ k.more) = append_assoc front (t ∷ []) k.more in
        record {
          more = t ∷ k.more;
          rest = k.rest;
          spelled = (p ∷ r.front, rest, ap (λ (u : List Place). p ∷ u) r.whole, r.is, k.spelled);
          goes_on = subst (IsFront size) whole k.goes_on;
          fault = subst (λ (u : List Token). IsFaultBehind size u k.rest f) whole k.fault;
        }

    by_late : (t : Token) (rest : List Place) → ((late : Fault) → late_of t ≡ Some late → Lately p ps t late) → (late : Fault)
        → late_of t ≡ Some late
        → ((next : State) × (take_token s t ≡ Ok next)) ⊎ ((g : Fault) × (take_token s t ≡ Err g))
        → (not_late (Some late) (take_token s t) >>= λ next. read_from n size (or_found construct (construct_of t)) next rest)
        ≡ Err f → Faulty size front (p ∷ ps) f
    by_late t rest l late is (inl next) e =
        let k : (not_late (Some late) (take_token s t) >>= λ next. read_from n size (or_found construct (construct_of t)) next
        rest) ≡ Err late = ap (λ (r : Result State Fault). not_late (Some late) r >>= λ next.
        read_from n size (or_found construct (construct_of t)) next rest) next.1 in
        let same : late ≡ f = failed_is {A = Reading} late f (sym k ∙ e) in
        at_once (subst (IsFaultHere size front p ps) same
        (late_fault size front s next.0 p ps (t, rest) late h (l late is) next.1))
    by_late t rest l late is (inr g) e =
        let k : (not_late (Some late) (take_token s t) >>= λ next. read_from n size (or_found construct (construct_of t)) next
        rest) ≡ Err g.0 = ap (λ (r : Result State Fault). not_late (Some late) r >>= λ next.
        read_from n size (or_found construct (construct_of t)) next rest) g.1 in
        let same : g.0 ≡ f = failed_is {A = Reading} g.0 f (sym k ∙ e) in
        at_once (subst (IsFaultHere size front p ps) same (late_stuck size front s p ps (t, rest) late g.0 h (l late is) g.1))

    by_taken : (t : Token) (rest : List Place) → token_at size p ps ≡ token_answer t rest → late_of t ≡ None
        → Reads p ps (t, rest)
        → ((construct : Option Found) (next : State) (front : List Token) → read_all opening_state front ≡ Ok next
        → length rest ≤ n → length rest ≤ size → read_from n size construct next rest ≡ Err f → Faulty size front rest f)
        → ((next : State) × (take_token s t ≡ Ok next)) ⊎ ((g : Fault) × (take_token s t ≡ Err g))
        → (take_token s t >>= λ next. read_from n size (or_found construct (construct_of t)) next rest) ≡ Err f
        → Faulty size front (p ∷ ps) f
    by_taken t rest at ok r below (inl next) e =
        let l = shorter size p ps rest t (omega (arith, len)) ok at in
        let k : read_from n size (or_found construct (construct_of t)) next.0 rest ≡ Err f =
        sym (ap (λ (r : Result State Fault). r >>= λ next. read_from n size (or_found construct (construct_of t)) next rest)
        next.1) ∙ e in
        further t rest r (below (or_found construct (construct_of t)) next.0 (front ++ t ∷ []) (one_more front s t h ∙ next.1)
        (omega (arith, l, le)) (omega (arith, l, len)) k)
    by_taken t rest at ok r below (inr g) e =
        let k : (take_token s t >>= λ next. read_from n size (or_found construct (construct_of t)) next rest) ≡ Err g.0 =
        ap (λ (r : Result State Fault). r >>= λ next. read_from n size (or_found construct (construct_of t)) next rest) g.1 in
        let same : g.0 ≡ f = failed_is {A = Reading} g.0 f (sym k ∙ e) in
        at_once (subst (IsFaultHere size front p ps) same (stuck size front s p ps (t, rest) g.0 h r g.1))

    by_time : (t : Token) (rest : List Place) → token_at size p ps ≡ token_answer t rest → Sound p ps (t, rest)
        → LateOf p ps (t, rest)
        → ((construct : Option Found) (next : State) (front : List Token) → read_all opening_state front ≡ Ok next
        → length rest ≤ n → length rest ≤ size → read_from n size construct next rest ≡ Err f → Faulty size front rest f)
        → (late : Option Fault) → late_of t ≡ late
        → (not_late late (take_token s t) >>= λ next. read_from n size (or_found construct (construct_of t)) next rest) ≡ Err f
        → Faulty size front (p ∷ ps) f
    by_time t rest at g l below None ok e = by_taken t rest at ok (g ok) below (seen (take_token s t)) e
    by_time t rest at g l below (Some late) ok e = by_late t rest l late ok (seen (take_token s t)) e

    by_token : (r : Result (Token × List Place) Fault) → token_at size p ps ≡ r → Gives (Sound p ps) r → Fails (Here p ps) r
        → Gives (LateOf p ps) r
        → ((rest : List Place) (construct : Option Found) (next : State) (front : List Token)
        → read_all opening_state front ≡ Ok next → length rest ≤ n → length rest ≤ size
        → read_from n size construct next rest ≡ Err f → Faulty size front rest f)
        → (r >>= λ t. not_late (late_of t.0) (take_token s t.0) >>= λ next.
        read_from n size (or_found construct (construct_of t.0)) next t.1) ≡ Err f → Faulty size front (p ∷ ps) f
    by_token (Ok x) at g k l below e = by_time x.0 x.1 at g l (below x.1) (late_of x.0) refl e
    by_token (Err b) at g k l below e =
        let same : b ≡ f = failed_is {A = Reading} b f e in
        at_once (subst (IsFaultHere size front p ps) same (unread size front p ps b k))

pub text_fault : (bytes : List ℕ) (f : Fault) → read_text bytes ≡ Err f → IsFirstFaultOf bytes f
unfolding read_text
text_fault bytes f h = by_bytes (nat_lt (sound_len bytes) (length bytes)) refl h
  where
    less : (a b : ℕ) → nat_lt a b ≡ true → a < b
    less a b h = grind (arith, h)

    by_bytes : (b : Bool) → nat_lt (sound_len bytes) (length bytes) ≡ b
        → cond b (fault (sound_len bytes) 1)
        (read_from (length bytes) (length bytes) None opening_state (places_of (chars bytes))) ≡ Err f → IsFirstFaultOf bytes f
    by_bytes true e h = inl (
      less (sound_len bytes) (length bytes) e,
      sym (failed_is {A = Reading} (fault_as (sound_len bytes) 1) f h),
    )
    by_bytes false e h =
        let g = bytes_are_good bytes e in
        let k = reading_fault (length bytes) (length bytes) (places_of (chars bytes)) None opening_state [] f refl
        (places_fit bytes g.0) (places_fit bytes g.0) h in
        inr (g.0, g.1, record { front = k.more; rest = k.rest; spelled = k.spelled; goes_on = k.goes_on; fault = k.fault })
