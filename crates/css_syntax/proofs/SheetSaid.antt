-- What a sheet says is read, and nothing else.
use Rattle.std.proofs.Common.{◌≡◌, ℕ, zero, suc, ◌+◌, ◌-◌, ◌≤◌, ◌<◌, List, [], ◌∷◌, ◌++◌, length, Bool, true, false, cond, nat_lt}
use Rattle.std.proofs.Common.{Ok, Err}
use Rattle.std.proofs.Common.{refl, sym, ap, subst, ◌∙◌, append-nil, arith, length-append, inl, inr}
use Rattle.std.specs.Prelude.{◌⊎◌, ◌&&◌, Option, Some, None}
use Rattle.std.proofs.lemmas.Bool.{ltb-true, ltb-false, lt-ltb, le-ltb}
use Rattle.mc_base.specs.declared.refusal.Found.{Found}
use Rattle.mc_base.specs.declared.refusal.Refusal.{Refusal}
use Rattle.mc_base.specs.declared.refusal.Refusal.TheVariants as refusals
use Rattle.mc_base.specs.declared.refusal.LimitName.TheVariants as limits
use Rattle.css_data.specs.declared.rule.RawDeclaration.{RawDeclaration}
use Rattle.css_data.specs.declared.rule.StyleRule.{StyleRule}
use Rattle.css_data.specs.declared.rule.Sheet.{Sheet}
use Rattle.css_tokens.specs.declared.lexeme.Fault.{Fault}
use Rattle.css_tokens.specs.declared.lexeme.Lexeme.{Lexeme}
use Rattle.css_laws.specs.Values.{Values, Nil, One, Closed, Open, written, AreValues, fault_of, faults_in, Among}
use Rattle.css_laws.proofs.Whole.{tokens_read}
use Rattle.css_prelude.specs.declared.selecting.Selectors.{Selectors}
use Rattle.css_prelude.specs.Selecting.{selectors_of}
use Rattle.css_syntax.specs.declared.at_rules.AtRule.{AtRule}
use Rattle.css_syntax.specs.declared.rules.Rules.{Rules}
use Rattle.css_syntax.specs.Brackets.{block_fault, sheet_fault}
use Rattle.css_syntax.specs.Blocks.{declarations_of}
use Rattle.css_syntax.specs.Rules.{no_rules, turn, rules_from, rules_of, first_escape}
use Rattle.css_syntax.specs.Sheets.{grammar_refusal, earlier, within_limit, sheet_by, sheet_or_fault, sheet_of}
use Rattle.css_syntax.specs.Styling.{AreDeclarations}
use Rattle.css_syntax.specs.Sheeting.{Items, End, Gap, Block, Ended, Media, Lost, Unclosed, UnclosedMedia, tokens_of, kind_of}
use Rattle.css_syntax.specs.Sheeting.{AreItems, faults_of, IsTextFault, IsSheetText}
use Rattle.css_syntax.specs.Saying.{media_after, applies, SaysRule, AreRules, rules_count, first_found, IsSheet, IsRefusal}
use Rattle.css_syntax.proofs.Folding.{Told}
use Rattle.css_syntax.proofs.BlockFaults.{block_told}
use Rattle.css_syntax.proofs.Pieces.{both_empty, block_found, block_back}
use Rattle.css_syntax.proofs.ItemFaults.{sheet_told}
use Rattle.css_syntax.proofs.SheetTexts.{SheetRead, text_refused, text_told}
use Rattle.css_syntax.proofs.Turns.{one_said, said, state_as, after_items, turns, items_turned}

-- Blocks.

outside : (c : ℕ) (vs : Values) → AreValues (Some c) vs → AreValues None vs
outside c Nil h = tt
outside c (One x more) h = (h.0, refl, outside c more h.2)
outside c (Closed a inside b more) h = (h.0, h.1, h.2, h.3, h.4, outside c more h.5)
outside c (Open a inside) h = h

none_among : (f : Fault) (fs : List Fault) → fs ≡ [] → Among f fs → ⊥
none_among f [] e a = a
none_among f (g ∷ gs) e a = absurd cc

no_first : (o : Option Fault) (fs : List Fault) → fs ≡ [] → Told o fs → o ≡ None
no_first None fs e t = refl
no_first (Some f) fs e t = absurd (none_among f fs e t.among)

block_says : (v : Values) → AreValues (Some 125) v → faults_in v ≡ [] → AreDeclarations (written v) (declarations_of (written v))
block_says v h e = block_found (written v) (no_first (block_fault (written v)) (faults_in v) e (block_told v (outside 125 v h)))

-- The rules that items say.

rule_said : (on : Bool) (k : Option AtRule) (o : Option Selectors) (block : List Lexeme) (More : List StyleRule → Type 0)
    (rules more : List StyleRule)
    → ((others : List StyleRule) → More others → others ≡ more) → SaysRule on k o block More rules
    → rules ≡ one_said on k o block ++ more
rule_said on (Some kind) o block More rules more below h = below rules h
rule_said on None None block More rules more below h = below rules h
rule_said false None (Some x) block More rules more below h = below rules h
rule_said true None (Some x) block More rules more below h =
    h.2 ∙ ap (λ (d : List RawDeclaration). record { selectors = x.selectors; declarations = d } ∷ h.1)
    (sym (block_back block h.0 h.3).1)
    ∙ ap (λ (r : List StyleRule). record { selectors = x.selectors; declarations = declarations_of block } ∷ r) (below h.1 h.4)

pub rules_said : (on : Bool) (items : Items) (rules : List StyleRule) → AreRules on items rules → rules ≡ said on items
rules_said on End rules h = h
rules_said on (Gap x more) rules h = rules_said on more rules h
rules_said on (Block p a v c more) rules h = rule_said on (kind_of (written p)) (selectors_of (written p)) (written v)
    (AreRules on more) rules (said on more) (rules_said on more) h
rules_said on (Ended p x more) rules h = rules_said on more rules h
rules_said on (Media p a inside c more) rules h =
    h.2 ∙ ap (λ (r : List StyleRule). r ++ h.1) (rules_said (on && applies (media_after p)) inside h.0 h.3)
    ∙ ap (λ (r : List StyleRule). said (on && applies (media_after p)) inside ++ r) (rules_said on more h.1 h.4)
rules_said on (Lost p) rules h = h
rules_said on (Unclosed p a v) rules h = h
rules_said on (UnclosedMedia p a inside) rules h = h

says_rule : (on : Bool) (k : Option AtRule) (o : Option Selectors) (block : List Lexeme) (More : List StyleRule → Type 0)
    (more : List StyleRule)
    → AreDeclarations block (declarations_of block) → More more → SaysRule on k o block More (one_said on k o block ++ more)
says_rule on (Some kind) o block More more d h = h
says_rule on None None block More more d h = h
says_rule false None (Some x) block More more d h = h
says_rule true None (Some x) block More more d h = (declarations_of block, more, refl, d, h)

pub said_rules : (items : Items) (around : Option ℕ) (on : Bool) → AreItems around items → faults_of items ≡ []
    → AreRules on items (said on items)
said_rules End around on h e = refl
said_rules (Gap x more) around on h e = said_rules more around on h.1 (both_empty (fault_of x) (faults_of more) e).1
said_rules (Block p a v c more) around on h e =
    let f = both_empty (faults_in p) (faults_in v ++ faults_of more) e in
    let g = both_empty (faults_in v) (faults_of more) f.1 in
    says_rule on (kind_of (written p)) (selectors_of (written p)) (written v) (AreRules on more) (said on more)
    (block_says v h.4 g.0) (said_rules more around on h.7 g.1)
said_rules (Ended p x more) around on h e = said_rules more around on h.4 (both_empty (faults_in p) (faults_of more) e).1
said_rules (Media p a inside c more) around on h e =
    let f = both_empty (faults_in p) (faults_of inside ++ faults_of more) e in
    let g = both_empty (faults_of inside) (faults_of more) f.1 in
    let here = on && applies (media_after p) in
    (said here inside, said on more, refl, said_rules inside (Some 125) here h.4 g.0, said_rules more around on h.7 g.1)
said_rules (Lost p) around on h e = refl
said_rules (Unclosed p a v) around on h e = refl
said_rules (UnclosedMedia p a inside) around on h e = refl

-- All turns.

turns_le : (items : Items) → turns items ≤ length (tokens_of items)
turns_le End = omega arith
turns_le (Gap x more) = let l = turns_le more in omega (arith, l)
turns_le (Block p a v c more) =
    let l = turns_le more in
    let k = length-append (written p) (a ∷ (written v ++ (c ∷ tokens_of more))) in
    let j = length-append (written v) (c ∷ tokens_of more) in
    omega (arith, l, k, j)
turns_le (Ended p x more) = let l = turns_le more in let k = length-append (written p) (x ∷ tokens_of more) in omega (arith, l, k)
turns_le (Media p a inside c more) =
    let l = turns_le more in
    let i = turns_le inside in
    let k = length-append (written p) (a ∷ (tokens_of inside ++ (c ∷ tokens_of more))) in
    let j = length-append (tokens_of inside) (c ∷ tokens_of more) in
    omega (arith, l, i, k, j)
turns_le (Lost p) = omega arith
turns_le (Unclosed p a v) = omega arith
turns_le (UnclosedMedia p a inside) = omega arith

no_more : (n : ℕ) (s : Rules) → rules_from n s [] ≡ s
unfolding rules_from turn
no_more zero s = refl
no_more (suc n) s = no_more n s

abbrev read_as : Items → Rules
read_as items = state_as (said true items) (rules_count items) 0 (first_found items)

pub rules_read : (items : Items) → AreItems None items → faults_of items ≡ [] → rules_of (tokens_of items) ≡ read_as items
rules_read items h e =
    let xs = tokens_of items in
    let m = length xs - turns items in
    let le = turns_le items in
    let n : length xs ≡ turns items + m = omega (arith, le) in
    ap (λ (k : ℕ). rules_from k no_rules xs) n
    ∙ ap (rules_from (turns items + m) no_rules) (sym (append-nil xs))
    ∙ items_turned items None no_rules m [] h e
    ∙ no_more m (after_items no_rules items)
    ∙ ap (λ (k : ℕ). state_as (said true items) k 0 (first_found items)) (none (rules_count items))
  where
    none : (k : ℕ) → 0 + k ≡ k
    none k = omega arith

-- Whole sheets.

abbrev limit : Refusal
limit = refusals.Limit limits.Rules 4001 4000

abbrev sheet_ok : Sheet → SheetRead
sheet_ok sheet = Ok sheet

abbrev sheet_err : Refusal → SheetRead
sheet_err e = Err e

abbrev sheet_as : List StyleRule → Option Found → Sheet
sheet_as rules construct = record { rules = rules; construct = construct }

same_sheet : (a b : Sheet) → sheet_ok a ≡ sheet_ok b → a ≡ b
same_sheet a b e = cc

same_err : (a b : Refusal) → sheet_err a ≡ sheet_err b → a ≡ b
same_err a b e = cc

-- a text on the grammar has no fault
text_sound_fault : (bytes : List ℕ) (t : IsSheetText bytes) → sheet_fault t.tokens ≡ None
text_sound_fault bytes t = ap sheet_fault t.whole
    ∙ no_first (sheet_fault (tokens_of t.items)) (faults_of t.items) t.sound (sheet_told t.items t.are)

text_rules : (bytes : List ℕ) (t : IsSheetText bytes) → rules_of t.tokens ≡ read_as t.items
text_rules bytes t = ap rules_of t.whole ∙ rules_read t.items t.are t.sound

text_by : (bytes : List ℕ) (t : IsSheetText bytes) → sheet_of bytes ≡ within_limit (read_as t.items) (first_escape t.tokens)
unfolding sheet_of
text_by bytes t =
    ap sheet_or_fault (tokens_read bytes t.tokens t.said)
    ∙ ap (λ (o : Option Fault). sheet_by o t.tokens) (text_sound_fault bytes t)
    ∙ ap (λ (s : Rules). within_limit s (first_escape t.tokens)) (text_rules bytes t)

pub sheet_said : (bytes : List ℕ) (sheet : Sheet) → IsSheetText bytes → sheet_of bytes ≡ Ok sheet → IsSheet bytes sheet
sheet_said bytes sheet t h = by_limit (nat_lt 4000 (rules_count t.items)) refl (sym (text_by bytes t) ∙ h)
  where
    construct : Option Found
    construct = earlier (first_escape t.tokens) (first_found t.items)

    by_limit : (b : Bool) → nat_lt 4000 (rules_count t.items) ≡ b
        → cond b (sheet_err limit) (sheet_ok (sheet_as (said true t.items) construct)) ≡ Ok sheet → IsSheet bytes sheet
    by_limit true e h = absurd cc
    by_limit false e h =
        let same = same_sheet (sheet_as (said true t.items) construct) sheet h in
        record {
          text = t;
          few = ltb-false 4000 (rules_count t.items) e;
          rules = subst (AreRules true t.items) (ap (λ (s : Sheet). s.rules) same) (said_rules t.items None true t.are t.sound);
          construct = sym (ap (λ (s : Sheet). s.construct) same);
        }

pub sheet_is_read : (bytes : List ℕ) (sheet : Sheet) → IsSheet bytes sheet → sheet_of bytes ≡ Ok sheet
sheet_is_read bytes sheet s =
    let t = s.text in
    let construct = earlier (first_escape t.tokens) (first_found t.items) in
    text_by bytes t
    ∙ ap (λ (b : Bool). cond b (sheet_err limit) (sheet_ok (sheet_as (said true t.items) construct)))
    (le-ltb 4000 (rules_count t.items) s.few)
    ∙ ap (λ (r : List StyleRule). sheet_ok (sheet_as r construct)) (sym (rules_said true t.items sheet.rules s.rules))
    ∙ ap (λ (c : Option Found). sheet_ok (sheet_as sheet.rules c)) (sym s.construct)

pub one_sheet : (bytes : List ℕ) (a b : Sheet) → IsSheet bytes a → IsSheet bytes b → a ≡ b
one_sheet bytes a b s t = same_sheet a b (sym (sheet_is_read bytes a s) ∙ sheet_is_read bytes b t)

pub sheet_refused : (bytes : List ℕ) (e : Refusal) → sheet_of bytes ≡ Err e → IsRefusal bytes e
sheet_refused bytes e h = by_reason (text_refused bytes e h)
  where
    by_limit : (t : IsSheetText bytes) (b : Bool) → nat_lt 4000 (rules_count t.items) ≡ b
        → cond b (sheet_err limit) (sheet_ok
        (sheet_as (said true t.items) (earlier (first_escape t.tokens) (first_found t.items)))) ≡ Err e
        → 4000 < rules_count t.items
    by_limit t true k h = ltb-true 4000 (rules_count t.items) k
    by_limit t false k h = absurd cc

    by_reason : ((f : Fault) × IsTextFault bytes f × (e ≡ grammar_refusal f)) ⊎ (IsSheetText bytes × (e ≡ limit))
        → IsRefusal bytes e
    by_reason (inl r) = inl r
    by_reason (inr r) = inr (r.0, by_limit r.0 (nat_lt 4000 (rules_count r.0.items)) refl (sym (text_by bytes r.0) ∙ h), r.1)

-- every reason refuses
pub reason_refuses : (bytes : List ℕ) (e : Refusal) → IsRefusal bytes e → sheet_of bytes ≡ Err e
reason_refuses bytes e (inl r) = text_told bytes r.0 r.1 ∙ ap (λ (x : Refusal). sheet_err x) (sym r.2)
reason_refuses bytes e (inr r) =
    text_by bytes r.0
    ∙ ap (λ (b : Bool). cond b (sheet_err limit)
    (sheet_ok (sheet_as (said true r.0.items) (earlier (first_escape r.0.tokens) (first_found r.0.items)))))
    (lt-ltb 4000 (rules_count r.0.items) r.1)
    ∙ ap (λ (x : Refusal). sheet_err x) (sym r.2)
