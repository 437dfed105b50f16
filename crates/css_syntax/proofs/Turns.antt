-- Items without a fault are read turn by turn.
use Rattle.std.proofs.Common.{◌≡◌, ℕ, suc, ◌+◌, ◌-◌, List, [], ◌∷◌, ◌++◌, take, drop, length, Bool, true, false, cond}
use Rattle.std.proofs.Common.{◌&&◌, ◌||◌}
use Rattle.std.proofs.Common.{refl, sym, ap, subst, ◌∙◌, append_assoc, append-nil, arith}
use Rattle.std.specs.Prelude.{◌==◌, Option, Some, None, is_some}
use Rattle.std.specs.Option.{option_map}
use Rattle.std.proofs.lemmas.Bool.{true≢false, or_parts, eqb-true}
use Rattle.mc_base.specs.declared.refusal.Found.{Found}
use Rattle.mc_base.specs.declared.refusal.ConstructName.TheVariants as constructs
use Rattle.css_data.specs.declared.rule.StyleRule.{StyleRule}
use Rattle.css_tokens.specs.declared.depth.Stop.TheVariants as stops
use Rattle.css_tokens.specs.declared.lexeme.Fault.{Fault}
use Rattle.css_tokens.specs.declared.lexeme.Lexeme.{Lexeme}
use Rattle.css_tokens.specs.Facts.{is_space, is_delim, is_closer, closer_of, broken_of, begins, behind_first, deeper, front_len}
use Rattle.css_tokens.specs.Stops.{stops_at}
use Rattle.css_laws.specs.Values.{Values, Nil, One, Closed, Open, written, AreValues, fault_by, fault_of}
use Rattle.css_laws.specs.Values.{faults_in}
use Rattle.css_prelude.specs.declared.selecting.Selectors.{Selectors}
use Rattle.css_prelude.specs.Selecting.{selectors_of}
use Rattle.css_prelude.specs.Words.{or_found}
use Rattle.css_syntax.specs.declared.at_rules.AtRule.{AtRule}
use Rattle.css_syntax.specs.declared.at_rules.AtRule.TheVariants as kinds
use Rattle.css_syntax.specs.declared.rules.Rules.{Rules}
use Rattle.css_syntax.specs.AtRules as at_rules
use Rattle.css_syntax.specs.Brackets.{is_two, is_open_comment}
use Rattle.css_syntax.specs.Blocks.{offset_of, declarations_of}
use Rattle.css_syntax.specs.Rules.{with_found, block_ended, behind_block, behind_at_rule, media_in}
use Rattle.css_syntax.specs.Rules.{with_media, prelude_len, at_rule_by, at_rule_at, with_rule, with_block_of}
use Rattle.css_syntax.specs.Rules.{style_at, rule_by, turn, rules_from}
use Rattle.css_syntax.specs.Styling.{HaveNone}
use Rattle.css_syntax.specs.Sheeting.{Items, End, Gap, Block, Ended, Media, Lost, Unclosed, UnclosedMedia, tokens_of, kind_of}
use Rattle.css_syntax.specs.Sheeting.{is_media_kind, is_stop, is_gap, begins_gap, IsPrelude, AreItems, faults_of}
use Rattle.css_syntax.specs.Saying.{media_after, applies, one_if_style, rules_count, in_selectors, in_media, in_prelude}
use Rattle.css_syntax.specs.Saying.{first_found}
use Rattle.css_syntax.proofs.Pieces.{both_empty, no_closer, flat, front_take, front_drop}
use Rattle.css_syntax.proofs.SheetFaults.{Kinds, opener_closes_none}
use Rattle.css_syntax.proofs.ItemFaults.{signed_first, other_sign, no_gap, opens_block, kind_front}
use Rattle.css_syntax.proofs.ItemsFound.{opener_at}

abbrev turned : Rules → List Lexeme → Rules × List Lexeme
turned s xs = (s, xs)

-- Where a part ends.

stop_here : (test : Lexeme → Bool) (x : Lexeme) (xs : List Lexeme) → test x ≡ true → front_len test 0 (x ∷ xs) ≡ 0
stop_here test x xs h = ap (λ (b : Bool). cond b 0 (1 + front_len test (deeper 0 x) xs)) h

part_len : (test : Lexeme → Bool) (vs : Values) (around : Option ℕ) (x : Lexeme) (xs : List Lexeme) → AreValues around vs
    → faults_in vs ≡ [] → HaveNone test vs → test x ≡ true
    → front_len test 0 (written vs ++ (x ∷ xs)) ≡ length (written vs)
part_len test vs around x xs h e n s = flat test vs around (x ∷ xs) h e n
    ∙ ap (λ (k : ℕ). length (written vs) + k) (stop_here test x xs s) ∙ none (length (written vs))
  where
    none : (k : ℕ) → k + 0 ≡ k
    none k = omega arith

front_is : (n : ℕ) (front rest : List Lexeme) → n ≡ length front
    → (take n (front ++ rest) ≡ front) × (drop n (front ++ rest) ≡ rest)
front_is n front rest e = (
  ap (λ (k : ℕ). take k (front ++ rest)) e
      ∙ front_take front rest,
  ap (λ (k : ℕ). drop k (front ++ rest)) e ∙ front_drop front rest,
)

-- values of a block have no } of their own
no_end : (c : ℕ) (vs : Values) → Kinds (Some c) → AreValues (Some c) vs → faults_in vs ≡ [] → HaveNone (is_delim c) vs
no_end c Nil k h e = tt
no_end c (One x more) k h e = (h.1, no_end c more k h.2 (both_empty (fault_of x) (faults_in more) e).1)
no_end c (Closed a inside b more) k h e =
    (opener_closes_none (Some c) a h.0 k h.1, no_end c more k h.5 (both_empty (faults_in inside) (faults_in more) e).1)
no_end c (Open a inside) k h e = absurd cc

weaker : (test other : Lexeme → Bool) → ((x : Lexeme) → test x ≡ false → other x ≡ false) → (vs : Values) → HaveNone test vs
    → HaveNone other vs
weaker test other w Nil n = tt
weaker test other w (One x more) n = (w x n.0, weaker test other w more n.1)
weaker test other w (Closed a inside b more) n = (w a n.0, weaker test other w more n.1)
weaker test other w (Open a inside) n = w a n

-- a block and its closing sign
block_behind : (v : Values) (c : Lexeme) (rest : List Lexeme) → AreValues (Some 125) v → faults_in v ≡ [] → is_delim 125 c ≡ true
    → (take (front_len (stops_at (stops.At 125)) 0 (written v ++ (c ∷ rest))) (written v ++ (c ∷ rest)) ≡ written v)
    × (behind_block (written v ++ (c ∷ rest)) ≡ rest)
block_behind v c rest h e s =
    let len = part_len (is_delim 125) v (Some 125) c rest h e (no_end 125 v refl h e) s in
    let f = front_is (front_len (stops_at (stops.At 125)) 0 (written v ++ (c ∷ rest))) (written v) (c ∷ rest) len in
    (f.0, ap behind_first f.1)

-- Turns.

begin_turn : (s : Rules) (x : Lexeme) (xs : List Lexeme) → is_space x ≡ false → is_delim 125 x ≡ false
    → turn s (x ∷ xs) ≡ rule_by s x xs (at_rules.at_rule_of x xs)
unfolding turn
begin_turn s x xs space close =
    ap (λ (b : Bool). cond b (turned s xs)
    (cond (is_delim 125 x) (turned (block_ended s) xs) (rule_by s x xs (at_rules.at_rule_of x xs)))) space
    ∙ ap (λ (b : Bool). cond b (turned (block_ended s) xs) (rule_by s x xs (at_rules.at_rule_of x xs))) close

space_turn : (s : Rules) (x : Lexeme) (xs : List Lexeme) → is_gap x ≡ true → fault_of x ≡ [] → turn s (x ∷ xs) ≡ turned s xs
unfolding turn
space_turn s x xs gap fault =
    ap (λ (b : Bool). cond b (turned s xs)
    (cond (is_delim 125 x) (turned (block_ended s) xs) (rule_by s x xs (at_rules.at_rule_of x xs))))
    (by_space (is_space x) refl gap)
  where
    no_comment : (o : Option ℕ) → fault_by x o ≡ [] → is_two o ≡ true → ⊥
    no_comment None f h = absurd cc
    no_comment (Some rule) f h = absurd cc

    by_space : (b : Bool) → is_space x ≡ b → (b || is_open_comment x) ≡ true → is_space x ≡ true
    by_space true e h = e
    by_space false e h = absurd (no_comment (broken_of x) fault h)

end_turn : (s : Rules) (c : Lexeme) (xs : List Lexeme) → is_delim 125 c ≡ true → turn s (c ∷ xs) ≡ turned (block_ended s) xs
unfolding turn
end_turn s c xs h =
    let gaps = or_parts (is_space c) (is_open_comment c) (no_gap 125 c h) in
    ap (λ (b : Bool). cond b (turned s xs)
    (cond (is_delim 125 c) (turned (block_ended s) xs) (rule_by s c xs (at_rules.at_rule_of c xs)))) gaps.0
    ∙ ap (λ (b : Bool). cond b (turned (block_ended s) xs) (rule_by s c xs (at_rules.at_rule_of c xs))) h

-- the first token of a prelude
no_close : (x : Lexeme) → is_closer x ≡ false → is_delim 125 x ≡ false
no_close x h = (or_parts (is_delim 93 x) (is_delim 125 x) (or_parts (is_delim 41 x) (is_delim 93 x || is_delim 125 x) h).1).1

opener_no_close : (x : Lexeme) (c : ℕ) → closer_of x ≡ Some c → is_delim 125 x ≡ false
opener_no_close x c h = opener_closes_none (Some 125) x c refl h

style_is : (s : Rules) (p : Values) (around : Option ℕ) (a : Lexeme) (v : Values) (c : Lexeme) (rest : List Lexeme)
    → AreValues around p → HaveNone (is_delim 123) p → faults_in p ≡ [] → is_delim 123 a ≡ true
    → AreValues (Some 125) v → faults_in v ≡ [] → is_delim 125 c ≡ true
    → style_at s (written p ++ (a ∷ (written v ++ (c ∷ rest)))) ≡ turned (with_rule s (selectors_of (written p)) (written v)) rest
unfolding style_at
style_is s p around a v c rest are apart sound o block whole closes =
    let tail = written v ++ (c ∷ rest) in
    let all = written p ++ (a ∷ tail) in
    let n = front_len (stops_at (stops.At 123)) 0 all in
    let f = front_is n (written p) (a ∷ tail) (part_len (is_delim 123) p around a tail are sound apart o) in
    let b = block_behind v c rest block whole closes in
    ap (λ (x : List Lexeme). with_block_of s x (behind_first (drop n all))) f.0
    ∙ ap (λ (x : List Lexeme). with_block_of s (written p) (behind_first x)) f.1
    ∙ ap (λ (x : List Lexeme). turned (with_rule s (selectors_of (written p)) x) (behind_block tail)) b.0
    ∙ ap (turned (with_rule s (selectors_of (written p)) (written v))) b.1

stop_block : (kind : Option AtRule) (x : Lexeme) → is_stop kind x ≡ false → is_delim 123 x ≡ false
stop_block kind x h = (or_parts (is_delim 123 x) (is_some kind && is_delim 59 x) h).0

gap_space : (x : Lexeme) → is_gap x ≡ false → is_space x ≡ false
gap_space x h = (or_parts (is_space x) (is_open_comment x) h).0

-- a style rule
style_turn : (s : Rules) (p : Values) (around : Option ℕ) (a : Lexeme) (v : Values) (c : Lexeme) (rest : List Lexeme)
    → IsPrelude around p → kind_of (written p) ≡ None → faults_in p ≡ [] → is_delim 123 a ≡ true
    → AreValues (Some 125) v → faults_in v ≡ [] → is_delim 125 c ≡ true
    → turn s (written p ++ (a ∷ (written v ++ (c ∷ rest)))) ≡ turned (with_rule s (selectors_of (written p)) (written v)) rest
style_turn s p around a v c rest h kind sound o block whole closes = by_prelude p h kind sound
  where
    tail : List Lexeme
    tail = written v ++ (c ∷ rest)

    apart : (q : Values) → IsPrelude around q → HaveNone (is_delim 123) q
    apart q i = weaker (is_stop (kind_of (written q))) (is_delim 123) (stop_block (kind_of (written q))) q i.apart

    ruled : (q : Values) (x : Lexeme) (t : List Lexeme) → written q ≡ x ∷ t → IsPrelude around q → kind_of (written q) ≡ None
        → faults_in q ≡ [] → is_delim 125 x ≡ false
        → turn s (written q ++ (a ∷ tail)) ≡ turned (with_rule s (selectors_of (written q)) (written v)) rest
    ruled q x t e i k f close =
        let space = gap_space x (sym (ap begins_gap e) ∙ i.begins) in
        let at : at_rules.at_rule_of x (t ++ (a ∷ tail)) ≡ None = kind_front x t (a ∷ tail) (signed_first 123 a tail o)
        ∙ sym (ap kind_of e) ∙ k in
        ap (λ (z : List Lexeme). turn s (z ++ (a ∷ tail))) e
        ∙ begin_turn s x (t ++ (a ∷ tail)) space close
        ∙ ap (rule_by s x (t ++ (a ∷ tail))) at
        ∙ ap (λ (z : List Lexeme). style_at s (z ++ (a ∷ tail))) (sym e)
        ∙ style_is s q around a v c rest i.are (apart q i) f o block whole closes

    by_prelude : (q : Values) → IsPrelude around q → kind_of (written q) ≡ None → faults_in q ≡ []
        → turn s (written q ++ (a ∷ tail)) ≡ turned (with_rule s (selectors_of (written q)) (written v)) rest
    by_prelude Nil i k f =
        begin_turn s a tail (gap_space a (no_gap 123 a o)) (opener_no_close a 125 (opens_block a o))
        ∙ ap (rule_by s a tail) no_at
        ∙ style_is s Nil around a v c rest i.are tt f o block whole closes
      where
        no_at : at_rules.at_rule_of a tail ≡ None
        no_at = ap (λ (t : Bool). cond t (option_map at_rules.kind_of (at_rules.first_name tail)) None)
            (other_sign 123 64 a o refl)
    by_prelude (One x more) i k f =
        ruled (One x more) x (written more) refl i k f (no_close x (no_closer x (both_empty (fault_of x) (faults_in more) f).0))
    by_prelude (Closed x inside y more) i k f = ruled (Closed x inside y more) x (written inside ++ (y ∷ written more)) refl i k f
        (opener_no_close x i.are.0 i.are.1)
    by_prelude (Open x inside) i k f = absurd cc

-- an at-rule, up to what ends its prelude
at_turn : (s : Rules) (x : Lexeme) (q : Values) (around : Option ℕ) (k : AtRule) (y : Lexeme) (ys : List Lexeme)
    → IsPrelude around (One x q) → at_rules.at_rule_of x (written q) ≡ Some k
    → faults_in (One x q) ≡ [] → at_rules.first_name (y ∷ ys) ≡ None → stops_at stops.Prelude y ≡ true
    → turn s (x ∷ (written q ++ (y ∷ ys))) ≡ at_rule_by s x.at k (written q) (y ∷ ys)
unfolding at_rule_at
at_turn s x q around k y ys h kind sound name stop =
    let f = both_empty (fault_of x) (faults_in q) sound in
    let xs = written q ++ (y ∷ ys) in
    let apart : HaveNone (stops_at stops.Prelude) q =
    weaker (is_stop (at_rules.at_rule_of x (written q))) (stops_at stops.Prelude)
    (λ z n. sym (ap (λ (j : Option AtRule). is_stop j z) kind) ∙ n) q h.apart.1 in
    let len = part_len (stops_at stops.Prelude) q around y ys h.are.2 f.1 apart stop in
    let fr = front_is (prelude_len xs) (written q) (y ∷ ys) len in
    begin_turn s x xs (gap_space x h.begins) (no_close x (no_closer x f.0))
    ∙ ap (rule_by s x xs) (kind_front x (written q) (y ∷ ys) name ∙ kind)
    ∙ ap (λ (z : List Lexeme). at_rule_by s x.at k z (drop (prelude_len xs) xs)) fr.0
    ∙ ap (at_rule_by s x.at k (written q)) fr.1

stops_block : (y : Lexeme) → is_delim 123 y ≡ true → stops_at stops.Prelude y ≡ true
stops_block y h = ap (λ (b : Bool). b || is_delim 59 y) h

stops_end : (y : Lexeme) → is_delim 59 y ≡ true → stops_at stops.Prelude y ≡ true
stops_end y h = ap (λ (b : Bool). is_delim 123 y || b) h ∙ or_true (is_delim 123 y)
  where
    or_true : (b : Bool) → (b || true) ≡ true
    or_true true = refl
    or_true false = refl

-- a prelude with an at-rule begins with its @
record AtOne (p : Values) : Type 0 where
  x : Lexeme
  q : Values
  is : p ≡ One x q

at_one : (p : Values) (k : AtRule) (around : Option ℕ) → AreValues around p → kind_of (written p) ≡ Some k → AtOne p
at_one Nil k around h e = absurd cc
at_one (One x q) k around h e = record { x = x; q = q; is = refl }
at_one (Closed a inside b more) k around h e =
    absurd (no_kind (at_rules.at_rule_of a (written inside ++ (b ∷ written more)))
    (opener_at a h.0 (written inside ++ (b ∷ written more)) h.1) e)
  where
    no_kind : (o : Option AtRule) → o ≡ None → o ≡ Some k → ⊥
    no_kind o a b = cc
at_one (Open a inside) k around h e =
    absurd (no_kind (at_rules.at_rule_of a (written inside)) (opener_at a h.0 (written inside) h.1) e)
  where
    no_kind : (o : Option AtRule) → o ≡ None → o ≡ Some k → ⊥
    no_kind o a b = cc

-- what an at-rule with a block comes to, but for @media
abbrev at_state : Rules → ℕ → AtRule → Option Bool → Bool → Rules
at_state s at kinds.Skipped media block = s
at_state s at kinds.Media media block = with_media s at media block
at_state s at kinds.Other media block = with_found s at constructs.AtRule

at_block_by : (s : Rules) (at : ℕ) (k : AtRule) (prelude : List Lexeme) (a : Lexeme) (v : Values) (c : Lexeme)
    (rest : List Lexeme) → is_media_kind (Some k) ≡ false → is_delim 123 a ≡ true
    → AreValues (Some 125) v → faults_in v ≡ [] → is_delim 125 c ≡ true
    → at_rule_by s at k prelude (a ∷ (written v ++ (c ∷ rest))) ≡ turned (at_state s at k (media_in prelude) true) rest
at_block_by s at k prelude a v c rest m o block sound closes = by_kind k m
  where
    tail : List Lexeme
    tail = written v ++ (c ∷ rest)

    behind : behind_at_rule (a ∷ tail) ≡ rest
    behind = ap (λ (b : Bool). cond b (behind_block tail) tail) o ∙ (block_behind v c rest block sound closes).1

    by_kind : (j : AtRule) → is_media_kind (Some j) ≡ false
        → at_rule_by s at j prelude (a ∷ tail) ≡ turned (at_state s at j (media_in prelude) true) rest
    by_kind kinds.Skipped m = ap (turned s) behind
    by_kind kinds.Media m = absurd cc
    by_kind kinds.Other m = ap (turned (with_found s at constructs.AtRule)) behind

at_end_by : (s : Rules) (at : ℕ) (k : AtRule) (prelude : List Lexeme) (x : Lexeme) (rest : List Lexeme) → is_delim 59 x ≡ true
    → at_rule_by s at k prelude (x ∷ rest) ≡ turned (at_state s at k (media_in prelude) false) rest
at_end_by s at k prelude x rest h = by_kind k
  where
    no_block : begins 123 (x ∷ rest) ≡ false
    no_block = other_sign 59 123 x h refl

    behind : behind_at_rule (x ∷ rest) ≡ rest
    behind = ap (λ (b : Bool). cond b (behind_block rest) rest) no_block

    by_kind : (j : AtRule) → at_rule_by s at j prelude (x ∷ rest) ≡ turned (at_state s at j (media_in prelude) false) rest
    by_kind kinds.Skipped = ap (turned s) behind
    by_kind kinds.Media = ap (λ (b : Bool). turned (with_media s at (media_in prelude) b) rest) no_block
    by_kind kinds.Other = ap (turned (with_found s at constructs.AtRule)) behind

-- an at-rule with its block or its semicolon
at_block_turn : (s : Rules) (p : Values) (around : Option ℕ) (k : AtRule) (a : Lexeme) (v : Values) (c : Lexeme)
    (rest : List Lexeme) → IsPrelude around p → kind_of (written p) ≡ Some k → faults_in p ≡ []
    → is_media_kind (Some k) ≡ false → is_delim 123 a ≡ true → AreValues (Some 125) v → faults_in v ≡ [] → is_delim 125 c ≡ true
    → turn s (written p ++ (a ∷ (written v ++ (c ∷ rest))))
    ≡ turned (at_state s (offset_of (written p)) k (media_after p) true) rest
at_block_turn s p around k a v c rest h kind sound m o block whole closes = by_one p (at_one p k around h.are kind) h kind sound
  where
    by_one : (r : Values) → AtOne r → IsPrelude around r → kind_of (written r) ≡ Some k → faults_in r ≡ []
        → turn s (written r ++ (a ∷ (written v ++ (c ∷ rest))))
        ≡ turned (at_state s (offset_of (written r)) k (media_after r) true) rest
    by_one r one h kind sound = subst (λ (z : Values). IsPrelude around z → kind_of (written z) ≡ Some k → faults_in z ≡ []
        → turn s (written z ++ (a ∷ (written v ++ (c ∷ rest))))
        ≡ turned (at_state s (offset_of (written z)) k (media_after z) true) rest) (sym one.is) (λ i j f.
        at_turn s one.x one.q around k a (written v ++ (c ∷ rest)) i j f (signed_first 123 a (written v ++ (c ∷ rest)) o)
        (stops_block a o)
        ∙ at_block_by s one.x.at k (written one.q) a v c rest m o block whole closes) h kind sound

at_end_turn : (s : Rules) (p : Values) (around : Option ℕ) (k : AtRule) (x : Lexeme) (rest : List Lexeme) → IsPrelude around p
    → kind_of (written p) ≡ Some k → faults_in p ≡ [] → is_delim 59 x ≡ true
    → turn s (written p ++ (x ∷ rest)) ≡ turned (at_state s (offset_of (written p)) k (media_after p) false) rest
at_end_turn s p around k x rest h kind sound e = by_one p (at_one p k around h.are kind) h kind sound
  where
    by_one : (r : Values) → AtOne r → IsPrelude around r → kind_of (written r) ≡ Some k → faults_in r ≡ []
        → turn s (written r ++ (x ∷ rest)) ≡ turned (at_state s (offset_of (written r)) k (media_after r) false) rest
    by_one r one h kind sound = subst (λ (z : Values). IsPrelude around z → kind_of (written z) ≡ Some k → faults_in z ≡ []
        → turn s (written z ++ (x ∷ rest)) ≡ turned (at_state s (offset_of (written z)) k (media_after z) false) rest)
        (sym one.is) (λ i j f.
        at_turn s one.x one.q around k x rest i j f (signed_first 59 x rest e) (stops_end x e)
        ∙ at_end_by s one.x.at k (written one.q) x rest e) h kind sound

media_turn : (s : Rules) (p : Values) (around : Option ℕ) (a : Lexeme) (ys : List Lexeme) → IsPrelude around p
    → kind_of (written p) ≡ Some kinds.Media → faults_in p ≡ [] → is_delim 123 a ≡ true
    → turn s (written p ++ (a ∷ ys)) ≡ turned (with_media s (offset_of (written p)) (media_after p) true) ys
media_turn s p around a ys h kind sound o = by_one p (at_one p kinds.Media around h.are kind) h kind sound
  where
    by_one : (r : Values) → AtOne r → IsPrelude around r → kind_of (written r) ≡ Some kinds.Media → faults_in r ≡ []
        → turn s (written r ++ (a ∷ ys)) ≡ turned (with_media s (offset_of (written r)) (media_after r) true) ys
    by_one r one h kind sound = subst (λ (z : Values). IsPrelude around z → kind_of (written z) ≡ Some kinds.Media
        → faults_in z ≡ []
        → turn s (written z ++ (a ∷ ys)) ≡ turned (with_media s (offset_of (written z)) (media_after z) true) ys) (sym one.is)
        (λ i j f.
        at_turn s one.x one.q around kinds.Media a ys i j f (signed_first 123 a ys o) (stops_block a o)
        ∙ ap (λ (b : Bool). turned (with_media s one.x.at (media_in (written one.q)) b) ys) o) h kind sound

-- What items come to.

abbrev pub one_said : Bool → Option AtRule → Option Selectors → List Lexeme → List StyleRule
one_said on (Some kind) selectors block = []
one_said on None None block = []
one_said false None (Some x) block = []
one_said true None (Some x) block = record { selectors = x.selectors; declarations = declarations_of block } ∷ []

abbrev pub said : Bool → Items → List StyleRule
said on End = []
said on (Gap x more) = said on more
said on (Block p a v c more) = one_said on (kind_of (written p)) (selectors_of (written p)) (written v) ++ said on more
said on (Ended p x more) = said on more
said on (Media p a inside c more) = said (on && applies (media_after p)) inside ++ said on more
said on (Lost p) = []
said on (Unclosed p a v) = []
said on (UnclosedMedia p a inside) = []

abbrev pub state_as : List StyleRule → ℕ → ℕ → Option Found → Rules
state_as rules count off found = record { rules = rules; count = count; off = off; found = found }

abbrev pub after_items : Rules → Items → Rules
after_items s items = state_as (s.rules ++ said (s.off == 0) items) (s.count + rules_count items) s.off
    (or_found s.found (first_found items))

or_none : (x : Option Found) → or_found x None ≡ x
or_none None = refl
or_none (Some x) = refl

or_assoc : (x y z : Option Found) → or_found (or_found x y) z ≡ or_found x (or_found y z)
or_assoc None y z = refl
or_assoc (Some x) y z = refl

-- with one thing in front of items
abbrev with_front : Rules → List StyleRule → ℕ → Option Found → Items → Rules
with_front s front n found more = state_as (s.rules ++ (front ++ said (s.off == 0) more)) (s.count + (n + rules_count more)) s.off
    (or_found s.found (or_found found (first_found more)))

plus_assoc : (a b c : ℕ) → (a + b) + c ≡ a + (b + c)
plus_assoc a b c = omega arith

plus_zero : (a b : ℕ) → a + b ≡ a + (0 + b)
plus_zero a b = omega arith

found_front : (s : Rules) (found : Option Found) (more : Items)
    → after_items (state_as s.rules s.count s.off (or_found s.found found)) more ≡ with_front s [] 0 found more
found_front s found more =
    ap (λ (f : Option Found). state_as (s.rules ++ said (s.off == 0) more) (s.count + rules_count more) s.off f)
    (or_assoc s.found found (first_found more))
    ∙ ap (λ (n : ℕ). state_as (s.rules ++ said (s.off == 0) more) n s.off (or_found s.found (or_found found (first_found more))))
    (plus_zero s.count (rules_count more))

same_front : (s : Rules) (more : Items) → after_items s more ≡ with_front s [] 0 None more
same_front s more = ap (λ (n : ℕ). state_as (s.rules ++ said (s.off == 0) more) n s.off (or_found s.found (first_found more)))
    (plus_zero s.count (rules_count more))

style_front : (s : Rules) (o : Option Selectors) (block : List Lexeme) (more : Items)
    → after_items (with_rule s o block) more ≡ with_front s (one_said (s.off == 0) None o block) 1 (in_selectors o) more
style_front s None block more =
    ap (λ (n : ℕ). state_as (s.rules ++ said (s.off == 0) more) n s.off (or_found s.found (first_found more)))
    (plus_assoc s.count 1 (rules_count more))
style_front s (Some x) block more =
    ap (λ (r : List StyleRule). state_as r ((s.count + 1) + rules_count more) s.off
    (or_found (or_found s.found x.found) (first_found more))) (by_on (s.off == 0))
    ∙ ap (λ (n : ℕ). state_as (s.rules ++ (one_said (s.off == 0) None (Some x) block ++ said (s.off == 0) more)) n s.off
    (or_found (or_found s.found x.found) (first_found more))) (plus_assoc s.count 1 (rules_count more))
    ∙ ap (λ (f : Option Found). state_as (s.rules ++ (one_said (s.off == 0) None (Some x) block ++ said (s.off == 0) more))
    (s.count + (1 + rules_count more)) s.off f) (or_assoc s.found x.found (first_found more))
  where
    rule : StyleRule
    rule = record { selectors = x.selectors; declarations = declarations_of block }

    by_on : (b : Bool) → cond b (s.rules ++ rule ∷ []) s.rules ++ said b more
        ≡ s.rules ++ (one_said b None (Some x) block ++ said b more)
    by_on true = append_assoc s.rules (rule ∷ []) (said true more)
    by_on false = refl

-- an at-rule leaves what it has that isn't laid out
at_front : (s : Rules) (p : Values) (k : AtRule) (more : Items) → is_media_kind (Some k) ≡ false
    → after_items (at_state s (offset_of (written p)) k (media_after p) true) more
    ≡ with_front s [] 0 (in_prelude (Some k) p) more
at_front s p kinds.Skipped more m = same_front s more
at_front s p kinds.Media more m = absurd cc
at_front s p kinds.Other more m = found_front s (Some (record { offset = offset_of (written p); name = constructs.AtRule })) more

at_end_front : (s : Rules) (p : Values) (k : AtRule) (more : Items)
    → after_items (at_state s (offset_of (written p)) k (media_after p) false) more
    ≡ with_front s [] 0 (in_prelude (Some k) p) more
at_end_front s p kinds.Skipped more = same_front s more
at_end_front s p kinds.Media more = by_media (media_after p)
  where
    by_media : (o : Option Bool) → after_items (with_media s (offset_of (written p)) o false) more
        ≡ with_front s [] 0 (in_media (offset_of (written p)) o) more
    by_media (Some on) = same_front s more
    by_media None = found_front s (in_media (offset_of (written p)) None) more
at_end_front s p kinds.Other more =
    found_front s (Some (record { offset = offset_of (written p); name = constructs.AtRule })) more

-- a block of @media
media_front : (s : Rules) (p : Values) (inside more : Items)
    → after_items (block_ended (after_items (with_media s (offset_of (written p)) (media_after p) true) inside)) more
    ≡ state_as (s.rules ++ (said ((s.off == 0) && applies (media_after p)) inside ++ said (s.off == 0) more))
    (s.count + (rules_count inside + rules_count more)) s.off
    (or_found s.found (or_found (in_media (offset_of (written p)) (media_after p))
    (or_found (first_found inside) (first_found more))))
media_front s p inside more = by_media (media_after p)
  where
    at : ℕ
    at = offset_of (written p)

    off_in : Bool → ℕ
    off_in on = cond ((s.off == 0) && on) s.off (s.off + 1)

    -- in the block, and after it
    on_inside : (on : Bool) → (off_in on == 0) ≡ ((s.off == 0) && on)
    on_inside on = by_test ((s.off == 0) && on) refl
      where
        more_than : (n : ℕ) → ((n + 1) == 0) ≡ false
        more_than n = grind arith

        first : (a b : Bool) → (a && b) ≡ true → a ≡ true
        first true b h = refl
        first false b h = absurd cc

        by_test : (t : Bool) → ((s.off == 0) && on) ≡ t → (cond t s.off (s.off + 1) == 0) ≡ t
        by_test true e = first (s.off == 0) on e
        by_test false e = more_than s.off

    off_back : (on : Bool) → off_in on - 1 ≡ s.off
    off_back on = by_test ((s.off == 0) && on) refl
      where
        less : (n : ℕ) → (n + 1) - 1 ≡ n
        less n = omega arith

        first : (a b : Bool) → (a && b) ≡ true → a ≡ true
        first true b h = refl
        first false b h = absurd cc

        none_less : (n : ℕ) → (n == 0) ≡ true → n - 1 ≡ n
        none_less n h = let e = eqb-true n 0 h in omega (arith, e)

        by_test : (t : Bool) → ((s.off == 0) && on) ≡ t → cond t s.off (s.off + 1) - 1 ≡ s.off
        by_test true e = none_less s.off (first (s.off == 0) on e)
        by_test false e = less s.off

    told : (f : Option Found) (on : Bool)
        → after_items (block_ended (after_items (state_as s.rules s.count (off_in on) (or_found s.found f)) inside)) more
        ≡ state_as (s.rules ++ (said ((s.off == 0) && on) inside ++ said (s.off == 0) more))
        (s.count + (rules_count inside + rules_count more)) s.off
        (or_found s.found (or_found f (or_found (first_found inside) (first_found more))))
    told f on =
        let g = or_found (or_found (or_found s.found f) (first_found inside)) (first_found more) in
        ap (λ (b : Bool). state_as ((s.rules ++ said b inside) ++ said ((off_in on - 1) == 0) more)
        ((s.count + rules_count inside) + rules_count more) (off_in on - 1) g) (on_inside on)
        ∙ ap (λ (n : ℕ). state_as ((s.rules ++ said ((s.off == 0) && on) inside) ++ said (n == 0) more)
        ((s.count + rules_count inside) + rules_count more) n g) (off_back on)
        ∙ ap (λ (r : List StyleRule). state_as r ((s.count + rules_count inside) + rules_count more) s.off g)
        (append_assoc s.rules (said ((s.off == 0) && on) inside) (said (s.off == 0) more))
        ∙ ap (λ (n : ℕ). state_as (s.rules ++ (said ((s.off == 0) && on) inside ++ said (s.off == 0) more)) n s.off g)
        (plus_assoc s.count (rules_count inside) (rules_count more))
        ∙ ap (state_as (s.rules ++ (said ((s.off == 0) && on) inside ++ said (s.off == 0) more))
        (s.count + (rules_count inside + rules_count more)) s.off)
        (or_assoc (or_found s.found f) (first_found inside) (first_found more)
        ∙ or_assoc s.found f (or_found (first_found inside) (first_found more)))

    by_media : (o : Option Bool) → after_items (block_ended (after_items (with_media s at o true) inside)) more
        ≡ state_as (s.rules ++ (said ((s.off == 0) && applies o) inside ++ said (s.off == 0) more))
        (s.count + (rules_count inside + rules_count more)) s.off
        (or_found s.found (or_found (in_media at o) (or_found (first_found inside) (first_found more))))
    by_media None = told (in_media at None) false
    by_media (Some on) =
        ap (λ (f : Option Found). after_items (block_ended (after_items (state_as s.rules s.count (off_in on) f) inside)) more)
        (sym (or_none s.found)) ∙ told None on

-- Items turn by turn.

abbrev pub turns : Items → ℕ
turns End = 0
turns (Gap x more) = suc (turns more)
turns (Block p a v c more) = suc (turns more)
turns (Ended p x more) = suc (turns more)
turns (Media p a inside c more) = suc (turns inside + suc (turns more))
turns (Lost p) = 0
turns (Unclosed p a v) = 0
turns (UnclosedMedia p a inside) = 0

one_turn : (n : ℕ) (s then : Rules) (xs rest : List Lexeme) → turn s xs ≡ turned then rest
    → rules_from (suc n) s xs ≡ rules_from n then rest
unfolding rules_from
one_turn n s then xs rest e = ap (λ (r : Rules × List Lexeme). rules_from n r.0 r.1) e

suc_plus : (a m : ℕ) → suc a + m ≡ suc (a + m)
suc_plus a m = omega arith

empty_middle : (fs : List Fault) (f : Fault) → fs ++ f ∷ [] ≡ [] → ⊥
empty_middle [] f e = cc
empty_middle (g ∷ fs) f e = cc

pub items_turned : (items : Items) (around : Option ℕ) (s : Rules) (m : ℕ) (rest : List Lexeme) → AreItems around items
    → faults_of items ≡ []
    → rules_from (turns items + m) s (tokens_of items ++ rest) ≡ rules_from m (after_items s items) rest
items_turned End around s m rest h e =
    ap (λ (n : ℕ). rules_from n s rest) (none m)
    ∙ ap (λ (r : List StyleRule). rules_from m (state_as r s.count s.off s.found) rest) (sym (append-nil s.rules))
    ∙ ap (λ (n : ℕ). rules_from m (state_as (s.rules ++ []) n s.off s.found) rest) (same s.count)
    ∙ ap (λ (f : Option Found). rules_from m (state_as (s.rules ++ []) (s.count + 0) s.off f) rest) (sym (or_none s.found))
  where
    none : (m : ℕ) → 0 + m ≡ m
    none m = omega arith

    same : (n : ℕ) → n ≡ n + 0
    same n = omega arith
items_turned (Gap x more) around s m rest h e =
    let f = both_empty (fault_of x) (faults_of more) e in
    let tail = tokens_of more ++ rest in
    ap (λ (n : ℕ). rules_from n s (x ∷ tail)) (suc_plus (turns more) m)
    ∙ one_turn (turns more + m) s s (x ∷ tail) tail (space_turn s x tail h.0 f.0)
    ∙ items_turned more around s m rest h.1 f.1
items_turned (Block p a v c more) around s m rest h e =
    let f = both_empty (faults_in p) (faults_in v ++ faults_of more) e in
    let g = both_empty (faults_in v) (faults_of more) f.1 in
    let tail = tokens_of more ++ rest in
    ap (λ (n : ℕ). rules_from n s (tokens_of (Block p a v c more) ++ rest)) (suc_plus (turns more) m)
    ∙ ap (rules_from (suc (turns more + m)) s) (three (written p) a (written v) c (tokens_of more) rest)
    ∙ by_kind (kind_of (written p)) refl f.0 g.0 (λ then. items_turned more around then m rest h.7 g.1)
  where
    three : (a : List Lexeme) (y : Lexeme) (b : List Lexeme) (c : Lexeme) (d e : List Lexeme)
        → (a ++ (y ∷ (b ++ (c ∷ d)))) ++ e ≡ a ++ (y ∷ (b ++ (c ∷ (d ++ e))))
    three a y b c d e = append_assoc a (y ∷ (b ++ (c ∷ d))) e ∙ ap (λ (z : List Lexeme). a ++ (y ∷ z)) (append_assoc b (c ∷ d) e)

    tokens : List Lexeme
    tokens = written p ++ (a ∷ (written v ++ (c ∷ (tokens_of more ++ rest))))

    abbrev_out : Option AtRule → Rules
    abbrev_out k = with_front s (one_said (s.off == 0) k (selectors_of (written p)) (written v)) (one_if_style k)
        (in_prelude k p) more

    by_kind : (k : Option AtRule) → kind_of (written p) ≡ k → faults_in p ≡ [] → faults_in v ≡ []
        → ((then : Rules) → rules_from (turns more + m) then (tokens_of more ++ rest) ≡ rules_from m (after_items then more) rest)
        → rules_from (suc (turns more + m)) s tokens ≡ rules_from m (after_items s (Block p a v c more)) rest
    by_kind None k fp fv below =
        one_turn (turns more + m) s (with_rule s (selectors_of (written p)) (written v)) tokens (tokens_of more ++ rest)
        (style_turn s p around a v c (tokens_of more ++ rest) h.0 k fp h.3 h.4 fv h.6)
        ∙ below (with_rule s (selectors_of (written p)) (written v))
        ∙ ap (λ (u : Rules). rules_from m u rest) (style_front s (selectors_of (written p)) (written v) more
        ∙ ap abbrev_out (sym k))
    by_kind (Some j) k fp fv below =
        let then = at_state s (offset_of (written p)) j (media_after p) true in
        let plain : is_media_kind (Some j) ≡ false = sym (ap is_media_kind k) ∙ h.2 in
        one_turn (turns more + m) s then tokens (tokens_of more ++ rest)
        (at_block_turn s p around j a v c (tokens_of more ++ rest) h.0 k fp plain h.3 h.4 fv h.6)
        ∙ below then
        ∙ ap (λ (u : Rules). rules_from m u rest) (at_front s p j more plain ∙ ap abbrev_out (sym k))
items_turned (Ended p x more) around s m rest h e =
    let f = both_empty (faults_in p) (faults_of more) e in
    ap (λ (n : ℕ). rules_from n s (tokens_of (Ended p x more) ++ rest)) (suc_plus (turns more) m)
    ∙ ap (rules_from (suc (turns more + m)) s) (append_assoc (written p) (x ∷ tokens_of more) rest)
    ∙ by_kind (kind_of (written p)) refl h.2 f.0 (λ then. items_turned more around then m rest h.4 f.1)
  where
    tokens : List Lexeme
    tokens = written p ++ (x ∷ (tokens_of more ++ rest))

    abbrev_out : Option AtRule → Rules
    abbrev_out k = state_as (s.rules ++ said (s.off == 0) more) (s.count + rules_count more) s.off
        (or_found s.found (or_found (in_prelude k p) (first_found more)))

    by_kind : (k : Option AtRule) → kind_of (written p) ≡ k → is_some (kind_of (written p)) ≡ true → faults_in p ≡ []
        → ((then : Rules) → rules_from (turns more + m) then (tokens_of more ++ rest) ≡ rules_from m (after_items then more) rest)
        → rules_from (suc (turns more + m)) s tokens ≡ rules_from m (after_items s (Ended p x more)) rest
    by_kind None k some fp below = absurd (true≢false (sym some ∙ ap is_some k))
    by_kind (Some j) k some fp below =
        let then = at_state s (offset_of (written p)) j (media_after p) false in
        one_turn (turns more + m) s then tokens (tokens_of more ++ rest)
        (at_end_turn s p around j x (tokens_of more ++ rest) h.0 k fp h.3)
        ∙ below then
        ∙ ap (λ (u : Rules). rules_from m u rest) (at_end_front s p j more
        ∙ ap (λ (n : ℕ). state_as (s.rules ++ said (s.off == 0) more) n s.off
        (or_found s.found (or_found (in_prelude (Some j) p) (first_found more))))
        (sym (plus_zero s.count (rules_count more)))
        ∙ ap abbrev_out (sym k))
items_turned (Media p a inside c more) around s m rest h e =
    let f = both_empty (faults_in p) (faults_of inside ++ faults_of more) e in
    let g = both_empty (faults_of inside) (faults_of more) f.1 in
    let tail = tokens_of more ++ rest in
    let begun = with_media s (offset_of (written p)) (media_after p) true in
    let within = after_items begun inside in
    let kind = media_kind (kind_of (written p)) h.2 in
    ap (λ (n : ℕ). rules_from n s (tokens_of (Media p a inside c more) ++ rest)) (count (turns inside) (turns more) m)
    ∙ ap (rules_from (suc (turns inside + suc (turns more + m))) s)
    (three (written p) a (tokens_of inside) c (tokens_of more) rest)
    ∙ one_turn (turns inside + suc (turns more + m)) s begun (written p ++ (a ∷ (tokens_of inside ++ (c ∷ tail))))
    (tokens_of inside ++ (c ∷ tail)) (media_turn s p around a (tokens_of inside ++ (c ∷ tail)) h.0 kind f.0 h.3)
    ∙ items_turned inside (Some 125) begun (suc (turns more + m)) (c ∷ tail) h.4 g.0
    ∙ one_turn (turns more + m) within (block_ended within) (c ∷ tail) tail (end_turn within c tail h.6)
    ∙ items_turned more around (block_ended within) m rest h.7 g.1
    ∙ ap (λ (u : Rules). rules_from m u rest) (media_front s p inside more ∙ ap abbrev_out (sym kind))
  where
    three : (a : List Lexeme) (y : Lexeme) (b : List Lexeme) (c : Lexeme) (d e : List Lexeme)
        → (a ++ (y ∷ (b ++ (c ∷ d)))) ++ e ≡ a ++ (y ∷ (b ++ (c ∷ (d ++ e))))
    three a y b c d e = append_assoc a (y ∷ (b ++ (c ∷ d))) e ∙ ap (λ (z : List Lexeme). a ++ (y ∷ z)) (append_assoc b (c ∷ d) e)

    count : (a b m : ℕ) → suc (a + suc b) + m ≡ suc (a + suc (b + m))
    count a b m = omega arith

    media_kind : (k : Option AtRule) → is_media_kind k ≡ true → k ≡ Some kinds.Media
    media_kind None h = absurd cc
    media_kind (Some kinds.Skipped) h = absurd cc
    media_kind (Some kinds.Media) h = refl
    media_kind (Some kinds.Other) h = absurd cc

    abbrev_out : Option AtRule → Rules
    abbrev_out k = state_as (s.rules ++ (said ((s.off == 0) && applies (media_after p)) inside ++ said (s.off == 0) more))
        (s.count + (rules_count inside + rules_count more)) s.off
        (or_found s.found (or_found (in_prelude k p) (or_found (first_found inside) (first_found more))))
items_turned (Lost p) around s m rest h e = absurd (empty_middle (faults_in p) _ e)
items_turned (Unclosed p a v) around s m rest h e = absurd (no_tail (both_empty (faults_in p) _ e).1)
  where
    no_tail : {g : Fault} {gs : List Fault} → g ∷ gs ≡ [] → ⊥
    no_tail e = cc
items_turned (UnclosedMedia p a inside) around s m rest h e = absurd (no_tail (both_empty (faults_in p) _ e).1)
  where
    no_tail : {g : Fault} {gs : List Fault} → g ∷ gs ≡ [] → ⊥
    no_tail e = cc
