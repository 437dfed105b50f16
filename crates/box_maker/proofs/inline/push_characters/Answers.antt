use Rattle.std.proofs.Common.{◌≡◌, ℕ, ◌+◌, ◌<◌, ◌≤◌, ◌++◌, List, [], ◌∷◌, length, get_or, drop, map, sym, ap, ◌∙◌, arith}
use Rattle.std.proofs.Common.{append_assoc, append-nil}
use Rattle.std.proofs.lemmas.Iterator.{YieldsList-from_chars}
use Rattle.std.proofs.lemmas.List.{drop_more, drop_all, length_push}
use Rattle.std.proofs.lemmas.Iterator.Consumers.{YieldsList-turn, YieldsList-end}
use Rattle.std.specs.Str.{chars}
use Rattle.inline_text.specs.declared.content.Piece.{Piece}
use Rattle.inline_text.specs.declared.content.Piece.TheVariants as pieces
use Rattle.box_maker.proofs.inline.push_characters.Goals as goal

char-more : (F : ℕ → Piece) (cs : List ℕ) (n m ch : ℕ) (old new all : List Piece) → n < length cs → ch ≡ get_or cs n ch →
    m ≡ n + 1 →
    new ≡ old ++ F ch ∷ [] → old ++ map F (drop n cs) ≡ all → new ++ map F (drop m cs) ≡ all
char-more F cs n m ch old new all lt is next pushed so_far =
    let rest = drop (n + 1) cs in
    let d : drop n cs ≡ ch ∷ rest = drop_more cs n ch lt ∙ ap (λ x. x ∷ rest) (sym is) in
    ap (λ k. new ++ map F (drop k cs)) next ∙ ap (λ xs. xs ++ map F rest) pushed ∙ append_assoc old (F ch ∷ []) (map F rest)
    ∙ ap (λ xs. old ++ map F xs) (sym d) ∙ so_far

char-over : (F : ℕ → Piece) (cs : List ℕ) (n : ℕ) (old all : List Piece) → length cs ≤ n → old ++ map F (drop n cs) ≡ all →
    old ≡ all
char-over F cs n old all le so_far = sym (append-nil old) ∙ ap (λ xs. old ++ map F xs) (sym (drop_all n cs le)) ∙ so_far

pub loop-ch-preserved : goal.loop-ch-preserved
loop-ch-preserved c =
    let t = YieldsList-turn (YieldsList-from_chars c.args.text.now c.utf8.text cc) c.loop-ch.yielded _ c.loop-ch.yielded_by _ _
    c.in-Some.ch c.in-Some.is
    c.next.ensures.steps in
    char-more (λ ch. pieces.Char ch c.args.parent) (chars c.args.text.now) (length c.loop-ch.yielded) (length (c.loop-ch.yielded
    ++ c.in-Some.ch ∷ []))
    c.in-Some.ch c.loop-ch.pieces.items c.push.new.self.items _ t.0 t.1 (length_push c.loop-ch.yielded c.in-Some.ch)
    c.in_ok-push.ensures.items c.loop-ch.invariant

pub returns : goal.returns
returns c =
    let t = YieldsList-end (YieldsList-from_chars c.args.text.now c.utf8.text cc) c.loop-ch.yielded _ c.loop-ch.yielded_by _ _
    c.in-None.is c.next.ensures.steps in
    char-over (λ ch. pieces.Char ch c.args.parent) (chars c.args.text.now) (length c.loop-ch.yielded) c.loop-ch.pieces.items _
    (omega (arith, t.1)) c.loop-ch.invariant
