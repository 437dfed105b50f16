-- Style attributes: what their text says is read, and nothing else.
use Rattle.std.proofs.Common.{◌≡◌, ℕ, List, Result, Ok, Err, refl, sym, ap, subst, ◌∙◌, inl, inr}
use Rattle.std.specs.Prelude.{◌⊎◌, Option, Some, None}
use Rattle.mc_base.specs.declared.refusal.Refusal.{Refusal}
use Rattle.css_data.specs.declared.rule.RawDeclaration.{RawDeclaration}
use Rattle.css_tokens.specs.declared.lexeme.Fault.{Fault}
use Rattle.css_tokens.specs.declared.lexeme.Lexeme.{Lexeme}
use Rattle.css_tokens.specs.Lexing.{lexed}
use Rattle.css_laws.specs.Texts.{IsTokens, IsBadByte}
use Rattle.css_laws.specs.Values.{written, faults_in, IsFirst}
use Rattle.css_laws.proofs.Whole.{tokens_said, tokens_read, bad_said, bad_refused}
use Rattle.css_syntax.specs.Brackets.{block_fault}
use Rattle.css_syntax.specs.Blocks.{declarations_of}
use Rattle.css_syntax.specs.Sheets.{grammar_refusal, declarations_by, declarations_or_fault, declarations_in}
use Rattle.css_syntax.specs.Styling.{AreDeclarations, IsStyle, IsBlockFault, IsStyleFault, IsStyleRefusal}
use Rattle.css_syntax.proofs.Folding.{Told, first_once}
use Rattle.css_syntax.proofs.BlockFaults.{block_told, values_of}
use Rattle.css_syntax.proofs.Pieces.{block_found, block_back}

abbrev pub Read : Type 0
Read = Result (List RawDeclaration) Refusal

abbrev ok_of : List RawDeclaration → Read
ok_of all = Ok all

abbrev err_of : Refusal → Read
err_of e = Err e

same_ok : (a b : List RawDeclaration) → ok_of a ≡ ok_of b → a ≡ b
same_ok a b e = cc

same_err : (a b : Refusal) → err_of a ≡ err_of b → a ≡ b
same_err a b e = cc

pub style_found : (bytes : List ℕ) (all : List RawDeclaration) → declarations_in bytes ≡ Ok all → IsStyle bytes all
unfolding declarations_in
style_found bytes all h = by_tokens (lexed bytes) refl h
  where
    by_fault : (xs : List Lexeme) → IsTokens bytes xs → (o : Option Fault) → block_fault xs ≡ o → declarations_by o xs ≡ Ok all
        → IsStyle bytes all
    by_fault xs t (Some f) e h = absurd cc
    by_fault xs t None e h = record
        { tokens = xs; said = t; are = subst (AreDeclarations xs) (same_ok (declarations_of xs) all h) (block_found xs e) }

    by_tokens : (r : Result (List Lexeme) Fault) → lexed bytes ≡ r → declarations_or_fault r ≡ Ok all → IsStyle bytes all
    by_tokens (Ok xs) e h = by_fault xs (tokens_said bytes xs e) (block_fault xs) refl h
    by_tokens (Err f) e h = absurd cc

pub style_read : (bytes : List ℕ) (all : List RawDeclaration) → IsStyle bytes all → declarations_in bytes ≡ Ok all
unfolding declarations_in
style_read bytes all s =
    let back = block_back s.tokens all s.are in
    ap declarations_or_fault (tokens_read bytes s.tokens s.said)
    ∙ ap (λ (o : Option Fault). declarations_by o s.tokens) back.0
    ∙ ap (λ (x : List RawDeclaration). Ok x) back.1

pub style_refused : (bytes : List ℕ) (e : Refusal) → declarations_in bytes ≡ Err e → IsStyleRefusal bytes e
unfolding declarations_in
style_refused bytes e h = by_tokens (lexed bytes) refl h
  where
    by_fault : (xs : List Lexeme) → IsTokens bytes xs → (o : Option Fault) → block_fault xs ≡ o → declarations_by o xs ≡ Err e
        → IsStyleRefusal bytes e
    by_fault xs t (Some f) k h =
        let v = values_of xs in
        let told : IsFirst f (faults_in v.0) =
        subst (λ (o : Option Fault). Told o (faults_in v.0)) (ap block_fault v.2 ∙ k) (block_told v.0 v.1) in (
          f,
          inr (xs, t, record { values = v.0; whole = sym v.2; are = v.1; first = told }),
          sym (same_err (grammar_refusal f) e h),
        )
    by_fault xs t None k h = absurd cc

    by_tokens : (r : Result (List Lexeme) Fault) → lexed bytes ≡ r → declarations_or_fault r ≡ Err e → IsStyleRefusal bytes e
    by_tokens (Ok xs) k h = by_fault xs (tokens_said bytes xs k) (block_fault xs) refl h
    by_tokens (Err f) k h = (f, inl (bad_said bytes f k), sym (same_err (grammar_refusal f) e h))

pub block_first : (xs : List Lexeme) (f : Fault) → IsBlockFault xs f → block_fault xs ≡ Some f
block_first xs f h = ap block_fault h.whole ∙ by_told (block_fault (written h.values)) refl (block_told h.values h.are)
  where
    by_told : (o : Option Fault) → block_fault (written h.values) ≡ o → Told o (faults_in h.values)
        → block_fault (written h.values) ≡ Some f
    by_told None e t = absurd (t f h.first.among)
    by_told (Some g) e t = e ∙ ap (λ (x : Fault). Some x) (first_once g f (faults_in h.values) t h.first)

pub style_told : (bytes : List ℕ) (f : Fault) → IsStyleFault bytes f → declarations_in bytes ≡ Err (grammar_refusal f)
unfolding declarations_in
style_told bytes f h = by_fault h
  where
    by_fault : IsBadByte bytes f ⊎ ((xs : List Lexeme) × IsTokens bytes xs × IsBlockFault xs f)
        → declarations_or_fault (lexed bytes) ≡ Err (grammar_refusal f)
    by_fault (inl b) = ap declarations_or_fault (bad_refused bytes f b)
    by_fault (inr b) = ap declarations_or_fault (tokens_read bytes b.0 b.1)
        ∙ ap (λ (o : Option Fault). declarations_by o b.0) (block_first b.0 f b.2)

pub one_style : (bytes : List ℕ) (a b : List RawDeclaration) → IsStyle bytes a → IsStyle bytes b → a ≡ b
one_style bytes a b s t = same_ok a b (sym (style_read bytes a s) ∙ style_read bytes b t)
