-- Why a text is refused.
use Rattle.std.proofs.Common.{◌≡◌, ℕ, ◌≤◌, ◌<◌, List, Option, None, Result, Ok, Err, Bool, true, false, cond, nat_lt, refl, sym}
use Rattle.std.proofs.Common.{ap, ◌∙◌, arith, inl, inr}
use Rattle.std.specs.Prelude.{◌⊎◌}
use Rattle.mc_base.specs.declared.refusal.Found.{Found}
use Rattle.mc_base.specs.declared.refusal.Refusal.{Refusal}
use Rattle.mc_base.specs.declared.refusal.Refusal.TheVariants as refusals
use Rattle.mc_base.specs.declared.refusal.LimitName.TheVariants as limits
use Rattle.html_grammar.specs.declared.dom.Dom.{Dom}
use Rattle.mc_base.specs.declared.read_error.Fault.{Fault}
use Rattle.mc_base.proofs.ReadSteps.{seen}
use Rattle.html_grammar.specs.Tree.{Forest, nodes_from}
use Rattle.html_grammar.specs.Grammar.{depth_of}
use Rattle.html_grammar.specs.Whole.{Reading, read_text, count_elements, grammar_refusal, refused_or_within, dom_of}
use Rattle.html_grammar.specs.Documents.{IsText}
use Rattle.html_grammar.specs.FirstFaults.{IsRefusalOf}
use Rattle.html_grammar.proofs.Texts.{text_of}
use Rattle.html_grammar.proofs.TextFaults.{text_fault}

abbrev refused : Refusal → Result Dom Refusal
refused e = Err e

same_refusal : (a b : Refusal) → refused a ≡ refused b → a ≡ b
same_refusal a b e = cc

pub dom_refused : (bytes : List ℕ) (e : Refusal) → dom_of bytes ≡ Err e → IsRefusalOf bytes e
unfolding dom_of
dom_refused bytes e h = by_read (seen (read_text bytes))
  where
    less : (a b : ℕ) → nat_lt a b ≡ true → a < b
    less a b h = grind (arith, h)

    at_most : (a b : ℕ) → nat_lt a b ≡ false → b ≤ a
    at_most a b h = grind (arith, h)

    by_depth : (tree : Forest) (construct : Option Found) → IsText bytes tree construct
        → count_elements (nodes_from None 0 tree) ≤ 20000 → (b : Bool) → nat_lt 64 (depth_of tree) ≡ b
        → cond b (Err (refusals.Limit limits.Depth 65 64)) (Ok (record { nodes = nodes_from None 0 tree; construct = construct }))
        ≡ refused e → IsRefusalOf bytes e
    by_depth tree construct t many true k h =
        inr (inr (
          tree,
          construct,
          t,
          many,
          less 64 (depth_of tree) k,
          sym (same_refusal (refusals.Limit limits.Depth 65 64) e h),
        ))
    by_depth tree construct t many false k h = absurd cc

    by_elements : (tree : Forest) (construct : Option Found) → IsText bytes tree construct → (b : Bool)
        → nat_lt 20000 (count_elements (nodes_from None 0 tree)) ≡ b
        → cond b (Err (refusals.Limit limits.Elements 20001 20000))
        (cond (nat_lt 64 (depth_of tree)) (Err (refusals.Limit limits.Depth 65 64))
        (Ok (record { nodes = nodes_from None 0 tree; construct = construct }))) ≡ refused e → IsRefusalOf bytes e
    by_elements tree construct t true k h =
        inr (inl (
          tree,
          construct,
          t,
          less 20000 (count_elements (nodes_from None 0 tree)) k,
          sym (same_refusal (refusals.Limit limits.Elements 20001 20000) e h),
        ))
    by_elements tree construct t false k h = by_depth tree construct t (at_most 20000 (count_elements (nodes_from None 0 tree)) k)
        (nat_lt 64 (depth_of tree)) refl h

    by_read : ((r : Reading) × (read_text bytes ≡ Ok r)) ⊎ ((f : Fault) × (read_text bytes ≡ Err f)) → IsRefusalOf bytes e
    by_read (inl r) =
        let t = text_of bytes r.0 r.1 in
        by_elements t.0 r.0.construct t.1 (nat_lt 20000 (count_elements (nodes_from None 0 t.0))) refl
        (sym (ap refused_or_within (r.1 ∙ ap (λ (x : Reading). Ok x) t.2)) ∙ h)
    by_read (inr f) =
        let k : dom_of bytes ≡ Err (grammar_refusal f.0) = ap refused_or_within f.1 in
        inl (f.0, text_fault bytes f.0 f.1, sym (same_refusal (grammar_refusal f.0) e (sym k ∙ h)))
