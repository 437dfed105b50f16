-- What is answered for a text, from the function on lists.
use Rattle.std.proofs.Common.{◌≡◌, ℕ, List, Result, Ok, Err, ◌⊎◌, inl, inr, sym, ◌∙◌, ap, None}
use Rattle.std.specs.Prelude.{IfOk, IfErr}
use Rattle.mc_base.specs.declared.refusal.Refusal.{Refusal}
use Rattle.html_grammar.specs.declared.dom.Dom.{Dom}
use Rattle.html_grammar.specs.Tree.{Forest, nodes_from}
use Rattle.html_grammar.specs.Documents.{IsDomOf}
use Rattle.html_grammar.specs.Whole.{dom_of}
use Rattle.html_grammar.specs.FirstFaults.{IsRefusalOf}
use Rattle.html_grammar.proofs.Texts.{dom_found, dom_is_read, one_tree_of_text}
use Rattle.html_grammar.proofs.Refusals.{dom_refused}
use Rattle.mc_base.specs.declared.refusal.Refusal.TheVariants as refusals
use Rattle.html_subset.specs.Gives.{IsUnlessMemory}
use Rattle.html_subset.specs.OneTree.{IsTheOneOf}

pub answer_found : (r : Result Dom Refusal) (bytes : List ℕ) → IsUnlessMemory r (dom_of bytes) → IfOk r (λ dom. IsDomOf bytes dom)
answer_found (Ok dom) bytes (inl e) = absurd cc
answer_found (Ok dom) bytes (inr e) = dom_found bytes dom (sym e)
answer_found (Err refusal) bytes h = tt

pub answer_only : (r : Result Dom Refusal) (bytes : List ℕ) → IsUnlessMemory r (dom_of bytes) → (dom : Dom) → IsDomOf bytes dom
    → IsUnlessMemory r (Ok dom)
answer_only r bytes (inl e) dom h = inl e
answer_only r bytes (inr e) dom h = inr (e ∙ dom_is_read bytes dom h)

pub answer_refused : (r : Result Dom Refusal) (bytes : List ℕ) → IsUnlessMemory r (dom_of bytes)
    → IfErr r (λ e. (e ≡ refusals.NoMemory) ⊎ IsRefusalOf bytes e)
answer_refused (Ok dom) bytes h = tt
answer_refused (Err refusal) bytes (inl e) = inl cc
answer_refused (Err refusal) bytes (inr e) = inr (dom_refused bytes refusal (sym e))

the_one : (bytes : List ℕ) (dom : Dom) → IsDomOf bytes dom → IsTheOneOf bytes dom
the_one bytes dom d tree construct t =
    let same = one_tree_of_text bytes d.tree tree dom.construct construct d.text t
    in (d.nodes ∙ ap (λ (f : Forest). nodes_from None 0 f) same.0, same.1)

pub answer_one : (r : Result Dom Refusal) (bytes : List ℕ) → IfOk r (λ dom. IsDomOf bytes dom)
    → IfOk r (λ dom. IsTheOneOf bytes dom)
answer_one (Ok dom) bytes d = the_one bytes dom d
answer_one (Err refusal) bytes d = tt
