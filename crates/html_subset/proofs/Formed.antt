-- The document of a text is well formed.
use Rattle.std.proofs.Common.{ℕ, ◌≤◌, ◌^◌, List, length, chars, Result, Ok, Err, None, refl, sym, ap, subst, arith}
use Rattle.std.specs.Prelude.{IfOk, sum_by}
use Rattle.std.specs.List.{AllByRecursion}
use Rattle.mc_base.specs.declared.refusal.Refusal.{Refusal}
use Rattle.html_grammar.specs.declared.dom.Dom.{Dom}
use Rattle.html_grammar.specs.Places.{places_of}
use Rattle.html_grammar.specs.Documents.{IsDomOf}
use Rattle.html_subset.specs.WellFormed.{IsWellFormed, IsHtml, NodeIsUtf8, node_bytes, NodeIsWithin}
use Rattle.html_subset.proofs.TextsFit.{length-le-weight}
use Rattle.html_subset.proofs.FormsFit.{token_bytes, lexed_fit}
use Rattle.html_subset.proofs.PlacesFit.{text_places_fit}
use Rattle.html_subset.proofs.DocumentsFit.{document_fits, nodes_utf8, nodes_bytes}
use Rattle.html_subset.proofs.TextsWithin.{nodes_within}
use Rattle.html_subset.proofs.NodesFit.{costs_fit, document_count, nodes_length}

pub dom_formed : (bytes : List ℕ) (dom : Dom) → length bytes ≤ 2 ^ 28 → IsDomOf bytes dom → IsWellFormed dom
dom_formed bytes dom small h =
    let text = h.text in
    let ps = places_of (chars bytes) in
    let places = text_places_fit bytes text.utf8 in
    let lexed = lexed_fit text.tokens ps text.spelled places.scalars in
    let fits = document_fits (length bytes) text.tokens h.tree (sum_by token_bytes text.tokens) text.document
    (record { utf8 = lexed.0; bound = omega arith }) in
    let many = document_count (length bytes) text.tokens h.tree text.document in
    let costly = costs_fit text.tokens ps text.spelled in
    record {
      tree = h.tree;
      nodes = h.nodes;
      root = subst IsHtml (sym text.document.whole) (refl, refl);
      depth = h.depth;
      count = omega (
        arith,
        small,
        ap length h.nodes,
        nodes_length None 0 h.tree,
        many,
        costly,
        length-le-weight ps,
        places.bound,
      );
      utf8 = subst (AllByRecursion NodeIsUtf8) (sym h.nodes) (nodes_utf8 None 0 h.tree fits.0);
      texts = subst (AllByRecursion (NodeIsWithin (2 ^ 28))) (sym h.nodes)
          (nodes_within (2 ^ 28) None 0 h.tree (fits.2 (2 ^ 28) (omega (arith, small, lexed.1, places.bound)) (omega arith)));
      bytes = omega (arith, small, ap (sum_by node_bytes) h.nodes, nodes_bytes None 0 h.tree, fits.1, lexed.1, places.bound);
    }

pub answer_formed : (r : Result Dom Refusal) (bytes : List ℕ) → length bytes ≤ 2 ^ 28 → IfOk r (λ dom. IsDomOf bytes dom)
    → IfOk r (λ dom. IsWellFormed dom)
answer_formed (Ok dom) bytes small h = dom_formed bytes dom small h
answer_formed (Err refusal) bytes small h = tt
