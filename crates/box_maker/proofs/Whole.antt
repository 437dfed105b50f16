-- The tree of a document stands in its list of nodes.
use Rattle.std.proofs.Common.{◌≡◌, ℕ, zero, suc, ◌+◌, ◌++◌, List, [], ◌∷◌, length, drop, Option, Some, None, refl, sym, ap, ◌∙◌}
use Rattle.std.proofs.Common.{subst, arith, append_assoc, append-nil}
use Rattle.std.specs.Prelude.{slice_get}
use Rattle.std.specs.List.{AllByRecursion}
use Rattle.std.proofs.lemmas.Option.{same_Some, none-some}
use Rattle.std.proofs.lemmas.List.{drop-drop, drop_at}
use Rattle.html_grammar.specs.declared.dom.DomNode.{DomNode}
use Rattle.html_grammar.specs.Tree.{Forest, Nil, Element, Words, element_node, words_node, nodes_from}
use Rattle.html_subset.specs.WellFormed.{NodeIsUtf8}
use Rattle.box_data.specs.BoxTree.{node_count}
use Rattle.box_maker.specs.Standing.{Stands}
use Rattle.box_maker.specs.Ends.{HasEnds}
use Rattle.box_maker.proofs.Sweep.{length-nodes_from}

drop-head : {X : Type 0} (k : ℕ) (nodes : List X) (x : X) (xs : List X) → drop k nodes ≡ x ∷ xs →
    (slice_get nodes k ≡ Some x) × (drop (suc k) nodes ≡ xs)
drop-head zero [] x xs e = cc
drop-head zero (y ∷ ys) x xs e = (cc, cc)
drop-head (suc k) [] x xs e = cc
drop-head (suc k) (y ∷ ys) x xs e = drop-head k ys x xs e

holds-at : {X : Type 0} (P : X → Type 0) (xs : List X) (k : ℕ) (x : X) → AllByRecursion P xs → slice_get xs k ≡ Some x → P x
holds-at P [] k x all is = absurd (none-some x is)
holds-at P (y ∷ ys) zero x all is = subst P (same_Some y x is) all.0
holds-at P (y ∷ ys) (suc k) x all is = holds-at P ys k x all.1 is

module _ (nodes : List DomNode) (ends : List ℕ) (utf8 : AllByRecursion NodeIsUtf8 nodes) where
  placed : (parent : Option ℕ) (k : ℕ) (f : Forest) (rest : List DomNode) → HasEnds ends k f →
      drop k nodes ≡ nodes_from parent k f ++ rest →
      Stands nodes ends parent k (k + node_count f) f
  placed parent k Nil rest has is = omega arith
  placed parent k (Words at text next) rest has is =
      let node = words_node parent at text in
      let h = drop-head k nodes node (nodes_from parent (suc k) next ++ rest) is in
      let e : suc k + node_count next ≡ k + suc (node_count next) = omega arith in (
        h.0,
        holds-at NodeIsUtf8 nodes k node utf8 h.0,
        has.0,
        subst (λ n. Stands nodes ends parent (suc k) n next) e (placed parent (suc k) next rest has.1 h.1),
      )
  placed parent k (Element at name attributes kids next) rest has is =
      let node = element_node parent at name attributes in
      let inside = nodes_from (Some k) (suc k) kids in
      let start = suc k + length inside in
      let behind = nodes_from parent start next in
      let h = drop-head k nodes node ((inside ++ behind) ++ rest) is in
      let whole : drop (suc k) nodes ≡ inside ++ (behind ++ rest) = h.1 ∙ append_assoc inside behind rest in
      let size : length inside ≡ node_count kids = length-nodes_from (Some k) (suc k) kids in
      let later : drop start nodes ≡ behind ++ rest =
      sym (drop-drop (length inside) (suc k) nodes) ∙ ap (λ xs. drop (length inside) xs) whole
      ∙ drop_at inside (behind ++ rest) (length inside) refl in
      let start_is : start ≡ suc k + node_count kids = ap (λ n. suc k + n) size in
      let ends_next : HasEnds ends start next = subst (λ n. HasEnds ends n next) (sym start_is) has.2 in
      let standing : Stands nodes ends parent start (start + node_count next) next =
      placed parent start next rest ends_next later in
      let e : suc k + node_count kids + node_count next ≡ k + suc (node_count kids + node_count next) = omega arith in (
        h.0,
        has.0,
        placed (Some k) (suc k) kids (behind ++ rest) has.1 whole,
        subst (λ n. Stands nodes ends parent (suc k + node_count kids) n next) e
            (subst (λ n. Stands nodes ends parent n (n + node_count next) next) start_is standing),
      )

  pub stands-whole : (tree : Forest) → nodes ≡ nodes_from None 0 tree → HasEnds ends 0 tree →
      Stands nodes ends None 0 (length nodes) tree
  stands-whole tree is has =
      let count : length nodes ≡ node_count tree = ap length is ∙ length-nodes_from None 0 tree in
      let e : 0 + node_count tree ≡ length nodes = omega arith in
      subst (λ n. Stands nodes ends None 0 n tree) e
      (placed None 0 tree [] has (is ∙ sym (append-nil (nodes_from None 0 tree))))
