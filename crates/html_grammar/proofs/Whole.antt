-- What is a document is read, from its first token to its last.
use Rattle.std.proofs.Common.{◌≡◌, ℕ, suc, ◌+◌, List, [], ◌∷◌, ◌++◌, length, Some, None, Result, Ok, true, refl, sym, ap, subst}
use Rattle.std.proofs.Common.{◌∙◌, arith}
use Rattle.std.specs.Prelude.{codes}
use Rattle.std.proofs.lemmas.List.{append-nil}
use Rattle.html_grammar.specs.declared.dom.DomNode.{DomNode}
use Rattle.mc_base.specs.declared.read_error.Fault.{Fault}
use Rattle.html_grammar.specs.declared.token.Token.{Token}
use Rattle.html_grammar.specs.Tree.{Forest, element_node, nodes_from}
use Rattle.html_grammar.specs.Grammar.{depth_of, Content, Begun, html_begun, head_begun, body_begun, whole_tree, IsDocument}
use Rattle.html_grammar.specs.Machine.{Built, built}
use Rattle.html_grammar.specs.Laws.{built_as}
use Rattle.html_grammar.proofs.Complete.{grown, over_content, over_rest, deepened, deeper}
use Rattle.html_grammar.proofs.Steps.{over_end}
use Rattle.html_grammar.proofs.Stages.{head_forest, with_head, head_depth, body_tokens, past_head, built_is_body}
use Rattle.html_grammar.proofs.Heads.{head_part_is, head_deeper}

-- the body, in a document whose head is this
abbrev pub body_node : Begun → DomNode
body_node body = element_node (Some 0) body.at (codes "body") body.attributes

abbrev pub behind_nodes : Begun → Begun → Forest → List DomNode
behind_nodes html head head_kids =
    element_node None html.at (codes "html") html.attributes
    ∷ (element_node (Some 0) head.at (codes "head") head.attributes ∷ nodes_from (Some 1) 2 head_kids)

abbrev pub all_nodes : List DomNode → DomNode → Forest → List DomNode
all_nodes nodes r kids = (nodes ++ r ∷ []) ++ nodes_from (Some (length nodes)) (length (nodes ++ r ∷ [])) kids

pub whole_nodes : (html head : Begun) (head_kids : Forest) (body : Begun) (kids : Forest)
    → all_nodes (behind_nodes html head head_kids) (body_node body) kids
    ≡ nodes_from None 0 (whole_tree html head head_kids body kids)
whole_nodes html head head_kids body kids =
    let inner = nodes_from (Some 1) 2 head_kids in
    let n = behind_nodes html head head_kids in
    let two : suc (suc (length inner)) ≡ 2 + length inner = omega arith in
    grown (Some (length n)) n (body_node body) kids
    ∙ ap (λ (k : ℕ). element_node None html.at (codes "html") html.attributes
    ∷ (element_node (Some 0) head.at (codes "head") head.attributes
    ∷ (inner ++ (body_node body ∷ nodes_from (Some k) (suc k) kids)))) two
    ∙ rw (append-nil, append-nil) refl

pub whole_depth : (size : ℕ) (toks : List Token) (html head body : Begun) (kids : Forest)
    → deepened (head_depth size toks) 1 kids
    ≡ depth_of (whole_tree html head (head_forest (head_begun size toks).inner) body kids)
whole_depth size toks html head body kids =
    let a = head_deeper (head_begun size toks).inner 2 (omega arith) in
    let b = deeper kids (head_depth size toks) 1 (omega (arith, a)) in
    b ∙ omega (arith, a)

abbrev as_built : List DomNode → ℕ → Result Built Fault
as_built nodes d = Ok (record { nodes = nodes; deepest = d })

pub document_is_read : (size : ℕ) (toks : List Token) (tree : Forest) → IsDocument size toks tree
    → built size toks ≡ Ok (built_as tree)
document_is_read size toks tree d =
    let html = html_begun size toks in
    let head = head_begun size toks in
    let body = body_begun size (past_head size toks) in
    let e = head_part_is d.head_kids head.inner d.past d.head_part in
    let n = with_head size toks in
    let content : Content (codes "body") d.kids (body_tokens size toks) d.end =
    subst (λ (x : List Token). Content (codes "body") d.kids (body_begun size x).inner d.end) e.1 d.content in
    let all = all_nodes n (body_node body) d.kids in
    let deepest = deepened (head_depth size toks) 1 d.kids in
    let whole : whole_tree html head (head_forest head.inner) body d.kids ≡ tree =
    ap (λ (x : List Token). whole_tree html head (head_forest head.inner) (body_begun size x) d.kids) (sym e.1)
    ∙ ap (λ (x : Forest). whole_tree html head x (body_begun size d.past) d.kids) (sym e.0) ∙ sym d.whole in
    built_is_body size toks
    ∙ over_content size (codes "body") d.kids (n ++ body_node body ∷ []) (length n) [] true (head_depth size toks)
    (body_tokens size toks) d.end content
    ∙ over_end size all (length n) (codes "body") [] true deepest d.end d.after d.closed
    ∙ over_rest size all deepest d.after d.nothing
    ∙ ap (λ (x : List DomNode). as_built x deepest) (whole_nodes html head (head_forest head.inner) body d.kids)
    ∙ ap (λ (x : ℕ). as_built (nodes_from None 0 (whole_tree html head (head_forest head.inner) body d.kids)) x)
    (whole_depth size toks html head body d.kids)
    ∙ ap (λ (x : Forest). as_built (nodes_from None 0 x) (depth_of x)) whole
