-- The pieces in stacks, one part after another.
use Rattle.std.proofs.Common.{◌≡◌, ℕ, suc, List, [], ◌∷◌, ◌++◌, refl, sym, ◌∙◌}
use Rattle.std.proofs.Common.{ap, append_assoc}
use Rattle.std.proofs.Common.{map}
use Rattle.std.proofs.lemmas.List.{append-nil, map-append}
use Rattle.flow_list.specs.Data.{FlowsData}
use Rattle.frag_pool.specs.Nodes.{Nodes}
use Rattle.piece_data.specs.Lowering.{Flags, pieces_in_stack}
use Rattle.tree_lowering.specs.Met.{one_met}
use Rattle.row_all.specs.Parts.{ArePartsOf, met_of, pieces_of_parts}
use Rattle.row_all.specs.Answered.{piece_of}
use Rattle.row_all.specs.declared.answer.PieceLine.{PieceLine}
use Rattle.row_all.specs.declared.engine.Part.{Part}

pub stack-pieces : (d : FlowsData) (flags : Flags) (p : Nodes) (n s : ℕ) (parts : List Part) → ArePartsOf d flags p s parts →
    pieces_in_stack d flags (suc n) s ≡ pieces_of_parts d flags n parts
unfolding pieces_in_stack
stack-pieces d flags p n s parts are = sym (are.met (pieces_in_stack d flags n))

pub no-pieces : (d : FlowsData) (flags : Flags) (s : ℕ) → pieces_in_stack d flags 0 s ≡ []
unfolding pieces_in_stack
no-pieces d flags s = refl

pub parts-more : (d : FlowsData) (flags : Flags) (n : ℕ) (parts : List Part) (part : Part) →
    pieces_of_parts d flags n (parts ++ part ∷ [])
    ≡ pieces_of_parts d flags n parts ++ one_met (pieces_in_stack d flags n) (met_of part)
parts-more d flags n [] part = append-nil (one_met (pieces_in_stack d flags n) (met_of part))
parts-more d flags n (x ∷ parts) part =
    ap (λ xs. one_met (pieces_in_stack d flags n) (met_of x) ++ xs) (parts-more d flags n parts part)
    ∙ sym (append_assoc (one_met (pieces_in_stack d flags n) (met_of x)) (pieces_of_parts d flags n parts)
    (one_met (pieces_in_stack d flags n) (met_of part)))

-- ---- lines, one after another

pub pieces-more : (d : FlowsData) (flags : Flags) (n : ℕ) (outs mid new : List PieceLine) (before : List Part) (part : Part)
    (after : List Part) → after ≡ before ++ part ∷ [] →
    map piece_of mid ≡ map piece_of outs ++ pieces_of_parts d flags n before →
    map piece_of new ≡ map piece_of mid ++ one_met (pieces_in_stack d flags n) (met_of part) →
    map piece_of new ≡ map piece_of outs ++ pieces_of_parts d flags n after
pieces-more d flags n outs mid new before part after more first then =
    then ∙ ap (λ xs. xs ++ one_met (pieces_in_stack d flags n) (met_of part)) first
    ∙ append_assoc (map piece_of outs) (pieces_of_parts d flags n before) (one_met (pieces_in_stack d flags n) (met_of part))
    ∙ ap (λ xs. map piece_of outs ++ xs) (sym (parts-more d flags n before part))
    ∙ ap (λ ps. map piece_of outs ++ pieces_of_parts d flags n ps) (sym more)

pub line-more : (outs new : List PieceLine) (line : PieceLine) → new ≡ outs ++ line ∷ [] →
    map piece_of new ≡ map piece_of outs ++ piece_of line ∷ []
line-more outs new line more = ap (map piece_of) more ∙ map-append piece_of outs (line ∷ [])
