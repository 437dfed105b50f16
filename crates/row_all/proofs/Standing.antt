-- What was told stays true where the region grows.
use Rattle.std.proofs.Common.{◌≡◌, List, [], ◌∷◌, ◌++◌, All, sym, subst}
use Rattle.std.proofs.lemmas.List.Elements.{All-append, All-cons, All-nil, All-weaker}
use Rattle.flow_list.specs.Data.{FlowsData}
use Rattle.frag_pool.specs.Growing.{Grows}
use Rattle.frag_pool.specs.Nodes.{Nodes}
use Rattle.frag_pool.proofs.Growth.{grows-refl, grows-trans}
use Rattle.frag_pool.proofs.Stays.{stands-growing}
use Rattle.piece_finder.specs.Telling.{piece_tree}
use Rattle.row_all.specs.Answered.{IsTrueLine}
use Rattle.row_all.specs.Parts.{IsTruePart, WereTrue}
use Rattle.row_all.specs.declared.answer.PieceLine.{PieceLine}
use Rattle.row_all.specs.declared.engine.Part.{Part}
use Rattle.row_all.specs.declared.engine.Part.TheVariants.{Piece, Stack}

pub line-stays : (d : FlowsData) (p q : Nodes) → Grows p q → (line : PieceLine) → IsTrueLine d p line → IsTrueLine d q line
line-stays d p q grows line is = record {
  least = is.least;
  frag = stands-growing p q grows line.out.frag (piece_tree d line.row line.from line.out.height) is.frag;
}

part-stays : (d : FlowsData) (p q : Nodes) → Grows p q → (part : Part) → IsTruePart d p part → IsTruePart d q part
part-stays d p q grows (Piece line) is = line-stays d p q grows line is
part-stays d p q grows (Stack number) is = is

pub parts-stay : (d : FlowsData) (p q : Nodes) → Grows p q → (parts : List Part) → All (IsTruePart d p) parts →
    All (IsTruePart d q) parts
parts-stay d p q grows parts are = All-weaker (IsTruePart d p) (IsTruePart d q) (part-stays d p q grows) parts are

-- ---- what was told so far

pub none-told : (d : FlowsData) (p : Nodes) (parts : List Part) → parts ≡ [] → WereTrue d p parts
none-told d p parts none = record {
  before = p;
  grown = grows-refl p;
  each = subst (λ (ps : List Part). All (IsTruePart d p) ps) (sym none) (All-nil (IsTruePart d p));
}

pub told-stay : (d : FlowsData) (p q : Nodes) → Grows p q → (parts new : List Part) → new ≡ parts → WereTrue d p parts →
    WereTrue d q new
told-stay d p q grows parts new same were = record {
  before = were.before;
  grown = grows-trans were.before p q were.grown grows;
  each = subst (λ (ps : List Part). All (IsTruePart d were.before) ps) (sym same) were.each;
}

pub told-now : (d : FlowsData) (p : Nodes) (parts : List Part) → WereTrue d p parts → All (IsTruePart d p) parts
told-now d p parts were = parts-stay d were.before p were.grown parts were.each

pub told-more : (d : FlowsData) (p q : Nodes) → Grows p q → (parts new : List Part) (part : Part) → new ≡ parts ++ part ∷ [] →
    IsTruePart d q part → WereTrue d p parts → WereTrue d q new
told-more d p q grows parts new part more is were = record {
  before = q;
  grown = grows-refl q;
  each = subst (λ (ps : List Part). All (IsTruePart d q) ps) (sym more)
      (All-append (IsTruePart d q) parts (part ∷ []) (parts-stay d p q grows parts (told-now d p parts were))
      (All-cons (IsTruePart d q) part [] is (All-nil (IsTruePart d q))));
}
