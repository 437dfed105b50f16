-- The sheets of the first nodes of a document, and those of the rest.
use Rattle.std.proofs.Common.{◌≡◌, ℕ, suc, ◌+◌, ◌<◌, List, ◌∷◌, ◌++◌, drop, length, get_or}
use Rattle.std.proofs.Common.{refl, sym, ap, subst, inl, inr, ◌∙◌, append_assoc, append-nil, arith}
use Rattle.std.specs.Prelude.{Option, Some, None, Result, Ok, Err}
use Rattle.std.proofs.lemmas.List.{drop_more}
use Rattle.mc_base.specs.declared.refusal.Found.{Found}
use Rattle.mc_base.specs.declared.refusal.Refusal.{Refusal}
use Rattle.mc_base.specs.declared.refusal.Refusal.TheVariants.{NoMemory}
use Rattle.html_grammar.specs.declared.dom.DomNode.{DomNode}
use Rattle.css_syntax.specs.Answers.{IsUnlessMemory}
use Rattle.css_winner.specs.declared.setting.Setting.{Setting}
use Rattle.doc_sheets.specs.declared.own.OwnSheets.{OwnSheets}
use Rattle.doc_sheets.specs.declared.part.Part.{Part}
use Rattle.doc_sheets.specs.Parts.{first_of}
use Rattle.doc_sheets.specs.Own.{checked, node_part, sheets_of, no_sheets, joined, with_part, own_from, own_of}

-- ---- answers

pub only_ok : (part : Part) (answer : Result Part Refusal) → IsUnlessMemory (Ok part) answer → answer ≡ Ok part
only_ok part answer (inl e) = absurd cc
only_ok part answer (inr e) = sym e

pub after_ok : (own : Result (List Setting) Refusal) (settings : List Setting) (part result : Result Part Refusal)
    → IsUnlessMemory (Ok settings) own → IsUnlessMemory result part → IsUnlessMemory result (checked own part)
after_ok own settings part result (inl e) is = absurd cc
after_ok own settings part result (inr e) is = subst (λ own. IsUnlessMemory result (checked own part)) e is

pub after_err : (own : Result (List Setting) Refusal) (refusal : Refusal) (part : Result Part Refusal)
    → IsUnlessMemory {X = List Setting} (Err refusal) own → IsUnlessMemory {X = Part} (Err refusal) (checked own part)
after_err own refusal part (inl e) = inl (let same : refusal ≡ NoMemory = cc in ap Err same)
after_err own refusal part (inr e) = inr (ap (λ own. checked own part) e)

-- ---- sheets

-- these sheets before those of the rest
abbrev pub before : OwnSheets → Result OwnSheets Refusal → Result OwnSheets Refusal
before own (Ok rest) = Ok (record { sheets = own.sheets ++ rest.sheets; construct = first_of own.construct rest.construct })
before own (Err refusal) = Err refusal

first_none : (found : Option Found) → first_of found None ≡ found
first_none None = refl
first_none (Some found) = refl

first_assoc : (a b c : Option Found) → first_of (first_of a b) c ≡ first_of a (first_of b c)
first_assoc None b c = refl
first_assoc (Some found) b c = refl

pub none_before : (rest : Result OwnSheets Refusal) → before no_sheets rest ≡ rest
none_before (Ok rest) = refl
none_before (Err refusal) = refl

pub before_none : (own : OwnSheets) → before own (Ok no_sheets) ≡ Ok own
before_none own =
    let sheets = append-nil own.sheets in
    let construct = first_none own.construct in
    λ i. Ok (record { sheets = sheets i; construct = construct i })

pub before_part : (own : OwnSheets) (part : Part) (rest : Result OwnSheets Refusal)
    → before (with_part own part) rest ≡ before own (joined (Ok part) rest)
before_part own part (Err refusal) = refl
before_part own part (Ok rest) =
    let sheets = append_assoc own.sheets (sheets_of part.sheet) rest.sheets in
    let construct = first_assoc own.construct part.construct rest.construct in
    λ i. Ok (record { sheets = sheets i; construct = construct i })

-- what is left of the nodes, one on
rest_is : (document : List ℕ) (nodes : List DomNode) (n : ℕ) (node : DomNode) → n < length nodes → node ≡ get_or nodes n node
    → own_from document n (drop n nodes)
    ≡ joined (node_part document n node (drop (n + 1) nodes)) (own_from document (n + 1) (drop (n + 1) nodes))
rest_is document nodes n node h e =
    let more : drop n nodes ≡ node ∷ drop (n + 1) nodes = drop_more nodes n node h ∙ ap (λ x. x ∷ drop (n + 1) nodes) (sym e) in
    let one : suc n ≡ n + 1 = omega arith in
    ap (own_from document n) more
    ∙ ap (λ m. joined (node_part document n node (drop (n + 1) nodes)) (own_from document m (drop (n + 1) nodes))) one

pub part_step : (document : List ℕ) (nodes : List DomNode) (n : ℕ) (node : DomNode) (own : OwnSheets) (part : Part)
    → n < length nodes → node ≡ get_or nodes n node → node_part document n node (drop (n + 1) nodes) ≡ Ok part
    → before own (own_from document n (drop n nodes)) ≡ own_of document nodes
    → before (with_part own part) (own_from document (n + 1) (drop (n + 1) nodes)) ≡ own_of document nodes
part_step document nodes n node own part h e is so_far =
    let rest = own_from document (n + 1) (drop (n + 1) nodes) in
    let part_is : joined (Ok part) rest ≡ own_from document n (drop n nodes) =
    sym (rest_is document nodes n node h e ∙ ap (λ p. joined p rest) is) in
    before_part own part rest ∙ (ap (before own) part_is ∙ so_far)

pub part_fault : (document : List ℕ) (nodes : List DomNode) (n : ℕ) (node : DomNode) (own : OwnSheets) (refusal : Refusal)
    → n < length nodes → node ≡ get_or nodes n node → node_part document n node (drop (n + 1) nodes) ≡ Err refusal
    → before own (own_from document n (drop n nodes)) ≡ own_of document nodes → Err refusal ≡ own_of document nodes
part_fault document nodes n node own refusal h e is so_far =
    let rest = own_from document (n + 1) (drop (n + 1) nodes) in
    let fault : own_from document n (drop n nodes) ≡ Err refusal =
    rest_is document nodes n node h e ∙ ap (λ p. joined p rest) is in
    sym (ap (before own) fault) ∙ so_far
