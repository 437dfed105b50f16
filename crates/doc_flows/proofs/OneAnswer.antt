-- A document has one answer: what is read is given, and all else follows from its tree.
use Rattle.std.proofs.Common.{◌≡◌, ℕ, List, sym, subst, ◌∙◌, Option, Result, Ok, Err}
use Rattle.mc_base.specs.declared.refusal.Refusal.{Refusal}
use Rattle.mc_base.specs.declared.refusal.Refusal.TheVariants.{NoMemory}
use Rattle.flow_data.specs.declared.data.FlowsData.{FlowsData}
use Rattle.doc_flows.specs.Reading.{Read, read_of}
use Rattle.doc_flows.specs.Trees.{TreeSays, RefusesTree}
use Rattle.doc_flows.specs.Documents.{sheets_of, DocumentSays, RefusesDocument, reading, laying}
use Rattle.doc_flows.specs.Laws.{OneAnswer}
use Rattle.doc_flows.proofs.Known.{reading_known}
use Rattle.doc_flows.proofs.OneTree.{tree_flows_one, tree_reason_one, tree_flows_or_reason, tree_reason_known}

-- ---- answers

pub ok_one : {X : Type 0} (answer : Result X Refusal) (a b : X) → answer ≡ Ok a → answer ≡ Ok b → a ≡ b
ok_one (Ok v) a b x y = let p : v ≡ a = cc in let q : v ≡ b = cc in sym p ∙ q
ok_one (Err e) a b x y = absurd cc

err_one : {X : Type 0} (answer : Result X Refusal) (a b : Refusal) → answer ≡ Err a → answer ≡ Err b → a ≡ b
err_one (Ok v) a b x y = absurd cc
err_one (Err e) a b x y = let p : e ≡ a = cc in let q : e ≡ b = cc in sym p ∙ q

not_both : {X : Type 0} (answer : Result X Refusal) (a : X) (b : Refusal) → answer ≡ Ok a → answer ≡ Err b → ⊥
not_both answer a b x y = let same : Ok a ≡ Err b = sym x ∙ y in absurd cc

-- ---- the law

module _ (document sheet metrics : List ℕ) (width : ℕ) (height : Option ℕ) where
  -- what is said of the one that is read is said of the other
  flows_along : (r s : Read) (d : FlowsData) → read_of document sheet metrics ≡ Ok r → read_of document sheet metrics ≡ Ok s
      → TreeSays s.dom (sheets_of s) s.faces width height d → TreeSays r.dom (sheets_of r) r.faces width height d
  flows_along r s d x y h =
      subst (λ r. TreeSays r.dom (sheets_of r) r.faces width height d) (ok_one (read_of document sheet metrics) s r y x) h

  reason_along : (r s : Read) (e : Refusal) → read_of document sheet metrics ≡ Ok r → read_of document sheet metrics ≡ Ok s
      → RefusesTree s.dom (sheets_of s) s.faces width height e → RefusesTree r.dom (sheets_of r) r.faces width height e
  reason_along r s e x y h =
      subst (λ r. RefusesTree r.dom (sheets_of r) r.faces width height e) (ok_one (read_of document sheet metrics) s r y x) h

  document_flows_one : (c d : FlowsData) → DocumentSays document sheet metrics width height c
      → DocumentSays document sheet metrics width height d → c ≡ d
  document_flows_one c d x y =
      tree_flows_one x.r.dom (sheets_of x.r) x.r.faces width height c d x.tree (flows_along x.r y.r d x.read y.read y.tree)

  reason_one : (c d : Refusal) → RefusesDocument document sheet metrics width height c
      → RefusesDocument document sheet metrics width height d → c ≡ d
  reason_one c d (reading x) (reading y) = err_one (read_of document sheet metrics) c d x y
  reason_one c d (reading x) (laying r read h) = absurd (not_both (read_of document sheet metrics) r c read x)
  reason_one c d (laying r read h) (reading y) = absurd (not_both (read_of document sheet metrics) r d read y)
  reason_one c d (laying r read h) (laying s also k) =
      tree_reason_one r.dom (sheets_of r) r.faces width height c d h (reason_along r s d read also k)

  flows_or_reason : (d : FlowsData) (c : Refusal) → DocumentSays document sheet metrics width height d
      → RefusesDocument document sheet metrics width height c → ⊥
  flows_or_reason d c x (reading y) = not_both (read_of document sheet metrics) x.r c x.read y
  flows_or_reason d c x (laying s also k) =
      tree_flows_or_reason x.r.dom (sheets_of x.r) x.r.faces width height d c x.tree (reason_along x.r s c x.read also k)

  reason_known : RefusesDocument document sheet metrics width height NoMemory → ⊥
  reason_known (reading x) = reading_known document sheet metrics x
  reason_known (laying r read h) = tree_reason_known r.dom (sheets_of r) r.faces width height h

pub one_answer : OneAnswer
one_answer = record { flows = document_flows_one; reason = reason_one; either = flows_or_reason; known = reason_known }
