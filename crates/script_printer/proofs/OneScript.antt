-- A script has one answer: the trees that its prints show have one, and so have its lines.
use Rattle.std.proofs.Common.{◌≡◌, ℕ, List, Option, Result, Ok, Err, sym, ap, subst, ◌∙◌}
use Rattle.mc_base.specs.declared.refusal.Refusal.{Refusal}
use Rattle.html_grammar.specs.Tree.{Forest}
use Rattle.html_grammar.proofs.NodeOrder.{one_tree_of_nodes}
use Rattle.edit_script.specs.declared.script.ScriptLine.{ScriptLine}
use Rattle.edit_script.specs.Script.{script_of}
use Rattle.doc_flows.specs.Laws.{OneTreeAnswer}
use Rattle.doc_flows.specs.Reading.{Read, read_of}
use Rattle.result_writer.specs.Printed.{result_text}
use Rattle.script_runs.specs.Runs.{HasOneAnswer, Prints, Stops, begun}
use Rattle.script_runs.proofs.OneOutcome.{prints_once, prints_or_stops, stops_once}
use Rattle.script_printer.specs.Shown.{Setting, Shows, Denies, document_of}
use Rattle.script_printer.specs.Answers.{setting_of, AreLinesOf, ReadingPrints, RefusesReading, scripting, running}
use Rattle.script_printer.specs.Answers.{ScriptPrints, RefusesScript, reading, printing}
use Rattle.script_printer.specs.Laws.{OneScriptAnswer}

pub trees_once : OneTreeAnswer → (s : Setting) → HasOneAnswer (Shows s) (Denies s)
trees_once law s = record {
  text = λ tree a b h k. h.2
      ∙ ap result_text (law.flows (document_of tree) s.sheets s.faces s.width s.height h.0 k.0 h.1 k.1) ∙ sym k.2;
  reason = λ tree a b h k. law.reason (document_of tree) s.sheets s.faces s.width s.height a b h k;
  either = λ tree text refusal h k. law.either (document_of tree) s.sheets s.faces s.width s.height h.0 refusal h.1 k;
}

-- ---- answers that are one

ok_once : {X : Type 0} (r : Result X Refusal) (a b : X) → r ≡ Ok a → r ≡ Ok b → a ≡ b
ok_once r a b h k = let same : Ok a ≡ Ok b = sym h ∙ k in cc

err_once : {X : Type 0} (r : Result X Refusal) (a b : Refusal) → r ≡ Err a → r ≡ Err b → a ≡ b
err_once r a b h k = let same : Err a ≡ Err b = sym h ∙ k in cc

ok_or_err : {X : Type 0} (r : Result X Refusal) (a : X) (b : Refusal) → r ≡ Ok a → r ≡ Err b → ⊥
ok_or_err r a b h k = let same : Ok a ≡ Err b = sym h ∙ k in absurd cc

-- ---- a document that is read

-- the tree and the lines
record AreSame (f g : Forest) (a b : List ScriptLine) : Type 0 where
  pub trees : f ≡ g
  pub lines : a ≡ b

lines_once : (r : Read) (script : List ℕ) (f g : Forest) (a b : List ScriptLine) → AreLinesOf r script f a
    → AreLinesOf r script g b → AreSame f g a b
lines_once r script f g a b h k = record {
  trees = one_tree_of_nodes f g (sym h.nodes ∙ k.nodes);
  lines = ok_once (script_of script) a b h.script_is k.script_is;
}

-- what holds of the one holds of the other
carried : (P : Forest → List ScriptLine → Type 0) (f g : Forest) (a b : List ScriptLine) → AreSame f g a b → P g b → P f a
carried P f g a b same h = subst (λ f. P f a) (sym same.trees) (subst (λ a. P g a) (sym same.lines) h)

module _ (law : OneTreeAnswer) (r : Read) (script : List ℕ) (width : ℕ) (height : Option ℕ) where
  one : HasOneAnswer (Shows (setting_of r width height)) (Denies (setting_of r width height))
  one = trees_once law (setting_of r width height)

  text_once : (a b : List ℕ) → ReadingPrints r script width height a → ReadingPrints r script width height b → a ≡ b
  text_once a b h k =
      prints_once (Shows (setting_of r width height)) (Denies (setting_of r width height)) one h.lines h.tree a b h.prints
      (carried (λ tree lines. Prints (Shows (setting_of r width height)) lines tree b) h.tree k.tree h.lines k.lines
      (lines_once r script h.tree k.tree h.lines k.lines h.are k.are) k.prints)

  reason_once : (a b : Refusal) → RefusesReading r script width height a → RefusesReading r script width height b → a ≡ b
  reason_once a b (scripting h) (scripting k) = err_once (script_of script) a b h k
  reason_once a b (scripting h) (running tree lines are stops) =
      absurd (ok_or_err (script_of script) lines a are.script_is h)
  reason_once a b (running tree lines are stops) (scripting k) =
      absurd (ok_or_err (script_of script) lines b are.script_is k)
  reason_once a b (running tree lines are stops) (running other others too ends) =
      stops_once (Shows (setting_of r width height)) (Denies (setting_of r width height)) one lines (begun tree) a b stops
      (carried (λ tree lines. Stops (Shows (setting_of r width height)) (Denies (setting_of r width height)) lines (begun tree) b)
      tree other lines others (lines_once r script tree other lines others are too) ends)

  text_or_reason : (text : List ℕ) (refusal : Refusal) → ReadingPrints r script width height text
      → RefusesReading r script width height refusal → ⊥
  text_or_reason text refusal h (scripting k) = ok_or_err (script_of script) h.lines refusal h.are.script_is k
  text_or_reason text refusal h (running tree lines are stops) =
      prints_or_stops (Shows (setting_of r width height)) (Denies (setting_of r width height)) one h.lines h.tree text refusal
      h.prints
      (carried (λ tree lines. Stops (Shows (setting_of r width height)) (Denies (setting_of r width height)) lines (begun tree)
      refusal) h.tree tree h.lines lines (lines_once r script h.tree tree h.lines lines h.are are) stops)

-- ---- the texts

module _ (law : OneTreeAnswer) (document sheet metrics script : List ℕ) (width : ℕ) (height : Option ℕ) where
  script_text_once : (a b : List ℕ) → ScriptPrints document sheet metrics script width height a
      → ScriptPrints document sheet metrics script width height b → a ≡ b
  script_text_once a b h k =
      let same = ok_once (read_of document sheet metrics) h.r k.r h.read k.read in
      text_once law h.r script width height a b h.prints
      (subst (λ r. ReadingPrints r script width height b) (sym same) k.prints)

  script_reason_once : (a b : Refusal) → RefusesScript document sheet metrics script width height a
      → RefusesScript document sheet metrics script width height b → a ≡ b
  script_reason_once a b (reading h) (reading k) = err_once (read_of document sheet metrics) a b h k
  script_reason_once a b (reading h) (printing r is k) = absurd (ok_or_err (read_of document sheet metrics) r a is h)
  script_reason_once a b (printing r is h) (reading k) = absurd (ok_or_err (read_of document sheet metrics) r b is k)
  script_reason_once a b (printing r is h) (printing q too k) =
      let same = ok_once (read_of document sheet metrics) r q is too in
      reason_once law r script width height a b h (subst (λ r. RefusesReading r script width height b) (sym same) k)

  script_text_or_reason : (text : List ℕ) (refusal : Refusal) → ScriptPrints document sheet metrics script width height text
      → RefusesScript document sheet metrics script width height refusal → ⊥
  script_text_or_reason text refusal h (reading k) = ok_or_err (read_of document sheet metrics) h.r refusal h.read k
  script_text_or_reason text refusal h (printing r is k) =
      let same = ok_once (read_of document sheet metrics) h.r r h.read is in
      text_or_reason law h.r script width height text refusal h.prints
      (subst (λ r. RefusesReading r script width height refusal) (sym same) k)

pub one_script_answer : OneTreeAnswer → OneScriptAnswer
one_script_answer law = record {
  text = script_text_once law;
  reason = script_reason_once law;
  either = script_text_or_reason law;
}
