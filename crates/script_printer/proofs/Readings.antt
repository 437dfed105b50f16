-- What is said of the lines is said of the script, and what is said of what was read of the texts.
use Rattle.std.proofs.Common.{◌≡◌, ◌⊎◌, inl, inr, ℕ, List, ◌∷◌, Option, None, Some, Result, Ok, Err, IfErr, sym, ap, ◌∙◌, subst}
use Rattle.mc_base.specs.declared.refusal.Refusal.{Refusal}
use Rattle.mc_base.specs.declared.refusal.Refusal.TheVariants.{NoMemory}
use Rattle.mc_base.specs.declared.read_error.Fault.{Fault}
use Rattle.html_grammar.specs.declared.dom.Dom.{Dom}
use Rattle.html_grammar.specs.Tree.{Forest, nodes_from}
use Rattle.html_grammar.specs.Whole.{dom_of}
use Rattle.css_data.specs.declared.rule.Sheet.{Sheet}
use Rattle.css_syntax.specs.Sheets.{sheet_of}
use Rattle.doc_sheets.specs.declared.own.OwnSheets.{OwnSheets}
use Rattle.doc_sheets.specs.Own.{own_of}
use Rattle.font_table.specs.declared.fonts.Face.{Face}
use Rattle.font_table.specs.Reading.{all_of}
use Rattle.edit_script.specs.declared.script.ScriptLine.{ScriptLine}
use Rattle.edit_script.specs.Script.{script_of}
use Rattle.doc_flows.specs.declared.texts.Reading.{Reading}
use Rattle.doc_flows.specs.Reading.{Read, read_of, unless, construct_in, with_faces, with_sheet, with_own, with_dom}
use Rattle.doc_flows.specs.Parts.{read_as}
use Rattle.mc_session.specs.Session.{Asked}
use Rattle.script_runs.specs.Runs.{Stops, begun}
use Rattle.script_printer.specs.Shown.{Shows, Denies, document_of}
use Rattle.script_printer.specs.Answers.{RefusesReading, running, RefusesScript, printing}
use Rattle.script_printer.specs.Parts.{setting_in}
use Rattle.script_printer.proofs.Lines.{if_err, same_document}

-- ---- the script

pub lines_are : (lines : List ScriptLine) (answer : Result (List ScriptLine) Refusal)
    → (Ok lines ≡ Err NoMemory) ⊎ (Ok lines ≡ answer) → answer ≡ Ok lines
lines_are lines answer (inl memory) = absurd cc
lines_are lines answer (inr is) = sym is

abbrev pub session_as : Reading → ℕ → Option ℕ → Asked
session_as reading width height = record {
  dom = reading.dom;
  sheets = reading.author ∷ reading.own.sheets;
  faces = reading.fonts;
  width = width;
  height = height;
  broken = 0;
}

pub reading_refused : {A : Type 0} (reading : Reading) (script : List ℕ) (width : ℕ) (height : Option ℕ)
    (lines : List ScriptLine) (session : Asked) (r : Result A Refusal) (tree : Forest) → session ≡ session_as reading width height
    → reading.dom.nodes ≡ nodes_from None 0 tree → reading.dom.construct ≡ None → script_of script ≡ Ok lines
    → ((t : Forest) → session.dom ≡ document_of t
    → IfErr r (λ e. (e ≡ NoMemory) ⊎ Stops (Shows (setting_in session)) (Denies (setting_in session)) lines (begun t) e))
    → IfErr r (λ e. (e ≡ NoMemory) ⊎ RefusesReading (read_as reading) script width height e)
reading_refused reading script width height lines session r tree is nodes none script_is refused =
    if_err
    (λ e. (e ≡ NoMemory) ⊎ Stops (Shows (setting_in session)) (Denies (setting_in session)) lines (begun tree) e)
    (λ e. (e ≡ NoMemory) ⊎ RefusesReading (read_as reading) script width height e) r why
    (refused tree (ap (λ (a : Asked). a.dom) is ∙ same_document reading.dom tree nodes none))
  where
    why : (e : Refusal) → (e ≡ NoMemory) ⊎ Stops (Shows (setting_in session)) (Denies (setting_in session)) lines (begun tree) e
        → (e ≡ NoMemory) ⊎ RefusesReading (read_as reading) script width height e
    why e (inl memory) = inl memory
    why e (inr stops) =
        inr (running tree lines (record { nodes = nodes; script_is = script_is })
        (subst (λ s. Stops (Shows s) (Denies s) lines (begun tree) e) (ap setting_in is) stops))

-- ---- the texts

unless_ok : (refused : Option Refusal) (a r : Read) → unless refused a ≡ Ok r → a ≡ r
unless_ok None a r h = cc
unless_ok (Some e) a r h = absurd cc

faces_dom : (dom : Dom) (own : OwnSheets) (author : Sheet) (faces : Result (List Face) Fault) (r : Read)
    → with_faces dom own author faces ≡ Ok r → dom ≡ r.dom
faces_dom dom own author (Ok faces) r h =
    let a : Read = record { dom = dom; own = own; author = author; faces = faces } in
    ap (λ (r : Read). r.dom) (unless_ok (construct_in a) a r h)
faces_dom dom own author (Err f) r h = absurd cc

sheet_dom : (metrics : List ℕ) (dom : Dom) (own : OwnSheets) (author : Result Sheet Refusal) (r : Read)
    → with_sheet metrics dom own author ≡ Ok r → dom ≡ r.dom
sheet_dom metrics dom own (Ok author) r h = faces_dom dom own author (all_of metrics) r h
sheet_dom metrics dom own (Err e) r h = absurd cc

own_dom : (sheet metrics : List ℕ) (dom : Dom) (own : Result OwnSheets Refusal) (r : Read)
    → with_own sheet metrics dom own ≡ Ok r → dom ≡ r.dom
own_dom sheet metrics dom (Ok own) r h = sheet_dom metrics dom own (sheet_of sheet) r h
own_dom sheet metrics dom (Err e) r h = absurd cc

dom_was : (document sheet metrics : List ℕ) (dom : Result Dom Refusal) (r : Read) → with_dom document sheet metrics dom ≡ Ok r
    → dom ≡ Ok r.dom
dom_was document sheet metrics (Ok dom) r h = ap Ok (own_dom sheet metrics dom (own_of document dom.nodes) r h)
dom_was document sheet metrics (Err e) r h = absurd cc

-- the document that was read is that of its text
pub dom_is : (document sheet metrics : List ℕ) (r : Read) → read_of document sheet metrics ≡ Ok r → dom_of document ≡ Ok r.dom
unfolding read_of
dom_is document sheet metrics r h = dom_was document sheet metrics (dom_of document) r h

pub script_refused : {A : Type 0} (document sheet metrics script : List ℕ) (width : ℕ) (height : Option ℕ) (r : Read)
    (answer : Result A Refusal) → read_of document sheet metrics ≡ Ok r
    → IfErr answer (λ e. (e ≡ NoMemory) ⊎ RefusesReading r script width height e)
    → IfErr answer (λ e. (e ≡ NoMemory) ⊎ RefusesScript document sheet metrics script width height e)
script_refused document sheet metrics script width height r answer is refused =
    if_err (λ e. (e ≡ NoMemory) ⊎ RefusesReading r script width height e)
    (λ e. (e ≡ NoMemory) ⊎ RefusesScript document sheet metrics script width height e) answer why refused
  where
    why : (e : Refusal) → (e ≡ NoMemory) ⊎ RefusesReading r script width height e
        → (e ≡ NoMemory) ⊎ RefusesScript document sheet metrics script width height e
    why e (inl memory) = inl memory
    why e (inr denies) = inr (printing r is denies)
