-- What the steps of reading answer.
use Rattle.std.proofs.Common.{IfOk, IfErr, ◌≡◌, ◌⊎◌, inl, inr, ℕ, zero, suc, List, [], ◌∷◌, refl, sym, ap, subst, ◌∙◌, Option, Some, None, Result, Ok, Err, IsOk, slice_get}
use Rattle.mc_base.specs.declared.refusal.Refusal.{Refusal}
use Rattle.mc_base.specs.declared.refusal.Refusal.TheVariants as refusals
use Rattle.mc_base.specs.declared.refusal.Rule.{Rule}
use Rattle.mc_base.specs.declared.read_error.Fault.{Fault}
use Rattle.html_grammar.specs.declared.dom.Dom.{Dom}
use Rattle.html_grammar.specs.declared.dom.DomNode.{DomNode}
use Rattle.css_data.specs.declared.rule.Sheet.{Sheet}
use Rattle.css_syntax.specs.Answers.{IsUnlessMemory}
use Rattle.css_winner.specs.declared.setting.Setting.{Setting}
use Rattle.css_winner.specs.Own.{own_settings}
use Rattle.css_cascade.specs.Attributes.{AllAreRead, IsFirstFault}
use Rattle.html_grammar.specs.Whole.{dom_of}
use Rattle.css_syntax.specs.Sheets.{sheet_of}
use Rattle.doc_sheets.specs.declared.own.OwnSheets.{OwnSheets}
use Rattle.doc_sheets.specs.declared.part.Part.{Part}
use Rattle.doc_sheets.specs.Own.{checked, kind_part, node_part, joined, own_from, own_of}
use Rattle.font_table.specs.declared.fonts.Face.{Face}
use Rattle.font_table.specs.Reading.{Fails, refusal, all_of}
use Rattle.doc_flows.specs.declared.texts.Reading.{Reading}
use Rattle.doc_flows.specs.Reading.{Read, construct_in, unless, with_faces, with_sheet, with_own, with_dom, read_of}
use Rattle.doc_flows.specs.Parts.{IsReading, read_as}

-- ---- answers

pub only_ok : {X : Type 0} (x : X) (answer : Result X Refusal) → IsUnlessMemory (Ok x) answer → answer ≡ Ok x
only_ok x answer (inl e) = absurd cc
only_ok x answer (inr e) = sym e

pub only_err : {X : Type 0} (e : Refusal) (answer : Result X Refusal) → IsUnlessMemory (Err e) answer
    → (e ≡ refusals.NoMemory) ⊎ (answer ≡ Err e)
only_err e answer (inl is) = inl cc
only_err e answer (inr is) = inr (sym is)

-- a step that gives this, and one that refuses
pub step : {X : Type 0} (f : Result X Refusal → Result Read Refusal) (x : X) (answer : Result X Refusal) (result : Result Reading Refusal)
    → IsUnlessMemory (Ok x) answer → IsReading result (f (Ok x)) → IsReading result (f answer)
step f x answer result is h = subst (λ answer. IsReading result (f answer)) (sym (only_ok x answer is)) h

pub refused_step : {X : Type 0} (f : Result X Refusal → Result Read Refusal) (e : Refusal) (answer : Result X Refusal) → f (Err e) ≡ Err e
    → IsUnlessMemory (Err e) answer → IsReading (Err e) (f answer)
refused_step f e answer same is = by (only_err e answer is)
  where
    by : (e ≡ refusals.NoMemory) ⊎ (answer ≡ Err e) → (e ≡ refusals.NoMemory) ⊎ (f answer ≡ Err e)
    by (inl memory) = inl memory
    by (inr refused) = inr (ap f refused ∙ same)

-- a fault of the metrics
rule_is : (rule : Rule) → rule.letter ≡ 102 → rule ≡ record { letter = 102; number = rule.number }
rule_is rule h = λ i. record { letter = h i; number = rule.number }

pub faces_fail : (dom : Dom) (own : OwnSheets) (author : Sheet) (e : Refusal) (read : Result (List Face) Fault) → Fails e read
    → (e ≡ refusals.NoMemory) ⊎ (with_faces dom own author read ≡ Err e)
faces_fail dom own author refusals.NoMemory read h = inl refl
faces_fail dom own author (refusals.Grammar input offset rule) read (input_is, letter, is) =
    let same : refusal offset rule.number ≡ refusals.Grammar input offset rule =
    λ i. refusals.Grammar (sym input_is i) offset (sym (rule_is rule letter) i) in
    inr (ap (with_faces dom own author) is ∙ ap Err same)
faces_fail dom own author (refusals.Construct input offset name) read h = absurd h
faces_fail dom own author (refusals.Limit name reached limit) read h = absurd h

-- ---- style attributes of what is read

checked_ok : (own : Result (List Setting) Refusal) (part : Result Part Refusal) (is : Part) → checked own part ≡ Ok is → IsOk own
checked_ok (Ok settings) part is h = refl
checked_ok (Err e) part is h = absurd cc

joined_ok : (part : Result Part Refusal) (rest : Result OwnSheets Refusal) (own : OwnSheets) → joined part rest ≡ Ok own
    → ((is : Part) × (part ≡ Ok is)) × ((others : OwnSheets) × (rest ≡ Ok others))
joined_ok (Err refusal) rest own h = absurd cc
joined_ok (Ok part) (Err refusal) own h = absurd cc
joined_ok (Ok part) (Ok rest) own h = ((part, refl), (rest, refl))

node_ok : (document : List ℕ) (number : ℕ) (node : DomNode) (after : List DomNode) (part : Part)
    → node_part document number node after ≡ Ok part → IsOk (own_settings node)
unfolding node_part
node_ok document number node after part h =
    checked_ok (own_settings node) (kind_part document number node.offset after node.kind) part h

read_from : (document : List ℕ) (number : ℕ) (nodes : List DomNode) (own : OwnSheets) → own_from document number nodes ≡ Ok own
    → AllAreRead nodes
read_from document number [] own h n node at = absurd cc
read_from document number (first ∷ after) own h n node at =
    let both = joined_ok (node_part document number first after) (own_from document (suc number) after) own h in
    by n at (node_ok document number first after both.0.0 both.0.1)
    (read_from document (suc number) after both.1.0 both.1.1)
  where
    by : (n : ℕ) → slice_get (first ∷ after) n ≡ Some node → IsOk (own_settings first) → AllAreRead after → IsOk (own_settings node)
    by zero at ok rest = let same : first ≡ node = cc in subst (λ node. IsOk (own_settings node)) same ok
    by (suc n) at ok rest = rest n node at

pub all_are_read : (document : List ℕ) (nodes : List DomNode) (own : OwnSheets) → own_of document nodes ≡ Ok own → AllAreRead nodes
all_are_read document nodes own h = read_from document 0 nodes own h

not_refused : (own : Result (List Setting) Refusal) (refusal : Refusal) → own ≡ Err refusal → IsOk own → ⊥
not_refused (Ok settings) e is ok = absurd cc
not_refused (Err other) e is ok = absurd cc

pub no_first_fault : (nodes : List DomNode) (refusal : Refusal) → AllAreRead nodes → IsFirstFault nodes refusal → ⊥
no_first_fault nodes refusal read first =
    not_refused (own_settings first.node) refusal first.refused (read first.at first.node first.stands)

-- where every style attribute is on its grammar, want of memory is all that is left
pub only_memory : {X : Type 0} (nodes : List DomNode) (answer : Result X Refusal) → AllAreRead nodes
    → IfErr answer (λ e. (e ≡ refusals.NoMemory) ⊎ IsFirstFault nodes e) → IfErr answer (λ e. e ≡ refusals.NoMemory)
only_memory nodes (Ok x) read h = h
only_memory nodes (Err e) read (inl memory) = memory
only_memory nodes (Err e) read (inr first) = absurd (no_first_fault nodes e read first)

-- ---- what a reading has

unless_ok : (refused : Option Refusal) (a r : Read) → unless refused a ≡ Ok r → a ≡ r
unless_ok None a r h = cc
unless_ok (Some e) a r h = absurd cc

faces_ok : (dom : Dom) (own : OwnSheets) (author : Sheet) (faces : Result (List Face) Fault) (r : Read)
    → with_faces dom own author faces ≡ Ok r → (dom ≡ r.dom) × (own ≡ r.own)
faces_ok dom own author (Ok faces) r h =
    let a : Read = record { dom = dom; own = own; author = author; faces = faces } in
    let same = unless_ok (construct_in a) a r h in
    (ap (λ (r : Read). r.dom) same, ap (λ (r : Read). r.own) same)
faces_ok dom own author (Err f) r h = absurd cc

sheet_ok : (metrics : List ℕ) (dom : Dom) (own : OwnSheets) (author : Result Sheet Refusal) (r : Read)
    → with_sheet metrics dom own author ≡ Ok r → (dom ≡ r.dom) × (own ≡ r.own)
sheet_ok metrics dom own (Ok author) r h = faces_ok dom own author (all_of metrics) r h
sheet_ok metrics dom own (Err e) r h = absurd cc

own_ok : (sheet metrics : List ℕ) (dom : Dom) (own : Result OwnSheets Refusal) (r : Read)
    → with_own sheet metrics dom own ≡ Ok r → (dom ≡ r.dom) × (own ≡ Ok r.own)
own_ok sheet metrics dom (Ok own) r h =
    let both = sheet_ok metrics dom own (sheet_of sheet) r h in (both.0, ap Ok both.1)
own_ok sheet metrics dom (Err e) r h = absurd cc

dom_ok : (document sheet metrics : List ℕ) (dom : Result Dom Refusal) (r : Read) → with_dom document sheet metrics dom ≡ Ok r
    → AllAreRead r.dom.nodes
dom_ok document sheet metrics (Ok dom) r h =
    let both = own_ok sheet metrics dom (own_of document dom.nodes) r h in
    subst (λ (dom : Dom). AllAreRead dom.nodes) both.0 (all_are_read document dom.nodes r.own both.1)
dom_ok document sheet metrics (Err e) r h = absurd cc

attributes_are_read : (document sheet metrics : List ℕ) (r : Read) → read_of document sheet metrics ≡ Ok r → AllAreRead r.dom.nodes
unfolding read_of
attributes_are_read document sheet metrics r h = dom_ok document sheet metrics (dom_of document) r h

-- ---- and what it has no construct of

unless_none : (refused : Option Refusal) (a r : Read) → unless refused a ≡ Ok r → refused ≡ None
unless_none None a r h = refl
unless_none (Some e) a r h = absurd cc

faces_none : (dom : Dom) (own : OwnSheets) (author : Sheet) (faces : Result (List Face) Fault) (r : Read)
    → with_faces dom own author faces ≡ Ok r → construct_in r ≡ None
faces_none dom own author (Ok faces) r h =
    let a : Read = record { dom = dom; own = own; author = author; faces = faces } in
    subst (λ r. construct_in r ≡ None) (unless_ok (construct_in a) a r h) (unless_none (construct_in a) a r h)
faces_none dom own author (Err f) r h = absurd cc

sheet_none : (metrics : List ℕ) (dom : Dom) (own : OwnSheets) (author : Result Sheet Refusal) (r : Read)
    → with_sheet metrics dom own author ≡ Ok r → construct_in r ≡ None
sheet_none metrics dom own (Ok author) r h = faces_none dom own author (all_of metrics) r h
sheet_none metrics dom own (Err e) r h = absurd cc

own_none : (sheet metrics : List ℕ) (dom : Dom) (own : Result OwnSheets Refusal) (r : Read)
    → with_own sheet metrics dom own ≡ Ok r → construct_in r ≡ None
own_none sheet metrics dom (Ok own) r h = sheet_none metrics dom own (sheet_of sheet) r h
own_none sheet metrics dom (Err e) r h = absurd cc

dom_none : (document sheet metrics : List ℕ) (dom : Result Dom Refusal) (r : Read) → with_dom document sheet metrics dom ≡ Ok r
    → construct_in r ≡ None
dom_none document sheet metrics (Ok dom) r h = own_none sheet metrics dom (own_of document dom.nodes) r h
dom_none document sheet metrics (Err e) r h = absurd cc

constructs_are_none : (document sheet metrics : List ℕ) (r : Read) → read_of document sheet metrics ≡ Ok r → construct_in r ≡ None
unfolding read_of
constructs_are_none document sheet metrics r h = dom_none document sheet metrics (dom_of document) r h

-- ---- what an answer has

pub answer_attributes : (document sheet metrics : List ℕ) (answer : Result Reading Refusal)
    → IsReading answer (read_of document sheet metrics) → IfOk answer (λ r. AllAreRead r.dom.nodes)
answer_attributes document sheet metrics (Ok r) h = attributes_are_read document sheet metrics (read_as r) h
answer_attributes document sheet metrics (Err e) h = tt

pub answer_constructs : (document sheet metrics : List ℕ) (answer : Result Reading Refusal)
    → IsReading answer (read_of document sheet metrics) → IfOk answer (λ r. construct_in (read_as r) ≡ None)
answer_constructs document sheet metrics (Ok r) h = constructs_are_none document sheet metrics (read_as r) h
answer_constructs document sheet metrics (Err e) h = tt
