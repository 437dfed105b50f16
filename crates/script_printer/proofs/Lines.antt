-- What one line of a script does to a session, by what the session answers.
use Rattle.std.proofs.Common.{◌≡◌, ◌⊎◌, inl, inr, ℕ, ◌+◌, ◌-◌, ◌<◌, ◌≤◌, List, ◌++◌, length, Result, Ok, Err, IfErr, OnOk}
use Rattle.std.proofs.Common.{refl, sym, ap, ◌∙◌}
use Rattle.std.proofs.Common.{subst, arith, None, length-append}
use Rattle.std.specs.Prelude.{IsUtf8}
use Rattle.mc_base.specs.declared.refusal.Refusal.{Refusal}
use Rattle.mc_base.specs.declared.refusal.Refusal.TheVariants as refusals
use Rattle.html_grammar.specs.declared.dom.Dom.{Dom}
use Rattle.html_grammar.specs.declared.dom.DomNode.{DomNode}
use Rattle.html_grammar.specs.Tree.{Forest, nodes_from}
use Rattle.edit_script.specs.declared.script.Edit.{Edit}
use Rattle.edit_script.specs.declared.script.EditFault.{EditFault}
use Rattle.edit_script.specs.declared.script.EditFault.TheVariants as faults
use Rattle.edit_script.specs.declared.script.Step.{Step}
use Rattle.edit_script.specs.declared.script.Step.TheVariants as steps
use Rattle.edit_script.specs.Edited.{edited}
use Rattle.dom_edits.specs.Done.{IsDone}
use Rattle.dom_edits.specs.Sizes.{added_bytes, rest_of}
use Rattle.doc_flows.specs.Trees.{TreeSays, RefusesTree}
use Rattle.result_writer.specs.Printed.{result_text}
use Rattle.mc_session.specs.Edits.{StaysFormed}
use Rattle.mc_session.specs.Printed.{IsPrinted, IsDenied}
use Rattle.mc_session.specs.Session.{Asked, HasSame, HasSameDocument}
use Rattle.mc_session.specs.Laws.{RoomIsEnough}
use Rattle.script_runs.specs.Room.{HasRoomFor, EditsLeaveRoom}
use Rattle.script_runs.specs.Runs.{State, Does, IsStopped, printed_limit, edit_refusal, too_much}
use Rattle.script_printer.specs.Shown.{Shows, Denies, document_of}
use Rattle.script_printer.specs.Parts.{Stands, setting_in}

-- ---- an edit

pub stays : EditsLeaveRoom → RoomIsEnough → (edit : Edit) (dom : Dom) → HasRoomFor (added_bytes edit) dom
    → IsUtf8 (rest_of edit) → StaysFormed edit dom
stays leave enough edit dom room utf8 =
    let none : added_bytes edit ≡ added_bytes edit + 0 = omega arith in
    enough edit dom room.formed (leave edit 0 dom dom (subst (λ n. HasRoomFor n dom) none room) utf8).0

abbrev dom_as : List DomNode → Dom
dom_as nodes = record { nodes = nodes; construct = None }

pub same_document : (dom : Dom) (tree : Forest) → dom.nodes ≡ nodes_from None 0 tree → dom.construct ≡ None
    → dom ≡ document_of tree
same_document dom tree nodes none =
    ap (λ (o : _). record { nodes = dom.nodes; construct = o }) none ∙ ap dom_as nodes

pub edit_done : (edit : Edit) (tree : Forest) (old new : Asked) → old.dom ≡ document_of tree
    → ((t : Forest) → old.dom.nodes ≡ nodes_from None 0 t → IsDone edit t new.dom.nodes) → HasSame old new
    → (next : Forest) × (edited edit tree ≡ Ok next) × (new.dom ≡ document_of next)
edit_done edit tree old new is done same =
    let d = done tree (ap (λ (x : Dom). x.nodes) is) in
    (d.after, d.done, same_document new.dom d.after d.nodes_of (same.construct ∙ ap (λ (x : Dom). x.construct) is))

pub edit_fault : (edit : Edit) (tree : Forest) (old : Asked) (at : ℕ) (fault : EditFault) (e : Refusal)
    → old.dom ≡ document_of tree
    → ((t : Forest) → old.dom.nodes ≡ nodes_from None 0 t → (fault ≡ faults.NoMemory) ⊎ (edited edit t ≡ Err fault))
    → e ≡ edit_refusal at fault
    → (e ≡ refusals.NoMemory) ⊎ ((f : EditFault) × (edited edit tree ≡ Err f) × (e ≡ edit_refusal at f))
edit_fault edit tree old at fault e is answers told = by (answers tree (ap (λ (x : Dom). x.nodes) is))
  where
    by : (fault ≡ faults.NoMemory) ⊎ (edited edit tree ≡ Err fault)
        → (e ≡ refusals.NoMemory) ⊎ ((f : EditFault) × (edited edit tree ≡ Err f) × (e ≡ edit_refusal at f))
    by (inl none) = inl (told ∙ ap (edit_refusal at) none)
    by (inr fails) = inr (fault, fails, told)

pub setting_same : (old new : Asked) → HasSame old new → setting_in new ≡ setting_in old
setting_same old new same = rw (same.sheets, same.faces, same.width, same.height) refl

pub setting_stays : (old new : Asked) → HasSameDocument old new → setting_in new ≡ setting_in old
setting_stays old new same = rw (same.sheets, same.faces, same.width, same.height) refl

-- ---- a print

shown : (tree : Forest) (old : Asked) (text : List ℕ) (most : ℕ) → old.dom ≡ document_of tree → IsPrinted old most text
    → Shows (setting_in old) tree text
shown tree old text most is printed = (
  printed.0,
  subst (λ dom. TreeSays dom old.sheets old.faces old.width old.height printed.0) is printed.1,
  printed.2,
)

pub print_done : (tree : Forest) (old : Asked) (before text now : List ℕ) (most : ℕ) → old.dom ≡ document_of tree
    → IsPrinted old most text → most ≡ printed_limit - length before → length before ≤ printed_limit → now ≡ before ++ text
    → (text : List ℕ) × Shows (setting_in old) tree text × (now ≡ before ++ text) × (length now ≤ printed_limit)
print_done tree old before text now most is printed left short added =
    let size = length-append before text in
    let all = ap length added in
    let within = printed.3 in
    (text, shown tree old text most is printed, added, omega (arith, left, short, size, all, within))

pub print_fault : (tree : Forest) (old : Asked) (before : List ℕ) (most : ℕ) (e : Refusal) → old.dom ≡ document_of tree
    → (e ≡ refusals.NoMemory) ⊎ IsDenied old most e → most ≡ printed_limit - length before → length before ≤ printed_limit
    → (e ≡ refusals.NoMemory) ⊎ (Denies (setting_in old) tree e
    ⊎ ((text : List ℕ) × Shows (setting_in old) tree text × (printed_limit < length (before ++ text)) × (e ≡ too_much)))
print_fault tree old before most e is (inl none) left short = inl none
print_fault tree old before most e is (inr (inl refused)) left short =
    inr (inl (subst (λ dom. RefusesTree dom old.sheets old.faces old.width old.height e) is refused))
print_fault tree old before most e is (inr (inr (d, says, (over, told)))) left short =
    let size = length-append before (result_text d) in
    inr (inr (
      result_text d,
      (d, subst (λ dom. TreeSays dom old.sheets old.faces old.width old.height d) is says, refl),
      omega (arith, left, short, size, over),
      told,
    ))

-- ---- a line

pub after_edit : (S : Forest → List ℕ → Type 0) (edit : Edit) (step : Step) (state : State) (new : Asked) (before now : List ℕ)
    → step ≡ steps.Change edit → before ≡ state.printed → now ≡ before
    → (next : Forest) × (edited edit state.tree ≡ Ok next) × (new.dom ≡ document_of next)
    → (next : State) × Does S step state next × Stands new now next
after_edit S edit step state new before now is same kept (next, done, dom) =
    let left : State = record { tree = next; printed = state.printed } in
    (left, subst (λ s. Does S s state left) (sym is) (done, refl), record { dom = dom; printed_is = kept ∙ same })

pub after_print : (S : Forest → List ℕ → Type 0) (step : Step) (state : State) (old new : Asked) (before now : List ℕ)
    → step ≡ steps.Print → old.dom ≡ document_of state.tree → new.dom ≡ old.dom → before ≡ state.printed
    → (text : List ℕ) × S state.tree text × (now ≡ before ++ text) × (length now ≤ printed_limit)
    → (next : State) × Does S step state next × Stands new now next
after_print S step state old new before now is dom kept same (text, shows, added, short) =
    let left : State = record { tree = state.tree; printed = now } in (
      left,
      subst (λ s. Does S s state left) (sym is) (text, shows, refl, added ∙ ap (λ t. t ++ text) same, short),
      record { dom = kept ∙ dom; printed_is = refl },
    )

pub stopped_edit : (S : Forest → List ℕ → Type 0) (D : Forest → Refusal → Type 0) (edit : Edit) (step : Step) (at : ℕ)
    (state : State) (e : Refusal) → step ≡ steps.Change edit
    → (e ≡ refusals.NoMemory) ⊎ ((f : EditFault) × (edited edit state.tree ≡ Err f) × (e ≡ edit_refusal at f))
    → (e ≡ refusals.NoMemory) ⊎ IsStopped S D at step state e
stopped_edit S D edit step at state e is (inl none) = inl none
stopped_edit S D edit step at state e is (inr stops) = inr (subst (λ s. IsStopped S D at s state e) (sym is) stops)

pub stopped_print : (S : Forest → List ℕ → Type 0) (D : Forest → Refusal → Type 0) (step : Step) (at : ℕ) (state : State)
    (before : List ℕ) (e : Refusal) → step ≡ steps.Print → before ≡ state.printed
    → (e ≡ refusals.NoMemory) ⊎ (D state.tree e
    ⊎ ((text : List ℕ) × S state.tree text × (printed_limit < length (before ++ text)) × (e ≡ too_much)))
    → (e ≡ refusals.NoMemory) ⊎ IsStopped S D at step state e
stopped_print S D step at state before e is same (inl none) = inl none
stopped_print S D step at state before e is same (inr stops) =
    inr (subst (λ s. IsStopped S D at s state e) (sym is)
    (subst (λ b. D state.tree e ⊎ ((text : List ℕ) × S state.tree text × (printed_limit < length (b ++ text)) × (e ≡ too_much)))
    same stops))

-- ---- answers

pub on_ok : {A E P Q : Type 0} (r : Result A E) → (P → Q) → OnOk r P → OnOk r Q
on_ok (Ok x) go h = go h
on_ok (Err e) go h = h

pub if_err : {A E : Type 0} (P Q : E → Type 0) (r : Result A E) → ((e : E) → P e → Q e) → IfErr r P → IfErr r Q
if_err P Q (Ok x) go h = h
if_err P Q (Err e) go h = go e h

-- ---- answers of a line

pub edit_stops : {A : Type 0} (S : Forest → List ℕ → Type 0) (D : Forest → Refusal → Type 0) (edit : Edit) (step : Step) (at : ℕ)
    (state : State) (r : Result A Refusal) → step ≡ steps.Change edit
    → IfErr r (λ e. (e ≡ refusals.NoMemory)
    ⊎ ((f : EditFault) × (edited edit state.tree ≡ Err f) × (e ≡ edit_refusal at f)))
    → IfErr r (λ e. (e ≡ refusals.NoMemory) ⊎ IsStopped S D at step state e)
edit_stops S D edit step at state (Ok x) is why = tt
edit_stops S D edit step at state (Err e) is why = stopped_edit S D edit step at state e is why

pub print_stops : {A : Type 0} (S : Forest → List ℕ → Type 0) (D : Forest → Refusal → Type 0) (step : Step) (at : ℕ)
    (state : State) (before : List ℕ) (r : Result A Refusal) → step ≡ steps.Print → before ≡ state.printed
    → IfErr r (λ e. (e ≡ refusals.NoMemory) ⊎ (D state.tree e
    ⊎ ((text : List ℕ) × S state.tree text × (printed_limit < length (before ++ text)) × (e ≡ too_much))))
    → IfErr r (λ e. (e ≡ refusals.NoMemory) ⊎ IsStopped S D at step state e)
print_stops S D step at state before (Ok x) is same why = tt
print_stops S D step at state before (Err e) is same why = stopped_print S D step at state before e is same why
