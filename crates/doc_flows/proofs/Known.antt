-- Want of memory is no reason why a document is refused.
use Rattle.std.proofs.Common.{◌≡◌, ℕ, suc, Bool, true, false, List, [], ◌∷◌, refl, ap, Option, Some, None, Result, Ok, Err, find, nat_lt}
use Rattle.std.specs.Prelude.{if◌then◌else◌}
use Rattle.mc_base.specs.declared.refusal.Found.{Found}
use Rattle.mc_base.specs.declared.refusal.Input.{Input}
use Rattle.mc_base.specs.declared.refusal.Input.TheVariants as inputs
use Rattle.mc_base.specs.declared.refusal.LimitName.TheVariants as limits
use Rattle.mc_base.specs.declared.refusal.Refusal.{Refusal}
use Rattle.mc_base.specs.declared.refusal.Refusal.TheVariants.{Grammar, Construct, Limit, NoMemory}
use Rattle.mc_base.specs.declared.read_error.Fault.{Fault}
use Rattle.html_grammar.specs.declared.dom.Attribute.{Attribute}
use Rattle.html_grammar.specs.declared.dom.Dom.{Dom}
use Rattle.html_grammar.specs.declared.dom.DomNode.{DomNode}
use Rattle.html_grammar.specs.declared.dom.NodeKind.{NodeKind}
use Rattle.html_grammar.specs.declared.dom.NodeKind.TheVariants as kinds
use Rattle.html_grammar.specs.Whole.{Reading, read_text, count_elements, within_limits, refused_or_within, dom_of}
use Rattle.css_data.specs.declared.rule.RawDeclaration.{RawDeclaration}
use Rattle.css_data.specs.declared.rule.Sheet.{Sheet}
use Rattle.css_tokens.specs.declared.lexeme.Fault.{Fault as StyleFault}
use Rattle.css_tokens.specs.declared.lexeme.Lexeme.{Lexeme}
use Rattle.css_tokens.specs.Lexing.{lexed}
use Rattle.css_syntax.specs.declared.rules.Rules.{Rules}
use Rattle.css_syntax.specs.Brackets.{sheet_fault, block_fault}
use Rattle.css_syntax.specs.Rules.{rules_of, first_escape}
use Rattle.css_syntax.specs.Sheets.{earlier, within_limit, sheet_by, sheet_or_fault, sheet_of, declarations_by, declarations_or_fault, declarations_in}
use Rattle.css_winner.specs.declared.setting.Setting.{Setting}
use Rattle.css_winner.specs.Own.{is_style, moved, settings_or, settings_by, kind_settings, own_settings}
use Rattle.doc_sheets.specs.declared.media.Media.{Media}
use Rattle.doc_sheets.specs.declared.own.OwnSheets.{OwnSheets}
use Rattle.doc_sheets.specs.declared.part.Part.{Part}
use Rattle.doc_sheets.specs.Parts.{refusal_at, part_by, text_part, words_part, words_in, style_part, media_of}
use Rattle.doc_sheets.specs.Own.{no_part, is_style as is_style_name, element_part, kind_part, checked, node_part, joined, own_from, own_of}
use Rattle.font_table.specs.declared.fonts.Face.{Face}
use Rattle.font_table.specs.Reading.{all_of}
use Rattle.box_data.specs.BoxTree.{or_else}
use Rattle.doc_flows.specs.Reading.{Read, found_in, construct_in, unless, with_faces, with_sheet, with_own, with_dom, read_of}

-- the answer isn't want of memory
abbrev pub IsKnown : {X : Type 0} → Result X Refusal → Type 0
IsKnown answer = answer ≡ Err NoMemory → ⊥

abbrev pub IsReason : Option Refusal → Type 0
IsReason refused = refused ≡ Some NoMemory → ⊥

-- ---- constructs

or_reason : (a b : Option Refusal) → IsReason a → IsReason b → IsReason (or_else a b)
or_reason None b x y e = y e
or_reason (Some a) b x y e = x e

found_reason : (input : Input) (found : Option Found) → IsReason (found_in input found)
found_reason input None e = absurd cc
found_reason input (Some found) e = absurd cc

-- ---- documents

dom_limits : (r : Reading) → IsKnown (within_limits r)
dom_limits r e = go (record { nodes = r.built.nodes; construct = r.construct }) (nat_lt 20000 (count_elements r.built.nodes)) (nat_lt 64 r.built.deepest) e
  where
    go : (dom : Dom) (many deep : Bool) → (if many then Err (Limit limits.Elements 20001 20000)
        else (if deep then Err (Limit limits.Depth 65 64) else Ok dom)) ≡ Err NoMemory → ⊥
    go dom true deep e = absurd cc
    go dom false true e = absurd cc
    go dom false false e = absurd cc

dom_by : (read : Result Reading Fault) → IsKnown (refused_or_within read)
dom_by (Ok r) e = dom_limits r e
dom_by (Err f) e = absurd cc

dom_known : (document : List ℕ) → IsKnown (dom_of document)
unfolding dom_of
dom_known document = dom_by (read_text document)

-- ---- sheets and style attributes

sheet_limit : (s : Rules) (escape : Option Found) → IsKnown (within_limit s escape)
sheet_limit s escape e = go (record { rules = s.rules; construct = earlier escape s.found }) (nat_lt 4000 s.count) e
  where
    go : (sheet : Sheet) (many : Bool) → (if many then Err (Limit limits.Rules 4001 4000) else Ok sheet) ≡ Err NoMemory → ⊥
    go sheet true e = absurd cc
    go sheet false e = absurd cc

sheet_fault_known : (fault : Option StyleFault) (xs : List Lexeme) → IsKnown (sheet_by fault xs)
sheet_fault_known None xs e = sheet_limit (rules_of xs) (first_escape xs) e
sheet_fault_known (Some f) xs e = absurd cc

sheet_by_known : (xs : Result (List Lexeme) StyleFault) → IsKnown (sheet_or_fault xs)
sheet_by_known (Ok xs) e = sheet_fault_known (sheet_fault xs) xs e
sheet_by_known (Err f) e = absurd cc

sheet_known : (text : List ℕ) → IsKnown (sheet_of text)
unfolding sheet_of
sheet_known text = sheet_by_known (lexed text)

style_fault_known : (fault : Option StyleFault) (xs : List Lexeme) → IsKnown (declarations_by fault xs)
style_fault_known None xs e = absurd cc
style_fault_known (Some f) xs e = absurd cc

style_by_known : (xs : Result (List Lexeme) StyleFault) → IsKnown (declarations_or_fault xs)
style_by_known (Ok xs) e = style_fault_known (block_fault xs) xs e
style_by_known (Err f) e = absurd cc

style_known : (text : List ℕ) → IsKnown (declarations_in text)
unfolding declarations_in
style_known text = style_by_known (lexed text)

moved_known : (at : ℕ) (r : Refusal) → (r ≡ NoMemory → ⊥) → moved at r ≡ NoMemory → ⊥
moved_known at (Grammar input offset rule) h e = absurd cc
moved_known at (Construct input offset name) h e = absurd cc
moved_known at (Limit name reached limit) h e = absurd cc
moved_known at NoMemory h e = h refl

settings_known : (at : ℕ) (read : Result (List RawDeclaration) Refusal) → IsKnown read → IsKnown (settings_or at read)
settings_known at (Ok declarations) h e = absurd cc
settings_known at (Err r) h e = moved_known at r (λ is. h (ap Err is)) cc

attribute_known : (a : Option Attribute) → IsKnown (settings_by a)
attribute_known None e = absurd cc
attribute_known (Some a) e = settings_known a.offset (declarations_in a.value) (style_known a.value) e

own_known : (kind : NodeKind) → IsKnown (kind_settings kind)
own_known (kinds.Element name attributes) e = attribute_known (find is_style attributes) e
own_known (kinds.Words text) e = absurd cc

-- ---- style elements

at_known : (document : List ℕ) (begins : ℕ) (r : Refusal) → (r ≡ NoMemory → ⊥) → refusal_at document begins r ≡ NoMemory → ⊥
at_known document begins (Grammar input offset rule) h e = absurd cc
at_known document begins (Construct input offset name) h e = absurd cc
at_known document begins (Limit name reached limit) h e = absurd cc
at_known document begins NoMemory h e = h refl

part_known : (document : List ℕ) (begins : ℕ) (media : Media) (sheet : Result Sheet Refusal) → IsKnown sheet
    → IsKnown (part_by document begins media sheet)
part_known document begins media (Ok sheet) h e = absurd cc
part_known document begins media (Err r) h e = at_known document begins r (λ is. h (ap Err is)) cc

text_known : (document : List ℕ) (begins : ℕ) (media : Media) (text : List ℕ) → IsKnown (text_part document begins media text)
text_known document begins media text = part_known document begins media (sheet_of text) (sheet_known text)

words_known : (document : List ℕ) (at begins : ℕ) (media : Media) (text : Option (List ℕ))
    → IsKnown (words_part document at begins media text)
words_known document at begins media None = text_known document at media []
words_known document at begins media (Some text) = text_known document begins media text

style_part_known : (document : List ℕ) (number at : ℕ) (media : Media) (after : List DomNode)
    → IsKnown (style_part document number at media after)
style_part_known document number at media [] = text_known document at media []
style_part_known document number at media (node ∷ nodes) = words_known document at node.offset media (words_in number node)

element_known : (document : List ℕ) (number at : ℕ) (name : List ℕ) (attributes : List Attribute) (after : List DomNode)
    → IsKnown (element_part document number at name attributes after)
element_known document number at name attributes after =
    go (style_part document number at (media_of attributes) after) (is_style_name name) (style_part_known document number at (media_of attributes) after)
  where
    go : (part : Result Part Refusal) (is : Bool) → IsKnown part → IsKnown (if is then part else Ok no_part)
    go part true h e = h e
    go part false h e = absurd cc

kind_known : (document : List ℕ) (number at : ℕ) (after : List DomNode) (kind : NodeKind)
    → IsKnown (kind_part document number at after kind)
kind_known document number at after (kinds.Element name attributes) e = element_known document number at name attributes after e
kind_known document number at after (kinds.Words text) e = absurd cc

checked_known : (own : Result (List Setting) Refusal) (part : Result Part Refusal) → IsKnown own → IsKnown part
    → IsKnown (checked own part)
checked_known (Ok settings) part x y e = y e
checked_known (Err r) part x y e = let is : r ≡ NoMemory = cc in x (ap Err is)

node_known : (document : List ℕ) (number : ℕ) (node : DomNode) (after : List DomNode) → IsKnown (node_part document number node after)
unfolding node_part
node_known document number node after =
    checked_known (own_settings node) (kind_part document number node.offset after node.kind) (own_known node.kind)
    (kind_known document number node.offset after node.kind)

joined_known : (part : Result Part Refusal) (rest : Result OwnSheets Refusal) → IsKnown part → IsKnown rest → IsKnown (joined part rest)
joined_known (Err r) rest x y e = let is : r ≡ NoMemory = cc in x (ap Err is)
joined_known (Ok part) (Err r) x y e = let is : r ≡ NoMemory = cc in y (ap Err is)
joined_known (Ok part) (Ok rest) x y e = absurd cc

sheets_known : (document : List ℕ) (number : ℕ) (nodes : List DomNode) → IsKnown (own_from document number nodes)
sheets_known document number [] e = absurd cc
sheets_known document number (node ∷ after) e =
    joined_known (node_part document number node after) (own_from document (suc number) after)
    (node_known document number node after) (sheets_known document (suc number) after) e

-- ---- all that is read

unless_known : (refused : Option Refusal) (r : Read) → IsReason refused → IsKnown (unless refused r)
unless_known None r h e = absurd cc
unless_known (Some refused) r h e = let is : refused ≡ NoMemory = cc in h (ap Some is)

construct_reason : (r : Read) → IsReason (construct_in r)
construct_reason r =
    let own = found_in inputs.Document r.own.construct in
    let author = found_in inputs.Sheet r.author.construct in
    or_reason (found_in inputs.Document r.dom.construct) (or_else own author) (found_reason inputs.Document r.dom.construct)
    (or_reason own author (found_reason inputs.Document r.own.construct) (found_reason inputs.Sheet r.author.construct))

faces_known : (dom : Dom) (own : OwnSheets) (author : Sheet) (faces : Result (List Face) Fault) → IsKnown (with_faces dom own author faces)
faces_known dom own author (Ok faces) e =
    let r : Read = record { dom = dom; own = own; author = author; faces = faces } in
    unless_known (construct_in r) r (construct_reason r) e
faces_known dom own author (Err f) e = absurd cc

author_known : (metrics : List ℕ) (dom : Dom) (own : OwnSheets) (author : Result Sheet Refusal) → IsKnown author
    → IsKnown (with_sheet metrics dom own author)
author_known metrics dom own (Ok author) h e = faces_known dom own author (all_of metrics) e
author_known metrics dom own (Err r) h e = let is : r ≡ NoMemory = cc in h (ap Err is)

with_own_known : (sheet metrics : List ℕ) (dom : Dom) (own : Result OwnSheets Refusal) → IsKnown own
    → IsKnown (with_own sheet metrics dom own)
with_own_known sheet metrics dom (Ok own) h e = author_known metrics dom own (sheet_of sheet) (sheet_known sheet) e
with_own_known sheet metrics dom (Err r) h e = let is : r ≡ NoMemory = cc in h (ap Err is)

with_dom_known : (document sheet metrics : List ℕ) (dom : Result Dom Refusal) → IsKnown dom → IsKnown (with_dom document sheet metrics dom)
with_dom_known document sheet metrics (Ok dom) h e =
    with_own_known sheet metrics dom (own_of document dom.nodes) (sheets_known document 0 dom.nodes) e
with_dom_known document sheet metrics (Err r) h e = let is : r ≡ NoMemory = cc in h (ap Err is)

pub reading_known : (document sheet metrics : List ℕ) → IsKnown (read_of document sheet metrics)
unfolding read_of
reading_known document sheet metrics = with_dom_known document sheet metrics (dom_of document) (dom_known document)
