-- Each flow of the rows of a flow file is sound.
use Rattle.std.proofs.Common.{◌≡◌, ℕ, suc, ◌+◌, ◌^◌, ◌≤◌, List, [], ◌∷◌, ◌++◌, length, Bool, true, false, Option, Some, None}
use Rattle.std.proofs.Common.{refl, sym, ap, arith, All}
use Rattle.std.specs.List.{AllByRecursion}
use Rattle.std.proofs.lemmas.List.Elements.{All-from_recursion, All-nil}
use Rattle.std.proofs.lemmas.List.{append-nil}
use Rattle.flow_text.specs.declared.line.Line.{Line}
use Rattle.flow_text.specs.declared.line.Form.TheVariants as forms
use Rattle.flow_text.specs.Grammar.{Rest, no_more, edge, place, atom, row, line, lines_of, IsRest, solid_of, FlowFile, IsFlowFile}
use Rattle.flow_text.specs.Grammar.{content_lines, IsContent, Numbered, StartsCloned, EndsCloned}
use Rattle.flow_text.specs.TreeLimits.{own_items, all_items, of_content, file_items}
use Rattle.flow_list.specs.Data.{BoxInfo, Flow, FlowsData, Plain}
use Rattle.flow_list.specs.FileFlows.{seams_behind, first_seam, row_count, items_from, row_flow, flows_from, boxes_from}
use Rattle.flow_list.specs.FileFlows.{content_flows, empty_flow, flows_of}
use Rattle.flow_data.specs.Soundness.{IsSoundAtom, IsSoundItem, IsSoundSeam, IsSoundFlow}
use Rattle.flow_list.proofs.FileKnown.{boxes_of_lines, boxes_after, Known, past_line, past_row, boxes_of_rest}
use Rattle.flow_list.proofs.FileLimits.{IsLow, IsLowContent}
use Rattle.flow_list.proofs.FileNested.{row_nested, row_boxes}
use Rattle.flow_list.proofs.FileNests.{length-items}
use Rattle.flow_list.proofs.FilePlaces.{length-rows}
use Rattle.flow_list.proofs.FileSeams.{row_seams}
use Rattle.flow_list.proofs.OuterFlow.{empty_seam, all_from_one}

-- ---- items

plain_atom : (d : FlowsData) (height : ℕ) → height ≤ 2 ^ 24 → IsSoundAtom d height Plain
plain_atom d height low = record {
  height_limit = low;
  owners = All-nil _;
  x_limit = omega arith;
  w_limit = omega arith;
  stack = tt;
}

sound_items : (d : FlowsData) (rest : Rest) (k : ℕ) → IsLow rest → k + row_count rest ≤ length d.rows
    → AllByRecursion (IsSoundItem d) (items_from k rest)
sound_items d no_more k low rows = tt
sound_items d (edge l rest) k low rows = sound_items d rest k low.1 rows
sound_items d (place at level rest) k low rows = sound_items d rest k low rows
sound_items d (atom at height rest) k low rows = (plain_atom d height low.0, sound_items d rest k low.1 rows)
sound_items d (row at n w step x content ended rest) k low rows =
    (omega arith, sound_items d rest (suc k + row_count content) low.6 (omega arith))

seam_count : (rest : Rest) → length (seams_behind rest) ≡ own_items rest
seam_count no_more = refl
seam_count (edge l rest) = seam_count rest
seam_count (place at level rest) = seam_count rest
seam_count (atom at height rest) = ap (λ (n : ℕ). suc n) (seam_count rest)
seam_count (row at n w step x content ended rest) = ap (λ (n : ℕ). suc n) (seam_count rest)

own-all : (rest : Rest) → own_items rest ≤ all_items rest
own-all no_more = omega arith
own-all (edge l rest) = own-all rest
own-all (place at level rest) = own-all rest
own-all (atom at height rest) = let le = own-all rest in omega arith
own-all (row at n w step x content ended rest) = let le = own-all rest in omega arith

-- ---- flows

row_sound : (d : FlowsData) (boxes : List BoxInfo) (before : Option ℕ) (content : Rest) (after : List Line) (k : ℕ)
    → Known d boxes before (lines_of content after) → IsRest false [] content →
    IsLow content → k + row_count content ≤ length d.rows → all_items content ≤ 100000 → IsSoundFlow d (row_flow k content)
row_sound d boxes before content after k known is low rows few =
    let own = length-items content k in
    let seams = seam_count content in
    let less = own-all content in
    let one_more : length (row_flow k content).seams ≡ length (row_flow k content).items + 1 = omega arith in
    let in_order = row_boxes d boxes before content after k known is one_more in
    record {
      count = omega arith;
      items = All-from_recursion (IsSoundItem d) (items_from k content) (sound_items d content k low rows);
      seam_count = one_more;
      seams = All-from_recursion (IsSoundSeam d) (first_seam content ∷ seams_behind content)
          (row_seams d boxes before content after known is);
      boxes = in_order.boxes;
      distinct = in_order.distinct;
      nested = row_nested k content is;
      filled = in_order.filled;
    }

all_on : (P : Flow → Type 0) (xs ys : List Flow) → AllByRecursion P xs → AllByRecursion P ys → AllByRecursion P (xs ++ ys)
all_on P [] ys h k = k
all_on P (x ∷ xs) ys h k = (h.0, all_on P xs ys h.1 k)

flows_sound : (d : FlowsData) (boxes : List BoxInfo) (before : Option ℕ) (rest : Rest) (after : List Line) (k : ℕ)
    (in_tail : Bool) (opened : List ℕ) → Known d boxes before (lines_of rest after) → IsRest in_tail opened rest →
    IsLow rest → k + row_count rest ≤ length d.rows → all_items rest ≤ 100000 → AllByRecursion (IsSoundFlow d) (flows_from k rest)
flows_sound d boxes before no_more after k in_tail opened known is low rows few = tt
flows_sound d boxes before (edge l rest) after k in_tail opened known is low rows few =
    flows_sound d (boxes_after boxes l.form) (solid_of l.form) rest after k in_tail is.0
    (past_line d boxes before l.at l.form (lines_of rest after) known) is.2 low.1 rows few
flows_sound d boxes before (place at level rest) after k in_tail opened known is low rows few =
    flows_sound d boxes None rest after k false opened
    (past_line d boxes before at (forms.Break level) (lines_of rest after) known) is.1 low rows few
flows_sound d boxes before (atom at height rest) after k in_tail opened known is low rows few =
    flows_sound d boxes None rest after k true opened
    (past_line d boxes before at (forms.Atom height) (lines_of rest after) known) is.1 low.1 rows (omega arith)
flows_sound d boxes before (row at n w step x content ended rest) after k in_tail opened known is low rows few =
    let behind : List Line = line ended forms.Close ∷ lines_of rest after in
    let inside = past_line d boxes before at (forms.Row n w step x) (lines_of content behind) known in
    let p = past_row d boxes before at n w step x content ended (lines_of rest after) known in
    all_on (IsSoundFlow d) (row_flow (suc k) content ∷ flows_from (suc k) content) (flows_from (suc k + row_count content) rest) (
      row_sound d boxes None content behind (suc k) inside is.1 low.5 (omega arith) (omega arith),
      flows_sound d boxes None content behind (suc k) false [] inside is.1 low.5 (omega arith) (omega arith),
    )
    (flows_sound d p.0 None rest after (suc k + row_count content) true opened p.2 is.2 low.6 (omega arith) (omega arith))

empty_sound : (d : FlowsData) → IsSoundFlow d empty_flow
empty_sound d = record {
  count = omega arith;
  items = All-nil _;
  seam_count = refl;
  seams = all_from_one (IsSoundSeam d) _ (empty_seam d);
  boxes = All-nil _;
  distinct = λ i j b below lt. absurd (omega arith);
  nested = tt;
  filled = All-nil _;
}

of_content_sound : (file : FlowFile) (content : Option Rest) → file.content ≡ content → IsContent content → IsLowContent content
    → of_content all_items content ≤ 100000 → (lines : List Line) → Numbered 0 (content_lines content lines)
    → StartsCloned (content_lines content lines) → EndsCloned [] None (content_lines content lines) →
    boxes_of_lines lines ≡ [] → AllByRecursion (IsSoundFlow (flows_of file)) (content_flows content)
of_content_sound file None same is low few lines numbered starts ends none = (empty_sound (flows_of file), tt)
of_content_sound file (Some rest) same is low few lines numbered starts ends none =
    let d : FlowsData = flows_of file in
    let whole : d.boxes ≡ boxes_of_lines (lines_of rest lines) =
    rw (same, boxes_of_rest rest lines, none) (sym (append-nil (boxes_from rest))) in
    let known : Known d [] None (lines_of rest lines) =
    record { whole = whole; numbered = numbered; starts = starts; ends = ends } in
    let rows : length d.rows ≡ suc (row_count rest) = rw same (ap (λ (n : ℕ). suc n) (length-rows rest 1)) in (
      row_sound d [] None rest lines 1 known is low (omega arith) few,
      flows_sound d [] None rest lines 1 false [] known is low (omega arith) few,
    )

pub content_flows_sound : (file : FlowFile) (lines : List Line) → IsFlowFile lines file → IsLowContent file.content
    → file_items file ≤ 100000 → AllByRecursion (IsSoundFlow (flows_of file)) (content_flows file.content)
content_flows_sound file lines is low few =
    let end : List Line = line file.ended forms.Close ∷ [] in
    let numbered = rw is.whole at is.numbered in
    let starts = rw is.whole at is.starts in
    let ends = rw is.whole at is.ends in
    of_content_sound file file.content refl is.content low few end numbered.1.1 starts.1.1 ends.1.1 refl

pub content_flows_all : (file : FlowFile) (lines : List Line) → IsFlowFile lines file → IsLowContent file.content
    → file_items file ≤ 100000 → All (IsSoundFlow (flows_of file)) (content_flows file.content)
content_flows_all file lines is low few =
    All-from_recursion (IsSoundFlow (flows_of file)) (content_flows file.content) (content_flows_sound file lines is low few)
